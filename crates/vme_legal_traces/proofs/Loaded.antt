-- The lanes of the cycles of a lawful transfer carry the bytes of its data.
use Rattle.std.proofs.Common.{◌≡◌, ℕ, zero, suc, ◌%◌, ◌<◌, ◌==◌, Bool, true, false, ◌&&◌, if◌then◌else◌, List, [], ◌∷◌, length, Option, Some, None, is_none, refl, ap, sym, subst, ◌∙◌, arith, inl, inr, ◌⊎◌}
use Rattle.std.specs.Option.{option_map_or, option_and_then}
use Rattle.std.proofs.lemmas.Bool.{eq-eqb, eqb-true, and_parts}
use Rattle.std.proofs.lemmas.Option.{same_Some}
use Rattle.vme_lanes.specs.declared.location.Location.{Location}
use Rattle.vme_lanes.specs.declared.location.Location.TheVariants.{Byte0, Byte1, Byte2, Byte3, Bytes01, Bytes23, Bytes03, Bytes02, Bytes13, Bytes12}
use Rattle.vme_lanes.specs.declared.location.Strobes.{Strobes}
use Rattle.vme_lanes.specs.Rows.{row_of, location_sensed}
use Rattle.vme_lanes.proofs.lemmas.Tables.{own_sensed}
use Rattle.vme_cycle.specs.declared.modify.Modify.{Modify}
use Rattle.vme_cycle.specs.declared.modify.Modify.TheVariants.{Set, Exchange, Add, Compare}
use Rattle.vme_cycle.specs.declared.request.Request.{Request}
use Rattle.vme_cycle.specs.declared.request.Request.TheVariants as requests
use Rattle.vme_cycle.specs.Functions.{value, has_len}
use Rattle.std.specs.Str.{bytes_eq}
use Rattle.vme_cycle.proofs.lemmas.Sums.{length-sum_of}
use Rattle.vme_memory.specs.declared.reply.Reply.{Reply}
use Rattle.vme_memory.specs.declared.reply.Reply.TheVariants.{Bytes, Done, Berr}
use Rattle.vme_memory.specs.Data.{datum_reply_len, has_form}
use Rattle.vme_cycle.specs.Requests.{datum_len, count_of, datum_of, address_of}
use Rattle.vme_cycle.specs.Lawful as cycles
use Rattle.vme_cycle.specs.Lawful.{IsLawfulTransfer}
use Rattle.vme_cycle.specs.SignalLines.{SignalLines, len_with, chosen_len, row_len, placed_lanes, answered_lines}
use Rattle.vme_cycle.specs.Plans.{own_location, driven_lanes, signals_of}
use Rattle.vme_cycle.proofs.lemmas.Transfers.{lawful_parts, own_row}
use Rattle.vme_protocol.specs.Lines.{lanes_of}
use Rattle.std.specs.Prelude.{bit_and}
use Rattle.vme_trace.specs.Bus.{lower_lanes}
use Rattle.vme_trace.specs.Handshakes.{is_data_len, is_berr, answered, lines_after, half_by}
use Rattle.vme_legal_traces.specs.Samples.{free_lanes}
use Rattle.vme_legal_traces.proofs.Located.{later_block, level_for, same_level}
use Rattle.vme_legal_traces.proofs.Fitting.{block_len, block_aligned}
use Rattle.vme_legal_traces.proofs.Covered.{Covers, placed_covers, datum_bytes}

-- the lanes that the master drives in a write cover the location of its datum
pub write_covers : (t : cycles.Transfer) (i : ℕ) (bytes : List ℕ) → IsLawfulTransfer t → i < count_of t.request → datum_of t.request i ≡ Some bytes
    → Covers t.am.wide (own_location t i) (signals_of t i).lanes
unfolding signals_of
write_covers t i bytes lawful less is =
    let parts = lawful_parts t lawful in
    subst (λ (found : Option (List ℕ)). Covers t.am.wide (own_location t i) (driven_lanes t.am.wide (own_location t i) found)) (sym is)
    (placed_covers t.am.wide (own_location t i) bytes (datum_len t.request) (own_row t i parts less).1
    (datum_bytes t.request i bytes parts.counted less is))

-- a location that strobes select, with the lanes and the number of bytes of another
abbrev Senses : Strobes → Location → Type 0
Senses strobes own = (l : Location) × (location_sensed strobes ≡ Some l) × (lanes_of l ≡ lanes_of own) × ((row_of l).len ≡ (row_of own).len)

-- where LWORD* is high, any level of A01 selects some bytes
moved_sensed : (own : Location) (a01 : Bool) → (row_of own).strobes.lword ≡ true → Senses (record (row_of own).strobes { a01 = a01 }) own
unfolding location_sensed
moved_sensed Byte0 true high = (Byte2, refl, refl, refl)
moved_sensed Byte0 false high = (Byte0, refl, refl, refl)
moved_sensed Byte1 true high = (Byte3, refl, refl, refl)
moved_sensed Byte1 false high = (Byte1, refl, refl, refl)
moved_sensed Byte2 true high = (Byte2, refl, refl, refl)
moved_sensed Byte2 false high = (Byte0, refl, refl, refl)
moved_sensed Byte3 true high = (Byte3, refl, refl, refl)
moved_sensed Byte3 false high = (Byte1, refl, refl, refl)
moved_sensed Bytes01 true high = (Bytes23, refl, refl, refl)
moved_sensed Bytes01 false high = (Bytes01, refl, refl, refl)
moved_sensed Bytes23 true high = (Bytes23, refl, refl, refl)
moved_sensed Bytes23 false high = (Bytes01, refl, refl, refl)
moved_sensed Bytes03 a01 high = absurd cc
moved_sensed Bytes02 a01 high = absurd cc
moved_sensed Bytes13 a01 high = absurd cc
moved_sensed Bytes12 a01 high = absurd cc

-- LWORD* of one byte, and of two at an even address
few_high : (l : Location) → ((row_of l).len ≡ 1) ⊎ (((row_of l).len ≡ 2) × ((row_of l).first % 2 ≡ 0)) → (row_of l).strobes.lword ≡ true
few_high Byte0 h = refl
few_high Byte1 h = refl
few_high Byte2 h = refl
few_high Byte3 h = refl
few_high Bytes01 h = refl
few_high Bytes23 h = refl
few_high Bytes03 (inl h) = absurd (omega (arith, h))
few_high Bytes03 (inr h) = let two = h.0 in absurd (omega (arith, two))
few_high Bytes02 (inl h) = absurd (omega (arith, h))
few_high Bytes02 (inr h) = let two = h.0 in absurd (omega (arith, two))
few_high Bytes13 (inl h) = absurd (omega (arith, h))
few_high Bytes13 (inr h) = let two = h.0 in absurd (omega (arith, two))
few_high Bytes12 (inl h) = absurd (omega (arith, h))
few_high Bytes12 (inr h) = let even = h.1 in absurd (omega (arith, even))

-- the location of four bytes
four_is : (l : Location) → (row_of l).len ≡ 4 → l ≡ Bytes03
four_is Byte0 h = absurd (omega (arith, h))
four_is Byte1 h = absurd (omega (arith, h))
four_is Byte2 h = absurd (omega (arith, h))
four_is Byte3 h = absurd (omega (arith, h))
four_is Bytes01 h = absurd (omega (arith, h))
four_is Bytes23 h = absurd (omega (arith, h))
four_is Bytes03 h = refl
four_is Bytes02 h = absurd (omega (arith, h))
four_is Bytes13 h = absurd (omega (arith, h))
four_is Bytes12 h = absurd (omega (arith, h))

-- the strobes of a datum whose LWORD* is that of the first
abbrev shown_with : Location → Location → Strobes
shown_with first own = record {
  ds1 = (row_of own).strobes.ds1;
  ds0 = (row_of own).strobes.ds0;
  a01 = (row_of first).strobes.a01;
  lword = (row_of first).strobes.lword;
}

-- by high levels of LWORD*
high_senses : (first own : Location) → (row_of first).strobes.lword ≡ true → (row_of own).strobes.lword ≡ true → Senses (shown_with first own) own
high_senses first own one two =
    subst (λ (b : Bool). Senses (record {
      ds1 = (row_of own).strobes.ds1;
      ds0 = (row_of own).strobes.ds0;
      a01 = (row_of first).strobes.a01;
      lword = b;
    }) own) (two ∙ sym one) (moved_sensed own (row_of first).strobes.a01 two)

-- by the same location
same_senses : (first own : Location) → first ≡ own → Senses (shown_with first own) own
same_senses first own same = subst (λ (x : Location). Senses (shown_with x own) own) (sym same) (own, own_sensed own, refl, refl)

-- the location of eight-byte data is that of four bytes
quad : (wide : Bool) (l : Location) (n : ℕ) → wide ≡ true → chosen_len wide l ≡ Some n → (row_of l).len ≡ 4
quad false l n is chosen = absurd cc
quad true l n is chosen = by_four ((row_of l).len == 4) refl chosen
  where
    by_four : (four : Bool) → ((row_of l).len == 4) ≡ four → (if four then Some 8 else None) ≡ Some n → (row_of l).len ≡ 4
    by_four true four chosen = eqb-true (row_of l).len 4 four
    by_four false four chosen = absurd (cc chosen)

-- locations of as many bytes have one length
equal_len : (wide : Bool) (a b : Location) (n : ℕ) → chosen_len wide a ≡ Some n → chosen_len wide b ≡ Some n → (row_of a).len ≡ (row_of b).len
equal_len true a b n one two = quad true a n refl one ∙ sym (quad true b n refl two)
equal_len false a b n one two = same_Some _ _ (one ∙ sym two)

-- the strobes of each datum select its lanes, also where A01 is that of the first
pub datum_senses : (t : cycles.Transfer) (i : ℕ) → IsLawfulTransfer t → i < count_of t.request → Senses (signals_of t i).strobes (own_location t i)
unfolding signals_of
datum_senses t zero lawful less = same_senses (own_location t 0) (own_location t 0) refl
datum_senses t (suc i) lawful less =
    let parts = lawful_parts t lawful in
    let block = later_block t.request i less in
    let some : 0 < count_of t.request = omega (arith, less) in
    let first = own_location t 0 in
    let own = own_location t (suc i) in
    let first_row = own_row t 0 parts some in
    let own_row' = own_row t (suc i) parts less in
    let lens : (row_of first).len ≡ (row_of own).len = equal_len t.am.wide first own (datum_len t.request) first_row.1 own_row'.1 in
    by_len (address_of t.request 0) (address_of t.request (suc i)) (datum_len t.request) t.am.wide (block_len t lawful block (suc i) less) first own lens first_row.1 first_row.0 own_row'.0 (block_aligned t lawful block 0 some)
    (block_aligned t lawful block (suc i) less)
  where
    narrow : (wide : Bool) (l : Location) (n m : ℕ) → wide ≡ false → n ≡ m → chosen_len wide l ≡ Some n → (row_of l).len ≡ m
    narrow false l n m is same chosen = same_Some _ _ chosen ∙ same
    narrow true l n m is same chosen = absurd cc

    by_len : (a b n : ℕ) (wide : Bool) → ((wide ≡ false) × (n ≡ 1)) ⊎ (((wide ≡ false) × (n ≡ 2)) ⊎ (((wide ≡ false) × (n ≡ 4)) ⊎ ((wide ≡ true) × (n ≡ 8))))
        → (first own : Location) → (row_of first).len ≡ (row_of own).len → chosen_len wide first ≡ Some n → (row_of first).first ≡ a % 4
        → (row_of own).first ≡ b % 4 → a % n ≡ 0 → b % n ≡ 0 → Senses (shown_with first own) own
    by_len a b n wide (inl one) first own lens chosen at at' whole whole' =
        let len = narrow wide first n 1 one.0 one.1 chosen in high_senses first own (few_high first (inl len)) (few_high own (inl (sym lens ∙ len)))
    by_len a b n wide (inr (inl two)) first own lens chosen at at' whole whole' =
        let len = narrow wide first n 2 two.0 two.1 chosen in
        let even : a % 2 ≡ 0 = subst (λ (m : ℕ). a % m ≡ 0) two.1 whole in
        let even' : b % 2 ≡ 0 = subst (λ (m : ℕ). b % m ≡ 0) two.1 whole' in
        high_senses first own (few_high first (inr (len, omega (arith, at, even)))) (few_high own (inr (sym lens ∙ len, omega (arith, at', even'))))
    by_len a b n wide (inr (inr (inl four))) first own lens chosen at at' whole whole' =
        let len = narrow wide first n 4 four.0 four.1 chosen in same_senses first own (four_is first len ∙ sym (four_is own (sym lens ∙ len)))
    by_len a b n wide (inr (inr (inr eight))) first own lens chosen at at' whole whole' =
        let len = quad wide first n eight.0 chosen in same_senses first own (four_is first len ∙ sym (four_is own (sym lens ∙ len)))

-- other lanes of the same number that count alike
covers_like : (wide : Bool) (l own : Location) (lanes : List (Option ℕ)) → lanes_of l ≡ lanes_of own → Covers wide l lanes → Covers wide own lanes
covers_like true l own lanes same covers = covers
covers_like false l own lanes same covers = (covers.0, ap (λ (set : ℕ). bit_and set (free_lanes (lower_lanes lanes))) (sym same) ∙ covers.1)

-- a board's reply to a read puts its bytes there
pub read_covers : (t : cycles.Transfer) (i : ℕ) (bytes : List ℕ) → IsLawfulTransfer t → i < count_of t.request → length bytes ≡ datum_len t.request
    → Covers t.am.wide (own_location t i) (answered (signals_of t i) bytes).lanes
unfolding signals_of
read_covers t i bytes lawful less len =
    let parts = lawful_parts t lawful in
    let own = own_location t i in
    let s = signals_of t i in
    let sensed = datum_senses t i lawful less in
    let chosen : chosen_len t.am.wide sensed.0 ≡ Some (datum_len t.request)
    = ap (len_with t.am.wide) sensed.3 ∙ (own_row t i parts less).1 in
    let long : row_len t.am.wide s.strobes ≡ Some (datum_len t.request) = ap (option_and_then (chosen_len t.am.wide)) sensed.1 ∙ chosen in
    let is_data : is_data_len s bytes ≡ true
    = ap (λ (found : Option ℕ). option_map_or (λ len. length bytes == len) found false) long ∙ eq-eqb (length bytes) (datum_len t.request) len in
    let lanes : (answered s bytes).lanes ≡ placed_lanes t.am.wide sensed.0 bytes
    = ap (λ (b : Bool). (if b then answered_lines s bytes else s).lanes) is_data
    ∙ ap (λ (found : Option Location). option_map_or (λ l. placed_lanes t.am.wide l bytes) found s.lanes) sensed.1 in
    subst (λ (x : List (Option ℕ)). Covers t.am.wide own x) (sym lanes)
    (covers_like t.am.wide sensed.0 own (placed_lanes t.am.wide sensed.0 bytes) sensed.2
    (placed_covers t.am.wide sensed.0 bytes (datum_len t.request) chosen len))

-- the form of a reply to a datum: bytes for a read
pub form_of : (request : Request) (i : ℕ) → datum_reply_len request ≡ (if is_none (datum_of request i) then Some (datum_len request) else None)
form_of (requests.Read am addr n) i = refl
form_of (requests.Write am addr bytes) i = refl
form_of (requests.BlockRead am addr n count) i = refl
form_of (requests.BlockWrite am addr n bytes) i = refl
form_of (requests.BlockFill am addr n count bytes) i = refl
form_of (requests.Modify am addr n f) i = refl

-- the lanes of a handshake carry the bytes of a datum, or BERR* answers a read
abbrev pub IsLoaded : cycles.Transfer → ℕ → List (Option ℕ) → Bool → Type 0
IsLoaded t i lanes berr = Covers t.am.wide (own_location t i) lanes ⊎ ((level_for t ≡ true) × (berr ≡ true))

-- they do at the answer to a datum
pub loaded : (t : cycles.Transfer) (i : ℕ) (reply : Reply) → IsLawfulTransfer t → i < count_of t.request → has_form (datum_reply_len t.request) reply ≡ true
    → IsLoaded t i (lines_after (signals_of t i) reply).lanes (is_berr reply)
loaded t i reply lawful less form = by_datum (datum_of t.request i) refl
  where
    written : (bytes : List ℕ) → datum_of t.request i ≡ Some bytes → (r : Reply) → has_form None r ≡ true
        → IsLoaded t i (lines_after (signals_of t i) r).lanes (is_berr r)
    written bytes is (Bytes datum) h = absurd (cc h)
    written bytes is Done h = inl (write_covers t i bytes lawful less is)
    written bytes is Berr h = inl (write_covers t i bytes lawful less is)

    read : datum_of t.request i ≡ None → (r : Reply) → has_form (Some (datum_len t.request)) r ≡ true
        → IsLoaded t i (lines_after (signals_of t i) r).lanes (is_berr r)
    read is (Bytes datum) h = inl (read_covers t i datum.items lawful less (eqb-true _ _ h))
    read is Done h = absurd (cc h)
    read is Berr h = inr (sym (same_level t.request i) ∙ ap (λ (found : Option (List ℕ)). is_none found) is, refl)

    by_datum : (found : Option (List ℕ)) → datum_of t.request i ≡ found → IsLoaded t i (lines_after (signals_of t i) reply).lanes (is_berr reply)
    by_datum None is =
        read is reply (ap (λ (found : Option (List ℕ)). has_form (if is_none found then Some (datum_len t.request) else None) reply) (sym is)
        ∙ ap (λ (wanted : Option ℕ). has_form wanted reply) (sym (form_of t.request i)) ∙ form)
    by_datum (Some bytes) is =
        written bytes is reply (ap (λ (found : Option (List ℕ)). has_form (if is_none found then Some (datum_len t.request) else None) reply) (sym is)
        ∙ ap (λ (wanted : Option ℕ). has_form wanted reply) (sym (form_of t.request i)) ∙ form)

-- the bytes that a function writes are as many as it found
modified_len : (f : Modify) (old : List ℕ) → has_len f (length old) ≡ true → length (value f old) ≡ length old
modified_len Set [] has = refl
modified_len Set (byte ∷ old) has = refl
modified_len (Exchange put) old has = eqb-true _ _ has
modified_len (Add by) old has = length-sum_of old by.items
modified_len (Compare expect put) old has = by_equal (bytes_eq old expect.items)
  where
    by_equal : (same : Bool) → length (if same then put.items else old) ≡ length old
    by_equal true = eqb-true _ _ (and_parts _ _ has).1
    by_equal false = refl

-- so the lanes of the write half of a read-modify-write carry the bytes of its datum
pub half_covers : (t : cycles.Transfer) (f : Modify) (reply : Reply) (half : SignalLines) → IsLawfulTransfer t → 0 < count_of t.request
    → has_form (Some (datum_len t.request)) reply ≡ true → half_by (signals_of t 0) (Some f) reply ≡ Some half
    → Covers t.am.wide (own_location t 0) half.lanes
half_covers t f Done half lawful less form is = absurd (cc is)
half_covers t f Berr half lawful less form is = absurd (cc is)
half_covers t f (Bytes old) half lawful less form is = by_len (is_data_len (signals_of t 0) old.items) (has_len f (length old.items)) refl refl is
  where
    by_len : (fits has : Bool) → is_data_len (signals_of t 0) old.items ≡ fits → has_len f (length old.items) ≡ has
        → (if fits && has then Some (record (answered_lines (signals_of t 0) (value f old.items)) { write = false }) else None) ≡ Some half
        → Covers t.am.wide (own_location t 0) half.lanes
    by_len true true fits has is =
        let len = modified_len f old.items has in
        let fits' : is_data_len (signals_of t 0) (value f old.items) ≡ true
        = ap (λ (n : ℕ). option_map_or (λ wanted. n == wanted) (row_len (signals_of t 0).am.wide (signals_of t 0).strobes) false) len ∙ fits in
        let whole = read_covers t 0 (value f old.items) lawful less (len ∙ eqb-true _ _ form) in
        subst (λ (x : SignalLines). Covers t.am.wide (own_location t 0) x.lanes) (same_Some _ _ is)
        (subst (λ (b : Bool). Covers t.am.wide (own_location t 0) (if b then answered_lines (signals_of t 0) (value f old.items) else signals_of t 0).lanes) fits'
        whole)
    by_len true false fits has is = absurd (cc is)
    by_len false has fits has' is = absurd (cc is)

-- the code of the write half of a read-modify-write, and its level
pub half_lines : (s : SignalLines) (f : Option Modify) (reply : Reply) (half : SignalLines) → half_by s f reply ≡ Some half
    → (half.am ≡ s.am) × (half.write ≡ false)
half_lines s (Some f) (Bytes old) half is = by_len (is_data_len s old.items && has_len f (length old.items)) is
  where
    by_len : (fits : Bool) → (if fits then Some (record (answered_lines s (value f old.items)) { write = false }) else None) ≡ Some half
        → (half.am ≡ s.am) × (half.write ≡ false)
    by_len true is = (ap (λ (x : SignalLines). x.am) (sym (same_Some _ _ is)), ap (λ (x : SignalLines). x.write) (sym (same_Some _ _ is)))
    by_len false is = absurd (cc is)
half_lines s None (Bytes old) half is = absurd (cc is)
half_lines s (Some f) Done half is = absurd (cc is)
half_lines s None Done half is = absurd (cc is)
half_lines s (Some f) Berr half is = absurd (cc is)
half_lines s None Berr half is = absurd (cc is)
