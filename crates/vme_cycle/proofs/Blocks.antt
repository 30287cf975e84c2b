-- The locations of the data of a transfer, and what a slave that increments the address senses.
use Rattle.std.proofs.Common.{◌≡◌, ℕ, ◌+◌, ◌*◌, ◌-◌, ◌%◌, ◌<◌, ◌⊎◌, zero, suc, Bool, true, false, not, Option, None, Some, is_none, option_map, refl, ap, sym, subst, ◌∙◌, arith, inl, inr}
use Rattle.std.specs.Option.{option_and_then}
use Rattle.std.specs.Prelude.{◌==◌, nat_le, if◌then◌else◌}
use Rattle.std.proofs.lemmas.Bool.{cases_Bool, eqb-true}
use Rattle.vme_lanes.specs.declared.location.Location.{Location}
use Rattle.vme_lanes.specs.declared.location.Location.TheVariants.{Byte0, Byte1, Byte2, Byte3, Bytes01, Bytes23, Bytes03}
use Rattle.vme_lanes.specs.declared.location.Strobes.{Strobes}
use Rattle.vme_lanes.specs.Rows.{row_of, location_at, location_sensed}
use Rattle.vme_lanes.proofs.lemmas.Tables.{own_sensed, found_row}
use Rattle.vme_am.specs.Codes.{CodeRow}
use Rattle.vme_am.specs.Kinds.{is_block}
use Rattle.vme_cycle.specs.declared.request.Request.{Request}
use Rattle.vme_cycle.specs.Counts.{is_wide_len, is_datum_len, is_wide_code}
use Rattle.vme_cycle.specs.Requests.{code_of, addr_of, datum_len, count_of, is_block_request, address_of}
use Rattle.vme_cycle.specs.Lawful.{location_for, first_location}
use Rattle.vme_cycle.specs.SignalLines.{SignalLines, chosen_len, row_len, first_byte, sensed_at}
use Rattle.vme_cycle.specs.Plans.{shown_strobes}
use Rattle.vme_cycle.specs.Parts.{IsLawful}
use Rattle.vme_cycle.proofs.Lawful.{datum_lens, datum_few, few_len, block_datum, single}

-- a location has the n bytes that begin at an address
pub record IsAt (addr n : ℕ) (l : Location) : Type 0 where
  pub found : location_for addr n ≡ Some l
  pub first : (row_of l).first ≡ addr % 4
  pub len : chosen_len (is_wide_len n) l ≡ Some n

-- a location has the n bytes that begin at an address, and the levels of LWORD* and A01 of a datum of a block
pub record IsBlockRow (addr n : ℕ) (l : Location) : Type 0 where
  pub at : IsAt addr n l
  pub lword : (row_of l).strobes.lword ≡ nat_le n 2
  pub quad : (row_of l).strobes.lword ≡ not ((row_of l).len == 4)
  pub a01 : (row_of l).strobes.a01 ≡ nat_le 2 (addr % 4)

-- a number below four is 0, 1, 2 or 3
residues : (r : ℕ) → r < 4 → (r ≡ 0) ⊎ ((r ≡ 1) ⊎ ((r ≡ 2) ⊎ (r ≡ 3)))
residues zero less = inl refl
residues (suc zero) less = inr (inl refl)
residues (suc (suc zero)) less = inr (inr (inl refl))
residues (suc (suc (suc zero))) less = inr (inr (inr refl))
residues (suc (suc (suc (suc r)))) less = absurd (omega (arith, less))

-- one byte at any address has a block row
one_byte : (addr r : ℕ) → addr % 4 ≡ r → r < 4 → (l : Location) × IsBlockRow addr 1 l
unfolding location_at
one_byte addr r at less =
    elim (residues r less) [
      | inl zero' ↦ (Byte0, record { at = record { found = rw (at, zero') refl; first = sym (at ∙ zero'); len = refl }; lword = refl; quad = refl; a01 = rw (at, zero') refl })
      | inr more ↦ elim more [
        | inl one ↦ (Byte1, record { at = record { found = rw (at, one) refl; first = sym (at ∙ one); len = refl }; lword = refl; quad = refl; a01 = rw (at, one) refl })
        | inr rest ↦ elim rest [
          | inl two ↦ (Byte2, record { at = record { found = rw (at, two) refl; first = sym (at ∙ two); len = refl }; lword = refl; quad = refl; a01 = rw (at, two) refl })
          | inr three ↦ (Byte3, record { at = record { found = rw (at, three) refl; first = sym (at ∙ three); len = refl }; lword = refl; quad = refl; a01 = rw (at, three) refl })
        ]
      ]
    ]

-- two bytes at an even address have a block row
two_bytes : (addr r : ℕ) → addr % 4 ≡ r → r < 4 → addr % 2 ≡ 0 → (l : Location) × IsBlockRow addr 2 l
unfolding location_at
two_bytes addr r at less even =
    elim (residues r less) [
      | inl zero' ↦ (Bytes01, record { at = record { found = rw (at, zero') refl; first = sym (at ∙ zero'); len = refl }; lword = refl; quad = refl; a01 = rw (at, zero') refl })
      | inr more ↦ elim more [
        | inl one ↦ absurd (omega (arith, at, one, even))
        | inr rest ↦ elim rest [
          | inl two ↦ (Bytes23, record { at = record { found = rw (at, two) refl; first = sym (at ∙ two); len = refl }; lword = refl; quad = refl; a01 = rw (at, two) refl })
          | inr three ↦ absurd (omega (arith, at, three, even))
        ]
      ]
    ]

-- four bytes at a multiple of four have a block row
four_bytes : (addr : ℕ) → addr % 4 ≡ 0 → (l : Location) × IsBlockRow addr 4 l
unfolding location_at
four_bytes addr at = (Bytes03, record { at = record { found = rw at refl; first = sym at; len = refl }; lword = refl; quad = refl; a01 = rw at refl })

-- eight bytes at a multiple of four have a block row
eight_bytes : (addr : ℕ) → addr % 4 ≡ 0 → (l : Location) × IsBlockRow addr 8 l
eight_bytes addr at = (Bytes03, record { at = record { found = refl; first = sym at; len = refl }; lword = refl; quad = refl; a01 = rw at refl })

-- an aligned datum of one, two, four or eight bytes has a block row
block_row : (wide : Bool) (addr n : ℕ) → is_datum_len wide n ≡ true → addr % n ≡ 0 → (l : Location) × IsBlockRow addr n l
block_row wide addr n block aligned =
    elim (datum_lens wide n block) [
      | inl one ↦ subst (λ m. (l : Location) × IsBlockRow addr m l) (sym one) (one_byte addr (addr % 4) refl (omega arith))
      | inr more ↦ elim more [
        | inl two ↦ subst (λ m. (l : Location) × IsBlockRow addr m l) (sym two)
            (two_bytes addr (addr % 4) refl (omega arith) (rw two at aligned))
        | inr rest ↦ elim rest [
          | inl four ↦ subst (λ m. (l : Location) × IsBlockRow addr m l) (sym four) (four_bytes addr (rw four at aligned))
          | inr eight ↦ subst (λ m. (l : Location) × IsBlockRow addr m l) (sym eight)
              (eight_bytes addr (let even : addr % 8 ≡ 0 = rw eight at aligned in omega (arith, even)))
        ]
      ]
    ]

-- if the first datum of a block is aligned, each datum is
stays_aligned : (wide : Bool) (addr i n : ℕ) → is_datum_len wide n ≡ true → addr % n ≡ 0 → (addr + i * n) % n ≡ 0
stays_aligned wide addr i n block aligned =
    elim (datum_lens wide n block) [
      | inl one ↦ rw one (omega arith)
      | inr more ↦ elim more [
        | inl two ↦ rw two (let even : addr % 2 ≡ 0 = rw two at aligned in omega (arith, even))
        | inr rest ↦ elim rest [
          | inl four ↦ rw four (let even : addr % 4 ≡ 0 = rw four at aligned in omega (arith, even))
          | inr eight ↦ rw eight (let even : addr % 8 ≡ 0 = rw eight at aligned in omega (arith, even))
        ]
      ]
    ]

-- the first datum of a block with a location is aligned
begins_aligned : (request : Request) → is_block_request request ≡ true → is_none (first_location request) ≡ false → addr_of request % datum_len request ≡ 0
begins_aligned request block found =
    elim (cases_Bool (addr_of request % datum_len request == 0)) [
      | inl whole ↦ eqb-true _ _ whole
      | inr part ↦ absurd (let bad = rw (block, part) at found in cc)
    ]

-- each datum of a lawful block request has a block row
pub block_datum_row :
    (row : CodeRow) (request : Request) (i : ℕ) → IsLawful row request → is_block_request request ≡ true
    → (l : Location) × IsBlockRow (address_of request i) (datum_len request) l
block_datum_row row request i is block =
    let counted = block_datum request block is.counted in
    block_row (is_wide_code (code_of request)) (address_of request i) (datum_len request) counted
    (stays_aligned (is_wide_code (code_of request)) (addr_of request) i (datum_len request) counted (begins_aligned request block is.found))

-- an option that is not None has a value
some_of : {A : Type 0} (found : Option A) → is_none found ≡ false → (x : A) × (found ≡ Some x)
some_of None h = absurd cc
some_of (Some x) h = (x, refl)

-- an option that is not None after a test that may discard it was not None before the test
left_by : {A : Type 0} (test : Bool) (found : Option A) → is_none (if test then None else found) ≡ false → is_none found ≡ false
left_by true found h = absurd cc
left_by false found h = h

-- the one datum of a single request is at the first address
first_alone : (request : Request) (i : ℕ) → is_block_request request ≡ false → i < count_of request → address_of request i ≡ addr_of request
first_alone request i alone less = let one = single request alone in let none : i ≡ 0 = omega (arith, one, less) in rw none (omega arith)

-- a location that is found for other than eight bytes has their place in the group of four and their number
plain_found : (addr n : ℕ) (l : Location) → is_wide_len n ≡ false → location_for addr n ≡ Some l → IsAt addr n l
plain_found addr n l plain found =
    let row = found_row addr n l (rw plain at found) in
    record { found = found; first = row.0; len = rw plain (ap Some row.1) }

-- each datum has a location
pub datum_at :
    (row : CodeRow) (request : Request) (i : ℕ) → IsLawful row request → i < count_of request
    → (l : Location) × IsAt (address_of request i) (datum_len request) l
datum_at row request i is less =
    elim (cases_Bool (is_block_request request)) [
      | inl block ↦ let there = block_datum_row row request i is block in (there.0, there.1.at)
      | inr alone ↦
          let few = datum_few request alone is.counted in
          let plain = few_len (datum_len request) few in
          let there = some_of (location_for (addr_of request) (datum_len request)) (left_by _ (location_for (addr_of request) (datum_len request)) is.found) in
          let found : location_for (address_of request i) (datum_len request) ≡ Some there.0 = rw (first_alone request i alone less) there.1 in
          (there.0, plain_found (address_of request i) (datum_len request) there.0 plain found)
    ]

-- a location is found for each datum
pub datum_found :
    (row : CodeRow) (request : Request) (i : ℕ) → IsLawful row request → i < count_of request
    → (l : Location) × (location_for (address_of request i) (datum_len request) ≡ Some l)
datum_found row request i is less = let there = datum_at row request i is less in (there.0, there.1.found)

-- the location of a datum has its place and, with the code, its length
pub datum_placed :
    (row : CodeRow) (request : Request) (i : ℕ) (l : Location) → IsLawful row request → i < count_of request
    → location_for (address_of request i) (datum_len request) ≡ Some l
    → ((row_of l).first ≡ address_of request i % 4) × (chosen_len row.wide l ≡ Some (datum_len request))
datum_placed row request i l is less found =
    let there = datum_at row request i is less in
    let same : there.0 ≡ l = cc (there.1.found, found) in (
      ap (λ m. (row_of m).first) (sym same) ∙ there.1.first,
      ap (λ wide. chosen_len wide l) (sym is.wide) ∙ (ap (λ m. chosen_len (is_wide_len (datum_len request)) m) (sym same) ∙ there.1.len),
    )

-- all data of a transfer have the same level of LWORD*
pub same_lword :
    (row : CodeRow) (request : Request) (i : ℕ) (first own : Location) → IsLawful row request → i < count_of request
    → location_for (address_of request zero) (datum_len request) ≡ Some first → location_for (address_of request i) (datum_len request) ≡ Some own
    → (row_of first).strobes.lword ≡ (row_of own).strobes.lword
same_lword row request i first own is less at_first at_own =
    elim (cases_Bool (is_block_request request)) [
      | inl block ↦
          let begin = block_datum_row row request zero is block in
          let there = block_datum_row row request i is block in
          let same_first : begin.0 ≡ first = cc (begin.1.at.found, at_first) in
          let same_own : there.0 ≡ own = cc (there.1.at.found, at_own) in
          let low = begin.1.lword in
          let low_too = there.1.lword in
          cc (same_first, same_own, low, low_too)
      | inr alone ↦
          let one = single request alone in
          let none : i ≡ 0 = omega (arith, one, less) in
          let same : first ≡ own = cc (none, at_own, at_first) in
          cc same
    ]

-- strobes in which A01 and LWORD* are set to the levels that they have are unchanged
same_levels : (strobes : Strobes) (a01 lword : Bool) → strobes.a01 ≡ a01 → lword ≡ strobes.lword
    → record { ds1 = strobes.ds1; ds0 = strobes.ds0; a01 = a01; lword = lword } ≡ strobes
same_levels strobes a01 lword high low = rw (← high, low) refl

-- a slave that increments the address senses the datum's own location
pub sensed_own :
    (row : CodeRow) (request : Request) (i : ℕ) (first own : Location) (s : SignalLines) → IsLawful row request → i < count_of request
    → location_for (address_of request zero) (datum_len request) ≡ Some first → location_for (address_of request i) (datum_len request) ≡ Some own
    → s.am ≡ row → s.strobes ≡ shown_strobes (row_of first).strobes (row_of own).strobes
    → sensed_at s (address_of request i) ≡ Some own
sensed_own row request i first own s is less at_first at_own am shown =
    let lword = same_lword row request i first own is less at_first at_own in
    elim (cases_Bool (is_block_request request)) [
      | inl block ↦
          let there = block_datum_row row request i is block in
          let same_own : there.0 ≡ own = cc (there.1.at.found, at_own) in
          let a01 : (row_of own).strobes.a01 ≡ nat_le 2 (address_of request i % 4) = subst (λ l. (row_of l).strobes.a01 ≡ nat_le 2 (address_of request i % 4)) same_own there.1.a01 in
          let kind : is_block s.am.kind ≡ true = rw am (is.kind ∙ block) in
          rw (kind, shown) (ap location_sensed (same_levels (row_of own).strobes _ _ a01 lword) ∙ own_sensed own)
      | inr alone ↦
          let kind : is_block s.am.kind ≡ false = rw am (is.kind ∙ alone) in
          let one = single request alone in
          let none : i ≡ 0 = omega (arith, one, less) in
          let same : first ≡ own = cc (none, at_own, at_first) in
          rw (kind, shown, same) (own_sensed own)
    ]

-- strobes select as many bytes as the location that is sensed from them
pub len_of_strobes :
    (wide : Bool) (strobes : Strobes) (l : Location) (n : ℕ) → location_sensed strobes ≡ Some l → chosen_len wide l ≡ Some n
    → row_len wide strobes ≡ Some n
len_of_strobes wide strobes l n sensed long = ap (option_and_then (chosen_len wide)) sensed ∙ long

-- the address lines and the strobes show the address of the first byte
pub first_shown :
    (s : SignalLines) (own : Location) (addr : ℕ) → s.strobes ≡ (row_of own).strobes → s.addr ≡ addr - addr % 4 → (row_of own).first ≡ addr % 4
    → first_byte s ≡ Some addr
first_shown s own addr strobes group place =
    ap (λ shown. option_map (λ l. s.addr + (row_of l).first) (location_sensed shown)) strobes
    ∙ ap (option_map (λ l. s.addr + (row_of l).first)) (own_sensed own)
    ∙ ap Some (omega (arith, group, place))

-- the strobes that the first datum shows are those of its own location
pub held_by_itself : (first own : Location) (strobes : Strobes) → first ≡ own → strobes ≡ shown_strobes (row_of first).strobes (row_of own).strobes
    → strobes ≡ (row_of own).strobes
held_by_itself first own strobes same shown = rw same at shown
