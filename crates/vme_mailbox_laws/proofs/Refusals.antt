-- No mailbox that is reached by data or short access and lies in a board of a lawful map is refused.
use Rattle.std.proofs.Common.{◌≡◌, ℕ, ◌+◌, ◌-◌, ◌*◌, ◌%◌, ◌<◌, ◌≤◌, zero, suc, true, false, List, [], ◌∷◌, ◌++◌, length, Option, Some, None, Ok, refl, sym, subst, arith, inl, inr}
use Rattle.std.specs.Prelude.{nat_lt, ◌==◌, ◌&&◌, is_none, is_some, flat_map, not, slice_get}
use Rattle.std.specs.List.{list_any}
use Rattle.std.proofs.Math.Nat.{mod-one, mod-eq_of_lt}
use Rattle.std.proofs.lemmas.Bool.{cases_Bool, or_cases, eqb-true, eq-eqb, ltb-false}
use Rattle.std.proofs.lemmas.Option.{same_Some}
use Rattle.std.proofs.lemmas.Bool.Decides.{leb_tells}
use Rattle.vme_am.specs.declared.code.Space.TheVariants.{A16, A24, A32}
use Rattle.vme_am.specs.declared.code.Kind.TheVariants.{DataAccess, ShortAccess}
use Rattle.vme_am.specs.Codes.{CodeRow, row, read_code}
use Rattle.vme_am.specs.Kinds.{is_block, is_program}
use Rattle.vme_am.specs.Spaces.{addresses_of}
use Rattle.vme_lanes.specs.declared.location.Location.TheVariants.{Byte0, Bytes03}
use Rattle.vme_lanes.proofs.lemmas.Tables.{own_found}
use Rattle.vme_cycle.specs.declared.fault.CycleFault.{CycleFault}
use Rattle.vme_cycle.specs.declared.request.Request.{Request}
use Rattle.vme_cycle.specs.Requests.{code_of, addr_of, span_of, is_block_request, function_of, is_counted}
use Rattle.vme_cycle.specs.Refusals.{where_true, first_of}
use Rattle.vme_cycle.specs.Lawful.{first_location, first_refusal, transfer_of}
use Rattle.vme_decode.specs.declared.entry.Entry.{Entry}
use Rattle.vme_decode.specs.Lawful as maps
use Rattle.vme_decode.specs.declared.fault.MapFault.{MapFault}
use Rattle.vme_decode.specs.declared.fault.MapFault.TheVariants.{Misaligned, OutsideSpace, Overlap}
use Rattle.vme_decode.specs.Entries.{end_of}
use Rattle.vme_decode.proofs.lemmas.Selection.{place_responds}
use Rattle.vme_shared.specs.MailboxSteps.{BoardMailbox}
use Rattle.vme_shared.specs.declared.mailbox.Mailbox.{Mailbox}
use Rattle.vme_shared.specs.Mailboxes.{IsMailbox, word_at, set_lock, read_word, refusal_in, mailbox_refusal}
use Rattle.vme_mailbox_laws.specs.Along.{LiesAt}
use Rattle.vme_script.specs.MailboxTables.{is_mailbox_code}

-- a code reads as a row of data or short access
record IsReached (am : ℕ) : Type 0 where
  row : CodeRow
  code : read_code am ≡ Ok row
  alone : is_block row.kind ≡ false
  data_or_short : is_program row.kind ≡ false

-- each code of a list satisfies `IsReached`
abbrev EachReached : List ℕ → Type 0
EachReached [] = Unit {0}
EachReached (code ∷ more) = IsReached code × EachReached more

-- the code of a row of data or short access satisfies `IsReached`
reached_at : (row : CodeRow) → read_code row.code ≡ Ok row → is_block row.kind ≡ false → is_program row.kind ≡ false
    → IsReached row.code
reached_at row code alone data_or_short = record { row = row; code = code; alone = alone; data_or_short = data_or_short }

-- the six codes that reach a mailbox satisfy `IsReached`
all_reached : EachReached (0x09 ∷ 0x0d ∷ 0x29 ∷ 0x2d ∷ 0x39 ∷ 0x3d ∷ [])
unfolding read_code
all_reached =
    let short = reached_at (row 0x29 A16 ShortAccess false false) refl refl refl in
    let short_high = reached_at (row 0x2d A16 ShortAccess true false) refl refl refl in
    let standard = reached_at (row 0x39 A24 DataAccess false false) refl refl refl in
    let standard_high = reached_at (row 0x3d A24 DataAccess true false) refl refl refl in
    let extended = reached_at (row 0x09 A32 DataAccess false false) refl refl refl in
    let extended_high = reached_at (row 0x0d A32 DataAccess true false) refl refl refl in
    (extended, (extended_high, (short, (short_high, (standard, (standard_high, tt))))))

-- if each code of a list satisfies `IsReached`, a code that is in the list does
one_of : (am : ℕ) (codes : List ℕ) → EachReached codes → list_any (λ code. code == am) codes ≡ true → IsReached am
one_of am [] each is = absurd cc
one_of am (code ∷ more) each is =
    elim (or_cases (code == am) (list_any (λ other. other == am) more) is) [
      | inl same ↦ subst IsReached (eqb-true code am same) each.0
      | inr later ↦ one_of am more each.1 later
    ]

-- a code that may reach a mailbox satisfies `IsReached`
reached : (am : ℕ) → is_mailbox_code am ≡ true → IsReached am
reached am is = one_of am (0x09 ∷ 0x0d ∷ 0x29 ∷ 0x2d ∷ 0x39 ∷ 0x3d ∷ []) all_reached is

-- a request that meets each condition is not refused
none_refused : (row : CodeRow) (request : Request) → read_code (code_of request) ≡ Ok row → is_block_request request ≡ false
    → is_block row.kind ≡ false → (is_some (function_of request) && is_program row.kind) ≡ false → is_counted request ≡ true
    → nat_lt (addresses_of row.space) (addr_of request + span_of request) ≡ false → is_none (first_location request) ≡ false
    → refusal_in (transfer_of request) ≡ None
unfolding transfer_of first_refusal
none_refused row request code alone kind program counted within found = rw (code, kind, program, counted, within, found, alone) refl

-- a number up to a limit is not above the limit
not_past : (limit last : ℕ) → last ≤ limit → nat_lt limit last ≡ false
not_past limit last less = elim (leb_tells (suc limit) last) [ inl more ↦ absurd (omega (arith, more.1, less)) | inr is ↦ is.0 ]

-- if two refusals are none, there is no first refusal
no_first : (a b : Option CycleFault) → a ≡ None → b ≡ None → first_of (a ∷ b ∷ []) ≡ None
no_first a b first second = rw (first, second) refl

-- the read-modify-write of the lock's byte is not refused
lock_none : (am addr : ℕ) (is : IsReached am) → addr % 4 ≡ 0 → addr + 1 ≤ addresses_of is.row.space
    → refusal_in (transfer_of (set_lock am addr)) ≡ None
lock_none am addr is aligned within =
    let any : (addr % 1 == 0) ≡ true = eq-eqb (addr % 1) 0 (mod-one addr) in
    none_refused is.row (set_lock am addr) is.code refl is.alone is.data_or_short refl
    (not_past (addresses_of is.row.space) (addr + 1) within) (rw (any, own_found Byte0 addr (sym aligned)) refl)

-- the read of a word is not refused
word_none : (am addr : ℕ) (is : IsReached am) → addr % 4 ≡ 0 → addr + 4 ≤ addresses_of is.row.space
    → refusal_in (transfer_of (read_word am addr)) ≡ None
word_none am addr is aligned within =
    none_refused is.row (read_word am addr) is.code refl is.alone refl refl
    (not_past (addresses_of is.row.space) (addr + 4) within) (rw (own_found Bytes03 addr (sym aligned)) refl)

-- if a list has no first refusal, its second element is none and the elements after it have no first refusal
no_other : (a b : Option MapFault) (more : List (Option MapFault)) → first_of (a ∷ b ∷ more) ≡ None
    → (b ≡ None) × (first_of more ≡ None)
no_other None None more none = (refl, none)
no_other None (Some fault) more none = absurd cc
no_other (Some fault) b more none = absurd cc

-- an entry that is not refused as outside its space ends in the space
not_outside : (limit last : ℕ) → where_true (nat_lt limit last) OutsideSpace ≡ None → last ≤ limit
not_outside limit last none =
    elim (cases_Bool (nat_lt limit last)) [
      | inl past ↦ let bad = rw past at none in absurd cc
      | inr within ↦ ltb-false limit last within
    ]

-- if a map's refusals have no first one, its first entry ends in its address space, nor have the others a first one
own_end : (e : Entry) (more : List (Option MapFault)) → first_of (maps.entry_refusals e ++ more) ≡ None
    → (end_of e ≤ addresses_of e.space) × (first_of more ≡ None)
own_end e more none =
    let rest = no_other (where_true (not (e.base % 4 == 0)) Misaligned)
    (where_true (nat_lt (addresses_of e.space) (end_of e)) OutsideSpace) more none in
    (not_outside (addresses_of e.space) (end_of e) rest.0, rest.1)

-- each entry of a list without a refusal ends in its address space
ends_in : (entries : List Entry) (more : List (Option MapFault)) (place : ℕ) (entry : Entry)
    → first_of (flat_map maps.entry_refusals entries ++ more) ≡ None → slice_get entries place ≡ Some entry
    → end_of entry ≤ addresses_of entry.space
ends_in [] more place entry none there = absurd cc
ends_in (e ∷ entries) more zero entry none there =
    subst (λ (x : Entry). end_of x ≤ addresses_of x.space) (same_Some e entry there)
    (own_end e (flat_map maps.entry_refusals entries ++ more) none).0
ends_in (e ∷ entries) more (suc k) entry none there =
    ends_in entries more k entry (own_end e (flat_map maps.entry_refusals entries ++ more) none).1 there

-- each entry of a lawful map ends in its address space
ends : (entries : List Entry) (place : ℕ) (entry : Entry) → maps.first_refusal entries ≡ None
    → slice_get entries place ≡ Some entry → end_of entry ≤ addresses_of entry.space
unfolding maps.first_refusal
ends entries place entry none there =
    elim (cases_Bool (nat_lt 21 (length entries))) [
      | inl many ↦ let bad = rw many at none in absurd cc
      | inr few ↦ ends_in entries (where_true (maps.some_overlap entries) Overlap ∷ []) place entry (rw few at none) there
    ]

module _ (map : List Entry) (mailbox : Mailbox) (board : ℕ) (m : BoardMailbox) (lawful : maps.first_refusal map ≡ None)
    (lies : LiesAt map mailbox board m) (formed : IsMailbox mailbox) where
  -- the last byte of a mailbox has an address of the space
  inside : (row : CodeRow) → read_code mailbox.am ≡ Ok row → mailbox.addr + 16 + 4 * mailbox.slots ≤ addresses_of row.space
  inside row code =
      let last : 15 + 4 * mailbox.slots < 16 + 4 * m.slots = let same = lies.slots in omega arith in
      let falls = place_responds map row (mailbox.addr + (15 + 4 * mailbox.slots)) board (m.offset + (15 + 4 * mailbox.slots))
      (lies.each row (15 + 4 * mailbox.slots) code last) in
      let in_space = ends map board falls.entry lawful falls.there in
      let within : falls.entry.base + falls.entry.size ≤ addresses_of row.space =
      subst (λ s. end_of falls.entry ≤ addresses_of s) falls.space in_space in
      let distance = falls.distance in
      let below = falls.within in
      omega arith

  -- a mailbox with a code of data or short access is not refused
  pub not_refused : is_mailbox_code mailbox.am ≡ true → mailbox_refusal mailbox ≡ None
  not_refused code =
      let is = reached mailbox.am code in
      let within = inside is.row is.code in
      let last : (mailbox.slots - 1) % mailbox.slots ≡ mailbox.slots - 1 = mod-eq_of_lt (omega (arith, formed.some_slot)) in
      let aligned = formed.aligned in
      no_first (refusal_in (transfer_of (set_lock mailbox.am mailbox.addr)))
      (refusal_in (transfer_of (read_word mailbox.am (word_at mailbox (mailbox.slots - 1)))))
      (lock_none mailbox.am mailbox.addr is formed.aligned (omega (arith, within)))
      (word_none mailbox.am (word_at mailbox (mailbox.slots - 1)) is (omega (arith, formed.aligned, last))
      (omega (arith, within, last, formed.some_slot)))
