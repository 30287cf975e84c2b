-- In a map without a refusal, no two entries share an address.
use Rattle.std.proofs.Common.{◌≡◌, ℕ, ◌<◌, zero, suc, Bool, true, false, List, [], ◌∷◌, ◌++◌, length, Option, Some, None, arith, inl, inr}
use Rattle.std.specs.Prelude.{nat_lt, flat_map, slice_get}
use Rattle.std.specs.List.{list_any}
use Rattle.std.proofs.lemmas.Bool.{cases_order, or_parts}
use Rattle.vme_am.specs.declared.code.Space.{Space}
use Rattle.vme_decode.specs.declared.entry.Entry.{Entry}
use Rattle.vme_decode.specs.declared.fault.MapFault.{MapFault}
use Rattle.vme_decode.specs.declared.fault.MapFault.TheVariants.{TooMany, Overlap}
use Rattle.vme_decode.specs.Entries.{covers, overlap}
use Rattle.vme_cycle.specs.Refusals.{where_true, first_of}
use Rattle.vme_decode.specs.Lawful.{entry_refusals, some_overlap, first_refusal}
use Rattle.vme_decode.proofs.Ranges.{shared_overlap}

-- if a list has no first refusal, no suffix of it has one
pub last_of_none : (prefix more : List (Option MapFault)) → first_of (prefix ++ more) ≡ None → first_of more ≡ None
last_of_none [] more none = none
last_of_none (None ∷ prefix) more none = last_of_none prefix more none
last_of_none (Some fault ∷ prefix) more none = cc

-- if the refusal of a test is absent, the test fails
not_where_true : (test : Bool) (fault : MapFault) → first_of (where_true test fault ∷ []) ≡ None → test ≡ false
not_where_true true fault none = cc
not_where_true false fault none = cc

-- a lawful map has no overlap
no_overlap : (entries : List Entry) → first_refusal entries ≡ None → some_overlap entries ≡ false
unfolding first_refusal
no_overlap entries none =
    not_where_true (some_overlap entries) Overlap
    (last_of_none (where_true (nat_lt 21 (length entries)) TooMany ∷ flat_map entry_refusals entries) _ none)

-- if no element passes a test, the element at a position does not pass
none_at : (test : Entry → Bool) (entries : List Entry) (i : ℕ) (entry : Entry)
    → list_any test entries ≡ false → slice_get entries i ≡ Some entry → test entry ≡ false
none_at test [] i entry none there = cc
none_at test (e ∷ entries) zero entry none there = grind (arith, or_parts (test e) (list_any test entries) none)
none_at test (e ∷ entries) (suc i) entry none there =
    none_at test entries i entry (or_parts (test e) (list_any test entries) none).1 there

-- if no entry overlaps a later one, no two entries at different positions overlap
apart : (entries : List Entry) (i j : ℕ) (a b : Entry) → some_overlap entries ≡ false → i < j
    → slice_get entries i ≡ Some a → slice_get entries j ≡ Some b → overlap a b ≡ false
apart [] i j a b none lt at_i at_j = cc
apart (e ∷ entries) i zero a b none lt at_i at_j = absurd (omega arith)
apart (e ∷ entries) zero (suc j) a b none lt at_i at_j =
    let parts = or_parts (list_any (overlap e) entries) (some_overlap entries) none in
    let same : e ≡ a = cc in
    rw (← same) (none_at (overlap e) entries j b parts.0 at_j)
apart (e ∷ entries) (suc i) (suc j) a b none lt at_i at_j =
    apart entries i j a b (or_parts (list_any (overlap e) entries) (some_overlap entries) none).1 (omega arith) at_i at_j

-- in a lawful map, two entries that cover one address have one position
pub one_place : (entries : List Entry) (i j : ℕ) (a b : Entry) (space : Space) (addr : ℕ) → first_refusal entries ≡ None
    → slice_get entries i ≡ Some a → slice_get entries j ≡ Some b
    → covers a space addr ≡ true → covers b space addr ≡ true → i ≡ j
one_place entries i j a b space addr lawful at_i at_j in_a in_b =
    let none = no_overlap entries lawful in
    elim (cases_order i j) [
      | inl same ↦ same
      | inr (inl lt) ↦
          let apart_ab = apart entries i j a b none lt at_i at_j in
          let shared_ab = shared_overlap a b space addr in_a in_b in
          cc
      | inr (inr lt) ↦
          let apart_ba = apart entries j i b a none lt at_j at_i in
          let shared_ba = shared_overlap b a space addr in_b in_a in
          cc
    ]
