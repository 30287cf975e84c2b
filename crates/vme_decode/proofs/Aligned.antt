-- In a map without a refusal each entry begins at a multiple of four and ends in its space.
use Rattle.std.proofs.Common.{◌≡◌, ℕ, zero, suc, ◌+◌, ◌≤◌, ◌%◌, List, [], ◌∷◌, ◌++◌, length, Option, Some, None, sym, arith, eqb, inl, inr}
use Rattle.std.specs.Prelude.{nat_lt, not, ◌==◌, flat_map, slice_get}
use Rattle.std.proofs.lemmas.Bool.{cases_Bool, eqb-true, ltb-false}
use Rattle.std.proofs.lemmas.Option.{same_Some}
use Rattle.vme_am.specs.Spaces.{addresses_of}
use Rattle.vme_decode.specs.declared.entry.Entry.{Entry}
use Rattle.vme_decode.specs.declared.fault.MapFault.{MapFault}
use Rattle.vme_decode.specs.declared.fault.MapFault.TheVariants.{TooMany, Misaligned}
use Rattle.vme_decode.specs.Entries.{end_of}
use Rattle.vme_cycle.specs.Refusals.{where_true, first_of}
use Rattle.vme_decode.specs.Lawful.{entry_refusals, first_refusal}
use Rattle.vme_decode.proofs.Apart.{last_of_none}

-- an entry begins at a multiple of four and ends in its space
pub record IsSound (e : Entry) : Type 0 where
  pub aligned : e.base % 4 ≡ 0
  pub inside : end_of e ≤ addresses_of e.space

-- an entry without a refusal begins at a multiple of four
base_of_none : (e : Entry) (more : List (Option MapFault)) → first_of (entry_refusals e ++ more) ≡ None → e.base % 4 ≡ 0
base_of_none e more none =
    elim (cases_Bool (eqb (e.base % 4) 0)) [ inl aligned ↦ eqb-true (e.base % 4) 0 aligned | inr not_so ↦ let bad = rw not_so at none in cc ]

-- an entry without a refusal ends in its space
end_of_none : (e : Entry) (more : List (Option MapFault)) → first_of (entry_refusals e ++ more) ≡ None
    → end_of e ≤ addresses_of e.space
end_of_none e more none =
    elim (cases_Bool (nat_lt (addresses_of e.space) (end_of e))) [
      | inl outside ↦ let bad = rw outside at (last_of_none (where_true (not (e.base % 4 == 0)) Misaligned ∷ []) _ none) in cc
      | inr inside ↦ ltb-false (addresses_of e.space) (end_of e) inside
    ]

-- each entry of a list without a refusal begins at a multiple of four and ends in its space
sound_in : (entries : List Entry) (more : List (Option MapFault)) (place : ℕ) (entry : Entry)
    → first_of (flat_map entry_refusals entries ++ more) ≡ None → slice_get entries place ≡ Some entry → IsSound entry
sound_in [] more place entry none there = cc
sound_in (e ∷ entries) more zero entry none there =
    rw (sym (same_Some e entry there)) (record {
      aligned = base_of_none e (flat_map entry_refusals entries ++ more) none;
      inside = end_of_none e (flat_map entry_refusals entries ++ more) none;
    })
sound_in (e ∷ entries) more (suc k) entry none there =
    sound_in entries more k entry (last_of_none (entry_refusals e) (flat_map entry_refusals entries ++ more) none) there

-- each entry of a lawful map begins at a multiple of four and ends in its space
pub lawful_entry : (entries : List Entry) (place : ℕ) (entry : Entry) → first_refusal entries ≡ None
    → slice_get entries place ≡ Some entry → IsSound entry
unfolding first_refusal
lawful_entry entries place entry lawful there =
    sound_in entries _ place entry (last_of_none (where_true (nat_lt 21 (length entries)) TooMany ∷ []) _ lawful) there

-- a lawful map has at most 21 entries
pub few_entries : (entries : List Entry) → first_refusal entries ≡ None → length entries ≤ 21
unfolding first_refusal
few_entries entries lawful =
    elim (cases_Bool (nat_lt 21 (length entries))) [
      | inl many ↦ let bad = rw many at lawful in cc
      | inr few ↦ ltb-false 21 (length entries) few
    ]

-- an aligned base leaves the remainder modulo four unchanged
pub same_remainder : (base addr offset : ℕ) → base % 4 ≡ 0 → addr ≡ base + offset → offset % 4 ≡ addr % 4
same_remainder base addr offset aligned distance = omega arith
