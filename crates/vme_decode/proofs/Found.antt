-- The first entry that passes a test, with its position.
use Rattle.std.proofs.Common.{◌≡◌, ℕ, ◌+◌, zero, suc, add-zero, Bool, true, List, [], ◌∷◌, find, Option, Some, ap, sym, ◌∙◌, arith, inl, inr}
use Rattle.std.specs.Prelude.{slice_get}
use Rattle.std.specs.List.{enumerate_from}
use Rattle.std.proofs.lemmas.Bool.{cases_Bool}
use Rattle.std.proofs.lemmas.Option.{same_Some}
use Rattle.vme_decode.specs.declared.entry.Entry.{Entry}

-- the first entry that passes, with its position counted from n
unfoldable pub first_from : (Entry → Bool) → ℕ → List Entry → Option (ℕ × Entry)
first_from test n entries = find (λ found. test found.1) (enumerate_from n entries)

-- an entry with its position counted from n is in the list and passes
record Passes (test : Entry → Bool) (n : ℕ) (entries : List Entry) (found : ℕ × Entry) : Type 0 where
  k : ℕ
  place : found.0 ≡ n + k
  there : slice_get entries k ≡ Some found.1
  passes : test found.1 ≡ true

-- an entry of the rest is an entry of the list
one_later : (test : Entry → Bool) (n : ℕ) (e : Entry) (entries : List Entry) (found : ℕ × Entry)
    → Passes test (n + 1) entries found → Passes test n (e ∷ entries) found
one_later test n e entries found later =
    record { k = suc later.k; place = omega (arith, later.place); there = later.there; passes = later.passes }

-- the entry that is found passes
found_passes : (test : Entry → Bool) (n : ℕ) (entries : List Entry) (found : ℕ × Entry)
    → first_from test n entries ≡ Some found → Passes test n entries found
unfolding first_from
found_passes test n [] found found_is = cc
found_passes test n (e ∷ entries) found found_is =
    elim (cases_Bool (test e)) [
      | inl passes ↦
          let first : (n, e) ≡ found = same_Some _ _ (rw passes at found_is) in
          record {
            k = 0;
            place = sym (ap (λ p. p.0) first) ∙ sym (add-zero n);
            there = ap (λ p. Some p.1) first;
            passes = sym (ap (λ p. test p.1) first) ∙ passes;
          }
      | inr fails ↦ one_later test n e entries found (found_passes test (n + 1) entries found (rw fails at found_is))
    ]

-- if an entry passes, one is found
some_found : (test : Entry → Bool) (n : ℕ) (entries : List Entry) (k : ℕ) (entry : Entry)
    → slice_get entries k ≡ Some entry → test entry ≡ true → (found : ℕ × Entry) × (first_from test n entries ≡ Some found)
unfolding first_from
some_found test n [] k entry there passes = cc
some_found test n (e ∷ entries) zero entry there passes =
    let same : e ≡ entry = same_Some e entry there in
    ((n, e), rw (same, passes))
some_found test n (e ∷ entries) (suc k) entry there passes =
    elim (cases_Bool (test e)) [
      | inl first ↦ ((n, e), rw first)
      | inr fails ↦ let later = some_found test (n + 1) entries k entry there passes in (later.0, rw fails later.1)
    ]

-- the entry that is found is at its position and passes
pub found_at : (test : Entry → Bool) (entries : List Entry) (place : ℕ) (entry : Entry)
    → first_from test 0 entries ≡ Some (place, entry) → (slice_get entries place ≡ Some entry) × (test entry ≡ true)
found_at test entries place entry found_is =
    let passes = found_passes test 0 entries (place, entry) found_is in
    let same : passes.k ≡ place = omega (arith, passes.place) in
    (ap (slice_get entries) (sym same) ∙ passes.there, passes.passes)

-- an entry that passes is found if no entry at another position passes
pub only_one : (test : Entry → Bool) (entries : List Entry) (place : ℕ) (entry : Entry)
    → slice_get entries place ≡ Some entry → test entry ≡ true
    → ((k : ℕ) (e : Entry) → slice_get entries k ≡ Some e → test e ≡ true → k ≡ place)
    → first_from test 0 entries ≡ Some (place, entry)
only_one test entries place entry there passes alone =
    let found = some_found test 0 entries place entry there passes in
    let at = found_at test entries found.0.0 found.0.1 found.1 in
    let same_place : found.0.0 ≡ place = alone found.0.0 found.0.1 at.0 at.1 in
    let same_entry : found.0.1 ≡ entry = same_Some _ _ (sym at.0 ∙ ap (slice_get entries) same_place ∙ there) in
    found.1 ∙ ap (λ k. Some (k, found.0.1)) same_place ∙ ap (λ e. Some (place, e)) same_entry
