-- All levels of a state are in range exactly if each of them is.
use Rattle.std.proofs.Common.{◌≡◌, ℕ, ◌<◌, zero, suc, true, List, [], ◌∷◌, Option, Some, None, refl}
use Rattle.std.specs.Prelude.{slice_get}
use Rattle.std.specs.List.{list_all}
use Rattle.std.proofs.lemmas.Bool.{and_parts, ltb-true, lt-ltb}
use Rattle.vme_arbiter.specs.Requests.{is_level}
use Rattle.vme_arbiter.specs.States.{is_level_or_none}

-- if all levels are in range, each of them is
pub each_in_range : (levels : List (Option ℕ)) → list_all is_level_or_none levels ≡ true → (slot level : ℕ)
    → slice_get levels slot ≡ Some (Some level) → level < 4
each_in_range [] good slot level there = cc
each_in_range (None ∷ levels) good zero level there = cc
each_in_range (None ∷ levels) good (suc k) level there = each_in_range levels good k level there
each_in_range (Some l ∷ levels) good zero level there =
    let same : level ≡ l = cc in
    rw same (ltb-true l 4 (and_parts (is_level l) (list_all is_level_or_none levels) good).0)
each_in_range (Some l ∷ levels) good (suc k) level there =
    each_in_range levels (and_parts (is_level l) (list_all is_level_or_none levels) good).1 k level there

-- if each level is in range, all of them are
pub all_in_range : (levels : List (Option ℕ))
    → ((slot level : ℕ) → slice_get levels slot ≡ Some (Some level) → level < 4) → list_all is_level_or_none levels ≡ true
all_in_range [] each = refl
all_in_range (None ∷ levels) each = all_in_range levels (λ slot level there. each (suc slot) level there)
all_in_range (Some l ∷ levels) each =
    rw (lt-ltb l 4 (each 0 l refl)) (all_in_range levels (λ slot level there. each (suc slot) level there))
