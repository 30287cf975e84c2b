-- The request that is granted next, found in an array by levels.
use Rattle.std.proofs.Common.{◌≡◌, ◌≢◌, ℕ, ◌+◌, ◌<◌, List, Option, Some, None, length, sym, arith, inl, inr}
use Rattle.std.specs.Prelude.{MatchOption, IfSome, slice_get}
use Rattle.std.specs.Option.{option_map}
use Rattle.std.proofs.lemmas.Bool.{cases_lt, cases_order}
use Rattle.std.proofs.lemmas.Option.{slice_get_within}
use Rattle.vme_arbiter.specs.declared.levels.Request.{Request}
use Rattle.vme_arbiter.specs.Levels.{level_order}
use Rattle.vme_arbiter.specs.Requests.{bus_request, next_request, requests_of}
use Rattle.vme_arbiter.specs.Grants.{HasNone, IsGreatest}
use Rattle.vme_arbiter.proofs.Orders.{up_to_first, first_before_above, above_first}
use Rattle.vme_arbiter.proofs.Listed.{granted-listed, none-listed}

-- all requests of an array are on levels in range
abbrev pub AreInRange : List (Option ℕ) → Type 0
AreInRange places = (slot level : ℕ) → slice_get places slot ≡ Some (Some level) → level < 4

-- the lowest slot on the greatest level up to the first level is granted next
pub up_to_first-next : (first : ℕ) (places : List (Option ℕ)) (slot level : ℕ) → AreInRange places
    → IsGreatest places 0 (first + 1) slot level → first < 4
    → next_request (level_order first) (requests_of places) ≡ Some (bus_request level slot)
up_to_first-next first places slot level in_range is first< =
    let below = is.below in
    granted-listed (level_order first) slot level places (record {
      there = is.there;
      lowest = is.lowest;
      earliest = λ k l at_k.
          let l< = in_range k l at_k in
          elim (cases_lt first l) [
            | inl above ↦ inr (first_before_above first level l (omega arith) above l<)
            | inr up_to ↦
                elim (cases_order l level) [
                  | inl same ↦ inl same
                  | inr (inl lower) ↦ inr (up_to_first first level l first< lower (omega arith))
                  | inr (inr greater) ↦ let most = is.greatest k l at_k (omega arith) in absurd (omega arith)
                ]
          ];
    })

-- if no request is on a level up to the first, the lowest slot on the greatest level above it is granted next
above_first-next : (first : ℕ) (places : List (Option ℕ)) (slot level : ℕ) → AreInRange places → HasNone places 0 (first + 1)
    → IsGreatest places (first + 1) 4 slot level
    → next_request (level_order first) (requests_of places) ≡ Some (bus_request level slot)
above_first-next first places slot level in_range none is =
    let from_there = is.from_there in
    let below = is.below in
    granted-listed (level_order first) slot level places (record {
      there = is.there;
      lowest = is.lowest;
      earliest = λ k l at_k.
          let most = is.greatest k l at_k (in_range k l at_k) in
          elim (cases_lt l (first + 1)) [
            | inl up_to ↦ let never = none k l at_k up_to in absurd (omega arith)
            | inr above ↦
                elim (cases_order l level) [
                  | inl same ↦ inl same
                  | inr (inl lower) ↦ inr (above_first first level l (omega arith) lower below)
                  | inr (inr greater) ↦ absurd (omega arith)
                ]
          ];
    })

-- if no request is on a level up to the first, the request that is found above it, if any, is granted next
pub later-next : (first : ℕ) (places : List (Option ℕ)) (found : Option Request) → AreInRange places → HasNone places 0 (first + 1)
    → MatchOption found (HasNone places (first + 1) 4) (λ next. IsGreatest places (first + 1) 4 next.slot next.level)
    → option_map (λ (next : Request). bus_request next.level next.slot) found ≡ next_request (level_order first) (requests_of places)
later-next first places None in_range none is =
    sym (none-listed (level_order first) places (λ k l at_k.
    let l< = in_range k l at_k in
    let not_above = is k l at_k l< in
    let never = none k l at_k not_above in
    absurd (omega arith)))
later-next first places (Some next) in_range none is = sym (above_first-next first places next.slot next.level in_range none is)

-- a request that is found is in the array
pub later-within : (places : List (Option ℕ)) (from end : ℕ) (found : Option Request)
    → MatchOption found (HasNone places from end) (λ next. IsGreatest places from end next.slot next.level)
    → IfSome found (λ next. next.slot < length places)
later-within places from end None is = tt
later-within places from end (Some next) is = slice_get_within places next.slot _ is.there

-- if no request is found up to the first level or above it, there is none
pub none-anywhere : (first : ℕ) (places : List (Option ℕ)) (found : Option Request) → AreInRange places → HasNone places 0 (first + 1)
    → MatchOption found (HasNone places (first + 1) 4) (λ next. IsGreatest places (first + 1) 4 next.slot next.level)
    → found ≡ None → (slot level : ℕ) → slice_get places slot ≢ Some (Some level)
none-anywhere first places None in_range none is nothing slot level there =
    let l< = in_range slot level there in
    let not_above = is slot level there l< in
    let never = none slot level there not_above in
    absurd (omega arith)
none-anywhere first places (Some next) in_range none is nothing slot level there = cc
