-- A search among 31 numbers by halving.
use Rattle.std.proofs.Common.{◌≡◌, ℕ, ◌+◌, ◌-◌, ◌*◌, ◌/◌, ◌<◌, ◌≤◌, leb, true, false, List, length, get_or, subst, arith, inl, inr}
use Rattle.std.specs.Prelude.{◌⊎◌}
use mir.Val.{bool_byte}
use Rattle.std.specs.List.Sorted.{IsPartitionedBy, IsPartitionPoint}
use Rattle.std.proofs.lemmas.Bool.{cases_Bool, cases_lt, leb-true, le-leb}
use Rattle.std.proofs.lemmas.List.{get_or_default}

-- the steps of a search among 31 places
abbrev pub IsStep : ℕ → Type 0
IsStep step = (step ≡ 16) ⊎ ((step ≡ 8) ⊎ ((step ≡ 4) ⊎ ((step ≡ 2) ⊎ ((step ≡ 1) ⊎ (step ≡ 0)))))

-- the ranks before a place are at most top, and those from another place on are greater
pub record Splits (ranks : List ℕ) (top from to : ℕ) : Type 0 where
  pub up_to : (k : ℕ) → k < from → get_or ranks k 0 ≤ top
  pub above : (k : ℕ) → to ≤ k → k < 31 → top < get_or ranks k 0

-- the state of a search before a step
pub record IsHalved (ranks : List ℕ) (top count step : ℕ) : Type 0 where
  pub is_step : IsStep step
  pub capacity : count + (2 * step - 1) ≤ 31
  pub split : IsPartitionedBy (λ r. leb r top) ranks → Splits ranks top count (count + (2 * step - 1))

-- half a step is the next step, and 0 after the last one
half_step : (step : ℕ) → IsStep step → 0 < step → IsStep (step / 2) × (2 * (step / 2) - 1 ≡ step - 1)
half_step step (inl is) some = (inr (inl (omega arith)), omega arith)
half_step step (inr (inl is)) some = (inr (inr (inl (omega arith))), omega arith)
half_step step (inr (inr (inl is))) some = (inr (inr (inr (inl (omega arith)))), omega arith)
half_step step (inr (inr (inr (inl is)))) some = (inr (inr (inr (inr (inl (omega arith))))), omega arith)
half_step step (inr (inr (inr (inr (inl is))))) some = (inr (inr (inr (inr (inr (omega arith))))), omega arith)
half_step step (inr (inr (inr (inr (inr is))))) some = absurd (omega arith)

-- if the rank in the middle is at most top, those before it are
split_up : (ranks : List ℕ) (top count step : ℕ) → length ranks ≡ 31 → 0 < step → count + (2 * step - 1) ≤ 31
    → IsPartitionedBy (λ r. leb r top) ranks → Splits ranks top count (count + (2 * step - 1))
    → leb (get_or ranks (count + step - 1) 0) top ≡ true → Splits ranks top (count + step) (count + step + (step - 1))
split_up ranks top count step places some capacity parted splits here = record {
  up_to = λ k below. leb-true _ _ (parted k (count + step - 1) 0 (omega arith) (omega arith) here);
  above = λ k from within. splits.above k (omega arith) within;
}

-- if the rank in the middle is greater than top, those after it are
split_down : (ranks : List ℕ) (top count step : ℕ) → length ranks ≡ 31 → 0 < step
    → IsPartitionedBy (λ r. leb r top) ranks → Splits ranks top count (count + (2 * step - 1))
    → leb (get_or ranks (count + step - 1) 0) top ≡ false → Splits ranks top count (count + (step - 1))
split_down ranks top count step places some parted splits here = record {
  up_to = splits.up_to;
  above = λ k from within. elim (cases_lt top (get_or ranks k 0)) [
    | inl above ↦ above
    | inr up_to ↦
        let middle = parted (count + step - 1) k 0 (omega arith) (omega arith) (le-leb _ _ up_to) in
        cc
  ];
}

-- a step halves the ranks that remain
pub halved : (ranks : List ℕ) (top count step bit : ℕ) → length ranks ≡ 31 → 0 < step → IsHalved ranks top count step
    → bit ≡ bool_byte (leb (get_or ranks (count + step - 1) 0) top)
    → IsHalved ranks top (count + step * bit) (step / 2)
halved ranks top count step bit places some is bit_is =
    let half = half_step step is.is_step some in
    let capacity = is.capacity in
    elim (cases_Bool (leb (get_or ranks (count + step - 1) 0) top)) [
      | inl here ↦
          let one : bit ≡ 1 = rw here at bit_is in
          let all : count + step ≡ count + step * bit = rw one (omega arith) in
          subst (λ n. IsHalved ranks top n (step / 2)) all (record {
            is_step = half.0;
            capacity = omega (arith, half.1);
            split = λ parted. rw half.1 (split_up ranks top count step places some capacity parted (is.split parted) here);
          })
      | inr here ↦
          let none : bit ≡ 0 = rw here at bit_is in
          let nothing : count ≡ count + step * bit = rw none (omega arith) in
          subst (λ n. IsHalved ranks top n (step / 2)) nothing (record {
            is_step = half.0;
            capacity = omega (arith, half.1);
            split = λ parted. rw half.1 (split_down ranks top count step places some parted (is.split parted) here);
          })
    ]

-- after the last step no rank remains
pub parted_at : (ranks : List ℕ) (top count : ℕ) → length ranks ≡ 31 → count ≤ 31 → Splits ranks top count count
    → IsPartitionPoint (λ r. r ≤ top) (λ r. top < r) ranks count
parted_at ranks top count places capacity split = (
  λ k d from below. rw (get_or_default ranks k d 0 (omega arith)) (split.up_to k below),
  λ k d from within. rw (get_or_default ranks k d 0 within) (split.above k from (omega arith)),
)
