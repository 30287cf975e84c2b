-- Facts of every element of a list, together with its position.
use Rattle.std.specs.Prelude.{ℕ, ◌≡◌, ◌<◌, List, length, slice_index_or}

-- each element has a property together with its position
abbrev pub Each : {A : Type 0} → (ℕ → A → Type 0) → List A → Type 0
Each {A} P xs = (k : ℕ) (d : A) → k < length xs → P k (slice_index_or xs k d)

-- two lists have the same length, and their elements at each position are related
pub record AllAt {A B : Type 0} (P : ℕ → A → B → Type 0) (xs : List A) (ys : List B) : Type 0 where
  pub count : length ys ≡ length xs
  pub each : (k : ℕ) (a : A) (b : B) → k < length xs → P k (slice_index_or xs k a) (slice_index_or ys k b)
