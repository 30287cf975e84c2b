-- The value of a variable in changes of which some come early and some late.
use Rattle.std.proofs.Common.{◌≡◌, ℕ, zero, suc, ◌<◌, ◌≤◌, List, ap, sym, ◌∙◌, arith, inl, inr}
use Rattle.std.proofs.lemmas.Bool.{cases_lt}
use Rattle.vme_trace.specs.declared.dump.change.Code.{Code}
use Rattle.vme_trace.specs.declared.dump.change.Change.{Change}
use Rattle.vme_trace.specs.declared.dump.change.Value.{Value}
use Rattle.vme_trace.specs.Shown.{value_after, value_at}

-- changes that move a variable alike show it alike
pub same_at : (code : Code) (xs ys : List Change) → ((k : ℕ) (v : Value) → value_after code k xs v ≡ value_after code k ys v) → (before : Value) (k : ℕ)
    → value_at code xs before k ≡ value_at code ys before k
unfolding value_at
same_at code xs ys each before zero = each 0 before
same_at code xs ys each before (suc k) =
    each (suc k) (value_at code xs before k) ∙ ap (value_after code (suc k) ys) (same_at code xs ys each before k)

-- a variable stays as long as changes leave it alone
pub stays_at : (code : Code) (xs : List Change) (m : ℕ) → ((k : ℕ) → k ≤ m → (v : Value) → value_after code k xs v ≡ v) → (before : Value) (k : ℕ) → k ≤ m
    → value_at code xs before k ≡ before
unfolding value_at
stays_at code xs m quiet before zero soon = quiet 0 soon before
stays_at code xs m quiet before (suc k) soon =
    quiet (suc k) soon (value_at code xs before k) ∙ stays_at code xs m quiet before k (omega (arith, soon))

module _ (code : Code) (all early late : List Change) (m : ℕ)
    (each : (k : ℕ) (v : Value) → value_after code k all v ≡ value_after code k late (value_after code k early v))
    (early_quiet : (k : ℕ) → m < k → (v : Value) → value_after code k early v ≡ v)
    (late_quiet : (k : ℕ) → k ≤ m → (v : Value) → value_after code k late v ≡ v) where
  -- up to an edge the early changes show
  pub early_at : (before : Value) (k : ℕ) → k ≤ m → value_at code all before k ≡ value_at code early before k
  unfolding value_at
  early_at before zero soon = each 0 before ∙ late_quiet 0 soon (value_after code 0 early before)
  early_at before (suc k) soon =
      each (suc k) (value_at code all before k)
      ∙ late_quiet (suc k) soon (value_after code (suc k) early (value_at code all before k))
      ∙ ap (value_after code (suc k) early) (early_at before k (omega (arith, soon)))

  -- from that edge on the late changes show
  pub late_at : (before : Value) (k : ℕ) → m ≤ k → value_at code all before k ≡ value_at code late (value_at code early before m) k
  unfolding value_at
  late_at before zero past =
      let none : m ≡ 0 = omega (arith, past) in
      each 0 before ∙ late_quiet 0 past' (value_after code 0 early before)
      ∙ sym (late_quiet 0 past' (value_after code 0 early before)) ∙ ap (λ i. value_after code 0 late (value_at code early before i)) (sym none)
    where
      past' : 0 ≤ m
      past' = omega arith
  late_at before (suc k) past =
      elim (cases_lt k m) [
        | inl soon ↦
            let here : suc k ≡ m = omega (arith, past, soon) in
            early_at before (suc k) (omega (arith, here)) ∙ ap (value_at code early before) here
            ∙ sym (stays_at code late m late_quiet (value_at code early before m) (suc k) (omega (arith, here)))
        | inr later ↦
            each (suc k) (value_at code all before k)
            ∙ ap (value_after code (suc k) late) (early_quiet (suc k) (omega (arith, later)) (value_at code all before k) ∙ late_at before k later)
      ]
