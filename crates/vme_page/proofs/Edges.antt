-- The value of a variable over edges of an event.
use Rattle.std.proofs.Common.{◌≡◌, ℕ, zero, suc, ◌+◌, List, refl, ap, ◌∙◌, arith}
use Rattle.vme_trace.specs.declared.dump.change.Code.{Code}
use Rattle.vme_trace.specs.declared.dump.change.Change.{Change}
use Rattle.vme_trace.specs.declared.dump.change.Value.{Value}
use Rattle.vme_trace.specs.Shown.{value_after, value_at, value_over}

-- some edges and then others
pub over_more : (code : Code) (changes : List Change) (edge a b : ℕ) (v : Value)
    → value_over code changes edge (a + b) v ≡ value_over code changes (edge + a) b (value_over code changes edge a v)
unfolding value_over
over_more code changes edge zero b v =
    let count : 0 + b ≡ b = omega arith in
    let place : edge ≡ edge + 0 = omega arith in
    ap (λ (n : ℕ). value_over code changes edge n v) count ∙ ap (λ (e : ℕ). value_over code changes e b v) place
over_more code changes edge (suc a) b v =
    let count : suc a + b ≡ suc (a + b) = omega arith in
    let place : suc edge + a ≡ edge + suc a = omega arith in
    ap (λ (n : ℕ). value_over code changes edge n v) count ∙ over_more code changes (suc edge) a b (value_after code edge changes v)
    ∙ ap (λ (e : ℕ). value_over code changes e b (value_over code changes (suc edge) a (value_after code edge changes v))) place

-- the value at an edge is that over all edges up to it
pub at_over : (code : Code) (changes : List Change) (k : ℕ) (v : Value) → value_over code changes 0 (suc k) v ≡ value_at code changes v k
unfolding value_at value_over
at_over code changes zero v = refl
at_over code changes (suc k) v =
    let count : suc (suc k) ≡ suc k + 1 = omega arith in
    let place : 0 + suc k ≡ suc k = omega arith in
    ap (λ (n : ℕ). value_over code changes 0 n v) count ∙ over_more code changes 0 (suc k) 1 v
    ∙ ap (λ (e : ℕ). value_over code changes e 1 (value_over code changes 0 (suc k) v)) place
    ∙ ap (λ (w : Value). value_after code (suc k) changes w) (at_over code changes k v)
