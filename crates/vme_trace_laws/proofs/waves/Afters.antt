-- The value of a variable after the changes of an edge, change by change.
use Rattle.std.proofs.Common.{◌≡◌, ℕ, ◌&&◌, Bool, true, false, nat_eq, if◌then◌else◌, List, [], ◌∷◌, ◌++◌, refl, ap, ◌∙◌}
use Rattle.vme_trace.specs.declared.dump.change.Code.{Code}
use Rattle.vme_trace.specs.declared.dump.change.Change.{Change}
use Rattle.vme_trace.specs.declared.dump.change.Value.{Value}
use Rattle.vme_trace.specs.Changes.{change_if}
use Rattle.vme_trace.specs.Variables.{bus_code}
use Rattle.vme_trace.specs.Shown.{is_code, value_after}

-- some changes and then others
pub after_append : (line : Code) (k : ℕ) (xs ys : List Change) (before : Value)
    → value_after line k (xs ++ ys) before ≡ value_after line k ys (value_after line k xs before)
unfolding value_after
after_append line k [] ys before = refl
after_append line k (x ∷ xs) ys before = after_append line k xs ys _

-- a change of another variable
pub other : (line : Code) (x k : ℕ) (b : Bool) (e : ℕ) (v : Value) (rest : List Change) (before : Value) → is_code line (bus_code x) ≡ false
    → value_after line k (change_if b e (bus_code x) v ++ rest) before ≡ value_after line k rest before
unfolding value_after
other line x k false e v rest before apart = refl
other line x k true e v rest before apart = rw apart refl

-- the last change, of another variable
pub last_other : (line : Code) (x k : ℕ) (b : Bool) (e : ℕ) (v : Value) (before : Value) → is_code line (bus_code x) ≡ false
    → value_after line k (change_if b e (bus_code x) v) before ≡ before
unfolding value_after
last_other line x k false e v before apart = refl
last_other line x k true e v before apart = rw apart refl

-- a change of this variable
pub own : (line : Code) (k : ℕ) (b : Bool) (e : ℕ) (v : Value) (rest : List Change) (before : Value) → is_code line line ≡ true
    → value_after line k (change_if b e line v ++ rest) before ≡ value_after line k rest (if b && nat_eq e k then v else before)
unfolding value_after
own line k false e v rest before same = refl
own line k true e v rest before same = rw same refl

-- the last change, of this variable
pub last_own : (line : Code) (k : ℕ) (b : Bool) (e : ℕ) (v : Value) (before : Value) → is_code line line ≡ true
    → value_after line k (change_if b e line v) before ≡ (if b && nat_eq e k then v else before)
unfolding value_after
last_own line k false e v before same = refl
last_own line k true e v before same = rw same refl

-- changes that leave the variable alone, and then others
pub silent : (line : Code) (k : ℕ) (xs ys : List Change) (before : Value) → value_after line k xs before ≡ before
    → value_after line k (xs ++ ys) before ≡ value_after line k ys before
silent line k xs ys before quiet = after_append line k xs ys before ∙ ap (value_after line k ys) quiet
