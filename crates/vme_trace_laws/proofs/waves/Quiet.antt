-- Changes that leave a variable alone.
use Rattle.std.proofs.Common.{◌≡◌, ◌≢◌, ℕ, zero, suc, ◌+◌, ◌<◌, ◌≤◌, Bool, true, false, List, [], ◌∷◌, ◌++◌, refl, ap, ◌∙◌, arith, inl, inr}
use Rattle.std.specs.Prelude.{flat_map}
use Rattle.std.specs.List.{range_with_len}
use Rattle.std.proofs.lemmas.Bool.Decides.{eqb_tells}
use Rattle.std.proofs.lemmas.List.Concat.{flat_map-cons}
use Rattle.vme_trace.specs.declared.dump.change.Code.{Code}
use Rattle.vme_trace.specs.declared.dump.change.Change.{Change}
use Rattle.vme_trace.specs.declared.dump.change.Value.{Value}
use Rattle.vme_trace.specs.declared.dump.handshake.Handshake.{Handshake}
use Rattle.vme_trace.specs.Changes.{change_if}
use Rattle.vme_trace.specs.Variables.{bus_code}
use Rattle.vme_trace.specs.Bus.{address_strobe_changes, address_changes, level_changes, data_strobe_changes, data_changes, handshake_changes}
use Rattle.vme_trace.specs.Shown.{is_code, value_after}
use Rattle.vme_trace_laws.proofs.waves.Afters.{after_append, silent}
use Rattle.vme_trace_laws.proofs.waves.Groups.{address_strobe_quiet, address_quiet, level_quiet, data_strobe_quiet, data_quiet, answer_quiet}

-- changes leave a variable alone
abbrev pub IsQuiet : Code → List Change → Type 0
IsQuiet code changes = (k : ℕ) (v : Value) → value_after code k changes v ≡ v

-- no changes
pub none_quiet : (code : Code) → IsQuiet code []
unfolding value_after
none_quiet code k v = refl

-- a change of another variable
pub if_quiet : (code other : Code) (b : Bool) (e : ℕ) (v : Value) → is_code code other ≡ false → IsQuiet code (change_if b e other v)
unfolding value_after
if_quiet code other false e v apart k before = refl
if_quiet code other true e v apart k before = rw apart refl

-- some changes and then others
pub append_quiet : (code : Code) (xs ys : List Change) → IsQuiet code xs → IsQuiet code ys → IsQuiet code (xs ++ ys)
append_quiet code xs ys first second k v = silent code k xs ys v (first k v) ∙ second k v

-- a handshake leaves a variable alone that is none of the lines of a cycle
pub record IsNoLine (code : Code) : Type 0 where
  pub strobe : is_code code (bus_code 73) ≡ false
  pub modifier : is_code code (bus_code 74) ≡ false
  pub address : is_code code (bus_code 75) ≡ false
  pub long_word : is_code code (bus_code 76) ≡ false
  pub write : is_code code (bus_code 77) ≡ false
  pub strobe_1 : is_code code (bus_code 78) ≡ false
  pub strobe_0 : is_code code (bus_code 79) ≡ false
  pub lanes : is_code code (bus_code 80) ≡ false
  pub upper_lanes : is_code code (bus_code 81) ≡ false
  pub acknowledge : is_code code (bus_code 82) ≡ false
  pub error : is_code code (bus_code 83) ≡ false

-- a handshake leaves such a variable alone
pub handshake_quiet : (code : Code) (t : Handshake) → IsNoLine code → IsQuiet code (handshake_changes t)
unfolding handshake_changes
handshake_quiet code t none k v =
    silent code k (address_strobe_changes t) _ v (address_strobe_quiet code k t v none.strobe none.modifier)
    ∙ (silent code k (address_changes t) _ v (address_quiet code k t v none.address)
    ∙ (silent code k (level_changes t) _ v (level_quiet code k t v none.long_word none.write)
    ∙ (silent code k (data_strobe_changes t) _ v (data_strobe_quiet code k t v none.strobe_1 none.strobe_0)
    ∙ (silent code k (data_changes t) _ v (data_quiet code k t v none.lanes none.upper_lanes)
    ∙ answer_quiet code k t v none.acknowledge none.error))))

-- each of some lists of changes leaves a variable alone
pub each_quiet : (code : Code) (f : ℕ → List Change) (numbers : List ℕ) → ((j : ℕ) → IsQuiet code (f j)) → IsQuiet code (flat_map f numbers)
each_quiet code f [] each k v = none_quiet code k v
each_quiet code f (j ∷ numbers) each k v =
    ap (λ changes. value_after code k changes v) (flat_map-cons f j numbers)
    ∙ append_quiet code (f j) (flat_map f numbers) (each j) (each_quiet code f numbers each) k v

-- the lists of changes after a variable's own leave it alone
past_quiet : (code : Code) (f : ℕ → List Change) (own from n : ℕ) → ((j : ℕ) → j ≢ own → IsQuiet code (f j)) → own < from
    → IsQuiet code (flat_map f (range_with_len from n))
past_quiet code f own from zero each past k v = none_quiet code k v
past_quiet code f own from (suc n) each past k v =
    ap (λ changes. value_after code k changes v) (flat_map-cons f from (range_with_len (from + 1) n))
    ∙ append_quiet code (f from) (flat_map f (range_with_len (from + 1) n)) (each from (λ same. absurd (omega (arith, same, past))))
    (past_quiet code f own (from + 1) n each (omega (arith, past))) k v

-- of lists of changes only a variable's own one moves it
pub own_of_each : (code : Code) (f : ℕ → List Change) (own from n : ℕ) → ((j : ℕ) → j ≢ own → IsQuiet code (f j)) → from ≤ own → own < from + n
    → (k : ℕ) (v : Value) → value_after code k (flat_map f (range_with_len from n)) v ≡ value_after code k (f own) v
own_of_each code f own from zero each past soon k v = absurd (omega (arith, past, soon))
own_of_each code f own from (suc n) each past soon k v =
    ap (λ changes. value_after code k changes v) (flat_map-cons f from (range_with_len (from + 1) n))
    ∙ after_append code k (f from) (flat_map f (range_with_len (from + 1) n)) v
    ∙ elim (eqb_tells from own) [
      | inl here ↦
          past_quiet code f own (from + 1) n each (omega (arith, here.1)) k (value_after code k (f from) v)
          ∙ ap (λ j. value_after code k (f j) v) here.1
      | inr later ↦
          ap (value_after code k (flat_map f (range_with_len (from + 1) n))) (each from later.1 k v)
          ∙ own_of_each code f own (from + 1) n each (omega (arith, past, later.1)) (omega (arith, soon)) k v
    ]
