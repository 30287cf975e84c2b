-- The refusals of a script's lines, found one by one.
use Rattle.std.proofs.Common.{◌≡◌, ℕ, ◌+◌, ◌-◌, ◌<◌, List, [], ◌∷◌, ◌++◌, append_assoc, take, map}
use Rattle.std.proofs.Common.{Option, Some, None, refl, arith}
use Rattle.std.specs.Prelude.{option_map}
use Rattle.std.proofs.lemmas.List.{map-append}
use Rattle.vme_grammar.specs.declared.fault.LineFault.{LineFault}
use Rattle.vme_script.specs.declared.context.ScriptContext.{ScriptContext}
use Rattle.vme_script.specs.declared.fault.ScriptRefusal.{ScriptRefusal}
use Rattle.vme_script.specs.Contexts.{line_within}
use Rattle.vme_faults.specs.declared.script.FaultyLine.{FaultyLine}
use Rattle.vme_faults.specs.Causes.{line_fault, script_refusal}
use Rattle.vme_faults.specs.Lines.{fault_of, refusal_at, line_refusals, refusal_for}

-- some first elements of a list: its head, and one fewer of its tail
take_first : {X : Type 0} (left : ℕ) (line : X) (rest : List X) → 0 < left → take left (line ∷ rest) ≡ line ∷ take (left - 1) rest
take_first left line rest some = grind arith

-- if the cause that was found stands for the refusal of a line, its refusal is the only one at that line
found_there :
    (number : ℕ) (cause fault : Option LineFault) → Some cause ≡ option_map Some fault
    → script_refusal number cause ∷ [] ≡ refusal_at number fault
found_there number (Some x) (Some y) is = grind arith
found_there number None (Some y) is = grind arith
found_there number cause None is = grind arith

-- the refusals before a line, that of the line, and those after it are all
line_next :
    (rules : ScriptContext) (number left : ℕ) (line : List ℕ) (rest text : List (List ℕ)) (before all : List ScriptRefusal)
    → text ≡ line ∷ rest → 0 < left → before ++ line_refusals rules number (take left text) ≡ all
    → (before ++ refusal_at number (fault_of (line_within rules line)))
    ++ line_refusals rules (number + 1) (take (left - 1) rest) ≡ all
line_next rules number left line rest text before all is some sofar =
    let whole = rw (is, take_first left line rest some) at sofar in
    let own = refusal_at number (fault_of (line_within rules line)) in
    rw (append_assoc before own (line_refusals rules (number + 1) (take (left - 1) rest))) whole

-- after a faulty line is found, the refusals found and those of the lines that are left are all
pub line_found :
    (rules : ScriptContext) (number left : ℕ) (line : List ℕ) (rest text : List (List ℕ)) (found after : List FaultyLine)
    (faulty : FaultyLine)
    (all : List ScriptRefusal)
    → after ≡ found ++ faulty ∷ [] → faulty.number ≡ number
    → Some (line_fault faulty.cause) ≡ option_map Some (fault_of (line_within rules line))
    → text ≡ line ∷ rest → 0 < left → map refusal_for found ++ line_refusals rules number (take left text) ≡ all
    → map refusal_for after ++ line_refusals rules (number + 1) (take (left - 1) rest) ≡ all
line_found rules number left line rest text found after faulty all pushed numbered cause is some sofar =
    let there : refusal_for faulty ∷ [] ≡ refusal_at number (fault_of (line_within rules line)) =
    rw numbered (found_there number (line_fault faulty.cause) (fault_of (line_within rules line)) cause) in
    rw (pushed, map-append refusal_for found (faulty ∷ []), there)
    (line_next rules number left line rest text (map refusal_for found) all is some sofar)

-- a line without a finding has no fault
no_fault : (fault : Option LineFault) → None ≡ option_map Some fault → fault ≡ None
no_fault None is = refl
no_fault (Some x) is = grind arith

-- after a line without a fault, the refusals found and those of the lines that are left are all
pub line_passed :
    (rules : ScriptContext) (number left : ℕ) (line : List ℕ) (rest text : List (List ℕ)) (before all : List ScriptRefusal)
    → None ≡ option_map Some (fault_of (line_within rules line)) → text ≡ line ∷ rest → 0 < left
    → before ++ line_refusals rules number (take left text) ≡ all
    → before ++ line_refusals rules (number + 1) (take (left - 1) rest) ≡ all
line_passed rules number left line rest text before all none is some sofar =
    let whole = rw (is, take_first left line rest some) at sofar in
    rw (no_fault (fault_of (line_within rules line)) none) at whole
