-- Samples taken one after another.
use Rattle.std.proofs.Common.{◌≡◌, ℕ, Bool, true, false, ◌==◌, List, ◌++◌, Option, Some, None, Result, Ok, Err, IfOk, IsNone, IsSome, is_none, is_some, refl, ap, sym, ◌∙◌}
use Rattle.std.specs.Prelude.{string_bytes}
use Rattle.std.specs.List.{position}
use Rattle.std.specs.declared.alloc.AllocError.{AllocError}
use Rattle.vme_protocol.specs.declared.port.Local.{Local}
use Rattle.vme_protocol.specs.declared.sample.Sample.{Sample}
use Rattle.vme_vcd_reader.specs.declared.control.ControlLine.{ControlLine}
use Rattle.vme_judge.specs.declared.counts.Counts.{Counts}
use Rattle.vme_judge.specs.declared.finding.Finding.{Finding}
use Rattle.vme_judge.specs.declared.judge.Judge.{Judge}
use Rattle.vme_judge.specs.declared.judge.Spot.{Spot}
use Rattle.vme_judge.specs.LogLines.{access_printed}
use Rattle.vme_judge.specs.Logs.{access_judged, access_taken, accessed}
use Rattle.vme_judge.specs.Standing.{Course, Standing, course_then, found_by, sample_judged, sample_taken, standing, stands, state_of}

-- a trace of which nothing was found goes on
then_by : (f : Standing → Course) (finding new : Option Finding) (m n : Standing) → IsNone finding → found_by new n ≡ f m
    → found_by new n ≡ course_then f (found_by finding m)
then_by f None new m n none is = is
then_by f (Some finding) new m n none is = absurd (cc none)

-- whether a trace stands, by what is found
pub stands_by : (finding : Option Finding) (m : Standing) → stands (found_by finding m) ≡ is_none finding
stands_by None m = refl
stands_by (Some finding) m = refl

-- a trace after a sample
pub stands_then : (old new : Judge) (spot : Spot) (undefined : Option ControlLine) (s : Sample) (result : Result Bool AllocError)
    → IsNone old.finding
    → IfOk result (λ _. IsNone old.finding → found_by new.finding (state_of new) ≡ sample_judged spot undefined s (state_of old) old.watch)
    → IfOk result (λ _. standing new ≡ course_then (sample_taken spot undefined s) (standing old))
unfolding standing sample_taken
stands_then old new spot undefined s (Err fault) none step = tt
stands_then old new spot undefined s (Ok legal) none step =
    then_by (sample_taken spot undefined s) old.finding new.finding (state_of old) (state_of new) none (step none)

-- whether a trace stands after it
pub goes_then : (old new : Judge) (result : Result Bool AllocError) → IsNone old.finding
    → IfOk result (λ legal. IsNone old.finding → legal ≡ is_none new.finding) → IfOk result (λ legal. legal ≡ stands (standing new))
unfolding standing
goes_then old new (Err fault) none legal = tt
goes_then old new (Ok is) none legal = legal none ∙ sym (stands_by new.finding (state_of new))

-- a trace that has fallen takes nothing further
fallen_by : (f : Standing → Course) (finding : Option Finding) (m : Standing) → IsSome finding
    → found_by finding m ≡ course_then f (found_by finding m)
fallen_by f None m some = absurd (cc some)
fallen_by f (Some finding) m some = refl

-- a judgement that has a finding takes nothing further
pub fallen_stays : (judge : Judge) (f : Standing → Course) → IsSome judge.finding → standing judge ≡ course_then f (standing judge)
unfolding standing
fallen_stays judge f some = fallen_by f judge.finding (state_of judge) some

-- it does not stand
not_standing : (finding : Option Finding) (m : Standing) → IsSome finding → false ≡ stands (found_by finding m)
not_standing None m some = absurd (cc some)
not_standing (Some finding) m some = refl

-- a judgement that has a finding does not stand
pub fallen_is : (judge : Judge) → IsSome judge.finding → false ≡ stands (standing judge)
unfolding standing
fallen_is judge some = not_standing judge.finding (state_of judge) some

-- a trace after a local access
pub accessed_then : (old mid new : Judge) (spot : Spot) (slot : ℕ) (a : Local) (board : Option ℕ) → IsNone old.finding
    → state_of mid ≡ accessed spot slot a (state_of old) → mid.finding ≡ old.finding
    → board ≡ position (λ board. board.slot == slot) old.boards.now
    → (IsNone mid.finding → found_by new.finding (state_of new) ≡ access_judged spot slot a (state_of mid) board mid.answers)
    → standing new ≡ course_then (access_taken spot slot a) (standing old)
unfolding standing access_taken
accessed_then old mid new spot slot a board none state finding is access =
    then_by (access_taken spot slot a) old.finding new.finding (state_of old) (state_of new) none
    (access (ap is_some finding ∙ none)
    ∙ ap (λ board. access_judged spot slot a (state_of mid) board mid.answers) is
    ∙ ap (λ (m : Standing). access_judged spot slot a m (position (λ board. board.slot == slot) old.boards.now) m.answers) state)

-- whether a trace stands after a local access
pub goes_accessed : (old mid new : Judge) (legal : Bool) → IsNone old.finding → mid.finding ≡ old.finding
    → (IsNone mid.finding → legal ≡ is_none new.finding) → legal ≡ stands (standing new)
unfolding standing
goes_accessed old mid new legal none finding is = is (ap is_some finding ∙ none) ∙ sym (stands_by new.finding (state_of new))
