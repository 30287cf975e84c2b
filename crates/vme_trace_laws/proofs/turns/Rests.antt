-- A variable that each event leaves at rest is at rest after a run.
use Rattle.std.proofs.Common.{◌≡◌, ℕ, ◌+◌, List, [], ◌∷◌, refl, ap, ◌∙◌}
use Rattle.vme_trace.specs.declared.observation.Observation.{Observation}
use Rattle.vme_trace.specs.declared.dump.change.Code.{Code}
use Rattle.vme_trace.specs.declared.dump.change.Value.{Value}
use Rattle.vme_trace.specs.Shown.{after_event, after_events}

-- after some events the variable is at rest
pub run_rests : (variable : Code) (boards : ℕ) (rest : Value) → ((n : ℕ) (o : Observation) → after_event variable boards n o rest ≡ rest)
    → (n : ℕ) (events : List Observation) → after_events variable boards n events rest ≡ rest
run_rests variable boards rest each n [] = refl
run_rests variable boards rest each n (o ∷ events) =
    ap (after_events variable boards (n + 1) events) (each (n + 1) o) ∙ run_rests variable boards rest each (n + 1) events
