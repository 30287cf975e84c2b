-- The values of variables from event to event.
use Rattle.std.proofs.Common.{◌≡◌, ℕ, ◌+◌, List, [], ◌∷◌, ◌++◌, length, ap, ◌∙◌, arith, refl}
use Rattle.vme_trace.specs.declared.observation.Observation.{Observation}
use Rattle.vme_trace.specs.declared.dump.change.Code.{Code}
use Rattle.vme_trace.specs.declared.dump.change.Value.{Value}
use Rattle.vme_trace.specs.Shown.{after_event, after_events, value_after_run, value_in_run}

-- events after others, and then one more
pub after_more : (variable : Code) (boards n : ℕ) (events : List Observation) (o : Observation) (v : Value)
    → after_events variable boards n (events ++ o ∷ []) v
    ≡ after_event variable boards (n + length events + 1) o (after_events variable boards n events v)
after_more variable boards n [] o v =
    let same : n + 1 ≡ n + 0 + 1 = omega arith in ap (λ (m : ℕ). after_event variable boards m o v) same
after_more variable boards n (e ∷ events) o v =
    after_more variable boards (n + 1) events o (after_event variable boards (n + 1) e v)
    ∙ ap (λ (m : ℕ). after_event variable boards m o (after_events variable boards (n + 1) events (after_event variable boards (n + 1) e v)))
    (omega arith)

-- the value of a variable after an event is that at the event's last edge
pub value_next : (variable : Code) (boards : ℕ) (events : List Observation) (o : Observation) (v : Value)
    → value_after_run variable boards (events ++ o ∷ []) v ≡ value_in_run variable boards events o v 19
value_next variable boards events o v =
    after_more variable boards 0 events o v ∙ ap (λ (m : ℕ). after_event variable boards m o (value_after_run variable boards events v)) (omega arith)

-- some events, one more, and others
pub regroup : (events later : List Observation) (o : Observation) → (events ++ o ∷ []) ++ later ≡ events ++ o ∷ later
regroup [] later o = refl
regroup (e ∷ events) later o = ap (λ (rest : List Observation). e ∷ rest) (regroup events later o)
