-- What a viewer shows of a dump: the value of each variable at each edge of an event, and after the events of a run.
use Rattle.std.specs.Prelude.{ℕ, zero, suc, ◌+◌, nat_le, nat_lt, Bool, false, ◌==◌, ◌&&◌, if◌then◌else◌, List, [], ◌∷◌, length, Option, Some, None, is_none}
use Rattle.vme_trace.specs.declared.observation.Observation.{Observation}
use Rattle.vme_trace.specs.declared.dump.change.Code.{Code}
use Rattle.vme_trace.specs.declared.dump.change.Change.{Change}
use Rattle.vme_trace.specs.declared.dump.change.Value.{Value}
use Rattle.vme_trace.specs.declared.dump.edge.TheConstants.{END}
use Rattle.vme_trace.specs.Events.{event_changes}

-- whether a second letter of a code is a variable's
abbrev pub is_letter : Option ℕ → Option ℕ → Bool
is_letter None found = is_none found
is_letter (Some letter) None = false
is_letter (Some letter) (Some found) = found == letter

-- whether a code is that of a variable
abbrev pub is_code : Code → Code → Bool
is_code variable code = is_letter variable.second code.second && code.first == variable.first

-- whether a change is one of this variable at this edge
abbrev pub is_at : Code → ℕ → Change → Bool
is_at variable k c = is_code variable c.code && c.edge == k

-- whether a change is one of a variable from an edge on, and before an end
abbrev pub is_due : Code → ℕ → ℕ → Change → Bool
is_due code edge end c = is_code code c.code && nat_le edge c.edge && nat_lt c.edge end

-- the value of a variable after the changes of an edge, by its value before them
unfoldable pub value_after : Code → ℕ → List Change → Value → Value
value_after variable k [] before = before
value_after variable k (c ∷ changes) before = value_after variable k changes (if is_at variable k c then c.value else before)

-- the value of a variable at an edge of an event, by its value before the event
unfoldable pub value_at : Code → List Change → Value → ℕ → Value
value_at variable changes before zero = value_after variable 0 changes before
value_at variable changes before (suc k) = value_after variable (suc k) changes (value_at variable changes before k)

-- the value of a variable after so many edges of an event from one on, by its value before them
unfoldable pub value_over : Code → List Change → ℕ → ℕ → Value → Value
value_over variable changes edge zero before = before
value_over variable changes edge (suc count) before =
    value_over variable changes (suc edge) count (value_after variable edge changes before)

-- the value of a variable after event n on a backplane with so many boards, by its value before the event
abbrev pub after_event : Code → ℕ → ℕ → Observation → Value → Value
after_event variable boards n o before = value_at variable (event_changes boards n o) before END

-- the value of a variable after events that follow n others
abbrev pub after_events : Code → ℕ → ℕ → List Observation → Value → Value
after_events variable boards n [] before = before
after_events variable boards n (o ∷ events) before =
    after_events variable boards (n + 1) events (after_event variable boards (n + 1) o before)

-- the value of a variable after the first events of a run, by its value before them
abbrev pub value_after_run : Code → ℕ → List Observation → Value → Value
value_after_run variable boards events before = after_events variable boards 0 events before

-- the value of a variable at an edge of the event that follows the first events of a run
abbrev pub value_in_run : Code → ℕ → List Observation → Observation → Value → ℕ → Value
value_in_run variable boards events o before k =
    value_at variable (event_changes boards (length events + 1) o) (value_after_run variable boards events before) k
