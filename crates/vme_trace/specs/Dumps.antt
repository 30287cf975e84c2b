-- The text of a run.
use Rattle.std.specs.Prelude.{ℕ, ◌+◌, if◌then◌else◌, List, [], ◌∷◌, ◌++◌, length, map}
use Rattle.vme_script.specs.Configurations.{Configuration}
use Rattle.vme_trace.specs.declared.observation.Observation.{Observation}
use Rattle.vme_trace.specs.declared.dump.change.Change.{Change}
use Rattle.vme_trace.specs.declared.dump.values.Shown.{Shown}
use Rattle.vme_trace.specs.declared.progress.Selection.{Selection}
use Rattle.vme_trace.specs.declared.progress.Progress.{Progress}
use Rattle.vme_trace.specs.Observations.{observations}
use Rattle.vme_trace.specs.Changes.{event_text, end_text}
use Rattle.vme_trace.specs.Events.{event_changes}
use Rattle.vme_trace.specs.Values.{start_values, shown_after}
use Rattle.vme_trace.specs.Selections.{start_progress, comes_before, is_shown, next_progress}
use Rattle.vme_trace.specs.Headers.{header_text}

-- the changes of the next event
abbrev pub next_changes : Configuration → Progress → Observation → List Change
next_changes config p o = event_changes (length config.boards) (p.number + 1) o

-- the values of the variables after the next event, as long as none is shown
abbrev pub next_values : Configuration → Progress → Observation → List Shown → List Shown
next_values config p o values = if comes_before p then map (shown_after (next_changes config p o)) values else values

-- the header with the values of the variables, unless it is written
abbrev pub opening_text : Configuration → Progress → List Shown → List ℕ
opening_text config p values = if p.opened then [] else header_text config values

-- the text of the next event, if it is shown: the shown events take the times one after another
abbrev pub shown_event : Configuration → Progress → Observation → List ℕ
shown_event config p o = if is_shown p o then event_text (p.shown + 1) (next_changes config p o) else []

-- what the next event adds: before the events that are shown nothing
abbrev pub next_text : Configuration → Progress → List Shown → Observation → List ℕ
next_text config p values o = if comes_before p then [] else opening_text config p values ++ shown_event config p o

-- the text of the events that are left, and of the end
abbrev pub rest_text : Configuration → Progress → List Shown → List Observation → List ℕ
rest_text config p values [] = opening_text config p values ++ end_text p.shown
rest_text config p values (o ∷ events) =
    next_text config p values o ++ rest_text config (next_progress p o) (next_values config p o values) events

-- the value change dump of the selected events of turns of these slots
unfoldable pub vcd_text : Selection → Configuration → List ℕ → List ℕ
vcd_text selection config slots =
    rest_text config (start_progress selection) (start_values (length config.boards)) (observations config slots)
