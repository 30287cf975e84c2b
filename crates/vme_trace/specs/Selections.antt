-- Which events a dump shows.
use Rattle.std.specs.Prelude.{ℕ, ◌+◌, nat_le, nat_lt, Bool, true, false, not, ◌&&◌, ◌||◌, if◌then◌else◌}
use Rattle.vme_arbiter.specs.declared.command.ArbReply.{ArbReply}
use Rattle.vme_arbiter.specs.declared.command.ArbReply.TheVariants as arb_replies
use Rattle.vme_core.specs.declared.event.EventReply.{EventReply}
use Rattle.vme_core.specs.declared.event.EventReply.TheVariants as replies
use Rattle.vme_trace.specs.declared.observation.activity.Activity.{Activity}
use Rattle.vme_trace.specs.declared.observation.activity.Activity.TheVariants.{Polls}
use Rattle.vme_trace.specs.declared.observation.Observation.{Observation}
use Rattle.vme_trace.specs.declared.progress.Selection.{Selection}
use Rattle.vme_trace.specs.declared.progress.Progress.{Progress}

-- whether a reply grants the bus
abbrev pub is_granted : EventReply → Bool
is_granted (replies.Bus arb_replies.Granted) = true
is_granted reply = false

-- whether an activity with its reply is a poll that waits
abbrev pub poll_waits : Activity → EventReply → Bool
poll_waits Polls reply = not (is_granted reply)
poll_waits activity reply = false

-- whether an event is a poll that waits
abbrev pub waits : Observation → Bool
waits o = poll_waits o.activity o.reply

-- how far a dump is before the first event
abbrev pub start_progress : Selection → Progress
start_progress selection = record { selection = selection; number = 0; shown = 0; opened = false }

-- whether the next event comes before those that are shown
abbrev pub comes_before : Progress → Bool
comes_before p = nat_lt (p.number + 1) p.selection.range.first

-- whether the next event is shown
abbrev pub is_shown : Progress → Observation → Bool
is_shown p o =
    nat_le p.selection.range.first (p.number + 1)
    && nat_le (p.number + 1) p.selection.range.last
    && (p.selection.polls || not (waits o))

-- how far a dump is after the next event
abbrev pub next_progress : Progress → Observation → Progress
next_progress p o = record p {
  number = p.number + 1;
  shown = if is_shown p o then p.shown + 1 else p.shown;
  opened = p.opened || not (comes_before p);
}
