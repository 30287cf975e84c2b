-- Grants of the bus.
use Rattle.std.specs.Prelude.{ℕ, ◌==◌, Bool, false, not, Option, Some, None}
use Rattle.std.specs.List.{list_any}
use Rattle.std.specs.Option.{option_map, option_and_then}
use Rattle.vme_arbiter.specs.Arbitration.{Arbitration}
use Rattle.vme_arbiter.specs.declared.command.ArbReply.TheVariants as arb_replies
use Rattle.vme_core.specs.declared.event.EventReply.{EventReply}
use Rattle.vme_core.specs.declared.event.EventReply.TheVariants as replies
use Rattle.vme_script.specs.Configurations.{Configuration}
use Rattle.vme_line_task.specs.Scripts.{level_at}
use Rattle.vme_stepper.specs.Turns.{board_in_slot}
use Rattle.vme_trace.specs.declared.observation.activity.Activity.{Activity}
use Rattle.vme_trace.specs.declared.observation.activity.Activity.TheVariants.{Requests, Releases}
use Rattle.vme_trace.specs.declared.observation.grant.Grant.{Grant}

-- whether a slot's request, if there is one, is on a level
abbrev pub is_on_level : ℕ → Option ℕ → Bool
is_on_level level None = false
is_on_level level (Some pending) = pending == level

-- whether a request is pending on a level
abbrev pub pends_on : Arbitration → ℕ → Bool
pends_on bus level = list_any (λ r. r.level == level) bus.pending

-- the grant to a slot, with the index of its board
abbrev pub grant : Configuration → Arbitration → ℕ → ℕ → Grant
grant config bus slot board = record {
  board = board;
  slot = slot;
  level = level_at config board;
  alone = not (pends_on bus (level_at config board));
}

-- the grant to a slot
abbrev pub grant_to : Configuration → Arbitration → ℕ → Option Grant
grant_to config bus slot = option_map (grant config bus slot) (board_in_slot config slot)

-- the grant with an event, by the arbiter after it: a request that is granted, or a release with a request pending;
-- IEEE 1014-1987, 3.3 (arbiter and requesters)
abbrev pub grant_of : Configuration → Activity → EventReply → Arbitration → Option Grant
grant_of config Requests (replies.Bus arb_replies.Granted) bus = option_and_then (grant_to config bus) bus.holder
grant_of config (Releases signals) reply bus = option_and_then (grant_to config bus) bus.holder
grant_of config activity reply bus = None
