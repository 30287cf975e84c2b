use Rattle.std.proofs.Common.{◌≡◌, ◌++◌, drop}
use Rattle.vme_states.specs.BareStates.{bare_outcome}
use Rattle.vme_outcome_listing.specs.Texts.{slots_of}
use Rattle.vme_stuck.specs.Waits.{waits_text}
use Rattle.vme_stuck.proofs.wait.append_waits.Given as goal

-- the text so far, with that of the scripts that are left, is the whole text
abbrev pub invariant-loop-board : goal.invariant-loop-board
invariant-loop-board l =
    l.text.items ++ waits_text (drop l.board (slots_of l.config)) (drop l.board l.config.scripts) (drop l.board (bare_outcome l.state).answers)
    ≡ l.fn.text.items ++ waits_text (slots_of l.config) l.config.scripts (bare_outcome l.state).answers
