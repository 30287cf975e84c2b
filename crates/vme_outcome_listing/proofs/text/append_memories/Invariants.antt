use Rattle.std.proofs.Common.{◌≡◌, ◌++◌, drop}
use Rattle.vme_states.specs.BareStates.{bare_outcome}
use Rattle.vme_outcome_listing.specs.Texts.{slots_of, memories_text}
use Rattle.vme_outcome_listing.proofs.text.append_memories.Given as goal

-- the text so far, with that of the memories that are left, is the whole text
abbrev pub invariant-loop-board : goal.invariant-loop-board
invariant-loop-board l =
    l.text.items ++ memories_text (drop l.board (slots_of l.config)) (drop l.board (bare_outcome l.state).memories)
    ≡ l.fn.text.items ++ memories_text (slots_of l.config) (bare_outcome l.state).memories
