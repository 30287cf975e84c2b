use Rattle.std.proofs.Common.{◌≡◌, ◌+◌, ◌-◌, ◌++◌, take, drop}
use Rattle.vme_grammar.specs.Texts.{hex_text}
use Rattle.vme_outcome_listing.proofs.place.append_memory_bytes.Given as goal

-- the digits so far, with those of the bytes that are left, are all
abbrev pub invariant-loop-at : goal.invariant-loop-at
invariant-loop-at l =
    l.text.items ++ hex_text (take (l.count - l.at) (drop (l.offset + l.at) l.memory.bytes))
    ≡ l.fn.text.items ++ hex_text (take l.count (drop l.offset l.memory.bytes))
