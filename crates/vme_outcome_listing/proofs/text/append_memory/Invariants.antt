use Rattle.std.proofs.Common.{◌≡◌, ◌-◌, ◌/◌, ◌%◌, ◌++◌, length}
use Rattle.vme_report.specs.Texts.{memory_text}
use Rattle.vme_outcome_listing.proofs.Texts.{rows_from}
use Rattle.vme_outcome_listing.proofs.text.append_memory.Given as goal

-- the rows so far, with those that are left, are the whole text
abbrev pub invariant-loop-row : goal.invariant-loop-row
invariant-loop-row l = (l.offset % 16 ≡ 0)
    × (l.text.items ++ rows_from l.slot l.memory.bytes (l.offset / 16) ≡ l.fn.text.items ++ memory_text l.slot l.memory.bytes)

-- the bytes that are left
abbrev pub decreases-loop-row : goal.decreases-loop-row
decreases-loop-row l = length l.memory.bytes - l.offset
