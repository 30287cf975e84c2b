use Rattle.std.proofs.Common.{List}
use Rattle.vme_core.specs.declared.event.EventReply.{EventReply}
use Rattle.vme_processor.specs.Runs.{Follows}
use Rattle.vme_processor.proofs.processor.Processor.run.Given as goal

-- the steps so far had an event each
abbrev pub invariant-loop : goal.invariant-loop
invariant-loop l = (replies : List EventReply) × Follows replies l.fn.self l.self
