use Rattle.std.proofs.Common.{◌≡◌, ◌≤◌, length, map, take, vec_len, vec_capacity}
use Rattle.vme_shared.specs.declared.reply.LineReply.TheVariants.{Unfinished}
use Rattle.vme_stepper.proofs.processor.Processor.new.Given as goal

-- the lines so far are unfinished, and there is capacity for the others
abbrev pub invariant-loop-j : goal.invariant-loop-j
invariant-loop-j l = record {
  lines : l.lines.items ≡ map (λ line. (line.number, Unfinished)) (take l.j l.script);
  count : vec_len l.lines ≡ l.j;
  capacity : length l.script ≤ vec_capacity l.lines;
}
