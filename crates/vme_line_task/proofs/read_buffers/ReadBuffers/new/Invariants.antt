use Rattle.std.proofs.Common.{◌≡◌, ◌≤◌, length, take, vec_len, vec_capacity}
use Rattle.vme_line_task.specs.ReadBuffers.{buffers_of}
use Rattle.vme_line_task.proofs.lemmas.LineBuffers.{AreKept}
use Rattle.vme_line_task.proofs.read_buffers.ReadBuffers.new.Given as goal

-- the buffers of the lines so far, and capacity for the others
abbrev pub invariant-loop-line : goal.invariant-loop-line
invariant-loop-line l = record {
  buffers : AreKept l.are_long.items l.long.items (buffers_of (take l.line l.script));
  count : vec_len l.are_long ≡ l.line;
  place : length l.script ≤ vec_capacity l.are_long;
}
