use Rattle.std.proofs.Common.{◌≡◌, ◌≤◌, drop, length, vec_len, vec_capacity}
use Rattle.vme_line_task.specs.Scripts.{script_at, lines_at}
use Rattle.vme_line_task.specs.ReadBuffers.{buffers_of}
use Rattle.vme_threads.proofs.Runs.{IsScriptInProgress}
use Rattle.vme_threads.proofs.worker.Worker.run.Given as goal

-- the lines so far have their replies, and the buffers for the other lines are left
abbrev pub invariant-loop-line : goal.invariant-loop-line
invariant-loop-line g l = record {
  count : vec_len l.lines ≡ l.line;
  capacity : length (lines_at l.config l.fn.self.processor_pass.who) ≤ vec_capacity l.lines;
  buffers : l.buffers ≡ drop l.line (buffers_of (script_at l.config l.fn.self.processor_pass.who));
  progress : IsScriptInProgress l.config l.line l.fn.self.processor_pass l.processor_pass l.lines.items;
}
