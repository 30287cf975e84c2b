use Rattle.std.proofs.Common.{◌≡◌, ◌-◌, length, drop, None}
use Rattle.vme_core.specs.Runs.{Machine}
use Rattle.vme_line_task.specs.Scripts.{script_at, lines_at}
use Rattle.vme_line_task.specs.ReadBuffers.{buffers_of}
use Rattle.vme_stepper.specs.Steppers.{processor_turn}
use Rattle.vme_stepper.specs.Lines.{processor_begun}
use Rattle.vme_stepper.proofs.processor.Processor.seek.Given as goal

-- a turn from here is the turn from the start, no line has started, and each line that is left has its buffer
abbrev pub invariant-loop-self : goal.invariant-loop-self
invariant-loop-self l = record {
  script : l.self-inside.script.now ≡ script_at l.config l.board;
  idle : l.self-inside.task ≡ None;
  lines : length l.self-inside.lines.items ≡ length (lines_at l.config l.board);
  buffers : l.self-inside.buffers ≡ drop l.self-inside.ended (buffers_of (script_at l.config l.board));
  turn : (machine : Machine)
      → processor_turn l.config l.board machine
      (record { script = l.self-inside.script.now; lines = l.self-inside.lines.items; ended = l.self-inside.ended; at = None })
      ≡ processor_turn l.config l.board machine l.fn.self;
  begun : processor_begun l.config l.board
      (record { script = l.self-inside.script.now; lines = l.self-inside.lines.items; ended = l.self-inside.ended; at = None })
      ≡ processor_begun l.config l.board l.fn.self;
}

abbrev pub decreases-loop-self : goal.decreases-loop-self
decreases-loop-self l = length l.self-inside.lines.items - l.self-inside.ended
