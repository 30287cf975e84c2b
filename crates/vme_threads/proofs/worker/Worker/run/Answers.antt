use Rattle.std.proofs.Common.{◌≡◌, ◌+◌, List, length, map, Some, ap, sym, subst, rules, arith}
use Rattle.std.specs.List.{slice_get}
use Rattle.vme_script.specs.declared.script.ScriptLine.{ScriptLine}
use Rattle.vme_line_task.specs.Scripts.{script_at}
use Rattle.vme_threads.proofs.ProcessorPasses.{fits_first, fits_after}
use Rattle.vme_threads.proofs.Places.{nil_of, map_length}
use Rattle.vme_threads.proofs.Runs.{IsScriptInProgress, script_is, script_start, script_more, some_buffer, buffer_taken, buffer_serves, script_end}
use Rattle.vme_threads.proofs.worker.Worker.run.Goals as goal

pub loop-line-init : goal.loop-line-init
loop-line-init g c =
    let config = c.args.config.now in
    let w = c.args.self in
    record {
      count = c.requires.worker.lines;
      buffers = c.requires.worker.buffers;
      capacity =
          omega (
            arith,
            c.requires.worker.lines_capacity,
            map_length (λ (one : ScriptLine). one.line) (script_at config w.processor_pass.who),
          );
      progress =
          script_start config w.processor_pass w.lines.items
          (nil_of w.lines.items (omega (arith, c.requires.worker.lines, w.lines.ok.0)));
    }

pub number-number-requires : goal.number-number-requires
number-number-requires g c =
    let config = c.args.config.now in
    let who = c.args.self.processor_pass.who in
    let script =
    script_is config who c.loop-line.processor_pass.who c.script.result.now c.loop-line.invariant.progress.made.who c.script.ensures in
    omega (
      arith,
      c.loop-line-test.true,
      c.line_count-line-end.ensures,
      map_length (λ (one : ScriptLine). one.line) (script_at config who),
      ap length script,
    )

-- the next buffer is taken
pub take-buffer-requires : goal.take-buffer-requires
take-buffer-requires g c =
    some_buffer c.args.config.now c.args.self.processor_pass.who c.loop-line.line c.loop-line.buffers
    (omega (arith, c.loop-line-test.true, c.line_count-line-end.ensures))
    c.loop-line.invariant.buffers

pub run_line-requires-clause-none : goal.run_line-requires-clause-none
run_line-requires-clause-none g c =
    (buffer_taken c.args.config.now c.args.self.processor_pass.who c.loop-line.line c.loop-line.buffers c.take-buffer.new.self
    c.take-buffer.result
    (omega (arith, c.loop-line-test.true, c.line_count-line-end.ensures)) c.loop-line.invariant.buffers
    c.take-buffer.ensures).none

pub run_line-requires-clause-capacity : goal.run_line-requires-clause-capacity
run_line-requires-clause-capacity g c =
    let config = c.args.config.now in
    let who = c.args.self.processor_pass.who in
    let n = c.loop-line.line in
    buffer_serves config who c.loop-line.processor_pass.who n c.take-buffer.result c.take-buffer.new.self
    (buffer_taken config who n c.loop-line.buffers c.take-buffer.new.self c.take-buffer.result
    (omega (arith, c.loop-line-test.true, c.line_count-line-end.ensures))
    c.loop-line.invariant.buffers c.take-buffer.ensures)
    c.loop-line.invariant.progress.made.who

pub run_line-requires-clause-fits : goal.run_line-requires-clause-fits
run_line-requires-clause-fits g c =
    let w = c.args.self in
    let ports = c.args.ports.now in
    fits_after ports _ w.processor_pass _ c.loop-line.invariant.progress.made
    (fits_first c.args.config.now ports w.processor_pass.who w c.requires.built c.requires.worker)

-- one more line has its reply
pub loop-line-preserved : goal.loop-line-preserved
loop-line-preserved g c =
    let config = c.args.config.now in
    let d = c.args.self.processor_pass in
    let progress = c.loop-line.invariant.progress in
    let number = c.number-number.result in
    let script = script_is config d.who c.loop-line.processor_pass.who c.script.result.now progress.made.who c.script.ensures in
    let numbered =
    subst (λ (lines : List ScriptLine). slice_get (map (λ (one : ScriptLine). one.number) lines) c.loop-line.line ≡ Some number)
    (sym script)
    c.number-number.ensures
    in
    record {
      count = search rules;
      capacity = search rules;
      buffers =
          (buffer_taken config d.who c.loop-line.line c.loop-line.buffers c.take-buffer.new.self c.take-buffer.result
          (omega (arith, c.loop-line-test.true, c.line_count-line-end.ensures)) c.loop-line.invariant.buffers
          c.take-buffer.ensures).after;
      progress =
          subst (IsScriptInProgress config (c.loop-line.line + 1) d c.run_line.new.self) (sym c.push_reserved.ensures.items)
          (script_more config c.loop-line.line d c.loop-line.processor_pass c.run_line.new.self c.loop-line.lines.items number
          c.in-Ok.answer progress c.in-Ok.ensures numbered);
    }

pub returns : goal.returns
returns g c =
    script_end c.args.config.now c.args.ports.now c.loop-line.line c.args.self _ c.requires.built c.requires.worker
    c.loop-line.invariant.progress
    (omega (arith, c.loop-line-test.false, c.line_count-line-end.ensures))
