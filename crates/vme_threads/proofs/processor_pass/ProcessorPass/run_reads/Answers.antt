use Rattle.std.proofs.Common.{[], ap, sym, false, refl, ◌∙◌, ◌≡◌, arith}
use Rattle.std.proofs.lemmas.Bool.{lt-ltb}
use Rattle.vme_master.specs.declared.phase.Phase.TheVariants.{Requesting}
use Rattle.vme_line_task.specs.Tables.{asks_again}
use Rattle.vme_threads.specs.Reads.{job_of, read_task, phase_ended}
use Rattle.vme_threads.proofs.ReadRuns.{runs_fit}
use Rattle.vme_threads.proofs.ReadLines.{await_more, await_end, not_more}
use Rattle.vme_threads.proofs.processor_pass.ProcessorPass.run_reads.Goals as goal

pub loop-init : goal.loop-init
loop-init g c = record { fits = c.requires.fits; boards = refl; progress = λ config line before at. at }

-- another read begins
pub loop-preserved-else-not-has_to_read_again : goal.loop-preserved-else-not-has_to_read_again
loop-preserved-else-not-has_to_read_again g c =
    let job = job_of c.args.read.now in
    record {
      fits =
          runs_fit c.args.ports.now (read_task job Requesting [])
          (read_task job (phase_ended c.in_ok-end.end) c.run_read.new.bytes.items) c.loop.self c.run_read.new.self
          c.in_ok-end.ensures.runs c.loop.invariant.fits;
      boards = c.in_ok-end.ensures.runs.made.boards ∙ c.loop.invariant.boards;
      progress = λ config line before at.
          await_more config line before c.loop.self c.run_read.new.self job c.args.want.now c.run_read.new.bytes.items
          c.args.read.now.form.n c.loop.left c.in_ok-end.end c.args.read.now.is.expected
          (sym c.has_to_read_again.ensures ∙ c.if-not-has_to_read_again.false) (lt-ltb 1 c.loop.left (omega (arith, c.if-left-le1.false)))
          c.in_ok-end.ensures.runs (c.loop.invariant.progress config line before at);
    }

-- another read begins after a pause
pub loop-preserved : goal.loop-preserved
loop-preserved g c =
    let job = job_of c.args.read.now in
    record {
      fits =
          runs_fit c.args.ports.now (read_task job Requesting [])
          (read_task job (phase_ended c.in_ok-end.end) c.run_read.new.bytes.items) c.loop.self c.run_read.new.self
          c.in_ok-end.ensures.runs c.loop.invariant.fits;
      boards = c.in_ok-end.ensures.runs.made.boards ∙ c.loop.invariant.boards;
      progress = λ config line before at.
          await_more config line before c.loop.self c.run_read.new.self job c.args.want.now c.run_read.new.bytes.items
          c.args.read.now.form.n c.loop.left c.in_ok-end.end c.args.read.now.is.expected
          (sym c.has_to_read_again.ensures ∙ c.if-not-has_to_read_again.false) (lt-ltb 1 c.loop.left (omega (arith, c.if-left-le1.false)))
          c.in_ok-end.ensures.runs (c.loop.invariant.progress config line before at);
    }

-- it was the last read
pub returns-then-left-le1 : goal.returns-then-left-le1
returns-then-left-le1 g c = λ config line before at.
    await_end config line before c.loop.self c.run_read.new.self (job_of c.args.read.now) c.args.want.now c.run_read.new.bytes.items
    c.args.read.now.form.n c.loop.left c.in_ok-end.end c.reply_of.result c.args.read.now.is.expected (sym c.reply_of.ensures)
    (not_more (asks_again c.reply_of.result) c.loop.left (omega (arith, c.if-left-le1.true))) c.in_ok-end.ensures.runs (c.loop.invariant.progress config line before at)

-- the bytes are those that the line waits for, or the read failed
pub returns-then-not-has_to_read_again : goal.returns-then-not-has_to_read_again
returns-then-not-has_to_read_again g c =
    let none : asks_again c.reply_of-then-not-has_to_read_again.result ≡ false =
    ap asks_again c.reply_of-then-not-has_to_read_again.ensures ∙ sym c.has_to_read_again.ensures ∙ c.if-not-has_to_read_again.true in
    λ config line before at.
    await_end config line before c.loop.self c.run_read.new.self (job_of c.args.read.now) c.args.want.now c.run_read.new.bytes.items
    c.args.read.now.form.n c.loop.left c.in_ok-end.end c.reply_of-then-not-has_to_read_again.result c.args.read.now.is.expected (sym c.reply_of-then-not-has_to_read_again.ensures)
    (rw none refl) c.in_ok-end.ensures.runs (c.loop.invariant.progress config line before at)
