use Rattle.std.proofs.Common.{◌≡◌, ℕ, List, [], ◌++◌, ap, subst, rules}
use Rattle.vme_io.specs.Prefixes.{AppendsPrefix}
use Rattle.vme_io.proofs.lemmas.Gathering.{so_far_written, so_far_unwritten}
use Rattle.vme_stepper.specs.Schedules.{file_turns}
use Rattle.vme_trace.specs.Dumps.{vcd_text}
use Rattle.vme_trace.proofs.Tracing.{so_far_over}
use Rattle.vme_trace.proofs.trace.write_trace.Goals as goal

pub returns-in_err-trace_turns-clause-prefix : goal.returns-in_err-trace_turns-clause-prefix
returns-in_err-trace_turns-clause-prefix g c =
    let whole : List ℕ = vcd_text c.args.selection c.args.config.now (file_turns c.args.config.now) in
    let none : c.in_ok-text.text.items ≡ [] = search rules in
    let prefix : AppendsPrefix (g.W.Sink.contents c.args.writer.now) (g.W.Sink.contents c.trace_turns.new.writer) whole
    = subst (λ (t : List ℕ). AppendsPrefix (g.W.Sink.contents c.args.writer.now) (g.W.Sink.contents c.trace_turns.new.writer) (t ++ whole))
    none c.in_err-trace_turns.ensures.gathers in
    search rules

pub returns-in_err-write_all-clause-prefix : goal.returns-in_err-write_all-clause-prefix
returns-in_err-write_all-clause-prefix g c =
    let whole : List ℕ = vcd_text c.args.selection c.args.config.now (file_turns c.args.config.now) in
    let none : c.in_ok-text.text.items ≡ [] = search rules in
    let all = so_far_over _ _ _ _ _ _ c.in_ok-trace_turns.ensures.gathers (ap (λ (t : List ℕ). t ++ whole) none) in
    let prefix : AppendsPrefix (g.W.Sink.contents c.args.writer.now) (g.W.Sink.contents c.write_all.new.writer) whole
    = so_far_unwritten _ _ _ _ _ all (rw c.as_slice.ensures.value at c.in_err-write_all.ensures.prefix) in
    search rules

pub returns-clause-text : goal.returns-clause-text
returns-clause-text g c =
    let whole : List ℕ = vcd_text c.args.selection c.args.config.now (file_turns c.args.config.now) in
    let none : c.in_ok-text.text.items ≡ [] = search rules in
    let all = so_far_over _ _ _ _ _ _ c.in_ok-trace_turns.ensures.gathers (ap (λ (t : List ℕ). t ++ whole) none) in
    so_far_written _ _ _ _ _ all (rw c.as_slice.ensures.value at c.in_ok-write_all.ensures.bytes)
