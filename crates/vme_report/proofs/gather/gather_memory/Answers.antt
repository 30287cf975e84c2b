-- One more row is gathered; if the sink fails, a prefix of the memory's text was written.
use Rattle.std.proofs.Common.{◌<◌, ◌+◌, ◌-◌, ◌*◌, ◌++◌, refl, arith, rules}
use Rattle.std.specs.List.{flat_map, range_with_len}
use Rattle.vme_io.specs.Prefixes.{AppendsPrefix}
use Rattle.vme_report.specs.Texts.{dump_row, row_text, row_count, memory_text}
use Rattle.vme_io.proofs.lemmas.Gathering.{so_far_more, so_far_fails}
use Rattle.vme_report.proofs.FirstParts.{row_first}
use Rattle.vme_report.proofs.gather.gather_memory.Goals as goal

pub returns-in_err-gather_row-clause-gathers : goal.returns-in_err-gather_row-clause-gathers
returns-in_err-gather_row-clause-gathers g c =
    let bytes = c.args.memory.now.bytes in
    let within : c.loop-i.i < row_count bytes = omega (arith, c.loop-i-test.true, c.div_ceil-i-end.ensures, c.size.ensures.value) in
    let first = row_first c.args.slot c.loop-i.i bytes (dump_row bytes c.loop-i.i) within refl in
    let prefix : AppendsPrefix (g.W.Sink.contents c.args.writer.now) (g.W.Sink.contents c.gather_row.new.writer)
    (c.args.text.now.items ++ memory_text c.args.slot bytes)
    = so_far_fails _ _ _ _ (row_text c.args.slot (16 * c.loop-i.i) (dump_row bytes c.loop-i.i)) _
    (flat_map (λ k. row_text c.args.slot (16 * k) (dump_row bytes k)) (range_with_len (c.loop-i.i + 1) (row_count bytes - (c.loop-i.i + 1)))) _
    c.loop-i.invariant.reported first c.in_err-gather_row.ensures.gathers in
    search rules

pub loop-i-preserved : goal.loop-i-preserved
loop-i-preserved g c =
    let bytes = c.args.memory.now.bytes in
    let within : c.loop-i.i < row_count bytes = omega (arith, c.loop-i-test.true, c.div_ceil-i-end.ensures, c.size.ensures.value) in
    let first = row_first c.args.slot c.loop-i.i bytes (dump_row bytes c.loop-i.i) within refl in
    record {
      reported = so_far_more _ _ _ _ _ (row_text c.args.slot (16 * c.loop-i.i) (dump_row bytes c.loop-i.i)) _
          (flat_map (λ k. row_text c.args.slot (16 * k) (dump_row bytes k)) (range_with_len (c.loop-i.i + 1) (row_count bytes - (c.loop-i.i + 1)))) _
          c.loop-i.invariant.reported first c.in_ok-gather_row.ensures.gathers;
      mark = c.in_ok-gather_row.ensures.write;
    }
