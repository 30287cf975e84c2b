use Rattle.std.proofs.Common.{rules, ◌≡◌, length, get_or, ap, Ok, ne_eqb, refl}
use Rattle.std.specs.Prelude.{not}
use Rattle.vme_serve.proofs.Reading.{one_byte, so_far_more, taken, left_over}
use Rattle.vme_serve.proofs.input.read_line.Goals as goal

pub returns-then-count-eq0-clause-line : goal.returns-then-count-eq0-clause-line
returns-then-count-eq0-clause-line g c =
    left_over (g.R.Source.remaining c.args.reader.now) (g.R.Source.remaining c.loop-byte.reader) (g.R.Source.remaining c.read.new.self)
    c.loop-byte.line.items (not c.is_empty.result) c.loop-byte.invariant.so_far
    (rw c.if-count-eq0.true at c.in-Ok.ensures.bytes) (c.in-Ok.ensures.end (ap Ok c.if-count-eq0.true)) (ap not c.is_empty.ensures)

pub returns-then-byte-eq-LINE_END-clause-line : goal.returns-then-byte-eq-LINE_END-clause-line
returns-then-byte-eq-LINE_END-clause-line g c =
    let len : length c.read.new.buffer ≡ 1 = search rules in
    taken (g.R.Source.remaining c.args.reader.now) (g.R.Source.remaining c.loop-byte.reader) (g.R.Source.remaining c.read.new.self)
    c.loop-byte.line.items c.drop_return.new.line.items c.loop-byte.invariant.so_far
    (rw (one_byte c.in-Ok.count c.read.new.buffer 10 len c.in-Ok.ensures.count c.if-count-eq0.false c.if-byte-eq-LINE_END.true)
    at c.in-Ok.ensures.bytes) c.drop_return.ensures

pub loop-byte-preserved : goal.loop-byte-preserved
loop-byte-preserved g c =
    let len : length c.read.new.buffer ≡ 1 = search rules in
    let byte = get_or c.read.new.buffer 0 0 in
    record {
      so_far = so_far_more (g.R.Source.remaining c.args.reader.now) (g.R.Source.remaining c.loop-byte.reader)
          (g.R.Source.remaining c.read.new.self) c.loop-byte.line.items c.keep.new.line.items byte c.loop-byte.invariant.so_far
          (rw (one_byte c.in-Ok.count c.read.new.buffer byte len c.in-Ok.ensures.count c.if-count-eq0.false refl) at c.in-Ok.ensures.bytes)
          (ne_eqb byte 10 c.if-byte-eq-LINE_END.false) c.keep.ensures;
      mark = cc (c.in-Ok.ensures.unmarked, c.loop-byte.invariant.mark);
    }
