use Rattle.std.specs.Prelude.{◌++◌, codes}
use Rattle.std.specs.Fmt.{decimal}
use Rattle.vme_grammar.specs.Texts.{output_line}
use Rattle.vme_trace.specs.Headers.{scope_name}
use Rattle.vme_trace.proofs.Appends.{appended, extended}
use Rattle.vme_trace.proofs.dump.header.print_scope_name.Goals as goal

pub returns : goal.returns
unfolding scope_name
returns c =
    let p1 = codes "$scope module slot" in
    let p2 = decimal c.args.slot in
    let p3 = output_line (codes " $end") in
    appended c.extend_from_slice-2.result c.args.text.now.items c.extend_from_slice.new.self.items c.extend_from_slice-2.new.self.items p1 (p2 ++ p3) c.in_ok-extend_from_slice.ensures.items
    (appended c.extend_from_slice-2.result c.extend_from_slice.new.self.items c.print_number.new.text.items c.extend_from_slice-2.new.self.items p2 p3 (rw c.from.ensures at c.in_ok-print_number.ensures.text)
    (extended c.extend_from_slice-2.result c.print_number.new.text.items c.extend_from_slice-2.new.self.items p3 c.extend_from_slice-2.ensures.items))
