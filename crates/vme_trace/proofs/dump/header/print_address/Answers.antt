use Rattle.std.specs.Prelude.{◌++◌, codes}
use Rattle.vme_trace.specs.declared.dump.variable.Variable.TheVariants.{AddressStrobe, AddressModifier, AddressLines, LongWord, WriteLine}
use Rattle.vme_trace.specs.Headers.{address_text, declaration}
use Rattle.vme_trace.proofs.Appends.{appended}
use Rattle.vme_trace.proofs.dump.header.print_address.Goals as goal

pub returns : goal.returns
unfolding address_text
returns c =
    let p1 = declaration (codes "wire 1") AddressStrobe (codes "as_n") in
    let p2 = declaration (codes "wire 6") AddressModifier (codes "am [5:0]") in
    let p3 = declaration (codes "wire 32") AddressLines (codes "a [31:0]") in
    let p4 = declaration (codes "wire 1") LongWord (codes "lword_n") in
    let p5 = declaration (codes "wire 1") WriteLine (codes "write_n") in
    appended c.print_declaration-5.result c.args.text.now.items c.print_declaration.new.text.items c.print_declaration-5.new.text.items p1 (p2 ++ (p3 ++ (p4 ++ p5))) c.in_ok-print_declaration.ensures
    (appended c.print_declaration-5.result c.print_declaration.new.text.items c.print_declaration-2.new.text.items c.print_declaration-5.new.text.items p2 (p3 ++ (p4 ++ p5)) c.in_ok-print_declaration-2.ensures
    (appended c.print_declaration-5.result c.print_declaration-2.new.text.items c.print_declaration-3.new.text.items c.print_declaration-5.new.text.items p3 (p4 ++ p5) c.in_ok-print_declaration-3.ensures
    (appended c.print_declaration-5.result c.print_declaration-3.new.text.items c.print_declaration-4.new.text.items c.print_declaration-5.new.text.items p4 p5 c.in_ok-print_declaration-4.ensures
    c.print_declaration-5.ensures)))
