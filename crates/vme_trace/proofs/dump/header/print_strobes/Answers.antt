use Rattle.std.specs.Prelude.{◌++◌, codes}
use Rattle.vme_trace.specs.declared.dump.variable.Variable.TheVariants.{FirstStrobe, SecondStrobe, Acknowledge, BusError}
use Rattle.vme_trace.specs.Headers.{strobe_text, declaration}
use Rattle.vme_trace.proofs.Appends.{appended}
use Rattle.vme_trace.proofs.dump.header.print_strobes.Goals as goal

pub returns : goal.returns
unfolding strobe_text
returns c =
    let p1 = declaration (codes "wire 1") FirstStrobe (codes "ds1_n") in
    let p2 = declaration (codes "wire 1") SecondStrobe (codes "ds0_n") in
    let p3 = declaration (codes "wire 1") Acknowledge (codes "dtack_n") in
    let p4 = declaration (codes "wire 1") BusError (codes "berr_n") in
    appended c.print_declaration-4.result c.args.text.now.items c.print_declaration.new.text.items c.print_declaration-4.new.text.items p1 (p2 ++ (p3 ++ p4)) c.in_ok-print_declaration.ensures
    (appended c.print_declaration-4.result c.print_declaration.new.text.items c.print_declaration-2.new.text.items c.print_declaration-4.new.text.items p2 (p3 ++ p4) c.in_ok-print_declaration-2.ensures
    (appended c.print_declaration-4.result c.print_declaration-2.new.text.items c.print_declaration-3.new.text.items c.print_declaration-4.new.text.items p3 p4 c.in_ok-print_declaration-3.ensures
    c.print_declaration-4.ensures))
