use Rattle.std.specs.Prelude.{◌++◌, codes}
use Rattle.vme_trace.specs.declared.dump.variable.Variable.TheVariants.{EventNumber, EventSlot, Holder, BusBusy, BusRequest}
use Rattle.vme_trace.specs.Headers.{arbitration_text, declaration}
use Rattle.vme_trace.proofs.Appends.{appended}
use Rattle.vme_trace.proofs.dump.header.print_arbitration.Goals as goal

pub returns : goal.returns
unfolding arbitration_text
returns c =
    let p1 = declaration (codes "integer 32") EventNumber (codes "event") in
    let p2 = declaration (codes "integer 32") EventSlot (codes "slot") in
    let p3 = declaration (codes "integer 32") Holder (codes "holder") in
    let p4 = declaration (codes "wire 1") BusBusy (codes "bbsy_n") in
    let p5 = declaration (codes "wire 1") (BusRequest 3) (codes "br3_n") in
    let p6 = declaration (codes "wire 1") (BusRequest 2) (codes "br2_n") in
    let p7 = declaration (codes "wire 1") (BusRequest 1) (codes "br1_n") in
    let p8 = declaration (codes "wire 1") (BusRequest 0) (codes "br0_n") in
    appended c.print_declaration-8.result c.args.text.now.items c.print_declaration.new.text.items c.print_declaration-8.new.text.items p1 (p2 ++ (p3 ++ (p4 ++ (p5 ++ (p6 ++ (p7 ++ p8)))))) c.in_ok-print_declaration.ensures
    (appended c.print_declaration-8.result c.print_declaration.new.text.items c.print_declaration-2.new.text.items c.print_declaration-8.new.text.items p2 (p3 ++ (p4 ++ (p5 ++ (p6 ++ (p7 ++ p8))))) c.in_ok-print_declaration-2.ensures
    (appended c.print_declaration-8.result c.print_declaration-2.new.text.items c.print_declaration-3.new.text.items c.print_declaration-8.new.text.items p3 (p4 ++ (p5 ++ (p6 ++ (p7 ++ p8)))) c.in_ok-print_declaration-3.ensures
    (appended c.print_declaration-8.result c.print_declaration-3.new.text.items c.print_declaration-4.new.text.items c.print_declaration-8.new.text.items p4 (p5 ++ (p6 ++ (p7 ++ p8))) c.in_ok-print_declaration-4.ensures
    (appended c.print_declaration-8.result c.print_declaration-4.new.text.items c.print_declaration-5.new.text.items c.print_declaration-8.new.text.items p5 (p6 ++ (p7 ++ p8)) c.in_ok-print_declaration-5.ensures
    (appended c.print_declaration-8.result c.print_declaration-5.new.text.items c.print_declaration-6.new.text.items c.print_declaration-8.new.text.items p6 (p7 ++ p8) c.in_ok-print_declaration-6.ensures
    (appended c.print_declaration-8.result c.print_declaration-6.new.text.items c.print_declaration-7.new.text.items c.print_declaration-8.new.text.items p7 p8 c.in_ok-print_declaration-7.ensures
    c.print_declaration-8.ensures))))))
