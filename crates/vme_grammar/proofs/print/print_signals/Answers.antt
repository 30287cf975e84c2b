-- The pieces that are appended are the line of the signals.
use Rattle.std.proofs.Common.{◌≡◌, ℕ, List, [], ◌∷◌, ◌++◌, codes, append_assoc}
use Rattle.vme_lanes.specs.Rows.{row_of}
use Rattle.vme_grammar.specs.Texts.{level_text, lanes_text, printed_lanes, strobes_text, levels_text, data_text, signals_text, output_line}
use Rattle.vme_grammar.proofs.print.print_signals.Goals as goal

-- a text after an address, levels, the name of the data lines, data lanes and LF
line_parts :
    (t0 t1 t2 t3 t4 address levels lanes strobes write name : List ℕ)
    → t1 ≡ t0 ++ address → t2 ≡ t1 ++ levels → levels ≡ strobes ++ (write ++ name) → t3 ≡ t2 ++ lanes → t4 ≡ t3 ++ 10 ∷ []
    → t4 ≡ t0 ++ output_line (address ++ ((strobes ++ write) ++ (name ++ lanes)))
line_parts t0 t1 t2 t3 t4 address levels lanes strobes write name e1 e2 is e3 e4 = rw (e4, e3, e2, is, e1) (simp append_assoc)

pub returns-clause-text : goal.returns-clause-text
unfolding signals_text levels_text data_text
returns-clause-text c =
    let line = line_parts c.reserve.new.self.items c.push_text.new.text.items c.push_text-2.new.text.items c.push_lanes.new.text.items
    c.push_text-3.new.text.items c.address_text.result c.levels_text.result.now
    (lanes_text (printed_lanes c.wide.result c.lines.result.lanes)) (strobes_text (row_of c.location.result).strobes) (level_text (codes " write=") c.write.result) (codes " data=")
    c.push_text.ensures.items c.push_text-2.ensures.items c.levels_text.ensures c.push_lanes.ensures.items
    c.push_text-3.ensures.items in
    cc (line, c.address_text.ensures, c.reserve.ensures.items)
