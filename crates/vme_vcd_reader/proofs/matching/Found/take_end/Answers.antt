use Rattle.std.proofs.Common.{◌≡◌, ◌++◌, ◌∷◌, [], sym, ◌∙◌}
use Rattle.vme_line_map.specs.Variables.{shown}
use Rattle.vme_vcd_reader.specs.declared.matching.Fit.TheVariants as fits
use Rattle.vme_vcd_reader.specs.Found.{best_fit}
use Rattle.vme_vcd_reader.specs.Mapping.{declaration_of}
use Rattle.vme_vcd_reader.specs.Matches.{named_by}
use Rattle.vme_vcd_reader.proofs.Finding.{holds_none}
use Rattle.vme_vcd_reader.proofs.Fitting.{becomes_worse, becomes_end, becomes_first}
use Rattle.vme_vcd_reader.proofs.Matchings.{found_then}
use Rattle.vme_vcd_reader.proofs.matching.Found.take_end.Goals as goal

pub returns-in-Whole : goal.returns-in-Whole
returns-in-Whole c = λ ds fits_so found.
    let w = shown c.args.wanted.now in
    let d = declaration_of c.args.declared.now in
    let best : best_fit w.name ds ≡ fits.Whole = sym found.fit ∙ c.in-Whole.is in
    found_then ds d w c.args.self.now (named_by w.name ds) fits.Whole (becomes_worse w.name ds d fits_so best) c.in-Whole.is found.holds

pub returns-in_ok-add-in-End : goal.returns-in_ok-add-in-End
returns-in_ok-add-in-End c = λ ds fits_so found.
    let w = shown c.args.wanted.now in
    let d = declaration_of c.args.declared.now in
    let best : best_fit w.name ds ≡ fits.End = sym found.fit ∙ c.in-End.is in
    found_then ds d w c.add.new.self (named_by w.name ds ++ d ∷ []) fits.End (becomes_end w.name ds d fits_so best)
    (c.in_ok-add-in-End.ensures.fit ∙ c.in-End.is) (c.in_ok-add-in-End.ensures.holds (named_by w.name ds) found.holds)

pub returns-in_ok-add-in-None : goal.returns-in_ok-add-in-None
returns-in_ok-add-in-None c = λ ds fits_so found.
    let w = shown c.args.wanted.now in
    let d = declaration_of c.args.declared.now in
    let best : best_fit w.name ds ≡ fits.None = sym found.fit ∙ c.in-None.is in
    found_then ds d w c.add-in-None.new.self (d ∷ []) fits.End (becomes_first w.name ds d fits_so best)
    (c.in_ok-add-in-None.ensures.fit ∙ c.begin.ensures.fit)
    (c.in_ok-add-in-None.ensures.holds [] (holds_none w c.begin.new.self c.begin.ensures.wrong c.begin.ensures.ambiguous c.begin.ensures.parts))
