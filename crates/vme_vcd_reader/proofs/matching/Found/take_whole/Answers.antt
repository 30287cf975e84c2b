use Rattle.std.proofs.Common.{◌≡◌, ◌++◌, ◌∷◌, [], false, sym, ◌∙◌}
use Rattle.std.specs.List.{list_any}
use Rattle.vme_line_map.specs.Variables.{shown}
use Rattle.vme_vcd_reader.specs.declared.matching.Fit.TheVariants as fits
use Rattle.vme_vcd_reader.specs.Found.{best_fit}
use Rattle.vme_vcd_reader.specs.Mapping.{declaration_of}
use Rattle.vme_vcd_reader.specs.Matches.{is_whole, named_by}
use Rattle.vme_vcd_reader.proofs.Finding.{holds_none}
use Rattle.vme_vcd_reader.proofs.Fitting.{becomes_whole, becomes_better, none_whole}
use Rattle.vme_vcd_reader.proofs.Matchings.{found_then}
use Rattle.vme_vcd_reader.proofs.matching.Found.take_whole.Goals as goal

pub returns-in_ok-add-in-Whole : goal.returns-in_ok-add-in-Whole
returns-in_ok-add-in-Whole c = λ ds fits_so found.
    let w = shown c.args.wanted.now in
    let d = declaration_of c.args.declared.now in
    let best : best_fit w.name ds ≡ fits.Whole = sym found.fit ∙ c.in-Whole.is in
    found_then ds d w c.add.new.self (named_by w.name ds ++ d ∷ []) fits.Whole (becomes_whole w.name ds d fits_so best)
    (c.in_ok-add-in-Whole.ensures.fit ∙ c.in-Whole.is) (c.in_ok-add-in-Whole.ensures.holds (named_by w.name ds) found.holds)

pub returns-in_ok-add-in_default : goal.returns-in_ok-add-in_default
returns-in_ok-add-in_default c = λ ds fits_so found.
    let w = shown c.args.wanted.now in
    let d = declaration_of c.args.declared.now in
    let none : list_any (is_whole w.name) ds ≡ false = none_whole w.name ds (λ e. c.in_default.not-Whole (found.fit ∙ e)) in
    found_then ds d w c.add-in_default.new.self (d ∷ []) fits.Whole (becomes_better w.name ds d fits_so none)
    (c.in_ok-add-in_default.ensures.fit ∙ c.begin.ensures.fit)
    (c.in_ok-add-in_default.ensures.holds [] (holds_none w c.begin.new.self c.begin.ensures.wrong c.begin.ensures.ambiguous c.begin.ensures.parts))
