use Rattle.std.proofs.Common.{rules, ◌∙◌, sym, ap, codes, inr, option_map}
use Rattle.clap.specs.Words.{found_of}
use Rattle.clap.proofs.WalkLemmas.{first_value-rows}
use Rattle.vme_engines.proofs.words.file_path.Goals as goal

pub returns-in_ok-from_str-in-Some-clause-path : goal.returns-in_ok-from_str-in-Some-clause-path
returns-in_ok-from_str-in-Some-clause-path c =
    sym (first_value-rows (found_of c.args.command.now) (codes "FILE")) ∙ sym c.get_str.ensures ∙ search rules

pub returns-in-None-clause-usage : goal.returns-in-None-clause-usage
returns-in-None-clause-usage c =
    inr (sym (first_value-rows (found_of c.args.command.now) (codes "FILE")) ∙ sym c.get_str.ensures ∙ ap (option_map (λ s. s.now)) c.in-None.is)
