use Rattle.std.proofs.Common.{◌≡◌, ◌∙◌, ap, subst, refl, true, map, string_bytes}
use Rattle.std.proofs.lemmas.Result.{IfOk-weaker}
use Rattle.clap.specs.Words.{FailsBy, fault_of, is_simple, is_simple_and_free, subcommand_of}
use Rattle.clap.proofs.OnLiterals.{clap_on_literals}
use Rattle.vme_engines.specs.Subcommands.{command_line}
use Rattle.vme_engines.proofs.words.parsed.Goals as goal

simple : is_simple command_line ≡ true
unfolding clap_on_literals
simple = refl

free : is_simple_and_free command_line ≡ true
unfolding clap_on_literals
free = refl

pub returns-clause-entered : goal.returns-clause-entered
returns-clause-entered c =
    let parse = c.try_get_matches_from in
    let app_is = c.in_ok-program.ensures in
    IfOk-weaker parse.result _ _
    (λ m h. (h (ap is_simple app_is ∙ simple)).1 ∙ ap (λ a. subcommand_of a (map string_bytes c.args.words.now)) app_is) parse.ensures.matches

pub returns-clause-fault : goal.returns-clause-fault
returns-clause-fault c =
    let parse = c.try_get_matches_from in
    let app_is = c.in_ok-program.ensures in
    subst (λ a. FailsBy (fault_of a (map string_bytes c.args.words.now)) parse.result) app_is
    (parse.ensures.kinds (ap is_simple_and_free app_is ∙ free))
