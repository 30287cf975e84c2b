use Rattle.std.proofs.Common.{rules, ◌≡◌, ◌∙◌, ap, ap₂, true, codes}
use Rattle.std.proofs.lemmas.Result.{IfOk-weaker}
use Rattle.clap.specs.Words.{App, app_of, new_app, with_subcommand}
use Rattle.clap.specs.Simple.{app_of_fields, on_top}
use Rattle.vme_engines.proofs.words.program.Goals as goal

-- each call of `subcommand` adds its subcommand to the command line
pub returns : goal.returns
returns c =
    let top_is : app_of c.subcommand_required.result ≡ on_top (λ s. record s { subcommand_required = true }) (new_app (codes "vme")) =
    ap app_of_fields c.subcommand_required.ensures
    ∙ ap (on_top (λ s. record s { subcommand_required = true })) c.new.ensures.app in
    let first_is =
    c.in_ok-subcommand.ensures.shape (search rules)
    ∙ ap₂ with_subcommand top_is (ap (λ (a : App). a.top) c.new-cycles.ensures.app) in
    let second_is = c.in_ok-subcommand-2.ensures.shape (search rules) ∙ ap₂ with_subcommand first_is c.in_ok-step.ensures.shape in
    IfOk-weaker c.subcommand-3.result _ _
    (λ program added. added.shape (search rules) ∙ ap₂ with_subcommand second_is c.in_ok-run.ensures.shape) c.subcommand-3.ensures
