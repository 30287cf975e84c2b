use Rattle.std.proofs.Common.{rules, ◌≡◌, ◌∙◌, ◌⊎◌, ap, sym, subst, inl, inr, IfErr, None, map, string_bytes, arith}
use Rattle.std.proofs.lemmas.Result.{IfOk-weaker}
use Rattle.clap.specs.Words.{kind_of, subcommand_rows_of, IsAmong}
use Rattle.vme_engines.specs.declared.words.WordsFault.TheVariants.{Memory}
use Rattle.vme_engines.specs.CommandLines.{asked_by, words_status_of}
use Rattle.vme_engines.specs.Subcommands.{asked_by_entered}
use Rattle.vme_engines.proofs.CommandWords.{words_utf8}
use Rattle.vme_engines.proofs.CommandForms.{form_of_entered, none_of_entered, none_of_failed}
use Rattle.vme_engines.proofs.words.read_words.Goals as goal

pub returns-in-Ok-clause-form : goal.returns-in-Ok-clause-form
returns-in-Ok-clause-form c =
    let words = map string_bytes c.args.words.now in
    IfOk-weaker c.chosen.result _ _
    (λ form is. form_of_entered words (words_utf8 c.args.words.now) c.in-Ok.ensures.fault (asked_by form) (sym (ap asked_by_entered c.in-Ok.ensures.entered) ∙ is))
    c.chosen.ensures.form

pub returns-in-Ok-clause-usage : goal.returns-in-Ok-clause-usage
returns-in-Ok-clause-usage c is =
    let words = map string_bytes c.args.words.now in
    elim (subst (λ r. IfErr r (λ fault. (fault ≡ Memory) ⊎ (asked_by_entered (subcommand_rows_of c.in-Ok.matches) ≡ None))) is c.chosen.ensures.usage) [
      | inl memory ↦ let bad : 2 ≡ 3 = ap words_status_of memory in absurd (omega (arith, bad))
      | inr none ↦ none_of_entered words (words_utf8 c.args.words.now) (sym (ap asked_by_entered c.in-Ok.ensures.entered) ∙ none)
    ]

pub returns-in-Err-2-clause-usage : goal.returns-in-Err-2-clause-usage
returns-in-Err-2-clause-usage c same =
    let words = map string_bytes c.args.words.now in
    elim c.in-Err.ensures.fault [
      | inl memory ↦ absurd (search rules)
      | inr among ↦ none_of_failed words (words_utf8 c.args.words.now) (λ none. subst (IsAmong (kind_of c.in-Err.error)) none among)
    ]
