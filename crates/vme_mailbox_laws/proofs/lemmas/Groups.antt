-- The words of one caller are those of its own entries.
use Rattle.std.proofs.Common.{◌≡◌, ℕ, List, [], ◌∷◌, ◌++◌, Option, refl, ap, ◌∙◌, inl, inr}
use Rattle.std.specs.Prelude.{◌==◌}
use Rattle.std.proofs.lemmas.Bool.{cases_Bool, eqb-true}
use Rattle.vme_object.specs.declared.history.Entry.{Entry}
use Rattle.vme_object.specs.History.{own}
use Rattle.vme_memory.specs.declared.command.BoardCmd.{BoardCmd}
use Rattle.vme_memory.specs.declared.reply.Reply.{Reply}
use Rattle.vme_shared.specs.MailboxSteps.{BoardMailbox}
use Rattle.vme_shared.specs.Phases.{Phase, after_entry}
use Rattle.vme_shared.specs.Words.{phases_after, words_along}
use Rattle.vme_mailbox_laws.specs.Groups.{own_words_from}

-- the words of `who` among all entries are those of its own entries
pub own_words : (who : ℕ) (by : Option Phase → Option Phase → List ℕ) (m : BoardMailbox) (phases : ℕ → Option Phase)
    (h : List (Entry BoardCmd Reply)) → own_words_from who by m phases h ≡ words_along by m (phases who) (own who h)
own_words who by m phases [] = refl
own_words who by m phases (e ∷ h) =
    let later = own_words who by m (phases_after m phases e) h in
    elim (cases_Bool (e.who == who)) [
      | inl same ↦
          let is : e.who ≡ who = eqb-true e.who who same in
          let first : by (phases e.who) (after_entry m (phases e.who) e) ≡ by (phases who) (after_entry m (phases who) e) =
          ap (λ w. by (phases w) (after_entry m (phases w) e)) is in
          let rest : own_words_from who by m (phases_after m phases e) h ≡ words_along by m (after_entry m (phases who) e) (own who h) =
          later ∙ rw same refl in
          rw same (ap (λ ws. ws ++ own_words_from who by m (phases_after m phases e) h) first
          ∙ ap (λ ws. by (phases who) (after_entry m (phases who) e) ++ ws) rest)
      | inr other ↦
          let rest : own_words_from who by m (phases_after m phases e) h ≡ words_along by m (phases who) (own who h) = later ∙ rw other refl in
          rw other rest
    ]
