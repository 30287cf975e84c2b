-- A history that runs of scripts share is proper, and its words are those that the replies report.
use Rattle.std.proofs.Common.{◌≡◌, ℕ, ◌≤◌, ◌<◌, false, List, [], ◌∷◌, length, slice_index_or, Some, refl, ap, sym, subst, ◌∙◌, arith, inl, inr}
use Rattle.std.specs.Prelude.{All, ◌==◌}
use Rattle.std.proofs.lemmas.Bool.{cases_lt, ne_eqb}
use Rattle.std.proofs.lemmas.List.{get_or_default, get_or_past}
use Rattle.std.proofs.lemmas.List.Elements.{All-head, All-tail}
use Rattle.vme_object.specs.declared.history.Entry.{Entry}
use Rattle.vme_object.specs.History.{IsLegal, own}
use Rattle.vme_object.specs.Each.{Each}
use Rattle.vme_memory.specs.declared.command.BoardCmd.{BoardCmd}
use Rattle.vme_memory.specs.declared.reply.Reply.{Reply}
use Rattle.vme_memory.specs.Boards.{Board}
use Rattle.vme_memory.specs.Locals.{board_step}
use Rattle.vme_core.specs.Runs.{Transition}
use Rattle.vme_shared.specs.MailboxSteps.{BoardMailbox, IsNewMailbox}
use Rattle.vme_shared.specs.Phases.{Idle, IsProper}
use Rattle.vme_shared.specs.Words.{put_by, taken_by, all_idle, words_along}
use Rattle.vme_shared.specs.declared.reply.LineReply.{LineReply}
use Rattle.vme_grammar.specs.declared.line.Line.{Line}
use Rattle.vme_script.specs.Configurations.{Configuration}
use Rattle.vme_line_task.specs.Scripts.{lines_at}
use Rattle.vme_mailbox_laws.specs.Names.{lines_put, lines_taken, IsMailboxOf}
use Rattle.vme_mailbox_laws.specs.Runs.{ShareHistory}
use Rattle.vme_mailbox_laws.proofs.Through.{Wanted, Through}
use Rattle.vme_mailbox_laws.proofs.Histories.{Led, led}
use Rattle.vme_shared.proofs.lemmas.Opening.{opening}
use Rattle.vme_mailbox_laws.proofs.Scripts.{script}

-- a caller with a number past all callers of a history has no entry in it
none_own : (n who : ℕ) (h : List (Entry BoardCmd Reply)) → n ≤ who → All (λ e. e.who < n) h → own who h ≡ []
none_own n who [] past known = refl
none_own n who (e ∷ h) past known =
    let below : e.who < n = All-head (λ (e : Entry BoardCmd Reply). e.who < n) e h known in
    let other : (e.who == who) ≡ false = ne_eqb e.who who (λ same. omega arith) in
    rw other (none_own n who h past (All-tail (λ (e : Entry BoardCmd Reply). e.who < n) e h known))

-- without replies, no word is reported as put
none_put : (box : ℕ) (ls : List Line) → lines_put box ls [] ≡ []
none_put box [] = refl
none_put box (line ∷ ls) = refl

-- without replies, no word is reported as taken
none_taken : (box : ℕ) (ls : List Line) → lines_taken box ls [] ≡ []
none_taken box [] = refl
none_taken box (line ∷ ls) = refl

module _ (config : Configuration) (box board : ℕ) (m : BoardMailbox) (memory : Board) (h : List (Entry BoardCmd Reply)) (runs : List (List Transition))
    (answers : List (List LineReply)) (is : IsMailboxOf config box board m) (new : IsNewMailbox memory m) (legal : IsLegal board_step memory h)
    (share : ShareHistory config board h runs answers) where
  -- the goal of each processor: the words that its replies report
  abbrev Reported : ℕ → Wanted
  Reported who = λ p ps ts.
      (ps ≡ lines_put box (lines_at config who) (slice_index_or answers who []))
      × (ts ≡ lines_taken box (lines_at config who) (slice_index_or answers who []))

  -- the entries of each processor follow the protocol and reach its goal
  through : (who : ℕ) → Through m (Some Idle) (own who h) (Reported who)
  through who =
      elim (cases_lt who (length runs)) [
        | inl below ↦
            subst (λ es. Through m (Some Idle) es (Reported who)) (sym (share.owns who [] below))
            (script config who box board m is (lines_at config who) (slice_index_or runs who []) (slice_index_or answers who []) (Reported who) (is.others who)
            (share.trace.each who [] [] below) (share.fitting_replies who [] below) (refl, refl))
        | inr past ↦
            let no_answers : slice_index_or answers who [] ≡ [] = get_or_past answers who [] (let count = share.trace.count in omega arith) in
            rw (none_own (length runs) who h past share.known) (rw no_answers (sym (none_put box (lines_at config who)), sym (none_taken box (lines_at config who))))
      ]

  -- the entries of each processor reach its goal in the shared history
  each_led : (who : ℕ) → Led m (Some Idle) (own who h) (Reported who)
  each_led who =
      led m new.lies.some_slot memory [] [] all_idle h (λ w. Reported w) new.lies (opening memory m new) legal (λ w. through w) who

  -- the shared history is proper for the mailbox
  pub proper : IsProper m h
  proper who = (each_led who).goes

  -- the words that each processor puts are those that its replies report
  pub put_by_outcome : Each (λ who reported. words_along put_by m (Some Idle) (own who h) ≡ lines_put box (lines_at config who) reported) answers
  put_by_outcome who d below =
      (each_led who).done.0 ∙ ap (lines_put box (lines_at config who)) (get_or_default answers who [] d below)

  -- the words that each processor takes are those that its replies report
  pub taken_by_outcome : Each (λ who reported. words_along taken_by m (Some Idle) (own who h) ≡ lines_taken box (lines_at config who) reported) answers
  taken_by_outcome who d below =
      (each_led who).done.1 ∙ ap (lines_taken box (lines_at config who)) (get_or_default answers who [] d below)
