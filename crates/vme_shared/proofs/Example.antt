-- The example keeps the protocol, and a put that writes the count before the word breaks it.
use Rattle.std.proofs.Common.{◌≡◌, ℕ, zero, suc, Bool, true, false, eqb, ltb, ◌<◌, ◌≤◌, List, [], ◌∷◌, refl, ap, Some, arith}
use Rattle.std.specs.Prelude.{is_some, ◌&&◌}
use Rattle.std.proofs.lemmas.Bool.{false≢true, ne_eqb, ltb-true, and_parts}
use Rattle.vme_object.specs.declared.history.Entry.{Entry}
use Rattle.vme_memory.specs.declared.command.BoardCmd.{BoardCmd}
use Rattle.vme_memory.specs.declared.reply.Reply.{Reply}
use Rattle.vme_object.specs.History.{IsLegal, own}
use Rattle.vme_memory.specs.Boards.{zeros}
use Rattle.vme_memory.specs.Locals.{board_step, answer_given}
use Rattle.vme_lanes.specs.Rows.{location_at, location_sensed}
use Rattle.vme_cycle.specs.Plans.{location_from, signals_of}
use Rattle.vme_shared.specs.Phases.{IsProper, Idle, phase_after}
use Rattle.vme_shared.specs.Words.{words_put, words_taken}
use Rattle.vme_shared.specs.Example.{example_board, example_mailbox, example_history, early_count_history}

-- the history of the example is legal
pub example_legal : IsLegal board_step example_board example_history
unfolding zeros answer_given location_at location_sensed location_from signals_of
example_legal = (refl, (refl, (refl, (refl, (refl, (refl, (refl, (refl, (refl, (refl, (refl, (refl, (refl, tt)))))))))))))

-- whether all entries are of the first three masters
all_early : List (Entry BoardCmd Reply) → Bool
all_early [] = true
all_early (e ∷ h) = ltb e.who 3 && all_early h

-- masters with numbers from 3 on have no entries
none_later : (who : ℕ) (h : List (Entry BoardCmd Reply)) → 3 ≤ who → all_early h ≡ true → own who h ≡ []
unfolding all_early
none_later who [] later early = refl
none_later who (e ∷ h) later early =
    let here : e.who < 3 = ltb-true e.who 3 (and_parts _ _ early).0 in
    let apart : eqb e.who who ≡ false = ne_eqb e.who who (λ same. omega arith) in
    rw apart (none_later who h later (and_parts _ _ early).1)

-- all entries of the example are of the first three masters
example_early : all_early example_history ≡ true
unfolding all_early
example_early = refl

-- each master keeps the protocol in the example
pub example_proper : IsProper example_mailbox example_history
unfolding location_at location_sensed location_from signals_of
example_proper zero = refl
example_proper (suc zero) = refl
example_proper (suc (suc zero)) = refl
example_proper (suc (suc (suc who))) =
    ap (λ h. is_some (phase_after example_mailbox (Some Idle) h)) (none_later (suc (suc (suc who))) example_history (omega arith) example_early)

-- the word 7 is put in the example
pub example_put : words_put example_mailbox example_history ≡ 7 ∷ []
unfolding location_at location_sensed location_from signals_of
example_put = refl

-- the word 7 is taken in the example
pub example_taken : words_taken example_mailbox example_history ≡ 7 ∷ []
unfolding location_at location_sensed location_from signals_of
example_taken = refl

-- the history of a put that writes the count before the word is legal
pub early_legal : IsLegal board_step example_board early_count_history
unfolding zeros answer_given location_at location_sensed location_from signals_of
early_legal = (refl, (refl, (refl, (refl, (refl, (refl, tt))))))

-- a put that writes the count before the word breaks the protocol
pub early_improper : IsProper example_mailbox early_count_history → ⊥
unfolding location_at location_sensed location_from signals_of
early_improper proper = false≢true (proper 1)
