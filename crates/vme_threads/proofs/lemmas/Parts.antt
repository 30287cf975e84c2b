-- A processor's own entries in the part of an object.
use Rattle.std.proofs.Common.{◌≡◌, ◌≢◌, ℕ, List, [], ◌∷◌, Option, Some, None, refl, ap, sym, ◌∙◌, inl, inr, eq-eqb, ne_eqb}
use Rattle.std.specs.Prelude.{filter_map}
use Rattle.std.proofs.lemmas.Bool.{cases_eq}
use Rattle.std.proofs.lemmas.Option.{same_Some}
use Rattle.vme_object.specs.declared.history.Entry.{Entry}
use Rattle.vme_object.specs.History.{own, entry}
use Rattle.vme_memory.specs.declared.command.BoardCmd.{BoardCmd}
use Rattle.vme_memory.specs.declared.reply.Reply.{Reply}
use Rattle.vme_arbiter.specs.declared.command.ArbCmd.{ArbCmd}
use Rattle.vme_arbiter.specs.declared.command.ArbReply.{ArbReply}
use Rattle.vme_core.specs.declared.event.Event.{Event}
use Rattle.vme_core.specs.declared.event.Event.TheVariants as events
use Rattle.vme_core.specs.declared.event.EventReply.{EventReply}
use Rattle.vme_core.specs.declared.event.EventReply.TheVariants as replies
use Rattle.vme_core.specs.Runs.{Transition, board_entry, bus_entry}
use Rattle.vme_bus_objects.specs.Runs.{transitions_of}

module _ {C R : Type 0} (f : Transition → Option (Entry C R))
    (whose : (m : Transition) (e : Entry C R) → f m ≡ Some e → e.who ≡ m.who) where
  -- a processor's own entries in an object's part of a run are the part of its own transitions
  pub part_of : (who : ℕ) (run : List Transition) → own who (filter_map f run) ≡ filter_map f (transitions_of who run)
  part_of who [] = refl
  part_of who (m ∷ run) = elim (cases_eq m.who who) [
    | inl same ↦
        let rest : filter_map f (transitions_of who (m ∷ run)) ≡ filter_map f (m ∷ transitions_of who run) =
        rw (eq-eqb m.who who same) refl in
        by_own (f m) refl same (part_of who run) ∙ sym rest
    | inr other ↦
        let rest : filter_map f (transitions_of who (m ∷ run)) ≡ filter_map f (transitions_of who run) =
        rw (ne_eqb m.who who other) refl in
        by_other (f m) refl other (part_of who run) ∙ sym rest
  ]
    where
      by_own : (found : Option (Entry C R)) → f m ≡ found → m.who ≡ who
          → own who (filter_map f run) ≡ filter_map f (transitions_of who run)
          → own who (filter_map f (m ∷ run)) ≡ filter_map f (m ∷ transitions_of who run)
      by_own None is same then = rw is then
      by_own (Some e) is same then = rw is (rw (eq-eqb e.who who (whose m e is ∙ same)) (ap (λ l. e ∷ l) then))

      by_other : (found : Option (Entry C R)) → f m ≡ found → m.who ≢ who
          → own who (filter_map f run) ≡ filter_map f (transitions_of who run)
          → own who (filter_map f (m ∷ run)) ≡ filter_map f (transitions_of who run)
      by_other None is other then = rw is then
      by_other (Some e) is other then = rw is (rw (ne_eqb e.who who (λ same. other (sym (whose m e is) ∙ same))) then)

-- the caller of a board's entry is the processor of its transition
pub board_whose : (x who : ℕ) (event : Event) (reply : EventReply) (e : Entry BoardCmd Reply)
    → board_entry x who event reply ≡ Some e → e.who ≡ who
board_whose x who (events.Board y cmd) (replies.Board reply) e is = elim (cases_eq y x) [
  | inl same ↦
      let found : board_entry x who (events.Board y cmd) (replies.Board reply) ≡ Some (entry who cmd reply) =
      rw (eq-eqb y x same) refl in
      let here : entry who cmd reply ≡ e = same_Some (entry who cmd reply) e (sym found ∙ is) in
      ap (λ (e : Entry BoardCmd Reply). e.who) (sym here)
  | inr other ↦
      let none : board_entry x who (events.Board y cmd) (replies.Board reply) ≡ None = rw (ne_eqb y x other) refl in
      absurd (cc (sym none ∙ is))
]
board_whose x who (events.Board y cmd) (replies.Bus reply) e is = absurd (cc is)
board_whose x who (events.Bus cmd) reply e is = absurd (cc is)

-- the caller of an arbiter's entry is the processor of its transition
pub bus_whose : (who : ℕ) (event : Event) (reply : EventReply) (e : Entry ArbCmd ArbReply) → bus_entry who event reply ≡ Some e
    → e.who ≡ who
bus_whose who (events.Board y cmd) reply e is = absurd (cc is)
bus_whose who (events.Bus cmd) (replies.Board reply) e is = absurd (cc is)
bus_whose who (events.Bus cmd) (replies.Bus reply) e is =
    let here : entry who cmd reply ≡ e = same_Some (entry who cmd reply) e is in
    ap (λ (e : Entry ArbCmd ArbReply). e.who) (sym here)
