-- If the entries of each caller follow the protocol, the whole history is proper.
use Rattle.std.proofs.Common.{◌≡◌, ℕ, ◌+◌, ◌≤◌, Bool, true, false, List, [], ◌∷◌, length, Option, Some, None, refl, ap, sym, subst, ◌∙◌, arith, inl, inr}
use Rattle.std.specs.Prelude.{is_some, ◌==◌}
use Rattle.std.proofs.lemmas.Bool.{cases_Bool, cases_eq, eq-eqb, eqb-true}
use Rattle.std.proofs.lemmas.Grind.{common_steps}
use Rattle.vme_object.specs.declared.history.Entry.{Entry}
use Rattle.vme_object.specs.History.{IsLegal, own}
use Rattle.vme_memory.specs.declared.command.BoardCmd.{BoardCmd}
use Rattle.vme_memory.specs.declared.reply.Reply.{Reply}
use Rattle.vme_memory.specs.declared.class.Class.{Class}
use Rattle.vme_memory.specs.Boards.{Board, bytes_after_write}
use Rattle.vme_memory.specs.Steps.{Command, LocalRead, LocalWrite, LocalModify, Read, Write, Modify, BlockRead, BlockWrite, can_answer, effect_of, step, answer}
use Rattle.vme_memory.specs.Locals.{board_step, answer_given, command_given}
use Rattle.vme_shared.specs.MailboxSteps.{BoardMailbox, LiesIn, offset_of, len_of}
use Rattle.vme_shared.specs.Phases.{Phase, Idle, Locked, First, Both, Written, Fetched, Counted, after_entry, phase_after}
use Rattle.vme_shared.specs.Words.{put_by, taken_by, phases_after, words_along}
use Rattle.vme_shared.proofs.lemmas.MailboxSteps.{Changes, changes}
use Rattle.vme_shared.proofs.lemmas.Kept.{Kept, Stands}
use Rattle.vme_shared.proofs.lemmas.Ordered.{Holds, entry_holds}
use Rattle.vme_mailbox_laws.specs.Along.{IsCount}
use Rattle.vme_mailbox_laws.proofs.Through.{IsAnswered, Wanted, behind, Through}

-- a put count that was read is the number of words put
count_is : (m : BoardMailbox) (bytes put taken : List ℕ) (phase : Phase) → Kept m bytes put taken → Stands m bytes put taken phase → IsCount (Some phase)
count_is m bytes put taken Idle kept stands = tt
count_is m bytes put taken Locked kept stands = tt
count_is m bytes put taken (First p) kept stands = let small = kept.small in let is = stands.1 in omega arith
count_is m bytes put taken (Both p t) kept stands = tt
count_is m bytes put taken (Written p x) kept stands = tt
count_is m bytes put taken (Fetched t x) kept stands = tt
count_is m bytes put taken Counted kept stands = tt

-- each put count that a caller has read is a number of four bytes
counts_are : (m : BoardMailbox) (bytes put taken : List ℕ) (phases : ℕ → Option Phase) → Holds m bytes put taken phases → (who : ℕ) → IsCount (phases who)
counts_are m bytes put taken phases holds who =
    elim (cases_eq holds.owner who) [
      | inl same ↦ subst (λ w. IsCount (phases w)) same (subst IsCount (sym holds.is) (count_is m bytes put taken holds.phase holds.kept holds.stands))
      | inr apart ↦ subst IsCount (sym (holds.others who apart)) tt
    ]

-- each caller is in some phase
some_phase : (m : BoardMailbox) (bytes put taken : List ℕ) (phases : ℕ → Option Phase) → Holds m bytes put taken phases → (who : ℕ)
    → is_some (phases who) ≡ true
some_phase m bytes put taken phases holds who =
    elim (cases_eq holds.owner who) [
      | inl same ↦ subst (λ w. is_some (phases w) ≡ true) same (rw holds.is refl)
      | inr apart ↦ rw (holds.others who apart) refl
    ]

-- a command keeps the class of a board
same_class : (board : Board) (command : Command) → (step board command).1.class ≡ board.class
same_class board command = elim (cases_Bool (can_answer board command)) [ inl can ↦ rw can (by_effect command) | inr refused ↦ rw refused refl ]
  where
    by_effect : (command : Command) → (effect_of board command).1.class ≡ board.class
    by_effect (LocalRead at len) = refl
    by_effect (LocalWrite at new) = refl
    by_effect (LocalModify at len f) = refl
    by_effect (Read at len) = refl
    by_effect (Write at new) = refl
    by_effect (Modify at len f) = refl
    by_effect (BlockRead at len) = refl
    by_effect (BlockWrite at new) = refl

-- a write keeps the number of bytes
overwritten_len : (bytes new : List ℕ) (at : ℕ) → at + length new ≤ length bytes → length (bytes_after_write bytes at new) ≡ length bytes
overwritten_len bytes new at within = grind (arith, common_steps)

-- a change of a range keeps the number of bytes
changed_len : (bytes after : List ℕ) (at len : ℕ) → Changes bytes at len after → length after ≡ length bytes
changed_len bytes after at len (inl same) = ap length same
changed_len bytes after at len (inr over) =
    let within = over.within in
    let count = over.count in
    ap length over.is ∙ overwritten_len bytes over.new at (omega arith)

-- a mailbox lies in its board after any command
lies_on : (m : BoardMailbox) (board : Board) (given : Option Command) → LiesIn board m → LiesIn (answer board given).1 m
lies_on m board None lies = lies
lies_on m board (Some command) lies =
    let class = same_class board command in
    let long = changed_len board.bytes (step board command).1.bytes (offset_of command) (len_of command) (changes board command) in
    let within = lies.within in
    record {
      width = ap (λ (c : Class). c.width) class ∙ lies.width;
      rmw = ap (λ (c : Class). c.rmw) class ∙ lies.rmw;
      place = lies.place;
      some_slot = lies.some_slot;
      few_slots = lies.few_slots;
      within = omega arith;
    }

-- a mailbox lies in its board after any entry's command
lies_after : (m : BoardMailbox) (board : Board) (cmd : BoardCmd) → LiesIn board m → LiesIn (board_step board cmd).0 m
unfolding answer_given
lies_after m board cmd lies = lies_on m board (command_given cmd) lies

-- the entries of a caller follow the protocol and reach the goal
pub record Led (m : BoardMailbox) (at : Option Phase) (es : List (Entry BoardCmd Reply)) (wanted : Wanted) : Type 0 where
  pub goes : is_some (phase_after m at es) ≡ true
  pub done : wanted (phase_after m at es) (words_along put_by m at es) (words_along taken_by m at es)

-- the first entry of a history follows the protocol, and the later entries of its caller reach the goal that remains
own_first : (m : BoardMailbox) (phases : ℕ → Option Phase) (e : Entry BoardCmd Reply) (h : List (Entry BoardCmd Reply)) (wanted : ℕ → Wanted)
    → IsAnswered m e → Through m (phases e.who) (own e.who (e ∷ h)) (wanted e.who)
    → (is_some (after_entry m (phases e.who) e) ≡ true)
    × (IsCount (after_entry m (phases e.who) e)
    → Through m (after_entry m (phases e.who) e) (own e.who h)
    (behind (wanted e.who) (put_by (phases e.who) (after_entry m (phases e.who) e)) (taken_by (phases e.who) (after_entry m (phases e.who) e))))
own_first m phases e h wanted answered through =
    let mine : own e.who (e ∷ h) ≡ e ∷ own e.who h = let same : (e.who == e.who) ≡ true = eq-eqb e.who e.who refl in rw same refl in
    subst (λ es. Through m (phases e.who) es (wanted e.who)) mine through answered

-- the first goal for the caller of an entry, the second for another caller
abbrev choose : Bool → Wanted → Wanted → Wanted
choose true own other = own
choose false own other = other

-- the goals of all callers after an entry: only the goal of its own caller changes
abbrev wanted_after : BoardMailbox → (ℕ → Option Phase) → Entry BoardCmd Reply → (ℕ → Wanted) → ℕ → Wanted
wanted_after m phases e wanted who =
    choose (e.who == who) (behind (wanted who) (put_by (phases who) (after_entry m (phases who) e)) (taken_by (phases who) (after_entry m (phases who) e)))
    (wanted who)

-- after an entry, the later entries of each caller reach the goal that remains
through_after : (m : BoardMailbox) (phases : ℕ → Option Phase) (e : Entry BoardCmd Reply) (h : List (Entry BoardCmd Reply)) (wanted : ℕ → Wanted)
    → IsAnswered m e → IsCount (phases_after m phases e e.who) → ((who : ℕ) → Through m (phases who) (own who (e ∷ h)) (wanted who)) → (who : ℕ)
    → Through m (phases_after m phases e who) (own who h) (wanted_after m phases e wanted who)
through_after m phases e h wanted answered count through who =
    elim (cases_Bool (e.who == who)) [
      | inl same ↦
          let is : e.who ≡ who = eqb-true e.who who same in
          let here : (e.who == e.who) ≡ true = eq-eqb e.who e.who refl in
          let counted : IsCount (after_entry m (phases e.who) e) = rw here at count in
          let next = (own_first m phases e h wanted answered (through e.who)).1 counted in
          rw same
          (subst
          (λ w. Through m (after_entry m (phases w) e) (own w h)
          (behind (wanted w) (put_by (phases w) (after_entry m (phases w) e)) (taken_by (phases w) (after_entry m (phases w) e))))
          is next)
      | inr other ↦ rw other (rw other at (through who))
    ]

-- the entries of each caller from one entry on reach the goal
led_before : (m : BoardMailbox) (phases : ℕ → Option Phase) (e : Entry BoardCmd Reply) (h : List (Entry BoardCmd Reply)) (wanted : ℕ → Wanted) (who : ℕ)
    → Led m (phases_after m phases e who) (own who h) (wanted_after m phases e wanted who) → Led m (phases who) (own who (e ∷ h)) (wanted who)
led_before m phases e h wanted who led =
    elim (cases_Bool (e.who == who)) [
      | inl same ↦
          let later : Led m (after_entry m (phases who) e) (own who h)
          (behind (wanted who) (put_by (phases who) (after_entry m (phases who) e)) (taken_by (phases who) (after_entry m (phases who) e))) =
          rw same at led in
          rw same (record { goes = later.goes; done = later.done })
      | inr other ↦ rw other (rw other at led)
    ]

-- all entries of each caller reach the goal
pub led : (m : BoardMailbox) (some : 1 ≤ m.slots) (board : Board) (put taken : List ℕ) (phases : ℕ → Option Phase) (h : List (Entry BoardCmd Reply))
    (wanted : ℕ → Wanted) → LiesIn board m → Holds m board.bytes put taken phases → IsLegal board_step board h
    → ((who : ℕ) → Through m (phases who) (own who h) (wanted who)) → (who : ℕ) → Led m (phases who) (own who h) (wanted who)
led m some board put taken phases [] wanted lies holds legal through who =
    record { goes = some_phase m board.bytes put taken phases holds who; done = through who }
led m some board put taken phases (e ∷ h) wanted lies holds legal through who =
    let answered : IsAnswered m e = record { memory = board; lies = lies; replied = legal.0 } in
    let first = own_first m phases e h wanted answered (through e.who) in
    let next = entry_holds m some e phases board put taken legal.0 first.0 holds in
    let count = counts_are m _ _ _ (phases_after m phases e) next e.who in
    led_before m phases e h wanted who
    (led m some (board_step board e.cmd).0 _ _ (phases_after m phases e) h (wanted_after m phases e wanted) (lies_after m board e.cmd lies) next legal.1
    (through_after m phases e h wanted answered count through) who)
