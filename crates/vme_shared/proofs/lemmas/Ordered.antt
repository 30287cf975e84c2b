-- A mailbox is kept from entry to entry of a legal and proper history.
use Rattle.std.proofs.Common.{◌≡◌, ℕ, ◌+◌, ◌≤◌, true, false, List, [], ◌∷◌, ◌++◌, length, drop, refl, ap, sym, subst, ◌∙◌, inl, inr, Option, Some, None}
use Rattle.std.specs.Prelude.{is_some, IsTrue, ◌==◌, if◌then◌else◌}
use Rattle.std.proofs.lemmas.Bool.{cases_Bool, cases_eq, eq-eqb, ne_eqb, cond-true, cond-false}
use Rattle.std.proofs.lemmas.List.{append-nil, append_assoc, take-append-drop}
use Rattle.vme_object.specs.declared.history.Entry.{Entry}
use Rattle.vme_object.specs.History.{IsLegal, own, IsPrefix}
use Rattle.vme_memory.specs.declared.command.BoardCmd.{BoardCmd}
use Rattle.vme_memory.specs.declared.reply.Reply.{Reply}
use Rattle.vme_memory.specs.Boards.{Board}
use Rattle.vme_memory.specs.Steps.{Command, step, answer}
use Rattle.vme_memory.specs.Locals.{board_step, answer_given, command_given}
use Rattle.vme_shared.specs.MailboxSteps.{BoardMailbox, touches}
use Rattle.vme_shared.specs.Phases.{Phase, Idle, access_of, next_phase, after_command, after_entry, phase_after}
use Rattle.vme_shared.specs.Words.{put_by, taken_by, phases_after, words_from}
use Rattle.vme_shared.proofs.lemmas.MailboxSteps.{did}
use Rattle.vme_shared.proofs.lemmas.Kept.{Kept, Stands, held_by, kept_same, stands_same}
use Rattle.vme_shared.proofs.lemmas.Rows.{Went, went}
use Rattle.vme_shared.proofs.lemmas.Quiet.{Quiet, quiet, quiet_same, busy, no_put, no_taken, stayed}

-- at most one master is not idle, and the bytes meet the condition of its phase
pub record Holds (m : BoardMailbox) (bytes put taken : List ℕ) (phases : ℕ → Option Phase) : Type 0 where
  pub owner : ℕ
  pub phase : Phase
  pub is : phases owner ≡ Some phase
  pub kept : Kept m bytes put taken
  pub stands : Stands m bytes put taken phase
  pub others : (who : ℕ) → (owner ≡ who → ⊥) → phases who ≡ Some Idle

-- the value of an option that has one
some_value : (phase : Option Phase) → is_some phase ≡ true → (p : Phase) × (phase ≡ Some p)
some_value None is = absurd cc
some_value (Some p) is = (p, refl)

module _ (m : BoardMailbox) (some : 1 ≤ m.slots) (who : ℕ) (given : Option Command) (reply : Reply) (phases : ℕ → Option Phase) where
  -- the phases after a command of one master
  abbrev moved : ℕ → Option Phase
  moved w = if who == w then after_command m (phases w) given reply else phases w

  -- the phase of the master after its command
  moved_own : moved who ≡ after_command m (phases who) given reply
  moved_own = let same : (who == who) ≡ true = eq-eqb who who refl in rw same refl

  -- the phase of another master is unchanged
  moved_other : (w : ℕ) → (who ≡ w → ⊥) → moved w ≡ phases w
  moved_other w apart = let other : (who == w) ≡ false = ne_eqb who w apart in rw other refl

  -- the words that the command puts
  abbrev puts_by : List ℕ
  puts_by = put_by (phases who) (after_command m (phases who) given reply)

  -- the words that the command takes
  abbrev takes_by : List ℕ
  takes_by = taken_by (phases who) (after_command m (phases who) given reply)

  -- a master that reaches its next phase while all others are idle keeps the mailbox
  goes_on : (after put taken : List ℕ) (phase next : Phase) → phases who ≡ Some phase → after_command m (Some phase) given reply ≡ Some next
      → Went m after put taken phase next → ((w : ℕ) → (who ≡ w → ⊥) → phases w ≡ Some Idle)
      → Holds m after (put ++ puts_by) (taken ++ takes_by) moved
  goes_on after put taken phase next at goes went_on idle =
      let own_after : after_command m (phases who) given reply ≡ Some next = ap (λ p. after_command m p given reply) at ∙ goes in
      let put_is : went_on.puts ≡ put ++ put_by (phases who) (after_command m (phases who) given reply) = rw (own_after, at) went_on.put_is in
      let taken_is : went_on.takes ≡ taken ++ taken_by (phases who) (after_command m (phases who) given reply) = rw (own_after, at) went_on.taken_is in
      record {
        owner = who;
        phase = next;
        is = moved_own ∙ own_after;
        kept = rw (← put_is, ← taken_is) went_on.kept;
        stands = rw (← put_is, ← taken_is) went_on.stands;
        others = λ w apart. moved_other w apart ∙ idle w apart;
      }

  -- a master that stays idle while another holds the mailbox keeps the mailbox
  stays_idle : (bytes after put taken : List ℕ) (holds : Holds m bytes put taken phases) → (holds.owner ≡ who → ⊥)
      → after_command m (Some Idle) given reply ≡ Some Idle → Quiet m bytes after → Holds m after (put ++ puts_by) (taken ++ takes_by) moved
  stays_idle bytes after put taken holds apart goes still =
      let at : phases who ≡ Some Idle = holds.others who apart in
      let own_after : after_command m (phases who) given reply ≡ phases who = ap (λ p. after_command m p given reply) at ∙ goes ∙ sym at in
      let put_is : put ≡ put ++ put_by (phases who) (after_command m (phases who) given reply) =
      rw own_after (rw (no_put (phases who)) (sym (append-nil put))) in
      let taken_is : taken ≡ taken ++ taken_by (phases who) (after_command m (phases who) given reply) =
      rw own_after (rw (no_taken (phases who)) (sym (append-nil taken))) in
      record {
        owner = holds.owner;
        phase = holds.phase;
        is = moved_other holds.owner (λ same. apart (sym same)) ∙ holds.is;
        kept = subst (λ ps. Kept m after ps (taken ++ takes_by)) put_is (subst (λ ts. Kept m after put ts) taken_is (kept_same m bytes after put taken still.same holds.kept));
        stands = subst (λ ps. Stands m after ps (taken ++ takes_by) holds.phase) put_is
            (subst (λ ts. Stands m after put ts holds.phase) taken_is (stands_same m bytes after put taken holds.phase still.same still.lock holds.stands));
        others = λ w other.
            elim (cases_eq who w) [
              | inl same ↦ subst (λ v. moved v ≡ Some Idle) same (moved_own ∙ own_after ∙ at)
              | inr distinct ↦ moved_other w distinct ∙ holds.others w other
            ];
      }

  -- a command that leaves the numbers and its master's phase the same keeps the mailbox
  rests : (bytes after put taken : List ℕ) → Holds m bytes put taken phases → Quiet m bytes after
      → ((phase : Phase) → after_command m (Some phase) given reply ≡ Some phase) → Holds m after (put ++ puts_by) (taken ++ takes_by) moved
  rests bytes after put taken holds still stays =
      elim (cases_eq holds.owner who) [
        | inl same ↦
            goes_on after put taken holds.phase holds.phase (subst (λ w. phases w ≡ Some holds.phase) same holds.is) (stays holds.phase)
            (stayed m bytes after put taken holds.phase still holds.kept holds.stands)
            (λ w apart. holds.others w (λ is. apart (sym same ∙ is)))
        | inr apart ↦ stays_idle bytes after put taken holds apart (stays Idle) still
      ]

  -- a command that touches the mailbox and that the protocol allows leads to a next phase
  next_of : (board : Board) (command : Command) (phase : Phase) → given ≡ Some command → touches m command ≡ true → reply ≡ (step board command).0
      → is_some (after_command m (phases who) given reply) ≡ true → phases who ≡ Some phase
      → (next : Phase)
      × (after_command m (Some phase) given reply ≡ Some next)
      × (next_phase m phase (access_of command (step board command).0) ≡ Some next)
  next_of board command phase is touching replied goes at =
      let row : after_command m (Some phase) given reply ≡ next_phase m phase (access_of command (step board command).0) =
      ap (λ g. after_command m (Some phase) g reply) is ∙ ap (λ r. after_command m (Some phase) (Some command) r) replied
      ∙ cond-true (touches m command) (next_phase m phase (access_of command (step board command).0)) (Some phase) touching in
      let there : is_some (after_command m (Some phase) given reply) ≡ true = subst (λ p. is_some (after_command m p given reply) ≡ true) at goes in
      let next = some_value (after_command m (Some phase) given reply) there in
      (next.0, next.1, sym row ∙ next.1)

  -- a command that touches the mailbox and that the protocol allows keeps the mailbox
  touched : (board : Board) (command : Command) (put taken : List ℕ) → given ≡ Some command → touches m command ≡ true
      → reply ≡ (step board command).0 → is_some (after_command m (phases who) given reply) ≡ true → Holds m board.bytes put taken phases
      → Holds m (step board command).1.bytes (put ++ puts_by) (taken ++ takes_by) moved
  touched board command put taken is touching replied goes holds =
      elim (cases_eq holds.owner who) [
        | inl same ↦
            let at : phases who ≡ Some holds.phase = subst (λ w. phases w ≡ Some holds.phase) same holds.is in
            let next = next_of board command holds.phase is touching replied goes at in
            goes_on (step board command).1.bytes put taken holds.phase next.0 at next.1
            (went m some board.bytes (step board command).1.bytes put taken holds.phase next.0 (access_of command (step board command).0) holds.kept
            holds.stands (did board command) next.2)
            (λ w apart. holds.others w (λ other. apart (sym same ∙ other)))
        | inr apart ↦
            let at : phases who ≡ Some Idle = holds.others who apart in
            let next = next_of board command Idle is touching replied goes at in
            elim (held_by m board.bytes put taken holds.phase holds.stands) [
              | inl free ↦
                  let stands : Stands m board.bytes put taken Idle = subst (λ phase. Stands m board.bytes put taken phase) free holds.stands in
                  goes_on (step board command).1.bytes put taken Idle next.0 at next.1
                  (went m some board.bytes (step board command).1.bytes put taken Idle next.0 (access_of command (step board command).0) holds.kept stands
                  (did board command) next.2)
                  (λ w other.
                  elim (cases_eq holds.owner w) [
                    | inl owns ↦ subst (λ v. phases v ≡ Some Idle) owns (holds.is ∙ ap Some free)
                    | inr neither ↦ holds.others w neither
                  ])
              | inr held ↦
                  let still = busy m board.bytes (step board command).1.bytes (access_of command (step board command).0) next.0 some held (did board command) next.2 in
                  stays_idle board.bytes (step board command).1.bytes put taken holds apart (next.1 ∙ ap Some still.0) still.1
            ]
      ]

-- a command that the protocol allows to its master keeps the mailbox
advance : (m : BoardMailbox) (some : 1 ≤ m.slots) (who : ℕ) (given : Option Command) (reply : Reply) (phases : ℕ → Option Phase) (board : Board)
    (put taken : List ℕ) → reply ≡ (answer board given).0 → is_some (after_command m (phases who) given reply) ≡ true
    → Holds m board.bytes put taken phases
    → Holds m (answer board given).1.bytes (put ++ put_by (phases who) (after_command m (phases who) given reply))
    (taken ++ taken_by (phases who) (after_command m (phases who) given reply))
    (λ w. if who == w then after_command m (phases w) given reply else phases w)
advance m some who None reply phases board put taken replied goes holds =
    rests m some who None reply phases board.bytes board.bytes put taken holds (quiet_same m board.bytes board.bytes refl) (λ phase. refl)
advance m some who (Some command) reply phases board put taken replied goes holds =
    elim (cases_Bool (touches m command)) [
      | inl touching ↦ touched m some who (Some command) reply phases board command put taken refl touching replied goes holds
      | inr beside ↦
          rests m some who (Some command) reply phases board.bytes (step board command).1.bytes put taken holds (quiet m board command some beside)
          (λ phase. cond-false (touches m command) (next_phase m phase (access_of command reply)) (Some phase) beside)
    ]

-- an entry that the protocol allows moves its master to the next phase and keeps the mailbox
pub entry_holds : (m : BoardMailbox) (some : 1 ≤ m.slots) (e : Entry BoardCmd Reply) (phases : ℕ → Option Phase) (board : Board) (put taken : List ℕ)
    → e.reply ≡ (board_step board e.cmd).1 → is_some (after_entry m (phases e.who) e) ≡ true → Holds m board.bytes put taken phases
    → Holds m (board_step board e.cmd).0.bytes (put ++ put_by (phases e.who) (after_entry m (phases e.who) e))
    (taken ++ taken_by (phases e.who) (after_entry m (phases e.who) e)) (phases_after m phases e)
unfolding answer_given
entry_holds m some e phases board put taken replied goes holds = advance m some e.who (command_given e.cmd) e.reply phases board put taken replied goes holds

-- no entry keeps the protocol after one that breaks it
none_after : (m : BoardMailbox) (h : List (Entry BoardCmd Reply)) → phase_after m None h ≡ None
none_after m [] = refl
none_after m (e ∷ h) = none_after m h

-- a history that keeps the protocol starts from a phase
some_before : (m : BoardMailbox) (phase : Option Phase) (h : List (Entry BoardCmd Reply)) → is_some (phase_after m phase h) ≡ true → is_some phase ≡ true
some_before m None h goes = let stays = ap (λ p. is_some p) (none_after m h) in sym stays ∙ goes
some_before m (Some phase) h goes = refl

-- all entries keep the protocol, from these phases on
abbrev pub GoOn : BoardMailbox → (ℕ → Option Phase) → List (Entry BoardCmd Reply) → Type 0
GoOn m phases h = (who : ℕ) → IsTrue (is_some (phase_after m (phases who) (own who h)))

-- the first entry keeps the protocol
first_goes : (m : BoardMailbox) (phases : ℕ → Option Phase) (e : Entry BoardCmd Reply) (h : List (Entry BoardCmd Reply)) → GoOn m phases (e ∷ h)
    → is_some (after_entry m (phases e.who) e) ≡ true
first_goes m phases e h goes =
    let mine : own e.who (e ∷ h) ≡ e ∷ own e.who h = let same : (e.who == e.who) ≡ true = eq-eqb e.who e.who refl in rw same refl in
    some_before m (after_entry m (phases e.who) e) (own e.who h) (subst (λ l. is_some (phase_after m (phases e.who) l) ≡ true) mine (goes e.who))

-- all entries after the first keep the protocol
rest_goes : (m : BoardMailbox) (phases : ℕ → Option Phase) (e : Entry BoardCmd Reply) (h : List (Entry BoardCmd Reply)) → GoOn m phases (e ∷ h)
    → GoOn m (phases_after m phases e) h
rest_goes m phases e h goes who =
    elim (cases_Bool (e.who == who)) [
      | inl same ↦ rw same (rw same at (goes who))
      | inr other ↦ rw other (rw other at (goes who))
    ]

-- the words put and taken are those of a queue
pub record IsQueue (m : BoardMailbox) (put taken : List ℕ) : Type 0 where
  pub order : IsPrefix taken put
  pub capacity : length put ≤ length taken + m.slots

-- the words of a mailbox that is kept are those of a queue
kept_queue : (m : BoardMailbox) (bytes put taken : List ℕ) → Kept m bytes put taken → IsQueue m put taken
kept_queue m bytes put taken kept = record {
  order = (drop (length taken) put, sym (take-append-drop (length taken) put) ∙ ap (λ prefix. prefix ++ drop (length taken) put) kept.prefix);
  capacity = kept.few;
}

-- words that are appended to a queue in two parts may be appended at once
joined : (m : BoardMailbox) (put a b taken c d : List ℕ) → IsQueue m ((put ++ a) ++ b) ((taken ++ c) ++ d)
    → IsQueue m (put ++ (a ++ b)) (taken ++ (c ++ d))
joined m put a b taken c d queue =
    subst (λ ps. IsQueue m ps (taken ++ (c ++ d))) (append_assoc put a b) (subst (λ ts. IsQueue m ((put ++ a) ++ b) ts) (append_assoc taken c d) queue)

-- a mailbox that is kept is a queue in every legal history that keeps the protocol
pub ordered : (m : BoardMailbox) (some : 1 ≤ m.slots) (board : Board) (put taken : List ℕ) (phases : ℕ → Option Phase)
    (h : List (Entry BoardCmd Reply)) → Holds m board.bytes put taken phases → IsLegal board_step board h → GoOn m phases h
    → IsQueue m (put ++ words_from put_by m phases h) (taken ++ words_from taken_by m phases h)
ordered m some board put taken phases [] holds legal goes =
    rw (append-nil put) (rw (append-nil taken) (kept_queue m board.bytes put taken holds.kept))
ordered m some board put taken phases (e ∷ h) holds legal goes =
    let next = entry_holds m some e phases board put taken legal.0 (first_goes m phases e h goes) holds in
    joined m put (put_by (phases e.who) (after_entry m (phases e.who) e)) (words_from put_by m (phases_after m phases e) h) taken
    (taken_by (phases e.who) (after_entry m (phases e.who) e)) (words_from taken_by m (phases_after m phases e) h)
    (ordered m some (board_step board e.cmd).0 _ _ (phases_after m phases e) h next legal.1 (rest_goes m phases e h goes))
