-- Commands that leave all numbers of a mailbox the same.
use Rattle.std.proofs.Common.{◌≡◌, ℕ, ◌+◌, ◌≤◌, ◌⊎◌, false, List, [], length, refl, ap, sym, ◌∙◌, arith, inl, inr, Option, Some, None}
use Rattle.std.specs.Prelude.{nat_lt, nat_le, ◌==◌, ◌&&◌, if◌then◌else◌, slice_range}
use Rattle.std.proofs.lemmas.Bool.{and_parts, and_cases, eqb-true, ltb-false}
use Rattle.vme_cycle.specs.Functions.{with_top_bit}
use Rattle.vme_memory.specs.Boards.{Board, bytes_after_write}
use Rattle.vme_memory.specs.Steps.{Command, step}
use Rattle.vme_shared.specs.MailboxSteps.{BoardMailbox, lock_at, end_of, offset_of, len_of, touches}
use Rattle.vme_shared.specs.Phases.{Phase, Idle, Locked, First, Both, Written, Fetched, Counted, Access, Sets, Reads, Writes, Others, next_phase}
use Rattle.vme_shared.specs.Words.{put_by, taken_by}
use Rattle.vme_shared.proofs.lemmas.Bytes.{number_in, number_apart, write_nothing}
use Rattle.vme_shared.proofs.lemmas.MailboxSteps.{Did, Changes, changes}
use Rattle.vme_shared.proofs.lemmas.Kept.{Kept, IsHeld, Stands, SameNumbers, kept_same, stands_same, same_beside, lock_set, reached_is}
use Rattle.vme_shared.proofs.lemmas.Rows.{Went, same_words}

-- all numbers of the mailbox stay the same, including that of the lock
pub record Quiet (m : BoardMailbox) (bytes after : List ℕ) : Type 0 where
  pub lock : number_in after (lock_at m) 1 ≡ number_in bytes (lock_at m) 1
  pub same : SameNumbers m bytes after

-- equal bytes have equal numbers
pub quiet_same : (m : BoardMailbox) (bytes after : List ℕ) → after ≡ bytes → Quiet m bytes after
quiet_same m bytes after is = rw is (record { lock = refl; same = record { put_count = refl; take_count = refl; words = λ n. refl } })

-- bytes that are written beside the mailbox leave its numbers the same
quiet_beside : (m : BoardMailbox) (bytes new : List ℕ) (at : ℕ) → 1 ≤ m.slots → at + length new ≤ length bytes
    → (at + length new ≤ m.offset) ⊎ (end_of m ≤ at) → Quiet m bytes (bytes_after_write bytes at new)
quiet_beside m bytes new at some within (inl below) =
    record { lock = number_apart bytes new at (lock_at m) 1 within (inr below); same = same_beside m bytes new at some within (inl (omega arith)) }
quiet_beside m bytes new at some within (inr above) =
    record { lock = number_apart bytes new at (lock_at m) 1 within (inl (omega arith)); same = same_beside m bytes new at some within (inr above) }

-- a change of bytes that are none of the mailbox leaves its numbers the same
quiet_by : (m : BoardMailbox) (bytes after : List ℕ) (command : Command) → 1 ≤ m.slots → touches m command ≡ false
    → Changes bytes (offset_of command) (len_of command) after → Quiet m bytes after
quiet_by m bytes after command some beside (inl is) = quiet_same m bytes after is
quiet_by m bytes after command some beside (inr over) =
    let within = over.within in
    let count = over.count in
    let inside : offset_of command + length over.new ≤ length bytes = omega arith in
    elim (and_cases (nat_lt 0 (len_of command) && nat_lt (offset_of command) (end_of m)) (nat_lt m.offset (offset_of command + len_of command)) beside) [
      | inl first ↦
          elim (and_cases (nat_lt 0 (len_of command)) (nat_lt (offset_of command) (end_of m)) first) [
            | inl empty ↦
                let none : length over.new ≡ 0 = omega (arith, ltb-false 0 (len_of command) empty) in
                quiet_same m bytes after (over.is ∙ write_nothing bytes over.new (offset_of command) none)
            | inr above ↦
                rw over.is (quiet_beside m bytes over.new (offset_of command) some inside (inr (ltb-false (offset_of command) (end_of m) above)))
          ]
      | inr below ↦
          let before : offset_of command + length over.new ≤ m.offset = omega (arith, ltb-false m.offset (offset_of command + len_of command) below) in
          rw over.is (quiet_beside m bytes over.new (offset_of command) some inside (inl before))
    ]

-- a command that touches no byte of the mailbox leaves its numbers the same
pub quiet : (m : BoardMailbox) (board : Board) (command : Command) → 1 ≤ m.slots → touches m command ≡ false
    → Quiet m board.bytes (step board command).1.bytes
quiet m board command some beside = quiet_by m board.bytes _ command some beside (changes board command)

-- a master that finds the mailbox locked stays idle and leaves its numbers the same
pub busy : (m : BoardMailbox) (bytes after : List ℕ) (access : Access) (next : Phase) → 1 ≤ m.slots → IsHeld m bytes → Did bytes access after
    → next_phase m Idle access ≡ Some next → (next ≡ Idle) × Quiet m bytes after
busy m bytes after (Sets at len old) next some held did goes =
    let is = reached_is (at == lock_at m && len == 1) (if nat_le 128 old then Idle else Locked) next goes in
    let place = and_parts _ _ is.0 in
    let here : at ≡ lock_at m = eqb-true _ _ place.0 in
    let one : len ≡ 1 = eqb-true _ _ place.1 in
    let found : old ≡ 128 = did.0 ∙ ap (λ a. number_in bytes a len) here ∙ ap (λ l. number_in bytes (lock_at m) l) one ∙ held in
    let within : lock_at m + 1 ≤ length bytes = let w = did.1 in omega arith in
    let set = lock_set m bytes some within (inr held) in
    let changed : after ≡ bytes_after_write bytes (lock_at m) (with_top_bit (slice_range bytes (lock_at m) (lock_at m + 1))) =
    did.2 ∙ ap (λ a. bytes_after_write bytes a (with_top_bit (slice_range bytes a (a + len)))) here
    ∙ ap (λ l. bytes_after_write bytes (lock_at m) (with_top_bit (slice_range bytes (lock_at m) (lock_at m + l)))) one in (
      sym is.1 ∙ ap (λ n. if nat_le 128 n then Idle else Locked) found,
      rw changed (record { lock = set.0 ∙ sym held; same = set.1 }),
    )
busy m bytes after (Reads at len found) next some held did goes = absurd cc
busy m bytes after (Writes at len number) next some held did goes = absurd cc
busy m bytes after Others next some held did goes = absurd cc

-- a phase that stays the same puts no word
pub no_put : (phase : Option Phase) → put_by phase phase ≡ []
no_put None = refl
no_put (Some Idle) = refl
no_put (Some Locked) = refl
no_put (Some (First p)) = refl
no_put (Some (Both p t)) = refl
no_put (Some (Written p x)) = refl
no_put (Some (Fetched t x)) = refl
no_put (Some Counted) = refl

-- a phase that stays the same takes no word
pub no_taken : (phase : Option Phase) → taken_by phase phase ≡ []
no_taken None = refl
no_taken (Some Idle) = refl
no_taken (Some Locked) = refl
no_taken (Some (First p)) = refl
no_taken (Some (Both p t)) = refl
no_taken (Some (Written p x)) = refl
no_taken (Some (Fetched t x)) = refl
no_taken (Some Counted) = refl

-- if the numbers and a master's phase stay the same, the words and the condition of the phase are kept
pub stayed : (m : BoardMailbox) (bytes after put taken : List ℕ) (phase : Phase) → Quiet m bytes after → Kept m bytes put taken
    → Stands m bytes put taken phase → Went m after put taken phase phase
stayed m bytes after put taken phase still kept stands =
    same_words m after put taken phase phase (no_put (Some phase)) (no_taken (Some phase)) (kept_same m bytes after put taken still.same kept)
    (stands_same m bytes after put taken phase still.same still.lock stands)
