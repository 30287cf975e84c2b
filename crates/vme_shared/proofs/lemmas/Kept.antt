-- The numbers in the bytes of a mailbox, by the words put and taken and by the phase of a master.
use Rattle.std.proofs.Common.{◌≡◌, ℕ, ◌+◌, ◌-◌, ◌^◌, ◌≤◌, ◌<◌, ◌⊎◌, Bool, true, false, List, [], ◌∷◌, length, take, get_or, slice_range, refl, ◌∙◌, arith, inl, inr, Some}
use Rattle.vme_cycle.specs.Functions.{number_of, with_top_bit}
use Rattle.vme_memory.specs.Boards.{bytes_after_write}
use Rattle.vme_shared.specs.MailboxSteps.{BoardMailbox, lock_at, put_count_at, take_count_at, word_at, end_of}
use Rattle.vme_shared.specs.Phases.{Phase, Idle, Locked, First, Both, Written, Fetched, Counted, reached}
use Rattle.vme_shared.proofs.lemmas.Bytes.{number_in, number_new, number_apart}
use Rattle.vme_shared.proofs.lemmas.Places.{word_within}
use Rattle.vme_shared.proofs.lemmas.MailboxSteps.{read_len}

-- the counts are those of the words, the taken words are a prefix of the put ones, and the others lie in their slots
pub record Kept (m : BoardMailbox) (bytes put taken : List ℕ) : Type 0 where
  pub put_count : number_in bytes (put_count_at m) 4 ≡ length put
  pub take_count : number_in bytes (take_count_at m) 4 ≡ length taken
  pub small : length put < 2 ^ 32
  pub prefix : take (length taken) put ≡ taken
  pub ahead : length taken ≤ length put
  pub few : length put ≤ length taken + m.slots
  pub words : (n d : ℕ) → length taken ≤ n → n < length put → number_in bytes (word_at m n) 4 ≡ get_or put n d

-- the lock is taken
abbrev pub IsHeld : BoardMailbox → List ℕ → Type 0
IsHeld m bytes = number_in bytes (lock_at m) 1 ≡ 128

-- the numbers in the bytes while a master is in a phase
abbrev pub Stands : BoardMailbox → List ℕ → List ℕ → List ℕ → Phase → Type 0
Stands m bytes put taken Idle = number_in bytes (lock_at m) 1 ≡ 0
Stands m bytes put taken Locked = IsHeld m bytes
Stands m bytes put taken (First p) = IsHeld m bytes × (p ≡ length put)
Stands m bytes put taken (Both p t) = IsHeld m bytes × (p ≡ length put) × (t ≡ length taken)
Stands m bytes put taken (Written p x) =
    IsHeld m bytes × (p ≡ length put) × (p < 2 ^ 32 - 1) × (p < length taken + m.slots) × (number_in bytes (word_at m p) 4 ≡ x)
Stands m bytes put taken (Fetched t x) = IsHeld m bytes × (t ≡ length taken) × (t < length put) × ((d : ℕ) → get_or put t d ≡ x)
Stands m bytes put taken Counted = IsHeld m bytes

-- all numbers of the mailbox but its lock are the same
pub record SameNumbers (m : BoardMailbox) (bytes after : List ℕ) : Type 0 where
  pub put_count : number_in after (put_count_at m) 4 ≡ number_in bytes (put_count_at m) 4
  pub take_count : number_in after (take_count_at m) 4 ≡ number_in bytes (take_count_at m) 4
  pub words : (n : ℕ) → number_in after (word_at m n) 4 ≡ number_in bytes (word_at m n) 4

module _ (m : BoardMailbox) (bytes after put taken : List ℕ) where
  -- if the numbers are equal, the counts and the words are kept
  pub kept_same : SameNumbers m bytes after → Kept m bytes put taken → Kept m after put taken
  kept_same same kept = record {
    put_count = same.put_count ∙ kept.put_count;
    take_count = same.take_count ∙ kept.take_count;
    small = kept.small;
    prefix = kept.prefix;
    ahead = kept.ahead;
    few = kept.few;
    words = λ n d from below. same.words n ∙ kept.words n d from below;
  }

  -- if the numbers and the locks are equal, the condition of a phase is kept
  pub stands_same : (phase : Phase) → SameNumbers m bytes after → number_in after (lock_at m) 1 ≡ number_in bytes (lock_at m) 1
      → Stands m bytes put taken phase → Stands m after put taken phase
  stands_same Idle same lock stands = lock ∙ stands
  stands_same Locked same lock stands = lock ∙ stands
  stands_same (First p) same lock stands = (lock ∙ stands.0, stands.1)
  stands_same (Both p t) same lock stands = (lock ∙ stands.0, stands.1, stands.2)
  stands_same (Written p x) same lock stands = (lock ∙ stands.0, stands.1, stands.2, stands.3, same.words p ∙ stands.4)
  stands_same (Fetched t x) same lock stands = (lock ∙ stands.0, stands.1, stands.2, stands.3)
  stands_same Counted same lock stands = lock ∙ stands

-- a phase that is not idle holds the lock
pub held_by : (m : BoardMailbox) (bytes put taken : List ℕ) (phase : Phase) → Stands m bytes put taken phase
    → (phase ≡ Idle) ⊎ IsHeld m bytes
held_by m bytes put taken Idle stands = inl refl
held_by m bytes put taken Locked stands = inr stands
held_by m bytes put taken (First p) stands = inr stands.0
held_by m bytes put taken (Both p t) stands = inr stands.0
held_by m bytes put taken (Written p x) stands = inr stands.0
held_by m bytes put taken (Fetched t x) stands = inr stands.0
held_by m bytes put taken Counted stands = inr stands

-- bytes that are written beside the mailbox, or over its lock alone, leave its other numbers the same
pub same_beside : (m : BoardMailbox) (bytes new : List ℕ) (at : ℕ) → 1 ≤ m.slots → at + length new ≤ length bytes
    → (at + length new ≤ put_count_at m) ⊎ (end_of m ≤ at) → SameNumbers m bytes (bytes_after_write bytes at new)
same_beside m bytes new at some within (inl below) = record {
  put_count = number_apart bytes new at (put_count_at m) 4 within (inr (omega arith));
  take_count = number_apart bytes new at (take_count_at m) 4 within (inr (omega arith));
  words = λ n. let place = word_within m n some in number_apart bytes new at (word_at m n) 4 within (inr (omega arith));
}
same_beside m bytes new at some within (inr above) = record {
  put_count = number_apart bytes new at (put_count_at m) 4 within (inl (omega arith));
  take_count = number_apart bytes new at (take_count_at m) 4 within (inl (omega arith));
  words = λ n. let place = word_within m n some in number_apart bytes new at (word_at m n) 4 within (inl (omega arith));
}

-- a byte that is 0 or 128 is 128 once its bit 7 is set
set_byte : (one : List ℕ) → length one ≡ 1 → (number_of one ≡ 0) ⊎ (number_of one ≡ 128) → number_of (with_top_bit one) ≡ 128
set_byte [] long is = absurd (omega arith)
set_byte (byte ∷ []) long (inl zero_byte) = let is : byte ≡ 0 = omega arith in rw is refl
set_byte (byte ∷ []) long (inr held) = let is : byte ≡ 128 = omega arith in rw is refl
set_byte (byte ∷ other ∷ bytes) long is = absurd (omega arith)

-- the byte with bit 7 set is one byte
set_len : (one : List ℕ) → length one ≡ 1 → length (with_top_bit one) ≡ 1
set_len [] long = long
set_len (byte ∷ bytes) long = long

-- a lock that is set is taken, and all other numbers stay the same
pub lock_set : (m : BoardMailbox) (bytes : List ℕ) → 1 ≤ m.slots → lock_at m + 1 ≤ length bytes
    → (number_in bytes (lock_at m) 1 ≡ 0) ⊎ IsHeld m bytes
    → IsHeld m (bytes_after_write bytes (lock_at m) (with_top_bit (slice_range bytes (lock_at m) (lock_at m + 1))))
    × SameNumbers m bytes (bytes_after_write bytes (lock_at m) (with_top_bit (slice_range bytes (lock_at m) (lock_at m + 1))))
lock_set m bytes some within was =
    let one = slice_range bytes (lock_at m) (lock_at m + 1) in
    let long : length one ≡ 1 = read_len bytes (lock_at m) 1 within in
    let new_long : length (with_top_bit one) ≡ 1 = set_len one long in (
      number_new bytes (with_top_bit one) (lock_at m) 1 within new_long ∙ set_byte one long was,
      same_beside m bytes (with_top_bit one) (lock_at m) some (omega arith) (inl (omega arith)),
    )

-- a write over the lock sets the lock's number, and all other numbers stay the same
pub lock_written : (m : BoardMailbox) (bytes new : List ℕ) → 1 ≤ m.slots → lock_at m + 1 ≤ length bytes → length new ≡ 1
    → (number_in (bytes_after_write bytes (lock_at m) new) (lock_at m) 1 ≡ number_of new)
    × SameNumbers m bytes (bytes_after_write bytes (lock_at m) new)
lock_written m bytes new some within long =
    (number_new bytes new (lock_at m) 1 within long, same_beside m bytes new (lock_at m) some (omega arith) (inl (omega arith)))

-- a phase that is reached is the given one, and its condition holds
pub reached_is : (is : Bool) (phase next : Phase) → reached is phase ≡ Some next → (is ≡ true) × (phase ≡ next)
reached_is true phase next reaches = (refl, cc)
reached_is false phase next reaches = absurd cc
