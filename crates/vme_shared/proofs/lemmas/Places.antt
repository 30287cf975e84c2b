-- The words of a mailbox lie apart, after its counts.
use Rattle.std.proofs.Common.{◌≡◌, ℕ, ◌+◌, ◌*◌, ◌/◌, ◌%◌, ◌≤◌, ◌<◌, ◌⊎◌, arith, inl, inr}
use Rattle.std.proofs.Math.Nat.{mul-le-mul_left}
use Rattle.std.proofs.lemmas.Bool.{cases_lt, cases_order}
use Rattle.vme_shared.specs.MailboxSteps.{BoardMailbox, word_at, end_of}

-- a remainder modulo the number of slots is less than that number
pub rest_below : (n slots : ℕ) → 1 ≤ slots → n % slots < slots
rest_below n slots some = omega arith

-- two numbers that differ by less than the number of slots have different remainders
rests_apart : (n p slots : ℕ) → n < p → p < n + slots → n % slots ≡ p % slots → ⊥
rests_apart n p slots less near same =
    elim (cases_lt (n / slots) (p / slots)) [
      | inl up ↦ let more : slots * (n / slots + 1) ≤ slots * (p / slots) = mul-le-mul_left slots (omega arith) in absurd (omega arith)
      | inr down ↦ let more : slots * (p / slots) ≤ slots * (n / slots) = mul-le-mul_left slots down in absurd (omega arith)
    ]

-- a word lies after the counts and within the mailbox
pub word_within : (m : BoardMailbox) (n : ℕ) → 1 ≤ m.slots → (m.offset + 16 ≤ word_at m n) × (word_at m n + 4 ≤ end_of m)
word_within m n some = let rest = rest_below n m.slots some in (omega arith, omega arith)

-- words whose numbers differ by less than the number of slots lie apart
pub words_apart : (m : BoardMailbox) (n p : ℕ) → n < p → p < n + m.slots → (word_at m n + 4 ≤ word_at m p) ⊎ (word_at m p + 4 ≤ word_at m n)
words_apart m n p less near =
    elim (cases_order (n % m.slots) (p % m.slots)) [
      | inl same ↦ absurd (rests_apart n p m.slots less near same)
      | inr (inl below) ↦ inl (omega arith)
      | inr (inr above) ↦ inr (omega arith)
    ]
