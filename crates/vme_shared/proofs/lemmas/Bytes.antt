-- The numbers that a board's bytes give, as some of the bytes are overwritten.
use Rattle.std.proofs.Common.{◌≡◌, ℕ, ◌+◌, ◌-◌, ◌≤◌, ◌⊎◌, List, [], ◌∷◌, ◌++◌, length, take, slice_range, ap, sym, arith, inl, inr}
use Rattle.std.proofs.lemmas.Grind.{common_steps, same_number_lists}
use Rattle.std.proofs.lemmas.Slice.{drop-append-drop}
use Rattle.vme_cycle.specs.Functions.{number_of}
use Rattle.vme_memory.specs.Boards.{bytes_after_write}

-- the number of so many bytes from an offset on
abbrev pub number_in : List ℕ → ℕ → ℕ → ℕ
number_in bytes at len = number_of (slice_range bytes at (at + len))

-- the written range has the written bytes
written_there : (bytes new : List ℕ) (at : ℕ) → at + length new ≤ length bytes → slice_range (bytes_after_write bytes at new) at (at + length new) ≡ new
written_there bytes new at within = grind (arith, common_steps)

-- the number of the written range is that of the written bytes
pub number_new : (bytes new : List ℕ) (at len : ℕ) → at + len ≤ length bytes → length new ≡ len → number_in (bytes_after_write bytes at new) at len ≡ number_of new
number_new bytes new at len within long = rw (sym long) (ap number_of (written_there bytes new at (omega arith)))

-- bytes before the written range stay the same
before : (bytes new : List ℕ) (at a len : ℕ) → at + length new ≤ length bytes → a + len ≤ at
    → slice_range (bytes_after_write bytes at new) a (a + len) ≡ slice_range bytes a (a + len)
before bytes new at a len within apart = same_number_lists _ _ (grind (arith, common_steps)) (λ k below. grind (arith, common_steps))

-- bytes after the written range stay the same
behind : (bytes new : List ℕ) (at a len : ℕ) → at + length new ≤ length bytes → at + length new ≤ a
    → slice_range (bytes_after_write bytes at new) a (a + len) ≡ slice_range bytes a (a + len)
behind bytes new at a len within apart =
    let prefix : length (take at bytes ++ new) ≡ at + length new = grind (arith, common_steps) in
    ap (take (a + len - a)) (drop-append-drop (at + length new) bytes (take at bytes ++ new) a apart prefix)

-- a number apart from the written range stays the same
pub number_apart : (bytes new : List ℕ) (at a len : ℕ) → at + length new ≤ length bytes → (a + len ≤ at) ⊎ (at + length new ≤ a)
    → number_in (bytes_after_write bytes at new) a len ≡ number_in bytes a len
number_apart bytes new at a len within (inl apart) = ap number_of (before bytes new at a len within apart)
number_apart bytes new at a len within (inr apart) = ap number_of (behind bytes new at a len within apart)

-- a write of no bytes changes nothing
pub write_nothing : (bytes new : List ℕ) (at : ℕ) → length new ≡ 0 → bytes_after_write bytes at new ≡ bytes
write_nothing bytes [] at none = grind (arith, common_steps)
write_nothing bytes (x ∷ new) at none = absurd (omega arith)
