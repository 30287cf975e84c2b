-- Parts: their bytes are those of the access, and each is aligned.
use Rattle.std.proofs.Common.{◌≡◌, ℕ, zero, suc, ◌+◌, ◌-◌, ◌%◌, ◌<◌, ◌≤◌, List, [], ◌∷◌, ◌++◌, refl, sym, ap, ◌∙◌, append_assoc, arith}
use Rattle.std.proofs.lemmas.List.Elements.{All-nil, All-cons}
use Rattle.std.specs.Prelude.{All, IsTrue}
use Rattle.vme_memory.specs.Classes.{is_local_len}
use Rattle.vme_memory.specs.declared.class.Width8To32.{Width8To32}
use Rattle.vme_memory.specs.declared.class.Width8To32.TheVariants.{D08, D16, D32}
use Rattle.vme_split.specs.declared.part.Part.{Part}
use Rattle.vme_split.specs.Parts.{moves, part_len, parts_within, width_bytes, Cover, IsAligned}

-- a first part has a byte
pub some : (width at n : ℕ) → 0 < part_len width at n
some width at n = grind arith

-- a first part has no more bytes than are left
pub within : (width at n : ℕ) → 0 < n → part_len width at n ≤ n
within width at n has = grind arith

-- a first part is at most as wide
pub narrow : (width at n : ℕ) → 0 < width → part_len width at n ≤ width
narrow width at n has = grind arith

-- a first part begins at a multiple of its length
pub aligned : (width at n : ℕ) → at % part_len width at n ≡ 0
aligned width at n = grind arith

-- without bytes there are no parts
pub no_parts : (most width at : ℕ) → parts_within most width at 0 ≡ []
no_parts zero width at = refl
no_parts (suc most) width at = refl

-- the first part, and those of the bytes after it
pub first_part : (most width at n : ℕ) → 0 < n →
    parts_within (suc most) width at n ≡
    record { at = at; len = part_len width at n } ∷ parts_within most width (at + part_len width at n) (n - part_len width at n)
first_part most width at zero has = grind arith
first_part most width at (suc n) has = refl

-- the parts that are left after so many rounds, if there are bytes left
pub round_part : (round width at n : ℕ) → round < 4 → 0 < n →
    parts_within (4 - round) width at n ≡
    record { at = at; len = part_len width at n }
    ∷ parts_within (4 - (round + 1)) width (at + part_len width at n) (n - part_len width at n)
round_part round width at n below has =
    let one : 4 - round ≡ suc (4 - (round + 1)) = omega arith in
    ap (λ most. parts_within most width at n) one ∙ first_part (4 - (round + 1)) width at n has

-- parts of which the next one is appended still lead to all
pub next_part : (round width at n len : ℕ) (before after all : List Part) → round < 4 → 0 < n → len ≡ part_len width at n →
    after ≡ before ++ record { at = at; len = len } ∷ [] → before ++ parts_within (4 - round) width at n ≡ all →
    after ++ parts_within (4 - (round + 1)) width (at + len) (n - len) ≡ all
next_part round width at n len before after all below has is_len is_after is =
    rw (is_after, is_len)
    (append_assoc before (record { at = at; len = part_len width at n } ∷ []) (parts_within (4 - (round + 1)) width (at + part_len width at n) (n - part_len width at n))
    ∙ ap (λ more. before ++ more) (sym (round_part round width at n below has)) ∙ is)

-- no bytes have no parts, however many there may be
pub no_bytes : (most other width at n : ℕ) → n ≡ 0 → parts_within most width at n ≡ parts_within other width at n
no_bytes most other width at n none = rw none (no_parts most width at ∙ sym (no_parts other width at))

-- parts are the bytes of the access, if there may be as many parts as bytes
pub cover : (most width at n : ℕ) → n ≤ most → Cover at n (parts_within most width at n)
cover zero width at n few = omega arith
cover (suc most) width at zero few = refl
cover (suc most) width at (suc n) few =
    let has = some width at (suc n) in (
      refl,
      within width at (suc n) (omega arith),
      cover most width (at + part_len width at (suc n)) (suc n - part_len width at (suc n)) (omega (arith, has)),
    )

-- each part is aligned
pub all_aligned : (most width at n : ℕ) → 0 < width → All (IsAligned width) (parts_within most width at n)
all_aligned zero width at n has = All-nil (IsAligned width)
all_aligned (suc most) width at zero has = All-nil (IsAligned width)
all_aligned (suc most) width at (suc n) has =
    All-cons (IsAligned width) (record { at = at; len = part_len width at (suc n) })
    (parts_within most width (at + part_len width at (suc n)) (suc n - part_len width at (suc n)))
    (some width at (suc n), narrow width at (suc n) has, aligned width at (suc n))
    (all_aligned most width (at + part_len width at (suc n)) (suc n - part_len width at (suc n)) has)

-- each width has a byte
pub wide : (width : Width8To32) → 0 < width_bytes width
wide D08 = omega arith
wide D16 = omega arith
wide D32 = omega arith

-- the first part of an access that is moved at once is the whole access
pub first_is_whole : (width at n : ℕ) → n ≤ 4 → IsTrue (is_local_len n) → IsTrue (moves n width at n) → part_len width at n ≡ n
first_is_whole width at zero few local once = grind arith
first_is_whole width at (suc zero) few local once = grind arith
first_is_whole width at (suc (suc zero)) few local once = grind arith
first_is_whole width at (suc (suc (suc zero))) few local once = grind arith
first_is_whole width at (suc (suc (suc (suc zero)))) few local once = grind arith
first_is_whole width at (suc (suc (suc (suc (suc n))))) few local once = omega (arith, few)

-- an access has bytes
pub has_bytes : (n : ℕ) → IsTrue (is_local_len n) → 0 < n
has_bytes n local = grind arith

-- an access that is moved at once has no other part
pub whole : (width at n : ℕ) → n ≤ 4 → IsTrue (is_local_len n) → IsTrue (moves n width at n) →
    parts_within 4 width at n ≡ record { at = at; len = n } ∷ []
whole width at n few local once =
    let is = first_is_whole width at n few local once in
    first_part 3 width at n (has_bytes n local)
    ∙ rw is (ap (λ more. record { at = at; len = n } ∷ more) (no_bytes 3 0 width (at + n) (n - n) (omega arith)))
