-- The range of an entry, and the address that two entries share.
use Rattle.std.proofs.Common.{◌≡◌, ℕ, ◌+◌, ◌<◌, ◌≤◌, max, min, ◌&&◌, true, refl, arith}
use Rattle.std.specs.Prelude.{nat_le, nat_lt}
use Rattle.std.proofs.lemmas.Bool.{and_parts, and_from, ltb-true, leb-true, lt-ltb, le-leb}
use Rattle.vme_am.specs.declared.code.Space.{Space}
use Rattle.vme_am.specs.declared.code.Space.TheVariants.{A16, A24, A32}
use Rattle.vme_decode.specs.declared.entry.Entry.{Entry}
use Rattle.vme_decode.specs.Entries.{same_space, end_of, covers, overlap}

-- spaces that the test finds equal are equal
same_space_is : (a b : Space) → same_space a b ≡ true → a ≡ b
same_space_is A16 A16 same = refl
same_space_is A24 A24 same = refl
same_space_is A32 A32 same = refl
same_space_is a b same = cc

-- the test finds a space equal to itself
same_space_self : (a : Space) → same_space a a ≡ true
same_space_self A16 = refl
same_space_self A24 = refl
same_space_self A32 = refl

-- an address of a space is in the entry's range
pub record Has (entry : Entry) (space : Space) (addr : ℕ) : Type 0 where
  pub space_is : entry.space ≡ space
  pub from : entry.base ≤ addr
  pub below : addr < entry.base + entry.size

-- an address that an entry covers is in its range
pub has_from_covers : (entry : Entry) (space : Space) (addr : ℕ) → covers entry space addr ≡ true → Has entry space addr
has_from_covers entry space addr h =
    let parts = and_parts (same_space entry.space space && nat_le entry.base addr) (nat_lt addr (end_of entry)) h in
    let more = and_parts (same_space entry.space space) (nat_le entry.base addr) parts.0 in
    record {
      space_is = same_space_is entry.space space more.0;
      from = leb-true entry.base addr more.1;
      below = ltb-true addr (end_of entry) parts.1;
    }

-- an entry covers each address in its range
pub covers_from_has : (entry : Entry) (space : Space) (addr : ℕ) → Has entry space addr → covers entry space addr ≡ true
covers_from_has entry space addr h =
    let same : same_space entry.space space ≡ true = rw h.space_is (same_space_self space) in
    and_from _ _ (and_from _ _ same (le-leb _ _ h.from)) (lt-ltb _ _ h.below)

-- two entries that overlap both cover the greater base
pub overlap_shared :
    (a b : Entry) → overlap a b ≡ true → (space : Space) × (addr : ℕ) × (covers a space addr ≡ true) × (covers b space addr ≡ true)
overlap_shared a b h =
    let parts = and_parts (same_space a.space b.space) (nat_lt (max a.base b.base) (min (end_of a) (end_of b))) h in
    let below : max a.base b.base < min (end_of a) (end_of b) = ltb-true _ _ parts.1 in (
      b.space,
      max a.base b.base,
      covers_from_has a _ _ (record { space_is = same_space_is _ _ parts.0; from = omega arith; below = omega arith }),
      covers_from_has b _ _ (record { space_is = refl; from = omega arith; below = omega arith }),
    )

-- two entries that cover one address overlap
pub shared_overlap :
    (a b : Entry) (space : Space) (addr : ℕ) → covers a space addr ≡ true → covers b space addr ≡ true → overlap a b ≡ true
shared_overlap a b space addr ha hb =
    let in_a = has_from_covers a space addr ha in
    let in_b = has_from_covers b space addr hb in
    let same : same_space a.space b.space ≡ true = rw (in_a.space_is, in_b.space_is) (same_space_self space) in
    and_from _ _ same (lt-ltb _ _ (omega arith))
