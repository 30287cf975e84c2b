-- The facts of a request without a refusal.
use Rattle.std.proofs.Common.{◌≡◌, ◌∙◌, sym, ℕ, List, ◌∷◌, length, ◌+◌, ◌*◌, ◌^◌, ◌-◌, ◌/◌, ◌≤◌, ◌<◌, ◌⊎◌, suc, Bool, true, false, not, Option, None, Ok, refl, arith, inl, inr, nat_lt}
use Rattle.std.specs.Bool.{beq}
use Rattle.std.proofs.Math.Nat.{mul-le-mul_left}
use Rattle.std.proofs.lemmas.Bool.{cases_Bool, and_parts, leb-true, eqb-true}
use Rattle.std.proofs.lemmas.Bool.Decides.{leb_tells, eqb_tells}
use Rattle.vme_am.specs.Codes.{CodeRow, read_code}
use Rattle.vme_am.specs.Kinds.{is_block}
use Rattle.vme_am.specs.Spaces.{addresses_of}
use Rattle.vme_am.specs.declared.code.Space.{Space}
use Rattle.vme_am.specs.declared.code.Space.TheVariants.{A16, A24, A32}
use Rattle.vme_cycle.specs.declared.fault.CycleFault.{CycleFault}
use Rattle.vme_cycle.specs.declared.request.Request.{Request}
use Rattle.vme_cycle.specs.declared.request.Request.TheVariants.{Read, Write, BlockRead, BlockWrite, BlockFill, Modify}
use Rattle.vme_cycle.specs.Counts.{is_single_len, is_block_len, is_wide_len, is_datum_len, is_wide_code, is_block_count, boundary_of}
use Rattle.vme_cycle.specs.Requests.{code_of, address_of, addr_of, datum_len, count_of, span_of, is_block_request, is_counted}
use Rattle.vme_cycle.specs.Parts.{IsLawful}
use Rattle.vme_cycle.specs.Refusals.{where_true, first_of}
use Rattle.vme_cycle.specs.Lawful.{first_refusal}
use Rattle.vme_cycle.proofs.Wide.{wide_is_block, wide_code}

-- two truth values that do not differ are equal
beq_true : (a b : Bool) → not (beq a b) ≡ false → a ≡ b
beq_true true true h = refl
beq_true true false h = absurd cc
beq_true false true h = absurd cc
beq_true false false h = refl

-- a truth value whose negation is false is true
not_false : (b : Bool) → not b ≡ false → b ≡ true
not_false true h = refl
not_false false h = absurd cc

-- if a list has no first refusal, its first test fails and the rest has no refusal
none_first :
    (b : Bool) (fault : CycleFault) (more : List (Option CycleFault)) → first_of (where_true b fault ∷ more) ≡ None
    → (b ≡ false) × (first_of more ≡ None)
none_first true fault more h = absurd cc
none_first false fault more h = (refl, h)

-- a single datum has one to four bytes
single_lens : (n : ℕ) → is_single_len n ≡ true → (1 ≤ n) × (n ≤ 4)
single_lens n h = let parts = and_parts _ _ h in (leb-true 1 n parts.0, leb-true n 4 parts.1)

-- a datum of a block without a code of eight-byte data has one, two or four bytes
pub block_lens : (n : ℕ) → is_block_len n ≡ true → (n ≡ 1) ⊎ ((n ≡ 2) ⊎ (n ≡ 4))
block_lens n h =
    elim (eqb_tells n 1) [
      | inl one ↦ inl one.1
      | inr more ↦ elim (eqb_tells n 2) [
        | inl two ↦ inr (inl two.1)
        | inr other ↦ inr (inr (eqb-true n 4 (rw (more.0, other.0) at h)))
      ]
    ]

-- a datum of a block without a code of eight-byte data has one to four bytes
block_small : (n : ℕ) → is_block_len n ≡ true → (1 ≤ n) × (n ≤ 4)
block_small n h = elim (block_lens n h) [ inl one ↦ (omega (arith, one), omega (arith, one)) | inr more ↦ elim more [ inl two ↦ (omega (arith, two), omega (arith, two)) | inr four ↦ (omega (arith, four), omega (arith, four)) ] ]

-- a datum of a block has one, two, four or eight bytes
pub datum_lens : (wide : Bool) (n : ℕ) → is_datum_len wide n ≡ true → (n ≡ 1) ⊎ ((n ≡ 2) ⊎ ((n ≡ 4) ⊎ (n ≡ 8)))
datum_lens true n h = inr (inr (inr (eqb-true n 8 h)))
datum_lens false n h =
    elim (block_lens n h) [ inl one ↦ inl one | inr more ↦ elim more [ inl two ↦ inr (inl two) | inr four ↦ inr (inr (inl four)) ] ]

-- a datum of a block has one to eight bytes
data_small : (wide : Bool) (n : ℕ) → is_datum_len wide n ≡ true → (1 ≤ n) × (n ≤ 8)
data_small true n h = let eight = eqb-true n 8 h in (omega (arith, eight), omega (arith, eight))
data_small false n h = let few = block_small n h in (few.0, omega (arith, few.1))

-- one to four bytes are one to eight bytes
up_to_eight : (n : ℕ) → (1 ≤ n) × (n ≤ 4) → (1 ≤ n) × (n ≤ 8)
up_to_eight n few = (few.0, omega (arith, few.1))

-- a datum has one to eight bytes
pub datum_small : (request : Request) → is_counted request ≡ true → (1 ≤ datum_len request) × (datum_len request ≤ 8)
datum_small (Read am addr n) h = up_to_eight n (single_lens n h)
datum_small (Write am addr bytes) h = up_to_eight (length bytes.items) (single_lens (length bytes.items) h)
datum_small (BlockRead am addr n count) h = data_small (is_wide_code am) n (and_parts _ _ h).0
datum_small (BlockWrite am addr n bytes) h = data_small (is_wide_code am) n (and_parts _ _ (and_parts _ _ h).0).0
datum_small (BlockFill am addr n count bytes) h = data_small (is_wide_code am) n (and_parts _ _ (and_parts _ _ h).0).0
datum_small (Modify am addr n f) h = up_to_eight n (block_small n (and_parts _ _ h).0)

-- a datum of a single request has at most four bytes
pub datum_few : (request : Request) → is_block_request request ≡ false → is_counted request ≡ true → datum_len request ≤ 4
datum_few (Read am addr n) b h = (single_lens n h).1
datum_few (Write am addr bytes) b h = (single_lens (length bytes.items) h).1
datum_few (BlockRead am addr n count) b h = absurd cc
datum_few (BlockWrite am addr n bytes) b h = absurd cc
datum_few (BlockFill am addr n count bytes) b h = absurd cc
datum_few (Modify am addr n f) b h = (block_small n (and_parts _ _ h).0).1

-- a block has at least one datum
some_count : (count : ℕ) → is_block_count count ≡ true → 0 < count
some_count count h = let some = leb-true 1 count (and_parts _ _ h).0 in omega (arith, some)

-- a request has at least one datum
pub some_data : (request : Request) → is_counted request ≡ true → 0 < count_of request
some_data (Read am addr n) h = omega arith
some_data (Write am addr bytes) h = omega arith
some_data (BlockRead am addr n count) h = some_count count (and_parts _ _ h).1
some_data (BlockWrite am addr n bytes) h = some_count (length bytes.items / n) (and_parts _ _ (and_parts _ _ h).0).1
some_data (BlockFill am addr n count bytes) h = some_count count (and_parts _ _ (and_parts _ _ h).0).1
some_data (Modify am addr n f) h = omega arith

-- a single request has one datum
pub single : (request : Request) → is_block_request request ≡ false → count_of request ≡ 1
single (Read am addr n) h = refl
single (Write am addr bytes) h = refl
single (BlockRead am addr n count) h = absurd cc
single (BlockWrite am addr n bytes) h = absurd cc
single (BlockFill am addr n count bytes) h = absurd cc
single (Modify am addr n f) h = refl

-- the data of a counted block request have a length that its code allows
pub block_datum :
    (request : Request) → is_block_request request ≡ true → is_counted request ≡ true
    → is_datum_len (is_wide_code (code_of request)) (datum_len request) ≡ true
block_datum (Read am addr n) b h = absurd cc
block_datum (Write am addr bytes) b h = absurd cc
block_datum (BlockRead am addr n count) b h = (and_parts _ _ h).0
block_datum (BlockWrite am addr n bytes) b h = (and_parts _ _ (and_parts _ _ h).0).0
block_datum (BlockFill am addr n count bytes) b h = (and_parts _ _ (and_parts _ _ h).0).0
block_datum (Modify am addr n f) b h = absurd cc

-- up to four bytes are not eight
pub few_len : (n : ℕ) → n ≤ 4 → is_wide_len n ≡ false
few_len n few = elim (eqb_tells n 8) [ inl eight ↦ absurd (omega (arith, eight.1, few)) | inr other ↦ other.0 ]

-- a datum of a block has eight bytes exactly with a code of eight-byte data
len_of_code : (wide : Bool) (n : ℕ) → is_datum_len wide n ≡ true → is_wide_len n ≡ wide
len_of_code true n h = h
len_of_code false n h = few_len n (block_small n h).1

-- a row of no block is not one of eight-byte data
plain_row : (code : ℕ) (row : CodeRow) → read_code code ≡ Ok row → is_block row.kind ≡ false → row.wide ≡ false
plain_row code row found alone =
    elim (cases_Bool row.wide) [
      | inl wide ↦ let block = wide_is_block code row found wide in absurd cc
      | inr plain ↦ plain
    ]

-- a datum of a counted request has eight bytes exactly if the row of its code is one of eight-byte data
wide_by_row :
    (row : CodeRow) (request : Request) → read_code (code_of request) ≡ Ok row → is_block row.kind ≡ is_block_request request
    → is_counted request ≡ true → is_wide_len (datum_len request) ≡ row.wide
wide_by_row row request code kind counted =
    elim (cases_Bool (is_block_request request)) [
      | inl block ↦
          len_of_code (is_wide_code (code_of request)) (datum_len request) (block_datum request block counted)
          ∙ wide_code (code_of request) row code
      | inr alone ↦
          few_len (datum_len request) (datum_few request alone counted)
          ∙ sym (plain_row (code_of request) row code (kind ∙ alone))
    ]

-- a request whose code has a row and that has no refusal is lawful
pub lawful : (row : CodeRow) (request : Request) → read_code (code_of request) ≡ Ok row → first_refusal request ≡ None → IsLawful row request
unfolding first_refusal
lawful row request code none =
    let kind = none_first _ _ _ (rw code at none) in
    let no_program = none_first _ _ _ kind.1 in
    let counted = none_first _ _ _ no_program.1 in
    let within = none_first _ _ _ counted.1 in
    let found = none_first _ _ _ within.1 in
    let inside = none_first _ _ _ found.1 in
    record {
      kind = beq_true _ _ kind.0;
      no_program = no_program.0;
      counted = not_false _ counted.0;
      wide = wide_by_row row request code (beq_true _ _ kind.0) (not_false _ counted.0);
      within = le_of_not_lt _ _ within.0;
      found = found.0;
      inside = inside.0;
    }
  where
    le_of_not_lt : (a b : ℕ) → nat_lt a b ≡ false → b ≤ a
    le_of_not_lt a b h = elim (leb_tells (suc a) b) [ inl less ↦ absurd cc | inr more ↦ omega (arith, more.1) ]

-- bytes that lie in one unit between block boundaries are at most 2,048
same_unit : (n addr span : ℕ) → addr / boundary_of n ≡ (addr + span - 1) / boundary_of n → span ≤ 2048
same_unit n addr span h =
    elim (cases_Bool (is_wide_len n)) [
      | inl wide ↦ let same : addr / 2048 ≡ (addr + span - 1) / 2048 = rw wide at h in omega (arith, same)
      | inr plain ↦ let same : addr / 256 ≡ (addr + span - 1) / 256 = rw plain at h in omega (arith, same)
    ]

-- all bytes of a request fit in one unit of 2,048 bytes
pub one_unit : (row : CodeRow) (request : Request) → IsLawful row request → span_of request ≤ 2048
one_unit row request is =
    elim (cases_Bool (is_block_request request)) [
      | inl block ↦ same_unit (datum_len request) (addr_of request) (span_of request) (eqb-true _ _ (not_false _ (rw block at is.inside)))
      | inr alone ↦ let small = datum_small request is.counted in let one = single request alone in rw one (omega (arith, small))
    ]

-- each datum lies in the code's space
pub datum_within :
    (row : CodeRow) (request : Request) (i : ℕ) → IsLawful row request → i < count_of request
    → address_of request i + datum_len request ≤ addresses_of row.space
datum_within row request i is less =
    let upto : datum_len request * suc i ≤ span_of request = mul-le-mul_left (datum_len request) less in
    let split : datum_len request * suc i ≡ datum_len request + i * datum_len request = grind arith in
    omega (arith, upto, split, is.within)

-- each space has at most 2^32 addresses
space_small : (space : Space) → addresses_of space ≤ 2 ^ 32
space_small A16 = omega arith
space_small A24 = omega arith
space_small A32 = omega arith

-- the address of each datum has 32 bits
pub datum_below :
    (row : CodeRow) (request : Request) (i : ℕ) → IsLawful row request → i < count_of request → address_of request i + datum_len request ≤ 2 ^ 32
datum_below row request i is less = let within = datum_within row request i is less in let small = space_small row.space in omega (arith, within, small)
