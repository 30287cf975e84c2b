-- A transfer of the rules begins as the lawful transfer whose address its sample shows.
use Rattle.std.proofs.Common.{◌≡◌, ℕ, ◌+◌, ◌-◌, ◌*◌, ◌/◌, ◌%◌, ◌^◌, ◌<◌, ◌≤◌, ◌==◌, Bool, true, false, not, ◌&&◌, if◌then◌else◌, length, Ok, refl, ap, ◌∙◌, arith}
use Rattle.std.specs.Prelude.{bit_and, nat_le}
use Rattle.std.specs.Int.Bits.{and_zero_r}
use Rattle.std.proofs.Math.Nat.{zero-div}
use Rattle.std.proofs.lemmas.Bool.{and_parts, leb-true}
use Rattle.std.proofs.lemmas.Nat.{and_block, and_mask}
use Rattle.vme_am.specs.declared.code.Space.{Space}
use Rattle.vme_am.specs.declared.code.Space.TheVariants.{A16, A24, A32}
use Rattle.vme_am.specs.Codes.{CodeRow, read_code}
use Rattle.vme_am.specs.Spaces.{addresses_of}
use Rattle.vme_lanes.specs.Rows.{row_of}
use Rattle.vme_cycle.specs.declared.request.Request.{Request}
use Rattle.vme_cycle.specs.declared.request.Request.TheVariants as requests
use Rattle.vme_cycle.specs.Counts.{is_block_count}
use Rattle.vme_cycle.specs.Requests.{addr_of, count_of, is_counted}
use Rattle.vme_cycle.specs.Requests as cycle_requests
use Rattle.vme_cycle.specs.Lawful as cycles
use Rattle.vme_cycle.specs.Lawful.{IsLawfulTransfer}
use Rattle.vme_cycle.specs.Plans.{own_location, signals_of}
use Rattle.vme_cycle.proofs.lemmas.Transfers.{lawful_parts}
use Rattle.vme_protocol.specs.declared.sample.Sample.{Sample}
use Rattle.vme_protocol.specs.declared.scope.Scope.{Scope}
use Rattle.vme_protocol.specs.Lines.{space_lines, lines_by, counted_lines, meet}
use Rattle.vme_protocol.specs.Scopes.{is_ignored}
use Rattle.vme_protocol.specs.Transfers.{is_row, is_block_row, is_wide_row, base_of, opened}
use Rattle.vme_trace.specs.Changes.{level_of}
use Rattle.vme_legal_traces.specs.Samples.{bit_of}
use Rattle.vme_legal_traces.specs.Kept.{strict_scope}
use Rattle.vme_legal_traces.proofs.Addresses.{address_of, top_of, signals_row}
use Rattle.vme_legal_traces.proofs.Located.{IsBegun, below}
use Rattle.vme_legal_traces.proofs.Named.{Names}
use Rattle.vme_legal_traces.proofs.Rows.{code_read}

-- a block has a datum
some_block : (count : ℕ) → is_block_count count ≡ true → 0 < count
some_block count is = let some : 1 ≤ count = leb-true 1 count (and_parts (nat_le 1 count) (nat_le count 256) is).0 in omega (arith, some)

-- a lawful request has one
some_datum : (request : Request) → is_counted request ≡ true → 0 < count_of request
some_datum (requests.Read am addr n) is = omega arith
some_datum (requests.Write am addr bytes) is = omega arith
some_datum (requests.BlockRead am addr n count) is = some_block count (and_parts _ _ is).1
some_datum (requests.BlockWrite am addr n bytes) is = some_block (length bytes.items / n) (and_parts _ _ (and_parts _ _ is).0).1
some_datum (requests.BlockFill am addr n count bytes) is = some_block count (and_parts _ _ (and_parts _ _ is).0).1
some_datum (requests.Modify am addr n f) is = omega arith

-- so has a lawful transfer
pub some_data : (t : cycles.Transfer) → IsLawfulTransfer t → 0 < count_of t.request
some_data t lawful = some_datum t.request (lawful_parts t lawful).counted

-- A01 and LWORD* as a number
abbrev low_bits : Bool → Bool → ℕ
low_bits true true = 3
low_bits true false = 2
low_bits false true = 1
low_bits false false = 0

-- the number of an address in two parts
top_parts : (base : ℕ) (a01 lword : Bool) → (if a01 then base + 2 else base) + bit_of (level_of lword) ≡ base + low_bits a01 lword
top_parts base true true = omega arith
top_parts base true false = omega arith
top_parts base false true = omega arith
top_parts base false false = omega arith

-- A01 and LWORD* are two bits
low_below : (a01 lword : Bool) → low_bits a01 lword < 4
low_below true true = omega arith
low_below true false = omega arith
low_below false true = omega arith
low_below false false = omega arith

-- the bit of A01
a01_low : (a01 lword : Bool) → not (bit_and (low_bits a01 lword) 2 * 2 ^ 32 + 0 == 0) ≡ a01
a01_low true true = refl
a01_low true false = refl
a01_low false true = refl
a01_low false false = refl

-- the bit of LWORD*
lword_low : (a01 lword : Bool) → not (bit_and (low_bits a01 lword) 1 * 2 ^ 32 + 0 == 0) ≡ lword
lword_low true true = refl
lword_low true false = refl
lword_low false true = refl
lword_low false false = refl

-- one of the two lowest address bits, with the data lines
bit_is : (base low rest bit : ℕ) → base % 4 ≡ 0 → low < 4 → bit < 4 → rest < 2 ^ 32
    → bit_and ((base + low) * 2 ^ 32 + rest) (bit * 2 ^ 32 + 0) ≡ bit_and low bit * 2 ^ 32 + 0
bit_is base low rest bit whole few one below =
    let group : base + low ≡ base / 4 * 2 ^ 2 + low = omega (arith, whole) in
    let wide : bit ≡ 0 * 2 ^ 2 + bit = omega arith in
    let lowest : bit_and (base + low) bit ≡ bit_and low bit
    = ap (λ (x : ℕ). bit_and x bit) group ∙ ap (bit_and (base / 4 * 2 ^ 2 + low)) wide
    ∙ and_block 2 (base / 4) 0 low bit few one ∙ ap (λ (x : ℕ). x * 2 ^ 2 + bit_and low bit) (and_zero_r (base / 4)) ∙ omega arith in
    and_block 32 (base + low) bit rest 0 below (omega arith)
    ∙ ap (λ (x : ℕ). x * 2 ^ 32 + bit_and rest 0) lowest ∙ ap (λ (x : ℕ). bit_and low bit * 2 ^ 32 + x) (and_zero_r rest)

-- the lines that count, of a number that its space has
counted_is : (space : Space) (top rest : ℕ) → top < addresses_of space → rest < 2 ^ 32 → bit_and (top * 2 ^ 32 + rest) (space_lines space) ≡ top * 2 ^ 32 + 0
counted_is A16 top rest few below =
    and_block 32 top (2 ^ 16 - 1) rest 0 below (omega arith) ∙ ap (λ (x : ℕ). x * 2 ^ 32 + bit_and rest 0) (and_mask top 16 ∙ omega (arith, few))
    ∙ ap (λ (x : ℕ). top * 2 ^ 32 + x) (and_zero_r rest)
counted_is A24 top rest few below =
    and_block 32 top (2 ^ 24 - 1) rest 0 below (omega arith) ∙ ap (λ (x : ℕ). x * 2 ^ 32 + bit_and rest 0) (and_mask top 24 ∙ omega (arith, few))
    ∙ ap (λ (x : ℕ). top * 2 ^ 32 + x) (and_zero_r rest)
counted_is A32 top rest few below =
    and_block 32 top (2 ^ 32 - 1) rest 0 below (omega arith) ∙ ap (λ (x : ℕ). x * 2 ^ 32 + bit_and rest 0) (and_mask top 32 ∙ omega (arith, few))
    ∙ ap (λ (x : ℕ). top * 2 ^ 32 + x) (and_zero_r rest)

-- a group of four addresses of a space
group_within : (space : Space) (addr low : ℕ) → addr < addresses_of space → low < 4 → addr - addr % 4 + low < addresses_of space
group_within A16 addr low few small = omega (arith, few, small)
group_within A24 addr low few small = omega (arith, few, small)
group_within A32 addr low few small = omega (arith, few, small)

module _ (t : cycles.Transfer) (lawful : IsLawfulTransfer t) where
  -- A31 to A02 of the transfer
  abbrev base : ℕ
  base = addr_of t.request - addr_of t.request % 4

  -- A01
  abbrev a01 : Bool
  a01 = (row_of (own_location t 0)).strobes.a01

  -- LWORD*
  abbrev lword : Bool
  lword = (row_of (own_location t 0)).strobes.lword

  -- the number of its address
  top_is : top_of (address_of (signals_of t 0)) ≡ base + low_bits a01 lword
  unfolding signals_of
  top_is = top_parts base a01 lword

  -- its first address is one of its space
  first_within : addr_of t.request < addresses_of t.am.space
  first_within =
      let own = below t 0 lawful (some_data t lawful) in
      let same : cycle_requests.address_of t.request 0 ≡ addr_of t.request = omega arith in
      omega (arith, own, same)

  module _ (s : Sample) (n : Names (address_of (signals_of t 0)).am (top_of (address_of (signals_of t 0))) s) where
    -- the lines of the sample
    lines_are : s.lines ≡ (base + low_bits a01 lword) * 2 ^ 32 + n.rest
    lines_are = n.lines ∙ ap (λ (x : ℕ). x * 2 ^ 32 + n.rest) top_is

    -- the row of the code of the sample
    row_read : read_code s.am ≡ Ok t.am
    row_read = ap read_code (n.code ∙ ap (λ (row : CodeRow). row.code) (signals_row t 0)) ∙ code_read t lawful

    -- A31 to A02 of the sample
    base_is : base_of s ≡ base
    unfolding counted_lines
    base_is =
        let small = low_below a01 lword in
        let within = group_within t.am.space (addr_of t.request) (low_bits a01 lword) first_within small in
        let whole : (addr_of t.request - addr_of t.request % 4) % 4 ≡ 0 = omega arith in
        ap (λ (x : ℕ). bit_and x (counted_lines s.am) / 0x400000000 * 4) lines_are
        ∙ ap (λ (x : ℕ). bit_and ((base + low_bits a01 lword) * 2 ^ 32 + n.rest) x / 0x400000000 * 4) (ap lines_by row_read)
        ∙ ap (λ (x : ℕ). x / 0x400000000 * 4) (counted_is t.am.space (base + low_bits a01 lword) n.rest within n.below)
        ∙ omega (arith, small, whole)

    -- A01 of the sample
    a01_is : meet s.lines 0x200000000 ≡ a01
    a01_is =
        ap (λ (x : ℕ). not (bit_and x 0x200000000 == 0)) lines_are
        ∙ ap (λ (x : ℕ). not (x == 0)) (bit_is base (low_bits a01 lword) n.rest 2 (omega arith) (low_below a01 lword) (omega arith) n.below)
        ∙ a01_low a01 lword

    -- LWORD* of the sample
    lword_is : meet s.lines 0x100000000 ≡ lword
    lword_is =
        ap (λ (x : ℕ). not (bit_and x 0x100000000 == 0)) lines_are
        ∙ ap (λ (x : ℕ). not (x == 0)) (bit_is base (low_bits a01 lword) n.rest 1 (omega arith) (low_below a01 lword) (omega arith) n.below)
        ∙ lword_low a01 lword

    -- in the strict mode no code is left out
    is_judged : (timeout : ℕ) → s.iack ≡ true → (s.iack && not (is_ignored (strict_scope timeout) s.am)) ≡ true
    unfolding is_ignored
    is_judged timeout iack =
        ap (λ (b : Bool). b && not ((0 / 2 ^ (s.am % 64)) % 2 == 1)) iack ∙ ap (λ (x : ℕ). not (x % 2 == 1)) (zero-div (2 ^ (s.am % 64)))

    -- the transfer that the sample begins
    pub opened_begun : (timeout : ℕ) → s.iack ≡ true → IsBegun t (opened (strict_scope timeout) s)
    unfolding opened
    opened_begun timeout iack = record {
      judged = is_judged timeout iack;
      row = ap is_row row_read;
      block = ap is_block_row row_read;
      wide = ap is_wide_row row_read;
      base = base_is;
      a01 = a01_is;
      lword = lword_is;
      whole = refl;
    }

-- no datum and no address phase has come before
pub opened_new : (scope : Scope) (s : Sample) → ((opened scope s).count ≡ 0) × ((opened scope s).addressed ≡ false)
unfolding opened
opened_new scope s = (refl, refl)
