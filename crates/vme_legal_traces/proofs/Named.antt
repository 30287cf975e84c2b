-- The address that samples show, and the transfer that begins with it.
use Rattle.std.proofs.Common.{◌≡◌, ℕ, ◌+◌, ◌*◌, ◌^◌, ◌<◌, ◌==◌, Bool, true, false, not, ◌&&◌, Option, Some, None, Result, Ok, Err, refl, ap, sym, ◌∙◌, arith, if◌then◌else◌}
use Rattle.std.specs.Prelude.{bit_and, bit_xor}
use Rattle.std.specs.Int.Bits.{and_zero_l, and_zero_r, xor_self}
use Rattle.std.proofs.lemmas.Bool.{eq-eqb}
use Rattle.std.proofs.lemmas.Nat.{and_block, xor_block, xor_lt}
use Rattle.vme_am.specs.declared.code.Space.{Space}
use Rattle.vme_am.specs.declared.code.Space.TheVariants.{A16, A24, A32}
use Rattle.vme_am.specs.declared.code.AmFault.{AmFault}
use Rattle.vme_am.specs.Codes.{CodeRow, read_code}
use Rattle.vme_protocol.specs.declared.sample.Sample.{Sample}
use Rattle.vme_protocol.specs.declared.scope.Scope.{Scope}
use Rattle.vme_protocol.specs.declared.place.Place.{Place}
use Rattle.vme_protocol.specs.declared.transfer.Transfer.{Transfer}
use Rattle.vme_protocol.specs.Lines.{space_lines, lines_by, counted_lines, meet}
use Rattle.vme_protocol.specs.Order.{stands}
use Rattle.vme_protocol.specs.Transfers.{is_wide_code, opened, is_address_phase, passed, took, after_answer}

-- a sample shows a code, and a number on A31 to A01 and LWORD*
pub record Names (am top : ℕ) (s : Sample) : Type 0 where
  pub code : s.am ≡ am
  pub known : s.am_undefined ≡ false
  pub rest : ℕ
  pub below : rest < 2 ^ 32
  pub lines : s.lines ≡ top * 2 ^ 32 + rest
  pub free : s.lines_undefined < 2 ^ 32

-- a transfer began with this code and this number
pub record IsOf (am top : ℕ) (t : Transfer) : Type 0 where
  pub code : t.am ≡ am
  pub counted : t.counted ≡ counted_lines am
  pub wide : t.wide ≡ is_wide_code am
  pub rest : ℕ
  pub below : rest < 2 ^ 32
  pub lines : t.lines ≡ top * 2 ^ 32 + rest

-- a set of lines of the address alone
abbrev IsHigh : ℕ → Type 0
IsHigh lines = (m : ℕ) × (lines ≡ m * 2 ^ 32 + 0)

-- the lines that count are lines of the address
counted_high : (am : ℕ) → IsHigh (counted_lines am)
unfolding counted_lines
counted_high am = by_row (read_code am)
  where
    by_space : (space : Space) → IsHigh (space_lines space)
    by_space A16 = (0xffff, refl)
    by_space A24 = (0xffffff, refl)
    by_space A32 = (0xffffffff, refl)

    by_row : (row : Result CodeRow AmFault) → IsHigh (lines_by row)
    by_row (Ok row) = by_space row.space
    by_row (Err fault) = (0, refl)

-- data lines do not count
low_apart : (n m : ℕ) → n < 2 ^ 32 → bit_and n (m * 2 ^ 32 + 0) ≡ 0
low_apart n m below =
    ap (λ (x : ℕ). bit_and x (m * 2 ^ 32 + 0)) (omega arith)
    ∙ and_block 32 0 m n 0 below (omega arith)
    ∙ ap (λ (x : ℕ). x * 2 ^ 32 + bit_and n 0) (and_zero_l m)
    ∙ ap (λ (x : ℕ). 0 * 2 ^ 32 + x) (and_zero_r n)

-- numbers with the same address differ in data lines alone
differ_low : (top a b : ℕ) → a < 2 ^ 32 → b < 2 ^ 32 → bit_xor (top * 2 ^ 32 + a) (top * 2 ^ 32 + b) ≡ bit_xor a b
differ_low top a b one two =
    xor_block 32 top top a b one two ∙ ap (λ (x : ℕ). x * 2 ^ 32 + bit_xor a b) (xor_self top) ∙ omega arith

-- sets of lines that have none in common
apart : (a b : ℕ) → bit_and a b ≡ 0 → meet a b ≡ false
apart a b is = ap (λ (x : ℕ). not (x == 0)) is

-- four tests that hold
all_four : (a b c d : Bool) → a ≡ true → b ≡ false → c ≡ false → d ≡ false → (a && not b && not c && not d) ≡ true
all_four a b c d one two three four = rw (one, two, three, four) refl

-- the address of a sample stands as it is in another sample, or as a transfer began with it
pub names_stand : (am top : ℕ) (code lines counted rest : ℕ) (s : Sample) → Names am top s → code ≡ am → counted ≡ counted_lines am → rest < 2 ^ 32
    → lines ≡ top * 2 ^ 32 + rest → stands code lines counted s ≡ true
names_stand am top code lines counted rest s n same counts below whole =
    let high = counted_high am in
    let set : counted ≡ high.0 * 2 ^ 32 + 0 = counts ∙ high.1 in
    let differs : bit_xor s.lines lines ≡ bit_xor n.rest rest
    = ap (λ (x : ℕ). bit_xor x lines) n.lines ∙ ap (bit_xor (top * 2 ^ 32 + n.rest)) whole ∙ differ_low top n.rest rest n.below below in
    all_four (s.am == code) s.am_undefined (meet (bit_xor s.lines lines) counted) (meet s.lines_undefined counted)
    (eq-eqb s.am code (n.code ∙ sym same)) n.known
    (apart (bit_xor s.lines lines) counted
    (ap (λ (x : ℕ). bit_and x counted) differs ∙ ap (bit_and (bit_xor n.rest rest)) set
    ∙ low_apart (bit_xor n.rest rest) high.0 (xor_lt 32 n.rest rest n.below below)))
    (apart s.lines_undefined counted (ap (bit_and s.lines_undefined) set ∙ low_apart s.lines_undefined high.0 n.free))

-- the lines of an address that count with its code are driven
pub names_defined : (am top : ℕ) (s : Sample) → Names am top s → (s.am_undefined ≡ false) × (meet s.lines_undefined (counted_lines s.am) ≡ false)
names_defined am top s n =
    let high = counted_high s.am in
    (n.known, apart s.lines_undefined (counted_lines s.am) (ap (bit_and s.lines_undefined) high.1 ∙ low_apart s.lines_undefined high.0 n.free))

-- a transfer begins with the address of its sample
pub opened_is_of : (am top : ℕ) (scope : Scope) (s : Sample) → Names am top s → IsOf am top (opened scope s)
unfolding opened
opened_is_of am top scope s n = record {
  code = n.code;
  counted = ap counted_lines n.code;
  wide = ap is_wide_code n.code;
  rest = n.rest;
  below = n.below;
  lines = n.lines;
}

-- an answer leaves it
pub answer_is_of : (am top : ℕ) (t : Transfer) (place : Option Place) (s : Sample) → IsOf am top t → IsOf am top (after_answer t place s)
unfolding after_answer took
answer_is_of am top t None s is = record {
  code = is.code;
  counted = is.counted;
  wide = is.wide;
  rest = is.rest;
  below = is.below;
  lines = is.lines;
}
answer_is_of am top t (Some place) s is = by_phase (is_address_phase t s)
  where
    by_phase : (phase : Bool) → IsOf am top (if phase then passed t else took t place s)
    by_phase true = record { code = is.code; counted = is.counted; wide = is.wide; rest = is.rest; below = is.below; lines = is.lines }
    by_phase false = record { code = is.code; counted = is.counted; wide = is.wide; rest = is.rest; below = is.below; lines = is.lines }
