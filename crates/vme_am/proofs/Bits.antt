-- The row that the bits of a code select is the row of the table.
use Rattle.std.proofs.Common.{◌≡◌, ℕ, ◌<◌, zero, suc, not, nat_eq, bit_and, Option, Some, Ok, ap, arith, rules, inl, inr, subst, ◌∙◌, sym}
use Rattle.std.proofs.lemmas.Bool.Decides.{eqb_tells}
use Rattle.std.specs.Option.{option_map, option_and_then, ok_or}
use Rattle.vme_am.specs.declared.code.Space.{Space}
use Rattle.vme_am.specs.declared.code.Kind.{Kind}
use Rattle.vme_am.specs.Bits.{space_by_bits, kind_by_bits}
use Rattle.vme_am.specs.Codes.{CodeRow, row, row_at, read_code, code_fault}

-- each number below n has the property
abbrev AllBelow : (ℕ → Type 0) → ℕ → Type 0
AllBelow P zero = Unit {0}
AllBelow P (suc n) = P n × AllBelow P n

-- a property of each number below n holds of one of them
at_below : (P : ℕ → Type 0) (n k : ℕ) → AllBelow P n → k < n → P k
at_below P zero k all lt = absurd (omega arith)
at_below P (suc n) k all lt =
    elim (eqb_tells n k) [ inl same ↦ subst P same.1 all.0 | inr other ↦ at_below P n k all.1 (omega (arith, other.1)) ]

-- the row of a space and a kind: bit 2 states the privilege, and bits 3, 1 and 0 state whether a datum has eight bytes
abbrev row_with : ℕ → Space → Kind → CodeRow
row_with code space kind = row code space kind (not (nat_eq (bit_and code 4) 0)) (nat_eq (bit_and code 11) 8)

-- the row that the bits of a code select, if any
abbrev row_from_bits : ℕ → Option CodeRow
row_from_bits code = option_and_then (λ space. option_map (row_with code space) (kind_by_bits space code)) (space_by_bits code)

-- table and bits agree on each of the 64 numbers; both are computed
all_agree : AllBelow (λ code. row_at code ≡ row_from_bits code) 64
all_agree = search rules

-- the row that the bits select is the row of the code
pub row_by_bits :
    (code : ℕ) (space : Space) (kind : Kind) → code < 64 → space_by_bits code ≡ Some space → kind_by_bits space code ≡ Some kind
    → row_at code ≡ Some (row_with code space kind)
row_by_bits code space kind lt named accessed =
    at_below (λ code. row_at code ≡ row_from_bits code) 64 code all_agree lt
    ∙ ap (option_and_then (λ space. option_map (row_with code space) (kind_by_bits space code))) named
    ∙ ap (option_map (row_with code space)) accessed

-- a code reads as the row that its bits select
pub read_by_bits :
    (code : ℕ) (space : Space) (kind : Kind) → code < 64 → space_by_bits code ≡ Some space → kind_by_bits space code ≡ Some kind
    → Ok (row_with code space kind) ≡ read_code code
unfolding read_code
read_by_bits code space kind lt named accessed = sym (ap (λ found. ok_or found (code_fault code)) (row_by_bits code space kind lt named accessed))
