-- The address modifier table, and how a number is read as one of its codes.
use Rattle.std.specs.Prelude.{ℕ, Bool, true, false, nat_lt, nat_le, ◌==◌, ◌&&◌, if◌then◌else◌, List, [], ◌∷◌, find, Option, Result}
use Rattle.std.specs.Option.{ok_or}
use Rattle.vme_am.specs.declared.code.Space.{Space}
use Rattle.vme_am.specs.declared.code.Space.TheVariants.{A16, A24, A32}
use Rattle.vme_am.specs.declared.code.Kind.{Kind}
use Rattle.vme_am.specs.declared.code.Kind.TheVariants.{DataAccess, ProgramAccess, BlockAccess, ShortAccess}
use Rattle.vme_am.specs.declared.code.AmFault.{AmFault}
use Rattle.vme_am.specs.declared.code.AmFault.TheVariants.{TooLarge, UserDefined, Reserved}

-- one row of the address modifier table; IEEE 1014-1987, 2.2.2 (address modifier lines)
pub record CodeRow : Type 0 where
  pub code : ℕ
  pub space : Space
  pub kind : Kind
  pub supervisory : Bool
  pub wide : Bool

-- a row from its parts: code, space, kind, whether it is supervisory, whether a datum has eight bytes
abbrev pub row : ℕ → Space → Kind → Bool → Bool → CodeRow
row code space kind supervisory wide =
    record { code = code; space = space; kind = kind; supervisory = supervisory; wide = wide }

-- the address modifier table; IEEE 1014-1987, 2.2.2 (address modifier lines). 08, 0c, 38 and 3c: the 64-bit block codes
-- (MBLT) of VME64, ANSI/VITA 1-1994; here address phase and first datum are one event, and no address has 64 bits
abbrev pub table : List CodeRow
table =
    row 0x29 A16 ShortAccess false false ∷ row 0x2d A16 ShortAccess true false
    ∷ row 0x39 A24 DataAccess false false ∷ row 0x3a A24 ProgramAccess false false ∷ row 0x3b A24 BlockAccess false false
    ∷ row 0x3d A24 DataAccess true false ∷ row 0x3e A24 ProgramAccess true false ∷ row 0x3f A24 BlockAccess true false
    ∷ row 0x38 A24 BlockAccess false true ∷ row 0x3c A24 BlockAccess true true
    ∷ row 0x09 A32 DataAccess false false ∷ row 0x0a A32 ProgramAccess false false ∷ row 0x0b A32 BlockAccess false false
    ∷ row 0x0d A32 DataAccess true false ∷ row 0x0e A32 ProgramAccess true false ∷ row 0x0f A32 BlockAccess true false
    ∷ row 0x08 A32 BlockAccess false true ∷ row 0x0c A32 BlockAccess true true
    ∷ []

-- the row of a code, if the table has one; IEEE 1014-1987, 2.2.2 (address modifier lines)
abbrev pub row_at : ℕ → Option CodeRow
row_at code = find (λ r. r.code == code) table

-- the fault of a number without a row: above 3f, from 10 to 1f (user-defined), or another number;
-- IEEE 1014-1987, 2.2.2 (address modifier lines)
abbrev pub code_fault : ℕ → AmFault
code_fault code = if nat_lt 0x3f code then TooLarge else (if nat_le 0x10 code && nat_le code 0x1f then UserDefined else Reserved)

-- the row of a number, or else its fault
unfoldable pub read_code : ℕ → Result CodeRow AmFault
read_code code = ok_or (row_at code) (code_fault code)
