-- The address modifier table by the bits of a code, for the private functions that read a code.
use Rattle.std.specs.Prelude.{ℕ, ◌==◌, if◌then◌else◌, bit_and, Option, Some, None}
use Rattle.vme_am.specs.declared.code.Space.{Space}
use Rattle.vme_am.specs.declared.code.Space.TheVariants.{A16, A24, A32}
use Rattle.vme_am.specs.declared.code.Kind.{Kind}
use Rattle.vme_am.specs.declared.code.Kind.TheVariants.{DataAccess, ProgramAccess, BlockAccess, ShortAccess}

-- the space that bits 5 and 4 select; none for the user-defined codes
abbrev pub space_by_bits : ℕ → Option Space
space_by_bits code =
    if bit_and code 0x30 == 0x00 then Some A32 else
    (if bit_and code 0x30 == 0x10 then None else
    (if bit_and code 0x30 == 0x20 then Some A16 else Some A24))

-- the kind that bits 3, 1 and 0 select in a space with data, program and block codes, if any
abbrev pub long_kind : ℕ → Option Kind
long_kind bits =
    if bits == 0x09 then Some DataAccess else
    (if bits == 0x0a then Some ProgramAccess else
    (if bits == 0x0b then Some BlockAccess else
    (if bits == 0x08 then Some BlockAccess else None)))

-- the kind that bits 3, 1 and 0 select in a space, if any
abbrev pub kind_by_bits : Space → ℕ → Option Kind
kind_by_bits A16 code = if bit_and code 0x0b == 0x09 then Some ShortAccess else None
kind_by_bits A24 code = long_kind (bit_and code 0x0b)
kind_by_bits A32 code = long_kind (bit_and code 0x0b)
