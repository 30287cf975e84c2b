-- The kinds of access.
use Rattle.std.specs.Prelude.{Bool, true, false}
use Rattle.vme_am.specs.declared.code.Kind.{Kind}
use Rattle.vme_am.specs.declared.code.Kind.TheVariants.{DataAccess, ProgramAccess, BlockAccess, ShortAccess}

-- whether an access is a block transfer; IEEE 1014-1987, 2.2.2 (address modifier lines)
abbrev pub is_block : Kind → Bool
is_block DataAccess = false
is_block ProgramAccess = false
is_block BlockAccess = true
is_block ShortAccess = false

-- whether an access is a program access; IEEE 1014-1987, 2.2.2 (address modifier lines)
abbrev pub is_program : Kind → Bool
is_program DataAccess = false
is_program ProgramAccess = true
is_program BlockAccess = false
is_program ShortAccess = false
