-- The rows of the tables, as C has them.
use Rattle.std.specs.Prelude.{ℕ}
use Rattle.vme_am.specs.declared.code.Space.{Space}
use Rattle.vme_am.specs.declared.code.Space.TheVariants.{A16, A24, A32}
use Rattle.vme_am.specs.declared.code.Kind.{Kind}
use Rattle.vme_am.specs.declared.code.Kind.TheVariants.{DataAccess, ProgramAccess, BlockAccess, ShortAccess}
use Rattle.vme_lanes.specs.declared.location.Strobes.{Strobes}
use Rattle.vme_am.specs.Codes.{CodeRow}
use Rattle.vme_ffi.specs.declared.tables.VmeAm.{VmeAm}
use Rattle.vme_ffi.specs.declared.tables.VmeStrobes.{VmeStrobes}
use Rattle.vme_c_types.specs.Data.{level_of}
use Rattle.vme_ffi.specs.Data.{level_number}

-- the number of a space: how many address lines count; IEEE 1014-1987, 2.3.5 (addressing)
abbrev pub space_number : Space → ℕ
space_number A16 = 16
space_number A24 = 24
space_number A32 = 32

-- the number of a kind of access
abbrev pub kind_number : Kind → ℕ
kind_number DataAccess = 1
kind_number ProgramAccess = 2
kind_number BlockAccess = 3
kind_number ShortAccess = 4

-- the levels of the strobes
abbrev pub strobes_of : VmeStrobes → Strobes
strobes_of s = record { ds1 = level_of s.ds1; ds0 = level_of s.ds0; a01 = level_of s.a01; lword = level_of s.lword }

-- the struct that the library writes for the strobes: each level is 0 or 1
abbrev pub strobes_struct : Strobes → VmeStrobes
strobes_struct s = record {
  ds1 = level_number s.ds1;
  ds0 = level_number s.ds0;
  a01 = level_number s.a01;
  lword = level_number s.lword;
}

-- the struct that the library writes for the row of a code: each switch is 0 or 1
abbrev pub am_struct : CodeRow → VmeAm
am_struct row = record {
  space = space_number row.space;
  kind = kind_number row.kind;
  supervisory = level_number row.supervisory;
  wide = level_number row.wide;
}
