-- The addresses that an entry of an address map covers, and the codes that it admits.
use Rattle.std.specs.Prelude.{ℕ, ◌+◌, nat_lt, nat_le, min, max, Bool, true, false, not, ◌&&◌, ◌||◌}
use Rattle.vme_am.specs.declared.code.Space.{Space}
use Rattle.vme_am.specs.declared.code.Space.TheVariants.{A16, A24, A32}
use Rattle.vme_am.specs.Codes.{CodeRow}
use Rattle.vme_decode.specs.declared.entry.Entry.{Entry}

-- whether two spaces are equal
abbrev pub same_space : Space → Space → Bool
same_space A16 A16 = true
same_space A24 A24 = true
same_space A32 A32 = true
same_space a b = false

-- the address after the last one of an entry
abbrev pub end_of : Entry → ℕ
end_of entry = entry.base + entry.size

-- whether an entry covers an address of a space; IEEE 1014-1987, 2.3.5 (addressing)
abbrev pub covers : Entry → Space → ℕ → Bool
covers entry space addr = same_space entry.space space && nat_le entry.base addr && nat_lt addr (end_of entry)

-- whether an entry admits a code: a supervisory entry admits only supervisory codes;
-- IEEE 1014-1987, 2.2.2 (address modifier lines)
abbrev pub admits : Entry → CodeRow → Bool
admits entry code = code.supervisory || not entry.supervisory

-- whether two entries share an address: they have one space, and the greater base is below the lesser end
abbrev pub overlap : Entry → Entry → Bool
overlap a b = same_space a.space b.space && nat_lt (max a.base b.base) (min (end_of a) (end_of b))
