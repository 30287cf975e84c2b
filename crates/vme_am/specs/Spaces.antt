-- The address spaces and the number of addresses of each.
use Rattle.std.specs.Prelude.{ℕ, ◌^◌}
use Rattle.vme_am.specs.declared.code.Space.{Space}
use Rattle.vme_am.specs.declared.code.Space.TheVariants.{A16, A24, A32}

-- the number of byte addresses of a space: short, standard or extended; IEEE 1014-1987, 2.3.5 (addressing)
abbrev pub addresses_of : Space → ℕ
addresses_of A16 = 2 ^ 16
addresses_of A24 = 2 ^ 24
addresses_of A32 = 2 ^ 32
