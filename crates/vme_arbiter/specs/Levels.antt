-- The levels of bus requests, and their order in a grant.
use Rattle.std.specs.Prelude.{ℕ, ◌-◌, Bool, false, not, ◌==◌, ◌&&◌, ◌||◌, List, [], ◌∷◌, ◌++◌, if◌then◌else◌, take, drop, count_by}
use Rattle.vme_arbiter.specs.declared.kind.ArbiterKind.{ArbiterKind}
use Rattle.vme_arbiter.specs.declared.kind.ArbiterKind.TheVariants.{Priority, Rotating}

-- all levels, the greatest first; IEEE 1014-1987, 3.2 (arbitration bus lines)
abbrev pub all_levels : List ℕ
all_levels = 3 ∷ 2 ∷ 1 ∷ 0 ∷ []

-- the order of the levels in a grant: from the first level down, with 3 after 0
abbrev pub level_order : ℕ → List ℕ
level_order first = drop (3 - first) all_levels ++ take (3 - first) all_levels

-- whether one level precedes another in an order of levels
abbrev pub level_precedes : List ℕ → ℕ → ℕ → Bool
level_precedes [] a b = false
level_precedes (level ∷ levels) a b = not (level == b) && (level == a || level_precedes levels a b)

-- the number of levels that precede a level in an order of levels
abbrev pub levels_before : List ℕ → ℕ → ℕ
levels_before levels level = count_by (λ other. level_precedes levels other level) levels

-- the first level after a grant on a level: 3 by priority; rotating, the level below, and 3 after 0
abbrev pub first_after : ArbiterKind → ℕ → ℕ
first_after Priority level = 3
first_after Rotating level = if level == 0 then 3 else level - 1
