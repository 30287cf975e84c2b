-- The lines of a text.
use Rattle.std.specs.Prelude.{ℕ, ◌==◌, List, take}
use Rattle.std.specs.List.{count_by}

-- how many line feeds stand before an offset of a text
abbrev pub line_feeds_before : ℕ → List ℕ → ℕ
line_feeds_before offset text = count_by (λ byte. byte == 10) (take offset text)
