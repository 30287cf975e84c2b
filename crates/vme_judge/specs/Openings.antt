-- What is remembered before the first sample of a trace.
use Rattle.std.specs.Prelude.{ℕ, ◌+◌, ◌-◌, ◌^◌, min, Bool, false, not, ◌==◌, ◌&&◌, if◌then◌else◌, List, [], ◌∷◌, ◌++◌, map, Option, Some, None}
use Rattle.std.specs.Option.{unwrap_or}
use Rattle.vme_protocol.specs.declared.scope.Mode.TheVariants.{Bus, Model}
use Rattle.vme_protocol.specs.declared.scope.Scope.{Scope}
use Rattle.vme_answers.specs.declared.board.BoardRule.{BoardRule}
use Rattle.vme_answers.specs.declared.board.Open.{Open}
use Rattle.vme_answers.specs.Starting.{started}
use Rattle.vme_answers.specs.Taking.{Judged}
use Rattle.vme_vcd_reader.specs.Presences.{no_lines}
use Rattle.vme_judge.specs.declared.boards.Board.{Board}
use Rattle.vme_judge.specs.declared.options.OpenBytes.{OpenBytes}
use Rattle.vme_judge.specs.declared.options.Options.{Options}
use Rattle.vme_judge.specs.Seen.{no_counts}
use Rattle.vme_judge.specs.Standing.{Standing}

-- which rules are judged before a trace shows its lines: none of BBSY* and of grants, which a log does not have
abbrev pub opening_scope : Options → Scope
opening_scope o = record {
  mode = if o.strict then Model else Bus;
  busy = false;
  drivers = false;
  busy_line = false;
  grants = false;
  ignored = o.ignored;
  timeout = unwrap_or o.timeout (2 ^ 64 - 1);
}

-- a board as its answers are judged
abbrev pub rule_of : Board → BoardRule
rule_of b = record { entry = b.entry; class = b.class }

-- the bytes that a word opens in the board with an index and a size: those of its range that are there, or all
abbrev pub open_at : ℕ → ℕ → Option (ℕ × ℕ) → Open
open_at index size None = record { board = index; from = 0; to = size }
open_at index size (Some range) =
    record { board = index; from = min range.0 (min range.1 size); to = min range.1 size }

-- the bytes that a word opens in boards, of which the first has an index: in each board of its slot
abbrev pub opens_in : OpenBytes → ℕ → List Board → List Open
opens_in o index [] = []
opens_in o index (b ∷ boards) =
    (if b.slot == o.slot then open_at index b.entry.size o.range ∷ [] else []) ++ opens_in o (index + 1) boards

-- the bytes that words open
abbrev pub opens_of : List OpenBytes → List Board → List Open
opens_of [] boards = []
opens_of (o ∷ opens) boards = opens_in o 0 boards ++ opens_of opens boards

-- whether the answers of boards are judged
abbrev pub has_answers : Options → Bool
has_answers o = not o.protocol && not o.log

-- what is known of the boards before a trace, if their answers are judged
abbrev pub opening_answers : Options → List Board → Option Judged
opening_answers o boards =
    if has_answers o then Some (started (map rule_of boards) (opens_of o.open.now boards) o.zero o.others) else None

-- what is remembered before the first sample
unfoldable pub opening : Options → List Board → Standing
opening o boards = record {
  options = o;
  scope = opening_scope o;
  presence = no_lines;
  boards = boards;
  watch = None;
  answers = opening_answers o boards;
  counts = no_counts;
  transfer = None;
  found = 0;
  is_under = false;
  said = [];
}
