use Rattle.std.proofs.Common.{◌≡◌, ◌<◌, take}
use Rattle.std.specs.Prelude.{IfSome}
use Rattle.vme_vcd_reader.specs.Ranges.{last_place}
use Rattle.vme_vcd_reader.proofs.variable.last_bracket.Given as goal

-- the last index so far
abbrev pub invariant-loop-place : goal.invariant-loop-place
invariant-loop-place l = record {
  place : l.last ≡ last_place 91 (take l.place l.text);
  within : IfSome l.last (λ place. place < l.place);
}
