use Rattle.std.proofs.Common.{◌≡◌, ◌++◌, flat_map, string_bytes}
use Rattle.vme_explain.specs.Escapes.{escaped_char}
use Rattle.vme_explain.proofs.json.write_escaped.Given as goal

-- the characters so far are written
abbrev pub invariant-loop-c : goal.invariant-loop-c
invariant-loop-c l = string_bytes l.to ≡ string_bytes l.fn.to ++ flat_map escaped_char l.yielded
