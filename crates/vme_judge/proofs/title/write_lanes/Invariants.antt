use Rattle.std.proofs.Common.{◌≡◌, ◌++◌, drop}
use Rattle.std.specs.Prelude.{string_bytes}
use Rattle.vme_judge.specs.Messages.{lanes_text}
use Rattle.vme_judge.proofs.title.write_lanes.Given as goal

-- what is written, with the bytes that are left, is what is written in all
abbrev pub invariant-loop-index : goal.invariant-loop-index
invariant-loop-index l =
    string_bytes l.fn.to ++ lanes_text 0 l.low l.high l.bytes
    ≡ string_bytes l.to ++ lanes_text l.index l.low l.high (drop l.index l.bytes)
