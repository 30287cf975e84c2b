use Rattle.std.proofs.Common.{◌≡◌, ◌++◌, drop}
use Rattle.std.specs.Prelude.{string_bytes}
use Rattle.vme_judge.specs.Messages.{bytes_text}
use Rattle.vme_judge.proofs.title.write_first.Given as goal

-- what is written, with the bytes that are left, is what is written in all
abbrev pub invariant-loop-index : goal.invariant-loop-index
invariant-loop-index l =
    string_bytes l.fn.to ++ bytes_text 0 l.end l.known
    ≡ string_bytes l.to ++ bytes_text l.index l.end (drop l.index l.known)
