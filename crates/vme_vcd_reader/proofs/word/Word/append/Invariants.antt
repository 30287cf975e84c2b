use Rattle.std.proofs.Common.{ℕ, List, ◌++◌, take}
use Rattle.vme_vcd_reader.specs.Headings.{IsWord}
use Rattle.vme_vcd_reader.proofs.word.Word.append.Given as goal

-- the bytes so far are appended
abbrev pub invariant-loop-byte : goal.invariant-loop-byte
invariant-loop-byte l = (word : List ℕ) → IsWord word l.fn.self → IsWord (word ++ take l.byte-index l.bytes) l.self
