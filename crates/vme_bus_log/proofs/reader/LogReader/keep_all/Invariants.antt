use Rattle.std.proofs.Common.{◌≡◌, ◌++◌, take}
use Rattle.vme_bus_log.specs.Texts.{SaysAs}
use Rattle.vme_bus_log.proofs.reader.LogReader.keep_all.Given as goal

-- the begin of the line so far
abbrev pub invariant-loop-byte : goal.invariant-loop-byte
invariant-loop-byte l = record {
  begin : SaysAs (l.initial.self.line ++ take l.byte-index l.part) l.self.line;
  number : l.self.number ≡ l.initial.self.number;
}
