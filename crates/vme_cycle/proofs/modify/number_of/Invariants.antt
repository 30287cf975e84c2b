use Rattle.std.proofs.Common.{◌≡◌, ◌<◌, ◌^◌, drop}
use Rattle.vme_cycle.specs.Functions.{number_from}
use Rattle.vme_cycle.proofs.modify.number_of.Given as goal

-- the remaining bytes continue the number so far
abbrev pub invariant-loop-byte : goal.invariant-loop-byte
invariant-loop-byte l = record {
  number : number_from l.number (drop l.byte-index l.bytes) ≡ number_from 0 l.bytes;
  small : l.number < 256 ^ l.byte-index;
}
