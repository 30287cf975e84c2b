use Rattle.std.proofs.Common.{◌≡◌, ◌<◌, ◌^◌, Some, take}
use Rattle.vme_vcd_reader.specs.Lines.{HasNoBlank}
use Rattle.vme_vcd_reader.specs.Words.{number_from}
use Rattle.vme_vcd_reader.proofs.quick.quick_time.Given as goal

-- the digits so far spell the time
abbrev pub invariant-loop-place : goal.invariant-loop-place
invariant-loop-place l = record {
  whole : HasNoBlank (take l.place l.digits);
  number : number_from 0 (take l.place l.digits) ≡ Some l.time;
  small : l.time < 2 ^ 60;
}
