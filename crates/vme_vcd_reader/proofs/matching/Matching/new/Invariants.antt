use Rattle.std.proofs.Common.{◌≡◌, ℕ, length, Some}
use Rattle.std.specs.Prelude.{slice_get}
use Rattle.vme_vcd_reader.specs.declared.matching.Found.{Found}
use Rattle.vme_vcd_reader.proofs.Matchings.{IsNothing}
use Rattle.vme_vcd_reader.proofs.matching.Matching.new.Given as goal

-- nothing is found of the wanted variables so far
abbrev pub invariant-loop : goal.invariant-loop
invariant-loop l = record {
  count : length l.found.items ≡ l.counter;
  nothing : (i : ℕ) (f : Found) → slice_get l.found.items i ≡ Some f → IsNothing f;
}
