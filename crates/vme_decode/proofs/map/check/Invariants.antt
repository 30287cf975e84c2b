use Rattle.std.proofs.Common.{◌≡◌, [], ◌∷◌, ◌++◌, drop}
use Rattle.std.specs.Prelude.{flat_map}
use Rattle.vme_decode.specs.declared.fault.MapFault.TheVariants.{Overlap}
use Rattle.vme_cycle.specs.Refusals.{where_true, first_of}
use Rattle.vme_decode.specs.Lawful.{entry_refusals, some_overlap, first_refusal}
use Rattle.vme_decode.proofs.map.check.Given as goal

-- no entry so far has a refusal, so the first refusal is that of the remaining entries
abbrev pub invariant-loop-entry : goal.invariant-loop-entry
invariant-loop-entry l =
    first_of (flat_map entry_refusals (drop l.entry-index l.entries) ++ where_true (some_overlap l.entries) Overlap ∷ [])
    ≡ first_refusal l.entries
