use Rattle.std.proofs.Common.{◌≡◌, drop}
use Rattle.vme_judge.specs.declared.run.Kind.TheVariants.{Unknown}
use Rattle.vme_judge.specs.Runs.{form_after}
use Rattle.vme_judge.proofs.run.form_of.Given as goal

-- the form is that of the bytes that are left
abbrev pub invariant-loop-byte : goal.invariant-loop-byte
invariant-loop-byte l = form_after Unknown l.bytes ≡ form_after Unknown (drop l.byte-index l.bytes)
