-- The last step is that of the loop, or the one after it.
use Rattle.std.proofs.Common.{rules, arith, ◌≡◌, ◌∷◌, Ok, Some, subst}
use Rattle.std.proofs.lemmas.Grind.{common_steps}
use Rattle.vme_processor.specs.Runs.{Stepped, met_of}
use Rattle.vme_processor.proofs.processor.Processor.run.Goals.{in_default-via-in-Ok-Some+else-goes_on, in_default-via-in-Ok+in-None-1, in_default-via-in-Err-1}
use Rattle.vme_processor.proofs.processor.Processor.run.Goals as goal

pub returns-in_default : goal.returns-in_default
returns-in_default c =
    let same : c.in_default-1.stepped ≡ c.stepped.result = elim c.in_default-1.branch [
      | in_default-via-in-Ok-Some+else-goes_on w ↦ first_of (search rules, grind (arith, common_steps, w.stepped-is))
      | in_default-via-in-Ok+in-None-1 w ↦ first_of (search rules, grind (arith, common_steps, w.stepped-is))
      | in_default-via-in-Err-1 w ↦ first_of (search rules, grind (arith, common_steps, w.stepped-is))
    ] in
    record {
      replies = c.loop.invariant.0;
      mid = c.loop.self;
      before = c.loop.invariant.1;
      stepped = c.stepped.result;
      last = c.stepped.ensures;
      met = subst (λ s. c.of.result ≡ met_of s) same c.of.ensures;
    }

pub loop-preserved : goal.loop-preserved
loop-preserved c =
    let event : c.stepped.result ≡ Ok (Some c.in-Ok-Some.reply) = first_of (search rules, grind (arith, common_steps)) in
    (c.in-Ok-Some.reply ∷ c.loop.invariant.0, (c.loop.self, c.loop.invariant.1, subst (λ s. Stepped s c.loop.self c.stepped.new.self) event c.stepped.ensures))

pub returns : goal.returns
returns c = record {
  replies = c.loop.invariant.0;
  mid = c.loop.self;
  before = c.loop.invariant.1;
  stepped = c.stepped_apart.result;
  last = c.stepped_apart.ensures;
  met = c.of-2.ensures;
}
