use Rattle.std.proofs.Common.{◌≡◌, ◌++◌, refl}
use Rattle.vme_judge.specs.AssumedTexts.{ignored_code, ignored_codes}
use Rattle.vme_judge.proofs.Joins.{listed_all, listed_next}
use Rattle.vme_judge.proofs.assumed.ignored_codes.Goals as goal

pub loop-code-init : goal.loop-code-init
unfolding ignored_codes
loop-code-init c = rw c.new-numbers.ensures.items refl

pub loop-code-preserved : goal.loop-code-preserved
loop-code-preserved c =
    let pushed : c.push_if_ignored.new.to.items ≡ c.loop-code.numbers.items ++ ignored_code c.args.ignored c.loop-code.code
    = c.in_ok-push_if_ignored.ensures in
    rw pushed
    (listed_next (ignored_code c.args.ignored) c.loop-code.code 64 c.loop-code.numbers.items (ignored_codes c.args.ignored)
    c.loop-code-test.true c.loop-code.invariant)

pub returns : goal.returns
returns c =
    listed_all (ignored_code c.args.ignored) c.loop-code.code 64 c.loop-code.numbers.items (ignored_codes c.args.ignored)
    c.loop-code-test.false c.loop-code.invariant
