use Rattle.std.proofs.Common.{◌≡◌, None, Some, rules, refl}
use Rattle.vme_script.specs.Contexts.{line_within}
use Rattle.vme_faults.specs.Lines.{fault_of}
use Rattle.vme_faults.proofs.Heads.{fault_refused, fault_asked}
use Rattle.vme_faults.proofs.script.fault_within.Goals as goal

pub returns-in-Some : goal.returns-in-Some
returns-in-Some c =
    let same = fault_asked c.args.context.now c.args.text.now c.in-Ok-Some.line c.refusal.result (search rules) (search rules) in
    let asked : fault_of (line_within c.args.context.now c.args.text.now) ≡ Some c.in-Some.fault = cc in
    rw (asked, c.context_fault.ensures) refl

pub returns-in-Ok-Some : goal.returns-in-Ok-Some
returns-in-Ok-Some c =
    let same = fault_asked c.args.context.now c.args.text.now c.in-Ok-Some.line c.refusal.result (search rules) (search rules) in
    let asked : fault_of (line_within c.args.context.now c.args.text.now) ≡ None = cc in
    rw asked refl

pub returns : goal.returns
returns c = rw (c.cause_of.ensures, fault_refused c.args.context.now c.args.text.now c.in-Err.fault (search rules)) refl
