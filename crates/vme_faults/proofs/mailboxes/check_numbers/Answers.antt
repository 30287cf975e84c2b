-- The findings of the three tests are appended one after another, and each is that of its number.
use Rattle.std.proofs.Common.{map}
use Rattle.vme_faults.specs.Sites.{sited}
use Rattle.vme_faults.proofs.Sites.{three_found}
use Rattle.vme_faults.proofs.mailboxes.check_numbers.Goals as goal

pub returns : goal.returns
returns c =
    three_found (map sited c.args.found.now.items) _ _ _
    (map sited c.judge.new.found.items) (map sited c.judge-2.new.found.items) (map sited c.judge-3.new.found.items)
    (rw c.code_judged.ensures at c.in_ok-_am.ensures)
    (rw c.address_judged.ensures at c.in_ok-_addr.ensures)
    (rw c.slots_judged.ensures at c.in_ok-_slots.ensures)
