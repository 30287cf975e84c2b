-- The findings of the two tests are appended one after another.
use Rattle.std.proofs.Common.{map}
use Rattle.vme_faults.specs.Sites.{sited}
use Rattle.vme_faults.proofs.Sites.{two_found}
use Rattle.vme_faults.proofs.mailboxes.check_place.Goals as goal

pub returns : goal.returns
returns c =
    two_found (map sited c.args.found.now.items) _ _ (map sited c.judge.new.found.items) (map sited c.judge-2.new.found.items)
    (rw (c.check_inside-inside.ensures.refusal, c.board_size-size.ensures) at c.in_ok-_slots.ensures)
    (rw (c.rest_judged-judged.ensures, c.board_size-size.ensures) at c.in_ok-_addr.ensures)
