use Rattle.std.proofs.Common.{rules, arith, ◌≡◌, ◌+◌, ◌∷◌, Ok, drop, subst}
use Rattle.std.proofs.lemmas.Grind.{common_steps}
use Rattle.vme_script.specs.Boards.{board_config, boards_after}
use Rattle.vme_file_boards.proofs.Boards.{more}
use Rattle.vme_file_boards.proofs.board.boards_of.Goals as goal

pub loop-i-preserved : goal.loop-i-preserved
loop-i-preserved c =
    let was = c.loop-i.invariant in
    let tables = c.args.tables.now in
    let i = c.loop-i.i in
    let table = c.index-tables-i.result in
    let split : drop i tables ≡ table ∷ drop (i + 1) tables = first_of (search rules, grind (arith, common_steps)) in
    record {
      rest = λ all e.
          let old = was.rest all e in
          let two = more (board_config old.0 table) (boards_after table.slot (drop (i + 1) tables)) old.1
          (subst (λ ts. boards_after old.0 ts ≡ Ok old.1) split old.2) in
          let given = c.in_ok-board.ensures old.0 two.0 two.2 in
          let same : c.in_ok-board.board ≡ two.0 = cc in
          (table.slot, two.1, two.3, grind (arith, common_steps, c.push_reserved.ensures.items, same, two.4, old.3));
      len = first_of (search rules, grind (arith, common_steps));
      capacity = first_of (search rules, grind (arith, common_steps));
    }
