use Rattle.std.proofs.Common.{map, ◌∙◌, ap, ◌++◌, ◌∷◌, [], List, ℕ, sym, rules}
use Rattle.vme_script.specs.declared.board.BoardConfig.{BoardConfig}
use Rattle.vme_threads.proofs.Places.{take_one}
use Rattle.vme_threads.proofs.open.slots.Goals as goal

-- the slot of one more board
pub loop-board-preserved : goal.loop-board-preserved
loop-board-preserved c =
    let all = map (λ (own : BoardConfig). own.slot) c.args.config.now.boards in
    record {
      count = search rules;
      capacity = search rules;
      slots =
          c.push_reserved.ensures.items ∙ ap (λ (l : List ℕ). l ++ c.slot.result ∷ []) c.loop-board.invariant.slots
          ∙ sym (take_one all c.loop-board.board c.slot.result c.slot.ensures);
    }
