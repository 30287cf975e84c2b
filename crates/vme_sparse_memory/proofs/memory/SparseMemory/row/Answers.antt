use Rattle.std.proofs.Common.{rules, ◌≡◌, ◌-◌, ◌*◌, ◌/◌, ◌≤◌, min, take, drop, length, ap, sym, ◌∙◌, arith}
use Rattle.vme_sparse_memory.proofs.Memories.{bytes_len, row_whole}
use Rattle.vme_sparse_memory.proofs.memory.SparseMemory.row.Goals as goal

-- src/memory.rt:173:5
pub returns : goal.returns
returns c =
    let offset = c.args.offset in
    let at = c.loop-at.at in
    let words = c.self.inside.words in
    let all : length c.args.self.now.bytes ≡ 4 * words =
    ap (λ b. length b.bytes) (sym c.self.view_is) ∙ bytes_len c.self.inside.entries.items words in
    let within : offset / 4 ≤ words = omega (arith, all, c.requires.within) in
    let upto : at - offset / 4 ≡ min 4 (words - offset / 4) = search (rules, c.min-at-end.ensures, c.loop-at-test.false, c.loop-at.auto.at, c.loop-at.auto.at-end, within) in
    c.loop-at.invariant
    ∙ ap (λ b. take (4 * (at - offset / 4)) (drop offset b.bytes)) (sym c.self.view_is)
    ∙ row_whole c.self.inside.entries.items words offset at c.requires.aligned within upto
    ∙ ap (λ b. take 16 (drop offset b.bytes)) c.self.view_is
