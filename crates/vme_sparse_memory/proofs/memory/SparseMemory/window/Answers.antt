use Rattle.std.proofs.Common.{rules, ◌≡◌, ◌-◌, ◌*◌, ◌<◌, min, length, ap, sym, ◌∙◌, arith}
use Rattle.vme_sparse_memory.proofs.Memories.{bytes_len, window_place}
use Rattle.vme_sparse_memory.proofs.memory.SparseMemory.window.Goals as goal

-- src/memory.rt:105:13
pub put_word-requires : goal.put_word-requires
put_word-requires c =
    let all : length c.args.self.now.bytes ≡ 4 * c.self.inside.words =
    ap (λ b. length b.bytes) (sym c.self.view_is) ∙ bytes_len c.self.inside.entries.items c.self.inside.words in
    let inside : c.args.word < c.self.inside.words = omega (arith, all, c.requires) in
    let counted : c.min-count.result ≡ min 3 (c.self.inside.words - c.args.word) = search (rules, c.min-count.ensures) in
    window_place c.self.inside.entries.items c.self.inside.words c.args.word c.min-count.result c.loop-i.i c.loop-i.window c.args.self.now
    (ap (λ b. b.bytes) (sym c.self.view_is)) inside counted c.loop-i-test.true (ap (λ b. b.bytes) c.loop-i.invariant)
