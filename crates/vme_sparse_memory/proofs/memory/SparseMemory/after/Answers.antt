use Rattle.std.proofs.Common.{◌≡◌, ◌+◌, ◌*◌, ◌/◌, ◌%◌, ◌<◌, ◌≤◌, length, ap, ◌∙◌, sym, refl, arith}
use Rattle.vme_memory.specs.Locals.{answer_given}
use Rattle.vme_sparse_memory.specs.Windows.{first_of, window_of, through}
use Rattle.vme_sparse_memory.proofs.Memories.{bytes_len}
use Rattle.vme_sparse_memory.proofs.Windows.{stepped_same, window_fits}
use Rattle.vme_sparse_memory.proofs.memory.SparseMemory.after.Goals as goal

-- src/memory.rt:82:13
pub returns-then-word-self : goal.returns-then-word-self
returns-then-word-self c =
    let all : length c.args.self.now.bytes ≡ 4 * c.self.inside.words =
    ap (λ b. length b.bytes) (sym c.self.view_is) ∙ bytes_len c.self.inside.entries.items c.self.inside.words in
    let past : length c.args.self.now.bytes ≤ first_of c.args.command.now = omega (arith, all, c.if-word-self.true, c.first_of-first.ensures) in
    ap (λ p. (p.1, p.0)) (sym (c.commands_reach_a_window.ensures.past c.args.self.now c.args.command.now past))

-- src/memory.rt:84:22
pub window-requires : goal.window-requires
window-requires c =
    let all : length c.args.self.now.bytes ≡ 4 * c.self.inside.words =
    ap (λ b. length b.bytes) (sym c.self.view_is) ∙ bytes_len c.self.inside.entries.items c.self.inside.words in
    omega (arith, all, c.if-word-self.false)

-- src/memory.rt:88:13
pub returns-then-is_same : goal.returns-then-is_same
returns-then-is_same c =
    let first = c.first_of-first.result in
    let board = c.args.self.now in
    let few : first % 4 < 4 = omega arith in
    let split : first_of c.args.command.now ≡ 4 * (first / 4) + first % 4 = omega (arith, c.first_of-first.ensures) in
    let law : answer_given board c.args.command.now ≡ through board (4 * (first / 4)) (answer_given (window_of board (4 * (first / 4))) c.moved_to.result) =
    c.commands_reach_a_window.ensures.within board c.args.command.now (first / 4) (first % 4) few split
    ∙ ap (λ m. through board (4 * (first / 4)) (answer_given (window_of board (4 * (first / 4))) m)) (sym c.moved_to.ensures) in
    let kept : c.in_ok-before.before ≡ c.local-reply.new.self = c.if-is_same.ensures refl in
    stepped_same board c.in_ok-window.window c.local-reply.new.self c.args.command.now c.moved_to.result (4 * (first / 4)) c.local-reply.result law
    (c.in_ok-window.ensures ∙ c.in_ok-before.ensures) c.local-reply.ensures.reply c.local-reply.ensures.memory
    (c.in_ok-window.ensures ∙ kept)

-- src/memory.rt:90:22
pub with_window-requires : goal.with_window-requires
with_window-requires c =
    let first = c.first_of-first.result in
    let all : length c.args.self.now.bytes ≡ 4 * c.self.inside.words =
    ap (λ b. length b.bytes) (sym c.self.view_is) ∙ bytes_len c.self.inside.entries.items c.self.inside.words in
    let before : 4 * (first / 4) ≤ length c.args.self.now.bytes = omega (arith, all, c.if-word-self.false) in
    window_fits c.args.self.now c.in_ok-window.window c.local-reply.new.self c.moved_to.result (4 * (first / 4)) before
    (c.in_ok-window.ensures ∙ c.in_ok-before.ensures) c.local-reply.ensures.memory
