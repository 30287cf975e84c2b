use Rattle.std.proofs.Common.{◌≡◌, ℕ, ◌<◌, ◌≤◌, length, sym, subst, ◌∙◌, rules, arith, vec_len, vec_capacity}
use Rattle.std.specs.Global.{Vec}
use Rattle.std.specs.Vec.Iter.{into_iter_items}
use Rattle.std.proofs.lemmas.List.{get_or_default}
use Rattle.vme_threads.proofs.Entries.{entries_begin, fewer_entries, next_is_board, next_buffer, entries_more, entries_end}
use Rattle.vme_threads.proofs.gather_report.report_boards.Goals as goal

pub loop-home-init : goal.loop-home-init
loop-home-init c = record {
  have = entries_begin _ _ _ _ _ _ (search rules) (omega (arith, c.requires.none, c.args.ends.now.ok.0));
  capacity = c.requires.capacity;
}

-- the next object is a board
pub report_board-requires-clause-is : goal.report_board-requires-clause-is
report_board-requires-clause-is c =
    next_is_board _ _ _ _ _ _ _ _ c.in-Some.home c.loop-home.invariant.have c.in-Some.ensures.steps.0 c.requires.boards

pub report_board-requires-clause-within : goal.report_board-requires-clause-within
report_board-requires-clause-within c =
    let fewer = fewer_entries _ _ _ _ _ _ _ _ c.in-Some.home c.loop-home.invariant.have c.in-Some.ensures.steps.0 in
    λ k own k<. omega (arith, fewer, c.requires.within k own k<, c.len-board.ensures, c.loop-home.ends.ok.0, c.args.homes.ok.0)

-- the buffer for the board is unchanged, so it is empty
pub report_board-requires-clause-none : goal.report_board-requires-clause-none
report_board-requires-clause-none c =
    let within : length c.args.homes.items ≤ length c.args.made.now.items =
    omega (arith, c.requires.made_count, c.args.homes.ok.0, c.args.made.now.ok.0) in
    subst (λ (b : Vec ℕ). vec_len b ≡ 0) (sym c.replace-made.ensures.value)
    (next_buffer _ _ _ _ _ _ _ _ c.in-Some.home c.loop-home.invariant.have c.in-Some.ensures.steps.0
    (vec_len c.args.counts.now) c.len-board.result
    c.index_mut.result.now c.requires.made within (c.len-board.ensures ∙ c.loop-home.ends.ok.0) c.index_mut.ensures.value).0

pub report_board-requires-clause-capacity : goal.report_board-requires-clause-capacity
report_board-requires-clause-capacity c =
    let all : length c.args.homes.items ≤ length c.args.made.now.items =
    omega (arith, c.requires.made_count, c.args.homes.ok.0, c.args.made.now.ok.0) in
    let have = c.loop-home.invariant.have in
    subst (λ (b : Vec ℕ). vec_len c.args.counts.now ≤ vec_capacity b) (sym c.replace-made.ensures.value)
    (next_buffer _ _ _ _ _ _ _ _ c.in-Some.home have c.in-Some.ensures.steps.0
    (vec_len c.args.counts.now) c.len-board.result c.index_mut.result.now
    c.requires.made all (c.len-board.ensures ∙ c.loop-home.ends.ok.0) c.index_mut.ensures.value).1

-- one more board has its entry
pub loop-home-preserved : goal.loop-home-preserved
loop-home-preserved c =
    let have = c.loop-home.invariant.have in
    let step = c.in-Some.ensures.steps.0 in
    let n = c.len-board.result in
    let at : n ≡ length c.loop-home.ends.items = c.len-board.ensures ∙ c.loop-home.ends.ok.0 in
    let fewer = fewer_entries _ _ _ _ _ _ _ _ c.in-Some.home have step in
    let below : n < length c.args.slots.now.items =
    omega (arith, at, fewer, c.requires.slots, c.args.slots.now.ok.0, c.args.homes.ok.0) in
    record {
      have =
          entries_more _ _ _ _ _ _ _ _ c.in-Some.home have step n c.index.result.now c.report_board.result c.replace-made.new.dest
          _ at
          (λ d. c.index.ensures ∙ get_or_default c.args.slots.now.items n c.index.result.now d below) c.report_board.ensures
          c.push_reserved.ensures.items;
      capacity = search rules;
    }

pub returns : goal.returns
returns c =
    let none : length (into_iter_items c.loop-home.home-iterator) ≡ 0 = search rules in
    entries_end _ _ _ _ _ _ _ c.loop-home.invariant.have none
