use Rattle.std.proofs.Common.{ℕ, ◌≡◌, ◌+◌, ◌≤◌, List, length, map, slice_index_or, vec_len, All, ap, sym, subst, ◌∙◌, arith}
use Rattle.std.specs.Global.{Vec}
use Rattle.vme_port_array.specs.Arrays.{IsPassOf, opening, passes_of}
use Rattle.vme_port_array.specs.Settlements.{Settles}
use Rattle.vme_bus_objects.specs.Objects.{bus_object_step}
use Rattle.vme_threads.specs.declared.worker.Ran.{Ran}
use Rattle.vme_threads.specs.Settlements.{BusPass}
use Rattle.vme_threads.proofs.Places.{map_length}
use Rattle.vme_threads.proofs.Entries.{AreEntries}
use Rattle.vme_threads.proofs.Gathering.{one_order_of}
use Rattle.vme_threads.proofs.lemmas.Gathered.{passes_fit, slots_count, counts_wide, boards_count, boards_are, gathered_from}
use Rattle.vme_threads.proofs.gather_report.gather.Goals as goal

pub settle-requires-clause-array : goal.settle-requires-clause-array
settle-requires-clause-array c =
    subst (All (λ (p : BusPass). IsPassOf c.args.ports.array p)) (sym c.collect_passes.ensures.passes)
    (passes_fit c.requires.0 c.args.ports c.args.rans.items c.requires.1)

-- each worker has a count of its calls of the arbiter
pub collect_counts-requires-clause-within : goal.collect_counts-requires-clause-within
collect_counts-requires-clause-within c =
    let config = c.requires.0 in
    let can = c.requires.1 in
    let n = length config.boards in
    let counts = c.collect_passes.new.counts.items in
    let wide =
    subst (All (λ (own : Vec ℕ). n + 1 ≤ length own.items)) (sym c.collect_passes.ensures.counts)
    (counts_wide config c.args.ports c.args.rans.items can (n + 1) (omega arith)) in
    let slots = slots_count config c.args.ports c.args.rans.items can in
    λ k own k<. omega (arith, wide k own k<, slots, c.len.ensures, c.args.ports.slots.ok.0, (slice_index_or counts k own).ok.0)

-- the objects before the last are boards
pub report_boards-requires-clause-boards : goal.report_boards-requires-clause-boards
report_boards-requires-clause-boards c =
    let array = c.args.ports.array in
    let homes = c.settle.new.homes.items in
    let settles =
    subst (λ (ps : List BusPass). Settles bus_object_step (opening array) (passes_of array) ps homes)
    c.collect_passes.ensures.passes c.in-Ok.ensures.settled
    in
    boards_are c.requires.0 c.args.ports c.args.rans.items c.requires.1 homes c.pop.new.self.items c.in-Some.arbiter settles
    c.in-Some.ensures.items

pub report_boards-requires-clause-slots : goal.report_boards-requires-clause-slots
report_boards-requires-clause-slots c =
    let array = c.args.ports.array in
    let homes = c.settle.new.homes.items in
    let settles =
    subst (λ (ps : List BusPass). Settles bus_object_step (opening array) (passes_of array) ps homes)
    c.collect_passes.ensures.passes c.in-Ok.ensures.settled
    in
    let count =
    boards_count c.requires.0 c.args.ports c.args.rans.items c.requires.1 homes c.pop.new.self.items c.in-Some.arbiter settles
    c.in-Some.ensures.items in
    let slots = slots_count c.requires.0 c.args.ports c.args.rans.items c.requires.1 in
    omega (arith, count, slots, c.pop.new.self.ok.0, c.args.ports.slots.ok.0)

pub report_boards-requires-clause-within : goal.report_boards-requires-clause-within
report_boards-requires-clause-within c =
    let config = c.requires.0 in
    let can = c.requires.1 in
    let n = length config.boards in
    let array = c.args.ports.array in
    let homes = c.settle.new.homes.items in
    let counts = c.collect_passes.new.counts.items in
    let settles =
    subst (λ (ps : List BusPass). Settles bus_object_step (opening array) (passes_of array) ps homes)
    c.collect_passes.ensures.passes c.in-Ok.ensures.settled
    in
    let count =
    boards_count config c.args.ports c.args.rans.items can homes c.pop.new.self.items c.in-Some.arbiter settles
    c.in-Some.ensures.items in
    let wide =
    subst (All (λ (own : Vec ℕ). n ≤ length own.items)) (sym c.collect_passes.ensures.counts)
    (counts_wide config c.args.ports c.args.rans.items can n (omega arith)) in
    λ k own k<. omega (arith, wide k own k<, count, c.pop.new.self.ok.0, (slice_index_or counts k own).ok.0)

pub report_boards-requires-clause-made : goal.report_boards-requires-clause-made
report_boards-requires-clause-made c =
    let can = c.requires.1 in
    let count : vec_len c.collect_passes.new.counts ≡ length c.requires.0.boards =
    omega (
      arith,
      c.collect_passes.new.counts.ok.0,
      ap length c.collect_passes.ensures.counts,
      map_length (λ (r : Ran). r.processor_pass.made) c.args.rans.items,
      can.count,
    )
    in
    λ k own k<. let its = can.built.report_buffers.made k own k< in (its.0, omega (arith, its.1, count))

pub returns-clause-gathered : goal.returns-clause-gathered
returns-clause-gathered c config can =
    let array = c.args.ports.array in
    let homes = c.settle.new.homes.items in
    let boards = c.pop.new.self.items in
    let settles =
    subst (λ (ps : List BusPass). Settles bus_object_step (opening array) (passes_of array) ps homes)
    c.collect_passes.ensures.passes c.in-Ok.ensures.settled
    in
    let entries =
    subst (λ (cs : List (Vec ℕ)). AreEntries cs c.args.ports.slots.items boards c.report_boards.new.ends.items)
    c.collect_passes.ensures.counts c.report_boards.ensures
    in
    let made =
    c.collect_counts.ensures
    ∙ ap (λ x. map (λ (own : Vec ℕ). slice_index_or own.items x 0) c.collect_passes.new.counts.items)
    (c.len.ensures ∙ c.args.ports.slots.ok.0)
    ∙ ap (map (λ (own : Vec ℕ). slice_index_or own.items (length c.args.ports.slots.items) 0)) c.collect_passes.ensures.counts
    in
    gathered_from config c.args.ports c.args.rans.items can homes boards c.in-Some.arbiter settles c.in-Some.ensures.items _
    entries
    c.collect_passes.ensures.lines (ap (λ parts. parts.1) c.into_parts-object.ensures) made

pub returns-clause-one_order : goal.returns-clause-one_order
returns-clause-one_order c config can =
    let from = returns-clause-gathered c config can in one_order_of config _ from.homes _ from.is
