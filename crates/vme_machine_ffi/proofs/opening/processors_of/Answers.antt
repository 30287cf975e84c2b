use Rattle.std.proofs.Common.{rules, arith, ◌≡◌, ◌∙◌, map, ap, sym, subst}
use Rattle.std.proofs.lemmas.Grind.{common_steps}
use Rattle.vme_c_types.specs.Boards.{entry_of}
use Rattle.vme_machine.specs.Members.{AreNew}
use Rattle.vme_processor.specs.Processors.{objects_at_first, members_of, ArePlaced}
use Rattle.vme_machine_ffi.specs.Openings.{memory_of, place_of}
use Rattle.vme_machine_ffi.proofs.opening.processors_of.Goals as goal

pub returns-in-Ok-boxed-clause-opened : goal.returns-in-Ok-boxed-clause-opened
returns-in-Ok-boxed-clause-opened c =
    let opened = c.in-Ok-open.ensures.new in
    let boards = c.args.boards.now in
    let all = map (λ board. entry_of board.entry) boards in
    let entries : c.in-Ok-new.map ≡ all = first_of (search rules, grind (arith, common_steps)) in
    let places : c.as_slice-2.result.now ≡ map place_of boards = c.as_slice-2.ensures.value ∙ c.in-Ok-places_of.ensures in
    record {
      machine = opened.0;
      opens = opened.1 ∙ ap (λ ms. objects_at_first ms c.kind_of.result) c.in-Ok-memories_of.ensures
          ∙ ap (objects_at_first (map memory_of boards)) c.kind_of.ensures;
      new = subst (λ ps. AreNew opened.0 (members_of ps)) (sym c.in-Ok-boxed.ensures) opened.2;
      placed = subst (ArePlaced all (map place_of boards)) (sym c.in-Ok-boxed.ensures)
          (subst (λ es. ArePlaced es (map place_of boards) c.in-Ok-open.processors.items) entries
          (subst (λ ps. ArePlaced c.in-Ok-new.map ps c.in-Ok-open.processors.items) places c.in-Ok-open.ensures.placed));
    }
