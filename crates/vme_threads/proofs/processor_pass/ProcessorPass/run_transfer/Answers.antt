use Rattle.std.proofs.Common.{map}
use Rattle.std.proofs.lemmas.Option.{get_or_from_slice_get}
use Rattle.vme_threads.proofs.Once.{refused_answered, request_start, request_end, request_can, request_called}
use Rattle.vme_threads.proofs.processor_pass.ProcessorPass.run_transfer.Goals as goal

pub returns-in-Err : goal.returns-in-Err
returns-in-Err g c =
    refused_answered c.args.config.now c.map.result.now c.slot-slot.result c.level-level.result c.args.request.now c.in-Err.fault
    c.args.self.now
    (rw c.in-Err.is at c.start.ensures)

pub loop-init : goal.loop-init
loop-init g c =
    let boards = c.args.config.now.boards in
    request_start c.args.config.now c.map.result.now c.slot-slot.result c.level-level.result c.args.request.now c.args.self.now
    c.in-Ok.task
    c.advance.new.self c.map.ensures
    (get_or_from_slice_get (map (λ board. board.slot) boards) c.args.self.now.who c.slot-slot.result 0 c.slot-slot.ensures)
    (get_or_from_slice_get (map (λ board. board.level) boards) c.args.self.now.who c.level-level.result 0 c.level-level.ensures)
    (rw c.in-Ok.is at c.start.ensures) c.advance.ensures.task c.advance.ensures.begun

pub step_by-requires : goal.step_by-requires
step_by-requires g c =
    request_can c.args.config.now c.args.ports.now c.args.request.now c.args.self.now c.loop.self c.loop.task c.requires.fits c.requires.board
    c.requires.boards c.loop.invariant

pub loop-preserved : goal.loop-preserved
loop-preserved g c =
    request_called c.args.config.now c.args.request.now c.args.self.now c.loop.self c.step_by.new.caller c.loop.task c.step_by.new.self
    c.loop.invariant c.in_ok-step_by.ensures.step

pub returns-then-is_finished : goal.returns-then-is_finished
returns-then-is_finished g c =
    let boards = c.args.config.now.boards in
    request_end c.args.config.now c.args.request.now c.args.self.now c.args.self.now c.advance.new.self c.unwrap.result
    (request_start c.args.config.now c.map.result.now c.slot-slot.result c.level-level.result c.args.request.now c.args.self.now
    c.in-Ok.task
    c.advance.new.self c.map.ensures
    (get_or_from_slice_get (map (λ board. board.slot) boards) c.args.self.now.who c.slot-slot.result 0 c.slot-slot.ensures)
    (get_or_from_slice_get (map (λ board. board.level) boards) c.args.self.now.who c.level-level.result 0 c.level-level.ensures)
    (rw c.in-Ok.is at c.start.ensures) c.advance.ensures.task c.advance.ensures.begun)
    (rw c.unwrap.ensures at c.into_outcome.ensures)

pub returns-then-branch : goal.returns-then-branch
returns-then-branch g c =
    request_end c.args.config.now c.args.request.now c.args.self.now c.step_by.new.caller c.step_by.new.self c.unwrap-then-branch.result
    (request_called c.args.config.now c.args.request.now c.args.self.now c.loop.self c.step_by.new.caller c.loop.task
    c.step_by.new.self c.loop.invariant c.in_ok-step_by.ensures.step)
    (rw c.unwrap-then-branch.ensures at c.into_outcome-then-branch.ensures)
