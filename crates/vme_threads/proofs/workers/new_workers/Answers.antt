use Rattle.std.proofs.Common.{◌≡◌, ℕ, ◌+◌, [], length, replicate, Some, ap, sym, subst, ◌∙◌, rules, arith}
use Rattle.std.specs.List.{slice_get}
use Rattle.std.proofs.lemmas.Option.{get_or_from_slice_get}
use Rattle.vme_object.specs.Each.{Each}
use Rattle.vme_object.proofs.lemmas.Eachs.{Each-push}
use Rattle.vme_port.specs.Passes.{IsUnused}
use Rattle.vme_port_array.specs.Arrays.{array_id}
use Rattle.vme_line_task.specs.ReadBuffers.{buffers_of}
use Rattle.vme_threads.specs.Settlements.{BusPass}
use Rattle.vme_threads.specs.Ports.{IsNewWorker}
use Rattle.vme_threads.proofs.Places.{first_of_each, rest_of_each}
use Rattle.vme_threads.proofs.workers.new_workers.Goals as goal

-- the next pass is the next worker's
pub loop-pass-preserved : goal.loop-pass-preserved
loop-pass-preserved c =
    let config = c.args.config.now in
    let array = c.args.array.now in
    let was = c.loop-pass.invariant in
    let n = c.loop-pass.workers.len in
    let workers = c.loop-pass.workers.items in
    let worker = c.in_ok-new.field-0 in
    let made = c.in_ok-new.ensures in
    let P = λ (i : ℕ) (p : BusPass). IsUnused (array_id array) i p in
    let step = c.in-Some.ensures.steps.0 in
    let unused = first_of_each P n _ c.in-Some.pass _ step was.rest in
    let is : n ≡ length workers = c.loop-pass.workers.ok.0 in
    let script =
    get_or_from_slice_get config.scripts n c.script-script.result.now []
    (subst (λ i. slice_get config.scripts i ≡ Some c.script-script.result.now) c.len.ensures c.script-script.ensures) in
    let first : IsNewWorker config array n worker = record {
      who = made.who ∙ unused.who;
      boards = made.boards ∙ c.boards-count.ensures.value;
      pass = subst (IsUnused (array_id array) n) (sym made.pass) unused;
      made = made.made ∙ ap (λ m. replicate {A = ℕ} (m + 1) 0) c.boards-count.ensures.value;
      buffers = made.buffers ∙ ap buffers_of (sym script);
      lines = made.lines;
      lines_capacity = omega (arith, ap length script, made.lines_capacity);
    } in
    record {
      count = search rules;
      capacity = search rules;
      rest = rest_of_each P n _ _ c.in-Some.pass _ step c.push_reserved.ensures.len was.rest;
      new_worker =
          subst (Each (IsNewWorker config array)) (sym c.push_reserved.ensures.items)
          (Each-push (IsNewWorker config array) workers worker was.new_worker
          (subst (λ i. IsNewWorker config array i worker) is first));
    }
