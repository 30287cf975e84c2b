use Rattle.std.proofs.Common.{ℕ, length, Result, ap, sym, subst, ◌∙◌, rules, arith}
use Rattle.std.specs.declared.thread.PromisedHandle.{PromisedHandle}
use Rattle.vme_object.specs.Each.{Each}
use Rattle.vme_object.proofs.lemmas.Eachs.{Each-push}
use Rattle.vme_report.specs.declared.fault.RunFault.{RunFault}
use Rattle.vme_threads.specs.declared.worker.Worker.{Worker}
use Rattle.vme_threads.specs.declared.worker.Ran.{Ran}
use Rattle.vme_threads.specs.declared.threads.WorkerPromise.{WorkerPromise}
use Rattle.vme_threads.specs.Ports.{IsWorkerOf}
use Rattle.vme_threads.specs.Threads.{IsPromiseOf}
use Rattle.vme_threads.proofs.Places.{first_of_each, rest_of_each, begin_each}
use Rattle.vme_threads.proofs.threads.start_all.Goals as goal

pub loop-worker-init : goal.loop-worker-init
loop-worker-init g c =
    let P = λ (i : ℕ) (w : Worker). IsWorkerOf c.args.config.now c.args.ports.now i w in
    record {
      count = search rules;
      capacity = c.requires.capacity;
      rest = begin_each P _ c.args.workers.items _ c.requires.none (search rules) c.requires.workers.each;
      promised = λ k d k<. absurd (omega (arith, k<, c.requires.none, c.args.children.now.ok.0));
    }

-- the worker that starts is the first of the remaining ones
pub loop-worker-preserved : goal.loop-worker-preserved
loop-worker-preserved g c =
    let config = c.args.config.now in
    let ports = c.args.ports.now in
    let was = c.loop-worker.invariant in
    let n = c.loop-worker.children.len in
    let children = c.loop-worker.children.items in
    let step = c.in-Some.ensures.steps.0 in
    let P = λ (i : ℕ) (w : Worker). IsWorkerOf config ports i w in
    let Q = λ (k : ℕ) (d : PromisedHandle (Result Ran RunFault) WorkerPromise). IsPromiseOf config ports k d.promise in
    let first = first_of_each P n _ c.in-Some.worker _ step was.rest in
    let promise = c.in-Ok.ensures.ok in
    let here : Q (length children) c.in-Ok.child = record {
      config = ap (λ (p : WorkerPromise). p.config.now) promise;
      ports = ap (λ (p : WorkerPromise). p.ports.now) promise;
      who = ap (λ (p : WorkerPromise). p.who) promise ∙ first.who ∙ c.loop-worker.children.ok.0;
    } in
    record {
      count = search rules;
      capacity = search rules;
      rest = rest_of_each P n _ _ c.in-Some.worker _ step c.push_reserved.ensures.len was.rest;
      promised = subst (Each Q) (sym c.push_reserved.ensures.items) (Each-push Q children c.in-Ok.child was.promised here);
    }
