use Rattle.std.proofs.Common.{ℕ, Result, sym, subst, rules}
use Rattle.std.specs.declared.thread.PromisedHandle.{PromisedHandle}
use Rattle.vme_report.specs.declared.fault.RunFault.{RunFault}
use Rattle.vme_script.specs.Configurations.{Configuration}
use Rattle.vme_threads.specs.declared.worker.Ran.{Ran}
use Rattle.vme_threads.specs.declared.ports.Ports.{Ports}
use Rattle.vme_threads.specs.declared.threads.WorkerPromise.{WorkerPromise}
use Rattle.vme_threads.specs.Rans.{HasRun}
use Rattle.vme_threads.specs.Reports.{HaveRun}
use Rattle.vme_threads.specs.Threads.{IsPromiseOf}
use Rattle.vme_threads.proofs.Places.{first_of_each, rest_of_each}
use Rattle.vme_threads.proofs.lemmas.Gathered.{have_more}
use Rattle.vme_threads.proofs.threads.join_all.Goals as goal

-- the thread that is joined is the first of the remaining ones
pub loop-child-preserved : goal.loop-child-preserved
loop-child-preserved g c =
    let config = c.args.config.now in
    let ports = c.args.ports.now in
    let was = c.loop-child.invariant in
    let n = c.loop-child.rans.len in
    let rans = c.loop-child.rans.items in
    let ran = c.in_ok-ran.ran in
    let step = c.in-Some.ensures.steps.0 in
    let Q = λ (k : ℕ) (d : PromisedHandle (Result Ran RunFault) WorkerPromise). IsPromiseOf config ports k d.promise in
    let first = first_of_each Q n _ c.in-Some.child _ step was.rest in
    let p = c.in-Some.child.promise in
    let by_who = subst (λ w. HasRun p.config.now p.ports.now w ran) first.who c.in_ok-ran.ensures in
    let by_ports = subst (λ (ps : Ports). HasRun p.config.now ps n ran) first.ports by_who in
    let by_config = subst (λ (cf : Configuration). HasRun cf ports n ran) first.config by_ports in
    record {
      count = search rules;
      capacity = search rules;
      rest = rest_of_each Q n _ _ c.in-Some.child _ step c.push_reserved.ensures.len was.rest;
      runs =
          subst (HaveRun config ports) (sym c.push_reserved.ensures.items)
          (have_more config ports rans ran was.runs (subst (λ i. HasRun config ports i ran) c.loop-child.rans.ok.0 by_config));
    }
