use Rattle.std.proofs.Common.{List, ℕ, length, map, ap, sym, subst, ◌∙◌, false, ◌<◌}
use Rattle.std.specs.Prelude.{IfSome}
use Rattle.std.proofs.lemmas.Option.{get_or_from_slice_get}
use Rattle.std.proofs.lemmas.List.{length-map}
use Rattle.vme_cycle.specs.declared.request.Request.{Request}
use Rattle.vme_cycle.specs.declared.request.Request.TheVariants.{Read}
use Rattle.vme_cycle.specs.Lawful.{transfer_of}
use Rattle.vme_cycle.specs.Requests.{count_of}
use Rattle.vme_cycle.proofs.lemmas.Transfers.{comes_from}
use Rattle.vme_grammar.specs.declared.line.Line.TheVariants as lines
use Rattle.vme_threads.specs.ReadForms.{IsReadOf}
use Rattle.vme_threads.specs.Reads.{job_of, IsAwaitInProgress}
use Rattle.vme_threads.proofs.ReadLines.{await_start, await_refused, single_read}
use Rattle.vme_threads.proofs.processor_pass.ProcessorPass.run_await.Goals as goal

-- a refused read gets its reply without a call
pub returns-in-Err : goal.returns-in-Err
returns-in-Err g c =
    await_refused c.args.config.now c.args.am c.args.addr c.args.want.now c.in-Err.fault c.args.self.now
    (ap (λ (bs : List ℕ). transfer_of (Read c.args.am c.args.addr (length bs))) (sym c.as_slice-bytes.ensures.value)
    ∙ sym c.of.ensures ∙ c.in-Err.is)

-- the lawful request is a read of as many bytes
pub new-read-requires : goal.new-read-requires
new-read-requires g c =
    let n = length c.as_slice-bytes.result.now in
    subst (λ (r : Request). IsReadOf r (record { block = false; n = n }))
    (sym (comes_from (Read c.args.am c.args.addr n) c.in-Ok.transfer (sym c.of.ensures ∙ c.in-Ok.is)).same)
    (single_read c.args.am c.args.addr n)

-- the board is one of the processor's
pub run_reads-requires-clause-there : goal.run_reads-requires-clause-there
run_reads-requires-clause-there g c =
    subst (λ n. IfSome c.new-read.result.place (λ place. place.0 < n))
    (ap length c.map.ensures ∙ length-map c.args.config.now.boards (λ one. one.entry) ∙ sym c.requires.boards)
    c.new-read.ensures.there

-- it has one datum
pub run_reads-requires-clause-one : goal.run_reads-requires-clause-one
run_reads-requires-clause-one g c =
    let n = length c.as_slice-bytes.result.now in
    ap (λ t. count_of t.request) c.new-read.ensures.transfer
    ∙ ap count_of (comes_from (Read c.args.am c.args.addr n) c.in-Ok.transfer (sym c.of.ensures ∙ c.in-Ok.is)).same

-- the line gets its reply by its reads
pub returns : goal.returns
returns g c =
    let config = c.args.config.now in
    let line = lines.Await c.args.am c.args.addr c.args.want.now in
    let job = job_of c.new-read.result in
    c.run_reads.ensures config line c.args.self.now
    (subst (λ (bs : List ℕ). IsAwaitInProgress config line c.args.self.now c.args.self.now job bs c.tries.result)
    (sym c.as_slice-bytes.ensures.value)
    (subst (λ left. IsAwaitInProgress config line c.args.self.now c.args.self.now job c.args.want.now.items left) (sym c.tries.ensures)
    (await_start config c.map.result.now c.slot-slot.result c.level-level.result c.args.am c.args.addr c.args.want.now
    c.in-Ok.transfer job c.args.self.now c.map.ensures
    (get_or_from_slice_get (map (λ board. board.slot) config.boards) c.args.self.now.who c.slot-slot.result 0 c.slot-slot.ensures)
    (get_or_from_slice_get (map (λ board. board.level) config.boards) c.args.self.now.who c.level-level.result 0 c.level-level.ensures)
    (ap (λ (bs : List ℕ). transfer_of (Read c.args.am c.args.addr (length bs))) (sym c.as_slice-bytes.ensures.value)
    ∙ sym c.of.ensures ∙ c.in-Ok.is) c.new-read.ensures.job)))
