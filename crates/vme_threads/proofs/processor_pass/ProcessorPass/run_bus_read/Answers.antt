use Rattle.std.proofs.Common.{[], length, map, ap, sym, subst, ◌∙◌, ◌<◌}
use Rattle.std.specs.Prelude.{IfSome}
use Rattle.std.proofs.lemmas.Option.{get_or_from_slice_get}
use Rattle.std.proofs.lemmas.List.{length-map}
use Rattle.vme_cycle.specs.declared.request.Request.{Request}
use Rattle.vme_cycle.proofs.lemmas.Transfers.{comes_from}
use Rattle.vme_master.specs.declared.outcome.Outcome.{Outcome}
use Rattle.vme_master.specs.Machine.{bus_task}
use Rattle.vme_shared.specs.declared.reply.LineReply.TheVariants.{Transfer}
use Rattle.vme_grammar.specs.declared.line.Line.TheVariants as lines
use Rattle.vme_threads.specs.Rans.{IsAnsweredBy}
use Rattle.vme_threads.specs.ReadForms.{IsReadOf}
use Rattle.vme_threads.specs.Reads.{job_of}
use Rattle.vme_threads.proofs.Once.{refused_answered}
use Rattle.vme_threads.proofs.ReadLines.{read_answered}
use Rattle.vme_threads.proofs.processor_pass.ProcessorPass.run_bus_read.Goals as goal

-- a refused read gets its reply without a call
pub returns-in-Err : goal.returns-in-Err
returns-in-Err g c =
    refused_answered c.args.config.now [] 0 0 c.args.request.now c.in-Err.fault c.args.self.now
    (sym (ap (bus_task [] 0 0) (sym c.of.ensures ∙ c.in-Err.is)))

-- the lawful request is the line's
pub new-read-requires : goal.new-read-requires
new-read-requires g c =
    subst (λ (r : Request). IsReadOf r c.args.form)
    (sym (comes_from c.args.request.now c.in-Ok.transfer (sym c.of.ensures ∙ c.in-Ok.is)).same) c.requires.form

-- the board is one of the processor's
pub run_read-requires-clause-there : goal.run_read-requires-clause-there
run_read-requires-clause-there g c =
    subst (λ n. IfSome c.new-read.result.place (λ place. place.0 < n))
    (ap length c.map.ensures ∙ length-map c.args.config.now.boards (λ one. one.entry) ∙ sym c.requires.boards)
    c.new-read.ensures.there

-- the read gets its reply by the calls of its task
pub returns : goal.returns
returns g c =
    let config = c.args.config.now in
    subst (λ (o : Outcome). IsAnsweredBy config (lines.Bus c.args.request.now) (Transfer o) c.args.self.now c.run_read.new.self)
    (sym c.outcome_of.ensures)
    (read_answered config c.map.result.now c.slot-slot.result c.level-level.result c.args.request.now c.in-Ok.transfer
    (job_of c.new-read.result) c.new-read.result.form.n c.run_read.new.bytes.items c.in_ok-end.end c.args.self.now
    c.run_read.new.self c.map.ensures
    (get_or_from_slice_get (map (λ board. board.slot) config.boards) c.args.self.now.who c.slot-slot.result 0 c.slot-slot.ensures)
    (get_or_from_slice_get (map (λ board. board.level) config.boards) c.args.self.now.who c.level-level.result 0 c.level-level.ensures)
    (sym c.of.ensures ∙ c.in-Ok.is) c.new-read.ensures.job c.new-read.result.is.expected c.in_ok-end.ensures.runs)
