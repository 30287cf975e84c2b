use Rattle.vme_grammar.specs.declared.line.Line.TheVariants as lines
use Rattle.vme_threads.proofs.Once.{line_found, answered_there}
use Rattle.vme_threads.proofs.processor_pass.ProcessorPass.run_line.Goals as goal

pub run_transfer-requires-clause-capacity : goal.run_transfer-requires-clause-capacity
run_transfer-requires-clause-capacity g c =
    c.requires.capacity (lines.Bus c.in-Bus.request)
    (line_found c.args.config.now c.args.self.now.who c.args.line c.script.result.now
    (lines.Bus c.in-Bus.request) c.script.ensures
    (rw c.in-Bus.is at c.line.ensures))

pub returns-in-Local : goal.returns-in-Local
returns-in-Local g c =
    answered_there c.args.config.now c.args.line
    (lines.Local c.in-Local.cmd) c.args.self.now c.run_local.new.self c.run_local.result
    (line_found c.args.config.now c.args.self.now.who c.args.line c.script.result.now
    (lines.Local c.in-Local.cmd) c.script.ensures
    (rw c.in-Local.is at c.line.ensures))
    (c.run_local.ensures c.args.config.now)

-- the buffer has the capacity for what the line reads
pub run_bus_read-requires-clause-capacity : goal.run_bus_read-requires-clause-capacity
run_bus_read-requires-clause-capacity g c =
    c.requires.capacity (lines.Bus c.in-Bus.request)
    (line_found c.args.config.now c.args.self.now.who c.args.line c.script.result.now
    (lines.Bus c.in-Bus.request) c.script.ensures
    (rw c.in-Bus.is at c.line.ensures))

pub returns-in-Some : goal.returns-in-Some
returns-in-Some g c =
    answered_there c.args.config.now c.args.line
    (lines.Bus c.in-Bus.request) c.args.self.now c.run_bus_read.new.self c.run_bus_read.result
    (line_found c.args.config.now c.args.self.now.who c.args.line c.script.result.now
    (lines.Bus c.in-Bus.request) c.script.ensures
    (rw c.in-Bus.is at c.line.ensures))
    c.run_bus_read.ensures

pub returns-in-None : goal.returns-in-None
returns-in-None g c =
    answered_there c.args.config.now c.args.line
    (lines.Bus c.in-Bus.request) c.args.self.now c.run_transfer.new.self c.run_transfer.result
    (line_found c.args.config.now c.args.self.now.who c.args.line c.script.result.now
    (lines.Bus c.in-Bus.request) c.script.ensures
    (rw c.in-Bus.is at c.line.ensures))
    c.run_transfer.ensures

pub returns-in-Await : goal.returns-in-Await
returns-in-Await g c =
    answered_there c.args.config.now c.args.line
    (lines.Await c.in-Await.am c.in-Await.addr c.in-Await.bytes) c.args.self.now c.run_await.new.self c.run_await.result
    (line_found c.args.config.now c.args.self.now.who c.args.line c.script.result.now
    (lines.Await c.in-Await.am c.in-Await.addr c.in-Await.bytes) c.script.ensures
    (rw c.in-Await.is at c.line.ensures))
    c.run_await.ensures
