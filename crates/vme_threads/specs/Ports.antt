-- Defines what is built from a configuration: an array of ports with an object for each board and one for the arbiter,
-- and the workers with their passes.
use Rattle.std.specs.Prelude.{ℕ, ◌≡◌, ◌+◌, ◌≤◌, List, length, map, replicate, vec_len, vec_capacity}
use Rattle.vme_object.specs.Each.{Each}
use Rattle.vme_core.specs.declared.event.EventReply.{EventReply}
use Rattle.vme_port.specs.Passes.{IsUnused}
use Rattle.vme_port_array.specs.declared.port_array.PortArray.{PortArray}
use Rattle.vme_port_array.specs.Arrays.{array_id, opening, passes_of, objects_of}
use Rattle.vme_bus_objects.specs.declared.object.BusObject.{BusObject}
use Rattle.vme_bus_objects.specs.declared.command.BusCommand.{BusCommand}
use Rattle.vme_script.specs.Configurations.{Configuration}
use Rattle.vme_script.specs.Lawful.{IsLawful}
use Rattle.vme_line_task.specs.Scripts.{script_at}
use Rattle.vme_line_task.specs.ReadBuffers.{buffers_of}
use Rattle.vme_threads.specs.declared.worker.Worker.{Worker}
use Rattle.vme_threads.specs.declared.ports.Ports.{Ports}
use Rattle.vme_threads.specs.RunBuffers.{AreEmptyBuffers}
use Rattle.vme_threads.specs.Settlements.{opening_objects}

-- worker i before its script: it has the unused pass with number i of the array, counts that are 0 for each object, and
-- buffers for what its lines read and for its replies
pub record IsNewWorker (config : Configuration) (array : PortArray BusObject BusCommand EventReply) (i : ℕ) (w : Worker) :
    Type 0 where
  pub who : w.processor_pass.who ≡ i
  pub boards : w.processor_pass.boards ≡ length config.boards
  pub pass : IsUnused (array_id array) i w.processor_pass.pass
  pub made : w.processor_pass.made.items ≡ replicate {A = ℕ} (length config.boards + 1) 0
  pub buffers : w.buffers ≡ buffers_of (script_at config i)
  pub lines : vec_len w.lines ≡ 0
  pub lines_capacity : length (script_at config i) ≤ vec_capacity w.lines

-- the workers before their scripts: one for each board, in order
pub record AreNewWorkers (config : Configuration) (array : PortArray BusObject BusCommand EventReply) (workers : List Worker) :
    Type 0 where
  pub count : length workers ≡ length config.boards
  pub each : Each (IsNewWorker config array) workers

-- the ports of a lawful configuration: one array of its boards with zero memory and of its arbiter of a free bus, with a
-- pass for each board; the slots of the boards; and empty buffers for the report
pub record IsBuilt (config : Configuration) (ports : Ports) : Type 0 where
  pub lawful : IsLawful config
  pub opened : opening ports.array ≡ opening_objects config
  pub object_count : objects_of ports.array ≡ length config.boards + 1
  pub passes : passes_of ports.array ≡ length config.boards
  pub slots : ports.slots.items ≡ map (λ own. own.slot) config.boards
  pub report_buffers : AreEmptyBuffers (length config.boards) ports.report_buffers

-- worker i of these ports, before its script
abbrev pub IsWorkerOf : Configuration → Ports → ℕ → Worker → Type 0
IsWorkerOf config ports i worker = IsNewWorker config ports.array i worker

-- the workers of these ports before their scripts, one for each board, in order
abbrev pub AreWorkers : Configuration → Ports → List Worker → Type 0
AreWorkers config ports workers = AreNewWorkers config ports.array workers
