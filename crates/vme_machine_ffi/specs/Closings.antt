-- Defines the end of a machine for C.
use Rattle.std.specs.Prelude.{ℕ, ◌≡◌, List, [], ◌++◌, length, map, flat_map, take, drop, All}
use Rattle.vme_port.specs.declared.home.Home.{Home}
use Rattle.vme_port_array.specs.Arrays.{opening, passes_of}
use Rattle.vme_port_array.specs.Settlements.{Settles}
use Rattle.vme_bus_objects.specs.declared.object.BusObject.{BusObject}
use Rattle.vme_bus_objects.specs.declared.object.BusObject.TheVariants as objects
use Rattle.vme_bus_objects.specs.Objects.{bus_object_step}
use Rattle.vme_processor.specs.declared.processor.Processor.{Processor}
use Rattle.vme_processor.specs.Processors.{Machine, IsOf, passes_of_processors}
use Rattle.vme_machine_ffi.specs.declared.handle.VmeProcessor.{VmeProcessor}
use Rattle.vme_machine_ffi.specs.Structs.{processors_in, full}

-- each struct has a processor of the machine
pub record AreOf (machine : Machine) (all : List VmeProcessor) : Type 0 where
  pub processors : List Processor
  pub has : processors_in all ≡ full processors
  pub are : All (IsOf machine) processors

-- C owes: if each struct has a processor, they are of one machine
abbrev pub AreOfOne : List VmeProcessor → Type 0
AreOfOne all = (ps : List Processor) → processors_in all ≡ full ps → (machine : Machine) × All (IsOf machine) ps

-- the bytes of a board; the arbiter has none
abbrev pub bytes_in : BusObject → List ℕ
bytes_in (objects.Board memory) = memory.bytes
bytes_in (objects.Arbiter bus) = []

-- the bytes of all boards, one after the other
abbrev pub bytes_of : List (Home BusObject) → List ℕ
bytes_of homes = flat_map (λ home. bytes_in home.object) homes

-- the number of steps of each object
abbrev pub counts_of : List (Home BusObject) → List ℕ
counts_of homes = map (λ home. home.count) homes

-- new values in place of the first old ones, as many as there are old ones
abbrev pub written_over : {X : Type 0} → List X → List X → List X
written_over new old = take (length old) new ++ drop (length new) old

-- the end: one history has all entries of these processors and no others, and leads to these objects, whose numbers of
-- steps and whose bytes are written
pub record HasSettled (machine : Machine) (all : List VmeProcessor) (steps new_steps bytes new_bytes : List ℕ) : Type 0 where
  pub processors : List Processor
  pub has : processors_in all ≡ full processors
  pub homes : List (Home BusObject)
  pub settles : Settles bus_object_step (opening machine) (passes_of machine) (passes_of_processors processors) homes
  pub counted : new_steps ≡ written_over (counts_of homes) steps
  pub copied : new_bytes ≡ written_over (bytes_of homes) bytes
