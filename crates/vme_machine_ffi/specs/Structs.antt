-- What the structs of C have.
use Rattle.std.specs.Prelude.{List, map, Option, Some}
use Rattle.std.specs.declared.boxed.Box.{Box}
use Rattle.std.specs.declared.alloc.Global.{Global}
use Rattle.vme_processor.specs.declared.processor.Processor.{Processor}
use Rattle.vme_machine_ffi.specs.declared.handle.VmeProcessor.{VmeProcessor}

-- what each struct has: a processor or nothing
abbrev pub processors_in : List VmeProcessor → List (Option Processor)
processors_in all = map (λ h. h.handle.value) all

-- these processors, each in a struct
abbrev pub full : List Processor → List (Option Processor)
full ps = map (λ p. Some p) ps

-- the processors in boxes
abbrev pub values_of : List (Box Processor Global) → List Processor
values_of boxes = map (λ b. b.value) boxes
