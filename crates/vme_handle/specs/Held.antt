-- Defines what a handle owns.
use base.Fml.{Fml, ftrue, fex}
use denote.RawPtr.{Ptr}
use Rattle.std.specs.declared.alloc.Global.{Global}
use Rattle.std.specs.declared.option.Option.{Option}
use Rattle.std.specs.declared.option.Option.TheVariants.{None, Some}
use Rattle.std.specs.Box.Ownership.{box_owns}
use Rattle.std.specs.contracts.impls.GlobalAllocator.TheImpl.{ghosts}
use Rattle.vme_processor.specs.declared.processor.Processor.{Processor}
use Rattle.vme_processor.specs.contracts.processor.Processor.{the_row}

-- the boxed value at an address, if there is one, and the heap's right to free its block
abbrev pub held : Ptr → Option Processor → Fml
held p None = ftrue
held p (Some x) = fex Global (λ heap. box_owns (ghosts.dealloc_token heap) the_row p x)
