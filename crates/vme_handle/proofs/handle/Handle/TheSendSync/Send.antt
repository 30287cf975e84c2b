use Rattle.std.proofs.Common.{[]}
use base.Shift.{Keyless}
use denote.RawPtr.{Ptr}
use denote.Param.Send.{IsSend}
use Rattle.std.proofs.Crossing.{Box-send}
use Rattle.std.specs.declared.alloc.Global.{Global}
use Rattle.std.specs.declared.boxed.Box.{Box}
use Rattle.std.specs.declared.option.Option.{Option}
use Rattle.std.specs.declared.option.Option.TheVariants.{None, Some}
use Rattle.vme_processor.specs.declared.processor.Processor.{Processor}
use Rattle.vme_processor.specs.contracts.processor.Processor.{the_row as Value}
use Rattle.vme_processor.proofs.processor.Processor.TheSendSync.{the_send as value_send}
use Rattle.vme_handle.specs.Held.{held}
use Rattle.vme_handle.specs.contracts.handle.Handle.{the_row}

-- as a box of the processor may go to another thread, so may what it owns
held_keyless : (p : Ptr) (v : Option Processor) → Keyless (held p v)
held_keyless p None = tt
held_keyless p (Some x) = λ (heap : Global).
    let box : Box Processor Global = record { ptr = p; alloc = heap; value = x } in ((Box-send Value value_send).owned box []).1

pub send : IsSend the_row
send = record { owned = λ h vs. ((λ vss. (tt, (tt, tt))), held_keyless h.at h.value); leaving = λ k d w. tt }
