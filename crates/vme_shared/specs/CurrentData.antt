-- The datum that the task of a lock, an unlock, a put or a take is at.
use Rattle.std.specs.Prelude.{Option, None}
use Rattle.vme_master.specs.CurrentData.{DatumAt, task_datum}
use Rattle.vme_shared.specs.declared.current.CurrentTransfer.{CurrentTransfer}
use Rattle.vme_shared.specs.declared.current.CurrentTransfer.TheVariants.{Running, Finished}
use Rattle.vme_shared.specs.Machine.{SharedView}

-- the datum of the current transfer, if there is one
abbrev pub transfer_datum : CurrentTransfer → Option DatumAt
transfer_datum (Running stage task) = task_datum task
transfer_datum (Finished end) = None

-- the datum of a task, if it has not ended
abbrev pub shared_datum : SharedView → Option DatumAt
shared_datum v = transfer_datum v.current
