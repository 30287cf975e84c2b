-- The state of a reader that keeps the error of a failed read.
use Rattle.std.specs.Prelude.{Bool, is_some}
use Rattle.vme_check.specs.declared.device.InputReader.{InputReader}

-- whether a read of the device has failed
abbrev pub has_failed : {T : Type 0} → InputReader T → Bool
has_failed reader = is_some reader.failure

-- the inner reader of a device
abbrev pub inner_of : {T : Type 0} → InputReader T → T
inner_of reader = reader.inner
