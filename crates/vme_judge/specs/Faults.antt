-- Which device made a judgement end.
use Rattle.std.specs.Prelude.{Bool, true, false, Result, Err}
use Rattle.vme_judge.specs.declared.fault.JudgeFault.{JudgeFault}
use Rattle.vme_judge.specs.declared.fault.JudgeFault.TheVariants.{Read, Write}

-- whether a judgement ended with a failure of the reader
abbrev pub is_read_end : {T : Type 0} → Result T JudgeFault → Bool
is_read_end (Err Read) = true
is_read_end end = false

-- whether a judgement ended with a failure of the writer
abbrev pub is_write_end : {T : Type 0} → Result T JudgeFault → Bool
is_write_end (Err Write) = true
is_write_end end = false
