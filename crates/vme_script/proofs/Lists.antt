-- Lists of results, one after another.
use Rattle.std.proofs.Common.{List, ◌++◌, Result, Ok, Err}
use Rattle.vme_script.specs.declared.fault.ConfigFault.{ConfigFault}

-- the results so far, followed by those of the rest
abbrev pub with_answers : {A : Type 0} → List A → Result (List A) ConfigFault → Result (List A) ConfigFault
with_answers prefix (Ok xs) = Ok (prefix ++ xs)
with_answers prefix (Err fault) = Err fault
