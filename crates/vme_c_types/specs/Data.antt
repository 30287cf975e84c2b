-- Switches, the bytes of a datum and the functions of read-modify-writes, as C has them.
use Rattle.std.specs.Prelude.{ℕ, ◌-◌, min, not, Bool, ◌==◌, if◌then◌else◌, List, ◌++◌, length, replicate, take}
use Rattle.vme_cycle.specs.declared.modify.Modify as functions
use Rattle.vme_cycle.specs.declared.modify.Modify.TheVariants.{Set, Exchange, Add, Compare}
use Rattle.vme_c_types.specs.declared.datum.VmeDatum.{VmeDatum}
use Rattle.vme_c_types.specs.declared.modify.VmeModify.{VmeModify}

-- the level of a line, or the position of a switch: every number but 0 is high or on
abbrev pub level_of : ℕ → Bool
level_of n = not (n == 0)

-- the bytes of a datum: the first n of its eight
abbrev pub datum_of : VmeDatum → List ℕ
datum_of d = take (min d.n 8) d.bytes

-- the struct that the library writes for the bytes of a datum, at most eight: n is their number, and zeros follow them
abbrev pub datum_struct : List ℕ → VmeDatum
datum_struct bytes = record { n = length bytes; bytes = bytes ++ replicate (8 - length bytes) 0 }

-- the function of a read-modify-write
abbrev pub modify_of : VmeModify → functions.Modify
modify_of f =
    if f.function == 1 then Set else
    (if f.function == 2 then Exchange (record { items = datum_of f.operand }) else
    (if f.function == 3 then Add (record { items = datum_of f.operand }) else
    Compare (record { items = datum_of f.operand }) (record { items = datum_of f.put })))
