-- The lines of a bus log that are printed, if they are.
use Rattle.std.proofs.Common.{◌≡◌, ℕ, Bool, true, false, List, ◌++◌, append-nil, Option, Result, Ok, Err, OnOk, IfOk, ap, sym, ◌∙◌}
use Rattle.vme_bus_log.specs.declared.entry.LogAccess.{LogAccess}
use Rattle.vme_bus_log.specs.declared.entry.LogDatum.{LogDatum}
use Rattle.vme_bus_log.specs.Lines.{access_line, datum_line}
use Rattle.vme_protocol.specs.declared.datum.Datum.{Datum}
use Rattle.vme_protocol.specs.declared.port.Local.{Local}
use Rattle.vme_protocol.specs.declared.sample.Sample.{Sample}
use Rattle.vme_judge.specs.declared.judge.Spot.{Spot}
use Rattle.vme_judge.specs.LogLines.{access_printed, datum_printed, log_access, log_datum}
use Rattle.vme_judge.specs.Seen.{driver_of}

-- the line of a datum is not printed without the bus log
pub no_datum : (log : Bool) (spot : Spot) (s : Sample) (d : Datum) (said : List ℕ) → log ≡ false → said ≡ said ++ datum_printed log spot s d
unfolding datum_printed
no_datum true spot s d said is = absurd (cc is)
no_datum false spot s d said is = sym (append-nil said)

-- the line of a datum is printed with it
pub datum_line_is : {T E : Type 0} (log : Bool) (spot : Spot) (s : Sample) (d : Datum) (slot : Option ℕ) (line : LogDatum) (result : Result T E)
    (old new : List ℕ) → log ≡ true → slot ≡ driver_of s.drivers → line ≡ log_datum d spot.time slot → OnOk result (new ≡ old ++ datum_line line)
    → IfOk result (λ _. new ≡ old ++ datum_printed log spot s d)
unfolding datum_printed
datum_line_is log spot s d slot line (Err fault) old new is drives same prints = tt
datum_line_is false spot s d slot line (Ok value) old new is drives same prints = absurd (cc is)
datum_line_is true spot s d slot line (Ok value) old new is drives same prints =
    prints ∙ ap (λ line. old ++ datum_line line) (same ∙ ap (log_datum d spot.time) drives)

-- the line of a local access is not printed without the bus log
pub no_access : (log : Bool) (spot : Spot) (slot : ℕ) (a : Local) (said : List ℕ) → log ≡ false → said ≡ said ++ access_printed log spot slot a
unfolding access_printed
no_access true spot slot a said is = absurd (cc is)
no_access false spot slot a said is = sym (append-nil said)

-- the line of a local access is printed with it
pub access_line_is : {T E : Type 0} (log : Bool) (spot : Spot) (slot : ℕ) (a : Local) (line : LogAccess) (result : Result T E) (old new : List ℕ)
    → log ≡ true → line ≡ log_access a spot.time slot → OnOk result (new ≡ old ++ access_line line)
    → IfOk result (λ _. new ≡ old ++ access_printed log spot slot a)
unfolding access_printed
access_line_is log spot slot a line (Err fault) old new is same prints = tt
access_line_is false spot slot a line (Ok value) old new is same prints = absurd (cc is)
access_line_is true spot slot a line (Ok value) old new is same prints = prints ∙ ap (λ line. old ++ access_line line) same
