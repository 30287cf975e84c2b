-- A log of which no further line is judged.
use Rattle.std.proofs.Common.{◌≡◌, ℕ, Bool, true, false, not, ◌&&◌, List, [], ◌∷◌, ◌++◌, Option, Result, is_some, refl}
use Rattle.vme_bus_log.specs.Faults.{Fault}
use Rattle.vme_bus_log.specs.Texts.{log_says}
use Rattle.vme_bus_log.specs.declared.entry.LogDatum.{LogDatum}
use Rattle.vme_bus_log.specs.declared.entry.LogEntry.{LogEntry}
use Rattle.vme_judge.specs.declared.finding.Finding.{Finding}
use Rattle.vme_judge.specs.declared.run.Run.{Run}
use Rattle.vme_judge.specs.Seen.{one_more}
use Rattle.vme_judge.specs.Standing.{Course, Falls, Standing, Stands, standing, stands}
use Rattle.vme_judge.specs.Logs.{Cause, Illegal, Broken, log_taken, so_far}
use Rattle.vme_judge.specs.Runs.{cause_of, is_going, log_whole, run_so_far}

-- an illegal log stays illegal
stays_illegal : (finding : Finding) (m : Standing) (line : ℕ) (lines : List (Result LogEntry Fault))
    → log_taken (Illegal finding m) line lines ≡ Illegal finding m
stays_illegal finding m line [] = refl
stays_illegal finding m line (says ∷ lines) = stays_illegal finding m (one_more line) lines

-- a broken log stays broken
stays_broken : (cause : Cause) (m : Standing) (line : ℕ) (lines : List (Result LogEntry Fault)) → log_taken (Broken cause m) line lines ≡ Broken cause m
stays_broken cause m line [] = refl
stays_broken cause m line (says ∷ lines) = stays_broken cause m (one_more line) lines

-- after the last finding or what is rejected no line changes a log
over_by : (rejected : Bool) (cause : Cause) (c : Course) (last : Option LogDatum) (line : ℕ) (lines : List (Result LogEntry Fault))
    → (not rejected && stands c) ≡ false → log_taken (so_far rejected cause c last) line lines ≡ so_far rejected cause c last
over_by true cause (Stands m) last line lines off = stays_broken cause m line lines
over_by true cause (Falls finding m) last line lines off = stays_broken cause m line lines
over_by false cause (Stands m) last line lines off = absurd (cc off)
over_by false cause (Falls finding m) last line lines off = stays_illegal finding m line lines

-- no line changes what a run that has stopped has judged
pub is_over : (run : Run) (line : ℕ) (lines : List (Result LogEntry Fault)) → is_going run ≡ false
    → log_taken (run_so_far run) line lines ≡ run_so_far run
unfolding run_so_far
is_over run line lines off = over_by (is_some run.rejection) (cause_of run.rejection) (standing run.judge) run.state.last line lines off

-- what a run that has stopped has judged is the whole log
pub whole_over : (run : Run) (rest : List ℕ) → is_going run ≡ false → log_whole run rest ≡ run_so_far run
whole_over run rest off = is_over run run.log.number (log_says (run.log.line ++ rest)) off
