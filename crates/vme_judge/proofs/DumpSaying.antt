-- What is judged of a dump does not depend on what was said before, which stays first.
use Rattle.std.proofs.Common.{◌≡◌, ℕ, ◌+◌, Bool, true, false, List, [], ◌∷◌, ◌++◌, append_assoc, Option, Some, None, is_some, length, Result, Ok, Err, refl, ap, sym, ◌∙◌}
use Rattle.std.specs.Prelude.{if◌then◌else◌, string_bytes}
use Rattle.std.specs.declared.alloc.Global.{Global}
use Rattle.std.specs.declared.string.String.{String}
use Rattle.vme_bus_log.specs.Faults.{TooLong}
use Rattle.vme_line_map.specs.Variables.{Map}
use Rattle.vme_protocol.specs.declared.port.Local.{Local}
use Rattle.vme_protocol.specs.declared.port.Port.{Port}
use Rattle.vme_protocol.specs.declared.rule.Rule.{Rule}
use Rattle.vme_protocol.specs.Ports.{local_between}
use Rattle.vme_vcd_reader.specs.declared.bus.BusLines.{BusLines}
use Rattle.vme_vcd_reader.specs.declared.fault.VcdFault.{VcdFault}
use Rattle.vme_vcd_reader.specs.declared.presence.Presence.{Presence}
use Rattle.vme_vcd_reader.specs.declared.variable.Mapped.{Mapped}
use Rattle.vme_vcd_reader.specs.Bodies.{Shown, line_after}
use Rattle.vme_vcd_reader.specs.Buses.{sample_of}
use Rattle.vme_vcd_reader.specs.Headers.{Outcome, Goes, Declares, Ends, Rejects, beginning, byte_read, header_end}
use Rattle.vme_vcd_reader.specs.Mapping.{Declaration, declaration}
use Rattle.vme_vcd_reader.specs.Matches.{lines_of}
use Rattle.vme_vcd_reader.specs.Openings.{opening_of}
use Rattle.vme_vcd_reader.specs.Presences.{presence_of}
use Rattle.vme_vcd_reader.specs.Readers.{rows_of}
use Rattle.vme_vcd_reader.specs.Samples.{Samples, Sample, End, Broken as BrokenBody, samples_of}
use Rattle.vme_judge.specs.declared.judge.Spot.{Spot}
use Rattle.vme_judge.specs.declared.run.Run.{Run}
use Rattle.vme_judge.specs.Blanks.{blanks_whole}
use Rattle.vme_judge.specs.DumpRuns.{InBody, InHeader, Reached, dump_at, dump_so_far, text_whole}
use Rattle.vme_judge.specs.Dumps.{DumpSoFar, Legal, Illegal, Broken, breach_taken, broken_off, done_taken, dump_by, dump_says_before, dump_status, dump_taken, is_among, is_begun, is_passed, next_shown, passed, port_at, port_taken, ports_after, ports_taken, shown_taken, spot_of, undefined_at}
use Rattle.vme_judge.specs.DumpTexts.{after_blanks, body_judged, headed, header_judged, header_over, long_blanks, rows_with}
use Rattle.vme_judge.specs.Logs.{Cause, NoDump, NoLine, access_taken}
use Rattle.vme_judge.specs.Runs.{cause_of}
use Rattle.vme_judge.specs.Standing.{Course, Falls, Standing, Stands, course_then, resumed, sample_taken, standing}
use Rattle.vme_judge.proofs.Saying.{Follows, access_first, course_first, resumed_first, said_first, sample_first, standing_written, then_first}

-- a dump where this was said before
abbrev pub dump_first : List ℕ → DumpSoFar → DumpSoFar
dump_first w (Legal m ports) = Legal (said_first w m) ports
dump_first w (Illegal finding m) = Illegal finding (said_first w m)
dump_first w (Broken cause m) = Broken cause (said_first w m)

-- the verdict on it is the same
pub dump_status_first : (w : List ℕ) (d : DumpSoFar) → dump_status (dump_first w d) ≡ dump_status d
dump_status_first w (Legal m ports) = refl
dump_status_first w (Illegal finding m) = refl
dump_status_first w (Broken cause m) = refl

-- and so is what is said before the verdict, after that
pub dump_says_first : (w : List ℕ) (d : DumpSoFar) → dump_says_before (dump_first w d) ≡ w ++ dump_says_before d
dump_says_first w (Legal m ports) = refl
dump_says_first w (Illegal finding m) = refl
dump_says_first w (Broken cause m) = refl

-- nothing was said before
pub nothing_first : (d : DumpSoFar) → d ≡ dump_first [] d
nothing_first (Legal m ports) = refl
nothing_first (Illegal finding m) = refl
nothing_first (Broken cause m) = refl

-- what was said before that
pub both_first : (w v : List ℕ) (d : DumpSoFar) → dump_first w (dump_first v d) ≡ dump_first (w ++ v) d
both_first w v (Legal m ports) = ap (λ said. let d : DumpSoFar = Legal (record m { said = said }) ports in d) (sym (append_assoc w v m.said))
both_first w v (Illegal finding m) = ap (λ said. let d : DumpSoFar = Illegal finding (record m { said = said }) in d) (sym (append_assoc w v m.said))
both_first w v (Broken cause m) = ap (λ said. let d : DumpSoFar = Broken cause (record m { said = said }) in d) (sym (append_assoc w v m.said))

module _ (w : List ℕ) where
  -- a rule that a local port breaks
  breach_first : (spot : Spot) (slot : ℕ) (rule : Rule) → Follows w (breach_taken spot slot rule)
  unfolding breach_taken
  breach_first spot slot rule m = refl

  -- what a local port has done
  done_first : (spot : Spot) (slot : ℕ) (done : Result (Option Local) Rule) → Follows w (done_taken spot slot done)
  done_first spot slot (Err rule) m = ap resumed (breach_first spot slot rule m) ∙ resumed_first w (breach_taken spot slot rule m)
  done_first spot slot (Ok None) m = refl
  done_first spot slot (Ok (Some access)) m = ap resumed (access_first w spot slot access m) ∙ resumed_first w (access_taken spot slot access m)

  -- the same, if a test holds
  if_first : (f : Standing → Course) → Follows w f → (test : Bool) (m : Standing)
      → (if test then f (said_first w m) else Stands (said_first w m)) ≡ course_first w (if test then f m else Stands m)
  if_first f follows true m = follows m
  if_first f follows false m = refl

  -- a local port
  port_first : (spot : Spot) (slot : ℕ) (last : Option Port) (now : Port) → Follows w (port_taken spot slot last now)
  port_first spot slot None now m = refl
  port_first spot slot (Some last) now m =
      if_first (done_taken spot slot (local_between last now)) (done_first spot slot (local_between last now)) (is_begun m) m

  -- the local ports from a place on
  ports_first : (spot : Spot) (lines : BusLines) (changed place : ℕ) (ports : List (Option Port)) → Follows w (ports_taken spot lines changed place ports)
  ports_first spot lines changed place [] m = refl
  ports_first spot lines changed place (last ∷ ports) m =
      let taken : Standing → Course = port_taken spot (place + 1) last (port_at lines place) in
      let one : Course = if is_among changed place then taken m else Stands m in
      ap (course_then (ports_taken spot lines changed (place + 1) ports))
      (if_first taken (port_first spot (place + 1) last (port_at lines place)) (is_among changed place) m)
      ∙ then_first w (ports_taken spot lines changed (place + 1) ports) (ports_first spot lines changed (place + 1) ports) one

  -- a sample with the local ports
  shown_first : (s : Shown) (ports : List (Option Port)) → Follows w (shown_taken s ports)
  shown_first s ports m =
      let taken : Standing → Course =
      sample_taken (spot_of s) (undefined_at s.lines (sample_of s.lines s.time).undefined) (sample_of s.lines s.time) in
      ap (λ c. course_then (ports_taken (spot_of s) s.lines s.ports 0 ports) (resumed c))
      (sample_first w (spot_of s) (undefined_at s.lines (sample_of s.lines s.time).undefined) (sample_of s.lines s.time) m)
      ∙ ap (course_then (ports_taken (spot_of s) s.lines s.ports 0 ports)) (resumed_first w (taken m))
      ∙ then_first w (ports_taken (spot_of s) s.lines s.ports 0 ports) (ports_first (spot_of s) s.lines s.ports 0 ports) (resumed (taken m))

  -- a dump by its course
  by_first : (c : Course) (ports : List (Option Port)) → dump_by (course_first w c) ports ≡ dump_first w (dump_by c ports)
  by_first (Stands m) ports = refl
  by_first (Falls finding m) ports = refl

  -- a legal dump after a sample, by whether it is passed over
  legal_by : (s : Shown) (m : Standing) (ports : List (Option Port)) (over : Bool)
      → (if over then Legal (passed (said_first w m)) ports
      else dump_by (shown_taken s ports (said_first w m)) (ports_after s.lines s.ports 0 ports))
      ≡ dump_first w (if over then Legal (passed m) ports else dump_by (shown_taken s ports m) (ports_after s.lines s.ports 0 ports))
  legal_by s m ports true = refl
  legal_by s m ports false =
      ap (λ c. dump_by c (ports_after s.lines s.ports 0 ports)) (shown_first s ports m)
      ∙ by_first (shown_taken s ports m) (ports_after s.lines s.ports 0 ports)

  -- a dump after a sample
  next_first : (s : Shown) (d : DumpSoFar) → next_shown s (dump_first w d) ≡ dump_first w (next_shown s d)
  next_first s (Legal m ports) = legal_by s m ports (is_passed s m)
  next_first s (Illegal finding m) = refl
  next_first s (Broken cause m) = refl

  -- a dump that is none from here on
  off_first : (cause : Cause) (d : DumpSoFar) → broken_off cause (dump_first w d) ≡ dump_first w (broken_off cause d)
  off_first cause (Legal m ports) = refl
  off_first cause (Illegal finding m) = refl
  off_first cause (Broken before m) = refl

  -- a dump after samples
  taken_first : (d : DumpSoFar) (samples : Samples) → dump_taken (dump_first w d) samples ≡ dump_first w (dump_taken d samples)
  taken_first d End = refl
  taken_first d (BrokenBody flaw) = off_first (NoDump flaw.line flaw.fault) d
  taken_first d (Sample s samples) = ap (λ d. dump_taken d samples) (next_first s d) ∙ taken_first (next_shown s d) samples

  -- a dump at the end of its header
  headed_first : (p : Presence) (d : DumpSoFar) → headed p (dump_first w d) ≡ dump_first w (headed p d)
  headed_first p (Legal m ports) = refl
  headed_first p (Illegal finding m) = refl
  headed_first p (Broken cause m) = refl

  -- a dump by the lines of its header
  body_first : (d : DumpSoFar) (lines : Result (List (ℕ × Mapped)) VcdFault) (at line : ℕ) (text : List ℕ)
      → body_judged (dump_first w d) lines at line text ≡ dump_first w (body_judged d lines at line text)
  body_first d (Err fault) at line text = off_first (NoDump at fault) d
  body_first d (Ok lines) at line text =
      let samples : Samples = samples_of (rows_with lines) (opening_of (presence_of lines).busy line) text in
      ap (λ d. dump_taken d samples) (headed_first (presence_of lines) d) ∙ taken_first (headed (presence_of lines) d) samples

  -- a dump whose text ends with the header
  over_first : (d : DumpSoFar) (line : ℕ) (fault : Option VcdFault) → header_over (dump_first w d) line fault ≡ dump_first w (header_over d line fault)
  over_first d line None = refl
  over_first d line (Some fault) = off_first (NoDump line fault) d

  -- a dump by its header
  header_first : (map : Map) (d : DumpSoFar) (ds : List Declaration) (out : Outcome) (at line : ℕ) (text : List ℕ)
      → header_judged map (dump_first w d) ds out at line text ≡ dump_first w (header_judged map d ds out at line text)
  header_first map d ds Ends at line text = body_first d (lines_of map ds) at line text
  header_first map d ds (Rejects fault) at line text = off_first (NoDump at fault) d
  header_first map d ds (Goes h) at line [] = over_first d line (header_end (byte_read h 32) (lines_of map ds))
  header_first map d ds (Goes h) at line (b ∷ bs) = header_first map d ds (byte_read h b) line (line_after b line) bs
  header_first map d ds (Declares h) at line [] =
      over_first d line (header_end (byte_read h 32) (lines_of map (ds ++ declaration h ∷ [])))
  header_first map d ds (Declares h) at line (b ∷ bs) =
      header_first map d (ds ++ declaration h ∷ []) (byte_read h b) line (line_after b line) bs

  -- a dump after blanks
  blanks_first : (long : Option ℕ) (d whole : DumpSoFar) → after_blanks long (dump_first w d) (dump_first w whole) ≡ dump_first w (after_blanks long d whole)
  blanks_first None d whole = refl
  blanks_first (Some line) d whole = off_first (NoLine line TooLong) d

  -- a dump by whether it is rejected
  at_first : (rejected : Bool) (cause : Cause) (c : Course) (ports : List (Option Port))
      → dump_at rejected cause (course_first w c) ports ≡ dump_first w (dump_at rejected cause c ports)
  at_first true cause (Stands m) ports = refl
  at_first true cause (Falls finding m) ports = refl
  at_first false cause c ports = by_first c ports

-- a run whose judgement has written what it says
abbrev pub written : Run → String Global → Run
written run pending = record run { judge = record run.judge { pending = pending } }

module _ (run : Run) (pending : String Global) (empty : string_bytes pending ≡ []) where
  -- a dump, before what is said is written and after it
  so_far_written : dump_so_far run ≡ dump_first (string_bytes run.judge.pending) (dump_so_far (written run pending))
  so_far_written =
      ap (λ c. dump_at (is_some run.rejection) (cause_of run.rejection) c run.ports.last) (standing_written run.judge pending empty)
      ∙ at_first (string_bytes run.judge.pending) (is_some run.rejection) (cause_of run.rejection)
      (standing (record run.judge { pending = pending })) run.ports.last

  -- the whole dump
  pub text_written : (map : Map) (reached : Reached) (rest : List ℕ)
      → text_whole map run reached rest ≡ dump_first (string_bytes run.judge.pending) (text_whole map (written run pending) reached rest)
  text_written map (InHeader h ds) rest =
      ap (λ d. header_judged map d ds (Goes h) run.vcd.line run.vcd.line rest) so_far_written
      ∙ header_first (string_bytes run.judge.pending) map (dump_so_far (written run pending)) ds (Goes h) run.vcd.line run.vcd.line rest
  text_written map (InBody r) rest =
      ap (λ d. dump_taken d (samples_of (rows_of run.vcd) r rest)) so_far_written
      ∙ taken_first (string_bytes run.judge.pending) (dump_so_far (written run pending)) (samples_of (rows_of run.vcd) r rest)

  -- the whole dump after blanks
  pub blanks_written : (map : Map) (line : List ℕ) (rest : List ℕ)
      → blanks_whole map line run rest ≡ dump_first (string_bytes run.judge.pending) (blanks_whole map line (written run pending) rest)
  blanks_written map line rest =
      ap (λ d. after_blanks (long_blanks (length line) run.log.number rest) d (text_whole map run (InHeader beginning []) rest)) so_far_written
      ∙ ap (after_blanks (long_blanks (length line) run.log.number rest)
      (dump_first (string_bytes run.judge.pending) (dump_so_far (written run pending)))) (text_written map (InHeader beginning []) rest)
      ∙ blanks_first (string_bytes run.judge.pending) (long_blanks (length line) run.log.number rest) (dump_so_far (written run pending))
      (text_whole map (written run pending) (InHeader beginning []) rest)
