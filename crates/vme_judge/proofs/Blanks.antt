-- A run that takes lines of blanks before a trace.
use Rattle.std.proofs.Common.{◌≡◌, ℕ, ◌+◌, Bool, true, false, ◌==◌, nat_le, nat_lt, inl, inr, List, [], ◌∷◌, ◌++◌, append_assoc, map, length, length-append, arith, le-leb, subst, Option, Some, is_some, Result, Ok, Err, IfOk, refl, ap, sym, ◌∙◌}
use Rattle.std.specs.Prelude.{if◌then◌else◌}
use Rattle.std.specs.declared.alloc.AllocError.{AllocError}
use Rattle.std.proofs.lemmas.Bool.{false≢true, lt-leb}
use Rattle.std.proofs.lemmas.Bool.Decides.{leb_tells}
use Rattle.std.proofs.lemmas.List.Elements.{All-append, All-nil}
use Rattle.std.proofs.lemmas.List.Splits.{slice_split_at}
use Rattle.vme_bus_log.specs.declared.entry.LogEntry.{LogEntry}
use Rattle.vme_bus_log.specs.declared.entry.LogEntry.TheVariants as entries
use Rattle.vme_bus_log.specs.Faults.{Fault, TooLong}
use Rattle.vme_bus_log.specs.Texts.{EndsNoLine, Reading, SaysAs, line_says, log_says}
use Rattle.vme_judge.specs.declared.rejection.Rejection.{Rejection}
use Rattle.vme_judge.specs.declared.run.Run.{Run}
use Rattle.vme_judge.specs.Blanks.{AreBlanks, IsBlankLine, TakesBlanks}
use Rattle.vme_judge.specs.DumpTexts.{long_blanks}
use Rattle.vme_judge.specs.Logs.{Cause, NoLine}
use Rattle.vme_judge.specs.Runs.{cause_of}
use Rattle.vme_judge.specs.Seen.{one_more}
use Rattle.vme_judge.proofs.BlankLines.{blank_first, blanks_on, blanks_parts, blanks_say, long_ended, long_more}

-- what a reader says of a line that blanks alone fill
said_blank : (begin part : List ℕ) (read : Reading) (said : Result LogEntry Fault) → IsBlankLine begin read → AreBlanks part → EndsNoLine part
    → ((rest : List ℕ) → log_says (read.line ++ (part ++ 10 ∷ rest)) ≡ said ∷ log_says rest)
    → said ≡ (if nat_le (length begin + length part) 255 then Ok entries.Nothing else Err TooLong)
said_blank begin part read said is are within ends =
    let all : log_says ((begin ++ part) ++ 10 ∷ []) ≡ line_says (begin ++ part) ∷ log_says [] =
    ap (map line_says) (slice_split_at (λ b. b == 10) (begin ++ part) 10 [] (All-append (λ b. (b == 10) ≡ false) begin part is.within within) refl) in
    let same : said ∷ log_says [] ≡ line_says (begin ++ part) ∷ log_says [] =
    sym (ends []) ∙ sym (is.begin (part ++ 10 ∷ [])) ∙ ap log_says (sym (append_assoc begin part (10 ∷ []))) ∙ all in
    let first : said ≡ line_says (begin ++ part) = cc same in
    first ∙ blanks_say (begin ++ part) (blanks_on begin part is.blanks ∙ are)
    ∙ ap (λ n. let r : Result LogEntry Fault = if nat_le n 255 then Ok entries.Nothing else Err TooLong in r) (length-append begin part)

-- a number is no more than 255, or more
at_most : (n : ℕ) → nat_le n 255 ≡ true → nat_lt 255 n ≡ false
at_most n is = elim (leb_tells n 255) [ inl less ↦ lt-leb 256 n (omega (arith, less.1)) | inr more ↦ absurd (false≢true (sym more.0 ∙ is)) ]

-- and the other way round
more_than : (n : ℕ) → nat_le n 255 ≡ false → nat_lt 255 n ≡ true
more_than n is = elim (leb_tells n 255) [ inl less ↦ absurd (false≢true (sym is ∙ less.0)) | inr more ↦ le-leb 256 n (omega (arith, more.1)) ]

-- a line of blanks that is said to be nothing is short
short_line : (n : ℕ) (test : Bool) (entry : LogEntry) → nat_le n 255 ≡ test
    → Ok entry ≡ (let r : Result LogEntry Fault = if test then Ok entries.Nothing else Err TooLong in r)
    → (entry ≡ entries.Nothing) × (nat_lt 255 n ≡ false)
short_line n true entry is said = (cc said, at_most n is)
short_line n false entry is said = absurd (cc said)

-- a line of blanks that is none of a log is long
long_line : (n : ℕ) (test : Bool) (fault : Fault) → nat_le n 255 ≡ test
    → Err fault ≡ (let r : Result LogEntry Fault = if test then Ok entries.Nothing else Err TooLong in r)
    → (nat_lt 255 n ≡ true) × (fault ≡ TooLong)
long_line n true fault is said = absurd (cc said)
long_line n false fault is said = (more_than n is, cc said)

-- a reader at the begin of a line
pub fresh : (read : Reading) → read.line ≡ [] → IsBlankLine [] read
fresh read empty = record {
  blanks = refl;
  within = All-nil (λ b. (b == 10) ≡ false);
  begin = λ rest. ap (λ line. log_says (line ++ rest)) (sym empty);
}

-- a line of blanks, with its end, before more
line_end : (n number : ℕ) (line rest : List ℕ) (long : Bool) → AreBlanks line → EndsNoLine line → nat_lt 255 (n + length line) ≡ long
    → long_blanks n number ((line ++ 10 ∷ []) ++ rest) ≡ (if long then Some number else long_blanks 0 (one_more number) rest)
line_end n number line rest long are within is =
    ap (long_blanks n number) (append_assoc line (10 ∷ []) rest) ∙ long_ended n number line rest are within
    ∙ ap (λ test. let r : Option ℕ = if test then Some number else long_blanks 0 (one_more number) rest in r) is

-- the line after one that is taken
abbrev pub next_after : Reading → Reading
next_after read = record { line = []; number = one_more read.number }

-- a run that takes a line of blanks which says nothing
skipped : (old new : Run) (read : Reading) (begin line : List ℕ) → AreBlanks line → EndsNoLine line
    → nat_lt 255 (length begin + length line) ≡ false → read ≡ next_after old.log → new ≡ record old { log = read }
    → TakesBlanks begin old new (line ++ 10 ∷ []) true
skipped old new read begin line are within short next is = record {
  judge = ap (λ (r : Run). r.judge) is;
  ports = ap (λ (r : Run). r.ports) is;
  reads = λ _. record {
    rejection = ap (λ (r : Run). r.rejection) is;
    after = [];
    begin = fresh new.log (ap (λ (r : Run). r.log.line) is ∙ ap (λ (r : Reading). r.line) next);
    lines = λ rest.
        line_end (length begin) old.log.number line rest false are within short
        ∙ ap (λ number. long_blanks 0 number rest) (sym (ap (λ (r : Run). r.log.number) is ∙ ap (λ (r : Reading). r.number) next));
  };
  stops = λ off. absurd (false≢true (sym off));
}

-- the same by what the reader says
pub line_skipped : (old new : Run) (read : Reading) (begin line : List ℕ) (entry : LogEntry) (result : Result Bool AllocError)
    → IsBlankLine begin old.log → AreBlanks line → EndsNoLine line
    → ((rest : List ℕ) → log_says (old.log.line ++ (line ++ 10 ∷ rest)) ≡ Ok entry ∷ log_says rest) → read ≡ next_after old.log
    → (entry ≡ entries.Nothing → IfOk result (λ goes_on. (goes_on ≡ true) × (new ≡ record old { log = read })))
    → IfOk result (TakesBlanks begin old new (line ++ 10 ∷ []))
line_skipped old new read begin line entry (Err fault) is are within ends next nothing = tt
line_skipped old new read begin line entry (Ok goes_on) is are within ends next nothing =
    let short = short_line (length begin + length line) (nat_le (length begin + length line) 255) entry refl
    (said_blank begin line old.log (Ok entry) is are within ends) in
    let took = nothing short.0 in
    subst (TakesBlanks begin old new (line ++ 10 ∷ [])) (sym took.0) (skipped old new read begin line are within short.1 next took.1)

-- a run that rejects a line of blanks
pub blanks_refused : (old new : Run) (begin line : List ℕ) (number : ℕ) (fault : Fault) → IsBlankLine begin old.log → AreBlanks line → EndsNoLine line
    → ((rest : List ℕ) → log_says (old.log.line ++ (line ++ 10 ∷ rest)) ≡ Err fault ∷ log_says rest) → is_some new.rejection ≡ true
    → cause_of new.rejection ≡ (if is_some old.rejection then cause_of old.rejection else NoLine number fault) → number ≡ old.log.number
    → new.judge ≡ old.judge → new.ports ≡ old.ports → TakesBlanks begin old new (line ++ 10 ∷ []) false
blanks_refused old new begin line number fault is are within ends rejected cause same judge ports = record {
  judge = judge;
  ports = ports;
  reads = λ on. absurd (false≢true on);
  stops = λ _. record {
    rejected = rejected;
    number = number;
    cause =
        cause
        ∙ ap (λ fault. let c : Cause = if is_some old.rejection then cause_of old.rejection else NoLine number fault in c)
        (long_line (length begin + length line) (nat_le (length begin + length line) 255) fault refl
        (said_blank begin line old.log (Err fault) is are within ends)).1;
    lines = λ rest.
        line_end (length begin) old.log.number line rest true are within
        (long_line (length begin + length line) (nat_le (length begin + length line) 255) fault refl
        (said_blank begin line old.log (Err fault) is are within ends)).0
        ∙ ap Some (sym same);
  };
}

-- a run has taken blanks up to those that are left
pub record BlanksTo (line : List ℕ) (old new : Run) (bytes left : List ℕ) : Type 0 where
  pub judge : new.judge ≡ old.judge
  pub ports : new.ports ≡ old.ports
  pub rejection : new.rejection ≡ old.rejection
  pub blanks : AreBlanks left
  pub after : List ℕ
  pub begin : IsBlankLine after new.log
  pub lines : (rest : List ℕ)
      → long_blanks (length line) old.log.number (bytes ++ rest) ≡ long_blanks (length after) new.log.number (left ++ rest)

-- a run before the first of some blanks
pub blanks_from : (line : List ℕ) (run : Run) (bytes : List ℕ) → AreBlanks bytes → IsBlankLine line run.log → BlanksTo line run run bytes bytes
blanks_from line run bytes are is = record {
  judge = refl;
  ports = refl;
  rejection = refl;
  blanks = are;
  after = line;
  begin = is;
  lines = λ rest. refl;
}

-- what is left after a line
pub left_then : (left part after rest : List ℕ) → left ≡ part ++ 10 ∷ after → left ++ rest ≡ (part ++ 10 ∷ []) ++ (after ++ rest)
left_then left part after rest parts =
    ap (λ text. text ++ rest) (parts ∙ sym (append_assoc part (10 ∷ []) after)) ∙ append_assoc (part ++ 10 ∷ []) after rest

-- the parts of what is left are blanks
pub part_blanks : (left part after : List ℕ) → AreBlanks left → left ≡ part ++ 10 ∷ after → AreBlanks part × AreBlanks after
part_blanks left part after are parts =
    let both = blanks_parts part (10 ∷ after) (subst AreBlanks parts are) in
    (both.0, (blank_first 10 after both.1).1)

-- a run that goes on after a line
pub blanks_over : (line : List ℕ) (old mid new : Run) (bytes left part after : List ℕ) (goes_on : Bool) (to : BlanksTo line old mid bytes left)
    → left ≡ part ++ 10 ∷ after → TakesBlanks to.after mid new (part ++ 10 ∷ []) goes_on → goes_on ≡ true → BlanksTo line old new bytes after
blanks_over line old mid new bytes left part after goes_on to parts takes on =
    let reads = takes.reads on in
    record {
      judge = takes.judge ∙ to.judge;
      ports = takes.ports ∙ to.ports;
      rejection = reads.rejection ∙ to.rejection;
      blanks = (part_blanks left part after to.blanks parts).1;
      after = reads.after;
      begin = reads.begin;
      lines = λ rest.
          to.lines rest ∙ ap (long_blanks (length to.after) mid.log.number) (left_then left part after rest parts) ∙ reads.lines (after ++ rest);
    }

-- a run that stops at a line
pub blanks_stop : (line : List ℕ) (old mid new : Run) (bytes left part after : List ℕ) (goes_on : Bool) (to : BlanksTo line old mid bytes left)
    → left ≡ part ++ 10 ∷ after → TakesBlanks to.after mid new (part ++ 10 ∷ []) goes_on → goes_on ≡ false
    → TakesBlanks line old new bytes false
blanks_stop line old mid new bytes left part after goes_on to parts takes off =
    let stops = takes.stops off in
    record {
      judge = takes.judge ∙ to.judge;
      ports = takes.ports ∙ to.ports;
      reads = λ on. absurd (false≢true on);
      stops = λ _. record {
        rejected = stops.rejected;
        number = stops.number;
        cause =
            stops.cause
            ∙ ap (λ (r : Option Rejection). let c : Cause = if is_some r then cause_of r else NoLine stops.number TooLong in c) to.rejection;
        lines = λ rest.
            to.lines rest ∙ ap (long_blanks (length to.after) mid.log.number) (left_then left part after rest parts)
            ∙ stops.lines (after ++ rest);
      };
    }

-- a run that keeps the begin of a line of blanks
pub blanks_kept : (line : List ℕ) (old mid new : Run) (read : Reading) (bytes left : List ℕ) (to : BlanksTo line old mid bytes left)
    → EndsNoLine left → new ≡ record mid { log = read } → SaysAs (mid.log.line ++ left) read.line → read.number ≡ mid.log.number
    → TakesBlanks line old new bytes true
blanks_kept line old mid new read bytes left to within is says same = record {
  judge = ap (λ (r : Run). r.judge) is ∙ to.judge;
  ports = ap (λ (r : Run). r.ports) is ∙ to.ports;
  reads = λ _. record {
    rejection = ap (λ (r : Run). r.rejection) is ∙ to.rejection;
    after = to.after ++ left;
    begin = record {
      blanks = blanks_on to.after left to.begin.blanks ∙ to.blanks;
      within = All-append (λ b. (b == 10) ≡ false) to.after left to.begin.within within;
      begin = λ rest.
          ap log_says (append_assoc to.after left rest) ∙ to.begin.begin (left ++ rest) ∙ ap log_says (sym (append_assoc mid.log.line left rest))
          ∙ says rest ∙ ap (λ (r : Run). log_says (r.log.line ++ rest)) (sym is);
    };
    lines = λ rest.
        to.lines rest ∙ long_more (length to.after) mid.log.number left rest to.blanks within
        ∙ ap (λ n. long_blanks n mid.log.number rest) (sym (length-append to.after left))
        ∙ ap (λ number. long_blanks (length (to.after ++ left)) number rest) (sym (ap (λ (r : Run). r.log.number) is ∙ same));
  };
  stops = λ off. absurd (false≢true (sym off));
}
