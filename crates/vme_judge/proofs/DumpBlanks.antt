-- A run that takes the blanks before a dump.
use Rattle.std.proofs.Common.{◌≡◌, ℕ, ◌+◌, ◌<◌, Bool, true, false, not, ◌==◌, ◌&&◌, zero, suc, List, [], ◌∷◌, ◌++◌, append_assoc, map, drop, take, length, get_or, slice_get, arith, eqb-true, subst, Option, Some, is_some, Result, Ok, Err, IfOk, refl, ap, sym, ◌∙◌}
use Rattle.std.specs.Prelude.{if◌then◌else◌}
use Rattle.std.specs.declared.alloc.AllocError.{AllocError}
use Rattle.std.proofs.lemmas.Bool.{false≢true}
use Rattle.std.proofs.lemmas.List.{drop_more, take-append-drop, take_more}
use Rattle.vme_bus_log.specs.Faults.{TooLong}
use Rattle.vme_line_map.specs.Variables.{Map}
use Rattle.vme_vcd_reader.specs.declared.reader.Step.{Step}
use Rattle.vme_vcd_reader.specs.declared.reader.VcdReader.{VcdReader}
use Rattle.vme_vcd_reader.specs.Bodies.{line_after}
use Rattle.vme_vcd_reader.specs.Headers.{Outcome, Goes, beginning, blank_read, byte_read}
use Rattle.vme_vcd_reader.specs.Mapping.{Declaration}
use Rattle.vme_vcd_reader.specs.Readers.{IsHeader, TakesHeading}
use Rattle.vme_judge.specs.declared.dump.Ports.{Ports}
use Rattle.vme_judge.specs.declared.judge.Judge.{Judge}
use Rattle.vme_judge.specs.declared.rejection.Rejection.{Rejection}
use Rattle.vme_judge.specs.declared.run.Kind.{Kind}
use Rattle.vme_judge.specs.declared.run.Kind.TheVariants as kinds
use Rattle.vme_judge.specs.declared.run.Run.{Run}
use Rattle.vme_judge.specs.Blanks.{AreBlanks, BeginsDump, IsBlankSoFar, ReadsBlanks, SkipsBlanks, TakesBlanks, TakesFirst, TakesFurther, blanks_whole, line_past}
use Rattle.vme_judge.specs.DumpRuns.{InHeader, TakesDump, dump_at, dump_so_far, text_whole}
use Rattle.vme_judge.specs.Dumps.{DumpSoFar}
use Rattle.vme_judge.specs.DumpTexts.{after_blanks, header_judged, long_blanks}
use Rattle.vme_judge.specs.Logs.{NoLine}
use Rattle.vme_judge.specs.Runs.{cause_of, form_after, IsGoing}
use Rattle.vme_judge.specs.Standing.{standing, stands}
use Rattle.vme_judge.specs.Verdicts.{is_space}
use Rattle.vme_judge.proofs.BlankLines.{blank_first, blanks_on, dump_blank}
use Rattle.vme_judge.proofs.DumpHeaders.{goes_as}
use Rattle.vme_judge.proofs.DumpRuns.{text_broken}

-- each of blanks is one
pub blank_at : (bytes : List ℕ) (i d : ℕ) → AreBlanks bytes → i < length bytes → is_space (get_or bytes i d) ≡ true
blank_at [] i d are less = absurd (omega arith)
blank_at (b ∷ bytes) zero d are less = (blank_first b bytes are).0
blank_at (b ∷ bytes) (suc i) d are less = blank_at bytes i d (blank_first b bytes are).1 (omega arith)

-- a blank before the first word of a dump says nothing
pub begins_on : (b : ℕ) → is_space b ≡ true → byte_read beginning b ≡ Goes beginning
begins_on b is = ap (λ test. let r : Outcome = if test then blank_read beginning [] else Goes (record beginning { word = [] ++ b ∷ [] }) in r) (dump_blank b is)

-- a reader of a dump that takes one
pub reader_on : (map : Map) (b : ℕ) (step : Step) (v : VcdReader) → is_space b ≡ true → TakesHeading map (byte_read beginning b) [] step v
    → IsHeader map beginning [] v
reader_on map b step v is takes = (subst (λ out. TakesHeading map out [] step v) (begins_on b is) takes).1

-- the line after one more byte
pub line_more : (bytes : List ℕ) (i d line next last : ℕ) → i < length bytes → next ≡ line_after (get_or bytes i d) line
    → line_past (drop i bytes) line ≡ last → line_past (drop (i + 1) bytes) next ≡ last
line_more bytes i d line next last less is was =
    ap (line_past (drop (i + 1) bytes)) is ∙ ap (λ bytes. line_past bytes line) (sym (drop_more bytes i d less)) ∙ was

-- blanks before the first word of a header
header_blanks : (map : Map) (d : DumpSoFar) (ds : List Declaration) (line : ℕ) (blanks rest : List ℕ) → AreBlanks blanks
    → header_judged map d ds (Goes beginning) line line (blanks ++ rest)
    ≡ header_judged map d ds (Goes beginning) (line_past blanks line) (line_past blanks line) rest
header_blanks map d ds line [] rest are = refl
header_blanks map d ds line (b ∷ blanks) rest are =
    let first = blank_first b blanks are in
    ap (λ out. header_judged map d ds out line (line_after b line) (blanks ++ rest)) (begins_on b first.0)
    ∙ goes_as map d ds beginning line (line_after b line) (line_after b line) (blanks ++ rest)
    ∙ header_blanks map d ds (line_after b line) blanks rest first.1

-- a run that has taken blanks has judged nothing
pub same_dump : (old new : Run) → new.judge ≡ old.judge → new.ports ≡ old.ports → new.rejection ≡ old.rejection → dump_so_far new ≡ dump_so_far old
same_dump old new judge ports rejection =
    ap (λ (r : Option Rejection). dump_at (is_some r) (cause_of r) (standing new.judge) new.ports.last) rejection
    ∙ ap (λ (j : Judge). dump_at (is_some old.rejection) (cause_of old.rejection) (standing j) new.ports.last) judge
    ∙ ap (λ (p : Ports). dump_at (is_some old.rejection) (cause_of old.rejection) (standing old.judge) p.last) ports

-- the whole header does not depend on them
text_same : (map : Map) (old new : Run) (line : ℕ) (rest : List ℕ) → new.judge ≡ old.judge → new.ports ≡ old.ports
    → new.rejection ≡ old.rejection → new.vcd.line ≡ line
    → header_judged map (dump_so_far old) [] (Goes beginning) line line rest ≡ text_whole map new (InHeader beginning []) rest
text_same map old new line rest judge ports rejection counts =
    sym (
    ap (λ d. header_judged map d [] (Goes beginning) new.vcd.line new.vcd.line rest) (same_dump old new judge ports rejection)
    ∙ ap (λ line. header_judged map (dump_so_far old) [] (Goes beginning) line line rest) counts
    )

-- the whole dump after blanks
pub whole_on : (map : Map) (line : List ℕ) (old new : Run) (bytes rest : List ℕ) (reads : ReadsBlanks line old new bytes) → AreBlanks bytes
    → new.judge ≡ old.judge → new.ports ≡ old.ports → new.vcd.line ≡ line_past bytes old.vcd.line
    → blanks_whole map line old (bytes ++ rest) ≡ blanks_whole map reads.after new rest
whole_on map line old new bytes rest reads are judge ports counts =
    ap (λ long. after_blanks long (dump_so_far old) (text_whole map old (InHeader beginning []) (bytes ++ rest))) (reads.lines rest)
    ∙ ap (λ d. after_blanks (long_blanks (length reads.after) new.log.number rest) d (text_whole map old (InHeader beginning []) (bytes ++ rest)))
    (sym (same_dump old new judge ports reads.rejection))
    ∙ ap (after_blanks (long_blanks (length reads.after) new.log.number rest) (dump_so_far new))
    (header_blanks map (dump_so_far old) [] old.vcd.line bytes rest are
    ∙ text_same map old new (line_past bytes old.vcd.line) rest judge ports reads.rejection counts)

-- the whole dump, if no blank is left
pub whole_first : (map : Map) (line : List ℕ) (run : Run) (text rest : List ℕ) → slice_get text 0 ≡ Some 36
    → blanks_whole map line run (text ++ rest) ≡ text_whole map run (InHeader beginning []) (text ++ rest)
whole_first map line run [] rest first = absurd (cc first)
whole_first map line run (b ∷ text) rest first =
    let is : b ≡ 36 = cc first in
    ap (λ b. after_blanks (long_blanks (length line) run.log.number (b ∷ (text ++ rest))) (dump_so_far run)
    (text_whole map run (InHeader beginning []) (b ∷ (text ++ rest)))) is
    ∙ ap (λ b. text_whole map run (InHeader beginning []) (b ∷ (text ++ rest))) (sym is)

module _ (map : Map) (line : List ℕ) (old mid new : Run) (bytes blanks text : List ℕ) where
  -- a run that takes the first bytes of a dump after blanks: the whole of it
  whole_then : (skips : TakesBlanks line old mid blanks true) → mid.vcd.line ≡ line_past blanks old.vcd.line → AreBlanks blanks → slice_get text 0 ≡ Some 36 → bytes ≡ blanks ++ text
      → (rest : List ℕ) → blanks_whole map line old (bytes ++ rest) ≡ text_whole map mid (InHeader beginning []) (text ++ rest)
  whole_then skips counts are first parts rest =
      let reads = skips.reads refl in
      ap (λ bytes. blanks_whole map line old (bytes ++ rest)) parts
      ∙ ap (blanks_whole map line old) (append_assoc blanks text rest)
      ∙ whole_on map line old mid blanks (text ++ rest) reads are skips.judge skips.ports counts
      ∙ whole_first map reads.after mid text rest first

  -- a run that goes on before blanks goes on after them
  pub going_on : (skips : TakesBlanks line old mid blanks true) → IsGoing old → IsGoing mid
  going_on skips going =
      ap (λ (r : Option Rejection). not (is_some r) && stands (standing mid.judge)) (skips.reads refl).rejection
      ∙ ap (λ (j : Judge). not (is_some old.rejection) && stands (standing j)) skips.judge ∙ going

  -- the first bytes of a dump
  begun : (goes_on : Bool) (skips : TakesBlanks line old mid blanks true) → mid.vcd.line ≡ line_past blanks old.vcd.line → AreBlanks blanks
      → slice_get text 0 ≡ Some 36 → bytes ≡ blanks ++ text → TakesDump map mid new (InHeader beginning []) text goes_on → BeginsDump map line old new bytes goes_on
  begun goes_on skips counts are first parts takes = record {
    reads = λ on.
        let reads = takes.reads on in
        record {
          after = reads.after;
          reading = reads.reading;
          unjudged = λ d was. reads.unjudged d (same_dump old mid skips.judge skips.ports (skips.reads refl).rejection ∙ was);
          judges = λ rest. whole_then skips counts are first parts rest ∙ reads.judges rest;
        };
    stops = λ off rest. whole_then skips counts are first parts rest ∙ takes.stops off rest;
  }

  -- the same by what the calls return
  pub dump_begun : (on : Bool) (result : Result Bool AllocError) → on ≡ true → TakesBlanks line old mid blanks on
      → mid.vcd.line ≡ line_past blanks old.vcd.line → AreBlanks blanks → slice_get text 0 ≡ Some 36 → bytes ≡ blanks ++ text
      → IsGoing old → (IsGoing mid → IfOk result (TakesDump map mid new (InHeader beginning []) text))
      → IfOk result (BeginsDump map line old new bytes)
  dump_begun on (Err fault) went skips counts are first parts going takes = tt
  dump_begun on (Ok goes_on) went skips counts are first parts going takes =
      let skipped = subst (TakesBlanks line old mid blanks) went skips in
      begun goes_on skipped counts are first parts (takes (going_on skipped going))

-- a run that rejects the blanks before a dump
pub dump_barred : (map : Map) (line : List ℕ) (old new : Run) (bytes blanks text : List ℕ) (on : Bool) → on ≡ false → IsGoing old
    → TakesBlanks line old new blanks on → bytes ≡ blanks ++ text → BeginsDump map line old new bytes false
dump_barred map line old new bytes blanks text on off going takes parts =
    let stops = takes.stops off in
    record {
      reads = λ on. absurd (false≢true on);
      stops = λ _ rest.
          text_broken old new (blanks_whole map line old (bytes ++ rest)) (NoLine stops.number TooLong) going
          (ap (λ bytes. blanks_whole map line old (bytes ++ rest)) parts
          ∙ ap (blanks_whole map line old) (append_assoc blanks text rest)
          ∙ ap (λ long. after_blanks long (dump_so_far old) (text_whole map old (InHeader beginning []) (blanks ++ (text ++ rest))))
          (stops.lines (text ++ rest)))
          (stops.rejected, stops.cause) takes.judge;
    }

module _ (map : Map) (line : List ℕ) (old new : Run) (kind : Kind) (bytes : List ℕ) (goes_on : Bool) where
  -- what is taken of the first bytes does not depend on the form that is remembered
  pub first_formed : BeginsDump map line (record old { kind = kind }) new bytes goes_on → BeginsDump map line old new bytes goes_on
  first_formed takes = record {
    reads = λ on.
        let reads = takes.reads on in
        record { after = reads.after; reading = reads.reading; unjudged = reads.unjudged; judges = reads.judges };
    stops = takes.stops;
  }

  -- nor what is taken of blanks
  pub skips_formed : SkipsBlanks map line (record old { kind = kind }) new bytes goes_on → SkipsBlanks map line old new bytes goes_on
  skips_formed skips = record {
    reader = skips.reader;
    counts = skips.counts;
    takes = record {
      judge = skips.takes.judge;
      ports = skips.takes.ports;
      reads = λ on.
          let reads = skips.takes.reads on in
          record { rejection = reads.rejection; after = reads.after; begin = reads.begin; lines = reads.lines };
      stops = λ off.
          let stops = skips.takes.stops off in
          record { rejected = stops.rejected; number = stops.number; cause = stops.cause; lines = stops.lines };
    };
  }

-- a run that is before the first byte that is no blank is, whatever form is remembered
pub so_far_formed : (map : Map) (line : List ℕ) (run : Run) (kind : Kind) → IsBlankSoFar map line run
    → IsBlankSoFar map line (record run { kind = kind })
so_far_formed map line run kind is = record { reader = is.reader; begin = is.begin }

-- bytes of a dump whose form is known now
pub piece_first : (map : Map) (line : List ℕ) (old new : Run) (bytes : List ℕ) (kind : Kind) (result : Result Bool AllocError)
    → IfOk result (BeginsDump map line (record old { kind = kind }) new bytes) → IfOk result (λ _. new.kind ≡ kind) → kind ≡ kinds.Dump
    → IfOk result (TakesFirst map line old new bytes)
piece_first map line old new bytes kind (Err fault) takes stays is = tt
piece_first map line old new bytes kind (Ok goes_on) takes stays is = (stays ∙ is, first_formed map line old new kind bytes goes_on takes)

-- further blanks
pub piece_further : (map : Map) (line : List ℕ) (old new : Run) (bytes : List ℕ) (kind : Kind) (result : Result Bool AllocError)
    → IfOk result (SkipsBlanks map line (record old { kind = kind }) new bytes) → IfOk result (λ _. new.kind ≡ kind) → kind ≡ kinds.Unknown
    → IfOk result (TakesFurther map line old new bytes)
piece_further map line old new bytes kind (Err fault) takes stays is = tt
piece_further map line old new bytes kind (Ok goes_on) takes stays is = (stays ∙ is, skips_formed map line old new kind bytes goes_on takes)

-- a run that has taken blanks, whose reader of a dump has taken them before
pub blanks_skipped : (map : Map) (line : List ℕ) (old new : Run) (v : VcdReader) (bytes : List ℕ) (result : Result Bool AllocError)
    → IsHeader map beginning [] v → v.line ≡ line_past bytes old.vcd.line → IfOk result (λ _. new.vcd ≡ v)
    → IfOk result (TakesBlanks line (record old { vcd = v }) new bytes) → IfOk result (SkipsBlanks map line old new bytes)
blanks_skipped map line old new v bytes (Err fault) reader counts same takes = tt
blanks_skipped map line old new v bytes (Ok goes_on) reader counts same takes = record {
  reader = subst (IsHeader map beginning []) (sym same) reader;
  counts = ap (λ (v : VcdReader). v.line) same ∙ counts;
  takes = record {
    judge = takes.judge;
    ports = takes.ports;
    reads = λ on.
        let reads = takes.reads on in
        record { rejection = reads.rejection; after = reads.after; begin = reads.begin; lines = reads.lines };
    stops = λ off.
        let stops = takes.stops off in
        record { rejected = stops.rejected; number = stops.number; cause = stops.cause; lines = stops.lines };
  };
}

-- one more blank
pub blanks_more : (bytes : List ℕ) (i d : ℕ) → i < length bytes → AreBlanks (take i bytes) → is_space (get_or bytes i d) ≡ true
    → AreBlanks (take (i + 1) bytes)
blanks_more bytes i d less are is =
    let one : AreBlanks (get_or bytes i d ∷ []) = rw is refl in
    subst AreBlanks (sym (take_more bytes i d less)) (blanks_on (take i bytes) (get_or bytes i d ∷ []) are ∙ one)

-- a text of a dump that begins with no blank begins with $
dollar_by : (blank : Bool) (b : ℕ) (kind : Kind) (dollar : Bool) → (b == 36) ≡ dollar → blank ≡ false
    → (let r : Kind = if blank then kind else (if dollar then kinds.Dump else kinds.Log) in r) ≡ kinds.Dump → b ≡ 36
dollar_by true b kind dollar is other form = absurd (false≢true (sym other))
dollar_by false b kind true is other form = eqb-true b 36 is
dollar_by false b kind false is other form = absurd (cc form)

-- the first byte of a dump that is no blank is $
pub first_after : (bytes : List ℕ) (i d : ℕ) → i < length bytes → AreBlanks (take i bytes) → is_space (get_or bytes i d) ≡ false
    → form_after kinds.Unknown bytes ≡ kinds.Dump → slice_get (drop i bytes) 0 ≡ Some 36
first_after bytes i d less are other form =
    let left : form_after kinds.Unknown (get_or bytes i d ∷ drop (i + 1) bytes) ≡ kinds.Dump =
    ap (form_after kinds.Unknown) (sym (drop_more bytes i d less))
    ∙ sym (blanks_on (take i bytes) (drop i bytes) are)
    ∙ ap (form_after kinds.Unknown) (take-append-drop i bytes) ∙ form in
    let is : get_or bytes i d ≡ 36 =
    dollar_by (is_space (get_or bytes i d)) (get_or bytes i d) (form_after kinds.Unknown (drop (i + 1) bytes)) (get_or bytes i d == 36) refl other left in
    ap (λ text. slice_get text 0) (drop_more bytes i d less) ∙ ap Some is
