-- Which texts are legal dumps: a header, byte by byte, and the samples of the body that follows it.
use Rattle.std.specs.Prelude.{ℕ, ◌+◌, nat_lt, not, ◌==◌, if◌then◌else◌, List, [], ◌∷◌, ◌++◌, map as map_list, replicate, Option, Some, None, Result, Ok, Err}
use Rattle.vme_bus_log.specs.Faults.{TooLong}
use Rattle.vme_line_map.specs.Variables.{Map}
use Rattle.vme_vcd_reader.specs.declared.fault.VcdFault.{VcdFault}
use Rattle.vme_vcd_reader.specs.declared.presence.Presence.{Presence}
use Rattle.vme_vcd_reader.specs.declared.table.Row.{Row}
use Rattle.vme_vcd_reader.specs.declared.variable.Mapped.{Mapped}
use Rattle.vme_vcd_reader.specs.Bodies.{line_after}
use Rattle.vme_vcd_reader.specs.Headers.{Outcome, Goes, Declares, Ends, Rejects, beginning, byte_read, header_end}
use Rattle.vme_vcd_reader.specs.Mapping.{Declaration, declaration}
use Rattle.vme_vcd_reader.specs.Matches.{lines_of}
use Rattle.vme_vcd_reader.specs.Openings.{opening_of}
use Rattle.vme_vcd_reader.specs.Presences.{presence_of}
use Rattle.vme_vcd_reader.specs.Samples.{samples_of}
use Rattle.vme_judge.specs.declared.boards.Board.{Board}
use Rattle.vme_judge.specs.declared.options.Options.{Options}
use Rattle.vme_judge.specs.Dumps.{DumpSoFar, Legal, Illegal, Broken, broken_off, dump_taken, with_presence}
use Rattle.vme_judge.specs.Logs.{NoDump, NoLine}
use Rattle.vme_judge.specs.Openings.{opening}
use Rattle.vme_judge.specs.Seen.{one_more}
use Rattle.vme_judge.specs.Verdicts.{is_space}

-- variables as a table has them; samples do not depend on the links of its lists
abbrev pub rows_with : List (ℕ × Mapped) → List Row
rows_with lines = map_list (λ line. record { identifier = line.0; mapped = line.1; next = 0 }) lines

-- a dump at the end of its header, which says which lines it has
abbrev pub headed : Presence → DumpSoFar → DumpSoFar
headed p (Legal m ports) = Legal (with_presence p m) ports
headed p (Illegal finding m) = Illegal finding m
headed p (Broken cause m) = Broken cause m

-- a dump by the lines of its header, the numbers of the lines with which the header ends and the text of its body begins, and
-- this text, which is judged as its samples; its header may not have the lines that are wanted
abbrev pub body_judged : DumpSoFar → Result (List (ℕ × Mapped)) VcdFault → ℕ → ℕ → List ℕ → DumpSoFar
body_judged d (Err fault) at line text = broken_off (NoDump at fault) d
body_judged d (Ok lines) at line text =
    dump_taken (headed (presence_of lines) d) (samples_of (rows_with lines) (opening_of (presence_of lines).busy line) text)

-- a dump whose text ends with the header, in a line: it has no sample, if the header is whole
abbrev pub header_over : DumpSoFar → ℕ → Option VcdFault → DumpSoFar
header_over d line None = d
header_over d line (Some fault) = broken_off (NoDump line fault) d

-- a dump by what became of its header, which had declared variables; the numbers of the lines with the last byte that was read
-- and with which the text begins that is left, and this text
abbrev pub header_judged : Map → DumpSoFar → List Declaration → Outcome → ℕ → ℕ → List ℕ → DumpSoFar
header_judged map d ds Ends at line text = body_judged d (lines_of map ds) at line text
header_judged map d ds (Rejects fault) at line text = broken_off (NoDump at fault) d
header_judged map d ds (Goes h) at line [] = header_over d line (header_end (byte_read h 32) (lines_of map ds))
header_judged map d ds (Goes h) at line (b ∷ bs) = header_judged map d ds (byte_read h b) line (line_after b line) bs
header_judged map d ds (Declares h) at line [] =
    header_over d line (header_end (byte_read h 32) (lines_of map (ds ++ declaration h ∷ [])))
header_judged map d ds (Declares h) at line (b ∷ bs) =
    header_judged map d (ds ++ declaration h ∷ []) (byte_read h b) line (line_after b line) bs

-- the number of the first line of more than 255 blanks, if one ends before the first byte of a text that is no blank; the text
-- stands after blanks of a line with a number
abbrev pub long_blanks : ℕ → ℕ → List ℕ → Option ℕ
long_blanks blanks line [] = None
long_blanks blanks line (b ∷ text) =
    if not (is_space b) then None else
    (if not (b == 10) then long_blanks (blanks + 1) line text else
    (if nat_lt 255 blanks then Some line else long_blanks 0 (one_more line) text))

-- a dump after blanks, of which a line may be too long
abbrev pub after_blanks : Option ℕ → DumpSoFar → DumpSoFar → DumpSoFar
after_blanks None d whole = whole
after_blanks (Some line) d whole = broken_off (NoLine line TooLong) d

-- a dump of which nothing is judged
abbrev pub unjudged : Options → List Board → DumpSoFar
unjudged o boards = Legal (opening o boards) (replicate 21 None)

-- a dump, judged from what is remembered before its first sample; a line of blanks before it may not be longer than one of
-- a log
unfoldable pub dump_of : Options → Map → List Board → List ℕ → DumpSoFar
dump_of o map boards text =
    after_blanks (long_blanks 0 1 text) (unjudged o boards)
    (header_judged map (unjudged o boards) [] (Goes beginning) 1 1 text)
