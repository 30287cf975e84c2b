-- The text of a verdict: why a trace is rejected, what is found, or what was seen of it; what it lacks, and what is assumed.
use Rattle.std.specs.Prelude.{ℕ, Bool, true, false, not, ◌==◌, ◌&&◌, ◌||◌, if◌then◌else◌, List, [], ◌++◌, codes, Option, Some, None, is_some}
use Rattle.std.specs.Fmt.{decimal}
use Rattle.std.specs.Option.{unwrap_or}
use Rattle.vme_line_map.specs.Variables.{Map}
use Rattle.vme_vcd_reader.specs.declared.presence.Presence.{Presence}
use Rattle.vme_judge.specs.declared.boards.Board.{Board}
use Rattle.vme_judge.specs.declared.counts.Counts.{Counts}
use Rattle.vme_judge.specs.declared.fault.Status.{Status}
use Rattle.vme_judge.specs.declared.fault.Status.TheVariants as statuses
use Rattle.vme_judge.specs.declared.finding.Finding.{Finding}
use Rattle.vme_judge.specs.declared.options.Options.{Options}
use Rattle.vme_judge.specs.declared.rejection.Rejection.{Rejection}
use Rattle.vme_judge.specs.declared.rejection.Why.TheVariants as whys
use Rattle.vme_judge.specs.declared.run.Kind.{Kind}
use Rattle.vme_judge.specs.declared.run.Kind.TheVariants as kinds
use Rattle.vme_judge.specs.declared.run.Run.{Run}
use Rattle.vme_judge.specs.AssumedTexts.{absent, assumed, list_line, ports_shown}
use Rattle.vme_judge.specs.FindingTexts.{beside, finding_text}
use Rattle.vme_judge.specs.JsonTexts.{verdict_json}
use Rattle.vme_judge.specs.RejectionTexts.{rejected_text}

-- a count and the word for what is counted, in the plural unless the count is 1
unfoldable pub counted : ℕ → List ℕ → List ℕ → List ℕ
counted count one many = decimal count ++ codes " " ++ (if count == 1 then one else many)

-- a further count
unfoldable pub further : ℕ → List ℕ → List ℕ → List ℕ
further count one many = codes ", " ++ counted count one many

-- what was seen of the bus in a dump
unfoldable pub bus_counts : Counts → List ℕ
bus_counts c =
    counted c.transfers (codes "transfer") (codes "transfers") ++ further c.«data» (codes "handshake") (codes "handshakes")
    ++ further c.tenures (codes "tenure") (codes "tenures")

-- what was seen of local ports, and the number of samples
unfoldable pub other_counts : Counts → List ℕ
other_counts c =
    further c.accesses (codes "local access") (codes "local accesses") ++ further c.samples (codes "sample") (codes "samples")

-- what was seen of a dump
unfoldable pub dump_counts : Counts → List ℕ
dump_counts c = bus_counts c ++ other_counts c

-- the local accesses of a log, if it has some
abbrev pub accesses_text : ℕ → List ℕ
accesses_text count = if count == 0 then [] else further count (codes "local access") (codes "local accesses")

-- what was seen of a log
unfoldable pub log_counts : Counts → List ℕ
log_counts c = counted c.«data» (codes "datum") (codes "data") ++ accesses_text c.accesses

-- what was seen of a trace
abbrev pub counts_text : Bool → Counts → List ℕ
counts_text is_dump c = if is_dump then dump_counts c else log_counts c

-- what is skipped at the start of a trace
abbrev pub skipped_name : Bool → List ℕ
skipped_name is_dump =
    if is_dump then codes "samples before the first at rest" else codes "data of a transfer that began before"

-- the line of what is skipped, if something is
abbrev pub skipped_text : Bool → ℕ → List ℕ
skipped_text is_dump skipped =
    if skipped == 0 then [] else codes "skipped: " ++ decimal skipped ++ codes " " ++ skipped_name is_dump ++ codes "\n"

-- that a dump ends within a transfer, if it does
abbrev pub within_text : Bool → List ℕ
within_text is_within = if is_within then codes "; it ends within a transfer" else []

-- what was seen of a legal trace
unfoldable pub legal_text : Bool → Bool → Counts → List ℕ
legal_text is_dump is_within c =
    codes "legal: " ++ counts_text is_dump c ++ within_text is_within ++ codes "\n" ++ skipped_text is_dump c.skipped

-- the end of a trace: its form, the lines that a dump has, why it is rejected, the last finding and how many there were
-- before it, what was seen, and whether a transfer is open
pub record Ending : Type 0 where
  pub kind : Kind
  pub presence : Presence
  pub rejection : Option Rejection
  pub finding : Option Finding
  pub found : ℕ
  pub counts : Counts
  pub is_within : Bool

-- the end of a run
unfoldable pub ending_of : Run → Ending
ending_of r = record {
  kind = r.kind;
  presence = r.judge.presence;
  rejection = r.rejection;
  finding = r.judge.finding;
  found = r.judge.found;
  counts = r.judge.counts;
  is_within = is_some r.judge.transfer;
}

-- whether a trace is a dump
abbrev pub is_dump : Kind → Bool
is_dump kinds.Dump = true
is_dump kinds.Log = false
is_dump kinds.Unknown = false

-- the verdict by the end of a trace
abbrev pub ending_status : Ending → Status
ending_status e =
    if is_some e.rejection then statuses.Rejected
    else (if not (e.found == 0) || is_some e.finding then statuses.Illegal
    else (if e.counts.«data» == 0 && e.counts.accesses == 0 then statuses.Rejected else statuses.Legal))

-- why a trace is rejected: by default nothing in it is judged
abbrev pub rejection_of : Option Rejection → Rejection
rejection_of rejection = unwrap_or rejection (record { why = whys.Nothing; line = None })

-- the finding at the end of a trace, if there is one
abbrev pub last_finding : Options → Option Finding → List ℕ
last_finding o None = []
last_finding o (Some f) = finding_text o f

-- what was seen of a trace if it is legal
abbrev pub seen_text : Status → Bool → Bool → Counts → List ℕ
seen_text statuses.Legal is_dump is_within c = legal_text is_dump is_within c
seen_text statuses.Illegal is_dump is_within c = []
seen_text statuses.Rejected is_dump is_within c = []

-- the word for a verdict
abbrev pub verdict_name : Status → List ℕ
verdict_name statuses.Legal = codes "legal"
verdict_name statuses.Illegal = codes "illegal"
verdict_name statuses.Rejected = codes "illegal"

-- the lines of what a trace lacks, and of what is assumed
abbrev pub lists_text : List (List ℕ) → List (List ℕ) → List ℕ
lists_text absent assumed =
    list_line (codes "not in the trace: ") (codes ", ") absent ++ list_line (codes "assumed: ") (codes "; ") assumed

-- what was seen of a trace if it is legal, what it lacks and what is assumed, as text
abbrev pub rest_lines : Status → Bool → Bool → Counts → List (List ℕ) → List (List ℕ) → List ℕ
rest_lines status is_dump is_within c absent assumed =
    seen_text status is_dump is_within c ++ lists_text absent assumed

-- the same, as asked; that it ends within a transfer is said of a dump alone
unfoldable pub rest_text : Options → List Board → Ending → Status → List ℕ
rest_text o boards e status =
    let dump = is_dump e.kind in
    let within = e.is_within && dump in
    let lacks = absent dump e.presence boards in
    let assumes = assumed o boards (ports_shown dump e.presence) in
    if o.json then verdict_json (verdict_name status) e.counts within lacks assumes
    else rest_lines status dump within e.counts lacks assumes

-- the text of a verdict by its status
abbrev pub text_by : Options → Map → List Board → Ending → Status → List ℕ
text_by o map boards e statuses.Rejected = rejected_text o.json o.name.now map (rejection_of e.rejection)
text_by o map boards e statuses.Illegal = last_finding o e.finding ++ rest_text o boards e statuses.Illegal
text_by o map boards e statuses.Legal = last_finding o e.finding ++ rest_text o boards e statuses.Legal

-- the text of a verdict; beside a bus log its lines are comments
unfoldable pub verdict_text : Options → Map → List Board → Ending → List ℕ
verdict_text o map boards e = beside o.log (text_by o map boards e (ending_status e))
