-- The refusal that the cause of a finding stands for, and its severity.
use Rattle.std.specs.Prelude.{ℕ, Option, Some, None, unwrap_or}
use Rattle.vme_grammar.specs.declared.fault.LineFault.{LineFault}
use Rattle.vme_grammar.specs.declared.fault.LineFault.TheVariants as line
use Rattle.vme_am.specs.declared.code.AmFault.TheVariants as am
use Rattle.vme_cycle.specs.declared.fault.CycleFault.{CycleFault}
use Rattle.vme_cycle.specs.declared.fault.CycleFault.TheVariants as cycle
use Rattle.vme_script.specs.declared.fault.ScriptRefusal.{ScriptRefusal}
use Rattle.vme_script.specs.declared.fault.ScriptRefusal.TheVariants as script
use Rattle.vme_script.specs.declared.fault.ConfigFault.{ConfigFault}
use Rattle.vme_script.specs.declared.fault.ConfigFault.TheVariants as config
use Rattle.vme_script.specs.Causes.{board_refusal, schedule_refusal, mailbox_refusal}
use Rattle.vme_faults.specs.declared.cause.Severity.{Severity}
use Rattle.vme_faults.specs.declared.cause.Severity.TheVariants.{Error, Warning}
use Rattle.vme_faults.specs.declared.cause.Cause.{Cause}
use Rattle.vme_faults.specs.declared.cause.Cause.TheVariants as causes
use Rattle.vme_faults.specs.declared.cause.document.DocumentCause.{DocumentCause}
use Rattle.vme_faults.specs.declared.cause.document.DocumentCause.TheVariants as documents
use Rattle.vme_faults.specs.declared.cause.line.LineCause.{LineCause}
use Rattle.vme_faults.specs.declared.cause.line.LineCause.TheVariants as lines
use Rattle.vme_faults.specs.declared.cause.cycle.CycleCause.{CycleCause}
use Rattle.vme_faults.specs.declared.cause.cycle.CycleCause.TheVariants as cycles

-- the refusal for a fault of the document
abbrev pub document_refusal : DocumentCause → ConfigFault
document_refusal (documents.NotToml error) = config.NotToml
document_refusal documents.NoBoard = config.NoBoard
document_refusal (documents.TooManyBoards boards) = config.TooMany
document_refusal _ = config.BadKey

-- the refusal of a line by its fault; a script with too many lines has none
abbrev pub line_fault : LineCause → Option LineFault
line_fault (lines.TooLong bytes) = Some line.LineTooLong
line_fault lines.UnknownCommand = Some line.UnknownWord
line_fault lines.IndentedComment = Some line.UnknownWord
line_fault (lines.ScriptCommand form) = Some line.UnknownWord
line_fault lines.UnknownFunction = Some line.UnknownWord
line_fault (lines.WordCount form wanted found) = Some line.WordCount
line_fault lines.BadCode = Some line.BadCode
line_fault lines.BadAddress = Some line.BadAddress
line_fault lines.BadOffset = Some line.BadAddress
line_fault lines.BadByteCount = Some line.BadNumber
line_fault lines.BadLocalByteCount = Some line.BadNumber
line_fault lines.BadDataCount = Some line.BadNumber
line_fault lines.BadMailboxNumber = Some line.BadNumber
line_fault (lines.NoMailbox number declared) = Some line.BadNumber
line_fault lines.NoHexDigits = Some line.BadBytes
line_fault (lines.OddDigits digits) = Some line.BadBytes
line_fault (lines.WrongLength form found wanted) = Some line.BadBytes
line_fault (lines.TooManyLines count) = None
line_fault (lines.TouchesMailbox board low high mailbox mailbox_low mailbox_high) = Some line.MailboxBytes

-- the refusal of a script by the fault of its line with a number
abbrev pub script_refusal : ℕ → Option LineFault → ScriptRefusal
script_refusal number (Some fault) = script.BadLine number fault
script_refusal number None = script.TooManyLines

-- the refusal of a request by its fault
abbrev pub cycle_fault : CycleCause → CycleFault
cycle_fault (cycles.NoCode code) = cycle.Code am.TooLarge
cycle_fault (cycles.UserCode code) = cycle.Code am.UserDefined
cycle_fault (cycles.ReservedCode code) = cycle.Code am.Reserved
cycle_fault (cycles.BlockCode code) = cycle.WrongKindOfCode
cycle_fault (cycles.NoBlockCode code) = cycle.WrongKindOfCode
cycle_fault (cycles.ProgramModify code) = cycle.ProgramModify
cycle_fault (cycles.OutsideSpace space last) = cycle.OutsideSpace
cycle_fault (cycles.NoLocation addr bytes) = cycle.NoCycle
cycle_fault (cycles.AddressNotAligned addr datum) = cycle.NoCycle
cycle_fault (cycles.Crosses addr last boundary) = cycle.CrossesBoundary
cycle_fault _ = cycle.BadCount

-- the refusal of a file whose first fault has this cause; a warning and a request line have none
abbrev pub refusal_of : Cause → Option ConfigFault
refusal_of (causes.Document cause) = Some (document_refusal cause)
refusal_of (causes.Board cause) = Some (board_refusal cause)
refusal_of (causes.Schedule cause) = Some (schedule_refusal cause)
refusal_of (causes.Mailbox cause) = Some (mailbox_refusal cause)
refusal_of (causes.Script slot number cause) =
    Some (config.BadScript (unwrap_or slot 0) (script_refusal number (line_fault cause)))
refusal_of (causes.Refused fault) = Some fault
refusal_of _ = None

-- whether a cause is an error or a warning
abbrev pub severity_of : Cause → Severity
severity_of (causes.Document cause) = Error
severity_of (causes.Board cause) = Error
severity_of (causes.Schedule cause) = Error
severity_of (causes.Mailbox cause) = Error
severity_of (causes.Script slot number cause) = Error
severity_of (causes.Refused fault) = Error
severity_of (causes.File warning) = Warning
severity_of (causes.Line slot number warning) = Warning
severity_of (causes.RequestLine cause) = Error
severity_of (causes.RequestCycle cause) = Error
severity_of causes.RequestBoard = Warning
