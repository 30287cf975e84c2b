-- A whole report: its text, and its status.
use Rattle.std.specs.Prelude.{ℕ, List, ◌++◌, map, flat_map}
use Rattle.vme_shared.specs.declared.reply.LineReply.{LineReply}
use Rattle.vme_shared.specs.declared.status.Status.{Status}
use Rattle.vme_shared.specs.Statuses.{reply_status, worst}
use Rattle.vme_report.specs.declared.part.Part.{Part}
use Rattle.vme_report.specs.declared.part.Part.TheVariants.{Replies, Counts, Memory}
use Rattle.vme_report.specs.Boards.{BoardText}
use Rattle.vme_report.specs.Texts.{replies_text, counts_text, memory_text}

-- the text of one part of a report for one board
abbrev pub part_text : Part → BoardText → List ℕ
part_text Replies board = replies_text board.slot board.lines
part_text Counts board = counts_text board.slot board.steps board.made
part_text Memory board = memory_text board.slot board.bytes

-- the text of a report: the replies of all boards, then the counts of all boards, then the memories of all boards
unfoldable pub report_text : List BoardText → List ℕ
report_text boards =
    flat_map (part_text Replies) boards ++ (flat_map (part_text Counts) boards ++ flat_map (part_text Memory) boards)

-- the status of one script: Marked if a reply to it is not a success, otherwise Clean
abbrev pub board_status : List (ℕ × LineReply) → Status
board_status lines = worst (map (λ line. reply_status line.1) lines)

-- the status of a report: Marked if a reply to any script is not a success, otherwise Clean
abbrev pub report_status : List BoardText → Status
report_status boards = worst (map (λ board. board_status board.lines) boards)
