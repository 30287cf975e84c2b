-- An example: one word goes through a mailbox while another master finds the mailbox locked.
use Rattle.std.specs.Prelude.{ℕ, false, true, List, [], ◌∷◌}
use Rattle.vme_object.specs.declared.history.Entry.{Entry}
use Rattle.vme_object.specs.History.{entry}
use Rattle.vme_am.specs.declared.code.Space.TheVariants.{A32}
use Rattle.vme_am.specs.declared.code.Kind.TheVariants.{DataAccess}
use Rattle.vme_am.specs.Codes.{row}
use Rattle.vme_cycle.specs.declared.modify.Modify.TheVariants as functions
use Rattle.vme_cycle.specs.declared.request.Request.{Request}
use Rattle.vme_cycle.specs.declared.request.Request.TheVariants.{Read, Write, Modify}
use Rattle.vme_cycle.specs.Requests.{addr_of, function_of}
use Rattle.vme_cycle.specs.Lawful.{Transfer}
use Rattle.vme_cycle.specs.Plans.{signals_of}
use Rattle.vme_memory.specs.declared.class.Width8To32.TheVariants.{D32}
use Rattle.vme_memory.specs.declared.command.BoardCmd.{BoardCmd}
use Rattle.vme_memory.specs.declared.command.BoardCmd.TheVariants.{Cycle}
use Rattle.vme_memory.specs.declared.reply.Reply.{Reply}
use Rattle.vme_memory.specs.declared.reply.Reply.TheVariants.{Bytes, Done}
use Rattle.vme_memory.specs.Boards.{Board, zeros}
use Rattle.vme_shared.specs.MailboxSteps.{BoardMailbox}

-- a board of 24 zero bytes that answers quad-byte cycles and read-modify-writes
abbrev pub example_board : Board
example_board = record { bytes = zeros 24; class = record { width = D32; uat = false; blt = false; rmw = true } }

-- a mailbox with two slots, which fills this board
abbrev pub example_mailbox : BoardMailbox
example_mailbox = record { offset = 0; slots = 2 }

-- the transfer of a request with the code of data access in A32
abbrev pub data_transfer : Request → Transfer
data_transfer request = record { am = row 0x09 A32 DataAccess false false; request = request }

-- the history entry of a master's cycle on this board
abbrev pub cycle_by : ℕ → Request → Reply → Entry BoardCmd Reply
cycle_by who request reply =
    entry who (Cycle (signals_of (data_transfer request) 0) (addr_of request) (function_of request)) reply

-- a master sets the lock, whose byte was `old` before
abbrev pub locks : ℕ → ℕ → Entry BoardCmd Reply
locks who old = cycle_by who (Modify 0x09 0 1 functions.Set) (Bytes (record { items = old ∷ [] }))

-- a master reads four bytes
abbrev pub reads_four : ℕ → ℕ → List ℕ → Entry BoardCmd Reply
reads_four who at found = cycle_by who (Read 0x09 at 4) (Bytes (record { items = found }))

-- a master writes these bytes
abbrev pub writes : ℕ → ℕ → List ℕ → Entry BoardCmd Reply
writes who at new = cycle_by who (Write 0x09 at (record { items = new })) Done

-- the four bytes of a number below 256
abbrev pub quad : ℕ → List ℕ
quad n = 0 ∷ 0 ∷ 0 ∷ n ∷ []

-- master 1 puts the word 7; master 2 finds the mailbox locked before it takes the word
abbrev pub example_history : List (Entry BoardCmd Reply)
example_history =
    locks 1 0 ∷ reads_four 1 4 (quad 0) ∷ locks 2 128 ∷ reads_four 1 8 (quad 0) ∷ writes 1 16 (quad 7) ∷ writes 1 4 (quad 1)
    ∷ writes 1 0 (0 ∷ [])
    ∷ locks 2 0 ∷ reads_four 2 4 (quad 1) ∷ reads_four 2 8 (quad 0) ∷ reads_four 2 16 (quad 7) ∷ writes 2 8 (quad 1)
    ∷ writes 2 0 (0 ∷ [])
    ∷ []

-- master 1 writes the put count before its word
abbrev pub early_count_history : List (Entry BoardCmd Reply)
early_count_history =
    locks 1 0 ∷ reads_four 1 4 (quad 0) ∷ reads_four 1 8 (quad 0) ∷ writes 1 4 (quad 1) ∷ writes 1 16 (quad 7)
    ∷ writes 1 0 (0 ∷ [])
    ∷ []
