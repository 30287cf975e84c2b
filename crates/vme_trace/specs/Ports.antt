-- The local port of a board in an event: select, write line, offset, data, and the reply.
use Rattle.std.specs.Prelude.{ℕ, ◌+◌, Bool, true, false, not, if◌then◌else◌, List, [], ◌∷◌, ◌++◌, length, Option, Some, None, is_some}
use Rattle.vme_cycle.specs.declared.modify.Modify.{Modify}
use Rattle.vme_cycle.specs.Functions.{value, has_len}
use Rattle.vme_memory.specs.declared.command.BoardCmd.{BoardCmd}
use Rattle.vme_memory.specs.declared.command.BoardCmd.TheVariants as given
use Rattle.vme_memory.specs.declared.reply.Reply.{Reply}
use Rattle.vme_memory.specs.declared.reply.Reply.TheVariants.{Bytes, Done, Berr}
use Rattle.vme_trace.specs.declared.dump.change.Code.{Code}
use Rattle.vme_trace.specs.declared.dump.change.Change.{Change}
use Rattle.vme_trace.specs.declared.dump.change.Value.TheVariants.{Low, High, Free, Released, Number, Lanes}
use Rattle.vme_trace.specs.declared.dump.port.PortAccess.{PortAccess}
use Rattle.vme_trace.specs.declared.dump.edge.TheConstants.{BEGIN, FIRST, SECOND, BOARD_DRIVES, ANSWER_FALLS, STROBES_RISE, DATA_RELEASED, ANSWER_RISES, ADDRESS_RELEASED}
use Rattle.vme_trace.specs.declared.dump.variable.Variable.TheVariants.{PortSelect, PortWrite, PortOffset, PortData, PortDone, PortError}
use Rattle.vme_trace.specs.Variables.{code_of}
use Rattle.vme_trace.specs.Changes.{level_of, change_if, no_lanes}
use Rattle.vme_trace.specs.Handshakes.{is_berr}

-- one, two or four bytes on the low lanes; no other number of bytes is accessed
abbrev pub port_lanes : List ℕ → Option (List (Option ℕ))
port_lanes (a ∷ []) = Some (None ∷ None ∷ None ∷ Some a ∷ [])
port_lanes (a ∷ b ∷ []) = Some (None ∷ None ∷ Some a ∷ Some b ∷ [])
port_lanes (a ∷ b ∷ c ∷ d ∷ []) = Some (Some a ∷ Some b ∷ Some c ∷ Some d ∷ [])
port_lanes bytes = None

-- the bytes of a reply, if it has some
abbrev pub reply_lanes : Reply → Option (List (Option ℕ))
reply_lanes (Bytes datum) = port_lanes datum.items
reply_lanes Done = None
reply_lanes Berr = None

-- the bytes that a function writes in place of those of a reply
abbrev pub new_lanes : Modify → Reply → Option (List (Option ℕ))
new_lanes f (Bytes old) = if has_len f (length old.items) then port_lanes (value f old.items) else None
new_lanes f Done = None
new_lanes f Berr = None

-- an access from its parts
abbrev pub access : ℕ → Bool → Option (List (Option ℕ)) → Option (List (Option ℕ)) → Bool → PortAccess
access offset write bytes new berr = record { offset = offset; write = write; bytes = bytes; new = new; berr = berr }

-- what a command to a local port shows with its reply
abbrev pub port_access : BoardCmd → Reply → Option PortAccess
port_access (given.LocalRead offset n) reply = Some (access offset false (reply_lanes reply) None (is_berr reply))
port_access (given.LocalWrite offset bytes) reply = Some (access offset true (port_lanes bytes.items) None (is_berr reply))
port_access (given.LocalModify offset n f) reply =
    Some (access offset false (reply_lanes reply) (new_lanes f reply) (is_berr reply))
port_access (given.Cycle signals at f) reply = None

-- the edge that comes so many edges after the begin of the last handshake, the second in a read-modify-write
abbrev pub last_edge : PortAccess → ℕ → ℕ
last_edge a after = if is_some a.new then SECOND + after else FIRST + after

-- the select line
unfoldable pub select_changes : ℕ → PortAccess → List Change
select_changes board a =
    change_if true FIRST (code_of (PortSelect board)) High
    ++ change_if true (last_edge a STROBES_RISE) (code_of (PortSelect board)) Low

-- the write line and the offset
unfoldable pub control_changes : ℕ → PortAccess → List Change
control_changes board a =
    change_if true BEGIN (code_of (PortWrite board)) (level_of a.write)
    ++ (change_if (is_some a.new) SECOND (code_of (PortWrite board)) High
    ++ (change_if true (last_edge a ADDRESS_RELEASED) (code_of (PortWrite board)) Free
    ++ (change_if true BEGIN (code_of (PortOffset board)) (Number 32 a.offset)
    ++ change_if true (last_edge a ADDRESS_RELEASED) (code_of (PortOffset board)) Released)))

-- lanes with bytes, if there are some
abbrev pub lanes_if : Option (List (Option ℕ)) → ℕ → Code → List Change
lanes_if None edge code = []
lanes_if (Some lanes) edge code = change_if true edge code (Lanes lanes)

-- the data: driven by the processor at the begin of a write, and by the memory in a read
unfoldable pub bytes_changes : ℕ → PortAccess → List Change
bytes_changes board a =
    lanes_if a.bytes (if a.write then FIRST else FIRST + BOARD_DRIVES) (code_of (PortData board))
    ++ (change_if (is_some a.bytes) (FIRST + DATA_RELEASED) (code_of (PortData board)) no_lanes
    ++ (lanes_if a.new SECOND (code_of (PortData board))
    ++ change_if (is_some a.new) (SECOND + DATA_RELEASED) (code_of (PortData board)) no_lanes))

-- the reply: done, or a bus error
unfoldable pub reply_changes : ℕ → PortAccess → List Change
reply_changes board a =
    change_if (not a.berr) (FIRST + ANSWER_FALLS) (code_of (PortDone board)) High
    ++ (change_if (not a.berr) (FIRST + ANSWER_RISES) (code_of (PortDone board)) Low
    ++ (change_if (is_some a.new) (SECOND + ANSWER_FALLS) (code_of (PortDone board)) High
    ++ (change_if (is_some a.new) (SECOND + ANSWER_RISES) (code_of (PortDone board)) Low
    ++ (change_if a.berr (FIRST + ANSWER_FALLS) (code_of (PortError board)) High
    ++ change_if a.berr (FIRST + ANSWER_RISES) (code_of (PortError board)) Low))))

-- the local port of a board in an event, in order of the variables
unfoldable pub port_changes : ℕ → PortAccess → List Change
port_changes board a =
    select_changes board a ++ (control_changes board a ++ (bytes_changes board a ++ reply_changes board a))
