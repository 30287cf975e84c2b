-- The lines that stand for a command to the local port, and what is stated of what becomes of it.
use Rattle.std.specs.Prelude.{◌≡◌, ℕ, ◌-◌, List, map, length, take, drop}
use Rattle.vme_grammar.specs.declared.line.Line.{Line}
use Rattle.vme_grammar.specs.declared.line.Line.TheVariants.{Local}
use Rattle.vme_memory.specs.declared.command.BoardCmd.{BoardCmd}
use Rattle.vme_memory.specs.declared.command.BoardCmd.TheVariants.{LocalRead, LocalWrite, LocalModify, Cycle}
use Rattle.vme_split.specs.declared.part.Part.{Part}
use Rattle.vme_split.specs.declared.line.LineSplit.{LineSplit}
use Rattle.vme_split.specs.declared.line.LineSplit.TheVariants.{Whole, Parts, Left}
use Rattle.vme_split.specs.Parts.{part_len, parts}

-- where a command to the local port begins
abbrev pub offset_of : BoardCmd → ℕ
offset_of (LocalRead offset n) = offset
offset_of (LocalWrite offset bytes) = offset
offset_of (LocalModify offset n f) = offset
offset_of (Cycle signals at f) = at

-- how many bytes a command to the local port has; a cycle of the bus, which no line has as its command, counts as one
abbrev pub len_of : BoardCmd → ℕ
len_of (LocalRead offset n) = n
len_of (LocalWrite offset bytes) = length bytes.items
len_of (LocalModify offset n f) = n
len_of (Cycle signals at f) = 1

-- the command of a part: the read of its bytes, or the write of those of the command's bytes that are its own
abbrev pub part_command : BoardCmd → Part → BoardCmd
part_command (LocalWrite offset bytes) part =
    LocalWrite part.at (record { items = take part.len (drop (part.at - offset) bytes.items) })
part_command command part = LocalRead part.at part.len

-- the line of a part
abbrev pub line_of_part : BoardCmd → Part → Line
line_of_part command part = Local (part_command command part)

-- the lines that stand for a command to the local port of a processor that moves `width` bytes at once
abbrev pub command_lines : ℕ → BoardCmd → List Line
command_lines width command = map (line_of_part command) (parts width (offset_of command) (len_of command))

-- what becomes of a command: it stays if the processor makes it at once, or its parts stand for it. Which commands are
-- left is not stated
abbrev pub IsSplitOf : ℕ → BoardCmd → LineSplit → Type 0
IsSplitOf width command Whole = part_len width (offset_of command) (len_of command) ≡ len_of command
IsSplitOf width command (Parts lines) = lines.items ≡ command_lines width command
IsSplitOf width command (Left reason) = Unit {0}
