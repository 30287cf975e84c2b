-- Buffers for the bytes that the lines of a script read.
use Rattle.std.specs.Prelude.{ℕ, Bool, true, false, List, [], ◌∷◌, map, max, Result, Ok, Err}
use Rattle.vme_cycle.specs.BlockBuffers.{BufferView, inline_capacity}
use Rattle.vme_cycle.specs.declared.fault.CycleFault.{CycleFault}
use Rattle.vme_cycle.specs.Requests.{read_len}
use Rattle.vme_cycle.specs.Lawful.{Transfer, transfer_of}
use Rattle.vme_grammar.specs.declared.line.Line.{Line}
use Rattle.vme_grammar.specs.declared.line.Line.TheVariants.{Bus}
use Rattle.vme_script.specs.declared.script.ScriptLine.{ScriptLine}

-- the number of bytes that a request reads in all; none if it is refused
abbrev pub request_read_len : Result Transfer CycleFault → ℕ
request_read_len (Ok t) = read_len t.request
request_read_len (Err fault) = 0

-- the number of bytes that a line reads by a request over the bus; 0 for any other line, whose bytes fit in an inline
-- buffer
abbrev pub line_read_len : Line → ℕ
line_read_len (Bus request) = request_read_len (transfer_of request)
line_read_len line = 0

-- an empty buffer for the bytes of a line
abbrev pub buffer_of : Line → BufferView
buffer_of line = record { items = []; capacity = max inline_capacity (line_read_len line) }

-- an empty buffer for each line of a script, in order
abbrev pub buffers_of : List ScriptLine → List BufferView
buffers_of script = map (λ one. buffer_of one.line) script

-- the buffers of lines, by whether each allocates: those that do are kept in order, and any other is an empty inline
-- buffer
abbrev pub buffers_kept : List Bool → List BufferView → List BufferView
buffers_kept [] long = []
buffers_kept (false ∷ more) long = record { items = []; capacity = inline_capacity } ∷ buffers_kept more long
buffers_kept (true ∷ more) [] = []
buffers_kept (true ∷ more) (buffer ∷ long) = buffer ∷ buffers_kept more long
