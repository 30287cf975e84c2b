-- The buffer of a processor's next line.
use Rattle.std.proofs.Common.{◌≡◌, ℕ, ◌<◌, List, ◌∷◌, length, drop, arith}
use Rattle.std.proofs.lemmas.List.{length-map}
use Rattle.vme_cycle.specs.BlockBuffers.{BufferView}
use Rattle.vme_shared.specs.declared.reply.LineReply.{LineReply}
use Rattle.vme_script.specs.declared.script.ScriptLine.{ScriptLine}
use Rattle.vme_script.specs.Configurations.{Configuration}
use Rattle.vme_line_task.specs.Scripts.{script_at, lines_at}
use Rattle.vme_line_task.specs.ReadBuffers.{buffers_of}
use Rattle.vme_line_task.proofs.lemmas.LineBuffers.{IsNextBuffer, next_buffer}

-- if a line is left, its buffer is the first that is left
pub draws : (config : Configuration) (board : ℕ) (lines : List (ℕ × LineReply)) (ended : ℕ) (buffers rest : List BufferView) (buffer : BufferView)
    → ended < length lines → length lines ≡ length (lines_at config board) → buffers ≡ drop ended (buffers_of (script_at config board)) → buffers ≡ buffer ∷ rest
    → IsNextBuffer (script_at config board) ended buffer rest
draws config board lines ended buffers rest buffer within count are is =
    next_buffer (script_at config board) ended buffers rest buffer
    (omega (arith, within, count, length-map (script_at config board) (λ (one : ScriptLine). one.line))) are is
