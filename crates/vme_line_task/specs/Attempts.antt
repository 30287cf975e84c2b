-- Attempts at a read that waits for bytes, and at a lock or a mailbox.
use Rattle.std.specs.Prelude.{ℕ}
use Rattle.vme_shared.specs.Machine.{SharedView}
use Rattle.vme_line_task.specs.declared.attempt.Attempts.{Attempts}
use Rattle.vme_line_task.specs.declared.attempt.AttemptTask.TheVariants.{Await, Shared}
use Rattle.vme_line_task.specs.declared.wait.AwaitTask.{AwaitTask}

-- the attempts at a read that waits for bytes, by the current one and the number that is left
abbrev pub read_attempts : AwaitTask → ℕ → Attempts
read_attempts wait left = record { attempt = Await wait; left = left }

-- the attempts at a lock, an unlock, a put or a take
abbrev pub shared_attempts : SharedView → ℕ → Attempts
shared_attempts task left = record { attempt = Shared task; left = left }
