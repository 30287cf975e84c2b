-- Processes that call objects, and their turns.
use Rattle.std.specs.Prelude.{ℕ, List, Option, Some, None, slice_get, slice_set}

-- what a process does next: it makes a call and goes on from a state by the reply; or it has ended, in a state
pub data Next (D R P : Type 0) : Type 0 where
  Calls : D → (R → P) → Next D R P
  Ended : P → Next D R P

-- the state of a system: that of its objects, and that of each process
pub record SystemOf (M P : Type 0) : Type 0 where
  pub objects : M
  pub processes : List P

-- a system from its parts
abbrev pub system_of : {M P : Type 0} → M → List P → SystemOf M P
system_of objects processes = record { objects = objects; processes = processes }

-- the system after a call by a process: the objects' next state, and the process's by the reply; nothing happens
-- if no object takes the call
abbrev pub call_taken : {M R P : Type 0} → SystemOf M P → ℕ → (R → P) → Option (M × R) → SystemOf M P
call_taken s who then None = s
call_taken s who then (Some done) = system_of done.0 (slice_set s.processes who (then done.1))

-- the system after a turn of a process, by what that does next
abbrev pub next_made : {M D R P : Type 0} → (M → ℕ → D → Option (M × R)) → SystemOf M P → ℕ → Next D R P → SystemOf M P
next_made act s who (Calls d then) = call_taken s who then (act s.objects who d)
next_made act s who (Ended p) = system_of s.objects (slice_set s.processes who p)

-- the system after a turn of a process in a state, if there is such a process
abbrev pub turn_from : {M D R P : Type 0} → (M → ℕ → D → Option (M × R)) → (ℕ → P → Next D R P) → SystemOf M P → ℕ → Option P
    → SystemOf M P
turn_from act next s who None = s
turn_from act next s who (Some p) = next_made act s who (next who p)

-- the system after a turn of the process with a number
abbrev pub turn_of : {M D R P : Type 0} → (M → ℕ → D → Option (M × R)) → (ℕ → P → Next D R P) → SystemOf M P → ℕ
    → SystemOf M P
turn_of act next s who = turn_from act next s who (slice_get s.processes who)
