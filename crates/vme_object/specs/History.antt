-- Histories of any step: the state after a history, whether it is legal, and the entries of one caller.
use Rattle.std.specs.Prelude.{ℕ, ◌≡◌, ◌==◌, ◌++◌, List, [], ◌∷◌, filter}
use Rattle.vme_object.specs.declared.history.Entry.{Entry}

-- the state after the commands of a history
abbrev pub replay : {S C R : Type 0} → (S → C → S × R) → S → List (Entry C R) → S
replay step s [] = s
replay step s (e ∷ h) = replay step (step s e.cmd).0 h

-- each reply of a history is that of the step at the replay of the entries before it
abbrev pub IsLegal : {S C R : Type 0} → (S → C → S × R) → S → List (Entry C R) → Type 0
IsLegal step s [] = Unit {0}
IsLegal step s (e ∷ h) = (e.reply ≡ (step s e.cmd).1) × IsLegal step (step s e.cmd).0 h

-- the entries of the caller with the number who, in order
abbrev pub own : {C R : Type 0} → ℕ → List (Entry C R) → List (Entry C R)
own who h = filter (λ e. e.who == who) h

-- a is a prefix of b
abbrev pub IsPrefix : {A : Type 0} → List A → List A → Type 0
IsPrefix {A} a b = (rest : List A) × (b ≡ a ++ rest)

-- an entry from its parts: caller, command, reply
abbrev pub entry : {C R : Type 0} → ℕ → C → R → Entry C R
entry who cmd reply = record { who = who; cmd = cmd; reply = reply }
