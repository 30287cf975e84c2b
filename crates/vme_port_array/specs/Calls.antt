-- Defines what a call of one object does to the pass that makes it.
use Rattle.std.specs.Prelude.{ℕ, ◌≡◌, ◌<◌, ◌+◌, ◌-◌, ◌^◌, List, [], ◌∷◌, ◌++◌, length, All, Result, Ok, Err}
use Rattle.vme_object.specs.declared.history.Entry.{Entry}
use Rattle.vme_object.specs.History.{own, entry}
use Rattle.vme_port.specs.Passes.{PassView}
use Rattle.vme_port_array.specs.declared.fault.ArrayFault.{ArrayFault}
use Rattle.vme_port_array.specs.declared.fault.ArrayFault.TheVariants.{OutOfMemory, BadCount}
use Rattle.vme_port_array.specs.declared.indexed.Indexed.{Indexed}
use Rattle.vme_port_array.specs.Parts.{indexed, AreLegal}

-- the entries that a call of the object at an index adds: one with its reply, or none if it failed
abbrev pub entries_of : {C R F : Type 0} → ℕ → ℕ → C → Result R F → List (Entry (Indexed C) R)
entries_of who index cmd (Ok reply) = entry who (indexed index cmd) reply ∷ []
entries_of who index cmd (Err fault) = []

-- one call: the pass sees further entries of others, then adds its own entries `es`; in all that it has seen, the part
-- of each object is legal
pub record Adds {S C R : Type 0} (step : S → C → S × R) (starts : List S) (es : List (Entry (Indexed C) R))
    (p q : PassView (Indexed C) R) : Type 0 where
  pub port : q.port ≡ p.port
  pub who : q.who ≡ p.who
  pub others : List (Entry (Indexed C) R)
  pub apart : own p.who others ≡ []
  pub seen : q.seen ≡ p.seen ++ others ++ es
  pub whose : All (λ e. e.who ≡ p.who) es
  pub legal : AreLegal step starts q.seen
  pub mine : q.mine ≡ p.mine ++ es
  pub sound : own p.who q.seen ≡ q.mine
  pub made : q.made ≡ p.made + length es

-- after a call that may wait, the number n of entries of the object's part fits 64 bits; it is 2^64 - 1 if the call was `Spent`
abbrev pub HasCount : {R F : Type 0} → Result R F → ℕ → Type 0
HasCount (Ok reply) n = n < 2 ^ 64
HasCount (Err spent) n = n ≡ 2 ^ 64 - 1

-- an array was rejected because of its number of passes or of objects
abbrev pub IsBadCount : {A : Type 0} → Result A ArrayFault → Type 0
IsBadCount (Err BadCount) = Unit {0}
IsBadCount (Err OutOfMemory) = ⊥
IsBadCount (Ok opened) = ⊥
