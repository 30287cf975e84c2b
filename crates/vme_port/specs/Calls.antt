-- Defines what a call does to the pass that makes it, and what holds for each kind of result.
use Rattle.std.specs.Prelude.{ℕ, ◌≡◌, ◌+◌, List, [], ◌∷◌, ◌++◌, length, All, Result, Ok, Err}
use Rattle.vme_object.specs.declared.history.Entry.{Entry}
use Rattle.vme_object.specs.History.{IsLegal, own, entry}
use Rattle.vme_port.specs.declared.fault.PortFault.{PortFault}
use Rattle.vme_port.specs.declared.fault.PortFault.TheVariants.{OutOfMemory, BadCount}
use Rattle.vme_port.specs.declared.fault.TryFault.{TryFault}
use Rattle.vme_port.specs.declared.fault.TryFault.TheVariants.{Busy, Spent}
use Rattle.vme_port.specs.Passes.{PassView}

-- the entries that a call adds: one with its reply, or none if it failed
abbrev pub entries_of : {C R F : Type 0} → ℕ → C → Result R F → List (Entry C R)
entries_of who cmd (Ok reply) = entry who cmd reply ∷ []
entries_of who cmd (Err fault) = []

-- one call: the pass sees further entries of others, then adds its own entries `es`; all that it has seen is legal
pub record Adds {S C R : Type 0} (step : S → C → S × R) (start : S) (es : List (Entry C R)) (p q : PassView C R) : Type 0 where
  pub port : q.port ≡ p.port
  pub who : q.who ≡ p.who
  pub others : List (Entry C R)
  pub apart : own p.who others ≡ []
  pub seen : q.seen ≡ p.seen ++ others ++ es
  pub whose : All (λ e. e.who ≡ p.who) es
  pub legal : IsLegal step start q.seen
  pub mine : q.mine ≡ p.mine ++ es
  pub sound : own p.who q.seen ≡ q.mine
  pub made : q.made ≡ p.made + length es

-- any number of calls: the pass has seen more of the history, in which its own entries are exactly `es`
pub record Makes {C R : Type 0} (es : List (Entry C R)) (p q : PassView C R) : Type 0 where
  pub port : q.port ≡ p.port
  pub who : q.who ≡ p.who
  pub since : List (Entry C R)
  pub seen : q.seen ≡ p.seen ++ since
  pub its : own p.who since ≡ es
  pub mine : q.mine ≡ p.mine ++ es
  pub made : q.made ≡ p.made + length es

-- `holds`, if the call was `Busy`
abbrev pub IfBusy : {R : Type 0} → Result R TryFault → Type 0 → Type 0
IfBusy (Err Busy) holds = holds
IfBusy (Err Spent) holds = Unit {0}
IfBusy (Ok reply) holds = Unit {0}

-- `holds`, if the call was not `Busy`
abbrev pub UnlessBusy : {R : Type 0} → Result R TryFault → Type 0 → Type 0
UnlessBusy (Err Busy) holds = Unit {0}
UnlessBusy (Err Spent) holds = holds
UnlessBusy (Ok reply) holds = holds

-- `holds`, if the call was `Spent`
abbrev pub IfSpent : {R : Type 0} → Result R TryFault → Type 0 → Type 0
IfSpent (Err Busy) holds = Unit {0}
IfSpent (Err Spent) holds = holds
IfSpent (Ok reply) holds = Unit {0}

-- a port was rejected because of its number of passes
abbrev pub IsBadCount : {A : Type 0} → Result A PortFault → Type 0
IsBadCount (Err BadCount) = Unit {0}
IsBadCount (Err OutOfMemory) = ⊥
IsBadCount (Ok opened) = ⊥
