-- One order of the calls of all processes.
use Rattle.std.specs.Prelude.{ℕ, ◌≡◌, ◌<◌, List, [], ◌∷◌, length, Option, Some, All}
use Rattle.vme_object.specs.Each.{AllAt}
use Rattle.vme_object.specs.History.{own}
use Rattle.vme_object.specs.declared.history.Entry.{Entry}
use Rattle.vme_order.specs.Systems.{Next, Calls, Ended, SystemOf}

-- the objects answer the calls of a history, one after another, with its replies, and are then in the state `after`
abbrev pub Answers : {M D R : Type 0} → (M → ℕ → D → Option (M × R)) → M → List (Entry D R) → M → Type 0
Answers {M} act objects [] after = objects ≡ after
Answers {M} act objects (e ∷ h) after =
    (mid : M) × (act objects e.who e.cmd ≡ Some (mid, e.reply)) × Answers act mid h after

-- entries lead a process from a state to its end: each is the call that it makes next, with the reply to it, and
-- behind the last it has ended
abbrev pub Leads : {D R P : Type 0} → (P → Next D R P) → P → List (Entry D R) → P → Type 0
Leads {D} {R} {P} next p [] end = next p ≡ Ended end
Leads {D} {R} {P} next p (e ∷ es) end = (then : R → P) × (next p ≡ Calls e.cmd then) × Leads next (then e.reply) es end

-- a history is one order of the calls of all processes: the objects answer it, and its entries of each process lead
-- that process to its end
pub record IsOrder {M D R P : Type 0} (act : M → ℕ → D → Option (M × R)) (next : ℕ → P → Next D R P) (before : SystemOf M P)
    (h : List (Entry D R)) (after : SystemOf M P) : Type 0 where
  pub known : All (λ e. e.who < length before.processes) h
  pub answers : Answers act before.objects h after.objects
  pub leads : AllAt (λ who p end. Leads (next who) p (own who h) end) before.processes after.processes
