-- The objects of an array with their counts, and one order of the calls that passes made of them.
use Rattle.std.specs.Prelude.{ℕ, suc, ◌≡◌, ◌<◌, List, [], ◌∷◌, length, map, slice_get, slice_set, slice_index_or, Option, Some, None, All}
use Rattle.vme_object.specs.Each.{Each, AllAt}
use Rattle.vme_object.specs.History.{entry, own}
use Rattle.vme_object.specs.declared.history.Entry.{Entry}
use Rattle.vme_port.specs.Passes.{PassView}
use Rattle.vme_port.specs.declared.home.Home.{Home}
use Rattle.vme_port_array.specs.Parts.{part}
use Rattle.vme_port_array.specs.declared.indexed.Indexed.{Indexed}
use Rattle.vme_core.specs.Calls.{counted_step}
use Rattle.vme_core.specs.CountedStates.{CountedState, fresh_count, IsCountedReplay}
use Rattle.vme_order.specs.Systems.{Next}
use Rattle.vme_order.specs.Orders.{Leads}

-- the objects before the first call, with counts for k processes
abbrev pub opened : {S : Type 0} → ℕ → List S → List (CountedState S)
opened k starts = map (fresh_count k) starts

module _ {S C R : Type 0} (step : S → C → S × R) where
  -- a call of the object at the call's index, if there is one: it steps, and the step is counted
  abbrev pub call_found : List (CountedState S) → ℕ → Indexed C → Option (CountedState S) → Option (List (CountedState S) × R)
  call_found objects who c None = None
  call_found objects who c (Some t) =
      Some (slice_set objects c.index (counted_step step t who c.cmd).0, (counted_step step t who c.cmd).1)

  -- the objects after a call, and the reply; none if there is no object at the call's index
  abbrev pub array_call : List (CountedState S) → ℕ → Indexed C → Option (List (CountedState S) × R)
  array_call objects who c = call_found objects who c (slice_get objects c.index)

module _ {S C R : Type 0} where
  -- the object at index i of a settled array, with the number of its entries, and of those of each pass
  abbrev pub gathered_at : List (PassView (Indexed C) R) → ℕ → Home S → CountedState S
  gathered_at passes i home = record {
    object = home.object;
    steps = home.count;
    made = map (λ p. length (part i p.mine)) passes;
  }

  -- the objects from index i on
  abbrev pub gathered_from : List (PassView (Indexed C) R) → ℕ → List (Home S) → List (CountedState S)
  gathered_from passes i [] = []
  gathered_from passes i (home ∷ homes) = gathered_at passes i home ∷ gathered_from passes (suc i) homes

  -- what is gathered from a settled array: its objects with their counts
  abbrev pub gathered : List (PassView (Indexed C) R) → List (Home S) → List (CountedState S)
  gathered passes homes = gathered_from passes 0 homes

  -- a history is one order of the calls that k processes made by their passes: it has exactly the entries of each pass,
  -- in their order, and each object is the replay of its part, which it counts
  pub record IsOneOrderOf (step : S → C → S × R) (starts : List S) (k : ℕ) (passes : List (PassView (Indexed C) R))
      (after : List (CountedState S)) (history : List (Entry (Indexed C) R)) : Type 0 where
    pub known : All (λ e. e.who < k) history
    pub within : All (λ e. e.cmd.index < length starts) history
    pub objects : AllAt (λ i start t. IsCountedReplay step start (part i history) k t) starts after
    pub counts : All (λ t. length t.made ≡ k) after
    pub calls : Each (λ who p. own who history ≡ p.mine) passes

-- an entry by what its process asked for
abbrev pub asked_entry : {C D R : Type 0} → (C → D) → Entry C R → Entry D R
asked_entry asked e = entry e.who (asked e.cmd) e.reply

-- a history by what the processes asked for
abbrev pub asked_history : {C D R : Type 0} → (C → D) → List (Entry C R) → List (Entry D R)
asked_history asked h = map (asked_entry asked) h

-- a call that one of n objects of an array takes, with the object's reply, is one that a state which shows these objects
-- takes: as what was asked for, with this reply, and the next state shows the objects after the call
abbrev pub IsShown : {S C R M D : Type 0} → (S → C → S × R) → (M → ℕ → D → Option (M × R)) → (Indexed C → D)
    → (M → List (CountedState S)) → ℕ → Entry (Indexed C) R → Type 0
IsShown {S} {C} {R} {M} {D} step act asked shown n e =
    (m : M) (t : CountedState S) → length (shown m) ≡ n → slice_get (shown m) e.cmd.index ≡ Some t
    → e.reply ≡ (counted_step step t e.who e.cmd.cmd).1
    → (next : M) × (act m e.who (asked e.cmd) ≡ Some (next, e.reply))
    × (shown next ≡ slice_set (shown m) e.cmd.index (counted_step step t e.who e.cmd.cmd).0)

-- the entries of each pass lead its process from its first state to its end
pub record AreTraces {C D R P : Type 0} (next : ℕ → P → Next D R P) (asked : C → D) (passes : List (PassView C R))
    (firsts ends : List P) : Type 0 where
  pub processes : length firsts ≡ length passes
  pub ended : length ends ≡ length passes
  pub leads :
      (who : ℕ) (p : PassView C R) (a b : P) → who < length passes
      → Leads (next who) (slice_index_or firsts who a) (asked_history asked (slice_index_or passes who p).mine)
      (slice_index_or ends who b)
