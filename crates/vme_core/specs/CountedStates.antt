-- An object with the number of its steps, and the effect of a history on both.
use Rattle.std.specs.Prelude.{ℕ, ◌≡◌, ◌+◌, ◌<◌, List, length, replicate, slice_index_or}
use Rattle.vme_object.specs.declared.history.Entry.{Entry}
use Rattle.vme_object.specs.History.{replay, IsLegal, own}

-- an object, the number of its steps, and the number of steps of each processor
pub record CountedState (S : Type 0) : Type 0 where
  pub object : S
  pub steps : ℕ
  pub made : List ℕ

-- an object before its first step, with a count for each of k processors
abbrev pub fresh_count : {S : Type 0} → ℕ → S → CountedState S
fresh_count k object = record { object = object; steps = 0; made = replicate k 0 }

-- an object went through a history that is legal from its state, and each entry was counted once in all and once for
-- its processor
pub record IsObjectRun {S C R : Type 0} (step : S → C → S × R) (h : List (Entry C R))
    (before after : CountedState S) : Type 0 where
  pub legal : IsLegal step before.object h
  pub object : after.object ≡ replay step before.object h
  pub steps : after.steps ≡ before.steps + length h
  pub process_count : length after.made ≡ length before.made
  pub made : (w : ℕ) → w < length before.made → slice_index_or after.made w 0 ≡ slice_index_or before.made w 0 + length (own w h)

-- an object is the replay of a legal history from its start; its steps are the entries, and the steps of each processor
-- below k are that processor's entries
pub record IsCountedReplay {S C R : Type 0} (step : S → C → S × R) (start : S) (h : List (Entry C R)) (k : ℕ)
    (t : CountedState S) : Type 0 where
  pub legal : IsLegal step start h
  pub object : t.object ≡ replay step start h
  pub steps : t.steps ≡ length h
  pub made : (w : ℕ) → w < k → slice_index_or t.made w 0 ≡ length (own w h)
