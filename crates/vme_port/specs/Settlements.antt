-- Defines what a closed port guarantees about its passes, and the place of an entry in the history.
use Rattle.std.specs.Prelude.{ℕ, ◌≡◌, ◌<◌, ◌==◌, List, ◌∷◌, ◌++◌, length, All}
use Rattle.std.specs.List.{sum_by, count_by}
use Rattle.vme_object.specs.declared.history.Entry.{Entry}
use Rattle.vme_object.specs.History.{replay, IsLegal, own, IsPrefix}
use Rattle.vme_port.specs.declared.rule.Account.{Account}
use Rattle.vme_port.specs.Views.{names_among}
use Rattle.vme_port.specs.Rule.{IsConsistent}
use Rattle.vme_port.specs.Passes.{PassView, IsCounted}

module _ {S C R : Type 0} (step : S → C → S × R) (start : S) where
  -- a closed port: its k accounts, one for each number below k, agree with one legal history of n entries, whose replay
  -- is the object
  pub record Closes (k : ℕ) (accounts : List (Account C R)) (object : S) (n : ℕ) : Type 0 where
    pub history : List (Entry C R)
    pub legal : IsLegal step start history
    pub replayed : object ≡ replay step start history
    pub counted : n ≡ length history
    pub all : length accounts ≡ k
    pub each_who : (who : ℕ) → who < k → names_among who accounts ≡ 1
    pub known : All (λ e. e.who < k) history
    pub fits : All (IsConsistent history) accounts

  -- a settled port: k passes, one for each number below k, share one legal history of n entries, whose replay is the
  -- object; each has seen a prefix of it, and made and seen all its own entries there
  pub record Settles (k : ℕ) (passes : List (PassView C R)) (object : S) (n : ℕ) : Type 0 where
    pub history : List (Entry C R)
    pub legal : IsLegal step start history
    pub replayed : object ≡ replay step start history
    pub counted : n ≡ length history
    pub known : All (λ e. e.who < k) history
    pub summed : n ≡ sum_by (λ p. p.made) passes
    pub all : length passes ≡ k
    pub each_who : (who : ℕ) → who < k → count_by (λ p. p.who == who) passes ≡ 1
    pub seen : All (λ p. IsPrefix p.seen history) passes
    pub sound : All (λ p. own p.who p.seen ≡ p.mine) passes
    pub mine : All (λ p. own p.who history ≡ p.mine) passes
    pub made : All IsCounted passes

  -- an entry has its place in a history: after all that its caller had seen, and after exactly the entries `mine` of its
  -- caller, with the reply of the step there
  pub record HasPlaceIn (history seen mine : List (Entry C R)) (e : Entry C R) : Type 0 where
    pub before : List (Entry C R)
    pub after : List (Entry C R)
    pub place : history ≡ before ++ e ∷ after
    pub behind : IsPrefix seen before
    pub only : own e.who before ≡ mine
    pub reply : e.reply ≡ (step (replay step start before) e.cmd).1
