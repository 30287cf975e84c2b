-- Defines what a closed array guarantees about its passes, and where an entry stands in the history.
use Rattle.std.specs.Prelude.{ℕ, ◌≡◌, ◌<◌, ◌==◌, List, ◌∷◌, ◌++◌, length, All}
use Rattle.std.specs.List.{count_by}
use mathlib.Core.Option.{some}
use lib.ListN.{get_elem?}
use Rattle.vme_object.specs.declared.history.Entry.{Entry}
use Rattle.vme_object.specs.History.{replay, own, IsPrefix}
use Rattle.vme_port.specs.declared.rule.Account.{Account}
use Rattle.vme_port.specs.declared.home.Home.{Home}
use Rattle.vme_port.specs.Views.{names_among}
use Rattle.vme_port.specs.Rule.{IsConsistent}
use Rattle.vme_port.specs.Passes.{PassView}
use Rattle.vme_port_array.specs.declared.indexed.Indexed.{Indexed}
use Rattle.vme_port_array.specs.Parts.{part, AreLegal}

module _ {S C R : Type 0} (step : S → C → S × R) (starts : List S) where
  -- each object is the replay of its part of a history, and comes with the number of entries of that part
  pub record AreEnds (h : List (Entry (Indexed C) R)) (homes : List (Home S)) : Type 0 where
    pub count : length homes ≡ length starts
    pub each : (i : ℕ) (start : S) (home : Home S) → get_elem? starts i ≡ some start → get_elem? homes i ≡ some home
        → (home.object ≡ replay step start (part i h)) × (home.count ≡ length (part i h))

  -- a closed array: its k accounts, one for each number below k, agree with one history, in which each object's part is
  -- legal, and which leads to the objects
  pub record Closes (k : ℕ) (accounts : List (Account (Indexed C) R)) (homes : List (Home S)) : Type 0 where
    pub history : List (Entry (Indexed C) R)
    pub legal : AreLegal step starts history
    pub ends : AreEnds history homes
    pub all : length accounts ≡ k
    pub each_who : (who : ℕ) → who < k → names_among who accounts ≡ 1
    pub known : All (λ e. e.who < k) history
    pub within : All (λ e. e.cmd.index < length starts) history
    pub fits : All (IsConsistent history) accounts

  -- a settled array: k passes, one for each number below k, share one history of all objects; each has seen a prefix of
  -- it, and made and seen all its own entries there; each object's part of it is legal and leads to the object
  pub record Settles (k : ℕ) (passes : List (PassView (Indexed C) R)) (homes : List (Home S)) : Type 0 where
    pub history : List (Entry (Indexed C) R)
    pub legal : AreLegal step starts history
    pub ends : AreEnds history homes
    pub known : All (λ e. e.who < k) history
    pub within : All (λ e. e.cmd.index < length starts) history
    pub all : length passes ≡ k
    pub each_who : (who : ℕ) → who < k → count_by (λ p. p.who == who) passes ≡ 1
    pub seen : All (λ p. IsPrefix p.seen history) passes
    pub sound : All (λ p. own p.who p.seen ≡ p.mine) passes
    pub mine : All (λ p. own p.who history ≡ p.mine) passes

  -- an entry has its place in a history: behind all that its caller had seen, after exactly the entries `mine` of its
  -- caller, with the reply of the step at the replay of its object's part before it
  pub record HasPlaceIn (history seen mine : List (Entry (Indexed C) R)) (e : Entry (Indexed C) R) : Type 0 where
    pub before : List (Entry (Indexed C) R)
    pub after : List (Entry (Indexed C) R)
    pub place : history ≡ before ++ e ∷ after
    pub behind : IsPrefix seen before
    pub only : own e.who before ≡ mine
    pub reply : (start : S) → get_elem? starts e.cmd.index ≡ some start
        → e.reply ≡ (step (replay step start (part e.cmd.index before)) e.cmd.cmd).1
