-- The entries that passes make have their places in the one history that the array settles on.
use Rattle.std.proofs.Common.{ℕ, ◌≡◌, List, ◌∷◌, ◌++◌, take, Contains, ap, ◌∙◌}
use mathlib.Core.Option.{some}
use lib.ListN.{get_elem?}
use Rattle.vme_object.specs.declared.history.Entry.{Entry}
use Rattle.vme_object.specs.History.{replay, entry}
use Rattle.vme_object.specs.Each.{Each}
use Rattle.vme_object.proofs.lemmas.Histories.{reply_at}
use Rattle.vme_port.specs.declared.home.Home.{Home}
use Rattle.vme_port.specs.Passes.{PassView}
use Rattle.vme_port.specs.Calls.{Makes}
use Rattle.vme_port.proofs.lemmas.OneHistory.{makes_added}
use Rattle.vme_port.proofs.lemmas.SharedHistory as Shared
use Rattle.vme_port_array.specs.declared.indexed.Indexed.{Indexed}
use Rattle.vme_port_array.specs.Parts.{part, AreLegal}
use Rattle.vme_port_array.specs.Calls.{Adds}
use Rattle.vme_port_array.specs.Settlements.{Settles, HasPlaceIn}
use Rattle.vme_port_array.proofs.lemmas.Parts.{part-append, part_first}

module _ {S C R : Type 0} (step : S → C → S × R) (starts : List S) where
  -- a pass makes, over one call, the entries that the call adds
  pub makes_one : (es : List (Entry (Indexed C) R)) (p q : PassView (Indexed C) R) → Adds step starts es p q → Makes es p q
  makes_one es p q added = makes_added es p q added.port added.who added.others added.apart added.seen added.whose added.mine added.made

  -- the reply of an entry of a history with legal parts is that of its object's step
  reply_in : (h before after : List (Entry (Indexed C) R)) (e : Entry (Indexed C) R) → AreLegal step starts h
      → h ≡ before ++ e ∷ after
      → (start : S) → get_elem? starts e.cmd.index ≡ some start
      → e.reply ≡ (step (replay step start (part e.cmd.index before)) e.cmd.cmd).1
  reply_in h before after e legal place start there =
      let i : ℕ = e.cmd.index in
      let split : part i h ≡ part i before ++ entry e.who e.cmd.cmd e.reply ∷ part i after =
      ap (part i) place ∙ part-append i before (e ∷ after) ∙ ap (λ l. part i before ++ l) (part_first e after) in
      reply_at step start (part i h) (part i before) (part i after) (entry e.who e.cmd.cmd e.reply) (legal i start there) split

  module _ (k : ℕ) (passes : List (PassView (Indexed C) R)) (homes : List (Home S)) (outcome : Settles step starts k passes homes) where
    -- the passes of a settled array share its history
    pub shared : Shared.IsShared k outcome.history passes
    shared = record { known = outcome.known; each_who = outcome.each_who; seen = outcome.seen; sound = outcome.sound; mine = outcome.mine }

    -- each entry that a pass made since has its place in the history
    pub placed : (es : List (Entry (Indexed C) R)) (p q : PassView (Indexed C) R) → Contains passes q → Makes es p q
        → Each (λ i e. HasPlaceIn step starts outcome.history p.seen (p.mine ++ take i es) e) es
    placed es p q there made i d less =
        let own = Shared.own_places k outcome.history passes shared es p q there made i d less in record {
          before = own.before;
          after = own.after;
          place = own.place;
          behind = own.behind;
          only = own.only;
          reply = reply_in outcome.history own.before own.after _ outcome.legal own.place;
        }

  -- two entries of one caller that follow as many of its own entries have one place
  pub one_place : (h seen seen' mine : List (Entry (Indexed C) R)) (e f : Entry (Indexed C) R) → e.who ≡ f.who
      → (a : HasPlaceIn step starts h seen mine e) → (b : HasPlaceIn step starts h seen' mine f) → a.before ≡ b.before
  one_place h seen seen' mine e f same a b =
      Shared.one_place h seen seen' mine e f same
      (record { before = a.before; after = a.after; place = a.place; behind = a.behind; only = a.only })
      (record { before = b.before; after = b.after; place = b.place; behind = b.behind; only = b.only })
