-- The entries that passes make have their places in the one history that the port settles on.
use Rattle.std.proofs.Common.{ℕ, ◌≡◌, ◌+◌, List, [], ◌++◌, length, take, All, Contains, refl, ap, sym, ◌∙◌, arith, append_assoc, length-append}
use Rattle.std.proofs.lemmas.List.{append-nil}
use Rattle.std.specs.List.{sum_by}
use Rattle.vme_object.specs.declared.history.Entry.{Entry}
use Rattle.vme_object.specs.History.{own}
use Rattle.vme_object.specs.Each.{Each}
use Rattle.vme_object.proofs.lemmas.Histories.{own-append, reply_at}
use Rattle.vme_port.specs.Passes.{PassView, IsUnused}
use Rattle.vme_port.specs.Calls.{Adds, Makes}
use Rattle.vme_port.specs.Settlements.{Settles, HasPlaceIn}
use Rattle.vme_port.proofs.lemmas.Accounts.{own_all}
use Rattle.vme_port.proofs.lemmas.SharedHistory as Shared
use Rattle.atomic_table.specs.Seated.{TableId}

module _ {C R : Type 0} where
  -- without a call, a pass makes no entry
  pub makes_none : (p : PassView C R) → Makes [] p p
  makes_none p = record {
    port = refl;
    who = refl;
    since = [];
    seen = sym (append-nil p.seen);
    its = refl;
    mine = sym (append-nil p.mine);
    made = omega arith;
  }

  -- over two sequences of calls, a pass makes the entries of the first and then those of the second
  pub makes_more : (a b : List (Entry C R)) (p q r : PassView C R) → Makes a p q → Makes b q r → Makes (a ++ b) p r
  makes_more a b p q r first then = record {
    port = then.port ∙ first.port;
    who = then.who ∙ first.who;
    since = first.since ++ then.since;
    seen = then.seen ∙ ap (λ l. l ++ then.since) first.seen ∙ append_assoc p.seen first.since then.since;
    its =
        let later : own p.who then.since ≡ b = ap (λ w. own w then.since) (sym first.who) ∙ then.its in
        own-append p.who first.since then.since ∙ (λ i. first.its i ++ later i);
    mine = then.mine ∙ ap (λ l. l ++ b) first.mine ∙ append_assoc p.mine a b;
    made = omega (arith, first.made, then.made, length-append a b);
  }

  -- a pass makes the entries that it adds after entries of others
  pub makes_added : (es : List (Entry C R)) (p q : PassView C R) → q.port ≡ p.port → q.who ≡ p.who → (others : List (Entry C R)) → own p.who others ≡ []
      → q.seen ≡ p.seen ++ others ++ es → All (λ e. e.who ≡ p.who) es → q.mine ≡ p.mine ++ es → q.made ≡ p.made + length es → Makes es p q
  makes_added es p q port who others apart seen whose mine made = record {
    port = port;
    who = who;
    since = others ++ es;
    seen = seen ∙ append_assoc p.seen others es;
    its = own-append p.who others es ∙ (λ i. apart i ++ own_all p.who es whose i);
    mine = mine;
    made = made;
  }

module _ {S C R : Type 0} (step : S → C → S × R) (start : S) where
  -- over one call, a pass makes the entries that the call adds
  pub makes_one : (es : List (Entry C R)) (p q : PassView C R) → Adds step start es p q → Makes es p q
  makes_one es p q added = makes_added es p q added.port added.who added.others added.apart added.seen added.whose added.mine added.made

  module _ (k : ℕ) (passes : List (PassView C R)) (object : S) (n : ℕ) (outcome : Settles step start k passes object n) where
    -- the passes of a settled port share its history
    shared : Shared.IsShared k outcome.history passes
    shared = record { known = outcome.known; each_who = outcome.each_who; seen = outcome.seen; sound = outcome.sound; mine = outcome.mine }

    -- each entry that a pass made since has its place in the history
    pub placed : (es : List (Entry C R)) (p q : PassView C R) → Contains passes q → Makes es p q → Each (λ i e. HasPlaceIn step start outcome.history p.seen (p.mine ++ take i es) e) es
    placed es p q there made i d less =
        let at = Shared.own_places k outcome.history passes shared es p q there made i d less in record {
          before = at.before;
          after = at.after;
          place = at.place;
          behind = at.behind;
          only = at.only;
          reply = reply_at step start outcome.history at.before at.after _ outcome.legal at.place;
        }

    -- an unused pass makes exactly its caller's part of the history
    pub part_of_unused : (es : List (Entry C R)) (p q : PassView C R) → Contains passes q → Makes es p q → (port : TableId) (who : ℕ) → IsUnused port who p → own who outcome.history ≡ es
    part_of_unused = Shared.part_of_unused k outcome.history passes shared

    -- the history has as many entries as the passes made together
    pub entries_counted : length outcome.history ≡ sum_by (λ p. length p.mine) passes
    entries_counted = Shared.entries_counted k outcome.history passes shared

    -- each entry of the history was made by some pass
    pub maker_of : (e : Entry C R) → Contains outcome.history e → (p : PassView C R) × Contains passes p × Contains p.mine e
    maker_of = Shared.maker_of k outcome.history passes shared

    -- a property of all entries that passes made holds for the whole history
    pub all_made : (P : Entry C R → Type 0) → All (λ p. All P p.mine) passes → All P outcome.history
    all_made = Shared.all_made k outcome.history passes shared

  -- the place of an entry of a settled port, without its reply
  abbrev own_place : (h seen mine : List (Entry C R)) (e : Entry C R) → HasPlaceIn step start h seen mine e → Shared.IsOwnPlace h seen mine e
  own_place h seen mine e at = record { before = at.before; after = at.after; place = at.place; behind = at.behind; only = at.only }

  -- two entries of one caller that follow the same own entries have the same place
  pub one_place : (h seen seen' mine : List (Entry C R)) (e f : Entry C R) → e.who ≡ f.who → (a : HasPlaceIn step start h seen mine e) → (b : HasPlaceIn step start h seen' mine f)
      → a.before ≡ b.before
  one_place h seen seen' mine e f same a b = Shared.one_place h seen seen' mine e f same (own_place h seen mine e a) (own_place h seen' mine f b)
