-- Passes that share one history, and the places of their entries in it.
use Rattle.std.proofs.Common.{ℕ, ◌≡◌, ◌<◌, ◌==◌, List, ◌∷◌, ◌++◌, length, map, take, slice_index_or, All, Contains, refl, ap, sym, ◌∙◌, subst, append_assoc}
use Rattle.std.proofs.lemmas.List.{append_cancel_right}
use Rattle.std.specs.List.{sum_by, count_by}
use Rattle.std.proofs.lemmas.List.Elements.{All-contains, Contains-get_or}
use Rattle.vme_object.specs.declared.history.Entry.{Entry}
use Rattle.vme_object.specs.History.{own, IsPrefix}
use Rattle.vme_object.specs.Each.{Each}
use Rattle.vme_object.proofs.lemmas.Histories.{own-append}
use Rattle.vme_port.specs.Passes.{PassView, IsUnused, account_of}
use Rattle.vme_port.specs.Calls.{Makes}
use Rattle.vme_port.proofs.lemmas.Shares.{mine_owned, named_passes, owned_once}
use Rattle.vme_port.proofs.lemmas.Places.{IsPlaceOf, place_of, same_place, own_contains, pass_of_who}
use Rattle.atomic_table.specs.Seated.{TableId}

-- passes, one for each number below k, share a history: each has seen a prefix of it, and made and seen all its own entries there
pub record IsShared {C R : Type 0} (k : ℕ) (h : List (Entry C R)) (passes : List (PassView C R)) : Type 0 where
  pub known : All (λ e. e.who < k) h
  pub each_who : (who : ℕ) → who < k → count_by (λ p. p.who == who) passes ≡ 1
  pub seen : All (λ p. IsPrefix p.seen h) passes
  pub sound : All (λ p. own p.who p.seen ≡ p.mine) passes
  pub mine : All (λ p. own p.who h ≡ p.mine) passes

-- an entry has its place in a history: after all that its caller had seen, and after exactly the entries `mine` of its caller
pub record IsOwnPlace {C R : Type 0} (h seen mine : List (Entry C R)) (e : Entry C R) : Type 0 where
  pub before : List (Entry C R)
  pub after : List (Entry C R)
  pub place : h ≡ before ++ e ∷ after
  pub behind : IsPrefix seen before
  pub only : own e.who before ≡ mine

module _ {C R : Type 0} where
  module _ (k : ℕ) (h : List (Entry C R)) (passes : List (PassView C R)) (shared : IsShared k h passes) where
    module _ (es : List (Entry C R)) (p q : PassView C R) (there : Contains passes q) (made : Makes es p q) where
      -- what the pass has seen is a prefix of the history
      begins : IsPrefix q.seen h
      begins = All-contains (λ (p : PassView C R). IsPrefix p.seen h) passes q shared.seen there

      -- the own entries in what the pass had seen are those that it had made
      sound_before : own p.who p.seen ≡ p.mine
      sound_before =
          let sound : own q.who q.seen ≡ q.mine = All-contains (λ (p : PassView C R). own p.who p.seen ≡ p.mine) passes q shared.sound there in
          let both : own p.who p.seen ++ es ≡ p.mine ++ es =
          ap (λ l. own p.who p.seen ++ l) (sym made.its) ∙ sym (own-append p.who p.seen made.since) ∙ ap (own p.who) (sym made.seen)
          ∙ ap (λ w. own w q.seen) (sym made.who) ∙ sound ∙ made.mine in
          append_cancel_right (own p.who p.seen) p.mine es both

      -- an entry with a place in what the pass has seen since has its place in the history
      stands : (mine : List (Entry C R)) (e : Entry C R) → IsPlaceOf p.who made.since mine e → IsOwnPlace h p.seen (p.mine ++ mine) e
      stands mine e at =
          let before : List (Entry C R) = p.seen ++ at.before in record {
            before = before;
            after = at.after ++ begins.0;
            place = begins.1 ∙ ap (λ l. l ++ begins.0) (made.seen ∙ ap (λ l. p.seen ++ l) at.place ∙ sym (append_assoc p.seen at.before (e ∷ at.after)))
                ∙ append_assoc before (e ∷ at.after) begins.0;
            behind = (at.before, refl);
            only = ap (λ w. own w before) at.whose ∙ own-append p.who p.seen at.before ∙ (λ i. sound_before i ++ at.only i);
          }

      -- each entry that a pass made since has its place in the history
      pub own_places : Each (λ i e. IsOwnPlace h p.seen (p.mine ++ take i es) e) es
      own_places i d less =
          subst (λ l. i < length l → IsOwnPlace h p.seen (p.mine ++ take i l) (slice_index_or l i d)) made.its
          (λ within. stands (take i (own p.who made.since)) (slice_index_or (own p.who made.since) i d) (place_of p.who made.since i d within)) less

      -- an unused pass makes exactly its caller's part of the history
      pub part_of_unused : (port : TableId) (who : ℕ) → IsUnused port who p → own who h ≡ es
      part_of_unused port who unused =
          ap (λ w. own w h) (sym unused.who ∙ sym made.who) ∙ All-contains (λ (p : PassView C R). own p.who h ≡ p.mine) passes q shared.mine there
          ∙ made.mine ∙ ap (λ l. l ++ es) unused.mine

    -- the history has as many entries as the passes made together
    pub entries_counted : length h ≡ sum_by (λ p. length p.mine) passes
    entries_counted =
        let one = owned_once k (map account_of passes) h (λ who below. sym (named_passes who passes) ∙ shared.each_who who below) shared.known in
        sym one ∙ sym (mine_owned h passes shared.mine)

    -- each entry of the history was made by some pass
    pub maker_of : (e : Entry C R) → Contains h e → (p : PassView C R) × Contains passes p × Contains p.mine e
    maker_of e there =
        let below : e.who < k = All-contains (λ (e : Entry C R). e.who < k) h e shared.known there in
        let found = pass_of_who e.who passes (shared.each_who e.who below) in
        let p : PassView C R = found.0 in
        let mine : own p.who h ≡ p.mine = All-contains (λ (p : PassView C R). own p.who h ≡ p.mine) passes p shared.mine found.1 in
        let its : own e.who h ≡ p.mine = ap (λ w. own w h) (sym found.2) ∙ mine in
        (p, found.1, subst (λ l. Contains l e) its (own_contains h e there))

    -- a property of all entries that passes made holds for the whole history
    pub all_made : (P : Entry C R → Type 0) → All (λ p. All P p.mine) passes → All P h
    all_made P each i d less =
        let e : Entry C R = slice_index_or h i d in
        let maker = maker_of e (Contains-get_or h i d less) in
        All-contains P maker.0.mine e (All-contains (λ (p : PassView C R). All P p.mine) passes maker.0 each maker.1) maker.2

  -- two entries of one caller that follow the same own entries have the same place
  pub one_place : (h seen seen' mine : List (Entry C R)) (e f : Entry C R) → e.who ≡ f.who → (a : IsOwnPlace h seen mine e) → (b : IsOwnPlace h seen' mine f)
      → a.before ≡ b.before
  one_place h seen seen' mine e f same a b =
      same_place e.who a.before b.before e f a.after b.after (sym a.place ∙ b.place) refl (sym same)
      (a.only ∙ sym b.only ∙ ap (λ w. own w b.before) (sym same))
