-- Passes are joined from the last to the first.
use Rattle.std.proofs.Common.{◌≡◌, false, List, [], ◌∷◌, ◌++◌, map, All, ap, ◌∙◌, append_assoc}
use Rattle.std.proofs.lemmas.List.Elements.{All-cons, All-nil}
use Rattle.atomic_table.specs.Table.{Me}
use Rattle.vme_port.specs.declared.rule.SeatView.{SeatView}
use Rattle.vme_port.specs.declared.home.Home.{Home}
use Rattle.vme_port.specs.Views.{view}
use Rattle.vme_port.specs.Steps.{joint_view}
use Rattle.vme_port.specs.Passes.{PassView, account_of, IsCounted}

module _ {S C R : Type 0} where
  -- the seat has the accounts of all passes that are no longer in `left`
  pub record IsGathered (all left : List (PassView C R)) (m : Me (Home S) (SeatView C R)) : Type 0 where
    pub done : List (PassView C R)
    pub split : all ≡ left ++ done
    pub joined : m ≡ (view (map account_of done) false, [])
    pub counted : All IsCounted done

  -- the seat of the last pass is gathered
  pub first_joined : (all left : List (PassView C R)) (p : PassView C R) (m : Me (Home S) (SeatView C R)) → all ≡ left ++ p ∷ []
      → m ≡ (view (account_of p ∷ []) false, []) → IsCounted p → IsGathered all left m
  first_joined all left p m split alone counted = record { done = p ∷ []; split = split; joined = alone; counted = All-cons IsCounted p [] counted (All-nil IsCounted) }

  -- a gathered seat that joins one more pass is gathered
  pub next_joined : (all rest left : List (PassView C R)) (p : PassView C R) (m n m' : Me (Home S) (SeatView C R)) → IsGathered all rest m → rest ≡ left ++ p ∷ []
      → n ≡ (view (account_of p ∷ []) false, []) → IsCounted p → m' ≡ (joint_view m.0 n.0, m.1) → IsGathered all left m'
  next_joined all rest left p m n m' was split alone counted after = record {
    done = p ∷ was.done;
    split = was.split ∙ ap (λ l. l ++ was.done) split ∙ append_assoc left (p ∷ []) was.done;
    joined = after ∙ λ i. (joint_view (was.joined i).0 (alone i).0, (was.joined i).1);
    counted = All-cons IsCounted p was.done counted was.counted;
  }
