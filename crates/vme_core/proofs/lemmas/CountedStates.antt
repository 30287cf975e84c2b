-- Runs of one object compose.
use Rattle.std.proofs.Common.{ℕ, ◌+◌, ◌<◌, List, [], ◌++◌, length, refl, arith, ap, sym, subst, ◌∙◌, length-append}
use Rattle.std.proofs.lemmas.List.{length-replicate, get_or-replicate}
use Rattle.vme_object.specs.declared.history.Entry.{Entry}
use Rattle.vme_object.specs.History.{IsLegal, replay, own}
use Rattle.vme_object.proofs.lemmas.Histories.{replay-append, legal-append, own-append}
use Rattle.vme_core.specs.CountedStates.{CountedState, IsObjectRun, IsCountedReplay, fresh_count}

-- an object that takes no command went through the empty history
pub went_nil : {S C R : Type 0} (step : S → C → S × R) (t : CountedState S) → IsObjectRun step [] t t
went_nil step t = record { legal = tt; object = refl; steps = omega arith; process_count = refl; made = λ w w<. omega arith }

-- consecutive histories of an object are one history
pub went_trans :
    {S C R : Type 0} (step : S → C → S × R) (g h : List (Entry C R)) (t u v : CountedState S) → IsObjectRun step g t u → IsObjectRun step h u v
    → IsObjectRun step (g ++ h) t v
went_trans step g h t u v first then = record {
  legal = legal-append step t.object g h first.legal (subst (λ s. IsLegal step s h) first.object then.legal);
  object = then.object ∙ ap (λ s. replay step s h) first.object ∙ sym (replay-append step t.object g h);
  steps = let one = first.steps in let two = then.steps in rw (length-append g h) (omega arith);
  process_count = then.process_count ∙ first.process_count;
  made = λ w w<.
      let one = first.made w w< in
      let two = then.made w (subst (λ n. w < n) (sym first.process_count) w<) in
      rw (own-append w g h) (rw (length-append (own w g) (own w h)) (omega arith));
}

-- an object that went through a history from its first step is the replay of that history
pub run_replays :
    {S C R : Type 0} (step : S → C → S × R) (start : S) (h : List (Entry C R)) (k : ℕ) (t : CountedState S) → IsObjectRun step h (fresh_count k start) t
    → IsCountedReplay step start h k t
run_replays step start h k t went = record {
  legal = went.legal;
  object = went.object;
  steps = let all = went.steps in omega arith;
  made = λ w w<.
      went.made w (rw (length-replicate {A = ℕ} k 0) w<)
      ∙ ap (λ n. n + length (own w h)) (get_or-replicate k w 0 0 w<)
      ∙ omega arith;
}
