-- The objects of an array answer each history in which the part of each object is legal.
use Rattle.std.proofs.Common.{◌≡◌, ◌≢◌, ℕ, ◌<◌, List, [], ◌∷◌, length, Option, Some, All, refl, ap, sym, subst, ◌∙◌, arith, inl, inr, ne_eqb, length-set}
use Rattle.std.specs.Prelude.{slice_get, slice_set, slice_index_or}
use Rattle.std.proofs.lemmas.Bool.{cases_eq}
use Rattle.std.proofs.lemmas.List.{get_or-set_same, get_or-set_other}
use Rattle.std.proofs.lemmas.List.Elements.{All-head, All-tail}
use Rattle.std.proofs.lemmas.Option.{same_Some, slice_get-get_or, slice_get_past, slice_get_cases}
use Rattle.vme_object.specs.Each.{AllAt}
use Rattle.vme_object.specs.History.{entry, IsLegal}
use Rattle.vme_object.specs.declared.history.Entry.{Entry}
use Rattle.vme_port_array.specs.Parts.{part}
use Rattle.vme_port_array.specs.declared.indexed.Indexed.{Indexed}
use Rattle.vme_core.specs.Calls.{counted_step}
use Rattle.vme_core.specs.CountedStates.{CountedState, IsObjectRun}
use Rattle.vme_order.specs.Orders.{Answers}
use Rattle.vme_order.specs.ArrayOrders.{asked_history, IsShown}
use Rattle.vme_object.proofs.lemmas.Eachs.{AllAt-same, AllAt-set, AllAt-trans}
use Rattle.vme_port_array.proofs.lemmas.Parts.{part-append, part_first}
use Rattle.vme_core.proofs.lemmas.Calls.{counted_went}
use Rattle.vme_core.proofs.lemmas.CountedStates.{went_nil, went_trans}

-- an entry of another object is not in the part of the object
part_else : {C R : Type 0} (i : ℕ) (e : Entry (Indexed C) R) (h : List (Entry (Indexed C) R)) → e.cmd.index ≢ i
    → part i (e ∷ h) ≡ part i h
part_else i e h other = rw (ne_eqb e.cmd.index i other) refl

-- an element that was written is read at its index
written_here : {X : Type 0} (xs : List X) (i : ℕ) (new : X) → i < length xs → slice_get (slice_set xs i new) i ≡ Some new
written_here xs i new less =
    slice_get-get_or (slice_set xs i new) i new (subst (λ n. i < n) (sym (length-set xs i new)) less)
    ∙ ap Some (get_or-set_same xs i new new less)

-- a write leaves each other element as it was
written_else : {X : Type 0} (xs : List X) (i j : ℕ) (new : X) → j ≢ i → slice_get (slice_set xs i new) j ≡ slice_get xs j
written_else xs i j new apart = elim (slice_get_cases xs j).1 [
  | inl at ↦
      slice_get-get_or (slice_set xs i new) j at.0 (subst (λ n. j < n) (sym (length-set xs i new)) at.1)
      ∙ ap Some (get_or-set_other xs i j new at.0 apart ∙ at.3) ∙ sym at.2
  | inr past ↦ slice_get_past (slice_set xs i new) j (omega (arith, past.0, length-set xs i new)) ∙ sym past.1
]

module _ {S C R M D : Type 0} (step : S → C → S × R) (act : M → ℕ → D → Option (M × R)) (asked : Indexed C → D)
    (shown : M → List (CountedState S)) where
  -- the part of each object in a history is legal from the object's state
  abbrev pub PartsAreLegal : List (CountedState S) → List (Entry (Indexed C) R) → Type 0
  PartsAreLegal objects h = (i : ℕ) (t : CountedState S) → slice_get objects i ≡ Some t → IsLegal step t.object (part i h)

  -- the objects answer a history, and each goes through its own part
  pub record AreAnswered (m : M) (h : List (Entry (Indexed C) R)) : Type 0 where
    -- the state of the objects behind the history
    pub after : M
    -- they answer what was asked
    pub answers : Answers act m (asked_history asked h) after
    -- each object went through its part
    pub did : AllAt (λ i t u. IsObjectRun step (part i h) t u) (shown m) (shown after)

  -- after the first call of a history, the parts of the others are legal
  rest_legal : (objects : List (CountedState S)) (e : Entry (Indexed C) R) (h : List (Entry (Indexed C) R)) (t : CountedState S)
      → e.cmd.index < length objects → slice_get objects e.cmd.index ≡ Some t → PartsAreLegal objects (e ∷ h)
      → PartsAreLegal (slice_set objects e.cmd.index (counted_step step t e.who e.cmd.cmd).0) h
  rest_legal objects e h t there at legal y u found =
      let i : ℕ = e.cmd.index in
      let new : CountedState S = (counted_step step t e.who e.cmd.cmd).0 in
      elim (cases_eq y i) [
        | inl same ↦
            let first : IsLegal step t.object (entry e.who e.cmd.cmd e.reply ∷ part i h) =
            subst (IsLegal step t.object) (part_first e h) (legal i t at) in
            let here : new ≡ u =
            same_Some new u (sym (written_here objects i new there) ∙ ap (slice_get (slice_set objects i new)) (sym same)
            ∙ found) in
            subst (λ y. IsLegal step u.object (part y h)) (sym same)
            (subst (λ (u : CountedState S). IsLegal step u.object (part i h)) here first.1)
        | inr other ↦
            subst (IsLegal step u.object) (part_else y e h (λ same. other (sym same)))
            (legal y u (sym (written_else objects i y new other) ∙ found))
      ]

  -- one call is the first entry of its object's part, and of no other
  one_did : (objects : List (CountedState S)) (e : Entry (Indexed C) R) (t : CountedState S) → e.cmd.index < length objects
      → slice_index_or objects e.cmd.index t ≡ t → e.reply ≡ (step t.object e.cmd.cmd).1
      → AllAt (λ i t u. IsObjectRun step (part i (e ∷ [])) t u) objects
      (slice_set objects e.cmd.index (counted_step step t e.who e.cmd.cmd).0)
  one_did objects e t there at reply =
      let i : ℕ = e.cmd.index in
      let new : CountedState S = (counted_step step t e.who e.cmd.cmd).0 in
      AllAt-set (λ i t u. IsObjectRun step (part i (e ∷ [])) t u) objects i t new there
      (subst (λ (o : CountedState S). IsObjectRun step (part i (e ∷ [])) o new) (sym at)
      (subst (λ es. IsObjectRun step es t new) (sym (part_first e []))
      (subst (λ (r : R). IsObjectRun step (entry e.who e.cmd.cmd r ∷ []) t new) (sym reply)
      (counted_went step t e.who e.cmd.cmd))))
      (λ k x other. subst (λ es. IsObjectRun step es x x) (sym (part_else k e [] (λ same. other (sym same)))) (went_nil step x))

  -- a history in which each part is legal is answered
  pub answered : (h : List (Entry (Indexed C) R)) (m : M) (k : ℕ) → length (shown m) ≡ k → All (λ e. e.cmd.index < k) h
      → All (IsShown step act asked shown k) h → PartsAreLegal (shown m) h → AreAnswered m h
  answered [] m k count within shows legal = record {
    after = m;
    answers = refl;
    did = AllAt-same (λ i t u. IsObjectRun step [] t u) (shown m) (λ i t. went_nil step t);
  }
  answered (e ∷ h) m k count within shows legal = elim (slice_get_cases (shown m) e.cmd.index).1 [
    | inl at ↦
        let i : ℕ = e.cmd.index in
        let t : CountedState S = at.0 in
        let new : CountedState S = (counted_step step t e.who e.cmd.cmd).0 in
        let first : IsLegal step t.object (entry e.who e.cmd.cmd e.reply ∷ part i h) =
        subst (IsLegal step t.object) (part_first e h) (legal i t at.2) in
        let one = All-head (IsShown step act asked shown k) e h shows m t count at.2 first.0 in
        let n : M = one.0 in
        let rest : AreAnswered n h =
        answered h n k (ap length one.2 ∙ length-set (shown m) i new ∙ count)
        (All-tail (λ (e : Entry (Indexed C) R). e.cmd.index < k) e h within)
        (All-tail (IsShown step act asked shown k) e h shows)
        (subst (λ objects. PartsAreLegal objects h) (sym one.2) (rest_legal (shown m) e h t at.1 at.2 legal)) in
        record {
          after = rest.after;
          answers = (n, one.1, rest.answers);
          did = AllAt-trans (λ i t u. IsObjectRun step (part i (e ∷ [])) t u) (λ i t u. IsObjectRun step (part i h) t u)
              (λ i t u. IsObjectRun step (part i (e ∷ h)) t u) (shown m) (shown n) (shown rest.after)
              (λ i t u v one then. subst (λ es. IsObjectRun step es t v) (sym (part-append i (e ∷ []) h))
              (went_trans step (part i (e ∷ [])) (part i h) t u v one then))
              (subst (AllAt (λ i t u. IsObjectRun step (part i (e ∷ [])) t u) (shown m)) (sym one.2)
              (one_did (shown m) e t at.1 at.3 first.0))
              rest.did;
        }
    | inr past ↦
        let less = All-head (λ (e : Entry (Indexed C) R). e.cmd.index < k) e h within in
        absurd (omega (arith, past.0, less, count))
  ]
