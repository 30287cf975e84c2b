-- What is gathered from a settled array is the run of some list of turns.
use Rattle.std.proofs.Common.{◌≡◌, ℕ, zero, suc, ◌+◌, ◌<◌, List, [], ◌∷◌, length, map, Option, Some, All, refl, ap, sym, subst, ◌∙◌, arith, inl, inr, eq-eqb, ne_eqb}
use Rattle.std.specs.Prelude.{slice_set, slice_index_or}
use Rattle.std.proofs.lemmas.Bool.{cases_eq}
use Rattle.std.proofs.lemmas.List.{length-map, length-replicate, get_or_default, ext_get_or}
use Rattle.std.proofs.Math.ListN.{get_or-map}
use Rattle.std.proofs.lemmas.List.Elements.{All-nil, All-cons}
use Rattle.std.proofs.lemmas.Option.{slice_get_cases, get_or_from_slice_get}
use mathlib.Core.Option.{some}
use lib.ListN.{get_elem?}
use Rattle.vme_object.specs.Each.{Each}
use Rattle.vme_object.specs.History.{entry, own, IsLegal}
use Rattle.vme_object.specs.declared.history.Entry.{Entry}
use Rattle.vme_port.specs.Passes.{PassView}
use Rattle.vme_port.specs.declared.home.Home.{Home}
use Rattle.vme_port_array.specs.Parts.{part}
use Rattle.vme_port_array.specs.Settlements.{Settles}
use Rattle.vme_port_array.specs.declared.indexed.Indexed.{Indexed}
use Rattle.vme_core.specs.Calls.{counted_step}
use Rattle.vme_core.specs.CountedStates.{CountedState, fresh_count, IsObjectRun, IsCountedReplay}
use Rattle.vme_explore.specs.Runs.{after_turns}
use Rattle.vme_order.specs.Systems.{Next, system_of, turn_of}
use Rattle.vme_order.specs.Orders.{Leads, IsOrder}
use Rattle.vme_order.specs.ArrayOrders.{opened, call_found, array_call, gathered_at, gathered_from, gathered, IsOneOrderOf, asked_entry, asked_history, IsShown, AreTraces}
use Rattle.vme_core.proofs.lemmas.CountedStates.{run_replays}
use Rattle.vme_order.proofs.lemmas.Lists.{same_lists, All-map}
use Rattle.vme_order.proofs.lemmas.Objects.{PartsAreLegal, AreAnswered, answered}
use Rattle.vme_order.proofs.lemmas.Turns.{order_is_turns}

-- the element at an index within, found in both ways
found_at : {X : Type 0} (xs : List X) (i : ℕ) → i < length xs → (x : X) × (get_elem? xs i ≡ some x) × (slice_index_or xs i x ≡ x)
found_at [] i less = absurd (omega arith)
found_at (x ∷ xs) zero less = (x, refl, refl)
found_at (x ∷ xs) (suc i) less = found_at xs i (omega arith)

module _ {C R : Type 0} where
  -- the entries of one caller in the part of an object are the object's part of the caller's entries
  own_part : (who i : ℕ) (h : List (Entry (Indexed C) R)) → own who (part i h) ≡ part i (own who h)
  own_part who i [] = refl
  own_part who i (e ∷ h) = elim (cases_eq e.cmd.index i) [
    | inl at ↦ elim (cases_eq e.who who) [
      | inl same ↦
          let rest = own_part who i h in
          rw (eq-eqb e.cmd.index i at) (rw (eq-eqb e.who who same)
          (rw (eq-eqb e.cmd.index i at) (ap (λ l. entry e.who e.cmd.cmd e.reply ∷ l) rest)))
      | inr other ↦
          let rest = own_part who i h in
          rw (eq-eqb e.cmd.index i at) (rw (ne_eqb e.who who other) rest)
    ]
    | inr off ↦ elim (cases_eq e.who who) [
      | inl same ↦
          let rest = own_part who i h in
          rw (ne_eqb e.cmd.index i off) (rw (eq-eqb e.who who same) (rw (ne_eqb e.cmd.index i off) rest))
      | inr other ↦
          let rest = own_part who i h in
          rw (ne_eqb e.cmd.index i off) (rw (ne_eqb e.who who other) rest)
    ]
  ]

  -- what was asked for by one caller is what its entries asked for
  own_asked : {D : Type 0} (asked : C → D) (who : ℕ) (h : List (Entry C R))
      → own who (asked_history asked h) ≡ asked_history asked (own who h)
  own_asked asked who [] = refl
  own_asked asked who (e ∷ h) = elim (cases_eq e.who who) [
    | inl same ↦
        let rest = own_asked asked who h in
        rw (eq-eqb e.who who same) (ap (λ l. asked_entry asked e ∷ l) rest)
    | inr other ↦
        let rest = own_asked asked who h in
        rw (ne_eqb e.who who other) rest
  ]

module _ {S C R : Type 0} where
  -- there is an object for each home
  pub gathered_count : (passes : List (PassView (Indexed C) R)) (i : ℕ) (homes : List (Home S))
      → length (gathered_from passes i homes) ≡ length homes
  gathered_count passes i [] = refl
  gathered_count passes i (home ∷ homes) = ap suc (gathered_count passes (suc i) homes)

  -- the object at an index is that of the home there
  pub gathered_is : (passes : List (PassView (Indexed C) R)) (i : ℕ) (homes : List (Home S)) (n : ℕ) (t : CountedState S)
      (home : Home S)
      → get_elem? homes n ≡ some home → n < length homes
      → slice_index_or (gathered_from passes i homes) n t ≡ gathered_at passes (i + n) home
  gathered_is passes i [] n t home at less = absurd (omega arith)
  gathered_is passes i (one ∷ homes) zero t home at less =
      let same : one ≡ home = cc at in
      let sum : i ≡ i + 0 = omega arith in
      λ k. gathered_at passes (sum k) (same k)
  gathered_is passes i (one ∷ homes) (suc n) t home at less =
      let sum : suc i + n ≡ i + suc n = omega arith in
      gathered_is passes (suc i) homes n t home at (omega arith) ∙ ap (λ j. gathered_at passes j home) sum

module _ {S C R : Type 0} (step : S → C → S × R) (starts : List S) (k : ℕ) (passes : List (PassView (Indexed C) R))
    (homes : List (Home S)) (outcome : Settles step starts k passes homes) (whose : Each (λ i p. p.who ≡ i) passes) where
  -- the history has exactly the entries of the pass with a number
  own_calls : Each (λ who p. own who outcome.history ≡ p.mine) passes
  own_calls who p less =
      ap (λ w. own w outcome.history) (sym (whose who p less)) ∙ outcome.mine who p less

  -- the object of a home, with its counts, is the replay of its part
  object_at : (i : ℕ) (start : S) (t : CountedState S) → i < length starts
      → IsCountedReplay step (slice_index_or starts i start) (part i outcome.history) k
      (slice_index_or (gathered passes homes) i t)
  object_at i start t less =
      let at = found_at starts i less in
      let there : i < length homes = omega (arith, less, outcome.ends.count) in
      let home = found_at homes i there in
      let end = outcome.ends.each i at.0 home.0 at.1 home.1 in
      let is : IsCountedReplay step at.0 (part i outcome.history) k (gathered_at passes i home.0) = record {
        legal = outcome.legal i at.0 at.1;
        object = end.0;
        steps = end.1;
        made = λ w w<.
            let here : w < length passes = omega (arith, w<, outcome.all) in
            let p = found_at passes w here in
            get_or-map_at w p.0 here ∙ ap (λ (es : List (Entry (Indexed C) R)). length (part i es)) (sym (own_calls w p.0 here))
            ∙ ap length (sym (own_part w i outcome.history));
      } in
      subst (λ t. IsCountedReplay step (slice_index_or starts i start) (part i outcome.history) k t)
      (sym (gathered_is passes 0 homes i t home.0 home.1 there ∙ ap (λ j. gathered_at passes j home.0) (omega arith)))
      (subst (λ s. IsCountedReplay step s (part i outcome.history) k (gathered_at passes i home.0))
      (sym (get_or_default starts i start at.0 less ∙ at.2)) is)
    where
      get_or-map_at : (w : ℕ) (p : PassView (Indexed C) R) → w < length passes
          → slice_index_or (map (λ (p : PassView (Indexed C) R). length (part i p.mine)) passes) w 0
          ≡ length (part i (slice_index_or passes w p).mine)
      get_or-map_at w p here =
          get_or_default (map (λ (p : PassView (Indexed C) R). length (part i p.mine)) passes) w 0 (length (part i p.mine))
          (omega (arith, here, length-map passes (λ (p : PassView (Indexed C) R). length (part i p.mine))))
          ∙ get_or-map (λ (p : PassView (Indexed C) R). length (part i p.mine)) passes w p

  -- each object counts the entries of each pass
  counts_at : (i : ℕ) (t : CountedState S) → i < length (gathered passes homes)
      → length (slice_index_or (gathered passes homes) i t).made ≡ k
  counts_at i t less =
      let there : i < length homes = omega (arith, less, gathered_count passes 0 homes) in
      let home = found_at homes i there in
      ap (λ (t : CountedState S). length t.made) (gathered_is passes 0 homes i t home.0 home.1 there)
      ∙ length-map passes (λ (p : PassView (Indexed C) R). length (part (0 + i) p.mine)) ∙ outcome.all

  -- the history of a settled array is one order of the calls of all passes
  pub one_order : IsOneOrderOf step starts k passes (gathered passes homes) outcome.history
  one_order = record {
    known = outcome.known;
    within = outcome.within;
    objects = record {
      count = gathered_count passes 0 homes ∙ outcome.ends.count;
      each = object_at;
    };
    counts = counts_at;
    calls = own_calls;
  }

-- an object with its counts is determined by its history
same_counted : {S C R : Type 0} (step : S → C → S × R) (start : S) (h : List (Entry C R)) (k : ℕ) (t u : CountedState S)
    → IsCountedReplay step start h k t → IsCountedReplay step start h k u → length t.made ≡ k → length u.made ≡ k → t ≡ u
same_counted step start h k t u a b long also =
    let object : t.object ≡ u.object = a.object ∙ sym b.object in
    let steps : t.steps ≡ u.steps = a.steps ∙ sym b.steps in
    let made : t.made ≡ u.made =
    ext_get_or 0 t.made u.made (long ∙ sym also)
    (λ w w<. let below : w < k = subst (λ n. w < n) long w< in a.made w below ∙ sym (b.made w below)) in
    λ i. record { object = object i; steps = steps i; made = made i }

module _ {S C R M D : Type 0} (step : S → C → S × R) (act : M → ℕ → D → Option (M × R)) (asked : Indexed C → D)
    (shown : M → List (CountedState S)) (starts : List S) (k : ℕ) (passes : List (PassView (Indexed C) R))
    (objects : List (CountedState S)) (h : List (Entry (Indexed C) R)) (order : IsOneOrderOf step starts k passes objects h)
    (shows : All (IsShown step act asked shown (length starts)) h) (first : M) (opens : shown first ≡ opened k starts) where
  -- there are as many objects as the array was opened with
  opened_count : length (shown first) ≡ length starts
  opened_count = ap length opens ∙ length-map starts (fresh_count k)

  -- an object before the first call
  opened_at : (i : ℕ) (t : CountedState S) (s : S) → i < length starts
      → slice_index_or (shown first) i t ≡ fresh_count k (slice_index_or starts i s)
  opened_at i t s less =
      ap (λ (ts : List (CountedState S)). slice_index_or ts i t) opens
      ∙ get_or_default (opened k starts) i t (fresh_count k s) (omega (arith, less, length-map starts (fresh_count k)))
      ∙ get_or-map (fresh_count k) starts i s

  -- the part of each object is legal from the state that the object opens with
  parts_legal : PartsAreLegal step act asked shown (shown first) h
  parts_legal i t found = elim (slice_get_cases (shown first) i).1 [
    | inl at ↦
        let less : i < length starts = subst (λ n. i < n) opened_count at.1 in
        let start = found_at starts i less in
        let is : fresh_count k (slice_index_or starts i start.0) ≡ t =
        sym (opened_at i t start.0 less) ∙ get_or_from_slice_get (shown first) i t t found in
        subst (λ (t : CountedState S). IsLegal step t.object (part i h)) is (order.objects.each i start.0 t less).legal
    | inr past ↦ absurd (cc (sym found ∙ past.1))
  ]

  -- the objects answer the whole history
  pub all_answered : AreAnswered step act asked shown first h
  all_answered = answered step act asked shown h first (length starts) opened_count order.within shows parts_legal

  -- and then they are those that were gathered
  pub shown_last : shown all_answered.after ≡ objects
  shown_last =
      let count : length (shown all_answered.after) ≡ length starts = all_answered.did.count ∙ opened_count in
      same_lists (shown all_answered.after) objects (count ∙ sym order.objects.count) (λ i u t less.
      let below : i < length starts = subst (λ n. i < n) count less in
      let start = found_at starts i below in
      let s : S = slice_index_or starts i start.0 in
      let went : IsObjectRun step (part i h) (fresh_count k s) (slice_index_or (shown all_answered.after) i u) =
      subst (λ t. IsObjectRun step (part i h) t (slice_index_or (shown all_answered.after) i u)) (opened_at i u start.0 below)
      (all_answered.did.each i u u (subst (λ n. i < n) (sym opened_count) below)) in
      same_counted step s (part i h) k (slice_index_or (shown all_answered.after) i u) (slice_index_or objects i t)
      (run_replays step s (part i h) k (slice_index_or (shown all_answered.after) i u) went)
      (order.objects.each i start.0 t below)
      (went.process_count ∙ length-replicate k 0)
      (order.counts i t (omega (arith, below, order.objects.count))))

  module _ {P : Type 0} (next : ℕ → P → Next D R P) (firsts ends : List P) (all : length passes ≡ k)
      (traces : AreTraces next asked passes firsts ends) where
    -- the history, by what was asked for, is one order of the calls of all processes
    pub asked_order : IsOrder act next (system_of first firsts) (asked_history asked h) (system_of all_answered.after ends)
    asked_order = record {
      known = All-map (λ (e : Entry D R). e.who < length firsts) (asked_entry asked) h
          (subst (λ n. All (λ (e : Entry (Indexed C) R). e.who < n) h) (sym (traces.processes ∙ all)) order.known);
      answers = all_answered.answers;
      leads = record {
        count = traces.ended ∙ sym traces.processes;
        each = λ who a b less.
            let below : who < length passes = subst (λ n. who < n) traces.processes less in
            let p = found_at passes who below in
            subst (λ es. Leads (next who) (slice_index_or firsts who a) es (slice_index_or ends who b))
            (ap (asked_history asked) (sym (order.calls who p.0 below)) ∙ sym (own_asked asked who h))
            (traces.leads who p.0 a b below);
      };
    }

    -- what was gathered is the run of some list of turns
    pub run_of_turns : (turns : List ℕ) × (last : M) × All (λ who. who < k) turns × (shown last ≡ objects)
        × (after_turns (turn_of act next) (system_of first firsts) turns ≡ system_of last ends)
    run_of_turns =
        let run = order_is_turns act next (system_of first firsts) (system_of all_answered.after ends)
        (asked_history asked h) asked_order in
        (run.0, all_answered.after, subst (λ n. All (λ who. who < n) run.0) (traces.processes ∙ all) run.1, shown_last, run.2)

-- what is gathered from a settled array is the run of some list of turns
pub gathered_is_turns : {S C R M D P : Type 0} (step : S → C → S × R) (act : M → ℕ → D → Option (M × R)) (asked : Indexed C → D)
    (shown : M → List (CountedState S)) (next : ℕ → P → Next D R P) (starts : List S) (k : ℕ)
    (passes : List (PassView (Indexed C) R))
    (homes : List (Home S)) (first : M) (firsts ends : List P) (outcome : Settles step starts k passes homes)
    → Each (λ i p. p.who ≡ i) passes → AreTraces next asked passes firsts ends
    → All (IsShown step act asked shown (length starts)) outcome.history → shown first ≡ opened k starts
    → (turns : List ℕ) × (last : M) × All (λ who. who < k) turns × (shown last ≡ gathered passes homes)
    × (after_turns (turn_of act next) (system_of first firsts) turns ≡ system_of last ends)
gathered_is_turns step act asked shown next starts k passes homes first firsts ends outcome whose traces shows opens =
    run_of_turns step act asked shown starts k passes (gathered passes homes) outcome.history
    (one_order step starts k passes homes outcome whose) shows first opens next firsts ends outcome.all traces

-- the objects of an array show themselves
pub shows_itself : {S C R : Type 0} (step : S → C → S × R) (n : ℕ) (history : List (Entry (Indexed C) R))
    → All (IsShown step (array_call step) (λ c. c) (λ objects. objects) n) history
shows_itself step n [] = All-nil (IsShown step (array_call step) (λ c. c) (λ objects. objects) n)
shows_itself step n (e ∷ history) =
    All-cons (IsShown step (array_call step) (λ c. c) (λ objects. objects) n) e history
    (λ objects t count found reply. (
      slice_set objects e.cmd.index (counted_step step t e.who e.cmd.cmd).0,
      ap (call_found step objects e.who e.cmd) found
          ∙ λ i. Some (slice_set objects e.cmd.index (counted_step step t e.who e.cmd.cmd).0, sym reply i),
      refl,
    )) (shows_itself step n history)
