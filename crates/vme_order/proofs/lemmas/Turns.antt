-- One order of the calls of all processes is an order of turns.
use Rattle.std.proofs.Common.{◌≡◌, ◌≢◌, ℕ, zero, suc, ◌+◌, ◌<◌, ◌≤◌, List, [], ◌∷◌, ◌++◌, length, map, Option, Some, All, refl, ap, sym, subst, ◌∙◌, arith, inl, inr, eq-eqb, ne_eqb, length-set}
use Rattle.std.specs.Prelude.{slice_set, slice_index_or}
use Rattle.std.proofs.lemmas.Bool.{cases_eq}
use Rattle.std.proofs.lemmas.List.{get_or_default, get_or-set_same, get_or-set_other}
use Rattle.std.proofs.lemmas.List.Elements.{All-head, All-tail, All-append}
use Rattle.std.proofs.lemmas.Option.{slice_get_cases}
use Rattle.vme_object.specs.Each.{AllAt}
use Rattle.vme_object.specs.History.{own}
use Rattle.vme_object.specs.declared.history.Entry.{Entry}
use Rattle.vme_explore.specs.Runs.{after_turns}
use Rattle.vme_order.specs.Systems.{Next, Ended, SystemOf, system_of, call_taken, next_made, turn_from, turn_of}
use Rattle.vme_order.specs.Orders.{Answers, Leads, IsOrder}
use Rattle.vme_order.proofs.lemmas.Lists.{same_lists, All-map, numbers_from, numbers_below}

-- the entries of the process that makes the first one begin with it
own_first : {D R : Type 0} (e : Entry D R) (h : List (Entry D R)) → own e.who (e ∷ h) ≡ e ∷ own e.who h
own_first e h = rw (eq-eqb e.who e.who refl) refl

-- the entries of another process are among the others
own_other : {D R : Type 0} (who : ℕ) (e : Entry D R) (h : List (Entry D R)) → e.who ≢ who → own who (e ∷ h) ≡ own who h
own_other who e h other = rw (ne_eqb e.who who other) refl

module _ {M D R P : Type 0} (act : M → ℕ → D → Option (M × R)) (next : ℕ → P → Next D R P) where
  -- the entries of each process lead it to its end
  abbrev Ready : List P → List (Entry D R) → List P → Type 0
  Ready ps h ends = AllAt (λ who p end. Leads (next who) p (own who h) end) ps ends

  -- a turn makes the first call of a history, and the others lead all processes to their ends
  record OneTurn (s : SystemOf M P) (e : Entry D R) (h : List (Entry D R)) (mid : M) (ends : List P) : Type 0 where
    then : P
    is : turn_of act next s e.who ≡ system_of mid (slice_set s.processes e.who then)
    ready : Ready (slice_set s.processes e.who then) h ends

  -- the first call of a history is a turn of its process
  one_turn : (s : SystemOf M P) (e : Entry D R) (h : List (Entry D R)) (mid : M) (ends : List P) → e.who < length s.processes
      → act s.objects e.who e.cmd ≡ Some (mid, e.reply) → Ready s.processes (e ∷ h) ends → OneTurn s e h mid ends
  one_turn s e h mid ends there takes ready = elim (slice_get_cases s.processes e.who).1 [
    | inl at ↦
        let all : Leads (next e.who) (slice_index_or s.processes e.who at.0) (own e.who (e ∷ h))
        (slice_index_or ends e.who at.0) =
        ready.each e.who at.0 at.0 there in
        let one : Leads (next e.who) at.0 (e ∷ own e.who h) (slice_index_or ends e.who at.0) =
        subst (λ es. Leads (next e.who) at.0 es (slice_index_or ends e.who at.0)) (own_first e h)
        (subst (λ p. Leads (next e.who) p (own e.who (e ∷ h)) (slice_index_or ends e.who at.0)) at.3 all) in
        let new : P = one.0 e.reply in
        record {
          then = new;
          is =
              ap (turn_from act next s e.who) at.2 ∙ ap (next_made act s e.who) one.1 ∙ ap (call_taken s e.who one.0) takes;
          ready = record {
            count = ready.count ∙ sym (length-set s.processes e.who new);
            each = λ k a b less. elim (cases_eq k e.who) [
              | inl same ↦
                  subst (λ k. Leads (next k) (slice_index_or (slice_set s.processes e.who new) k a) (own k h)
                  (slice_index_or ends k b))
                  (sym same)
                  (subst (λ p. Leads (next e.who) p (own e.who h) (slice_index_or ends e.who b))
                  (sym (get_or-set_same s.processes e.who new a there))
                  (subst (λ end. Leads (next e.who) new (own e.who h) end)
                  (get_or_default ends e.who at.0 b (subst (λ n. e.who < n) (sym ready.count) there)) one.2))
              | inr other ↦
                  let below : k < length s.processes = subst (λ n. k < n) (length-set s.processes e.who new) less in
                  subst (λ p. Leads (next k) p (own k h) (slice_index_or ends k b))
                  (sym (get_or-set_other s.processes e.who k new a other))
                  (subst (λ es. Leads (next k) (slice_index_or s.processes k a) es (slice_index_or ends k b))
                  (own_other k e h (λ same. other (sym same))) (ready.each k a b below))
            ];
          };
        }
    | inr past ↦ absurd (omega (arith, past.0, there))
  ]

  -- turns make all calls of a history, and then each process has ended
  record AllTurns (s : SystemOf M P) (h : List (Entry D R)) (n : M) (ends : List P) : Type 0 where
    states : List P
    is : after_turns (turn_of act next) s (map (λ e. e.who) h) ≡ system_of n states
    count : length states ≡ length s.processes
    ready : Ready states [] ends

  -- a history is as many turns
  all_turns : (h : List (Entry D R)) (s : SystemOf M P) (n : M) (ends : List P) → All (λ e. e.who < length s.processes) h
      → Answers act s.objects h n → Ready s.processes h ends → AllTurns s h n ends
  all_turns [] s n ends known answers ready =
      record { states = s.processes; is = λ i. system_of (answers i) s.processes; count = refl; ready = ready }
  all_turns (e ∷ h) s n ends known answers ready =
      let below = λ (e : Entry D R). e.who < length s.processes in
      let one = one_turn s e h answers.0 ends (All-head below e h known) answers.1 ready in
      let s' = system_of answers.0 (slice_set s.processes e.who one.then) in
      let longer : length s'.processes ≡ length s.processes = length-set s.processes e.who one.then in
      let rest = all_turns h s' n ends
      (subst (λ m. All (λ (e : Entry D R). e.who < m) h) (sym longer) (All-tail below e h known)) answers.2 one.ready in
      record {
        states = rest.states;
        is = ap (λ w. after_turns (turn_of act next) w (map (λ (e : Entry D R). e.who) h)) one.is ∙ rest.is;
        count = rest.count ∙ longer;
        ready = rest.ready;
      }

  -- the processes below i have recorded their ends, and the others have no call left
  record Ending (i : ℕ) (ps ends : List P) : Type 0 where
    count : length ends ≡ length ps
    done : (k : ℕ) (a b : P) → k < i → k < length ps → slice_index_or ps k a ≡ slice_index_or ends k b
    left : (k : ℕ) (a b : P) → i ≤ k → k < length ps → next k (slice_index_or ps k a) ≡ Ended (slice_index_or ends k b)

  -- one last turn of each process records its end
  last_turns : (n i : ℕ) (m : M) (ps ends : List P) → i + n ≡ length ps → Ending i ps ends
      → after_turns (turn_of act next) (system_of m ps) (numbers_from i n) ≡ system_of m ends
  last_turns zero i m ps ends sum ending =
      ap (system_of m) (same_lists ps ends (sym ending.count) (λ k a b less. ending.done k a b (omega arith) less))
  last_turns (suc n) i m ps ends sum ending = elim (slice_get_cases ps i).1 [
    | inl at ↦
        let end : P = slice_index_or ends i at.0 in
        let ends_now : next i at.0 ≡ Ended end =
        subst (λ p. next i p ≡ Ended end) at.3 (ending.left i at.0 at.0 (omega arith) at.1) in
        let one : turn_of act next (system_of m ps) i ≡ system_of m (slice_set ps i end) =
        ap (turn_from act next (system_of m ps) i) at.2 ∙ ap (next_made act (system_of m ps) i) ends_now in
        let rest = last_turns n (suc i) m (slice_set ps i end) ends (omega (arith, length-set ps i end, sum)) (record {
          count = ending.count ∙ sym (length-set ps i end);
          done = λ k a b less there. elim (cases_eq k i) [
            | inl same ↦
                subst (λ k. slice_index_or (slice_set ps i end) k a ≡ slice_index_or ends k b) (sym same)
                (get_or-set_same ps i end a at.1 ∙ get_or_default ends i at.0 b (subst (λ n. i < n) (sym ending.count) at.1))
            | inr other ↦
                get_or-set_other ps i k end a other
                ∙ ending.done k a b (omega arith) (omega (arith, length-set ps i end, there))
          ];
          left = λ k a b least there.
              subst (λ p. next k p ≡ Ended (slice_index_or ends k b)) (sym (get_or-set_other ps i k end a (λ same. omega arith)))
              (ending.left k a b (omega arith) (omega (arith, length-set ps i end, there)));
        }) in
        ap (λ w. after_turns (turn_of act next) w (numbers_from (suc i) n)) one ∙ rest
    | inr past ↦ absurd (omega (arith, past.0, sum))
  ]

  -- consecutive turns are one list of turns
  turns_append : (s : SystemOf M P) (a b : List ℕ)
      → after_turns (turn_of act next) s (a ++ b) ≡ after_turns (turn_of act next) (after_turns (turn_of act next) s a) b
  turns_append s [] b = refl
  turns_append s (who ∷ a) b = turns_append (turn_of act next s who) a b

  -- one order of the calls of all processes is a run of turns
  pub order_is_turns : (before after : SystemOf M P) (h : List (Entry D R)) → IsOrder act next before h after
      → (turns : List ℕ) × All (λ who. who < length before.processes) turns
      × (after_turns (turn_of act next) before turns ≡ after)
  order_is_turns before after h order =
      let k = length before.processes in
      let made = all_turns h before after.objects after.processes order.known order.answers order.leads in
      let first : List ℕ = map (λ (e : Entry D R). e.who) h in
      let last : List ℕ = numbers_from 0 k in
      let ending : Ending 0 made.states after.processes = record {
        count = made.ready.count;
        done = λ k a b less. absurd (omega arith);
        left = λ k a b least less. made.ready.each k a b less;
      } in (
        first ++ last,
        All-append (λ who. who < k) first last (All-map (λ who. who < k) (λ (e : Entry D R). e.who) h order.known)
            (numbers_below 0 k k (omega arith)),
        turns_append before first last ∙ ap (λ w. after_turns (turn_of act next) w last) made.is
            ∙ last_turns k 0 after.objects made.states after.processes (omega (arith, made.count)) ending,
      )
