-- Each row of the protocol keeps the mailbox and leads its master to the next phase.
use Rattle.std.proofs.Common.{◌≡◌, ℕ, ◌+◌, ◌-◌, ◌%◌, ◌^◌, ◌≤◌, ◌<◌, ◌⊎◌, true, List, [], ◌∷◌, ◌++◌, length, take, get_or, slice_range, refl, ap, sym, ◌∙◌, subst, arith, inl, inr, Some}
use Rattle.std.specs.Prelude.{not, if◌then◌else◌, nat_le, ◌==◌, ◌&&◌}
use Rattle.std.proofs.lemmas.Bool.{cases_Bool, and_parts, eqb-true, eqb-false, ltb-true, cases_lt, not-true}
use Rattle.std.proofs.lemmas.List.{append-nil, length_push, get_or_push, get_or_append_left, take-append-le, take_more}
use Rattle.vme_cycle.specs.Functions.{with_top_bit}
use Rattle.vme_memory.specs.Boards.{bytes_after_write}
use Rattle.vme_shared.specs.MailboxSteps.{BoardMailbox, lock_at, put_count_at, take_count_at, word_at}
use Rattle.vme_shared.specs.Phases.{Phase, Idle, Locked, First, Both, Written, Fetched, Counted, Access, Sets, Reads, Writes, has_space, is_unlock, next_phase}
use Rattle.vme_shared.specs.Words.{put_by, taken_by}
use Rattle.vme_shared.proofs.lemmas.Bytes.{number_in, number_new, number_apart}
use Rattle.vme_shared.proofs.lemmas.Places.{word_within, words_apart}
use Rattle.vme_shared.proofs.lemmas.MailboxSteps.{Did}
use Rattle.vme_shared.proofs.lemmas.Kept.{Kept, IsHeld, Stands, kept_same, lock_set, lock_written, reached_is}

-- the words after an access, with the conditions of the mailbox and of the master's next phase
pub record Went (m : BoardMailbox) (after put taken : List ℕ) (phase next : Phase) : Type 0 where
  pub puts : List ℕ
  pub takes : List ℕ
  pub put_is : puts ≡ put ++ put_by (Some phase) (Some next)
  pub taken_is : takes ≡ taken ++ taken_by (Some phase) (Some next)
  pub kept : Kept m after puts takes
  pub stands : Stands m after puts takes next

-- an access that puts and takes no word leaves the words the same
pub same_words : (m : BoardMailbox) (after put taken : List ℕ) (phase next : Phase) → put_by (Some phase) (Some next) ≡ []
    → taken_by (Some phase) (Some next) ≡ [] → Kept m after put taken → Stands m after put taken next → Went m after put taken phase next
same_words m after put taken phase next no_put no_taken kept stands = record {
  puts = put;
  takes = taken;
  put_is = rw no_put (sym (append-nil put));
  taken_is = rw no_taken (sym (append-nil taken));
  kept = kept;
  stands = stands;
}

module _ (m : BoardMailbox) (some : 1 ≤ m.slots) (bytes after put taken : List ℕ) where
  -- in the idle phase, a lock that is set was free, and is taken then
  row_lock : (at len old : ℕ) → at ≡ lock_at m → len ≡ 1 → Kept m bytes put taken → Stands m bytes put taken Idle → Did bytes (Sets at len old) after
      → (old ≡ 0) × IsHeld m after × Kept m after put taken
  row_lock at len old here one kept stands did =
      let is_zero : old ≡ 0 = did.0 ∙ ap (λ a. number_in bytes a len) here ∙ ap (λ l. number_in bytes (lock_at m) l) one ∙ stands in
      let within : lock_at m + 1 ≤ length bytes = let w = did.1 in omega arith in
      let set = lock_set m bytes some within (inl stands) in
      let is : after ≡ bytes_after_write bytes (lock_at m) (with_top_bit (slice_range bytes (lock_at m) (lock_at m + 1))) =
      did.2 ∙ ap (λ a. bytes_after_write bytes a (with_top_bit (slice_range bytes a (a + len)))) here
      ∙ ap (λ l. bytes_after_write bytes (lock_at m) (with_top_bit (slice_range bytes (lock_at m) (lock_at m + l)))) one in
      (is_zero, rw is set.0, rw is (kept_same m bytes _ put taken set.1 kept))

  -- a write that releases the lock leads to the idle phase
  row_unlock : (phase : Phase) (at len number : ℕ) → is_unlock m at len number ≡ true → put_by (Some phase) (Some Idle) ≡ []
      → taken_by (Some phase) (Some Idle) ≡ [] → Kept m bytes put taken → Did bytes (Writes at len number) after → Went m after put taken phase Idle
  row_unlock phase at len number unlocks no_put no_taken kept (new, long, number_is, within, is) =
      let all = and_parts _ _ unlocks in
      let first = and_parts _ _ all.0 in
      let here : at ≡ lock_at m = eqb-true _ _ first.0 in
      let one : len ≡ 1 = eqb-true _ _ first.1 in
      let zero_written : number ≡ 0 = eqb-true _ _ all.1 in
      let inside : lock_at m + 1 ≤ length bytes = omega arith in
      let written = lock_written m bytes new some inside (long ∙ one) in
      let is_there : after ≡ bytes_after_write bytes (lock_at m) new = is ∙ ap (λ a. bytes_after_write bytes a new) here in
      same_words m after put taken phase Idle no_put no_taken (rw is_there (kept_same m bytes _ put taken written.1 kept))
      (rw is_there (written.0 ∙ number_is ∙ zero_written))

  -- a write of the next word to its slot, which is free, leads to the phase with the word written
  row_word : (p t at len x : ℕ) → at ≡ word_at m p → len ≡ 4 → has_space m p t ≡ true → Kept m bytes put taken → Stands m bytes put taken (Both p t)
      → Did bytes (Writes at len x) after → Went m after put taken (Both p t) (Written p x)
  row_word p t at len x here four buffer kept (held, p_is, t_is) (new, long, number_is, within, is) =
      let parts = and_parts _ _ buffer in
      let below : p < 2 ^ 32 - 1 = ltb-true _ _ parts.0 in
      let near : (p + 2 ^ 32 - t) % 2 ^ 32 < m.slots = ltb-true _ _ parts.1 in
      let ahead = kept.ahead in
      let free : p < length taken + m.slots = omega arith in
      let place = word_within m p some in
      let inside : word_at m p + length new ≤ length bytes = omega arith in
      let is_there : after ≡ bytes_after_write bytes (word_at m p) new = is ∙ ap (λ a. bytes_after_write bytes a new) here in
      let kept_after : Kept m (bytes_after_write bytes (word_at m p) new) put taken = record {
        put_count = number_apart bytes new (word_at m p) (put_count_at m) 4 inside (inl (omega arith)) ∙ kept.put_count;
        take_count = number_apart bytes new (word_at m p) (take_count_at m) 4 inside (inl (omega arith)) ∙ kept.take_count;
        small = kept.small;
        prefix = kept.prefix;
        ahead = kept.ahead;
        few = kept.few;
        words = λ n d from less.
            let long_new : length new ≡ 4 = long ∙ four in
            let apart : (word_at m n + 4 ≤ word_at m p) ⊎ (word_at m p + 4 ≤ word_at m n) = words_apart m n p (omega arith) (omega arith) in
            number_apart bytes new (word_at m p) (word_at m n) 4 inside (subst (λ l. (word_at m n + 4 ≤ word_at m p) ⊎ (word_at m p + l ≤ word_at m n)) (sym long_new) apart)
            ∙ kept.words n d from less;
      } in
      same_words m after put taken (Both p t) (Written p x) refl refl (rw is_there kept_after)
      (rw is_there (
        number_apart bytes new (word_at m p) (lock_at m) 1 inside (inl (omega arith)) ∙ held,
        p_is,
        below,
        free,
        number_new bytes new (word_at m p) 4 (omega arith) (long ∙ four) ∙ number_is,
      ))

  -- a write of the put count plus one puts the word
  row_put : (p x at len number : ℕ) → at ≡ put_count_at m → len ≡ 4 → number ≡ p + 1 → Kept m bytes put taken → Stands m bytes put taken (Written p x)
      → Did bytes (Writes at len number) after → Went m after put taken (Written p x) Counted
  row_put p x at len number here four raised kept (held, p_is, below, free, word_is) (new, long, number_is, within, is) =
      let inside : put_count_at m + length new ≤ length bytes = omega arith in
      let long_new : length new ≡ 4 = long ∙ four in
      let is_there : after ≡ bytes_after_write bytes (put_count_at m) new = is ∙ ap (λ a. bytes_after_write bytes a new) here in
      let ahead = kept.ahead in
      let more : length (put ++ x ∷ []) ≡ length put + 1 = length_push put x in
      let kept_after : Kept m (bytes_after_write bytes (put_count_at m) new) (put ++ x ∷ []) taken = record {
        put_count = number_new bytes new (put_count_at m) 4 (omega arith) long_new ∙ number_is ∙ raised ∙ omega arith;
        take_count = number_apart bytes new (put_count_at m) (take_count_at m) 4 inside (inr (omega arith)) ∙ kept.take_count;
        small = omega arith;
        prefix = take-append-le (length taken) put (x ∷ []) ahead ∙ kept.prefix;
        ahead = omega arith;
        few = omega arith;
        words = λ n d from less.
            let place = word_within m n some in
            let same : number_in (bytes_after_write bytes (put_count_at m) new) (word_at m n) 4 ≡ number_in bytes (word_at m n) 4 =
            number_apart bytes new (put_count_at m) (word_at m n) 4 inside (inr (omega arith)) in
            elim (cases_lt n (length put)) [
              | inl old ↦ same ∙ kept.words n d from old ∙ sym (get_or_append_left put (x ∷ []) d n old)
              | inr last ↦
                  let there : n ≡ p = omega arith in
                  same ∙ ap (λ k. number_in bytes (word_at m k) 4) there ∙ word_is ∙ sym (get_or_push put x d n (omega arith))
            ];
      } in
      record {
        puts = put ++ x ∷ [];
        takes = taken;
        put_is = refl;
        taken_is = sym (append-nil taken);
        kept = rw is_there kept_after;
        stands = rw is_there (number_apart bytes new (put_count_at m) (lock_at m) 1 inside (inl (omega arith)) ∙ held);
      }

  -- a write of the take count plus one takes the word
  row_take : (t x at len number : ℕ) → at ≡ take_count_at m → len ≡ 4 → number ≡ (t + 1) % 2 ^ 32 → Kept m bytes put taken
      → Stands m bytes put taken (Fetched t x) → Did bytes (Writes at len number) after → Went m after put taken (Fetched t x) Counted
  row_take t x at len number here four raised kept (held, t_is, below, word_is) (new, long, number_is, within, is) =
      let inside : take_count_at m + length new ≤ length bytes = omega arith in
      let long_new : length new ≡ 4 = long ∙ four in
      let is_there : after ≡ bytes_after_write bytes (take_count_at m) new = is ∙ ap (λ a. bytes_after_write bytes a new) here in
      let small = kept.small in
      let few = kept.few in
      let next : (t + 1) % 2 ^ 32 ≡ t + 1 = omega arith in
      let more : length (taken ++ x ∷ []) ≡ length taken + 1 = length_push taken x in
      let prefix_more : take (length taken + 1) put ≡ taken ++ x ∷ [] =
      take_more put (length taken) 0 (omega arith) ∙ ap (λ xs. xs ++ get_or put (length taken) 0 ∷ []) kept.prefix
      ∙ ap (λ w. taken ++ w ∷ []) (ap (λ n. get_or put n 0) (sym t_is) ∙ word_is 0) in
      let kept_after : Kept m (bytes_after_write bytes (take_count_at m) new) put (taken ++ x ∷ []) = record {
        put_count = number_apart bytes new (take_count_at m) (put_count_at m) 4 inside (inl (omega arith)) ∙ kept.put_count;
        take_count = number_new bytes new (take_count_at m) 4 (omega arith) long_new ∙ number_is ∙ raised ∙ next ∙ omega arith;
        small = small;
        prefix = ap (λ n. take n put) more ∙ prefix_more;
        ahead = omega arith;
        few = omega arith;
        words = λ n d from less.
            let place = word_within m n some in
            number_apart bytes new (take_count_at m) (word_at m n) 4 inside (inr (omega arith)) ∙ kept.words n d (omega arith) less;
      } in
      record {
        puts = put;
        takes = taken ++ x ∷ [];
        put_is = sym (append-nil put);
        taken_is = refl;
        kept = rw is_there kept_after;
        stands = rw is_there (number_apart bytes new (take_count_at m) (lock_at m) 1 inside (inl (omega arith)) ∙ held);
      }

  -- each access that the protocol allows keeps the mailbox
  pub went : (phase next : Phase) (access : Access) → Kept m bytes put taken → Stands m bytes put taken phase → Did bytes access after
      → next_phase m phase access ≡ Some next → Went m after put taken phase next
  went Idle next (Sets at len old) kept stands did goes =
      let is = reached_is (at == lock_at m && len == 1) (if nat_le 128 old then Idle else Locked) next goes in
      let place = and_parts _ _ is.0 in
      let row = row_lock at len old (eqb-true _ _ place.0) (eqb-true _ _ place.1) kept stands did in
      let locked : Locked ≡ next = ap (λ n. if nat_le 128 n then Idle else Locked) (sym row.0) ∙ is.1 in
      subst (λ phase. Went m after put taken Idle phase) locked (same_words m after put taken Idle Locked refl refl row.2 row.1)
  went Locked next (Reads at len p) kept stands did goes =
      let is = reached_is (at == put_count_at m && len == 4) (First p) next goes in
      let place = and_parts _ _ is.0 in
      let found : p ≡ length put =
      did.0 ∙ ap (λ a. number_in bytes a len) (eqb-true _ _ place.0) ∙ ap (λ l. number_in bytes (put_count_at m) l) (eqb-true _ _ place.1)
      ∙ kept.put_count in
      subst (λ phase. Went m after put taken Locked phase) is.1
      (rw did.1 (same_words m bytes put taken Locked (First p) refl refl kept (stands, found)))
  went (First p) next (Reads at len t) kept stands did goes =
      let is = reached_is (at == take_count_at m && len == 4) (Both p t) next goes in
      let place = and_parts _ _ is.0 in
      let found : t ≡ length taken =
      did.0 ∙ ap (λ a. number_in bytes a len) (eqb-true _ _ place.0) ∙ ap (λ l. number_in bytes (take_count_at m) l) (eqb-true _ _ place.1)
      ∙ kept.take_count in
      subst (λ phase. Went m after put taken (First p) phase) is.1
      (rw did.1 (same_words m bytes put taken (First p) (Both p t) refl refl kept (stands.0, stands.1, found)))
  went (Both p t) next (Writes at len x) kept stands did goes =
      elim (cases_Bool (is_unlock m at len x)) [
        | inl unlocks ↦
            let there : Idle ≡ next = let step = rw unlocks at goes in cc in
            subst (λ phase. Went m after put taken (Both p t) phase) there (row_unlock (Both p t) at len x unlocks refl refl kept did)
        | inr writes ↦
            let is = reached_is (at == word_at m p && len == 4 && has_space m p t) (Written p x) next (rw writes at goes) in
            let all = and_parts _ _ is.0 in
            let place = and_parts _ _ all.0 in
            subst (λ phase. Went m after put taken (Both p t) phase) is.1
            (row_word p t at len x (eqb-true _ _ place.0) (eqb-true _ _ place.1) all.1 kept stands did)
      ]
  went (Both p t) next (Reads at len x) kept stands did goes =
      let is = reached_is (at == word_at m t && len == 4 && not (p == t)) (Fetched t x) next goes in
      let all = and_parts (at == word_at m t && len == 4) (not (p == t)) is.0 in
      let place = and_parts (at == word_at m t) (len == 4) all.0 in
      let ahead = kept.ahead in
      let other : p ≡ t → ⊥ = eqb-false p t (not-true (p == t) all.1) in
      let p_is = stands.1 in
      let t_is = stands.2 in
      let below : t < length put = omega arith in
      let found : (d : ℕ) → get_or put t d ≡ x = λ d.
      sym (did.0 ∙ ap (λ a. number_in bytes a len) (eqb-true _ _ place.0) ∙ ap (λ l. number_in bytes (word_at m t) l) (eqb-true _ _ place.1)
      ∙ kept.words t d (omega arith) below) in
      subst (λ phase. Went m after put taken (Both p t) phase) is.1
      (rw did.1 (same_words m bytes put taken (Both p t) (Fetched t x) refl refl kept (stands.0, t_is, below, found)))
  went (Written p x) next (Writes at len number) kept stands did goes =
      let is = reached_is (at == put_count_at m && len == 4 && number == p + 1) Counted next goes in
      let all = and_parts _ _ is.0 in
      let place = and_parts _ _ all.0 in
      subst (λ phase. Went m after put taken (Written p x) phase) is.1
      (row_put p x at len number (eqb-true _ _ place.0) (eqb-true _ _ place.1) (eqb-true _ _ all.1) kept stands did)
  went (Fetched t x) next (Writes at len number) kept stands did goes =
      let is = reached_is (at == take_count_at m && len == 4 && number == (t + 1) % 2 ^ 32) Counted next goes in
      let all = and_parts _ _ is.0 in
      let place = and_parts _ _ all.0 in
      subst (λ phase. Went m after put taken (Fetched t x) phase) is.1
      (row_take t x at len number (eqb-true _ _ place.0) (eqb-true _ _ place.1) (eqb-true _ _ all.1) kept stands did)
  went Counted next (Writes at len number) kept stands did goes =
      let is = reached_is (is_unlock m at len number) Idle next goes in
      subst (λ phase. Went m after put taken Counted phase) is.1 (row_unlock Counted at len number is.0 refl refl kept did)
  went phase next access kept stands did goes = absurd cc
