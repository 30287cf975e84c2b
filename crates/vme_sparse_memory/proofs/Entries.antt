-- Entries of words: what they name, and what another word at an index changes.
use Rattle.std.proofs.Common.{◌≡◌, ◌≢◌, ◌<◌, ◌≤◌, ◌+◌, ℕ, zero, suc, Bool, false, List, [], ◌∷◌, ◌++◌, All, nat_lt, take, drop, length, get_or, set, replicate, refl, ap, sym, ◌∙◌, arith, inl, inr}
use Rattle.std.specs.Prelude.{cond, ◌==◌}
use Rattle.std.specs.List.{filter}
use Rattle.std.proofs.lemmas.Bool.{cases_Bool, eqb-true, ltb-true, ltb-false, le-ltb}
use Rattle.std.proofs.lemmas.Grind.{common_steps}
use Rattle.std.proofs.lemmas.List.{set_comm, length-set, get_or-set_same, get_or-set_other, drop_more, take_more, append_assoc, append-nil}
use Rattle.std.proofs.lemmas.List.Elements.{filter_more, All-append, All-nil, All-cons, All-head, All-tail, filter_passes}
use Rattle.vme_sparse_memory.specs.declared.entry.WordEntry.{WordEntry}
use Rattle.vme_sparse_memory.specs.Entries.{own_entries, words_with}

-- entries name as many words as there are
pub words_len : (entries : List WordEntry) (n : ℕ) → length (words_with entries n) ≡ n
words_len [] n = grind (arith, common_steps)
words_len (entry ∷ entries) n = length-set (words_with entries n) entry.at entry.word ∙ words_len entries n

-- a word of zeros is zero
zero_word : (n at : ℕ) → get_or {A = ℕ} (replicate n 0) at 0 ≡ 0
zero_word zero at = refl
zero_word (suc n) zero = refl
zero_word (suc n) (suc at) = zero_word n at

-- zero at an index of zeros changes nothing
zero_set : (n at : ℕ) → set {A = ℕ} (replicate n 0) at 0 ≡ replicate n 0
zero_set zero at = refl
zero_set (suc n) zero = refl
zero_set (suc n) (suc at) = ap (λ rest. 0 ∷ rest) (zero_set n at)

-- the last of two words at an index counts
set_again : (words : List ℕ) (at a b : ℕ) → set (set words at a) at b ≡ set words at b
set_again [] at a b = refl
set_again (word ∷ words) zero a b = refl
set_again (word ∷ words) (suc at) a b = ap (λ rest. word ∷ rest) (set_again words at a b)

-- if no entry is left, the word is zero
pub none_named : (entries : List WordEntry) (i n at : ℕ) → length entries ≤ i → get_or (words_with (drop i entries) n) at 0 ≡ 0
none_named [] zero n at past = zero_word n at
none_named [] (suc i) n at past = zero_word n at
none_named (entry ∷ entries) zero n at past = absurd (omega arith)
none_named (entry ∷ entries) (suc i) n at past = none_named entries i n at (omega arith)

-- an entry of another word does not change a word
pub named_next :
    (entries : List WordEntry) (i n at : ℕ) (entry : WordEntry) → i < length entries → entry ≡ get_or entries i entry → entry.at ≢ at
    → get_or (words_with (drop i entries) n) at 0 ≡ get_or (words_with (drop (i + 1) entries) n) at 0
named_next entries i n at entry less own other =
    ap (λ rest. get_or (words_with rest n) at 0) (drop_more entries i entry less ∙ ap (λ e. e ∷ drop (i + 1) entries) (sym own))
    ∙ get_or-set_other (words_with (drop (i + 1) entries) n) entry.at at entry.word 0 (λ same. other (sym same))

-- the first entry of a word has it
pub named_here :
    (entries : List WordEntry) (i n at : ℕ) (d : WordEntry) → i < length entries → (get_or entries i d).at ≡ at → at < n
    → get_or (words_with (drop i entries) n) at 0 ≡ (get_or entries i d).word
named_here entries i n at d less here within =
    let rest = words_with (drop (i + 1) entries) n in
    let word = (get_or entries i d).word in
    let there : at < length rest = omega (arith, words_len (drop (i + 1) entries) n, within) in
    ap (λ left. get_or (words_with left n) at 0) (drop_more entries i d less)
    ∙ ap (λ k. get_or (set rest k word) at 0) here
    ∙ get_or-set_same rest at word 0 there

-- what passes a test up to the next entry
pub filtered_more :
    (test : WordEntry → Bool) (entries new : List WordEntry) (i : ℕ) (entry : WordEntry) → i < length entries → entry ≡ get_or entries i entry
    → new ++ filter test (take (i + 1) entries) ≡ new ++ filter test (take i entries) ++ cond (test entry) (entry ∷ []) []
filtered_more test entries new i entry less own =
    ap (λ more. new ++ more) (filter_more test entries i entry less ∙ ap (λ e. filter test (take i entries) ++ cond (test e) (e ∷ []) []) (sym own))
    ∙ sym (append_assoc new (filter test (take i entries)) (cond (test entry) (entry ∷ []) []))

-- an entry after those of other words may be given first
moved :
    (before after : List WordEntry) (entry : WordEntry) (n : ℕ) → All (λ (one : WordEntry). one.at ≢ entry.at) before
    → words_with (before ++ entry ∷ after) n ≡ set (words_with (before ++ after) n) entry.at entry.word
moved [] after entry n others = refl
moved (one ∷ before) after entry n others =
    ap (λ words. set words one.at one.word) (moved before after entry n (All-tail (λ (other : WordEntry). other.at ≢ entry.at) one before others))
    ∙ set_comm (words_with (before ++ after) n) entry.at one.at entry.word one.word (λ same. All-head (λ (other : WordEntry). other.at ≢ entry.at) one before others (sym same))

-- entries of a word between those of words below and above it name this word anew
between :
    (entries own : List WordEntry) (at word n : ℕ) → All (λ (one : WordEntry). one.at ≡ at) own
    → words_with own n ≡ set (replicate n 0) at word
    → words_with (filter (λ (e : WordEntry). nat_lt e.at at) entries ++ own ++ filter (λ (e : WordEntry). nat_lt at e.at) entries) n
    ≡ set (words_with entries n) at word
between [] own at word n of_word alone = rw (append-nil own) alone
between (entry ∷ entries) own at word n of_word alone =
    let below = filter (λ (e : WordEntry). nat_lt e.at at) entries in
    let above = filter (λ (e : WordEntry). nat_lt at e.at) entries in
    let rest = between entries own at word n of_word alone in
    elim (cases_Bool (nat_lt entry.at at)) [
      | inl lower ↦
          let less : entry.at < at = ltb-true _ _ lower in
          let not_above : nat_lt at entry.at ≡ false = le-ltb _ _ (omega arith) in
          rw (lower, not_above) (ap (λ words. set words entry.at entry.word) rest
          ∙ set_comm (words_with entries n) at entry.at word entry.word (λ same. absurd (omega (arith, less, same))))
      | inr not_below ↦
          elim (cases_Bool (nat_lt at entry.at)) [
            | inl higher ↦
                let more : at < entry.at = ltb-true _ _ higher in
                let lower_ones : All (λ (one : WordEntry). one.at ≢ entry.at) below =
                λ k d lt same. absurd (omega (arith, more, ltb-true _ _ (filter_passes (λ (e : WordEntry). nat_lt e.at at) entries k d lt), same)) in
                let own_ones : All (λ (one : WordEntry). one.at ≢ entry.at) own = λ k d lt same. absurd (omega (arith, more, of_word k d lt, same)) in
                rw (not_below, higher) (moved (below ++ own) above entry n (All-append (λ (one : WordEntry). one.at ≢ entry.at) below own lower_ones own_ones)
                ∙ ap (λ words. set words entry.at entry.word) rest
                ∙ set_comm (words_with entries n) at entry.at word entry.word (λ same. absurd (omega (arith, more, same))))
            | inr not_above ↦
                let same : entry.at ≡ at = omega (arith, ltb-false _ _ not_below, ltb-false _ _ not_above) in
                rw (not_below, not_above) (rest ∙ sym (ap (λ k. set (set (words_with entries n) k entry.word) at word) same ∙ set_again (words_with entries n) at entry.word word))
          ]
    ]

-- the entries of a word in place of all of it
pub replaced :
    (entries : List WordEntry) (at word n : ℕ)
    → words_with (filter (λ (e : WordEntry). nat_lt e.at at) entries ++ own_entries at word ++ filter (λ (e : WordEntry). nat_lt at e.at) entries) n
    ≡ set (words_with entries n) at word
replaced entries at word n =
    let own : WordEntry = record { at = at; word = word } in
    let no_own = All-nil (λ (one : WordEntry). one.at ≡ at) in
    elim (cases_Bool (word == 0)) [
      | inl none ↦
          let is_zero : 0 ≡ word = sym (eqb-true word 0 none) in
          rw none (between entries [] at word n no_own (sym (zero_set n at) ∙ ap (λ w. set (replicate n 0) at w) is_zero))
      | inr some ↦ rw some (between entries (own ∷ []) at word n (All-cons (λ (one : WordEntry). one.at ≡ at) own [] refl no_own) refl)
    ]

-- entries with the same parts are the same
same_entry : (a b : WordEntry) → a.at ≡ b.at → a.word ≡ b.word → a ≡ b
same_entry a b same_at same_word = ap (λ at. record { at = at; word = a.word }) same_at ∙ ap (λ word. record { at = b.at; word = word }) same_word

-- two lists whose next entries have the same parts are the same up to there
pub same_next :
    (some others : List WordEntry) (i : ℕ) (d : WordEntry) → i < length some → i < length others → take i some ≡ take i others
    → (get_or some i d).at ≡ (get_or others i d).at → (get_or some i d).word ≡ (get_or others i d).word → take (i + 1) some ≡ take (i + 1) others
same_next some others i d less within before same_at same_word =
    take_more some i d less
    ∙ ap (λ entries. entries ++ get_or some i d ∷ []) before
    ∙ ap (λ last. take i others ++ last ∷ []) (same_entry (get_or some i d) (get_or others i d) same_at same_word)
    ∙ sym (take_more others i d within)

-- as many entries as there are, or more, are all
take_whole : (entries : List WordEntry) (i : ℕ) → length entries ≤ i → take i entries ≡ entries
take_whole entries i past = grind (arith, common_steps)

-- two lists of one length that are the same up to it are the same
pub same_all :
    (some others : List WordEntry) (i : ℕ) → length some ≡ length others → length some ≤ i → take i some ≡ take i others → some ≡ others
same_all some others i long past same =
    sym (take_whole some i past) ∙ same ∙ take_whole others i (omega arith)

-- an entry outside of some words leaves them as they are
pub apart_next :
    (entries : List WordEntry) (i n at first end : ℕ) (d : WordEntry) → i < length entries
    → ((first ≤ (get_or entries i d).at) → (get_or entries i d).at < end → ⊥) → first ≤ at → at < end
    → get_or (words_with (drop i entries) n) at 0 ≡ get_or (words_with (drop (i + 1) entries) n) at 0
apart_next entries i n at first end d less outside from upto =
    let own = get_or entries i d in
    let rest = words_with (drop (i + 1) entries) n in
    ap (λ left. get_or (words_with left n) at 0) (drop_more entries i d less)
    ∙ get_or-set_other rest own.at at own.word 0 (λ same. outside (omega (arith, from, same)) (omega (arith, upto, same)))
