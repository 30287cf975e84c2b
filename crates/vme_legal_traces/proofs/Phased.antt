-- The answers of an event come one after another: tests of levels alone, decided for each kind of event.
use Rattle.std.proofs.Common.{◌≡◌, ℕ, zero, suc, ◌+◌, Bool, true, false, nat_eq, not, ◌&&◌, ◌||◌, if◌then◌else◌, List, ◌++◌, map, refl, ap, sym, subst, ◌∙◌}
use Rattle.std.specs.List.{range_with_len}
use Rattle.std.proofs.lemmas.Bool.{eqb-true}
use Rattle.vme_protocol.specs.declared.sample.Sample.{Sample}
use Rattle.vme_protocol.specs.declared.scope.Scope.{Scope}
use Rattle.vme_protocol.specs.declared.rule.Rule.TheVariants as rules
use Rattle.vme_protocol.specs.declared.transfer.Transfer.{Transfer}
use Rattle.vme_protocol.specs.declared.watch.Watch.{Watch}
use Rattle.vme_protocol.specs.Samples.{address_strobe_falls, answer_falls}
use Rattle.vme_protocol.specs.Transfers.{opened, after_answer}
use Rattle.vme_protocol.specs.Places.{place_of, breaks_transfer}
use Rattle.vme_protocol.specs.Exchange.{misplaces}
use Rattle.vme_protocol.specs.Watching.{current, watched}
use Rattle.vme_legal_traces.specs.Kept.{breaks, keeps_after}
use Rattle.vme_legal_traces.proofs.Each.{kept_both}
use Rattle.vme_legal_traces.proofs.Order.{Levels, answer_down, levels_at, falls_in, nothing, resting, both, each}
use Rattle.vme_legal_traces.proofs.Levels.{levels_of}
use Rattle.vme_legal_traces.proofs.Simulated.{last_level}

-- whether AS* falls
abbrev pub falling : Levels → Levels → Bool
falling a b = a.strobe && not b.strobe

-- where a transfer is: 0 if none is known, 1 before the answer of the first handshake, 2 after it, 3 after that of the second
abbrev pub begun_at : Bool → ℕ → ℕ
begun_at falls phase = if falls then 1 else phase

-- the same after an answer, if one comes
abbrev pub answered_at : Bool → ℕ → ℕ → ℕ
answered_at down k phase = if down then (if nat_eq k 4 then 2 else 3) else phase

-- whether AS* falls at edge 1 alone, if a transfer begins
abbrev pub falls_well : Bool → Bool → ℕ → Bool
falls_well opens falls k = not falls || (opens && nat_eq k 1)

-- whether the first answer comes at edge 4, if there is a handshake, and a second one, if there are two, at edge 13
abbrev pub answers_well : Bool → Bool → Bool → ℕ → ℕ → Bool
answers_well one two down k phase = not down || ((nat_eq k 4 && (one && nat_eq phase 1)) || (nat_eq k 13 && (two && nat_eq phase 2)))

-- whether so many levels do so, and after them AS* is high or the transfer is at its last phase
abbrev pub phased : Bool → Bool → Bool → ℕ → (ℕ → Levels) → ℕ → Levels → ℕ → ℕ → Bool
phased opens one two final levels phase last k zero = last.strobe || nat_eq phase final
phased opens one two final levels phase last k (suc count) =
    falls_well opens (falling last (levels k)) k
    && (answers_well one two (answer_down last (levels k)) k (begun_at (falling last (levels k)) phase)
    && phased opens one two final levels (answered_at (answer_down last (levels k)) k (begun_at (falling last (levels k)) phase)) (levels k) (k + 1) count)

-- two tests that hold
pub both_hold : (a b : Bool) → (a && b) ≡ true → (a ≡ true) × (b ≡ true)
both_hold true b h = (refl, h)
both_hold false b h = absurd cc

-- a choice of which the first is false
pub or_false : (a b : Bool) → a ≡ false → (a || b) ≡ true → b ≡ true
or_false false b is h = h
or_false true b is h = absurd cc

-- no answer breaks the rule
quiet_here : (falls judged breaks_it : Bool) → (falls ≡ true → breaks_it ≡ false) → (falls && judged && breaks_it) ≡ false
quiet_here false judged breaks_it h = refl
quiet_here true true breaks_it h = h refl
quiet_here true false breaks_it h = refl

module _ (I : ℕ → Transfer → Type 0) (opens one two : Bool) (scope : Scope) (sample : ℕ → Sample) (levels : ℕ → Levels)
    (same : (k : ℕ) → levels_of (sample k) ≡ levels k) (begin : opens ≡ true → I 1 (opened scope (sample 1)))
    (first : one ≡ true → (t : Transfer) → I 1 t
    → (breaks_transfer t (sample 4) ≡ false) × I 2 (after_answer t (place_of t (sample 4)) (sample 4)))
    (second : two ≡ true → (t : Transfer) → I 2 t
    → (breaks_transfer t (sample 13) ≡ false) × I 3 (after_answer t (place_of t (sample 13)) (sample 13))) (later : List Sample) where
  -- AS* falls at edge 1
  pub begun_is : (w : Watch) (falls : Bool) (k phase : ℕ) → w.scope ≡ scope → I phase w.transfer → falls_well opens falls k ≡ true
      → I (begun_at falls phase) (if falls then opened w.scope (sample k) else w.transfer)
  begun_is w false k phase scope_is is h = is
  begun_is w true k phase scope_is is h =
      let parts = both_hold opens (nat_eq k 1) h in
      subst (λ (j : ℕ). I 1 (opened w.scope (sample j))) (sym (eqb-true k 1 parts.1))
      (subst (λ (x : Scope). I 1 (opened x (sample 1))) (sym scope_is) (begin parts.0))

  -- an answer comes at edge 4 or 13
  answer_is : (t : Transfer) (k phase : ℕ) (four : Bool) → nat_eq k 4 ≡ four → I phase t
      → ((four && (one && nat_eq phase 1)) || (nat_eq k 13 && (two && nat_eq phase 2))) ≡ true
      → (breaks_transfer t (sample k) ≡ false) × I (if four then 2 else 3) (after_answer t (place_of t (sample k)) (sample k))
  answer_is t k phase true at is h = by_first (one && nat_eq phase 1) refl h
    where
      by_first : (now : Bool) → (one && nat_eq phase 1) ≡ now → (now || (nat_eq k 13 && (two && nat_eq phase 2))) ≡ true
          → (breaks_transfer t (sample k) ≡ false) × I 2 (after_answer t (place_of t (sample k)) (sample k))
      by_first true now h =
          let parts = both_hold one (nat_eq phase 1) now in
          subst (λ (j : ℕ). (breaks_transfer t (sample j) ≡ false) × I 2 (after_answer t (place_of t (sample j)) (sample j))) (sym (eqb-true k 4 at))
          (first parts.0 t (subst (λ (p : ℕ). I p t) (eqb-true phase 1 parts.1) is))
      by_first false now h =
          let parts = both_hold (nat_eq k 13) _ h in
          let clash : 4 ≡ 13 = sym (eqb-true k 4 at) ∙ eqb-true k 13 parts.0 in
          absurd (cc clash)
  answer_is t k phase false at is h =
      let parts = both_hold (nat_eq k 13) _ h in
      let more = both_hold two (nat_eq phase 2) parts.1 in
      subst (λ (j : ℕ). (breaks_transfer t (sample j) ≡ false) × I 3 (after_answer t (place_of t (sample j)) (sample j))) (sym (eqb-true k 13 parts.0))
      (second more.0 t (subst (λ (p : ℕ). I p t) (eqb-true phase 2 more.1) is))

  -- what holds after a sample
  pub answered_is : (t : Transfer) (down : Bool) (k phase : ℕ) → I phase t → answers_well one two down k phase ≡ true
      → (down ≡ true → breaks_transfer t (sample k) ≡ false)
      × I (answered_at down k phase) (if down then after_answer t (place_of t (sample k)) (sample k) else t)
  answered_is t false k phase is h = (λ down. absurd (cc down), is)
  answered_is t true k phase is h = let own = answer_is t k phase (nat_eq k 4) refl is h in (λ down. own.0, own.1)

  -- samples whose answers come so keep J13
  pub phased_keeps : (final : ℕ) (w : Watch) (phase : ℕ) (last : Levels) (k count : ℕ) → levels_of w.last ≡ last → w.scope ≡ scope → I phase w.transfer
      → phased opens one two final levels phase last k count ≡ true
      → ((w' : Watch) → levels_of w'.last ≡ last_level levels last k count → w'.scope ≡ scope
      → ((last_level levels last k count).strobe ≡ false → I final w'.transfer)
      → keeps_after rules.Transfer w' later ≡ true)
      → keeps_after rules.Transfer w (map sample (range_with_len k count) ++ later) ≡ true
  unfolding watched misplaces
  phased_keeps final w phase last k zero last_is scope_is is h rest =
      rest w last_is scope_is (λ low. subst (λ (p : ℕ). I p w.transfer) (eqb-true phase final (or_false last.strobe _ low h)) is)
  phased_keeps final w phase last k (suc count) last_is scope_is is h rest =
      let s = sample k in
      let falls_same : falling (levels_of w.last) (levels_of s) ≡ falling last (levels k)
      = ap (λ (l : Levels). falling l (levels_of s)) last_is ∙ ap (λ (m : Levels). falling last m) (same k) in
      let down_same : answer_down (levels_of w.last) (levels_of s) ≡ answer_down last (levels k)
      = ap (λ (l : Levels). answer_down l (levels_of s)) last_is ∙ ap (λ (m : Levels). answer_down last m) (same k) in
      let parts = both_hold (falls_well opens (falling last (levels k)) k) _ h in
      let more = both_hold (answers_well one two (answer_down last (levels k)) k (begun_at (falling last (levels k)) phase)) _ parts.1 in
      let begun = begun_is w (address_strobe_falls w.last s) k phase scope_is is (ap (λ (b : Bool). falls_well opens b k) falls_same ∙ parts.0) in
      let well : answers_well one two (answer_falls w.last s) k (begun_at (address_strobe_falls w.last s) phase) ≡ true
      = ap (λ (b : Bool). answers_well one two b k (begun_at (address_strobe_falls w.last s) phase)) down_same
      ∙ ap (λ (b : Bool). answers_well one two (answer_down last (levels k)) k (begun_at b phase)) falls_same ∙ more.0 in
      let own = answered_is (current w s) (answer_falls w.last s) k (begun_at (address_strobe_falls w.last s) phase) begun well in
      let next_same : answered_at (answer_falls w.last s) k (begun_at (address_strobe_falls w.last s) phase)
      ≡ answered_at (answer_down last (levels k)) k (begun_at (falling last (levels k)) phase)
      = ap (λ (b : Bool). answered_at b k (begun_at (address_strobe_falls w.last s) phase)) down_same
      ∙ ap (λ (b : Bool). answered_at (answer_down last (levels k)) k (begun_at b phase)) falls_same in
      kept_both (breaks rules.Transfer w s) (keeps_after rules.Transfer (watched w s) (map sample (range_with_len (k + 1) count) ++ later))
      (quiet_here (answer_falls w.last s) (current w s).judged (breaks_transfer (current w s) s) own.0)
      (phased_keeps final (watched w s) _ (levels k) (k + 1) count (same k) scope_is
      (subst (λ (p : ℕ). I p (watched w s).transfer) next_same own.1) more.1 rest)

-- the phase before an event in which a transfer begins, or goes on
abbrev pub phase_before : Bool → ℕ
phase_before opens = if opens then 0 else 1

-- an event without a handshake
abbrev none_phased : Bool → Bool
none_phased strobe = phased false false false 1 (levels_at strobe false false 7 nothing nothing) (phase_before strobe) (resting strobe) 0 20

-- an event with one handshake
abbrev one_phased : Bool → Bool → Bool → Bool → Bool → Bool
one_phased ds1 ds0 opens ends berr =
    phased opens true false 2 (levels_at opens opens ends 7 (falls_in ds1 ds0 berr) nothing) (phase_before opens) (resting opens) 0 20

-- an event with two
abbrev two_phased : Bool → Bool → Bool → Bool → Bool → Bool → Bool → Bool → Bool
two_phased ds1 ds0 ds1' ds0' opens ends berr berr' =
    phased opens true true 3 (levels_at opens opens ends 16 (falls_in ds1 ds0 berr) (falls_in ds1' ds0' berr')) (phase_before opens) (resting opens) 0 20

-- decided by computing
each_none : both (λ strobe. none_phased strobe) ≡ true
each_none = refl

-- decided by computing
each_one : (ds1 ds0 : Bool) → both (λ opens. both λ ends. both λ berr. one_phased ds1 ds0 opens ends berr) ≡ true
each_one ds1 ds0 = refl

-- decided by computing
each_two : (ds1 ds0 ds1' ds0' : Bool) → both (λ opens. both λ ends. both λ berr. both λ berr'. two_phased ds1 ds0 ds1' ds0' opens ends berr berr') ≡ true
each_two ds1 ds0 ds1' ds0' = refl

-- each event without a handshake
pub none_is : (strobe : Bool) → none_phased strobe ≡ true
none_is strobe = each (λ strobe. none_phased strobe) each_none strobe

-- each event with one
pub one_is : (ds1 ds0 opens ends berr : Bool) → one_phased ds1 ds0 opens ends berr ≡ true
one_is ds1 ds0 opens ends berr =
    each (λ berr. one_phased ds1 ds0 opens ends berr)
    (each (λ ends. both λ berr. one_phased ds1 ds0 opens ends berr)
    (each (λ opens. both λ ends. both λ berr. one_phased ds1 ds0 opens ends berr) (each_one ds1 ds0) opens) ends) berr

-- each event with two
pub two_is : (ds1 ds0 ds1' ds0' opens ends berr berr' : Bool) → two_phased ds1 ds0 ds1' ds0' opens ends berr berr' ≡ true
two_is ds1 ds0 ds1' ds0' opens ends berr berr' =
    each (λ berr'. two_phased ds1 ds0 ds1' ds0' opens ends berr berr')
    (each (λ berr. both λ berr'. two_phased ds1 ds0 ds1' ds0' opens ends berr berr')
    (each (λ ends. both λ berr. both λ berr'. two_phased ds1 ds0 ds1' ds0' opens ends berr berr')
    (each (λ opens. both λ ends. both λ berr. both λ berr'. two_phased ds1 ds0 ds1' ds0' opens ends berr berr')
    (each_two ds1 ds0 ds1' ds0') opens) ends) berr) berr'
