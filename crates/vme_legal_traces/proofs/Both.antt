-- The samples of an event keep J1, if the answers of its handshakes come one after another and its lines are driven.
use Rattle.std.proofs.Common.{◌≡◌, ℕ, zero, suc, ◌+◌, ◌<◌, Bool, true, false, nat_eq, not, ◌&&◌, ◌||◌, List, ◌++◌, map, refl, ap, sym, subst, ◌∙◌, arith}
use Rattle.std.specs.Prelude.{nat_le}
use Rattle.std.specs.List.{range_with_len}
use Rattle.std.proofs.lemmas.Bool.{eqb-true}
use Rattle.vme_protocol.specs.declared.sample.Sample.{Sample}
use Rattle.vme_protocol.specs.declared.scope.Scope.{Scope}
use Rattle.vme_protocol.specs.declared.rule.Rule.{Rule}
use Rattle.vme_protocol.specs.declared.rule.Rule.TheVariants as rules
use Rattle.vme_protocol.specs.declared.transfer.Transfer.{Transfer}
use Rattle.vme_protocol.specs.declared.watch.Watch.{Watch}
use Rattle.vme_protocol.specs.Samples.{address_strobe_falls, answer_falls}
use Rattle.vme_protocol.specs.Transfers.{opened, after_answer}
use Rattle.vme_protocol.specs.Places.{place_of, breaks_transfer}
use Rattle.vme_protocol.specs.Watching.{current, watched}
use Rattle.vme_legal_traces.specs.Kept.{keeps_after}
use Rattle.vme_legal_traces.proofs.Order.{Levels, answer_down}
use Rattle.vme_legal_traces.proofs.Levels.{levels_of}
use Rattle.vme_legal_traces.proofs.Simulated.{last_level}
use Rattle.vme_legal_traces.proofs.Phased.{both_hold, or_false, falling, begun_at, answered_at, falls_well, answers_well, phased, phased_keeps, begun_is, answered_is}
use Rattle.vme_legal_traces.proofs.Defined.{Seen, Kept, IsSeen, IsKept, IsAnswer, none_within, rested, defined, defined_keeps}

-- an answer comes at edge 4 or 13
well_by : (down four one two : Bool) (k phase : ℕ) → down ≡ true → (not down || ((four && (one && nat_eq phase 1)) || (nat_eq k 13 && (two && nat_eq phase 2)))) ≡ true
    → ((four && (one && nat_eq phase 1)) || (nat_eq k 13 && (two && nat_eq phase 2))) ≡ true
well_by true four one two k phase is h = h
well_by false four one two k phase is h = absurd cc

-- one of the two rules: J1 or J13
abbrev pub rule_of : Bool → Rule
rule_of true = rules.Undefined
rule_of false = rules.Transfer

-- for J1 no lines of a read are remembered between events
abbrev pub Unread : Bool → Watch → Type 0
Unread true w = w.handshake.lanes ≡ 0
Unread false w = Unit {0}

module _ (I : ℕ → Transfer → Type 0) (opens one two : Bool) (final : ℕ) (scope : Scope) (sample : ℕ → Sample) (levels : ℕ → Levels)
    (same : (k : ℕ) → levels_of (sample k) ≡ levels k) (begin : opens ≡ true → I 1 (opened scope (sample 1)))
    (first : one ≡ true → (t : Transfer) → I 1 t
    → (breaks_transfer t (sample 4) ≡ false) × I 2 (after_answer t (place_of t (sample 4)) (sample 4)))
    (second : two ≡ true → (t : Transfer) → I 2 t
    → (breaks_transfer t (sample 13) ≡ false) × I 3 (after_answer t (place_of t (sample 13)) (sample 13)))
    (E : Bool → ℕ) (seen : Seen) (seen_is : IsSeen E seen sample)
    (first_lanes : one ≡ true → (t : Transfer) → I 1 t → IsAnswer (E false) t (sample 4))
    (second_lanes : two ≡ true → (t : Transfer) → I 2 t → IsAnswer (E true) t (sample 13)) (later : List Sample) where
  -- where the transfer is before an edge, and that the answers of the edges left come one after another
  record IsAt (k : ℕ) (w : Watch) : Type 0 where
    count : ℕ
    phase : ℕ
    last : Levels
    sum : k + count ≡ 20
    last_is : levels_of w.last ≡ last
    scope_is : w.scope ≡ scope
    is : I phase w.transfer
    h : phased opens one two final levels phase last k count ≡ true

  -- the transfer of a sample, and that its answer comes well
  record IsNow (k : ℕ) (w : Watch) : Type 0 where
    phase : ℕ
    is : I phase (current w (sample k))
    well : answers_well one two (answer_falls w.last (sample k)) k phase ≡ true
    next : IsAt (k + 1) (watched w (sample k))

  -- the next edge
  now_by : (k : ℕ) (w : Watch) (count phase : ℕ) (last : Levels) → k < 20 → k + count ≡ 20 → levels_of w.last ≡ last → w.scope ≡ scope → I phase w.transfer
      → phased opens one two final levels phase last k count ≡ true → IsNow k w
  unfolding watched
  now_by k w zero phase last soon sum last_is scope_is is h = absurd (omega (arith, sum, soon))
  now_by k w (suc count) phase last soon sum last_is scope_is is h =
      let s = sample k in
      let falls_same : falling (levels_of w.last) (levels_of s) ≡ falling last (levels k)
      = ap (λ (l : Levels). falling l (levels_of s)) last_is ∙ ap (λ (m : Levels). falling last m) (same k) in
      let down_same : answer_down (levels_of w.last) (levels_of s) ≡ answer_down last (levels k)
      = ap (λ (l : Levels). answer_down l (levels_of s)) last_is ∙ ap (λ (m : Levels). answer_down last m) (same k) in
      let parts = both_hold (falls_well opens (falling last (levels k)) k) _ h in
      let more = both_hold (answers_well one two (answer_down last (levels k)) k (begun_at (falling last (levels k)) phase)) _ parts.1 in
      let falls = address_strobe_falls w.last s in
      let down = answer_falls w.last s in
      let begun = begun_is I opens one two scope sample levels same begin first second later w falls k phase scope_is is
      (ap (λ (b : Bool). falls_well opens b k) falls_same ∙ parts.0) in
      let well : answers_well one two down k (begun_at falls phase) ≡ true
      = ap (λ (b : Bool). answers_well one two b k (begun_at falls phase)) down_same
      ∙ ap (λ (b : Bool). answers_well one two (answer_down last (levels k)) k (begun_at b phase)) falls_same ∙ more.0 in
      let own = answered_is I opens one two scope sample levels same begin first second later (current w s) down k (begun_at falls phase) begun well in
      let next_same : answered_at down k (begun_at falls phase) ≡ answered_at (answer_down last (levels k)) k (begun_at (falling last (levels k)) phase)
      = ap (λ (b : Bool). answered_at b k (begun_at falls phase)) down_same
      ∙ ap (λ (b : Bool). answered_at (answer_down last (levels k)) k (begun_at b phase)) falls_same in
      record {
        phase = begun_at falls phase;
        is = begun;
        well = well;
        next = record {
          count = count;
          phase = answered_at (answer_down last (levels k)) k (begun_at (falling last (levels k)) phase);
          last = levels k;
          sum = omega (arith, sum);
          last_is = same k;
          scope_is = scope_is;
          is = subst (λ (p : ℕ). I p (watched w s).transfer) next_same own.1;
          h = more.1;
        };
      }

  -- the same, of what is known
  now_is : (k : ℕ) (w : Watch) → k < 20 → IsAt k w → IsNow k w
  now_is k w soon at = now_by k w at.count at.phase at.last soon at.sum at.last_is at.scope_is at.is at.h

  -- the lines that count at an answer
  lanes_by : (t : Transfer) (k phase : ℕ) (four : Bool) → nat_eq k 4 ≡ four → I phase t
      → ((four && (one && nat_eq phase 1)) || (nat_eq k 13 && (two && nat_eq phase 2))) ≡ true → IsAnswer (E (nat_le 10 k)) t (sample k)
  lanes_by t k phase true at is h = by_first (one && nat_eq phase 1) refl h
    where
      by_first : (now : Bool) → (one && nat_eq phase 1) ≡ now → (now || (nat_eq k 13 && (two && nat_eq phase 2))) ≡ true → IsAnswer (E (nat_le 10 k)) t (sample k)
      by_first true now h =
          let parts = both_hold one (nat_eq phase 1) now in
          subst (λ (j : ℕ). IsAnswer (E (nat_le 10 j)) t (sample j)) (sym (eqb-true k 4 at))
          (first_lanes parts.0 t (subst (λ (p : ℕ). I p t) (eqb-true phase 1 parts.1) is))
      by_first false now h =
          let parts = both_hold (nat_eq k 13) _ h in
          let clash : 4 ≡ 13 = sym (eqb-true k 4 at) ∙ eqb-true k 13 parts.0 in
          absurd (cc clash)
  lanes_by t k phase false at is h =
      let parts = both_hold (nat_eq k 13) _ h in
      let more = both_hold two (nat_eq phase 2) parts.1 in
      subst (λ (j : ℕ). IsAnswer (E (nat_le 10 j)) t (sample j)) (sym (eqb-true k 13 parts.0))
      (second_lanes more.0 t (subst (λ (p : ℕ). I p t) (eqb-true phase 2 more.1) is))

  -- the same, of what is known
  lanes_is : (k : ℕ) (w : Watch) → k < 20 → IsAt k w → answer_falls w.last (sample k) ≡ true → IsAnswer (E (nat_le 10 k)) (current w (sample k)) (sample k)
  lanes_is k w soon at falls =
      let now = now_is k w soon at in
      lanes_by (current w (sample k)) k now.phase (nat_eq k 4) refl now.is
      (well_by (answer_falls w.last (sample k)) (nat_eq k 4) one two k now.phase falls now.well)

  -- the phase at the end
  end_by : (w : Watch) (count phase : ℕ) (last : Levels) → 20 + count ≡ 20 → levels_of w.last ≡ last → I phase w.transfer
      → phased opens one two final levels phase last 20 count ≡ true → w.last.address_strobe ≡ false → I final w.transfer
  end_by w zero phase last sum last_is is h low =
      subst (λ (p : ℕ). I p w.transfer) (eqb-true phase final (or_false last.strobe _ (ap (λ (l : Levels). l.strobe) (sym last_is) ∙ low) h)) is
  end_by w (suc count) phase last sum last_is is h low = absurd (omega (arith, sum))

  -- the samples of an event keep J1
  pub both_keep : (w : Watch) (phase : ℕ) (last : Levels) (kept : Kept) → levels_of w.last ≡ last → w.scope ≡ scope → I phase w.transfer → IsKept E kept w
      → phased opens one two final levels phase last 0 20 ≡ true → defined seen levels kept last 0 20 ≡ true
      → ((w' : Watch) → levels_of w'.last ≡ last_level levels last 0 20 → w'.scope ≡ scope → (w'.last.address_strobe ≡ false → I final w'.transfer)
      → w'.handshake.lanes ≡ 0 → keeps_after rules.Undefined w' later ≡ true)
      → keeps_after rules.Undefined w (map sample (range_with_len 0 20) ++ later) ≡ true
  both_keep w phase last kept last_is scope_is is own h known rest =
      defined_keeps E seen sample levels same seen_is IsAt (λ k x soon at. (now_is k x soon at).next) lanes_is later w kept last 0 20 last_is own (omega arith)
      (record { count = 20; phase = phase; last = last; sum = refl; last_is = last_is; scope_is = scope_is; is = is; h = h }) known
      (λ w' last' at none. rest w' last' at.scope_is (end_by w' at.count at.phase at.last at.sum at.last_is at.is at.h) none)

  -- what is known before each event is so
  rested_kept : (w : Watch) → w.handshake.lanes ≡ 0 → IsKept E rested w
  rested_kept w none = record {
    since = λ is. absurd (cc is);
    last = λ is. absurd (cc is);
    none = λ is. none;
    some = λ is. none_within (E false) w.handshake.lanes none;
  }

  -- the samples of an event keep one of the two rules
  pub one_keeps : (undefined : Bool) (w : Watch) (phase : ℕ) (last : Levels) → levels_of w.last ≡ last → w.scope ≡ scope → I phase w.transfer → Unread undefined w
      → phased opens one two final levels phase last 0 20 ≡ true → defined seen levels rested last 0 20 ≡ true
      → ((w' : Watch) → levels_of w'.last ≡ levels 19 → w'.scope ≡ scope → ((levels 19).strobe ≡ false → I final w'.transfer) → Unread undefined w'
      → keeps_after (rule_of undefined) w' later ≡ true)
      → keeps_after (rule_of undefined) w (map sample (range_with_len 0 20) ++ later) ≡ true
  one_keeps false w phase last last_is scope_is is unread h known rest =
      phased_keeps I opens one two scope sample levels same begin first second later final w phase last 0 20 last_is scope_is is h
      (λ w' last' scope' left. rest w' last' scope' left tt)
  one_keeps true w phase last last_is scope_is is unread h known rest =
      both_keep w phase last rested last_is scope_is is (rested_kept w unread) h known
      (λ w' last' scope' left none. rest w' last' scope' (λ low. left (ap (λ (l : Levels). l.strobe) last' ∙ low)) none)
