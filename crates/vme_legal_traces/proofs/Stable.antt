-- In our own traces WRITE* and data stand under the strobe and the answer.
use Rattle.std.proofs.Common.{◌≡◌, ℕ, zero, suc, ◌+◌, ◌==◌, Bool, true, false, nat_eq, not, ◌&&◌, ◌||◌, if◌then◌else◌, List, ◌++◌, map, Option, None, refl, ap, sym, ◌∙◌}
use Rattle.std.specs.Prelude.{bit_and, bit_or, bit_xor}
use Rattle.std.specs.Bool.{beq}
use Rattle.std.specs.Int.Bits.{and_zero_l, and_zero_r, or_zero_l, xor_self}
use Rattle.std.specs.List.{range_with_len}
use Rattle.vme_protocol.specs.declared.sample.Sample.{Sample}
use Rattle.vme_protocol.specs.declared.rule.Rule.TheVariants as rules
use Rattle.vme_protocol.specs.declared.datum.Datum.{Datum}
use Rattle.vme_protocol.specs.declared.watch.Watch.{Watch}
use Rattle.vme_protocol.specs.Samples.{has_strobe, has_answer, answer_falls, strobe_rises}
use Rattle.vme_protocol.specs.Scopes.{is_strict}
use Rattle.vme_protocol.specs.Lines.{meet, vague, moved}
use Rattle.vme_protocol.specs.Places.{data_lanes, place_of}
use Rattle.vme_protocol.specs.Handshakes.{moved_after, reading_at, read_lanes, after_sample}
use Rattle.vme_protocol.specs.Exchange.{data_change}
use Rattle.vme_protocol.specs.Watching.{current, watched}
use Rattle.vme_legal_traces.specs.Kept.{breaks, keeps_after}
use Rattle.vme_legal_traces.proofs.Each.{kept_both}
use Rattle.vme_legal_traces.proofs.Order.{Levels, strobed, answering, strobe_up, answer_down, levels_at, falls_in, nothing, resting, both, each}
use Rattle.vme_legal_traces.proofs.Levels.{levels_of}
use Rattle.vme_legal_traces.proofs.Simulated.{last_level}

-- what is known of an edge: WRITE* is as at the edge before, and so are the lines; and WRITE* is high
pub record Known : Type 0 where
  pub steady : ℕ → Bool
  pub still : ℕ → Bool
  pub high : ℕ → Bool

-- whether the lines are known to have stood since the first strobe fell
abbrev stood : Bool → Bool → Levels → Bool
stood calm still a = if strobed a then calm && still else still

-- whether no lines of a read are known to be remembered
abbrev unread : Bool → Levels → Levels → Bool
unread none a b = if answer_down a b then false else if strobe_up a b then true else none

-- whether levels are known to keep J7, by those before them
abbrev calm_at : Known → Bool → Bool → Levels → Levels → ℕ → Bool
calm_at known calm none a b k =
    (not (strobed b) || known.steady k)
    && ((not (strobed b && not (answering a)) || (known.high k || stood calm (known.still k) a))
    && (not (strobed a && strobed b) || (none || known.still k)))

-- whether so many levels are known to keep J7, and after them no lines of a read are remembered
abbrev pub stable : Known → (ℕ → Levels) → Bool → Bool → Levels → ℕ → ℕ → Bool
stable known levels calm none last k zero = none
stable known levels calm none last k (suc count) =
    calm_at known calm none last (levels k) k
    && stable known levels (stood calm (known.still k) last) (unread none last (levels k)) (levels k) (k + 1) count

-- two tests that hold together
both_hold : (a b : Bool) → (a && b) ≡ true → (a ≡ true) × (b ≡ true)
both_hold true b h = (refl, h)
both_hold false b h = absurd cc

-- WRITE* does not change
write_quiet : (judged strobe same steady : Bool) → (not strobe || steady) ≡ true → (steady ≡ true → same ≡ true) → (judged && strobe && not same) ≡ false
write_quiet false strobe same steady h is = refl
write_quiet true false same steady h is = refl
write_quiet true true same true h is = rw (is refl) refl
write_quiet true true same false h is = absurd cc

-- data of a write do not change
written_quiet : (strobe answer write met high calm : Bool) → (not (strobe && not answer) || (high || calm)) ≡ true → (high ≡ true → write ≡ true)
    → (calm ≡ true → met ≡ false) → (strobe && not answer && not write && met) ≡ false
written_quiet false answer write met high calm h is none = refl
written_quiet true true write met high calm h is none = refl
written_quiet true false write met true calm h is none = rw (is refl) refl
written_quiet true false true met false calm h is none = refl
written_quiet true false false met false true h is none = none refl
written_quiet true false false met false false h is none = absurd cc

-- data of a read do not change
read_quiet : (strict before now met none still : Bool) → (not (before && now) || (none || still)) ≡ true → (none ≡ true → met ≡ false)
    → (still ≡ true → met ≡ false) → (strict && (before && now && met)) ≡ false
read_quiet false before now met none still h one two = refl
read_quiet true false now met none still h one two = refl
read_quiet true true false met none still h one two = refl
read_quiet true true true met true still h one two = one refl
read_quiet true true true met false true h one two = two refl
read_quiet true true true met false false h one two = absurd cc

-- three tests that fail
none_of : (a b c : Bool) → a ≡ false → b ≡ false → c ≡ false → (a || b || c) ≡ false
none_of false false c h i j = j
none_of false true c h i j = absurd cc
none_of true b c h i j = absurd cc

-- equal levels
beq_self : (a b : Bool) → b ≡ a → beq a b ≡ true
beq_self true true is = refl
beq_self false false is = refl
beq_self true false is = absurd cc
beq_self false true is = absurd cc

-- lines that stand have not moved
moved_none : (a s : Sample) → s.lines ≡ a.lines → moved a s ≡ 0
moved_none a s is =
    let v : ℕ = vague a s in
    ap (λ (l : ℕ). bit_xor (bit_or (bit_xor a.lines l) v) v) is
    ∙ ap (λ (x : ℕ). bit_xor (bit_or x v) v) (xor_self a.lines)
    ∙ ap (λ (x : ℕ). bit_xor x v) (or_zero_l v) ∙ xor_self v

-- what has moved since the first strobe fell
stood_none : (before calm still : Bool) (since now : ℕ) → (calm ≡ true → since ≡ 0) → (still ≡ true → now ≡ 0)
    → (if before then calm && still else still) ≡ true → (if before then bit_or since now else now) ≡ 0
stood_none true true true since now one two h = rw (one refl, two refl) (or_zero_l 0)
stood_none true true false since now one two h = absurd cc
stood_none true false still since now one two h = absurd cc
stood_none false calm still since now one two h = two h

-- the lines of a read that are remembered
unread_none : (down up none : Bool) (given : ℕ × Option Datum) (lanes : ℕ) (reading : Option Datum) → (none ≡ true → lanes ≡ 0)
    → (if down then false else if up then true else none) ≡ true → (if down then given else if up then (0, None) else (lanes, reading)).0 ≡ 0
unread_none true up none given lanes reading is h = absurd cc
unread_none false true none given lanes reading is h = refl
unread_none false false none given lanes reading is h = is h

-- sets of which one is empty do not meet
meet_right : (a b : ℕ) → b ≡ 0 → meet a b ≡ false
meet_right a b is = ap (λ (x : ℕ). not (bit_and a x == 0)) is ∙ ap (λ (x : ℕ). not (x == 0)) (and_zero_r a)

-- the same, of the other
meet_left : (a b : ℕ) → a ≡ 0 → meet a b ≡ false
meet_left a b is = ap (λ (x : ℕ). not (bit_and x b == 0)) is ∙ ap (λ (x : ℕ). not (x == 0)) (and_zero_l b)

module _ (known : Known) (sample : ℕ → Sample) (levels : ℕ → Levels) (same : (k : ℕ) → levels_of (sample k) ≡ levels k)
    (writes : (k : ℕ) → known.steady (k + 1) ≡ true → (sample (k + 1)).write ≡ (sample k).write)
    (stands : (k : ℕ) → known.still (k + 1) ≡ true → (sample (k + 1)).lines ≡ (sample k).lines)
    (highs : (k : ℕ) → known.high k ≡ true → (sample k).write ≡ true) (later : List Sample) where
  -- samples whose levels are known to keep J7 keep it
  pub stable_keeps : (w : Watch) (calm none : Bool) (last : Levels) (k count : ℕ) → levels_of w.last ≡ last
      → (calm ≡ true → w.handshake.moved ≡ 0) → (none ≡ true → w.handshake.lanes ≡ 0)
      → (known.steady k ≡ true → (sample k).write ≡ w.last.write) → (known.still k ≡ true → (sample k).lines ≡ w.last.lines)
      → stable known levels calm none last k count ≡ true
      → ((w' : Watch) → levels_of w'.last ≡ last_level levels last k count → w'.handshake.lanes ≡ 0 → keeps_after rules.DataChange w' later ≡ true)
      → keeps_after rules.DataChange w (map sample (range_with_len k count) ++ later) ≡ true
  unfolding watched data_change after_sample
  stable_keeps w calm none last k zero last_is is_calm is_none write lines h rest = rest w last_is (is_none h)
  stable_keeps w calm none last k (suc count) last_is is_calm is_none write lines h rest =
      let s = sample k in
      let b = levels k in
      let parts = both_hold (calm_at known calm none last b k) _ h in
      let as_known : calm_at known calm none (levels_of w.last) (levels_of s) k ≡ calm_at known calm none last b k
      = ap (λ (l : Levels). calm_at known calm none l (levels_of s) k) last_is ∙ ap (λ (m : Levels). calm_at known calm none last m k) (same k) in
      let first = both_hold _ _ (as_known ∙ parts.0) in
      let second = both_hold _ _ first.1 in
      let unmoved : known.still k ≡ true → moved w.last s ≡ 0 = λ is. moved_none w.last s (lines is) in
      let since : stood calm (known.still k) (levels_of w.last) ≡ true → moved_after w.handshake w.last s ≡ 0
      = stood_none (has_strobe w.last) calm (known.still k) w.handshake.moved (moved w.last s) is_calm unmoved in
      let t = current w s in
      let here : breaks rules.DataChange w s ≡ false
      = none_of _ _ _
      (write_quiet t.judged (has_strobe s) (beq w.last.write s.write) (known.steady k) first.0 (λ is. beq_self w.last.write s.write (write is)))
      (written_quiet (has_strobe s) (has_answer w.last) s.write (meet (data_lanes t s) (moved_after w.handshake w.last s)) (known.high k)
      (stood calm (known.still k) (levels_of w.last)) second.0 (highs k) (λ is. meet_right (data_lanes t s) _ (since is)))
      (read_quiet (is_strict w.scope) (has_strobe w.last) (has_strobe s) (meet w.handshake.lanes (moved w.last s)) none (known.still k) second.1
      (λ is. meet_left w.handshake.lanes _ (is_none is)) (λ is. meet_right w.handshake.lanes _ (unmoved is))) in
      let stood_same : stood calm (known.still k) last ≡ stood calm (known.still k) (levels_of w.last)
      = ap (λ (l : Levels). stood calm (known.still k) l) (sym last_is) in
      let unread_same : unread none last b ≡ unread none (levels_of w.last) (levels_of s)
      = ap (λ (l : Levels). unread none l b) (sym last_is) ∙ ap (λ (m : Levels). unread none (levels_of w.last) m) (sym (same k)) in
      let place = place_of t s in
      kept_both (breaks rules.DataChange w s) (keeps_after rules.DataChange (watched w s) (map sample (range_with_len (k + 1) count) ++ later)) here
      (stable_keeps (watched w s) _ _ b (k + 1) count (same k) (λ is. since (sym stood_same ∙ is))
      (λ is. unread_none (answer_falls w.last s) (strobe_rises w.last s) none (read_lanes t s (reading_at t place s), reading_at t place s)
      w.handshake.lanes w.handshake.reading is_none (sym unread_same ∙ is))
      (writes k) (stands k) parts.1 rest)

-- one of some edges
abbrev early_steady : ℕ → Bool
early_steady k = nat_eq k 2 || (nat_eq k 3 || (nat_eq k 4 || (nat_eq k 5 || nat_eq k 6)))

-- those at which the lines stand in an early handshake, by WRITE*
abbrev early_still : Bool → ℕ → Bool
early_still write k = nat_eq k 2 || (nat_eq k 4 || (nat_eq k 5 || (nat_eq k 6 || (not write && nat_eq k 3))))

-- those at which WRITE* is high before the answer of an early handshake
abbrev early_high : Bool → ℕ → Bool
early_high write k = write && (nat_eq k 3 || nat_eq k 4)

-- those of a late handshake
abbrev late_steady : ℕ → Bool
late_steady k = nat_eq k 11 || (nat_eq k 12 || (nat_eq k 13 || (nat_eq k 14 || nat_eq k 15)))

-- those at which the lines stand in a late handshake
abbrev late_still : Bool → ℕ → Bool
late_still write k = nat_eq k 11 || (nat_eq k 13 || (nat_eq k 14 || (nat_eq k 15 || (not write && nat_eq k 12))))

-- those at which WRITE* is high before the answer of a late handshake
abbrev late_high : Bool → ℕ → Bool
late_high write k = write && (nat_eq k 12 || nat_eq k 13)

-- nothing is known of an event without a handshake
abbrev pub none_known : Known
none_known = record { steady = λ k. false; still = λ k. false; high = λ k. false }

-- what is known of an event with one handshake
abbrev pub one_known : Bool → Known
one_known write = record { steady = early_steady; still = early_still write; high = early_high write }

-- what is known of an event with two
abbrev pub two_known : Bool → Bool → Known
two_known write write' = record {
  steady = λ k. early_steady k || late_steady k;
  still = λ k. early_still write k || late_still write' k;
  high = λ k. early_high write k || late_high write' k;
}

-- an event without a handshake
pub none_stable : (strobe : Bool) → stable none_known (levels_at strobe false false 7 nothing nothing) false true (resting strobe) 0 20 ≡ true
none_stable strobe = refl

-- an event with one handshake that has a strobe
abbrev one_stable : Bool → Bool → Bool → Bool → Bool → Bool → Bool → Bool
one_stable strobe opens ends write ds1 ds0 berr =
    if ds1 || ds0
    then stable (one_known write) (levels_at strobe opens ends 7 (falls_in ds1 ds0 berr) nothing) false true (resting strobe) 0 20 else true

-- an event with two
abbrev two_stable : Bool → Bool → Bool → Bool → Bool → Bool → Bool → Bool → Bool → Bool → Bool → Bool
two_stable strobe opens ends write write' ds1 ds0 berr ds1' ds0' berr' =
    if (ds1 || ds0) && (ds1' || ds0')
    then stable (two_known write write') (levels_at strobe opens ends 16 (falls_in ds1 ds0 berr) (falls_in ds1' ds0' berr')) false true (resting strobe) 0 20
    else true

-- decided by computing
each_one : (strobe opens ends : Bool) → both (λ write. both λ ds1. both λ ds0. both λ berr. one_stable strobe opens ends write ds1 ds0 berr) ≡ true
each_one strobe opens ends = refl

-- decided by computing
each_two : (strobe opens ends : Bool)
    → both (λ write. both λ write'. both λ ds1. both λ ds0. both λ berr. both λ ds1'. both λ ds0'. both λ berr'.
    two_stable strobe opens ends write write' ds1 ds0 berr ds1' ds0' berr') ≡ true
each_two strobe opens ends = refl

-- each event with one handshake that has a strobe
pub one_is : (strobe opens ends write ds1 ds0 berr : Bool) → one_stable strobe opens ends write ds1 ds0 berr ≡ true
one_is strobe opens ends write ds1 ds0 berr =
    each (λ berr. one_stable strobe opens ends write ds1 ds0 berr)
    (each (λ ds0. both λ berr. one_stable strobe opens ends write ds1 ds0 berr)
    (each (λ ds1. both λ ds0. both λ berr. one_stable strobe opens ends write ds1 ds0 berr)
    (each (λ write. both λ ds1. both λ ds0. both λ berr. one_stable strobe opens ends write ds1 ds0 berr)
    (each_one strobe opens ends) write) ds1) ds0) berr

-- each event with two
pub two_is : (strobe opens ends write write' ds1 ds0 berr ds1' ds0' berr' : Bool) → two_stable strobe opens ends write write' ds1 ds0 berr ds1' ds0' berr' ≡ true
two_is strobe opens ends write write' ds1 ds0 berr ds1' ds0' berr' =
    each (λ berr'. two_stable strobe opens ends write write' ds1 ds0 berr ds1' ds0' berr')
    (each (λ ds0'. both λ berr'. two_stable strobe opens ends write write' ds1 ds0 berr ds1' ds0' berr')
    (each (λ ds1'. both λ ds0'. both λ berr'. two_stable strobe opens ends write write' ds1 ds0 berr ds1' ds0' berr')
    (each (λ berr. both λ ds1'. both λ ds0'. both λ berr'. two_stable strobe opens ends write write' ds1 ds0 berr ds1' ds0' berr')
    (each (λ ds0. both λ berr. both λ ds1'. both λ ds0'. both λ berr'. two_stable strobe opens ends write write' ds1 ds0 berr ds1' ds0' berr')
    (each (λ ds1. both λ ds0. both λ berr. both λ ds1'. both λ ds0'. both λ berr'.
    two_stable strobe opens ends write write' ds1 ds0 berr ds1' ds0' berr')
    (each (λ write'. both λ ds1. both λ ds0. both λ berr. both λ ds1'. both λ ds0'. both λ berr'.
    two_stable strobe opens ends write write' ds1 ds0 berr ds1' ds0' berr')
    (each (λ write. both λ write'. both λ ds1. both λ ds0. both λ berr. both λ ds1'. both λ ds0'. both λ berr'.
    two_stable strobe opens ends write write' ds1 ds0 berr ds1' ds0' berr')
    (each_two strobe opens ends) write) write') ds1) ds0) berr) ds1') ds0') berr'
