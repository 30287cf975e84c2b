-- The lines that a transfer needs are driven: tests of levels and of what is known of each sample, decided for each kind of event.
use Rattle.std.proofs.Common.{◌≡◌, ℕ, zero, suc, ◌+◌, ◌<◌, ◌≤◌, ◌==◌, Bool, true, false, nat_eq, not, ◌&&◌, ◌||◌, if◌then◌else◌, List, ◌++◌, map, Option, None, refl, ap, subst, ◌∙◌, arith}
use Rattle.std.specs.Prelude.{nat_le, bit_and, bit_or}
use Rattle.std.specs.Int.Bits.{and_zero_l}
use Rattle.std.proofs.lemmas.Bool.{eqb-true}
use Rattle.std.proofs.lemmas.Nat.{and_comm, and_or_apart}
use Rattle.std.specs.List.{range_with_len}
use Rattle.vme_protocol.specs.declared.sample.Sample.{Sample}
use Rattle.vme_protocol.specs.declared.rule.Rule.TheVariants as rules
use Rattle.vme_protocol.specs.declared.datum.Datum.{Datum}
use Rattle.vme_protocol.specs.declared.transfer.Transfer.{Transfer}
use Rattle.vme_protocol.specs.declared.watch.Watch.{Watch}
use Rattle.vme_protocol.specs.Lines.{counted_lines, meet}
use Rattle.vme_protocol.specs.Handshakes.{vague_after, read_lanes, reading_at, after_sample}
use Rattle.vme_protocol.specs.Samples.{has_strobe, strobe_falls, strobe_rises, address_strobe_falls, answer_falls}
use Rattle.vme_protocol.specs.Places.{place_of, data_lanes}
use Rattle.vme_protocol.specs.Order.{name_undefined, data_undefined, is_undefined}
use Rattle.vme_protocol.specs.Watching.{current, watched}
use Rattle.vme_protocol.specs.Transfers.{opened}
use Rattle.vme_legal_traces.specs.Kept.{breaks, keeps_after}
use Rattle.vme_legal_traces.proofs.Each.{kept_both}
use Rattle.vme_legal_traces.proofs.Order.{Levels, strobed, strobe_down, strobe_up, answer_down, levels_at, falls_in, nothing, resting, both, each}
use Rattle.vme_legal_traces.proofs.Levels.{levels_of}
use Rattle.vme_legal_traces.proofs.Simulated.{last_level}

-- what is known of the samples of an event: AS* may fall at it; WRITE* is driven; the data lines that count are driven; and WRITE*
-- is high
pub record Seen : Type 0 where
  pub named : ℕ → Bool
  pub driven : ℕ → Bool
  pub clear : ℕ → Bool
  pub high : ℕ → Bool

-- what is known before a sample: the half of the event of the last one, and whether the lines that count there have been driven since
-- the first strobe fell, and are driven in it; and whether no lines of a read are remembered, or some of those
pub record Kept : Type 0 where
  pub half : Bool
  pub since : Bool
  pub last : Bool
  pub none : Bool
  pub some : Bool

-- whether two edges are in the same half of an event
abbrev same_half : Bool → Bool → Bool
same_half true later = later
same_half false later = not later

-- whether the lines that count have been driven since the first strobe fell
abbrev since_next : Kept → Bool → Bool → Levels → Bool
since_next kept later clear a = (not (strobed a) || (kept.since && same_half kept.half later)) && ((kept.last && same_half kept.half later) && clear)

-- whether levels are known to keep J1, by those before them
abbrev defined_at : Seen → Kept → Levels → Levels → ℕ → Bool
defined_at seen kept a b k =
    (not (a.strobe && not b.strobe) || seen.named k)
    && ((not (strobe_down a b) || seen.driven k)
    && ((not (answer_down a b) || (seen.high k || since_next kept (nat_le 10 k) (seen.clear k) a))
    && (not (strobe_up a b) || (kept.none || (kept.some && kept.last)))))

-- what is known after them
abbrev kept_next : Seen → Kept → Levels → Levels → ℕ → Kept
kept_next seen kept a b k = record {
  half = nat_le 10 k;
  since = since_next kept (nat_le 10 k) (seen.clear k) a;
  last = seen.clear k;
  none = not (answer_down a b) && (strobe_up a b || kept.none);
  some = answer_down a b || (strobe_up a b || (kept.none || (kept.some && same_half kept.half (nat_le 10 k))));
}

-- whether so many levels are known to keep J1, and after them no lines of a read are remembered
abbrev pub defined : Seen → (ℕ → Levels) → Kept → Levels → ℕ → ℕ → Bool
defined seen levels kept last k zero = kept.none
defined seen levels kept last k (suc count) =
    defined_at seen kept last (levels k) k && defined seen levels (kept_next seen kept last (levels k) k) (levels k) (k + 1) count

-- two tests that hold
both_hold : (a b : Bool) → (a && b) ≡ true → (a ≡ true) × (b ≡ true)
both_hold true b h = (refl, h)
both_hold false b h = absurd cc

-- the same half
half_is : (a b : Bool) → same_half a b ≡ true → a ≡ b
half_is true true h = refl
half_is false false h = refl
half_is true false h = absurd cc
half_is false true h = absurd cc

-- a test that fails
not_not : (b : Bool) → not b ≡ false → b ≡ true
not_not true h = refl
not_not false h = absurd cc

-- lines that meet neither of two sets
meet_union : (l a b : ℕ) → meet l a ≡ false → meet l b ≡ false → meet l (bit_or a b) ≡ false
meet_union l a b one two =
    let first : bit_and l a ≡ 0 = eqb-true (bit_and l a) 0 (not_not _ one) in
    let second : bit_and b l ≡ 0 = and_comm b l ∙ eqb-true (bit_and l b) 0 (not_not _ two) in
    ap (λ (x : ℕ). not (x == 0)) (and_comm l (bit_or a b) ∙ and_or_apart l a b second ∙ and_comm a l ∙ first)

-- no lines meet any
pub meet_none : (x : ℕ) → meet 0 x ≡ false
meet_none x = ap (λ (y : ℕ). not (y == 0)) (and_zero_l x)

-- the lines of a set within another one
abbrev pub IsWithin : ℕ → ℕ → Type 0
IsWithin set lines = (x : ℕ) → meet set x ≡ false → meet lines x ≡ false

-- what is known of samples is so
pub record IsSeen (E : Bool → ℕ) (seen : Seen) (sample : ℕ → Sample) : Type 0 where
  pub undefined : (k : ℕ) → (sample k).undefined ≡ false
  pub named : (k : ℕ) → seen.named k ≡ true → ((sample k).am_undefined ≡ false) × (meet (sample k).lines_undefined (counted_lines (sample k).am) ≡ false)
  pub driven : (k : ℕ) → seen.driven k ≡ true → (sample k).write_undefined ≡ false
  pub clear : (k : ℕ) → seen.clear k ≡ true → meet (E (nat_le 10 k)) (sample k).lines_undefined ≡ false
  pub high : (k : ℕ) → seen.high k ≡ true → (sample k).write ≡ true

-- what is known before a sample is so
pub record IsKept (E : Bool → ℕ) (kept : Kept) (w : Watch) : Type 0 where
  pub since : kept.since ≡ true → meet (E kept.half) w.handshake.vague ≡ false
  pub last : kept.last ≡ true → meet (E kept.half) w.last.lines_undefined ≡ false
  pub none : kept.none ≡ true → w.handshake.lanes ≡ 0
  pub some : kept.some ≡ true → IsWithin (E kept.half) w.handshake.lanes

-- the name of a cycle is defined
name_quiet : (judged falls named am lines strobe driven write : Bool) → (not falls || named) ≡ true → (not strobe || driven) ≡ true
    → (falls ≡ true → named ≡ true → (am ≡ false) × (lines ≡ false)) → (driven ≡ true → write ≡ false)
    → (judged && (falls && (am || lines) || strobe && write)) ≡ false
name_quiet false falls named am lines strobe driven write one two first second = refl
name_quiet true true false am lines strobe driven write one two first second = absurd cc
name_quiet true true true am lines true true write one two first second = rw ((first refl refl).0, (first refl refl).1, second refl) refl
name_quiet true true true am lines true false write one two first second = absurd cc
name_quiet true true true am lines false driven write one two first second = rw ((first refl refl).0, (first refl refl).1) refl
name_quiet true false named am lines true true write one two first second = rw (second refl) refl
name_quiet true false named am lines true false write one two first second = absurd cc
name_quiet true false named am lines false driven write one two first second = refl

-- the data of a write are defined
written_quiet : (answers high since write met : Bool) → (not answers || (high || since)) ≡ true → (high ≡ true → write ≡ true)
    → (answers ≡ true → write ≡ false → since ≡ true → met ≡ false) → (answers && not write && met) ≡ false
written_quiet false high since write met one a b = refl
written_quiet true high since true met one a b = refl
written_quiet true true since false met one a b = absurd (let bad = a refl in cc)
written_quiet true false true false met one a b = b refl refl refl
written_quiet true false false false met one a b = absurd cc

-- those of a read are
read_quiet : (rises none some met : Bool) → (not rises || (none || some)) ≡ true → (none ≡ true → met ≡ false) → (some ≡ true → met ≡ false)
    → (rises && met) ≡ false
read_quiet false none some met two c d = refl
read_quiet true true some met two c d = c refl
read_quiet true false true met two c d = d refl
read_quiet true false false met two c d = absurd cc

-- neither test holds
neither : (a b : Bool) → a ≡ false → b ≡ false → (a || b) ≡ false
neither a b one two = rw (one, two) refl

-- none of three does
three_false : (a b c : Bool) → a ≡ false → b ≡ false → c ≡ false → (a || b || c) ≡ false
three_false a b c one two three = rw (one, two, three) refl

-- what an answer leaves of the lines that count: those of a write, and those of a read that DTACK* answers
pub record IsAnswer (set : ℕ) (t : Transfer) (s : Sample) : Type 0 where
  pub written : s.write ≡ false → IsWithin set (data_lanes t s)
  pub read : IsWithin set (read_lanes t s (reading_at t (place_of t s) s))

-- no lines are within any
pub none_within : (set lines : ℕ) → lines ≡ 0 → IsWithin set lines
none_within set lines none x clear = ap (λ (y : ℕ). meet y x) none ∙ meet_none x

-- the lines of a read that are remembered, after a sample
lanes_none : (down up none : Bool) (given : ℕ × Option Datum) (lanes : ℕ) (reading : Option Datum) → (none ≡ true → lanes ≡ 0)
    → (not down && (up || none)) ≡ true → (if down then given else if up then (0, None) else (lanes, reading)).0 ≡ 0
lanes_none true up none given lanes reading is h = absurd cc
lanes_none false true none given lanes reading is h = refl
lanes_none false false none given lanes reading is h = is h

-- they are within a set
lanes_some : (set : ℕ) (down up none some : Bool) (given : ℕ × Option Datum) (lanes : ℕ) (reading : Option Datum) → (none ≡ true → lanes ≡ 0)
    → (some ≡ true → IsWithin set lanes) → (down ≡ true → IsWithin set given.0) → (down || (up || (none || some))) ≡ true
    → IsWithin set (if down then given else if up then (0, None) else (lanes, reading)).0
lanes_some set true up none some given lanes reading is own new h = new refl
lanes_some set false true none some given lanes reading is own new h = none_within set 0 refl
lanes_some set false false true some given lanes reading is own new h = none_within set lanes (is refl)
lanes_some set false false false some given lanes reading is own new h = own h

-- lines that have been driven since the first strobe fell
since_clear : (set : ℕ) (before since : Bool) (h last now : ℕ) → (not before || since) ≡ true → (since ≡ true → meet set h ≡ false)
    → meet set last ≡ false → meet set now ≡ false → meet set (if before then bit_or h (bit_or last now) else bit_or last now) ≡ false
since_clear set true true h last now is own one two = meet_union set h (bit_or last now) (own refl) (meet_union set last now one two)
since_clear set true false h last now is own one two = absurd cc
since_clear set false since h last now is own one two = meet_union set last now one two

-- the lines that count with the code of a cycle that begins
counted_now : (w : Watch) (s : Sample) → address_strobe_falls w.last s ≡ true → (current w s).counted ≡ counted_lines s.am
unfolding opened
counted_now w s falls = ap (λ (b : Bool). (if b then opened w.scope s else w.transfer).counted) falls

module _ (E : Bool → ℕ) (seen : Seen) (sample : ℕ → Sample) (levels : ℕ → Levels) (same : (k : ℕ) → levels_of (sample k) ≡ levels k)
    (is : IsSeen E seen sample) (J : ℕ → Watch → Type 0)
    (next : (k : ℕ) (w : Watch) → k < 20 → J k w → J (k + 1) (watched w (sample k)))
    (answers : (k : ℕ) (w : Watch) → k < 20 → J k w → answer_falls w.last (sample k) ≡ true → IsAnswer (E (nat_le 10 k)) (current w (sample k)) (sample k))
    (later : List Sample) where
  module _ (w : Watch) (kept : Kept) (own : IsKept E kept w) (k : ℕ) (soon : k < 20) (at : J k w)
      (h : defined_at seen kept (levels_of w.last) (levels_of (sample k)) k ≡ true) where
    -- the sample
    abbrev s : Sample
    s = sample k

    -- the half of the event
    abbrev later_half : Bool
    later_half = nat_le 10 k

    -- the lines that count have been driven since the first strobe fell
    since_is : since_next kept (nat_le 10 k) (seen.clear k) (levels_of w.last) ≡ true → meet (E (nat_le 10 k)) (vague_after w.handshake w.last (sample k)) ≡ false
    since_is known =
        let parts = both_hold (not (has_strobe w.last) || (kept.since && same_half kept.half later_half)) _ known in
        let more = both_hold (kept.last && same_half kept.half later_half) (seen.clear k) parts.1 in
        let last = both_hold kept.last (same_half kept.half later_half) more.0 in
        let half : kept.half ≡ later_half = half_is kept.half later_half last.1 in
        since_clear (E later_half) (has_strobe w.last) (kept.since && same_half kept.half later_half) w.handshake.vague w.last.lines_undefined s.lines_undefined
        parts.0
        (λ known. subst (λ (b : Bool). meet (E b) w.handshake.vague ≡ false) half (own.since (both_hold kept.since _ known).0))
        (subst (λ (b : Bool). meet (E b) w.last.lines_undefined ≡ false) half (own.last last.0)) (is.clear k more.1)

    -- the sample keeps the rule
    here_kept : breaks rules.Undefined w s ≡ false
    unfolding is_undefined
    here_kept =
        let t = current w s in
        let first = both_hold _ _ h in
        let second = both_hold _ _ first.1 in
        let third = both_hold _ _ second.1 in
        let named : name_undefined w t s ≡ false
        = name_quiet t.judged (address_strobe_falls w.last s) (seen.named k) s.am_undefined (meet s.lines_undefined t.counted) (strobe_falls w.last s)
        (seen.driven k) s.write_undefined first.0 second.0
        (λ falls known. let parts = is.named k known in (parts.0, ap (meet s.lines_undefined) (counted_now w s falls) ∙ parts.1)) (is.driven k) in
        let carried : data_undefined w t s ≡ false
        = neither (answer_falls w.last s && not s.write && meet (data_lanes t s) (vague_after w.handshake w.last s))
        (strobe_rises w.last s && meet w.handshake.lanes w.last.lines_undefined)
        (written_quiet (answer_falls w.last s) (seen.high k) (since_next kept later_half (seen.clear k) (levels_of w.last)) s.write
        (meet (data_lanes t s) (vague_after w.handshake w.last s)) third.0 (is.high k)
        (λ falls low since. (answers k w soon at falls).written low (vague_after w.handshake w.last s) (since_is since)))
        (read_quiet (strobe_rises w.last s) kept.none (kept.some && kept.last) (meet w.handshake.lanes w.last.lines_undefined) third.1
        (λ none. ap (λ (x : ℕ). meet x w.last.lines_undefined) (own.none none) ∙ meet_none w.last.lines_undefined)
        (λ some. let parts = both_hold kept.some kept.last some in own.some parts.0 w.last.lines_undefined (own.last parts.1))) in
        three_false s.undefined (name_undefined w t s) (data_undefined w t s) (is.undefined k) named carried

    -- what is known after the sample is so
    next_kept : IsKept E (kept_next seen kept (levels_of w.last) (levels_of (sample k)) k) (watched w (sample k))
    unfolding watched after_sample
    next_kept =
        let t = current w s in
        let given : ℕ × Option Datum = (read_lanes t s (reading_at t (place_of t s) s), reading_at t (place_of t s) s) in
        record {
          since = since_is;
          last = is.clear k;
          none = λ known. lanes_none (answer_falls w.last s) (strobe_rises w.last s) kept.none given w.handshake.lanes w.handshake.reading own.none known;
          some = λ known. lanes_some (E later_half) (answer_falls w.last s) (strobe_rises w.last s) kept.none
              (kept.some && same_half kept.half later_half) given w.handshake.lanes w.handshake.reading own.none
              (λ known. let parts = both_hold kept.some (same_half kept.half later_half) known in
              subst (λ (b : Bool). IsWithin (E b) w.handshake.lanes) (half_is kept.half later_half parts.1) (own.some parts.0))
              (λ falls. (answers k w soon at falls).read) known;
        }

  -- samples that are known to keep J1 keep it
  pub defined_keeps : (w : Watch) (kept : Kept) (last : Levels) (k count : ℕ) → levels_of w.last ≡ last → IsKept E kept w → k + count ≤ 20 → J k w
      → defined seen levels kept last k count ≡ true
      → ((w' : Watch) → levels_of w'.last ≡ last_level levels last k count → J (k + count) w' → w'.handshake.lanes ≡ 0
      → keeps_after rules.Undefined w' later ≡ true)
      → keeps_after rules.Undefined w (map sample (range_with_len k count) ++ later) ≡ true
  unfolding watched
  defined_keeps w kept last k zero last_is own most at h rest =
      let same_k : k ≡ k + 0 = omega arith in rest w last_is (subst (λ (j : ℕ). J j w) same_k at) (own.none h)
  defined_keeps w kept last k (suc count) last_is own most at h rest =
      let soon : k < 20 = omega (arith, most) in
      let s = sample k in
      let parts = both_hold (defined_at seen kept last (levels k) k) _ h in
      let as_known : defined_at seen kept (levels_of w.last) (levels_of s) k ≡ defined_at seen kept last (levels k) k
      = ap (λ (l : Levels). defined_at seen kept l (levels_of s) k) last_is ∙ ap (λ (m : Levels). defined_at seen kept last m k) (same k) in
      let next_same : kept_next seen kept (levels_of w.last) (levels_of s) k ≡ kept_next seen kept last (levels k) k
      = ap (λ (l : Levels). kept_next seen kept l (levels_of s) k) last_is ∙ ap (λ (m : Levels). kept_next seen kept last m k) (same k) in
      let sum : k + 1 + count ≡ k + suc count = omega arith in
      kept_both (breaks rules.Undefined w s) (keeps_after rules.Undefined (watched w s) (map sample (range_with_len (k + 1) count) ++ later))
      (here_kept w kept own k soon at (as_known ∙ parts.0))
      (defined_keeps (watched w s) (kept_next seen kept last (levels k) k) (levels k) (k + 1) count (same k)
      (subst (λ (x : Kept). IsKept E x (watched w s)) next_same (next_kept w kept own k soon at (as_known ∙ parts.0))) (omega (arith, most)) (next k w soon at) parts.1
      (λ w' last' at' none. rest w' last' (subst (λ (j : ℕ). J j w') sum at') none))

-- what is known before each event
abbrev pub rested : Kept
rested = record { half = false; since = false; last = false; none = true; some = true }

-- the samples of an event without a handshake
abbrev pub none_seen : Seen
none_seen = record { named = λ k. false; driven = λ k. false; clear = λ k. false; high = λ k. false }

-- the edges at which the data lines of an early handshake are driven, by WRITE*
abbrev pub early_clear : Bool → ℕ → Bool
early_clear write k = nat_eq k 3 || (nat_eq k 4 || (nat_eq k 5 || (nat_eq k 6 || (not write && (nat_eq k 1 || nat_eq k 2)))))

-- those of a late one
abbrev pub late_clear : Bool → ℕ → Bool
late_clear write k = nat_eq k 12 || (nat_eq k 13 || (nat_eq k 14 || (nat_eq k 15 || (not write && (nat_eq k 10 || nat_eq k 11)))))

-- the samples of an event with one
abbrev pub one_seen : Bool → Bool → Seen
one_seen opens write =
    record { named = λ k. opens && nat_eq k 1; driven = λ k. nat_eq k 2; clear = early_clear write; high = λ k. write && nat_eq k 4 }

-- the samples of an event with two
abbrev pub two_seen : Bool → Bool → Bool → Seen
two_seen opens write write' = record {
  named = λ k. opens && nat_eq k 1;
  driven = λ k. nat_eq k 2 || nat_eq k 11;
  clear = λ k. early_clear write k || late_clear write' k;
  high = λ k. (write && nat_eq k 4) || (write' && nat_eq k 13);
}

-- an event without a handshake
pub none_defined : (strobe : Bool) → defined none_seen (levels_at strobe false false 7 nothing nothing) rested (resting strobe) 0 20 ≡ true
none_defined true = refl
none_defined false = refl

-- an event with one handshake that has a strobe
abbrev pub one_defined : Bool → Bool → Bool → Bool → Bool → Bool → Bool
one_defined opens ends write ds1 ds0 berr =
    if ds1 || ds0
    then defined (one_seen opens write) (levels_at opens opens ends 7 (falls_in ds1 ds0 berr) nothing) rested (resting opens) 0 20 else true

-- an event with two
abbrev pub two_defined : Bool → Bool → Bool → Bool → Bool → Bool → Bool → Bool → Bool → Bool → Bool
two_defined opens ends write write' ds1 ds0 berr ds1' ds0' berr' =
    if (ds1 || ds0) && (ds1' || ds0')
    then defined (two_seen opens write write') (levels_at opens opens ends 16 (falls_in ds1 ds0 berr) (falls_in ds1' ds0' berr')) rested (resting opens) 0 20
    else true

-- decided by computing
each_one : (opens ends : Bool) → both (λ write. both λ ds1. both λ ds0. both λ berr. one_defined opens ends write ds1 ds0 berr) ≡ true
each_one true true = refl
each_one true false = refl
each_one false true = refl
each_one false false = refl

-- decided by computing
each_two : (opens ends : Bool)
    → both (λ write. both λ write'. both λ ds1. both λ ds0. both λ berr. both λ ds1'. both λ ds0'. both λ berr'.
    two_defined opens ends write write' ds1 ds0 berr ds1' ds0' berr') ≡ true
each_two true true = refl
each_two true false = refl
each_two false true = refl
each_two false false = refl

-- each event with one handshake that has a strobe
pub one_is : (opens ends write ds1 ds0 berr : Bool) → one_defined opens ends write ds1 ds0 berr ≡ true
one_is opens ends write ds1 ds0 berr =
    each (λ berr. one_defined opens ends write ds1 ds0 berr)
    (each (λ ds0. both λ berr. one_defined opens ends write ds1 ds0 berr)
    (each (λ ds1. both λ ds0. both λ berr. one_defined opens ends write ds1 ds0 berr)
    (each (λ write. both λ ds1. both λ ds0. both λ berr. one_defined opens ends write ds1 ds0 berr) (each_one opens ends) write) ds1) ds0) berr

-- each event with two
pub two_is : (opens ends write write' ds1 ds0 berr ds1' ds0' berr' : Bool) → two_defined opens ends write write' ds1 ds0 berr ds1' ds0' berr' ≡ true
two_is opens ends write write' ds1 ds0 berr ds1' ds0' berr' =
    each (λ berr'. two_defined opens ends write write' ds1 ds0 berr ds1' ds0' berr')
    (each (λ ds0'. both λ berr'. two_defined opens ends write write' ds1 ds0 berr ds1' ds0' berr')
    (each (λ ds1'. both λ ds0'. both λ berr'. two_defined opens ends write write' ds1 ds0 berr ds1' ds0' berr')
    (each (λ berr. both λ ds1'. both λ ds0'. both λ berr'. two_defined opens ends write write' ds1 ds0 berr ds1' ds0' berr')
    (each (λ ds0. both λ berr. both λ ds1'. both λ ds0'. both λ berr'. two_defined opens ends write write' ds1 ds0 berr ds1' ds0' berr')
    (each (λ ds1. both λ ds0. both λ berr. both λ ds1'. both λ ds0'. both λ berr'. two_defined opens ends write write' ds1 ds0 berr ds1' ds0' berr')
    (each (λ write'. both λ ds1. both λ ds0. both λ berr. both λ ds1'. both λ ds0'. both λ berr'.
    two_defined opens ends write write' ds1 ds0 berr ds1' ds0' berr')
    (each (λ write. both λ write'. both λ ds1. both λ ds0. both λ berr. both λ ds1'. both λ ds0'. both λ berr'.
    two_defined opens ends write write' ds1 ds0 berr ds1' ds0' berr')
    (each_two opens ends) write) write') ds1) ds0) berr) ds1') ds0') berr'
