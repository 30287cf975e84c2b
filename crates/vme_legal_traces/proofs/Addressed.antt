-- The address stands: tests of levels and of the edges at which samples show it, decided for each kind of event.
use Rattle.std.proofs.Common.{◌≡◌, ℕ, zero, suc, ◌+◌, Bool, true, false, not, ◌&&◌, ◌||◌, if◌then◌else◌, List, ◌++◌, map, Option, Some, None, refl, ap, sym, subst, ◌∙◌}
use Rattle.std.specs.Prelude.{nat_le}
use Rattle.std.specs.List.{range_with_len}
use Rattle.vme_protocol.specs.declared.sample.Sample.{Sample}
use Rattle.vme_protocol.specs.declared.rule.Rule.TheVariants as rules
use Rattle.vme_protocol.specs.declared.place.Place.{Place}
use Rattle.vme_protocol.specs.declared.transfer.Transfer.{Transfer}
use Rattle.vme_protocol.specs.declared.watch.Watch.{Watch}
use Rattle.vme_protocol.specs.Samples.{address_strobe_falls, answer_falls}
use Rattle.vme_protocol.specs.Scopes.{is_strict}
use Rattle.vme_protocol.specs.Transfers.{is_wide_code, opened, is_address_phase, passed, took, after_answer}
use Rattle.vme_protocol.specs.Places.{place_of}
use Rattle.vme_protocol.specs.Order.{stands, must_stand, address_changes}
use Rattle.vme_protocol.specs.Watching.{current, watched}
use Rattle.vme_legal_traces.specs.Kept.{breaks, keeps_after}
use Rattle.vme_legal_traces.proofs.Each.{kept_both}
use Rattle.vme_legal_traces.proofs.Order.{Levels, answer_down, levels_at, falls_in, nothing, resting, both, each}
use Rattle.vme_legal_traces.proofs.Levels.{levels_of}
use Rattle.vme_legal_traces.proofs.Simulated.{last_level}
use Rattle.vme_legal_traces.proofs.Named.{Names, IsOf, names_stand, opened_is_of, answer_is_of}

-- what is known before a sample: the transfer is that of the address; it is one of eight-byte data and answered; and the last
-- sample shows the address
pub record Known : Type 0 where
  pub live : Bool
  pub freed : Bool
  pub last : Bool

-- whether AS* falls
abbrev begins : Levels → Levels → Bool
begins a b = a.strobe && not b.strobe

-- whether levels are known to keep J5, by those before them and whether their sample shows the address
abbrev addressed_at : Known → Bool → Levels → Levels → Bool
addressed_at known here a b = b.strobe || (if a.strobe then known.last && here else known.freed || (known.live && here))

-- what is known after them, of eight-byte data or not
abbrev known_next : Bool → Known → Bool → Levels → Levels → Known
known_next wide known here a b = record {
  live = begins a b || known.live;
  freed = (if begins a b then false else known.freed) || (answer_down a b && (wide && (begins a b || known.live)));
  last = here;
}

-- whether so many levels are known to keep J5, and after them AS* is high or the transfer is that of the address, and answered if
-- it is one of eight-byte data
abbrev pub addressed : Bool → (ℕ → Bool) → (ℕ → Levels) → Known → Levels → ℕ → ℕ → Bool
addressed wide named levels known last k zero = last.strobe || (known.live && (not wide || known.freed))
addressed wide named levels known last k (suc count) =
    addressed_at known (named k) last (levels k)
    && addressed wide named levels (known_next wide known (named k) last (levels k)) (levels k) (k + 1) count

-- a transfer of eight-byte data that is answered
abbrev pub IsFreed : Transfer → Type 0
IsFreed t = (t.wide ≡ true) × (t.answered ≡ true)

-- two tests that hold
both_hold : (a b : Bool) → (a && b) ≡ true → (a ≡ true) × (b ≡ true)
both_hold true b h = (refl, h)
both_hold false b h = absurd cc

-- the address does not move
moves_none : (now judged before last here freed live first must then_ : Bool)
    → (now || (if before then last && here else freed || (live && here))) ≡ true
    → (before ≡ true → now ≡ false → last ≡ true → here ≡ true → first ≡ true) → (before ≡ false → freed ≡ true → must ≡ false)
    → (before ≡ false → live ≡ true → here ≡ true → then_ ≡ true) → (not now && judged && (if before then not first else must && not then_)) ≡ false
moves_none true judged before last here freed live first must then_ h one two three = refl
moves_none false false before last here freed live first must then_ h one two three = refl
moves_none false true true true true freed live first must then_ h one two three = rw (one refl refl refl refl) refl
moves_none false true true false here freed live first must then_ h one two three = absurd cc
moves_none false true true true false freed live first must then_ h one two three = absurd cc
moves_none false true false last here true live first must then_ h one two three = rw (two refl refl) refl
moves_none false true false last true false true first must then_ h one two three = rw (three refl refl refl) (and_false must)
  where
    and_false : (b : Bool) → (b && not true) ≡ false
    and_false true = refl
    and_false false = refl
moves_none false true false last false false true first must then_ h one two three = absurd cc
moves_none false true false last here false false first must then_ h one two three = absurd cc

-- an answered transfer of eight-byte data need not stand
need_not : (strict wide answered other : Bool) → strict ≡ true → wide ≡ true → answered ≡ true → (not answered || (if strict then not wide else other)) ≡ false
need_not strict wide answered other one two three = rw (one, two, three) refl

-- the transfer that AS* begins
current_begins : (w : Watch) (s : Sample) → address_strobe_falls w.last s ≡ true → current w s ≡ opened w.scope s
current_begins w s falls = ap (λ (b : Bool). if b then opened w.scope s else w.transfer) falls

-- the transfer that goes on
current_goes : (w : Watch) (s : Sample) → address_strobe_falls w.last s ≡ false → current w s ≡ w.transfer
current_goes w s falls = ap (λ (b : Bool). if b then opened w.scope s else w.transfer) falls

-- an answered transfer stays so
answer_freed : (t : Transfer) (place : Option Place) (s : Sample) → t.wide ≡ true → IsFreed (after_answer t place s)
unfolding after_answer took
answer_freed t None s wide = (wide, refl)
answer_freed t (Some place) s wide = by_phase (is_address_phase t s)
  where
    by_phase : (phase : Bool) → IsFreed (if phase then passed t else took t place s)
    by_phase true = (wide, refl)
    by_phase false = (wide, refl)

-- what is known of an answered transfer of eight-byte data, after a sample
freed_next : (answers falls freed wide live : Bool) (t : Transfer) (place : Option Place) (s : Sample)
    → ((if falls then false else freed) || (answers && (wide && (falls || live)))) ≡ true → (falls ≡ false → freed ≡ true → IsFreed t)
    → (wide ≡ true → (falls || live) ≡ true → t.wide ≡ true) → IsFreed (if answers then after_answer t place s else t)
freed_next false true freed wide live t place s h one two = absurd cc
freed_next false false true wide live t place s h one two = one refl refl
freed_next false false false wide live t place s h one two = absurd cc
freed_next true false true wide live t place s h one two = answer_freed t place s (one refl refl).0
freed_next true false false true true t place s h one two = answer_freed t place s (two refl refl)
freed_next true false false true false t place s h one two = absurd cc
freed_next true false false false live t place s h one two = absurd cc
freed_next true true freed true live t place s h one two = answer_freed t place s (two refl refl)
freed_next true true freed false live t place s h one two = absurd cc

-- one of two tests holds, and not the first
or_false : (a b : Bool) → a ≡ false → (a || b) ≡ true → b ≡ true
or_false false b is h = h
or_false true b is h = absurd cc

-- levels of which one falls
falls_by : (before now : Bool) → before ≡ true → now ≡ false → (before && not now) ≡ true
falls_by true false one two = refl
falls_by true true one two = absurd cc
falls_by false now one two = absurd cc

-- and of which none does
stays_by : (before now : Bool) → before ≡ false → (before && not now) ≡ false
stays_by false now one = refl
stays_by true now one = absurd cc

-- a level of AS* that falls was high, and is low
fell : (before now last here rest : Bool) → (before && not now) ≡ true → (now || (if before then last && here else rest)) ≡ true
    → (last ≡ true) × (here ≡ true)
fell true false true true rest falls h = (refl, refl)
fell true false true false rest falls h = absurd cc
fell true false false here rest falls h = absurd cc
fell true true last here rest falls h = absurd cc
fell false now last here rest falls h = absurd cc

-- what is known is so
pub record IsKnown (am top : ℕ) (known : Known) (w : Watch) : Type 0 where
  pub strict : is_strict w.scope ≡ true
  pub live : known.live ≡ true → IsOf am top w.transfer
  pub freed : known.freed ≡ true → IsFreed w.transfer
  pub last : known.last ≡ true → Names am top w.last

module _ (am top : ℕ) (wide : Bool) (wide_is : wide ≡ true → is_wide_code am ≡ true) (named : ℕ → Bool) (sample : ℕ → Sample) (levels : ℕ → Levels)
    (same : (k : ℕ) → levels_of (sample k) ≡ levels k) (names : (k : ℕ) → named k ≡ true → Names am top (sample k)) (later : List Sample) where
  module _ (w : Watch) (known : Known) (is : IsKnown am top known w) (k : ℕ)
      (h : addressed_at known (named k) (levels_of w.last) (levels_of (sample k)) ≡ true) where
    -- the sample
    abbrev s : Sample
    s = sample k

    -- the transfer of the sample is that of the address
    live_now : (begins (levels_of w.last) (levels_of s) || known.live) ≡ true → IsOf am top (current w s)
    live_now = by_fall (address_strobe_falls w.last s) refl
      where
        by_fall : (falls : Bool) → address_strobe_falls w.last s ≡ falls → (falls || known.live) ≡ true → IsOf am top (current w s)
        by_fall true falls is_live =
            let parts = fell w.last.address_strobe s.address_strobe known.last (named k) _ falls h in
            subst (λ (t : Transfer). IsOf am top t) (sym (current_begins w s falls)) (opened_is_of am top w.scope s (names k parts.1))
        by_fall false falls is_live = subst (λ (t : Transfer). IsOf am top t) (sym (current_goes w s falls)) (is.live is_live)

    -- the sample keeps the rule
    here_kept : breaks rules.AddressChanges w s ≡ false
    unfolding address_changes
    here_kept =
        let t = current w s in
        moves_none s.address_strobe t.judged w.last.address_strobe known.last (named k) known.freed known.live
        (stands s.am s.lines t.counted w.last) (must_stand w t s) (stands t.am t.lines t.counted s) h
        (λ before now last here.
        let own = names k here in
        let begun : t ≡ opened w.scope s = current_begins w s (falls_by w.last.address_strobe s.address_strobe before now) in
        names_stand am top s.am s.lines t.counted own.rest w.last (is.last last) own.code
        (ap (λ (u : Transfer). u.counted) begun ∙ (opened_is_of am top w.scope s own).counted) own.below own.lines)
        (λ before freed.
        let goes : t ≡ w.transfer = current_goes w s (stays_by w.last.address_strobe s.address_strobe before) in
        let parts = is.freed freed in
        need_not (is_strict w.scope) t.wide t.answered _ is.strict (ap (λ (u : Transfer). u.wide) goes ∙ parts.0) (ap (λ (u : Transfer). u.answered) goes ∙ parts.1))
        (λ before live here.
        let goes : t ≡ w.transfer = current_goes w s (stays_by w.last.address_strobe s.address_strobe before) in
        let own : IsOf am top t = subst (λ (u : Transfer). IsOf am top u) (sym goes) (is.live live) in
        names_stand am top t.am t.lines t.counted own.rest s (names k here) own.code own.counted own.below own.lines)

    -- an answer leaves the transfer that of the address
    live_after : (answers : Bool) (place : Option Place) → IsOf am top (current w s)
        → IsOf am top (if answers then after_answer (current w s) place s else current w s)
    live_after true place own = answer_is_of am top (current w s) place s own
    live_after false place own = own

    -- what is known after the sample is so
    next_known : IsKnown am top (known_next wide known (named k) (levels_of w.last) (levels_of s)) (watched w s)
    unfolding watched
    next_known = record {
      strict = is.strict;
      live = λ is_live. live_after (answer_falls w.last s) (place_of (current w s) s) (live_now is_live);
      freed = λ is_freed. freed_next (answer_falls w.last s) (address_strobe_falls w.last s) known.freed wide known.live (current w s)
          (place_of (current w s) s) s is_freed
          (λ goes freed. subst IsFreed (sym (current_goes w s goes)) (is.freed freed))
          (λ wide_code is_live. (live_now is_live).wide ∙ wide_is wide_code);
      last = names k;
    }

  -- samples that are known to keep J5 keep it
  pub addressed_keeps : (w : Watch) (known : Known) (last : Levels) (k count : ℕ) → levels_of w.last ≡ last → IsKnown am top known w
      → addressed wide named levels known last k count ≡ true
      → ((w' : Watch) → levels_of w'.last ≡ last_level levels last k count → is_strict w'.scope ≡ true
      → ((last_level levels last k count).strobe ≡ false → IsOf am top w'.transfer × (wide ≡ true → w'.transfer.answered ≡ true))
      → keeps_after rules.AddressChanges w' later ≡ true)
      → keeps_after rules.AddressChanges w (map sample (range_with_len k count) ++ later) ≡ true
  unfolding watched
  addressed_keeps w known last k zero last_is is h rest =
      rest w last_is is.strict (λ low.
      let parts = both_hold known.live _ (or_false last.strobe _ low h) in
      (is.live parts.0, λ wide_code. (is.freed (or_false (not wide) known.freed (ap not wide_code) parts.1)).1))
  addressed_keeps w known last k (suc count) last_is is h rest =
      let s = sample k in
      let parts = both_hold (addressed_at known (named k) last (levels k)) _ h in
      let as_known : addressed_at known (named k) (levels_of w.last) (levels_of s) ≡ addressed_at known (named k) last (levels k)
      = ap (λ (l : Levels). addressed_at known (named k) l (levels_of s)) last_is ∙ ap (λ (m : Levels). addressed_at known (named k) last m) (same k) in
      let next_same : known_next wide known (named k) (levels_of w.last) (levels_of s) ≡ known_next wide known (named k) last (levels k)
      = ap (λ (l : Levels). known_next wide known (named k) l (levels_of s)) last_is ∙ ap (λ (m : Levels). known_next wide known (named k) last m) (same k) in
      kept_both (breaks rules.AddressChanges w s) (keeps_after rules.AddressChanges (watched w s) (map sample (range_with_len (k + 1) count) ++ later))
      (here_kept w known is k (as_known ∙ parts.0))
      (addressed_keeps (watched w s) (known_next wide known (named k) last (levels k)) (levels k) (k + 1) count (same k)
      (subst (λ (next : Known). IsKnown am top next (watched w s)) next_same (next_known w known is k (as_known ∙ parts.0))) parts.1 rest)

-- what is known before an event in which a transfer begins, or goes on
abbrev pub known_before : Bool → Bool → Known
known_before opens wide = record { live = not opens; freed = not opens && wide; last = false }

-- the edges at which an event without a handshake shows the address
abbrev pub none_named : Bool → Bool → ℕ → Bool
none_named strobe wide k = not strobe && not wide

-- those of an event with one handshake
abbrev pub one_named : Bool → Bool → Bool → ℕ → Bool
one_named wide opens ends k = (opens || not wide) && not (ends && nat_le 10 k)

-- those of an event with two
abbrev pub two_named : Bool → Bool → Bool → ℕ → Bool
two_named wide opens ends k = if wide then opens && not (nat_le 10 k) else not (ends && nat_le 19 k)

-- an event without a handshake
abbrev none_addressed : Bool → Bool → Bool
none_addressed strobe wide =
    addressed wide (none_named strobe wide) (levels_at strobe false false 7 nothing nothing) (known_before strobe wide) (resting strobe) 0 20

-- an event with one handshake
abbrev one_addressed : Bool → Bool → Bool → Bool → Bool → Bool → Bool
one_addressed ds1 ds0 wide opens ends berr =
    addressed wide (one_named wide opens ends) (levels_at opens opens ends 7 (falls_in ds1 ds0 berr) nothing) (known_before opens wide) (resting opens) 0 20

-- an event with two
abbrev two_addressed : Bool → Bool → Bool → Bool → Bool → Bool → Bool → Bool → Bool → Bool
two_addressed ds1 ds0 ds1' ds0' wide opens ends berr berr' =
    addressed wide (two_named wide opens ends) (levels_at opens opens ends 16 (falls_in ds1 ds0 berr) (falls_in ds1' ds0' berr')) (known_before opens wide)
    (resting opens) 0 20

-- decided by computing
each_none : both (λ strobe. both λ wide. none_addressed strobe wide) ≡ true
each_none = refl

-- decided by computing
each_one : (ds1 ds0 : Bool) → both (λ wide. both λ opens. both λ ends. both λ berr. one_addressed ds1 ds0 wide opens ends berr) ≡ true
each_one ds1 ds0 = refl

-- decided by computing
each_two : (ds1 ds0 ds1' ds0' : Bool)
    → both (λ wide. both λ opens. both λ ends. both λ berr. both λ berr'. two_addressed ds1 ds0 ds1' ds0' wide opens ends berr berr') ≡ true
each_two ds1 ds0 ds1' ds0' = refl

-- each event without a handshake
pub none_is : (strobe wide : Bool) → none_addressed strobe wide ≡ true
none_is strobe wide = each (λ wide. none_addressed strobe wide) (each (λ strobe. both λ wide. none_addressed strobe wide) each_none strobe) wide

-- each event with one
pub one_is : (ds1 ds0 wide opens ends berr : Bool) → one_addressed ds1 ds0 wide opens ends berr ≡ true
one_is ds1 ds0 wide opens ends berr =
    each (λ berr. one_addressed ds1 ds0 wide opens ends berr)
    (each (λ ends. both λ berr. one_addressed ds1 ds0 wide opens ends berr)
    (each (λ opens. both λ ends. both λ berr. one_addressed ds1 ds0 wide opens ends berr)
    (each (λ wide. both λ opens. both λ ends. both λ berr. one_addressed ds1 ds0 wide opens ends berr)
    (each_one ds1 ds0) wide) opens) ends) berr

-- each event with two
pub two_is : (ds1 ds0 ds1' ds0' wide opens ends berr berr' : Bool) → two_addressed ds1 ds0 ds1' ds0' wide opens ends berr berr' ≡ true
two_is ds1 ds0 ds1' ds0' wide opens ends berr berr' =
    each (λ berr'. two_addressed ds1 ds0 ds1' ds0' wide opens ends berr berr')
    (each (λ berr. both λ berr'. two_addressed ds1 ds0 ds1' ds0' wide opens ends berr berr')
    (each (λ ends. both λ berr. both λ berr'. two_addressed ds1 ds0 ds1' ds0' wide opens ends berr berr')
    (each (λ opens. both λ ends. both λ berr. both λ berr'. two_addressed ds1 ds0 ds1' ds0' wide opens ends berr berr')
    (each (λ wide. both λ opens. both λ ends. both λ berr. both λ berr'. two_addressed ds1 ds0 ds1' ds0' wide opens ends berr berr')
    (each_two ds1 ds0 ds1' ds0') wide) opens) ends) berr) berr'
