-- Samples keep a rule of the order of AS*, data strobes and answers where their levels do.
use Rattle.std.proofs.Common.{◌≡◌, ℕ, zero, suc, ◌+◌, Bool, true, false, not, ◌&&◌, ◌||◌, if◌then◌else◌, List, ◌++◌, map, Option, Some, None, refl, ap, ◌∙◌}
use Rattle.std.specs.List.{range_with_len}
use Rattle.vme_protocol.specs.declared.sample.Sample.{Sample}
use Rattle.vme_protocol.specs.declared.scope.Scope.{Scope}
use Rattle.vme_protocol.specs.declared.rule.Rule.{Rule}
use Rattle.vme_protocol.specs.declared.rule.Rule.TheVariants as rules
use Rattle.vme_protocol.specs.declared.place.Place.{Place}
use Rattle.vme_protocol.specs.declared.transfer.Transfer.{Transfer}
use Rattle.vme_protocol.specs.declared.watch.Watch.{Watch}
use Rattle.vme_protocol.specs.Scopes.{is_strict}
use Rattle.vme_protocol.specs.Samples.{has_strobe, has_answer, address_strobe_falls, address_strobe_rises, strobe_falls, answer_falls}
use Rattle.vme_protocol.specs.Transfers.{opened, is_address_phase, passed, took, after_answer}
use Rattle.vme_protocol.specs.Places.{place_of}
use Rattle.vme_protocol.specs.Order.{falls_early, rises_early}
use Rattle.vme_protocol.specs.Exchange.{has_lone_strobe, answers_alone, falls_under_answer, moves_unanswered, has_two_answers, answer_rises_early}
use Rattle.vme_protocol.specs.Watching.{current, watched}
use Rattle.vme_legal_traces.specs.Kept.{breaks, keeps_after, strict_scope}
use Rattle.vme_legal_traces.proofs.Each.{kept_parts, kept_both}
use Rattle.vme_legal_traces.proofs.Order.{is_order_rule, Levels, answer_down, disorder, begun, orderly}
use Rattle.vme_legal_traces.proofs.Levels.{levels_of}

-- whether an answer has come, before an answer at a sample
current_answered : (w : Watch) (s : Sample) → (current w s).answered ≡ begun w.transfer.answered (levels_of w.last) (levels_of s)
unfolding opened
current_answered w s = by_fall (address_strobe_falls w.last s)
  where
    by_fall : (falls : Bool) → (if falls then opened w.scope s else w.transfer).answered ≡ (if falls then false else w.transfer.answered)
    by_fall true = refl
    by_fall false = refl

-- an answer has come after one
after_is_answered : (t : Transfer) (place : Option Place) (s : Sample) → (after_answer t place s).answered ≡ true
unfolding after_answer took
after_is_answered t None s = refl
after_is_answered t (Some place) s = by_phase (is_address_phase t s)
  where
    by_phase : (phase : Bool) → (if phase then passed t else took t place s).answered ≡ true
    by_phase true = refl
    by_phase false = refl

-- whether an answer has come, after a sample
next_answered : (w : Watch) (s : Sample)
    → (watched w s).transfer.answered
    ≡ (if answer_down (levels_of w.last) (levels_of s) then true else begun w.transfer.answered (levels_of w.last) (levels_of s))
unfolding watched
next_answered w s = by_answer (answer_falls w.last s)
  where
    by_answer : (falls : Bool) → (if falls then after_answer (current w s) (place_of (current w s) s) s else current w s).answered
        ≡ (if falls then true else begun w.transfer.answered (levels_of w.last) (levels_of s))
    by_answer true = after_is_answered (current w s) (place_of (current w s) s) s
    by_answer false = current_answered w s

-- a strobe that is low is lone, whatever the answer
lone_by : (high falls low : Bool) → (high && (falls || low && true)) ≡ (high && (falls || low))
lone_by high falls true = refl
lone_by high falls false = refl

-- AS* falls within a handshake, where it falls only while BBSY* is low
falls_by : (before now busy within : Bool) → (now ≡ false → busy ≡ false) → ((before && not now) && (busy || within)) ≡ ((before && not now) && within)
falls_by false now busy within calm = refl
falls_by true true busy within calm = refl
falls_by true false busy within calm = rw (calm refl) refl

-- a sample breaks a rule of the order where its levels do
broken_by_levels : (timeout : ℕ) (rule : Rule) (w : Watch) (s : Sample) → w.scope ≡ strict_scope timeout → (s.address_strobe ≡ false → s.busy ≡ false)
    → is_order_rule rule ≡ true
    → breaks rule w s ≡ disorder rule (begun w.transfer.answered (levels_of w.last) (levels_of s)) (levels_of w.last) (levels_of s)
unfolding falls_early rises_early has_lone_strobe answers_alone falls_under_answer moves_unanswered has_two_answers answer_rises_early
broken_by_levels timeout rules.AddressStrobeRises w s strict calm is =
    ap (λ (strict : Bool). address_strobe_rises w.last s && (has_strobe w.last && not (has_answer w.last) && not (has_answer s)
    || strict && (has_strobe s || not (current w s).answered))) (ap is_strict strict)
    ∙ ap (λ (answered : Bool). address_strobe_rises w.last s && (has_strobe w.last && not (has_answer w.last) && not (has_answer s)
    || (has_strobe s || not answered))) (current_answered w s)
broken_by_levels timeout rules.AddressStrobeFalls w s strict calm is =
    ap (λ (scope : Scope). address_strobe_falls w.last s && (scope.busy && s.busy
    || (if is_strict scope then has_strobe w.last || has_answer w.last else has_strobe w.last && not (has_answer w.last)))) strict
    ∙ falls_by w.last.address_strobe s.address_strobe s.busy (has_strobe w.last || has_answer w.last) calm
broken_by_levels timeout rules.LoneStrobe w s strict calm is =
    rw strict (lone_by s.address_strobe (strobe_falls w.last s) (has_strobe s))
broken_by_levels timeout rules.AnswerAlone w s strict calm is = refl
broken_by_levels timeout rules.StrobeUnderAnswer w s strict calm is = refl
broken_by_levels timeout rules.StrobeRises w s strict calm is = refl
broken_by_levels timeout rules.TwoAnswers w s strict calm is = refl
broken_by_levels timeout rules.AnswerRises w s strict calm is = refl
broken_by_levels timeout rules.Undefined w s strict calm is = absurd cc
broken_by_levels timeout rules.CodeUnknown w s strict calm is = absurd cc
broken_by_levels timeout rules.AddressChanges w s strict calm is = absurd cc
broken_by_levels timeout rules.DataChange w s strict calm is = absurd cc
broken_by_levels timeout rules.Transfer w s strict calm is = absurd cc
broken_by_levels timeout rules.TwoHolders w s strict calm is = absurd cc
broken_by_levels timeout rules.Grant w s strict calm is = absurd cc
broken_by_levels timeout rules.Timeout w s strict calm is = absurd cc
broken_by_levels timeout rules.PortUndefined w s strict calm is = absurd cc
broken_by_levels timeout rules.BusError w s strict calm is = absurd cc
broken_by_levels timeout rules.NoBoard w s strict calm is = absurd cc
broken_by_levels timeout rules.WrongBytes w s strict calm is = absurd cc
broken_by_levels timeout rules.TornModify w s strict calm is = absurd cc

-- the last of so many levels from one on
abbrev pub last_level : (ℕ → Levels) → Levels → ℕ → ℕ → Levels
last_level levels last k zero = last
last_level levels last k (suc count) = last_level levels (levels k) (k + 1) count

-- what is remembered agrees with levels, and with whether an answer has come
pub record Agrees (timeout : ℕ) (last : Levels) (w : Watch) : Type 0 where
  pub strict : w.scope ≡ strict_scope timeout
  pub last_is : levels_of w.last ≡ last
  pub answered : (last.strobe || w.transfer.answered) ≡ true

module _ (timeout : ℕ) (rule : Rule) (is : is_order_rule rule ≡ true) (sample : ℕ → Sample) (levels : ℕ → Levels)
    (same : (k : ℕ) → levels_of (sample k) ≡ levels k)
    (calm : (k : ℕ) → (sample k).address_strobe ≡ false → (sample k).busy ≡ false) (later : List Sample) where
  -- samples keep a rule of the order if their levels do, and later samples do
  pub simulated : (w : Watch) (answered : Bool) (last : Levels) (k count : ℕ) → w.scope ≡ strict_scope timeout → levels_of w.last ≡ last
      → w.transfer.answered ≡ answered → orderly rule levels answered last k count ≡ true
      → ((w' : Watch) → Agrees timeout (last_level levels last k count) w' → keeps_after rule w' later ≡ true)
      → keeps_after rule w (map sample (range_with_len k count) ++ later) ≡ true
  unfolding watched
  simulated w answered last k zero strict last_is answered_is h rest =
      rest w (record { strict = strict; last_is = last_is; answered = ap (λ a. last.strobe || a) answered_is ∙ h })
  simulated w answered last k (suc count) strict last_is answered_is h rest =
      let s = sample k in
      let parts = kept_parts (disorder rule (begun answered last (levels k)) last (levels k)) _ h in
      let here : breaks rule w s ≡ false
      = broken_by_levels timeout rule w s strict (calm k) is
      ∙ ap (λ (a : Bool). disorder rule (begun a (levels_of w.last) (levels_of s)) (levels_of w.last) (levels_of s)) answered_is
      ∙ ap (λ (l : Levels). disorder rule (begun answered l (levels_of s)) l (levels_of s)) last_is
      ∙ ap (λ (m : Levels). disorder rule (begun answered last m) last m) (same k)
      ∙ parts.0 in
      let next : (watched w s).transfer.answered ≡ (if answer_down last (levels k) then true else begun answered last (levels k))
      = next_answered w s
      ∙ ap (λ (a : Bool). if answer_down (levels_of w.last) (levels_of s) then true else begun a (levels_of w.last) (levels_of s)) answered_is
      ∙ ap (λ (l : Levels). if answer_down l (levels_of s) then true else begun answered l (levels_of s)) last_is
      ∙ ap (λ (m : Levels). if answer_down last m then true else begun answered last m) (same k) in
      kept_both (breaks rule w s) (keeps_after rule (watched w s) (map sample (range_with_len (k + 1) count) ++ later)) here
      (simulated (watched w s) _ (levels k) (k + 1) count strict (same k) next parts.1 rest)
