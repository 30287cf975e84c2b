-- The order of AS*, data strobes and answers: tests of levels alone, decided for each kind of event.
use Rattle.std.proofs.Common.{◌≡◌, ℕ, zero, suc, ◌+◌, Bool, true, false, not, ◌&&◌, ◌||◌, if◌then◌else◌, refl}
use Rattle.std.specs.Prelude.{nat_le}
use Rattle.vme_protocol.specs.declared.rule.Rule.{Rule}
use Rattle.vme_protocol.specs.declared.rule.Rule.TheVariants as rules

-- the rules of the order of AS*, data strobes and answers: J3, J4, J6 and J8 to J12
abbrev pub is_order_rule : Rule → Bool
is_order_rule rules.AddressStrobeFalls = true
is_order_rule rules.AddressStrobeRises = true
is_order_rule rules.LoneStrobe = true
is_order_rule rules.AnswerAlone = true
is_order_rule rules.StrobeUnderAnswer = true
is_order_rule rules.StrobeRises = true
is_order_rule rules.TwoAnswers = true
is_order_rule rules.AnswerRises = true
is_order_rule rule = false

-- the levels of AS*, DS1*, DS0*, DTACK* and BERR*
pub record Levels : Type 0 where
  pub strobe : Bool
  pub ds1 : Bool
  pub ds0 : Bool
  pub dtack : Bool
  pub berr : Bool

-- whether a data strobe, or an answer, is low
abbrev pub strobed : Levels → Bool
strobed l = not l.ds1 || not l.ds0

-- an answer is low
abbrev pub answering : Levels → Bool
answering l = not l.dtack || not l.berr

-- a data strobe falls
abbrev pub strobe_down : Levels → Levels → Bool
strobe_down a b = a.ds1 && not b.ds1 || a.ds0 && not b.ds0

-- a data strobe rises
abbrev pub strobe_up : Levels → Levels → Bool
strobe_up a b = not a.ds1 && b.ds1 || not a.ds0 && b.ds0

-- an answer falls
abbrev pub answer_down : Levels → Levels → Bool
answer_down a b = a.dtack && not b.dtack || a.berr && not b.berr

-- an answer rises
abbrev pub answer_up : Levels → Levels → Bool
answer_up a b = not a.dtack && b.dtack || not a.berr && b.berr

-- whether levels break a rule of their order, by those before them and whether an answer has come since AS* fell
abbrev pub disorder : Rule → Bool → Levels → Levels → Bool
disorder rules.AddressStrobeFalls answered a b = (a.strobe && not b.strobe) && (strobed a || answering a)
disorder rules.AddressStrobeRises answered a b =
    (not a.strobe && b.strobe) && (strobed a && not (answering a) && not (answering b) || (strobed b || not answered))
disorder rules.LoneStrobe answered a b = b.strobe && (strobe_down a b || strobed b)
disorder rules.AnswerAlone answered a b = answer_down a b && not (strobed b)
disorder rules.StrobeUnderAnswer answered a b = strobe_down a b && not (strobed a) && answering a && answering b
disorder rules.StrobeRises answered a b = strobe_up a b && not (answering a) || strobe_down a b && strobed a && answering a
disorder rules.TwoAnswers answered a b = not b.dtack && not b.berr
disorder rules.AnswerRises answered a b = answer_up a b && strobed a && strobed b
disorder rule answered a b = false

-- whether an answer has come since AS* fell, before an answer at the second of two levels
abbrev pub begun : Bool → Levels → Levels → Bool
begun answered a b = if a.strobe && not b.strobe then false else answered

-- whether so many levels keep a rule, and after them AS* is high or an answer has come
abbrev pub orderly : Rule → (ℕ → Levels) → Bool → Levels → ℕ → ℕ → Bool
orderly rule levels answered last k zero = last.strobe || answered
orderly rule levels answered last k (suc count) =
    not (disorder rule (begun answered last (levels k)) last (levels k))
    && orderly rule levels (if answer_down last (levels k) then true else begun answered last (levels k)) (levels k) (k + 1) count

-- a line is high, but from an edge on up to another, if it falls
abbrev pub high_at : Bool → ℕ → ℕ → ℕ → Bool
high_at moves down up k = if moves then (if nat_le up k then true else not (nat_le down k)) else true

-- what falls in a handshake, if there is one
pub record Falls : Type 0 where
  pub ds1 : Bool
  pub ds0 : Bool
  pub dtack : Bool
  pub berr : Bool

-- AS* at an edge, if it falls at edge 1 and rises at another
abbrev pub strobe_level : Bool → Bool → Bool → ℕ → ℕ → Bool
strobe_level before opens ends up k = if ends && nat_le up k then true else (if opens && nat_le 1 k then false else before)

-- the levels at an edge of an event with an early handshake and a late one
abbrev pub levels_at : Bool → Bool → Bool → ℕ → Falls → Falls → ℕ → Levels
levels_at before opens ends up t u k = record {
  strobe = strobe_level before opens ends up k;
  ds1 = high_at t.ds1 2 7 k && high_at u.ds1 11 16 k;
  ds0 = high_at t.ds0 2 7 k && high_at u.ds0 11 16 k;
  dtack = high_at t.dtack 4 9 k && high_at u.dtack 13 18 k;
  berr = high_at t.berr 4 9 k && high_at u.berr 13 18 k;
}

-- nothing falls
abbrev pub nothing : Falls
nothing = record { ds1 = false; ds0 = false; dtack = false; berr = false }

-- what falls in a handshake with these strobes and this answer
abbrev pub falls_in : Bool → Bool → Bool → Falls
falls_in ds1 ds0 berr = record { ds1 = ds1; ds0 = ds0; dtack = not berr; berr = berr }

-- the levels between events
abbrev pub resting : Bool → Levels
resting strobe = record { strobe = strobe; ds1 = true; ds0 = true; dtack = true; berr = true }

-- whether a test holds for both truth values
abbrev pub both : (Bool → Bool) → Bool
both test = test true && test false

-- a test that holds for both holds for each
pub each : (test : Bool → Bool) → both test ≡ true → (b : Bool) → test b ≡ true
each test h true = left (test true) (test false) h
  where
    left : (a b : Bool) → (a && b) ≡ true → a ≡ true
    left true b h = refl
    left false b h = absurd cc
each test h false = right (test true) (test false) h
  where
    right : (a b : Bool) → (a && b) ≡ true → b ≡ true
    right true b h = h
    right false b h = absurd cc

-- an event without a handshake keeps a rule, by AS* before it
abbrev pub none_orderly : Rule → Bool → Bool → Bool
none_orderly rule before answered =
    if before || answered then orderly rule (levels_at before false false 7 nothing nothing) answered (resting before) 0 20 else true

-- an event with one handshake keeps a rule
abbrev pub one_orderly : Rule → Bool → Bool → Bool → Bool → Bool → Bool → Bool
one_orderly rule answered opens ends ds1 ds0 berr =
    if (opens || answered) && (ds1 || ds0)
    then orderly rule (levels_at opens opens ends 7 (falls_in ds1 ds0 berr) nothing) answered (resting opens) 0 20 else true

-- an event with two handshakes keeps a rule
abbrev pub two_orderly : Rule → Bool → Bool → Bool → Bool → Bool → Bool → Bool → Bool → Bool → Bool
two_orderly rule answered opens ends ds1 ds0 berr ds1' ds0' berr' =
    if (opens || answered) && (ds1 || ds0) && (ds1' || ds0')
    then orderly rule (levels_at opens opens ends 16 (falls_in ds1 ds0 berr) (falls_in ds1' ds0' berr')) answered (resting opens) 0 20 else true

-- each event without a handshake keeps a rule
abbrev pub each_none : Rule → Bool
each_none rule = both λ answered. both λ before. none_orderly rule before answered

-- each event with one handshake keeps a rule
abbrev pub each_one : Rule → Bool
each_one rule = both λ answered. both λ opens. both λ ends. both λ ds1. both λ ds0. both λ berr. one_orderly rule answered opens ends ds1 ds0 berr

-- each event with two handshakes keeps a rule
abbrev pub each_two : Rule → Bool
each_two rule =
    both λ answered. both λ opens. both λ ends. both λ ds1. both λ ds0. both λ berr. both λ ds1'. both λ ds0'. both λ berr'.
    two_orderly rule answered opens ends ds1 ds0 berr ds1' ds0' berr'

-- each event keeps each rule of the order
pub record IsOrderly (rule : Rule) : Type 0 where
  pub none : each_none rule ≡ true
  pub one : each_one rule ≡ true
  pub two : each_two rule ≡ true

-- decided by computing
pub rises_decided : IsOrderly rules.AddressStrobeRises
rises_decided = record { none = refl; one = refl; two = refl }

-- decided by computing
pub lone_decided : IsOrderly rules.LoneStrobe
lone_decided = record { none = refl; one = refl; two = refl }

-- decided by computing
pub alone_decided : IsOrderly rules.AnswerAlone
alone_decided = record { none = refl; one = refl; two = refl }

-- decided by computing
pub under_decided : IsOrderly rules.StrobeUnderAnswer
under_decided = record { none = refl; one = refl; two = refl }

-- decided by computing
pub moves_decided : IsOrderly rules.StrobeRises
moves_decided = record { none = refl; one = refl; two = refl }

-- decided by computing
pub two_decided : IsOrderly rules.TwoAnswers
two_decided = record { none = refl; one = refl; two = refl }

-- decided by computing
pub ends_decided : IsOrderly rules.AnswerRises
ends_decided = record { none = refl; one = refl; two = refl }

-- decided by computing
pub falls_decided : IsOrderly rules.AddressStrobeFalls
falls_decided = record { none = refl; one = refl; two = refl }

module _ (rule : Rule) (answered : Bool) where
  -- an event without a handshake keeps a rule
  pub none_keeps : (before : Bool) → each_none rule ≡ true → none_orderly rule before answered ≡ true
  none_keeps before h =
      each (λ before. none_orderly rule before answered) (each (λ answered. both λ before. none_orderly rule before answered) h answered) before

  module _ (opens ends ds1 ds0 berr : Bool) where
    -- an event with one handshake keeps a rule
    pub one_keeps : each_one rule ≡ true → one_orderly rule answered opens ends ds1 ds0 berr ≡ true
    one_keeps h =
        each (λ berr. one_orderly rule answered opens ends ds1 ds0 berr)
        (each (λ ds0. both λ berr. one_orderly rule answered opens ends ds1 ds0 berr)
        (each (λ ds1. both λ ds0. both λ berr. one_orderly rule answered opens ends ds1 ds0 berr)
        (each (λ ends. both λ ds1. both λ ds0. both λ berr. one_orderly rule answered opens ends ds1 ds0 berr)
        (each (λ opens. both λ ends. both λ ds1. both λ ds0. both λ berr. one_orderly rule answered opens ends ds1 ds0 berr)
        (each (λ answered. both λ opens. both λ ends. both λ ds1. both λ ds0. both λ berr. one_orderly rule answered opens ends ds1 ds0 berr)
        h answered) opens) ends) ds1) ds0) berr

    -- an event with two handshakes keeps a rule
    pub two_keeps : (ds1' ds0' berr' : Bool) → each_two rule ≡ true → two_orderly rule answered opens ends ds1 ds0 berr ds1' ds0' berr' ≡ true
    two_keeps ds1' ds0' berr' h =
        each (λ berr'. two_orderly rule answered opens ends ds1 ds0 berr ds1' ds0' berr')
        (each (λ ds0'. both λ berr'. two_orderly rule answered opens ends ds1 ds0 berr ds1' ds0' berr')
        (each (λ ds1'. both λ ds0'. both λ berr'. two_orderly rule answered opens ends ds1 ds0 berr ds1' ds0' berr')
        (each (λ berr. both λ ds1'. both λ ds0'. both λ berr'. two_orderly rule answered opens ends ds1 ds0 berr ds1' ds0' berr')
        (each (λ ds0. both λ berr. both λ ds1'. both λ ds0'. both λ berr'. two_orderly rule answered opens ends ds1 ds0 berr ds1' ds0' berr')
        (each (λ ds1. both λ ds0. both λ berr. both λ ds1'. both λ ds0'. both λ berr'. two_orderly rule answered opens ends ds1 ds0 berr ds1' ds0' berr')
        (each (λ ends. both λ ds1. both λ ds0. both λ berr. both λ ds1'. both λ ds0'. both λ berr'.
        two_orderly rule answered opens ends ds1 ds0 berr ds1' ds0' berr')
        (each (λ opens. both λ ends. both λ ds1. both λ ds0. both λ berr. both λ ds1'. both λ ds0'. both λ berr'.
        two_orderly rule answered opens ends ds1 ds0 berr ds1' ds0' berr')
        (each (λ answered. both λ opens. both λ ends. both λ ds1. both λ ds0. both λ berr. both λ ds1'. both λ ds0'. both λ berr'.
        two_orderly rule answered opens ends ds1 ds0 berr ds1' ds0' berr')
        h answered) opens) ends) ds1) ds0) berr) ds1') ds0') berr'
