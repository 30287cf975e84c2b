-- What is remembered of a trace, and the first rule that a sample breaks.
use Rattle.std.specs.Prelude.{Bool, not, ◌&&◌, ◌||◌, if◌then◌else◌, List, [], ◌∷◌, find, Option, None, Some, Result, Ok, Err}
use Rattle.std.specs.Option.{option_map, option_map_or}
use Rattle.vme_protocol.specs.declared.sample.Sample.{Sample}
use Rattle.vme_protocol.specs.declared.scope.Scope.{Scope}
use Rattle.vme_protocol.specs.declared.rule.Rule.{Rule}
use Rattle.vme_protocol.specs.declared.rule.Rule.TheVariants as rules
use Rattle.vme_protocol.specs.declared.place.Place.{Place}
use Rattle.vme_protocol.specs.declared.datum.Datum.{Datum}
use Rattle.vme_protocol.specs.declared.transfer.Transfer.{Transfer}
use Rattle.vme_protocol.specs.declared.watch.Watch.{Watch}
use Rattle.vme_protocol.specs.Samples.{address_strobe_falls, strobe_rises, answer_falls}
use Rattle.vme_protocol.specs.Transfers.{opened, is_address_phase, after_answer}
use Rattle.vme_protocol.specs.Places.{place_of, datum_at}
use Rattle.vme_protocol.specs.Handshakes.{fresh, after_sample}
use Rattle.vme_protocol.specs.Arbitration.{two_hold, breaks_grants}
use Rattle.vme_protocol.specs.Order.{is_undefined, falls_early, rises_early, address_changes}
use Rattle.vme_protocol.specs.Exchange.{has_lone_strobe, data_change, answers_alone, falls_under_answer, moves_unanswered, has_two_answers, answer_rises_early, is_late, has_no_row, misplaces}

-- what is remembered after the first sample
abbrev pub started : Scope → Sample → Watch
started scope first = record { scope = scope; last = first; transfer = opened scope first; handshake = fresh }

-- the transfer of a sample, before its answer: it begins as AS* falls; IEEE 1014-1987, 2.4 (data transfer bus timing)
abbrev pub current : Watch → Sample → Transfer
current w s = if address_strobe_falls w.last s then opened w.scope s else w.transfer

-- a rule, and whether a sample breaks it: those of AS*, the address, BBSY* and defined lines
unfoldable pub lines_tests : Watch → Transfer → Sample → List (Rule × Bool)
lines_tests w t s =
    (rules.Undefined, is_undefined w t s)
    ∷ (rules.TwoHolders, two_hold w.scope s)
    ∷ (rules.Grant, breaks_grants w.scope w.last s)
    ∷ (rules.AddressStrobeFalls, falls_early w s)
    ∷ (rules.AddressStrobeRises, rises_early w t s)
    ∷ (rules.AddressChanges, address_changes w t s)
    ∷ []

-- those of a handshake
unfoldable pub handshake_tests : Watch → Transfer → Sample → List (Rule × Bool)
handshake_tests w t s =
    (rules.LoneStrobe, has_lone_strobe w s)
    ∷ (rules.DataChange, data_change w t s)
    ∷ (rules.AnswerAlone, answers_alone w s)
    ∷ (rules.StrobeUnderAnswer, falls_under_answer w s)
    ∷ (rules.StrobeRises, moves_unanswered w s)
    ∷ (rules.TwoAnswers, has_two_answers s)
    ∷ (rules.AnswerRises, answer_rises_early w s)
    ∷ (rules.Timeout, is_late w s)
    ∷ []

-- those of a transfer
unfoldable pub transfer_tests : Watch → Transfer → Sample → List (Rule × Bool)
transfer_tests w t s = (rules.CodeUnknown, has_no_row w t s) ∷ (rules.Transfer, misplaces w t s) ∷ []

-- the first rule of a list that is broken
abbrev pub first_of : List (Rule × Bool) → Option Rule
first_of tests = option_map (λ t. t.0) (find (λ t. t.1) tests)

-- the first rule that a sample breaks, of each list
unfoldable pub lines_broken : Watch → Transfer → Sample → Option Rule
lines_broken w t s = first_of (lines_tests w t s)

-- the first rule of the handshake that a sample breaks
unfoldable pub handshake_broken : Watch → Transfer → Sample → Option Rule
handshake_broken w t s = first_of (handshake_tests w t s)

-- the first rule of transfers that a sample breaks
unfoldable pub transfer_broken : Watch → Transfer → Sample → Option Rule
transfer_broken w t s = first_of (transfer_tests w t s)

-- the first rule that a sample breaks, if any: of the lines, of a handshake, of a transfer
unfoldable pub broken : Watch → Sample → Option Rule
broken w s =
    option_map_or Some (lines_broken w (current w s) s)
    (option_map_or Some (handshake_broken w (current w s) s) (transfer_broken w (current w s) s))

-- the transfer after a sample
abbrev pub transfer_after : Watch → Sample → Transfer
transfer_after w s =
    if answer_falls w.last s then after_answer (current w s) (place_of (current w s) s) s else current w s

-- what is remembered after a sample
unfoldable pub watched : Watch → Sample → Watch
watched w s = record {
  scope = w.scope;
  last = s;
  transfer = transfer_after w s;
  handshake = after_sample w.handshake (current w s) w.last s;
}

-- the datum of a read, with the data lines of a sample
abbrev pub read_from : Sample → Option Datum → Option Datum
read_from s None = None
read_from s (Some datum) = Some (record datum { lines = s.lines })

-- the datum at a place of a write, or of a cycle that BERR* answers
abbrev pub written_at : Transfer → Option Place → Sample → Option Datum
written_at t None s = None
written_at t (Some place) s = if (not s.write || s.dtack) && not (is_address_phase t s) then Some (datum_at t place s) else None

-- the datum that a sample shows: a write, or a cycle that BERR* answers, at its answer; a read as the first strobe rises,
-- with the data of the sample before
unfoldable pub shown : Watch → Sample → Option Datum
shown w s =
    if strobe_rises w.last s then read_from w.last w.handshake.reading
    else if answer_falls w.last s then written_at (current w s) (place_of (current w s) s) s
    else None

-- the answer to a sample: the datum that it shows, or the first rule that it breaks
abbrev pub answer_by : Option Rule → Option Datum → Result (Option Datum) Rule
answer_by None datum = Ok datum
answer_by (Some rule) datum = Err rule

-- the rule that a sample breaks, or the datum that it shows
abbrev pub answer_of : Watch → Sample → Result (Option Datum) Rule
answer_of w s = answer_by (broken w s) (shown w s)

-- what is remembered after a sample, which may break a rule
abbrev pub next_by : Option Rule → Watch → Watch → Watch
next_by None before after = after
next_by (Some rule) before after = before

-- the watch after a sample, which stays as it is if the sample breaks a rule
abbrev pub next_watch : Watch → Sample → Watch
next_watch w s = next_by (broken w s) w (watched w s)
