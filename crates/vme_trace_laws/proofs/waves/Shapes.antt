-- An event has no handshake, one, or two that follow each other.
use Rattle.std.proofs.Common.{◌≡◌, ◌⊎◌, Bool, true, false, Option, Some, None, refl, sym, subst, inl, inr}
use Rattle.std.specs.Option.{option_map}
use Rattle.vme_cycle.specs.SignalLines.{SignalLines}
use Rattle.vme_memory.specs.declared.reply.Reply.{Reply}
use Rattle.vme_core.specs.declared.event.EventReply.{EventReply}
use Rattle.vme_core.specs.declared.event.EventReply.TheVariants as replies
use Rattle.vme_trace.specs.declared.observation.activity.TransferredDatum.{TransferredDatum}
use Rattle.vme_trace.specs.declared.observation.activity.Activity.{Activity}
use Rattle.vme_trace.specs.declared.observation.activity.Activity.TheVariants.{Requests, Polls, Releases, Transfers, Local, Other}
use Rattle.vme_trace.specs.declared.observation.Observation.{Observation}
use Rattle.vme_trace.specs.declared.dump.handshake.Handshake.{Handshake}
use Rattle.vme_trace.specs.Handshakes.{half_of, half_handshake, has_address_phase, first_of_datum, second_of_datum, first_handshake, second_handshake}

-- an event has no handshake
pub record HasNone (o : Observation) : Type 0 where
  pub first : first_handshake o.activity o.reply ≡ None
  pub second : second_handshake o.activity o.reply ≡ None

-- an event has one handshake
pub record HasOne (o : Observation) : Type 0 where
  pub t : Handshake
  pub first : first_handshake o.activity o.reply ≡ Some t
  pub second : second_handshake o.activity o.reply ≡ None

-- an event has two handshakes, one after the other, for which AS* stays low
pub record HasTwo (o : Observation) : Type 0 where
  pub t : Handshake
  pub u : Handshake
  pub first : first_handshake o.activity o.reply ≡ Some t
  pub second : second_handshake o.activity o.reply ≡ Some u
  pub early : t.late ≡ false
  pub goes_on : t.ends ≡ false
  pub late : u.late ≡ true
  pub opened : u.opens ≡ false

-- a first handshake is early, and AS* stays low after it
abbrev GoesOn : Option Handshake → Type 0
GoesOn None = ⊥
GoesOn (Some t) = (t.late ≡ false) × (t.ends ≡ false)

-- a second handshake is late, and AS* is low before it
abbrev Follows : Handshake → Type 0
Follows u = (u.late ≡ true) × (u.opens ≡ false)

-- the handshakes of an event, if it has a second one
abbrev IsPair : Option Handshake → Option Handshake → Type 0
IsPair first None = Unit {0}
IsPair first (Some u) = GoesOn first × Follows u

-- the handshakes of a datum without an address phase
half_pair : (d : TransferredDatum) (reply : Reply) (half : Option SignalLines) → has_address_phase d ≡ false → half_of d reply ≡ half
    → IsPair (Some (first_of_datum d reply)) (option_map half_handshake half)
half_pair d reply None plain is = tt
half_pair d reply (Some lines) plain is = (rw plain (refl, rw is refl), (refl, refl))

-- the handshakes of a datum
datum_pair : (d : TransferredDatum) (reply : Reply) (phase : Bool) → has_address_phase d ≡ phase → IsPair (Some (first_of_datum d reply)) (second_of_datum d reply)
datum_pair d reply true phase = rw phase ((refl, refl), (refl, refl))
datum_pair d reply false plain =
    let second : second_of_datum d reply ≡ option_map half_handshake (half_of d reply) = rw plain refl in
    subst (IsPair (Some (first_of_datum d reply))) (sym second) (half_pair d reply (half_of d reply) plain refl)

-- the handshakes of an event
event_pair : (activity : Activity) (reply : EventReply) → IsPair (first_handshake activity reply) (second_handshake activity reply)
event_pair Requests reply = tt
event_pair Polls reply = tt
event_pair (Releases signals) reply = tt
event_pair (Transfers d) (replies.Board reply) = datum_pair d reply (has_address_phase d) refl
event_pair (Transfers d) (replies.Bus reply) = tt
event_pair (Local cmd) reply = tt
event_pair Other reply = tt

-- the handshakes of an event, by how many it has
shape_by : (o : Observation) (first second : Option Handshake) → first_handshake o.activity o.reply ≡ first → second_handshake o.activity o.reply ≡ second
    → IsPair first second → HasNone o ⊎ (HasOne o ⊎ HasTwo o)
shape_by o None None is_first is_second pair = inl (record { first = is_first; second = is_second })
shape_by o (Some t) None is_first is_second pair = inr (inl (record { t = t; first = is_first; second = is_second }))
shape_by o None (Some u) is_first is_second pair = absurd pair.0
shape_by o (Some t) (Some u) is_first is_second pair =
    inr (inr (record {
      t = t;
      u = u;
      first = is_first;
      second = is_second;
      early = pair.0.0;
      goes_on = pair.0.1;
      late = pair.1.0;
      opened = pair.1.1;
    }))

-- an event has no handshake, one or two
pub shape : (o : Observation) → HasNone o ⊎ (HasOne o ⊎ HasTwo o)
shape o =
    shape_by o (first_handshake o.activity o.reply) (second_handshake o.activity o.reply) refl refl (event_pair o.activity o.reply)
