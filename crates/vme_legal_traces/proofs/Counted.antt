-- The data lines that count at an answer of a lawful transfer.
use Rattle.std.proofs.Common.{◌≡◌, ℕ, ◌-◌, ◌^◌, ◌<◌, Bool, true, false, not, ◌&&◌, if◌then◌else◌, Option, Some, None, refl, ap, sym, ◌∙◌}
use Rattle.std.proofs.lemmas.Bool.{false≢true}
use Rattle.vme_am.specs.Kinds.{is_block}
use Rattle.vme_lanes.specs.declared.location.Location.{Location}
use Rattle.vme_cycle.specs.Requests.{count_of}
use Rattle.vme_cycle.specs.Lawful as cycles
use Rattle.vme_cycle.specs.Lawful.{IsLawfulTransfer}
use Rattle.vme_cycle.specs.Plans.{own_location}
use Rattle.vme_protocol.specs.declared.sample.Sample.{Sample}
use Rattle.vme_protocol.specs.declared.place.Place.{Place}
use Rattle.vme_protocol.specs.declared.datum.Datum.{Datum}
use Rattle.vme_protocol.specs.declared.transfer.Transfer.{Transfer}
use Rattle.vme_protocol.specs.Lines.{lanes_of, meet}
use Rattle.vme_protocol.specs.Handshakes.{read_lanes, reading_at}
use Rattle.vme_protocol.specs.Transfers.{is_address_phase}
use Rattle.vme_protocol.specs.Places.{place_at, place_in, place_of, lanes_in, data_lanes, datum_at}
use Rattle.vme_legal_traces.proofs.Located.{level_for}
use Rattle.vme_legal_traces.proofs.Fitting.{place_judged}
use Rattle.vme_legal_traces.proofs.Answering.{HasStrobes, IsReady, IsFresh, IsHalved, half_at}
use Rattle.vme_legal_traces.proofs.Defined.{IsWithin, IsAnswer, none_within}
use Rattle.vme_legal_traces.proofs.Driving.{set_for}

-- the lines that count are those of a set
pub answer_within : (set : ℕ) (u : Transfer) (s : Sample) → data_lanes u s ≡ set → IsAnswer set u s
answer_within set u s same = record { written = λ low. within; read = by_reading (reading_at u (place_of u s) s) }
  where
    within : IsWithin set (data_lanes u s)
    within x clear = ap (λ (l : ℕ). meet l x) same ∙ clear

    by_reading : (found : Option Datum) → IsWithin set (read_lanes u s found)
    by_reading None = none_within set 0 refl
    by_reading (Some datum) = within

-- BERR* answers no read
no_reading : (high dtack phase : Bool) → dtack ≡ true → (high && not dtack && not phase) ≡ false
no_reading true dtack phase is = rw is refl
no_reading false dtack phase is = refl

-- no lines count in a read that BERR* answers
pub answer_none : (set : ℕ) (u : Transfer) (s : Sample) → s.write ≡ true → s.dtack ≡ true → IsAnswer set u s
answer_none set u s high dtack = record {
  written = λ low. absurd (false≢true (sym low ∙ high));
  read = none_within set _ (by_place (place_of u s));
}
  where
    by_place : (place : Option Place) → read_lanes u s (reading_at u place s) ≡ 0
    by_place None = refl
    by_place (Some place) =
        ap (λ (b : Bool). read_lanes u s (if b then Some (datum_at u place s) else None)) (no_reading s.write s.dtack (is_address_phase u s) dtack)

-- no address phase is open
data_phase : (wide addressed : Bool) → (wide ≡ true → addressed ≡ true) → (wide && not addressed) ≡ false
data_phase false addressed is = refl
data_phase true addressed is = rw (is refl) refl

-- one is open
address_phase : (wide addressed : Bool) → wide ≡ true → addressed ≡ false → (wide && not addressed) ≡ true
address_phase wide addressed one two = rw (one, two) refl

-- the lines of a datum that comes next
pub ready_lanes : (t : cycles.Transfer) (i : ℕ) (u : Transfer) (s : Sample) → IsLawfulTransfer t → i < count_of t.request → s.write ≡ level_for t → HasStrobes t i s
    → IsReady t i u → data_lanes u s ≡ set_for t.am.wide (own_location t i)
unfolding data_lanes
ready_lanes t i u s lawful less level strobes ready =
    let begun = ready.begun in
    ap (λ (b : Bool). if b then 0 else lanes_in u (place_of u s)) (data_phase u.wide u.addressed (λ is. ready.addressed (sym begun.wide ∙ is)))
    ∙ ap (lanes_in u) (place_judged t lawful u begun s level i less ready.next strobes.ds1 strobes.ds0)
    ∙ ap (λ (b : Bool). if b then 2 ^ 64 - 1 else lanes_of (own_location t i)) begun.wide

-- none count in an address phase
pub fresh_lanes : (t : cycles.Transfer) (u : Transfer) (s : Sample) → t.am.wide ≡ true → IsFresh t u → data_lanes u s ≡ 0
unfolding data_lanes
fresh_lanes t u s wide fresh =
    ap (λ (b : Bool). if b then 0 else lanes_in u (place_of u s)) (address_phase u.wide u.addressed (fresh.begun.wide ∙ wide) fresh.addressed)

-- the lines of the write half of a read-modify-write
pub half_lanes : (t : cycles.Transfer) (u : Transfer) (s : Sample) → is_block t.am.kind ≡ false → t.am.wide ≡ false → HasStrobes t 0 s → IsHalved t u
    → data_lanes u s ≡ set_for t.am.wide (own_location t 0)
unfolding data_lanes place_in
half_lanes t u s alone narrow strobes halved =
    let begun = halved.begun in
    ap (λ (b : Bool). if b && not u.addressed then 0 else lanes_in u (place_of u s)) (begun.wide ∙ narrow)
    ∙ ap (λ (b : Bool). lanes_in u (if b && u.has_row then place_in u s else None)) begun.judged
    ∙ ap (λ (b : Bool). lanes_in u (if b then place_in u s else None)) begun.row
    ∙ ap (λ (found : Option Location). lanes_in u (place_at u found)) (half_at t u s alone strobes halved)
    ∙ ap (λ (b : Bool). if b then 2 ^ 64 - 1 else lanes_of (own_location t 0)) begun.wide
