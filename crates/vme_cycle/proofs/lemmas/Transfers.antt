-- The transfer of a lawful request, and what a slave senses of each of its data.
use Rattle.std.proofs.Common.{◌≡◌, ℕ, ◌%◌, ◌<◌, zero, Option, None, Some, Result, Ok, Err, ap, sym, ◌∙◌, arith, refl, unwrap_or}
use Rattle.std.specs.Prelude.{nat_le, if◌then◌else◌}
use Rattle.vme_am.specs.declared.code.AmFault.{AmFault}
use Rattle.vme_am.specs.Codes.{CodeRow, read_code}
use Rattle.vme_am.specs.Kinds.{is_block}
use Rattle.vme_lanes.specs.declared.location.Location.{Location}
use Rattle.vme_lanes.specs.declared.location.Location.TheVariants.{Byte0}
use Rattle.vme_lanes.specs.Rows.{row_of, location_sensed}
use Rattle.vme_cycle.specs.declared.request.Request.{Request}
use Rattle.vme_cycle.specs.declared.fault.CycleFault.{CycleFault}
use Rattle.vme_cycle.specs.Requests.{code_of, datum_len, count_of, address_of}
use Rattle.vme_cycle.specs.Lawful.{Transfer, location_for, first_refusal, transfer_with, refusal_or, transfer_of, IsLawfulTransfer}
use Rattle.vme_cycle.specs.Parts.{IsLawful}
use Rattle.vme_cycle.specs.SignalLines.{SignalLines, chosen_len, sensed_at}
use Rattle.vme_cycle.specs.Plans.{location_from, own_location, signals_of}
use Rattle.vme_cycle.proofs.Lawful.{lawful}
use Rattle.vme_cycle.proofs.Blocks.{datum_found, datum_placed, sensed_own}

-- the facts of the request from which a transfer was made
pub record ComesFrom (request : Request) (t : Transfer) : Type 0 where
  pub same : t.request ≡ request
  pub row : read_code (code_of request) ≡ Ok t.am
  pub none : first_refusal request ≡ None

-- a transfer comes from its request, by the refusal and the row of the code
comes_by :
    (request : Request) (t : Transfer) (refusal : Option CycleFault) (found : Result CodeRow AmFault) → first_refusal request ≡ refusal
    → read_code (code_of request) ≡ found → refusal_or refusal (transfer_with request found) ≡ Ok t → ComesFrom request t
comes_by request t (Some fault) found none row h = absurd cc
comes_by request t None (Err fault) none row h = absurd cc
comes_by request t None (Ok code) none row h =
    let whole : record { am = code; request = request } ≡ t = cc in
    record { same = sym (ap (λ (u : Transfer). u.request) whole); row = row ∙ ap (λ (u : Transfer). Ok u.am) whole; none = none }

-- a transfer has the row and the request that it was made from
pub comes_from : (request : Request) (t : Transfer) → transfer_of request ≡ Ok t → ComesFrom request t
unfolding transfer_of
comes_from request t h = comes_by request t (first_refusal request) (read_code (code_of request)) refl refl h

-- the transfer of a request is lawful
pub transfer_is_lawful : (request : Request) (t : Transfer) → transfer_of request ≡ Ok t → IsLawfulTransfer t
transfer_is_lawful request t h = ap transfer_of (comes_from request t h).same ∙ h

-- equal requests have equal transfers
pub same_transfer :
    (request same : Request) (code : CodeRow) (t : Transfer) → transfer_of request ≡ Ok t → code ≡ t.am → same ≡ request
    → transfer_of same ≡ Ok (record { am = code; request = same })
same_transfer request same code t h row copy =
    ap transfer_of copy ∙ h
    ∙ ap (λ (r : CodeRow). Ok (record { am = r; request = t.request })) (sym row)
    ∙ ap (λ (r : Request). Ok (record { am = code; request = r })) ((comes_from request t h).same ∙ sym copy)

-- the code of a lawful transfer has the row of the transfer
pub row_of_lawful : (t : Transfer) → IsLawfulTransfer t → read_code (code_of t.request) ≡ Ok t.am
row_of_lawful t h = (comes_from t.request t h).row

-- the request of a lawful transfer has no refusal
pub none_of_lawful : (t : Transfer) → IsLawfulTransfer t → first_refusal t.request ≡ None
none_of_lawful t h = (comes_from t.request t h).none

-- the request of a lawful transfer has each part of being lawful
pub lawful_parts : (t : Transfer) → IsLawfulTransfer t → IsLawful t.am t.request
lawful_parts t h = let from = comes_from t.request t h in lawful t.am t.request from.row from.none

-- the location that is found for a datum is its own location
pub own_is : (t : Transfer) (i : ℕ) (l : Location) → location_for (address_of t.request i) (datum_len t.request) ≡ Some l → own_location t i ≡ l
unfolding location_from
own_is t i l found = ap (λ at. unwrap_or at Byte0) found

-- a slave senses alike at two addresses with the same place in the group of four
sensed_alike : (s : SignalLines) (at addr : ℕ) → at % 4 ≡ addr % 4 → sensed_at s at ≡ sensed_at s addr
sensed_alike s at addr h =
    ap (λ r. location_sensed (if is_block s.am.kind then record s.strobes { a01 = nat_le 2 r } else s.strobes)) h

-- at the place of a datum, a slave senses the datum's own location
pub own_sensed_at :
    (t : Transfer) (i at : ℕ) → IsLawful t.am t.request → i < count_of t.request → at % 4 ≡ address_of t.request i % 4
    → sensed_at (signals_of t i) at ≡ Some (own_location t i)
unfolding signals_of
own_sensed_at t i at is less same =
    let some : zero < count_of t.request = omega (arith, less) in
    let first = datum_found t.am t.request zero is some in
    let own = datum_found t.am t.request i is less in
    let first_is = own_is t zero first.0 first.1 in
    let here = own_is t i own.0 own.1 in
    sensed_alike (signals_of t i) at (address_of t.request i) same
    ∙ sensed_own t.am t.request i first.0 own.0 (signals_of t i) is less first.1 own.1 refl (rw (← first_is, ← here) refl)
    ∙ ap Some (sym here)

-- the own location of a datum has its place and, with the code, its length
pub own_row :
    (t : Transfer) (i : ℕ) → IsLawful t.am t.request → i < count_of t.request
    → ((row_of (own_location t i)).first ≡ address_of t.request i % 4) × (chosen_len t.am.wide (own_location t i) ≡ Some (datum_len t.request))
own_row t i is less =
    let own = datum_found t.am t.request i is less in
    let row = datum_placed t.am t.request i own.0 is less own.1 in
    rw (own_is t i own.0 own.1) row
