-- What the answers to the data of a lawful transfer leave of it.
use Rattle.std.proofs.Common.{◌≡◌, ℕ, suc, ◌<◌, ◌==◌, Bool, true, false, not, ◌&&◌, ◌||◌, if◌then◌else◌, Option, Some, refl, ap, sym, subst, ◌∙◌}
use Rattle.std.specs.Prelude.{◌%◌, nat_le, nat_lt}
use Rattle.std.specs.Bool.{beq}
use Rattle.vme_am.specs.Kinds.{is_block}
use Rattle.vme_lanes.specs.declared.location.Location.{Location}
use Rattle.vme_lanes.specs.declared.location.Strobes.{Strobes}
use Rattle.vme_lanes.specs.Rows.{row_of, location_sensed}
use Rattle.vme_lanes.proofs.lemmas.Tables.{own_sensed}
use Rattle.vme_cycle.specs.Requests.{count_of}
use Rattle.vme_cycle.specs.Lawful as cycles
use Rattle.vme_cycle.specs.Lawful.{IsLawfulTransfer}
use Rattle.vme_cycle.specs.Plans.{own_location}
use Rattle.vme_protocol.specs.declared.sample.Sample.{Sample}
use Rattle.vme_protocol.specs.declared.place.Place.{Place}
use Rattle.vme_protocol.specs.declared.transfer.Transfer.{Transfer}
use Rattle.vme_protocol.specs.Transfers.{is_address_phase, next_count, passed, took, after_answer}
use Rattle.vme_protocol.specs.Places as places
use Rattle.vme_protocol.specs.Places.{a01_at, location_in, place_at, place_in, place_of, misfits_block, misfits_cycle, misfits, breaks_at, breaks_transfer}
use Rattle.vme_legal_traces.proofs.Located.{IsBegun, IsNext, level_for, place_for}
use Rattle.vme_legal_traces.proofs.Fitting.{may_come, place_judged, takes, took_begun, took_next}

-- a datum with a number comes next in a transfer
pub record IsReady (t : cycles.Transfer) (i : ℕ) (u : Transfer) : Type 0 where
  pub begun : IsBegun t u
  pub next : IsNext t i u
  pub addressed : t.am.wide ≡ true → u.addressed ≡ true

-- the strobes of a datum, at its answer
pub record HasStrobes (t : cycles.Transfer) (i : ℕ) (s : Sample) : Type 0 where
  pub ds1 : s.ds1 ≡ (row_of (own_location t i)).strobes.ds1
  pub ds0 : s.ds0 ≡ (row_of (own_location t i)).strobes.ds0

-- an answer that ends no address phase
no_phase : (wide addressed low : Bool) → (wide ≡ true → addressed ≡ true) → (wide && not addressed && low) ≡ false
no_phase false addressed low is = refl
no_phase true true low is = refl
no_phase true false low is = absurd (let bad = is refl in cc)

-- a datum takes what is remembered of the address phase with it
took_addressed : (u : Transfer) (place : Place) (s : Sample) → (took u place s).addressed ≡ true
unfolding took
took_addressed u place s = refl

module _ (t : cycles.Transfer) (lawful : IsLawfulTransfer t) (i : ℕ) (less : i < count_of t.request) (u : Transfer) (s : Sample)
    (level : s.write ≡ level_for t) (strobes : HasStrobes t i s) where
  -- a datum may come
  pub datum_comes : IsReady t i u → breaks_transfer u s ≡ false
  datum_comes ready = may_come t lawful u ready.begun s level i less ready.next strobes.ds1 strobes.ds0

  -- no address phase is open
  phase_over : IsReady t i u → is_address_phase u s ≡ false
  phase_over ready = no_phase u.wide u.addressed (not s.dtack) (λ is. ready.addressed (sym ready.begun.wide ∙ is))

  -- after DTACK* the next one comes
  pub datum_leaves : IsReady t i u → s.dtack ≡ false → IsReady t (suc i) (after_answer u (place_of u s) s)
  datum_leaves ready low =
      let begun = ready.begun in
      let taken : after_answer u (place_of u s) s ≡ took u (place_for t i) s
      = takes t lawful u begun s level i less ready.next strobes.ds1 strobes.ds0 (phase_over ready) in
      subst (λ (x : Transfer). IsReady t (suc i) x) (sym taken) (record {
        begun = took_begun t u begun s level (place_for t i) low;
        next = took_next t u begun s level i ready.next;
        addressed = λ is. took_addressed u (place_for t i) s;
      })

-- an answer that ends an address phase
in_phase : (wide addressed dtack : Bool) → wide ≡ true → addressed ≡ false → dtack ≡ false → (wide && not addressed && not dtack) ≡ true
in_phase wide addressed dtack one two three = rw (one, two, three) refl

-- an answer without a datum leaves a transfer as it began
passed_begun : (t : cycles.Transfer) (u : Transfer) → IsBegun t u → IsBegun t (passed u)
passed_begun t u b =
    record { judged = b.judged; row = b.row; block = b.block; wide = b.wide; base = b.base; a01 = b.a01; lword = b.lword; whole = b.whole }

-- a transfer in whose address phase nothing has come
pub record IsFresh (t : cycles.Transfer) (u : Transfer) : Type 0 where
  pub begun : IsBegun t u
  pub none : u.count ≡ 0
  pub addressed : u.addressed ≡ false

module _ (t : cycles.Transfer) (lawful : IsLawfulTransfer t) (less : 0 < count_of t.request) (u : Transfer) (s : Sample)
    (level : s.write ≡ level_for t) (strobes : HasStrobes t 0 s) (fresh : IsFresh t u) where
  -- the first cycle may come
  pub first_comes : breaks_transfer u s ≡ false
  first_comes = may_come t lawful u fresh.begun s level 0 less fresh.none strobes.ds1 strobes.ds0

  -- after an address phase the first datum comes
  pub phase_leaves : t.am.wide ≡ true → s.dtack ≡ false → IsReady t 0 (after_answer u (place_of u s) s)
  unfolding after_answer
  phase_leaves wide low =
      let begun = fresh.begun in
      let phase : is_address_phase u s ≡ true = in_phase u.wide u.addressed s.dtack (begun.wide ∙ wide) fresh.addressed low in
      let passes : after_answer u (place_of u s) s ≡ passed u
      = ap (λ (p : Option Place). after_answer u p s) (place_judged t lawful u begun s level 0 less fresh.none strobes.ds1 strobes.ds0)
      ∙ ap (λ (b : Bool). if b then passed u else took u (place_for t 0) s) phase in
      subst (λ (x : Transfer). IsReady t 0 x) (sym passes) (record {
        begun = passed_begun t u begun;
        next = fresh.none;
        addressed = λ is. refl;
      })

-- a read-modify-write after its read half
pub record IsHalved (t : cycles.Transfer) (u : Transfer) : Type 0 where
  pub begun : IsBegun t u
  pub count : u.count ≡ 1
  pub write : u.write ≡ true
  pub ds1 : u.ds1 ≡ (row_of (own_location t 0)).strobes.ds1
  pub ds0 : u.ds0 ≡ (row_of (own_location t 0)).strobes.ds0

-- what a datum at a place leaves of a read half
took_halved : (t : cycles.Transfer) (u : Transfer) (begun : IsBegun t u) (s : Sample) (level : s.write ≡ level_for t) → level_for t ≡ true → HasStrobes t 0 s
    → u.count ≡ 0 → s.dtack ≡ false → IsHalved t (took u (place_for t 0) s)
unfolding took
took_halved t u begun s level read strobes none low = record {
  begun = took_begun t u begun s level (place_for t 0) low;
  count = ap next_count none;
  write = ap (λ (c : ℕ). if c == 0 then s.write else u.write) none ∙ level ∙ read;
  ds1 = strobes.ds1;
  ds0 = strobes.ds0;
}

-- after a read half its write half comes
pub half_leaves : (t : cycles.Transfer) (lawful : IsLawfulTransfer t) (less : 0 < count_of t.request) (u : Transfer) (s : Sample)
    (level : s.write ≡ level_for t) (strobes : HasStrobes t 0 s) → level_for t ≡ true → IsReady t 0 u → s.dtack ≡ false
    → IsHalved t (after_answer u (place_of u s) s)
half_leaves t lawful less u s level strobes read ready low =
    let taken : after_answer u (place_of u s) s ≡ took u (place_for t 0) s
    = takes t lawful u ready.begun s level 0 less ready.next strobes.ds1 strobes.ds0 (phase_over t lawful 0 less u s level strobes ready) in
    subst (λ (x : Transfer). IsHalved t x) (sym taken) (took_halved t u ready.begun s level read strobes ready.next low)

-- equal levels
beq_self : (a b : Bool) → a ≡ b → beq a b ≡ true
beq_self true true is = refl
beq_self false false is = refl
beq_self true false is = absurd cc
beq_self false true is = absurd cc

-- a second cycle that writes what the first has read
second_cycle : (count : ℕ) (first now ds1 ds0 : Bool) → count ≡ 1 → first ≡ true → now ≡ false → ds1 ≡ true → ds0 ≡ true
    → (nat_lt 1 count || count == 1 && not (first && not now && ds1 && ds0)) ≡ false
second_cycle count first now ds1 ds0 one two three four five = rw (one, two, three, four, five) refl

-- strobes from their levels
abbrev strobes_with : Bool → Bool → Bool → Bool → Strobes
strobes_with ds1 ds0 a01 lword = record { ds1 = ds1; ds0 = ds0; a01 = a01; lword = lword }

module _ (t : cycles.Transfer) (u : Transfer) (s : Sample) (alone : is_block t.am.kind ≡ false) (strobes : HasStrobes t 0 s) (halved : IsHalved t u) where
  -- the transfer is no block
  single : u.block ≡ false
  single = halved.begun.block ∙ alone

  -- the write half is at the location of its read half
  pub half_at : location_in u s ≡ Some (own_location t 0)
  half_at =
      let row = row_of (own_location t 0) in
      let a01 : a01_at u ≡ row.strobes.a01
      = ap (λ (b : Bool). if b && nat_lt 0 u.count then nat_le 2 (u.next % 4) else u.a01) single ∙ halved.begun.a01 in
      ap (λ (x : Bool). location_sensed (strobes_with x s.ds0 (a01_at u) u.lword)) strobes.ds1
      ∙ ap (λ (x : Bool). location_sensed (strobes_with row.strobes.ds1 x (a01_at u) u.lword)) strobes.ds0
      ∙ ap (λ (x : Bool). location_sensed (strobes_with row.strobes.ds1 row.strobes.ds0 x u.lword)) a01
      ∙ ap (λ (x : Bool). location_sensed (strobes_with row.strobes.ds1 row.strobes.ds0 row.strobes.a01 x)) halved.begun.lword
      ∙ own_sensed (own_location t 0)

  -- the write half may come
  pub half_comes : s.write ≡ false → breaks_transfer u s ≡ false
  unfolding breaks_transfer place_in
  half_comes low =
      let l = own_location t 0 in
      let place : Place = record { location = l; addr = places.addr_of u l; len = places.len_of u l } in
      let fits : misfits u place s ≡ false
      = ap (λ (b : Bool). if b then misfits_block u place s else misfits_cycle u s) single
      ∙ second_cycle u.count u.write s.write (beq s.ds1 u.ds1) (beq s.ds0 u.ds0) halved.count halved.write low
      (beq_self s.ds1 u.ds1 (strobes.ds1 ∙ sym halved.ds1)) (beq_self s.ds0 u.ds0 (strobes.ds0 ∙ sym halved.ds0)) in
      ap (λ (found : Option Location). breaks_at u s (place_at u found)) half_at ∙ ap (λ (b : Bool). b || misfits u place s) halved.begun.whole ∙ fits
