-- The location that a slave senses for a datum selects as many bytes as the datum has, at any address.
use Rattle.std.proofs.Common.{◌≡◌, ℕ, ◌%◌, ◌<◌, zero, Bool, true, false, not, Some, ap, sym, ◌∙◌, arith, refl, inl, inr}
use Rattle.std.specs.Option.{option_and_then}
use Rattle.std.specs.Prelude.{◌==◌, nat_le}
use Rattle.std.proofs.lemmas.Bool.{cases_Bool, eqb-true}
use Rattle.vme_am.specs.Kinds.{is_block}
use Rattle.vme_lanes.specs.declared.location.Location.{Location}
use Rattle.vme_lanes.specs.declared.location.Location.TheVariants.{Byte0, Byte1, Byte2, Byte3, Bytes01, Bytes23, Bytes03, Bytes02, Bytes13, Bytes12}
use Rattle.vme_lanes.specs.declared.location.Strobes.{Strobes}
use Rattle.vme_lanes.specs.Rows.{row_of, location_sensed}
use Rattle.vme_lanes.proofs.lemmas.Tables.{own_sensed}
use Rattle.vme_cycle.specs.Requests.{datum_len, count_of, is_block_request}
use Rattle.vme_cycle.specs.Lawful.{Transfer}
use Rattle.vme_cycle.specs.Parts.{IsLawful}
use Rattle.vme_cycle.specs.SignalLines.{len_with, chosen_len, row_len, sensed_at}
use Rattle.vme_cycle.specs.Plans.{signals_of}
use Rattle.vme_cycle.proofs.Lawful.{single}
use Rattle.vme_cycle.proofs.Blocks.{block_datum_row, datum_found, datum_placed, same_lword}
use Rattle.vme_cycle.proofs.lemmas.Transfers.{own_is}

-- the strobes of a location, with A01 at a level
abbrev counted_strobes : Location → Bool → Strobes
counted_strobes own high = record (row_of own).strobes { a01 = high }

-- where LWORD* is high, A01 changes the place of the bytes but not their number
moved_len : (own : Location) (high : Bool) → (row_of own).strobes.lword ≡ true → row_len false (counted_strobes own high) ≡ Some (row_of own).len
unfolding location_sensed
moved_len Byte0 true h = refl
moved_len Byte0 false h = refl
moved_len Byte1 true h = refl
moved_len Byte1 false h = refl
moved_len Byte2 true h = refl
moved_len Byte2 false h = refl
moved_len Byte3 true h = refl
moved_len Byte3 false h = refl
moved_len Bytes01 true h = refl
moved_len Bytes01 false h = refl
moved_len Bytes23 true h = refl
moved_len Bytes23 false h = refl
moved_len Bytes03 high h = absurd cc
moved_len Bytes02 high h = absurd cc
moved_len Bytes13 high h = absurd cc
moved_len Bytes12 high h = absurd cc

-- with the strobes of a location of four bytes and A01 by the place r, a sensed location at r has four bytes
quad_len :
    (own l : Location) (r : ℕ) (high : Bool) → (row_of own).len ≡ 4 → nat_le 2 r ≡ high → location_sensed (counted_strobes own high) ≡ Some l
    → (row_of l).first ≡ r → (row_of l).len ≡ 4
unfolding location_sensed
quad_len Byte0 l r high four is sensed first = absurd cc
quad_len Byte1 l r high four is sensed first = absurd cc
quad_len Byte2 l r high four is sensed first = absurd cc
quad_len Byte3 l r high four is sensed first = absurd cc
quad_len Bytes01 l r high four is sensed first = absurd cc
quad_len Bytes23 l r high four is sensed first = absurd cc
quad_len Bytes03 l r true four is sensed first =
    let same : Bytes12 ≡ l = cc in let one : 1 ≡ r = ap (λ m. (row_of m).first) same ∙ first in let bad = rw (← one) at is in absurd cc
quad_len Bytes03 l r false four is sensed first = let same : Bytes03 ≡ l = cc in ap (λ m. (row_of m).len) (sym same)
quad_len Bytes02 l r high four is sensed first = absurd cc
quad_len Bytes13 l r high four is sensed first = absurd cc
quad_len Bytes12 l r high four is sensed first = absurd cc

-- with the strobes of a datum's location and A01 by the place r, a sensed location at r has as many bytes
block_len :
    (own l : Location) (r : ℕ) → (row_of own).strobes.lword ≡ not ((row_of own).len == 4)
    → location_sensed (counted_strobes own (nat_le 2 r)) ≡ Some l → (row_of l).first ≡ r → (row_of l).len ≡ (row_of own).len
block_len own l r lword sensed first =
    elim (cases_Bool ((row_of own).len == 4)) [
      | inl four ↦
          let long : (row_of own).len ≡ 4 = eqb-true _ 4 four in
          quad_len own l r (nat_le 2 r) long refl sensed first ∙ sym long
      | inr other ↦
          let high : (row_of own).strobes.lword ≡ true = rw other at lword in
          let moved = moved_len own (nat_le 2 r) high in
          let found : row_len false (counted_strobes own (nat_le 2 r)) ≡ Some (row_of l).len = ap (option_and_then (chosen_len false)) sensed in
          cc
    ]

-- a location that a slave senses for a datum at the location's place selects as many bytes as the datum has
pub sensed_len :
    (t : Transfer) (i at : ℕ) (l : Location) → IsLawful t.am t.request → i < count_of t.request → sensed_at (signals_of t i) at ≡ Some l
    → (row_of l).first ≡ at % 4 → chosen_len t.am.wide l ≡ Some (datum_len t.request)
unfolding signals_of
sensed_len t i at l is less sensed place =
    elim (cases_Bool (is_block_request t.request)) [
      | inl block ↦
          let kind : is_block t.am.kind ≡ true = is.kind ∙ block in
          let some : zero < count_of t.request = omega (arith, less) in
          let first = datum_found t.am t.request zero is some in
          let own = block_datum_row t.am t.request i is block in
          let first_is = own_is t zero first.0 first.1 in
          let here = own_is t i own.0 own.1.at.found in
          let lword = same_lword t.am t.request i first.0 own.0 is less first.1 own.1.at.found in
          let shown : location_sensed (counted_strobes own.0 (nat_le 2 (at % 4))) ≡ Some l = rw (kind, first_is, here, lword) at sensed in
          let placed = datum_placed t.am t.request i own.0 is less own.1.at.found in
          ap (len_with t.am.wide) (block_len own.0 l (at % 4) own.1.quad shown place) ∙ placed.1
      | inr alone ↦
          let kind : is_block t.am.kind ≡ false = is.kind ∙ alone in
          let one = single t.request alone in
          let none : i ≡ zero = omega (arith, one, less) in
          let own = datum_found t.am t.request i is less in
          let here = own_is t i own.0 own.1 in
          let shown : location_sensed (row_of own.0).strobes ≡ Some l = rw (kind, ← none, here) at sensed in
          let same : own.0 ≡ l = let mine = own_sensed own.0 in cc in
          ap (λ m. chosen_len t.am.wide m) (sym same) ∙ (datum_placed t.am t.request i own.0 is less own.1).1
    ]
