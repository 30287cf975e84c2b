-- In a lawful map, the last row up to an address is the only one whose entry can contain it.
use Rattle.std.proofs.Common.{◌≡◌, ℕ, ◌-◌, ◌<◌, ◌≤◌, true, false, List, None, Some, ap, sym, subst, refl, arith}
use Rattle.std.specs.Prelude.{slice_get}
use Rattle.std.proofs.lemmas.List.Elements.{All-contains}
use Rattle.vme_am.specs.declared.code.Space.{Space}
use Rattle.vme_am.specs.declared.code.Space.TheVariants.{A16, A24, A32}
use Rattle.vme_am.specs.Codes.{CodeRow}
use Rattle.vme_am.specs.Spaces.{addresses_of}
use Rattle.vme_decode.specs.declared.entry.Entry.{Entry}
use Rattle.vme_decode.specs.declared.table.Row.{Row}
use Rattle.vme_decode.specs.Lawful.{first_refusal}
use Rattle.vme_decode.specs.Select.{responds, selection_at}
use Rattle.vme_decode.specs.Table.{rank, rank_of, IsRow, IsTable, IsLast, IsLastUpTo}
use Rattle.vme_decode.proofs.Ranges.{covers_from_has}
use Rattle.vme_decode.proofs.Aligned.{lawful_entry}
use Rattle.vme_decode.proofs.Apart.{one_place}
use Rattle.vme_decode.proofs.Rows.{row_at, same_row}
use Rattle.vme_decode.proofs.lemmas.Selection.{responding, selected_by, nothing_selected}

-- in a space, greater addresses have greater ranks
rank_le : (s : Space) (a b : ℕ) → a ≤ b → rank s a ≤ rank s b
rank_le A16 a b le = omega arith
rank_le A24 a b le = omega arith
rank_le A32 a b le = omega arith

-- the address b of the space t lies in the space s, between the addresses a and c
record IsBetween (s t : Space) (a b c : ℕ) : Type 0 where
  space : t ≡ s
  above : a ≤ b
  below : b ≤ c

-- an address whose rank lies between two ranks of a space lies in that space, between the two addresses
between : (s t : Space) (a b c : ℕ) → b < addresses_of t → c < addresses_of s → rank s a ≤ rank t b → rank t b ≤ rank s c
    → IsBetween s t a b c
between A16 A16 a b c b_in c_in from to = record { space = refl; above = omega arith; below = omega arith }
between A24 A24 a b c b_in c_in from to = record { space = refl; above = omega arith; below = omega arith }
between A32 A32 a b c b_in c_in from to = record { space = refl; above = omega arith; below = omega arith }
between A16 A24 a b c b_in c_in from to = absurd (omega arith)
between A16 A32 a b c b_in c_in from to = absurd (omega arith)
between A24 A16 a b c b_in c_in from to = absurd (omega arith)
between A24 A32 a b c b_in c_in from to = absurd (omega arith)
between A32 A16 a b c b_in c_in from to = absurd (omega arith)
between A32 A24 a b c b_in c_in from to = absurd (omega arith)

-- an entry that responds has a row with a rank up to the address
responding_row : (entries : List Entry) (code : CodeRow) (addr place : ℕ) (entry : Entry)
    → slice_get entries place ≡ Some entry → responds entry code addr ≡ true
    → IsRow entries (row_at place entry) × (rank_of (row_at place entry) ≤ rank code.space addr)
responding_row entries code addr place entry there responds_is =
    let has = (responding entry code addr responds_is).0 in (
      record { there = there; covering = omega arith },
      subst (λ s. rank s entry.base ≤ rank code.space addr) (sym has.space_is) (rank_le code.space entry.base addr has.from),
    )

-- the last row up to the address is the row of the entry that responds
chosen_row : (entries : List Entry) (rows : List Row) (code : CodeRow) (addr place : ℕ) (entry : Entry) (last : Row)
    → first_refusal entries ≡ None → IsTable entries rows → IsLast rows (rank code.space addr) last
    → slice_get entries place ≡ Some entry → responds entry code addr ≡ true → row_at place entry ≡ last
chosen_row entries rows code addr place entry last lawful table is_last there responds_is =
    let has = (responding entry code addr responds_is).0 in
    let row = responding_row entries code addr place entry there responds_is in
    let own : IsRow entries last = All-contains (IsRow entries) rows last table.own is_last.there in
    let inside = (lawful_entry entries place entry lawful there).inside in
    let inside_last = (lawful_entry entries last.place last.entry lawful own.there).inside in
    let from : rank_of (row_at place entry) ≤ rank_of last = is_last.after (row_at place entry) (table.complete _ row.0) row.1 in
    let between = between entry.space last.entry.space entry.base last.entry.base addr (omega arith) (omega arith) from
    (subst (λ s. rank_of last ≤ rank s addr) (sym has.space_is) is_last.up_to) in
    let space = last.entry.space in
    let covers_entry = covers_from_has entry space last.entry.base
    (record { space_is = sym between.space; from = between.above; below = omega arith }) in
    let covers_last = covers_from_has last.entry space last.entry.base
    (record { space_is = refl; from = omega arith; below = omega (arith, own.covering) }) in
    same_row entries (row_at place entry) last row.0 own
    (one_place entries place last.place entry last.entry space last.entry.base lawful there own.there covers_entry covers_last)

-- if each rank is greater than that of an address, nothing is selected
pub none_up_to : (entries : List Entry) (rows : List Row) (code : CodeRow) (addr : ℕ) → IsTable entries rows
    → IsLastUpTo rows (rank code.space addr) None → selection_at entries code addr ≡ None
none_up_to entries rows code addr table higher = nothing_selected entries code addr (λ place entry there responds_is.
    let row = responding_row entries code addr place entry there responds_is in
    let above = higher (row_at place entry) (table.complete (row_at place entry) row.0) in
    omega arith)

-- if the last row up to the address does not respond, nothing is selected
pub last_fails : (entries : List Entry) (rows : List Row) (code : CodeRow) (addr : ℕ) (last : Row)
    → first_refusal entries ≡ None → IsTable entries rows → IsLast rows (rank code.space addr) last
    → responds last.entry code addr ≡ false → selection_at entries code addr ≡ None
last_fails entries rows code addr last lawful table is_last fails =
    nothing_selected entries code addr (λ place entry there responds_is.
    let same = chosen_row entries rows code addr place entry last lawful table is_last there responds_is in
    let both = ap (λ (row : Row). responds row.entry code addr) same in
    cc)

-- if the last row up to the address responds, it is selected
pub last_selected : (entries : List Entry) (rows : List Row) (code : CodeRow) (addr : ℕ) (last : Row)
    → first_refusal entries ≡ None → IsTable entries rows → IsLast rows (rank code.space addr) last
    → responds last.entry code addr ≡ true → selection_at entries code addr ≡ Some (last.place, addr - last.entry.base)
last_selected entries rows code addr last lawful table is_last responds_is =
    let own : IsRow entries last = All-contains (IsRow entries) rows last table.own is_last.there in
    selected_by entries code addr last.place last.entry lawful own.there responds_is
