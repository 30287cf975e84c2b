-- The selected entry is the one that responds; in a lawful map it is the only one.
use Rattle.std.proofs.Common.{◌≡◌, ℕ, ◌-◌, ◌%◌, ◌<◌, ◌≤◌, true, List, Option, Some, None, length, refl, ap, sym, ◌∙◌, arith}
use Rattle.std.specs.Prelude.{option_map, option_and_then, slice_get, IfSome}
use Rattle.std.proofs.lemmas.Bool.{and_parts, and_from}
use Rattle.std.proofs.lemmas.Option.{option_and_then_some, some_pair_parts, slice_get_within}
use Rattle.vme_am.specs.Codes.{CodeRow}
use Rattle.vme_cycle.specs.SignalLines.{SignalLines}
use Rattle.vme_decode.specs.declared.entry.Entry.{Entry}
use Rattle.vme_decode.specs.Entries.{covers, admits}
use Rattle.vme_decode.specs.Lawful.{first_refusal}
use Rattle.vme_cycle.specs.SignalLines.{first_byte}
use Rattle.vme_decode.specs.Select.{responds, selection_at, selection, RespondsAt, IsSelected}
use Rattle.vme_decode.proofs.Ranges.{Has, has_from_covers, covers_from_has}
use Rattle.vme_decode.proofs.Aligned.{lawful_entry, same_remainder}
use Rattle.vme_decode.proofs.Apart.{one_place}
use Rattle.vme_decode.proofs.Found.{first_from, found_at, only_one}

-- the position and the offset of a selection are those of the entry that was found
found_from : (found : Option (ℕ × Entry)) (addr place offset : ℕ)
    → option_map {U = ℕ × ℕ} (λ p. (p.0, addr - p.1.base)) found ≡ Some (place, offset)
    → (entry : Entry) × (found ≡ Some (place, entry)) × (addr - entry.base ≡ offset)
found_from None addr place offset chosen = cc
found_from (Some p) addr place offset chosen =
    let same = some_pair_parts p.0 place (addr - p.1.base) offset chosen in
    (p.1, ap (λ k. Some (k, p.1)) same.0, same.1)

-- an option that has no pair is None
no_pair : (found : Option (ℕ × ℕ)) → ((place offset : ℕ) → found ≡ Some (place, offset) → ⊥) → found ≡ None
no_pair None none = refl
no_pair (Some p) none = absurd (none p.0 p.1 refl)

-- an entry that responds contains the address in the code's space and admits the code
pub responding : (entry : Entry) (code : CodeRow) (addr : ℕ) → responds entry code addr ≡ true
    → Has entry code.space addr × (admits entry code ≡ true)
responding entry code addr responds_is =
    let parts = and_parts (covers entry code.space addr) (admits entry code) responds_is in
    (has_from_covers entry code.space addr parts.0, parts.1)

-- the entry that is selected for a code and an address responds to them
pub place_responds : (entries : List Entry) (code : CodeRow) (addr place offset : ℕ)
    → selection_at entries code addr ≡ Some (place, offset) → RespondsAt entries code addr place offset
unfolding first_from
place_responds entries code addr place offset chosen =
    let test = λ (entry : Entry). responds entry code addr in
    let from = found_from (first_from test 0 entries) addr place offset chosen in
    let at = found_at test entries place from.0 from.1 in
    let shows = responding from.0 code addr at.1 in
    record {
      entry = from.0;
      there = at.0;
      space = shows.0.space_is;
      admits = shows.1;
      distance = omega (arith, from.2, shows.0.from);
      within = omega (arith, shows.0.below, from.2, shows.0.from);
    }

-- an entry that has the code's space, admits the code and contains the address passes the test `responds`
responds_by_facts : (entries : List Entry) (code : CodeRow) (addr place offset : ℕ) (facts : RespondsAt entries code addr place offset)
    → responds facts.entry code addr ≡ true
responds_by_facts entries code addr place offset facts =
    let has : Has facts.entry code.space addr =
    record { space_is = facts.space; from = omega (arith, facts.distance); below = omega (arith, facts.within, facts.distance) } in
    and_from _ _ (covers_from_has facts.entry code.space addr has) facts.admits

-- if no entry responds, nothing is selected
pub nothing_selected : (entries : List Entry) (code : CodeRow) (addr : ℕ)
    → ((place : ℕ) (entry : Entry) → slice_get entries place ≡ Some entry → responds entry code addr ≡ true → ⊥)
    → selection_at entries code addr ≡ None
nothing_selected entries code addr none = no_pair (selection_at entries code addr) (λ place offset chosen.
    let facts = place_responds entries code addr place offset chosen in
    none place facts.entry facts.there (responds_by_facts entries code addr place offset facts))

-- in a lawful map, an entry that responds is the selected one
pub selected_by : (entries : List Entry) (code : CodeRow) (addr place : ℕ) (entry : Entry) → first_refusal entries ≡ None
    → slice_get entries place ≡ Some entry → responds entry code addr ≡ true
    → selection_at entries code addr ≡ Some (place, addr - entry.base)
unfolding first_from
selected_by entries code addr place entry lawful there responds_is =
    let test = λ (entry : Entry). responds entry code addr in
    let covers_of = λ (e : Entry) (h : test e ≡ true). (and_parts (covers e code.space addr) (admits e code) h).0 in
    ap (option_map (λ p. (p.0, addr - p.1.base)))
    (only_one test entries place entry there responds_is
    (λ k e at_k responds_k.
    one_place entries k place e entry code.space addr lawful at_k there (covers_of e responds_k) (covers_of entry responds_is)))

-- in a lawful map, an entry that has the code's space, admits the code and contains the address is the selected one
pub responds_place : (entries : List Entry) (code : CodeRow) (addr place offset : ℕ) → first_refusal entries ≡ None
    → RespondsAt entries code addr place offset → selection_at entries code addr ≡ Some (place, offset)
responds_place entries code addr place offset lawful facts =
    let responds_is = responds_by_facts entries code addr place offset facts in
    let distance : addr - facts.entry.base ≡ offset = omega (arith, facts.distance) in
    selected_by entries code addr place facts.entry lawful facts.there responds_is ∙ ap (λ o. Some (place, o)) distance

-- in a lawful map, the selected offset has the address's remainder modulo four
pub place_remainder : (entries : List Entry) (code : CodeRow) (addr place offset : ℕ) → first_refusal entries ≡ None
    → selection_at entries code addr ≡ Some (place, offset) → offset % 4 ≡ addr % 4
place_remainder entries code addr place offset lawful chosen =
    let facts = place_responds entries code addr place offset chosen in
    same_remainder facts.entry.base addr offset (lawful_entry entries place facts.entry lawful facts.there).aligned facts.distance

-- in a lawful map, an address has the same remainder modulo four from the base of an entry that responds
pub responding_remainder : (entries : List Entry) (code : CodeRow) (addr place : ℕ) (entry : Entry)
    → first_refusal entries ≡ None → slice_get entries place ≡ Some entry → responds entry code addr ≡ true
    → (addr - entry.base) % 4 ≡ addr % 4
responding_remainder entries code addr place entry lawful there responds_is =
    place_remainder entries code addr place (addr - entry.base) lawful
    (selected_by entries code addr place entry lawful there responds_is)

-- a cycle selects the entry of its selection
pub selected_facts : (entries : List Entry) (s : SignalLines) (place offset : ℕ)
    → selection entries s ≡ Some (place, offset) → IsSelected entries s place offset
unfolding selection
selected_facts entries s place offset chosen =
    option_and_then_some (selection_at entries s.am) (first_byte s) (place, offset) chosen
    (λ addr first chosen_at.
    record { addr = addr; first = first; falls = place_responds entries s.am addr place offset chosen_at })

-- the code of a cycle and the address of its first byte determine its selection
pub selection_by : (entries : List Entry) (s : SignalLines) (addr : ℕ) → first_byte s ≡ Some addr
    → selection entries s ≡ selection_at entries s.am addr
unfolding selection
selection_by entries s addr first = ap (option_and_then (selection_at entries s.am)) first

-- in a lawful map, the selection of a cycle is the entry that the cycle selects
pub facts_selected : (entries : List Entry) (s : SignalLines) (place offset : ℕ) → first_refusal entries ≡ None
    → IsSelected entries s place offset → selection entries s ≡ Some (place, offset)
facts_selected entries s place offset lawful facts =
    selection_by entries s facts.addr facts.first ∙ responds_place entries s.am facts.addr place offset lawful facts.falls

-- the cycle selects the entry that a function returned as its selection
pub result_facts : (result : Option (ℕ × ℕ)) (entries : List Entry) (s : SignalLines) → result ≡ selection entries s
    → IfSome result (λ found. IsSelected entries s found.0 found.1)
result_facts None entries s result_is = tt
result_facts (Some found) entries s result_is = selected_facts entries s found.0 found.1 (sym result_is)

-- a function that returns the selection returns a position in the map
pub result_place : (result : Option (ℕ × ℕ)) (entries : List Entry) (code : CodeRow) (addr : ℕ)
    → result ≡ selection_at entries code addr → IfSome result (λ found. found.0 < length entries)
result_place None entries code addr result_is = tt
result_place (Some found) entries code addr result_is =
    let facts = place_responds entries code addr found.0 found.1 (sym result_is) in
    slice_get_within entries found.0 facts.entry facts.there

-- a function that returns the selection returns an offset of at most the address
pub result_offset : (result : Option (ℕ × ℕ)) (entries : List Entry) (code : CodeRow) (addr : ℕ)
    → result ≡ selection_at entries code addr → IfSome result (λ found. found.1 ≤ addr)
result_offset None entries code addr result_is = tt
result_offset (Some found) entries code addr result_is =
    let facts = place_responds entries code addr found.0 found.1 (sym result_is) in
    let distance = facts.distance in omega arith

-- in a lawful map, a function that returns the selection returns an offset with the address's remainder modulo four
pub result_remainder : (result : Option (ℕ × ℕ)) (entries : List Entry) (code : CodeRow) (addr : ℕ)
    → first_refusal entries ≡ None → result ≡ selection_at entries code addr → IfSome result (λ found. found.1 % 4 ≡ addr % 4)
result_remainder None entries code addr lawful result_is = tt
result_remainder (Some found) entries code addr lawful result_is =
    place_remainder entries code addr found.0 found.1 lawful (sym result_is)
