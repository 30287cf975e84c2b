-- Lawful maps: the refusals of a list of entries, in order.
use Rattle.std.specs.Prelude.{◌%◌, nat_lt, Bool, false, not, ◌==◌, ◌||◌, List, [], ◌∷◌, ◌++◌, length, flat_map, Option}
use Rattle.std.specs.List.{list_any}
use Rattle.vme_am.specs.Spaces.{addresses_of}
use Rattle.vme_decode.specs.declared.entry.Entry.{Entry}
use Rattle.vme_decode.specs.declared.fault.MapFault.{MapFault}
use Rattle.vme_decode.specs.declared.fault.MapFault.TheVariants.{TooMany, Misaligned, OutsideSpace, Overlap}
use Rattle.vme_cycle.specs.Refusals.{where_true, first_of}
use Rattle.vme_decode.specs.Entries.{end_of, overlap}

-- the refusals of one entry in order: a base that is not a multiple of four (C3), an end outside the space (C2)
abbrev pub entry_refusals : Entry → List (Option MapFault)
entry_refusals entry =
    where_true (not (entry.base % 4 == 0)) Misaligned
    ∷ where_true (nat_lt (addresses_of entry.space) (end_of entry)) OutsideSpace
    ∷ []

-- whether some entry shares an address with a later one
abbrev pub some_overlap : List Entry → Bool
some_overlap [] = false
some_overlap (entry ∷ more) = list_any (overlap entry) more || some_overlap more

-- the refusals of a list of entries in order: more than 21 entries (C4), those of each entry, a shared address (C1)
abbrev pub refusals : List Entry → List (Option MapFault)
refusals entries =
    where_true (nat_lt 21 (length entries)) TooMany
    ∷ flat_map entry_refusals entries
    ++ where_true (some_overlap entries) Overlap ∷ []

-- the first refusal of a list of entries; a map without one is lawful
unfoldable pub first_refusal : List Entry → Option MapFault
first_refusal entries = first_of (refusals entries)
