-- Defines histories of several objects, and the part of such a history that belongs to one object.
use Rattle.std.specs.Prelude.{ℕ, ◌≡◌, ◌*◌, ◌==◌, if◌then◌else◌, List, filter_map, Option, Some, None}
use mathlib.Core.Option.{some}
use lib.ListN.{get_elem?}
use Rattle.vme_object.specs.declared.history.Entry.{Entry}
use Rattle.vme_object.specs.History.{IsLegal, entry}
use Rattle.vme_port_array.specs.declared.indexed.Indexed.{Indexed}

-- the index of an object's word: the words of two neighbouring objects are 16 words apart
abbrev pub word_of : ℕ → ℕ
word_of i = i * 16

-- a command for the object at an index
abbrev pub indexed : {C : Type 0} → ℕ → C → Indexed C
indexed index cmd = record { index = index; cmd = cmd }

module _ {C R : Type 0} where
  -- what an entry adds to the history of the object at index i
  abbrev pub part_entry : ℕ → Entry (Indexed C) R → Option (Entry C R)
  part_entry i e = if e.cmd.index == i then Some (entry e.who e.cmd.cmd e.reply) else None

  -- the history of the object at index i
  abbrev pub part : ℕ → List (Entry (Indexed C) R) → List (Entry C R)
  part i h = filter_map (part_entry i) h

-- the part of each object is legal from the state that the object starts in
abbrev pub AreLegal : {S C R : Type 0} → (S → C → S × R) → List S → List (Entry (Indexed C) R) → Type 0
AreLegal {S} step starts h = (i : ℕ) (start : S) → get_elem? starts i ≡ some start → IsLegal step start (part i h)
