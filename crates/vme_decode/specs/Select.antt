-- The entry of a map that a cycle selects.
use Rattle.std.specs.Prelude.{◌≡◌, ℕ, ◌+◌, ◌-◌, ◌<◌, Bool, ◌&&◌, List, find, Option, Some, option_map, option_and_then, slice_get, IsTrue}
use Rattle.std.specs.List.{enumerate_from}
use Rattle.vme_am.specs.Codes.{CodeRow}
use Rattle.vme_cycle.specs.SignalLines.{SignalLines, first_byte}
use Rattle.vme_decode.specs.declared.entry.Entry.{Entry}
use Rattle.vme_decode.specs.Entries.{covers, admits}

-- whether an entry responds: it covers the address in the code's space and admits the code;
-- IEEE 1014-1987, 2.3.5 (addressing)
abbrev pub responds : Entry → CodeRow → ℕ → Bool
responds entry code addr = covers entry code.space addr && admits entry code

-- the position of the first entry that responds, and the offset from its base; in a lawful map no other entry responds
abbrev pub selection_at : List Entry → CodeRow → ℕ → Option (ℕ × ℕ)
selection_at entries code addr =
    option_map (λ found. (found.0, addr - found.1.base)) (find (λ found. responds found.1 code addr) (enumerate_from 0 entries))

-- the position of the entry that a cycle selects by its first byte, and the offset of that byte
unfoldable pub selection : List Entry → SignalLines → Option (ℕ × ℕ)
selection entries s = option_and_then (selection_at entries s.am) (first_byte s)

-- the entry at a position responds to a code and an address, at an offset from its base: it has the code's space, admits
-- the code, and contains the address; IEEE 1014-1987, 2.3.5 (addressing)
pub record RespondsAt (entries : List Entry) (code : CodeRow) (addr place offset : ℕ) : Type 0 where
  pub entry : Entry
  pub there : slice_get entries place ≡ Some entry
  pub space : entry.space ≡ code.space
  pub admits : IsTrue (admits entry code)
  pub distance : addr ≡ entry.base + offset
  pub within : offset < entry.size

-- a cycle selects the entry at a position: that entry responds to its code and the address of its first byte;
-- IEEE 1014-1987, 2.3.5 (addressing)
pub record IsSelected (entries : List Entry) (s : SignalLines) (place offset : ℕ) : Type 0 where
  pub addr : ℕ
  pub first : first_byte s ≡ Some addr
  pub falls : RespondsAt entries s.am addr place offset
