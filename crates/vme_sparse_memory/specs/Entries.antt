-- The words of a memory by those that are kept.
use Rattle.std.specs.Prelude.{ℕ, List, [], ◌∷◌, ◌==◌, if◌then◌else◌, replicate, slice_set}
use Rattle.vme_sparse_memory.specs.declared.entry.WordEntry.{WordEntry}

-- n words: those that entries name, each by its first entry, and zeros elsewhere
abbrev pub words_with : List WordEntry → ℕ → List ℕ
words_with [] n = replicate n 0
words_with (entry ∷ entries) n = slice_set (words_with entries n) entry.at entry.word

-- the entries that name a word: none if it is zero
abbrev pub own_entries : ℕ → ℕ → List WordEntry
own_entries at word = if word == 0 then [] else record { at = at; word = word } ∷ []
