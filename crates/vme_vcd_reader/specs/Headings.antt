-- How a reader remembers a header.
use Rattle.std.specs.Prelude.{◌≡◌, ℕ, List, [], ◌∷◌, ◌++◌, length, take}
use Rattle.vme_vcd_reader.specs.declared.header.Header.{Header}
use Rattle.vme_vcd_reader.specs.declared.header.Progress.{Progress}
use Rattle.vme_vcd_reader.specs.declared.header.Progress.TheVariants as progress
use Rattle.vme_vcd_reader.specs.declared.word.Word.{Word}
use Rattle.vme_vcd_reader.specs.Headers.{Heading, Outcome, Goes, Declares, Ends, Rejects, is_long}

-- a word: its first 255 bytes, and whether it has more
pub record IsWord (word : List ℕ) (w : Word) : Type 0 where
  pub bytes : w.bytes.items ≡ take 255 word
  pub cut : w.is_cut ≡ is_long word

-- the names of open scopes, from the outermost to the innermost, each with a dot behind it
abbrev pub path_of : List (List ℕ) → List ℕ
path_of [] = []
path_of (name ∷ names) = path_of names ++ (name ++ 46 ∷ [])

-- the length of the path before each of them
abbrev pub lengths_of : List (List ℕ) → List ℕ
lengths_of [] = []
lengths_of (name ∷ names) = lengths_of names ++ length (path_of names) ∷ []

-- a reader remembers a header, but for the begin of a word
pub record Stands (h : Heading) (s : Header) : Type 0 where
  pub next : s.next ≡ h.next
  pub path : s.path.items ≡ path_of h.scopes
  pub lengths : s.lengths.items ≡ lengths_of h.scopes
  pub opened : s.scopes ≡ h.opened
  pub size : s.size ≡ h.size
  pub identifier : s.identifier ≡ h.identifier
  pub name : IsWord h.name s.name

-- a reader remembers a header
pub record IsHeading (h : Heading) (s : Header) : Type 0 where
  pub stands : Stands h s
  pub word : IsWord h.word s.word

-- a reader has read a word, and reports what became of the header
abbrev pub Reads : Outcome → Progress → Header → Type 0
Reads (Goes h) it s = (it ≡ progress.More) × Stands h s
Reads (Declares h) it s = (it ≡ progress.Variable) × Stands h s
Reads Ends it s = it ≡ progress.Ended
Reads (Rejects fault) it s = ⊥

-- a reader has read a byte, and reports what became of the header
abbrev pub ReadsByte : Outcome → Progress → Header → Type 0
ReadsByte (Goes h) it s = (it ≡ progress.More) × IsHeading h s
ReadsByte (Declares h) it s = (it ≡ progress.Variable) × IsHeading h s
ReadsByte Ends it s = it ≡ progress.Ended
ReadsByte (Rejects fault) it s = ⊥
