-- The forms of the command line: `vme cycles`, `vme step FILE` and `vme run FILE`.
use Rattle.std.specs.Prelude.{ℕ, ◌==◌, ◌&&◌, if◌then◌else◌, Bool, true, not, List, [], ◌∷◌, codes, Option, Some, None, option_map, string_bytes}
use Rattle.std.specs.Str.{bytes_eq}
use Rattle.vme_engines.specs.declared.words.Form.{Form}
use Rattle.vme_engines.specs.declared.words.Form.TheVariants as form
use Rattle.vme_engines.specs.declared.words.WordsFault.{WordsFault}
use Rattle.vme_engines.specs.declared.words.WordsFault.TheVariants.{Usage, Memory}

-- the bytes of a word
abbrev pub Word : Type 0
Word = List ℕ

-- what a command line asks for, with the bytes of a path
pub data Asked : Type 0 where
  Cycles : Asked
  Step : Word → Asked
  Run : Word → Asked

-- what a form asks for
abbrev pub asked_by : Form → Asked
asked_by form.Cycles = Cycles
asked_by (form.Step path) = Step (string_bytes path)
asked_by (form.Run path) = Run (string_bytes path)

-- whether a word is `--`, after which any word is a path
abbrev pub is_separator : Word → Bool
is_separator word = bytes_eq word (codes "--")

-- whether a word is a path if no `--` precedes it: it is empty, is one byte, or does not begin with a hyphen
abbrev pub is_path : Word → Bool
is_path [] = true
is_path (first ∷ []) = true
is_path (first ∷ second ∷ rest) = not (first == 45)

-- the path that the words after `step` or `run` name: one word, with at most one `--` before or after it
abbrev pub path_in : List Word → Option Word
path_in [] = None
path_in (word ∷ []) = if is_path word then Some word else None
path_in (first ∷ second ∷ []) =
    if is_separator first then Some second else (if is_path first && is_separator second then Some first else None)
path_in (first ∷ second ∷ third ∷ rest) = None

-- what the words after `cycles` ask for: `cycles`, if there is none or only one `--`
abbrev pub cycles_in : List Word → Option Asked
cycles_in [] = Some Cycles
cycles_in (word ∷ []) = if is_separator word then Some Cycles else None
cycles_in (first ∷ second ∷ rest) = None

-- what the words after the program's name ask for
abbrev pub asked_after : List Word → Option Asked
asked_after [] = None
asked_after (command ∷ words) =
    if bytes_eq (codes "cycles") command then cycles_in words
    else (if bytes_eq (codes "step") command then option_map Step (path_in words)
    else (if bytes_eq (codes "run") command then option_map Run (path_in words) else None))

-- what a command line asks for, if it has one of the three forms; its first word is the program's name
abbrev pub asked_in : List Word → Option Asked
asked_in [] = None
asked_in (program ∷ words) = asked_after words

-- the exit status for words that have none of the forms, or for which an allocation failed
abbrev pub words_status_of : WordsFault → ℕ
words_status_of Usage = 2
words_status_of Memory = 3
