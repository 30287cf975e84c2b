-- What conditions want names places of the configuration.
use Rattle.std.proofs.Common.{◌≡◌, ℕ, ◌+◌, ◌*◌, Bool, true, List, [], ◌∷◌, ◌++◌, length, take, map, refl, ap, sym, ◌∙◌, subst}
use Rattle.std.specs.Prelude.{Some, slice_get, option_map}
use Rattle.std.proofs.lemmas.List.{length-replicate}
use Rattle.std.proofs.lemmas.Option.{same_Some, slice_get-map}
use Rattle.vme_memory.specs.Boards.{Board, zeros}
use Rattle.vme_script.specs.declared.board.BoardConfig.{BoardConfig}
use Rattle.vme_script.specs.Configurations.{Configuration, opening_memory}
use Rattle.vme_outcome_listing.specs.declared.place.Place.{Place}
use Rattle.vme_outcome_listing.specs.declared.place.Place.TheVariants.{Reply, Bytes}
use Rattle.vme_outcome_listing.specs.Places.{head_text, bytes_head, HasPlace, HasDigits, Names}

-- a text of the right length has digits for its place
digits_for : (place : Place) (head : List ℕ) (text : List ℕ) → head ≡ head_text place
    → ((slot board offset count : ℕ) → place ≡ Bytes slot board offset count → length text ≡ length head + 2 * count + 1)
    → HasDigits place text
digits_for (Reply slot number board line) head text is fits = tt
digits_for (Bytes slot board offset count) head text is fits =
    fits slot board offset count refl ∙ ap (λ (h : List ℕ). length h + 2 * count + 1) is

-- a text that begins as its place wants, and has the right length, names it
pub named : (config : Configuration) (place : Place) (head text : List ℕ) → HasPlace config place → head ≡ head_text place
    → take (length head) text ≡ head
    → ((slot board offset count : ℕ) → place ≡ Bytes slot board offset count → length text ≡ length head + 2 * count + 1)
    → Names config text place
named config place head text there is begins fits = record {
  there = there;
  begins = subst (λ (h : List ℕ). take (length h) text ≡ h) is begins;
  digits = digits_for place head text is fits;
}

-- as many zeros as a size says
zeros_len : (size : ℕ) → length (zeros size) ≡ size
unfolding zeros
zeros_len size = length-replicate size 0

-- a board's memory before anything is written has as many bytes as its entry says
pub memory_size : (boards : List BoardConfig) (i : ℕ) (memory : Board) (one : BoardConfig) → slice_get (map opening_memory boards) i ≡ Some memory
    → slice_get boards i ≡ Some one → length memory.bytes ≡ one.entry.size
memory_size boards i memory one at found =
    ap (λ (m : Board). length m.bytes) same ∙ zeros_len one.entry.size
  where
    same : memory ≡ opening_memory one
    same =
        same_Some memory (opening_memory one)
        (sym at ∙ slice_get-map opening_memory boards i ∙ ap (option_map opening_memory) found)
