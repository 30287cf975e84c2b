-- The part of an object in a history, and what a step at one object leaves unchanged at the others.
use Rattle.std.proofs.Common.{ℕ, ◌≡◌, ◌≢◌, ◌*◌, ◌<◌, true, false, List, [], ◌∷◌, ◌++◌, length, set, All, slice_index, Some, refl, ap, sym, ◌∙◌, arith, eq-eqb, ne_eqb}
use Rattle.std.proofs.lemmas.List.{append-nil, get_or-set_same, get_or-set_other}
use Rattle.std.proofs.lemmas.List.Elements.{All-head, All-tail, filter_map-append}
use Rattle.vme_object.specs.declared.history.Entry.{Entry}
use Rattle.vme_object.specs.History.{entry}
use Rattle.vme_port_array.specs.declared.indexed.Indexed.{Indexed}
use Rattle.vme_port_array.specs.Parts.{word_of, part, part_entry}
use Rattle.vme_port_array.specs.Views.{is_out}

module _ {C R : Type 0} where
  -- the part of an object in two consecutive histories is its part in the first followed by its part in the second
  pub part-append : (i : ℕ) (a b : List (Entry (Indexed C) R)) → part i (a ++ b) ≡ part i a ++ part i b
  part-append i a b = filter_map-append (part_entry i) a b

  -- the part of an object in a history that begins with an entry of the object
  pub part_first : (e : Entry (Indexed C) R) (h : List (Entry (Indexed C) R))
      → part e.cmd.index (e ∷ h) ≡ entry e.who e.cmd.cmd e.reply ∷ part e.cmd.index h
  part_first e h = rw (eq-eqb e.cmd.index e.cmd.index refl) refl

  -- entries of one object add nothing to the part of another
  pub part_none : (i j : ℕ) (es : List (Entry (Indexed C) R)) → All (λ e. e.cmd.index ≡ i) es → j ≢ i → part j es ≡ []
  part_none i j [] all other = refl
  part_none i j (e ∷ es) all other =
      let same : e.cmd.index ≡ i = All-head (λ (e : Entry (Indexed C) R). e.cmd.index ≡ i) e es all in
      let rest : part j es ≡ [] = part_none i j es (All-tail (λ (e : Entry (Indexed C) R). e.cmd.index ≡ i) e es all) other in
      let differs : e.cmd.index ≢ j = λ at_j. other (sym at_j ∙ same) in
      rw (ne_eqb e.cmd.index j differs) rest

  -- entries of one object leave the part of another unchanged
  pub part_else : (i j : ℕ) (h es : List (Entry (Indexed C) R)) → All (λ e. e.cmd.index ≡ i) es → j ≢ i
      → part j (h ++ es) ≡ part j h
  part_else i j h es all other = part-append j h es ∙ ap (λ l. part j h ++ l) (part_none i j es all other) ∙ append-nil (part j h)

-- a seat that holds the object at index i is found to hold it
pub out_here : (i : ℕ) → is_out i (Some i) ≡ true
out_here i = eq-eqb i i refl

-- a seat that holds the object at index i is found to hold no other
pub out_else : (i j : ℕ) → j ≢ i → is_out j (Some i) ≡ false
out_else i j other = ne_eqb i j (λ same. other (sym same))

-- two objects have different words
pub words_apart : (i j : ℕ) → j ≢ i → word_of j ≢ word_of i
words_apart i j other = λ same. other (omega arith)

-- a word that is written is read back
pub word_same : (words : List ℕ) (n i new : ℕ) → length words ≡ n * 16 → i < n
    → slice_index (set words (word_of i) new) (word_of i) ≡ new
word_same words n i new long less = get_or-set_same words (word_of i) new 0 (omega arith)

-- a write of one word leaves the others unchanged
pub word_else : (words : List ℕ) (i j new : ℕ) → j ≢ i
    → slice_index (set words (word_of i) new) (word_of j) ≡ slice_index words (word_of j)
word_else words i j new other = get_or-set_other words (word_of i) (word_of j) new 0 (words_apart i j other)
