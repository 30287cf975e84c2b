-- The lines of a script in the report.
use Rattle.std.proofs.Common.{◌≡◌, ℕ, zero, suc, ◌+◌, ◌<◌, List, [], ◌∷◌, ◌++◌, length, map, take, Option, Some, None, refl, sym, ap, ◌∙◌, arith, inl, inr, slice_index_or, slice_set}
use Rattle.std.specs.Prelude.{slice_get, option_map}
use Rattle.std.proofs.lemmas.List.{map-append, take_more, length-map}
use Rattle.std.proofs.lemmas.Option.{same_Some, slice_get_within, slice_get_cases}
use Rattle.vme_shared.specs.declared.reply.LineReply.{LineReply}
use Rattle.vme_shared.specs.declared.reply.LineReply.TheVariants.{Unfinished}
use Rattle.vme_script.specs.declared.script.ScriptLine.{ScriptLine}
use Rattle.vme_stepper.specs.Reports.{numbered_replies}

-- the entries with the reply of the next line set are those with one reply more
pub reported_more :
    (script : List ScriptLine) (ended : List LineReply) (answer : LineReply) → length ended < length script
    → slice_set (numbered_replies script ended) (length ended) ((slice_index_or (numbered_replies script ended) (length ended) (0, answer)).0, answer)
    ≡ numbered_replies script (ended ++ answer ∷ [])
reported_more [] ended answer more = absurd (omega arith)
reported_more (line ∷ script) [] answer more = refl
reported_more (line ∷ script) (first ∷ ended) answer more = ap (λ lines. (line.number, first) ∷ lines) (reported_more script ended answer (omega arith))

-- each line of the script is in the report
pub reported_length : (script : List ScriptLine) (ended : List LineReply) → length (numbered_replies script ended) ≡ length script
reported_length [] ended = refl
reported_length (line ∷ script) [] = ap suc (reported_length script [])
reported_length (line ∷ script) (first ∷ ended) = ap suc (reported_length script ended)

-- before the first reply all lines are unfinished
pub reported_none : (script : List ScriptLine) → map (λ line. (line.number, Unfinished)) script ≡ numbered_replies script []
reported_none [] = refl
reported_none (line ∷ script) = ap (λ lines. (line.number, Unfinished) ∷ lines) (reported_none script)

-- the element of a mapped list at an index is the value of the element there
pub get_map : {A B : Type 0} (f : A → B) (xs : List A) (i : ℕ) → slice_get (map f xs) i ≡ option_map f (slice_get xs i)
get_map f [] i = refl
get_map f (x ∷ xs) zero = refl
get_map f (x ∷ xs) (suc i) = get_map f xs i

-- the first i + 1 values are the first i and the next one
pub map_next : {A B : Type 0} (f : A → B) (xs : List A) (i : ℕ) (y : B) → slice_get (map f xs) i ≡ Some y
    → map f (take (i + 1) xs) ≡ map f (take i xs) ++ y ∷ []
map_next f xs i y found =
    elim (slice_get_cases xs i).1 [
      | inl at ↦
          let own : f at.0 ≡ y = same_Some _ _ (sym (rw at.2 at (get_map f xs i)) ∙ found) in
          let more : take (i + 1) xs ≡ take i xs ++ at.0 ∷ [] = rw (take_more xs i at.0 at.1) (ap (λ x. take i xs ++ x ∷ []) at.3) in
          ap (map f) more ∙ map-append f (take i xs) (at.0 ∷ []) ∙ ap (λ z. map f (take i xs) ++ z ∷ []) own
      | inr past ↦ absurd (omega (arith, slice_get_within _ i y found, length-map xs f, past.0))
    ]

-- a line without a reply
abbrev pub unfinished : ScriptLine → ℕ × LineReply
unfinished line = (line.number, Unfinished)

-- the entries of the first j + 1 lines are those of the first j and the next one
pub reported_next :
    (script : List ScriptLine) (j number : ℕ) → slice_get (map (λ line. line.number) script) j ≡ Some number
    → map unfinished (take (j + 1) script) ≡ map unfinished (take j script) ++ (number, Unfinished) ∷ []
reported_next script j number found =
    map_next unfinished script j (number, Unfinished)
    (get_map unfinished script j ∙ numbered (slice_get script j) (sym (get_map (λ (line : ScriptLine). line.number) script j) ∙ found))
  where
    numbered : (line : Option ScriptLine) → option_map (λ one. one.number) line ≡ Some number → option_map unfinished line ≡ Some (number, Unfinished)
    numbered None found = cc
    numbered (Some one) found = let reported : ℕ → Option (ℕ × LineReply) = λ n. Some (n, Unfinished) in ap reported (same_Some _ _ found)
