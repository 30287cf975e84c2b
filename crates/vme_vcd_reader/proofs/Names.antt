-- An identifier has one number, and a number one identifier.
use Rattle.std.proofs.Common.{◌≡◌, ◌≢◌, ℕ, ◌≤◌, List, [], ◌∷◌, ◌++◌, zero, suc, length, drop, refl, ap, sym, ◌∙◌, arith}
use Rattle.std.proofs.lemmas.Bool.Decides.{nat_tests}
use Rattle.vme_vcd_reader.specs.Names.{identifier_of, no_identifier, with_character, with_characters}
use Rattle.vme_vcd_reader.proofs.Digits.{characters_more, character_some}

-- a word by its characters, the last one first
abbrev built : List ℕ → List ℕ
built [] = []
built (c ∷ cs) = built cs ++ c ∷ []

built_front : (cs : List ℕ) (x : ℕ) → built (cs ++ x ∷ []) ≡ x ∷ built cs
built_front [] x = refl
built_front (c ∷ cs) x = ap (λ word. word ++ c ∷ []) (built_front cs x)

record IsBuilt (word : List ℕ) : Type 0 where
  characters : List ℕ
  are : built characters ≡ word

is_built : (word : List ℕ) → IsBuilt word
is_built [] = record { characters = []; are = refl }
is_built (x ∷ word) =
    let more : IsBuilt word = is_built word in record {
      characters = more.characters ++ x ∷ [];
      are = built_front more.characters x ∙ ap (λ word. x ∷ word) more.are;
    }

-- the characters before are those of an identifier too
pub character_before : (n c : ℕ) → with_character n c ≢ no_identifier → n ≢ no_identifier
character_before n c is = grind (arith, nat_tests)

-- the last characters, and the numbers before them
last_same : (n m c d : ℕ) → with_character n c ≡ with_character m d → with_character n c ≢ no_identifier → c ≡ d
last_same n m c d same some = grind (arith, nat_tests)

before_same : (n m c d : ℕ) → with_character n c ≡ with_character m d → with_character n c ≢ no_identifier → n ≡ m
before_same n m c d same some = grind (arith, nat_tests)

built_same : (cs ds : List ℕ) → identifier_of (built cs) ≡ identifier_of (built ds) → identifier_of (built cs) ≢ no_identifier → cs ≡ ds
built_same [] [] same some = refl
built_same [] (d ∷ ds) same some =
    absurd (omega (arith, same ∙ characters_more (built ds) 0 d, character_some (identifier_of (built ds)) d))
built_same (c ∷ cs) [] same some =
    absurd (omega (arith, sym same ∙ characters_more (built cs) 0 c, character_some (identifier_of (built cs)) c))
built_same (c ∷ cs) (d ∷ ds) same some =
    let step : with_character (identifier_of (built cs)) c ≡ with_character (identifier_of (built ds)) d =
    sym (characters_more (built cs) 0 c) ∙ same ∙ characters_more (built ds) 0 d in
    let whole : with_character (identifier_of (built cs)) c ≢ no_identifier = λ none. some (characters_more (built cs) 0 c ∙ none) in
    ap (λ x. x ∷ cs) (last_same _ _ c d step whole)
    ∙ ap (λ cs. d ∷ cs) (built_same cs ds (before_same _ _ c d step whole) (character_before _ c whole))

-- words with one number, other than that of all that are no identifiers, are one
pub one_identifier : (word other : List ℕ) → identifier_of other ≡ identifier_of word → identifier_of word ≢ no_identifier → other ≡ word
one_identifier word other same some =
    let a : IsBuilt word = is_built word in
    let b : IsBuilt other = is_built other in
    let are : a.characters ≡ b.characters =
    built_same a.characters b.characters (ap identifier_of a.are ∙ sym same ∙ ap identifier_of (sym b.are))
    (λ none. some (ap identifier_of (sym a.are) ∙ none)) in
    sym b.are ∙ ap built (sym are) ∙ a.are

-- the number after all characters
drop_past : (xs : List ℕ) (k : ℕ) → length xs ≤ k → drop k xs ≡ []
drop_past [] zero past = refl
drop_past [] (suc k) past = refl
drop_past (x ∷ xs) zero past = absurd (omega arith)
drop_past (x ∷ xs) (suc k) past = drop_past xs k (omega arith)

pub characters_end : (word : List ℕ) (n k : ℕ) → with_characters n (drop k word) ≡ identifier_of word → length word ≤ k → n ≡ identifier_of word
characters_end word n k is past = ap (with_characters n) (sym (drop_past word k past)) ∙ is
