-- A line is read exactly if its words spell it.
use Rattle.std.proofs.Common.{◌≡◌, ℕ, suc, ◌≤◌, true, false, nat_lt, ◌==◌, List, [], ◌∷◌, length, map, Some, Ok, refl, ap, sym, ◌∙◌, inl, inr, arith}
use Rattle.std.specs.Prelude.{find}
use Rattle.std.specs.List.{list_any}
use Rattle.std.specs.Str.{bytes_eq}
use Rattle.std.proofs.lemmas.Bool.{cases_Bool, eqb-true, eq-eqb, ltb-false, le-ltb}
use Rattle.std.proofs.lemmas.Slice.Eq.{bytes_eq-Decides}
use Rattle.vme_grammar.specs.declared.form.LineForm.{LineForm}
use Rattle.vme_grammar.specs.declared.form.LineForm.TheVariants.{Read, Write, BlockRead, BlockWrite, BlockFill, Modify, LocalRead, LocalWrite, LocalModify, Await, Lock, Unlock, Put, Take}
use Rattle.vme_grammar.specs.declared.function.Function.{Function}
use Rattle.vme_grammar.specs.declared.function.Function.TheVariants.{Set, Exchange, Add, Compare}
use Rattle.vme_grammar.specs.declared.line.Line.{Line}
use Rattle.vme_lexer.specs.Words.{words_of}
use Rattle.vme_grammar.specs.Operands.{Operands, no_operands}
use Rattle.vme_grammar.specs.Fields.{with_field}
use Rattle.vme_grammar.specs.Forms.{Place, Word, Of, places, name_of, field_at, fields_of, forms, line_at}
use Rattle.vme_grammar.specs.Grammar.{matches_fixed, form_of, fields_read, operands_of, line_of_words, line_if_any, line_of, Fill, no_place, word, field, Spell, IsOwnLine}
use Rattle.vme_grammar.specs.Naming.{function_of}
use Rattle.vme_grammar.proofs.Cases.{cases_Option, cases_Result}
use Rattle.vme_grammar.proofs.Naming.{find_passes, own_word}

-- words that fill places are as many as the places
count_filled : {some : List Place} {words : List (List ℕ)} {o given : Operands} → Fill some words o given → length words ≡ length some
count_filled no_place = refl
count_filled (word rest) = ap suc (count_filled rest)
count_filled (field spelled rest) = ap suc (count_filled rest)

-- a list of places has as many fields as places
length_fields : (some : List Place) → length (map field_at some) ≡ length some
length_fields [] = refl
length_fields (place ∷ some) = ap suc (length_fields some)

-- words that fill places are read
filled_read :
    {some : List Place} {words : List (List ℕ)} {o given : Operands} → Fill some words o given
    → fields_read (map field_at some) words o ≡ Ok given
unfolding with_field
filled_read no_place = refl
filled_read (word rest) = filled_read rest
filled_read (field spelled rest) = rw spelled (filled_read rest)

-- a function is named by its own name
own_name : (function : Function) → function_of (Some (name_of function)) ≡ Ok function
unfolding function_of
own_name Set = refl
own_name Exchange = refl
own_name Add = refl
own_name Compare = refl

-- words that fill the places of a form have that form
found : (form : LineForm) {words : List (List ℕ)} {o given : Operands} → Fill (places form) words o given → form_of words ≡ Ok form
found Read (word rest) = own_word Read _
found Write (word rest) = own_word Write _
found BlockRead (word rest) = own_word BlockRead _
found BlockWrite (word rest) = own_word BlockWrite _
found BlockFill (word rest) = own_word BlockFill _
found (Modify Set) (word (field a (field b (field c (word rest))))) = own_word (Modify Set) _ ∙ rw (own_name Set) refl
found (Modify Exchange) (word (field a (field b (field c (word rest))))) = own_word (Modify Exchange) _ ∙ rw (own_name Exchange) refl
found (Modify Add) (word (field a (field b (field c (word rest))))) = own_word (Modify Add) _ ∙ rw (own_name Add) refl
found (Modify Compare) (word (field a (field b (field c (word rest))))) = own_word (Modify Compare) _ ∙ rw (own_name Compare) refl
found LocalRead (word rest) = own_word LocalRead _
found LocalWrite (word rest) = own_word LocalWrite _
found (LocalModify Set) (word (field a (field b (word rest)))) = own_word (LocalModify Set) _ ∙ rw (own_name Set) refl
found (LocalModify Exchange) (word (field a (field b (word rest)))) = own_word (LocalModify Exchange) _ ∙ rw (own_name Exchange) refl
found (LocalModify Add) (word (field a (field b (word rest)))) = own_word (LocalModify Add) _ ∙ rw (own_name Add) refl
found (LocalModify Compare) (word (field a (field b (word rest)))) = own_word (LocalModify Compare) _ ∙ rw (own_name Compare) refl
found Await (word rest) = own_word Await _
found Lock (word rest) = own_word Lock _
found Unlock (word rest) = own_word Unlock _
found Put (word rest) = own_word Put _
found Take (word rest) = own_word Take _

-- words that match the fixed words, are as many as the places, and spell each field fill the places
fills :
    (some : List Place) (words : List (List ℕ)) (o given : Operands) → matches_fixed false some words ≡ true → length words ≡ length some
    → fields_read (map field_at some) words o ≡ Ok given → Fill some words o given
unfolding with_field
fills [] [] o given agree count read = let same : o ≡ given = cc in rw (← same) no_place
fills [] (text ∷ words) o given agree count read = absurd (omega (arith, count))
fills (place ∷ more) [] o given agree count read = absurd (omega (arith, count))
fills (Word own ∷ more) (text ∷ words) o given agree count read =
    elim (cases_Bool (bytes_eq text own)) [
      | inl hit ↦
          rw ((bytes_eq-Decides text own).0 hit)
          (word (fills more words o given (rw hit at agree) (omega (arith, count)) read))
      | inr miss ↦ absurd (let bad = rw miss at agree in cc)
    ]
fills (Of kind ∷ more) (text ∷ words) o given agree count read =
    elim (cases_Option (with_field kind text o)) [
      | inl none ↦ absurd (let bad = rw none at read in cc)
      | inr (next, spelled) ↦ field spelled (fills more words next given agree (omega (arith, count)) (rw spelled at read))
    ]

-- words match the fixed words of their form
form_agrees : (words : List (List ℕ)) (form : LineForm) → form_of words ≡ Ok form → matches_fixed false (places form) words ≡ true
unfolding form_of
form_agrees words form is =
    elim (cases_Bool (list_any (λ form. matches_fixed true (places form) words) forms)) [
      | inl known ↦ elim (cases_Option (find (λ form. matches_fixed false (places form) words) forms)) [
        | inl none ↦ absurd (let bad = rw (known, none) at is in cc)
        | inr (own, there) ↦
            let same : own ≡ form = cc (rw (known, there) at is) in
            rw (← same) (find_passes (λ form. matches_fixed false (places form) words) forms own there)
      ]
      | inr unknown ↦ absurd (let bad = rw unknown at is in cc)
    ]

-- words that give operands fill the places
operands_fill :
    (words : List (List ℕ)) (form : LineForm) (given : Operands) → form_of words ≡ Ok form → operands_of (fields_of form) words ≡ Ok given
    → Fill (places form) words no_operands given
unfolding operands_of
operands_fill words form given is gives =
    elim (cases_Bool (length words == length (fields_of form))) [
      | inl same ↦
          let count : length words ≡ length (places form) = eqb-true _ _ same ∙ length_fields (places form) in
          fills (places form) words no_operands given (form_agrees words form is) count (rw same at gives)
      | inr other ↦ absurd (let bad = rw other at gives in cc)
    ]

-- a line that is read is spelled
read_spelled : (words : List (List ℕ)) (line : Line) → line_of_words words ≡ Ok line → Spell words line
unfolding line_of_words
read_spelled words line read =
    elim (cases_Result (form_of words)) [
      | inl (fault, none) ↦ absurd (let bad = rw none at read in cc)
      | inr (form, is) ↦ elim (cases_Result (operands_of (fields_of form) words)) [
        | inl (fault, none) ↦ absurd (let bad = rw (is, none) at read in cc)
        | inr (given, gives) ↦ record {
          form = form;
          operands = given;
          places_filled = operands_fill words form given is gives;
          same = let line_is = rw (is, gives) at read in cc;
        }
      ]
    ]

-- a line that is spelled is read
spelled_read : (words : List (List ℕ)) (line : Line) → Spell words line → line_of_words words ≡ Ok line
unfolding line_of_words operands_of
spelled_read words line spelled =
    let filled = spelled.places_filled in
    let count : (length words == length (fields_of spelled.form)) ≡ true
    = eq-eqb _ _ (count_filled filled ∙ sym (length_fields (places spelled.form))) in
    rw (found spelled.form filled, count, filled_read filled) (ap Ok (sym spelled.same))

-- if words spell a line, `line_if_any` returns it
read_if_any : (words : List (List ℕ)) (line : Line) → line_of_words words ≡ Ok line → line_if_any words ≡ Ok (Some line)
unfolding line_of_words form_of
read_if_any [] line read = absurd (cc)
read_if_any (text ∷ words) line read = rw read refl

-- a line that `line_if_any` returns is the one that the words spell
any_read : (words : List (List ℕ)) (line : Line) → line_if_any words ≡ Ok (Some line) → line_of_words words ≡ Ok line
any_read [] line read = absurd (cc)
any_read (text ∷ words) line read =
    elim (cases_Result (line_of_words (text ∷ words))) [
      | inl (fault, none) ↦ absurd (let bad = rw none at read in cc)
      | inr (own, is) ↦ let same = rw is at read in is ∙ ap Ok (cc)
    ]

-- a line that is read has at most 80 bytes, and its words spell it
pub line_is_spelled :
    (text : List ℕ) (line : Line) → line_of text ≡ Ok (Some line) → (length text ≤ 80) × Spell (words_of text) line
unfolding line_of
line_is_spelled text line read =
    elim (cases_Bool (nat_lt 80 (length text))) [
      | inl long ↦ absurd (let bad = rw long at read in cc)
      | inr short ↦ (ltb-false _ _ short, read_spelled (words_of text) line (any_read (words_of text) line (rw short at read)))
    ]

-- a text of at most 80 bytes whose words spell a line is read as that line
pub spelled_line_is_read :
    (text : List ℕ) (line : Line) → length text ≤ 80 → Spell (words_of text) line → line_of text ≡ Ok (Some line)
unfolding line_of
spelled_line_is_read text line short spelled =
    rw (le-ltb _ _ short, read_if_any (words_of text) line (spelled_read (words_of text) line spelled)) refl

-- the line of a form commands the local port to do no bus cycle
own_at : (form : LineForm) (o : Operands) → IsOwnLine (line_at form o)
own_at Read o = tt
own_at Write o = tt
own_at BlockRead o = tt
own_at BlockWrite o = tt
own_at BlockFill o = tt
own_at (Modify function) o = tt
own_at LocalRead o = tt
own_at LocalWrite o = tt
own_at (LocalModify function) o = tt
own_at Await o = tt
own_at Lock o = tt
own_at Unlock o = tt
own_at Put o = tt
own_at Take o = tt

-- no line that is read commands the local port to do a bus cycle
pub line_is_own : (text : List ℕ) (line : Line) → line_of text ≡ Ok (Some line) → IsOwnLine line
line_is_own text line read =
    let spelled = (line_is_spelled text line read).1 in
    rw spelled.same (own_at spelled.form spelled.operands)
