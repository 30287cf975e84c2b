-- A text cut at its first line feed, and a line cut at its comment.
use Rattle.std.proofs.Common.{◌≡◌, ℕ, ◌+◌, ◌<◌, false, ◌==◌, List, [], ◌∷◌, ◌++◌, length, get_or, take, drop, take-append-drop, drop-cons, add-one, length-append, All, None, Some, inl, inr, ap, sym, ◌∙◌, arith, append-nil, eqb-true, subst}
use Rattle.std.proofs.lemmas.Bool.{cases_Bool}
use Rattle.std.proofs.lemmas.List.{get_or-take, length-take-le}
use Rattle.std.proofs.lemmas.List.Elements.{All-from_get_or}
use Rattle.memchr.specs.Find.{IsFirstByte, is_byte}
use Rattle.vme_bus_log.specs.Texts.{without_comment, EndsNoLine, IsLineOf}
use Rattle.vme_bus_log.proofs.Lines.{before_begun}

-- a text is none of a byte
abbrev Lacks : ℕ → List ℕ → Type 0
Lacks byte text = All (λ b. (b == byte) ≡ false) text

-- a text in which the byte is not found
lacks : (byte : ℕ) (text : List ℕ) → IsFirstByte (is_byte byte) text None → Lacks byte text
lacks byte text none =
    All-from_get_or (λ b. (b == byte) ≡ false) text 0 (λ i lt.
    elim (cases_Bool (get_or text i 0 == byte)) [ inl hit ↦ absurd (none i (omega arith) lt hit) | inr miss ↦ miss ])

-- the text before the place where the byte is found
lacks_before : (byte : ℕ) (text : List ℕ) (end : ℕ) → IsFirstByte (is_byte byte) text (Some end) → Lacks byte (take end text)
lacks_before byte text end found =
    All-from_get_or (λ b. (b == byte) ≡ false) (take end text) 0 (λ i lt.
    let less : i < end = omega (arith, lt, length-take-le end text) in
    ap (λ b. b == byte) (get_or-take end text i 0 less)
    ∙ elim (cases_Bool (get_or text i 0 == byte)) [ inl hit ↦ absurd (found.0.before i (omega arith) less hit) | inr miss ↦ miss ])

-- the text around that place
around : (byte : ℕ) (text : List ℕ) (end : ℕ) → IsFirstByte (is_byte byte) text (Some end)
    → text ≡ take end text ++ byte ∷ drop (end + 1) text
around byte text end found =
    let back : drop end text ≡ get_or text end 0 ∷ drop (end + 1) text = rw add-one (drop-cons text end 0 found.0.high) in
    sym (take-append-drop end text)
    ∙ ap (λ back. take end text ++ back) (back ∙ ap (λ b. b ∷ drop (end + 1) text) (eqb-true (get_or text end 0) byte found.1))

-- the first line ends at the first line feed
pub line_cut : (end : ℕ) (text line after : List ℕ) → IsFirstByte (is_byte 10) text (Some end) → line ≡ take end text → after ≡ drop (end + 1) text
    → IsLineOf text line after
line_cut end text line after found prefix back =
    let parts : text ≡ line ++ 10 ∷ after =
    around 10 text end found ∙ ap (λ xs. xs ++ 10 ∷ drop (end + 1) text) (sym prefix) ∙ ap (λ xs. line ++ 10 ∷ xs) (sym back) in
    record {
      within = subst EndsNoLine (sym prefix) (lacks_before 10 text end found);
      parts = parts;
      shorter = omega (arith, ap length parts, length-append line (10 ∷ after));
    }

-- a text without a line feed
pub no_line : (text : List ℕ) → IsFirstByte (is_byte 10) text None → EndsNoLine text
no_line text none = lacks 10 text none

-- a line is cut at its comment
pub comment_cut : (end : ℕ) (line : List ℕ) → IsFirstByte (is_byte 35) line (Some end) → take end line ≡ without_comment line
comment_cut end line found =
    sym (
    ap without_comment (around 35 line end found)
    ∙ before_begun (take end line) (35 ∷ drop (end + 1) line) (lacks_before 35 line end found)
    ∙ append-nil (take end line)
    )

-- a line without a comment
pub no_comment : (line : List ℕ) → IsFirstByte (is_byte 35) line None → line ≡ without_comment line
no_comment line none =
    sym (
    ap without_comment (sym (append-nil line)) ∙ before_begun line [] (lacks 35 line none) ∙ append-nil line
    )
