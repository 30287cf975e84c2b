-- What a word of the command line is to the parser: `--`, a path or a flag.
use Rattle.std.proofs.Common.{ℕ, ◌≡◌, ◌==◌, inl, inr, ◌∙◌, false, true, List, [], ◌∷◌, length, codes, refl, sym, ap, subst, Option, Some, None, IsUtf8, chars, arith, encode_utf8_all, All, map, String, string_bytes}
use Rattle.std.specs.declared.alloc.Global.{Global}
use Rattle.std.proofs.lemmas.Str.{encodes-chars, IsUtf8-string_bytes}
use Rattle.std.proofs.lemmas.Bool.{cases_Bool, eqb-true}
use Rattle.std.proofs.lemmas.List.Elements.{All-nil, All-cons}
use Rattle.clap.specs.Lexer.{long_of, short_of}
use Rattle.clap.proofs.OnLiterals.{clap_on_literals}
use Rattle.vme_engines.specs.CommandLines.{Word, is_path, is_separator}

-- a word is a flag: `--name` with or without a value, or `-c`
pub data IsFlag (w : Word) : Type 0 where
  is_long : (name : Word) (v : Option Word) → long_of w ≡ Some (name, v) → IsFlag w
  is_short : (x ch : ℕ) (flags more : Word) → long_of w ≡ None → short_of w ≡ Some (x ∷ flags) → chars (x ∷ flags) ≡ ch ∷ more
      → IsFlag w

-- a word is neither `--` nor a flag
pub record IsPlain (w : Word) : Type 0 where
  pub apart : is_separator w ≡ false
  pub long : long_of w ≡ None
  pub short : short_of w ≡ None

-- a word is `--`, a path or a flag
pub data WordKind (w : Word) : Type 0 where
  separator : w ≡ codes "--" → WordKind w
  path : is_path w ≡ true → IsPlain w → WordKind w
  flag : is_separator w ≡ false → is_path w ≡ false → IsFlag w → WordKind w

-- a UTF-8 word of a hyphen and more bytes has a character after the hyphen
flag_begins :
    (cs : List ℕ) (x : ℕ) (flags : Word) → chars (x ∷ flags) ≡ cs → encode_utf8_all (chars (45 ∷ x ∷ flags)) ≡ 45 ∷ x ∷ flags
    → (ch : ℕ) × (more : Word) × (chars (x ∷ flags) ≡ ch ∷ more)
unfolding clap_on_literals
flag_begins [] x flags none whole =
    let same : 45 ∷ [] ≡ 45 ∷ x ∷ flags = ap (λ cs. encode_utf8_all (45 ∷ cs)) (sym none) ∙ whole in
    absurd (omega (arith, ap length same))
flag_begins (ch ∷ more) x flags some whole = (ch, more, some)

-- a word of a hyphen and then a byte that is not a hyphen is a flag
one_hyphen : (x y : ℕ) (r : Word) → x ≡ 45 → (y == 45) ≡ false → IsUtf8 (45 ∷ y ∷ r) → WordKind (x ∷ y ∷ r)
one_hyphen x y r first off utf8 =
    let begins = flag_begins (chars (y ∷ r)) y r refl (encodes-chars (45 ∷ y ∷ r) utf8) in
    subst (λ b. WordKind (b ∷ y ∷ r)) (sym first)
    (flag (rw off refl) refl (is_short y begins.0 r begins.1 (rw off refl) (rw off refl) begins.2))

-- a word that begins with two hyphens is `--` or a flag
two_hyphens : (x y : ℕ) (r : Word) → x ≡ 45 → y ≡ 45 → WordKind (x ∷ y ∷ r)
two_hyphens x y [] first second = separator (rw (first, second) refl)
two_hyphens x y (z ∷ r) first second =
    subst (λ b. WordKind (b ∷ y ∷ z ∷ r)) (sym first)
    (subst (λ b. WordKind (45 ∷ b ∷ z ∷ r)) (sym second) (flag refl refl (is_long _ _ refl)))

-- each UTF-8 word is `--`, a path or a flag
pub word_kind : (w : Word) → IsUtf8 w → WordKind w
word_kind [] utf8 = path refl (record { apart = refl; long = refl; short = refl })
word_kind (x ∷ []) utf8 =
    elim (cases_Bool (x == 45)) [
      | inl hyphen ↦ path refl (record { apart = rw hyphen refl; long = rw hyphen refl; short = rw hyphen refl })
      | inr off ↦ path refl (record { apart = rw off refl; long = rw off refl; short = rw off refl })
    ]
word_kind (x ∷ y ∷ r) utf8 =
    elim (cases_Bool (x == 45)) [
      | inr off ↦ path (rw off refl) (record { apart = rw off refl; long = rw off refl; short = rw off refl })
      | inl hyphen ↦
          elim (cases_Bool (y == 45)) [
            | inl second ↦ two_hyphens x y r (eqb-true x 45 hyphen) (eqb-true y 45 second)
            | inr off ↦ one_hyphen x y r (eqb-true x 45 hyphen) off (subst (λ b. IsUtf8 (b ∷ y ∷ r)) (eqb-true x 45 hyphen) utf8)
          ]
    ]

-- the words of a command line are UTF-8
pub words_utf8 : (words : List (String Global)) → All IsUtf8 (map string_bytes words)
words_utf8 [] = All-nil IsUtf8
words_utf8 (word ∷ rest) =
    All-cons IsUtf8 (string_bytes word) (map string_bytes rest) (IsUtf8-string_bytes word) (words_utf8 rest)
