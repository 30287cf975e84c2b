-- Data of a known length, parsed as the words of a text.
use Rattle.std.proofs.Common.{◌≡◌, ℕ, List, [], ◌∷◌, ◌++◌, take, drop, Some, true, refl, sym, ap, subst, ◌∙◌}
use Rattle.std.specs.Prelude.{codes}
use Rattle.std.specs.Str.{bytes_eq}
use Rattle.std.proofs.lemmas.Slice.Eq.{bytes_eq-Decides}
use Rattle.vme_cycle.specs.declared.modify.Modify.TheVariants as modifies
use Rattle.arrayvec.specs.ArrayVec.{ArrayVec}
use Rattle.vme_lexer.specs.Numbers.{exact_bytes, decimal_number}
use Rattle.vme_lexer.specs.Words.{words}
use Rattle.vme_grammar.specs.Canonical.{IsFill, AreData, IsFunction, set, exchange, add, compare}
use Rattle.vme_grammar.proofs.Words.{IsWord, only_word, first_word, exact_is_word, decimal_is_word}
use Rattle.vme_grammar.proofs.Spelled.{apart}

-- a text of two words with one space between has these two words
pub two_words : (text first rest second : List ℕ) (len : ℕ) → first ≡ take len text → rest ≡ drop len text → rest ≡ 32 ∷ second → IsWord first
    → IsWord second → words text ≡ first ∷ second ∷ []
two_words text first rest second len prefix back space one other =
    ap words (apart len text first rest second prefix back space) ∙ first_word first second one ∙ ap (λ more. first ∷ more) (only_word second other)

-- `COUNT HEX` is a number of data and a datum
pub fill_is :
    (n count len : ℕ) (text first rest second : List ℕ) (bytes : ArrayVec ℕ) → first ≡ take len text → rest ≡ drop len text → rest ≡ 32 ∷ second
    → decimal_number 4 first ≡ Some count → Some bytes.items ≡ exact_bytes n second → IsFill n (words text) count bytes
fill_is n count len text first rest second bytes prefix back space number datum = record {
  first = first;
  second = second;
  both = two_words text first rest second len prefix back space (decimal_is_word 4 count first number) (exact_is_word n bytes.items second (sym datum));
  number = number;
  datum = sym datum;
}

-- `HEX HEX` is two data
pub data_are :
    (n len : ℕ) (text first rest second : List ℕ) (expect put : ArrayVec ℕ) → first ≡ take len text → rest ≡ drop len text → rest ≡ 32 ∷ second
    → Some expect.items ≡ exact_bytes n first → Some put.items ≡ exact_bytes n second → AreData n (words text) expect put
data_are n len text first rest second expect put prefix back space expected datum = record {
  first = first;
  second = second;
  both = two_words text first rest second len prefix back space (exact_is_word n expect.items first (sym expected)) (exact_is_word n put.items second (sym datum));
  expected = sym expected;
  datum = sym datum;
}

-- `set` is the function that sets bit 7
pub set_is : (n : ℕ) (text : List ℕ) → bytes_eq text (codes "set") ≡ true → IsFunction n (words text) modifies.Set
set_is n text same =
    subst (λ (ws : List (List ℕ)). IsFunction n ws modifies.Set) (sym (ap words ((bytes_eq-Decides text (codes "set")).0 same))) set

-- a text of a name, a space and a datum has two words, the name and the datum
named :
    (n : ℕ) (name text hex bytes : List ℕ) → text ≡ name ++ 32 ∷ hex → words (name ++ 32 ∷ hex) ≡ name ∷ words hex → exact_bytes n hex ≡ Some bytes
    → words text ≡ name ∷ hex ∷ []
named n name text hex bytes is cut datum =
    ap words is ∙ cut ∙ ap (λ more. name ∷ more) (only_word hex (exact_is_word n bytes hex datum))

-- `add HEX` is the function that adds a datum
pub add_is :
    (n : ℕ) (text hex : List ℕ) (by : ArrayVec ℕ) → text ≡ codes "add" ++ 32 ∷ hex → Some by.items ≡ exact_bytes n hex
    → IsFunction n (words text) (modifies.Add by)
add_is n text hex by is datum =
    subst (λ (ws : List (List ℕ)). IsFunction n ws (modifies.Add by)) (sym (named n (codes "add") text hex by.items is refl (sym datum))) (add (sym datum))

-- `xchg HEX` is the function that writes a datum
pub exchange_is :
    (n : ℕ) (text hex : List ℕ) (put : ArrayVec ℕ) → text ≡ codes "xchg" ++ 32 ∷ hex → Some put.items ≡ exact_bytes n hex
    → IsFunction n (words text) (modifies.Exchange put)
exchange_is n text hex put is datum =
    subst (λ (ws : List (List ℕ)). IsFunction n ws (modifies.Exchange put)) (sym (named n (codes "xchg") text hex put.items is refl (sym datum)))
    (exchange (sym datum))

-- `cas HEX HEX` is the function that compares with a datum and writes another
pub compare_is :
    (n : ℕ) (text both_hex : List ℕ) (expect put : ArrayVec ℕ) → text ≡ codes "cas" ++ 32 ∷ both_hex → AreData n (words both_hex) expect put
    → IsFunction n (words text) (modifies.Compare expect put)
compare_is n text both_hex expect put is both =
    let cut : words text ≡ codes "cas" ∷ both.first ∷ both.second ∷ [] = ap words is ∙ ap (λ more. codes "cas" ∷ more) both.both in
    subst (λ (ws : List (List ℕ)). IsFunction n ws (modifies.Compare expect put)) (sym cut) (compare both.expected both.datum)
