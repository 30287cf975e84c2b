-- Identifiers at the end of a line.
use Rattle.std.proofs.Common.{◌≡◌, ◌≢◌, ℕ, ◌-◌, ◌≤◌, List, [], ◌∷◌, length, get_or, take, drop, Option, Some, None, refl, ap, sym, subst, ◌∙◌}
use Rattle.std.specs.Prelude.{IfSome}
use Rattle.vme_vcd_reader.specs.declared.quick.Quick.{Quick}
use Rattle.vme_vcd_reader.specs.Lines.{IsNameLine}
use Rattle.vme_vcd_reader.specs.Names.{no_identifier, with_character}
use Rattle.vme_vcd_reader.proofs.Lines.{character_whole, text_first, text_second}
use Rattle.vme_vcd_reader.proofs.Names.{character_before}

-- identifiers of one, two and three characters, and a line feed
one_name : (text rest : List ℕ) (a identifier : ℕ) → text ≡ a ∷ 10 ∷ rest → identifier ≡ with_character 0 a → identifier ≢ no_identifier
    → IsNameLine text rest identifier
one_name text rest a identifier at is some = record {
  first = a;
  more = [];
  text_is = at;
  whole = (character_whole 0 a (λ none. some (is ∙ none)), tt);
  number = is;
}

two_name : (text rest : List ℕ) (a b identifier : ℕ) → text ≡ a ∷ b ∷ 10 ∷ rest → identifier ≡ with_character (with_character 0 a) b
    → identifier ≢ no_identifier → IsNameLine text rest identifier
two_name text rest a b identifier at is some =
    let second : with_character (with_character 0 a) b ≢ no_identifier = λ none. some (is ∙ none) in record {
      first = a;
      more = b ∷ [];
      text_is = at;
      whole = (character_whole 0 a (character_before (with_character 0 a) b second), (character_whole (with_character 0 a) b second, tt));
      number = is;
    }

three_name : (text rest : List ℕ) (a b c identifier : ℕ) → text ≡ a ∷ b ∷ c ∷ 10 ∷ rest
    → identifier ≡ with_character (with_character (with_character 0 a) b) c → identifier ≢ no_identifier → IsNameLine text rest identifier
three_name text rest a b c identifier at is some =
    let third : with_character (with_character (with_character 0 a) b) c ≢ no_identifier = λ none. some (is ∙ none) in
    let second : with_character (with_character 0 a) b ≢ no_identifier = character_before (with_character (with_character 0 a) b) c third in
    record {
      first = a;
      more = b ∷ c ∷ [];
      text_is = at;
      whole = (
        character_whole 0 a (character_before (with_character 0 a) b second),
        (character_whole (with_character 0 a) b second, (character_whole (with_character (with_character 0 a) b) c third, tt)),
      );
      number = is;
    }

-- what is returned with an identifier
pub record Names (o : Option Quick) (identifier : ℕ) (rest : List ℕ) : Type 0 where
  pub some : IfSome o (λ quick. identifier ≢ no_identifier)
  pub number : IfSome o (λ quick. quick.identifier ≡ identifier)
  pub rest_is : IfSome o (λ quick. quick.rest.now ≡ rest)

named_by : (o : Option Quick) (text rest : List ℕ) (identifier : ℕ) → Names o identifier rest
    → (identifier ≢ no_identifier → IsNameLine text rest identifier) → IfSome o (λ quick. IsNameLine text quick.rest.now quick.identifier)
named_by None text rest identifier names line = tt
named_by (Some quick) text rest identifier names line =
    subst (λ n. IsNameLine text quick.rest.now n) (sym names.number)
    (subst (λ rest. IsNameLine text rest identifier) (sym names.rest_is) (line names.some))

pub one_end : (o : Option Quick) (text : List ℕ) (first : ℕ) → 2 ≤ length text → get_or text 1 0 ≡ 10 → first ≡ with_character 0 (get_or text 0 0)
    → Names o first (take (length text - 2) (drop 2 text)) → IfSome o (λ quick. IsNameLine text quick.rest.now quick.identifier)
one_end o text first long here is names =
    named_by o text (take (length text - 2) (drop 2 text)) first names
    (one_name text (take (length text - 2) (drop 2 text)) (get_or text 0 0) first (text_second text (get_or text 0 0) 10 long refl here) is)

pub two_end : (o : Option Quick) (text tail : List ℕ) (first second : ℕ) → 2 ≤ length text → tail ≡ take (length text - 2) (drop 2 text)
    → 1 ≤ length tail → get_or tail 0 0 ≡ 10 → first ≡ with_character 0 (get_or text 0 0) → second ≡ with_character first (get_or text 1 0)
    → Names o second (take (length tail - 1) (drop 1 tail)) → IfSome o (λ quick. IsNameLine text quick.rest.now quick.identifier)
two_end o text tail first second long at more here is more_is names =
    named_by o text (take (length tail - 1) (drop 1 tail)) second names
    (two_name text (take (length tail - 1) (drop 1 tail)) (get_or text 0 0) (get_or text 1 0) second
    (text_second text (get_or text 0 0) (get_or text 1 0) long refl refl
    ∙ ap (λ tail. get_or text 0 0 ∷ get_or text 1 0 ∷ tail) (sym at ∙ text_first tail 10 more here))
    (more_is ∙ ap (λ n. with_character n (get_or text 1 0)) is))

pub three_end : (o : Option Quick) (text tail last : List ℕ) (first second third : ℕ) → 2 ≤ length text → tail ≡ take (length text - 2) (drop 2 text)
    → 1 ≤ length tail → last ≡ take (length tail - 1) (drop 1 tail) → 1 ≤ length last → get_or last 0 0 ≡ 10
    → first ≡ with_character 0 (get_or text 0 0) → second ≡ with_character first (get_or text 1 0) → third ≡ with_character second (get_or tail 0 0)
    → Names o third (take (length last - 1) (drop 1 last)) → IfSome o (λ quick. IsNameLine text quick.rest.now quick.identifier)
three_end o text tail last first second third long at more next some here is more_is after names =
    named_by o text (take (length last - 1) (drop 1 last)) third names
    (three_name text (take (length last - 1) (drop 1 last)) (get_or text 0 0) (get_or text 1 0) (get_or tail 0 0) third
    (text_second text (get_or text 0 0) (get_or text 1 0) long refl refl
    ∙ ap (λ tail. get_or text 0 0 ∷ get_or text 1 0 ∷ tail)
    (sym at ∙ text_first tail (get_or tail 0 0) more refl ∙ ap (λ last. get_or tail 0 0 ∷ last) (sym next ∙ text_first last 10 some here)))
    (after ∙ ap (λ n. with_character n (get_or tail 0 0)) (more_is ∙ ap (λ n. with_character n (get_or text 1 0)) is)))
