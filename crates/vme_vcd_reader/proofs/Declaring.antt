-- The variable that a header has declared last.
use Rattle.std.proofs.Common.{◌≡◌, ℕ, false, List, ◌++◌, Option, ap, ◌∙◌}
use Rattle.vme_vcd_reader.specs.declared.header.Header.{Header}
use Rattle.vme_vcd_reader.specs.Headers.{Heading, is_long}
use Rattle.vme_vcd_reader.specs.Headings.{IsHeading, path_of}
use Rattle.vme_vcd_reader.specs.Mapping.{Declaration, declaration}
use Rattle.vme_vcd_reader.specs.Ranges.{named}
use Rattle.vme_vcd_reader.proofs.Headers.{whole_word}

-- a variable with these parts
abbrev pub declared_with : List ℕ → ℕ → ℕ → ℕ → Option (ℕ × ℕ) → Declaration
declared_with path scope identifier size range =
    record { path = path; scope = scope; identifier = identifier; size = size; range = range }

same_parts : (p q : List ℕ) (a b c e f g : ℕ) (r t : Option (ℕ × ℕ)) → p ≡ q → a ≡ b → c ≡ e → f ≡ g → r ≡ t
    → declared_with p a c f r ≡ declared_with q b e g t
same_parts p q a b c e f g r t path scope identifier size range =
    ap (λ p. declared_with p a c f r) path ∙ ap (λ a. declared_with q a c f r) scope ∙ ap (λ c. declared_with q b c f r) identifier
    ∙ ap (λ f. declared_with q b e f r) size ∙ ap (λ r. declared_with q b e g r) range

-- it is what a reader takes
pub declared_is : (h : Heading) (s : Header) (name path before : List ℕ) (range : Option (ℕ × ℕ)) → IsHeading h s → is_long h.name ≡ false
    → name ≡ s.name.bytes.items → (before, range) ≡ named name → path ≡ s.path.items ++ before
    → declared_with path s.scopes s.identifier s.size range ≡ declaration h
declared_is h s name path before range is short whole cut path_so =
    let name_is : name ≡ h.name = whole ∙ whole_word h.name s.name is.stands.name short in
    let parts : (before, range) ≡ named h.name = cut ∙ ap named name_is in
    let path_is : path ≡ path_of h.scopes ++ (named h.name).0 =
    path_so ∙ ap (λ path. path ++ before) is.stands.path ∙ ap (λ (parts : List ℕ × Option (ℕ × ℕ)). path_of h.scopes ++ parts.0) parts in
    let range_is : range ≡ (named h.name).1 = ap (λ (parts : List ℕ × Option (ℕ × ℕ)). parts.1) parts in
    same_parts path (path_of h.scopes ++ (named h.name).0) s.scopes h.opened s.identifier h.identifier s.size h.size range (named h.name).1
    path_is is.stands.opened is.stands.identifier is.stands.size range_is
