-- Laws of appended bytes: how a byte model grows, step by step.
use Rattle.std.proofs.Common.{◌≡◌, ℕ, List, [], ◌++◌, take, drop, Option, None, Some, append_assoc, take-append-drop, sym, ap, ◌∙◌}
use Rattle.std.proofs.lemmas.List.{append-nil}
use Rattle.std.specs.Io.KnownBytes.{Keeps, Appends}
use Rattle.vme_io.specs.Prefixes.{AppendsPrefix}

-- a byte model appends no bytes to itself
pub Appends-none : (a : Option (List ℕ)) → Appends a a []
Appends-none None = tt
Appends-none (Some s) = sym (append-nil s)

-- if bytes were appended and then more, all of them were appended in order
pub Appends-more : (a b c : Option (List ℕ)) (x y : List ℕ) → Appends a b x → Appends b c y → Appends a c (x ++ y)
Appends-more None b c x y first next = tt
Appends-more (Some s) None c x y first next = absurd first
Appends-more (Some s) (Some t) None x y first next = absurd next
Appends-more (Some s) (Some t) (Some u) x y first next = next ∙ ap (λ t. t ++ y) first ∙ append_assoc s x y

-- if bytes were appended and then none, these bytes were appended
pub Appends-kept : (a b c : Option (List ℕ)) (x : List ℕ) → Appends a b x → Keeps b c → Appends a c x
Appends-kept None b c x first kept = tt
Appends-kept (Some s) None c x first kept = absurd first
Appends-kept (Some s) (Some t) None x first kept = absurd kept
Appends-kept (Some s) (Some t) (Some u) x first kept = kept ∙ first

-- a prefix of some bytes followed by a prefix of the rest is a prefix of the bytes
pub split_more : (bytes prefix rest : List ℕ) (n : ℕ) → bytes ≡ prefix ++ rest → bytes ≡ (prefix ++ take n rest) ++ drop n rest
split_more bytes prefix rest n split =
    split ∙ ap (λ r. prefix ++ r) (sym (take-append-drop n rest)) ∙ sym (append_assoc prefix (take n rest) (drop n rest))

-- if bytes were appended and then a prefix of the next ones, a prefix of all of them was appended
pub AppendsPrefix-more :
    (a b c : Option (List ℕ)) (prefix bytes rest all : List ℕ) → Appends a b prefix → AppendsPrefix b c bytes → (prefix ++ bytes) ++ rest ≡ all
    → AppendsPrefix a c all
AppendsPrefix-more a b c prefix bytes rest all first next whole = record {
  prefix = prefix ++ next.prefix;
  rest = next.rest ++ rest;
  split = sym whole ∙ ap (λ bs. (prefix ++ bs) ++ rest) next.split ∙ simp append_assoc;
  appends = Appends-more a b c prefix next.prefix first next.appends;
}
