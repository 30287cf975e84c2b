-- Accounts and their entries.
use Rattle.std.proofs.Common.{ℕ, ◌≡◌, ◌≢◌, ◌+◌, ◌==◌, Bool, cond, List, [], ◌∷◌, ◌++◌, refl, ap, sym, ◌∙◌, arith, append_assoc, All, eq-eqb, ne_eqb}
use Rattle.std.proofs.lemmas.List.{append-nil}
use Rattle.std.proofs.lemmas.List.Sums.{sum_by-cons}
use Rattle.std.proofs.lemmas.List.Elements.{All-nil, All-cons, All-head, All-tail}
use Rattle.vme_object.specs.declared.history.Entry.{Entry}
use Rattle.vme_object.specs.History.{own}
use Rattle.vme_object.proofs.lemmas.Histories.{own-append}
use Rattle.vme_port.specs.declared.rule.Account.{Account}
use Rattle.vme_port.specs.Views.{names_among}
use Rattle.vme_port.specs.Rule.{IsConsistent}

-- one-element lists are equal only if their elements are
pub head_same : {A : Type 0} (a b : A) → a ∷ [] ≡ b ∷ [] → a ≡ b
head_same a b e = cc e

-- if `xs ++ ys` is `xs`, `ys` is empty
pub append_same : {A : Type 0} (xs ys : List A) → xs ++ ys ≡ xs → ys ≡ []
append_same [] ys e = e
append_same (x ∷ xs) ys e = append_same xs ys (cc e)

module _ {C R : Type 0} where
  -- if all entries are those of `who`, its own entries are all of them
  pub own_all : (who : ℕ) (es : List (Entry C R)) → All (λ e. e.who ≡ who) es → own who es ≡ es
  own_all who [] all = refl
  own_all who (e ∷ es) all =
      let same : e.who ≡ who = All-head (λ (e : Entry C R). e.who ≡ who) e es all in
      let rest : own who es ≡ es = own_all who es (All-tail (λ (e : Entry C R). e.who ≡ who) e es all) in
      rw (eq-eqb e.who who same) (ap (λ l. e ∷ l) rest)

  -- entries of `who` include none of another caller
  pub own_none : (who other : ℕ) (es : List (Entry C R)) → All (λ e. e.who ≡ who) es → other ≢ who → own other es ≡ []
  own_none who other [] all apart = refl
  own_none who other (e ∷ es) all apart =
      let same : e.who ≡ who = All-head (λ (e : Entry C R). e.who ≡ who) e es all in
      let rest : own other es ≡ [] = own_none who other es (All-tail (λ (e : Entry C R). e.who ≡ who) e es all) apart in
      let differs : e.who ≢ other = λ e'. apart (sym e' ∙ same) in
      rw (ne_eqb e.who other differs) rest

  -- the part of a history after what an account has seen contains none of its own entries
  pub apart : (h : List (Entry C R)) (a : Account C R) (f : IsConsistent h a) → own a.who f.begins.0 ≡ []
  apart h a f = append_same a.mine (own a.who f.begins.0)
      (ap (λ l. l ++ own a.who f.begins.0) (sym f.sound) ∙ sym (own-append a.who a.seen f.begins.0) ∙ ap (own a.who) (sym f.begins.1) ∙ f.complete)

  -- an account agrees with a history that entries of others are appended to
  pub fits_others : (who : ℕ) (h es : List (Entry C R)) (a : Account C R) → All (λ e. e.who ≡ who) es → a.who ≢ who → IsConsistent h a → IsConsistent (h ++ es) a
  fits_others who h es a all other f = record {
    begins = (f.begins.0 ++ es, ap (λ l. l ++ es) f.begins.1 ∙ append_assoc a.seen f.begins.0 es);
    sound = f.sound;
    complete = own-append a.who h es ∙ ap (λ l. own a.who h ++ l) (own_none who a.who es all other) ∙ append-nil (own a.who h) ∙ f.complete;
  }

  -- the count of the accounts of `who`, with one more account
  pub named_more : (who : ℕ) (a : Account C R) (l : List (Account C R)) → names_among who (a ∷ l) ≡ cond (a.who == who) 1 0 + names_among who l
  named_more who a l = sum_by-cons (λ (a : Account C R). cond (a.who == who) 1 0) a l

  -- if no account is that of `who`, each is that of another caller
  pub unnamed : (who : ℕ) (l : List (Account C R)) → names_among who l ≡ 0 → All (λ a. a.who ≢ who) l
  unnamed who [] none = All-nil (λ (a : Account C R). a.who ≢ who)
  unnamed who (a ∷ l) none =
      let none' : cond (a.who == who) 1 0 + names_among who l ≡ 0 = sym (named_more who a l) ∙ none in
      All-cons (λ (a : Account C R). a.who ≢ who) a l
      (λ same.
      let one : ◌≡◌ {A = ℕ} (cond (a.who == who) 1 0) 1 = ap (λ (b : Bool). cond b 1 0) (eq-eqb a.who who same) in
      let other : ◌≡◌ {A = ℕ} (cond (a.who == who) 1 0) 0 = omega arith in
      let wrong : ◌≡◌ {A = ℕ} 1 0 = sym one ∙ other in
      omega arith)
      (unnamed who l (omega arith))

  -- an account counts as one account of its own caller
  pub names_self : (a : Account C R) → names_among a.who (a ∷ []) ≡ 1
  names_self a = rw (eq-eqb a.who a.who refl) refl

  -- all accounts of other callers agree with the longer history
  pub fits_all : (who : ℕ) (h es : List (Entry C R)) (l : List (Account C R)) → All (λ e. e.who ≡ who) es → names_among who l ≡ 0
      → All (IsConsistent h) l → All (IsConsistent (h ++ es)) l
  fits_all who h es l all none fits = λ k d within.
      fits_others who h es _ all (unnamed who l none k d within) (fits k d within)
