-- Passes whose accounts agree with one history.
use Rattle.std.proofs.Common.{ℕ, ◌≡◌, ◌+◌, ◌<◌, ◌≤◌, ◌==◌, inl, inr, Bool, cond, List, [], ◌∷◌, length, map, All, refl, ap, sym, arith, eq-eqb, ne_eqb}
use Rattle.std.specs.List.{sum_by, count_by}
use Rattle.std.proofs.lemmas.Bool.{cases_eq}
use Rattle.std.proofs.lemmas.List.Sums.{sum_by-cons, count_by-le-length}
use Rattle.std.proofs.lemmas.List.Elements.{All-head, All-tail, All-nil, All-cons}
use Rattle.vme_object.specs.declared.history.Entry.{Entry}
use Rattle.vme_object.specs.History.{own}
use Rattle.vme_port.specs.declared.rule.Account.{Account}
use Rattle.vme_port.specs.Views.{names_among}
use Rattle.vme_port.specs.Rule.{IsConsistent}
use Rattle.vme_port.specs.Passes.{PassView, account_of}
use Rattle.vme_port.proofs.lemmas.Accounts.{named_more}

module _ {C R : Type 0} where
  -- a view has at most as many accounts of `who` as it has accounts
  pub names_within : (who : ℕ) (l : List (Account C R)) → names_among who l ≤ length l
  names_within who l = count_by-le-length (λ (a : Account C R). a.who == who) l

  -- the number of own entries of `who` in a history with one more entry
  own_more : (who : ℕ) (e : Entry C R) (h : List (Entry C R)) → length (own who (e ∷ h)) ≡ length (own who h) + cond (who == e.who) 1 0
  own_more who e h = elim (cases_eq who e.who) [
    | inl same ↦
        let one : ◌≡◌ {A = ℕ} (cond (who == e.who) 1 0) 1 = ap (λ (b : Bool). cond b 1 0) (eq-eqb who e.who same) in
        let its : own who (e ∷ h) ≡ e ∷ own who h = ap (λ (b : Bool). cond b (e ∷ own who h) (own who h)) (eq-eqb e.who who (sym same)) in
        omega (arith, ap length its)
    | inr other ↦
        let none : ◌≡◌ {A = ℕ} (cond (who == e.who) 1 0) 0 = ap (λ (b : Bool). cond b 1 0) (ne_eqb who e.who other) in
        let its : own who (e ∷ h) ≡ own who h = ap (λ (b : Bool). cond b (e ∷ own who h) (own who h)) (ne_eqb e.who who (λ same. other (sym same))) in
        omega (arith, ap length its)
  ]

  -- the number of a history's entries that belong to these accounts
  abbrev pub owned : List (Account C R) → List (Entry C R) → ℕ
  owned l h = sum_by (λ a. length (own a.who h)) l

  -- an empty history has no owned entries
  owned_none : (l : List (Account C R)) → owned l [] ≡ 0
  owned_none [] = refl
  owned_none (a ∷ l) = omega (arith, sum_by-cons (λ (a : Account C R). length (own {C = C} {R = R} a.who [])) a l, owned_none l)

  -- the number of owned entries, with one more entry
  owned_more : (l : List (Account C R)) (e : Entry C R) (h : List (Entry C R)) → owned l (e ∷ h) ≡ owned l h + names_among e.who l
  owned_more [] e h = refl
  owned_more (a ∷ l) e h =
      omega (arith, sum_by-cons (λ (a : Account C R). length (own a.who (e ∷ h))) a l, sum_by-cons (λ (a : Account C R). length (own a.who h)) a l, named_more e.who a l, own_more a.who e h, owned_more l e h)

  -- if there is one account for each number, each entry is owned exactly once
  pub owned_once : (k : ℕ) (l : List (Account C R)) (h : List (Entry C R)) → ((who : ℕ) → who < k → names_among who l ≡ 1) → All (λ e. e.who < k) h → owned l h ≡ length h
  owned_once k l [] one known = owned_none l
  owned_once k l (e ∷ h) one known =
      let below : e.who < k = All-head (λ (e : Entry C R). e.who < k) e h known in
      let rest = owned_once k l h one (All-tail (λ (e : Entry C R). e.who < k) e h known) in
      omega (arith, owned_more l e h, one e.who below)

  -- the passes together made exactly the entries that belong to their accounts
  pub mine_owned : (h : List (Entry C R)) (ps : List (PassView C R)) → All (λ p. own p.who h ≡ p.mine) ps
      → sum_by (λ p. length p.mine) ps ≡ owned (map account_of ps) h
  mine_owned h [] mine = refl
  mine_owned h (p ∷ ps) mine =
      let here : own p.who h ≡ p.mine = All-head (λ (p : PassView C R). own p.who h ≡ p.mine) p ps mine in
      let rest = mine_owned h ps (All-tail (λ (p : PassView C R). own p.who h ≡ p.mine) p ps mine) in
      omega (arith, sum_by-cons (λ (p : PassView C R). length p.mine) p ps, sum_by-cons (λ (a : Account C R). length (own a.who h)) (account_of p) (map account_of ps), ap length here)

  -- there are as many passes of `who` as accounts of `who`
  pub named_passes : (who : ℕ) (ps : List (PassView C R)) → count_by (λ p. p.who == who) ps ≡ names_among who (map account_of ps)
  named_passes who [] = refl
  named_passes who (p ∷ ps) =
      omega (arith, sum_by-cons (λ (p : PassView C R). cond (p.who == who) 1 0) p ps, named_more who (account_of p) (map account_of ps), named_passes who ps)

  -- each pass agrees with the history if its account does
  pub fits_passes : (h : List (Entry C R)) (ps : List (PassView C R)) → All (IsConsistent h) (map account_of ps) → All (λ p. IsConsistent h (account_of p)) ps
  fits_passes h [] fits = All-nil (λ (p : PassView C R). IsConsistent h (account_of p))
  fits_passes h (p ∷ ps) fits =
      All-cons (λ (p : PassView C R). IsConsistent h (account_of p)) p ps (All-head (IsConsistent h) (account_of p) (map account_of ps) fits) (fits_passes h ps (All-tail (IsConsistent h) (account_of p) (map account_of ps) fits))
