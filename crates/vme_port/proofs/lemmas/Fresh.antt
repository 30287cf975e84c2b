-- The accounts of a new port, and the split of the first one.
use Rattle.std.proofs.Common.{ℕ, zero, suc, ◌≡◌, ◌+◌, ◌<◌, ◌≤◌, ◌==◌, inl, inr, Bool, true, false, cond, ltb, List, [], ◌∷◌, length, take, drop, All, refl, ap, arith, eq-eqb, ne_eqb}
use Rattle.std.proofs.lemmas.List.Elements.{All-nil, All-cons}
use Rattle.std.proofs.lemmas.Bool.{cases_eq}
use borrow.Author.Tests.{ltb-true, ltb-false}
use Rattle.vme_port.specs.declared.rule.Account.{Account}
use Rattle.vme_port.specs.Views.{account, fresh_accounts, names_among}
use Rattle.vme_port.specs.Rule.{IsConsistent}
use Rattle.vme_port.proofs.lemmas.Accounts.{named_more}

module _ (C R : Type 0) where
  -- there are `n` fresh accounts
  pub fresh_length : (i n : ℕ) → length (fresh_accounts {C = C} {R = R} i n) ≡ n
  fresh_length i zero = refl
  fresh_length i (suc n) = ap suc (fresh_length (suc i) n)

  -- no fresh account has a number below the first
  fresh_before : (who i n : ℕ) → who < i → names_among who (fresh_accounts {C = C} {R = R} i n) ≡ 0
  fresh_before who i zero less = refl
  fresh_before who i (suc n) less =
      let other : ◌≡◌ {A = ℕ} (cond (i == who) 1 0) 0 = ap (λ (b : Bool). cond b 1 0) (ne_eqb i who (λ same. omega arith)) in
      let rest : names_among who (fresh_accounts {C = C} {R = R} (suc i) n) ≡ 0 = fresh_before who (suc i) n (omega arith) in
      omega (arith, named_more who (account {C = C} {R = R} i [] []) (fresh_accounts (suc i) n))

  -- no fresh account has a number past the last
  fresh_past : (who i n : ℕ) → i + n ≤ who → names_among who (fresh_accounts {C = C} {R = R} i n) ≡ 0
  fresh_past who i zero less = refl
  fresh_past who i (suc n) less =
      let other : ◌≡◌ {A = ℕ} (cond (i == who) 1 0) 0 = ap (λ (b : Bool). cond b 1 0) (ne_eqb i who (λ same. omega arith)) in
      let rest : names_among who (fresh_accounts {C = C} {R = R} (suc i) n) ≡ 0 = fresh_past who (suc i) n (omega arith) in
      omega (arith, named_more who (account {C = C} {R = R} i [] []) (fresh_accounts (suc i) n))

  -- exactly one fresh account has each number in between
  fresh_in : (who i n : ℕ) → i ≤ who → who < i + n → names_among who (fresh_accounts {C = C} {R = R} i n) ≡ 1
  fresh_in who i zero from below = absurd (omega arith)
  fresh_in who i (suc n) from below = elim (cases_eq i who) [
    | inl here ↦
        let one : ◌≡◌ {A = ℕ} (cond (i == who) 1 0) 1 = ap (λ (b : Bool). cond b 1 0) (eq-eqb i who here) in
        let rest : names_among who (fresh_accounts {C = C} {R = R} (suc i) n) ≡ 0 = fresh_before who (suc i) n (omega arith) in
        omega (arith, named_more who (account {C = C} {R = R} i [] []) (fresh_accounts (suc i) n))
    | inr later ↦
        let other : ◌≡◌ {A = ℕ} (cond (i == who) 1 0) 0 = ap (λ (b : Bool). cond b 1 0) (ne_eqb i who later) in
        let rest : names_among who (fresh_accounts {C = C} {R = R} (suc i) n) ≡ 1 = fresh_in who (suc i) n (omega arith) (omega arith) in
        omega (arith, named_more who (account {C = C} {R = R} i [] []) (fresh_accounts (suc i) n))
  ]

  -- a new port has one account for each number below k, and no other
  pub fresh_shared : (k who : ℕ) (b : Bool) → ltb who k ≡ b → names_among who (fresh_accounts {C = C} {R = R} 0 k) ≡ cond b 1 0
  fresh_shared k who true below = fresh_in who 0 k (omega arith) (let less = ltb-true who k below in omega arith)
  fresh_shared k who false past = fresh_past who 0 k (let least = ltb-false who k past in omega arith)

  -- each fresh account agrees with the empty history
  pub fresh_fits : (i n : ℕ) → All (IsConsistent []) (fresh_accounts {C = C} {R = R} i n)
  fresh_fits i zero = All-nil (IsConsistent {C = C} {R = R} [])
  fresh_fits i (suc n) = All-cons (IsConsistent []) (account i [] []) (fresh_accounts (suc i) n) (record { begins = ([], refl); sound = refl; complete = refl }) (fresh_fits (suc i) n)

module _ {C R : Type 0} where
  -- a split keeps the total number of accounts
  pub cut_length : (accounts : List (Account C R)) → length (drop 1 accounts) + length (take 1 accounts) ≡ length accounts
  cut_length [] = refl
  cut_length (a ∷ rest) = omega arith

  -- a split keeps the total number of accounts of `who`
  pub cut_named : (who : ℕ) (accounts : List (Account C R)) → names_among who (drop 1 accounts) + names_among who (take 1 accounts) ≡ names_among who accounts
  cut_named who [] = refl
  cut_named who (a ∷ rest) = omega (arith, named_more who a rest, named_more who a [])
