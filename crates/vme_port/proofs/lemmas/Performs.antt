-- The effect of a command on the seat that holds the object of one slot.
use Rattle.std.proofs.Common.{ℕ, ◌≡◌, ◌+◌, ◌-◌, ◌^◌, ◌<◌, [], ◌∷◌, ap, sym, ◌∙◌}
use Rattle.atomic_table.specs.Table.{Me, rest}
use Rattle.vme_port.specs.declared.home.Home.{Home}
use Rattle.vme_port.specs.Steps.{IsOut, IsFull, HasPerformed}

module _ {S V : Type 0} (i : ℕ) where
  -- the object is the only one that the seat holds
  alone : (m : Me (Home S) V) (home : Home S) → m.1 ≡ (i, home) ∷ rest m.1 → IsOut i m → m.1 ≡ (i, home) ∷ []
  alone m home there out = there ∙ ap (λ l. (i, home) ∷ rest l) out.1

  -- the seat after a write to the slot
  written : (m : Me (Home S) V) (home next : Home S) → IsOut i m → ◌≡◌ {A = Me (Home S) V} (m.0, (i, next) ∷ rest m.1) (m.0, (i, next) ∷ [])
  written m home next out = ap (λ l. (m.0, (i, next) ∷ rest l)) out.1

  -- the slot can be borrowed
  pub lent : (m : Me (Home S) V) → IsOut i m → (home : Home S) × (m.1 ≡ (i, home) ∷ rest m.1)
  lent m out = (out.0, out.1 ∙ ap (λ l. (i, out.0) ∷ rest l) (sym out.1))

  -- at 2^64 - 1 entries nothing changes
  pub full : (m : Me (Home S) V) (home : Home S) → m.1 ≡ (i, home) ∷ rest m.1 → IsOut i m → home.count ≡ 2 ^ 64 - 1
      → IsFull i m (m.0, (i, home) ∷ rest m.1)
  full m home there out last = record { home = home; out = alone m home there out; last = last; same = ap (λ l. (m.0, l)) (sym there) }

  -- the object performs the command and counts one more entry
  pub performed : {C R : Type 0} (step : S → C → S × R) (cmd : C) (reply : R) (m : Me (Home S) V) (home next : Home S) → m.1 ≡ (i, home) ∷ rest m.1 → IsOut i m
      → home.count < 2 ^ 64 - 1 → next.count ≡ home.count + 1 → next.object ≡ (step home.object cmd).0 → reply ≡ (step home.object cmd).1
      → HasPerformed i step cmd reply m (m.0, (i, next) ∷ rest m.1)
  performed step cmd reply m home next there out capacity count object answer = record {
    home = home;
    out = alone m home there out;
    capacity = capacity;
    answer = answer;
    next = next;
    object = object;
    count = count;
    after = written m home next out;
  }
