-- One slot drives BBSY*, and BBSY* is low exactly if one does, at each sample.
use Rattle.std.proofs.Common.{◌≡◌, ◌≢◌, ℕ, zero, suc, ◌+◌, ◌-◌, ◌*◌, ◌^◌, ◌<◌, ◌==◌, Bool, true, false, not, ◌&&◌, ◌||◌, length, Option, Some, None, is_none, refl, ap, sym, subst, ◌∙◌, arith, inl, inr}
use Rattle.std.specs.Prelude.{nat_lt, count_ones}
use Rattle.std.specs.Int.Bits.{or_zero_l, or_zero_r}
use Rattle.std.specs.Bool.{beq}
use Rattle.std.specs.Option.{option_map_or}
use Rattle.std.proofs.lemmas.Bool.{cases_lt, eq-eqb, ne_eqb, lt-leb}
use Rattle.std.proofs.lemmas.Nat.{pow_pos, ones_cat, ones_le_self}
use Rattle.vme_script.specs.Configurations.{Configuration}
use Rattle.vme_line_task.specs.Scripts.{slot_at}
use Rattle.vme_script.specs.Lawful.{IsLawful}
use Rattle.vme_protocol.specs.declared.sample.Sample.{Sample}
use Rattle.vme_protocol.specs.Arbitration.{two_hold}
use Rattle.vme_trace_laws.proofs.lemmas.Turns.{same_board}
use Rattle.vme_legal_traces.specs.Samples.{slots_where}
use Rattle.vme_legal_traces.specs.Kept.{strict_scope}

-- a bit of a slot is one bit
one_bit : (k : ℕ) → nat_lt 1 (count_ones (2 ^ k)) ≡ false
one_bit k =
    let power : ℕ = 2 ^ k in
    let both : count_ones (1 * power + 0) ≡ count_ones 1 + count_ones 0 = ones_cat k 1 0 (pow_pos k) in
    let same : 1 * power + 0 ≡ power = omega arith in
    let is : count_ones power ≡ count_ones 1 + count_ones 0 = ap count_ones (sym same) ∙ both in
    lt-leb 2 (count_ones power) (omega (arith, is, ones_le_self 1, ones_le_self 0))

module _ (config : Configuration) (test : ℕ → Bool) where
  -- no slot passes a test
  pub no_slots : (n : ℕ) → ((b : ℕ) → b < n → test b ≡ false) → slots_where config test n ≡ 0
  no_slots zero none = refl
  no_slots (suc n) none =
      rw (none n (omega arith), no_slots n (λ b less. none b (omega (arith, less)))) refl

  -- one slot passes a test
  pub one_slot : (n b : ℕ) → b < n → test b ≡ true → ((a : ℕ) → a < n → a ≢ b → test a ≡ false) → slots_where config test n ≡ 2 ^ (slot_at config b - 1)
  one_slot zero b less is others = absurd (omega (arith, less))
  one_slot (suc n) b less is others =
      elim (cases_lt b n) [
        | inl soon ↦
            rw (others n (omega arith) (λ same. absurd (omega (arith, same, soon))), one_slot n b soon is (λ a soon_a apart. others a (omega (arith, soon_a)) apart))
            (or_zero_r (2 ^ (slot_at config b - 1)))
        | inr past ↦
            let same : b ≡ n = omega (arith, less, past) in
            let here : test n ≡ true = subst (λ (m : ℕ). test m ≡ true) same is in
            rw (here, no_slots n (λ a soon. others a (omega (arith, soon)) (λ equal. absurd (omega (arith, equal, same, soon)))))
            (or_zero_l (2 ^ (slot_at config n - 1)) ∙ ap (λ (m : ℕ). 2 ^ (slot_at config m - 1)) (sym same))
      ]

-- whether a slot is the holder
abbrev pub held_by : Option ℕ → ℕ → Bool
held_by holder slot = option_map_or (λ h. h == slot) holder false

module _ (config : Configuration) (lawful : IsLawful config) (timeout : ℕ) (s : Sample) (holder : Option ℕ) (test : ℕ → Bool)
    (busy : s.busy ≡ is_none holder) (drivers : s.drivers ≡ slots_where config test (length config.boards))
    (low : (b : ℕ) → b < length config.boards → test b ≡ held_by holder (slot_at config b))
    (boarded : (slot : ℕ) → holder ≡ Some slot → (b : ℕ) × (b < length config.boards) × (slot_at config b ≡ slot)) where
  -- no slot drives BBSY*
  free_drivers : holder ≡ None → s.drivers ≡ 0
  free_drivers is = drivers ∙ no_slots config test (length config.boards) (λ b there. low b there ∙ ap (λ (h : Option ℕ). held_by h (slot_at config b)) is)

  -- one slot drives BBSY*
  held_drivers : (slot : ℕ) → holder ≡ Some slot → (k : ℕ) × (s.drivers ≡ 2 ^ k)
  held_drivers slot is =
      let board = boarded slot is in
      let own : test board.0 ≡ true
      = low board.0 board.1 ∙ ap (λ (h : Option ℕ). held_by h (slot_at config board.0)) is ∙ eq-eqb slot (slot_at config board.0) (sym board.2) in (
        slot_at config board.0 - 1,
        drivers
            ∙ one_slot config test (length config.boards) board.0 board.1 own
            (λ a there apart. low a there ∙ ap (λ (h : Option ℕ). held_by h (slot_at config a)) is
            ∙ ne_eqb slot (slot_at config a) (λ same. apart (same_board config lawful a board.0 there board.1 (sym same ∙ sym board.2)))),
      )

  -- a set of drivers that is empty
  empty_is : (drivers : ℕ) (busy : Bool) → drivers ≡ 0 → busy ≡ true
      → (nat_lt 1 (count_ones drivers) || true && not (beq busy (drivers == 0))) ≡ false
  empty_is drivers busy none high = rw (none, high, lt-leb 2 (count_ones 0) (omega (arith, ones_le_self 0))) refl

  -- a set of one driver
  single_is : (drivers : ℕ) (busy : Bool) (k : ℕ) → drivers ≡ 2 ^ k → busy ≡ false
      → (nat_lt 1 (count_ones drivers) || true && not (beq busy (drivers == 0))) ≡ false
  single_is drivers busy k one low =
      let power : ℕ = 2 ^ k in
      let some : 0 < power = pow_pos k in
      let apart : (power == 0) ≡ false = ne_eqb power 0 (λ same. absurd (omega (arith, same, some))) in
      rw (one, low, one_bit k, apart) refl

  -- one slot at most drives BBSY*, and BBSY* is low exactly if one does
  pub one_holds : two_hold (strict_scope timeout) s ≡ false
  unfolding two_hold
  one_holds = by_holder holder refl
    where
      by_holder : (found : Option ℕ) → holder ≡ found → (nat_lt 1 (count_ones s.drivers) || true && not (beq s.busy (s.drivers == 0))) ≡ false
      by_holder None is = empty_is s.drivers s.busy (free_drivers is) (busy ∙ ap is_none is)
      by_holder (Some slot) is =
          let one = held_drivers slot is in single_is s.drivers s.busy one.0 one.1 (busy ∙ ap is_none is)
