-- The value of a variable over edges of an event, change by change.
use Rattle.std.proofs.Common.{◌≡◌, ℕ, zero, suc, ◌+◌, ◌-◌, ◌<◌, ◌≤◌, ◌⊎◌, ◌&&◌, ◌==◌, Bool, true, false, List, [], ◌∷◌, refl, ap, sym, inl, inr, ◌∙◌, arith}
use Rattle.std.specs.Prelude.{nat_le, nat_lt, if◌then◌else◌}
use Rattle.std.proofs.lemmas.Bool.{ltb-true, ltb-false, leb-true, leb-false, eq-eqb, ne_eqb, and_parts, and_cases, and_left, and_right}
use Rattle.vme_trace.specs.declared.dump.change.Code.{Code}
use Rattle.vme_trace.specs.declared.dump.change.Change.{Change}
use Rattle.vme_trace.specs.declared.dump.change.Value.{Value}
use Rattle.vme_trace.specs.Shown.{is_code, is_at, is_due, value_after, value_over}

-- without changes the value stays
pub over_none : (code : Code) (edge count : ℕ) (v : Value) → value_over code [] edge count v ≡ v
unfolding value_over value_after
over_none code edge zero v = refl
over_none code edge (suc count) v = over_none code (suc edge) count v

-- a change that is not one of the variable at an edge
after_other : (code : Code) (c : Change) (cs : List Change) (k : ℕ) (v : Value) → is_at code k c ≡ false
    → value_after code k (c ∷ cs) v ≡ value_after code k cs v
unfolding value_after
after_other code c cs k v other = ap (λ (b : Bool). value_after code k cs (if b then c.value else v)) other

-- a change that is one of the variable at an edge
after_own : (code : Code) (c : Change) (cs : List Change) (k : ℕ) (v : Value) → is_at code k c ≡ true
    → value_after code k (c ∷ cs) v ≡ value_after code k cs c.value
unfolding value_after
after_own code c cs k v own = ap (λ (b : Bool). value_after code k cs (if b then c.value else v)) own

-- a change at none of the edges
over_skip : (code : Code) (c : Change) (cs : List Change) (edge count : ℕ) (v : Value)
    → ((k : ℕ) → edge ≤ k → k < edge + count → is_at code k c ≡ false)
    → value_over code (c ∷ cs) edge count v ≡ value_over code cs edge count v
unfolding value_over
over_skip code c cs edge zero v none = refl
over_skip code c cs edge (suc count) v none =
    over_skip code c cs (suc edge) count (value_after code edge (c ∷ cs) v) (λ k from below. none k (omega (arith, from)) (omega (arith, below)))
    ∙ ap (λ (w : Value). value_over code cs (suc edge) count w) (after_other code c cs edge v (none edge (omega arith) (omega arith)))

-- a change of the variable at another edge
at_other_edge : (code : Code) (c : Change) (k : ℕ) → (c.edge ≡ k → ⊥) → is_at code k c ≡ false
at_other_edge code c k apart = and_right (is_code code c.code) (c.edge == k) (ne_eqb c.edge k apart)

-- a change at the first of the edges is the value from there on
take_first : (code : Code) (c : Change) (cs : List Change) (edge rest : ℕ) (v : Value) → is_code code c.code ≡ true → c.edge ≡ edge
    → value_over code (c ∷ cs) edge (suc rest) v ≡ value_over code cs edge (suc rest) c.value
unfolding value_over
take_first code c cs edge rest v own here =
    over_skip code c cs (suc edge) rest (value_after code edge (c ∷ cs) v)
    (λ k from below. at_other_edge code c k (λ same. absurd (omega (arith, from, here, same))))
    ∙ ap (λ (w : Value). value_over code cs (suc edge) rest w)
    (after_own code c cs edge v (ap (λ (b : Bool). b && (c.edge == edge)) own ∙ eq-eqb c.edge edge here))

-- a change at one of the edges is the value from there on
over_take : (code : Code) (c : Change) (cs : List Change) (d edge count rest : ℕ) (v : Value) → is_code code c.code ≡ true
    → c.edge ≡ edge + d → count ≡ d + suc rest → value_over code (c ∷ cs) edge count v ≡ value_over code cs c.edge (suc rest) c.value
unfolding value_over
over_take code c cs zero edge count rest v own here long =
    let same : c.edge ≡ edge = omega (arith, here) in
    let all : count ≡ suc rest = omega (arith, long) in
    ap (λ (n : ℕ). value_over code (c ∷ cs) edge n v) all ∙ take_first code c cs edge rest v own same
    ∙ ap (λ (e : ℕ). value_over code cs e (suc rest) c.value) (sym same)
over_take code c cs (suc d) edge zero rest v own here long = absurd (omega (arith, long))
over_take code c cs (suc d) edge (suc count) rest v own here long =
    over_take code c cs d (suc edge) count rest (value_after code edge (c ∷ cs) v) own (omega (arith, here)) (omega (arith, long))

-- a change that is due is the value from its edge on
pub past_due : (code : Code) (c : Change) (later : List Change) (edge end : ℕ) (v : Value) → is_due code edge end c ≡ true
    → value_over code (c ∷ later) edge (end - edge) v ≡ value_over code later c.edge (end - c.edge) c.value
past_due code c later edge end v due =
    let parts = and_parts (is_code code c.code && nat_le edge c.edge) (nat_lt c.edge end) due in
    let own = and_parts (is_code code c.code) (nat_le edge c.edge) parts.0 in
    let from : edge ≤ c.edge = leb-true edge c.edge own.1 in
    let below : c.edge < end = ltb-true c.edge end parts.1 in
    let one : suc (end - c.edge - 1) ≡ end - c.edge = omega (arith, below) in
    let place : c.edge ≡ edge + (c.edge - edge) = omega (arith, from) in
    let long : end - edge ≡ (c.edge - edge) + suc (end - c.edge - 1) = omega (arith, from, below) in
    over_take code c later (c.edge - edge) edge (end - edge) (end - c.edge - 1) v own.0 place long
    ∙ ap (λ (n : ℕ). value_over code later c.edge n c.value) one

-- any other change leaves the value
pub past_other : (code : Code) (c : Change) (later : List Change) (edge end : ℕ) (v : Value) → is_due code edge end c ≡ false
    → value_over code (c ∷ later) edge (end - edge) v ≡ value_over code later edge (end - edge) v
past_other code c later edge end v due =
    over_skip code c later edge (end - edge) v
    (λ k from below. apart k from below (and_cases (is_code code c.code && nat_le edge c.edge) (nat_lt c.edge end) due))
  where
    early : (k : ℕ) → edge ≤ k → (is_code code c.code ≡ false) ⊎ (nat_le edge c.edge ≡ false) → is_at code k c ≡ false
    early k from (inl other) = and_left (is_code code c.code) (c.edge == k) other
    early k from (inr before) =
        let less : c.edge < edge = leb-false edge c.edge before in
        at_other_edge code c k (λ same. absurd (omega (arith, less, from, same)))

    apart : (k : ℕ) → edge ≤ k → k < edge + (end - edge) → ((is_code code c.code && nat_le edge c.edge) ≡ false) ⊎ (nat_lt c.edge end ≡ false)
        → is_at code k c ≡ false
    apart k from below (inl one) = early k from (and_cases (is_code code c.code) (nat_le edge c.edge) one)
    apart k from below (inr past) =
        let more : end ≤ c.edge = ltb-false c.edge end past in
        at_other_edge code c k (λ same. absurd (omega (arith, more, from, below, same)))
