-- A request that waits at a rotating arbiter, and the grants that precede its own.
use Rattle.std.proofs.Common.{◌≡◌, ◌≢◌, ℕ, ◌<◌, ◌≤◌, true, List, [], ◌∷◌, length, Option, Some, None, ap, subst, sym, ◌∙◌, refl, arith, inl, inr, rules}
use Rattle.std.specs.Prelude.{All, Contains}
use Rattle.std.specs.List.{cons_option}
use Rattle.std.specs.Option.{option_map_or}
use Rattle.std.proofs.lemmas.Bool.{cases_Bool, ltb-true}
use Rattle.std.proofs.lemmas.Option.{same_Some}
use Rattle.std.proofs.lemmas.List.Elements.{All-nil, All-cons, All-head, All-tail, All-contains, All-filter}
use Rattle.vme_object.specs.declared.history.Entry.{Entry}
use Rattle.vme_arbiter.specs.declared.command.ArbCmd.{ArbCmd}
use Rattle.vme_arbiter.specs.declared.command.ArbCmd.TheVariants.{Ask, Look, Done}
use Rattle.vme_arbiter.specs.declared.command.ArbReply.{ArbReply}
use Rattle.vme_arbiter.specs.declared.kind.ArbiterKind.TheVariants.{Rotating}
use Rattle.vme_arbiter.specs.Levels.{level_order, level_precedes, levels_before, first_after}
use Rattle.vme_arbiter.specs.Requests.{BusRequest, bus_request}
use Rattle.vme_arbiter.specs.Grants.{IsBehind}
use Rattle.vme_arbiter.specs.Arbitration.{Arbitration, holds, can_ask, lawful_ask, bus_after_release, next_granted, arbiter_step}
use Rattle.vme_arbiter.specs.Orderly.{IsBySlot, IsOrderly, IsLawfulRequest}
use Rattle.vme_arbiter.specs.Shares.{grant_of, grants_in, IsLowest, LeavesLowest, Waits}
use Rattle.vme_arbiter.proofs.Orders.{before-apart, turn-nearer, three-before}
use Rattle.vme_arbiter.proofs.Grants.{granted-next, none-granted}
use Rattle.vme_arbiter.proofs.Pending.{All-with}
use Rattle.vme_arbiter.proofs.lemmas.Orderly.{levels_ok, orderly-step, kind-stays}
use Rattle.vme_arbiter.proofs.Sets.{contains_parts, with-contains, without-contains}

-- a slot that is granted the bus holds it
pub grant-holds : (bus : Arbitration) (cmd : ArbCmd) (r : BusRequest) → grant_of bus cmd ≡ Some r → (arbiter_step bus cmd).0.holder ≡ Some r.slot
grant-holds bus cmd r is = search rules

-- a slot that a request makes the holder is granted the bus
taken_granted : (holder : Option ℕ) (bus : Arbitration) (new : BusRequest) (slot : ℕ) → bus.holder ≢ Some slot
    → (lawful_ask holder bus new).0.holder ≡ Some slot
    → (r : BusRequest) × (option_map_or (λ (h : ℕ). None) holder (Some new) ≡ Some r) × (r.slot ≡ slot)
taken_granted None bus new slot other now = (new, refl, same_Some new.slot slot now)
taken_granted (Some h) bus new slot other now = absurd (other now)

-- a slot that a release makes the holder is granted the bus
handed_granted : (next : Option BusRequest) (bus : Arbitration) (slot : ℕ) → (bus_after_release next bus).holder ≡ Some slot
    → (r : BusRequest) × (next ≡ Some r) × (r.slot ≡ slot)
handed_granted None bus slot now = cc
handed_granted (Some next) bus slot now = (next, refl, same_Some next.slot slot now)

-- a slot that a command makes the holder is granted the bus by it
pub holder-granted : (bus : Arbitration) (cmd : ArbCmd) (slot : ℕ) → bus.holder ≢ Some slot → (arbiter_step bus cmd).0.holder ≡ Some slot
    → (r : BusRequest) × (grant_of bus cmd ≡ Some r) × (r.slot ≡ slot)
holder-granted bus (Ask asks level) slot other now =
    elim (cases_Bool (can_ask bus asks level)) [
      | inl can ↦ rw can (taken_granted bus.holder bus (bus_request level asks) slot other (rw can at now))
      | inr cannot ↦ absurd (other (rw cannot at now))
    ]
holder-granted bus (Look looks) slot other now = absurd (other now)
holder-granted bus (Done done) slot other now =
    elim (cases_Bool (holds bus done)) [
      | inl held ↦ rw held (handed_granted (next_granted bus) bus slot (rw held at now))
      | inr not_held ↦ absurd (other (rw not_held at now))
    ]

-- two pending requests of one slot are equal
sole_slot : (a b : BusRequest) (pending : List BusRequest) → IsBySlot pending → Contains pending a → Contains pending b → a.slot ≡ b.slot
    → a ≡ b
sole_slot a b [] by_slot in_a in_b same = absurd (omega (arith, in_a.1))
sole_slot a b (x ∷ pending) by_slot in_a in_b same =
    elim (contains_parts x a pending in_a) [
      | inl is_a ↦
          elim (contains_parts x b pending in_b) [
            | inl is_b ↦ sym is_a ∙ is_b
            | inr later_b ↦
                let above = All-contains (λ later. x.slot < later.slot) pending b by_slot.0 later_b in
                let at = ap (λ (r : BusRequest). r.slot) is_a in
                absurd (omega arith)
          ]
      | inr later_a ↦
          elim (contains_parts x b pending in_b) [
            | inl is_b ↦
                let above = All-contains (λ later. x.slot < later.slot) pending a by_slot.0 later_a in
                let at = ap (λ (r : BusRequest). r.slot) is_b in
                absurd (omega arith)
            | inr later_b ↦ sole_slot a b pending by_slot.1 later_a later_b same
          ]
    ]

-- if a request is pending, a slot holds the bus
held_while_pending : (bus : Arbitration) (r : BusRequest) → IsOrderly bus → Contains bus.pending r → bus.holder ≡ None → ⊥
held_while_pending bus r orderly pends idle =
    let in_none : Contains [] r = subst (λ (l : List BusRequest). Contains l r) (orderly.free idle) pends in
    omega (arith, in_none.1)

-- a request that waits: the lowest on its level, in an orderly state of a rotating arbiter
record WaitsOn (bus : Arbitration) (r : BusRequest) : Type 0 where
  orderly : IsOrderly bus
  kind : bus.kind ≡ Rotating
  waits : IsLowest bus r

-- grants are on other levels than a request, and at most one for each level that precedes its own
record Goes (bus : Arbitration) (r : BusRequest) (grants : List BusRequest) : Type 0 where
  elsewhere : All (λ grant. grant.level ≢ r.level) grants
  by_order : length grants ≤ levels_before (level_order bus.first) r.level

-- while a request is pending, a new request is not granted: the request still waits, and the grants keep the properties
taken_goes : (holder : Option ℕ) (bus : Arbitration) (r new : BusRequest) (later : List BusRequest) → bus.holder ≡ holder → IsOrderly bus
    → IsLowest bus r → (new.level ≡ r.level → r.slot ≤ new.slot)
    → IsLowest (lawful_ask holder bus new).0 r
    × (Goes (lawful_ask holder bus new).0 r later → Goes bus r (cons_option (option_map_or (λ (h : ℕ). None) holder (Some new)) later))
taken_goes None bus r new later idle orderly lowest leaves = absurd (held_while_pending bus r orderly lowest.pends idle)
taken_goes (Some h) bus r new later is orderly lowest leaves = (
  record {
    pends = with-contains new r bus.pending (inr lowest.pends);
    lowest = All-with (λ other. other.level ≡ r.level → r.slot ≤ other.slot) new bus.pending leaves lowest.lowest;
  },
  λ goes. record { elsewhere = goes.elsewhere; by_order = goes.by_order },
)

-- a grant to another request than the lowest on a level is on a level that precedes it
granted_instead : (bus : Arbitration) (r next : BusRequest) → IsOrderly bus → IsLowest bus r → next_granted bus ≡ Some next → next ≢ r
    → level_precedes (level_order bus.first) next.level r.level ≡ true
granted_instead bus r next orderly lowest is_next other =
    let is = granted-next bus.first bus.pending next orderly.first (levels_ok bus.pending orderly.requests) is_next in
    let P : BusRequest → Type 0 = IsBehind (level_order bus.first) next in
    elim (All-contains P bus.pending r is.first lowest.pends) [
      | inl same ↦ absurd (other (sym same))
      | inr (inl before) ↦ before
      | inr (inr later) ↦
          let not_lower =
          All-contains (λ other. other.level ≡ r.level → r.slot ≤ other.slot) bus.pending next lowest.lowest is.pends (sym later.0) in
          absurd (omega (arith, later.1, not_lower))
    ]

-- after a grant to another request, the request still waits, and fewer levels precede its own
record Passed (bus : Arbitration) (r next : BusRequest) : Type 0 where
  lowest : IsLowest (bus_after_release (Some next) bus) r
  elsewhere : next.level ≢ r.level
  nearer : levels_before (level_order (first_after bus.kind next.level)) r.level < levels_before (level_order bus.first) r.level

-- a grant to another request than the lowest on its level passes that request
passed_by : (bus : Arbitration) (r next : BusRequest) → WaitsOn bus r → next_granted bus ≡ Some next → next ≢ r → Passed bus r next
passed_by bus r next on is_next other =
    let levels = level_order bus.first in
    let before = granted_instead bus r next on.orderly on.waits is_next other in
    let is = granted-next bus.first bus.pending next on.orderly.first (levels_ok bus.pending on.orderly.requests) is_next in
    let next_ok = (All-contains IsLawfulRequest bus.pending next on.orderly.requests is.pends).1 in
    let r_ok = (All-contains IsLawfulRequest bus.pending r on.orderly.requests on.waits.pends).1 in
    let apart : r.slot ≢ next.slot =
    λ same. other (sym (sole_slot r next bus.pending on.orderly.by_slot on.waits.pends is.pends same)) in
    record {
      lowest = record {
        pends = without-contains next.slot r bus.pending on.waits.pends apart;
        lowest = All-filter _ (λ other. other.level ≡ r.level → r.slot ≤ other.slot) bus.pending on.waits.lowest;
      };
      elsewhere = before-apart levels next.level r.level before;
      nearer =
          rw on.kind (turn-nearer bus.first next.level r.level (ltb-true bus.first 4 on.orderly.first) (ltb-true next.level 4 next_ok)
          (ltb-true r.level 4 r_ok) before);
    }

-- after a release, the request still waits, and the grants from the release on have the properties
handed_goes : (bus : Arbitration) (r : BusRequest) (next : Option BusRequest) (later : List BusRequest) → WaitsOn bus r → next_granted bus ≡ next
    → All (λ grant. grant ≢ r) (cons_option next later)
    → IsLowest (bus_after_release next bus) r × (Goes (bus_after_release next bus) r later → Goes bus r (cons_option next later))
handed_goes bus r None later on is_next others =
    let nothing = none-granted bus.first bus.pending on.orderly.first (levels_ok bus.pending on.orderly.requests) is_next in
    let in_none : Contains [] r = subst (λ (l : List BusRequest). Contains l r) nothing on.waits.pends in
    absurd (omega (arith, in_none.1))
handed_goes bus r (Some next) later on is_next others =
    let passed = passed_by bus r next on is_next (All-head (λ grant. grant ≢ r) next later others) in (
      passed.lowest,
      λ goes.
          let nearer = passed.nearer in
          let rest = goes.by_order in
          record {
            elsewhere = All-cons (λ grant. grant.level ≢ r.level) next later passed.elsewhere goes.elsewhere;
            by_order = omega arith;
          },
    )

-- each command leaves the request waiting, and its grant, if any, has the properties
turn_goes : (bus : Arbitration) (r : BusRequest) (cmd : ArbCmd) (later : List BusRequest) → WaitsOn bus r → LeavesLowest r cmd
    → All (λ grant. grant ≢ r) (cons_option (grant_of bus cmd) later)
    → IsLowest (arbiter_step bus cmd).0 r × (Goes (arbiter_step bus cmd).0 r later → Goes bus r (cons_option (grant_of bus cmd) later))
turn_goes bus r (Ask slot level) later on leaves others =
    elim (cases_Bool (can_ask bus slot level)) [
      | inl can ↦ rw can (taken_goes bus.holder bus r (bus_request level slot) later refl on.orderly on.waits leaves)
      | inr cannot ↦ rw cannot (on.waits, λ goes. goes)
    ]
turn_goes bus r (Look slot) later on leaves others = (on.waits, λ goes. goes)
turn_goes bus r (Done slot) later on leaves others =
    elim (cases_Bool (holds bus slot)) [
      | inl held ↦ rw held (handed_goes bus r (next_granted bus) later on refl (rw held at others))
      | inr not_held ↦ rw not_held (on.waits, λ goes. goes)
    ]

-- a property of all grants holds of those after the first command
later_others : (P : BusRequest → Type 0) (first : Option BusRequest) (later : List BusRequest) → All P (cons_option first later) → All P later
later_others P None later all = all
later_others P (Some next) later all = All-tail P next later all

-- through a history in which a request waits, the grants have the properties
all_go : (bus : Arbitration) (r : BusRequest) (h : List (Entry ArbCmd ArbReply)) → WaitsOn bus r → All (λ e. LeavesLowest r e.cmd) h
    → All (λ grant. grant ≢ r) (grants_in bus h) → Goes bus r (grants_in bus h)
all_go bus r [] on leaves others = record { elsewhere = All-nil (λ grant. grant.level ≢ r.level); by_order = omega arith }
all_go bus r (e ∷ h) on leaves others =
    let then = (arbiter_step bus e.cmd).0 in
    let later = grants_in then h in
    let turn = turn_goes bus r e.cmd later on (All-head (λ e. LeavesLowest r e.cmd) e h leaves) others in
    turn.1 (all_go then r h
    (record { orderly = orderly-step bus e.cmd on.orderly; kind = kind-stays bus e.cmd ∙ on.kind; waits = turn.0 })
    (All-tail (λ e. LeavesLowest r e.cmd) e h leaves)
    (later_others (λ grant. grant ≢ r) (grant_of bus e.cmd) later others))

-- while a request waits, each grant is on another level
pub waits-elsewhere : (bus : Arbitration) (r : BusRequest) (h : List (Entry ArbCmd ArbReply)) → IsOrderly bus → bus.kind ≡ Rotating
    → Waits bus r h → All (λ grant. grant.level ≢ r.level) (grants_in bus h)
waits-elsewhere bus r h orderly kind waits =
    (all_go bus r h (record { orderly = orderly; kind = kind; waits = waits.pends }) waits.leaves waits.not_yet).elsewhere

-- while a request waits, there is at most one grant for each level that precedes its own
pub waits-by_order : (bus : Arbitration) (r : BusRequest) (h : List (Entry ArbCmd ArbReply)) → IsOrderly bus → bus.kind ≡ Rotating
    → Waits bus r h → length (grants_in bus h) ≤ levels_before (level_order bus.first) r.level
waits-by_order bus r h orderly kind waits =
    (all_go bus r h (record { orderly = orderly; kind = kind; waits = waits.pends }) waits.leaves waits.not_yet).by_order

-- while a request waits, there are at most three grants
pub waits-three : (bus : Arbitration) (r : BusRequest) (h : List (Entry ArbCmd ArbReply)) → IsOrderly bus → bus.kind ≡ Rotating
    → Waits bus r h → length (grants_in bus h) ≤ 3
waits-three bus r h orderly kind waits =
    let by_order = waits-by_order bus r h orderly kind waits in
    let r_ok = (All-contains IsLawfulRequest bus.pending r orderly.requests waits.pends.pends).1 in
    let three = three-before bus.first r.level (ltb-true bus.first 4 orderly.first) (ltb-true r.level 4 r_ok) in
    omega arith
