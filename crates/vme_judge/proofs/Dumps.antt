-- A sample of a dump, and what the local ports have done at it.
use Rattle.std.proofs.Common.{◌≡◌, ℕ, ◌+◌, ◌^◌, ◌%◌, ◌<◌, ◌≤◌, Bool, true, false, not, ◌==◌, List, [], ◌∷◌, ◌++◌, append_assoc, length, get_or, take, drop, Option, Some, None, Result, Ok, Err, IfOk, IsNone, IsSome, refl, ap, sym, ◌∙◌}
use Rattle.std.specs.Prelude.{bit_and, if◌then◌else◌}
use Rattle.std.specs.declared.alloc.AllocError.{AllocError}
use Rattle.std.proofs.Math.ListN.{drop_of_length-le}
use Rattle.std.proofs.Math.Nat.{zero-div}
use Rattle.std.proofs.lemmas.List.{drop_more, take-append-drop, take_more}
use Rattle.vme_protocol.specs.declared.port.Port.{Port}
use Rattle.vme_protocol.specs.declared.scope.Scope.{Scope}
use Rattle.vme_protocol.specs.Ports.{local_between}
use Rattle.vme_vcd_reader.specs.declared.bus.BusLines.{BusLines}
use Rattle.vme_vcd_reader.specs.declared.presence.Presence.{Presence}
use Rattle.vme_judge.specs.declared.finding.Finding.{Finding}
use Rattle.vme_judge.specs.declared.judge.Judge.{Judge}
use Rattle.vme_judge.specs.declared.judge.Spot.{Spot}
use Rattle.vme_judge.specs.DumpRuns.{Takes}
use Rattle.vme_judge.specs.Dumps.{done_taken, dump_scope, is_among, is_begun, port_at, port_taken, ports_after, ports_taken, slots_of, with_presence}
use Rattle.vme_judge.specs.Standing.{Course, Falls, HasFallen, IsStanding, Standing, Stands, course_map, course_then, found_by, resumed, standing, stands, state_of}

-- what is remembered is not changed after a finding
unchanged_by : (f : Standing → Standing) (finding : Option Finding) (m : Standing) → IsSome finding
    → found_by finding m ≡ course_map f (found_by finding m)
unchanged_by f None m some = absurd (cc some)
unchanged_by f (Some finding) m some = refl

-- nor what a judgement remembers
pub unchanged : (judge : Judge) (f : Standing → Standing) → IsSome judge.finding → standing judge ≡ course_map f (standing judge)
unfolding standing
unchanged judge f some = unchanged_by f judge.finding (state_of judge) some

-- what is remembered is changed, if nothing was found
map_by : (f : Standing → Standing) (finding : Option Finding) (m : Standing) → IsNone finding
    → found_by finding (f m) ≡ course_map f (found_by finding m)
map_by f None m none = refl
map_by f (Some finding) m none = absurd (cc none)

-- what is remembered once it is known which lines a dump has
pub scoped : (old : Judge) (p : Presence) (slots : ℕ) (scope : Scope) → IsNone old.finding → slots ≡ slots_of old.boards.now
    → scope ≡ dump_scope p slots old.scope
    → standing (record old { scope = scope; presence = p }) ≡ course_map (with_presence p) (standing old)
unfolding standing
scoped old p slots scope none is now =
    ap (λ scope. found_by old.finding (record (state_of old) { scope = scope; presence = p }))
    (now ∙ ap (λ slots. dump_scope p slots old.scope) is)
    ∙ map_by (with_presence p) old.finding (state_of old) none

-- after what is legal the judgement stands
resumed_stands : (c : Course) → IsStanding c → c ≡ resumed c
resumed_stands (Stands m) stood = refl
resumed_stands (Falls finding m) stood = absurd (cc stood)

-- a trace that stands takes something, after which the judgement may go on
resumed_then : (f : Standing → Course) (c : Course) → IsStanding c → resumed (course_then f c) ≡ course_then (λ m. resumed (f m)) c
resumed_then f (Stands m) stood = refl
resumed_then f (Falls finding m) stood = absurd (cc stood)

-- a judgement that has taken something and goes on stands
pub taken_stands : (old new : Judge) (f : Standing → Course) (goes_on : Bool) → Takes old new f goes_on → goes_on ≡ true
    → IsStanding (standing new)
taken_stands old new f goes_on takes on = sym takes.goes ∙ on

-- a judgement that takes nothing
pub takes_nothing : (judge : Judge) (taken : Standing → Course) → IsStanding (standing judge)
    → course_then taken (standing judge) ≡ standing judge → Takes judge judge taken true
takes_nothing judge taken stood same = record { judged = sym same; goes = sym stood }

-- a judgement that takes what is legal
pub takes_legal : (old new : Judge) (f : Standing → Course) (legal : Bool) → IsStanding (standing old) → legal ≡ true
    → standing new ≡ course_then f (standing old) → legal ≡ stands (standing new) → Takes old new (λ m. resumed (f m)) true
takes_legal old new f legal was is judged legals = record {
  judged = resumed_stands (standing new) (sym legals ∙ is) ∙ ap resumed judged ∙ resumed_then f (standing old) was;
  goes = sym is ∙ legals;
}

-- a judgement that takes what may not be legal, and may go on
pub takes_illegal : (old mid new : Judge) (f : Standing → Course) (result : Result Bool AllocError) → IsStanding (standing old)
    → standing mid ≡ course_then f (standing old) → IfOk result (λ _. standing new ≡ resumed (standing mid))
    → IfOk result (λ goes_on. goes_on ≡ stands (standing new)) → IfOk result (Takes old new (λ m. resumed (f m)))
takes_illegal old mid new f (Err fault) was judged resumes goes = tt
takes_illegal old mid new f (Ok goes_on) was judged resumes goes = record {
  judged = resumes ∙ ap resumed judged ∙ resumed_then f (standing old) was;
  goes = goes;
}

-- one thing after another
and_both : (f g : Standing → Course) (c : Course) → course_then g (course_then f c) ≡ course_then (λ m. course_then g (f m)) c
and_both f g (Falls finding m) = refl
and_both f g (Stands m) = refl

-- a trace that has fallen takes nothing further
then_fallen : (f : Standing → Course) (c : Course) → HasFallen c → c ≡ course_then f c
then_fallen f (Stands m) fell = absurd (cc fell)
then_fallen f (Falls finding m) fell = refl

-- a judgement that takes one thing after another
pub takes_both : (old mid new : Judge) (f g : Standing → Course) (goes_on : Bool) → Takes old mid f true → Takes mid new g goes_on
    → Takes old new (λ m. course_then g (f m)) goes_on
takes_both old mid new f g goes_on one two = record {
  judged = two.judged ∙ ap (course_then g) one.judged ∙ and_both f g (standing old);
  goes = two.goes;
}

-- a judgement that stops takes nothing further
pub takes_first : (old new : Judge) (f g : Standing → Course) → Takes old new f false → Takes old new (λ m. course_then g (f m)) false
takes_first old new f g one = record {
  judged = then_fallen g (standing new) (sym one.goes) ∙ ap (course_then g) one.judged ∙ and_both f g (standing old);
  goes = one.goes;
}

-- the same thing, said otherwise
takes_as : (old new : Judge) (f g : Standing → Course) (goes_on : Bool) → course_then f (standing old) ≡ course_then g (standing old)
    → Takes old new f goes_on → Takes old new g goes_on
takes_as old new f g goes_on same takes = record { judged = takes.judged ∙ same; goes = takes.goes }

-- a port before the first sample at rest, by whether something was found
waits_by : (spot : Spot) (slot : ℕ) (last now : Port) (finding : Option Finding) (m : Standing) → is_begun m ≡ false
    → course_then (port_taken spot slot (Some last) now) (found_by finding m) ≡ found_by finding m
waits_by spot slot last now (Some finding) m waits = refl
waits_by spot slot last now None m waits =
    ap (λ test. let r : Course = if test then done_taken spot slot (local_between last now) m else Stands m in r) waits

-- a port that is judged, by whether something was found
judges_by : (spot : Spot) (slot : ℕ) (last now : Port) (finding : Option Finding) (m : Standing) → is_begun m ≡ true
    → course_then (done_taken spot slot (local_between last now)) (found_by finding m)
    ≡ course_then (port_taken spot slot (Some last) now) (found_by finding m)
judges_by spot slot last now (Some finding) m begun = refl
judges_by spot slot last now None m begun =
    sym (ap (λ test. let r : Course = if test then done_taken spot slot (local_between last now) m else Stands m in r) begun)

-- a port before the first sample at rest is remembered only
pub takes_waiting : (judge : Judge) (spot : Spot) (slot : ℕ) (last : Option Port) (before now : Port) (begun : Bool) → last ≡ Some before
    → begun ≡ is_begun (state_of judge) → begun ≡ false → IsStanding (standing judge)
    → Takes judge judge (port_taken spot slot last now) true
unfolding standing
takes_waiting judge spot slot last before now begun is same not_begun stood =
    takes_nothing judge (port_taken spot slot last now) stood (
    ap (λ last. course_then (port_taken spot slot last now) (standing judge)) is
    ∙ waits_by spot slot before now judge.finding (state_of judge) (sym same ∙ not_begun)
    )

-- a port whose access is judged
pub takes_judged : (old new : Judge) (spot : Spot) (slot : ℕ) (last : Option Port) (before now : Port) (begun : Bool)
    (result : Result Bool AllocError) → last ≡ Some before → begun ≡ is_begun (state_of old) → begun ≡ true
    → IfOk result (Takes old new (done_taken spot slot (local_between before now))) → IfOk result (Takes old new (port_taken spot slot last now))
unfolding standing
takes_judged old new spot slot last before now begun (Err fault) is same has_begun takes = tt
takes_judged old new spot slot last before now begun (Ok goes_on) is same has_begun takes =
    takes_as old new (done_taken spot slot (local_between before now)) (port_taken spot slot last now) goes_on (
    judges_by spot slot before now old.finding (state_of old) (sym same ∙ has_begun)
    ∙ ap (λ last. course_then (port_taken spot slot last now) (standing old)) (sym is)
    ) takes

-- a port that has shown nothing
port_first : (c : Course) (spot : Spot) (slot : ℕ) (now : Port) → course_then (port_taken spot slot None now) c ≡ c
port_first (Falls finding m) spot slot now = refl
port_first (Stands m) spot slot now = refl

-- a judgement that takes such a port
pub takes_shown_first : (judge : Judge) (spot : Spot) (slot : ℕ) (last : Option Port) (now : Port) → IsNone last
    → IsStanding (standing judge) → Takes judge judge (port_taken spot slot last now) true
takes_shown_first judge spot slot None now none stood =
    takes_nothing judge (port_taken spot slot None now) stood (port_first (standing judge) spot slot now)
takes_shown_first judge spot slot (Some last) now none stood = absurd (cc none)

-- no slot is among none
none_among : (place : ℕ) → is_among 0 place ≡ false
none_among place = ap (λ n. not (bit_and n 1 == 0)) (zero-div (2 ^ (place % 32)))

-- ports of which none has changed
none_taken : (spot : Spot) (lines : BusLines) (place : ℕ) (ports : List (Option Port)) (m : Standing) → ports_taken spot lines 0 place ports m ≡ Stands m
none_taken spot lines place [] m = refl
none_taken spot lines place (last ∷ ports) m =
    ap (λ test. course_then (ports_taken spot lines 0 (place + 1) ports)
    (let r : Course = if test then port_taken spot (place + 1) last (port_at lines place) m else Stands m in r)) (none_among place)
    ∙ none_taken spot lines (place + 1) ports m

-- if no slot has changed, the ports have shown what they had
pub none_after_all : (lines : BusLines) (place : ℕ) (ports : List (Option Port)) → ports_after lines 0 place ports ≡ ports
none_after_all lines place [] = refl
none_after_all lines place (last ∷ ports) =
    ap (λ test. (let r : Option Port = if test then Some (port_at lines place) else last in r) ∷ ports_after lines 0 (place + 1) ports) (none_among place)
    ∙ ap (λ ports. last ∷ ports) (none_after_all lines (place + 1) ports)

-- no port is taken
no_port : (spot : Spot) (lines : BusLines) (place : ℕ) (ports : List (Option Port)) (c : Course)
    → course_then (ports_taken spot lines 0 place ports) c ≡ c
no_port spot lines place ports (Falls finding m) = refl
no_port spot lines place ports (Stands m) = none_taken spot lines place ports m

-- a judgement that takes no port
pub takes_none : (judge : Judge) (spot : Spot) (lines : BusLines) (changed place : ℕ) (ports : List (Option Port)) → changed ≡ 0
    → IsStanding (standing judge) → Takes judge judge (ports_taken spot lines changed place ports) true
takes_none judge spot lines changed place ports none stood =
    takes_nothing judge (ports_taken spot lines changed place ports) stood (
    ap (λ changed. course_then (ports_taken spot lines changed place ports) (standing judge)) none
    ∙ no_port spot lines place ports (standing judge)
    )

-- no port is left
takes_all : (spot : Spot) (lines : BusLines) (changed place : ℕ) (c : Course) → course_then (ports_taken spot lines changed place []) c ≡ c
takes_all spot lines changed place (Falls finding m) = refl
takes_all spot lines changed place (Stands m) = refl

-- a port that has not changed: what is remembered
pub skips_port : (spot : Spot) (lines : BusLines) (changed place : ℕ) (ports : List (Option Port)) (c : Course) → place < length ports
    → is_among changed place ≡ false
    → course_then (ports_taken spot lines changed place (drop place ports)) c
    ≡ course_then (ports_taken spot lines changed (place + 1) (drop (place + 1) ports)) c
skips_port spot lines changed place ports (Falls finding m) less is = refl
skips_port spot lines changed place ports (Stands m) less is =
    ap (λ ports. ports_taken spot lines changed place ports m) (drop_more ports place None less)
    ∙ ap (λ test. course_then (ports_taken spot lines changed (place + 1) (drop (place + 1) ports))
    (let r : Course = if test then port_taken spot (place + 1) (get_or ports place None) (port_at lines place) m else Stands m in r)) is

-- what it has shown
pub skips_shown : (lines : BusLines) (changed place : ℕ) (ports : List (Option Port)) → place < length ports → is_among changed place ≡ false
    → take place ports ++ ports_after lines changed place (drop place ports)
    ≡ take (place + 1) ports ++ ports_after lines changed (place + 1) (drop (place + 1) ports)
skips_shown lines changed place ports less is =
    ap (λ ports'. take place ports ++ ports_after lines changed place ports') (drop_more ports place None less)
    ∙ ap (λ test. take place ports ++ (let r : Option Port = if test then Some (port_at lines place) else get_or ports place None in r)
    ∷ ports_after lines changed (place + 1) (drop (place + 1) ports)) is
    ∙ sym (append_assoc (take place ports) (get_or ports place None ∷ []) (ports_after lines changed (place + 1) (drop (place + 1) ports)))
    ∙ ap (λ start. start ++ ports_after lines changed (place + 1) (drop (place + 1) ports)) (sym (take_more ports place None less))

-- no ports are left: what is remembered
pub ports_ended : (old new : Judge) (spot : Spot) (lines : BusLines) (changed place : ℕ) (last ports : List (Option Port)) → length ports ≤ place
    → course_then (ports_taken spot lines changed 0 last) (standing old)
    ≡ course_then (ports_taken spot lines changed place (drop place ports)) (standing new)
    → IsStanding (standing new) → Takes old new (ports_taken spot lines changed 0 last) true
ports_ended old new spot lines changed place last ports all judged stood = record {
  judged = sym (
      judged
      ∙ ap (λ ports. course_then (ports_taken spot lines changed place ports) (standing new)) (drop_of_length-le ports all)
      ∙ takes_all spot lines changed place (standing new)
      );
  goes = sym stood;
}

-- if no slot has changed, the ports have shown what they had
pub shown_ended : (lines : BusLines) (changed place : ℕ) (last ports : List (Option Port)) → length ports ≤ place
    → ports_after lines changed 0 last ≡ take place ports ++ ports_after lines changed place (drop place ports)
    → ports ≡ ports_after lines changed 0 last
shown_ended lines changed place last ports all shown =
    sym (
    shown
    ∙ ap (λ rest. take place ports ++ ports_after lines changed place rest) (drop_of_length-le ports all)
    ∙ ap (λ rest. take place ports ++ rest) (sym (drop_of_length-le ports all))
    ∙ take-append-drop place ports
    )
