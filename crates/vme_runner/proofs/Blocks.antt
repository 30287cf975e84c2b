-- A block transfer has one tenure of the bus.
use Rattle.std.proofs.Common.{◌≡◌, ℕ, ◌+◌, ◌≤◌, ◌<◌, List, [], ◌∷◌, ◌++◌, length, Some, refl, ap, sym, subst, ◌∙◌, append_assoc, length-append, arith, inl, inr}
use Rattle.std.specs.Prelude.{All}
use Rattle.std.proofs.lemmas.Bool.Decides.{eqb_tells}
use Rattle.std.proofs.lemmas.List.Elements.{All-nil, All-cons, All-head, All-tail, All-weaker}
use Rattle.vme_cycle.specs.declared.request.Request.{Request}
use Rattle.vme_core.specs.declared.event.EventReply.{EventReply}
use Rattle.vme_core.specs.Runs.{Machine, Transition}
use Rattle.vme_core.specs.Calls.{call_of, machine_step}
use Rattle.vme_grammar.specs.declared.line.Line.TheVariants.{Bus}
use Rattle.vme_script.specs.Configurations.{Configuration}
use Rattle.vme_script.specs.Lawful.{IsLawful}
use Rattle.vme_line_task.specs.Scripts.{slot_at}
use Rattle.vme_line_task.specs.Traces.{Continues}
use Rattle.vme_bus_objects.specs.Runs.{transitions_of}
use Rattle.vme_stepper.specs.Turns.{turn, run as take_turns, initial_state}
use Rattle.vme_threads.specs.declared.report.Report.{Report}
use Rattle.vme_threads.specs.OneOrder.{IsReportOfOneOrder}
use Rattle.vme_run.specs.Orders.{performed, machine_after, slots_of}
use Rattle.vme_run.proofs.lemmas.Turns.{transitions_other}
use Rattle.vme_runner.specs.OrderLaws.{MovesData, Releases}
use Rattle.vme_runner.specs.TransferTenures.{IsLineIn, IsOfLine, IsOneTenure}
use Rattle.vme_runner.proofs.Runs.{AllStand, turn_stand}
use Rattle.vme_runner.proofs.Orders.{AtTurn, place_in, turn_moves, moved}
use Rattle.vme_runner.proofs.Holders.{over_bus, no_release, held_after, held_along, order_apart}
use Rattle.vme_runner.proofs.Splits.{is_amid, all_by_place, all_first}
use Rattle.vme_runner.proofs.LineData.{data_between}
use Rattle.vme_runner.proofs.LinePlaces.{own_next, own_at}

-- a property of a processor's own transitions holds of each transition that is its own
of_own : (P : Transition → Type 0) (who : ℕ) (run : List Transition) → All P (transitions_of who run) → All (λ o. o.who ≡ who → P o) run
of_own P who [] all = All-nil (λ (o : Transition). o.who ≡ who → P o)
of_own P who (m ∷ run) all =
    let Q = λ (o : Transition). o.who ≡ who → P o in
    elim (eqb_tells m.who who) [
      | inl same ↦
          let own : All P (m ∷ transitions_of who run) = subst (All P) (own_next who m run same.1) all in
          All-cons Q m run (λ is. All-head P m (transitions_of who run) own) (of_own P who run (All-tail P m (transitions_of who run) own))
      | inr other ↦
          All-cons Q m run (λ is. absurd (other.1 is)) (of_own P who run (subst (All P) (transitions_other who m run other.1) all))
    ]

-- a machine performs transitions one after another
performed_on : (machine : Machine) (before after : List Transition) → performed machine (before ++ after) ≡ performed (performed machine before) after
performed_on machine [] after = refl
performed_on machine (m ∷ before) after = performed_on (machine_step machine m.who (call_of m.event)).0 before after

-- a run up to an element, with what comes after it
regroup : (before first rest after : List Transition) (m n o : Transition)
    → before ++ m ∷ ((first ++ o ∷ rest) ++ n ∷ after) ≡ before ++ m ∷ (first ++ o ∷ (rest ++ n ∷ after))
regroup before first rest after m n o = ap (λ ms. before ++ m ∷ ms) (append_assoc first (o ∷ rest) (n ∷ after))

-- from a datum on, the slot of its processor holds the bus until that gives it back
holder_stays_along : (config : Configuration) (report : Report) (is : IsReportOfOneOrder config report) (before first later : List Transition)
    (m : Transition) → IsLawful config → is.run ≡ before ++ m ∷ (first ++ later) → MovesData m → All (λ o. Releases m.who o → ⊥) first
    → (machine_after config (before ++ m ∷ first)).bus.object.holder ≡ Some (slot_at config m.who)
holder_stays_along config report is before first later m lawful whole over kept =
    let place = place_in config report is before (m ∷ (first ++ later)) lawful whole in
    let system = take_turns config (initial_state config) (slots_of config before) in
    let at : AtTurn config system m = place.along.0 in
    let next = turn config system (slot_at config m.who) in
    let stand : AllStand config next = turn_stand config system (slot_at config m.who) lawful place.stand in
    let held = over_bus config system m.who m.event m.reply lawful place.stand at over in
    let still = held_after config system m.who m.event m.reply (slot_at config m.who) lawful place.stand at held
    (λ same release. no_release m.event over release) in
    let moved_once : next.machine ≡ (machine_step system.machine m.who (call_of m.event)).0 = turn_moves config system m at in
    let end = held_along config m.who first later next lawful at.there stand place.along.1
    (ap (λ (w : Machine). w.bus.object.holder) moved_once ∙ still) kept in
    let before_is : (machine_step system.machine m.who (call_of m.event)).0
    ≡ (machine_step (machine_after config before) m.who (call_of m.event)).0 =
    ap (λ (w : Machine). (machine_step w m.who (call_of m.event)).0) place.machine in
    let machine_is : (take_turns config next (slots_of config first)).machine ≡ machine_after config (before ++ m ∷ first) =
    moved config first later next place.along.1 ∙ ap (λ (w : Machine). performed w first) (moved_once ∙ before_is)
    ∙ sym (performed_on (initial_state config).machine before (m ∷ first)) in
    ap (λ (w : Machine). w.bus.object.holder) (sym machine_is) ∙ end

-- the processor of a transfer does not give the bus back between two of its data
no_release_between : (who : ℕ) (m : Transition) (between : List Transition) → m.who ≡ who → All (λ o. o.who ≡ who → MovesData o) between
    → All (λ o. Releases m.who o → ⊥) between
no_release_between who m between same own =
    All-weaker (λ (o : Transition). o.who ≡ who → MovesData o) (λ (o : Transition). Releases m.who o → ⊥)
    (λ o over release. no_release o.event (over (release.0 ∙ same)) release.1) between own

-- a line continues by the same transitions
same_moves : (config : Configuration) (who : ℕ) (request : Request) (moves others : List Transition) (last : List EventReply) → moves ≡ others
    → Continues config who (Bus request) [] moves last → Continues config who (Bus request) [] others last
same_moves config who request moves others last same goes =
    subst (λ (ms : List Transition). Continues config who (Bus request) [] ms last) same goes

-- between two data of a line that requests a transfer there is one tenure of the bus
pub one_tenure : (config : Configuration) (report : Report) (is : IsReportOfOneOrder config report) (who index : ℕ) (request : Request)
    (earlier own later before between after : List Transition) (m n : Transition) → IsLawful config
    → IsLineIn config is.run who index (Bus request) earlier own later → is.run ≡ before ++ m ∷ (between ++ n ∷ after)
    → MovesData m → MovesData n → IsOfLine who earlier own before m → IsOfLine who earlier own (before ++ m ∷ between) n
    → IsOneTenure config who before m between
one_tenure config report is who index request earlier own later before between after m n lawful line whole over over_n of_m of_n =
    let T = transitions_of who in
    let split : T is.run ≡ T before ++ m ∷ (T between ++ n ∷ T after) =
    ap T whole ∙ own_at who before m (between ++ n ∷ after) of_m.processor
    ∙ ap (λ ms. T before ++ m ∷ ms) (own_at who between n after of_n.processor) in
    let count : length (T (before ++ m ∷ between)) ≡ length (T before) + 1 + length (T between) =
    ap length (own_at who before m between of_m.processor) ∙ length-append (T before) (m ∷ T between) ∙ omega arith in
    let low : length earlier ≤ length (T before) = of_m.begins in
    let high : length (T (before ++ m ∷ between)) < length earlier + length own = of_n.ends in
    let amid = is_amid (T before) (T between) (T after) earlier own later m n (sym split ∙ line.whole) low (omega (arith, count, high)) in
    let goes = same_moves config who request own (amid.first ++ m ∷ (T between ++ n ∷ amid.rest)) line.trace.replies amid.whole line.trace.goes in
    let moved_data : All MovesData (T between) = data_between config who request amid.first (T between) amid.rest m n line.trace.replies goes over over_n in
    let mine : All (λ o. o.who ≡ who → MovesData o) between = of_own MovesData who between moved_data in
    let kept = no_release_between who m between of_m.processor mine in
    record {
      own = mine;
      others = all_by_place (λ (o : Transition). MovesData o → o.who ≡ who) between
          (λ first rest o between_is over_o.
          order_apart config report is before first (rest ++ n ∷ after) m o lawful
          (whole ∙ ap (λ (ms : List Transition). before ++ m ∷ (ms ++ n ∷ after)) between_is ∙ regroup before first rest after m n o) over over_o
          (all_first (λ (o : Transition). Releases m.who o → ⊥) first (o ∷ rest)
          (subst (All (λ (o : Transition). Releases m.who o → ⊥)) between_is kept)) ∙ of_m.processor);
      holder = λ first rest between_is.
          holder_stays_along config report is before first (rest ++ n ∷ after) m lawful
          (whole ∙ ap (λ (ms : List Transition). before ++ m ∷ (ms ++ n ∷ after)) between_is
          ∙ ap (λ ms. before ++ m ∷ ms) (append_assoc first rest (n ∷ after))) over
          (all_first (λ (o : Transition). Releases m.who o → ⊥) first rest
          (subst (All (λ (o : Transition). Releases m.who o → ⊥)) between_is kept))
          ∙ ap (λ (w : ℕ). Some (slot_at config w)) of_m.processor;
    }
