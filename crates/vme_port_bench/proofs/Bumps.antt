-- The number of a counter that is only incremented.
use Rattle.std.proofs.Common.{ℕ, ◌≡◌, ◌+◌, ◌%◌, ◌^◌, ◌<◌, List, [], ◌∷◌, length, slice_index_or, All, Contains, Result, Ok, Err, refl, ap, ◌∙◌, arith}
use Rattle.std.proofs.lemmas.List.Elements.{All-nil, All-cons, All-head, All-tail, All-contains, Contains-get_or}
use Rattle.vme_object.specs.declared.history.Entry.{Entry}
use Rattle.vme_object.specs.declared.counter.Counter.{Counter}
use Rattle.vme_object.specs.declared.counter.CounterCmd.{CounterCmd}
use Rattle.vme_object.specs.declared.counter.CounterCmd.TheVariants.{Bump}
use Rattle.vme_object.specs.Counters.{count_step}
use Rattle.vme_object.specs.History.{replay, entry}
use Rattle.vme_port.specs.Calls.{entries_of}
use Rattle.vme_port.specs.Passes.{PassView}
use Rattle.vme_port.specs.Settlements.{Settles}

-- the entries that a call adds have its command
pub all_of_call : {C R F : Type 0} (who : ℕ) (cmd : C) (result : Result R F) → All (λ e. e.cmd ≡ cmd) (entries_of who cmd result)
all_of_call who cmd (Ok reply) = All-cons (λ (e : Entry _ _). e.cmd ≡ cmd) (entry who cmd reply) [] refl (All-nil (λ (e : Entry _ _). e.cmd ≡ cmd))
all_of_call who cmd (Err fault) = All-nil (λ (e : Entry _ _). e.cmd ≡ cmd)

-- each increment adds one to the counter
pub bumped : (c : Counter) (h : List (Entry CounterCmd ℕ)) → All (λ e. e.cmd ≡ Bump) h → c.number + length h < 2 ^ 64
    → (replay count_step c h).number ≡ c.number + length h
bumped c [] all fits = omega arith
bumped c (e ∷ h) all fits =
    let here : e.cmd ≡ Bump = All-head (λ (e : Entry CounterCmd ℕ). e.cmd ≡ Bump) e h all in
    let rest = All-tail (λ (e : Entry CounterCmd ℕ). e.cmd ≡ Bump) e h all in
    let small : (c.number + 1) % 2 ^ 64 ≡ c.number + 1 = omega arith in
    let up : (count_step c e.cmd).0.number ≡ c.number + 1 = ap (λ cmd. (count_step c cmd).0.number) here ∙ small in
    let later = bumped (count_step c e.cmd).0 h rest (omega arith) in
    omega arith

-- a property of all entries that the passes made holds for a history that has no others
all_of_history :
    {C R : Type 0} (P : Entry C R → Type 0) (passes : List (PassView C R)) (h : List (Entry C R))
    → ((e : Entry C R) → Contains h e → (p : PassView C R) × Contains passes p × Contains p.mine e) → All (λ p. All P p.mine) passes
    → All P h
all_of_history {C} {R} P passes h no_others each i d less =
    let e : Entry C R = slice_index_or h i d in
    let maker = no_others e (Contains-get_or h i d less) in
    All-contains P maker.0.mine e (All-contains (λ (p : PassView C R). All P p.mine) passes maker.0 each maker.1) maker.2

-- passes that only increment settle on a counter that grew by one for each entry of their history, which has no others
pub settled_number :
    (start : Counter) (k : ℕ) (passes : List (PassView CounterCmd ℕ)) (c : Counter) (n : ℕ) (settlement : Settles count_step start k passes c n)
    → ((e : Entry CounterCmd ℕ) → Contains settlement.history e → (p : PassView CounterCmd ℕ) × Contains passes p × Contains p.mine e)
    → All (λ p. All (λ e. e.cmd ≡ Bump) p.mine) passes → start.number + n < 2 ^ 64 → c.number ≡ start.number + n
settled_number start k passes c n settlement no_others each fits =
    let all = all_of_history (λ (e : Entry CounterCmd ℕ). e.cmd ≡ Bump) passes settlement.history no_others each in
    let up = bumped start settlement.history all (omega (arith, settlement.counted)) in
    omega (arith, settlement.counted, up, ap (λ (c : Counter). c.number) settlement.replayed)
