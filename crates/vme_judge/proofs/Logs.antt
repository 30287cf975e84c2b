-- The samples of a line of a log, taken one after another.
use Rattle.std.proofs.Common.{◌≡◌, ℕ, ◌+◌, ◌<◌, Bool, true, false, suc, List, [], ◌∷◌, length, get_or, drop, drop-cons, add-one, Option, Some, None, Result, Ok, Err, IfOk, refl, ap, sym, ◌∙◌}
use Rattle.vme_protocol.specs.declared.sample.Sample.{Sample}
use Rattle.vme_bus_log.specs.declared.entry.LogDatum.{LogDatum}
use Rattle.vme_judge.specs.declared.judge.Spot.{Spot}
use Rattle.std.specs.Prelude.{if◌then◌else◌}
use Rattle.vme_judge.specs.Logs.{addressed_by, begun_by, log_by, shown_by}
use Rattle.vme_judge.specs.Samples.{handshake_samples, quiet}
use Rattle.vme_judge.specs.Standing.{Course, Falls, HasFallen, IsStanding, Standing, Stands, course_map, course_then, resumed, sample_taken, samples_taken, stands}

-- one sample and those after it
pub one_more : (spot : Spot) (s : Sample) (rest : List Sample) (c : Course)
    → course_then (samples_taken spot (s ∷ rest)) c ≡ course_then (samples_taken spot rest) (course_then (sample_taken spot None s) c)
one_more spot s rest (Falls finding m) = refl
one_more spot s rest (Stands m) = refl

-- one thing after another
pub one_after : (f g : Standing → Course) (c : Course) → course_then g (course_then f c) ≡ course_then (λ m. course_then g (f m)) c
one_after f g (Falls finding m) = refl
one_after f g (Stands m) = refl

-- the samples that are left after one more
pub left_after : (spot : Spot) (samples : List Sample) (i : ℕ) (s : Sample) (old new : Course) → i < length samples → s ≡ get_or samples i s
    → new ≡ course_then (sample_taken spot None s) old
    → course_then (samples_taken spot (drop (i + 1) samples)) new ≡ course_then (samples_taken spot (drop i samples)) old
left_after spot samples i s old new less is taken =
    let next : drop i samples ≡ s ∷ drop (i + 1) samples =
    rw add-one (drop-cons samples i s less ∙ ap (λ x. x ∷ drop (suc i) samples) (sym is)) in
    ap (course_then (samples_taken spot (drop (i + 1) samples))) taken
    ∙ sym (ap (λ list. course_then (samples_taken spot list) old) next ∙ one_more spot s (drop (i + 1) samples) old)

-- a trace that has fallen takes nothing further
pub then_fallen : (f : Standing → Course) (c : Course) → HasFallen c → course_then f c ≡ c
then_fallen f (Stands m) fell = absurd (cc fell)
then_fallen f (Falls finding m) fell = refl

-- nor is what is remembered of it changed
pub map_fallen : (f : Standing → Standing) (c : Course) → HasFallen c → course_map f c ≡ c
map_fallen f (Stands m) fell = absurd (cc fell)
map_fallen f (Falls finding m) fell = refl

-- a trace after an illegal sample has fallen
pub fell_after : (f : Standing → Course) (old new : Course) (legal : Bool) → legal ≡ false → new ≡ course_then f old
    → (IsStanding old → legal ≡ stands new) → HasFallen new
fell_after f (Stands m) new legal illegal taken says = sym (says refl) ∙ illegal
fell_after f (Falls finding m) new legal illegal taken says = ap stands taken

-- after an illegal sample of a list the others change nothing
pub all_fallen : (spot : Spot) (samples : List Sample) (c all : Course) → HasFallen c → course_then (samples_taken spot samples) c ≡ all → c ≡ all
all_fallen spot samples c all fell is = sym (then_fallen (samples_taken spot samples) c fell) ∙ is

-- a datum after legal samples
pub shown_legal : (d : LogDatum) (c n : Course) (last : Option LogDatum) → last ≡ Some d → IsStanding n → n ≡ c → log_by last n ≡ shown_by d c
shown_legal d c (Falls finding m) last is stood same = absurd (cc stood)
shown_legal d c (Stands m) last is stood same = ap (λ last. log_by last (Stands m)) is ∙ ap (shown_by d) same

-- a datum after an illegal sample
pub shown_illegal : (d : LogDatum) (c mid new : Course) (last : Option LogDatum) → last ≡ None → HasFallen mid → new ≡ resumed mid → mid ≡ c
    → log_by last new ≡ shown_by d c
shown_illegal d c (Stands m) new last is fell goes same = absurd (cc fell)
shown_illegal d c (Falls finding m) new last is fell goes same =
    ap (λ last. log_by last new) is ∙ ap (log_by None) goes ∙ ap (shown_by d) same

-- a course after two parts, of which the second is taken after the first
pub both_taken : (f g : Standing → Course) (old mid new : Course) → mid ≡ course_then f old → new ≡ course_then g mid
    → new ≡ course_then (λ m. course_then g (f m)) old
both_taken f g old mid new one two = two ∙ ap (course_then g) one ∙ one_after f g old

-- the second part of one that has fallen changes nothing
pub first_fallen : (f g : Standing → Course) (old mid : Course) → HasFallen mid → mid ≡ course_then f old
    → mid ≡ course_then (λ m. course_then g (f m)) old
first_fallen f g old mid fell one = both_taken f g old mid mid one (sym (then_fallen g mid fell))

-- what is remembered after a part is changed
pub map_taken : (f : Standing → Course) (g : Standing → Standing) (c : Course)
    → course_map g (course_then f c) ≡ course_then (λ m. course_map g (f m)) c
map_taken f g (Falls finding m) = refl
map_taken f g (Stands m) = refl

-- no samples change nothing
then_none : (spot : Spot) (c : Course) → course_then (samples_taken spot []) c ≡ c
then_none spot (Falls finding m) = refl
then_none spot (Stands m) = refl

-- a transfer without an address phase
pub addressed_short : (spot : Spot) (d : LogDatum) (c : Course) → d.is_wide ≡ false
    → course_then (begun_by spot d) c ≡ course_then (addressed_by spot d) c
addressed_short spot d (Falls finding m) short = refl
addressed_short spot d (Stands m) short =
    sym (
    ap (λ wide. let samples : List Sample = if wide then handshake_samples d (quiet d false) true else [] in
    course_then (samples_taken spot samples) (begun_by spot d m)) short
    ∙ then_none spot (begun_by spot d m)
    )

-- a transfer with an address phase
pub addressed_wide : (spot : Spot) (d : LogDatum) (s : Sample) (old mid new : Course) → d.is_wide ≡ true → s ≡ quiet d false
    → mid ≡ course_then (begun_by spot d) old → new ≡ course_then (samples_taken spot (handshake_samples d s true)) mid
    → new ≡ course_then (addressed_by spot d) old
addressed_wide spot d s old mid new wide is one two =
    two
    ∙ ap (λ s. course_then (samples_taken spot (handshake_samples d s true)) mid) is
    ∙ ap (course_then (samples_taken spot (handshake_samples d (quiet d false) true))) one
    ∙ one_after (begun_by spot d) (samples_taken spot (handshake_samples d (quiet d false) true)) old
    ∙ sym (ap (λ wide. let samples : List Sample = if wide then handshake_samples d (quiet d false) true else [] in
    course_then (λ m. course_then (samples_taken spot samples) (begun_by spot d m)) old) wide)

-- a result that holds of each value
pub if_ok : {T E : Type 0} (P Q : T → Type 0) (result : Result T E) → IfOk result P → ((value : T) → P value → Q value) → IfOk result Q
if_ok P Q (Ok value) holds goes = goes value holds
if_ok P Q (Err fault) holds goes = tt

-- a result that holds of each value by two facts
pub if_ok_both : {T E : Type 0} (P Q R : T → Type 0) (result : Result T E) → IfOk result P → IfOk result Q
    → ((value : T) → P value → Q value → R value) → IfOk result R
if_ok_both P Q R (Ok value) one two goes = goes value one two
if_ok_both P Q R (Err fault) one two goes = tt
