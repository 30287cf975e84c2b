-- The strobes, the answer and WRITE* of the sample at which a handshake is answered.
use Rattle.std.proofs.Common.{◌≡◌, ℕ, ◌+◌, Bool, true, false, not, ◌&&◌, if◌then◌else◌, List, [], ◌∷◌, ◌++◌, length, refl, ap, ◌∙◌, arith}
use Rattle.vme_cycle.specs.SignalLines.{SignalLines}
use Rattle.vme_script.specs.Configurations.{Configuration}
use Rattle.vme_protocol.specs.declared.sample.Sample.{Sample}
use Rattle.vme_trace.specs.declared.observation.Observation.{Observation}
use Rattle.vme_trace.specs.declared.dump.change.Value.{Value}
use Rattle.vme_trace.specs.declared.dump.change.Value.TheVariants.{Free}
use Rattle.vme_trace.specs.declared.dump.handshake.Handshake.{Handshake}
use Rattle.vme_trace.specs.Changes.{level_of}
use Rattle.vme_trace.specs.Variables.{bus_code}
use Rattle.vme_trace.specs.Slots.{has_ended}
use Rattle.vme_trace.specs.Events.{event_changes}
use Rattle.vme_trace.specs.Shown.{value_at, value_after_run}
use Rattle.vme_trace_laws.proofs.lemmas.Waves.{HasNone, HasOne, HasTwo, none_stays, two_parts}
use Rattle.vme_legal_traces.specs.Samples.{is_high, is_free, edge_sample, sample_of}
use Rattle.vme_legal_traces.proofs.Order.{Levels, high_at}
use Rattle.vme_legal_traces.proofs.Levels.{one_levels, two_levels}
use Rattle.vme_legal_traces.proofs.Edges.{early_level, late_level, two_steady}
use Rattle.vme_legal_traces.proofs.Lines.{KeepsWrite, write_line, level_driven, half_falls, one_value, two_value, two_begins}
use Rattle.vme_legal_traces.proofs.Standing.{two_write_free}
use Rattle.vme_legal_traces.proofs.Steps.{value_next}

-- a sample shows the strobes of a cycle and its answer
pub record IsAnswered (lines : SignalLines) (berr : Bool) (s : Sample) : Type 0 where
  pub ds1 : s.ds1 ≡ lines.strobes.ds1
  pub ds0 : s.ds0 ≡ lines.strobes.ds0
  pub dtack : s.dtack ≡ berr

-- a strobe at the answer of a single handshake
one_strobe : (ds : Bool) → (high_at (not ds) 2 7 4 && high_at false 11 16 4) ≡ ds
one_strobe true = refl
one_strobe false = refl

-- DTACK* at it
one_answer : (berr : Bool) → (high_at (not berr) 4 9 4 && high_at false 13 18 4) ≡ berr
one_answer true = refl
one_answer false = refl

-- a strobe at the answer of the first of two handshakes
first_strobe : (ds ds' : Bool) → (high_at (not ds) 2 7 4 && high_at (not ds') 11 16 4) ≡ ds
first_strobe true true = refl
first_strobe true false = refl
first_strobe false true = refl
first_strobe false false = refl

-- DTACK* at it
first_answer : (berr berr' : Bool) → (high_at (not berr) 4 9 4 && high_at (not berr') 13 18 4) ≡ berr
first_answer true true = refl
first_answer true false = refl
first_answer false true = refl
first_answer false false = refl

-- a strobe at the answer of the second
second_strobe : (ds ds' : Bool) → (high_at (not ds) 2 7 13 && high_at (not ds') 11 16 13) ≡ ds'
second_strobe true true = refl
second_strobe true false = refl
second_strobe false true = refl
second_strobe false false = refl

-- DTACK* at it
second_answer : (berr berr' : Bool) → (high_at (not berr) 4 9 13 && high_at (not berr') 13 18 13) ≡ berr'
second_answer true true = refl
second_answer true false = refl
second_answer false true = refl
second_answer false false = refl

-- a level that is shown
high_level : (b : Bool) → is_high (level_of b) ≡ b
high_level true = refl
high_level false = refl

-- an edge that is no edge of the release
pub early_edge : (ended : Bool) → not (ended && false) ≡ true
early_edge true = refl
early_edge false = refl

-- nor is one of an event that does not end the transfer
goes_edge : (ended late : Bool) → ended ≡ false → not (ended && late) ≡ true
goes_edge false late is = refl
goes_edge true late is = absurd cc

-- a choice of values
chosen_value : (opens : Bool) (a b c : Value) → (opens ≡ true → a ≡ c) → (opens ≡ false → b ≡ c) → (if opens then a else b) ≡ c
chosen_value true a b c one two = one refl
chosen_value false a b c one two = two refl

module _ (config : Configuration) (events : List Observation) (o : Observation) where
  -- the sample at the answer of a single handshake
  pub one_answered : (one : HasOne o) → IsAnswered one.t.lines one.t.berr (edge_sample config events o 4)
  one_answered one =
      let t = one.t in
      let is = one_levels config events o one 4 in
      record {
        ds1 = ap (λ (l : Levels). l.ds1) is ∙ one_strobe t.lines.strobes.ds1;
        ds0 = ap (λ (l : Levels). l.ds0) is ∙ one_strobe t.lines.strobes.ds0;
        dtack = ap (λ (l : Levels). l.dtack) is ∙ one_answer t.berr;
      }

  -- at that of the first of two
  pub first_answered : (two : HasTwo o) → IsAnswered two.t.lines two.t.berr (edge_sample config events o 4)
  first_answered two =
      let t = two.t in
      let u = two.u in
      let is = two_levels config events o two 4 in
      record {
        ds1 = ap (λ (l : Levels). l.ds1) is ∙ first_strobe t.lines.strobes.ds1 u.lines.strobes.ds1;
        ds0 = ap (λ (l : Levels). l.ds0) is ∙ first_strobe t.lines.strobes.ds0 u.lines.strobes.ds0;
        dtack = ap (λ (l : Levels). l.dtack) is ∙ first_answer t.berr u.berr;
      }

  -- and at that of the second
  pub second_answered : (two : HasTwo o) → IsAnswered two.u.lines two.u.berr (edge_sample config events o 13)
  second_answered two =
      let t = two.t in
      let u = two.u in
      let is = two_levels config events o two 13 in
      record {
        ds1 = ap (λ (l : Levels). l.ds1) is ∙ second_strobe t.lines.strobes.ds1 u.lines.strobes.ds1;
        ds0 = ap (λ (l : Levels). l.ds0) is ∙ second_strobe t.lines.strobes.ds0 u.lines.strobes.ds0;
        dtack = ap (λ (l : Levels). l.dtack) is ∙ second_answer t.berr u.berr;
      }

  module _ (b : Bool) where
    -- WRITE* has a level before the event
    abbrev pub Wrote : Type 0
    Wrote = value_after_run (bus_code 77) (length config.boards) events Free ≡ level_of b

    -- a first handshake has it, or WRITE* has it before the event
    pub record HasLevel (t : Handshake) : Type 0 where
      pub still : t.falls ≡ false
      pub begins : t.opens ≡ true → t.lines.write ≡ b
      pub goes : t.opens ≡ false → Wrote

    -- a sample has the level that WRITE* has
    level_shown : (k : ℕ) → value_at (bus_code 77) (event_changes (length config.boards) (length events + 1) o)
        (value_after_run (bus_code 77) (length config.boards) events Free) k ≡ level_of b
        → (edge_sample config events o k).write ≡ b
    unfolding sample_of
    level_shown k is = ap is_high is ∙ high_level b

    -- and WRITE* is driven in it
    level_driven_in : (k : ℕ) → value_at (bus_code 77) (event_changes (length config.boards) (length events + 1) o)
        (value_after_run (bus_code 77) (length config.boards) events Free) k ≡ level_of b
        → (edge_sample config events o k).write_undefined ≡ false
    unfolding sample_of
    level_driven_in k is = ap is_free is ∙ level_driven b

    -- the level at the begin of the event, or before
    chosen_level : (t : Handshake) → HasLevel t
        → (if t.opens then level_of t.lines.write else value_after_run (bus_code 77) (length config.boards) events Free) ≡ level_of b
    chosen_level t has = chosen_value t.opens _ _ _ (λ is. ap level_of (has.begins is)) has.goes

    -- WRITE* at the answer of a single handshake
    pub one_level : (one : HasOne o) → one.t.late ≡ false → HasLevel one.t → (edge_sample config events o 4).write ≡ b
    one_level one early has =
        level_shown 4 (one_value KeepsWrite 77 _ Free write_line (length config.boards) (length events + 1) o one has.still early 4
        (early_edge (has_ended o)) _ ∙ chosen_level one.t has)

    -- WRITE* is driven as the strobes of a single handshake fall
    pub one_driven : (one : HasOne o) → one.t.late ≡ false → HasLevel one.t → (edge_sample config events o 2).write_undefined ≡ false
    one_driven one early has =
        level_driven_in 2 (one_value KeepsWrite 77 _ Free write_line (length config.boards) (length events + 1) o one has.still early 2
        (early_edge (has_ended o)) _ ∙ chosen_level one.t has)

    -- as those of the first of two fall
    pub first_driven : (two : HasTwo o) → HasLevel two.t → (edge_sample config events o 2).write_undefined ≡ false
    first_driven two has =
        level_driven_in 2 (two_begins KeepsWrite 77 _ Free write_line (length config.boards) (length events + 1) o two has.still 2 (omega arith) _
        ∙ chosen_level two.t has)

    -- and those of the second, if WRITE* does not fall
    pub second_driven : (two : HasTwo o) → HasLevel two.t → two.u.falls ≡ false → (edge_sample config events o 11).write_undefined ≡ false
    second_driven two has still =
        level_driven_in 11 (two_value KeepsWrite 77 _ Free write_line (length config.boards) (length events + 1) o two has.still still 11
        (early_edge (has_ended o)) _ ∙ chosen_level two.t has)

    -- after an event with one that does not end its transfer
    pub one_wrote : (one : HasOne o) → one.t.late ≡ false → HasLevel one.t → has_ended o ≡ false
        → value_after_run (bus_code 77) (length config.boards) (events ++ o ∷ []) Free ≡ level_of b
    one_wrote one early has goes =
        value_next (bus_code 77) (length config.boards) events o Free
        ∙ one_value KeepsWrite 77 _ Free write_line (length config.boards) (length events + 1) o one has.still early 19
        (goes_edge (has_ended o) true goes) _ ∙ chosen_level one.t has

    -- WRITE* at the answer of the first of two
    pub first_level : (two : HasTwo o) → HasLevel two.t → (edge_sample config events o 4).write ≡ b
    first_level two has =
        level_shown 4 (two_begins KeepsWrite 77 _ Free write_line (length config.boards) (length events + 1) o two has.still 4 (omega arith) _
        ∙ chosen_level two.t has)

    -- at that of the second, if WRITE* does not fall
    pub second_level : (two : HasTwo o) → HasLevel two.t → two.u.falls ≡ false → (edge_sample config events o 13).write ≡ b
    second_level two has still =
        level_shown 13 (two_value KeepsWrite 77 _ Free write_line (length config.boards) (length events + 1) o two has.still still 13
        (early_edge (has_ended o)) _ ∙ chosen_level two.t has)

    -- after an event with two that does not end its transfer
    pub two_wrote : (two : HasTwo o) → HasLevel two.t → two.u.falls ≡ false → has_ended o ≡ false
        → value_after_run (bus_code 77) (length config.boards) (events ++ o ∷ []) Free ≡ level_of b
    two_wrote two has still goes =
        value_next (bus_code 77) (length config.boards) events o Free
        ∙ two_value KeepsWrite 77 _ Free write_line (length config.boards) (length events + 1) o two has.still still 19
        (goes_edge (has_ended o) true goes) _ ∙ chosen_level two.t has

    -- after an event without a handshake
    pub none_wrote : HasNone o → Wrote → value_after_run (bus_code 77) (length config.boards) (events ++ o ∷ []) Free ≡ level_of b
    none_wrote none is =
        value_next (bus_code 77) (length config.boards) events o Free
        ∙ none_stays (length config.boards) (length events + 1) o none (bus_code 77) write_line.line _ 19 ∙ is

  -- WRITE* falls at the begin of the second of two, if it does
  falls_at : (two : HasTwo o) → two.u.falls ≡ true → (edge_sample config events o 10).write ≡ false
  unfolding sample_of value_at
  falls_at two falls =
      ap is_high (two_parts (bus_code 77) (length config.boards) (length events + 1) o two write_line.line 10 _ ∙ half_falls two.u _ two.late falls)

  -- and is driven
  falls_driven : (two : HasTwo o) → two.u.falls ≡ true → (edge_sample config events o 10).write_undefined ≡ false
  unfolding sample_of value_at
  falls_driven two falls =
      ap is_free (two_parts (bus_code 77) (length config.boards) (length events + 1) o two write_line.line 10 _ ∙ half_falls two.u _ two.late falls)

  -- so it is as the strobes fall
  pub half_driven : (two : HasTwo o) → two.u.falls ≡ true → (edge_sample config events o 11).write_undefined ≡ false
  half_driven two falls =
      two_write_free config events o two 10 (early_level two.t two.early 11 refl refl) (late_level two.u two.late 11 refl refl refl) ∙ falls_driven two falls

  -- and it is low at its answer
  pub half_level : (two : HasTwo o) → two.u.falls ≡ true → (edge_sample config events o 13).write ≡ false
  half_level two falls =
      let step = two_steady config events o two in
      step 12 refl refl refl ∙ step 11 refl refl refl ∙ step 10 refl refl refl ∙ falls_at two falls
