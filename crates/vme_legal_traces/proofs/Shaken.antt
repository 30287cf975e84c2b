-- The lines of the address at the edges of an event, and after it.
use Rattle.std.proofs.Common.{◌≡◌, ℕ, ◌+◌, ◌<◌, Bool, true, false, not, ◌&&◌, ◌||◌, if◌then◌else◌, List, [], ◌∷◌, ◌++◌, length, Option, Some, None, refl, ap, sym, subst, ◌∙◌, inl, inr, ◌⊎◌}
use Rattle.std.specs.Prelude.{nat_le}
use Rattle.std.proofs.lemmas.Bool.{false≢true}
use Rattle.std.proofs.lemmas.Option.{same_Some}
use Rattle.vme_script.specs.Configurations.{Configuration}
use Rattle.vme_trace.specs.declared.observation.Observation.{Observation}
use Rattle.vme_trace.specs.declared.dump.change.Value.{Value}
use Rattle.vme_trace.specs.declared.dump.change.Value.TheVariants.{Free, Released, Number}
use Rattle.vme_trace.specs.declared.dump.handshake.Handshake.{Handshake}
use Rattle.vme_trace.specs.declared.dump.variable.Variable.TheVariants.{AddressModifier, AddressLines, LongWord}
use Rattle.vme_trace.specs.Changes.{level_of}
use Rattle.vme_trace.specs.Variables.{bus_code}
use Rattle.vme_trace.specs.Handshakes.{first_handshake, second_handshake}
use Rattle.vme_trace.specs.Bus.{address_number}
use Rattle.vme_trace.specs.Slots.{has_ended}
use Rattle.vme_trace.specs.Events.{event_changes}
use Rattle.vme_trace.specs.Shown.{value_at, value_after_run}
use Rattle.vme_trace_laws.specs.Addresses.{CarriesNoData}
use Rattle.vme_trace_laws.proofs.lemmas.Waves.{HasNone, HasOne, HasTwo, shape, none_stays}
use Rattle.vme_trace_laws.proofs.lemmas.Turns.{ArePaired, event_paired}
use Rattle.vme_legal_traces.specs.Samples.{value_shown, edge_sample}
use Rattle.vme_legal_traces.proofs.Named.{Names}
use Rattle.vme_legal_traces.proofs.Addressed.{one_named, two_named}
use Rattle.vme_legal_traces.proofs.Lines.{modifier_line, address_line, long_word_line, one_value, two_value, two_begins, below_of, shows_names}
use Rattle.vme_legal_traces.proofs.Steps.{value_next}
use Rattle.vme_legal_traces.proofs.Addresses.{Address, address_of, top_of}

-- an event without a first handshake has none
pub none_of : (o : Observation) → first_handshake o.activity o.reply ≡ None → HasNone o
none_of o none =
    elim (shape o) [
      | inl quiet ↦ quiet
      | inr (inl one) ↦ absurd (cc (sym none ∙ one.first))
      | inr (inr two) ↦ absurd (cc (sym none ∙ two.first))
    ]

-- a choice of values
chosen_value : (opens : Bool) (a b c : Value) → (opens ≡ true → a ≡ c) → (opens ≡ false → b ≡ c) → (if opens then a else b) ≡ c
chosen_value true a b c one two = one refl
chosen_value false a b c one two = two refl

-- two tests that hold
pub both_hold : (a b : Bool) → (a && b) ≡ true → (a ≡ true) × (b ≡ true)
both_hold true b h = (refl, h)
both_hold false b h = absurd cc

-- a choice of which the first is false
low_of : (a b : Bool) → a ≡ false → (a || not b) ≡ true → b ≡ false
low_of false false is h = refl
low_of false true is h = absurd cc
low_of true b is h = absurd cc

-- a single handshake is an early one
pub one_early : (first second : Option Handshake) (t : Handshake) → ArePaired first second → first ≡ Some t → second ≡ None → t.late ≡ false
one_early None second t pair is none = absurd (cc is)
one_early (Some s) (Some u) t pair is none = absurd (cc none)
one_early (Some s) None t pair is none = ap (λ (h : Handshake). h.late) (sym (same_Some _ _ is)) ∙ pair

-- the edges at which an event with two handshakes shows the address
two_named_by : (wide opens ends : Bool) (k : ℕ) → two_named wide opens ends k ≡ true
    → ((wide ≡ true) × (opens ≡ true) × (not (nat_le 10 k) ≡ true)) ⊎ ((wide ≡ false) × (not (ends && nat_le 19 k) ≡ true))
two_named_by true true ends k h = inl (refl, refl, h)
two_named_by true false ends k h = absurd cc
two_named_by false opens ends k h = inr (refl, h)

module _ (config : Configuration) where
  -- the lines show an address after events
  pub record Shows (a : Address) (events : List Observation) : Type 0 where
    pub modifier : value_after_run (bus_code 74) (length config.boards) events Released ≡ Number 6 a.am
    pub number : value_after_run (bus_code 75) (length config.boards) events Released ≡ Number 32 a.number
    pub lword : value_after_run (bus_code 76) (length config.boards) events Free ≡ level_of a.lword

  module _ (events : List Observation) (o : Observation) (a : Address) where
    -- the lines show it at an edge of the event
    pub record ShowsAt (k : ℕ) : Type 0 where
      pub modifier : value_shown config events o k AddressModifier ≡ Number 6 a.am
      pub number : value_shown config events o k AddressLines ≡ Number 32 a.number
      pub lword : value_shown config events o k LongWord ≡ level_of a.lword

    -- a sample shows it
    pub sample_names : (k : ℕ) → ShowsAt k → Names a.am (top_of a) (edge_sample config events o k)
    sample_names k s = shows_names config events o k a.am a.number a.lword s.modifier s.number s.lword

    -- the lines after the event show it
    pub shows_next : ShowsAt 19 → Shows a (events ++ o ∷ [])
    shows_next s = record {
      modifier = value_next (bus_code 74) (length config.boards) events o Released ∙ s.modifier;
      number = value_next (bus_code 75) (length config.boards) events o Released ∙ s.number;
      lword = value_next (bus_code 76) (length config.boards) events o Free ∙ s.lword;
    }

    -- at the edges of an event without a handshake they are as before
    pub none_shows : HasNone o → Shows a events → (k : ℕ) → ShowsAt k
    none_shows none s k = record {
      modifier = none_stays (length config.boards) (length events + 1) o none (bus_code 74) modifier_line.line _ k ∙ s.modifier;
      number = none_stays (length config.boards) (length events + 1) o none (bus_code 75) address_line.line _ k ∙ s.number;
      lword = none_stays (length config.boards) (length events + 1) o none (bus_code 76) long_word_line.line _ k ∙ s.lword;
    }

    -- a handshake with which the transfer begins shows the address, or the lines do before the event
    pub record HasAddress (t : Handshake) : Type 0 where
      pub begins : t.opens ≡ true → address_of t.lines ≡ a
      pub goes : t.opens ≡ false → Shows a events

    -- each line has its value at an edge, if it takes it at the begin of the event, or has it before
    edge_shows : (t : Handshake) (k : ℕ) → HasAddress t
        → ((v : Value) → value_at (bus_code 74) (event_changes (length config.boards) (length events + 1) o) v k ≡ (if t.opens then Number 6 t.lines.am.code else v))
        → ((v : Value) → value_at (bus_code 75) (event_changes (length config.boards) (length events + 1) o) v k
        ≡ (if t.opens then Number 32 (address_number t.lines) else v))
        → ((v : Value) → value_at (bus_code 76) (event_changes (length config.boards) (length events + 1) o) v k ≡ (if t.opens then level_of t.lines.strobes.lword else v))
        → ShowsAt k
    edge_shows t k has m n l = record {
      modifier = m _ ∙ chosen_value t.opens _ _ _ (λ is. ap (λ (b : Address). Number 6 b.am) (has.begins is)) (λ is. (has.goes is).modifier);
      number = n _ ∙ chosen_value t.opens _ _ _ (λ is. ap (λ (b : Address). Number 32 b.number) (has.begins is)) (λ is. (has.goes is).number);
      lword = l _ ∙ chosen_value t.opens _ _ _ (λ is. ap (λ (b : Address). level_of b.lword) (has.begins is)) (λ is. (has.goes is).lword);
    }

    -- at an edge of an event with one handshake
    pub one_shows : (one : HasOne o) → CarriesNoData one.t → one.t.late ≡ false → HasAddress one.t → (k : ℕ) → not (has_ended o && nat_le 10 k) ≡ true → ShowsAt k
    one_shows one plain early has k soon =
        edge_shows one.t k has
        (one_value CarriesNoData 74 _ Released modifier_line (length config.boards) (length events + 1) o one plain early k soon)
        (one_value CarriesNoData 75 _ Released address_line (length config.boards) (length events + 1) o one plain early k soon)
        (one_value CarriesNoData 76 _ Free long_word_line (length config.boards) (length events + 1) o one plain early k soon)

    -- at an edge of an event with two
    two_shows : (two : HasTwo o) → CarriesNoData two.t → CarriesNoData two.u → HasAddress two.t → (k : ℕ) → not (has_ended o && nat_le 19 k) ≡ true → ShowsAt k
    two_shows two plain plain' has k soon =
        edge_shows two.t k has
        (two_value CarriesNoData 74 _ Released modifier_line (length config.boards) (length events + 1) o two plain plain' k soon)
        (two_value CarriesNoData 75 _ Released address_line (length config.boards) (length events + 1) o two plain plain' k soon)
        (two_value CarriesNoData 76 _ Free long_word_line (length config.boards) (length events + 1) o two plain plain' k soon)

    -- at an edge of the first half of one
    pub two_shows_early : (two : HasTwo o) → CarriesNoData two.t → HasAddress two.t → (k : ℕ) → k < 10 → ShowsAt k
    two_shows_early two plain has k soon =
        edge_shows two.t k has
        (two_begins CarriesNoData 74 _ Released modifier_line (length config.boards) (length events + 1) o two plain k soon)
        (two_begins CarriesNoData 75 _ Released address_line (length config.boards) (length events + 1) o two plain k soon)
        (two_begins CarriesNoData 76 _ Free long_word_line (length config.boards) (length events + 1) o two plain k soon)

    -- what the handshakes of an event do with the address, of eight-byte data or not
    pub record IsShaken (wide : Bool) (t : Handshake) : Type 0 where
      pub begins : t.opens ≡ true → address_of t.lines ≡ a
      pub goes : t.opens ≡ false → wide ≡ false → Shows a events
      pub plain : (t.opens || not wide) ≡ true → CarriesNoData t
      pub second : wide ≡ false → (u : Handshake) → second_handshake o.activity o.reply ≡ Some u → CarriesNoData u

    -- the address of data of at most four bytes
    narrow_has : (wide : Bool) (t : Handshake) → IsShaken wide t → wide ≡ false → HasAddress t
    narrow_has wide t s narrow = record { begins = s.begins; goes = λ goes. s.goes goes narrow }

    -- that of a transfer that begins
    begins_has : (wide : Bool) (t : Handshake) → IsShaken wide t → t.opens ≡ true → HasAddress t
    begins_has wide t s opens = record { begins = s.begins; goes = λ goes. absurd (false≢true (sym goes ∙ opens)) }

    -- the edges at which an event with one handshake shows the address
    pub one_names : (wide : Bool) (one : HasOne o) → one.t.late ≡ false → IsShaken wide one.t → (k : ℕ) → one_named wide one.t.opens (has_ended o) k ≡ true → ShowsAt k
    one_names wide one early s k h =
        let parts = both_hold (one.t.opens || not wide) _ h in
        one_shows one (s.plain parts.0) early (record { begins = s.begins; goes = λ goes. s.goes goes (low_of one.t.opens wide goes parts.0) }) k parts.1

    -- those of an event with two
    pub two_names : (wide : Bool) (two : HasTwo o) → IsShaken wide two.t → (k : ℕ) → two_named wide two.t.opens (has_ended o) k ≡ true → ShowsAt k
    two_names wide two s k h =
        elim (two_named_by wide two.t.opens (has_ended o) k h) [
          | inl early ↦
              two_shows_early two (s.plain (ap (λ (b : Bool). b || not wide) early.1)) (begins_has wide two.t s early.1) k (below_of 10 k early.2)
          | inr narrow ↦
              two_shows two (s.plain (ap (λ (b : Bool). two.t.opens || not b) narrow.0 ∙ or_true two.t.opens)) (s.second narrow.0 two.u two.second)
              (narrow_has wide two.t s narrow.0) k narrow.1
        ]
      where
        or_true : (b : Bool) → (b || true) ≡ true
        or_true true = refl
        or_true false = refl

    -- the lines after an event that does not end a transfer of data of at most four bytes
    pub shaken_next : (wide : Bool) (t : Handshake) → first_handshake o.activity o.reply ≡ Some t → IsShaken wide t → wide ≡ false → has_ended o ≡ false
        → Shows a (events ++ o ∷ [])
    shaken_next wide t first s narrow goes =
        elim (shape o) [
          | inl none ↦ absurd (cc (sym none.first ∙ first))
          | inr (inl one) ↦
              let same : t ≡ one.t = same_Some _ _ (sym first ∙ one.first) in
              let early = one_early (first_handshake o.activity o.reply) (second_handshake o.activity o.reply) one.t (event_paired o.activity o.reply) one.first one.second in
              shows_next (one_names wide one early (subst (IsShaken wide) same s) 19 (one_last wide one.t.opens (has_ended o) narrow goes))
          | inr (inr two) ↦
              let same : t ≡ two.t = same_Some _ _ (sym first ∙ two.first) in
              shows_next (two_names wide two (subst (IsShaken wide) same s) 19 (two_last wide two.t.opens (has_ended o) narrow goes))
        ]
      where
        one_last : (wide opens ends : Bool) → wide ≡ false → ends ≡ false → one_named wide opens ends 19 ≡ true
        one_last false true false narrow goes = refl
        one_last false false false narrow goes = refl
        one_last false opens true narrow goes = absurd cc
        one_last true opens ends narrow goes = absurd cc

        two_last : (wide opens ends : Bool) → wide ≡ false → ends ≡ false → two_named wide opens ends 19 ≡ true
        two_last false opens false narrow goes = refl
        two_last false opens true narrow goes = absurd cc
        two_last true opens ends narrow goes = absurd cc
