-- In our own traces an event of a datum keeps J1 and J13.
use Rattle.std.proofs.Common.{◌≡◌, ℕ, suc, ◌+◌, Bool, true, false, not, ◌&&◌, ◌||◌, if◌then◌else◌, List, [], ◌∷◌, ◌++◌, length, Option, Some, None, is_none, refl, ap, sym, subst, ◌∙◌, arith, inl, inr}
use Rattle.std.specs.Option.{option_map}
use Rattle.std.proofs.lemmas.Bool.{cases_Bool, eqb-true, eq-eqb, false≢true}
use Rattle.std.proofs.lemmas.Option.{same_Some}
use Rattle.vme_am.specs.Codes.{CodeRow}
use Rattle.vme_am.specs.Kinds.{is_block}
use Rattle.vme_cycle.specs.Lawful as cycles
use Rattle.vme_cycle.specs.Lawful.{IsLawfulTransfer}
use Rattle.vme_cycle.specs.declared.modify.Modify.{Modify}
use Rattle.vme_cycle.specs.SignalLines.{SignalLines}
use Rattle.vme_cycle.specs.Plans.{own_location, signals_of}
use Rattle.vme_cycle.proofs.lemmas.Transfers.{lawful_parts}
use Rattle.vme_script.specs.Configurations.{Configuration}
use Rattle.vme_script.specs.Lawful.{IsLawful}
use Rattle.vme_protocol.specs.declared.sample.Sample.{Sample}
use Rattle.vme_protocol.specs.declared.transfer.Transfer.{Transfer}
use Rattle.vme_protocol.specs.declared.watch.Watch.{Watch}
use Rattle.vme_protocol.specs.Transfers.{opened}
use Rattle.vme_trace.specs.declared.observation.activity.TransferredDatum.{TransferredDatum}
use Rattle.vme_trace.specs.declared.observation.Observation.{Observation}
use Rattle.vme_trace.specs.declared.dump.change.Value.TheVariants.{Free}
use Rattle.vme_trace.specs.declared.dump.handshake.Handshake.{Handshake}
use Rattle.vme_trace.specs.Changes.{level_of}
use Rattle.vme_trace.specs.Variables.{bus_code}
use Rattle.vme_trace.specs.Observations.{observations}
use Rattle.vme_trace.specs.Handshakes.{carries_byte, lines_after, is_berr, half_by, half_of, half_handshake, has_address_phase, ending_handshake, first_of_datum, second_of_datum, first_handshake, second_handshake}
use Rattle.vme_trace.specs.Slots.{has_ended}
use Rattle.vme_trace.specs.Shown.{value_after_run}
use Rattle.vme_trace_laws.specs.Transfers.{OpenTransfer, open_at}
use Rattle.vme_trace_laws.proofs.lemmas.Waves.{HasOne, HasTwo, shape}
use Rattle.vme_trace_laws.proofs.lemmas.Turns.{event_paired, first_opens}
use Rattle.vme_legal_traces.specs.Samples.{edge_sample, sample_of, event_samples}
use Rattle.vme_legal_traces.specs.Kept.{keeps_after, strict_scope}
use Rattle.vme_legal_traces.proofs.Levels.{levels_of}
use Rattle.vme_legal_traces.proofs.Written.{first_level}
use Rattle.vme_legal_traces.proofs.Addresses.{Address, address_of, top_of, same_address, first_address, first_plain, signals_row}
use Rattle.vme_legal_traces.proofs.Shaken.{HasAddress, ShowsAt, one_early, sample_names, one_shows, two_shows_early}
use Rattle.vme_legal_traces.proofs.Named.{Names, names_defined}
use Rattle.vme_legal_traces.proofs.Lines.{one_ends, two_ends}
use Rattle.vme_trace_laws.specs.Addresses.{CarriesNoData}
use Rattle.vme_legal_traces.proofs.Walked.{after_datum, IsDatum, rest_after, IsOpen}
use Rattle.vme_legal_traces.proofs.Located.{level_for}
use Rattle.vme_legal_traces.proofs.Opening.{some_data, opened_begun, opened_new}
use Rattle.vme_legal_traces.proofs.Leveled as leveled
use Rattle.vme_legal_traces.proofs.Leveled.{HasLevel, early_edge, one_answered, first_answered, second_answered, one_level, one_driven, one_wrote, two_wrote, half_level, half_driven}
use Rattle.vme_legal_traces.proofs.Answering.{HasStrobes, IsReady, IsFresh, IsHalved, datum_comes, datum_leaves, first_comes, phase_leaves, half_leaves, half_comes}
use Rattle.vme_legal_traces.proofs.Strobed.{first_strobes, second_strobes}
use Rattle.vme_legal_traces.proofs.Halves.{modifies, half_parts, found_map, none_map, neither, both_hold, one_goes, write_of, strobes_from}
use Rattle.vme_legal_traces.proofs.Counted.{answer_within, ready_lanes, fresh_lanes}
use Rattle.vme_legal_traces.proofs.Carried.{Carried, IsNamed, none_carried, one_clears, first_clears, second_clears}
use Rattle.vme_legal_traces.proofs.Loading.{Moves, narrow_ready, moves_carried, half_carried}
use Rattle.vme_legal_traces.proofs.Both.{rule_of, Unread}
use Rattle.vme_legal_traces.proofs.Stages.{one_by, two_by}

-- a sample of a trace has no IACK*
no_iack : (config : Configuration) (events : List Observation) (o : Observation) (k : ℕ) → (edge_sample config events o k).iack ≡ true
unfolding sample_of
no_iack config events o k = refl

module _ (config : Configuration) (lawful : IsLawful config) (slots : List ℕ) (timeout : ℕ) (undefined : Bool) where
  -- what is known of the open transfer after events
  pub record IsLeft (one : OpenTransfer) (events : List Observation) (w : Watch) : Type 0 where
    pub lawful_one : IsLawfulTransfer one.transfer
    pub ready : IsReady one.transfer one.moved w.transfer
    pub level : value_after_run (bus_code 77) (length config.boards) events Free ≡ level_of (level_for one.transfer)

  -- what is known of it, if there is one
  abbrev pub Left : Option OpenTransfer → List Observation → Watch → Type 0
  Left None events w = Unit {0}
  Left (Some one) events w = IsLeft one events w

  -- and the scope is strict, and for J1 no lines of a read are remembered
  abbrev pub At : Option OpenTransfer → List Observation → Watch → Type 0
  At going events w = (w.scope ≡ strict_scope timeout) × Left going events w × Unread undefined w

  -- the transfer that an event begins
  pub fresh_of : (events : List Observation) (o : Observation) (t : cycles.Transfer) → IsLawfulTransfer t
      → Names (address_of (signals_of t 0)).am (top_of (address_of (signals_of t 0))) (edge_sample config events o 1)
      → IsFresh t (opened (strict_scope timeout) (edge_sample config events o 1))
  fresh_of events o t lawful_one names =
      let s = edge_sample config events o 1 in
      let new = opened_new (strict_scope timeout) s in
      record { begun = opened_begun t lawful_one s names timeout (no_iack config events o 1); none = new.0; addressed = new.1 }

  module _ (events later : List Observation) (o : Observation) (going next : Option OpenTransfer) (w : Watch)
      (whole : observations config slots ≡ events ++ o ∷ later) (datum : IsDatum config o going next) (last_is : levels_of w.last ≡ rest_after config events)
      (strobe' : IsOpen config (events ++ o ∷ []) next) (at : At going events w) (samples : List Sample)
      (rest : (w' : Watch) → levels_of w'.last ≡ rest_after config (events ++ o ∷ []) → At next (events ++ o ∷ []) w'
      → keeps_after (rule_of undefined) w' samples ≡ true) where
    -- the datum
    abbrev d : TransferredDatum
    d = datum.datum

    -- its transfer
    abbrev t : cycles.Transfer
    t = datum.shown.transfer

    -- its number
    abbrev i : ℕ
    i = datum.shown.number

    -- the first handshake
    abbrev h : Handshake
    h = first_of_datum datum.datum datum.reply

    -- the address of the transfer
    abbrev a : Address
    a = address_of (signals_of datum.shown.transfer 0)

    -- what is known of a transfer that goes on
    left_before : h.opens ≡ false → IsLeft (open_at o.board t i) events w
    left_before is =
        let later_one : d.first ≡ false = sym (first_opens d datum.reply) ∙ is in
        subst (λ (one : Option OpenTransfer). Left one events w)
        (datum.was ∙ ap (λ (b : Bool). if b then None else Some (open_at o.board t i)) later_one) at.1

    -- the first datum has number 0
    first_number : h.opens ≡ true → i ≡ 0
    first_number is = eqb-true i 0 (sym datum.shown.first ∙ sym (first_opens d datum.reply) ∙ is)

    -- the row of the datum
    same_row : d.signals.am ≡ t.am
    same_row = ap (λ (s : SignalLines). s.am) datum.shown.signals ∙ signals_row t i

    -- the level of the first handshake
    own_level : h.lines.write ≡ level_for t
    own_level = (first_level d datum.reply).0 ∙ ap (λ (s : SignalLines). s.write) datum.shown.signals ∙ write_of t i

    -- WRITE* of the event
    has_level : HasLevel config events o (level_for t) h
    has_level = record {
      still = (first_level d datum.reply).1;
      begins = λ is. own_level;
      goes = λ is. (left_before is).level;
    }

    -- the strobes of the first handshake
    own_strobes : h.lines.strobes ≡ (signals_of t i).strobes
    own_strobes = first_strobes d datum.reply ∙ ap (λ (s : SignalLines). s.strobes) datum.shown.signals

    -- the address with which the transfer begins
    has_address : h.opens ≡ true → HasAddress config events o a h
    has_address opens = record {
      begins = λ is. first_address d datum.reply ∙ ap address_of datum.shown.signals ∙ same_address t i;
      goes = λ goes. absurd (false≢true (sym goes ∙ opens));
    }

    -- the address lines carry no data then
    plain_of : h.opens ≡ true → CarriesNoData h
    plain_of opens =
        first_plain d datum.reply (ap (λ (b : Bool). b || not d.signals.am.wide) (sym (first_opens d datum.reply) ∙ opens))

    -- what is known of the open transfer after the event
    left_after : (w' : Watch) → (has_ended o ≡ false → IsReady t (i + 1) w'.transfer)
        → (has_ended o ≡ false → value_after_run (bus_code 77) (length config.boards) (events ++ o ∷ []) Free ≡ level_of (level_for t))
        → Left next (events ++ o ∷ []) w'
    left_after w' ready level =
        after_datum config o going next datum (λ found. Left found (events ++ o ∷ []) w') tt
        (λ goes same. record { lawful_one = datum.shown.lawful; ready = ready goes; level = level goes })

    -- AS* is low after an event that does not end the transfer
    low_after : has_ended o ≡ false → (rest_after config (events ++ o ∷ [])).strobe ≡ false
    low_after goes =
        strobe' ∙ ap (λ (found : Option OpenTransfer). is_none found)
        (datum.is ∙ ap (λ (b : Bool). if b then None else Some (open_at o.board t (i + 1))) goes)

    -- a transfer of data of at most four bytes that begins is ready for its first datum
    fresh_ready : (u : Transfer) → t.am.wide ≡ false → i ≡ 0 → IsFresh t u → IsReady t i u
    fresh_ready u narrow none fresh =
        subst (λ (n : ℕ). IsReady t n u) (sym none) (narrow_ready t u narrow fresh)

    -- a transfer without an address phase that begins has data of at most four bytes
    narrow_of : has_address_phase d ≡ false → h.opens ≡ true → t.am.wide ≡ false
    narrow_of plain opens =
        let first : d.first ≡ true = sym (first_opens d datum.reply) ∙ opens in
        ap (λ (row : CodeRow). row.wide) (sym same_row) ∙ sym (ap (λ (b : Bool). b && d.signals.am.wide) first) ∙ plain

    -- the second handshake of an event without an address phase
    second_is : has_address_phase d ≡ false → second_of_datum d datum.reply ≡ option_map half_handshake (half_of d datum.reply)
    second_is plain = rw plain refl

    -- AM and the lines that count with it are driven as AS* falls
    named : ShowsAt config events o a 1 → IsNamed config events o 1
    named shows = names_defined a.am (top_of a) (edge_sample config events o 1) (sample_names config events o a 1 shows)

    -- the first handshake of an event without an address phase moves the datum
    first_moves : has_address_phase d ≡ false → Moves t i datum.reply h
    first_moves plain =
        let lines : h.lines ≡ lines_after d.signals datum.reply = rw plain refl in
        record {
          lines = lines ∙ ap (λ (s : SignalLines). lines_after s datum.reply) datum.shown.signals;
          berr = rw plain refl;
          carries = rw plain refl;
        }

    -- the samples of a datum with one handshake
    one_event : has_address_phase d ≡ false → (one : HasOne o) → one.t ≡ h → keeps_after (rule_of undefined) w (event_samples config events o ++ samples) ≡ true
    one_event plain found same =
        let one : HasOne o = record { t = h; first = datum.first; second = found.second } in
        let early = one_early (first_handshake o.activity o.reply) (second_handshake o.activity o.reply) h (event_paired o.activity o.reply) datum.first found.second in
        let s = edge_sample config events o 4 in
        let answered = one_answered config events o one in
        let strobes = strobes_from t i h.lines h.berr s answered own_strobes in
        let level = one_level config events o (level_for t) one early has_level in
        let lawful_one = datum.shown.lawful in
        let less = datum.shown.more in
        one_by config lawful slots timeout undefined events later o whole w last_is at.0 at.2 (λ u. h.berr ≡ false → IsReady t (suc i) u) samples
        (λ w' last scope left unread. rest w' last (
          scope,
          left_after w'
              (λ goes. subst (λ (n : ℕ). IsReady t n w'.transfer) (omega arith) (left (low_after goes)
              (one_goes d datum.reply plain (none_map (half_of d datum.reply) (sym (second_is plain) ∙ sym datum.second ∙ found.second))
              (sym (one_ends o one) ∙ goes))))
              (one_wrote config events o (level_for t) one early has_level),
          unread,
        ))
        (IsReady t i) one
        (λ opens. fresh_ready _ (narrow_of plain opens) (first_number opens)
        (fresh_of events o t lawful_one (sample_names config events o a 1
        (one_shows config events o a one (plain_of opens) early (has_address opens) 1 (early_edge (has_ended o))))))
        (λ goes. (left_before goes).ready)
        (λ u ready. (
          datum_comes t lawful_one i less u s level strobes ready,
          λ low. datum_leaves t lawful_one i less u s level strobes ready (answered.dtack ∙ low),
        ))
        (λ opens. named (one_shows config events o a one (plain_of opens) early (has_address opens) 1 (early_edge (has_ended o))))
        (moves_carried config events o t lawful_one i less datum.reply datum.formed h (first_moves plain) (IsReady t i) 0
        (one_clears config events o one t.am.wide (own_location t i) early)
        (one_driven config events o (level_for t) one early has_level) level answered.dtack
        (λ u ready. ready_lanes t i u s lawful_one less level strobes ready))

    -- an event with two handshakes, of which the first is that of the datum
    pair_of : HasTwo o → HasTwo o
    pair_of two =
        let same : two.t ≡ h = same_Some _ _ (sym two.first ∙ datum.first) in
        record {
          t = h;
          u = two.u;
          first = datum.first;
          second = two.second;
          early = ap (λ (x : Handshake). x.late) (sym same) ∙ two.early;
          goes_on = ap (λ (x : Handshake). x.ends) (sym same) ∙ two.goes_on;
          late = two.late;
          opened = two.opened;
        }

    -- the transfer that such an event begins
    pair_fresh : (two : HasTwo o) → h.opens ≡ true → IsFresh t (opened (strict_scope timeout) (edge_sample config events o 1))
    unfolding pair_of
    pair_fresh two opens =
        fresh_of events o t datum.shown.lawful (sample_names config events o a 1
        (two_shows_early config events o a (pair_of two) (plain_of opens) (has_address opens) 1 (omega arith)))

    -- the strobes of the first datum at the first answer of such an event
    first_pair : (two : HasTwo o) → i ≡ 0 → HasStrobes t 0 (edge_sample config events o 4)
    unfolding pair_of
    first_pair two none =
        strobes_from t 0 h.lines h.berr (edge_sample config events o 4) (first_answered config events o (pair_of two))
        (own_strobes ∙ ap (λ (n : ℕ). (signals_of t n).strobes) none)

    -- and at the second
    second_pair : (two : HasTwo o) → i ≡ 0 → HasStrobes t 0 (edge_sample config events o 13)
    unfolding pair_of
    second_pair two none =
        strobes_from t 0 two.u.lines two.u.berr (edge_sample config events o 13) (second_answered config events o (pair_of two))
        (second_strobes d datum.reply two.u (sym datum.second ∙ two.second)
        ∙ ap (λ (s : SignalLines). s.strobes) datum.shown.signals ∙ ap (λ (n : ℕ). (signals_of t n).strobes) none)

    -- the samples of the first datum of eight bytes, after its address phase
    phase_event : has_address_phase d ≡ true → HasTwo o → keeps_after (rule_of undefined) w (event_samples config events o ++ samples) ≡ true
    unfolding pair_of
    phase_event phase found =
        let two = pair_of found in
        let u = found.u in
        let begins = both_hold d.first d.signals.am.wide phase in
        let opens : h.opens ≡ true = first_opens d datum.reply ∙ begins.0 in
        let none = first_number opens in
        let lawful_one = datum.shown.lawful in
        let less = some_data t lawful_one in
        let wide : t.am.wide ≡ true = ap (λ (row : CodeRow). row.wide) (sym same_row) ∙ begins.1 in
        let second : second_of_datum d datum.reply ≡ Some (record (ending_handshake d datum.reply true) { clears = d.signals.write }) = rw phase refl in
        let same : record (ending_handshake d datum.reply true) { clears = d.signals.write } ≡ u = same_Some _ _ (sym second ∙ sym datum.second ∙ found.second) in
        let quiet : h.berr ≡ false = rw phase refl in
        let still : u.falls ≡ false = ap (λ (x : Handshake). x.falls) (sym same) in
        let first_s = edge_sample config events o 4 in
        let second_s = edge_sample config events o 13 in
        let first_low : first_s.dtack ≡ false = (first_answered config events o two).dtack ∙ quiet in
        let second_a = second_answered config events o two in
        let low_first = first_pair found none in
        let low_second = second_pair found none in
        let first_l = leveled.first_level config events o (level_for t) two has_level in
        let second_l = leveled.second_level config events o (level_for t) two has_level still in
        two_by config lawful slots timeout undefined events later o whole w last_is at.0 at.2 (λ x. u.berr ≡ false → IsReady t 1 x) samples
        (λ w' last scope left unread. rest w' last (
          scope,
          left_after w'
              (λ goes. subst (λ (n : ℕ). IsReady t n w'.transfer) (omega (arith, none)) (left (low_after goes)
              (ap (λ (x : Handshake). x.berr) (sym same) ∙ neither (is_berr datum.reply) d.last
              (ap (λ (x : Handshake). x.ends) same ∙ sym (two_ends o two) ∙ goes))))
              (two_wrote config events o (level_for t) two has_level still),
          unread,
        ))
        (IsFresh t) (IsReady t 0) two (λ opens. pair_fresh found opens) (λ goes. absurd (false≢true (sym goes ∙ opens)))
        (λ x fresh. (
          first_comes t lawful_one less x first_s first_l low_first fresh,
          phase_leaves t lawful_one less x first_s first_l low_first fresh wide first_low,
        ))
        (λ x ready. (
          datum_comes t lawful_one 0 less x second_s second_l low_second ready,
          λ low. datum_leaves t lawful_one 0 less x second_s second_l low_second ready (second_a.dtack ∙ low),
        ))
        (λ opens. named (two_shows_early config events o a two (plain_of opens) (has_address opens) 1 (omega arith)))
        (none_carried config events o h.lines.write (IsFresh t) 0 (leveled.first_driven config events o (level_for t) two has_level)
        (λ is. first_l ∙ sym own_level ∙ is) (λ x fresh. answer_within 0 x first_s (fresh_lanes t x first_s wide fresh)))
        (moves_carried config events o t lawful_one 0 less datum.reply datum.formed u (record {
          lines = ap (λ (x : Handshake). x.lines) (sym same)
              ∙ ap (λ (s : SignalLines). lines_after s datum.reply) (datum.shown.signals ∙ ap (signals_of t) none);
          berr = ap (λ (x : Handshake). x.berr) (sym same);
          carries = ap (λ (x : Handshake). x.carries) (sym same) ∙ ap (λ (x : Handshake). carries_byte x.lines) same;
        }) (IsReady t 0) 9 (second_clears config events o two t.am.wide (own_location t 0))
        (leveled.second_driven config events o (level_for t) two has_level still) second_l second_a.dtack
        (λ x ready. ready_lanes t 0 x second_s lawful_one less second_l low_second ready))

    -- the samples of a read-modify-write
    half_event : has_address_phase d ≡ false → HasTwo o → keeps_after (rule_of undefined) w (event_samples config events o ++ samples) ≡ true
    unfolding pair_of
    half_event plain found =
        let two = pair_of found in
        let u = found.u in
        let half = found_map (half_of d datum.reply) u (sym (second_is plain) ∙ sym datum.second ∙ found.second) in
        let parts = half_parts d.signals d.function datum.reply half.0 half.1 in
        let modify = modifies t.request parts.0 (sym datum.shown.function ∙ parts.1) in
        let more = datum.shown.more in
        let none : i ≡ 0 = omega (arith, more, modify.0) in
        let begins : d.first ≡ true = datum.shown.first ∙ eq-eqb i 0 none in
        let opens : h.opens ≡ true = first_opens d datum.reply ∙ begins in
        let lawful_one = datum.shown.lawful in
        let less = some_data t lawful_one in
        let alone : is_block t.am.kind ≡ false = (lawful_parts t lawful_one).kind ∙ modify.2 in
        let quiet : h.berr ≡ false = berr_plain plain ∙ parts.2 in
        let narrow = narrow_of plain opens in
        let first_s = edge_sample config events o 4 in
        let second_s = edge_sample config events o 13 in
        let low_first = first_pair found none in
        let low_second = second_pair found none in
        let first_l = leveled.first_level config events o (level_for t) two has_level in
        let second_l = half_level config events o two (ap (λ (x : Handshake). x.falls) (sym half.2)) in
        let over : has_ended o ≡ true = two_ends o two ∙ ap (λ (x : Handshake). x.ends) (sym half.2) in
        two_by config lawful slots timeout undefined events later o whole w last_is at.0 at.2 (λ x. Unit {0}) samples
        (λ w' last scope left unread. rest w' last (
          scope,
          left_after w'
              (λ goes. absurd (false≢true (sym goes ∙ over))) (λ goes. absurd (false≢true (sym goes ∙ over))),
          unread,
        ))
        (IsReady t 0) (IsHalved t) two
        (λ opens.
        let begun = opened (strict_scope timeout) (edge_sample config events o 1) in
        subst (λ (n : ℕ). IsReady t n begun) none (fresh_ready begun narrow none (pair_fresh found opens)))
        (λ goes. absurd (false≢true (sym goes ∙ opens)))
        (λ x ready. (
          datum_comes t lawful_one 0 less x first_s first_l low_first ready,
          half_leaves t lawful_one less x first_s first_l low_first modify.1 ready ((first_answered config events o two).dtack ∙ quiet),
        ))
        (λ x halved. (half_comes t x second_s alone low_second halved second_l, tt))
        (λ opens. named (two_shows_early config events o a two (plain_of opens) (has_address opens) 1 (omega arith)))
        (subst (λ (n : ℕ). Carried config events o h.lines.write (IsReady t n) 0) none
        (moves_carried config events o t lawful_one i datum.shown.more datum.reply datum.formed h (first_moves plain) (IsReady t i) 0
        (first_clears config events o two t.am.wide (own_location t i) narrow) (leveled.first_driven config events o (level_for t) two has_level) first_l
        (first_answered config events o two).dtack
        (λ x ready. ready_lanes t i x first_s lawful_one datum.shown.more first_l
        (subst (λ (n : ℕ). HasStrobes t n first_s) (sym none) low_first) ready)))
        (half_carried config events o t lawful_one less datum.reply datum.formed parts.0 modify.1 alone narrow half.0
        (ap (λ (f : Option Modify). half_by (signals_of t 0) f datum.reply) (sym parts.1)
        ∙ ap (λ (s : SignalLines). half_by s d.function datum.reply) (sym (datum.shown.signals ∙ ap (signals_of t) none)) ∙ half.1) two half.2
        (half_driven config events o two (ap (λ (x : Handshake). x.falls) (sym half.2))) low_second)
      where
        berr_plain : has_address_phase d ≡ false → h.berr ≡ is_berr datum.reply
        berr_plain plain = rw plain refl

    -- a datum keeps them
    pub datum_event : keeps_after (rule_of undefined) w (event_samples config events o ++ samples) ≡ true
    datum_event =
        elim (shape o) [
          | inl none ↦ absurd (cc (sym none.first ∙ datum.first))
          | inr (inl one) ↦ elim (cases_Bool (has_address_phase d)) [
            | inl phase ↦
                let second : second_of_datum d datum.reply ≡ Some (record (ending_handshake d datum.reply true) { clears = d.signals.write }) = rw phase refl in
                absurd (cc (sym second ∙ sym datum.second ∙ one.second))
            | inr plain ↦ one_event plain one (same_Some _ _ (sym one.first ∙ datum.first))
          ]
          | inr (inr two) ↦ elim (cases_Bool (has_address_phase d)) [
            | inl phase ↦ phase_event phase two
            | inr plain ↦ half_event plain two
          ]
        ]
