-- The lines of a datum that a handshake moves are driven, as J1 asks for.
use Rattle.std.proofs.Common.{◌≡◌, ℕ, ◌+◌, ◌<◌, Bool, true, false, not, ◌&&◌, if◌then◌else◌, List, Option, Some, None, is_none, is_some, refl, ap, sym, subst, ◌∙◌, inl, inr}
use Rattle.std.specs.List.{list_any}
use Rattle.std.proofs.lemmas.Bool.{false≢true, cases_Bool}
use Rattle.vme_am.specs.Codes.{CodeRow}
use Rattle.vme_am.specs.Kinds.{is_block}
use Rattle.vme_lanes.specs.declared.location.Location.{Location}
use Rattle.vme_cycle.specs.Requests.{count_of, datum_len, datum_of}
use Rattle.vme_cycle.specs.declared.modify.Modify.{Modify}
use Rattle.vme_cycle.specs.Lawful as cycles
use Rattle.vme_cycle.specs.Lawful.{IsLawfulTransfer}
use Rattle.vme_cycle.specs.SignalLines.{SignalLines, answered_lines}
use Rattle.vme_cycle.specs.Plans.{own_location, signals_of}
use Rattle.vme_memory.specs.Data.{datum_reply_len, has_form}
use Rattle.vme_memory.specs.declared.reply.Reply.{Reply}
use Rattle.vme_memory.specs.declared.reply.Reply.TheVariants.{Bytes, Done, Berr}
use Rattle.vme_script.specs.Configurations.{Configuration}
use Rattle.vme_protocol.specs.declared.transfer.Transfer.{Transfer}
use Rattle.vme_protocol.specs.Places.{data_lanes}
use Rattle.vme_trace.specs.declared.observation.Observation.{Observation}
use Rattle.vme_trace.specs.declared.dump.handshake.Handshake.{Handshake}
use Rattle.vme_trace.specs.Handshakes.{carries_byte, is_data_len, lines_after, is_berr, half_by, unanswered_handshake, half_handshake}
use Rattle.vme_trace_laws.proofs.lemmas.Waves.{HasOne, HasTwo}
use Rattle.vme_legal_traces.specs.Samples.{edge_sample}
use Rattle.vme_legal_traces.proofs.Located.{level_for}
use Rattle.vme_legal_traces.proofs.Opening.{some_data}
use Rattle.vme_legal_traces.proofs.Answering.{HasStrobes, IsReady, IsFresh, IsHalved}
use Rattle.vme_legal_traces.proofs.Halves.{write_of}
use Rattle.vme_legal_traces.proofs.Covered.{Covers}
use Rattle.vme_legal_traces.proofs.Loaded.{IsLoaded, loaded, form_of, half_covers, half_lines}
use Rattle.vme_legal_traces.proofs.Driving.{set_for}
use Rattle.vme_legal_traces.proofs.Counted.{answer_within, answer_none, ready_lanes, fresh_lanes, half_lanes}
use Rattle.vme_legal_traces.proofs.Carried.{Carried, Clears, full_carried, none_carried, one_clears, second_clears}

-- a board's reply leaves the code and WRITE*
after_lines : (s : SignalLines) (reply : Reply) → ((lines_after s reply).am ≡ s.am) × ((lines_after s reply).write ≡ s.write)
after_lines s (Bytes datum) = by_len (is_data_len s datum.items)
  where
    by_len : (fits : Bool) → ((if fits then answered_lines s datum.items else s).am ≡ s.am) × ((if fits then answered_lines s datum.items else s).write ≡ s.write)
    by_len true = (refl, refl)
    by_len false = (refl, refl)
after_lines s Done = (refl, refl)
after_lines s Berr = (refl, refl)

-- lanes that cover a location carry a byte
some_byte : (wide : Bool) (l : Location) (lanes : List (Option ℕ)) → Covers wide l lanes → list_any is_some lanes ≡ true
some_byte true l lanes covers = covers.0
some_byte false l lanes covers = covers.0

-- the code of the signals of a datum
code_of_signals : (t : cycles.Transfer) (i : ℕ) → (signals_of t i).am ≡ t.am
unfolding signals_of
code_of_signals t i = refl

-- a transfer of data of at most four bytes has no address phase
pub narrow_ready : (t : cycles.Transfer) (u : Transfer) → t.am.wide ≡ false → IsFresh t u → IsReady t 0 u
narrow_ready t u narrow fresh =
    record { begun = fresh.begun; next = fresh.none; addressed = λ wide. absurd (false≢true (sym narrow ∙ wide)) }

-- a handshake moves a datum of a transfer, with a board's reply
pub record Moves (t : cycles.Transfer) (i : ℕ) (reply : Reply) (x : Handshake) : Type 0 where
  pub lines : x.lines ≡ lines_after (signals_of t i) reply
  pub berr : x.berr ≡ is_berr reply
  pub carries : x.carries ≡ carries_byte x.lines

module _ (config : Configuration) (events : List Observation) (o : Observation) (t : cycles.Transfer) (lawful : IsLawfulTransfer t) (i : ℕ)
    (less : i < count_of t.request) (reply : Reply) (form : has_form (datum_reply_len t.request) reply ≡ true) (x : Handshake) (m : Moves t i reply x) where
  -- its code
  moves_code : x.lines.am.wide ≡ t.am.wide
  moves_code =
      ap (λ (s : SignalLines). s.am.wide) m.lines ∙ ap (λ (row : CodeRow). row.wide) (after_lines (signals_of t i) reply).0
      ∙ ap (λ (row : CodeRow). row.wide) (code_of_signals t i)

  -- its level of WRITE*
  moves_level : x.lines.write ≡ level_for t
  moves_level = ap (λ (s : SignalLines). s.write) m.lines ∙ (after_lines (signals_of t i) reply).1 ∙ write_of t i

  -- its lanes
  moves_loaded : IsLoaded t i x.lines.lanes x.berr
  moves_loaded =
      subst (λ (s : SignalLines). IsLoaded t i s.lanes x.berr) (sym m.lines)
      (subst (λ (b : Bool). IsLoaded t i (lines_after (signals_of t i) reply).lanes b) (sym m.berr) (loaded t i reply lawful less form))

  -- the lines that count are driven
  pub moves_carried : (X : Transfer → Type 0) (k : ℕ)
      → (x.carries ≡ true → x.lines.am.wide ≡ t.am.wide → Covers t.am.wide (own_location t i) x.lines.lanes
      → Clears config events o (set_for t.am.wide (own_location t i)) x.lines.write k)
      → (edge_sample config events o (k + 2)).write_undefined ≡ false → (edge_sample config events o (k + 4)).write ≡ level_for t
      → (edge_sample config events o (k + 4)).dtack ≡ x.berr
      → ((u : Transfer) → X u → data_lanes u (edge_sample config events o (k + 4)) ≡ set_for t.am.wide (own_location t i))
      → Carried config events o x.lines.write X k
  moves_carried X k clears driven level dtack lanes = by_load moves_loaded
    where
      by_load : IsLoaded t i x.lines.lanes x.berr → Carried config events o x.lines.write X k
      by_load (inl covers) =
          full_carried config events o x.lines.write X k driven (λ is. level ∙ sym moves_level ∙ is) (set_for t.am.wide (own_location t i))
          (clears (m.carries ∙ some_byte t.am.wide (own_location t i) x.lines.lanes covers) moves_code covers)
          (λ u is. answer_within _ u (edge_sample config events o (k + 4)) (lanes u is))
      by_load (inr quiet) =
          none_carried config events o x.lines.write X k driven (λ is. level ∙ sym moves_level ∙ is)
          (λ u is. answer_none 0 u (edge_sample config events o (k + 4)) (level ∙ quiet.0) (dtack ∙ quiet.1))

-- the bytes that a handshake carries with a code of data of at most four bytes
narrow_carries : (carries wide : Bool) → wide ≡ false → (carries && not wide) ≡ carries
narrow_carries true wide is = rw is refl
narrow_carries false wide is = refl

-- a cycle that no board answers
pub alone_carried : (config : Configuration) (events : List Observation) (o : Observation) (t : cycles.Transfer) → IsLawfulTransfer t → (s : SignalLines)
    → s ≡ signals_of t 0 → (one : HasOne o) → one.t ≡ unanswered_handshake s → (edge_sample config events o 2).write_undefined ≡ false
    → (edge_sample config events o 4).write ≡ level_for t → (edge_sample config events o 4).dtack ≡ one.t.berr → HasStrobes t 0 (edge_sample config events o 4)
    → Carried config events o one.t.lines.write (IsFresh t) 0
alone_carried config events o t lawful s planned one same driven level dtack strobes =
    elim (cases_Bool t.am.wide) [
      | inl wide ↦
          none_carried config events o one.t.lines.write (IsFresh t) 0 driven (λ is. level ∙ sym level_is ∙ is)
          (λ u fresh. answer_within 0 u (edge_sample config events o 4) (fresh_lanes t u (edge_sample config events o 4) wide fresh))
      | inr narrow ↦
          moves_carried config events o t lawful 0 (some_data t lawful) Berr refl one.t (record {
            lines = lines_are;
            berr = ap (λ (x : Handshake). x.berr) same;
            carries = ap (λ (x : Handshake). x.carries) same
                ∙ narrow_carries (carries_byte s) s.am.wide (ap (λ (x : SignalLines). x.am.wide) planned ∙ ap (λ (row : CodeRow). row.wide) (code_of_signals t 0) ∙ narrow)
                ∙ ap (λ (x : Handshake). carries_byte x.lines) (sym same);
          }) (IsFresh t) 0
          (one_clears config events o one t.am.wide (own_location t 0) (ap (λ (x : Handshake). x.late) same)) driven level dtack
          (λ u fresh. ready_lanes t 0 u (edge_sample config events o 4) lawful (some_data t lawful) level strobes (narrow_ready t u narrow fresh))
    ]
  where
    lines_are : one.t.lines ≡ signals_of t 0
    lines_are = ap (λ (x : Handshake). x.lines) same ∙ planned

    level_is : one.t.lines.write ≡ level_for t
    level_is = ap (λ (x : SignalLines). x.write) lines_are ∙ write_of t 0

-- the write half of a read-modify-write
pub half_carried : (config : Configuration) (events : List Observation) (o : Observation) (t : cycles.Transfer) → IsLawfulTransfer t → 0 < count_of t.request
    → (reply : Reply) → has_form (datum_reply_len t.request) reply ≡ true → (f : Modify) → is_none (datum_of t.request 0) ≡ true
    → is_block t.am.kind ≡ false → t.am.wide ≡ false → (half : SignalLines) → half_by (signals_of t 0) (Some f) reply ≡ Some half
    → (two : HasTwo o) → half_handshake half ≡ two.u → (edge_sample config events o 11).write_undefined ≡ false
    → HasStrobes t 0 (edge_sample config events o 13) → Carried config events o two.u.lines.write (IsHalved t) 9
half_carried config events o t lawful less reply form f reads alone narrow half is two same driven strobes =
    let parts = half_lines (signals_of t 0) (Some f) reply half is in
    let low : two.u.lines.write ≡ false = ap (λ (x : Handshake). x.lines.write) (sym same) ∙ parts.1 in
    let expected : has_form (Some (datum_len t.request)) reply ≡ true
    = ap (λ (b : Bool). has_form (if b then Some (datum_len t.request) else None) reply) (sym reads)
    ∙ ap (λ (wanted : Option ℕ). has_form wanted reply) (sym (form_of t.request 0)) ∙ form in
    let covers : Covers t.am.wide (own_location t 0) two.u.lines.lanes
    = subst (λ (x : Handshake). Covers t.am.wide (own_location t 0) x.lines.lanes) same (half_covers t f reply half lawful less expected is) in
    full_carried config events o two.u.lines.write (IsHalved t) 9 driven (λ high. absurd (false≢true (sym low ∙ high))) (set_for t.am.wide (own_location t 0))
    (second_clears config events o two t.am.wide (own_location t 0) (ap (λ (x : Handshake). x.carries) (sym same))
    (ap (λ (x : Handshake). x.lines.am.wide) (sym same) ∙ ap (λ (row : CodeRow). row.wide) (parts.0 ∙ code_of_signals t 0)) covers)
    (λ u halved. answer_within _ u (edge_sample config events o 13) (half_lanes t u (edge_sample config events o 13) alone narrow strobes halved))
