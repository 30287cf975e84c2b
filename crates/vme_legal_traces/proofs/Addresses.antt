-- The address of a cycle, which each handshake of its transfer has.
use Rattle.std.proofs.Common.{◌≡◌, ℕ, ◌+◌, Bool, true, false, not, ◌&&◌, ◌||◌, if◌then◌else◌, List, Option, Some, None, refl, ap, sym, ◌∙◌}
use Rattle.std.specs.Option.{option_map}
use Rattle.std.proofs.lemmas.Option.{same_Some}
use Rattle.vme_am.specs.Codes.{CodeRow}
use Rattle.vme_cycle.specs.Lawful.{Transfer, IsLawfulTransfer}
use Rattle.vme_cycle.specs.SignalLines.{SignalLines, answered_lines}
use Rattle.vme_cycle.specs.declared.modify.Modify.{Modify}
use Rattle.vme_cycle.specs.Functions.{value, has_len}
use Rattle.vme_cycle.specs.Plans.{signals_of}
use Rattle.vme_memory.specs.declared.reply.Reply.{Reply}
use Rattle.vme_memory.specs.declared.reply.Reply.TheVariants.{Bytes, Done, Berr}
use Rattle.vme_protocol.specs.Transfers.{is_wide_row, is_wide_code}
use Rattle.vme_trace.specs.declared.observation.activity.TransferredDatum.{TransferredDatum}
use Rattle.vme_trace.specs.declared.dump.handshake.Handshake.{Handshake}
use Rattle.vme_trace.specs.Changes.{level_of}
use Rattle.vme_trace.specs.Handshakes.{is_data_len, answered, lines_after, carries_byte, has_address_phase, unanswered_handshake, half_by, half_of, half_handshake, first_of_datum, second_of_datum}
use Rattle.vme_trace.specs.Bus.{address_number}
use Rattle.vme_trace_laws.specs.Addresses.{CarriesNoData}
use Rattle.vme_legal_traces.specs.Samples.{bit_of}
use Rattle.vme_legal_traces.proofs.Rows.{code_read}

-- what lines show with the address: AM5 to AM0, A31 to A01 and LWORD*
pub record Address : Type 0 where
  pub am : ℕ
  pub number : ℕ
  pub lword : Bool

-- the address of a cycle
abbrev pub address_of : SignalLines → Address
address_of s = record { am = s.am.code; number = address_number s; lword = s.strobes.lword }

-- A31 to A01 and LWORD* as a number
abbrev pub top_of : Address → ℕ
top_of a = a.number + bit_of (level_of a.lword)

-- each datum of a transfer has the address of the first
pub same_address : (t : Transfer) (i : ℕ) → address_of (signals_of t i) ≡ address_of (signals_of t 0)
unfolding signals_of
same_address t i = refl

-- a reply leaves it
answered_address : (s : SignalLines) (bytes : List ℕ) → (address_of (answered s bytes) ≡ address_of s) × ((answered s bytes).am ≡ s.am)
answered_address s bytes = by_len (is_data_len s bytes)
  where
    by_len : (is : Bool) → (address_of (if is then answered_lines s bytes else s) ≡ address_of s) × ((if is then answered_lines s bytes else s).am ≡ s.am)
    by_len true = (refl, refl)
    by_len false = (refl, refl)

-- any reply leaves it
after_address : (s : SignalLines) (reply : Reply) → (address_of (lines_after s reply) ≡ address_of s) × ((lines_after s reply).am ≡ s.am)
after_address s (Bytes datum) = answered_address s datum.items
after_address s Done = (refl, refl)
after_address s Berr = (refl, refl)

-- the first handshake of a datum shows it
pub first_address : (d : TransferredDatum) (reply : Reply) → address_of (first_of_datum d reply).lines ≡ address_of d.signals
first_address d reply = by_phase (has_address_phase d) refl
  where
    by_phase : (phase : Bool) → has_address_phase d ≡ phase → address_of (first_of_datum d reply).lines ≡ address_of d.signals
    by_phase true is = rw is refl
    by_phase false is = rw is (after_address d.signals reply).0

-- a first handshake of a transfer that begins, or of data of at most four bytes, carries no data on the address lines
pub first_plain : (d : TransferredDatum) (reply : Reply) → (d.first || not d.signals.am.wide) ≡ true → CarriesNoData (first_of_datum d reply)
first_plain d reply plain = by_phase (has_address_phase d) refl
  where
    narrow : (first wide : Bool) → (first && wide) ≡ false → (first || not wide) ≡ true → wide ≡ false
    narrow true wide phase plain = phase
    narrow false true phase plain = absurd cc
    narrow false false phase plain = refl

    by_phase : (phase : Bool) → has_address_phase d ≡ phase → CarriesNoData (first_of_datum d reply)
    by_phase true is = rw is (and_false d.signals.am.wide, refl)
      where
        and_false : (b : Bool) → (b && false) ≡ false
        and_false true = refl
        and_false false = refl
    by_phase false is =
        rw is (
          ap (λ (row : CodeRow). row.wide && carries_byte (lines_after d.signals reply)) (after_address d.signals reply).1
              ∙ ap (λ (b : Bool). b && carries_byte (lines_after d.signals reply)) (narrow d.first d.signals.am.wide is plain),
          refl,
        )

-- the write half of a read-modify-write has the code of its read half
half_row : (s : SignalLines) (f : Option Modify) (reply : Reply) (half : SignalLines) → half_by s f reply ≡ Some half → half.am ≡ s.am
half_row s (Some f) (Bytes old) half is = by_len (is_data_len s old.items) (has_len f _) is
  where
    by_len : (fits has : Bool)
        → ((if fits && has then Some (record (answered_lines s (value f old.items)) { write = false }) else None) ≡ Some half) → half.am ≡ s.am
    by_len true true is = ap (λ (h : SignalLines). h.am) (sym (same_Some _ _ is))
    by_len true false is = absurd (cc is)
    by_len false has is = absurd (cc is)
half_row s None (Bytes old) half is = absurd (cc is)
half_row s (Some f) Done half is = absurd (cc is)
half_row s None Done half is = absurd (cc is)
half_row s (Some f) Berr half is = absurd (cc is)
half_row s None Berr half is = absurd (cc is)

-- with data of at most four bytes no second handshake carries data on the address lines
pub second_plain : (d : TransferredDatum) (reply : Reply) (u : Handshake) → d.signals.am.wide ≡ false → second_of_datum d reply ≡ Some u → CarriesNoData u
second_plain d reply u narrow is = by_half (half_of d reply) refl (sym plain ∙ is)
  where
    and_false : (b c : Bool) → c ≡ false → (b && c) ≡ false
    and_false true c h = h
    and_false false c h = refl

    plain : second_of_datum d reply ≡ option_map half_handshake (half_of d reply)
    plain = rw (and_false d.first d.signals.am.wide narrow) refl

    by_half : (found : Option SignalLines) → half_of d reply ≡ found → option_map half_handshake found ≡ Some u → CarriesNoData u
    by_half None found is = absurd (cc is)
    by_half (Some lines) found is =
        let same : half_handshake lines ≡ u = same_Some _ _ is in (
          ap (λ (h : Handshake). h.lines.am.wide && h.carries) (sym same)
              ∙ ap (λ (row : CodeRow). row.wide && true) (half_row d.signals d.function reply lines found)
              ∙ ap (λ (b : Bool). b && true) narrow,
          ap (λ (h : Handshake). h.clears) (sym same),
        )

-- a cycle that no board answers carries no data there
pub alone_plain : (s : SignalLines) → CarriesNoData (unanswered_handshake s)
alone_plain s = (by_wide s.am.wide (carries_byte s), refl)
  where
    by_wide : (wide carries : Bool) → (wide && (carries && not wide)) ≡ false
    by_wide true true = refl
    by_wide true false = refl
    by_wide false carries = refl

-- a code of eight-byte data
pub wide_code : (t : Transfer) → IsLawfulTransfer t → t.am.wide ≡ true → is_wide_code (address_of (signals_of t 0)).am ≡ true
unfolding signals_of
wide_code t lawful wide = ap is_wide_row (code_read t lawful) ∙ wide

-- the row of a datum's signals
pub signals_row : (t : Transfer) (i : ℕ) → (signals_of t i).am ≡ t.am
unfolding signals_of
signals_row t i = refl

-- no address
abbrev pub no_address : Address
no_address = record { am = 0; number = 0; lword = false }
