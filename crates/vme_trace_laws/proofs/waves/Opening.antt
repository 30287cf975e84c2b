-- While an answer is low, the lines of the address show what the master drives, in a handshake that opens a cycle.
use Rattle.std.proofs.Common.{◌≡◌, ℕ, Bool, true, false, IsTrue, arith}
use Rattle.std.proofs.lemmas.Bool.{false≢true}
use Rattle.vme_trace.specs.declared.dump.change.Code.{Code}
use Rattle.vme_trace.specs.declared.dump.change.Value.{Value}
use Rattle.vme_trace.specs.declared.dump.change.Value.TheVariants.{Low, Free, Released, Number}
use Rattle.vme_trace.specs.declared.dump.handshake.Handshake.{Handshake}
use Rattle.vme_trace.specs.Changes.{level_of}
use Rattle.vme_trace.specs.Variables.{bus_code}
use Rattle.vme_trace.specs.Handshakes.{edge_of}
use Rattle.vme_trace.specs.Bus.{is_wide, address_number, handshake_changes}
use Rattle.vme_trace_laws.specs.Shown.{line_at, IsAnswer}
use Rattle.vme_trace.specs.Shown.{value_after, value_at}
use Rattle.vme_trace_laws.proofs.waves.Pulses.{pulse, holds}
use Rattle.vme_trace_laws.proofs.waves.Strobes.{answer_within, edge_order}
use Rattle.vme_trace_laws.proofs.waves.Addresses.{modifier_after, address_after, long_word_after, write_after}

-- a variable that takes a value at edge 0 of a handshake that opens a cycle, and gives it up at the end, has it under an answer
stands : (line variable : Code) (shown gone before : Value) (opens : Bool) (t : Handshake) (k : ℕ) → IsTrue opens
    → ((i : ℕ) (v : Value) → value_after variable i (handshake_changes t) v ≡ pulse shown gone opens t.ends 0 (edge_of t 9) i v)
    → IsAnswer line → line_at t line k ≡ Low → value_at variable (handshake_changes t) before k ≡ shown
stands line variable shown gone before true t k opened each answer low =
    holds variable (handshake_changes t) shown gone before t.ends 0 (edge_of t 9) each k (omega arith)
    (omega (arith, (answer_within t line k answer low).1, edge_order t.late 8 9 (omega arith)))
stands line variable shown gone before false t k opened each answer low = absurd (false≢true opened)

-- the address modifier
pub modifier_stands : (t : Handshake) (line : Code) (k : ℕ) (before : Value) → IsTrue t.opens → IsAnswer line → line_at t line k ≡ Low
    → value_at (bus_code 74) (handshake_changes t) before k ≡ Number 6 t.lines.am.code
modifier_stands t line k before opened answer low =
    stands line (bus_code 74) (Number 6 t.lines.am.code) Released before t.opens t k opened (λ i v. modifier_after i t v) answer low

-- A31 to A01
pub address_stands : (t : Handshake) (line : Code) (k : ℕ) (before : Value) → IsTrue t.opens → is_wide t ≡ false → t.clears ≡ false
    → IsAnswer line → line_at t line k ≡ Low → value_at (bus_code 75) (handshake_changes t) before k ≡ Number 32 (address_number t.lines)
address_stands t line k before opened narrow kept answer low =
    stands line (bus_code 75) (Number 32 (address_number t.lines)) Released before t.opens t k opened (λ i v. address_after i t v narrow kept) answer low

-- LWORD*
pub long_word_stands : (t : Handshake) (line : Code) (k : ℕ) (before : Value) → IsTrue t.opens → is_wide t ≡ false → t.clears ≡ false
    → IsAnswer line → line_at t line k ≡ Low → value_at (bus_code 76) (handshake_changes t) before k ≡ level_of t.lines.strobes.lword
long_word_stands t line k before opened narrow kept answer low =
    stands line (bus_code 76) (level_of t.lines.strobes.lword) Free before t.opens t k opened (λ i v. long_word_after i t v narrow kept) answer low

-- WRITE*
pub write_stands : (t : Handshake) (line : Code) (k : ℕ) (before : Value) → IsTrue t.opens → t.falls ≡ false
    → IsAnswer line → line_at t line k ≡ Low → value_at (bus_code 77) (handshake_changes t) before k ≡ level_of t.lines.write
write_stands t line k before opened still answer low =
    stands line (bus_code 77) (level_of t.lines.write) Free before t.opens t k opened (λ i v. write_after i t v still) answer low
