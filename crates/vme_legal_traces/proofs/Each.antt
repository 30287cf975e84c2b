-- A trace that keeps each rule is legal.
use Rattle.std.proofs.Common.{◌≡◌, ℕ, ◌+◌, Bool, true, false, not, ◌&&◌, List, [], ◌∷◌, None, refl, IsTrue}
use Rattle.vme_protocol.specs.declared.sample.Sample.{Sample}
use Rattle.vme_protocol.specs.declared.scope.Scope.{Scope}
use Rattle.vme_protocol.specs.declared.rule.Rule.{Rule}
use Rattle.vme_protocol.specs.declared.rule.Rule.TheVariants as rules
use Rattle.vme_protocol.specs.declared.watch.Watch.{Watch}
use Rattle.vme_protocol.specs.declared.verdict.Verdict.TheVariants.{Legal}
use Rattle.vme_protocol.specs.Watching.{started, watched, current, lines_tests, handshake_tests, transfer_tests, lines_broken, handshake_broken, transfer_broken, broken}
use Rattle.vme_protocol.specs.Verdicts.{verdict_after, verdict}
use Rattle.vme_legal_traces.specs.Kept.{breaks, keeps_after, keeps}

-- a test that fails, and what follows
pub kept_parts : (broken rest : Bool) → (not broken && rest) ≡ true → (broken ≡ false) × (rest ≡ true)
kept_parts false rest h = (refl, h)
kept_parts true rest h = absurd cc

-- a test that fails, and what follows, together
pub kept_both : (broken rest : Bool) → broken ≡ false → rest ≡ true → (not broken && rest) ≡ true
kept_both false rest h k = k
kept_both true rest h k = absurd cc

module _ (w : Watch) (s : Sample) (each : (rule : Rule) → breaks rule w s ≡ false) where
  -- no test of the lines holds
  no_lines : lines_broken w (current w s) s ≡ None
  unfolding lines_broken lines_tests
  no_lines =
      rw (each rules.Undefined, each rules.TwoHolders, each rules.Grant, each rules.AddressStrobeFalls, each rules.AddressStrobeRises, each rules.AddressChanges) refl

  -- no test of a handshake holds
  no_handshake : handshake_broken w (current w s) s ≡ None
  unfolding handshake_broken handshake_tests
  no_handshake =
      rw (
        each rules.LoneStrobe,
        each rules.DataChange,
        each rules.AnswerAlone,
        each rules.StrobeUnderAnswer,
        each rules.StrobeRises,
        each rules.TwoAnswers,
        each rules.AnswerRises,
        each rules.Timeout,
      ) refl

  -- no test of a transfer holds
  no_transfer : transfer_broken w (current w s) s ≡ None
  unfolding transfer_broken transfer_tests
  no_transfer = rw (each rules.CodeUnknown, each rules.Transfer) refl

  -- the sample breaks no rule
  none_broken : broken w s ≡ None
  unfolding broken
  none_broken = rw (no_lines, no_handshake, no_transfer) refl

-- the verdict on samples that keep each rule
legal_after : (w : Watch) (samples : List Sample) (n : ℕ) → ((rule : Rule) → keeps_after rule w samples ≡ true) → verdict_after w samples n ≡ Legal
legal_after w [] n each = refl
legal_after w (s ∷ samples) n each =
    let here = none_broken w s (λ rule. (kept_parts (breaks rule w s) (keeps_after rule (watched w s) samples) (each rule)).0) in
    rw here (legal_after (watched w s) samples (n + 1) (λ rule. (kept_parts (breaks rule w s) (keeps_after rule (watched w s) samples) (each rule)).1))

-- a trace that keeps each rule is legal
pub legal : (scope : Scope) (samples : List Sample) → ((rule : Rule) → IsTrue (keeps rule scope samples)) → verdict scope samples ≡ Legal
unfolding verdict
legal scope [] each = refl
legal scope (s ∷ samples) each = legal_after (started scope s) samples 1 each
