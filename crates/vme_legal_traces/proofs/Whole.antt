-- Our own traces are legal: they keep each rule.
use Rattle.std.proofs.Common.{◌≡◌, ℕ, ◌≤◌, true, false, List, [], ◌∷◌, refl}
use Rattle.vme_script.specs.Configurations.{Configuration}
use Rattle.vme_script.specs.Lawful.{IsLawful}
use Rattle.vme_protocol.specs.declared.sample.Sample.{Sample}
use Rattle.vme_protocol.specs.declared.scope.Scope.{Scope}
use Rattle.vme_protocol.specs.declared.rule.Rule.{Rule}
use Rattle.vme_protocol.specs.declared.rule.Rule.TheVariants as rules
use Rattle.vme_protocol.specs.declared.watch.Watch.{Watch}
use Rattle.vme_protocol.specs.declared.verdict.Verdict.TheVariants.{Legal}
use Rattle.vme_protocol.specs.Watching.{started, watched}
use Rattle.vme_protocol.specs.Verdicts.{verdict}
use Rattle.vme_legal_traces.specs.Samples.{trace_samples}
use Rattle.vme_legal_traces.specs.Kept.{breaks, keeps_after, keeps, strict_scope, HasBoardsInOrder}
use Rattle.vme_legal_traces.proofs.Each.{kept_both, legal}
use Rattle.vme_legal_traces.proofs.Decided.{control_kept}
use Rattle.vme_legal_traces.proofs.Coded.{trace_coded}
use Rattle.vme_legal_traces.proofs.Unchanged.{trace_unchanged}
use Rattle.vme_legal_traces.proofs.Unmoved.{trace_unmoved}
use Rattle.vme_legal_traces.proofs.Placed.{trace_placed}
use Rattle.vme_legal_traces.proofs.Granted.{trace_granted}
use Rattle.vme_legal_traces.proofs.Timely.{trace_timely}

module _ (rule : Rule) (never : (w : Watch) (s : Sample) → breaks rule w s ≡ false) where
  -- a rule that no sample breaks
  unbroken_after : (w : Watch) (samples : List Sample) → keeps_after rule w samples ≡ true
  unbroken_after w [] = refl
  unbroken_after w (s ∷ samples) = kept_both (breaks rule w s) (keeps_after rule (watched w s) samples) (never w s) (unbroken_after (watched w s) samples)

  -- a rule that a trace keeps
  unbroken : (scope : Scope) (samples : List Sample) → keeps rule scope samples ≡ true
  unbroken scope [] = refl
  unbroken scope (s ∷ samples) = unbroken_after (started scope s) samples

module _ (config : Configuration) (lawful : IsLawful config) (order : HasBoardsInOrder config) (slots : List ℕ) (timeout : ℕ) (most : 10 ≤ timeout) where
  -- the scope, and the samples
  abbrev Keeps : Rule → Type 0
  Keeps rule = keeps rule (strict_scope timeout) (trace_samples config slots) ≡ true

  -- each rule is kept
  each_kept : (rule : Rule) → Keeps rule
  each_kept rules.AddressStrobeFalls = control_kept config lawful slots timeout rules.AddressStrobeFalls refl
  each_kept rules.AddressStrobeRises = control_kept config lawful slots timeout rules.AddressStrobeRises refl
  each_kept rules.LoneStrobe = control_kept config lawful slots timeout rules.LoneStrobe refl
  each_kept rules.AnswerAlone = control_kept config lawful slots timeout rules.AnswerAlone refl
  each_kept rules.StrobeUnderAnswer = control_kept config lawful slots timeout rules.StrobeUnderAnswer refl
  each_kept rules.StrobeRises = control_kept config lawful slots timeout rules.StrobeRises refl
  each_kept rules.TwoAnswers = control_kept config lawful slots timeout rules.TwoAnswers refl
  each_kept rules.AnswerRises = control_kept config lawful slots timeout rules.AnswerRises refl
  each_kept rules.TwoHolders = control_kept config lawful slots timeout rules.TwoHolders refl
  each_kept rules.Grant = trace_granted config lawful order slots timeout
  each_kept rules.Timeout = trace_timely config slots timeout most
  each_kept rules.Undefined = trace_placed config lawful slots timeout true
  each_kept rules.CodeUnknown = trace_coded config lawful slots timeout
  each_kept rules.AddressChanges = trace_unmoved config lawful slots timeout
  each_kept rules.DataChange = trace_unchanged config lawful slots timeout
  each_kept rules.Transfer = trace_placed config lawful slots timeout false
  each_kept rules.PortUndefined = unbroken rules.PortUndefined (λ w s. refl) (strict_scope timeout) (trace_samples config slots)
  each_kept rules.BusError = unbroken rules.BusError (λ w s. refl) (strict_scope timeout) (trace_samples config slots)
  each_kept rules.NoBoard = unbroken rules.NoBoard (λ w s. refl) (strict_scope timeout) (trace_samples config slots)
  each_kept rules.WrongBytes = unbroken rules.WrongBytes (λ w s. refl) (strict_scope timeout) (trace_samples config slots)
  each_kept rules.TornModify = unbroken rules.TornModify (λ w s. refl) (strict_scope timeout) (trace_samples config slots)

  -- the trace is legal
  pub whole_legal : verdict (strict_scope timeout) (trace_samples config slots) ≡ Legal
  whole_legal = legal (strict_scope timeout) (trace_samples config slots) each_kept
