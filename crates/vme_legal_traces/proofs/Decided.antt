-- Each rule of the control lines is kept.
use Rattle.std.proofs.Common.{◌≡◌, ℕ, true, List, refl}
use Rattle.vme_script.specs.Configurations.{Configuration}
use Rattle.vme_script.specs.Lawful.{IsLawful}
use Rattle.vme_protocol.specs.declared.rule.Rule.{Rule}
use Rattle.vme_protocol.specs.declared.rule.Rule.TheVariants as rules
use Rattle.vme_legal_traces.specs.Samples.{trace_samples}
use Rattle.vme_legal_traces.specs.Kept.{keeps, strict_scope, is_control_rule}
use Rattle.vme_legal_traces.proofs.Order.{falls_decided, rises_decided, lone_decided, alone_decided, under_decided, moves_decided, two_decided, ends_decided}
use Rattle.vme_legal_traces.proofs.Runs.{trace_keeps}
use Rattle.vme_legal_traces.proofs.Held.{trace_held}

module _ (config : Configuration) (lawful : IsLawful config) (slots : List ℕ) (timeout : ℕ) where
  -- the samples of a trace keep each rule of the control lines
  pub control_kept : (rule : Rule) → is_control_rule rule ≡ true → keeps rule (strict_scope timeout) (trace_samples config slots) ≡ true
  control_kept rules.AddressStrobeFalls is = trace_keeps config lawful slots timeout rules.AddressStrobeFalls refl falls_decided
  control_kept rules.AddressStrobeRises is = trace_keeps config lawful slots timeout rules.AddressStrobeRises refl rises_decided
  control_kept rules.LoneStrobe is = trace_keeps config lawful slots timeout rules.LoneStrobe refl lone_decided
  control_kept rules.AnswerAlone is = trace_keeps config lawful slots timeout rules.AnswerAlone refl alone_decided
  control_kept rules.StrobeUnderAnswer is = trace_keeps config lawful slots timeout rules.StrobeUnderAnswer refl under_decided
  control_kept rules.StrobeRises is = trace_keeps config lawful slots timeout rules.StrobeRises refl moves_decided
  control_kept rules.TwoAnswers is = trace_keeps config lawful slots timeout rules.TwoAnswers refl two_decided
  control_kept rules.AnswerRises is = trace_keeps config lawful slots timeout rules.AnswerRises refl ends_decided
  control_kept rules.TwoHolders is = trace_held config lawful slots timeout
  control_kept rules.Undefined is = absurd cc
  control_kept rules.CodeUnknown is = absurd cc
  control_kept rules.AddressChanges is = absurd cc
  control_kept rules.DataChange is = absurd cc
  control_kept rules.Transfer is = absurd cc
  control_kept rules.Grant is = absurd cc
  control_kept rules.Timeout is = absurd cc
  control_kept rules.PortUndefined is = absurd cc
  control_kept rules.BusError is = absurd cc
  control_kept rules.NoBoard is = absurd cc
  control_kept rules.WrongBytes is = absurd cc
  control_kept rules.TornModify is = absurd cc
