-- The rules that samples keep, each by itself.
use Rattle.std.specs.Prelude.{ℕ, ◌≤◌, ◌<◌, Bool, true, false, not, ◌&&◌, List, [], ◌∷◌, length}
use Rattle.vme_script.specs.Configurations.{Configuration}
use Rattle.vme_line_task.specs.Scripts.{slot_at}
use Rattle.vme_protocol.specs.declared.sample.Sample.{Sample}
use Rattle.vme_protocol.specs.declared.scope.Mode.TheVariants.{Model}
use Rattle.vme_protocol.specs.declared.scope.Scope.{Scope}
use Rattle.vme_protocol.specs.declared.rule.Rule.{Rule}
use Rattle.vme_protocol.specs.declared.rule.Rule.TheVariants as rules
use Rattle.vme_protocol.specs.declared.watch.Watch.{Watch}
use Rattle.vme_protocol.specs.Arbitration.{two_hold, breaks_grants}
use Rattle.vme_protocol.specs.Order.{is_undefined, falls_early, rises_early, address_changes}
use Rattle.vme_protocol.specs.Exchange.{has_lone_strobe, data_change, answers_alone, falls_under_answer, moves_unanswered, has_two_answers, answer_rises_early, is_late, has_no_row, misplaces}
use Rattle.vme_protocol.specs.Watching.{started, current, watched}

-- whether a sample breaks a rule, whatever others it breaks; J17 and the rules of boards are not judged by samples of the bus
abbrev pub breaks : Rule → Watch → Sample → Bool
breaks rules.Undefined w s = is_undefined w (current w s) s
breaks rules.CodeUnknown w s = has_no_row w (current w s) s
breaks rules.AddressStrobeFalls w s = falls_early w s
breaks rules.AddressStrobeRises w s = rises_early w (current w s) s
breaks rules.AddressChanges w s = address_changes w (current w s) s
breaks rules.LoneStrobe w s = has_lone_strobe w s
breaks rules.DataChange w s = data_change w (current w s) s
breaks rules.AnswerAlone w s = answers_alone w s
breaks rules.StrobeUnderAnswer w s = falls_under_answer w s
breaks rules.StrobeRises w s = moves_unanswered w s
breaks rules.TwoAnswers w s = has_two_answers s
breaks rules.AnswerRises w s = answer_rises_early w s
breaks rules.Transfer w s = misplaces w (current w s) s
breaks rules.TwoHolders w s = two_hold w.scope s
breaks rules.Grant w s = breaks_grants w.scope w.last s
breaks rules.Timeout w s = is_late w s
breaks rule w s = false

-- whether no sample of some breaks a rule, by what is remembered before them
abbrev pub keeps_after : Rule → Watch → List Sample → Bool
keeps_after rule w [] = true
keeps_after rule w (s ∷ samples) = not (breaks rule w s) && keeps_after rule (watched w s) samples

-- whether no sample of a trace breaks a rule
abbrev pub keeps : Rule → Scope → List Sample → Bool
keeps rule scope [] = true
keeps rule scope (s ∷ samples) = keeps_after rule (started scope s) samples

-- the rules of the standard and of the model, of all lines and all codes; an answer has to come within so many units of time
abbrev pub strict_scope : ℕ → Scope
strict_scope timeout = record {
  mode = Model;
  busy = true;
  drivers = true;
  busy_line = true;
  grants = true;
  ignored = 0;
  timeout = timeout;
}

-- the boards of a configuration stand in order of slots
abbrev pub HasBoardsInOrder : Configuration → Type 0
HasBoardsInOrder config = (a b : ℕ) → a ≤ b → b < length config.boards → slot_at config a ≤ slot_at config b

-- the rules of the control lines that our own traces are proved to keep: AS*, data strobes, answers and BBSY*; J3, J4, J6,
-- J8 to J12 and J14
abbrev pub is_control_rule : Rule → Bool
is_control_rule rules.AddressStrobeFalls = true
is_control_rule rules.AddressStrobeRises = true
is_control_rule rules.LoneStrobe = true
is_control_rule rules.AnswerAlone = true
is_control_rule rules.StrobeUnderAnswer = true
is_control_rule rules.StrobeRises = true
is_control_rule rules.TwoAnswers = true
is_control_rule rules.AnswerRises = true
is_control_rule rules.TwoHolders = true
is_control_rule rule = false
