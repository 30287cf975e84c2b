use Rattle.std.proofs.Common.{◌≡◌, ◌++◌, drop}
use Rattle.std.specs.Prelude.{slice_get, Some}
use Rattle.vme_report.specs.Texts.{replies_text}
use Rattle.vme_states.specs.BareStates.{BareScript}
use Rattle.vme_stepper.specs.Reports.{numbered_replies}
use Rattle.vme_outcome_listing.proofs.text.append_script.Given as goal

-- the text so far, with that of the lines that are left, is the whole text
abbrev pub invariant-loop-line : goal.invariant-loop-line
invariant-loop-line l =
    (c : BareScript) → slice_get l.state.script_states l.board ≡ Some c
    → l.text.items ++ replies_text l.slot (numbered_replies (drop l.line l.script) (drop l.line c.ended))
    ≡ l.fn.text.items ++ replies_text l.slot (numbered_replies l.script c.ended)
