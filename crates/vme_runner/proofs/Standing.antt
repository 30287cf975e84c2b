-- The state of a processor's slot on the bus, by the processor's progress.
use Rattle.std.proofs.Common.{◌≡◌, ℕ, List, [], ◌∷◌, ◌++◌, length, drop, Option, None, refl, sym, subst, inl, inr, ◌⊎◌}
use Rattle.std.specs.Prelude.{All}
use Rattle.std.proofs.lemmas.List.Elements.{All-push}
use Rattle.vme_arbiter.specs.declared.command.ArbReply.{ArbReply}
use Rattle.vme_arbiter.specs.Arbitration.{Arbitration}
use Rattle.vme_arbiter.specs.Masters.{MatchesReply}
use Rattle.vme_core.specs.declared.event.EventReply.{EventReply}
use Rattle.vme_core.specs.Calls.{Call}
use Rattle.vme_core.specs.NextSteps.{NextStep, NotStarted, Invokes, Returns}
use Rattle.vme_shared.specs.declared.reply.LineReply.{LineReply}
use Rattle.vme_grammar.specs.declared.line.Line.{Line}
use Rattle.vme_script.specs.Configurations.{Configuration}
use Rattle.vme_line_task.specs.Scripts.{slot_at, lines_at}
use Rattle.vme_line_task.specs.Tables.{line_next}
use Rattle.vme_line_task.specs.Traces.{ScriptState}
use Rattle.vme_line_task.specs.Tenures.{line_arb_reply, IsUndeniedReply, IsGranted}
use Rattle.vme_line_task.proofs.lemmas.Kept.{line_begins, line_ends}
use Rattle.vme_stepper.specs.Turns.{script_state, settled, lines_left}

-- the arbiter's last reply to the next line, if there was one
abbrev pub arb_reply_left : Configuration → ℕ → List Line → List EventReply → Option ArbReply
arb_reply_left config board [] replies = None
arb_reply_left config board (line ∷ lines) replies = line_arb_reply config board line replies

-- a next step that is not the end of a line
abbrev pub NotEnded : NextStep LineReply → Type 0
NotEnded (Returns answer) = ⊥
NotEnded next = Unit {0}

-- the next line has no reply so far, or has not ended
abbrev pub IsOpen : Configuration → ℕ → List Line → List EventReply → Type 0
IsOpen config board [] replies = Unit {0}
IsOpen config board (line ∷ lines) replies = (replies ≡ []) ⊎ NotEnded (line_next config board line replies)

-- the state of a processor's slot on the bus agrees with the replies to its next line; the next line is open, and no
-- line that has ended was denied the bus
pub record ScriptStands (config : Configuration) (bus : Arbitration) (board : ℕ) (c : ScriptState) : Type 0 where
  pub stands : MatchesReply bus (slot_at config board) (arb_reply_left config board (lines_left config board c) c.replies)
  pub opens : IsOpen config board (lines_left config board c) c.replies
  pub granted : All IsGranted c.ended

-- before its first reply, the next line has no reply of the arbiter
pub arb_reply_begins : (config : Configuration) (board : ℕ) (lines : List Line) → arb_reply_left config board lines [] ≡ None
arb_reply_begins config board [] = refl
arb_reply_begins config board (line ∷ lines) = line_begins config board line

-- before its first reply, the next line has not ended
pub opens_begins : (config : Configuration) (board : ℕ) (lines : List Line) → IsOpen config board lines []
opens_begins config board [] = tt
opens_begins config board (line ∷ lines) = inl refl

-- between lines, a slot that neither holds the bus nor waits agrees with the replies
pub rests_standing : (config : Configuration) (bus : Arbitration) (board : ℕ) (ended : List LineReply)
    → MatchesReply bus (slot_at config board) None → All IsGranted ended
    → ScriptStands config bus board (script_state ended [])
rests_standing config bus board ended stands granted =
    let left = drop (length ended) (lines_at config board) in
    record {
      stands = subst (MatchesReply bus (slot_at config board)) (sym (arb_reply_begins config board left)) stands;
      opens = opens_begins config board left;
      granted = granted;
    }

-- an open line whose next step is its end has no reply so far: it made no call
pub ended_begins : (config : Configuration) (board : ℕ) (line : Line) (lines : List Line) (replies : List EventReply) (answer : LineReply)
    → IsOpen config board (line ∷ lines) replies → line_next config board line replies ≡ Returns answer → replies ≡ []
ended_begins config board line lines replies answer (inl none) ends = none
ended_begins config board line lines replies answer (inr goes) ends = absurd (subst NotEnded ends goes)

-- a line that has not ended after a reply still agrees with the replies
goes_on : (config : Configuration) (bus : Arbitration) (board : ℕ) (ended : List LineReply) (replies : List EventReply) (line : Line)
    (rest : List Line) (reply : EventReply) (next : NextStep LineReply) → drop (length ended) (lines_at config board) ≡ line ∷ rest
    → MatchesReply bus (slot_at config board) (line_arb_reply config board line (reply ∷ replies)) → All IsGranted ended
    → line_next config board line (reply ∷ replies) ≡ next → NotEnded next → ScriptStands config bus board (script_state ended (reply ∷ replies))
goes_on config bus board ended replies line rest reply next left stands granted is open_still = record {
  stands = subst (λ (ls : List Line). MatchesReply bus (slot_at config board) (arb_reply_left config board ls (reply ∷ replies))) (sym left) stands;
  opens = subst (λ (ls : List Line). IsOpen config board ls (reply ∷ replies)) (sym left) (inr (subst NotEnded (sym is) open_still));
  granted = granted;
}

-- a processor whose call got a fitting reply that is no denial agrees with the replies, whether its line ends or not
pub settled_stands : (config : Configuration) (bus : Arbitration) (board : ℕ) (ended : List LineReply) (replies : List EventReply) (line : Line)
    (rest : List Line) (call : Call) (reply : EventReply) (next : NextStep LineReply) → drop (length ended) (lines_at config board) ≡ line ∷ rest
    → line_next config board line replies ≡ Invokes call → IsUndeniedReply call reply
    → MatchesReply bus (slot_at config board) (line_arb_reply config board line (reply ∷ replies)) → All IsGranted ended
    → line_next config board line (reply ∷ replies) ≡ next → ScriptStands config bus board (settled ended (reply ∷ replies) next)
settled_stands config bus board ended replies line rest call reply (Returns answer) left made good stands granted is =
    let well = line_ends config board line replies call reply answer made good is in
    rests_standing config bus board (ended ++ answer ∷ []) (well.free bus (slot_at config board) stands)
    (All-push IsGranted ended answer granted well.granted)
settled_stands config bus board ended replies line rest call reply (Invokes other) left made good stands granted is =
    goes_on config bus board ended replies line rest reply (Invokes other) left stands granted is tt
settled_stands config bus board ended replies line rest call reply NotStarted left made good stands granted is =
    goes_on config bus board ended replies line rest reply NotStarted left stands granted is tt
