-- Histories of the arbiter: the slots of commands, the state of a slot by its replies, and masters that follow the
-- replies.
use Rattle.std.specs.Prelude.{◌≡◌, ◌<◌, ℕ, Bool, true, false, ◌==◌, ◌&&◌, ◌⊎◌, IsTrue, List, [], ◌∷◌, ◌++◌, Option, Some, None, All}
use Rattle.vme_object.specs.declared.history.Entry.{Entry}
use Rattle.vme_object.specs.History.{own}
use Rattle.vme_arbiter.specs.declared.command.ArbCmd.{ArbCmd}
use Rattle.vme_arbiter.specs.declared.command.ArbCmd.TheVariants.{Ask, Look, Done}
use Rattle.vme_arbiter.specs.declared.command.ArbReply.{ArbReply}
use Rattle.vme_arbiter.specs.declared.command.ArbReply.TheVariants.{Granted, Waiting, Freed, Denied}
use Rattle.vme_arbiter.specs.Requests.{is_slot, is_level}
use Rattle.vme_arbiter.specs.Arbitration.{Arbitration, holds, pends}

-- the slot of a command
abbrev pub slot_of : ArbCmd → ℕ
slot_of (Ask slot level) = slot
slot_of (Look slot) = slot
slot_of (Done slot) = slot

-- an entry whose reply frees a slot
abbrev pub Frees : ℕ → Entry ArbCmd ArbReply → Type 0
Frees slot e = (slot_of e.cmd ≡ slot) × (e.reply ≡ Freed)

-- a slot has the bus at the end of a history: it has a reply Granted and no later Freed
pub record HasTheBus (slot : ℕ) (h : List (Entry ArbCmd ArbReply)) : Type 0 where
  pub before : List (Entry ArbCmd ArbReply)
  pub replied : Entry ArbCmd ArbReply
  pub since : List (Entry ArbCmd ArbReply)
  pub whole : h ≡ before ++ replied ∷ since
  pub names : slot_of replied.cmd ≡ slot
  pub granted : replied.reply ≡ Granted
  pub kept : All (λ e. Frees slot e → ⊥) since

-- whether a slot holds and whether it waits match its last reply: Granted, it holds; Waiting, it holds or waits; Freed
-- or none, neither; Denied is excluded
abbrev pub IsAsReplied : Bool → Bool → Option ArbReply → Type 0
IsAsReplied held pending (Some Granted) = held ≡ true
IsAsReplied held pending (Some Waiting) = (held ≡ true) ⊎ (pending ≡ true)
IsAsReplied held pending (Some Freed) = (held ≡ false) × (pending ≡ false)
IsAsReplied held pending None = (held ≡ false) × (pending ≡ false)
IsAsReplied held pending (Some Denied) = ⊥

-- a slot holds the bus or waits as its last reply states
abbrev pub MatchesReply : Arbitration → ℕ → Option ArbReply → Type 0
MatchesReply bus slot last = IsAsReplied (holds bus slot) (pends bus slot) last

-- whether the master of a slot may give a command after its last reply: a request after none or Freed, a check after
-- Waiting, and a release after Granted
abbrev pub may_give : ℕ → Option ArbReply → ArbCmd → Bool
may_give slot None (Ask s level) = s == slot && is_level level
may_give slot (Some Freed) (Ask s level) = s == slot && is_level level
may_give slot (Some Waiting) (Look s) = s == slot
may_give slot (Some Granted) (Done s) = s == slot
may_give slot last cmd = false

-- the master of a slot follows the replies: each of its commands is allowed after the reply before it
abbrev pub SlotFollowsReplies : ℕ → Option ArbReply → List (Entry ArbCmd ArbReply) → Type 0
SlotFollowsReplies slot last [] = Unit {0}
SlotFollowsReplies slot last (e ∷ h) = IsTrue (may_give slot last e.cmd) × SlotFollowsReplies slot (Some e.reply) h

-- the callers 0 to k - 1 are masters, each with a slot of its own, and each follows its replies
pub record FollowReplies (k : ℕ) (slots : ℕ → ℕ) (h : List (Entry ArbCmd ArbReply)) : Type 0 where
  pub in_range : (who : ℕ) → who < k → IsTrue (is_slot (slots who))
  pub apart : (v w : ℕ) → v < k → w < k → slots v ≡ slots w → v ≡ w
  pub known : All (λ e. e.who < k) h
  pub each : (who : ℕ) → who < k → SlotFollowsReplies (slots who) None (own who h)
