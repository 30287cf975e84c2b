-- The transfer that is open after some events: it has begun, and has not ended.
use Rattle.std.specs.Prelude.{ℕ, Bool, if◌then◌else◌, List, [], ◌∷◌, Option, Some, None, is_some}
use Rattle.vme_cycle.specs.Lawful.{Transfer}
use Rattle.vme_trace.specs.declared.observation.Observation.{Observation}
use Rattle.vme_trace.specs.Handshakes.{first_handshake}
use Rattle.vme_trace.specs.Slots.{has_ended}

-- whether an event has a handshake
abbrev pub has_handshake : Observation → Bool
has_handshake o = is_some (first_handshake o.activity o.reply)

-- the board whose processor has a transfer open after an event, if one has
abbrev pub open_after : Option ℕ → Observation → Option ℕ
open_after before o = if has_handshake o then (if has_ended o then None else Some o.board) else before

-- the same after some events
abbrev pub open_after_all : Option ℕ → List Observation → Option ℕ
open_after_all before [] = before
open_after_all before (o ∷ events) = open_after_all (open_after before o) events

-- the board whose processor has a transfer open after the first events of a run, if one has
abbrev pub open_transfer : List Observation → Option ℕ
open_transfer events = open_after_all None events

-- the board whose transfer an event that follows the first events of a run belongs to: its own, if it has a handshake, and else
-- that of the open transfer, if there is one
abbrev pub transfer_board : List Observation → Observation → Option ℕ
transfer_board events o = if has_handshake o then Some o.board else open_transfer events

-- a transfer that has begun and has not ended: the board of its processor, the transfer, and the number of data that it has moved
pub record OpenTransfer : Type 0 where
  pub board : ℕ
  pub transfer : Transfer
  pub moved : ℕ

-- the same from its parts
abbrev pub open_at : ℕ → Transfer → ℕ → OpenTransfer
open_at board transfer moved = record { board = board; transfer = transfer; moved = moved }
