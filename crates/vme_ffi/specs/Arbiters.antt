-- The state and the replies of an arbiter, as C has them.
use Rattle.std.specs.Prelude.{◌≡◌, ℕ, if◌then◌else◌, map, is_some, Option, Some, None}
use Rattle.std.specs.Option.{option_map_or}
use Rattle.vme_arbiter.specs.declared.command.ArbReply.{ArbReply}
use Rattle.vme_arbiter.specs.declared.command.ArbReply.TheVariants.{Granted, Waiting, Freed, Denied}
use Rattle.vme_arbiter.specs.declared.kind.ArbiterKind.{ArbiterKind}
use Rattle.vme_arbiter.specs.declared.kind.ArbiterKind.TheVariants.{Priority, Rotating}
use Rattle.vme_arbiter.specs.declared.state.ArbiterState.{ArbiterState}
use Rattle.vme_arbiter.specs.Arbitration.{Arbitration}
use Rattle.vme_arbiter.specs.States.{bus_from_state}
use Rattle.vme_ffi.specs.declared.arbiter.VmeArbiter.{VmeArbiter}
use Rattle.vme_c_types.specs.Boards.{kind_of}
use Rattle.vme_c_types.specs.Data.{level_of}
use Rattle.vme_ffi.specs.Data.{level_number, lane_of, lane_number}

-- the number that the library writes for a kind of arbiter
abbrev pub kind_number : ArbiterKind → ℕ
kind_number Priority = 0
kind_number Rotating = 1

-- the number of an arbiter's reply
abbrev pub reply_number : ArbReply → ℕ
reply_number Granted = 1
reply_number Waiting = 2
reply_number Freed = 3
reply_number Denied = 4

-- the state of an arbiter as plain data
abbrev pub state_of : VmeArbiter → ArbiterState
state_of v = record {
  kind = kind_of v.kind;
  first = v.first;
  holder = if level_of v.held then Some v.holder else None;
  levels = map lane_of v.levels;
}

-- the state of the arbitration bus that a struct stands for, if its levels are in range
abbrev pub bus_of : VmeArbiter → Option Arbitration
bus_of v = bus_from_state (state_of v)

-- the struct that the library writes for the state of an arbiter: `kind` and `held` are 0 or 1, the holder of a free bus
-- is 0, and the level of a slot without a pending request is 0xffff
abbrev pub state_struct : ArbiterState → VmeArbiter
state_struct s = record {
  kind = kind_number s.kind;
  first = s.first;
  held = level_number (is_some s.holder);
  holder = option_map_or (λ slot. slot) s.holder 0;
  levels = map lane_number s.levels;
}

-- a struct is the one that the library writes for what it stands for
abbrev pub Exact : VmeArbiter → Type 0
Exact v = v ≡ state_struct (state_of v)

-- what a reply writes to the state: nothing if the command is denied, and otherwise the exact struct of the new state
abbrev pub WritesState : ArbReply → VmeArbiter → VmeArbiter → Type 0
WritesState Granted old new = Exact new
WritesState Waiting old new = Exact new
WritesState Freed old new = Exact new
WritesState Denied old new = new ≡ old
