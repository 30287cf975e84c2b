-- Levels and data lanes, as C has them.
use Rattle.std.specs.Prelude.{ℕ, nat_lt, Bool, if◌then◌else◌, Option, Some, None}

-- the number that the library writes for a level or a switch: 1 is high or on, and 0 is low or off
abbrev pub level_number : Bool → ℕ
level_number level = if level then 1 else 0

-- what a data lane carries: a byte, or nothing if the number is not a byte
abbrev pub lane_of : ℕ → Option ℕ
lane_of n = if nat_lt n 256 then Some n else None

-- the number that the library writes for what a lane carries: its byte, and 0xffff for an idle lane
abbrev pub lane_number : Option ℕ → ℕ
lane_number None = 0xffff
lane_number (Some byte) = byte
