-- Data of transfers as commands to a board.
use Rattle.std.specs.Prelude.{ℕ}
use Rattle.vme_cycle.specs.Lawful.{Transfer}
use Rattle.vme_cycle.specs.Requests.{function_of}
use Rattle.vme_cycle.specs.Plans.{signals_of}
use Rattle.vme_memory.specs.declared.command.BoardCmd.{BoardCmd}
use Rattle.vme_memory.specs.declared.command.BoardCmd.TheVariants as given

-- the cycle of datum i of a transfer at an offset: its signals, and the function of a read-modify-write;
-- IEEE 1014-1987, 2.3.6 (basic data transfer)
abbrev pub datum_cycle : Transfer → ℕ → ℕ → BoardCmd
datum_cycle t i at = given.Cycle (signals_of t i) at (function_of t.request)
