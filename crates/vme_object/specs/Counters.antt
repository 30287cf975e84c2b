-- The step of a counter.
use Rattle.std.specs.Prelude.{ℕ, ◌+◌, ◌%◌, ◌^◌}
use Rattle.vme_object.specs.declared.counter.Counter.{Counter}
use Rattle.vme_object.specs.declared.counter.CounterCmd.{CounterCmd}
use Rattle.vme_object.specs.declared.counter.CounterCmd.TheVariants.{Bump, Show}

-- the counter after a command, and the reply: the number before the command
abbrev pub count_step : Counter → CounterCmd → Counter × ℕ
count_step c Bump = (record { number = (c.number + 1) % 2 ^ 64 }, c.number)
count_step c Show = (c, c.number)
