-- How long a processor has waited for the bus, and how that changes when it waits, gets the bus and releases it.
use Rattle.std.specs.Prelude.{ℕ, ◌+◌, ◌-◌, ◌^◌, ◌==◌, ◌&&◌, Bool, true, false, nat_lt, nat_le, min, if◌then◌else◌, vec_len}
use Rattle.std.specs.Int.{is_power_of_two}
use Rattle.vme_bus_wait.specs.declared.wait_state.WaitState.{WaitState}
use Rattle.vme_bus_wait.specs.declared.waiters.BusWaiters.{BusWaiters}

-- the number of processors that share the bus
abbrev pub processors_of : BusWaiters → ℕ
processors_of waiters = vec_len waiters.sleepers

-- the number of rounds of the present wait; 0 for a processor that does not wait
abbrev pub rounds_of : WaitState → ℕ
rounds_of state = state.rounds

-- the number of rounds since the last one in which the bus was released
abbrev pub still_rounds_of : WaitState → ℕ
still_rounds_of state = state.still

-- whether the processor waited for the bus that it has now
abbrev pub has_waited : WaitState → Bool
has_waited state = state.has_waited

-- a count of rounds plus one, at most the greatest number of 32 bits
abbrev pub one_more : ℕ → ℕ
one_more n = min (n + 1) (2 ^ 32 - 1)

-- a processor that does not wait, and whether it waited for the bus that it has now
abbrev pub at_rest : Bool → WaitState
at_rest waited = record { rounds = 0; still = 0; has_waited = waited }

-- the processor in one more round
abbrev pub in_next_round : WaitState → WaitState
in_next_round state = record state { rounds = one_more (rounds_of state) }

-- the processor after a round in which the bus was released
abbrev pub after_release : WaitState → WaitState
after_release state = record state { still = 0 }

-- the processor after a round in which the bus was not released
abbrev pub after_no_release : WaitState → WaitState
after_no_release state = record state { still = one_more (still_rounds_of state) }

-- whether the sleepers are to be woken: after 8, 16, 32, .. rounds without a release
abbrev pub is_time_to_wake : ℕ → Bool
is_time_to_wake still = nat_le 8 still && is_power_of_two still

-- whether a processor may sleep while another waits awake: it waited for over 16 rounds, with a release in the last one
abbrev pub may_sleep : WaitState → Bool
may_sleep state = nat_lt 16 (rounds_of state) && (still_rounds_of state == 0)

-- whether a processor may sleep although no other waits awake: the bus was not released in the last 64 rounds
abbrev pub may_sleep_as_last : WaitState → Bool
may_sleep_as_last state = nat_le 64 (still_rounds_of state)

-- the processor after it got the bus
abbrev pub granted : WaitState → WaitState
granted state = if rounds_of state == 0 then state else at_rest true

-- one of so many processors after it released the bus; one that is alone never waits
abbrev pub released : ℕ → WaitState → WaitState
released count state = if nat_lt count 2 then state else record state { has_waited = false }
