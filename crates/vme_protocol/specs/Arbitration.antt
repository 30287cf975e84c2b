-- The rules of BBSY* and of the grants on the daisy chain.
use Rattle.std.specs.Prelude.{ℕ, ◌/◌, nat_le, nat_lt, Bool, not, ◌==◌, ◌&&◌, ◌||◌, bit_and, bit_or, bit_xor, count_ones}
use Rattle.std.specs.Bool.{beq}
use Rattle.vme_protocol.specs.declared.sample.Sample.{Sample}
use Rattle.vme_protocol.specs.declared.scope.Scope.{Scope}

-- whether two slots drive BBSY*, or BBSY* is not the level that the slots drive; IEEE 1014-1987, 3.2
unfoldable pub two_hold : Scope → Sample → Bool
two_hold scope s =
    scope.drivers && (nat_lt 1 (count_ones s.drivers) || scope.busy_line && not (beq s.busy (s.drivers == 0)))

-- the slots that begin to drive BBSY*
abbrev pub began : Sample → Sample → ℕ
began before after = bit_and after.drivers (bit_xor before.drivers after.drivers)

-- whether a slot begins to drive BBSY* without a request and a grant before; IEEE 1014-1987, 3.3 (arbiter and requesters)
abbrev pub takes_ungranted : Sample → Sample → Bool
takes_ungranted before after = not (bit_and (began before after) (bit_and before.requests before.grants) == began before after)

-- whether a slot begins to drive BBSY* while the grant goes on to a higher slot; IEEE 1014-1987, 3.3 (arbiter and requesters)
abbrev pub passes_grant : Sample → Sample → Bool
passes_grant before after =
    not (began before after == 0) && nat_le (began before after) (bit_or before.grants after.grants / 2)

-- whether a grant begins while BBSY* is low; IEEE 1014-1987, 3.3 (arbiter and requesters)
abbrev pub grants_while_busy : Sample → Sample → Bool
grants_while_busy before after = not (bit_and after.grants (bit_xor before.grants after.grants) == 0) && not after.busy

-- whether a grant and its taking are out of order
unfoldable pub breaks_grants : Scope → Sample → Sample → Bool
breaks_grants scope before after =
    scope.grants && (takes_ungranted before after || passes_grant before after || grants_while_busy before after)
