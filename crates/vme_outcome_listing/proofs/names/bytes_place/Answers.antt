use Rattle.std.proofs.Common.{arith}
use Rattle.vme_outcome_listing.proofs.Claims.{memory_size}
use Rattle.vme_outcome_listing.proofs.names.bytes_place.Goals as goal

pub returns : goal.returns
returns c = (
  c.in-Some-board_in.ensures.slot,
  λ one found.
      omega (
        arith,
        memory_size c.args.config.now.boards c.in-Some-board_in.board c.in-Ok.memory one c.in-Ok.ensures found,
        c.size-size.ensures.value,
        c.if-size-offset.false,
        c.if-size-offset-2.false,
      ),
)
