use Rattle.std.proofs.Common.{◌<◌, ◌≤◌, length, arith}
use Rattle.std.specs.Prelude.{option_copied}
use Rattle.vme_outcome_listing.proofs.Places.{reply_there, no_reply}
use Rattle.vme_outcome_listing.proofs.place.reply_in.Goals as goal

pub returns-then-processors-board : goal.returns-then-processors-board
returns-then-processors-board c =
    let past : length c.args.state.now.script_states ≤ c.args.board = omega (arith, c.if-processors-board.true, c.processors.ensures) in
    no_reply c.args.state.now.script_states c.args.board c.args.line past

pub returns : goal.returns
returns c =
    let less : c.args.board < length c.args.state.now.script_states = omega (arith, c.if-processors-board.false, c.processors.ensures) in
    reply_there c.args.state.now.script_states c.args.board c.args.line (option_copied c.reply.result) less c.reply.ensures
