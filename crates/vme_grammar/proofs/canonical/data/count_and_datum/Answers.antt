-- Two words with a space between.
use Rattle.std.proofs.Common.{sym}
use Rattle.vme_grammar.proofs.Known.{fill_is}
use Rattle.vme_grammar.proofs.canonical.data.count_and_datum.Goals as goal

pub returns : goal.returns
returns c =
    fill_is c.args.n _ c.in_ok-end.end c.args.text.now _ _ c.in_ok-hex.hex.now _ c.split_at.ensures.front c.split_at.ensures.back
    c.in_ok-hex.ensures (sym c.in_ok-count.ensures.value) c.in_ok-bytes.ensures
