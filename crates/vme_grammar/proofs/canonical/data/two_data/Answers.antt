-- Two words with a space between.
use Rattle.vme_grammar.proofs.Known.{data_are}
use Rattle.vme_grammar.proofs.canonical.data.two_data.Goals as goal

pub returns : goal.returns
returns c =
    data_are c.args.n _ c.args.text.now _ _ c.in_ok-second.second.now _ _ c.in_ok-first.ensures.cases.1 c.in_ok-first.ensures.cases.2
    c.in_ok-second.ensures c.in_ok-expect.ensures c.in_ok-put.ensures
