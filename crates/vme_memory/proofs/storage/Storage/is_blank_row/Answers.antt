-- Four words of which no bit is set are sixteen zero bytes.
use Rattle.std.proofs.Common.{take, drop, sym, ap, ◌∙◌, arith}
use Rattle.std.proofs.lemmas.Bool.{eqb-true}
use Rattle.vme_memory.specs.Boards.{zeros}
use Rattle.vme_memory.proofs.Words.{blank_row}
use Rattle.vme_memory.proofs.storage.Storage.is_blank_row.Goals as goal

pub returns : goal.returns
unfolding zeros
returns c = λ blank.
    ap (λ bytes. take 16 (drop c.args.offset bytes)) (sym c.self.view_is)
    ∙ blank_row c.self.inside.words.items c.args.offset c.index.result.now c.index-2.result.now c.index-3.result.now c.index-4.result.now c.requires
    (omega (arith, c.if-len-first.false, c.len.ensures)) c.index.ensures c.index-2.ensures c.index-3.ensures c.index-4.ensures
    (eqb-true _ _ blank)
