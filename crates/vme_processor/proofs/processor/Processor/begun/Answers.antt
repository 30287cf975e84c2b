-- The transfer of a request is of this request, which reads as few bytes as a buffer holds inline.
use Rattle.std.proofs.Common.{◌≤◌, ap, sym, subst}
use Rattle.vme_cycle.specs.BlockBuffers.{inline_capacity}
use Rattle.vme_cycle.specs.Requests.{read_len}
use Rattle.vme_cycle.proofs.lemmas.Transfers.{comes_from}
use Rattle.vme_processor.proofs.processor.Processor.begun.Goals as goal

pub start_owned-requires : goal.start_owned-requires
start_owned-requires c = λ t lawful.
    subst (λ n. n ≤ inline_capacity) (sym (ap read_len (comes_from c.args.request t lawful).same)) c.requires.short
