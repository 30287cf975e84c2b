use Rattle.std.proofs.Common.{ap, length, drop, ◌∙◌, arith}
use Rattle.vme_serve.proofs.Printing.{printed, reply_printed, on_ok}
use Rattle.vme_serve.proofs.service.print_reply.Goals as goal

pub split_at-requires : goal.split_at-requires
split_at-requires c =
    omega (
      arith,
      ap length (c.as_slice.ensures.value ∙ printed c.clear.new.self.items c.reply_line.new.text.items c.args.reply.now c.clear.ensures.items
          c.in_ok-reply_line.ensures.text),
    )

pub returns-clause-text : goal.returns-clause-text
returns-clause-text c =
    on_ok c.extend_from_slice.result c.extend_from_slice.new.self.items _ c.args.text.now.items
    (rw (reply_printed c.clear.new.self.items c.reply_line.new.text.items c.split_at.result.1.now c.args.reply.now c.clear.ensures.items
    c.in_ok-reply_line.ensures.text (c.split_at.ensures.back ∙ ap (λ bytes. drop 4 bytes) c.as_slice.ensures.value)) at c.extend_from_slice.ensures.items)
