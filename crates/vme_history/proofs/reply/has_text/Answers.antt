use Rattle.std.proofs.Common.{length, drop, ap, ◌∙◌, arith}
use Rattle.vme_history.proofs.Replies.{reply_line_is}
use Rattle.vme_history.proofs.reply.has_text.Goals as goal

pub split_at-requires : goal.split_at-requires
split_at-requires c =
    omega (
      arith,
      ap length (c.as_slice.ensures.value ∙ reply_line_is _ c.reply_line.new.text.items c.args.reply.now c.new-line.ensures.items c.in_ok-reply_line.ensures.text),
    )

pub returns : goal.returns
returns c =
    c.is_line_of.ensures _
    (c.split_at.ensures.back
    ∙ ap (λ bytes. drop 4 bytes)
    (c.as_slice.ensures.value ∙ reply_line_is _ c.reply_line.new.text.items c.args.reply.now c.new-line.ensures.items c.in_ok-reply_line.ensures.text))
