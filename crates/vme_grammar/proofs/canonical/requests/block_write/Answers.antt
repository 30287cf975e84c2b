-- The bytes of the block are those that the last word spells.
use Rattle.vme_grammar.proofs.Forms.{block_write_asked}
use Rattle.vme_grammar.proofs.canonical.requests.block_write.Goals as goal

pub returns : goal.returns
returns c = block_write_asked c.args.text.now _ _ _ _ _ _ _ c.in_ok-am.ensures c.in_ok-n.ensures c.in_ok-hex_bytes.ensures c.from_short_slice-bytes.ensures
