use Rattle.std.specs.Prelude.{codes, string_bytes}
use Rattle.vme_judge.specs.Messages.{known_text, memory_text}
use Rattle.vme_judge.proofs.Appends.{appended}
use Rattle.vme_judge.proofs.title.write_memory.Goals as goal

pub returns : goal.returns
unfolding memory_text
returns c =
    appended c.write_known.result (string_bytes c.args.to.now) (string_bytes c.push_str.new.self) (string_bytes c.write_known.new.to)
    (codes ", where its memory has ") (known_text c.args.wrong.now) c.in_ok-push_str.ensures.bytes c.write_known.ensures
