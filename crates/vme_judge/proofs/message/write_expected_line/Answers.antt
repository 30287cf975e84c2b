use Rattle.std.specs.Prelude.{◌++◌, codes, string_bytes}
use Rattle.vme_judge.specs.Messages.{expected_line, expected_text}
use Rattle.vme_judge.proofs.Appends.{appended, extended}
use Rattle.vme_judge.proofs.message.write_expected_line.Goals as goal

pub returns : goal.returns
unfolding expected_line
returns c =
    let what = expected_text c.args.finding.now.broken in
    let old = string_bytes c.args.to.now in
    let mid = string_bytes c.push_str.new.self in
    let end = string_bytes c.write_expected.new.to in
    let new = string_bytes c.push_str-2.new.self in
    let call = c.push_str-2.result in
    appended call old mid new (codes "    = expected: ") (what ++ codes "\n") c.in_ok-push_str.ensures.bytes
    (appended call mid end new what (codes "\n") c.in_ok-write_expected.ensures
    (extended call end new (codes "\n") c.push_str-2.ensures.bytes))
