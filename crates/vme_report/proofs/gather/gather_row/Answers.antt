-- A row that is all zero has no text.
use Rattle.std.proofs.Common.{◌≡◌, [], ◌++◌, take, drop, ap, ◌∙◌}
use Rattle.std.proofs.lemmas.List.{append-nil}
use Rattle.vme_io.proofs.lemmas.Appending.{Appends-none}
use Rattle.vme_report.specs.Texts.{row_text}
use Rattle.vme_report.proofs.FirstParts.{blank_row}
use Rattle.vme_report.proofs.gather.gather_row.Goals as goal

pub returns-then-is_blank_row-clause-gathers : goal.returns-then-is_blank_row-clause-gathers
returns-then-is_blank_row-clause-gathers g c =
    let own = take 16 (drop c.args.offset c.args.memory.now.bytes) in
    let none : row_text c.args.slot c.args.offset own ≡ [] =
    blank_row c.args.slot c.args.offset own (c.is_blank_row.ensures c.if-is_blank_row.true) in
    record {
      prefix = [];
      appends = Appends-none _;
      split = ap (λ text. c.args.text.now.items ++ text) none ∙ append-nil _;
    }
