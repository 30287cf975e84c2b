-- The parts of a report, one after another.
use Rattle.std.proofs.Common.{◌≡◌, [], rules}
use Rattle.vme_io.specs.Prefixes.{AppendsPrefix}
use Rattle.vme_report.specs.Reports.{report_text}
use Rattle.vme_report.proofs.Reports.{replies_reported, counts_reported, memory_reported, replies_cut, counts_cut, memory_cut}
use Rattle.vme_io.proofs.lemmas.Gathering.{so_far_written, so_far_unwritten}
use Rattle.vme_report.proofs.report.write_report.Goals as goal

pub returns-in_err-gather_boards-clause-prefix : goal.returns-in_err-gather_boards-clause-prefix
returns-in_err-gather_boards-clause-prefix g c =
    let none : c.in_ok-text.text.items ≡ [] = search rules in
    let prefix : AppendsPrefix (g.W.Sink.contents c.args.writer.now) (g.W.Sink.contents c.gather_boards.new.writer) (report_text c.args.boards.now)
    = replies_cut c.args.boards.now _ _ _ none c.in_err-gather_boards.ensures.gathers in
    search rules

pub returns-in_err-gather_boards-2-clause-prefix : goal.returns-in_err-gather_boards-2-clause-prefix
returns-in_err-gather_boards-2-clause-prefix g c =
    let none : c.in_ok-text.text.items ≡ [] = search rules in
    let first = replies_reported c.args.boards.now _ _ _ _ none c.in_ok-gather_boards.ensures.gathers in
    let prefix : AppendsPrefix (g.W.Sink.contents c.args.writer.now) (g.W.Sink.contents c.gather_boards-2.new.writer) (report_text c.args.boards.now)
    = counts_cut c.args.boards.now _ _ _ _ first c.in_err-gather_boards-2.ensures.gathers in
    search rules

pub returns-in_err-gather_boards-3-clause-prefix : goal.returns-in_err-gather_boards-3-clause-prefix
returns-in_err-gather_boards-3-clause-prefix g c =
    let none : c.in_ok-text.text.items ≡ [] = search rules in
    let first = replies_reported c.args.boards.now _ _ _ _ none c.in_ok-gather_boards.ensures.gathers in
    let second = counts_reported c.args.boards.now _ _ _ _ _ first c.in_ok-gather_boards-2.ensures.gathers in
    let prefix : AppendsPrefix (g.W.Sink.contents c.args.writer.now) (g.W.Sink.contents c.gather_boards-3.new.writer) (report_text c.args.boards.now)
    = memory_cut c.args.boards.now _ _ _ _ second c.in_err-gather_boards-3.ensures.gathers in
    search rules

pub returns-in_err-write_all-clause-prefix : goal.returns-in_err-write_all-clause-prefix
returns-in_err-write_all-clause-prefix g c =
    let none : c.in_ok-text.text.items ≡ [] = search rules in
    let first = replies_reported c.args.boards.now _ _ _ _ none c.in_ok-gather_boards.ensures.gathers in
    let second = counts_reported c.args.boards.now _ _ _ _ _ first c.in_ok-gather_boards-2.ensures.gathers in
    let all = memory_reported c.args.boards.now _ _ _ _ _ second c.in_ok-gather_boards-3.ensures.gathers in
    let prefix : AppendsPrefix (g.W.Sink.contents c.args.writer.now) (g.W.Sink.contents c.write_all.new.writer) (report_text c.args.boards.now)
    = so_far_unwritten _ _ _ _ _ all (rw c.as_slice.ensures.value at c.in_err-write_all.ensures.prefix) in
    search rules

pub returns-clause-text : goal.returns-clause-text
returns-clause-text g c =
    let none : c.in_ok-text.text.items ≡ [] = search rules in
    let first = replies_reported c.args.boards.now _ _ _ _ none c.in_ok-gather_boards.ensures.gathers in
    let second = counts_reported c.args.boards.now _ _ _ _ _ first c.in_ok-gather_boards-2.ensures.gathers in
    let all = memory_reported c.args.boards.now _ _ _ _ _ second c.in_ok-gather_boards-3.ensures.gathers in
    so_far_written _ _ _ _ _ all (rw c.as_slice.ensures.value at c.in_ok-write_all.ensures.bytes)
