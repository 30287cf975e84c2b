use Rattle.std.proofs.Common.{◌≡◌, ◌&&◌, false, sym, subst, arith, rules}
use Rattle.std.specs.Prelude.{IfOk, bytes_eq, codes}
use Rattle.vme_vcd_reader.specs.Headers.{is_read}
use Rattle.vme_vcd_reader.specs.Headings.{Reads}
use Rattle.vme_vcd_reader.proofs.Headers.{long_by, word_goes}
use Rattle.vme_vcd_reader.proofs.header.Header.take_word.Goals as goal
use Rattle.vme_vcd_reader.proofs.header.Header.take_word.Goals.{else-is_cut-via-then-is_cut+else-is_read, else-is_cut-via-else-is_cut}

pub returns-clause-says : goal.returns-clause-says
returns-clause-says c = λ h is.
    let short : (c.args.self.now.word.is_cut && is_read c.args.self.now.next) ≡ false =
    elim c.else-is_cut.branch [
      | else-is_cut-via-then-is_cut+else-is_read w ↦ first_of (search rules, grind arith)
      | else-is_cut-via-else-is_cut w ↦ first_of (search rules, grind arith)
    ] in
    let other : bytes_eq c.args.self.now.word.bytes.items (codes "$end") ≡ false = first_of (search rules, grind arith) in
    subst (λ o. IfOk c.take_other.result (λ it. Reads o it c.take_other.new.self)) (sym (word_goes h c.args.self.now is short other))
    (c.take_other.ensures.says h is (long_by h c.args.self.now false is short))
