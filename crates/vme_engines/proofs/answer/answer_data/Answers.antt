-- One more datum: at a bus error the output ends, else it continues with the bytes that were read.
use Rattle.std.proofs.Common.{◌≡◌, ◌+◌, ◌<◌, [], ◌++◌, length, length-append, ap, ◌∙◌, sym, arith}
use Rattle.std.proofs.lemmas.List.{append-nil}
use Rattle.vme_cycle.specs.Requests.{datum_len, count_of}
use Rattle.vme_grammar.specs.Texts.{Berr, outcome_text, output_line}
use Rattle.vme_engines.proofs.Data.{datum_more, buffer_more}
use Rattle.vme_engines.proofs.answer.answer_data.Goals as goal
use Rattle.vme_engines.proofs.answer.answer_data.Goals.{in-Bytes, in-Done}

pub returns-in-Berr : goal.returns-in-Berr
returns-in-Berr c =
    let less : c.loop-i.i < count_of c.args.plan.now.request = omega (arith, c.loop-i-test.true, c.len-count.ensures.value) in
    let more =
    datum_more _ _ _ _ _ _ _ _ _ _ less c.loop-i.invariant.answer c.in_ok-datum.ensures.text c.in_ok-datum.ensures.reply
    c.in_ok-datum.ensures.board in
    let all = rw c.in-Berr.is at more in
    record {
      capacity = c.loop-i.invariant.size;
      text = c.in_ok-print_berr-in-Berr.ensures.text
          ∙ ap (λ read. c.answer_datum.new.text.items ++ output_line (outcome_text (Berr c.loop-i.i read))) c.as_slice-in-Berr.ensures.value
          ∙ ap (λ answer. answer.text) all;
      board = ap (λ answer. answer.board) all;
      status = ap (λ answer. answer.status) all;
    }

pub loop-i-preserved : goal.loop-i-preserved
loop-i-preserved c =
    let less : c.loop-i.i < count_of c.args.plan.now.request = omega (arith, c.loop-i-test.true, c.len-count.ensures.value) in
    let more =
    datum_more _ _ _ _ _ _ _ _ _ _ less c.loop-i.invariant.answer c.in_ok-datum.ensures.text c.in_ok-datum.ensures.reply
    c.in_ok-datum.ensures.board in
    let capacity =
    buffer_more (count_of c.args.plan.now.request) c.loop-i.i (datum_len c.args.plan.now.request)
    (length c.loop-i.replied.items) less
    c.loop-i.invariant.capacity in
    let old = c.loop-i.replied.items in
    let new = c.match-branch-2.replied.items in
    elim c.match-branch-2.branch [
      | in-Bytes w ↦
          let bytes = w.in-Bytes.datum.items in
          let grown : new ≡ old ++ bytes =
          ap (λ read. read.items) w.replied-is ∙ ap (λ read. read.items) w.extend_from_slice.ensures
          ∙ ap (λ more. old ++ more) w.as_slice.ensures.value in
          let long : length bytes ≡ datum_len c.args.plan.now.request = rw w.in-Bytes.is at c.in_ok-datum.ensures.len in
          let joined : length new ≡ length old + length bytes = ap length grown ∙ length-append old bytes in
          record { answer = rw grown (rw w.in-Bytes.is at more); capacity = omega (arith, joined, long, capacity); size = ap (λ read. read.capacity) w.replied-is ∙ ap (λ read. read.capacity) w.extend_from_slice.ensures ∙ c.loop-i.invariant.size }
      | in-Done w ↦
          let same : new ≡ old ++ [] = ap (λ read. read.items) w.replied-is ∙ sym (append-nil old) in
          let as_long : length new ≡ length old = ap (λ read. length read.items) w.replied-is in
          record { answer = rw same (rw w.in-Done.is at more); capacity = omega (arith, as_long, capacity); size = ap (λ read. read.capacity) w.replied-is ∙ c.loop-i.invariant.size }
    ]
