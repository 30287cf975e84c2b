use Rattle.std.proofs.Common.{◌≡◌, ◌+◌, ◌*◌, ◌-◌, ◌≤◌, length}
use Rattle.vme_cycle.specs.Requests.{datum_len, count_of}
use Rattle.vme_engines.specs.Answers.{after_text, data_answer, transfer_answer}
use Rattle.vme_engines.proofs.answer.answer_data.Given as goal

-- the text so far, with the output of the data that are left, is the whole output; the buffer has capacity for the bytes
-- that they read
abbrev pub invariant-loop-i : goal.invariant-loop-i
invariant-loop-i l = record {
  answer : after_text l.text.items (data_answer (count_of l.fn.plan.request - l.i) l.bus l.fn.plan l.i l.replied.items)
      ≡ after_text l.fn.text.items (transfer_answer l.fn.bus l.fn.plan);
  capacity : length l.replied.items + datum_len l.fn.plan.request * (count_of l.fn.plan.request - l.i) ≤ 2048;
  size : l.replied.capacity ≡ l.fn.replied.capacity;
}
