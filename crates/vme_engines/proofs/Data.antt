-- The output of a transfer, datum by datum.
use Rattle.std.proofs.Common.{◌≡◌, ℕ, ◌+◌, ◌*◌, ◌-◌, ◌%◌, ◌<◌, ◌≤◌, suc, true, List, ◌++◌, Option, Some, None, ap, sym, ◌∙◌, append_assoc, arith}
use Rattle.std.proofs.lemmas.Bool.{eqb-true}
use Rattle.vme_cycle.specs.declared.request.Request.{Request}
use Rattle.vme_cycle.specs.declared.request.Request.TheVariants as requests
use Rattle.vme_cycle.specs.Requests.{addr_of, datum_len, count_of, function_of}
use Rattle.vme_cycle.specs.Lawful.{Transfer, IsLawfulTransfer}
use Rattle.vme_cycle.specs.Plans.{signals_of}
use Rattle.vme_memory.specs.declared.reply.Reply.{Reply}
use Rattle.vme_memory.specs.declared.reply.Reply.TheVariants.{Bytes, Done, Berr}
use Rattle.vme_memory.specs.Boards.{Board}
use Rattle.vme_memory.specs.Steps.{Command, step, cycle, HasLen}
use Rattle.vme_memory.specs.Data.{datum_command, datum_reply_len, has_form}
use Rattle.vme_memory.proofs.lemmas.Data.{own_cycle, datum_form}
use Rattle.vme_grammar.specs.Texts as outcomes
use Rattle.vme_engines.specs.Answers.{Answer, datum_text, reply_at, reply_to, outcome_answer, after_text, after_datum, data_answer}

-- two texts before an output are one text before it
after_both : (first second : List ℕ) (answer : Answer)
    → after_text first (after_text second answer) ≡ after_text (first ++ second) answer
after_both first second answer = ap (λ text. record answer { text = text }) (sym (append_assoc first second answer.text))

-- the output of the whole transfer stays the same after one more datum is processed
pub datum_more :
    (count i : ℕ) (board next : Board) (t : Transfer) (text new read : List ℕ) (reply : Reply) (all : Answer) → i < count
    → after_text text (data_answer (count - i) board t i read) ≡ all
    → new ≡ text ++ datum_text t i (reply_to board t i).0 → reply ≡ (reply_to board t i).0 → next ≡ (reply_to board t i).1
    → after_text new (after_datum reply (outcome_answer next (outcomes.Berr i read)) (λ bytes. data_answer (count - (i + 1)) next t (i + 1) (read ++ bytes))) ≡ all
datum_more count i board next t text new read reply all less whole printed replied moved =
    let left : count - i ≡ suc (count - (i + 1)) = omega (arith, less) in
    let opened = rw left at whole in
    let line = datum_text t i (reply_to board t i).0 in
    let rest = after_datum (reply_to board t i).0 (outcome_answer (reply_to board t i).1 (outcomes.Berr i read))
    (λ bytes. data_answer (count - (i + 1)) (reply_to board t i).1 t (i + 1) (read ++ bytes)) in
    rw (printed, replied, moved) (sym (after_both text line rest) ∙ opened)

-- after one more datum of n bytes, the buffer still has capacity for the data that are left
pub buffer_more : (count i n read : ℕ) → i < count → read + n * (count - i) ≤ 2048 → (read + n) + n * (count - (i + 1)) ≤ 2048
buffer_more count i n read less capacity =
    let left : count - i ≡ suc (count - (i + 1)) = omega (arith, less) in
    let opened : read + n * suc (count - (i + 1)) ≤ 2048 = rw left at capacity in
    let split : n * suc (count - (i + 1)) ≡ n + n * (count - (i + 1)) = grind arith in
    omega (arith, opened, split)

-- the step of a datum's own command is the reply to its cycle, and the board after it
pub datum_replied :
    (t : Transfer) (board : Board) (i offset at : ℕ) (command : Command) → IsLawfulTransfer t → i < count_of t.request
    → offset ≡ addr_of t.request → at ≡ offset + i * datum_len t.request → command ≡ datum_command t.request i at
    → step board command ≡ reply_at board t i (Some offset)
datum_replied t board i offset at command lawful less first place own =
    ap (step board) own
    ∙ sym (own_cycle t board i at lawful less (ap (λ a. a % 4) (place ∙ ap (λ o. o + i * datum_len t.request) first)))
    ∙ ap (λ a. cycle board (signals_of t i) a (function_of t.request)) place

-- a reply of a request's form has its number of bytes
len_of_form : (request : Request) (reply : Reply) → has_form (datum_reply_len request) reply ≡ true → HasLen reply (datum_len request)
len_of_form (requests.Read am addr n) (Bytes datum) form = eqb-true _ _ form
len_of_form (requests.Write am addr bytes) (Bytes datum) form = absurd cc
len_of_form (requests.BlockRead am addr n count) (Bytes datum) form = eqb-true _ _ form
len_of_form (requests.BlockWrite am addr n bytes) (Bytes datum) form = absurd cc
len_of_form (requests.BlockFill am addr n count bytes) (Bytes datum) form = absurd cc
len_of_form (requests.Modify am addr n f) (Bytes datum) form = eqb-true _ _ form
len_of_form request Done form = tt
len_of_form request Berr form = tt

-- the reply to a datum has the datum's number of bytes
pub datum_has_len :
    (t : Transfer) (board : Board) (i : ℕ) (offset : Option ℕ) → IsLawfulTransfer t → i < count_of t.request
    → HasLen (reply_at board t i offset).0 (datum_len t.request)
datum_has_len t board i None lawful less = tt
datum_has_len t board i (Some offset) lawful less =
    len_of_form t.request (reply_at board t i (Some offset)).0 (datum_form t board i (offset + i * datum_len t.request) lawful less)
