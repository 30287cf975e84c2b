-- The commands of a transfer's data are among the bytes that its request names.
use Rattle.std.proofs.Common.{◌≡◌, ℕ, suc, ◌+◌, ◌*◌, ◌<◌, ◌≤◌, true, List, length, slice_range, Some, Ok, refl, ap, ◌∙◌, arith}
use Rattle.std.specs.Prelude.{option_map, ◌==◌, ◌&&◌}
use Rattle.std.proofs.Math.Nat.{mul-le-mul_left}
use Rattle.std.proofs.lemmas.Bool.{and_parts, eqb-true}
use Rattle.std.proofs.lemmas.Grind.{common_steps}
use Rattle.vme_cycle.specs.declared.request.Request.{Request}
use Rattle.vme_cycle.specs.declared.request.Request.TheVariants as requests
use Rattle.vme_cycle.specs.Counts.{is_datum_len, is_wide_code, is_block_count}
use Rattle.vme_cycle.specs.Requests.{addr_of, datum_len, count_of, span_of, is_counted}
use Rattle.vme_cycle.specs.Lawful.{Transfer, transfer_of}
use Rattle.vme_cycle.proofs.lemmas.Transfers.{transfer_is_lawful, lawful_parts}
use Rattle.vme_decode.specs.declared.entry.Entry.{Entry}
use Rattle.vme_decode.specs.Select.{selection_at}
use Rattle.vme_memory.specs.Steps.{Command}
use Rattle.vme_memory.specs.Data.{datum_command}
use Rattle.vme_core.specs.Calls.{OnBoard}
use Rattle.vme_core.specs.NextSteps.{Invokes}
use Rattle.vme_master.specs.declared.job.BusJob.{BusJob}
use Rattle.vme_master.specs.Jobs.{bus_job}
use Rattle.vme_master.specs.Tables.{Inputs, data_in, next_of}
use Rattle.vme_master.proofs.lemmas.Tenures.{data_go_on}
use Rattle.vme_shared.specs.MailboxSteps.{offset_of, len_of}
use Rattle.vme_script.specs.declared.board_range.BoardRange.{BoardRange}
use Rattle.vme_script.specs.Bytes.{transfer_bytes, request_bytes}
use Rattle.vme_mailbox_laws.proofs.Apart.{IsAmong}

-- the command of a datum is at the place of the datum
at_place : (request : Request) (i at : ℕ) → offset_of (datum_command request i at) ≡ at
at_place (requests.Read am addr n) i at = refl
at_place (requests.Write am addr bytes) i at = refl
at_place (requests.BlockRead am addr n count) i at = refl
at_place (requests.BlockWrite am addr n bytes) i at = refl
at_place (requests.BlockFill am addr n count bytes) i at = refl
at_place (requests.Modify am addr n f) i at = refl

-- a part of a list has at most the length of its range
cut_most : (bytes : List ℕ) (from n : ℕ) → length (slice_range bytes from (from + n)) ≤ n
cut_most bytes from n = grind (arith, common_steps)

-- the command of a datum has at most the bytes of the datum
at_most : (request : Request) (i at : ℕ) → is_counted request ≡ true
    → len_of (datum_command request i at) ≤ datum_len request
at_most (requests.Read am addr n) i at counted = omega arith
at_most (requests.Write am addr bytes) i at counted = omega arith
at_most (requests.BlockRead am addr n count) i at counted = omega arith
at_most (requests.BlockWrite am addr n bytes) i at counted = cut_most bytes.items (i * n) n
at_most (requests.BlockFill am addr n count bytes) i at counted =
    let parts = and_parts (is_datum_len (is_wide_code am) n && is_block_count count) (length bytes.items == n) counted in
    let long : length bytes.items ≡ n = eqb-true (length bytes.items) n parts.1 in
    omega arith
at_most (requests.Modify am addr n f) i at counted = omega arith

-- datum i of `count` lies within all data
upto_span : (i n count : ℕ) → i < count → i * n + n ≤ n * count
upto_span i n count less =
    let upto : n * suc i ≤ n * count = mul-le-mul_left n less in
    let split : n * suc i ≡ i * n + n = grind arith in
    omega (arith, upto, split)

-- equal options of a command have equal commands
same_command : (c d : Command) → Some c ≡ Some d → c ≡ d
same_command c d same = cc

-- a command that a transfer sends to a board is among the bytes of its request
pub sent : (entries : List Entry) (slot level : ℕ) (request : Request) (t : Transfer) (g : Inputs) (x : ℕ) (c : Command)
    → transfer_of request ≡ Ok t → next_of (bus_job entries slot level t) g ≡ Invokes (OnBoard x (Some c))
    → (bytes : BoardRange) × (request_bytes entries request ≡ Some bytes) × IsAmong bytes x c
unfolding request_bytes
sent entries slot level request t g x c is makes =
    let place = selection_at entries t.am (addr_of t.request) in
    let bus : BusJob = record { slot = slot; level = level; transfer = t; place = place } in
    let next = data_go_on bus g x (Some c) makes in
    let i = data_in g in
    let at = next.offset + i * datum_len t.request in
    let own = same_command c (datum_command t.request i at) next.own in
    let here : offset_of c ≡ at = ap offset_of own ∙ at_place t.request i at in
    let long : len_of c ≡ len_of (datum_command t.request i at) = ap len_of own in
    let most = at_most t.request i at (lawful_parts t (transfer_is_lawful request t is)).counted in
    let ends = upto_span i (datum_len t.request) (count_of t.request) next.more in (
      record { board = x; offset = next.offset; len = span_of t.request },
      ap (transfer_bytes entries) is
          ∙ ap (option_map (λ found. record { board = found.0; offset = found.1; len = span_of t.request })) next.placed,
      record { there = refl; from = omega arith; upto = omega (arith, most, ends, here, long) },
    )
