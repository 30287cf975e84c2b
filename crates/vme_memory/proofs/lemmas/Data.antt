-- The cycle of each datum of a lawful transfer is its request's own command, and the reply has the form of that
-- command.
use Rattle.std.proofs.Common.{◌≡◌, ℕ, ◌+◌, ◌*◌, ◌/◌, ◌%◌, ◌<◌, ◌≤◌, zero, suc, List, length, slice_range, Bool, true, false, is_none, Option, None, Some, option_map, ap, sym, ◌∙◌, arith, refl, inl, inr}
use Rattle.std.specs.Prelude.{◌==◌, if◌then◌else◌}
use Rattle.std.specs.Option.{option_and_then}
use Rattle.std.proofs.Math.Nat.{mul-le-mul_left}
use Rattle.std.proofs.lemmas.Bool.{cases_Bool, and_parts, leb-true, eqb-true, eq-eqb}
use Rattle.std.proofs.lemmas.Grind.{common_steps}
use Rattle.vme_am.specs.Codes.{CodeRow}
use Rattle.vme_am.specs.Kinds.{is_block}
use Rattle.vme_lanes.specs.declared.location.Location.{Location}
use Rattle.vme_lanes.specs.declared.location.Location.TheVariants.{Bytes03}
use Rattle.vme_lanes.specs.Rows.{row_of}
use Rattle.vme_lanes.specs.Lanes.{lanes_with, carries, bytes_on, carries_all, bytes_of}
use Rattle.vme_lanes.proofs.lemmas.Placing.{lanes_carry, bytes_again}
use Rattle.vme_lanes.proofs.lemmas.Wide.{all_carry, all_again}
use Rattle.vme_cycle.specs.declared.request.Request.{Request}
use Rattle.vme_cycle.specs.declared.request.Request.TheVariants as requests
use Rattle.vme_cycle.specs.Counts.{is_datum_len, is_modify_len, is_wide_code}
use Rattle.vme_cycle.specs.Requests.{datum_len, count_of, datum_of, function_of, is_block_request, is_counted, address_of}
use Rattle.vme_cycle.specs.Lawful.{Transfer, IsLawfulTransfer}
use Rattle.vme_cycle.specs.SignalLines.{chosen_len, sensed_at}
use Rattle.vme_cycle.specs.Parts.{IsLawful}
use Rattle.vme_cycle.specs.Plans.{own_location, driven_lanes, signals_of}
use Rattle.vme_cycle.proofs.lemmas.Transfers.{lawful_parts, own_row, own_sensed_at}
use Rattle.vme_cycle.proofs.lemmas.Lengths.{sensed_len}
use Rattle.vme_memory.specs.declared.reply.Reply.TheVariants.{Bytes}
use Rattle.vme_memory.specs.Boards.{Board}
use Rattle.vme_memory.specs.Steps.{Command, LocalRead, LocalWrite, LocalModify, Read, Write, Modify, BlockRead, BlockWrite, fits, can_answer, bytes_at, effect_of, driven_bytes, read_command, write_command, driven_write, narrow_command, wide_write, wide_command, command_at, command_of, step, answer, cycle}
use Rattle.vme_memory.specs.Data.{datum_command, reply_len, datum_reply_len, has_form}

-- lanes with the bytes of a location carry these bytes
driven_again : (l : Location) (bytes : List ℕ) → length bytes ≡ (row_of l).len → driven_bytes l (lanes_with l bytes) ≡ Some bytes
driven_again l bytes h = rw (lanes_carry l bytes h) (ap (λ new. Some new) (bytes_again l bytes h))

-- each part of a block write that is split into data has n bytes
cut_len : (bytes : List ℕ) (i n : ℕ) → 0 < n → i < length bytes / n → length (slice_range bytes (i * n) (i * n + n)) ≡ n
cut_len bytes i n some less =
    let upto : n * suc i ≤ n * (length bytes / n) = mul-le-mul_left n less in
    let split : n * suc i ≡ i * n + n = grind arith in
    let within : i * n + n ≤ length bytes = omega (arith, upto, split, some) in
    grind (arith, common_steps)

-- a datum of a block has at least one byte
some_byte : (wide : Bool) (n : ℕ) → is_datum_len wide n ≡ true → 0 < n
some_byte true zero h = absurd cc
some_byte false zero h = absurd cc
some_byte wide (suc n) h = omega arith

-- eight bytes selected by code and location are at a location of four
wide_chosen : (l : Location) (n : ℕ) → chosen_len true l ≡ Some n → ((row_of l).len ≡ 4) × (n ≡ 8)
wide_chosen Bytes03 n h = (refl, cc)
wide_chosen l n h = absurd cc

-- without a code of eight-byte data, code and location select as many bytes as the location has
narrow_chosen : (l : Location) (n : ℕ) → chosen_len false l ≡ Some n → (row_of l).len ≡ n
narrow_chosen l n h = cc

-- without a code of eight-byte data, the cycle of a datum at a location of its length is the request's command
narrow_by :
    (request : Request) (i at : ℕ) (l : Location) → is_counted request ≡ true → i < count_of request → (row_of l).len ≡ datum_len request
    → narrow_command (is_block_request request) (is_none (datum_of request i)) (function_of request) at l (driven_lanes false l (datum_of request i))
    ≡ Some (datum_command request i at)
narrow_by (requests.Read am addr n) i at l counted less long = ap (λ len. Some (Read at len)) long
narrow_by (requests.Write am addr bytes) i at l counted less long = ap (option_map (Write at)) (driven_again l bytes.items (sym long))
narrow_by (requests.BlockRead am addr n count) i at l counted less long = ap (λ len. Some (BlockRead at len)) long
narrow_by (requests.BlockWrite am addr n bytes) i at l counted less long =
    let some = some_byte (is_wide_code am) n (and_parts _ _ (and_parts _ _ counted).0).0 in
    ap (option_map (BlockWrite at)) (driven_again l (slice_range bytes.items (i * n) (i * n + n)) (cut_len bytes.items i n some less ∙ sym long))
narrow_by (requests.BlockFill am addr n count bytes) i at l counted less long =
    ap (option_map (BlockWrite at)) (driven_again l bytes.items (eqb-true _ _ (and_parts _ _ counted).1 ∙ sym long))
narrow_by (requests.Modify am addr n f) i at l counted less long = ap (λ len. Some (Modify at len f)) long

-- the cycle of a datum of eight bytes is the request's command
wide_by :
    (request : Request) (i at : ℕ) (l : Location) → is_counted request ≡ true → (row_of l).len ≡ 4 → datum_len request ≡ 8
    → wide_command (is_none (datum_of request i)) (function_of request) at l (driven_lanes true l (datum_of request i))
    ≡ Some (datum_command request i at)
wide_by (requests.Read am addr n) i at l counted quad eight = absurd (omega (arith, leb-true n 4 (and_parts _ _ counted).1, eight))
wide_by (requests.Write am addr bytes) i at l counted quad eight =
    absurd (omega (arith, leb-true (length bytes.items) 4 (and_parts _ _ counted).1, eight))
wide_by (requests.BlockRead am addr n count) i at l counted quad eight = rw (eq-eqb _ _ quad) (ap (λ len. Some (BlockRead at len)) (sym eight))
wide_by (requests.BlockWrite am addr n bytes) i at l counted quad eight =
    rw (eq-eqb _ _ quad, all_carry (slice_range bytes.items (i * n) (i * n + n)))
    (ap (λ new. Some (BlockWrite at new)) (all_again (slice_range bytes.items (i * n) (i * n + n))))
wide_by (requests.BlockFill am addr n count bytes) i at l counted quad eight =
    rw (eq-eqb _ _ quad, all_carry bytes.items) (ap (λ new. Some (BlockWrite at new)) (all_again bytes.items))
wide_by (requests.Modify am addr n f) i at l counted quad eight =
    let allowed : is_modify_len n ≡ true = (and_parts _ _ counted).0 in
    let bad : is_modify_len 8 ≡ true = ap is_modify_len (sym eight) ∙ allowed in
    absurd cc

-- the cycle of a datum, with any code, is the request's command
command_by :
    (t : Transfer) (i at : ℕ) (l : Location) → IsLawful t.am t.request → i < count_of t.request
    → chosen_len t.am.wide l ≡ Some (datum_len t.request)
    → command_at t.am (is_none (datum_of t.request i)) (function_of t.request) at l (driven_lanes t.am.wide l (datum_of t.request i))
    ≡ Some (datum_command t.request i at)
command_by t i at l is less chosen =
    elim (cases_Bool t.am.wide) [
      | inl wide ↦
          let both = wide_chosen l (datum_len t.request) (ap (λ w. chosen_len w l) (sym wide) ∙ chosen) in
          rw wide (wide_by t.request i at l is.counted both.0 both.1)
      | inr narrow ↦
          let long = narrow_chosen l (datum_len t.request) (ap (λ w. chosen_len w l) (sym narrow) ∙ chosen) in
          rw (narrow, is.kind) (narrow_by t.request i at l is.counted less long)
    ]

-- the cycle of a datum, at its own place in the group of four, is the request's own command
pub own_command :
    (t : Transfer) (i at : ℕ) → IsLawfulTransfer t → i < count_of t.request → at % 4 ≡ address_of t.request i % 4
    → command_of (signals_of t i) at (function_of t.request) ≡ Some (datum_command t.request i at)
unfolding signals_of
own_command t i at lawful less place =
    let is = lawful_parts t lawful in
    let row = own_row t i is less in
    let here : ((row_of (own_location t i)).first == at % 4) ≡ true = eq-eqb _ _ (row.0 ∙ sym place) in
    rw (own_sensed_at t i at is less place, here) (command_by t i at (own_location t i) is less row.1)

-- the cycle of a datum, at its own place in the group of four, has the step of the request's own command
pub own_cycle :
    (t : Transfer) (board : Board) (i at : ℕ) → IsLawfulTransfer t → i < count_of t.request → at % 4 ≡ address_of t.request i % 4
    → cycle board (signals_of t i) at (function_of t.request) ≡ step board (datum_command t.request i at)
unfolding cycle
own_cycle t board i at lawful less place = ap (answer board) (own_command t i at lawful less place)

-- a read within the board returns as many bytes as requested
read_len : (board : Board) (at len : ℕ) → fits board at len ≡ true → length (bytes_at board at len) ≡ len
read_len board at len fit = let within = leb-true (at + len) (length board.bytes) fit in grind (arith, common_steps)

-- a reply with len bytes of the board has the form of a reply of len bytes
bytes_form : (board : Board) (at len : ℕ) → fits board at len ≡ true → has_form (Some len) (Bytes (record { items = bytes_at board at len })) ≡ true
bytes_form board at len fit = eq-eqb _ _ (read_len board at len fit)

-- the reply to a command has a form if the reply has it where the board carries out the command
form_by :
    (board : Board) (command : Command) (wanted : Option ℕ) → (can_answer board command ≡ true → has_form wanted (effect_of board command).0 ≡ true)
    → has_form wanted (step board command).0 ≡ true
form_by board command wanted answered =
    elim (cases_Bool (can_answer board command)) [ inl can ↦ rw can (answered can) | inr refused ↦ rw refused refl ]

-- the reply to each command has the form of the command
pub reply_form : (board : Board) (command : Command) → has_form (reply_len command) (step board command).0 ≡ true
reply_form board (LocalRead at len) = form_by board (LocalRead at len) (Some len) (λ can. bytes_form board at len (and_parts _ _ can).0)
reply_form board (LocalWrite at new) = form_by board (LocalWrite at new) None (λ can. refl)
reply_form board (LocalModify at len f) = form_by board (LocalModify at len f) (Some len) (λ can. bytes_form board at len (and_parts _ _ (and_parts _ _ can).0).0)
reply_form board (Read at len) = form_by board (Read at len) (Some len) (λ can. bytes_form board at len (and_parts _ _ can).0)
reply_form board (Write at new) = form_by board (Write at new) None (λ can. refl)
reply_form board (Modify at len f) =
    form_by board (Modify at len f) (Some len)
    (λ can. bytes_form board at len (and_parts _ _ (and_parts _ _ (and_parts _ _ (and_parts _ _ can).0).0).0).0)
reply_form board (BlockRead at len) =
    form_by board (BlockRead at len) (Some len) (λ can. bytes_form board at len (and_parts _ _ (and_parts _ _ (and_parts _ _ can).0).0).0)
reply_form board (BlockWrite at new) = form_by board (BlockWrite at new) None (λ can. refl)

-- the reply to a read, single or in a block, has the requested number of bytes or is a bus error
read_form : (board : Board) (block : Bool) (at len : ℕ) → has_form (Some len) (step board (read_command block at len)).0 ≡ true
read_form board false at len = reply_form board (Read at len)
read_form board true at len = reply_form board (BlockRead at len)

-- the reply to a write, single or in a block, is Done or a bus error
write_form : (board : Board) (block : Bool) (at : ℕ) (new : List ℕ) → has_form None (step board (write_command block at new)).0 ≡ true
write_form board false at new = reply_form board (Write at new)
write_form board true at new = reply_form board (BlockWrite at new)

-- the reply to a write has its form for any lanes of a location
driven_form :
    (board : Board) (block : Bool) (l : Location) (at : ℕ) (lanes : List (Option ℕ))
    → has_form None (answer board (driven_write block l at lanes)).0 ≡ true
driven_form board block l at lanes =
    elim (cases_Bool (carries l lanes)) [
      | inl all ↦ rw all (write_form board block at (bytes_on l lanes))
      | inr some ↦ rw some refl
    ]

-- the reply to a cycle without a code of eight-byte data has the request's form
narrow_form :
    (board : Board) (request : Request) (i at : ℕ) (block : Bool) (l : Location) (lanes : List (Option ℕ)) → (row_of l).len ≡ datum_len request
    → has_form (datum_reply_len request) (answer board (narrow_command block (is_none (datum_of request i)) (function_of request) at l lanes)).0 ≡ true
narrow_form board (requests.Read am addr n) i at block l lanes long = rw long (read_form board block at n)
narrow_form board (requests.Write am addr bytes) i at block l lanes long = driven_form board block l at lanes
narrow_form board (requests.BlockRead am addr n count) i at block l lanes long = rw long (read_form board block at n)
narrow_form board (requests.BlockWrite am addr n bytes) i at block l lanes long = driven_form board block l at lanes
narrow_form board (requests.BlockFill am addr n count bytes) i at block l lanes long = driven_form board block l at lanes
narrow_form board (requests.Modify am addr n f) i at true l lanes long = refl
narrow_form board (requests.Modify am addr n f) i at false l lanes long = rw long (reply_form board (Modify at n f))

-- the reply to a write of eight bytes has its form for any lanes
wide_write_form : (board : Board) (at : ℕ) (lanes : List (Option ℕ)) → has_form None (answer board (wide_write at lanes)).0 ≡ true
wide_write_form board at lanes =
    elim (cases_Bool (carries_all lanes)) [
      | inl all ↦ rw all (reply_form board (BlockWrite at (bytes_of lanes)))
      | inr some ↦ rw some refl
    ]

-- the reply to a cycle with a code of eight-byte data has the request's form
wide_form :
    (board : Board) (request : Request) (i at : ℕ) (l : Location) (lanes : List (Option ℕ)) → (row_of l).len ≡ 4 → datum_len request ≡ 8
    → has_form (datum_reply_len request) (answer board (wide_command (is_none (datum_of request i)) (function_of request) at l lanes)).0 ≡ true
wide_form board (requests.Read am addr n) i at l lanes quad eight = rw (eq-eqb _ _ quad, eight) (reply_form board (BlockRead at 8))
wide_form board (requests.Write am addr bytes) i at l lanes quad eight = rw (eq-eqb _ _ quad) (wide_write_form board at lanes)
wide_form board (requests.BlockRead am addr n count) i at l lanes quad eight = rw (eq-eqb _ _ quad, eight) (reply_form board (BlockRead at 8))
wide_form board (requests.BlockWrite am addr n bytes) i at l lanes quad eight = rw (eq-eqb _ _ quad) (wide_write_form board at lanes)
wide_form board (requests.BlockFill am addr n count bytes) i at l lanes quad eight = rw (eq-eqb _ _ quad) (wide_write_form board at lanes)
wide_form board (requests.Modify am addr n f) i at l lanes quad eight = refl

-- the reply to a cycle at a location with as many bytes as the datum has the request's form
form_at :
    (board : Board) (request : Request) (i at : ℕ) (am : CodeRow) (l : Location) (lanes : List (Option ℕ))
    → chosen_len am.wide l ≡ Some (datum_len request)
    → has_form (datum_reply_len request) (answer board (command_at am (is_none (datum_of request i)) (function_of request) at l lanes)).0 ≡ true
form_at board request i at am l lanes chosen =
    elim (cases_Bool am.wide) [
      | inl wide ↦
          let both = wide_chosen l (datum_len request) (ap (λ w. chosen_len w l) (sym wide) ∙ chosen) in
          rw wide (wide_form board request i at l lanes both.0 both.1)
      | inr narrow ↦
          let long = narrow_chosen l (datum_len request) (ap (λ w. chosen_len w l) (sym narrow) ∙ chosen) in
          rw narrow (narrow_form board request i at (is_block am.kind) l lanes long)
    ]

-- the reply to a cycle at its own place has the request's form for any sensed location, or none
sensed_form :
    (board : Board) (request : Request) (i at : ℕ) (am : CodeRow) (lanes : List (Option ℕ)) (sensed : Option Location)
    → ((l : Location) → sensed ≡ Some l → (row_of l).first ≡ at % 4 → chosen_len am.wide l ≡ Some (datum_len request))
    → has_form (datum_reply_len request)
    (answer board (option_and_then
    (λ l. if (row_of l).first == at % 4 then command_at am (is_none (datum_of request i)) (function_of request) at l lanes else None)
    sensed)).0
    ≡ true
sensed_form board request i at am lanes None chosen = refl
sensed_form board request i at am lanes (Some l) chosen =
    elim (cases_Bool ((row_of l).first == at % 4)) [
      | inl here ↦ rw here (form_at board request i at am l lanes (chosen l refl (eqb-true _ _ here)))
      | inr away ↦ rw away refl
    ]

-- the reply to a datum of a lawful transfer has the request's form at any offset
pub datum_form :
    (t : Transfer) (board : Board) (i at : ℕ) → IsLawfulTransfer t → i < count_of t.request
    → has_form (datum_reply_len t.request) (cycle board (signals_of t i) at (function_of t.request)).0 ≡ true
unfolding cycle signals_of
datum_form t board i at lawful less =
    sensed_form board t.request i at t.am (driven_lanes t.am.wide (own_location t i) (datum_of t.request i)) (sensed_at (signals_of t i) at)
    (λ l sensed place. sensed_len t i at l (lawful_parts t lawful) less sensed place)
