-- The reply to a command, and the new bytes, are those of the window that the command reaches.
use Rattle.std.proofs.Common.{◌≡◌, ◌<◌, ◌≤◌, ℕ, ◌+◌, ◌*◌, ◌%◌, Bool, true, false, List, [], ◌∷◌, length, slice_range, Option, Some, None, option_map, refl, ap, sym, ◌∙◌, arith, inl, inr, nat_le, le-leb}
use Rattle.std.specs.Prelude.{◌==◌, ◌&&◌, if◌then◌else◌}
use Rattle.std.specs.Option.{option_and_then}
use Rattle.std.specs.Str.{bytes_eq}
use Rattle.std.proofs.lemmas.Bool.{cases_Bool, and_parts, eqb-true, leb-true, leb-false, lt-leb}
use Rattle.std.proofs.lemmas.Grind.{common_steps}
use Rattle.vme_am.specs.Codes.{CodeRow}
use Rattle.vme_am.specs.Kinds.{is_block}
use Rattle.vme_lanes.specs.declared.location.Location.{Location}
use Rattle.vme_lanes.specs.Rows.{row_of, location_sensed}
use Rattle.vme_lanes.specs.Lanes.{carries, carries_all}
use Rattle.vme_cycle.specs.declared.modify.Modify as functions
use Rattle.vme_cycle.specs.declared.modify.Modify.TheVariants.{Set, Exchange, Add, Compare}
use Rattle.vme_cycle.specs.Functions.{value, has_len}
use Rattle.vme_cycle.specs.SignalLines.{SignalLines, sensed_at}
use Rattle.vme_cycle.proofs.lemmas.Sums.{length-sum_of}
use Rattle.vme_memory.specs.declared.reply.Reply.{Reply}
use Rattle.vme_memory.specs.declared.reply.Reply.TheVariants.{Bytes, Done, Berr}
use Rattle.vme_memory.specs.declared.command.BoardCmd.{BoardCmd}
use Rattle.vme_memory.specs.declared.command.BoardCmd.TheVariants as given
use Rattle.vme_memory.specs.Classes.{is_block_place, is_modify_place, is_local_len}
use Rattle.vme_memory.specs.Boards.{Board, bytes_after_write}
use Rattle.vme_memory.specs.Steps.{Command, LocalRead, LocalWrite, LocalModify, Read, Write, Modify, BlockRead, BlockWrite, fits, has_cycle, has_block_cycle, can_answer, bytes_at, read_at, write_at, modify_at, effect_of, step, narrow_command, wide_command, command_at, answer}
use Rattle.vme_memory.specs.Locals.{command_given, answer_given, board_step}
use Rattle.vme_sparse_memory.specs.Windows.{first_of, moved_to, window_of, through}
use Rattle.vme_sparse_memory.proofs.Bytes.{window_len, written_back, read_inside, written_inside, written_len}
use Rattle.vme_sparse_memory.proofs.Places.{cycle_by, block_cycle_by, modify_place_by, block_place_by, local_sized, cycle_sized, block_sized}

-- a command with another offset
abbrev put : ℕ → Command → Command
put at (LocalRead offset len) = LocalRead at len
put at (LocalWrite offset new) = LocalWrite at new
put at (LocalModify offset len f) = LocalModify at len f
put at (Read offset len) = Read at len
put at (Write offset new) = Write at new
put at (Modify offset len f) = Modify at len f
put at (BlockRead offset len) = BlockRead at len
put at (BlockWrite offset new) = BlockWrite at new

-- the command of a cycle at an offset, as sensed at a place in the group of four
abbrev command_by : SignalLines → ℕ → ℕ → Option functions.Modify → Option Command
command_by s place at f =
    option_and_then
    (λ l. if (row_of l).first == place then command_at s.am s.write f at l s.lanes else None)
    (location_sensed (if is_block s.am.kind then record s.strobes { a01 = nat_le 2 place } else s.strobes))

-- the command of the step for a caller's command, at offset 0
abbrev shape_of : BoardCmd → Option Command
shape_of (given.LocalRead offset n) = Some (LocalRead 0 n)
shape_of (given.LocalWrite offset bytes) = Some (LocalWrite 0 bytes.items)
shape_of (given.LocalModify offset n f) = Some (LocalModify 0 n f)
shape_of (given.Cycle signals at f) = command_by signals (at % 4) 0 f

-- a cycle with a code of eight-byte data has its command at its offset
wide_put :
    (write : Bool) (f : Option functions.Modify) (at : ℕ) (l : Location) (lanes : List (Option ℕ))
    → wide_command write f at l lanes ≡ option_map (put at) (wide_command write f 0 l lanes)
wide_put write (Some f) at l lanes = refl
wide_put true None at l lanes = elim (cases_Bool ((row_of l).len == 4)) [ inl quad ↦ rw quad refl | inr other ↦ rw other refl ]
wide_put false None at l lanes =
    elim (cases_Bool ((row_of l).len == 4)) [
      | inl quad ↦ elim (cases_Bool (carries_all lanes)) [ inl all ↦ rw (quad, all) refl | inr some ↦ rw (quad, some) refl ]
      | inr other ↦ rw other refl
    ]

-- a cycle without a code of eight-byte data has its command at its offset
narrow_put :
    (block write : Bool) (f : Option functions.Modify) (at : ℕ) (l : Location) (lanes : List (Option ℕ))
    → narrow_command block write f at l lanes ≡ option_map (put at) (narrow_command block write f 0 l lanes)
narrow_put false true None at l lanes = refl
narrow_put true true None at l lanes = refl
narrow_put false false None at l lanes = elim (cases_Bool (carries l lanes)) [ inl all ↦ rw all refl | inr some ↦ rw some refl ]
narrow_put true false None at l lanes = elim (cases_Bool (carries l lanes)) [ inl all ↦ rw all refl | inr some ↦ rw some refl ]
narrow_put false true (Some f) at l lanes = refl
narrow_put false false (Some f) at l lanes = refl
narrow_put true true (Some f) at l lanes = refl
narrow_put true false (Some f) at l lanes = refl

-- a cycle with any code has its command at its offset
command_put :
    (am : CodeRow) (write : Bool) (f : Option functions.Modify) (at : ℕ) (l : Location) (lanes : List (Option ℕ))
    → command_at am write f at l lanes ≡ option_map (put at) (command_at am write f 0 l lanes)
command_put am write f at l lanes =
    elim (cases_Bool am.wide) [
      | inl wide ↦ rw wide (wide_put write f at l lanes)
      | inr narrow ↦ rw narrow (narrow_put (is_block am.kind) write f at l lanes)
    ]

-- a cycle has its command at its offset for any sensed location, or none
sensed_put :
    (s : SignalLines) (place at : ℕ) (f : Option functions.Modify) (sensed : Option Location)
    → option_and_then (λ l. if (row_of l).first == place then command_at s.am s.write f at l s.lanes else None) sensed
    ≡ option_map (put at)
    (option_and_then (λ l. if (row_of l).first == place then command_at s.am s.write f 0 l s.lanes else None) sensed)
sensed_put s place at f None = refl
sensed_put s place at f (Some l) =
    elim (cases_Bool ((row_of l).first == place)) [
      | inl here ↦ rw here (command_put s.am s.write f at l s.lanes)
      | inr away ↦ rw away refl
    ]

-- the command of the step has the caller's offset
given_put : (command : BoardCmd) → command_given command ≡ option_map (put (first_of command)) (shape_of command)
given_put (given.LocalRead offset n) = refl
given_put (given.LocalWrite offset bytes) = refl
given_put (given.LocalModify offset n f) = refl
given_put (given.Cycle signals at f) = sensed_put signals (at % 4) at f (sensed_at signals at)

-- a moved command at the same place in the group of four is the same command at the new offset
given_moved :
    (command : BoardCmd) (place : ℕ) → first_of command % 4 ≡ place % 4
    → command_given (moved_to place command) ≡ option_map (put place) (shape_of command)
given_moved (given.LocalRead offset n) place same = refl
given_moved (given.LocalWrite offset bytes) place same = refl
given_moved (given.LocalModify offset n f) place same = refl
given_moved (given.Cycle signals at f) place same =
    given_put (given.Cycle signals place f) ∙ ap (λ m. option_map (put place) (command_by signals m 0 f)) (sym same)

-- the number of bytes of a command
abbrev size_of : Command → ℕ
size_of (LocalRead offset len) = len
size_of (LocalWrite offset new) = length new
size_of (LocalModify offset len f) = len
size_of (Read offset len) = len
size_of (Write offset new) = length new
size_of (Modify offset len f) = len
size_of (BlockRead offset len) = len
size_of (BlockWrite offset new) = length new

-- whether a board carries out a command at an offset if its bytes lie within the board
abbrev allowed : Board → ℕ → Command → Bool
allowed board at (LocalRead offset len) = is_local_len len
allowed board at (LocalWrite offset new) = is_local_len (length new)
allowed board at (LocalModify offset len f) = is_local_len len && has_len f len
allowed board at (Read offset len) = has_cycle board at len
allowed board at (Write offset new) = has_cycle board at (length new)
allowed board at (Modify offset len f) = has_cycle board at len && is_modify_place at len && board.class.rmw && has_len f len
allowed board at (BlockRead offset len) = has_block_cycle board at len && is_block_place at len && board.class.blt
allowed board at (BlockWrite offset new) = has_block_cycle board at (length new) && is_block_place at (length new) && board.class.blt

-- the first of three tests is one test and the others together another
and_three : (a b c : Bool) → (a && b && c) ≡ (a && (b && c))
and_three true b c = refl
and_three false b c = refl

-- the first of four tests is one test and the others together another
and_four : (a b c d : Bool) → (a && b && c && d) ≡ (a && (b && c && d))
and_four true b c d = refl
and_four false b c d = refl

-- the first of five tests is one test and the others together another
and_five : (a b c d e : Bool) → (a && b && c && d && e) ≡ (a && (b && c && d && e))
and_five true b c d e = refl
and_five false b c d e = refl

-- a board carries out a command exactly if its bytes lie within the board and it is allowed
parted : (board : Board) (at : ℕ) (c : Command) → can_answer board (put at c) ≡ (fits board at (size_of c) && allowed board at c)
parted board at (LocalRead offset len) = refl
parted board at (LocalWrite offset new) = refl
parted board at (LocalModify offset len f) = and_three (fits board at len) (is_local_len len) (has_len f len)
parted board at (Read offset len) = refl
parted board at (Write offset new) = refl
parted board at (Modify offset len f) =
    and_five (fits board at len) (has_cycle board at len) (is_modify_place at len) board.class.rmw (has_len f len)
parted board at (BlockRead offset len) =
    and_four (fits board at len) (has_block_cycle board at len) (is_block_place at len) board.class.blt
parted board at (BlockWrite offset new) =
    and_four (fits board at (length new)) (has_block_cycle board at (length new)) (is_block_place at (length new)) board.class.blt

-- whether a command is allowed depends on its place in the group of four, and not on the board's bytes
allowed_by :
    (board : Board) (base at place : ℕ) (c : Command) → at % 4 ≡ place % 4
    → allowed board at c ≡ allowed (window_of board base) place c
allowed_by board base at place (LocalRead offset len) same = refl
allowed_by board base at place (LocalWrite offset new) same = refl
allowed_by board base at place (LocalModify offset len f) same = refl
allowed_by board base at place (Read offset len) same = cycle_by board at place len same
allowed_by board base at place (Write offset new) same = cycle_by board at place (length new) same
allowed_by board base at place (Modify offset len f) same =
    ap (λ has. has && is_modify_place at len && board.class.rmw && has_len f len) (cycle_by board at place len same)
    ∙ ap (λ may. has_cycle board place len && may && board.class.rmw && has_len f len) (modify_place_by at place len same)
allowed_by board base at place (BlockRead offset len) same =
    ap (λ has. has && is_block_place at len && board.class.blt) (block_cycle_by board at place len same)
    ∙ ap (λ may. has_block_cycle board place len && may && board.class.blt) (block_place_by at place len same)
allowed_by board base at place (BlockWrite offset new) same =
    ap (λ has. has && is_block_place at (length new) && board.class.blt) (block_cycle_by board at place (length new) same)
    ∙ ap (λ may. has_block_cycle board place (length new) && may && board.class.blt) (block_place_by at place (length new) same)

-- a command that is allowed has one to eight bytes
sized : (board : Board) (at : ℕ) (c : Command) → allowed board at c ≡ true → (0 < size_of c) × (size_of c ≤ 8)
sized board at (LocalRead offset len) may = local_sized len may
sized board at (LocalWrite offset new) may = local_sized (length new) may
sized board at (LocalModify offset len f) may = local_sized len (and_parts _ _ may).0
sized board at (Read offset len) may = cycle_sized board at len may
sized board at (Write offset new) may = cycle_sized board at (length new) may
sized board at (Modify offset len f) may = cycle_sized board at len (and_parts _ _ (and_parts _ _ (and_parts _ _ may).0).0).0
sized board at (BlockRead offset len) may = block_sized board at len (and_parts _ _ (and_parts _ _ may).0).0
sized board at (BlockWrite offset new) may = block_sized board at (length new) (and_parts _ _ (and_parts _ _ may).0).0

-- a test is replaced by one that is equal where a second test holds
under : (a b c : Bool) → (c ≡ true → a ≡ b) → (a && c) ≡ (b && c)
under a b true same = ap (λ a. a && true) (same refl)
under true true false same = refl
under true false false same = refl
under false true false same = refl
under false false false same = refl

-- bytes lie within a board exactly if they lie within its window
fits_by :
    (board : Board) (base place n : ℕ) → place < 4 → (0 < n) × (n ≤ 8) → fits board (base + place) n ≡ fits (window_of board base) place n
fits_by board base place n less some =
    let long = window_len board.bytes base 12 in
    elim (cases_Bool (nat_le (base + place + n) (length board.bytes))) [
      | inl fit ↦ let within = leb-true (base + place + n) (length board.bytes) fit in fit ∙ sym (le-leb _ _ (omega arith))
      | inr over ↦ let past = leb-false (base + place + n) (length board.bytes) over in over ∙ sym (lt-leb _ _ (omega arith))
    ]

-- a board carries out a command exactly if its window does
can_by :
    (board : Board) (word place : ℕ) (c : Command) → place < 4
    → can_answer board (put (4 * word + place) c) ≡ can_answer (window_of board (4 * word)) (put place c)
can_by board word place c less =
    let window = window_of board (4 * word) in
    let at = 4 * word + place in
    parted board at c
    ∙ ap (λ may. fits board at (size_of c) && may) (allowed_by board (4 * word) at place c (omega arith))
    ∙ under (fits board at (size_of c)) (fits window place (size_of c)) (allowed window place c)
    (λ may. fits_by board (4 * word) place (size_of c) less (sized window place c may))
    ∙ sym (parted window place c)

-- a board does not carry out a command past its last byte
cannot_past : (board : Board) (at : ℕ) (c : Command) → length board.bytes ≤ at → can_answer board (put at c) ≡ false
cannot_past board at c past =
    parted board at c
    ∙ under (fits board at (size_of c)) false (allowed board at c)
    (λ may. let some = sized board at c may in lt-leb _ _ (omega arith))

-- a function writes as many bytes as it found
value_len : (f : functions.Modify) (old : List ℕ) (len : ℕ) → has_len f len ≡ true → length old ≡ len → length (value f old) ≡ len
value_len Set [] len has long = long
value_len Set (byte ∷ old) len has long = long
value_len (Exchange put) old len has long = eqb-true _ _ has
value_len (Add by) old len has long = length-sum_of old by.items ∙ long
value_len (Compare expect put) old len has long =
    elim (cases_Bool (bytes_eq old expect.items)) [ inl same ↦ rw same (eqb-true _ _ (and_parts _ _ has).1) | inr other ↦ rw other long ]

-- a read within the bytes returns as many as asked for
read_len : (bytes : List ℕ) (at len : ℕ) → at + len ≤ length bytes → length (slice_range bytes at (at + len)) ≡ len
read_len bytes at len within = grind (arith, common_steps)

-- a reply alone changes nothing through a window
pub unchanged : (board : Board) (base : ℕ) (reply : Reply) → (reply, board) ≡ through board base (reply, window_of board base)
unchanged board base reply = ap (λ bytes. (reply, record board { bytes = bytes })) (sym (written_back board.bytes base 12))

-- a read is that of the window
read_within :
    (board : Board) (base place len : ℕ) → place + len ≤ length (window_of board base).bytes
    → read_at board (base + place) len ≡ through board base (read_at (window_of board base) place len)
read_within board base place len within =
    ap (λ bytes. (Bytes (record { items = bytes }), board)) (read_inside board.bytes base 12 place len within)
    ∙ unchanged board base (Bytes (record { items = bytes_at (window_of board base) place len }))

-- a write is that of the window
write_within :
    (board : Board) (base place : ℕ) (new : List ℕ) → base ≤ length board.bytes → place + length new ≤ length (window_of board base).bytes
    → write_at board (base + place) new ≡ through board base (write_at (window_of board base) place new)
write_within board base place new before within =
    ap (λ bytes. (Done, record board { bytes = bytes })) (written_inside board.bytes new base 12 place before within)

-- a read-modify-write is that of the window
modify_within :
    (board : Board) (base place len : ℕ) (f : functions.Modify) → base ≤ length board.bytes → place + len ≤ length (window_of board base).bytes
    → has_len f len ≡ true
    → modify_at board (base + place) len f ≡ through board base (modify_at (window_of board base) place len f)
modify_within board base place len f before within has =
    let old = bytes_at (window_of board base) place len in
    let long = value_len f old len has (read_len (window_of board base).bytes place len within) in
    ap (λ bytes. (Bytes (record { items = bytes }), record board { bytes = bytes_after_write board.bytes (base + place) (value f bytes) }))
    (read_inside board.bytes base 12 place len within)
    ∙ ap (λ bytes. (Bytes (record { items = old }), record board { bytes = bytes }))
    (written_inside board.bytes (value f old) base 12 place before (omega arith))

-- a command that is carried out has the effect of the window
effect_within :
    (board : Board) (base place : ℕ) (c : Command) → base ≤ length board.bytes → place + size_of c ≤ length (window_of board base).bytes
    → allowed (window_of board base) place c ≡ true
    → effect_of board (put (base + place) c) ≡ through board base (effect_of (window_of board base) (put place c))
effect_within board base place (LocalRead offset len) before within may = read_within board base place len within
effect_within board base place (LocalWrite offset new) before within may = write_within board base place new before within
effect_within board base place (LocalModify offset len f) before within may = modify_within board base place len f before within (and_parts _ _ may).1
effect_within board base place (Read offset len) before within may = read_within board base place len within
effect_within board base place (Write offset new) before within may = write_within board base place new before within
effect_within board base place (Modify offset len f) before within may = modify_within board base place len f before within (and_parts _ _ may).1
effect_within board base place (BlockRead offset len) before within may = read_within board base place len within
effect_within board base place (BlockWrite offset new) before within may = write_within board base place new before within

-- the step of a command, by whether the board carries it out
step_by :
    (board : Board) (c : Command) (can : Bool) → can_answer board c ≡ can → step board c ≡ (if can then effect_of board c else (Berr, board))
step_by board c can is = ap (λ can. if can then effect_of board c else (Berr, board)) is

-- the step of a command is that of the window
step_within :
    (board : Board) (word place : ℕ) (c : Command) → place < 4
    → step board (put (4 * word + place) c) ≡ through board (4 * word) (step (window_of board (4 * word)) (put place c))
step_within board word place c less =
    let base = 4 * word in
    let window = window_of board base in
    let same = can_by board word place c less in
    elim (cases_Bool (can_answer window (put place c))) [
      | inl can ↦
          let both = and_parts (fits window place (size_of c)) (allowed window place c) (sym (parted window place c) ∙ can) in
          let within = leb-true (place + size_of c) (length window.bytes) both.0 in
          let some = sized window place c both.1 in
          let long = window_len board.bytes base 12 in
          step_by board (put (base + place) c) true (same ∙ can)
          ∙ effect_within board base place c (omega arith) within both.1
          ∙ ap (through board base) (sym (step_by window (put place c) true can))
      | inr cannot ↦
          step_by board (put (base + place) c) false (same ∙ cannot)
          ∙ unchanged board base Berr
          ∙ ap (through board base) (sym (step_by window (put place c) false cannot))
    ]

-- the answer to a command, if any, is that of the window
option_within :
    (board : Board) (word place : ℕ) (o : Option Command) → place < 4
    → answer board (option_map (put (4 * word + place)) o)
    ≡ through board (4 * word) (answer (window_of board (4 * word)) (option_map (put place) o))
option_within board word place None less = unchanged board (4 * word) Berr
option_within board word place (Some c) less = step_within board word place c less

-- the answer to a command past the last byte, if any, is a bus error
option_past :
    (board : Board) (at : ℕ) (o : Option Command) → length board.bytes ≤ at → answer board (option_map (put at) o) ≡ (Berr, board)
option_past board at None past = refl
option_past board at (Some c) past = step_by board (put at c) false (cannot_past board at c past)

-- the answer to a caller's command is that of the window
pub answered_within :
    (board : Board) (command : BoardCmd) (word place : ℕ) → place < 4 → first_of command ≡ 4 * word + place
    → answer_given board command ≡ through board (4 * word) (answer_given (window_of board (4 * word)) (moved_to place command))
unfolding answer_given
answered_within board command word place less first =
    let base = 4 * word in
    ap (answer board) (given_put command ∙ ap (λ at. option_map (put at) (shape_of command)) first)
    ∙ option_within board word place (shape_of command) less
    ∙ ap (λ o. through board base (answer (window_of board base) o)) (sym (given_moved command place (omega arith)))

-- the answer to a caller's command past the last byte is a bus error
pub answered_past :
    (board : Board) (command : BoardCmd) → length board.bytes ≤ first_of command → answer_given board command ≡ (Berr, board)
unfolding answer_given
answered_past board command past = ap (answer board) (given_put command) ∙ option_past board (first_of command) (shape_of command) past

-- a read-modify-write that a board carries out keeps the number of its bytes
modify_len : (board : Board) (at len : ℕ) (f : functions.Modify) → at + len ≤ length board.bytes → has_len f len ≡ true
    → length (modify_at board at len f).1.bytes ≡ length board.bytes
modify_len board at len f fit has =
    let long = value_len f (bytes_at board at len) len has (read_len board.bytes at len fit) in
    written_len board.bytes (value f (bytes_at board at len)) at (omega arith)

-- a command that a board carries out keeps the number of its bytes
effect_len : (board : Board) (c : Command) → can_answer board c ≡ true → length (effect_of board c).1.bytes ≡ length board.bytes
effect_len board (LocalRead at len) can = refl
effect_len board (LocalWrite at new) can = written_len board.bytes new at (leb-true _ _ (and_parts _ _ can).0)
effect_len board (LocalModify at len f) can =
    modify_len board at len f (leb-true _ _ (and_parts _ _ (and_parts _ _ can).0).0) (and_parts _ _ can).1
effect_len board (Read at len) can = refl
effect_len board (Write at new) can = written_len board.bytes new at (leb-true _ _ (and_parts _ _ can).0)
effect_len board (Modify at len f) can =
    modify_len board at len f (leb-true _ _ (and_parts _ _ (and_parts _ _ (and_parts _ _ (and_parts _ _ can).0).0).0).0) (and_parts _ _ can).1
effect_len board (BlockRead at len) can = refl
effect_len board (BlockWrite at new) can = written_len board.bytes new at (leb-true _ _ (and_parts _ _ (and_parts _ _ (and_parts _ _ can).0).0).0)

-- a step keeps the number of bytes
step_len : (board : Board) (c : Command) → length (step board c).1.bytes ≡ length board.bytes
step_len board c =
    elim (cases_Bool (can_answer board c)) [
      | inl can ↦ ap (λ p. length p.1.bytes) (step_by board c true can) ∙ effect_len board c can
      | inr cannot ↦ ap (λ p. length p.1.bytes) (step_by board c false cannot)
    ]

-- a command, if there is one, keeps the number of bytes
answer_len : (board : Board) (o : Option Command) → length (answer board o).1.bytes ≡ length board.bytes
answer_len board None = refl
answer_len board (Some c) = step_len board c

-- a caller's command keeps the number of bytes
pub given_len : (board : Board) (command : BoardCmd) → length (answer_given board command).1.bytes ≡ length board.bytes
unfolding answer_given
given_len board command = answer_len board (command_given command)

-- a reply through a window of which nothing changed is that of the board, which stays as it is
pub stepped_same :
    (board window new : Board) (command moved : BoardCmd) (base : ℕ) (reply : Reply)
    → answer_given board command ≡ through board base (answer_given (window_of board base) moved) → window ≡ window_of board base
    → reply ≡ (answer_given window moved).0 → new ≡ (answer_given window moved).1 → window ≡ new → (board, reply) ≡ board_step board command
stepped_same board window new command moved base reply law same of_reply of_new kept =
    let here : (reply, board) ≡ answer_given board command =
    unchanged board base reply
    ∙ ap (λ w. through board base (reply, w)) (sym same ∙ kept ∙ of_new)
    ∙ ap (λ r. through board base (r, (answer_given window moved).1)) of_reply
    ∙ ap (λ w. through board base (answer_given w moved)) same
    ∙ sym law in
    ap (λ p. (p.1, p.0)) here

-- a reply through a window, and the board with the window's new bytes
pub stepped_new :
    (board window new : Board) (command moved : BoardCmd) (base : ℕ) (reply : Reply)
    → answer_given board command ≡ through board base (answer_given (window_of board base) moved) → window ≡ window_of board base
    → reply ≡ (answer_given window moved).0 → new ≡ (answer_given window moved).1
    → (record board { bytes = bytes_after_write board.bytes base new.bytes }, reply) ≡ board_step board command
stepped_new board window new command moved base reply law same of_reply of_new =
    let here : through board base (reply, new) ≡ answer_given board command =
    ap (λ w. through board base (reply, w)) of_new
    ∙ ap (λ r. through board base (r, (answer_given window moved).1)) of_reply
    ∙ ap (λ w. through board base (answer_given w moved)) same
    ∙ sym law in
    ap (λ p. (p.1, p.0)) here

-- the bytes of a window lie within the board
pub window_fits : (board window new : Board) (command : BoardCmd) (base : ℕ) → base ≤ length board.bytes → window ≡ window_of board base
    → new ≡ (answer_given window command).1 → base + length new.bytes ≤ length board.bytes
window_fits board window new command base before same of_new =
    let long : length new.bytes ≡ length window.bytes = ap (λ b. length b.bytes) of_new ∙ given_len window command in
    let own : length window.bytes ≡ length (slice_range board.bytes base (base + 12)) = ap (λ b. length b.bytes) same in
    omega (arith, window_len board.bytes base 12, long, own, before)
