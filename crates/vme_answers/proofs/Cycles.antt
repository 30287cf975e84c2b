-- The cycles of a class are those that its board carries out.
use Rattle.std.proofs.Common.{◌≡◌, ℕ, Bool, true, false, ◌&&◌, List, length, refl}
use Rattle.vme_cycle.specs.declared.modify.Modify.{Modify}
use Rattle.vme_cycle.specs.Functions.{has_len}
use Rattle.vme_memory.specs.Boards.{Board}
use Rattle.vme_memory.specs.Classes.{is_block_place, is_modify_place}
use Rattle.vme_memory.specs.Steps as Steps
use Rattle.vme_memory.specs.Steps.{fits, has_cycle, has_block_cycle, can_answer, read_command, write_command}
use Rattle.vme_answers.specs.Cycles.{has_datum, has_modify}

-- tests after a first one, together
first_of_four : (a b c d : Bool) → (a && b && c && d) ≡ (a && (b && c && d))
first_of_four true b c d = refl
first_of_four false b c d = refl

first_of_five : (a b c d e : Bool) → (a && b && c && d && e) ≡ (a && (b && c && d) && e)
first_of_five true b c d e = refl
first_of_five false b c d e = refl

pub reads : (board : Board) (block : Bool) (at len : ℕ)
    → can_answer board (read_command block at len) ≡ (fits board at len && has_datum board.class block at len)
reads board false at len = refl
reads board true at len =
    first_of_four (fits board at len) (has_block_cycle board at len) (is_block_place at len) board.class.blt

pub writes : (board : Board) (block : Bool) (at : ℕ) (new : List ℕ)
    → can_answer board (write_command block at new) ≡ (fits board at (length new) && has_datum board.class block at (length new))
writes board false at new = refl
writes board true at new =
    first_of_four (fits board at (length new)) (has_block_cycle board at (length new)) (is_block_place at (length new)) board.class.blt

pub modifies : (board : Board) (at len : ℕ) (f : Modify)
    → can_answer board (Steps.Modify at len f) ≡ (fits board at len && has_modify board.class at len && has_len f len)
modifies board at len f =
    first_of_five (fits board at len) (has_cycle board at len) (is_modify_place at len) board.class.rmw (has_len f len)
