-- The turns of a file that are left.
use Rattle.std.proofs.Common.{◌≡◌, ℕ, zero, suc, ◌+◌, ◌-◌, ◌<◌, ◌≤◌, ◌≢◌, List, [], ◌∷◌, ◌++◌, length, drop, get_or, replicate, Some, refl, ap, sym, ◌∙◌, arith, append_assoc}
use Rattle.std.specs.Prelude.{slice_get}
use Rattle.std.proofs.lemmas.List.{drop_all, drop_more, length-map}
use Rattle.std.proofs.lemmas.Option.{slice_get_within, get_or_from_slice_get}
use Rattle.vme_script.specs.declared.board.BoardConfig.{BoardConfig}
use Rattle.vme_script.specs.Configurations.{Configuration}
use Rattle.vme_stepper.specs.Schedules.{schedule_turns, round_turns, file_turns}
use Rattle.vme_trace.specs.Turns.{board_slots}

-- a configuration has as many slots as boards
pub slot_count : (config : Configuration) → length (board_slots config) ≡ length config.boards
slot_count config = length-map config.boards (λ (board : BoardConfig). board.slot)

-- at the start all turns are left
pub all_turns : (config : Configuration) (board rounds : ℕ) → length config.boards ≤ board → rounds ≡ config.rounds
    → schedule_turns config.schedule ++ (drop board (board_slots config) ++ round_turns rounds (board_slots config)) ≡ file_turns config
unfolding file_turns
all_turns config board rounds over same =
    ap (λ (left : List ℕ). schedule_turns config.schedule ++ (left ++ round_turns rounds (board_slots config)))
    (drop_all board (board_slots config) (omega (arith, over, slot_count config)))
    ∙ ap (λ n. schedule_turns config.schedule ++ round_turns n (board_slots config)) same

-- a pair of the schedule begins
pub pair_begins : (schedule : List (ℕ × ℕ)) (later : List ℕ) (slot left pair : ℕ) → left ≡ 0 → pair < length schedule
    → replicate (get_or schedule pair (0, 0)).1 (get_or schedule pair (0, 0)).0 ++ (schedule_turns (drop (pair + 1) schedule) ++ later)
    ≡ replicate left slot ++ (schedule_turns (drop pair schedule) ++ later)
pair_begins schedule later slot left pair none within =
    sym (append_assoc (replicate (get_or schedule pair (0, 0)).1 (get_or schedule pair (0, 0)).0) (schedule_turns (drop (pair + 1) schedule)) later)
    ∙ ap (λ (l : List (ℕ × ℕ)). schedule_turns l ++ later) (sym (drop_more schedule pair (0, 0) within))
    ∙ ap (λ (n : ℕ). replicate n slot ++ (schedule_turns (drop pair schedule) ++ later)) (sym none)

-- a turn of the current pair
pub pair_next : (slot left : ℕ) (later : List ℕ) → left ≢ 0 → replicate left slot ++ later ≡ slot ∷ (replicate (left - 1) slot ++ later)
pair_next slot zero later some = absurd (some refl)
pair_next slot (suc left) later some = ap (λ (n : ℕ). slot ∷ (replicate n slot ++ later)) same
  where
    same : left ≡ suc left - 1
    same = omega arith

-- after the schedule only turns of rounds are left
pub only_rounds : (schedule : List (ℕ × ℕ)) (later : List ℕ) (slot left pair : ℕ) → left ≡ 0 → length schedule ≤ pair
    → replicate left slot ++ (schedule_turns (drop pair schedule) ++ later) ≡ later
only_rounds schedule later slot left pair none over =
    ap (λ (n : ℕ). replicate n slot ++ (schedule_turns (drop pair schedule) ++ later)) none
    ∙ ap (λ (l : List (ℕ × ℕ)). schedule_turns l ++ later) (drop_all pair schedule over)

-- a turn of the current round
pub board_next : (slots later : List ℕ) (board slot : ℕ) → slice_get slots board ≡ Some slot
    → drop board slots ++ later ≡ slot ∷ (drop (board + 1) slots ++ later)
board_next slots later board slot found =
    ap (λ (left : List ℕ). left ++ later)
    (drop_more slots board slot (slice_get_within slots board slot found)
    ∙ ap (λ (s : ℕ). s ∷ drop (board + 1) slots) (get_or_from_slice_get slots board slot slot found))

-- after a round the next begins
pub round_next : (slots : List ℕ) (board rounds : ℕ) → length slots ≤ board → rounds ≢ 0
    → slots ++ round_turns (rounds - 1) slots ≡ drop board slots ++ round_turns rounds slots
round_next slots board zero over some = absurd (some refl)
round_next slots board (suc rounds) over some =
    ap (λ (n : ℕ). slots ++ round_turns n slots) same
    ∙ ap (λ (left : List ℕ). left ++ (slots ++ round_turns rounds slots)) (sym (drop_all board slots over))
  where
    same : suc rounds - 1 ≡ rounds
    same = omega arith

-- after the last round no turn is left
pub none_left : (slots : List ℕ) (board rounds : ℕ) → length slots ≤ board → rounds ≡ 0 → drop board slots ++ round_turns rounds slots ≡ []
none_left slots board rounds over none =
    ap (λ (n : ℕ). drop board slots ++ round_turns n slots) none ∙ ap (λ (left : List ℕ). left ++ []) (drop_all board slots over)
