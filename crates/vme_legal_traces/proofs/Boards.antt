-- The boards of a file stand in order of slots.
use Rattle.std.proofs.Common.{◌≡◌, ℕ, zero, suc, ◌<◌, ◌≤◌, Bool, true, false, not, ◌&&◌, List, [], ◌∷◌, length, map, Result, Ok, Err, refl, ap, sym, subst, arith}
use Rattle.std.specs.Prelude.{nat_lt, nat_le, slice_index_or}
use Rattle.std.proofs.lemmas.Bool.{ltb-true}
use Rattle.vme_memory.specs.declared.class.Class.{Class}
use Rattle.vme_decode.specs.declared.entry.Entry.{Entry}
use Rattle.vme_config_toml.specs.Files.{BoardValues, FileValues}
use Rattle.vme_script.specs.declared.board.BoardConfig.{BoardConfig}
use Rattle.vme_script.specs.declared.fault.ConfigFault.{ConfigFault}
use Rattle.vme_script.specs.declared.fault.ConfigFault.TheVariants.{BadSlot, BadLevel}
use Rattle.vme_script.specs.Answers.{◌>>=◌, refuse}
use Rattle.vme_script.specs.Boards.{entry_of, class_of, range_refused, board_config, boards_after}
use Rattle.vme_script.specs.Configurations.{Configuration, configuration_of}
use Rattle.vme_script.proofs.lemmas.Lawful.{made}
use Rattle.vme_legal_traces.specs.Kept.{HasBoardsInOrder}

-- if a part and the rest give a result, the part is not refused and the rest gives the result
opened : {A B : Type 0} (first : Result A ConfigFault) (rest : A → Result B ConfigFault) (y : B) → (first >>= rest) ≡ Ok y
    → (x : A) × (first ≡ Ok x) × (rest x ≡ Ok y)
opened (Err fault) rest y e = absurd (cc e)
opened (Ok x) rest y e = (x, refl, e)

-- a test that does not refuse
passes : (test : Bool) (fault : ConfigFault) (u : Unit {0}) → refuse test fault ≡ Ok u → test ≡ false
passes false fault u e = refl
passes true fault u e = absurd (cc e)

-- a slot that is not refused is above the one before
above_before : (above within : Bool) → not (above && within) ≡ false → above ≡ true
above_before true within e = refl
above_before false within e = absurd (cc e)

-- the slot of a configured board is above the one before, and is that of its values
config_slot : (before : ℕ) (value : BoardValues) (x : BoardConfig) → board_config before value ≡ Ok x → (before < x.slot) × (x.slot ≡ value.slot)
unfolding board_config
config_slot before value x e =
    let slot = opened (refuse (not (nat_lt before value.slot && nat_le value.slot 21)) BadSlot) _ x e in
    let level = opened (refuse (nat_lt 3 value.level) BadLevel) _ x slot.2 in
    let entry = opened (entry_of value.range) _ x level.2 in
    let class = opened (class_of value.class) _ x entry.2 in
    let range = opened (range_refused entry.0) _ x class.2 in
    let same : value.slot ≡ x.slot = slot_of value.slot value.level entry.0 class.0 x range.2 in
    let above : nat_lt before value.slot ≡ true = above_before (nat_lt before value.slot) (nat_le value.slot 21) (passes _ BadSlot slot.0 slot.1) in
    (subst (λ (n : ℕ). before < n) same (ltb-true before value.slot above), sym same)
  where
    slot_of : (slot level : ℕ) (entry : Entry) (class : Class) (x : BoardConfig)
        → ◌≡◌ {A = Result BoardConfig ConfigFault} (Ok (record { slot = slot; level = level; entry = entry; class = class })) (Ok x) → slot ≡ x.slot
    slot_of slot level entry class x e = ap (λ (b : BoardConfig). b.slot) (ok_is (record { slot = slot; level = level; entry = entry; class = class }) x e)
      where
        ok_is : (a b : BoardConfig) → ◌≡◌ {A = Result BoardConfig ConfigFault} (Ok a) (Ok b) → a ≡ b
        ok_is a b e = cc

-- the slots of boards rise, from above one on
abbrev Rises : ℕ → List BoardConfig → Type 0
Rises before [] = Unit {0}
Rises before (board ∷ more) = (before < board.slot) × Rises board.slot more

-- those of configured boards do
rises : (before : ℕ) (values : List BoardValues) (boards : List BoardConfig) → boards_after before values ≡ Ok boards → Rises before boards
rises before [] boards e = subst (Rises before) (list_is [] boards e) tt
  where
    list_is : (xs ys : List BoardConfig) → ◌≡◌ {A = Result (List BoardConfig) ConfigFault} (Ok xs) (Ok ys) → xs ≡ ys
    list_is xs ys e = cc
rises before (value ∷ values) boards e =
    let first = opened (board_config before value) _ boards e in
    let others = opened (boards_after value.slot values) _ boards first.2 in
    let own = config_slot before value first.0 first.1 in
    subst (Rises before) (list_is (first.0 ∷ others.0) boards others.2)
    (own.0, subst (λ (n : ℕ). Rises n others.0) (sym own.1) (rises value.slot values others.0 others.1))
  where
    list_is : (xs ys : List BoardConfig) → ◌≡◌ {A = Result (List BoardConfig) ConfigFault} (Ok xs) (Ok ys) → xs ≡ ys
    list_is xs ys e = cc

-- the slot of the board at an index
abbrev slot_in : List BoardConfig → ℕ → ℕ
slot_in boards board = slice_index_or (map (λ one. one.slot) boards) board 0

-- each slot is above the one before the first
above_first : (before : ℕ) (boards : List BoardConfig) (j : ℕ) → Rises before boards → j < length boards → before < slot_in boards j
above_first before [] j up there = absurd (omega (arith, there))
above_first before (x ∷ xs) zero up there = up.0
above_first before (x ∷ xs) (suc j) up there = omega (arith, up.0, above_first x.slot xs j up.1 (omega (arith, there)))

-- a later board is in a higher slot
in_order : (before : ℕ) (boards : List BoardConfig) (a b : ℕ) → Rises before boards → a ≤ b → b < length boards → slot_in boards a ≤ slot_in boards b
in_order before [] a b up order there = absurd (omega (arith, there))
in_order before (x ∷ xs) zero zero up order there = omega arith
in_order before (x ∷ xs) zero (suc j) up order there = omega (arith, above_first x.slot xs j up.1 (omega (arith, there)))
in_order before (x ∷ xs) (suc i) zero up order there = absurd (omega (arith, order))
in_order before (x ∷ xs) (suc i) (suc j) up order there = in_order x.slot xs i j up.1 (omega (arith, order)) (omega (arith, there))

-- the boards of a file stand in order of slots
pub file_in_order : (file : FileValues) (config : Configuration) → configuration_of file ≡ Ok config → HasBoardsInOrder config
file_in_order file config is a b order there = in_order 0 config.boards a b (rises 0 file.boards config.boards (made file config is).boards) order there
