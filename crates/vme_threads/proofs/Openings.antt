-- The opening objects of a configuration, one by one.
use Rattle.std.proofs.Common.{◌≡◌, ℕ, ◌+◌, ◌≤◌, List, [], ◌∷◌, ◌++◌, length, map, take, Some, ap, sym, ◌∙◌, arith}
use Rattle.std.specs.List.{slice_get}
use Rattle.std.proofs.lemmas.List.{map-append}
use Rattle.vme_memory.specs.Boards.{Board}
use Rattle.vme_arbiter.specs.Arbitration.{Arbitration, opening_bus}
use Rattle.vme_bus_objects.specs.declared.object.BusObject.{BusObject}
use Rattle.vme_bus_objects.specs.declared.object.BusObject.TheVariants as objects
use Rattle.vme_script.specs.declared.board.BoardConfig.{BoardConfig}
use Rattle.vme_script.specs.Configurations.{Configuration, opening_memory}
use Rattle.vme_threads.specs.Settlements.{opening_objects}
use Rattle.vme_threads.proofs.Places.{take_one, take_whole, map_length, map_twice}

-- the first n boards as objects, with zero memory
abbrev pub first_objects : Configuration → ℕ → List BusObject
first_objects config n = map (λ (m : Board). objects.Board m) (take n (map opening_memory config.boards))

-- the first boards and the next one are one more of the first boards
pub one_more_object :
    (config : Configuration) (n : ℕ) (memory : Board) (os new : List BusObject)
    → slice_get (map opening_memory config.boards) n ≡ Some memory
    → os ≡ first_objects config n → new ≡ os ++ objects.Board memory ∷ [] → new ≡ first_objects config (n + 1)
one_more_object config n memory os new there was is =
    let f = λ (m : Board). objects.Board m in
    let memories = map opening_memory config.boards in
    let more : map f (take (n + 1) memories) ≡ map f (take n memories) ++ f memory ∷ [] =
    ap (map f) (take_one memories n memory there) ∙ map-append f (take n memories) (memory ∷ [])
    in
    is ∙ ap (λ (l : List BusObject). l ++ f memory ∷ []) was ∙ sym more

-- all boards, and the arbiter after them, are the opening objects
pub all_objects :
    (config : Configuration) (n : ℕ) (os new : List BusObject) (bus : Arbitration) → length config.boards ≤ n
    → os ≡ first_objects config n
    → bus ≡ opening_bus config.arbiter → new ≡ os ++ objects.Arbiter bus ∷ [] → new ≡ opening_objects config
all_objects config n os new bus whole was free is =
    let f = λ (m : Board). objects.Board m in
    let memories = map opening_memory config.boards in
    let boards = map (λ (own : BoardConfig). objects.Board (opening_memory own)) config.boards in
    let every : os ≡ boards =
    was ∙ ap (map f) (take_whole memories n (omega (arith, whole, map_length opening_memory config.boards)))
    ∙ map_twice f opening_memory config.boards
    in
    is ∙ ap (λ (l : List BusObject). l ++ objects.Arbiter bus ∷ []) every
    ∙ ap (λ (b : Arbitration). boards ++ objects.Arbiter b ∷ []) free
