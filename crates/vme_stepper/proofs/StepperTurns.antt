-- A turn of a processor in the stepper.
use Rattle.std.proofs.Common.{◌≡◌, ℕ, ◌<◌, List, length, get_or, Some, refl, sym, ap, ◌∙◌, arith}
use Rattle.std.specs.Prelude.{slice_get, slice_set}
use Rattle.std.proofs.lemmas.List.{length-set}
use Rattle.std.proofs.lemmas.Option.{slice_get_read}
use Rattle.vme_core.specs.Runs.{Machine}
use Rattle.vme_core.specs.Machines.{process_count}
use Rattle.vme_script.specs.Configurations.{Configuration}
use Rattle.vme_stepper.specs.Steppers.{ProcessorView, StepperView, processor_turn, stepper_turn, IsProcessorOf, IsStepperOf}
use Rattle.vme_stepper.proofs.Steps.{set_each}

module _ (config : Configuration) (self : StepperView) (machine : Machine) (processors : List ProcessorView) (board : ℕ) (processor : ProcessorView)
    (is : record { machine = machine; processors = processors } ≡ self) (sound : IsStepperOf config self) (there : board < length config.boards)
    (read : processor ≡ get_or processors board processor) where
  -- the stepper's processor at the index of the board is this one
  pub processor_there : slice_get self.processors board ≡ Some processor
  processor_there =
      ap (λ (d : StepperView). slice_get d.processors board) (sym is)
      ∙ slice_get_read processors (length processors) board processor refl (omega (arith, ap (λ (d : StepperView). length d.processors) is, sound.count)) read

  -- the processor of the board is one of the configuration
  pub processor_sound : IsProcessorOf config board processor
  processor_sound = sound.each board processor processor_there

  -- the stepper with the machine and the processor after a turn is the stepper after the turn
  pub turned : (after : Machine) (new : ProcessorView) → (after, new) ≡ processor_turn config board machine processor
      → record { machine = after; processors = slice_set processors board new } ≡ stepper_turn config self board
  turned after new turn =
      let same : machine ≡ self.machine = ap (λ (d : StepperView). d.machine) is in
      let own : processors ≡ self.processors = ap (λ (d : StepperView). d.processors) is in
      rw processor_there
      (rw (own, ← same) (ap (λ (p : Machine × ProcessorView). record { machine = p.0; processors = slice_set self.processors board p.1 }) turn))

  -- the stepper after the turn is still one of the configuration
  pub turned_sound : (after : Machine) (new : ProcessorView) → IsProcessorOf config board new → process_count after ≡ process_count machine → length after.boards ≡ length machine.boards
      → IsStepperOf config (record { machine = after; processors = slice_set processors board new })
  turned_sound after new good same_process_count same_boards = record {
    boards = same_boards ∙ ap (λ (d : StepperView). length d.machine.boards) is ∙ sound.boards;
    process_count = same_process_count ∙ ap (λ (d : StepperView). process_count d.machine) is ∙ sound.process_count;
    count = length-set processors board new ∙ ap (λ (d : StepperView). length d.processors) is ∙ sound.count;
    each = λ b other found.
        set_each (IsProcessorOf config) processors board b new other
        (λ j one at. sound.each j one (ap (λ (d : StepperView). slice_get d.processors j) (sym is) ∙ at)) good found;
  }
