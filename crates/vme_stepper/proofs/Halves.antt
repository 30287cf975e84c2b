-- A turn of the stepper in two halves: the current line begins, and it makes its call.
use Rattle.std.proofs.Common.{◌≡◌, ℕ, zero, suc, ◌<◌, ◌≤◌, List, [], ◌∷◌, length, get_or, Option, Some, None, refl, sym, ap, subst, ◌∙◌, arith}
use Rattle.std.specs.Prelude.{slice_get, slice_set, IfSome, IsSome}
use Rattle.std.specs.Option.{option_map}
use Rattle.std.proofs.lemmas.Option.{same_Some}
use Rattle.vme_core.specs.Runs.{Machine}
use Rattle.vme_script.specs.Configurations.{Configuration}
use Rattle.vme_line_task.specs.declared.task.LineTask.{LineTask}
use Rattle.vme_line_task.specs.Machine.{IsLineBelow}
use Rattle.vme_stepper.specs.Steppers.{ProcessorView, StepperView, processor_turn, stepper_turned, stepper_turn, IsProcessorOf, IsStepperOf}
use Rattle.vme_stepper.specs.Lines.{processor_begun, stepper_begun_at, stepper_begun, line_of}
use Rattle.vme_stepper.proofs.Turning.{turn_over}
use Rattle.vme_stepper.proofs.StepperTurns.{processor_there, processor_sound, turned_sound}

-- an element that was set is there
get_set : {A : Type 0} (xs : List A) (i : ℕ) (new old : A) → slice_get xs i ≡ Some old → slice_get (slice_set xs i new) i ≡ Some new
get_set [] i new old found = absurd (cc found)
get_set (x ∷ xs) zero new old found = refl
get_set (x ∷ xs) (suc i) new old found = get_set xs i new old found

-- an element that is set twice has the second value
set_set : {A : Type 0} (xs : List A) (i : ℕ) (a b : A) → slice_set (slice_set xs i a) i b ≡ slice_set xs i b
set_set [] i a b = refl
set_set (x ∷ xs) zero a b = refl
set_set (x ∷ xs) (suc i) a b = ap (λ l. x ∷ l) (set_set xs i a b)

-- a processor with a current line has its task
has_task : (n : ℕ) (at : Option LineTask) → IsSome {T = ℕ × LineTask} (option_map {U = ℕ × LineTask} (λ task. (n, task)) at) → IsSome at
has_task n None some = some
has_task n (Some task) some = some

-- the task of a current line
own_task : (n : ℕ) (at : Option LineTask) (line : ℕ × LineTask) → option_map {U = ℕ × LineTask} (λ task. (n, task)) at ≡ Some line → at ≡ Some line.1
own_task n None line is = absurd (cc is)
own_task n (Some task) line is = ap (λ (l : ℕ × LineTask). Some l.1) (same_Some _ _ is)

-- without a current line there is no task
no_task : (n : ℕ) (at : Option LineTask) → option_map {U = ℕ × LineTask} (λ task. (n, task)) at ≡ None → at ≡ None
no_task n None none = refl
no_task n (Some task) none = absurd (cc none)

module _ (config : Configuration) (self : StepperView) (machine : Machine) (processors : List ProcessorView) (board : ℕ) (processor : ProcessorView)
    (is : record { machine = machine; processors = processors } ≡ self) (sound : IsStepperOf config self) (there : board < length config.boards)
    (read : processor ≡ get_or processors board processor) where
  own_there : slice_get self.processors board ≡ Some processor
  own_there = processor_there config self machine processors board processor is sound there read

  -- the processor is among those of the stepper's parts
  part_there : slice_get processors board ≡ Some processor
  part_there = ap (λ (d : StepperView). slice_get d.processors board) is ∙ own_there

  -- the stepper after the current line has begun
  pub begun : (new : ProcessorView) → new ≡ processor_begun config board processor
      → record { machine = machine; processors = slice_set processors board new } ≡ stepper_begun config self board
  begun new goes =
      ap (λ (p : ProcessorView). record { machine = machine; processors = slice_set processors board p }) goes
      ∙ ap (λ (d : StepperView). record { machine = d.machine; processors = slice_set d.processors board (processor_begun config board processor) }) is
      ∙ ap (stepper_begun_at config self board) (sym own_there)

  -- the turn of the stepper after the current line has begun is the turn before
  pub begun_turn : (new : ProcessorView) → ((m : Machine) → processor_turn config board m new ≡ processor_turn config board m processor)
      → stepper_turn config (record { machine = machine; processors = slice_set processors board new }) board ≡ stepper_turn config self board
  begun_turn new same =
      let next = processor_turn config board machine processor in
      rw (get_set processors board new processor part_there)
      (ap (λ (n : Machine × ProcessorView). record { machine = n.0; processors = slice_set (slice_set processors board new) board n.1 }) (same machine)
      ∙ ap (λ (ps : List ProcessorView). record { machine = next.0; processors = ps }) (set_set processors board new next.1)
      ∙ ap (stepper_turned config (record { machine = machine; processors = processors }) board) (sym part_there)
      ∙ ap (λ (d : StepperView). stepper_turn config d board) is)

  -- if no line is left, the turn is over
  pub begun_over : (new : ProcessorView) → ((m : Machine) → processor_turn config board m new ≡ processor_turn config board m processor)
      → IsProcessorOf config board new → (new.at ≡ None → length new.lines ≤ new.ended)
      → line_of (record { machine = machine; processors = slice_set processors board new }) board ≡ None
      → record { machine = machine; processors = slice_set processors board new } ≡ stepper_turn config self board
  begun_over new same good over none =
      let idle : new.at ≡ None = no_task _ new.at (rw (get_set processors board new processor part_there) at none) in
      let past = over idle in
      let stays = turn_over config board machine new (omega (arith, past, good.lines)) in
      sym (sym (begun_turn new same)
      ∙ rw (get_set processors board new processor part_there)
      (ap (λ (n : Machine × ProcessorView). record { machine = n.0; processors = slice_set (slice_set processors board new) board n.1 }) stays
      ∙ ap (λ (ps : List ProcessorView). record { machine = machine; processors = ps }) (set_set processors board new new)))

  -- the stepper after the current line has begun is still one of the configuration
  pub begun_sound : (new : ProcessorView) → IsProcessorOf config board new
      → IsStepperOf config (record { machine = machine; processors = slice_set processors board new })
  begun_sound new good = turned_sound config self machine processors board processor is sound there read machine new good refl refl

  -- the boards that the processor calls are those of the machine
  pub calls_there : IfSome processor.at (IsLineBelow (length machine.boards))
  calls_there =
      let good = processor_sound config self machine processors board processor is sound there read in
      let count : length machine.boards ≡ length config.boards = ap (λ (d : StepperView). length d.machine.boards) is ∙ sound.boards in
      subst (λ n. IfSome processor.at (IsLineBelow n)) (sym count) good.below

  -- the processor has a current line if the stepper says so
  pub has_current : IsSome (line_of self board) → IsSome processor.at
  has_current some = has_task _ processor.at (rw own_there at some)

  -- the task of the processor is that of the stepper's current line
  pub current_task : (line : ℕ × LineTask) → line_of self board ≡ Some line → processor.at ≡ Some line.1
  current_task line found = own_task _ processor.at line (rw own_there at found)

  -- the machine is the stepper's
  pub own_machine : machine ≡ self.machine
  own_machine = ap (λ (d : StepperView). d.machine) is

  -- the processor after the call is one of the configuration
  pub called_good : (new : ProcessorView) → new.script ≡ processor.script → length new.lines ≡ length processor.lines
      → IfSome new.at (IsLineBelow (length machine.boards)) → IsProcessorOf config board new
  called_good new script lines below =
      let good = processor_sound config self machine processors board processor is sound there read in
      let count : length machine.boards ≡ length config.boards = ap (λ (d : StepperView). length d.machine.boards) is ∙ sound.boards in
      record {
        script = script ∙ good.script;
        lines = lines ∙ good.lines;
        below = subst (λ n. IfSome new.at (IsLineBelow n)) count below;
      }
