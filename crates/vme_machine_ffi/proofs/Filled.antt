-- Processors that are each in a struct are determined by what the structs have.
use Rattle.std.proofs.Common.{◌≡◌, ◌∙◌, List, [], ◌∷◌, ap, refl, sym}
use Rattle.std.specs.declared.option.Option.{Option}
use Rattle.std.specs.declared.option.Option.TheVariants.{None, Some}
use Rattle.vme_processor.specs.declared.processor.Processor.{Processor}
use Rattle.vme_machine_ffi.specs.Structs.{full}

abbrev present : List (Option Processor) → List Processor
present [] = []
present (None ∷ xs) = present xs
present (Some p ∷ xs) = p ∷ present xs

present_full : (ps : List Processor) → present (full ps) ≡ ps
present_full [] = refl
present_full (p ∷ ps) = ap (λ l. p ∷ l) (present_full ps)

pub full_same : (ps qs : List Processor) → full ps ≡ full qs → ps ≡ qs
full_same ps qs e = sym (present_full ps) ∙ ap present e ∙ present_full qs
