use Rattle.vme_engines.specs.Files.{IsRefusedAs}
use Rattle.vme_engines.proofs.InputFaults.{reported_holds}
use Rattle.vme_engines.proofs.file.read_config.Goals as goal

pub returns-clause-refused : goal.returns-clause-refused
returns-clause-refused g c fault refused =
    reported_holds (λ bytes. IsRefusedAs bytes fault) _ _ c.in_ok-input.ensures.whole
    (rw c.as_slice.ensures.value at c.parse_config.ensures.refused fault refused)
