-- The verdict on a text that is not a document.
use Rattle.std.proofs.Common.{◌≡◌, ℕ, List, Some, None, Err, refl, ap}
use Rattle.std.specs.Prelude.{IsUtf8}
use Rattle.toml.specs.Parse.{parse_document}
use Rattle.vme_script.specs.declared.fault.ConfigFault.TheVariants.{NotToml}
use Rattle.vme_script.specs.Readings.{configuration_in}
use Rattle.vme_faults.specs.declared.finding.Finding.{Finding}
use Rattle.vme_check.specs.Verdicts.{first_refusal, AreFindingsOf}

-- the findings of a text that is not a document
pub not_a_document :
    (input : List ℕ) (findings : List Finding) → (IsUtf8 input → parse_document input ≡ None) → first_refusal findings ≡ Some NotToml
    → AreFindingsOf input findings
unfolding configuration_in
not_a_document input findings none first = (Err NotToml, ((λ text. ap configuration_in (none text)), (λ bytes. refl)), first)
