-- The words that name a kind of arbiter.
use Rattle.std.specs.Prelude.{ℕ, if◌then◌else◌, List, Result, Ok, Err, codes}
use Rattle.std.specs.Str.{bytes_eq}
use Rattle.vme_arbiter.specs.declared.kind.ArbiterKind.{ArbiterKind}
use Rattle.vme_arbiter.specs.declared.kind.ArbiterKind.TheVariants.{Priority, Rotating}
use Rattle.vme_script.specs.declared.fault.ConfigFault.{ConfigFault}
use Rattle.vme_script.specs.declared.fault.ConfigFault.TheVariants.{BadWord}

-- the kind of arbiter that a word names; any other word is refused
unfoldable pub kind_named : List ℕ → Result ArbiterKind ConfigFault
kind_named word =
    if bytes_eq word (codes "priority") then Ok Priority else
    (if bytes_eq word (codes "rotating") then Ok Rotating else Err BadWord)
