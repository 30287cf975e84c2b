use Rattle.std.proofs.Common.{◌≡◌, [], ◌∷◌}
use Rattle.vme_object.specs.History.{entry}
use Rattle.vme_port.specs.Ports.{opening, passes_of}
use Rattle.vme_port.proofs.port.Port.attempt.Given as goal

-- the take states with which object, and for how many passes, the port was opened
abbrev pub ghosts-take : goal.ghosts-take
ghosts-take g a = record { opened = λ object passes. (object ≡ opening a.self.now) × (passes ≡ passes_of a.self.now) }

-- the put adds the entry of the call
abbrev pub ghosts-put_entry : goal.ghosts-put_entry
ghosts-put_entry g a = record { entries = entry a.who (g.A.Operation.command a.asked.now) a.reply.now ∷ [] }
