use Rattle.std.proofs.Common.{◌≡◌, [], ◌∷◌}
use Rattle.vme_object.specs.History.{entry}
use Rattle.vme_port_array.specs.Parts.{indexed}
use Rattle.vme_port_array.specs.Arrays.{opening, passes_of}
use Rattle.vme_port_array.proofs.port_array.PortArray.attempt.Given as goal

-- the take states with which objects, and for how many passes, the array was opened
abbrev pub ghosts-take : goal.ghosts-take
ghosts-take g a = record { opened = λ objects passes. (objects ≡ opening a.self.now) × (passes ≡ passes_of a.self.now) }

-- a put without an entry states with which objects, and for how many passes, the array was opened
abbrev pub ghosts-put_unchanged : goal.ghosts-put_unchanged
ghosts-put_unchanged g a = record { opened = λ objects passes. (objects ≡ opening a.self.now) × (passes ≡ passes_of a.self.now) }

-- a put of one entry states with which objects, and for how many passes, the array was opened
abbrev pub ghosts-put_entry-W-OpeningWitness : goal.ghosts-put_entry-W-OpeningWitness
ghosts-put_entry-W-OpeningWitness g a = record { opened = λ objects passes. (objects ≡ opening a.self.now) × (passes ≡ passes_of a.self.now) }

-- the put adds the entry of the call
abbrev pub ghosts-put_entry-E-EntryWitness : goal.ghosts-put_entry-E-EntryWitness
ghosts-put_entry-E-EntryWitness g a = record { entries = entry a.who (indexed a.index (g.A.Operation.command a.asked.now)) a.reply.now ∷ [] }
