-- The command of a datum of a transfer.
use Rattle.vme_memory.specs.declared.access.Access.{Access}
use Rattle.vme_memory.specs.declared.access.Access.TheVariants as accesses
use Rattle.vme_memory.specs.Steps.{Command, Modify, read_command, write_command}

-- the command of a datum: a read or a write, single or in a block, or a read-modify-write
abbrev pub accessed : Access → Command
accessed (accesses.Read block at n) = read_command block at n
accessed (accesses.Write block at bytes) = write_command block at bytes.now
accessed (accesses.Modify at n f) = Modify at n f.now
