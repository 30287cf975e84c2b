-- The data of a request: the command of each datum, and the form of its reply.
use Rattle.std.specs.Prelude.{ℕ, ◌+◌, ◌*◌, Bool, true, false, ◌==◌, length, slice_range, Option, Some, None, is_none}
use Rattle.std.specs.Option.{option_map_or}
use Rattle.vme_cycle.specs.declared.request.Request.{Request}
use Rattle.vme_cycle.specs.declared.request.Request.TheVariants as requests
use Rattle.vme_memory.specs.declared.reply.Reply.{Reply}
use Rattle.vme_memory.specs.declared.reply.Reply.TheVariants.{Bytes, Done, Berr}
use Rattle.vme_memory.specs.Steps.{Command, LocalRead, LocalWrite, LocalModify, Read, Write, Modify, BlockRead, BlockWrite}

-- the command of datum i of a request at an offset: single or of a block; a block write is split into data, and a fill
-- repeats one datum
abbrev pub datum_command : Request → ℕ → ℕ → Command
datum_command (requests.Read am addr n) i at = Read at n
datum_command (requests.Write am addr bytes) i at = Write at bytes.items
datum_command (requests.BlockRead am addr n count) i at = BlockRead at n
datum_command (requests.BlockWrite am addr n bytes) i at = BlockWrite at (slice_range bytes.items (i * n) (i * n + n))
datum_command (requests.BlockFill am addr n count bytes) i at = BlockWrite at bytes.items
datum_command (requests.Modify am addr n f) i at = Modify at n f

-- the number of bytes of the reply to a command, if it replies with bytes; a read-modify-write replies with the old
-- bytes
abbrev pub reply_len : Command → Option ℕ
reply_len (LocalRead at len) = Some len
reply_len (LocalWrite at new) = None
reply_len (LocalModify at len f) = Some len
reply_len (Read at len) = Some len
reply_len (Write at new) = None
reply_len (Modify at len f) = Some len
reply_len (BlockRead at len) = Some len
reply_len (BlockWrite at new) = None

-- the number of bytes of the reply to each datum of a request, if it replies with bytes
abbrev pub datum_reply_len : Request → Option ℕ
datum_reply_len (requests.Read am addr n) = Some n
datum_reply_len (requests.Write am addr bytes) = None
datum_reply_len (requests.BlockRead am addr n count) = Some n
datum_reply_len (requests.BlockWrite am addr n bytes) = None
datum_reply_len (requests.BlockFill am addr n count bytes) = None
datum_reply_len (requests.Modify am addr n f) = Some n

-- whether a reply has the form of a command: bytes of that number, or Done where no bytes are expected, or a bus error
abbrev pub has_form : Option ℕ → Reply → Bool
has_form wanted (Bytes datum) = option_map_or (λ len. length datum.items == len) wanted false
has_form wanted Done = is_none wanted
has_form wanted Berr = true
