-- The parts of a request.
use Rattle.std.specs.Prelude.{ℕ, ◌+◌, ◌*◌, ◌/◌, ◌%◌, Bool, true, false, ◌==◌, ◌&&◌, List, length, slice_range, Option, Some, None}
use Rattle.vme_cycle.specs.declared.request.Request.{Request}
use Rattle.vme_cycle.specs.declared.request.Request.TheVariants.{Read, Write, BlockRead, BlockWrite, BlockFill, Modify}
use Rattle.vme_cycle.specs.declared.modify.Modify as functions
use Rattle.vme_cycle.specs.Functions.{has_len}
use Rattle.vme_cycle.specs.Counts.{is_single_len, is_datum_len, is_modify_len, is_block_count, is_wide_code}

-- the address modifier code of a request
abbrev pub code_of : Request → ℕ
code_of (Read am addr n) = am
code_of (Write am addr bytes) = am
code_of (BlockRead am addr n count) = am
code_of (BlockWrite am addr n bytes) = am
code_of (BlockFill am addr n count bytes) = am
code_of (Modify am addr n f) = am

-- the address of the first byte of a request
abbrev pub addr_of : Request → ℕ
addr_of (Read am addr n) = addr
addr_of (Write am addr bytes) = addr
addr_of (BlockRead am addr n count) = addr
addr_of (BlockWrite am addr n bytes) = addr
addr_of (BlockFill am addr n count bytes) = addr
addr_of (Modify am addr n f) = addr

-- whether a request is a block transfer; IEEE 1014-1987, 2.3.7 (block transfer)
abbrev pub is_block_request : Request → Bool
is_block_request (Read am addr n) = false
is_block_request (Write am addr bytes) = false
is_block_request (BlockRead am addr n count) = true
is_block_request (BlockWrite am addr n bytes) = true
is_block_request (BlockFill am addr n count bytes) = true
is_block_request (Modify am addr n f) = false

-- the function of a read-modify-write request; IEEE 1014-1987, 2.3.8 (read-modify-write)
abbrev pub function_of : Request → Option functions.Modify
function_of (Read am addr n) = None
function_of (Write am addr bytes) = None
function_of (BlockRead am addr n count) = None
function_of (BlockWrite am addr n bytes) = None
function_of (BlockFill am addr n count bytes) = None
function_of (Modify am addr n f) = Some f

-- whether a request only reads
abbrev pub reads : Request → Bool
reads (Read am addr n) = true
reads (Write am addr bytes) = false
reads (BlockRead am addr n count) = true
reads (BlockWrite am addr n bytes) = false
reads (BlockFill am addr n count bytes) = false
reads (Modify am addr n f) = false

-- the number of bytes of each datum of a request
abbrev pub datum_len : Request → ℕ
datum_len (Read am addr n) = n
datum_len (Write am addr bytes) = length bytes.items
datum_len (BlockRead am addr n count) = n
datum_len (BlockWrite am addr n bytes) = n
datum_len (BlockFill am addr n count bytes) = n
datum_len (Modify am addr n f) = n

-- the number of data of a request
abbrev pub count_of : Request → ℕ
count_of (Read am addr n) = 1
count_of (Write am addr bytes) = 1
count_of (BlockRead am addr n count) = count
count_of (BlockWrite am addr n bytes) = length bytes.items / n
count_of (BlockFill am addr n count bytes) = count
count_of (Modify am addr n f) = 1

-- the bytes that a write drives as datum i: a block write is split into data, and a fill repeats one datum
abbrev pub datum_of : Request → ℕ → Option (List ℕ)
datum_of (Read am addr n) i = None
datum_of (Write am addr bytes) i = Some bytes.items
datum_of (BlockRead am addr n count) i = None
datum_of (BlockWrite am addr n bytes) i = Some (slice_range bytes.items (i * n) (i * n + n))
datum_of (BlockFill am addr n count bytes) i = Some bytes.items
datum_of (Modify am addr n f) i = None

-- whether the datum length and the number of data of a request are allowed and match its bytes; the code determines which
-- datum lengths a block may have
abbrev pub is_counted : Request → Bool
is_counted (Read am addr n) = is_single_len n
is_counted (Write am addr bytes) = is_single_len (length bytes.items)
is_counted (BlockRead am addr n count) = is_datum_len (is_wide_code am) n && is_block_count count
is_counted (BlockWrite am addr n bytes) =
    is_datum_len (is_wide_code am) n && is_block_count (length bytes.items / n) && length bytes.items % n == 0
is_counted (BlockFill am addr n count bytes) =
    is_datum_len (is_wide_code am) n && is_block_count count && length bytes.items == n
is_counted (Modify am addr n f) = is_modify_len n && has_len f n

-- the number of bytes that a request reads or writes in all
abbrev pub span_of : Request → ℕ
span_of request = datum_len request * count_of request

-- the number of bytes that a request reads in all
abbrev pub read_len : Request → ℕ
read_len (Read am addr n) = n
read_len (Write am addr bytes) = 0
read_len (BlockRead am addr n count) = n * count
read_len (BlockWrite am addr n bytes) = 0
read_len (BlockFill am addr n count bytes) = 0
read_len (Modify am addr n f) = n

-- the address of the first byte of datum i
abbrev pub address_of : Request → ℕ → ℕ
address_of request i = addr_of request + i * datum_len request
