-- A block write, given datum by datum: for each datum the fill with it.
use Rattle.std.specs.Prelude.{ℕ, ◌+◌, ◌*◌, ◌/◌, ◌%◌, ◌==◌, if◌then◌else◌, List, length, slice_range}
use Rattle.vme_cycle.specs.BlockBuffers.{BlockBytes}
use Rattle.vme_cycle.specs.declared.request.Request.{Request}
use Rattle.vme_cycle.specs.declared.request.Request.TheVariants as requests
use Rattle.vme_cycle.specs.Lawful.{Transfer}

-- the number of data of n bytes of a block, and 0 if its length is not a multiple of n
abbrev pub data_count : BlockBytes → ℕ → ℕ
data_count bytes n = if length bytes.items % n == 0 then length bytes.items / n else 0

-- datum i of n bytes of a block
abbrev pub block_datum : BlockBytes → ℕ → ℕ → List ℕ
block_datum bytes n i = slice_range bytes.items (i * n) (i * n + n)

-- the fill with a datum, as often as a block has data
abbrev pub fill_of : ℕ → ℕ → ℕ → BlockBytes → List ℕ → Request
fill_of am addr n bytes datum = requests.BlockFill am addr n (data_count bytes n) (record { items = datum })

-- the transfer of the fill with datum i of a block, with the row of the block's code
abbrev pub fill_with : Transfer → ℕ → ℕ → ℕ → BlockBytes → ℕ → Transfer
fill_with t am addr n bytes i = record { am = t.am; request = fill_of am addr n bytes (block_datum bytes n i) }
