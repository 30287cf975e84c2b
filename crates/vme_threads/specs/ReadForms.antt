-- The form of the data of a read.
use Rattle.std.specs.Prelude.{ℕ, ◌≡◌, ◌≤◌, ◌*◌, ◌%◌}
use Rattle.vme_cycle.specs.declared.request.Request.{Request}
use Rattle.vme_cycle.specs.Requests.{addr_of, datum_len, count_of, read_len}
use Rattle.vme_memory.specs.Data.{datum_command}
use Rattle.vme_memory.specs.Steps.{read_command}
use Rattle.vme_master.specs.Jobs.{request_expected}
use Rattle.vme_master.specs.declared.expected.ExpectedReply.TheVariants.{Read}
use Rattle.vme_threads.specs.declared.read.ReadForm.{ReadForm}

-- a request is a read whose data have this form
pub record IsReadOf (request : Request) (form : ReadForm) : Type 0 where
  pub command : (i at : ℕ) → datum_command request i at ≡ read_command form.block at form.n
  pub expected : request_expected request ≡ Read form.n
  pub len : datum_len request ≡ form.n
  pub bytes : read_len request ≡ form.n * count_of request

-- the offset of a read's first byte is at most its address, and has the same remainder modulo four
abbrev pub IsPlaceOf : Request → ℕ × ℕ → Type 0
IsPlaceOf request place = (place.1 ≤ addr_of request) × (place.1 % 4 ≡ addr_of request % 4)
