use Rattle.vme_ffi.proofs.Fills.{same_refusal, given_lawful, given_signals}
use Rattle.vme_ffi.proofs.laws.block_writes_are_given_by_data.Goals as goal

-- the fill with one datum and the block write agree
pub returns : goal.returns
returns c = record { refused = same_refusal; lawful = given_lawful; signals = given_signals }
