use Rattle.vme_cycle.proofs.lemmas.Sums.{number_of-number_bytes, length-number_bytes, number_bytes-small, number_bytes-number_of, number_of-small}
use Rattle.vme_cycle.proofs.laws.bytes_are_their_number.Goals as goal

pub returns : goal.returns
returns c = record {
  number = number_of-number_bytes;
  len = length-number_bytes;
  each = number_bytes-small;
  bytes = number_bytes-number_of;
  small = number_of-small;
}
