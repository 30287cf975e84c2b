-- The buffer has capacity for one byte.
use Rattle.std.proofs.Common.{◌≡◌, ap, arith}
use Rattle.vme_cycle.specs.Requests.{read_len}
use Rattle.vme_cycle.proofs.lemmas.Transfers.{comes_from}
use Rattle.vme_board_tests.proofs.transfers.a_request_of_its_own_goes_the_same_way.Goals as goal

pub start_owned-requires : goal.start_owned-requires
start_owned-requires g c = λ t lawful. let one : read_len t.request ≡ 1 = ap read_len (comes_from _ t lawful).same in omega (arith, one)
