-- What an array has at each index below its number of objects.
use Rattle.std.proofs.Common.{ℕ, ◌≡◌, ◌<◌, length, arith}
use mathlib.Core.Option.{some}
use lib.ListN.{get_elem?}
use Rattle.vme_port_array.specs.declared.port_array.PortArray.{PortArray}
use Rattle.vme_port_array.specs.Parts.{word_of}
use Rattle.vme_port_array.specs.Arrays.{opening, objects_of}
use Rattle.vme_port_array.proofs.lemmas.Lists.{there_is}

module _ {S C R : Type 0} (array : PortArray S C R) (i : ℕ) (less : i < objects_of array) where
  -- the array was opened with more objects than this index
  pub within : i < length (opening array)
  within = omega (arith, array.count, less)

  -- the object that the array was opened with at this index
  pub start_of : (start : S) × (get_elem? (opening array) i ≡ some start)
  start_of = there_is (opening array) i within

  -- the array has a word for this index
  pub has_word : word_of i < array.table.shared.table_id.words
  has_word = omega (arith, array.words, less)
