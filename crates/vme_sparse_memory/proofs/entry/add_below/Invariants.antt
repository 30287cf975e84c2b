use Rattle.std.proofs.Common.{◌≡◌, ◌++◌, nat_lt, take}
use Rattle.std.specs.List.{filter}
use Rattle.vme_sparse_memory.specs.declared.entry.WordEntry.{WordEntry}
use Rattle.vme_sparse_memory.proofs.entry.add_below.Given as goal

abbrev pub invariant-loop-entry : goal.invariant-loop-entry
invariant-loop-entry l = l.new.items ≡ l.initial.new.items ++ filter (λ (entry : WordEntry). nat_lt entry.at l.at) (take l.entry-index l.entries)
