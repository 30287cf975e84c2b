use Rattle.std.proofs.Common.{◌≡◌, ℕ, [], length, get_or}
use Rattle.vme_vcd_reader.proofs.table.Table.begin.Given as goal

-- so many lists are empty, and no variable is mapped
abbrev pub invariant-loop-place : goal.invariant-loop-place
invariant-loop-place l = record {
  rows : l.self.rows.items ≡ l.fn.self.rows.items;
  lists : l.fn.self.heads.items ≡ [] → (length l.self.heads.items ≡ l._place) × ((k : ℕ) → get_or l.self.heads.items k 0 ≡ 0);
}
