use Rattle.std.proofs.Common.{◌≡◌, ◌-◌, map, drop}
use Rattle.std.specs.Prelude.{find, option_map}
use Rattle.std.specs.List.{enumerate_from}
use Rattle.vme_decode.specs.Select.{responds, selection_at}
use Rattle.vme_c_types.specs.Boards.{entry_of}
use Rattle.vme_ffi.proofs.map.selected.Given as goal

-- no entry so far responds
abbrev pub invariant-loop-place : goal.invariant-loop-place
invariant-loop-place l =
    option_map (λ found. (found.0, l.addr - found.1.base))
    (find (λ found. responds found.1 l.am l.addr) (enumerate_from l.place (map entry_of (drop l.place l.entries))))
    ≡ selection_at (map entry_of l.entries) l.am l.addr
