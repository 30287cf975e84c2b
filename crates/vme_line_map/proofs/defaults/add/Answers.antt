-- A variable that does not fit is left out.
use Rattle.std.proofs.Common.{Ok}
use Rattle.std.specs.declared.alloc.AllocError.{AllocError}
use Rattle.vme_line_map.proofs.Fitting.{added_fitting}
use Rattle.vme_line_map.proofs.defaults.add.Goals as goal

pub returns : goal.returns
returns c =
    rw c.as_bytes.ensures.value at (added_fitting {F = AllocError} c.args.map.now c.add.new.self _ (Ok c.in_ok-add.field-0) c.in_ok-add.ensures.added c.in_ok-add.ensures.full)
