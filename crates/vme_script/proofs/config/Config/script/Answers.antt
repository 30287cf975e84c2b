-- There is a script for each board.
use Rattle.std.proofs.Common.{◌<◌, refl, ap, arith, length}
use Rattle.std.proofs.lemmas.Option.{slice_get_read}
use Rattle.vme_script.proofs.lemmas.Lawful.{configuration_known}
use Rattle.vme_script.proofs.config.Config.script.Goals as goal

pub index-requires : goal.index-requires
index-requires c =
    let known = configuration_known c.self.invariant.1.0 _ c.self.invariant.1.1 in
    omega (arith, known.scripts, ap (λ config. length config.boards) c.self.view_is, c.requires)

pub returns : goal.returns
returns c =
    let known = configuration_known c.self.invariant.1.0 _ c.self.invariant.1.1 in
    let there : c.args.i < length c.self.inside.scripts.items
    = omega (arith, known.scripts, ap (λ config. length config.boards) c.self.view_is, c.requires) in
    rw (← c.self.view_is) (slice_get_read c.self.inside.scripts.items _ c.args.i c.index.result.now refl there c.index.ensures)
