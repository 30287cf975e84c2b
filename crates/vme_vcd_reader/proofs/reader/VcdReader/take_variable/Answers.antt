use Rattle.std.proofs.Common.{◌++◌, ◌∷◌, [], refl, subst}
use Rattle.vme_vcd_reader.specs.Found.{IsMatching}
use Rattle.vme_vcd_reader.specs.Mapping.{declaration}
use Rattle.vme_vcd_reader.proofs.Headings.{own_matching}
use Rattle.vme_vcd_reader.proofs.reader.VcdReader.take_variable.Goals as goal

pub returns-in-Ok-clause-header : goal.returns-in-Ok-clause-header
returns-in-Ok-clause-header c = λ map h ds is short. (
  refl,
  record {
    before = record {
      entered = is.before.entered;
      body = is.before.body;
      rows = is.before.rows;
      heads = is.before.heads;
      lines = is.before.lines;
      time = is.before.time;
      changed = is.before.changed;
    };
    same = is.same;
    heading = c.in-Ok.ensures.heading h is.heading;
    matching = subst (λ map. IsMatching map (ds ++ declaration h ∷ []) c.map_variable.new.matching) is.same
        (c.in-Ok.ensures.matching h ds is.heading short (own_matching map h ds c.args.self.now is));
  },
)
