use Rattle.std.proofs.Common.{◌≡◌, ◌<◌, ◌==◌, true, false, length, get_or, sym, ◌∙◌, arith, rules}
use Rattle.vme_vcd_reader.proofs.Ranges.{last_step}
use Rattle.vme_vcd_reader.proofs.variable.last_bracket.Goals as goal
use Rattle.vme_vcd_reader.proofs.variable.last_bracket.Goals.{then-byte-eq91, else-byte-eq91}

pub loop-place-preserved : goal.loop-place-preserved
loop-place-preserved c =
    let text = c.args.text.now in
    let k = c.loop-place.place in
    let within : k < length text = first_of (omega arith, search rules) in
    elim c.if-byte-eq91.branch [
      | then-byte-eq91 w ↦
          let same : (get_or text k 0 == 91) ≡ true = first_of (search rules, grind arith) in
          record { place = w.last-is ∙ sym (last_step 91 text k true within same); within = first_of (search rules, grind arith) }
      | else-byte-eq91 w ↦
          let other : (get_or text k 0 == 91) ≡ false = first_of (search rules, grind arith) in
          record {
            place = w.last-is ∙ c.loop-place.invariant.place ∙ sym (last_step 91 text k false within other);
            within = first_of (search rules, grind arith);
          }
    ]
