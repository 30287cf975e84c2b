-- There are as many boards as in the file, each with a lawful range and slot; and the configuration is that of the
-- file.
use Rattle.std.proofs.Common.{◌≡◌, ap, ◌∙◌, arith, rules, length, Ok}
use Rattle.vme_script.specs.Boards.{boards_after, have_ranges, entries_of}
use Rattle.vme_script.specs.Scripts.{has_slots}
use Rattle.vme_script.specs.Configurations.{configuration_of}
use Rattle.vme_script.proofs.Facts.{boards_known, ranges_known}
use Rattle.vme_script.proofs.config.Config.of.Goals as goal

pub map_of-requires-clause-most : goal.map_of-requires-clause-most
map_of-requires-clause-most c =
    let read : boards_after 0 c.deref.result.now ≡ Ok c.in_ok-boards.boards.items = c.in_ok-boards.ensures in
    let known = boards_known 0 c.deref.result.now c.in_ok-boards.boards.items read in
    omega (arith, known.count, ap length c.deref-2.ensures.value, c.deref.ensures.len, c.len.ensures, c.if-len-gt-MOST_BOARDS.false)

pub map_of-requires-clause-ranges : goal.map_of-requires-clause-ranges
map_of-requires-clause-ranges c =
    let read : boards_after 0 c.deref.result.now ≡ Ok c.in_ok-boards.boards.items = c.in_ok-boards.ensures in
    ap have_ranges c.deref-2.ensures.value ∙ ranges_known c.in_ok-boards.boards.items (boards_known 0 c.deref.result.now c.in_ok-boards.boards.items read).lawful

pub scripts_of-requires : goal.scripts_of-requires
scripts_of-requires c =
    let read : boards_after 0 c.deref.result.now ≡ Ok c.in_ok-boards.boards.items = c.in_ok-boards.ensures in
    let same : c.deref-6.result.now ≡ c.deref.result.now = cc in
    ap has_slots same ∙ (boards_known 0 c.deref.result.now c.in_ok-boards.boards.items read).slots

pub invariant_of-result : goal.invariant_of-result
unfolding configuration_of
invariant_of-result c = (c.in_ok-map.ensures.same ∙ ap entries_of c.deref-2.ensures.value, (c.args.file.now, search rules))
