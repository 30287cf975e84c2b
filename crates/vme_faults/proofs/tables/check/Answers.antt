-- The findings of the eight tests are appended one after another, and each is that of its value.
use Rattle.std.proofs.Common.{◌≡◌, ◌∙◌, map, Option, ℕ, refl, option_copied}
use Rattle.std.specs.Option.{option_and_then}
use Rattle.vme_am.specs.declared.code.Space.{Space}
use Rattle.vme_script.specs.Boards.{space_named}
use Rattle.vme_faults.specs.Sites.{sited}
use Rattle.vme_faults.specs.Boards.{refusal_judged, end_refusal, unless_refused, base_refusal, size_refusal}
use Rattle.vme_faults.proofs.Sites.{eight_found}
use Rattle.vme_faults.proofs.tables.check.Goals as goal

-- the refusal of an end, by equal values
same_end :
    (s t : Option Space) (a b m n : Option ℕ) → s ≡ t → a ≡ b → m ≡ n → end_refusal s a m ≡ end_refusal t b n
same_end s t a b m n e f g = rw (e, f, g) refl

pub returns : goal.returns
returns c =
    let end : refusal_judged c.end_judged.result
    ≡ end_refusal (option_and_then space_named (option_copied c.args.keys.now.space))
    (unless_refused base_refusal c.args.keys.now.base) (unless_refused size_refusal c.args.keys.now.size)
    = c.end_judged.ensures ∙ same_end _ _ _ _ _ _ (c.in_ok-space.ensures.kept ∙ c.space_judged.ensures.space)
    (c.in_ok-base.ensures.kept ∙ c.base_judged.ensures.lawful) (c.in_ok-size.ensures.kept ∙ c.size_judged.ensures.lawful) in
    eight_found (map sited c.args.found.now.items) _ _ _ _ _ _ _ _
    (map sited c.judge.new.found.items) (map sited c.judge-2.new.found.items) (map sited c.judge-3.new.found.items)
    (map sited c.judge-4.new.found.items) (map sited c.judge-5.new.found.items) (map sited c.judge-6.new.found.items)
    (map sited c.judge-7.new.found.items) (map sited c.judge-8.new.found.items)
    (rw c.slot_judged.ensures at c.in_ok-slot.ensures.found)
    (rw c.level_judged.ensures at c.in_ok-_level.ensures.found)
    (rw c.space_judged.ensures.refusal at c.in_ok-space.ensures.found)
    (rw c.width_judged.ensures at c.in_ok-width.ensures.found)
    (rw c.unaligned_judged.ensures at c.in_ok-_uat.ensures.found)
    (rw c.size_judged.ensures.refusal at c.in_ok-size.ensures.found)
    (rw c.base_judged.ensures.refusal at c.in_ok-base.ensures.found)
    (rw end at c.in_ok-end.ensures.found)
