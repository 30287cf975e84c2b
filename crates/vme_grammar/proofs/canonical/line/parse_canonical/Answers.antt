-- The line that the words of a text spell, by its first word.
use Rattle.std.proofs.Common.{◌∷◌, ◌++◌, refl, arith}
use Rattle.std.specs.Prelude.{codes}
use Rattle.vme_grammar.proofs.Forms.{headed}
use Rattle.vme_grammar.proofs.canonical.line.parse_canonical.Goals as goal

pub returns-in-114-eq32 : goal.returns-in-114-eq32
returns-in-114-eq32 c =
    let text = c.in_ok-first.text.now in
    headed _ (codes "r" ++ 32 ∷ text) _ text (codes "r") _ _ _ (omega arith) c.in_ok-first.ensures
    (rw (c.in-114-eq32.is-0, c.in-114-eq32.is-1) refl) refl c.read.ensures

pub returns-in-119-eq32 : goal.returns-in-119-eq32
returns-in-119-eq32 c =
    let text = c.in_ok-first.text.now in
    headed _ (codes "w" ++ 32 ∷ text) _ text (codes "w") _ _ _ (omega arith) c.in_ok-first.ensures
    (rw (c.in-119-eq32.is-0, c.in-119-eq32.is-1) refl) refl c.write.ensures

pub returns-in-109-eq32 : goal.returns-in-109-eq32
returns-in-109-eq32 c =
    let text = c.in_ok-first.text.now in
    headed _ (codes "m" ++ 32 ∷ text) _ text (codes "m") _ _ _ (omega arith) c.in_ok-first.ensures
    (rw (c.in-109-eq32.is-0, c.in-109-eq32.is-1) refl) refl c.modify.ensures

pub returns-in_ok-after_space-in-98-eq114 : goal.returns-in_ok-after_space-in-98-eq114
returns-in_ok-after_space-in-98-eq114 c =
    let text = c.in_ok-after_space-in-98-eq114.field-0.now in
    headed _ (codes "br" ++ 32 ∷ text) _ text (codes "br") _ _ _ (omega arith) c.in_ok-first.ensures
    (rw (c.in-98-eq114.is-0, c.in-98-eq114.is-1, c.in_ok-after_space-in-98-eq114.ensures) refl) refl c.block_read.ensures

pub returns-in_ok-after_space-in-98-eq119 : goal.returns-in_ok-after_space-in-98-eq119
returns-in_ok-after_space-in-98-eq119 c =
    let text = c.in_ok-after_space-in-98-eq119.field-0.now in
    headed _ (codes "bw" ++ 32 ∷ text) _ text (codes "bw") _ _ _ (omega arith) c.in_ok-first.ensures
    (rw (c.in-98-eq119.is-0, c.in-98-eq119.is-1, c.in_ok-after_space-in-98-eq119.ensures) refl) refl c.block_write.ensures

pub returns-in_ok-after_space-in-98-eq102 : goal.returns-in_ok-after_space-in-98-eq102
returns-in_ok-after_space-in-98-eq102 c =
    let text = c.in_ok-after_space-in-98-eq102.field-0.now in
    headed _ (codes "bf" ++ 32 ∷ text) _ text (codes "bf") _ _ _ (omega arith) c.in_ok-first.ensures
    (rw (c.in-98-eq102.is-0, c.in-98-eq102.is-1, c.in_ok-after_space-in-98-eq102.ensures) refl) refl c.block_fill.ensures

pub returns-in_ok-after_space-in-108-eq114 : goal.returns-in_ok-after_space-in-108-eq114
returns-in_ok-after_space-in-108-eq114 c =
    let text = c.in_ok-after_space-in-108-eq114.field-0.now in
    headed _ (codes "lr" ++ 32 ∷ text) _ text (codes "lr") _ _ _ (omega arith) c.in_ok-first.ensures
    (rw (c.in-108-eq114.is-0, c.in-108-eq114.is-1, c.in_ok-after_space-in-108-eq114.ensures) refl) refl c.local_read.ensures

pub returns-in_ok-after_space-in-108-eq119 : goal.returns-in_ok-after_space-in-108-eq119
returns-in_ok-after_space-in-108-eq119 c =
    let text = c.in_ok-after_space-in-108-eq119.field-0.now in
    headed _ (codes "lw" ++ 32 ∷ text) _ text (codes "lw") _ _ _ (omega arith) c.in_ok-first.ensures
    (rw (c.in-108-eq119.is-0, c.in-108-eq119.is-1, c.in_ok-after_space-in-108-eq119.ensures) refl) refl c.local_write.ensures

pub returns-in_ok-after_space-in-108-eq109 : goal.returns-in_ok-after_space-in-108-eq109
returns-in_ok-after_space-in-108-eq109 c =
    let text = c.in_ok-after_space-in-108-eq109.field-0.now in
    headed _ (codes "lm" ++ 32 ∷ text) _ text (codes "lm") _ _ _ (omega arith) c.in_ok-first.ensures
    (rw (c.in-108-eq109.is-0, c.in-108-eq109.is-1, c.in_ok-after_space-in-108-eq109.ensures) refl) refl c.local_modify.ensures

pub returns-in_ok-after_ait-in-97-eq119 : goal.returns-in_ok-after_ait-in-97-eq119
returns-in_ok-after_ait-in-97-eq119 c =
    let text = c.in_ok-after_ait-in-97-eq119.field-0.now in
    headed _ (codes "await" ++ 32 ∷ text) _ text (codes "await") _ _ _ (omega arith) c.in_ok-first.ensures
    (rw (c.in-97-eq119.is-0, c.in-97-eq119.is-1, c.in_ok-after_ait-in-97-eq119.ensures) refl) refl c.await_bytes.ensures
