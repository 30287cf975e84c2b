-- The text and the status of an input, a line at a time.
use Rattle.std.proofs.Common.{◌≡◌, ℕ, List, [], ◌∷◌, ◌++◌, Option, refl, ap, sym, ◌∙◌}
use Rattle.std.specs.Str.Lines.{lines}
use Rattle.vme_io.proofs.lemmas.Gathering.{SoFar}
use Rattle.vme_memory.specs.Boards.{Board}
use Rattle.vme_engines.specs.Answers.{answer}
use Rattle.vme_shared.specs.declared.status.Status.{Status}
use Rattle.vme_shared.specs.declared.status.Status.TheVariants.{Clean, Marked}
use Rattle.vme_shared.specs.Statuses.{worse_of}
use Rattle.vme_engines.specs.Cycles.{text_of, status_after}

-- the text of lines begins with the output of the first
pub text_first :
    (board next : Board) (line rest after : List ℕ) → lines rest ≡ line ∷ lines after → next ≡ (answer board line).board
    → text_of board (lines rest) ≡ (answer board line).text ++ text_of next (lines after)
text_first board next line rest after first moved =
    ap (text_of board) first ∙ ap (λ b. (answer board line).text ++ text_of b (lines after)) (sym moved)

-- if no line is left, the whole text was written or gathered
pub all_gathered :
    (board : Board) (old new : Option (List ℕ)) (gathered whole rest : List ℕ)
    → SoFar old new gathered (text_of board (lines rest)) whole
    → lines rest ≡ [] → SoFar old new gathered [] whole
all_gathered board old new gathered whole rest so_far none = rw none at so_far

-- `worse_of` is associative
worse_of_assoc : (a b c : Status) → worse_of (worse_of a b) c ≡ worse_of a (worse_of b c)
worse_of_assoc Clean b c = refl
worse_of_assoc Marked b c = refl

-- the status of all lines stays the same after one more line is processed
pub status_more :
    (board next : Board) (status new reported all : Status) (line rest after : List ℕ)
    → worse_of status (status_after board (lines rest)) ≡ all
    → lines rest ≡ line ∷ lines after → new ≡ worse_of status reported → reported ≡ (answer board line).status
    → next ≡ (answer board line).board
    → worse_of new (status_after next (lines after)) ≡ all
status_more board next status new reported all line rest after whole first counted answered moved =
    ap (λ s. worse_of s (status_after next (lines after))) counted
    ∙ ap (λ t. worse_of (worse_of status t) (status_after next (lines after))) answered
    ∙ ap (λ b. worse_of (worse_of status (answer board line).status) (status_after b (lines after))) moved
    ∙ worse_of_assoc status (answer board line).status (status_after (answer board line).board (lines after))
    ∙ ap (λ ls. worse_of status (status_after board ls)) (sym first)
    ∙ whole
