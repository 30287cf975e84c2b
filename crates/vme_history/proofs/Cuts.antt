-- A text that is cut at the first place of a mark.
use Rattle.std.proofs.Common.{◌≡◌, ℕ, ◌+◌, ◌<◌, ◌≤◌, List, [], ◌∷◌, ◌++◌, length, get_or, take, drop, drop-cons, add-one, Some, None, ap, sym, ◌∙◌}
use Rattle.std.proofs.lemmas.List.{take_more, drop_all}
use Rattle.vme_history.specs.Reading.{after_mark, cut_here, cut_from, cut_at}

-- the mark stands at a place, or at a later one
cut_more : (text mark : List ℕ) (i : ℕ) → i < length text → cut_from (take i text) mark (drop i text)
    ≡ cut_here (take i text) (after_mark mark (drop i text)) (cut_from (take (i + 1) text) mark (drop (i + 1) text))
cut_more text mark i less =
    let next : drop i text ≡ get_or text i 0 ∷ drop (i + 1) text = rw add-one (drop-cons text i 0 less) in
    ap (cut_from (take i text) mark) next
    ∙ ap (λ rest. cut_here (take i text) (after_mark mark rest) (cut_from (take i text ++ get_or text i 0 ∷ []) mark (drop (i + 1) text))) (sym next)
    ∙ ap (λ before. cut_here (take i text) (after_mark mark (drop i text)) (cut_from before mark (drop (i + 1) text))) (sym (take_more text i 0 less))

-- a mark that stands at a place
pub cut_found : (text mark before rest after : List ℕ) (i : ℕ) → i < length text → before ≡ take i text → rest ≡ drop i text
    → Some after ≡ after_mark mark rest → cut_from (take i text) mark (drop i text) ≡ cut_at mark text → Some (before, after) ≡ cut_at mark text
cut_found text mark before rest after i less head tail found so_far =
    ap (λ b. Some (b, after)) head
    ∙ ap (λ after. cut_here (take i text) after (cut_from (take (i + 1) text) mark (drop (i + 1) text))) (found ∙ ap (after_mark mark) tail)
    ∙ sym (cut_more text mark i less) ∙ so_far

-- a mark that does not stand at a place
pub cut_next : (text mark rest : List ℕ) (i : ℕ) → i < length text → rest ≡ drop i text → None ≡ after_mark mark rest
    → cut_from (take i text) mark (drop i text) ≡ cut_at mark text → cut_from (take (i + 1) text) mark (drop (i + 1) text) ≡ cut_at mark text
cut_next text mark rest i less tail none so_far =
    ap (λ after. cut_here (take i text) after (cut_from (take (i + 1) text) mark (drop (i + 1) text))) (none ∙ ap (after_mark mark) tail)
    ∙ sym (cut_more text mark i less) ∙ so_far

-- a mark that stands at no place
pub cut_none : (text mark : List ℕ) (i : ℕ) → length text ≤ i → cut_from (take i text) mark (drop i text) ≡ cut_at mark text
    → None ≡ cut_at mark text
cut_none text mark i over so_far = ap (cut_from (take i text) mark) (sym (drop_all i text over)) ∙ so_far
