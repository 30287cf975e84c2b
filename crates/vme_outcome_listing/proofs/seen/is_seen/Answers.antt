use Rattle.std.proofs.Common.{◌≡◌, ◌++◌, ℕ, List, false, ap, sym, subst, ◌∙◌}
use Rattle.std.specs.List.{list_any}
use Rattle.vme_script.specs.ReplyTexts.{place_text}
use Rattle.vme_outcome_listing.specs.Looks.{begin_alike}
use Rattle.vme_outcome_listing.proofs.Looks.{unseen_is}
use Rattle.vme_outcome_listing.proofs.seen.is_seen.Goals as goal

pub returns : goal.returns
returns c = λ none.
    let text = c.as_slice.result.now in
    unseen_is c.args.config.now c.args.kept.now c.args.claims.now c.args.board c.args.line c.slot.result c.number.result
    c.script.result.now text c.slot.ensures c.script.ensures c.number.ensures
    (c.as_slice.ensures.value ∙ c.in_ok-append_head.ensures
    ∙ ap (λ (t : List ℕ). t ++ place_text c.slot.result c.number.result) c.new-text.ensures.items)
    (subst (λ (heads : List (List ℕ)). list_any (λ head. begin_alike head text) heads ≡ false) c.heads.ensures
    (sym c.any_begins_alike.ensures ∙ none))
    (sym c.is_wanted.ensures ∙ c.if-is_wanted.false)
