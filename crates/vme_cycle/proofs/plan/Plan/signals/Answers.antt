-- The signals of each datum of a lawful request.
use Rattle.std.proofs.Common.{◌%◌, ◌≡◌, ap, sym, ◌∙◌, rules}
use Rattle.vme_lanes.specs.Rows.{row_of}
use Rattle.vme_lanes.proofs.lemmas.Tables.{own_sensed}
use Rattle.vme_cycle.specs.Requests.{addr_of, address_of}
use Rattle.vme_cycle.specs.SignalLines.{len_with, row_len, strobes_at}
use Rattle.vme_cycle.specs.Plans.{own_location}
use Rattle.vme_cycle.proofs.Blocks.{sensed_own, len_of_strobes, first_shown, held_by_itself}
use Rattle.vme_cycle.proofs.plan.Plan.signals.Goals as goal

pub returns-clause-sensed : goal.returns-clause-sensed
returns-clause-sensed c =
    let t = c.args.self.now in
    let own = c.location-own in
    sensed_own t.am t.request c.args.i (own_location t 0) own.result c.new.result c.request-request.ensures.lawful c.requires
    c.shown-location.ensures.first own.ensures.found (search rules) (search rules)
    ∙ sym own.ensures.found

pub returns-clause-first : goal.returns-clause-first
returns-clause-first c = λ none.
    let t = c.args.self.now in
    let own = c.location-own in
    let same : own_location t 0 ≡ own.result = ap (own_location t) (sym none) ∙ sym own.ensures.value in
    let place : (row_of own.result).first ≡ addr_of t.request % 4 = search rules in
    first_shown c.new.result own.result (addr_of t.request)
    (held_by_itself (own_location t 0) own.result c.new.result.strobes same (search rules)) (search rules) place

pub returns-clause-len : goal.returns-clause-len
returns-clause-len c =
    let t = c.args.self.now in
    let own = c.location-own in
    let shown = c.shown-location in
    let at = sensed_own t.am t.request c.args.i (own_location t 0) own.result c.new.result c.request-request.ensures.lawful
    c.requires shown.ensures.first own.ensures.found (search rules) (search rules) in
    let wide : c.new.result.am.wide ≡ t.am.wide = search rules in
    let strobes : c.new.result.strobes ≡ (row_of shown.result).strobes = search rules in
    let shown_len = ap (len_with t.am.wide) shown.ensures.len ∙ own.ensures.len in (
      ap (λ w. row_len w c.new.result.strobes) wide
          ∙ (ap (row_len t.am.wide) strobes ∙ len_of_strobes t.am.wide _ shown.result _ (own_sensed shown.result) shown_len),
      ap (λ w. row_len w (strobes_at c.new.result (address_of t.request c.args.i))) wide
          ∙ len_of_strobes t.am.wide _ own.result _ at own.ensures.len,
    )
