-- What each return is, by the calls before it.
use Rattle.std.proofs.Common.{rules, arith, ◌≡◌, ◌<◌, ◌%◌, IfSome, sym, subst}
use Rattle.std.proofs.lemmas.Grind.{common_steps}
use Rattle.std.specs.Arc.{arc_value}
use Rattle.vme_cycle.specs.Requests.{addr_of}
use Rattle.vme_cycle.proofs.lemmas.Transfers.{transfer_is_lawful}
use Rattle.vme_decode.specs.Select.{selection_at}
use Rattle.vme_processor.specs.Processors.{KeepsPlace}
use Rattle.vme_processor.specs.Singles.{KeepsTransfer}
use Rattle.vme_processor.proofs.Singles.{keeps_asked, keeps_moved, keeps_released, ends, one_of, short_of, both_keep, placed, failing_place, reaching_place}
use Rattle.vme_processor.proofs.processor.Processor.transfer.Goals as goal

pub keep_asked-requires-clause-short : goal.keep_asked-requires-clause-short
keep_asked-requires-clause-short c =
    short_of c.args.request c.in-Ok.plan c.datum_len.result (sym c.in-Ok.ensures.plan) c.requires c.datum_len.ensures.value c.datum_len.ensures.size.1

pub keep_moved-requires-clause-short : goal.keep_moved-requires-clause-short
keep_moved-requires-clause-short c =
    short_of c.args.request c.in-Ok.plan c.datum_len.result (sym c.in-Ok.ensures.plan) c.requires c.datum_len.ensures.value c.datum_len.ensures.size.1

pub keep_released-requires-clause-short : goal.keep_released-requires-clause-short
keep_released-requires-clause-short c =
    short_of c.args.request c.in-Ok.plan c.datum_len.result (sym c.in-Ok.ensures.plan) c.requires c.datum_len.ensures.value c.datum_len.ensures.size.1

pub reach_at-requires-clause-lawful : goal.reach_at-requires-clause-lawful
reach_at-requires-clause-lawful c = transfer_is_lawful c.args.request c.in-Ok.plan (sym c.in-Ok.ensures.plan)

pub reach_at-requires-clause-some : goal.reach_at-requires-clause-some
reach_at-requires-clause-some c =
    subst (λ n. 0 < n) (sym (one_of c.args.request c.in-Ok.plan (sym c.in-Ok.ensures.plan) c.requires)) (omega arith)

pub reach_at-requires-clause-place : goal.reach_at-requires-clause-place
reach_at-requires-clause-place c =
    subst (λ n. IfSome c.select_at-place.result (λ at. at.1 % 4 ≡ n % 4)) c.addr.ensures c.select_at-place.ensures.remainder

pub returns-in-Err-ask-clause-transferred : goal.returns-in-Err-ask-clause-transferred
returns-in-Err-ask-clause-transferred c =
    let lawful = sym c.in-Ok.ensures.plan in
    subst (λ m. KeepsTransfer c.args.request m c.args.self.now c.keep_asked.new.self) (sym c.keep_asked.ensures.met)
    (keeps_asked c.args.request c.args.self.now c.ask.new.self c.keep_asked.new.self c.in-Ok.plan c.in-Err-ask.asked lawful
    c.in-Err-ask.ensures.other.0 c.in-Err-ask.ensures.other.1 (c.keep_asked.ensures.task c.in-Ok.plan lawful))

pub returns-in-Err-ask-clause-place : goal.returns-in-Err-ask-clause-place
returns-in-Err-ask-clause-place c =
    placed c.args.self.now c.ask.new.self c.keep_asked.new.self _ (c.keep_asked.ensures.task c.in-Ok.plan (sym c.in-Ok.ensures.plan))
    c.in-Err-ask.ensures.other.1.place

pub returns-in-Err-reach_at-clause-transferred : goal.returns-in-Err-reach_at-clause-transferred
returns-in-Err-reach_at-clause-transferred c =
    let lawful = sym c.in-Ok.ensures.plan in
    let there : c.select_at-place.result ≡ selection_at (arc_value c.args.self.now.map) c.in-Ok.plan.am (addr_of c.in-Ok.plan.request) =
    first_of (search rules, grind (arith, common_steps)) in
    subst (λ m. KeepsTransfer c.args.request m c.args.self.now c.keep_moved.new.self) (sym c.keep_moved.ensures.met)
    (keeps_moved c.args.request c.args.self.now c.ask.new.self c.reach_at.new.self c.keep_moved.new.self c.in-Ok.plan c.select_at-place.result
    c.in-Err-reach_at.moved lawful c.requires there c.in_default.ensures.granted c.in-Err-reach_at.ensures.other
    (c.keep_moved.ensures.task c.in-Ok.plan lawful))

pub returns-in-Err-reach_at-clause-place : goal.returns-in-Err-reach_at-clause-place
returns-in-Err-reach_at-clause-place c =
    placed c.args.self.now c.reach_at.new.self c.keep_moved.new.self _ (c.keep_moved.ensures.task c.in-Ok.plan (sym c.in-Ok.ensures.plan))
    (both_keep c.args.self.now c.ask.new.self c.reach_at.new.self c.in_default.ensures.granted.place
    (failing_place c.in-Ok.plan.request c.select_at-place.result c.in-Err-reach_at.moved c.ask.new.self c.reach_at.new.self
    c.in-Err-reach_at.ensures.other))

pub returns-in-Err-release-clause-transferred : goal.returns-in-Err-release-clause-transferred
returns-in-Err-release-clause-transferred c =
    let lawful = sym c.in-Ok.ensures.plan in
    let there : c.select_at-place.result ≡ selection_at (arc_value c.args.self.now.map) c.in-Ok.plan.am (addr_of c.in-Ok.plan.request) =
    first_of (search rules, grind (arith, common_steps)) in
    subst (λ m. KeepsTransfer c.args.request m c.args.self.now c.keep_released.new.self) (sym c.keep_released.ensures.met)
    (keeps_released c.args.request c.args.self.now c.ask.new.self c.reach_at.new.self c.release.new.self c.keep_released.new.self c.in-Ok.plan
    c.select_at-place.result c.in-Ok-reach_at.reply c.in-Err-release.released lawful c.requires there c.in_default.ensures.granted
    c.in-Ok-reach_at.ensures.fits c.in-Err-release.ensures.other.0 c.in-Err-release.ensures.other.1
    (c.keep_released.ensures.task c.in-Ok.plan lawful))

pub returns-in-Err-release-clause-place : goal.returns-in-Err-release-clause-place
returns-in-Err-release-clause-place c =
    placed c.args.self.now c.release.new.self c.keep_released.new.self _
    (c.keep_released.ensures.task c.in-Ok.plan (sym c.in-Ok.ensures.plan))
    (both_keep c.args.self.now c.reach_at.new.self c.release.new.self
    (both_keep c.args.self.now c.ask.new.self c.reach_at.new.self c.in_default.ensures.granted.place
    (reaching_place c.in-Ok.plan.request c.select_at-place.result c.in-Ok-reach_at.reply c.ask.new.self c.reach_at.new.self
    c.in-Ok-reach_at.ensures.fits))
    c.in-Err-release.ensures.other.1.place)

pub returns-clause-transferred : goal.returns-clause-transferred
returns-clause-transferred c =
    let there : c.select_at-place.result ≡ selection_at (arc_value c.args.self.now.map) c.in-Ok.plan.am (addr_of c.in-Ok.plan.request) =
    first_of (search rules, grind (arith, common_steps)) in
    ends c.args.request c.args.self.now c.ask.new.self c.reach_at.new.self c.release.new.self c.forget.new.self c.in-Ok.plan c.select_at-place.result
    c.in-Ok-reach_at.reply (sym c.in-Ok.ensures.plan) c.requires there c.in_default.ensures.granted c.in-Ok-reach_at.ensures.fits
    c.in_default-release.ensures.freed c.forget.ensures

pub returns-clause-place : goal.returns-clause-place
returns-clause-place c =
    let keeps : KeepsPlace c.args.self.now c.release.new.self =
    both_keep c.args.self.now c.reach_at.new.self c.release.new.self
    (both_keep c.args.self.now c.ask.new.self c.reach_at.new.self c.in_default.ensures.granted.place
    (reaching_place c.in-Ok.plan.request c.select_at-place.result c.in-Ok-reach_at.reply c.ask.new.self c.reach_at.new.self
    c.in-Ok-reach_at.ensures.fits))
    c.in_default-release.ensures.freed.place in
    subst (λ x. KeepsPlace c.args.self.now x) (sym c.forget.ensures) (record { map = keeps.map; place = keeps.place })
