-- Each step cuts the text as the definition does.
use Rattle.std.proofs.Common.{codes, sym, ap, ◌∙◌, arith}
use Rattle.vme_line_map.proofs.TextCuts.{split_once-is}
use Rattle.vme_line_map.proofs.Places.{bits_at, ends-is, bits_in-ends, bits_at-one}
use Rattle.vme_line_map.proofs.pattern.bits_in.Goals as goal

pub returns-in_default : goal.returns-in_default
returns-in_default c =
    let parts = split_once-is (codes ":") c.args.indices.now c.split_once.result (omega arith) c.split_once.ensures.cases in
    let found = ends-is c.args.indices c.split_once.result c.unwrap_or.result parts c.unwrap_or.ensures in
    let is = bits_in-ends c.args.group c.args.first c.args.indices.now c.unwrap_or.result c.index.result c.index-2.result found c.index.ensures c.index-2.ensures in
    sym (is ∙ ap (bits_at c.args.group c.args.first c.index.result) c.in_default.is-1 ∙ bits_at-one c.args.group c.args.first c.index.result)

pub returns-in_default-2 : goal.returns-in_default-2
returns-in_default-2 c =
    let parts = split_once-is (codes ":") c.args.indices.now c.split_once.result (omega arith) c.split_once.ensures.cases in
    let found = ends-is c.args.indices c.split_once.result c.unwrap_or.result parts c.unwrap_or.ensures in
    let is = bits_in-ends c.args.group c.args.first c.args.indices.now c.unwrap_or.result c.index.result c.index-2.result found c.index.ensures c.index-2.ensures in
    sym (is ∙ ap (λ o. bits_at c.args.group c.args.first o c.index-2.result) c.in_default.is-0)

pub returns : goal.returns
returns c =
    let parts = split_once-is (codes ":") c.args.indices.now c.split_once.result (omega arith) c.split_once.ensures.cases in
    let found = ends-is c.args.indices c.split_once.result c.unwrap_or.result parts c.unwrap_or.ensures in
    let is = bits_in-ends c.args.group c.args.first c.args.indices.now c.unwrap_or.result c.index.result c.index-2.result found c.index.ensures c.index-2.ensures in
    rw (is, c.in-Some-Some.is-0, c.in-Some-Some.is-1) c.bits_between.ensures
