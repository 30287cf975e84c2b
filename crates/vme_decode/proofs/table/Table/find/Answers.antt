-- The selection depends on whether the last row up to the address responds.
use Rattle.std.proofs.Common.{◌≡◌, sym, ◌∙◌, rules}
use Rattle.vme_decode.specs.Table.{rank}
use Rattle.vme_decode.proofs.Chosen.{none_up_to, last_fails, last_selected}
use Rattle.vme_decode.proofs.table.Table.find.Goals as goal

pub returns-in_err-row : goal.returns-in_err-row
returns-in_err-row c = λ entries lawful table ranks.
    let top : c.rank.result ≡ rank c.args.am.space c.args.addr = search rules in
    let found = rw top at (c.in_err-row.ensures table.rising ranks) in
    c.from_residual.ensures ∙ sym (none_up_to entries _ c.args.am c.args.addr table found)

pub returns-then-not-responds : goal.returns-then-not-responds
returns-then-not-responds c = λ entries lawful table ranks.
    let top : c.rank.result ≡ rank c.args.am.space c.args.addr = search rules in
    let found = rw top at (c.in_ok-row.ensures table.rising ranks) in
    sym (last_fails entries _ c.args.am c.args.addr _ lawful table found (sym c.if-not-responds.ensures))

pub returns : goal.returns
returns c = λ entries lawful table ranks.
    let top : c.rank.result ≡ rank c.args.am.space c.args.addr = search rules in
    let found = rw top at (c.in_ok-row.ensures table.rising ranks) in
    sym (last_selected entries _ c.args.am c.args.addr _ lawful table found (sym c.if-not-responds.ensures))
