use Rattle.vme_check.proofs.findings.laws.no_file_is_both.Goals as goal

pub returns : goal.returns
returns c = λ input config fault configures refused.
    let same = refused.0 configures.0 in
    let read = configures.1 in
    absurd (cc)
