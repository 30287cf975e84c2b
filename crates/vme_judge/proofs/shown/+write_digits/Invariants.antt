use Rattle.vme_judge.proofs.shown.+write_digits.Given as goal

-- the digits that are left
abbrev pub decreases-write_digits : goal.decreases-write_digits
decreases-write_digits l = l.digits
