use Rattle.std.proofs.Common.{◌≡◌, ◌-◌, ◌++◌, flat_map}
use Rattle.std.specs.List.{range_with_len}
use Rattle.vme_judge.specs.AssumedTexts.{ignored_code, ignored_codes}
use Rattle.vme_judge.proofs.assumed.ignored_codes.Given as goal

-- what is listed, with the codes that are left, is what is listed in all
abbrev pub invariant-loop-code : goal.invariant-loop-code
invariant-loop-code l = l.numbers.items ++ flat_map (ignored_code l.ignored) (range_with_len l.code (64 - l.code)) ≡ ignored_codes l.ignored
