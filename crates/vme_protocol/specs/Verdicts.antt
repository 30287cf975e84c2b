-- The verdict on a trace.
use Rattle.std.specs.Prelude.{ℕ, ◌+◌, Bool, not, ◌&&◌, ◌||◌, List, [], ◌∷◌}
use Rattle.std.specs.Option.{option_map_or}
use Rattle.vme_protocol.specs.declared.sample.Sample.{Sample}
use Rattle.vme_protocol.specs.declared.scope.Scope.{Scope}
use Rattle.vme_protocol.specs.declared.watch.Watch.{Watch}
use Rattle.vme_protocol.specs.declared.verdict.Verdict.{Verdict}
use Rattle.vme_protocol.specs.declared.verdict.Verdict.TheVariants.{Legal, Illegal}
use Rattle.vme_protocol.specs.Samples.{has_strobe, has_answer}
use Rattle.vme_protocol.specs.Scopes.{is_strict}
use Rattle.vme_protocol.specs.Watching.{started, watched, broken}

-- the verdict on samples that follow others, of which the first has the index n
abbrev pub verdict_after : Watch → List Sample → ℕ → Verdict
verdict_after w [] n = Legal
verdict_after w (s ∷ samples) n = option_map_or (Illegal n) (broken w s) (verdict_after (watched w s) samples (n + 1))

-- the verdict on a trace: the first sample that breaks a rule, and that rule
unfoldable pub verdict : Scope → List Sample → Verdict
verdict scope [] = Legal
verdict scope (s ∷ samples) = verdict_after (started scope s) samples 1

-- whether no strobe is low in a sample, or AS* is low too, or, but for the model, an answer;
-- IEEE 1014-1987, 2.4 (data transfer bus timing)
abbrev pub is_under_address_strobe : Scope → Sample → Bool
is_under_address_strobe scope s =
    not (s.address_strobe && (has_strobe s && (is_strict scope || not (has_answer s))))
