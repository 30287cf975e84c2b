-- Lemmas of the laws of verdicts.
use Rattle.std.proofs.Common.{◌≡◌, ℕ, zero, suc, ◌+◌, ◌≤◌, Bool, true, false, not, ◌&&◌, ◌||◌, List, [], ◌∷◌, ◌++◌, take, Option, Some, None, refl, arith}
use Rattle.std.specs.List.{list_all}
use Rattle.std.specs.Option.{option_map_or}
use Rattle.vme_protocol.specs.declared.sample.Sample.{Sample}
use Rattle.vme_protocol.specs.declared.scope.Scope.{Scope}
use Rattle.vme_protocol.specs.declared.rule.Rule.{Rule}
use Rattle.vme_protocol.specs.declared.watch.Watch.{Watch}
use Rattle.vme_protocol.specs.declared.transfer.Transfer.{Transfer}
use Rattle.vme_protocol.specs.declared.verdict.Verdict.{Verdict}
use Rattle.vme_protocol.specs.declared.verdict.Verdict.TheVariants.{Legal, Illegal}
use Rattle.vme_protocol.specs.Samples.{has_strobe, has_answer, strobe_falls}
use Rattle.vme_protocol.specs.Scopes.{is_strict}
use Rattle.vme_protocol.specs.Exchange.{has_lone_strobe}
use Rattle.vme_protocol.specs.Watching.{started, watched, current, first_of, handshake_tests, lines_broken, handshake_broken, transfer_broken, broken}
use Rattle.vme_protocol.specs.Verdicts.{verdict_after, verdict, is_under_address_strobe}

-- a verdict that stays illegal if the rest does
stays_by : (found : Option Rule) (n at : ℕ) (rule : Rule) (v w : Verdict) → (v ≡ Illegal at rule → w ≡ Illegal at rule)
    → option_map_or (Illegal n) found v ≡ Illegal at rule → option_map_or (Illegal n) found w ≡ Illegal at rule
stays_by None n at rule v w rest h = rest h
stays_by (Some other) n at rule v w rest h = h

-- the verdict on samples stays illegal if more follow
stays_after : (last : Watch) (samples more : List Sample) (n at : ℕ) (rule : Rule)
    → verdict_after last samples n ≡ Illegal at rule → verdict_after last (samples ++ more) n ≡ Illegal at rule
stays_after last [] more n at rule h = absurd cc
stays_after last (s ∷ samples) more n at rule h =
    stays_by (broken last s) n at rule (verdict_after (watched last s) samples (n + 1))
    (verdict_after (watched last s) (samples ++ more) (n + 1)) (stays_after (watched last s) samples more (n + 1) at rule) h

-- an illegal trace stays illegal
pub stays : (scope : Scope) (samples more : List Sample) (at : ℕ) (rule : Rule) → verdict scope samples ≡ Illegal at rule
    → verdict scope (samples ++ more) ≡ Illegal at rule
unfolding verdict
stays scope [] more at rule h = absurd cc
stays scope (s ∷ samples) more at rule h = stays_after (started scope s) samples more 1 at rule h

-- the index of an illegal sample, by whether it is the first
index_by : (found : Option Rule) (n at : ℕ) (rule : Rule) (v : Verdict) → (v ≡ Illegal at rule → n + 1 ≤ at)
    → option_map_or (Illegal n) found v ≡ Illegal at rule → n ≤ at
index_by None n at rule v rest h = omega (arith, rest h)
index_by (Some other) n at rule v rest h = let same : n ≡ at = cc in omega (arith, same)

-- the index of an illegal sample is not below that of the first
index_after : (last : Watch) (samples : List Sample) (n at : ℕ) (rule : Rule) → verdict_after last samples n ≡ Illegal at rule → n ≤ at
index_after last [] n at rule h = absurd cc
index_after last (s ∷ samples) n at rule h =
    index_by (broken last s) n at rule (verdict_after (watched last s) samples (n + 1))
    (index_after (watched last s) samples (n + 1) at rule) h

-- a verdict is legal up to an illegal sample that is not the first, if the rest is
before_by : (found : Option Rule) (n k at : ℕ) (rule : Rule) (v w : Verdict) → n + suc k ≡ at → (v ≡ Illegal at rule → w ≡ Legal)
    → option_map_or (Illegal n) found v ≡ Illegal at rule → option_map_or (Illegal n) found w ≡ Legal
before_by None n k at rule v w sum rest h = rest h
before_by (Some other) n k at rule v w sum rest h = let same : n ≡ at = cc in absurd (omega (arith, same, sum))

-- samples are legal up to the illegal one
before_after : (last : Watch) (samples : List Sample) (n k at : ℕ) (rule : Rule) → n + k ≡ at
    → verdict_after last samples n ≡ Illegal at rule → verdict_after last (take k samples) n ≡ Legal
before_after last samples n zero at rule sum h = refl
before_after last [] n (suc k) at rule sum h = absurd cc
before_after last (s ∷ samples) n (suc k) at rule sum h =
    before_by (broken last s) n k at rule (verdict_after (watched last s) samples (n + 1))
    (verdict_after (watched last s) (take k samples) (n + 1)) sum
    (before_after (watched last s) samples (n + 1) k at rule (omega (arith, sum))) h

-- an illegal trace is legal up to its illegal sample
pub legal_before : (scope : Scope) (samples : List Sample) (at : ℕ) (rule : Rule) → verdict scope samples ≡ Illegal at rule
    → verdict scope (take at samples) ≡ Legal
unfolding verdict
legal_before scope [] at rule h = absurd cc
legal_before scope (s ∷ samples) zero rule h = absurd (omega (arith, index_after (started scope s) samples 1 zero rule h))
legal_before scope (s ∷ samples) (suc k) rule h = before_after (started scope s) samples 1 k (suc k) rule (omega arith) h

-- where the first of two lists, or the second, has no broken rule
both_none : (a b : Option Rule) → option_map_or Some a b ≡ None → (a ≡ None) × (b ≡ None)
both_none None b h = (refl, h)
both_none (Some rule) b h = absurd cc

-- whether the first of some tests holds
abbrev pub head_holds : List (Rule × Bool) → Bool
head_holds [] = false
head_holds (test ∷ rest) = test.1

-- it does not, if none is found that holds
head_fails : (tests : List (Rule × Bool)) → first_of tests ≡ None → head_holds tests ≡ false
head_fails [] h = refl
head_fails ((rule, false) ∷ rest) h = refl
head_fails ((rule, true) ∷ rest) h = absurd cc

-- a sample that breaks no rule of a handshake has no strobe low without AS*
not_lone : (w : Watch) (t : Transfer) (s : Sample) → handshake_broken w t s ≡ None → has_lone_strobe w s ≡ false
unfolding handshake_broken handshake_tests
not_lone w t s h = head_fails (handshake_tests w t s) h

-- as above, of a sample that breaks no rule
none_lone : (w : Watch) (s : Sample) → broken w s ≡ None → has_lone_strobe w s ≡ false
unfolding broken
none_lone w s h =
    let later = both_none (lines_broken w (current w s) s) _ h in
    not_lone w (current w s) s (both_none (handshake_broken w (current w s) s) (transfer_broken w (current w s) s) later.1).0

-- a test that fails, of two of which one does
under_by : (high falls low : Bool) → (high && (falls || low)) ≡ false → not (high && low) ≡ true
under_by false falls low h = refl
under_by true false low h = ap_not low h
  where
    ap_not : (b : Bool) → b ≡ false → not b ≡ true
    ap_not false h = refl
    ap_not true h = absurd cc
under_by true true low h = absurd cc

-- a sample that breaks no rule has its strobes under AS*
under_one : (w : Watch) (s : Sample) → broken w s ≡ None → is_under_address_strobe w.scope s ≡ true
unfolding has_lone_strobe
under_one w s h =
    under_by s.address_strobe (strobe_falls w.last s) (has_strobe s && (is_strict w.scope || not (has_answer s))) (none_lone w s h)

-- a legal verdict: no rule is broken, and the rest is legal
legal_parts : (found : Option Rule) (n : ℕ) (v : Verdict) → option_map_or (Illegal n) found v ≡ Legal → (found ≡ None) × (v ≡ Legal)
legal_parts None n v h = (refl, h)
legal_parts (Some rule) n v h = absurd cc

-- a test and others hold
both_hold : (a b : Bool) → a ≡ true → b ≡ true → (a && b) ≡ true
both_hold true b h k = k
both_hold false b h k = h

-- each strobe of legal samples is under AS*
under_after : (w : Watch) (samples : List Sample) (n : ℕ) → verdict_after w samples n ≡ Legal
    → list_all (is_under_address_strobe w.scope) samples ≡ true
unfolding watched
under_after w [] n h = refl
under_after w (s ∷ samples) n h =
    let parts = legal_parts (broken w s) n (verdict_after (watched w s) samples (n + 1)) h in
    both_hold (is_under_address_strobe w.scope s) _ (under_one w s parts.0) (under_after (watched w s) samples (n + 1) parts.1)

-- as above, of a trace
pub under : (scope : Scope) (first : Sample) (samples : List Sample) → verdict scope (first ∷ samples) ≡ Legal
    → list_all (is_under_address_strobe scope) samples ≡ true
unfolding verdict
under scope first samples h = under_after (started scope first) samples 1 h
