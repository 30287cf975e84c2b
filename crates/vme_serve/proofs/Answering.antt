-- The answers so far, and those that are left.
use Rattle.std.proofs.Common.{◌≡◌, ℕ, true, false, List, [], ◌++◌, length, Option, Some, None, Result, Ok, Err, refl, ap, sym, ◌∙◌, inl, inr, append_assoc}
use Rattle.std.specs.Prelude.{nat_lt, IfSome, OnErr}
use Rattle.std.specs.Io.KnownBytes.{Appends, IsAtEnd}
use Rattle.std.specs.Str.Lines.{lines}
use Rattle.std.proofs.lemmas.Bool.{cases_lt, lt-ltb}
use Rattle.std.proofs.lemmas.List.{append-nil}
use Rattle.vme_io.specs.Prefixes.{AppendsPrefix}
use Rattle.vme_io.proofs.lemmas.Appending.{Appends-none, Appends-more, AppendsPrefix-more}
use Rattle.vme_script.specs.Configurations.{Configuration}
use Rattle.vme_serve.specs.Requests.{asked_of}
use Rattle.vme_serve.specs.Services.{ServiceView, Answer, opening_service, answer}
use Rattle.vme_serve.specs.Sessions.{IsKeptOf, TakesLine, answers, session_text}

-- the answer to a line is the answer to what is kept of it
same_answer : (service : ServiceView) (line kept : List ℕ) → IsKeptOf line kept → answer service kept ≡ answer service line
unfolding asked_of
same_answer service line kept is =
    elim (cases_lt 83 (length line)) [
      | inl long ↦
          let one : nat_lt 83 (length line) ≡ true = lt-ltb 83 (length line) long in
          let other : nat_lt 83 (length kept) ≡ true = lt-ltb 83 (length kept) (is.long long) in
          rw (one, other) refl
      | inr short ↦ ap (answer service) (is.whole short)
    ]

-- what is left of the text of a session is that of the lines that are left
abbrev LeavesText : Configuration → ServiceView → List ℕ → Option (List ℕ) → Option (List ℕ) → Type 0
LeavesText config service written None now = Unit {0}
LeavesText config service written (Some input) None = ⊥
LeavesText config service written (Some input) (Some rest) = session_text config input ≡ written ++ answers service (lines rest)

-- the answers so far were written, and the service is that after their lines
pub record HasAnswered (config : Configuration) (service : ServiceView) (input now : Option (List ℕ)) (old new : Option (List ℕ)) : Type 0 where
  pub written : List ℕ
  pub appends : Appends old new written
  pub leaves : LeavesText config service written input now

leaves_all : (config : Configuration) (input : Option (List ℕ)) → LeavesText config (opening_service config) [] input input
leaves_all config None = tt
leaves_all config (Some input) = refl

-- before the first line nothing was answered
pub answered_none : (config : Configuration) (service : ServiceView) (input old : Option (List ℕ)) → service ≡ opening_service config
    → HasAnswered config service input input old old
answered_none config service input old is = record {
  written = [];
  appends = Appends-none old;
  leaves = rw is (leaves_all config input);
}

leaves_more : (config : Configuration) (service : ServiceView) (written kept : List ℕ) (input now after : Option (List ℕ))
    → LeavesText config service written input now → TakesLine now after kept true
    → LeavesText config (answer service kept).service (written ++ (answer service kept).text) input after
leaves_more config service written kept None now after leaves takes = tt
leaves_more config service written kept (Some input) None after leaves takes = absurd leaves
leaves_more config service written kept (Some input) (Some rest) None leaves takes = absurd takes
leaves_more config service written kept (Some input) (Some rest) (Some last) leaves (line, is, of) =
    leaves ∙ ap (λ all. written ++ answers service all) is
    ∙ ap (λ (a : Answer). written ++ (a.text ++ answers a.service (lines last))) (sym (same_answer service line kept of))
    ∙ sym (append_assoc written (answer service kept).text (answers (answer service kept).service (lines last)))

-- one more line was answered
pub answered_more : (config : Configuration) (service next : ServiceView) (text kept : List ℕ) (input now after old mid new : Option (List ℕ))
    → HasAnswered config service input now old mid → TakesLine now after kept true → text ≡ (answer service kept).text
    → next ≡ (answer service kept).service → Appends mid new text → HasAnswered config next input after old new
answered_more config service next text kept input now after old mid new so_far takes text_is next_is appends = record {
  written = so_far.written ++ text;
  appends = Appends-more old mid new so_far.written text so_far.appends appends;
  leaves = rw (text_is, next_is) (leaves_more config service so_far.written kept input now after so_far.leaves takes);
}

-- after the last line all of the text was written
pub answered_all : (config : Configuration) (service : ServiceView) (kept : List ℕ) (input now after old new : Option (List ℕ))
    → HasAnswered config service input now old new → TakesLine now after kept false → IfSome input (λ bytes. Appends old new (session_text config bytes))
answered_all config service kept None now after old new so_far takes = tt
answered_all config service kept (Some input) None after old new so_far takes = absurd so_far.leaves
answered_all config service kept (Some input) (Some rest) None old new so_far takes = absurd takes
answered_all config service kept (Some input) (Some rest) (Some last) old new so_far (nothing, end) =
    let whole : so_far.written ≡ session_text config input =
    sym (so_far.leaves ∙ ap (λ bytes. so_far.written ++ answers service (lines bytes)) nothing ∙ append-nil so_far.written) in
    rw (← whole) so_far.appends

-- after the last line the input is at its end
pub answered_whole : (config : Configuration) (service : ServiceView) (kept : List ℕ) (input now after old new : Option (List ℕ))
    → HasAnswered config service input now old new → TakesLine now after kept false → IfSome input (λ bytes. IsAtEnd after)
answered_whole config service kept None now after old new so_far takes = tt
answered_whole config service kept (Some input) None after old new so_far takes = absurd so_far.leaves
answered_whole config service kept (Some input) (Some rest) None old new so_far takes = absurd takes
answered_whole config service kept (Some input) (Some rest) (Some last) old new so_far (nothing, end) = end

-- at a fault a prefix of the text was written
pub answered_first : (config : Configuration) (service : ServiceView) (input now old new : Option (List ℕ))
    → HasAnswered config service input now old new → IfSome input (λ bytes. AppendsPrefix old new (session_text config bytes))
answered_first config service None now old new so_far = tt
answered_first config service (Some input) None old new so_far = absurd so_far.leaves
answered_first config service (Some input) (Some rest) old new so_far = record {
  prefix = so_far.written;
  rest = answers service (lines rest);
  split = so_far.leaves;
  appends = so_far.appends;
}

-- if an answer could not be written, a prefix of the text was
pub answered_part : (config : Configuration) (service : ServiceView) (kept text : List ℕ) (input now after old mid new : Option (List ℕ))
    → HasAnswered config service input now old mid → TakesLine now after kept true → text ≡ (answer service kept).text
    → AppendsPrefix mid new text → IfSome input (λ bytes. AppendsPrefix old new (session_text config bytes))
answered_part config service kept text None now after old mid new so_far takes is prefix = tt
answered_part config service kept text (Some input) None after old mid new so_far takes is prefix = absurd so_far.leaves
answered_part config service kept text (Some input) (Some rest) None old mid new so_far takes is prefix = absurd takes
answered_part config service kept text (Some input) (Some rest) (Some last) old mid new so_far takes is prefix =
    AppendsPrefix-more old mid new so_far.written text (answers (answer service kept).service (lines last)) (session_text config input)
    so_far.appends prefix
    (rw is (sym (leaves_more config service so_far.written kept (Some input) (Some rest) (Some last) so_far.leaves takes)))

-- the same for a session that ended so, whatever its end is
at_end : {T E : Type 0} (P : List ℕ → Type 0) (input : Option (List ℕ)) (end : Result T E) → IfSome input P → IfSome input (λ bytes. OnErr end (P bytes))
at_end P None end holds = tt
at_end P (Some bytes) (Ok x) holds = tt
at_end P (Some bytes) (Err fault) holds = holds

pub answered_first_at : {T E : Type 0} (end : Result T E) (config : Configuration) (service : ServiceView) (input now old new : Option (List ℕ))
    → HasAnswered config service input now old new → IfSome input (λ bytes. OnErr end (AppendsPrefix old new (session_text config bytes)))
answered_first_at end config service input now old new so_far =
    at_end (λ bytes. AppendsPrefix old new (session_text config bytes)) input end (answered_first config service input now old new so_far)

pub answered_part_at : {T E : Type 0} (end : Result T E) (config : Configuration) (service : ServiceView) (kept text : List ℕ)
    (input now after old mid new : Option (List ℕ)) → HasAnswered config service input now old mid → TakesLine now after kept true
    → text ≡ (answer service kept).text → AppendsPrefix mid new text
    → IfSome input (λ bytes. OnErr end (AppendsPrefix old new (session_text config bytes)))
answered_part_at end config service kept text input now after old mid new so_far takes is prefix =
    at_end (λ bytes. AppendsPrefix old new (session_text config bytes)) input end
    (answered_part config service kept text input now after old mid new so_far takes is prefix)

-- the text that was printed into an empty buffer is the answer to what was kept of the line
pub answer_printed : (service : ServiceView) (text printed cleared asked kept : List ℕ) → text ≡ printed
    → printed ≡ cleared ++ (answer service asked).text → cleared ≡ [] → asked ≡ kept → text ≡ (answer service kept).text
answer_printed service text printed cleared asked kept same is none own =
    same ∙ is ∙ ap (λ (bytes : List ℕ). bytes ++ (answer service asked).text) none ∙ ap (λ (bytes : List ℕ). (answer service bytes).text) own
