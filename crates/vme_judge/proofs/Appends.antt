-- Texts that are appended one after another.
use Rattle.std.proofs.Common.{◌≡◌, List, ◌++◌, Result, Ok, Err, is_ok, OnOk, ap, ◌∙◌, append_assoc}
use Rattle.std.specs.Prelude.{if◌then◌else◌}
use Rattle.std.proofs.lemmas.Result.{on_ok_weaker}

-- if a call appended all of a text or failed, it appended the text where it returns a value
pub extended :
    {A T E : Type 0} (end : Result T E) (old new text : List A) → new ≡ (if is_ok end then old ++ text else old)
    → OnOk end (new ≡ old ++ text)
extended (Ok x) old new text is = is
extended (Err e) old new text is = tt

-- a first text was appended, and then the last call appended the rest
pub appended :
    {A T E : Type 0} (end : Result T E) (old mid new first rest : List A) → mid ≡ old ++ first → OnOk end (new ≡ mid ++ rest)
    → OnOk end (new ≡ old ++ (first ++ rest))
appended end old mid new first rest one more =
    on_ok_weaker end (λ (is : new ≡ mid ++ rest). is ∙ ap (λ l. l ++ rest) one ∙ append_assoc old first rest) more
