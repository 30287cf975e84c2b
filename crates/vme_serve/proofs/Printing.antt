-- The line of a report without the slot and the number before the reply.
use Rattle.std.proofs.Common.{◌≡◌, ℕ, List, ◌∷◌, ◌++◌, [], drop, ap, ◌∙◌, arith, Result, Ok, Err}
use Rattle.std.specs.Prelude.{is_ok, cond, OnOk}
use Rattle.std.proofs.lemmas.Fmt.{decimal_digit}
use Rattle.vme_grammar.specs.Texts.{output_line}
use Rattle.vme_shared.specs.declared.reply.LineReply.{LineReply}
use Rattle.vme_script.specs.ReplyTexts.{line_text, reply_text}

-- line 1 of slot 1 has the four characters `1:1 ` before the reply
pub printed : (old text : List ℕ) (reply : LineReply) → old ≡ [] → text ≡ old ++ line_text 1 1 reply
    → text ≡ 49 ∷ 58 ∷ 49 ∷ 32 ∷ output_line (reply_text reply)
unfolding line_text
printed old text reply none is =
    is ∙ ap (λ all. all ++ line_text 1 1 reply) none
    ∙ ap (λ (digit : List ℕ). (digit ++ 58 ∷ (digit ++ 32 ∷ [])) ++ output_line (reply_text reply)) (decimal_digit 1 (omega arith))

-- what follows them is the reply
pub reply_printed : (old text rest : List ℕ) (reply : LineReply) → old ≡ [] → text ≡ old ++ line_text 1 1 reply → rest ≡ drop 4 text
    → rest ≡ output_line (reply_text reply)
reply_printed old text rest reply none is after = after ∙ ap (drop 4) (printed old text reply none is)

-- what a call that succeeds appends
pub on_ok : {T E : Type 0} (end : Result T E) (new done kept : List ℕ) → new ≡ cond (is_ok end) done kept → OnOk end (new ≡ done)
on_ok (Ok x) new done kept is = is
on_ok (Err e) new done kept is = tt
