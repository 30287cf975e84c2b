-- The text of a reply, printed as a line of a report.
use Rattle.std.proofs.Common.{◌≡◌, ℕ, List, ◌∷◌, ◌++◌, [], ap, ◌∙◌, arith}
use Rattle.std.proofs.lemmas.Fmt.{decimal_digit}
use Rattle.vme_grammar.specs.Texts.{output_line}
use Rattle.vme_shared.specs.declared.reply.LineReply.{LineReply}
use Rattle.vme_script.specs.ReplyTexts.{line_text, reply_text}

-- line 1 of slot 1 is the four characters `1:1 ` and the reply
pub reply_line_is : (old text : List ℕ) (reply : LineReply) → old ≡ [] → text ≡ old ++ line_text 1 1 reply
    → text ≡ 49 ∷ 58 ∷ 49 ∷ 32 ∷ output_line (reply_text reply)
unfolding line_text
reply_line_is old text reply none is =
    is ∙ ap (λ all. all ++ line_text 1 1 reply) none
    ∙ ap (λ (digit : List ℕ). (digit ++ 58 ∷ (digit ++ 32 ∷ [])) ++ output_line (reply_text reply)) (decimal_digit 1 (omega arith))
