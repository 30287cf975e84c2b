-- Findings appended one after another.
use Rattle.std.proofs.Common.{◌≡◌, ◌++◌, List, [], append_assoc}
use Rattle.std.proofs.lemmas.List.{append-nil}

-- two lists of findings, appended one after another
pub two_found :
    {X : Type 0} (old a b x1 x2 : List X) → x1 ≡ old ++ a → x2 ≡ x1 ++ b → x2 ≡ old ++ (a ++ (b ++ []))
two_found old a b x1 x2 e1 e2 = rw (e2, e1) (simp (append_assoc, append-nil))

-- three lists of findings, appended one after another
pub three_found :
    {X : Type 0} (old a b c x1 x2 x3 : List X) → x1 ≡ old ++ a → x2 ≡ x1 ++ b → x3 ≡ x2 ++ c
    → x3 ≡ old ++ (a ++ (b ++ (c ++ [])))
three_found old a b c x1 x2 x3 e1 e2 e3 = rw (e3, e2, e1) (simp (append_assoc, append-nil))

-- eight lists of findings, appended one after another
pub eight_found :
    {X : Type 0} (old a b c d e f g h x1 x2 x3 x4 x5 x6 x7 x8 : List X)
    → x1 ≡ old ++ a → x2 ≡ x1 ++ b → x3 ≡ x2 ++ c → x4 ≡ x3 ++ d → x5 ≡ x4 ++ e → x6 ≡ x5 ++ f → x7 ≡ x6 ++ g → x8 ≡ x7 ++ h
    → x8 ≡ old ++ (a ++ (b ++ (c ++ (d ++ (e ++ (f ++ (g ++ (h ++ []))))))))
eight_found old a b c d e f g h x1 x2 x3 x4 x5 x6 x7 x8 e1 e2 e3 e4 e5 e6 e7 e8 =
    rw (e8, e7, e6, e5, e4, e3, e2, e1) (simp (append_assoc, append-nil))
