-- Histories compose, a prefix of a legal history is legal, and the entries of one caller are a part of all entries.
use Rattle.std.proofs.Common.{◌≡◌, ℕ, ◌≤◌, ◌==◌, List, [], ◌∷◌, ◌++◌, length, refl, ap, subst}
use Rattle.std.proofs.lemmas.List.Elements.{filter-append}
use Rattle.std.proofs.lemmas.List.Sums.{length-filter, count_by-le-length}
use Rattle.vme_object.specs.declared.history.Entry.{Entry}
use Rattle.vme_object.specs.History.{replay, IsLegal, own}

-- the replay of two consecutive histories is the replay of the second from the replay of the first
pub replay-append :
    {S C R : Type 0} (step : S → C → S × R) (s : S) (a b : List (Entry C R)) → replay step s (a ++ b) ≡ replay step (replay step s a) b
replay-append step s [] b = refl
replay-append step s (e ∷ a) b = replay-append step (step s e.cmd).0 a b

-- a legal history followed by a history that is legal from its end is legal
pub legal-append :
    {S C R : Type 0} (step : S → C → S × R) (s : S) (a b : List (Entry C R)) → IsLegal step s a → IsLegal step (replay step s a) b
    → IsLegal step s (a ++ b)
legal-append step s [] b first then = then
legal-append step s (e ∷ a) b first then = (first.0, legal-append step (step s e.cmd).0 a b first.1 then)

-- a prefix of a legal history is legal
pub legal-begins : {S C R : Type 0} (step : S → C → S × R) (s : S) (a b : List (Entry C R)) → IsLegal step s (a ++ b) → IsLegal step s a
legal-begins step s [] b legal = tt
legal-begins step s (e ∷ a) b legal = (legal.0, legal-begins step (step s e.cmd).0 a b legal.1)

-- a suffix of a legal history is legal from the replay of the entries before it
pub legal-rest : {S C R : Type 0} (step : S → C → S × R) (s : S) (a b : List (Entry C R)) → IsLegal step s (a ++ b) → IsLegal step (replay step s a) b
legal-rest step s [] b legal = legal
legal-rest step s (e ∷ a) b legal = legal-rest step (step s e.cmd).0 a b legal.1

-- each reply of a legal history is that of the step at the replay of the entries before it
pub reply_at :
    {S C R : Type 0} (step : S → C → S × R) (s : S) (h a b : List (Entry C R)) (e : Entry C R) → IsLegal step s h → h ≡ a ++ e ∷ b
    → e.reply ≡ (step (replay step s a) e.cmd).1
reply_at step s h a b e legal is = let there = subst (IsLegal step s) is legal in let here = legal-rest step s a (e ∷ b) there in here.0

-- a history is legal if each reply is that of the step at the replay of the entries before it
pub legal_from_replies :
    {S C R : Type 0} (step : S → C → S × R) (s : S) (h : List (Entry C R))
    → ((a b : List (Entry C R)) (e : Entry C R) → h ≡ a ++ e ∷ b → e.reply ≡ (step (replay step s a) e.cmd).1) → IsLegal step s h
legal_from_replies step s [] each = tt
legal_from_replies step s (e ∷ h) each =
    (each [] h e refl, legal_from_replies step (step s e.cmd).0 h (λ a b f is. each (e ∷ a) b f (ap (λ l. e ∷ l) is)))

-- the entries of one caller in two consecutive histories are those in the first followed by those in the second
pub own-append : {C R : Type 0} (who : ℕ) (a b : List (Entry C R)) → own who (a ++ b) ≡ own who a ++ own who b
own-append who a b = filter-append (λ e. e.who == who) a b

-- the entries of one caller are at most as many as all entries
pub own_within : {C R : Type 0} (who : ℕ) (h : List (Entry C R)) → length (own who h) ≤ length h
own_within who h = rw (length-filter (λ e. e.who == who) h) (count_by-le-length (λ e. e.who == who) h)
