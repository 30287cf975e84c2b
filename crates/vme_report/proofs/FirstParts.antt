-- A text of several parts begins with the first of them.
use Rattle.std.proofs.Common.{◌≡◌, ℕ, ◌+◌, ◌-◌, ◌*◌, ◌<◌, suc, List, [], ◌++◌, length, drop, get_or, refl, sym, ap, ◌∙◌, arith}
use Rattle.std.proofs.lemmas.List.{drop_more}
use Rattle.std.specs.List.{flat_map, range_with_len}
use Rattle.vme_shared.specs.declared.reply.LineReply.{LineReply}
use Rattle.vme_memory.specs.Boards.{zeros}
use Rattle.vme_script.specs.ReplyTexts.{line_text}
use Rattle.vme_report.specs.Texts.{replies_text, dump_row, row_text, row_count}

-- the text of the items from item i on begins with the text of item i
pub item_first :
    {X : Type 0} (f : X → List ℕ) (xs : List X) (i : ℕ) (x : X) → i < length xs → x ≡ get_or xs i x
    → flat_map f (drop i xs) ≡ f x ++ flat_map f (drop (i + 1) xs)
item_first f xs i x within is = ap (flat_map f) (drop_more xs i x within) ∙ ap (λ y. f y ++ flat_map f (drop (i + 1) xs)) (sym is)

-- the text of the replies to a script from line i on begins with the text of the reply to line i
pub reply_first :
    (slot : ℕ) (lines : List (ℕ × LineReply)) (i : ℕ) (line : ℕ × LineReply) → i < length lines → line ≡ get_or lines i line
    → replies_text slot (drop i lines) ≡ line_text slot line.0 line.1 ++ replies_text slot (drop (i + 1) lines)
reply_first slot lines i line within is = item_first {X = ℕ × LineReply} (λ (l : ℕ × LineReply). line_text slot l.0 l.1) lines i line within is

-- the text of the numbers from i on begins with the text of i
number_first :
    (f : ℕ → List ℕ) (i n : ℕ) → i < n → flat_map f (range_with_len i (n - i)) ≡ f i ++ flat_map f (range_with_len (i + 1) (n - (i + 1)))
number_first f i n within = ap (λ k. flat_map f (range_with_len i k)) one_more
  where
    one_more : n - i ≡ suc (n - (i + 1))
    one_more = omega (arith, within)

-- the text of the rows of a memory from row i on begins with the text of row i
pub row_first :
    (slot i : ℕ) (bytes own : List ℕ) → i < row_count bytes → own ≡ dump_row bytes i
    → flat_map (λ k. row_text slot (16 * k) (dump_row bytes k)) (range_with_len i (row_count bytes - i))
    ≡ row_text slot (16 * i) own ++ flat_map (λ k. row_text slot (16 * k) (dump_row bytes k)) (range_with_len (i + 1) (row_count bytes - (i + 1)))
row_first slot i bytes own within is =
    number_first (λ k. row_text slot (16 * k) (dump_row bytes k)) i (row_count bytes) within
    ∙ ap (λ r. row_text slot (16 * i) r ++ flat_map (λ k. row_text slot (16 * k) (dump_row bytes k)) (range_with_len (i + 1) (row_count bytes - (i + 1)))) (sym is)

-- sixteen zero bytes have no text
pub blank_row : (slot offset : ℕ) (own : List ℕ) → own ≡ zeros 16 → row_text slot offset own ≡ []
unfolding row_text zeros
blank_row slot offset own blank = rw blank refl
