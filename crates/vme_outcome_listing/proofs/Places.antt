-- The line that an outcome has at a place.
use Rattle.std.proofs.Common.{◌≡◌, ℕ, ◌+◌, ◌-◌, ◌<◌, ◌≤◌, suc, List, [], ◌∷◌, ◌++◌, length, take, drop, map, get_or, Option, Some, None, refl, ap, sym, ◌∙◌, arith, inl, inr}
use Rattle.std.specs.Prelude.{slice_get, unwrap_or}
use Rattle.std.proofs.Math.Seq.{take-nil}
use Rattle.std.proofs.lemmas.List.{append-nil, drop_more, drop_all, length-map}
use Rattle.std.proofs.lemmas.Option.{slice_get_cases, slice_get_past}
use Rattle.vme_grammar.specs.Texts.{hex_byte, hex_text}
use Rattle.vme_memory.specs.Boards.{Board}
use Rattle.vme_shared.specs.declared.reply.LineReply.{LineReply}
use Rattle.vme_states.specs.BareStates.{BareScript}
use Rattle.vme_outcome_listing.specs.Places.{byte_text}
use Rattle.vme_outcome_listing.proofs.Outputs.{one_more}
use Rattle.vme_outcome_listing.proofs.Texts.{ended_at, bytes_at}

-- no digits stand for no bytes
no_digits : (count offset : ℕ) (text : List ℕ) → text ≡ text ++ hex_text (take count (drop offset []))
no_digits count offset text =
    sym (append-nil text)
    ∙ ap (λ (bytes : List ℕ). text ++ hex_text bytes) (sym (ap (take count) (drop_all offset [] (omega arith)) ∙ take-nil count))

-- the reply in a script state is that of the outcome
pub reply_there : (states : List BareScript) (board line : ℕ) (reply : Option LineReply) → board < length states
    → ((c : BareScript) → slice_get states board ≡ Some c → reply ≡ slice_get c.ended line)
    → reply ≡ slice_get (unwrap_or (slice_get (map (λ (c : BareScript). c.ended) states) board) []) line
reply_there states board line reply less at =
    elim (slice_get_cases states board).1 [
      | inl found ↦
          at found.0 found.2
          ∙ ap (λ (o : Option (List LineReply)). slice_get (unwrap_or o []) line) (sym (ended_at states board found.0 found.2))
      | inr past ↦ absurd (omega (arith, past.0, less))
    ]

-- past the last processor there is no reply
pub no_reply : (states : List BareScript) (board line : ℕ) → length states ≤ board
    → None ≡ slice_get (unwrap_or (slice_get (map (λ (c : BareScript). c.ended) states) board) []) line
no_reply states board line past = sym (ap (λ (o : Option (List LineReply)). slice_get (unwrap_or o []) line) none ∙ slice_get_past [] line (omega arith))
  where
    none : slice_get (map (λ (c : BareScript). c.ended) states) board ≡ None
    none =
        slice_get_past (map (λ (c : BareScript). c.ended) states) board
        (omega (arith, past, length-map states (λ (c : BareScript). c.ended)))

-- the digits of bytes of a board are those of the outcome's
pub memory_there : (boards : List Board) (board offset count : ℕ) (one : Board) (before after : List ℕ) → slice_get boards board ≡ Some one
    → after ≡ before ++ hex_text (take count (drop offset one.bytes))
    → after ≡ before ++ hex_text (take count (drop offset (unwrap_or (slice_get (map (λ (b : Board). b.bytes) boards) board) [])))
memory_there boards board offset count one before after found added =
    added
    ∙ ap (λ (o : Option (List ℕ)). before ++ hex_text (take count (drop offset (unwrap_or o [])))) (sym (bytes_at boards board one found))

-- past the last board there are no bytes
pub no_memory : (boards : List Board) (board offset count : ℕ) (text : List ℕ) → length boards ≤ board
    → text ≡ text ++ hex_text (take count (drop offset (unwrap_or (slice_get (map (λ (b : Board). b.bytes) boards) board) [])))
no_memory boards board offset count text past =
    no_digits count offset text
    ∙ ap (λ (o : Option (List ℕ)). text ++ hex_text (take count (drop offset (unwrap_or o [])))) (sym none)
  where
    none : slice_get (map (λ (b : Board). b.bytes) boards) board ≡ None
    none = slice_get_past (map (λ (b : Board). b.bytes) boards) board (omega (arith, past, length-map boards (λ (b : Board). b.bytes)))

-- the digits from a byte on begin with those of the byte
bytes_next : (bytes : List ℕ) (i m : ℕ)
    → hex_text (take (suc m) (drop i bytes)) ≡ byte_text (slice_get bytes i) ++ hex_text (take m (drop (i + 1) bytes))
bytes_next bytes i m =
    elim (slice_get_cases bytes i).1 [
      | inl found ↦
          ap (λ (b : List ℕ). hex_text (take (suc m) b)) (drop_more bytes i found.0 found.1)
          ∙ ap (λ (b : ℕ). hex_text (take (suc m) (b ∷ drop (i + 1) bytes))) found.3
          ∙ ap (λ (o : Option ℕ). byte_text o ++ hex_text (take m (drop (i + 1) bytes))) (sym found.2)
      | inr past ↦
          ap (λ (b : List ℕ). hex_text (take (suc m) b)) (drop_all i bytes past.0)
          ∙ sym (ap (λ (b : List ℕ). hex_text (take m b)) (drop_all (i + 1) bytes (omega (arith, past.0))) ∙ ap hex_text (take-nil m))
          ∙ ap (λ (o : Option ℕ). byte_text o ++ hex_text (take m (drop (i + 1) bytes))) (sym past.1)
    ]

-- the digits of one byte more
pub byte_step : (bytes : List ℕ) (offset at count : ℕ) (byte : Option ℕ) (before after whole : List ℕ) → at < count
    → byte ≡ slice_get bytes (offset + at) → after ≡ before ++ byte_text byte
    → before ++ hex_text (take (count - at) (drop (offset + at) bytes)) ≡ whole
    → after ++ hex_text (take (count - (at + 1)) (drop (offset + (at + 1)) bytes)) ≡ whole
byte_step bytes offset at count byte before after whole less is added so_far =
    one_more before after (byte_text byte) (hex_text (take (count - (at + 1)) (drop (offset + (at + 1)) bytes)))
    (hex_text (take (count - at) (drop (offset + at) bytes))) whole added
    (ap (λ (n : ℕ). hex_text (take n (drop (offset + at) bytes))) one
    ∙ bytes_next bytes (offset + at) (count - (at + 1))
    ∙ ap (λ (o : Option ℕ). byte_text o ++ hex_text (take (count - (at + 1)) (drop (offset + at + 1) bytes))) (sym is)
    ∙ ap (λ (n : ℕ). byte_text byte ++ hex_text (take (count - (at + 1)) (drop n bytes))) next)
    so_far
  where
    one : count - at ≡ suc (count - (at + 1))
    one = omega (arith, less)

    next : offset + at + 1 ≡ offset + (at + 1)
    next = omega arith

-- behind the last byte the digits are all
pub bytes_done : (bytes : List ℕ) (offset at count : ℕ) (text whole : List ℕ) → count ≤ at
    → text ++ hex_text (take (count - at) (drop (offset + at) bytes)) ≡ whole → text ≡ whole
bytes_done bytes offset at count text whole past so_far =
    let none : count - at ≡ 0 = omega (arith, past) in
    sym (append-nil text) ∙ ap (λ (n : ℕ). text ++ hex_text (take n (drop (offset + at) bytes))) (sym none) ∙ so_far
