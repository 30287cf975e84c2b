-- Bytes that are read and written within a window of a list of bytes.
use Rattle.std.proofs.Common.{◌≡◌, ℕ, ◌+◌, ◌-◌, ◌≤◌, List, ◌++◌, length, take, drop, slice_range, min, ap, sym, ◌∙◌, arith}
use Rattle.std.proofs.lemmas.Grind.{common_steps}
use Rattle.std.proofs.lemmas.List.{take-append-drop, length-take-le, length-append, length-drop, take_at, append_assoc, drop-drop, drop_at, drop-append-le, take-append-le}
use Rattle.std.proofs.Math.Seq.{take-add, take-append-add}
use Rattle.vme_memory.specs.Boards.{bytes_after_write}

-- n bytes at an offset are the first n bytes from that offset on
pub range_take : (bytes : List ℕ) (at n : ℕ) → slice_range bytes at (at + n) ≡ take n (drop at bytes)
range_take bytes at n = let same : at + n - at ≡ n = omega arith in ap (λ j. take j (drop at bytes)) same

-- the number of bytes in a window
pub window_len : (bytes : List ℕ) (at n : ℕ) → length (slice_range bytes at (at + n)) ≡ min n (length bytes - at)
window_len bytes at n = grind (arith, common_steps)

-- after as many bytes as n bytes take, the rest is that after n bytes
drop_taken : (bytes : List ℕ) (n : ℕ) → drop (length (take n bytes)) bytes ≡ drop n bytes
drop_taken bytes n = grind (arith, common_steps)

-- a window and the bytes after it are the bytes from its offset on
window_rest : (bytes : List ℕ) (at n : ℕ) → slice_range bytes at (at + n) ++ drop n (drop at bytes) ≡ drop at bytes
window_rest bytes at n = ap (λ own. own ++ drop n (drop at bytes)) (range_take bytes at n) ∙ take-append-drop n (drop at bytes)

-- the bytes before a window, its own, and those after it are all bytes
window_whole : (bytes : List ℕ) (at n : ℕ) → take at bytes ++ (slice_range bytes at (at + n) ++ drop n (drop at bytes)) ≡ bytes
window_whole bytes at n = ap (λ rest. take at bytes ++ rest) (window_rest bytes at n) ∙ take-append-drop at bytes

-- the bytes after as many as a window has are those after the window
after_window : (bytes : List ℕ) (at n : ℕ) → drop (at + length (slice_range bytes at (at + n))) bytes ≡ drop n (drop at bytes)
after_window bytes at n =
    sym (drop-drop (length (slice_range bytes at (at + n))) at bytes)
    ∙ ap (λ own. drop (length own) (drop at bytes)) (range_take bytes at n)
    ∙ drop_taken (drop at bytes) n

-- the bytes of a window, written back, change nothing
pub written_back : (bytes : List ℕ) (at n : ℕ) → bytes_after_write bytes at (slice_range bytes at (at + n)) ≡ bytes
written_back bytes at n =
    let joined : take at bytes ++ slice_range bytes at (at + n) ++ drop n (drop at bytes)
    ≡ take at bytes ++ (slice_range bytes at (at + n) ++ drop n (drop at bytes)) = append_assoc (take at bytes) _ _ in
    ap (λ rest. take at bytes ++ slice_range bytes at (at + n) ++ rest) (after_window bytes at n)
    ∙ joined
    ∙ window_whole bytes at n

-- bytes within a window are read from it
pub read_inside : (bytes : List ℕ) (at n p len : ℕ) → p + len ≤ length (slice_range bytes at (at + n))
    → slice_range bytes (at + p) (at + p + len) ≡ slice_range (slice_range bytes at (at + n)) p (p + len)
read_inside bytes at n p len within =
    let own = slice_range bytes at (at + n) in
    let after = drop n (drop at bytes) in
    let start : p ≤ length own = omega arith in
    range_take bytes (at + p) len
    ∙ ap (take len) (sym (drop-drop p at bytes) ∙ ap (drop p) (sym (window_rest bytes at n)) ∙ drop-append-le p own after start)
    ∙ take-append-le len (drop p own) after (grind (arith, common_steps))
    ∙ sym (range_take own p len)

-- a write keeps the number of bytes
pub written_len : (bytes new : List ℕ) (at : ℕ) → at + length new ≤ length bytes → length (bytes_after_write bytes at new) ≡ length bytes
written_len bytes new at fits = grind (arith, common_steps)

-- what is taken past the first of two lists is the first and the beginning of the second
take_past : (before rest : List ℕ) (k p : ℕ) → length before ≡ k → take (k + p) (before ++ rest) ≡ before ++ take p rest
take_past before rest k p at = ap (λ k. take (k + p) (before ++ rest)) (sym at) ∙ take-append-add before rest p

-- what is dropped past the first of two lists is dropped from the second
drop_past : (before rest : List ℕ) (k p : ℕ) → length before ≡ k → drop (k + p) (before ++ rest) ≡ drop p rest
drop_past before rest k p at = sym (drop-drop p k (before ++ rest)) ∙ ap (drop p) (drop_at before rest k at)

-- a write in the middle one of three lists changes only it
middle_written :
    (before own after new : List ℕ) (k p : ℕ) → length before ≡ k → p + length new ≤ length own
    → bytes_after_write (before ++ (own ++ after)) (k + p) new ≡ before ++ (bytes_after_write own p new ++ after)
middle_written before own after new k p at few =
    let within : p ≤ length own = omega arith in
    let prefix : take (k + p) (before ++ (own ++ after)) ≡ before ++ take p own =
    take_past before (own ++ after) k p at ∙ ap (λ x. before ++ x) (take-append-le p own after within) in
    let same : k + p + length new ≡ k + (p + length new) = omega arith in
    let back : drop (k + p + length new) (before ++ (own ++ after)) ≡ drop (p + length new) own ++ after =
    ap (λ j. drop j (before ++ (own ++ after))) same
    ∙ drop_past before (own ++ after) k (p + length new) at
    ∙ drop-append-le (p + length new) own after few in
    rw (prefix, back) (simp append_assoc)

-- a write within a window that is written back is that write alone
pub written_inside :
    (bytes new : List ℕ) (at n p : ℕ) → at ≤ length bytes → p + length new ≤ length (slice_range bytes at (at + n))
    → bytes_after_write bytes (at + p) new ≡ bytes_after_write bytes at (bytes_after_write (slice_range bytes at (at + n)) p new)
written_inside bytes new at n p before few =
    let own = slice_range bytes at (at + n) in
    let after = drop n (drop at bytes) in
    let written = bytes_after_write own p new in
    let joined : take at bytes ++ written ++ after ≡ take at bytes ++ (written ++ after) = append_assoc (take at bytes) _ _ in
    sym (ap (λ k. take at bytes ++ written ++ drop (at + k) bytes) (written_len own new p few)
    ∙ ap (λ rest. take at bytes ++ written ++ rest) (after_window bytes at n)
    ∙ joined
    ∙ sym (middle_written (take at bytes) own after new at p (length-take-le at bytes before) few)
    ∙ ap (λ all. bytes_after_write all (at + p) new) (window_whole bytes at n))

-- two writes, one after the other, are one
written_on :
    (bytes a b : List ℕ) (at : ℕ) → at + length a + length b ≤ length bytes
    → bytes_after_write (bytes_after_write bytes at a) (at + length a) b ≡ bytes_after_write bytes at (a ++ b)
written_on bytes a b at fits =
    let before = take at bytes ++ a in
    let rest = drop (at + length a) bytes in
    let many : length before ≡ at + length a = omega (arith, length-append (take at bytes) a, length-take-le at bytes (omega arith)) in
    let all : at + length a + length b ≡ at + length (a ++ b) = omega (arith, length-append a b) in
    ap (λ x. x ++ b ++ drop (at + length a + length b) (before ++ rest)) (take_at before rest (at + length a) many)
    ∙ ap (λ x. before ++ b ++ x) (drop_past before rest (at + length a) (length b) many ∙ drop-drop (length b) (at + length a) bytes)
    ∙ ap (λ x. x ++ drop (at + length a + length b) bytes) (append_assoc (take at bytes) a b)
    ∙ ap (λ n. take at bytes ++ (a ++ b) ++ drop n bytes) all

-- four more bytes, written after those before them
pub more_written :
    (bytes own : List ℕ) (at i : ℕ) → at + length own ≤ length bytes → i + 4 ≤ length own
    → bytes_after_write (bytes_after_write bytes at (take i own)) (at + i) (slice_range own i (i + 4)) ≡ bytes_after_write bytes at (take (i + 4) own)
more_written bytes own at i fits within =
    let before : length (take i own) ≡ i = length-take-le i own (omega arith) in
    let four : length (take 4 (drop i own)) ≡ 4 = length-take-le 4 (drop i own) (omega (arith, length-drop i own)) in
    ap (bytes_after_write (bytes_after_write bytes at (take i own)) (at + i)) (range_take own i 4)
    ∙ ap (λ n. bytes_after_write (bytes_after_write bytes at (take i own)) (at + n) (take 4 (drop i own))) (sym before)
    ∙ written_on bytes (take i own) (take 4 (drop i own)) at (omega (arith, before, four))
    ∙ ap (bytes_after_write bytes at) (sym (take-add i 4 own))

-- a write of all bytes
pub all_written : (bytes own : List ℕ) → length own ≡ length bytes → bytes_after_write bytes 0 own ≡ own
all_written bytes own long = grind (arith, common_steps)
