-- The buffers of the lines of a script, in order.
use Rattle.std.proofs.Common.{◌≡◌, ℕ, zero, suc, ◌+◌, ◌<◌, ◌≤◌, Bool, true, false, List, [], ◌∷◌, ◌++◌, length, map, take, drop, get_or, max, Some, Result, Ok, Err, refl, ap, sym, ◌∙◌, arith, add-one}
use Rattle.std.specs.Prelude.{slice_get}
use Rattle.std.proofs.lemmas.List.{append_assoc, append-nil, drop_more, length-drop, length-map}
use Rattle.std.proofs.lemmas.Option.{same_Some, get_or_from_slice_get}
use Rattle.vme_cycle.specs.BlockBuffers.{BufferView, inline_capacity}
use Rattle.vme_cycle.specs.declared.fault.CycleFault.{CycleFault}
use Rattle.vme_cycle.specs.declared.request.Request.{Request}
use Rattle.vme_cycle.specs.Requests.{read_len}
use Rattle.vme_cycle.specs.Lawful.{Transfer, transfer_of}
use Rattle.vme_cycle.proofs.lemmas.Transfers.{comes_from}
use Rattle.vme_grammar.specs.declared.line.Line.{Line}
use Rattle.vme_script.specs.declared.script.ScriptLine.{ScriptLine}
use Rattle.vme_line_task.specs.ReadBuffers.{request_read_len, line_read_len, buffer_of, buffers_of, buffers_kept}

-- the buffer at the place of a line
buffer_found : (script : List ScriptLine) (n : ℕ) (line : Line) → slice_get (map (λ one. one.line) script) n ≡ Some line
    → slice_get (buffers_of script) n ≡ Some (buffer_of line)
buffer_found [] n line is = absurd (cc is)
buffer_found (one ∷ script) zero line is = ap (λ (l : Line). Some (buffer_of l)) (same_Some one.line line is)
buffer_found (one ∷ script) (suc n) line is = buffer_found script n line is

-- the buffers of the first n lines and the next one, by the successor of n
buffers_on : (script : List ScriptLine) (n : ℕ) (line : Line) → slice_get (map (λ one. one.line) script) n ≡ Some line
    → buffers_of (take (suc n) script) ≡ buffers_of (take n script) ++ buffer_of line ∷ []
buffers_on [] n line is = absurd (cc is)
buffers_on (one ∷ script) zero line is = ap (λ (l : Line). buffer_of l ∷ []) (same_Some one.line line is)
buffers_on (one ∷ script) (suc n) line is = ap (λ buffers. buffer_of one.line ∷ buffers) (buffers_on script n line is)

-- the buffers of the first n + 1 lines are those of the first n and that of the next line
pub buffers_more : (script : List ScriptLine) (n : ℕ) (line : Line) → slice_get (map (λ one. one.line) script) n ≡ Some line
    → buffers_of (take (n + 1) script) ≡ buffers_of (take n script) ++ buffer_of line ∷ []
buffers_more script n line is = rw (add-one n) (buffers_on script n line is)

-- the next buffer is empty and large enough for line n, and the other buffers are those of the lines after it
pub record IsNextBuffer (script : List ScriptLine) (n : ℕ) (buffer : BufferView) (rest : List BufferView) : Type 0 where
  pub none : buffer.items ≡ []
  pub enough : (line : Line) → slice_get (map (λ one. one.line) script) n ≡ Some line → line_read_len line ≤ buffer.capacity
  pub after : rest ≡ drop (n + 1) (buffers_of script)

-- the greater of two numbers is at least the second
most : (n m : ℕ) → m ≤ max n m
most n m = omega arith

-- if a line remains, a buffer remains
pub buffers_left : (script : List ScriptLine) (n : ℕ) (buffers : List BufferView) → n < length script → buffers ≡ drop n (buffers_of script) → 0 < length buffers
buffers_left script n buffers within are =
    omega (arith, ap length are, length-drop n (buffers_of script), length-map script (λ (one : ScriptLine). buffer_of one.line))

-- the first of the remaining buffers is that of the next line
pub next_buffer : (script : List ScriptLine) (n : ℕ) (buffers rest : List BufferView) (buffer : BufferView) → n < length script
    → buffers ≡ drop n (buffers_of script) → buffers ≡ buffer ∷ rest → IsNextBuffer script n buffer rest
next_buffer script n buffers rest buffer within are is =
    let all : List BufferView = buffers_of script in
    let there : n < length all = omega (arith, length-map script (λ (one : ScriptLine). buffer_of one.line)) in
    let step : buffer ∷ rest ≡ get_or all n buffer ∷ drop (n + 1) all = sym is ∙ are ∙ drop_more all n buffer there in
    let own : (line : Line) → slice_get (map (λ (one : ScriptLine). one.line) script) n ≡ Some line → buffer ≡ buffer_of line =
    λ line found. ap (λ buffers. get_or buffers 0 buffer) step ∙ get_or_from_slice_get all n (buffer_of line) buffer (buffer_found script n line found)
    in
    let one = line_there script n within in
    record {
      none = ap (λ (r : BufferView). r.items) (own one.0 one.1);
      enough = λ line found. let size = ap (λ (r : BufferView). r.capacity) (own line found) in omega (arith, size, most inline_capacity (line_read_len line));
      after = ap (λ buffers. drop 1 buffers) step;
    }
  where
    line_there : (script : List ScriptLine) (n : ℕ) → n < length script
        → (line : Line) × (slice_get (map (λ one. one.line) script) n ≡ Some line)
    line_there [] n n< = absurd (omega arith)
    line_there (one ∷ script) zero n< = (one.line, refl)
    line_there (one ∷ script) (suc n) n< = line_there script n (omega arith)

-- the buffers so far are those that `buffers_kept` gives, whatever buffers follow
unfoldable pub AreKept : List Bool → List BufferView → List BufferView → Type 0
AreKept are_long long buffers =
    (more : List Bool) (rest : List BufferView) → buffers_kept (are_long ++ more) (long ++ rest) ≡ buffers ++ buffers_kept more rest

-- `AreKept` holds for empty lists
pub kept_none : (are_long : List Bool) (long : List BufferView) → are_long ≡ [] → long ≡ [] → AreKept are_long long []
unfolding AreKept
kept_none are_long long none empty = λ more rest. rw (none, empty) refl

-- `AreKept` holds with one more buffer that does not allocate
pub kept_short : (are_long : List Bool) (long buffers : List BufferView) (buffer : BufferView) → AreKept are_long long buffers
    → buffer ≡ record { items = []; capacity = inline_capacity } → AreKept (are_long ++ false ∷ []) long (buffers ++ buffer ∷ [])
unfolding AreKept
kept_short are_long long buffers buffer before empty = λ more rest.
    ap (λ (all : List Bool). buffers_kept all (long ++ rest)) (append_assoc are_long (false ∷ []) more)
    ∙ before (false ∷ more) rest
    ∙ ap (λ (r : BufferView). buffers ++ r ∷ buffers_kept more rest) (sym empty)
    ∙ sym (append_assoc buffers (buffer ∷ []) (buffers_kept more rest))

-- `AreKept` holds with one more buffer that allocates
pub kept_long : (are_long : List Bool) (long buffers : List BufferView) (buffer : BufferView) → AreKept are_long long buffers
    → AreKept (are_long ++ true ∷ []) (long ++ buffer ∷ []) (buffers ++ buffer ∷ [])
unfolding AreKept
kept_long are_long long buffers buffer before = λ more rest.
    ap (λ (all : List Bool). buffers_kept all (long ++ buffer ∷ [] ++ rest)) (append_assoc are_long (true ∷ []) more)
    ∙ ap (λ (all : List BufferView). buffers_kept (are_long ++ true ∷ more) all) (append_assoc long (buffer ∷ []) rest)
    ∙ before (true ∷ more) (buffer ∷ rest)
    ∙ sym (append_assoc buffers (buffer ∷ []) (buffers_kept more rest))

-- if `AreKept` holds for all buffers, `buffers_kept` gives them
pub kept_all : (are_long : List Bool) (long buffers : List BufferView) → AreKept are_long long buffers → buffers_kept are_long long ≡ buffers
unfolding AreKept
kept_all are_long long buffers all =
    ap (λ (b : List Bool). buffers_kept b long) (sym (append-nil are_long))
    ∙ ap (λ (r : List BufferView). buffers_kept (are_long ++ []) r) (sym (append-nil long))
    ∙ all [] []
    ∙ append-nil buffers

-- `AreKept` holds with one more line whose buffer allocates
pub one_long : (script : List ScriptLine) (n count : ℕ) (line : Line) (before after : List Bool) (long longer : List BufferView) (buffer : BufferView)
    → slice_get (map (λ one. one.line) script) n ≡ Some line → AreKept before long (buffers_of (take n script)) → count ≡ line_read_len line
    → after ≡ before ++ true ∷ [] → longer ≡ long ++ buffer ∷ [] → buffer ≡ record { items = []; capacity = max inline_capacity count }
    → AreKept after longer (buffers_of (take (n + 1) script))
one_long script n count line before after long longer buffer found kept reads marked put made =
    rw (marked, put, buffers_more script n line found, ← reads, ← made) (kept_long before long (buffers_of (take n script)) buffer kept)

-- `AreKept` holds with one more line whose buffer does not allocate
pub one_short : (script : List ScriptLine) (n count : ℕ) (line : Line) (before after : List Bool) (long : List BufferView)
    → slice_get (map (λ one. one.line) script) n ≡ Some line → AreKept before long (buffers_of (take n script)) → count ≡ line_read_len line
    → after ≡ before ++ false ∷ [] → count ≤ inline_capacity → AreKept after long (buffers_of (take (n + 1) script))
one_short script n count line before after long found kept reads marked few =
    let size : max inline_capacity count ≡ inline_capacity = omega arith in
    rw (marked, buffers_more script n line found, ← reads)
    (kept_short before long (buffers_of (take n script)) (record { items = []; capacity = max inline_capacity count }) kept
    (ap (λ (n : ℕ). let r : BufferView = record { items = []; capacity = n } in r) size))

-- a request reads no more bytes than it states
pub no_more_than : (request : Request) → request_read_len (transfer_of request) ≤ read_len request
no_more_than request = by_transfer (transfer_of request) refl
  where
    by_transfer : (transfer : Result Transfer CycleFault) → transfer_of request ≡ transfer → request_read_len transfer ≤ read_len request
    by_transfer (Ok t) is = let same = ap read_len (comes_from request t is).same in omega (arith, same)
    by_transfer (Err fault) is = omega arith
