-- A block write and the fill with one of its data have the same refusal, and the same signals of that datum.
use Rattle.std.proofs.Common.{◌≡◌, ℕ, ◌+◌, ◌*◌, ◌/◌, ◌%◌, ◌<◌, ◌≤◌, zero, suc, List, [], ◌∷◌, ◌++◌, take, drop, length, slice_range, Bool, true, false, Option, None, Some, Ok, ap, sym, ◌∙◌, arith, refl}
use Rattle.std.specs.Prelude.{◌==◌, ◌&&◌}
use Rattle.std.proofs.Math.Nat.{mul-le-mul_left}
use Rattle.std.proofs.lemmas.Bool.{and_parts, eq-eqb}
use Rattle.std.proofs.lemmas.Grind.{common_steps}
use Rattle.vme_am.specs.Codes.{CodeRow, read_code}
use Rattle.vme_cycle.specs.BlockBuffers.{BlockBytes}
use Rattle.vme_cycle.specs.declared.request.Request.{Request}
use Rattle.vme_cycle.specs.declared.request.Request.TheVariants as requests
use Rattle.vme_cycle.specs.declared.fault.CycleFault.TheVariants.{BadCount}
use Rattle.vme_cycle.specs.Counts.{is_datum_len, is_wide_code, is_block_count}
use Rattle.vme_cycle.specs.Requests.{code_of, count_of, is_counted}
use Rattle.vme_cycle.specs.Lawful.{Transfer, refusals, first_refusal, transfer_of}
use Rattle.vme_cycle.specs.Refusals.{first_of}
use Rattle.vme_cycle.specs.Plans.{signals_of}
use Rattle.vme_cycle.proofs.lemmas.Transfers.{comes_from, transfer_is_lawful, lawful_parts}
use Rattle.vme_ffi.specs.Fills.{data_count, block_datum, fill_of, fill_with}

-- datum i of a block has n bytes
datum_len : (block : List ℕ) (n i : ℕ) → 0 < n → i < length block / n → length (slice_range block (i * n) (i * n + n)) ≡ n
datum_len block n i some less =
    let end : n * suc i ≤ n * (length block / n) = mul-le-mul_left n less in
    let parts : n * suc i ≡ i * n + n = grind arith in
    let inside : i * n + n ≤ length block = omega (arith, end, parts, some) in
    grind (arith, common_steps)

-- a datum of a block is not empty
not_empty : (wide : Bool) (n : ℕ) → is_datum_len wide n ≡ true → 0 < n
not_empty true zero len = absurd cc
not_empty false zero len = absurd cc
not_empty wide (suc n) len = omega arith

-- what follows a refusal does not change the first one
first_stops :
    {F : Type 0} (before : List (Option F)) (fault : F) (after other : List (Option F))
    → first_of (before ++ Some fault ∷ after) ≡ first_of (before ++ Some fault ∷ other)
first_stops [] fault after other = refl
first_stops (Some first ∷ before) fault after other = refl
first_stops (None ∷ before) fault after other = first_stops before fault after other

-- a conjunction is false if its second part is
second_false : (a b c : Bool) → b ≡ false → (a && b && c) ≡ false
second_false true b c h = rw h refl
second_false false b c h = refl

-- a conjunction is false if its third part is
third_false : (a b c : Bool) → c ≡ false → (a && b && c) ≡ false
third_false true true c h = h
third_false true false c h = refl
third_false false b c h = refl

-- the block write and the fill have the same first refusal, by whether the length of the block is a multiple of n
refusal_by :
    (am addr n : ℕ) (bytes : BlockBytes) (datum : List ℕ) (whole : Bool) → (length bytes.items % n == 0) ≡ whole → (length datum == n) ≡ true
    → first_refusal (fill_of am addr n bytes datum) ≡ first_refusal (requests.BlockWrite am addr n bytes)
unfolding first_refusal
refusal_by am addr n bytes datum true whole fit = rw (whole, fit) refl
refusal_by am addr n bytes datum false whole fit =
    let fill = fill_of am addr n bytes datum in
    let write = requests.BlockWrite am addr n bytes in
    let none : is_block_count (data_count bytes n) ≡ false = rw whole refl in
    let fill_counted : is_counted fill ≡ false = second_false _ _ _ none in
    let write_counted : is_counted write ≡ false = third_false (is_datum_len (is_wide_code am) n) (is_block_count (length bytes.items / n)) _ whole in
    rw (fill_counted, write_counted) (first_stops (take 3 (refusals write)) BadCount (drop 4 (refusals fill)) (drop 4 (refusals write)))

-- the block write and the fill with a datum of its length have the same first refusal
pub same_refusal :
    (am addr n : ℕ) (bytes : BlockBytes) (datum : List ℕ) → length datum ≡ n
    → first_refusal (fill_of am addr n bytes datum) ≡ first_refusal (requests.BlockWrite am addr n bytes)
same_refusal am addr n bytes datum fit = refusal_by am addr n bytes datum (length bytes.items % n == 0) refl (eq-eqb _ _ fit)

-- the transfer of a request without a refusal has the row of its code
transfer_from : (code : CodeRow) (request : Request) → first_refusal request ≡ None → read_code (code_of request) ≡ Ok code
    → transfer_of request ≡ Ok (record { am = code; request = request })
unfolding transfer_of
transfer_from code request none row = rw (none, row) refl

-- the fill with a datum of a lawful block write is lawful
pub given_lawful : (am addr n i : ℕ) (bytes : BlockBytes) (t : Transfer)
    → transfer_of (requests.BlockWrite am addr n bytes) ≡ Ok t → i < count_of t.request
    → transfer_of (fill_of am addr n bytes (block_datum bytes n i)) ≡ Ok (fill_with t am addr n bytes i)
given_lawful am addr n i bytes t is within =
    let from = comes_from (requests.BlockWrite am addr n bytes) t is in
    let counted : is_counted (requests.BlockWrite am addr n bytes) ≡ true =
    rw from.same at (lawful_parts t (transfer_is_lawful (requests.BlockWrite am addr n bytes) t is)).counted in
    let some : 0 < n = not_empty (is_wide_code am) n (and_parts _ _ (and_parts _ _ counted).0).0 in
    let less : i < length bytes.items / n = rw from.same at within in
    let fit = datum_len bytes.items n i some less in
    transfer_from t.am (fill_of am addr n bytes (block_datum bytes n i)) (same_refusal am addr n bytes (block_datum bytes n i) fit ∙ from.none) from.row

-- with the row of one code, the fill with a datum and the block write have the same signals of it
signals_alike : (code : CodeRow) (am addr n i : ℕ) (bytes : BlockBytes)
    → signals_of (record { am = code; request = fill_of am addr n bytes (block_datum bytes n i) }) i
    ≡ signals_of (record { am = code; request = requests.BlockWrite am addr n bytes }) i
unfolding signals_of
signals_alike code am addr n i bytes = refl

-- the fill with a datum of a lawful block write has the signals of this datum
pub given_signals : (am addr n i : ℕ) (bytes : BlockBytes) (t : Transfer)
    → transfer_of (requests.BlockWrite am addr n bytes) ≡ Ok t
    → signals_of (fill_with t am addr n bytes i) i ≡ signals_of t i
given_signals am addr n i bytes t is =
    let from = comes_from (requests.BlockWrite am addr n bytes) t is in
    signals_alike t.am am addr n i bytes ∙ ap (λ (r : Request). signals_of (record { am = t.am; request = r }) i) (sym from.same)
