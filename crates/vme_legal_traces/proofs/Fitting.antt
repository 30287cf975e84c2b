-- The data of a lawful transfer may come in it, one after another.
use Rattle.std.proofs.Common.{◌≡◌, ℕ, zero, suc, ◌+◌, ◌-◌, ◌*◌, ◌/◌, ◌%◌, ◌^◌, ◌<◌, ◌≤◌, ◌==◌, Bool, true, false, not, ◌&&◌, ◌||◌, if◌then◌else◌, Option, Some, None, is_none, is_some, refl, ap, sym, ◌∙◌, arith, inl, inr, ◌⊎◌}
use Rattle.std.specs.Prelude.{nat_lt}
use Rattle.std.specs.Bool.{beq}
use Rattle.std.proofs.lemmas.Bool.{cases_Bool, and_parts, eqb-true, eq-eqb, ne_eqb, le-ltb, lt-ltb, ltb-true, false≢true}
use Rattle.vme_lanes.specs.declared.location.Location.{Location}
use Rattle.vme_lanes.specs.Rows.{row_of}
use Rattle.vme_cycle.specs.declared.request.Request.{Request}
use Rattle.vme_cycle.specs.declared.request.Request.TheVariants as requests
use Rattle.vme_cycle.specs.Counts.{is_datum_len, is_wide_code}
use Rattle.vme_cycle.specs.Counts as counts
use Rattle.vme_cycle.specs.Requests.{code_of, addr_of, datum_len, count_of, function_of, span_of, is_block_request, address_of, is_counted}
use Rattle.vme_cycle.specs.Lawful as cycles
use Rattle.vme_cycle.specs.Lawful.{IsLawfulTransfer, location_for, first_location}
use Rattle.vme_cycle.specs.Plans.{own_location}
use Rattle.vme_cycle.proofs.lemmas.Transfers.{lawful_parts, own_row}
use Rattle.vme_protocol.specs.declared.sample.Sample.{Sample}
use Rattle.vme_protocol.specs.declared.place.Place.{Place}
use Rattle.vme_protocol.specs.declared.transfer.Transfer.{Transfer}
use Rattle.vme_protocol.specs.Transfers.{is_address_phase, next_count, passed, took, after_answer}
use Rattle.vme_protocol.specs.Places as places
use Rattle.vme_protocol.specs.Places.{place_in, place_of, is_quad, is_placed, differs_from_block, misfits_block, misfits_cycle, misfits, breaks_at, breaks_transfer}
use Rattle.vme_legal_traces.proofs.Located.{IsBegun, IsLater, IsNext, level_for, place_for, place_is, later_block, len_is, ends_within, product_next}

-- a datum of a block has one, two or four bytes, or eight with a code of eight-byte data
abbrev pub IsLenOf : Bool → ℕ → Type 0
IsLenOf wide n =
    ((wide ≡ false) × (n ≡ 1)) ⊎ (((wide ≡ false) × (n ≡ 2)) ⊎ (((wide ≡ false) × (n ≡ 4)) ⊎ ((wide ≡ true) × (n ≡ 8))))

-- the length of a datum of a block is counted
block_counted : (request : Request) → is_block_request request ≡ true → is_counted request ≡ true
    → is_datum_len (is_wide_code (code_of request)) (datum_len request) ≡ true
block_counted (requests.Read am addr n) block is = absurd (cc block)
block_counted (requests.Write am addr bytes) block is = absurd (cc block)
block_counted (requests.BlockRead am addr n count) block is = (and_parts _ _ is).0
block_counted (requests.BlockWrite am addr n bytes) block is = (and_parts _ _ (and_parts _ _ is).0).0
block_counted (requests.BlockFill am addr n count bytes) block is = (and_parts _ _ (and_parts _ _ is).0).0
block_counted (requests.Modify am addr n f) block is = absurd (cc block)

-- one of three lengths
one_of : (a b c : Bool) (n : ℕ) → (n == 1) ≡ a → (n == 2) ≡ b → (n == 4) ≡ c → (a || b || c) ≡ true → IsLenOf false n
one_of true b c n one two four h = inl (refl, eqb-true n 1 one)
one_of false true c n one two four h = inr (inl (refl, eqb-true n 2 two))
one_of false false true n one two four h = inr (inr (inl (refl, eqb-true n 4 four)))
one_of false false false n one two four h = absurd cc

-- by the code
len_of_code : (wide code : Bool) (n : ℕ) → (n == 8) ≡ wide → is_datum_len code n ≡ true → IsLenOf wide n
len_of_code true code n is h = inr (inr (inr (refl, eqb-true n 8 is)))
len_of_code false true n is h = absurd (false≢true (sym is ∙ h))
len_of_code false false n is h = one_of (n == 1) (n == 2) (n == 4) n refl refl refl h

-- the first datum of a block is at a multiple of its length
aligned_by : (block : Bool) (a n : ℕ) (more : Bool) (found : Option Location) → block ≡ true
    → is_none (if (block || more) && not (a % n == 0) then None else found) ≡ false → a % n ≡ 0
aligned_by block a n more found is h = by_whole (a % n == 0) refl
  where
    by_whole : (whole : Bool) → (a % n == 0) ≡ whole → a % n ≡ 0
    by_whole true whole = eqb-true (a % n) 0 whole
    by_whole false part = absurd (let bad = rw (is, part) at h in cc)

-- so each datum is
stays_aligned : (wide : Bool) (n a i : ℕ) → IsLenOf wide n → a % n ≡ 0 → (a + i * n) % n ≡ 0
stays_aligned wide n a i (inl one) aligned = rw one.1 (omega arith)
stays_aligned wide n a i (inr (inl two)) aligned = rw two.1 (let even : a % 2 ≡ 0 = rw two.1 at aligned in omega (arith, even))
stays_aligned wide n a i (inr (inr (inl four))) aligned = rw four.1 (let even : a % 4 ≡ 0 = rw four.1 at aligned in omega (arith, even))
stays_aligned wide n a i (inr (inr (inr eight))) aligned = rw eight.1 (let even : a % 8 ≡ 0 = rw eight.1 at aligned in omega (arith, even))

-- a datum is placed at a multiple of its length
placed_by : (wide quad : Bool) (n a : ℕ) → IsLenOf wide n → a % n ≡ 0 → (wide ≡ true → quad ≡ true)
    → (if wide then quad && a % 4 == 0 else n == 1 || n == 2 && a % 2 == 0 || n == 4 && a % 4 == 0) ≡ true
placed_by wide quad n a (inl one) aligned is = rw (one.0, one.1) refl
placed_by wide quad n a (inr (inl two)) aligned is =
    let even : a % 2 ≡ 0 = rw two.1 at aligned in rw (two.0, two.1, even) refl
placed_by wide quad n a (inr (inr (inl four))) aligned is =
    let even : a % 4 ≡ 0 = rw four.1 at aligned in rw (four.0, four.1, even) refl
placed_by wide quad n a (inr (inr (inr eight))) aligned is =
    let even : a % 8 ≡ 0 = rw eight.1 at aligned in
    let group : a % 4 ≡ 0 = omega (arith, even) in rw (eight.0, is eight.0, group) refl

-- it ends within its unit
inside_by : (wide : Bool) (n a : ℕ) → IsLenOf wide n → a % n ≡ 0
    → nat_lt (if wide then 2048 else 256) (a % (if wide then 2048 else 256) + n) ≡ false
inside_by wide n a (inl one) aligned = rw (one.0, one.1) (le-ltb 256 (a % 256 + 1) (omega arith))
inside_by wide n a (inr (inl two)) aligned =
    let even : a % 2 ≡ 0 = rw two.1 at aligned in rw (two.0, two.1) (le-ltb 256 (a % 256 + 2) (omega (arith, even)))
inside_by wide n a (inr (inr (inl four))) aligned =
    let even : a % 4 ≡ 0 = rw four.1 at aligned in rw (four.0, four.1) (le-ltb 256 (a % 256 + 4) (omega (arith, even)))
inside_by wide n a (inr (inr (inr eight))) aligned =
    let even : a % 8 ≡ 0 = rw eight.1 at aligned in rw (eight.0, eight.1) (le-ltb 2048 (a % 2048 + 8) (omega (arith, even)))

-- each datum is in the unit of the first, if the last is
same_unit : (wide : Bool) (n a span x : ℕ) → (n == 8) ≡ wide → counts.unit_of n a ≡ counts.unit_of n (a + span - 1) → a ≤ x → x + n ≤ a + span → 1 ≤ n
    → x / (if wide then 2048 else 256) ≡ a / (if wide then 2048 else 256)
same_unit true n a span x is same low high some =
    let ends : a / 2048 ≡ (a + span - 1) / 2048 = rw is at same in omega (arith, ends, low, high, some)
same_unit false n a span x is same low high some =
    let ends : a / 256 ≡ (a + span - 1) / 256 = rw is at same in omega (arith, ends, low, high, some)

-- a test that fails
not_not : (b : Bool) → not b ≡ false → b ≡ true
not_not true h = refl
not_not false h = absurd cc

-- four tests that fail
none_of : (p f l d : Bool) → p ≡ true → f ≡ true → l ≡ false → d ≡ false → (not p || not f || l || d) ≡ false
none_of p f l d one two three four = rw (one, two, three, four) refl

-- no datum has come before the first
first_of : (count : ℕ) (b : Bool) → count ≡ 0 → (nat_lt 0 count && b) ≡ false
first_of count b none = rw none refl

-- nor a cycle
first_cycle : (count : ℕ) (b : Bool) → count ≡ 0 → (nat_lt 1 count || count == 1 && b) ≡ false
first_cycle count b none = rw none refl

-- equal levels
beq_self : (a b : Bool) → a ≡ b → beq a b ≡ true
beq_self true true is = refl
beq_self false false is = refl
beq_self true false is = absurd cc
beq_self false true is = absurd cc

-- a datum that is like the first
like_first : (len write unit : Bool) → len ≡ true → write ≡ true → unit ≡ true → (not len || not write || not unit) ≡ false
like_first len write unit one two three = rw (one, two, three) refl

module _ (t : cycles.Transfer) (lawful : IsLawfulTransfer t) (block : is_block_request t.request ≡ true) (i : ℕ) (less : i < count_of t.request) where
  -- the length of its data
  pub block_len : IsLenOf t.am.wide (datum_len t.request)
  block_len =
      let parts = lawful_parts t lawful in
      len_of_code t.am.wide (is_wide_code (code_of t.request)) (datum_len t.request) parts.wide (block_counted t.request block parts.counted)

  -- where each is
  pub block_aligned : address_of t.request i % datum_len t.request ≡ 0
  block_aligned =
      let parts = lawful_parts t lawful in
      stays_aligned t.am.wide (datum_len t.request) (addr_of t.request) i block_len
      (aligned_by (is_block_request t.request) (addr_of t.request) (datum_len t.request) (is_some (function_of t.request))
      (location_for (addr_of t.request) (datum_len t.request)) block parts.found)

  -- in which unit
  block_unit : address_of t.request i / (if t.am.wide then 2048 else 256) ≡ addr_of t.request / (if t.am.wide then 2048 else 256)
  block_unit =
      let parts = lawful_parts t lawful in
      let n = datum_len t.request in
      let whole : counts.unit_of n (addr_of t.request) ≡ counts.unit_of n (addr_of t.request + span_of t.request - 1)
      = eqb-true _ _ (not_not _ (rw block at parts.inside)) in
      let ends = ends_within t i lawful less in
      same_unit t.am.wide n (addr_of t.request) (span_of t.request) (address_of t.request i) parts.wide whole (omega arith)
      (omega (arith, ends)) (len_is t i lawful less).some

module _ (t : cycles.Transfer) (lawful : IsLawfulTransfer t) (u : Transfer) (begun : IsBegun t u) (s : Sample) (level : s.write ≡ level_for t) where
  -- a datum of a block fits, if it is like the first
  block_fits : (i : ℕ) → i < count_of t.request → is_block_request t.request ≡ true
      → (nat_lt 0 u.count && differs_from_block u (place_for t i) s) ≡ false → misfits_block u (place_for t i) s ≡ false
  block_fits i less block like =
      let n = datum_len t.request in
      let a = address_of t.request i in
      let l = own_location t i in
      let len = block_len t lawful block i less in
      let aligned = block_aligned t lawful block i less in
      let placed : is_placed u (place_for t i) ≡ true
      = ap (λ (b : Bool). if b then is_quad l && a % 4 == 0 else n == 1 || n == 2 && a % 2 == 0 || n == 4 && a % 4 == 0) begun.wide
      ∙ placed_by t.am.wide (is_quad l) n a len aligned (len_is t i lawful less).quad in
      let inside : nat_lt (places.unit_of u) (a % places.unit_of u + n) ≡ false
      = ap (λ (b : Bool). nat_lt (if b then 2048 else 256) (a % (if b then 2048 else 256) + n)) begun.wide ∙ inside_by t.am.wide n a len aligned in
      none_of (is_placed u (place_for t i)) ((row_of l).first == a % 4) (nat_lt (places.unit_of u) (a % places.unit_of u + n)) _
      placed (eq-eqb (row_of l).first (a % 4) (own_row t i (lawful_parts t lawful) less).0) inside like

  -- a datum fits
  fits : (i : ℕ) → i < count_of t.request → IsNext t i u → misfits u (place_for t i) s ≡ false
  fits zero less next =
      elim (cases_Bool (is_block_request t.request)) [
        | inl block ↦
            ap (λ (b : Bool). if b then misfits_block u (place_for t 0) s else misfits_cycle u s)
            (begun.block ∙ (lawful_parts t lawful).kind ∙ block)
            ∙ block_fits 0 less block (first_of u.count (differs_from_block u (place_for t 0) s) next)
        | inr alone ↦
            ap (λ (b : Bool). if b then misfits_block u (place_for t 0) s else misfits_cycle u s)
            (begun.block ∙ (lawful_parts t lawful).kind ∙ alone)
            ∙ first_cycle u.count _ next
      ]
  fits (suc i) less next =
      let block = later_block t.request i less in
      let a = address_of t.request (suc i) in
      let unit : (a / places.unit_of u == u.first / places.unit_of u) ≡ true
      = eq-eqb (a / places.unit_of u) (u.first / places.unit_of u)
      (ap (λ (b : Bool). a / (if b then 2048 else 256)) begun.wide ∙ block_unit t lawful block (suc i) less
      ∙ ap (λ (b : Bool). addr_of t.request / (if b then 2048 else 256)) (sym begun.wide)
      ∙ ap (λ (x : ℕ). x / places.unit_of u) (sym next.first)) in
      let like : differs_from_block u (place_for t (suc i)) s ≡ false
      = like_first (datum_len t.request == u.len) (beq s.write u.write) (a / places.unit_of u == u.first / places.unit_of u)
      (eq-eqb (datum_len t.request) u.len (sym next.len)) (beq_self s.write u.write (level ∙ sym next.write)) unit in
      ap (λ (b : Bool). if b then misfits_block u (place_for t (suc i)) s else misfits_cycle u s)
      (begun.block ∙ (lawful_parts t lawful).kind ∙ block)
      ∙ block_fits (suc i) less block (ap (λ (b : Bool). nat_lt 0 u.count && b) like ∙ and_false (nat_lt 0 u.count))
    where
      and_false : (b : Bool) → (b && false) ≡ false
      and_false true = refl
      and_false false = refl

  module _ (i : ℕ) (less : i < count_of t.request) (next : IsNext t i u) (ds1 : s.ds1 ≡ (row_of (own_location t i)).strobes.ds1)
      (ds0 : s.ds0 ≡ (row_of (own_location t i)).strobes.ds0) where
    -- a datum may come
    pub may_come : breaks_transfer u s ≡ false
    unfolding breaks_transfer
    may_come =
        ap (breaks_at u s) (place_is t lawful u begun s i less next ds1 ds0)
        ∙ ap (λ (b : Bool). b || misfits u (place_for t i) s) begun.whole ∙ fits i less next

    -- its place, if it is judged
    pub place_judged : place_of u s ≡ Some (place_for t i)
    place_judged =
        ap (λ (b : Bool). if b && u.has_row then place_in u s else None) begun.judged
        ∙ ap (λ (b : Bool). if b then place_in u s else None) begun.row ∙ place_is t lawful u begun s i less next ds1 ds0

    -- an answer to it, which is none of an address phase
    pub takes : is_address_phase u s ≡ false → after_answer u (place_of u s) s ≡ took u (place_for t i) s
    unfolding after_answer
    takes phase =
        ap (λ (p : Option Place). after_answer u p s) place_judged
        ∙ ap (λ (b : Bool). if b then passed u else took u (place_for t i) s) phase

-- there is a datum after one more
some_next : (count : ℕ) → nat_lt 0 (next_count count) ≡ true
some_next count = lt-ltb 0 (next_count count) (omega arith)

-- a number that is not zero
not_zero : (count : ℕ) → nat_lt 0 count ≡ true → (count == 0) ≡ false
not_zero count h = let some = ltb-true 0 count h in ne_eqb count 0 (λ same. absurd (omega (arith, same, some)))

module _ (t : cycles.Transfer) (u : Transfer) (begun : IsBegun t u) (s : Sample) (level : s.write ≡ level_for t) where
  -- DTACK* leaves a transfer as it began
  pub took_begun : (place : Place) → s.dtack ≡ false → IsBegun t (took u place s)
  unfolding took
  took_begun place low = record {
    judged = begun.judged;
    row = begun.row;
    block = begun.block;
    wide = begun.wide;
    base = begun.base;
    a01 = begun.a01;
    lword = begun.lword;
    whole = ap (λ (b : Bool). b || s.dtack) begun.whole ∙ low;
  }

  -- the address after a datum
  next_address : (i : ℕ) → (address_of t.request i + datum_len t.request) % 2 ^ 32 ≡ address_of t.request (suc i) % 2 ^ 32
  next_address i =
      let n = datum_len t.request in
      let one : suc i ≡ i + 1 = omega arith in
      let product : suc i * n ≡ i * n + n = ap (λ (j : ℕ). j * n) one ∙ product_next i n in
      let sum : addr_of t.request + i * n + n ≡ addr_of t.request + suc i * n = omega (arith, product) in
      ap (λ (x : ℕ). x % 2 ^ 32) sum

  -- the next datum comes after it
  pub took_next : (i : ℕ) → IsNext t i u → IsLater t (suc i) (took u (place_for t i) s)
  unfolding took
  took_next zero next = record {
    counted = some_next u.count;
    next = next_address 0;
    first = ap (λ (c : ℕ). if c == 0 then address_of t.request 0 else u.first) next ∙ omega arith;
    len = refl;
    write = ap (λ (c : ℕ). if c == 0 then s.write else u.write) next ∙ level;
  }
  took_next (suc i) next = record {
    counted = some_next u.count;
    next = next_address (suc i);
    first = ap (λ (b : Bool). if b then address_of t.request (suc i) else u.first) (not_zero u.count next.counted) ∙ next.first;
    len = refl;
    write = ap (λ (b : Bool). if b then s.write else u.write) (not_zero u.count next.counted) ∙ next.write;
  }
