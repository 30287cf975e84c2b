-- A walk through the list of an identifier.
use Rattle.std.proofs.Common.{◌≡◌, ◌≢◌, ℕ, zero, suc, ◌+◌, ◌<◌, ◌≤◌, Bool, true, false, ◌==◌, ◌||◌, List, [], ◌∷◌, length, get_or, take, Some, refl, ap, sym, ◌∙◌, subst, arith, eq-eqb, ne_eqb}
use Rattle.std.specs.Prelude.{if◌then◌else◌, slice_get}
use Rattle.std.proofs.lemmas.List.{take_all}
use Rattle.vme_vcd_reader.specs.declared.bits.Bits.{Bits}
use Rattle.vme_vcd_reader.specs.declared.bus.BusLines.{BusLines}
use Rattle.vme_vcd_reader.specs.declared.table.Row.{Row}
use Rattle.vme_vcd_reader.specs.Buses.{bus_after}
use Rattle.vme_vcd_reader.specs.Tables.{IsLink, IsLinked, has_variable, place_of, variables_after}

-- the variables from a number on were walked through, up to a link of the list
pub record IsWalked (rows : List Row) (identifier : ℕ) (bits : Bits) (bus start : BusLines) (link : ℕ) (has : Bool) : Type 0 where
  pub within : link ≤ length rows
  pub there : (n : ℕ) (row : Row) → link ≡ n + 1 → slice_get rows n ≡ Some row → place_of row.identifier ≡ place_of identifier
  pub changed : variables_after (take link rows) identifier bits bus ≡ variables_after rows identifier bits start
  pub some : (has || has_variable (take link rows) identifier) ≡ has_variable rows identifier

-- identifiers in other lists are others
other : (a b : ℕ) → (place_of a == place_of b) ≡ false → (a == b) ≡ false
other a b apart = ne_eqb a b (λ same. absurd (cc (eq-eqb (place_of a) (place_of b) (ap place_of same), apart)))

-- variables with other identifiers change nothing
skip : (rows : List Row) (link bound identifier : ℕ) (bits : Bits) (bus : BusLines) → link ≤ bound
    → ((n : ℕ) (row : Row) → link ≤ n → n < bound → slice_get rows n ≡ Some row → (row.identifier == identifier) ≡ false)
    → variables_after (take link rows) identifier bits bus ≡ variables_after (take bound rows) identifier bits bus
skip [] zero zero identifier bits bus le apart = refl
skip [] zero (suc bound) identifier bits bus le apart = refl
skip [] (suc link) zero identifier bits bus le apart = refl
skip [] (suc link) (suc bound) identifier bits bus le apart = refl
skip (row ∷ rows) zero zero identifier bits bus le apart = refl
skip (row ∷ rows) (suc link) zero identifier bits bus le apart = absurd (omega arith)
skip (row ∷ rows) zero (suc bound) identifier bits bus le apart =
    skip rows zero bound identifier bits bus (omega arith) (λ n r from to is. apart (suc n) r (omega arith) (omega arith) is)
    ∙ sym (ap (λ test. if test then bus_after (variables_after (take bound rows) identifier bits bus) row.mapped bits
    else variables_after (take bound rows) identifier bits bus) (apart zero row (omega arith) (omega arith) refl))
skip (row ∷ rows) (suc link) (suc bound) identifier bits bus le apart =
    ap (λ after. if row.identifier == identifier then bus_after after row.mapped bits else after)
    (skip rows link bound identifier bits bus (omega arith) (λ n r from to is. apart (suc n) r (omega arith) (omega arith) is))

skip_some : (rows : List Row) (link bound identifier : ℕ) → link ≤ bound
    → ((n : ℕ) (row : Row) → link ≤ n → n < bound → slice_get rows n ≡ Some row → (row.identifier == identifier) ≡ false)
    → has_variable (take link rows) identifier ≡ has_variable (take bound rows) identifier
skip_some [] zero zero identifier le apart = refl
skip_some [] zero (suc bound) identifier le apart = refl
skip_some [] (suc link) zero identifier le apart = refl
skip_some [] (suc link) (suc bound) identifier le apart = refl
skip_some (row ∷ rows) zero zero identifier le apart = refl
skip_some (row ∷ rows) (suc link) zero identifier le apart = absurd (omega arith)
skip_some (row ∷ rows) zero (suc bound) identifier le apart =
    skip_some rows zero bound identifier (omega arith) (λ n r from to is. apart (suc n) r (omega arith) (omega arith) is)
    ∙ sym (ap (λ test. test || has_variable (take bound rows) identifier) (apart zero row (omega arith) (omega arith) refl))
skip_some (row ∷ rows) (suc link) (suc bound) identifier le apart =
    ap (λ has. row.identifier == identifier || has)
    (skip_some rows link bound identifier (omega arith) (λ n r from to is. apart (suc n) r (omega arith) (omega arith) is))

-- the last of some variables changes the lines first
last_row : (rows : List Row) (k identifier : ℕ) (row : Row) (bits : Bits) (bus : BusLines) → slice_get rows k ≡ Some row
    → variables_after (take (suc k) rows) identifier bits bus
    ≡ variables_after (take k rows) identifier bits (if row.identifier == identifier then bus_after bus row.mapped bits else bus)
last_row [] k identifier row bits bus is = absurd (cc)
last_row (r ∷ rows) zero identifier row bits bus is =
    let same : r ≡ row = cc in ap (λ (r : Row). if r.identifier == identifier then bus_after bus r.mapped bits else bus) same
last_row (r ∷ rows) (suc k) identifier row bits bus is =
    ap (λ after. if r.identifier == identifier then bus_after after r.mapped bits else after) (last_row rows k identifier row bits bus is)

or_mid : (a b c : Bool) → ((b || a) || c) ≡ (a || (b || c))
or_mid true true c = refl
or_mid true false c = refl
or_mid false true c = refl
or_mid false false c = refl

or_swap : (a b c : Bool) → (a || (b || c)) ≡ (b || (a || c))
or_swap true true c = refl
or_swap true false c = refl
or_swap false true c = refl
or_swap false false c = refl

or_nil : (a : Bool) → (a || false) ≡ a
or_nil true = refl
or_nil false = refl

last_some : (rows : List Row) (k identifier : ℕ) (row : Row) → slice_get rows k ≡ Some row
    → has_variable (take (suc k) rows) identifier ≡ (row.identifier == identifier || has_variable (take k rows) identifier)
last_some [] k identifier row is = absurd (cc)
last_some (r ∷ rows) zero identifier row is =
    let same : r ≡ row = cc in ap (λ (r : Row). r.identifier == identifier || false) same
last_some (r ∷ rows) (suc k) identifier row is =
    ap (λ has. r.identifier == identifier || has) (last_some rows k identifier row is)
    ∙ or_swap (r.identifier == identifier) (row.identifier == identifier) (has_variable (take k rows) identifier)

-- the walk begins at the head of the list
pub walk_begins : (rows : List Row) (identifier link : ℕ) (bits : Bits) (bus : BusLines) → IsLink rows link (length rows) (place_of identifier)
    → IsWalked rows identifier bits bus bus link false
walk_begins rows identifier link bits bus is = record {
  within = is.within;
  there = is.there;
  changed =
      skip rows link (length rows) identifier bits bus is.within (λ n row from to at. other row.identifier identifier (is.last n row from to at))
      ∙ ap (λ rows. variables_after rows identifier bits bus) (take_all (length rows) rows (omega arith));
  some =
      skip_some rows link (length rows) identifier is.within (λ n row from to at. other row.identifier identifier (is.last n row from to at))
      ∙ ap (λ rows. has_variable rows identifier) (take_all (length rows) rows (omega arith));
}

-- it goes back to the variable before in the list
pub walk_goes : (rows : List Row) (heads : List ℕ) (identifier k : ℕ) (row : Row) (bits : Bits) (bus start next : BusLines) (has some : Bool)
    → IsLinked rows heads → IsWalked rows identifier bits bus start (suc k) has → slice_get rows k ≡ Some row
    → next ≡ (if row.identifier == identifier then bus_after bus row.mapped bits else bus) → some ≡ (row.identifier == identifier || has)
    → IsWalked rows identifier bits next start row.next some
walk_goes rows heads identifier k row bits bus start next has some linked walked is after found =
    let link : IsLink rows row.next k (place_of row.identifier) = linked.links k row is in
    let same : place_of row.identifier ≡ place_of identifier = walked.there k row (omega arith) is in
    let apart : (n : ℕ) (r : Row) → row.next ≤ n → n < k → slice_get rows n ≡ Some r → (r.identifier == identifier) ≡ false =
    λ n r from to at. other r.identifier identifier (sym (ap (λ place. place_of r.identifier == place) same) ∙ link.last n r from to at) in
    record {
      within = omega (arith, link.within, walked.within);
      there = λ n r above at. link.there n r above at ∙ same;
      changed =
          skip rows row.next k identifier bits next link.within apart
          ∙ ap (variables_after (take k rows) identifier bits) after
          ∙ sym (last_row rows k identifier row bits bus is) ∙ walked.changed;
      some =
          ap (λ has. some || has) (skip_some rows row.next k identifier link.within apart)
          ∙ ap (λ test. test || has_variable (take k rows) identifier) found
          ∙ or_mid has (row.identifier == identifier) (has_variable (take k rows) identifier)
          ∙ sym (ap (λ more. has || more) (last_some rows k identifier row is)) ∙ walked.some;
    }

-- it ends before the first variable
pub walk_ends : (rows : List Row) (identifier : ℕ) (bits : Bits) (bus start : BusLines) (has : Bool) → IsWalked rows identifier bits bus start 0 has
    → (bus ≡ variables_after rows identifier bits start) × (has ≡ has_variable rows identifier)
walk_ends rows identifier bits bus start has walked = (walked.changed, sym (or_nil has) ∙ walked.some)

-- the same by the link itself, at a variable with the identifier, and at another one
pub walk_then : (rows : List Row) (heads : List ℕ) (identifier link k : ℕ) (row : Row) (bits : Bits) (bus start next : BusLines) (has some : Bool)
    → IsLinked rows heads → IsWalked rows identifier bits bus start link has → link ≡ suc k → slice_get rows k ≡ Some row
    → row.identifier ≡ identifier → next ≡ bus_after bus row.mapped bits → some ≡ true → IsWalked rows identifier bits next start row.next some
walk_then rows heads identifier link k row bits bus start next has some linked walked at is same after found =
    let test : (row.identifier == identifier) ≡ true = eq-eqb row.identifier identifier same in
    walk_goes rows heads identifier k row bits bus start next has some linked
    (subst (λ link. IsWalked rows identifier bits bus start link has) at walked) is
    (after ∙ sym (ap (λ test. if test then bus_after bus row.mapped bits else bus) test))
    (found ∙ sym (ap (λ test. test || has) test))

pub walk_else : (rows : List Row) (heads : List ℕ) (identifier link k : ℕ) (row : Row) (bits : Bits) (bus start next : BusLines) (has some : Bool)
    → IsLinked rows heads → IsWalked rows identifier bits bus start link has → link ≡ suc k → slice_get rows k ≡ Some row
    → row.identifier ≢ identifier → next ≡ bus → some ≡ has → IsWalked rows identifier bits next start row.next some
walk_else rows heads identifier link k row bits bus start next has some linked walked at is apart after found =
    let test : (row.identifier == identifier) ≡ false = ne_eqb row.identifier identifier apart in
    walk_goes rows heads identifier k row bits bus start next has some linked
    (subst (λ link. IsWalked rows identifier bits bus start link has) at walked) is
    (after ∙ sym (ap (λ test. if test then bus_after bus row.mapped bits else bus) test))
    (found ∙ sym (ap (λ test. test || has) test))

-- what a read of a list gives
get_some : (xs : List Row) (k : ℕ) (x : Row) → k < length xs → x ≡ get_or xs k x → slice_get xs k ≡ Some x
get_some [] k x within is = absurd (omega arith)
get_some (y ∷ ys) zero x within is = ap Some (sym is)
get_some (y ∷ ys) (suc k) x within is = get_some ys k x (omega arith) is

pub get_some_at : (ys xs : List Row) (k : ℕ) (x : Row) → ys ≡ xs → k < length ys → x ≡ get_or ys k x → slice_get xs k ≡ Some x
get_some_at ys xs k x same within is = ap (λ xs. slice_get xs k) (sym same) ∙ get_some ys k x within is
