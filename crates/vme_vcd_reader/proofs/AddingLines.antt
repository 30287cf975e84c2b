-- The lines of wanted variables, one variable after another.
use Rattle.std.proofs.Common.{◌≡◌, ℕ, ◌+◌, ◌<◌, ◌≤◌, inl, inr, Bool, true, false, nat_lt, List, [], ◌∷◌, ◌++◌, length, drop, map, Some, None, Ok, Err, refl, ap, sym, subst, ◌∙◌, append_assoc, append-nil, arith, length-append, length-drop}
use Rattle.std.specs.Prelude.{flat_map, slice_get, nat_le, if◌then◌else◌}
use Rattle.std.proofs.lemmas.Bool.Decides.{nat_tests}
use Rattle.vme_line_map.specs.Variables.{Map, Variable}
use Rattle.vme_vcd_reader.specs.declared.fault.VcdFault.{VcdFault}
use Rattle.vme_vcd_reader.specs.declared.fault.VcdFault.TheVariants as faults
use Rattle.vme_vcd_reader.specs.declared.matching.Part.{Part}
use Rattle.vme_vcd_reader.specs.declared.table.Row.{Row}
use Rattle.vme_vcd_reader.specs.declared.variable.Mapped.{Mapped}
use Rattle.vme_vcd_reader.specs.Found.{IsFound, IsFull, IsMapFault}
use Rattle.vme_vcd_reader.specs.declared.matching.Found.{Found}
use Rattle.vme_vcd_reader.specs.Mapping.{Declaration}
use Rattle.vme_vcd_reader.specs.Matches.{first_fault, if_few, is_ambiguous, line_of, lines_at, lines_in, lines_of, unless}
use Rattle.vme_vcd_reader.specs.Tables.{variables_of}
use Rattle.vme_vcd_reader.proofs.Matchings.{drop_get, drop_past}

pub length-variables : (rows : List Row) → length (variables_of rows) ≡ length rows
length-variables [] = refl
length-variables (row ∷ rows) = omega (arith, length-variables rows)

length-map : {X Y : Type 0} (f : X → Y) (xs : List X) → length (map f xs) ≡ length xs
length-map f [] = refl
length-map f (x ∷ xs) = omega (arith, length-map f xs)

-- no place is left for another part
pub too_many : (rows : List Row) (f : Part → ℕ × Mapped) (parts : List Part) (k : ℕ) (total : List (ℕ × Mapped)) → nat_lt (length rows) 1000 ≡ false
    → k < length parts → variables_of rows ++ map f (drop k parts) ≡ total → IsFull faults.TooManyMapped total
too_many rows f parts k total full within is =
    let many : 1000 ≤ length rows = grind (arith, nat_tests, full) in
    let e = ap length is in
    inr (
      refl,
      omega (
        arith,
        many,
        e,
        within,
        length-append (variables_of rows) (map f (drop k parts)),
        length-variables rows,
        length-map f (drop k parts),
        length-drop k parts,
      ),
    )

-- too many stay too many
pub full_more : (fault : VcdFault) (lines more : List (ℕ × Mapped)) → IsFull fault lines → IsFull fault (lines ++ more)
full_more fault lines more (inl memory) = inl memory
full_more fault lines more (inr (is, many)) = inr (is, omega (arith, many, length-append lines more))

-- the lines of one more variable
pub lines_next : (f : Variable → List (ℕ × Mapped)) (ws : List Variable) (i : ℕ) (w : Variable) (before total : List (ℕ × Mapped)) → slice_get ws i ≡ Some w
    → before ++ flat_map f (drop i ws) ≡ total → (before ++ f w) ++ flat_map f (drop (i + 1) ws) ≡ total
lines_next f ws i w before total at is =
    append_assoc before (f w) (flat_map f (drop (i + 1) ws)) ∙ sym (ap (λ ws. before ++ flat_map f ws) (drop_get ws i w at)) ∙ is

pub lines_past : (f : Variable → List (ℕ × Mapped)) (ws : List Variable) (i : ℕ) (before total : List (ℕ × Mapped)) → length ws ≤ i
    → before ++ flat_map f (drop i ws) ≡ total → before ≡ total
lines_past f ws i before total past is = sym (append-nil before) ∙ sym (ap (λ ws. before ++ flat_map f ws) (drop_past ws i past)) ∙ is

-- lines without a fault, if they are few
pub lines_are : (map : Map) (ds : List Declaration) (lines : List (ℕ × Mapped)) → first_fault map ds 0 map.variables ≡ None → lines ≡ lines_in map ds
    → length lines ≤ 1000 → lines_of map ds ≡ Ok lines
lines_are map ds lines none is few =
    let small : nat_le (length lines) 1000 ≡ true = grind (arith, nat_tests, few) in
    ap (λ fault. unless fault (lines_in map ds)) none ∙ ap if_few (sym is) ∙ ap (λ t. if t then Ok lines else Err faults.TooManyMapped) small

pub lines_fault : (map : Map) (ds : List Declaration) (fault : VcdFault) → first_fault map ds 0 map.variables ≡ Some fault → IsMapFault (lines_of map ds) fault
lines_fault map ds fault some = inr (ap (λ fault. unless fault (lines_in map ds)) some)

pub lines_full : (map : Map) (ds : List Declaration) (fault : VcdFault) → first_fault map ds 0 map.variables ≡ None → IsFull fault (lines_in map ds)
    → IsMapFault (lines_of map ds) fault
lines_full map ds fault none (inl memory) = inl memory
lines_full map ds fault none (inr (is, many)) =
    let large : nat_le (length (lines_in map ds)) 1000 ≡ false = grind (arith, nat_tests, many) in
    inr (ap (λ fault. unless fault (lines_in map ds)) none ∙ ap (λ t. if t then Ok (lines_in map ds) else Err faults.TooManyMapped) large ∙ ap Err (sym is))

-- the lines that are added of a wanted variable
pub added_lines : (ds : List Declaration) (a01 own : Bool) (w : Variable) (f : Found) (parts : List Part) → IsFound ds w f → is_ambiguous ds w ≡ false
    → a01 ≡ own → parts ≡ f.parts.items → map (line_of a01 w) parts ≡ lines_at ds own w
added_lines ds a01 own w f parts found clear same are =
    ap (λ a01. map (line_of a01 w) parts) same ∙ ap (map (line_of own w)) (are ∙ found.holds.parts (found.holds.ambiguous ∙ clear))

-- not all of them fit
pub full_lines : (f : Variable → List (ℕ × Mapped)) (ws : List Variable) (i : ℕ) (w : Variable) (before more total : List (ℕ × Mapped)) (fault : VcdFault)
    → slice_get ws i ≡ Some w → before ++ flat_map f (drop i ws) ≡ total → more ≡ f w → IsFull fault (before ++ more) → IsFull fault total
full_lines f ws i w before more total fault at is same full =
    subst (IsFull fault) (lines_next f ws i w before total at is)
    (full_more fault (before ++ f w) (flat_map f (drop (i + 1) ws)) (subst (λ more. IsFull fault (before ++ more)) same full))
