-- What is wrong with wanted variables.
use Rattle.std.proofs.Common.{◌≡◌, ℕ, ◌+◌, ◌≤◌, Bool, true, false, List, [], ◌∷◌, length, zero, suc, drop, Option, Some, None, refl, ap, sym, ◌∙◌}
use Rattle.std.specs.Prelude.{if◌then◌else◌, slice_get}
use Rattle.std.specs.Option.{option_or}
use Rattle.vme_line_map.specs.Variables.{Map, Variable}
use Rattle.vme_vcd_reader.specs.declared.fault.VcdFault.{VcdFault}
use Rattle.vme_vcd_reader.specs.declared.fault.VcdFault.TheVariants as faults
use Rattle.vme_vcd_reader.specs.Mapping.{Declaration}
use Rattle.vme_vcd_reader.specs.Matches.{absent_fault, fault_at, first_fault, is_ambiguous, is_there, is_wrong}
use Rattle.vme_vcd_reader.specs.Found.{AreClear}
use Rattle.vme_vcd_reader.proofs.Matchings.{drop_get, drop_past}

-- one that is one variable with the right bits, if it is there
pub fault_clear : (map : Map) (ds : List Declaration) (index : ℕ) (w : Variable) (there : Bool) → is_ambiguous ds w ≡ false → is_wrong ds w ≡ false
    → is_there ds w ≡ there → fault_at map ds index w ≡ (if there then None else absent_fault map ds index w)
fault_clear map ds index w there clear right is =
    ap (λ t. if t then Some (faults.Ambiguous index) else
    (if is_wrong ds w then Some (faults.BadWidth index) else (if is_there ds w then None else absent_fault map ds index w))) clear
    ∙ ap (λ t. if t then Some (faults.BadWidth index) else (if is_there ds w then None else absent_fault map ds index w)) right
    ∙ ap (λ t. if t then None else absent_fault map ds index w) is

-- the first fault, by those from a place on
pub fault_here : (map : Map) (ds : List Declaration) (ws : List Variable) (i : ℕ) (w : Variable) (fault : VcdFault) → slice_get ws i ≡ Some w
    → first_fault map ds 0 ws ≡ first_fault map ds i (drop i ws) → fault_at map ds i w ≡ Some fault → Some fault ≡ first_fault map ds 0 ws
fault_here map ds ws i w fault at before is =
    sym (before ∙ ap (first_fault map ds i) (drop_get ws i w at) ∙ ap (λ f. option_or f (first_fault map ds (i + 1) (drop (i + 1) ws))) is)

pub fault_next : (map : Map) (ds : List Declaration) (ws : List Variable) (i : ℕ) (w : Variable) → slice_get ws i ≡ Some w
    → first_fault map ds 0 ws ≡ first_fault map ds i (drop i ws) → fault_at map ds i w ≡ None
    → first_fault map ds 0 ws ≡ first_fault map ds (i + 1) (drop (i + 1) ws)
fault_next map ds ws i w at before is =
    before ∙ ap (first_fault map ds i) (drop_get ws i w at) ∙ ap (λ f. option_or f (first_fault map ds (i + 1) (drop (i + 1) ws))) is

pub fault_past : (map : Map) (ds : List Declaration) (ws : List Variable) (i : ℕ) → length ws ≤ i
    → first_fault map ds 0 ws ≡ first_fault map ds i (drop i ws) → None ≡ first_fault map ds 0 ws
fault_past map ds ws i past before = sym (before ∙ ap (first_fault map ds i) (drop_past ws i past))

-- where there is no fault, no variable is ambiguous
none_first : (a b : Option VcdFault) → option_or a b ≡ None → (a ≡ None) × (b ≡ None)
none_first None b e = (refl, e)
none_first (Some x) b e = absurd (cc)

clear_by : (map : Map) (ds : List Declaration) (index : ℕ) (w : Variable) (is : Bool) → is_ambiguous ds w ≡ is → fault_at map ds index w ≡ None
    → is_ambiguous ds w ≡ false
clear_by map ds index w false e none = e
clear_by map ds index w true e none =
    let some : fault_at map ds index w ≡ Some (faults.Ambiguous index) =
    ap (λ t. if t then Some (faults.Ambiguous index) else
    (if is_wrong ds w then Some (faults.BadWidth index) else (if is_there ds w then None else absent_fault map ds index w))) e in
    absurd (cc (some, none))

are_clear : (map : Map) (ds : List Declaration) (index : ℕ) (ws : List Variable) → first_fault map ds index ws ≡ None → AreClear ds ws
are_clear map ds index [] none i w is = absurd (cc)
are_clear map ds index (v ∷ ws) none zero w is =
    let first = none_first (fault_at map ds index v) (first_fault map ds (index + 1) ws) none in
    let same : v ≡ w = cc in
    ap (is_ambiguous ds) (sym same) ∙ clear_by map ds index v (is_ambiguous ds v) refl first.0
are_clear map ds index (v ∷ ws) none (suc i) w is =
    let first = none_first (fault_at map ds index v) (first_fault map ds (index + 1) ws) none in
    are_clear map ds (index + 1) ws first.1 i w is

pub all_clear : (map : Map) (ds : List Declaration) → first_fault map ds 0 map.variables ≡ None → AreClear ds map.variables
all_clear map ds none = are_clear map ds 0 map.variables none
