-- How a reader remembers which variables of a header are wanted ones.
use Rattle.std.specs.Prelude.{◌≡◌, ℕ, Bool, true, false, List, length, slice_get, filter_map, is_none, Some, ◌<◌, ◌⊎◌, Result, Err}
use Rattle.std.specs.List.{list_any}
use Rattle.vme_line_map.specs.Variables.{Map, Variable}
use Rattle.vme_vcd_reader.specs.declared.matching.Fit.{Fit}
use Rattle.vme_vcd_reader.specs.declared.matching.Fit.TheVariants as fits
use Rattle.vme_vcd_reader.specs.declared.matching.Found.{Found}
use Rattle.vme_vcd_reader.specs.declared.matching.Matching.{Matching}
use Rattle.vme_vcd_reader.specs.Mapping.{Declaration, mapped_of}
use Rattle.vme_vcd_reader.specs.Matches.{distinct, has_clash, is_ambiguous, is_end, is_whole, named_by, part_of}
use Rattle.vme_vcd_reader.specs.declared.fault.VcdFault.{VcdFault}
use Rattle.vme_vcd_reader.specs.declared.fault.VcdFault.TheVariants as faults
use Rattle.vme_vcd_reader.specs.declared.variable.Mapped.{Mapped}

-- a fit by whether a name is the whole of a path, and the end of one
abbrev pub fit_by : Bool → Bool → Fit
fit_by true end = fits.Whole
fit_by false true = fits.End
fit_by false false = fits.None

-- how a name fits the path of a variable
abbrev pub fit_of : List ℕ → Declaration → Fit
fit_of name d = fit_by (is_whole name d) (is_end name d)

-- how a name fits the paths of variables best
abbrev pub best_fit : List ℕ → List Declaration → Fit
best_fit name ds = fit_by (list_any (is_whole name) ds) (list_any (is_end name) ds)

-- what was found is these variables, as lines of a wanted one
pub record Holds (named : List Declaration) (w : Variable) (f : Found) : Type 0 where
  pub wrong : f.is_wrong ≡ list_any (λ d. is_none (mapped_of w d)) named
  pub ambiguous : f.is_ambiguous ≡ has_clash (distinct (filter_map (part_of w) named))
  pub parts : f.is_ambiguous ≡ false → f.parts.items ≡ distinct (filter_map (part_of w) named)

-- what was found of a wanted variable among the variables of a header so far
pub record IsFound (ds : List Declaration) (w : Variable) (f : Found) : Type 0 where
  pub fit : f.fit ≡ best_fit w.name ds
  pub holds : Holds (named_by w.name ds) w f

-- what was found of each wanted variable among those of a header so far
pub record IsMatching (map : Map) (ds : List Declaration) (m : Matching) : Type 0 where
  pub all : length m.found.items ≡ length map.variables
  pub each : (i : ℕ) (w : Variable) (f : Found) → slice_get map.variables i ≡ Some w → slice_get m.found.items i ≡ Some f
      → IsFound ds w f

-- no wanted variable is ambiguous
abbrev pub AreClear : List Declaration → List Variable → Type 0
AreClear ds ws = (i : ℕ) (w : Variable) → slice_get ws i ≡ Some w → is_ambiguous ds w ≡ false

-- why not all of some variables are kept: an allocation failed, or they are too many
abbrev pub IsFull : VcdFault → List (ℕ × Mapped) → Type 0
IsFull fault lines = (fault ≡ faults.Memory) ⊎ ((fault ≡ faults.TooManyMapped) × (1000 < length lines))

-- why no lines are read: an allocation failed, or a fault of the header
abbrev pub IsMapFault : Result (List (ℕ × Mapped)) VcdFault → VcdFault → Type 0
IsMapFault lines fault = (fault ≡ faults.Memory) ⊎ (lines ≡ Err fault)
