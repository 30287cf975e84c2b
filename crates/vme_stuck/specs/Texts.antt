-- The text that `bendrika outcomes --stuck` prints.
use Rattle.std.specs.Prelude.{ℕ, ◌≡◌, Bool, if◌then◌else◌, List, [], ◌∷◌, ◌++◌, length, flat_map, codes, Option, Some, None}
use Rattle.std.specs.Fmt.{decimal}
use Rattle.vme_grammar.specs.Texts.{output_line}
use Rattle.vme_script.specs.Configurations.{Configuration}
use Rattle.vme_outcome_listing.specs.Schedules.{schedule_text, tries_line}
use Rattle.vme_outcome_listing.specs.Outputs.{number_text}
use Rattle.vme_outcome_listing.specs.Texts.{slots_of}
use Rattle.vme_states.specs.Listings.{Listed}
use Rattle.vme_stuck.specs.Listed.{HasEachEnd}
use Rattle.vme_stuck.specs.Waits.{waits_text}

-- a dead end as it is printed: the line of its schedule, that of the tries if it has some, what each processor waits for that
-- has a line left, and an empty line
unfoldable pub end_text : Configuration → Listed → List ℕ
end_text config one =
    output_line (schedule_text one.schedule)
    ++ (tries_line one.tries ++ (waits_text (slots_of config) config.scripts one.outcome.answers ++ codes "\n"))

-- the dead ends, unless they are left out
abbrev pub ends_text : Configuration → Bool → List Listed → List ℕ
ends_text config quiet listed = if quiet then [] else flat_map (end_text config) listed

-- the last line: the numbers of dead ends and of states
abbrev pub count_text : ℕ → ℕ → List ℕ
count_text ends states = number_text ends (codes "dead end") ++ (codes ", " ++ (number_text states (codes "state") ++ codes "\n"))

-- a text is that of all dead ends of a configuration, and there are so many
pub record IsStuckText (config : Configuration) (quiet : Bool) (text : List ℕ) (ends : ℕ) : Type 0 where
  pub listed : List Listed
  pub each : HasEachEnd config listed
  pub count : ends ≡ length listed
  pub states : ℕ
  pub is : text ≡ ends_text config quiet listed ++ count_text ends states
