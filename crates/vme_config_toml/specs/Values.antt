-- The kinds of values in a configuration file, and the keys of a table.
use Rattle.std.specs.Prelude.{ℕ, ℤ, pos, negsuc, ◌^◌, nat_lt, Bool, true, ◌&&◌, if◌then◌else◌, List, [], ◌∷◌, Option, Some, None}
use Rattle.std.specs.Option.{option_and_then, option_map}
use Rattle.std.specs.List.{list_any}
use Rattle.std.specs.Str.{bytes_eq}
use Rattle.toml.specs.Data.{Data, Items, no_items, item, Members, no_members, member, get_member, as_integer, as_array}

-- a number from 0 to 2 ^ 32 - 1
abbrev pub number_within : ℤ → Option ℕ
number_within (pos n) = if nat_lt n (2 ^ 32) then Some n else None
number_within (negsuc n) = None

-- a value that is a whole number from 0 to 2 ^ 32 - 1
unfoldable pub whole : Data → Option ℕ
whole value = option_and_then number_within (as_integer value)

-- exactly two whole numbers
abbrev pub pair_in : Items → Option (ℕ × ℕ)
pair_in no_items = None
pair_in (item first no_items) = None
pair_in (item first (item second no_items)) = option_and_then (λ x. option_map (λ y. (x, y)) (whole second)) (whole first)
pair_in (item first (item second (item third more))) = None

-- an array of exactly two whole numbers
unfoldable pub pair : Data → Option (ℕ × ℕ)
pair value = option_and_then pair_in (as_array value)

-- the items as values of one kind, in order
abbrev pub items_of : {A : Type 0} → (Data → Option A) → Items → Option (List A)
items_of kind no_items = Some []
items_of kind (item value more) = option_and_then (λ x. option_map (λ xs. x ∷ xs) (items_of kind more)) (kind value)

-- an array of values of one kind
abbrev pub list_of : {A : Type 0} → (Data → Option A) → Data → Option (List A)
list_of kind value = option_and_then (items_of kind) (as_array value)

-- the value of a required key
unfoldable pub required : {A : Type 0} → (Data → Option A) → List ℕ → Members → Option A
required kind key members = option_and_then kind (get_member key members)

-- a value of a kind, or the default if there is no value
abbrev pub value_or : {A : Type 0} → (Data → Option A) → A → Option Data → Option A
value_or kind default None = Some default
value_or kind default (Some value) = kind value

-- the value of a key, or its default if the key is absent
unfoldable pub optional : {A : Type 0} → (Data → Option A) → List ℕ → A → Members → Option A
optional kind key default members = value_or kind default (get_member key members)

-- whether a name is in a list
abbrev pub is_among : List ℕ → List (List ℕ) → Bool
is_among name names = list_any (bytes_eq name) names

-- whether each key of a table is known
abbrev pub has_only : (List ℕ → Bool) → Members → Bool
has_only is_known no_members = true
has_only is_known (member key value more) = is_known key && has_only is_known more
