-- Lists of values, read one after another.
use Rattle.std.proofs.Common.{◌≡◌, List, [], ◌∷◌, ◌++◌, length, Option, None, option_map, refl}
use Rattle.toml.specs.View.{items_view}
use Rattle.toml.specs.declared.value.Value.{Value}
use Rattle.vme_config_toml.specs.Values.{pair_in}

-- a prefix of values, followed by those that were read
abbrev pub with_prefix : {A : Type 0} → List A → Option (List A) → Option (List A)
with_prefix prefix read = option_map (λ xs. prefix ++ xs) read

-- a list whose length is not two is not a pair
pub pair_in_others : (vs : List Value) → (length vs ≡ 2 → ⊥) → pair_in (items_view vs) ≡ None
pair_in_others [] other = refl
pair_in_others (v ∷ []) other = refl
pair_in_others (v ∷ w ∷ []) other = absurd (other refl)
pair_in_others (v ∷ w ∷ x ∷ vs) other = refl
