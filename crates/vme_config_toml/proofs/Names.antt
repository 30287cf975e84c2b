-- The keys of a table.
use Rattle.std.proofs.Common.{◌≡◌, ℕ, Bool, List, [], ◌∷◌, ◌&&◌, String, Global, string_bytes, refl, ap}
use Rattle.std.specs.List.{list_all}
use Rattle.std.specs.Map.{keys_of}
use Rattle.toml.specs.View.{members_view}
use Rattle.toml.specs.declared.value.Value.{Value}
use Rattle.vme_config_toml.specs.Values.{has_only}

-- all keys of a map are known exactly if all keys of its members are
pub has_only_keys :
    (is_known : List ℕ → Bool) (entries : List (String Global × Value))
    → list_all (λ key. is_known (string_bytes key)) (keys_of entries) ≡ has_only is_known (members_view entries)
has_only_keys is_known [] = refl
has_only_keys is_known (entry ∷ entries) = ap (λ rest. is_known (string_bytes entry.0) && rest) (has_only_keys is_known entries)
