-- If no mailbox is declared, no line accesses one.
use Rattle.std.proofs.Common.{◌≡◌, false, [], Option, None, Some, refl}
use Rattle.std.specs.Option.{option_map_or}
use Rattle.vme_script.specs.declared.board_range.BoardRange.{BoardRange}
use Rattle.vme_script.specs.Declarations.{Declaration}
use Rattle.vme_script.specs.Contexts.{are_of_mailboxes}

-- no byte belongs to a mailbox if none is declared
pub none_touched : (file : Declaration) (bytes : Option BoardRange) → file.mailboxes ≡ [] → false ≡ option_map_or (are_of_mailboxes file) bytes false
none_touched file None none = refl
none_touched file (Some place) none = rw none refl
