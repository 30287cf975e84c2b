-- The numbers of a mailbox.
use Rattle.std.proofs.Common.{◌≡◌, Bool, true, false, Some, refl, subst}
use Rattle.std.specs.Prelude.{◌%◌, nat_le, ◌==◌, ◌&&◌}
use Rattle.std.proofs.lemmas.Bool.{and_parts, leb-true, eqb-true}
use Rattle.vme_config_toml.specs.declared.file.MailboxTable.{MailboxTable}
use Rattle.vme_config_toml.specs.Keys.{◌>>=◌, when}
use Rattle.vme_shared.specs.declared.mailbox.Mailbox.{Mailbox}
use Rattle.vme_script.specs.MailboxTables.{is_mailbox_code, mailbox_from_table, HasNumbers}

-- if three tests hold together, each holds
three_tests :
    (a b c : Bool) (made found : Mailbox) → (when a >>= (λ _. when b >>= (λ _. when c >>= (λ _. Some made)))) ≡ Some found
    → (a ≡ true) × (b ≡ true) × (c ≡ true) × (made ≡ found)
three_tests false b c made found e = cc
three_tests true false c made found e = cc
three_tests true true false made found e = cc
three_tests true true true made found e = (refl, refl, refl, cc)

-- a mailbox made from a table has lawful numbers
pub numbers_known : (table : MailboxTable) (mailbox : Mailbox) → mailbox_from_table table ≡ Some mailbox → HasNumbers mailbox
unfolding mailbox_from_table
numbers_known table mailbox result_is =
    let parts = three_tests (is_mailbox_code table.am) (table.addr % 4 == 0) (nat_le 1 table.slots && nat_le table.slots 64)
    (record { am = table.am; addr = table.addr; slots = table.slots }) mailbox result_is in
    let slots = and_parts (nat_le 1 table.slots) (nat_le table.slots 64) parts.2 in
    subst HasNumbers parts.3 (record {
      code = parts.0;
      aligned = eqb-true _ _ parts.1;
      some_slot = leb-true _ _ slots.0;
      few_slots = leb-true _ _ slots.1;
    })
