use Rattle.std.proofs.Common.{rules, arith, ◌≡◌, ◌∙◌, Some, Ok, ap}
use Rattle.std.proofs.lemmas.Grind.{common_steps}
use Rattle.toml.specs.View.{table_view}
use Rattle.vme_config_toml.specs.Keys.{file_values}
use Rattle.vme_script.specs.Boards.{boards_after}
use Rattle.vme_script.specs.Readings.{configuration_in}
use Rattle.vme_file_boards.proofs.Boards.{of_document}
use Rattle.vme_file_boards.proofs.file.boards_of_document.Goals as goal

pub returns-in_err-boards-clause-refused : goal.returns-in_err-boards-clause-refused
returns-in_err-boards-clause-refused c =
    let config = c.in_ok-_config._config in
    let read : configuration_in (Some (table_view c.args.table.now)) ≡ Ok config = c.in_ok-_config.ensures in
    let values : file_values (table_view c.args.table.now) ≡ Some c.in_ok-file.file = c.in_ok-file.ensures in
    let known = of_document (table_view c.args.table.now) c.in_ok-file.file config read values in
    let same : c.deref.result.now ≡ c.in_ok-file.file.boards = first_of (search rules, grind (arith, common_steps)) in
    let only = c.in_err-boards.ensures config.boards (ap (boards_after 0) same ∙ known.0) in
    first_of (search rules, grind (arith, common_steps, only))

pub returns-in-Ok-clause-boards : goal.returns-in-Ok-clause-boards
returns-in-Ok-clause-boards c =
    let config = c.in_ok-_config._config in
    let read : configuration_in (Some (table_view c.args.table.now)) ≡ Ok config = c.in_ok-_config.ensures in
    let values : file_values (table_view c.args.table.now) ≡ Some c.in_ok-file.file = c.in_ok-file.ensures in
    let known = of_document (table_view c.args.table.now) c.in_ok-file.file config read values in
    let same : c.deref.result.now ≡ c.in_ok-file.file.boards = first_of (search rules, grind (arith, common_steps)) in
    let all = c.in_ok-boards.ensures config.boards (ap (boards_after 0) same ∙ known.0) in
    record {
      config = config;
      read = read;
      boards = all.1;
      arbiter = first_of (search rules, grind (arith, common_steps, known));
    }

pub returns-clause-refused : goal.returns-clause-refused
returns-clause-refused c =
    let config = c.in_ok-_config._config in
    let read : configuration_in (Some (table_view c.args.table.now)) ≡ Ok config = c.in_ok-_config.ensures in
    let values : file_values (table_view c.args.table.now) ≡ Some c.in_ok-file.file = c.in_ok-file.ensures in
    let known = of_document (table_view c.args.table.now) c.in_ok-file.file config read values in
    first_of (search rules, grind (arith, common_steps, known))
