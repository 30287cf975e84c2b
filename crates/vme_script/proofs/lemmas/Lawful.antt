-- What holds for every configuration, by the refusals that do not apply to its file.
use Rattle.std.proofs.Common.{◌≡◌, ℕ, zero, suc, ◌<◌, ◌≤◌, Bool, true, false, List, [], ◌∷◌, length, Some, Result, Ok, Err, refl, ap, subst, sym, ◌∙◌, arith}
use Rattle.std.specs.Prelude.{nat_lt, nat_le, not, ◌&&◌, ◌==◌, is_ok, slice_get}
use Rattle.std.specs.List.{list_all}
use Rattle.std.proofs.lemmas.Bool.{and_parts, ltb-true, ltb-false, leb-true}
use Rattle.std.proofs.lemmas.Bool.Decides.{nat_tests}
use Rattle.vme_decode.specs.declared.entry.Entry.{Entry}
use Rattle.vme_decode.specs.Lawful.{some_overlap}
use Rattle.vme_arbiter.specs.declared.kind.ArbiterKind.{ArbiterKind}
use Rattle.vme_shared.specs.declared.mailbox.Mailbox.{Mailbox}
use Rattle.vme_script.specs.declared.board.BoardConfig.{BoardConfig}
use Rattle.vme_script.specs.declared.script.ScriptLine.{ScriptLine}
use Rattle.vme_script.specs.declared.fault.ConfigFault.{ConfigFault}
use Rattle.vme_script.specs.declared.fault.ConfigFault.TheVariants.{NoBoard, TooMany, BadSchedule, Overlap}
use Rattle.vme_script.specs.Answers.{◌>>=◌, refuse}
use Rattle.vme_config_toml.specs.Files.{FileValues}
use Rattle.vme_script.specs.Boards.{range_refused, boards_after, entries_of, map_of}
use Rattle.vme_script.specs.Arbiters.{kind_named}
use Rattle.vme_script.specs.MailboxRefusals.{mailboxes_of}
use Rattle.vme_script.specs.Schedules.{has_boards, turns_of, lawful_schedule, schedule_of}
use Rattle.vme_script.specs.Scripts.{scripts_of}
use Rattle.vme_script.specs.Configurations.{Configuration, configuration_of}
use Rattle.vme_script.specs.Lawful.{IsLawfulBoard, IsLawful}
use Rattle.vme_script.proofs.Maps.{refusal_of_lawful, size_of_range}
use Rattle.vme_script.proofs.DeclaredMailboxes.{mailboxes_known}
use Rattle.vme_script.proofs.Scripts.{scripts_known, each_line}
use Rattle.vme_script.proofs.Facts.{ascend, is_lawful, boards_known, ranges_known, true_from_not}

-- ---- the parts of a configuration

-- if the last two parts make a configuration, neither is refused and the configuration is made of them
ended :
    {A B : Type 0} (first : Result A ConfigFault) (second : A → Result B ConfigFault) (make : A → B → Configuration) (c : Configuration)
    → (first >>= (λ x. second x >>= (λ y. Ok (make x y)))) ≡ Ok c → (x : A) × (y : B) × (first ≡ Ok x) × (second x ≡ Ok y) × (c ≡ make x y)
ended (Err fault) second make c e = cc
ended (Ok x) second make c e =
    let last = result_is (second x) (make x) c e in
    (x, last.0, refl, last.1, last.2)
  where
    result_is :
        {B : Type 0} (answer : Result B ConfigFault) (make : B → Configuration) (c : Configuration) → (answer >>= (λ y. Ok (make y))) ≡ Ok c
        → (y : B) × (answer ≡ Ok y) × (c ≡ make y)
    result_is (Err fault) make c e = cc
    result_is (Ok y) make c e = (y, refl, cc)

-- if two checks and the rest give a result, neither check is refused and the rest gives the result
passed :
    {A B C : Type 0} (first : Result A ConfigFault) (second : Result B ConfigFault) (rest : B → Result C ConfigFault) (c : C)
    → (first >>= (λ _. second >>= rest)) ≡ Ok c → (x : A) × (y : B) × (first ≡ Ok x) × (second ≡ Ok y) × (rest y ≡ Ok c)
passed (Err fault) second rest c e = cc
passed (Ok x) (Err fault) rest c e = cc
passed (Ok x) (Ok y) rest c e = (x, y, refl, refl, e)

-- if a part and the rest give a result, the part is not refused and the rest gives the result
opened :
    {A C : Type 0} (first : Result A ConfigFault) (rest : A → Result C ConfigFault) (c : C) → (first >>= rest) ≡ Ok c
    → (x : A) × (first ≡ Ok x) × (rest x ≡ Ok c)
opened (Err fault) rest c e = cc
opened (Ok x) rest c e = (x, refl, e)

-- if the counts, the boards and the rest give a result, none is refused and the rest gives the result
counted :
    {A B : Type 0} (none many : Bool) (boards : Result A ConfigFault) (rest : A → Result B ConfigFault) (c : B)
    → (refuse none NoBoard >>= (λ _. refuse many TooMany >>= (λ _. boards >>= rest))) ≡ Ok c
    → (none ≡ false) × (many ≡ false) × ((x : A) × (boards ≡ Ok x) × (rest x ≡ Ok c))
counted true many boards rest c e = cc
counted false true boards rest c e = cc
counted false false (Err fault) rest c e = cc
counted false false (Ok x) rest c e = (refl, refl, (x, refl, e))

-- the checks of a file that gave the parts of its configuration
pub record Made (file : FileValues) (c : Configuration) : Type 0 where
  pub some : (length file.boards == 0) ≡ false
  pub most : nat_lt 21 (length file.boards) ≡ false
  pub boards : boards_after 0 file.boards ≡ Ok c.boards
  pub map : List Entry
  pub mapped : map_of (entries_of c.boards) ≡ Ok map
  pub schedule : schedule_of c.boards file ≡ Ok c.schedule
  pub mailboxes : mailboxes_of c.boards file.mailboxes ≡ Ok c.mailboxes
  pub scripts : scripts_of (entries_of c.boards) c.mailboxes file.boards ≡ Ok c.scripts
  pub arbiter : kind_named file.arbiter ≡ Ok c.arbiter
  pub tries : c.tries ≡ file.tries
  pub rounds : c.rounds ≡ file.rounds

-- the configuration of a file with these parts
abbrev of_parts : FileValues → List BoardConfig → ArbiterKind → List (ℕ × ℕ) → List Mailbox → List (List ScriptLine) → Configuration
of_parts file boards arbiter schedule mailboxes scripts = record {
  boards = boards;
  scripts = scripts;
  arbiter = arbiter;
  tries = file.tries;
  schedule = schedule;
  rounds = file.rounds;
  mailboxes = mailboxes;
}

-- the rest of a configuration after its schedule
abbrev mailboxes_and_scripts : FileValues → List BoardConfig → ArbiterKind → List (ℕ × ℕ) → Result Configuration ConfigFault
mailboxes_and_scripts file boards arbiter schedule =
    mailboxes_of boards file.mailboxes
    >>= (λ mailboxes. scripts_of (entries_of boards) mailboxes file.boards >>= (λ scripts. Ok (of_parts file boards arbiter schedule mailboxes scripts)))

-- the rest of a configuration after its boards
rest_of : FileValues → List BoardConfig → Result Configuration ConfigFault
unfolding configuration_of
rest_of file boards =
    map_of (entries_of boards) >>= (λ _. kind_named file.arbiter >>= (λ arbiter.
    schedule_of boards file >>= (λ schedule. mailboxes_and_scripts file boards arbiter schedule)))

-- a file that is not refused has a configuration made of these parts
pub made : (file : FileValues) (c : Configuration) → configuration_of file ≡ Ok c → Made file c
unfolding configuration_of rest_of
made file c e =
    let first = counted (length file.boards == 0) (nat_lt 21 (length file.boards)) (boards_after 0 file.boards) (rest_of file) c e in
    let boards = first.2.0 in
    let second = passed (map_of (entries_of boards)) (kind_named file.arbiter)
    (λ arbiter. schedule_of boards file >>= (λ schedule. mailboxes_and_scripts file boards arbiter schedule)) c first.2.2 in
    let third = opened (schedule_of boards file) (mailboxes_and_scripts file boards second.1) c second.4 in
    let last = ended (mailboxes_of boards file.mailboxes) (λ mailboxes. scripts_of (entries_of boards) mailboxes file.boards)
    (of_parts file boards second.1 third.0) c third.2 in
    subst (Made file) (sym last.4) (record {
      some = first.0;
      most = first.1;
      boards = first.2.1;
      map = second.0;
      mapped = second.2;
      arbiter = second.3;
      schedule = third.1;
      mailboxes = last.2;
      scripts = last.3;
      tries = refl;
      rounds = refl;
    })

-- ---- boards

-- a board that passes `is_lawful`, in a slot above another, is lawful
lawful_one : (before : ℕ) (board : BoardConfig) → is_lawful board ≡ true → before < board.slot → IsLawfulBoard board
lawful_one before board lawful above =
    let outer = and_parts (nat_le board.slot 21 && not (nat_lt 3 board.level)) (is_ok (range_refused board.entry)) lawful in
    let inner = and_parts (nat_le board.slot 21) (not (nat_lt 3 board.level)) outer.0 in
    record {
      first_slot = omega (arith, above);
      last_slot = leb-true board.slot 21 inner.0;
      level = ltb-false 3 board.level (false_from_not _ inner.1);
      size = size_of_range board.entry outer.1;
    }
  where
    false_from_not : (b : Bool) → not b ≡ true → b ≡ false
    false_from_not true e = cc
    false_from_not false e = refl

-- a board at any index is lawful, and its slot is above the given one
board_at :
    (before : ℕ) (boards : List BoardConfig) (i : ℕ) (board : BoardConfig) → list_all is_lawful boards ≡ true → ascend before boards ≡ true
    → slice_get boards i ≡ Some board → IsLawfulBoard board × (before < board.slot)
board_at before [] i board lawful ascending there = cc
board_at before (first ∷ more) zero board lawful ascending there =
    let own = and_parts (is_lawful first) (list_all is_lawful more) lawful in
    let above = ltb-true before first.slot (and_parts (nat_lt before first.slot) (ascend first.slot more) ascending).0 in
    let same : first ≡ board = cc in
    subst (λ b. IsLawfulBoard b × (before < b.slot)) same (lawful_one before first own.0 above, above)
board_at before (first ∷ more) (suc i) board lawful ascending there =
    let own = and_parts (is_lawful first) (list_all is_lawful more) lawful in
    let next = and_parts (nat_lt before first.slot) (ascend first.slot more) ascending in
    let later = board_at first.slot more i board own.1 next.1 there in
    (later.0, omega (arith, later.1, ltb-true before first.slot next.0))

-- two boards in one slot are the same board
one_slot :
    (before : ℕ) (boards : List BoardConfig) (i j : ℕ) (a b : BoardConfig) → list_all is_lawful boards ≡ true → ascend before boards ≡ true
    → slice_get boards i ≡ Some a → slice_get boards j ≡ Some b → a.slot ≡ b.slot → i ≡ j
one_slot before [] i j a b lawful ascending here there same = cc
one_slot before (first ∷ more) zero zero a b lawful ascending here there same = refl
one_slot before (first ∷ more) zero (suc j) a b lawful ascending here there same =
    let own = and_parts (is_lawful first) (list_all is_lawful more) lawful in
    let next = and_parts (nat_lt before first.slot) (ascend first.slot more) ascending in
    let later = board_at first.slot more j b own.1 next.1 there in
    let head : first ≡ a = cc in
    absurd (omega (arith, later.1, ap (λ x. x.slot) head, same))
one_slot before (first ∷ more) (suc i) zero a b lawful ascending here there same =
    let own = and_parts (is_lawful first) (list_all is_lawful more) lawful in
    let next = and_parts (nat_lt before first.slot) (ascend first.slot more) ascending in
    let later = board_at first.slot more i a own.1 next.1 here in
    let head : first ≡ b = cc in
    absurd (omega (arith, later.1, ap (λ x. x.slot) head, same))
one_slot before (first ∷ more) (suc i) (suc j) a b lawful ascending here there same =
    let own = and_parts (is_lawful first) (list_all is_lawful more) lawful in
    let next = and_parts (nat_lt before first.slot) (ascend first.slot more) ascending in
    ap suc (one_slot first.slot more i j a b own.1 next.1 here there same)

-- ranges of which a map was made share no address
clear_map : (entries map : List Entry) → map_of entries ≡ Ok map → some_overlap entries ≡ false
unfolding map_of
clear_map entries map e = clear (some_overlap entries) e
  where
    clear : (overlap : Bool) → (refuse overlap Overlap >>= (λ _. Ok entries)) ≡ Ok map → overlap ≡ false
    clear true e = cc
    clear false e = refl

-- ---- schedules

-- if the checks of a schedule give a schedule, neither refuses and the schedule is the pairs
scheduled :
    (wrong unlawful : Bool) (pairs schedule : List (ℕ × ℕ)) → (refuse wrong BadSchedule >>= (λ _. refuse unlawful BadSchedule >>= (λ _. Ok pairs))) ≡ Ok schedule
    → (wrong ≡ false) × (unlawful ≡ false) × (pairs ≡ schedule)
scheduled true unlawful pairs schedule e = cc
scheduled false true pairs schedule e = cc
scheduled false false pairs schedule e = (refl, refl, cc)

-- the facts about a lawful schedule
record Timed (boards : List BoardConfig) (file : FileValues) (schedule : List (ℕ × ℕ)) : Type 0 where
  tries_some : 1 ≤ file.tries
  tries_most : file.tries ≤ 1000000
  rounds : file.rounds ≤ 1000000
  slots : has_boards boards schedule ≡ true
  turns : turns_of schedule ≤ 1000000

-- the facts hold for the schedule of a configuration
timed : (boards : List BoardConfig) (file : FileValues) (schedule : List (ℕ × ℕ)) → schedule_of boards file ≡ Ok schedule → Timed boards file schedule
unfolding schedule_of lawful_schedule
timed boards file schedule e =
    let parts = scheduled (not (nat_le 1 file.tries && nat_le file.tries 1000000 && nat_le file.rounds 1000000))
    (not (has_boards boards file.schedule && nat_le (turns_of file.schedule) 1000000)) file.schedule schedule e in
    let numbers = and_parts (nat_le 1 file.tries && nat_le file.tries 1000000) (nat_le file.rounds 1000000) (true_from_not _ parts.0) in
    let tries = and_parts (nat_le 1 file.tries) (nat_le file.tries 1000000) numbers.0 in
    let pairs = and_parts (has_boards boards file.schedule) (nat_le (turns_of file.schedule) 1000000) (true_from_not _ parts.1) in
    subst (Timed boards file) parts.2 (record {
      tries_some = leb-true 1 file.tries tries.0;
      tries_most = leb-true file.tries 1000000 tries.1;
      rounds = leb-true file.rounds 1000000 numbers.1;
      slots = pairs.0;
      turns = leb-true (turns_of file.schedule) 1000000 pairs.1;
    })

-- a file that is not refused has a lawful configuration
pub configuration_known : (file : FileValues) (c : Configuration) → configuration_of file ≡ Ok c → IsLawful c
configuration_known file c e =
    let m = made file c e in
    let known = boards_known 0 file.boards c.boards m.boards in
    let few : length file.boards ≤ 21 = ltb-false 21 (length file.boards) m.most in
    let some : 0 < length file.boards = grind (arith, nat_tests, m.some) in
    let entries = entries_of c.boards in
    let scripts = scripts_known entries c.mailboxes 0 file.boards c.scripts m.scripts in
    let each = each_line entries c.mailboxes file.boards c.scripts m.scripts in
    let sites = mailboxes_known c.boards file.mailboxes c.mailboxes known.lawful m.mailboxes in
    let times = timed c.boards file c.schedule m.schedule in
    record {
      some = omega (arith, some, known.count);
      most = omega (arith, few, known.count);
      boards = λ i board there. (board_at 0 c.boards i board known.lawful known.ascending there).0;
      apart = λ i j a b here there same. one_slot 0 c.boards i j a b known.lawful known.ascending here there same;
      map = refusal_of_lawful c.boards (omega (arith, few, known.count)) (ranges_known c.boards known.lawful) ∙ rw (clear_map _ m.map m.mapped) refl;
      scripts = scripts.0 ∙ sym known.count;
      lines = scripts.1;
      own = λ i j script line here there. (each i j script line here there).own;
      tries = (omega (arith, m.tries, times.tries_some), omega (arith, m.tries, times.tries_most));
      rounds = omega (arith, m.rounds, times.rounds);
      slots = times.slots;
      turns = times.turns;
      few_mailboxes = sites.few;
      mailboxes = sites.lawful;
      own_bytes = sites.apart;
      named = λ i j script line here there. (each i j script line here there).named;
      free = λ i j script line here there. (each i j script line here there).free;
    }
