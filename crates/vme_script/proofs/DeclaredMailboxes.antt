-- What holds for every declared mailbox.
use Rattle.std.proofs.Common.{◌≡◌, ℕ, zero, suc, ◌+◌, ◌≤◌, Bool, true, false, List, [], ◌∷◌, ◌++◌, length, Option, None, Some, Result, Ok, Err, refl, ap, subst, sym, ◌∙◌, arith}
use Rattle.std.specs.Prelude.{nat_lt, ◌||◌, not, is_ok, slice_get}
use Rattle.std.specs.Option.{ok_or}
use Rattle.std.specs.List.{list_all, list_any}
use Rattle.std.proofs.lemmas.Bool.{and_parts, leb-true, ltb-false, false≢true}
use Rattle.std.proofs.lemmas.List.Folds.{list_any-append}
use Rattle.std.proofs.lemmas.Option.{slice_get-map}
use Rattle.vme_config_toml.specs.declared.file.MailboxTable.{MailboxTable}
use Rattle.vme_shared.specs.declared.mailbox.Mailbox.{Mailbox}
use Rattle.vme_script.specs.declared.board_range.BoardRange.{BoardRange}
use Rattle.vme_shared.specs.Layout.{mailbox_len}
use Rattle.vme_script.specs.MailboxTables.{mailbox_from_table, supports_mailboxes}
use Rattle.vme_script.specs.BoardRanges.{range_of, is_within, share}
use Rattle.vme_script.proofs.Numbers.{numbers_known}
use Rattle.vme_script.proofs.Places.{shared_both_ways, ends_within}
use Rattle.vme_script.specs.declared.board.BoardConfig.{BoardConfig}
use Rattle.vme_script.specs.declared.fault.ConfigFault.{ConfigFault}
use Rattle.vme_script.specs.declared.fault.ConfigFault.TheVariants.{BadMailbox}
use Rattle.vme_script.specs.Answers.{◌>>=◌, refuse}
use Rattle.vme_script.specs.Boards.{range_refused, entries_of}
use Rattle.vme_script.specs.MailboxRefusals.{declared_mailbox, mailboxes_after, mailboxes_of}
use Rattle.vme_script.specs.Lawful.{IsLawfulMailbox}
use Rattle.vme_script.proofs.Facts.{is_lawful, true_from_not}
use Rattle.vme_script.proofs.Maps.{end_of_range}

-- ---- one mailbox

-- if a required value and the checks after it give a result, the value is present and these checks give the result
got : {A B : Type 0} (x : Option A) (rest : A → Result B ConfigFault) (c : B) → (ok_or x BadMailbox >>= rest) ≡ Ok c → (a : A) × (x ≡ Some a) × (rest a ≡ Ok c)
got None rest c e = cc
got (Some a) rest c e = (a, refl, e)

-- if a check and the checks after it give a result, the check does not refuse and the others give the result
kept : {B : Type 0} (wrong : Bool) (rest : Result B ConfigFault) (c : B) → (refuse wrong BadMailbox >>= (λ _. rest)) ≡ Ok c → (wrong ≡ false) × (rest ≡ Ok c)
kept true rest c e = cc
kept false rest c e = (refl, e)

-- the last checks of a mailbox, with its range and its board known
abbrev with_board : List BoardRange → Mailbox → BoardRange → BoardConfig → Result (Mailbox × BoardRange) ConfigFault
with_board earlier mailbox place board =
    refuse (not (is_within place board.entry.size)) BadMailbox >>= (λ _. refuse (not (supports_mailboxes board.class)) BadMailbox >>= (λ _.
    refuse (list_any (share place) earlier) BadMailbox >>= (λ _. Ok (mailbox, place))))

-- the checks of a mailbox, with its range known
abbrev with_place : List BoardConfig → List BoardRange → Mailbox → BoardRange → Result (Mailbox × BoardRange) ConfigFault
with_place boards earlier mailbox place = ok_or (slice_get boards place.board) BadMailbox >>= with_board earlier mailbox place

-- the checks of a mailbox, with its numbers known
abbrev with_mailbox : List BoardConfig → List BoardRange → Mailbox → Result (Mailbox × BoardRange) ConfigFault
with_mailbox boards earlier mailbox = ok_or (range_of (entries_of boards) mailbox) BadMailbox >>= with_place boards earlier mailbox

-- the facts about a declared mailbox
record IsDeclared (boards : List BoardConfig) (earlier : List BoardRange) (table : MailboxTable) (mailbox : Mailbox) (place : BoardRange) : Type 0 where
  result_is : mailbox_from_table table ≡ Some mailbox
  placed : range_of (entries_of boards) mailbox ≡ Some place
  board : BoardConfig
  there : slice_get boards place.board ≡ Some board
  inside : is_within place board.entry.size ≡ true
  able : supports_mailboxes board.class ≡ true
  apart : list_any (share place) earlier ≡ false

-- the facts hold for a declared mailbox
declared_facts :
    (boards : List BoardConfig) (earlier : List BoardRange) (table : MailboxTable) (found : Mailbox × BoardRange)
    → declared_mailbox boards earlier table ≡ Ok found → IsDeclared boards earlier table found.0 found.1
unfolding declared_mailbox
declared_facts boards earlier table found e =
    let a = got (mailbox_from_table table) (with_mailbox boards earlier) found e in
    let b = got (range_of (entries_of boards) a.0) (with_place boards earlier a.0) found a.2 in
    let c = got (slice_get boards b.0.board) (with_board earlier a.0 b.0) found b.2 in
    let inside = kept (not (is_within b.0 c.0.entry.size)) (refuse (not (supports_mailboxes c.0.class)) BadMailbox >>= (λ _.
    refuse (list_any (share b.0) earlier) BadMailbox >>= (λ _. Ok (a.0, b.0)))) found c.2 in
    let able = kept (not (supports_mailboxes c.0.class)) (refuse (list_any (share b.0) earlier) BadMailbox >>= (λ _. Ok (a.0, b.0))) found inside.1 in
    let apart = kept (list_any (share b.0) earlier) (Ok (a.0, b.0)) found able.1 in
    let same : (a.0, b.0) ≡ found = cc (apart.1) in
    subst (λ f. IsDeclared boards earlier table f.0 f.1) same (record {
      result_is = a.1;
      placed = b.1;
      board = c.0;
      there = c.1;
      inside = true_from_not _ inside.0;
      able = true_from_not _ able.0;
      apart = apart.0;
    })

-- the range of a lawful board is lawful by itself
range_at :
    (boards : List BoardConfig) (i : ℕ) (board : BoardConfig) → list_all is_lawful boards ≡ true → slice_get boards i ≡ Some board
    → is_ok (range_refused board.entry) ≡ true
range_at [] i board lawful there = cc
range_at (first ∷ more) zero board lawful there =
    let own = (and_parts (is_lawful first) (list_all is_lawful more) lawful).0 in
    let same : first ≡ board = cc in
    rw (← same) (and_parts _ (is_ok (range_refused first.entry)) own).1
range_at (first ∷ more) (suc i) board lawful there =
    range_at more i board (and_parts (is_lawful first) (list_all is_lawful more) lawful).1 there

-- a declared mailbox on lawful boards is lawful
lawful_mailbox :
    (boards : List BoardConfig) (earlier : List BoardRange) (table : MailboxTable) (mailbox : Mailbox) (place : BoardRange) → list_all is_lawful boards ≡ true
    → IsDeclared boards earlier table mailbox place → IsLawfulMailbox boards mailbox
lawful_mailbox boards earlier table mailbox place lawful s =
    let numbers = numbers_known table mailbox s.result_is in
    let inside : place.offset + place.len ≤ s.board.entry.size = leb-true _ _ s.inside in
    let entry : slice_get (entries_of boards) place.board ≡ Some s.board.entry
    = slice_get-map (λ board. board.entry) boards place.board ∙ rw s.there refl in
    let within = ends_within (entries_of boards) mailbox.am mailbox.addr (mailbox_len mailbox.slots) place s.board.entry s.placed entry
    (end_of_range s.board.entry (range_at boards place.board s.board lawful s.there)) inside in
    record {
      code = numbers.code;
      numbers = record {
        aligned = numbers.aligned;
        some_slot = numbers.some_slot;
        few_slots = numbers.few_slots;
        within = omega (arith, within);
      };
      place = place;
      placed = s.placed;
      board = s.board;
      there = s.there;
      inside = inside;
      able = s.able;
    }

-- ---- one after another

-- if the mailboxes after a mailbox give a list with it, they are not refused
rest_parts :
    (x : Mailbox × BoardRange) (answer : Result (List Mailbox) ConfigFault) (mailboxes : List Mailbox) → (answer >>= (λ xs. Ok (x.0 ∷ xs))) ≡ Ok mailboxes
    → (xs : List Mailbox) × (answer ≡ Ok xs) × (x.0 ∷ xs ≡ mailboxes)
rest_parts x (Err fault) mailboxes e = cc
rest_parts x (Ok xs) mailboxes e = (xs, refl, cc)

-- if the results of a mailbox and of the mailboxes after it give a list, neither is refused
more_parts :
    (first : Result (Mailbox × BoardRange) ConfigFault) (others : BoardRange → Result (List Mailbox) ConfigFault) (mailboxes : List Mailbox)
    → (first >>= (λ x. others x.1 >>= (λ xs. Ok (x.0 ∷ xs)))) ≡ Ok mailboxes
    → (x : Mailbox × BoardRange) × (xs : List Mailbox) × (first ≡ Ok x) × (others x.1 ≡ Ok xs) × (x.0 ∷ xs ≡ mailboxes)
more_parts (Err fault) others mailboxes e = cc
more_parts (Ok x) others mailboxes e =
    let p = rest_parts x (others x.1) mailboxes e in
    (x, p.0, refl, p.1, p.2)

-- the range of a mailbox on the boards
abbrev LiesAt : List BoardConfig → Mailbox → BoardRange → Type 0
LiesAt boards mailbox place = range_of (entries_of boards) mailbox ≡ Some place

-- each mailbox is lawful, and shares no byte with an earlier range or with another of these mailboxes
record Each (boards : List BoardConfig) (earlier : List BoardRange) (mailboxes : List Mailbox) : Type 0 where
  lawful : (k : ℕ) (m : Mailbox) → slice_get mailboxes k ≡ Some m → IsLawfulMailbox boards m
  new : (k : ℕ) (m : Mailbox) (p : BoardRange) → slice_get mailboxes k ≡ Some m → LiesAt boards m p → list_any (share p) earlier ≡ false
  apart :
      (j k : ℕ) (a b : Mailbox) (p q : BoardRange) → slice_get mailboxes j ≡ Some a → slice_get mailboxes k ≡ Some b
      → LiesAt boards a p → LiesAt boards b q → share p q ≡ true → j ≡ k

-- a range that shares no byte with some ranges and one more shares none with these ranges and none with that one
new_among : (p first : BoardRange) (earlier : List BoardRange) → list_any (share p) (earlier ++ first ∷ []) ≡ false → (list_any (share p) earlier ≡ false) × (share p first ≡ false)
new_among p first earlier none =
    let split : (list_any (share p) earlier || (share p first || false)) ≡ false = rw (← list_any-append (share p) earlier (first ∷ [])) none in
    neither (list_any (share p) earlier) (share p first) split
  where
    neither : (a b : Bool) → (a || (b || false)) ≡ false → (a ≡ false) × (b ≡ false)
    neither true b e = cc
    neither false true e = cc
    neither false false e = (refl, refl)

-- a mailbox has one range on the boards
one_place : (boards : List BoardConfig) (m : Mailbox) (p q : BoardRange) → LiesAt boards m p → LiesAt boards m q → p ≡ q
one_place boards m p q here there = let same : Some p ≡ Some q = sym here ∙ there in cc

-- if `Each` holds for the mailboxes after a declared mailbox, it holds for it and these mailboxes
one_more :
    (boards : List BoardConfig) (earlier : List BoardRange) (table : MailboxTable) (m : Mailbox) (p : BoardRange) (ms : List Mailbox)
    → list_all is_lawful boards ≡ true → IsDeclared boards earlier table m p → Each boards (earlier ++ p ∷ []) ms → Each boards earlier (m ∷ ms)
one_more boards earlier table m p ms lawful first others = record {
  lawful = each;
  new = fresh;
  apart = alone;
}
  where
    each : (k : ℕ) (n : Mailbox) → slice_get (m ∷ ms) k ≡ Some n → IsLawfulMailbox boards n
    each zero n there = let same : m ≡ n = cc in rw (← same) (lawful_mailbox boards earlier table m p lawful first)
    each (suc k) n there = others.lawful k n there

    fresh : (k : ℕ) (n : Mailbox) (q : BoardRange) → slice_get (m ∷ ms) k ≡ Some n → LiesAt boards n q → list_any (share q) earlier ≡ false
    fresh zero n q there at =
        let same : m ≡ n = cc in
        rw (one_place boards m q p (rw same at) first.placed) first.apart
    fresh (suc k) n q there at = (new_among q p earlier (others.new k n q there at)).0

    later : (k : ℕ) (n : Mailbox) (o q : BoardRange) → slice_get ms k ≡ Some n → LiesAt boards m o → LiesAt boards n q → share q o ≡ false
    later k n o q there here at =
        rw (one_place boards m o p here first.placed) ((new_among q p earlier (others.new k n q there at)).1)

    alone :
        (j k : ℕ) (a b : Mailbox) (o q : BoardRange) → slice_get (m ∷ ms) j ≡ Some a → slice_get (m ∷ ms) k ≡ Some b
        → LiesAt boards a o → LiesAt boards b q → share o q ≡ true → j ≡ k
    alone zero zero a b o q here there at_a at_b shared = refl
    alone zero (suc k) a b o q here there at_a at_b shared =
        let same : m ≡ a = cc in
        absurd (false≢true (sym (later k b o q there (rw same at_a) at_b) ∙ shared_both_ways q o ∙ shared))
    alone (suc j) zero a b o q here there at_a at_b shared =
        let same : m ≡ b = cc in
        absurd (false≢true (sym (later j a q o here (rw same at_b) at_a) ∙ shared))
    alone (suc j) (suc k) a b o q here there at_a at_b shared = ap suc (others.apart j k a b o q here there at_a at_b shared)

-- `Each` holds for the mailboxes that tables declare
each_known :
    (boards : List BoardConfig) (earlier : List BoardRange) (tables : List MailboxTable) (mailboxes : List Mailbox) → list_all is_lawful boards ≡ true
    → mailboxes_after boards earlier tables ≡ Ok mailboxes → Each boards earlier mailboxes
each_known boards earlier [] mailboxes lawful e =
    let none : [] ≡ mailboxes = cc in
    subst (Each boards earlier) none (record {
      lawful = λ k m there. cc;
      new = λ k m p there at. cc;
      apart = λ j k a b p q here there at_a at_b shared. cc;
    })
each_known boards earlier (table ∷ more) mailboxes lawful e =
    let parts = more_parts (declared_mailbox boards earlier table) (λ place. mailboxes_after boards (earlier ++ place ∷ []) more) mailboxes e in
    subst (Each boards earlier) parts.4
    (one_more boards earlier table parts.0.0 parts.0.1 parts.1 lawful (declared_facts boards earlier table parts.0 parts.2)
    (each_known boards (earlier ++ parts.0.1 ∷ []) more parts.1 lawful parts.3))

-- there are as many mailboxes as tables
count_known :
    (boards : List BoardConfig) (earlier : List BoardRange) (tables : List MailboxTable) (mailboxes : List Mailbox)
    → mailboxes_after boards earlier tables ≡ Ok mailboxes → length mailboxes ≡ length tables
count_known boards earlier [] mailboxes e = let none : [] ≡ mailboxes = cc in sym (ap length none)
count_known boards earlier (table ∷ more) mailboxes e =
    let parts = more_parts (declared_mailbox boards earlier table) (λ place. mailboxes_after boards (earlier ++ place ∷ []) more) mailboxes e in
    sym (ap length parts.4) ∙ ap suc (count_known boards (earlier ++ parts.0.1 ∷ []) more parts.1 parts.3)

-- the facts about the mailboxes of a file
pub record Known (boards : List BoardConfig) (mailboxes : List Mailbox) : Type 0 where
  pub few : length mailboxes ≤ 16
  pub lawful : (k : ℕ) (m : Mailbox) → slice_get mailboxes k ≡ Some m → IsLawfulMailbox boards m
  pub apart :
      (j k : ℕ) (a b : Mailbox) (p q : BoardRange) → slice_get mailboxes j ≡ Some a → slice_get mailboxes k ≡ Some b
      → range_of (entries_of boards) a ≡ Some p → range_of (entries_of boards) b ≡ Some q → share p q ≡ true → j ≡ k

-- at most sixteen lawful mailboxes, which share no byte
pub mailboxes_known :
    (boards : List BoardConfig) (tables : List MailboxTable) (mailboxes : List Mailbox) → list_all is_lawful boards ≡ true
    → mailboxes_of boards tables ≡ Ok mailboxes → Known boards mailboxes
unfolding mailboxes_of
mailboxes_known boards tables mailboxes lawful e =
    let parts = kept (nat_lt 16 (length tables)) (mailboxes_after boards [] tables) mailboxes e in
    let each = each_known boards [] tables mailboxes lawful parts.1 in
    record {
      few = omega (arith, count_known boards [] tables mailboxes parts.1, ltb-false 16 (length tables) parts.0);
      lawful = each.lawful;
      apart = each.apart;
    }
