-- The lines of a lawful configuration leave alone each declared mailbox that they do not name.
use Rattle.std.proofs.Common.{◌≡◌, ℕ, suc, ◌+◌, ◌-◌, true, false, List, [], ◌∷◌, length, map, Option, Some, refl, ap, sym, subst, ◌∙◌, inl, inr}
use Rattle.std.specs.Prelude.{◌==◌, slice_get, Bool}
use Rattle.std.specs.List.{list_any}
use Rattle.std.specs.Option.{option_map_or}
use Rattle.std.proofs.lemmas.Bool.{true≢false, false_from_ne_true}
use Rattle.std.proofs.lemmas.List.{get_or_past}
use Rattle.std.proofs.lemmas.Map.Keys.{any_passes_from_place}
use Rattle.std.proofs.lemmas.Option.{slice_get_cases, get_or_from_slice_get}
use Rattle.vme_cycle.specs.declared.request.Request.TheVariants as requests
use Rattle.vme_decode.specs.declared.entry.Entry.{Entry}
use Rattle.vme_memory.specs.Steps.{Command}
use Rattle.vme_core.specs.Calls.{OnBoard}
use Rattle.vme_shared.specs.MailboxSteps.{touches}
use Rattle.vme_shared.specs.declared.mailbox.Mailbox.{Mailbox}
use Rattle.vme_shared.specs.declared.request.SharedRequest.{SharedRequest}
use Rattle.vme_shared.specs.declared.request.SharedRequest.TheVariants as shared_requests
use Rattle.vme_shared.specs.Mailboxes.{set_lock, clear_lock}
use Rattle.vme_mailbox_laws.specs.Along.{mailbox_in}
use Rattle.vme_grammar.specs.Grammar.{IsOwnLine}
use Rattle.vme_grammar.specs.declared.line.Line.{Line}
use Rattle.vme_grammar.specs.declared.line.Line.TheVariants as lines
use Rattle.vme_script.specs.declared.mailbox_numbers.MailboxNumbers.TheVariants.{Declared}
use Rattle.vme_script.specs.declared.board_range.BoardRange.{BoardRange}
use Rattle.vme_script.specs.Bytes.{request_bytes, local_range}
use Rattle.vme_script.specs.Declarations.{Declaration}
use Rattle.vme_script.specs.MailboxNumbers.{has_box, may_name}
use Rattle.vme_script.specs.BoardRanges.{share}
use Rattle.vme_script.specs.Contexts as rules
use Rattle.vme_script.specs.Contexts.{is_of_mailbox, are_of_mailboxes}
use Rattle.vme_script.specs.declared.script.ScriptLine.{ScriptLine}
use Rattle.vme_script.specs.Boards.{entries_of}
use Rattle.vme_script.specs.Configurations.{Configuration}
use Rattle.vme_script.specs.Lawful.{IsLawful, IsLawfulMailbox}
use Rattle.vme_script.specs.Scripts.{rules_of}
use Rattle.vme_line_task.specs.Scripts.{lines_at, mailbox_at, line_attempt, shared_attempt}
use Rattle.vme_mailbox_laws.specs.Places.{on_board}
use Rattle.vme_mailbox_laws.specs.Names.{names, LeavesAlone, AllLeave}
use Rattle.vme_mailbox_laws.proofs.Apart.{IsAmong, beside}
use Rattle.vme_mailbox_laws.proofs.CallsApart.{Calls, line_calls}
use Rattle.vme_mailbox_laws.proofs.SendsApart.{Among, bus_sends, await_sends, local_sends, lock_sends, unlock_sends}
use Rattle.vme_mailbox_laws.proofs.MailboxesApart.{place_len, declared, others_apart, box_sends}

-- if no element of a list passes a test, the element at an index does not pass it
none_passes : {X : Type 0} (test : X → Bool) (xs : List X) (i : ℕ) (x : X) → slice_get xs i ≡ Some x → list_any test xs ≡ false
    → test x ≡ false
none_passes test xs i x there none =
    false_from_ne_true (test x) (λ passes. true≢false (sym (any_passes_from_place test xs i x there passes) ∙ none))

module _ (config : Configuration) (k who : ℕ) (mailbox : Mailbox) (lawful : IsLawful config)
    (here : slice_get config.mailboxes k ≡ Some mailbox) (fine : IsLawfulMailbox config.boards mailbox) where
  -- the map of the boards
  abbrev entries : List Entry
  entries = entries_of config.boards

  -- the declared map and mailboxes, with the board of the processor
  abbrev file : Declaration
  file = record { entries = entries; mailboxes = config.mailboxes; board = who }

  -- a command among bytes that share none with the mailbox does not touch it
  aside : (bytes : BoardRange) (c : Command) → IsAmong bytes fine.place.board c → share bytes fine.place ≡ false
      → touches (on_board mailbox fine.place) c ≡ false
  aside bytes c among apart =
      let len = place_len entries mailbox fine.place fine.placed in
      beside bytes fine.place (on_board mailbox fine.place) c among refl len apart

  -- a command among bytes that are those of no declared mailbox does not touch the mailbox
  by_bytes : (named : Option BoardRange) (c : Command) → option_map_or (are_of_mailboxes file) named false ≡ false
      → Among named fine.place.board c → touches (on_board mailbox fine.place) c ≡ false
  by_bytes named c free among =
      let none : are_of_mailboxes file among.0 ≡ false =
      ap (λ n. option_map_or (are_of_mailboxes file) n false) (sym among.1) ∙ free in
      let one : is_of_mailbox entries among.0 mailbox ≡ false =
      none_passes (is_of_mailbox entries among.0) config.mailboxes k mailbox here none in
      let apart : share among.0 fine.place ≡ false = ap (λ p. option_map_or (share among.0) p false) (sym fine.placed) ∙ one in
      aside among.0 c among.2 apart

  -- a put or a take of another mailbox does not touch the mailbox
  by_box : (box : ℕ) (request : Mailbox → SharedRequest) (c : Command) → ((m : Mailbox) → mailbox_in (request m) ≡ Some m)
      → has_box (Declared (length config.mailboxes)) box ≡ true → (box == k + 1) ≡ false
      → Calls (shared_attempt config who (request (mailbox_at config box))) (OnBoard fine.place.board (Some c))
      → touches (on_board mailbox fine.place) c ≡ false
  by_box box request c of may distinct calls =
      let other = declared config lawful box may in
      let theirs = lawful.mailboxes (box - 1) other.0 other.1 in
      aside theirs.place c
      (box_sends config lawful who (request other.0) other.0 theirs fine.place.board c (of other.0)
      (subst (λ m. Calls (shared_attempt config who (request m)) (OnBoard fine.place.board (Some c))) other.2 calls))
      (others_apart config lawful box k other.0 mailbox theirs fine other.1 other.3 here distinct)

  -- a line that does not name the mailbox does not touch it
  one_line : (line : Line) (c : Command) → IsOwnLine line → may_name (Declared (length config.mailboxes)) line ≡ true
      → rules.touches (rules_of entries config.mailboxes who) line ≡ false → names (k + 1) line ≡ false
      → Calls (line_attempt config who line) (OnBoard fine.place.board (Some c)) → touches (on_board mailbox fine.place) c ≡ false
  one_line (lines.Bus request) c own may free other calls =
      by_bytes (request_bytes entries request) c free (bus_sends config who request fine.place.board c calls)
  one_line (lines.Local cmd) c own may free other calls =
      by_bytes (local_range who cmd) c free (local_sends who cmd fine.place.board c own calls)
  one_line (lines.Await am addr bytes) c own may free other calls =
      let read = requests.Read am addr (length bytes.items) in
      by_bytes (request_bytes entries read) c free (await_sends config who read bytes.items fine.place.board c calls)
  one_line (lines.Lock am addr) c own may free other calls =
      by_bytes (request_bytes entries (set_lock am addr)) c free (lock_sends config who am addr fine.place.board c calls)
  one_line (lines.Unlock am addr) c own may free other calls =
      by_bytes (request_bytes entries (clear_lock am addr)) c free (unlock_sends config who am addr fine.place.board c calls)
  one_line (lines.Put box word) c own may free other calls =
      by_box box (λ m. shared_requests.Put m word) c (λ m. refl) may other calls
  one_line (lines.Take box) c own may free other calls =
      by_box box (λ m. shared_requests.Take m) c (λ m. refl) may other calls

  -- a line that does not name the mailbox leaves it alone
  leaves : (line : Line) → IsOwnLine line → may_name (Declared (length config.mailboxes)) line ≡ true
      → rules.touches (rules_of entries config.mailboxes who) line ≡ false → names (k + 1) line ≡ false
      → LeavesAlone config who line fine.place.board (on_board mailbox fine.place)
  leaves line own may free other = λ replies c made.
      one_line line c own may free other (line_calls config who line replies (OnBoard fine.place.board (Some c)) made)

  -- a script leaves the mailbox alone if each line that does not name the mailbox does
  script_leaves : (script : List ScriptLine)
      → ((j : ℕ) (line : ScriptLine) → slice_get script j ≡ Some line → names (k + 1) line.line ≡ false
      → LeavesAlone config who line.line fine.place.board (on_board mailbox fine.place))
      → AllLeave config who (k + 1) fine.place.board (on_board mailbox fine.place) (map (λ one. one.line) script)
  script_leaves [] each = tt
  script_leaves (first ∷ script) each = (each 0 first refl, script_leaves script (λ j line found. each (suc j) line found))

  -- all lines of a processor's script leave the mailbox alone
  pub left_alone : AllLeave config who (k + 1) fine.place.board (on_board mailbox fine.place) (lines_at config who)
  left_alone =
      elim (slice_get_cases config.scripts who).1 [
        | inl found ↦
            subst (λ s. AllLeave config who (k + 1) fine.place.board (on_board mailbox fine.place) (map (λ one. one.line) s))
            (sym (get_or_from_slice_get config.scripts who found.0 [] found.2))
            (script_leaves found.0 (λ j line at.
            leaves line.line (lawful.own who j found.0 line found.2 at) (lawful.named who j found.0 line found.2 at)
            (lawful.free who j found.0 line found.2 at)))
        | inr past ↦
            subst (λ s. AllLeave config who (k + 1) fine.place.board (on_board mailbox fine.place) (map (λ one. one.line) s))
            (sym (get_or_past config.scripts who [] past.0)) tt
      ]
