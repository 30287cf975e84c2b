-- The number of calls of each object that a pass has made.
use Rattle.std.proofs.Common.{ℕ, suc, ◌≡◌, ◌≢◌, ◌+◌, ◌<◌, ◌≤◌, ◌^◌, inl, inr, List, [], ◌∷◌, ◌++◌, length, set, slice_index_or, All, refl, ap, sym, ◌∙◌, subst, arith, eq-eqb, ne_eqb, length-append}
use Rattle.std.proofs.lemmas.Bool.{cases_eq}
use Rattle.std.proofs.lemmas.List.{get_or_default, get_or-set_same, get_or-set_other, length-set}
use Rattle.std.proofs.lemmas.List.Elements.{All-head, All-tail}
use Rattle.vme_object.specs.History.{own, entry}
use Rattle.vme_core.specs.declared.event.EventReply.{EventReply}
use Rattle.vme_core.specs.declared.event.EventReply.TheVariants as replies
use Rattle.vme_core.specs.Runs.{board_part, bus_part}
use Rattle.vme_port_array.specs.Parts.{indexed, part}
use Rattle.vme_port_array.proofs.lemmas.Parts.{part-append}
use Rattle.vme_bus_objects.specs.declared.command.BusCommand.{BusCommand}
use Rattle.vme_bus_objects.specs.declared.command.BusCommand.TheVariants as commands
use Rattle.vme_bus_objects.specs.Runs.{BusEntry, run_of, MatchesKindAt, MatchesKind}
use Rattle.vme_threads.specs.ProcessorPasses.{CountsMore}

-- a processor's own entries in the part of an object are no more than the whole part
own_part : (who x : ℕ) (h : List BusEntry) → length (part x (own who h)) ≤ length (part x h)
own_part who x [] = omega arith
own_part who x (e ∷ h) =
    let less = own_part who x h in
    elim (cases_eq e.who who) [
      | inl mine ↦ elim (cases_eq e.cmd.index x) [
        | inl here ↦ rw (eq-eqb e.who who mine, eq-eqb e.cmd.index x here) (omega (arith, less))
        | inr there ↦ rw (eq-eqb e.who who mine, ne_eqb e.cmd.index x there) less
      ]
      | inr other ↦ elim (cases_eq e.cmd.index x) [
        | inl here ↦ rw (ne_eqb e.who who other, eq-eqb e.cmd.index x here) (omega (arith, less))
        | inr there ↦ rw (ne_eqb e.who who other, ne_eqb e.cmd.index x there) less
      ]
    ]

-- the part of two consecutive histories is as long as both parts together
part_length : (x : ℕ) (a b : List BusEntry) → length (part x (a ++ b)) ≡ length (part x a) + length (part x b)
part_length x a b = ap length (part-append x a b) ∙ length-append (part x a) (part x b)

-- an entry counts once at its object
one_here : (who x : ℕ) (cmd : BusCommand) (reply : EventReply) → length (part x (entry who (indexed x cmd) reply ∷ [])) ≡ 1
one_here who x cmd reply = rw (eq-eqb x x refl) refl

-- an entry does not count at another object
none_there : (who x y : ℕ) (cmd : BusCommand) (reply : EventReply) → x ≢ y
    → length (part y (entry who (indexed x cmd) reply ∷ [])) ≡ 0
none_there who x y cmd reply other = rw (ne_eqb x y other) refl

-- no entry leaves the counts unchanged
pub counts_none : (made : List ℕ) → CountsMore [] made made
counts_none made = record { count = refl; each = λ x n less. omega arith }

-- counts that grew by one sequence of entries and then by another grew by both
pub counts_more : (a b : List BusEntry) (old now new : List ℕ) → CountsMore a old now → CountsMore b now new
    → CountsMore (a ++ b) old new
counts_more a b old now new first then = record {
  count = then.count ∙ first.count;
  each = λ x n less.
      let one = first.each x n less in
      let two = then.each x n (omega (arith, first.count, less)) in
      omega (arith, one, two, part_length x a b);
}

-- the counts after one call: the count of the called object is one more
pub counts_one :
    (who x : ℕ) (cmd : BusCommand) (reply : EventReply) (made : List ℕ) (was : ℕ) → x < length made
    → was ≡ slice_index_or made x was
    → CountsMore (entry who (indexed x cmd) reply ∷ []) made (set made x (was + 1))
counts_one who x cmd reply made was within value = record {
  count = length-set made x (was + 1);
  each = λ y n less.
      elim (cases_eq y x) [
        | inl same ↦
            let here : slice_index_or (set made x (was + 1)) x n ≡ was + 1 = get_or-set_same made x (was + 1) n within in
            let before : was ≡ slice_index_or made x n = value ∙ get_or_default made x was n within in
            let one = one_here who x cmd reply in
            let at_x : slice_index_or (set made x (was + 1)) x n
            ≡ slice_index_or made x n + length (part x (entry who (indexed x cmd) reply ∷ [])) =
            omega (arith, here, before, one) in
            subst (λ y. slice_index_or (set made x (was + 1)) y n
            ≡ slice_index_or made y n + length (part y (entry who (indexed x cmd) reply ∷ []))) (sym same) at_x
        | inr other ↦
            let there : slice_index_or (set made x (was + 1)) y n ≡ slice_index_or made y n =
            get_or-set_other made x y (was + 1) n other in
            let none = none_there who x y cmd reply (λ same. other (sym same)) in
            omega (arith, there, none)
      ];
}

-- the counts of a pass after the entries that it added are those of all its entries
pub counts_after : (entries mine new : List BusEntry) (old now : List ℕ) (m : ℕ) → CountsMore entries old now → length old ≡ m
    → new ≡ mine ++ entries
    → ((x n : ℕ) → x < m → slice_index_or old x n ≡ length (part x mine)) → (x n : ℕ) → x < m
    → slice_index_or now x n ≡ length (part x new)
counts_after entries mine new old now m more count is was x n less =
    let after = more.each x n (omega (arith, count, less)) in
    let before = was x n less in
    let all : length (part x new) ≡ length (part x mine) + length (part x entries) =
    ap (λ h. length (part x h)) is ∙ part_length x mine entries in
    omega (arith, after, before, all)

-- a count can rise by one call: the part that the pass has seen has the new entry, and fewer than 2^64 entries
pub count_fits :
    (who x : ℕ) (cmd : BusCommand) (reply : EventReply) (n : ℕ) (seen mine new : List BusEntry) → n ≡ length (part x mine)
    → new ≡ mine ++ entry who (indexed x cmd) reply ∷ [] → own who seen ≡ new → length (part x seen) < 2 ^ 64 → n + 1 < 2 ^ 64
count_fits who x cmd reply n seen mine new was is sound fits =
    let more : length (part x new) ≡ length (part x mine) + length (part x (entry who (indexed x cmd) reply ∷ [])) =
    ap (λ h. length (part x h)) is ∙ part_length x mine (entry who (indexed x cmd) reply ∷ []) in
    let one = one_here who x cmd reply in
    let within : length (part x new) ≤ length (part x seen) =
    subst (λ h. length (part x h) ≤ length (part x seen)) sound (own_part who x seen) in
    omega (arith, more, one, within, fits, was)

-- in a history of matching kinds, the calls of a board are as many as the entries of its part of the run
pub board_count : (n x : ℕ) (h : List BusEntry) → x < n → All (MatchesKind n) h
    → length (part x h) ≡ length (board_part x (run_of h))
board_count n x [] below kinds = refl
board_count n x (e ∷ h) below kinds =
    by_entry (board_count n x h below (All-tail (MatchesKind n) e h kinds)) e.who e.cmd.index e.cmd.cmd e.reply
    (All-head (MatchesKind n) e h kinds)
  where
    by_entry : length (part x h) ≡ length (board_part x (run_of h)) → (who index : ℕ) (cmd : BusCommand) (reply : EventReply)
        → MatchesKindAt n index cmd reply
        → length (part x (entry who (indexed index cmd) reply ∷ h))
        ≡ length (board_part x (run_of (entry who (indexed index cmd) reply ∷ h)))
    by_entry again who index (commands.Board cmd) (replies.Board reply) kinds = elim (cases_eq index x) [
      | inl same ↦ rw (eq-eqb index x same) (ap suc again)
      | inr other ↦ rw (ne_eqb index x other) again
    ]
    by_entry again who index (commands.Board cmd) (replies.Bus reply) kinds = absurd kinds
    by_entry again who index (commands.Arbiter cmd) (replies.Board reply) kinds = absurd kinds
    by_entry again who index (commands.Arbiter cmd) (replies.Bus reply) kinds =
        let off : index ≢ x = λ same. omega (arith, kinds, same, below) in rw (ne_eqb index x off) again

-- in a history of matching kinds, the calls of the arbiter are as many as the entries of its part of the run
pub bus_count : (n : ℕ) (h : List BusEntry) → All (MatchesKind n) h → length (part n h) ≡ length (bus_part (run_of h))
bus_count n [] kinds = refl
bus_count n (e ∷ h) kinds =
    by_entry (bus_count n h (All-tail (MatchesKind n) e h kinds)) e.who e.cmd.index e.cmd.cmd e.reply
    (All-head (MatchesKind n) e h kinds)
  where
    by_entry : length (part n h) ≡ length (bus_part (run_of h)) → (who index : ℕ) (cmd : BusCommand) (reply : EventReply)
        → MatchesKindAt n index cmd reply
        → length (part n (entry who (indexed index cmd) reply ∷ h))
        ≡ length (bus_part (run_of (entry who (indexed index cmd) reply ∷ h)))
    by_entry again who index (commands.Board cmd) (replies.Board reply) kinds =
        let off : index ≢ n = λ same. omega (arith, kinds, same) in rw (ne_eqb index n off) again
    by_entry again who index (commands.Board cmd) (replies.Bus reply) kinds = absurd kinds
    by_entry again who index (commands.Arbiter cmd) (replies.Board reply) kinds = absurd kinds
    by_entry again who index (commands.Arbiter cmd) (replies.Bus reply) kinds = rw (eq-eqb index n kinds) (ap suc again)
