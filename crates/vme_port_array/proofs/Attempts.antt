-- The effect of one try on a pass: the take, the operation and the put, in order.
use Rattle.std.proofs.Common.{ℕ, ◌≡◌, ◌+◌, ◌-◌, ◌^◌, ◌<◌, ◌≤◌, List, [], ◌∷◌, ◌++◌, length, All, refl, ap, sym, ◌∙◌, subst, arith, length-append, append_assoc, eq-eqb}
use Rattle.std.proofs.lemmas.List.{append-nil}
use Rattle.std.proofs.lemmas.List.Elements.{All-nil, All-cons}
use mathlib.Core.Option.{some}
use lib.ListN.{get_elem?}
use Rattle.atomic_table.specs.Table.{Me}
use Rattle.atomic_table.specs.Seated.{TableId}
use Rattle.vme_object.specs.declared.history.Entry.{Entry}
use Rattle.vme_object.specs.History.{replay, IsLegal, own, entry}
use Rattle.vme_object.proofs.lemmas.Histories.{replay-append, own-append}
use Rattle.vme_port_array.specs.declared.indexed.Indexed.{Indexed}
use Rattle.vme_port.specs.declared.rule.Account.{Account}
use Rattle.vme_port_array.specs.declared.rule.ArrayView.{ArrayView}
use Rattle.vme_port.specs.declared.home.Home.{Home}
use Rattle.vme_port_array.specs.Parts.{indexed, part, AreLegal}
use Rattle.vme_port.specs.Views.{account}
use Rattle.vme_port.specs.Steps.{IsOut, IsFull, HasPerformed}
use Rattle.vme_port_array.specs.Steps.{HasTaken, HasLost, MayPut, IsPut, HasPut}
use Rattle.vme_port.specs.Passes.{PassView, seen_by, made_by}
use Rattle.vme_port_array.specs.Passes.{IsAtRest}
use Rattle.vme_port_array.specs.Calls.{Adds}
use Rattle.vme_port.proofs.lemmas.Accounts.{own_all}
use Rattle.vme_port_array.proofs.lemmas.Parts.{part-append}

-- the first of the objects that a seat holds, or `other` if it holds none
abbrev first_home : {S : Type 0} → Home S → List (ℕ × Home S) → Home S
first_home other [] = other
first_home other (x ∷ xs) = x.1

-- the view of a pass with this seat
abbrev pub pass_view : {S C R : Type 0} → TableId → ℕ → Me (Home S) (ArrayView C R) → PassView C R
pass_view port who m = record { port = port; who = who; made = length (made_by m.0.accounts); seen = seen_by m.0.accounts; mine = made_by m.0.accounts }

-- the part of an object in a history of one entry of it is that entry
one_part : {C R : Type 0} (who i : ℕ) (cmd : C) (reply : R)
    → part i (entry who (indexed i cmd) reply ∷ []) ≡ entry who cmd reply ∷ []
one_part who i cmd reply = rw (eq-eqb i i refl) refl

module _ {S C R : Type 0} (step : S → C → S × R) (starts : List S) (k i : ℕ) where
  -- the array was opened with these objects, for this number of passes
  abbrev pub Opened : List S → ℕ → Type 0
  Opened objects passes = (objects ≡ starts) × (passes ≡ k)

  -- after a take that won, the seat holds the object
  pub out : (a : Account (Indexed C) R) (m : Me (Home S) (ArrayView (Indexed C) R)) → HasTaken step Opened i a m → IsOut i m
  out a m t = (t.home, ap (λ m. m.1) t.after)

  module _ (start : S) (there : get_elem? starts i ≡ some start) (a : Account (Indexed C) R) (m1 : Me (Home S) (ArrayView (Indexed C) R)) (t : HasTaken step Opened i a m1) where
    -- the object is the replay of its part of the history that the take found
    found_object : t.home.object ≡ replay step start (part i (a.seen ++ t.others))
    found_object = t.object start (subst (λ l. get_elem? l i ≡ some start) (sym t.opens.0) there)

    -- the object that the seat holds is the one that was taken
    same_home : (home : Home S) → m1.1 ≡ (i, home) ∷ [] → home ≡ t.home
    same_home home at = ap (first_home home) (sym at ∙ ap (λ m. m.1) t.after)

    -- a put without an entry is allowed if the part is full
    pub put_none : (m2 : Me (Home S) (ArrayView (Indexed C) R)) → IsFull i m1 m2 → MayPut step starts i [] m2
    put_none m2 full =
        let nil = append-nil (part i (a.seen ++ t.others)) in record {
          holder = account a.who (a.seen ++ t.others) a.mine;
          home = t.home;
          start = start;
          opens = there;
          has = full.same ∙ t.after;
          legal = tt;
          whose = All-nil (λ (e : Entry (Indexed C) R). e.who ≡ a.who);
          indexes = All-nil (λ (e : Entry (Indexed C) R). e.cmd.index ≡ i);
          object = found_object ∙ ap (replay step start) (sym nil);
          count = t.count ∙ ap length (sym nil);
        }

    -- a put of one entry is allowed after a command
    pub put_one : (who : ℕ) (cmd : C) (reply : R) (m2 : Me (Home S) (ArrayView (Indexed C) R)) → a.who ≡ who
        → HasPerformed i step cmd reply m1 m2
        → MayPut step starts i (entry who (indexed i cmd) reply ∷ []) m2
    put_one who cmd reply m2 named p =
        let seen : List (Entry (Indexed C) R) = a.seen ++ t.others in
        let e : Entry (Indexed C) R = entry who (indexed i cmd) reply in
        let one : part i (e ∷ []) ≡ entry who cmd reply ∷ [] = one_part who i cmd reply in
        let same : p.home ≡ t.home = same_home p.home p.out in
        let was : p.home.object ≡ replay step start (part i seen) = ap (λ (h : Home S). h.object) same ∙ found_object in record {
          holder = account a.who seen a.mine;
          home = p.next;
          start = start;
          opens = there;
          has = p.after ∙ ap (λ v. (v, (i, p.next) ∷ [])) (ap (λ m. m.0) t.after);
          legal = subst (IsLegal step (replay step start (part i seen))) (sym one) (p.answer ∙ ap (λ s. (step s cmd).1) was, tt);
          whose = All-cons (λ (e : Entry (Indexed C) R). e.who ≡ a.who) e [] (sym named) (All-nil (λ (e : Entry (Indexed C) R). e.who ≡ a.who));
          indexes = All-cons (λ (e : Entry (Indexed C) R). e.cmd.index ≡ i) e [] refl (All-nil (λ (e : Entry (Indexed C) R). e.cmd.index ≡ i));
          object = p.object ∙ ap (λ s. (step s cmd).0) was ∙ sym (replay-append step start (part i seen) (entry who cmd reply ∷ [])) ∙ ap (λ l. replay step start (part i seen ++ l)) (sym one);
          count =
              let counted : p.home.count ≡ length (part i seen) = ap (λ (h : Home S). h.count) same ∙ t.count in
              omega (arith, p.count, length-append (part i seen) (part i (e ∷ [])), ap length one);
        }

  module _ (who : ℕ) (m0 m1 : Me (Home S) (ArrayView (Indexed C) R)) (rest : IsAtRest m0 who) where
    -- after a take that lost, the pass is at rest
    pub rests_lost : HasLost step Opened m0 m1 → IsAtRest m1 who
    rests_lost lost = subst (λ m. IsAtRest m who) (sym lost.same) rest

    -- after a take that lost, the array has two passes or more
    pub shared_lost : HasLost step Opened m0 m1 → 2 ≤ k
    shared_lost lost = omega (arith, lost.opens.1, lost.shared)

    module _ (t : HasTaken step Opened i rest.only m1) (es : List (Entry (Indexed C) R)) (m2 m3 : Me (Home S) (ArrayView (Indexed C) R)) (same : m2.0 ≡ m1.0) (outcome : HasPut step Opened i es m2 m3) where
      -- the history that the take found
      abbrev found : List (Entry (Indexed C) R)
      found = rest.only.seen ++ t.others

      -- the effect of the put
      abbrev is_put : IsPut step Opened i es (account rest.only.who found rest.only.mine) m3
      is_put = outcome (account rest.only.who found rest.only.mine) (same ∙ ap (λ m. m.0) t.after)

      -- the entries that are new to the pass
      abbrev since : List (Entry (Indexed C) R)
      since = t.others ++ is_put.others

      -- the entries that are new to the pass are those of others
      apart_since : own who since ≡ []
      apart_since =
          let first : own who t.others ≡ [] = subst (λ w. own w t.others ≡ []) rest.named t.apart in
          let then : own who is_put.others ≡ [] = subst (λ w. own w is_put.others ≡ []) rest.named is_put.apart in
          own-append who t.others is_put.others ∙ (λ j. first j ++ then j)

      -- the history is what the pass had seen, what is new to it, and the new entries
      all_seen : (found ++ is_put.others) ++ es ≡ seen_by m0.0.accounts ++ since ++ es
      all_seen = ap (λ l. l ++ es) (append_assoc rest.only.seen t.others is_put.others) ∙ ap (λ m. seen_by m.0.accounts ++ since ++ es) (sym rest.alone)

      -- after the put, the pass has seen the whole history and the new entries
      seen_after : seen_by m3.0.accounts ≡ seen_by m0.0.accounts ++ since ++ es
      seen_after = ap (λ m. seen_by m.0.accounts) is_put.after ∙ all_seen

      -- after the put, the pass has made the new entries
      mine_after : made_by m3.0.accounts ≡ made_by m0.0.accounts ++ es
      mine_after = ap (λ m. made_by m.0.accounts) is_put.after ∙ ap (λ m. made_by m.0.accounts ++ es) (sym rest.alone)

      -- after the put, the pass is at rest
      pub rests_after : IsAtRest m3 who
      rests_after = record {
        only = account rest.only.who ((found ++ is_put.others) ++ es) (rest.only.mine ++ es);
        alone = is_put.after;
        named = rest.named;
      }

      -- after the put, the pass has added its own entries
      pub adds_after : (port port' : TableId) → port' ≡ port → All (λ e. e.who ≡ who) es
          → Adds step starts es (pass_view port who m0) (pass_view port' who m3)
      adds_after port port' same_port whose = record {
        port = same_port;
        who = refl;
        others = since;
        apart = apart_since;
        seen = seen_after;
        whose = whose;
        legal =
            subst (AreLegal step starts) (sym (ap (λ m. seen_by m.0.accounts) is_put.after))
            (subst (λ l. AreLegal step l ((found ++ is_put.others) ++ es)) is_put.opens.0 is_put.legal);
        mine = mine_after;
        sound =
            let was : own who (seen_by m0.0.accounts) ≡ made_by m0.0.accounts =
            subst (λ m. own who (seen_by m.0.accounts) ≡ made_by m.0.accounts) (sym rest.alone) (subst (λ w. own w rest.only.seen ≡ rest.only.mine) rest.named t.sound) in
            ap (own who) seen_after ∙ own-append who (seen_by m0.0.accounts ++ since) es ∙ ap (λ l. l ++ own who es) (own-append who (seen_by m0.0.accounts) since)
            ∙ (λ j. (was j ++ apart_since j) ++ own_all who es whose j) ∙ ap (λ l. l ++ es) (append-nil (made_by m0.0.accounts)) ∙ sym mine_after;
        made = ap length mine_after ∙ length-append (made_by m0.0.accounts) es;
      }

    module _ (t : HasTaken step Opened i rest.only m1) (m2 m3 : Me (Home S) (ArrayView (Indexed C) R)) (full : IsFull i m1 m2) (outcome : HasPut step Opened i [] m2 m3)
        (start : S) (there : get_elem? starts i ≡ some start) where
      -- a command at a full part leaves the seat's view unchanged
      abbrev same_full : m2.0 ≡ m1.0
      same_full = ap (λ m. m.0) full.same

      -- after a put without an entry, the pass is at rest
      pub rests_full : IsAtRest m3 who
      rests_full = rests_after t [] m2 m3 same_full outcome

      -- after a put without an entry, the pass has seen the whole history and added nothing
      pub adds_none : (port port' : TableId) → port' ≡ port → Adds step starts [] (pass_view port who m0) (pass_view port' who m3)
      adds_none port port' same_port = adds_after t [] m2 m3 same_full outcome port port' same_port (All-nil (λ (e : Entry (Indexed C) R). e.who ≡ who))

      -- if the call was `Spent`, the object's part has 2^64 - 1 entries
      pub is_full : length (part i (seen_by m3.0.accounts)) ≡ 2 ^ 64 - 1
      is_full =
          let put = is_put t [] m2 m3 same_full outcome in
          let a : List (Entry (Indexed C) R) = rest.only.seen ++ t.others in
          let same_part : part i ((a ++ put.others) ++ []) ≡ part i a =
          ap (part i) (append-nil (a ++ put.others)) ∙ part-append i a put.others ∙ ap (λ l. part i a ++ l) put.elsewhere ∙ append-nil (part i a) in
          ap (λ m. length (part i (seen_by m.0.accounts))) put.after ∙ ap length same_part
          ∙ sym t.count ∙ ap (λ (h : Home S). h.count) (sym (same_home start there rest.only m1 t full.home full.out)) ∙ full.last

    module _ (t : HasTaken step Opened i rest.only m1) (cmd : C) (reply : R) (m2 m3 : Me (Home S) (ArrayView (Indexed C) R)) (p : HasPerformed i step cmd reply m1 m2)
        (outcome : HasPut step Opened i (entry who (indexed i cmd) reply ∷ []) m2 m3) where
      -- the entry of the call
      abbrev e : Entry (Indexed C) R
      e = entry who (indexed i cmd) reply

      -- a command leaves the seat's view unchanged
      abbrev same_one : m2.0 ≡ m1.0
      same_one = ap (λ m. m.0) p.after

      -- after a call with one entry, the pass is at rest
      pub rests_one : IsAtRest m3 who
      rests_one = rests_after t (e ∷ []) m2 m3 same_one outcome

      -- after a call with one entry, the pass has added it to the whole history
      pub adds_one : (port port' : TableId) → port' ≡ port
          → Adds step starts (e ∷ []) (pass_view port who m0) (pass_view port' who m3)
      adds_one port port' same_port =
          adds_after t (e ∷ []) m2 m3 same_one outcome port port' same_port (All-cons (λ (e : Entry (Indexed C) R). e.who ≡ who) e [] refl (All-nil (λ (e : Entry (Indexed C) R). e.who ≡ who)))

      -- after a call with one entry, the object has fewer than 2^64 entries
      pub counted_one : (start : S) → get_elem? starts i ≡ some start → length (part i (seen_by m3.0.accounts)) < 2 ^ 64
      counted_one start there =
          let put = is_put t (e ∷ []) m2 m3 same_one outcome in
          let a : List (Entry (Indexed C) R) = rest.only.seen ++ t.others in
          let same_part : part i (a ++ put.others) ≡ part i a = part-append i a put.others ∙ ap (λ l. part i a ++ l) put.elsewhere ∙ append-nil (part i a) in
          let complete : length (part i ((a ++ put.others) ++ e ∷ [])) ≡ length (part i (a ++ put.others)) + length (part i (e ∷ [])) =
          ap length (part-append i (a ++ put.others) (e ∷ [])) ∙ length-append (part i (a ++ put.others)) (part i (e ∷ [])) in
          let here : seen_by m3.0.accounts ≡ (a ++ put.others) ++ e ∷ [] = ap (λ m. seen_by m.0.accounts) put.after in
          let counted : p.home.count ≡ length (part i a) = ap (λ (h : Home S). h.count) (same_home start there rest.only m1 t p.home p.out) ∙ t.count in
          omega (arith, ap (λ l. length (part i l)) here, complete, ap length same_part, ap length (one_part who i cmd reply), counted, p.capacity)
