-- The effect of one try on a pass: the take, the command and the put, in order.
use Rattle.std.proofs.Common.{ℕ, ◌≡◌, ◌+◌, ◌-◌, ◌^◌, ◌<◌, ◌≤◌, false, List, [], ◌∷◌, ◌++◌, length, All, refl, ap, sym, ◌∙◌, subst, arith, length-append}
use Rattle.std.proofs.lemmas.List.{append-nil}
use Rattle.std.proofs.lemmas.List.Elements.{All-nil, All-cons}
use Rattle.atomic_table.specs.Table.{Me}
use Rattle.atomic_table.specs.Seated.{TableId}
use Rattle.vme_object.specs.declared.history.Entry.{Entry}
use Rattle.vme_object.specs.History.{replay, IsLegal, own, entry}
use Rattle.vme_object.proofs.lemmas.Histories.{replay-append, legal-append, own-append, own_within}
use Rattle.vme_port.specs.declared.rule.Account.{Account}
use Rattle.vme_port.specs.declared.rule.SeatView.{SeatView}
use Rattle.vme_port.specs.declared.home.Home.{Home}
use Rattle.vme_port.specs.Views.{account, view}
use Rattle.vme_port.specs.Steps.{HasTaken, HasLost, MayPut, HasPut, IsOut, IsFull, HasPerformed}
use Rattle.vme_port.specs.Passes.{PassView, IsAtRest, seen_by, made_by}
use Rattle.vme_port.specs.Calls.{Adds}
use Rattle.vme_port.proofs.lemmas.Accounts.{own_all}

-- the first of the objects that are held, or `other` if none is held
abbrev first_home : {S : Type 0} → Home S → List (ℕ × Home S) → Home S
first_home other [] = other
first_home other (x ∷ xs) = x.1

-- the view of a pass with this seat
abbrev pub pass_view : {S C R : Type 0} → TableId → ℕ → ℕ → Me (Home S) (SeatView C R) → PassView C R
pass_view port who made m = record { port = port; who = who; made = made; seen = seen_by m.0.accounts; mine = made_by m.0.accounts }

module _ {S C R : Type 0} (step : S → C → S × R) (start : S) (k : ℕ) where
  -- the port was opened with this object, for this number of passes
  abbrev pub Opened : S → ℕ → Type 0
  Opened object passes = (object ≡ start) × (passes ≡ k)

  -- after a take that won, the seat holds the object
  pub out : (a : Account C R) (m : Me (Home S) (SeatView C R)) → HasTaken step Opened a m → IsOut 0 m
  out a m t = (t.home, ap (λ m. m.1) t.after)

  module _ (a : Account C R) (m1 : Me (Home S) (SeatView C R)) (t : HasTaken step Opened a m1) where
    -- the history that the take found is legal
    found_legal : IsLegal step start (a.seen ++ t.others)
    found_legal = subst (λ s. IsLegal step s (a.seen ++ t.others)) t.opens.0 t.legal

    -- the object that was taken is the replay of the history that the take found
    found_object : t.home.object ≡ replay step start (a.seen ++ t.others)
    found_object = t.object ∙ ap (λ s. replay step s (a.seen ++ t.others)) t.opens.0

    -- the object that the seat holds is the one that was taken
    same_home : (home : Home S) → m1.1 ≡ (0, home) ∷ [] → home ≡ t.home
    same_home home there = ap (first_home home) (sym there ∙ ap (λ m. m.1) t.after)

    -- a put without an entry is allowed if the history is full
    pub put_none : (m2 : Me (Home S) (SeatView C R)) → IsFull 0 m1 m2 → MayPut step start [] m2
    put_none m2 full =
        let nil = append-nil (a.seen ++ t.others) in record {
          holder = account a.who (a.seen ++ t.others) a.mine;
          home = t.home;
          has = full.same ∙ t.after;
          legal = tt;
          whose = All-nil (λ (e : Entry C R). e.who ≡ a.who);
          object = found_object ∙ ap (replay step start) (sym nil);
          count = t.count ∙ ap length (sym nil);
        }

    -- a put of one entry is allowed after a command
    pub put_one : (who : ℕ) (cmd : C) (reply : R) (m2 : Me (Home S) (SeatView C R)) → a.who ≡ who → HasPerformed 0 step cmd reply m1 m2
        → MayPut step start (entry who cmd reply ∷ []) m2
    put_one who cmd reply m2 named p =
        let seen : List (Entry C R) = a.seen ++ t.others in
        let e : Entry C R = entry who cmd reply in
        let same : p.home ≡ t.home = same_home p.home p.out in
        let was : p.home.object ≡ replay step start seen = ap (λ (h : Home S). h.object) same ∙ found_object in record {
          holder = account a.who seen a.mine;
          home = p.next;
          has = p.after ∙ ap (λ v. (v, (0, p.next) ∷ [])) (ap (λ m. m.0) t.after);
          legal = (p.answer ∙ ap (λ s. (step s cmd).1) was, tt);
          whose = All-cons (λ (e : Entry C R). e.who ≡ a.who) e [] (sym named) (All-nil (λ (e : Entry C R). e.who ≡ a.who));
          object = p.object ∙ ap (λ s. (step s cmd).0) was ∙ sym (replay-append step start seen (e ∷ []));
          count = let counted : p.home.count ≡ length seen = ap (λ (h : Home S). h.count) same ∙ t.count in omega (arith, p.count, length-append seen (e ∷ []));
        }

    -- the seat after the put
    pub after_put : (es : List (Entry C R)) (m2 m3 : Me (Home S) (SeatView C R)) → m2.0 ≡ m1.0 → HasPut es m2 m3
        → m3 ≡ (view (account a.who (a.seen ++ t.others ++ es) (a.mine ++ es) ∷ []) false, [])
    after_put es m2 m3 same outcome = outcome (account a.who (a.seen ++ t.others) a.mine) (same ∙ ap (λ m. m.0) t.after)

    -- the history that the take found is at least as long as what the account made
    made_within : length a.mine ≤ length (a.seen ++ t.others)
    made_within = omega (arith, own_within a.who a.seen, ap length t.sound, length-append a.seen t.others)

  module _ (who made : ℕ) (m0 m1 : Me (Home S) (SeatView C R)) (rest : IsAtRest m0 who made) where
    -- after a take that lost, the pass is at rest
    pub rests_lost : HasLost step Opened m0 m1 → IsAtRest m1 who made
    rests_lost lost = subst (λ m. IsAtRest m who made) (sym lost.same) rest

    -- after a take that lost, the port has two passes or more
    pub shared_lost : HasLost step Opened m0 m1 → 2 ≤ k
    shared_lost lost = omega (arith, lost.opens.1, lost.shared)

    module _ (t : HasTaken step Opened rest.only m1) where
      -- the history that the take found
      abbrev found : List (Entry C R)
      found = rest.only.seen ++ t.others

      -- the entries that are new to the pass are those of others
      apart_found : own who t.others ≡ []
      apart_found = subst (λ w. own w t.others ≡ []) rest.named t.apart

      -- the own entries of the pass in the history are those that it made
      own_found : own who found ≡ rest.only.mine
      own_found = own-append who rest.only.seen t.others ∙ ap (λ l. own who rest.only.seen ++ l) apart_found
          ∙ append-nil (own who rest.only.seen) ∙ subst (λ w. own w rest.only.seen ≡ rest.only.mine) rest.named t.sound

      -- what the pass had seen is a prefix of the history
      begins_found : found ≡ seen_by m0.0.accounts ++ t.others
      begins_found = ap (λ m. seen_by m.0.accounts ++ t.others) (sym rest.alone)

      -- after the command, one more entry can be counted
      pub made_fits : (cmd : C) (reply : R) (m2 : Me (Home S) (SeatView C R)) → HasPerformed 0 step cmd reply m1 m2 → made + 1 < 2 ^ 64
      made_fits cmd reply m2 p =
          let counted : p.home.count ≡ length found = ap (λ (h : Home S). h.count) (same_home rest.only m1 t p.home p.out) ∙ t.count in
          omega (arith, made_within rest.only m1 t, rest.counted, p.capacity)

      module _ (es : List (Entry C R)) (m2 m3 : Me (Home S) (SeatView C R)) (same : m2.0 ≡ m1.0) (outcome : HasPut es m2 m3) where
        -- after the put, the pass has seen the whole history and the new entries
        seen_after : seen_by m3.0.accounts ≡ found ++ es
        seen_after = ap (λ m. seen_by m.0.accounts) (after_put rest.only m1 t es m2 m3 same outcome)

        -- after the put, the pass has made the new entries
        mine_after : made_by m3.0.accounts ≡ made_by m0.0.accounts ++ es
        mine_after = ap (λ m. made_by m.0.accounts) (after_put rest.only m1 t es m2 m3 same outcome) ∙ ap (λ m. made_by m.0.accounts ++ es) (sym rest.alone)

        -- after the put, the pass is at rest
        rests_after : IsAtRest m3 who (made + length es)
        rests_after = record {
          only = account rest.only.who (found ++ es) (rest.only.mine ++ es);
          alone = after_put rest.only m1 t es m2 m3 same outcome;
          named = rest.named;
          counted = omega (arith, length-append rest.only.mine es, rest.counted);
        }

        -- after the put, the pass has added its own entries, if the longer history is legal
        adds_after : (port port' : TableId) → port' ≡ port → IsLegal step start (found ++ es) → All (λ e. e.who ≡ who) es
            → Adds step start es (pass_view port who made m0) (pass_view port' who (made + length es) m3)
        adds_after port port' same_port legal whose = record {
          port = same_port;
          who = refl;
          others = t.others;
          apart = apart_found;
          seen = seen_after ∙ ap (λ l. l ++ es) begins_found;
          whose = whose;
          legal = subst (IsLegal step start) (sym seen_after) legal;
          mine = mine_after;
          sound = ap (own who) seen_after ∙ own-append who found es ∙ (λ i. own_found i ++ own_all who es whose i)
              ∙ ap (λ m. made_by m.0.accounts ++ es) (sym rest.alone) ∙ sym mine_after;
          made = refl;
        }

      module _ (m2 m3 : Me (Home S) (SeatView C R)) (full : IsFull 0 m1 m2) (outcome : HasPut [] m2 m3) where
        -- a full history leaves the view of the seat unchanged
        same_full : m2.0 ≡ m1.0
        same_full = ap (λ m. m.0) full.same

        -- after a put without an entry, the pass has seen the whole history
        seen_full : seen_by m3.0.accounts ≡ found
        seen_full = seen_after [] m2 m3 same_full outcome ∙ append-nil found

        -- after a put without an entry, the pass is at rest
        pub rests_full : IsAtRest m3 who made
        rests_full = subst (IsAtRest m3 who) (omega arith) (rests_after [] m2 m3 same_full outcome)

        -- after a put without an entry, the pass has seen the whole history and added nothing
        pub adds_none : (port port' : TableId) → port' ≡ port → Adds step start [] (pass_view port who made m0) (pass_view port' who made m3)
        adds_none port port' same_port =
            let legal : IsLegal step start (found ++ []) = subst (IsLegal step start) (sym (append-nil found)) (found_legal rest.only m1 t) in
            let after : Adds step start [] (pass_view port who made m0) (pass_view port' who (made + 0) m3) =
            adds_after [] m2 m3 same_full outcome port port' same_port legal (All-nil (λ (e : Entry C R). e.who ≡ who)) in
            subst (λ n. Adds step start [] (pass_view port who made m0) (pass_view port' who n m3)) (omega arith) after

        -- after a call that was `Spent`, the pass has seen a history of 2^64 - 1 entries
        pub is_full : length (seen_by m3.0.accounts) ≡ 2 ^ 64 - 1
        is_full = ap length seen_full ∙ sym t.count ∙ ap (λ (h : Home S). h.count) (sym (same_home rest.only m1 t full.home full.out)) ∙ full.last

      module _ (cmd : C) (reply : R) (m2 m3 : Me (Home S) (SeatView C R)) (p : HasPerformed 0 step cmd reply m1 m2) (outcome : HasPut (entry who cmd reply ∷ []) m2 m3) where
        abbrev e : Entry C R
        e = entry who cmd reply

        -- the command leaves the view of the seat unchanged
        same_one : m2.0 ≡ m1.0
        same_one = ap (λ m. m.0) p.after

        -- after a call with one entry, the pass is at rest
        pub rests_one : IsAtRest m3 who (made + 1)
        rests_one = rests_after (e ∷ []) m2 m3 same_one outcome

        -- the history with the new entry is legal
        legal_one : IsLegal step start (found ++ e ∷ [])
        legal_one =
            let was : p.home.object ≡ replay step start found = ap (λ (h : Home S). h.object) (same_home rest.only m1 t p.home p.out) ∙ found_object rest.only m1 t in
            legal-append step start found (e ∷ []) (found_legal rest.only m1 t) (p.answer ∙ ap (λ s. (step s cmd).1) was, tt)

        -- after a call with one entry, the pass has added it to the whole history
        pub adds_one : (port port' : TableId) → port' ≡ port → Adds step start (e ∷ []) (pass_view port who made m0) (pass_view port' who (made + 1) m3)
        adds_one port port' same_port =
            adds_after (e ∷ []) m2 m3 same_one outcome port port' same_port legal_one (All-cons (λ (e : Entry C R). e.who ≡ who) e [] refl (All-nil (λ (e : Entry C R). e.who ≡ who)))
