-- What J1 needs of a handshake: WRITE* is driven as the strobes fall, and the data lines that count are driven.
use Rattle.std.proofs.Common.{◌≡◌, ℕ, suc, ◌+◌, ◌-◌, ◌%◌, ◌==◌, Bool, true, false, nat_eq, not, ◌&&◌, if◌then◌else◌, List, length, refl, ap, sym, subst, ◌∙◌, arith}
use Rattle.std.specs.Prelude.{nat_le}
use Rattle.std.proofs.lemmas.Bool.{false≢true}
use Rattle.vme_lanes.specs.declared.location.Location.{Location}
use Rattle.vme_script.specs.Configurations.{Configuration}
use Rattle.vme_protocol.specs.declared.transfer.Transfer.{Transfer}
use Rattle.vme_protocol.specs.Lines.{counted_lines, meet}
use Rattle.vme_trace.specs.declared.observation.Observation.{Observation}
use Rattle.vme_trace.specs.declared.dump.change.Value.{Value}
use Rattle.vme_trace.specs.declared.dump.change.Value.TheVariants.{Number, Lanes}
use Rattle.vme_trace.specs.declared.dump.variable.Variable.TheVariants.{AddressLines, LongWord, DataLines}
use Rattle.vme_trace.specs.declared.dump.handshake.Handshake.{Handshake}
use Rattle.vme_trace.specs.Changes.{level_of}
use Rattle.vme_trace.specs.Variables.{bus_code}
use Rattle.vme_trace.specs.Bus.{is_wide, drive_edge, upper_number, lower_lanes, handshake_changes}
use Rattle.vme_trace.specs.Events.{event_changes}
use Rattle.vme_trace.specs.Shown.{value_after, value_at}
use Rattle.vme_trace_laws.proofs.lemmas.Waves.{HasOne, HasTwo, one_parts, two_parts}
use Rattle.vme_legal_traces.specs.Samples.{edge_sample, sample_of, value_shown}
use Rattle.vme_legal_traces.proofs.Covered.{Covers}
use Rattle.vme_legal_traces.proofs.Defined.{IsSeen, IsAnswer, meet_none, none_seen, one_seen, two_seen, early_clear, late_clear}
use Rattle.vme_legal_traces.proofs.Driving.{set_for, data_driven, address_driven, long_word_driven, driven_clear}
use Rattle.vme_legal_traces.proofs.Edges.{at_or, at_edge, either, both_of, choice_off, late_lines}
use Rattle.vme_legal_traces.proofs.Standing.{data_still}
use Rattle.vme_legal_traces.proofs.Windows.{Clear, one_window, first_window, second_window}

-- the edge at which an early handshake drives the data
early_drives : (t : Handshake) (write : Bool) → t.late ≡ false → t.lines.write ≡ write → drive_edge t ≡ (if write then 3 else 1)
early_drives t true early is = rw (is, early) refl
early_drives t false early is = rw (is, early) refl

-- that at which a late one does
late_drives : (u : Handshake) (write : Bool) → u.late ≡ true → u.lines.write ≡ write → drive_edge u ≡ (if write then 12 else 10)
late_drives u true late is = rw (is, late) refl
late_drives u false late is = rw (is, late) refl

-- the edges at which an early handshake drives data are in the first half of an event
early_half : (write : Bool) (k : ℕ) → early_clear write k ≡ true → nat_le 10 k ≡ false
early_half write k =
    let P : ℕ → Type 0 = λ j. nat_le 10 j ≡ false in
    at_or P 3 k _ refl (at_or P 4 k _ refl (at_or P 5 k _ refl (at_or P 6 k _ refl
    (λ rest. at_or P 1 k _ refl (at_edge P 2 k refl) (both_of (not write) _ rest).1))))

-- those of a late one are in the second
late_half : (write : Bool) (k : ℕ) → late_clear write k ≡ true → nat_le 10 k ≡ true
late_half write k =
    let P : ℕ → Type 0 = λ j. nat_le 10 j ≡ true in
    at_or P 12 k _ refl (at_or P 13 k _ refl (at_or P 14 k _ refl (at_or P 15 k _ refl
    (λ rest. at_or P 10 k _ refl (at_edge P 11 k refl) (both_of (not write) _ rest).1))))

module _ (config : Configuration) (events : List Observation) (o : Observation) where
  -- a variable of a cycle is driven at an edge
  abbrev Takes : ℕ → ℕ → Value → Type 0
  Takes x k to = (v : Value) → value_after (bus_code x) k (event_changes (length config.boards) (length events + 1) o) v ≡ to

  -- an event drives the lines of a handshake at an edge
  record Drives (t : Handshake) (k : ℕ) : Type 0 where
    lower : t.carries ≡ true → Takes 80 k (Lanes (lower_lanes t.lines.lanes))
    number : is_wide t ≡ true → Takes 75 k (Number 32 (upper_number t.lines.lanes - upper_number t.lines.lanes % 2))
    level : is_wide t ≡ true → Takes 76 k (level_of (upper_number t.lines.lanes % 2 == 1))

  -- a single handshake
  one_drives : (one : HasOne o) (k : ℕ) → drive_edge one.t ≡ k → Drives one.t k
  one_drives one k at = subst (Drives one.t) at (record {
    lower = λ is v. one_parts (bus_code 80) (length config.boards) (length events + 1) o one (record { number = 80; is = refl; past = omega arith }) _ v
        ∙ data_driven one.t v is;
    number = λ is v. one_parts (bus_code 75) (length config.boards) (length events + 1) o one (record { number = 75; is = refl; past = omega arith }) _ v
        ∙ address_driven one.t v is;
    level = λ is v. one_parts (bus_code 76) (length config.boards) (length events + 1) o one (record { number = 76; is = refl; past = omega arith }) _ v
        ∙ long_word_driven one.t v is;
  })

  -- the second of two
  second_drives : (two : HasTwo o) (k : ℕ) → drive_edge two.u ≡ k → Drives two.u k
  second_drives two k at = subst (Drives two.u) at (record {
    lower = λ is v. two_parts (bus_code 80) (length config.boards) (length events + 1) o two (record { number = 80; is = refl; past = omega arith }) _ v
        ∙ data_driven two.u _ is;
    number = λ is v. two_parts (bus_code 75) (length config.boards) (length events + 1) o two (record { number = 75; is = refl; past = omega arith }) _ v
        ∙ address_driven two.u _ is;
    level = λ is v. two_parts (bus_code 76) (length config.boards) (length events + 1) o two (record { number = 76; is = refl; past = omega arith }) _ v
        ∙ long_word_driven two.u _ is;
  })

  -- an edge of an early handshake is none of a late one
  apart : (u : Handshake) (write : Bool) → u.late ≡ true → (v : Value) → value_after (bus_code 80) (if write then 3 else 1) (handshake_changes u) v ≡ v
  apart u true late v = data_still 3 u v (late_lines u late 3 refl refl refl refl (choice_off u.lines.write 12 10 3 refl refl))
  apart u false late v = data_still 1 u v (late_lines u late 1 refl refl refl refl (choice_off u.lines.write 12 10 1 refl refl))

  -- the first of two, of data of at most four bytes
  first_drives : (two : HasTwo o) (write : Bool) → is_wide two.t ≡ false → two.t.lines.write ≡ write → Drives two.t (if write then 3 else 1)
  first_drives two write narrow is =
      let at = early_drives two.t write two.early is in
      record {
        lower = λ carries v. two_parts (bus_code 80) (length config.boards) (length events + 1) o two (record { number = 80; is = refl; past = omega arith })
            (if write then 3 else 1) v
            ∙ apart two.u write two.late _
            ∙ subst (λ (k : ℕ). value_after (bus_code 80) k (handshake_changes two.t) v ≡ Lanes (lower_lanes two.t.lines.lanes)) at (data_driven two.t v carries);
        number = λ wide. absurd (false≢true (sym narrow ∙ wide));
        level = λ wide. absurd (false≢true (sym narrow ∙ wide));
      }

  -- a code of eight-byte data
  wide_is : (a b wide : Bool) → b ≡ true → a ≡ wide → wide ≡ true → (a && b) ≡ true
  wide_is a b wide one two three = rw (one, two, three) refl

  -- so the lines that count for a location are driven
  drives_clear : (t : Handshake) (j : ℕ) (wide : Bool) (l : Location) → Drives t (suc j) → t.carries ≡ true → t.lines.am.wide ≡ wide → Covers wide l t.lines.lanes
      → Clear config events o (set_for wide l) (suc j)
  unfolding value_at
  drives_clear t j wide l drives carries code covers =
      driven_clear config events o (suc j) wide l t.lines.lanes (upper_number t.lines.lanes - upper_number t.lines.lanes % 2) (upper_number t.lines.lanes % 2 == 1)
      covers (drives.lower carries (value_shown config events o j DataLines))
      (λ is. let wide = wide_is t.lines.am.wide t.carries wide carries code is in
      (drives.number wide (value_shown config events o j AddressLines), drives.level wide (value_shown config events o j LongWord)))

  -- what the rule needs of a handshake whose first edge is the next to one, of lines of a set, and of transfers before its answer
  pub record IsCarried (set : ℕ) (write : Bool) (X : Transfer → Type 0) (k : ℕ) : Type 0 where
    pub driven : (edge_sample config events o (k + 2)).write_undefined ≡ false
    pub read : write ≡ true → Clear config events o set (k + 3)
    pub written : write ≡ false → Clear config events o set (k + 1)
    pub high : write ≡ true → (edge_sample config events o (k + 4)).write ≡ true
    pub lanes : (u : Transfer) → X u → IsAnswer set u (edge_sample config events o (k + 4))

  -- the same, of some set
  abbrev pub Carried : Bool → (Transfer → Type 0) → ℕ → Type 0
  Carried write X k = (set : ℕ) × IsCarried set write X k

  -- the lines of a set are driven from the edge at which a handshake drives data
  abbrev pub Clears : ℕ → Bool → ℕ → Type 0
  Clears set write k = (write ≡ true → Clear config events o set (k + 3)) × (write ≡ false → Clear config events o set (k + 1))

  -- those of a single handshake
  pub one_clears : (one : HasOne o) (wide : Bool) (l : Location) → one.t.late ≡ false → one.t.carries ≡ true → one.t.lines.am.wide ≡ wide
      → Covers wide l one.t.lines.lanes → Clears (set_for wide l) one.t.lines.write 0
  one_clears one wide l early carries code covers = (
    λ is. drives_clear one.t 2 wide l (one_drives one 3 (early_drives one.t true early is)) carries code covers,
    λ is. drives_clear one.t 0 wide l (one_drives one 1 (early_drives one.t false early is)) carries code covers,
  )

  -- those of the first of two, of data of at most four bytes
  pub first_clears : (two : HasTwo o) (wide : Bool) (l : Location) → wide ≡ false → two.t.carries ≡ true → two.t.lines.am.wide ≡ wide
      → Covers wide l two.t.lines.lanes → Clears (set_for wide l) two.t.lines.write 0
  first_clears two wide l narrow carries code covers =
      let plain : is_wide two.t ≡ false = ap (λ (b : Bool). b && two.t.carries) (code ∙ narrow) in (
        λ is. drives_clear two.t 2 wide l (first_drives two true plain is) carries code covers,
        λ is. drives_clear two.t 0 wide l (first_drives two false plain is) carries code covers,
      )

  -- those of the second
  pub second_clears : (two : HasTwo o) (wide : Bool) (l : Location) → two.u.carries ≡ true → two.u.lines.am.wide ≡ wide → Covers wide l two.u.lines.lanes
      → Clears (set_for wide l) two.u.lines.write 9
  second_clears two wide l carries code covers = (
    λ is. drives_clear two.u 11 wide l (second_drives two 12 (late_drives two.u true two.late is)) carries code covers,
    λ is. drives_clear two.u 9 wide l (second_drives two 10 (late_drives two.u false two.late is)) carries code covers,
  )

  module _ (write : Bool) (X : Transfer → Type 0) (k : ℕ) (driven : (edge_sample config events o (k + 2)).write_undefined ≡ false)
      (high : write ≡ true → (edge_sample config events o (k + 4)).write ≡ true) where
    -- the lines that count are driven
    pub full_carried : (set : ℕ) → Clears set write k → ((u : Transfer) → X u → IsAnswer set u (edge_sample config events o (k + 4))) → Carried write X k
    full_carried set clears lanes = (set, record { driven = driven; read = clears.0; written = clears.1; high = high; lanes = lanes })

    -- no lines count
    pub none_carried : ((u : Transfer) → X u → IsAnswer 0 u (edge_sample config events o (k + 4))) → Carried write X k
    none_carried lanes = full_carried 0 (λ is. meet_none (edge_sample config events o (k + 3)).lines_undefined, λ is. meet_none (edge_sample config events o (k + 1)).lines_undefined) lanes

  -- AM and the lines that count with it are driven in a sample
  abbrev pub IsNamed : ℕ → Type 0
  IsNamed k =
      let s = edge_sample config events o k in (s.am_undefined ≡ false) × (meet s.lines_undefined (counted_lines s.am) ≡ false)

  -- the samples of an event without a handshake
  pub none_seen_is : IsSeen (λ late. 0) none_seen (edge_sample config events o)
  unfolding sample_of
  none_seen_is = record {
    undefined = λ k. refl;
    named = λ k is. absurd (cc is);
    driven = λ k is. absurd (cc is);
    clear = λ k is. absurd (cc is);
    high = λ k is. absurd (cc is);
  }

  -- those of an event with one
  pub one_seen_is : (one : HasOne o) (X : Transfer → Type 0) (set : ℕ) → one.t.late ≡ false → (one.t.opens ≡ true → IsNamed 1)
      → IsCarried set one.t.lines.write X 0 → IsSeen (λ late. set) (one_seen one.t.opens one.t.lines.write) (edge_sample config events o)
  unfolding sample_of
  one_seen_is one X set early named own = record {
    undefined = λ k. refl;
    named = λ k is. let parts = both_of one.t.opens (nat_eq k 1) is in at_edge IsNamed 1 k (named parts.0) parts.1;
    driven = λ k is. at_edge (λ j. (edge_sample config events o j).write_undefined ≡ false) 2 k own.driven is;
    clear = one_window config events o set one early own.read own.written;
    high = λ k is. let parts = both_of one.t.lines.write (nat_eq k 4) is in
        at_edge (λ j. (edge_sample config events o j).write ≡ true) 4 k (own.high parts.0) parts.1;
  }

  -- those of an event with two
  pub two_seen_is : (two : HasTwo o) (X Y : Transfer → Type 0) (set set' : ℕ) → (two.t.opens ≡ true → IsNamed 1) → IsCarried set two.t.lines.write X 0
      → IsCarried set' two.u.lines.write Y 9
      → IsSeen (λ late. if late then set' else set) (two_seen two.t.opens two.t.lines.write two.u.lines.write) (edge_sample config events o)
  unfolding sample_of
  two_seen_is two X Y set set' named own own' = record {
    undefined = λ k. refl;
    named = λ k is. let parts = both_of two.t.opens (nat_eq k 1) is in at_edge IsNamed 1 k (named parts.0) parts.1;
    driven = λ k is. at_or (λ j. (edge_sample config events o j).write_undefined ≡ false) 2 k _ own.driven
        (at_edge (λ j. (edge_sample config events o j).write_undefined ≡ false) 11 k own'.driven) is;
    clear = λ k is. either (early_clear two.t.lines.write k) (late_clear two.u.lines.write k) _
        (λ early. ap (λ (b : Bool). meet (if b then set' else set) (edge_sample config events o k).lines_undefined) (early_half two.t.lines.write k early)
        ∙ first_window config events o set two own.read own.written k early)
        (λ late. ap (λ (b : Bool). meet (if b then set' else set) (edge_sample config events o k).lines_undefined) (late_half two.u.lines.write k late)
        ∙ second_window config events o set' two own'.read own'.written k late) is;
    high = λ k is. either (two.t.lines.write && nat_eq k 4) (two.u.lines.write && nat_eq k 13) _
        (λ is. let parts = both_of two.t.lines.write (nat_eq k 4) is in
        at_edge (λ j. (edge_sample config events o j).write ≡ true) 4 k (own.high parts.0) parts.1)
        (λ is. let parts = both_of two.u.lines.write (nat_eq k 13) is in
        at_edge (λ j. (edge_sample config events o j).write ≡ true) 13 k (own'.high parts.0) parts.1) is;
  }
