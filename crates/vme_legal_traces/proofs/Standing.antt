-- The lines of address and data stand at the edges at which nothing drives or releases them.
use Rattle.std.proofs.Common.{◌≡◌, ℕ, suc, ◌+◌, ◌-◌, ◌*◌, ◌^◌, ◌%◌, ◌==◌, ◌<◌, if◌then◌else◌, Bool, true, false, nat_eq, List, ◌++◌, length, refl, ap, ◌∙◌, arith}
use Rattle.vme_script.specs.Configurations.{Configuration}
use Rattle.vme_trace.specs.declared.observation.Observation.{Observation}
use Rattle.vme_trace.specs.declared.dump.change.Code.{Code}
use Rattle.vme_trace.specs.declared.dump.change.Change.{Change}
use Rattle.vme_trace.specs.declared.dump.change.Value.{Value}
use Rattle.vme_trace.specs.declared.dump.change.Value.TheVariants.{Low, Free, Released, Number, Lanes}
use Rattle.vme_trace.specs.declared.dump.handshake.Handshake.{Handshake}
use Rattle.vme_trace.specs.declared.dump.variable.Variable.TheVariants.{AddressLines, LongWord, WriteLine, DataLines}
use Rattle.vme_trace.specs.Changes.{level_of, change_if, no_lanes}
use Rattle.vme_trace.specs.Variables.{bus_code}
use Rattle.vme_trace.specs.Handshakes.{edge_of}
use Rattle.vme_trace.specs.Bus.{is_wide, address_number, drive_edge, upper_number, lower_lanes, upper_lanes, address_strobe_changes, address_changes, level_changes, data_strobe_changes, data_changes, handshake_changes}
use Rattle.vme_trace.specs.Events.{event_changes}
use Rattle.vme_trace.specs.Shown.{is_code, value_after, value_at}
use Rattle.vme_trace_laws.proofs.lemmas.Waves.{HasOne, HasTwo, other, last_other, own, last_own, silent, after_append, level_line, address_strobe_quiet, address_quiet, address_level_quiet, level_quiet, data_strobe_quiet, data_quiet, answer_quiet, one_parts, two_parts}
use Rattle.vme_legal_traces.specs.Samples.{is_high, is_free, free_lanes, number_of, bit_of, lanes_of, data_number, edge_sample, sample_of, value_shown}

-- at an edge a handshake moves no line of address or data
pub record IsStill (t : Handshake) (k : ℕ) : Type 0 where
  pub begin : nat_eq 0 k ≡ false
  pub second : nat_eq 10 k ≡ false
  pub driven : nat_eq (drive_edge t) k ≡ false
  pub released : nat_eq (edge_of t 7) k ≡ false
  pub ended : nat_eq (edge_of t 9) k ≡ false

-- a change at another edge
skip : (line : Code) (k : ℕ) (b : Bool) (e : ℕ) (v : Value) (rest : List Change) (before : Value) → is_code line line ≡ true → nat_eq e k ≡ false
    → value_after line k (change_if b e line v ++ rest) before ≡ value_after line k rest before
skip line k false e v rest before same off = own line k false e v rest before same
skip line k true e v rest before same off = own line k true e v rest before same ∙ rw off refl

-- the last change, at another edge
skip_last : (line : Code) (k : ℕ) (b : Bool) (e : ℕ) (v : Value) (before : Value) → is_code line line ≡ true → nat_eq e k ≡ false
    → value_after line k (change_if b e line v) before ≡ before
skip_last line k false e v before same off = last_own line k false e v before same
skip_last line k true e v before same off = last_own line k true e v before same ∙ rw off refl

-- A31 to A01, by their own changes
address_own : (k : ℕ) (t : Handshake) (v : Value) → IsStill t k → value_after (bus_code 75) k (address_changes t) v ≡ v
unfolding address_changes
address_own k t v s =
    skip (bus_code 75) k t.opens 0 (Number 32 (address_number t.lines)) _ v refl s.begin
    ∙ (skip (bus_code 75) k t.clears 10 Released _ v refl s.second
    ∙ (skip (bus_code 75) k (is_wide t) (drive_edge t) (Number 32 (upper_number t.lines.lanes - upper_number t.lines.lanes % 2)) _ v refl s.driven
    ∙ (skip (bus_code 75) k (is_wide t) (edge_of t 7) Released _ v refl s.released
    ∙ (skip_last (bus_code 75) k t.ends (edge_of t 9) Released v refl s.ended))))

-- A31 to A01 stand
address_still : (k : ℕ) (t : Handshake) (v : Value) → IsStill t k → value_after (bus_code 75) k (handshake_changes t) v ≡ v
unfolding handshake_changes
address_still k t v s =
    silent (bus_code 75) k (address_strobe_changes t) _ v (address_strobe_quiet (bus_code 75) k t v refl refl)
    ∙ (after_append (bus_code 75) k (address_changes t) _ v
    ∙ (silent (bus_code 75) k (level_changes t) _ _ (level_quiet (bus_code 75) k t _ refl refl)
    ∙ (silent (bus_code 75) k (data_strobe_changes t) _ _ (data_strobe_quiet (bus_code 75) k t _ refl refl)
    ∙ (silent (bus_code 75) k (data_changes t) _ _ (data_quiet (bus_code 75) k t _ refl refl)
    ∙ (answer_quiet (bus_code 75) k t _ refl refl)))))
    ∙ address_own k t v s

-- a line that shows a level with the address
level_own : (x k : ℕ) (t : Handshake) (level bit : Bool) (v : Value) → is_code (bus_code x) (bus_code x) ≡ true → IsStill t k
    → value_after (bus_code x) k (level_line t x level bit) v ≡ v
level_own x k t level bit v same s =
    skip (bus_code x) k t.opens 0 (level_of level) _ v same s.begin
    ∙ (skip (bus_code x) k t.clears 10 Free _ v same s.second
    ∙ (skip (bus_code x) k (is_wide t) (drive_edge t) (level_of bit) _ v same s.driven
    ∙ (skip (bus_code x) k (is_wide t) (edge_of t 7) Free _ v same s.released
    ∙ (skip_last (bus_code x) k t.ends (edge_of t 9) Free v same s.ended))))

-- LWORD*, by its own changes
long_word_own : (k : ℕ) (t : Handshake) (v : Value) → IsStill t k → value_after (bus_code 76) k (level_changes t) v ≡ v
unfolding level_changes
long_word_own k t v s =
    after_append (bus_code 76) k (level_line t 76 t.lines.strobes.lword (upper_number t.lines.lanes % 2 == 1)) _ v
    ∙ (other (bus_code 76) 77 k t.opens 0 (level_of t.lines.write) _ _ refl
    ∙ (other (bus_code 76) 77 k t.falls 10 Low _ _ refl
    ∙ (last_other (bus_code 76) 77 k t.ends (edge_of t 9) Free _ refl)))
    ∙ level_own 76 k t _ _ v refl s

-- LWORD* stands
long_word_still : (k : ℕ) (t : Handshake) (v : Value) → IsStill t k → value_after (bus_code 76) k (handshake_changes t) v ≡ v
unfolding handshake_changes
long_word_still k t v s =
    silent (bus_code 76) k (address_strobe_changes t) _ v (address_strobe_quiet (bus_code 76) k t v refl refl)
    ∙ (silent (bus_code 76) k (address_changes t) _ v (address_quiet (bus_code 76) k t v refl)
    ∙ (after_append (bus_code 76) k (level_changes t) _ v
    ∙ (silent (bus_code 76) k (data_strobe_changes t) _ _ (data_strobe_quiet (bus_code 76) k t _ refl refl)
    ∙ (silent (bus_code 76) k (data_changes t) _ _ (data_quiet (bus_code 76) k t _ refl refl)
    ∙ (answer_quiet (bus_code 76) k t _ refl refl)))))
    ∙ long_word_own k t v s

-- an edge at which WRITE* does not move
pub record KeepsLevel (t : Handshake) (k : ℕ) : Type 0 where
  pub begin : nat_eq 0 k ≡ false
  pub second : nat_eq 10 k ≡ false
  pub ended : nat_eq (edge_of t 9) k ≡ false

-- WRITE*, by its own changes
write_own : (k : ℕ) (t : Handshake) (v : Value) → KeepsLevel t k → value_after (bus_code 77) k (level_changes t) v ≡ v
unfolding level_changes
write_own k t v s =
    silent (bus_code 77) k (level_line t 76 t.lines.strobes.lword (upper_number t.lines.lanes % 2 == 1)) _ v (address_level_quiet (bus_code 77) 76 k t _ _ v refl)
    ∙ (skip (bus_code 77) k t.opens 0 (level_of t.lines.write) _ v refl s.begin
    ∙ (skip (bus_code 77) k t.falls 10 Low _ v refl s.second
    ∙ (skip_last (bus_code 77) k t.ends (edge_of t 9) Free v refl s.ended)))

-- WRITE* stands
write_still : (k : ℕ) (t : Handshake) (v : Value) → KeepsLevel t k → value_after (bus_code 77) k (handshake_changes t) v ≡ v
unfolding handshake_changes
write_still k t v s =
    silent (bus_code 77) k (address_strobe_changes t) _ v (address_strobe_quiet (bus_code 77) k t v refl refl)
    ∙ (silent (bus_code 77) k (address_changes t) _ v (address_quiet (bus_code 77) k t v refl)
    ∙ (after_append (bus_code 77) k (level_changes t) _ v
    ∙ (silent (bus_code 77) k (data_strobe_changes t) _ _ (data_strobe_quiet (bus_code 77) k t _ refl refl)
    ∙ (silent (bus_code 77) k (data_changes t) _ _ (data_quiet (bus_code 77) k t _ refl refl)
    ∙ (answer_quiet (bus_code 77) k t _ refl refl)))))
    ∙ write_own k t v s

-- D31 to D00, by their own changes
data_own : (k : ℕ) (t : Handshake) (v : Value) → IsStill t k → value_after (bus_code 80) k (data_changes t) v ≡ v
unfolding data_changes
data_own k t v s =
    skip (bus_code 80) k t.carries (drive_edge t) (Lanes (lower_lanes t.lines.lanes)) _ v refl s.driven
    ∙ (skip (bus_code 80) k t.carries (edge_of t 7) no_lanes _ v refl s.released
    ∙ (other (bus_code 80) 81 k (is_wide t) (drive_edge t) (Lanes (upper_lanes t.lines.lanes)) _ v refl
    ∙ (last_other (bus_code 80) 81 k (is_wide t) (edge_of t 7) no_lanes v refl)))

-- D31 to D00 stand
pub data_still : (k : ℕ) (t : Handshake) (v : Value) → IsStill t k → value_after (bus_code 80) k (handshake_changes t) v ≡ v
unfolding handshake_changes
data_still k t v s =
    silent (bus_code 80) k (address_strobe_changes t) _ v (address_strobe_quiet (bus_code 80) k t v refl refl)
    ∙ (silent (bus_code 80) k (address_changes t) _ v (address_quiet (bus_code 80) k t v refl)
    ∙ (silent (bus_code 80) k (level_changes t) _ v (level_quiet (bus_code 80) k t v refl refl)
    ∙ (silent (bus_code 80) k (data_strobe_changes t) _ v (data_strobe_quiet (bus_code 80) k t v refl refl)
    ∙ (after_append (bus_code 80) k (data_changes t) _ v
    ∙ (answer_quiet (bus_code 80) k t _ refl refl)))))
    ∙ data_own k t v s

-- WRITE* at edge 0 of a late handshake, by its own changes
write_zero_own : (u : Handshake) (v : Value) → u.opens ≡ false → u.late ≡ true → value_after (bus_code 77) 0 (level_changes u) v ≡ v
unfolding level_changes
write_zero_own u v none late =
    silent (bus_code 77) 0 (level_line u 76 u.lines.strobes.lword (upper_number u.lines.lanes % 2 == 1)) _ v (address_level_quiet (bus_code 77) 76 0 u _ _ v refl)
    ∙ (own (bus_code 77) 0 u.opens 0 (level_of u.lines.write) _ v refl
    ∙ rw none (skip (bus_code 77) 0 u.falls 10 Low _ v refl refl ∙ skip_last (bus_code 77) 0 u.ends (edge_of u 9) Free v refl (rw late refl)))

-- WRITE* stands at edge 0 of a late handshake
pub write_zero : (u : Handshake) (v : Value) → u.opens ≡ false → u.late ≡ true → value_after (bus_code 77) 0 (handshake_changes u) v ≡ v
unfolding handshake_changes
write_zero u v none late =
    silent (bus_code 77) 0 (address_strobe_changes u) _ v (address_strobe_quiet (bus_code 77) 0 u v refl refl)
    ∙ (silent (bus_code 77) 0 (address_changes u) _ v (address_quiet (bus_code 77) 0 u v refl)
    ∙ (after_append (bus_code 77) 0 (level_changes u) _ v
    ∙ (silent (bus_code 77) 0 (data_strobe_changes u) _ _ (data_strobe_quiet (bus_code 77) 0 u _ refl refl)
    ∙ (silent (bus_code 77) 0 (data_changes u) _ _ (data_quiet (bus_code 77) 0 u _ refl refl)
    ∙ (answer_quiet (bus_code 77) 0 u _ refl refl)))))
    ∙ write_zero_own u v none late

-- the lines that nothing drives, by three values
abbrev lines_free_by : Value → Value → Value → ℕ
lines_free_by a l d = ((if is_free a then 0xfffffffe else 0) + (if is_free l then 1 else 0)) * 2 ^ 32 + free_lanes (lanes_of d)

module _ (config : Configuration) (events : List Observation) (o : Observation) where
  -- a line of a cycle that no handshake of the event moves at an edge
  abbrev pub StandsAt : ℕ → ℕ → Type 0
  StandsAt x k =
      (v : Value) → value_after (bus_code x) k (event_changes (length config.boards) (length events + 1) o) v ≡ v

  -- a line in an event with one handshake
  one_stands : (x : ℕ) → 72 < x → (P : Handshake → ℕ → Type 0)
      → ((k : ℕ) (t : Handshake) (v : Value) → P t k → value_after (bus_code x) k (handshake_changes t) v ≡ v)
      → (one : HasOne o) (k : ℕ) → P one.t k → StandsAt x k
  one_stands x past P each one k still v =
      one_parts (bus_code x) (length config.boards) (length events + 1) o one (record { number = x; is = refl; past = past }) k v ∙ each k one.t v still

  -- a line in an event with two
  two_stands : (x : ℕ) → 72 < x → (P : Handshake → ℕ → Type 0)
      → ((k : ℕ) (t : Handshake) (v : Value) → P t k → value_after (bus_code x) k (handshake_changes t) v ≡ v)
      → (two : HasTwo o) (k : ℕ) → P two.t k → P two.u k → StandsAt x k
  two_stands x past P each two k still still' v =
      two_parts (bus_code x) (length config.boards) (length events + 1) o two (record { number = x; is = refl; past = past }) k v
      ∙ ap (value_after (bus_code x) k (handshake_changes two.u)) (each k two.t v still)
      ∙ each k two.u v still'

  -- WRITE* of the samples stands
  pub write_same : (k : ℕ) → StandsAt 77 (suc k) → (edge_sample config events o (suc k)).write ≡ (edge_sample config events o k).write
  unfolding sample_of value_at
  write_same k stands = ap is_high (stands (value_shown config events o k WriteLine))

  -- and is driven, if it was
  write_free_same : (k : ℕ) → StandsAt 77 (suc k) → (edge_sample config events o (suc k)).write_undefined ≡ (edge_sample config events o k).write_undefined
  unfolding sample_of value_at
  write_free_same k stands = ap is_free (stands (value_shown config events o k WriteLine))

  -- the lines of the samples stand
  pub lines_same : (k : ℕ) → StandsAt 75 (suc k) → StandsAt 76 (suc k) → StandsAt 80 (suc k)
      → (edge_sample config events o (suc k)).lines ≡ (edge_sample config events o k).lines
  unfolding sample_of value_at
  lines_same k address level lanes =
      let a : Value = value_shown config events o k AddressLines in
      let l : Value = value_shown config events o k LongWord in
      let d : Value = value_shown config events o k DataLines in
      ap (λ (v : Value). (number_of v + bit_of (value_shown config events o (suc k) LongWord)) * 2 ^ 32
      + data_number (lanes_of (value_shown config events o (suc k) DataLines))) (address a)
      ∙ ap (λ (v : Value). (number_of a + bit_of v) * 2 ^ 32 + data_number (lanes_of (value_shown config events o (suc k) DataLines))) (level l)
      ∙ ap (λ (v : Value). (number_of a + bit_of l) * 2 ^ 32 + data_number (lanes_of v)) (lanes d)

  -- those that nothing drives stand too
  pub undefined_same : (k : ℕ) → StandsAt 75 (suc k) → StandsAt 76 (suc k) → StandsAt 80 (suc k)
      → (edge_sample config events o (suc k)).lines_undefined ≡ (edge_sample config events o k).lines_undefined
  unfolding sample_of value_at
  undefined_same k address level lanes =
      let a : Value = value_shown config events o k AddressLines in
      let l : Value = value_shown config events o k LongWord in
      let d : Value = value_shown config events o k DataLines in
      ap (λ (v : Value). lines_free_by v (value_shown config events o (suc k) LongWord) (value_shown config events o (suc k) DataLines)) (address a)
      ∙ ap (λ (v : Value). lines_free_by a v (value_shown config events o (suc k) DataLines)) (level l)
      ∙ ap (λ (v : Value). lines_free_by a l v) (lanes d)

  -- WRITE* of an event with one handshake
  pub one_write : (one : HasOne o) (k : ℕ) → KeepsLevel one.t (suc k) → (edge_sample config events o (suc k)).write ≡ (edge_sample config events o k).write
  one_write one k still = write_same k (one_stands 77 (omega arith) KeepsLevel write_still one (suc k) still)

  -- WRITE* of an event with two
  pub two_write : (two : HasTwo o) (k : ℕ) → KeepsLevel two.t (suc k) → KeepsLevel two.u (suc k)
      → (edge_sample config events o (suc k)).write ≡ (edge_sample config events o k).write
  two_write two k still still' = write_same k (two_stands 77 (omega arith) KeepsLevel write_still two (suc k) still still')

  -- and whether it is driven
  pub two_write_free : (two : HasTwo o) (k : ℕ) → KeepsLevel two.t (suc k) → KeepsLevel two.u (suc k)
      → (edge_sample config events o (suc k)).write_undefined ≡ (edge_sample config events o k).write_undefined
  two_write_free two k still still' = write_free_same k (two_stands 77 (omega arith) KeepsLevel write_still two (suc k) still still')

  -- the lines of an event with one handshake
  pub one_lines : (one : HasOne o) (k : ℕ) → IsStill one.t (suc k) → (edge_sample config events o (suc k)).lines ≡ (edge_sample config events o k).lines
  one_lines one k still =
      lines_same k (one_stands 75 (omega arith) IsStill address_still one (suc k) still)
      (one_stands 76 (omega arith) IsStill long_word_still one (suc k) still)
      (one_stands 80 (omega arith) IsStill data_still one (suc k) still)

  -- the lines of an event with two
  pub two_lines : (two : HasTwo o) (k : ℕ) → IsStill two.t (suc k) → IsStill two.u (suc k)
      → (edge_sample config events o (suc k)).lines ≡ (edge_sample config events o k).lines
  two_lines two k still still' =
      lines_same k (two_stands 75 (omega arith) IsStill address_still two (suc k) still still')
      (two_stands 76 (omega arith) IsStill long_word_still two (suc k) still still')
      (two_stands 80 (omega arith) IsStill data_still two (suc k) still still')

  -- those that nothing drives, of an event with one handshake
  pub one_undefined : (one : HasOne o) (k : ℕ) → IsStill one.t (suc k)
      → (edge_sample config events o (suc k)).lines_undefined ≡ (edge_sample config events o k).lines_undefined
  one_undefined one k still =
      undefined_same k (one_stands 75 (omega arith) IsStill address_still one (suc k) still)
      (one_stands 76 (omega arith) IsStill long_word_still one (suc k) still)
      (one_stands 80 (omega arith) IsStill data_still one (suc k) still)

  -- and of an event with two
  pub two_undefined : (two : HasTwo o) (k : ℕ) → IsStill two.t (suc k) → IsStill two.u (suc k)
      → (edge_sample config events o (suc k)).lines_undefined ≡ (edge_sample config events o k).lines_undefined
  two_undefined two k still still' =
      undefined_same k (two_stands 75 (omega arith) IsStill address_still two (suc k) still still')
      (two_stands 76 (omega arith) IsStill long_word_still two (suc k) still still')
      (two_stands 80 (omega arith) IsStill data_still two (suc k) still still')
