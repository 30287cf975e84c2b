-- The report's entries for the boards, one by one.
use Rattle.std.proofs.Common.{◌≡◌, ℕ, ◌<◌, ◌≤◌, List, [], ◌∷◌, ◌++◌, length, slice_index_or, set, vec_len, vec_capacity, All, refl, ap, sym, subst, ◌∙◌, arith}
use Rattle.std.specs.Global.{Vec}
use Rattle.std.proofs.lemmas.List.{append-nil, append_assoc, get_or_default, get_or-set_other, length-set, length-append}
use Rattle.std.proofs.Math.Seq.{get_or-append_seam}
use Rattle.vme_object.specs.Each.{AllAt}
use Rattle.vme_object.proofs.lemmas.Eachs.{AllAt-push}
use Rattle.vme_port.specs.declared.home.Home.{Home}
use Rattle.vme_bus_objects.specs.declared.object.BusObject.{BusObject}
use Rattle.vme_threads.specs.declared.report.BoardReport.{BoardReport}
use Rattle.vme_threads.specs.RunBuffers.{AreForCounts}
use Rattle.vme_threads.specs.Gatherings.{IsBoardHome, IsEntryOfHome}
use Rattle.vme_threads.proofs.Places.{nil_of}

-- the report's entries for boards, by the boards after the array was settled
abbrev pub AreEntries : List (Vec ℕ) → List ℕ → List (Home BusObject) → List BoardReport → Type 0
AreEntries counts slots homes ends =
    AllAt (λ x home end. (d : ℕ) → IsEntryOfHome counts x (slice_index_or slots x d) home end) homes ends

-- the first boards have their entries in the report, and the buffers for the other boards are unchanged
pub record HaveEntries (counts : List (Vec ℕ)) (slots : List ℕ) (all left : List (Home BusObject)) (old now : List (Vec ℕ))
    (ends : List BoardReport) :
    Type 0 where
  pub taken : List (Home BusObject)
  pub split : all ≡ taken ++ left
  pub count : length now ≡ length old
  pub entries : AreEntries counts slots taken ends
  pub later : (x : ℕ) (c d : Vec ℕ) → length taken ≤ x → x < length old → slice_index_or now x c ≡ slice_index_or old x d

-- at first, no board has its entry
pub entries_begin :
    (counts : List (Vec ℕ)) (slots : List ℕ) (all left : List (Home BusObject)) (old : List (Vec ℕ)) (ends : List BoardReport)
    → left ≡ all → length ends ≡ 0
    → HaveEntries counts slots all left old old ends
entries_begin counts slots all left old ends whole none = record {
  taken = [];
  split = sym whole;
  count = refl;
  entries = record { count = none; each = λ x home end x<. absurd (omega arith) };
  later = λ x c d x≥ x<. get_or_default old x c d x<;
}

-- the next board is at the index after the boards that have their entries
home_here :
    (all taken : List (Home BusObject)) (home : Home BusObject) (left : List (Home BusObject)) → all ≡ taken ++ home ∷ left
    → (slice_index_or all (length taken) home ≡ home) × (length taken < length all)
home_here all taken home left split =
    let whole = ap length split ∙ length-append taken (home ∷ left) in
    (ap (λ hs. slice_index_or hs (length taken) home) split ∙ get_or-append_seam taken home left home, omega arith)

module _
    (counts : List (Vec ℕ)) (slots : List ℕ) (all left rest : List (Home BusObject)) (old now : List (Vec ℕ))
    (ends : List BoardReport) (home : Home BusObject)
    (have : HaveEntries counts slots all left old now ends) (step : left ≡ home ∷ rest) where
  -- all boards are those that have their entries, the next board and the rest
  split : all ≡ have.taken ++ home ∷ rest
  split = have.split ∙ ap (λ hs. have.taken ++ hs) step

  -- there are fewer entries than boards
  pub fewer_entries : length ends < length all
  fewer_entries = let here = home_here all have.taken home rest split in omega (arith, here.1, have.entries.count)

  -- the next object is a board
  pub next_is_board : All IsBoardHome all → IsBoardHome home
  next_is_board boards =
      let here = home_here all have.taken home rest split in
      subst IsBoardHome here.0 (boards (length have.taken) home here.1)

  -- the buffer for the next board is unchanged: it is empty and has capacity for the counts
  pub next_buffer : (k n : ℕ) (buffer : Vec ℕ) → AreForCounts k old → length all ≤ length old → n ≡ length ends
      → buffer ≡ slice_index_or now n buffer → (vec_len buffer ≡ 0) × (k ≤ vec_capacity buffer)
  next_buffer k n buffer buffers within at is =
      let here = home_here all have.taken home rest split in
      let below : n < length old = omega (arith, at, have.entries.count, here.1, within) in
      let same : buffer ≡ slice_index_or old n buffer =
      is ∙ have.later n buffer buffer (omega (arith, at, have.entries.count)) below in
      subst (λ (b : Vec ℕ). (vec_len b ≡ 0) × (k ≤ vec_capacity b)) (sym same) (buffers n buffer below)

  -- one more board has its entry
  pub entries_more :
      (n slot : ℕ) (end : BoardReport) (buffer : Vec ℕ) (new : List BoardReport) → n ≡ length ends
      → ((d : ℕ) → slot ≡ slice_index_or slots n d) → IsEntryOfHome counts n slot home end → new ≡ ends ++ end ∷ []
      → HaveEntries counts slots all rest old (set now n buffer) new
  entries_more n slot end buffer new at slot_is entry is =
      let P =
      λ (x : ℕ) (home : Home BusObject) (end : BoardReport). (d : ℕ)
      → IsEntryOfHome counts x (slice_index_or slots x d) home end in
      let place : n ≡ length have.taken = at ∙ have.entries.count in
      let here : P (length have.taken) home end =
      λ d. subst (λ x. IsEntryOfHome counts x (slice_index_or slots x d) home end) place
      (subst (λ s. IsEntryOfHome counts n s home end) (slot_is d) entry)
      in
      record {
        taken = have.taken ++ home ∷ [];
        split = split ∙ sym (append_assoc have.taken (home ∷ []) rest);
        count = length-set now n buffer ∙ have.count;
        entries =
            subst (AreEntries counts slots (have.taken ++ home ∷ [])) (sym is)
            (AllAt-push P have.taken ends home end have.entries here);
        later = λ x c d x≥ x<.
            let more = length-append have.taken (home ∷ []) in
            get_or-set_other now n x buffer c (omega (arith, more, x≥, place)) ∙ have.later x c d (omega (arith, more, x≥)) x<;
      }

-- all boards have their entries
pub entries_end :
    (counts : List (Vec ℕ)) (slots : List ℕ) (all left : List (Home BusObject)) (old now : List (Vec ℕ)) (ends : List BoardReport)
    → HaveEntries counts slots all left old now ends → length left ≡ 0 → AreEntries counts slots all ends
entries_end counts slots all left old now ends have none =
    let whole = have.split ∙ ap (λ hs. have.taken ++ hs) (nil_of left none) ∙ append-nil have.taken in
    subst (λ hs. AreEntries counts slots hs ends) (sym whole) have.entries
