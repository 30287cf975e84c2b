-- The lanes that carry the bytes of a datum are those that the rules of traces count for its location.
use Rattle.std.proofs.Common.{◌≡◌, ℕ, ◌+◌, ◌*◌, ◌/◌, ◌<◌, ◌≤◌, ◌==◌, Bool, true, false, if◌then◌else◌, List, [], ◌∷◌, length, slice_range, Option, Some, None, is_some, refl, ap, sym, ◌∙◌, arith}
use Rattle.std.specs.Prelude.{bit_and}
use Rattle.std.specs.List.{list_any}
use Rattle.std.proofs.lemmas.Bool.{and_parts, eqb-true}
use Rattle.std.proofs.lemmas.Grind.{common_steps}
use Rattle.std.proofs.lemmas.Nat.{div-add-mod', mul-le}
use Rattle.std.proofs.lemmas.Option.{same_Some}
use Rattle.vme_lanes.specs.declared.location.Location.{Location}
use Rattle.vme_lanes.specs.declared.location.Location.TheVariants.{Byte0, Byte1, Byte2, Byte3, Bytes01, Bytes23, Bytes03, Bytes02, Bytes13, Bytes12}
use Rattle.vme_lanes.specs.Rows.{row_of}
use Rattle.vme_lanes.specs.Lanes.{lanes_with, wide_lanes}
use Rattle.vme_cycle.specs.declared.request.Request.{Request}
use Rattle.vme_cycle.specs.declared.request.Request.TheVariants as requests
use Rattle.vme_cycle.specs.Requests.{datum_len, count_of, datum_of, is_counted}
use Rattle.vme_cycle.specs.SignalLines.{chosen_len, placed_lanes}
use Rattle.vme_protocol.specs.Lines.{lanes_of}
use Rattle.vme_trace.specs.Bus.{lower_lanes}
use Rattle.vme_legal_traces.specs.Samples.{free_lanes}
use Rattle.vme_legal_traces.proofs.Located.{some_bytes, product_next}

-- so many bytes
abbrev HasBytes : ℕ → List ℕ → Type 0
HasBytes n bytes = length bytes ≡ n

-- the bytes of a location are on the lanes that count for it
narrow_covers : (l : Location) (bytes : List ℕ) → HasBytes (row_of l).len bytes → bit_and (lanes_of l) (free_lanes (lower_lanes (lanes_with l bytes))) ≡ 0
narrow_covers l [] h = by_row l h
  where
    by_row : (l : Location) → 0 ≡ (row_of l).len → bit_and (lanes_of l) (free_lanes (lower_lanes (lanes_with l []))) ≡ 0
    by_row Byte0 h = absurd (cc h)
    by_row Byte1 h = absurd (cc h)
    by_row Byte2 h = absurd (cc h)
    by_row Byte3 h = absurd (cc h)
    by_row Bytes01 h = absurd (cc h)
    by_row Bytes23 h = absurd (cc h)
    by_row Bytes03 h = absurd (cc h)
    by_row Bytes02 h = absurd (cc h)
    by_row Bytes13 h = absurd (cc h)
    by_row Bytes12 h = absurd (cc h)
narrow_covers Byte0 (a ∷ []) h = refl
narrow_covers Byte0 (a ∷ b ∷ rest) h = absurd (omega (arith, h))
narrow_covers Byte1 (a ∷ []) h = refl
narrow_covers Byte1 (a ∷ b ∷ rest) h = absurd (omega (arith, h))
narrow_covers Byte2 (a ∷ []) h = refl
narrow_covers Byte2 (a ∷ b ∷ rest) h = absurd (omega (arith, h))
narrow_covers Byte3 (a ∷ []) h = refl
narrow_covers Byte3 (a ∷ b ∷ rest) h = absurd (omega (arith, h))
narrow_covers Bytes01 (a ∷ []) h = absurd (omega (arith, h))
narrow_covers Bytes01 (a ∷ b ∷ []) h = refl
narrow_covers Bytes01 (a ∷ b ∷ c ∷ rest) h = absurd (omega (arith, h))
narrow_covers Bytes23 (a ∷ []) h = absurd (omega (arith, h))
narrow_covers Bytes23 (a ∷ b ∷ []) h = refl
narrow_covers Bytes23 (a ∷ b ∷ c ∷ rest) h = absurd (omega (arith, h))
narrow_covers Bytes12 (a ∷ []) h = absurd (omega (arith, h))
narrow_covers Bytes12 (a ∷ b ∷ []) h = refl
narrow_covers Bytes12 (a ∷ b ∷ c ∷ rest) h = absurd (omega (arith, h))
narrow_covers Bytes02 (a ∷ []) h = absurd (omega (arith, h))
narrow_covers Bytes02 (a ∷ b ∷ []) h = absurd (omega (arith, h))
narrow_covers Bytes02 (a ∷ b ∷ c ∷ []) h = refl
narrow_covers Bytes02 (a ∷ b ∷ c ∷ d ∷ rest) h = absurd (omega (arith, h))
narrow_covers Bytes13 (a ∷ []) h = absurd (omega (arith, h))
narrow_covers Bytes13 (a ∷ b ∷ []) h = absurd (omega (arith, h))
narrow_covers Bytes13 (a ∷ b ∷ c ∷ []) h = refl
narrow_covers Bytes13 (a ∷ b ∷ c ∷ d ∷ rest) h = absurd (omega (arith, h))
narrow_covers Bytes03 (a ∷ []) h = absurd (omega (arith, h))
narrow_covers Bytes03 (a ∷ b ∷ []) h = absurd (omega (arith, h))
narrow_covers Bytes03 (a ∷ b ∷ c ∷ []) h = absurd (omega (arith, h))
narrow_covers Bytes03 (a ∷ b ∷ c ∷ d ∷ []) h = refl
narrow_covers Bytes03 (a ∷ b ∷ c ∷ d ∷ e ∷ rest) h = absurd (omega (arith, h))

-- eight bytes are on all lanes
wide_covers : (bytes : List ℕ) → HasBytes 8 bytes → free_lanes (lower_lanes (wide_lanes bytes)) ≡ 0
wide_covers [] h = absurd (cc h)
wide_covers (a ∷ []) h = absurd (omega (arith, h))
wide_covers (a ∷ b ∷ []) h = absurd (omega (arith, h))
wide_covers (a ∷ b ∷ c ∷ []) h = absurd (omega (arith, h))
wide_covers (a ∷ b ∷ c ∷ d ∷ []) h = absurd (omega (arith, h))
wide_covers (a ∷ b ∷ c ∷ d ∷ e ∷ []) h = absurd (omega (arith, h))
wide_covers (a ∷ b ∷ c ∷ d ∷ e ∷ f ∷ []) h = absurd (omega (arith, h))
wide_covers (a ∷ b ∷ c ∷ d ∷ e ∷ f ∷ g ∷ []) h = absurd (omega (arith, h))
wide_covers (a ∷ b ∷ c ∷ d ∷ e ∷ f ∷ g ∷ i ∷ []) h = refl
wide_covers (a ∷ b ∷ c ∷ d ∷ e ∷ f ∷ g ∷ i ∷ j ∷ rest) h = absurd (omega (arith, h))

-- some lane carries a byte
narrow_some : (l : Location) (a : ℕ) (rest : List ℕ) → list_any is_some (lanes_with l (a ∷ rest)) ≡ true
narrow_some Byte0 a rest = refl
narrow_some Byte1 a rest = refl
narrow_some Byte2 a rest = refl
narrow_some Byte3 a rest = refl
narrow_some Bytes01 a rest = refl
narrow_some Bytes23 a rest = refl
narrow_some Bytes03 a rest = refl
narrow_some Bytes02 a rest = refl
narrow_some Bytes13 a rest = refl
narrow_some Bytes12 a rest = refl

-- lanes carry the bytes that count for a location, all eight with a code of eight-byte data
abbrev pub Covers : Bool → Location → List (Option ℕ) → Type 0
Covers true l lanes = (list_any is_some lanes ≡ true) × (free_lanes (lower_lanes lanes) ≡ 0)
Covers false l lanes = (list_any is_some lanes ≡ true) × (bit_and (lanes_of l) (free_lanes (lower_lanes lanes)) ≡ 0)

-- the bytes of a datum cover its location
pub placed_covers : (wide : Bool) (l : Location) (bytes : List ℕ) (n : ℕ) → chosen_len wide l ≡ Some n → HasBytes n bytes → Covers wide l (placed_lanes wide l bytes)
placed_covers false l [] n chosen h =
    let len : (row_of l).len ≡ n = same_Some _ _ chosen in
    let some = some_bytes l in
    absurd (omega (arith, len, some, h))
placed_covers false l (a ∷ rest) n chosen h =
    let len : (row_of l).len ≡ n = same_Some _ _ chosen in (narrow_some l a rest, narrow_covers l (a ∷ rest) (h ∙ sym len))
placed_covers true l bytes n chosen h = by_four ((row_of l).len == 4) chosen
  where
    by_bytes : (bytes : List ℕ) → HasBytes 8 bytes → Covers true l (wide_lanes bytes)
    by_bytes [] h = absurd (cc h)
    by_bytes (a ∷ rest) h = (refl, wide_covers (a ∷ rest) h)

    by_four : (four : Bool) → (if four then Some 8 else None) ≡ Some n → Covers true l (wide_lanes bytes)
    by_four true chosen = let eight : 8 ≡ n = same_Some _ _ chosen in by_bytes bytes (h ∙ sym eight)
    by_four false chosen = absurd (cc chosen)

-- a datum of a block write is some of its bytes
cut_len : (bytes : List ℕ) (i n : ℕ) → i < length bytes / n → HasBytes n (slice_range bytes (i * n) (i * n + n))
cut_len bytes i n less =
    let whole = div-add-mod' (length bytes) n in
    let product : (i + 1) * n ≤ length bytes / n * n = mul-le (i + 1) n (length bytes / n) n (omega (arith, less)) (omega arith) in
    let next = product_next i n in
    let within : i * n + n ≤ length bytes = omega (arith, whole, product, next) in
    grind (arith, common_steps)

-- the bytes of a datum of a write
pub datum_bytes : (request : Request) (i : ℕ) (bytes : List ℕ) → is_counted request ≡ true → i < count_of request → datum_of request i ≡ Some bytes
    → HasBytes (datum_len request) bytes
datum_bytes (requests.Read am addr n) i bytes counted less is = absurd (cc is)
datum_bytes (requests.Write am addr new) i bytes counted less is = ap length (sym (same_Some _ _ is))
datum_bytes (requests.BlockRead am addr n count) i bytes counted less is = absurd (cc is)
datum_bytes (requests.BlockWrite am addr n new) i bytes counted less is = ap length (sym (same_Some _ _ is)) ∙ cut_len new.items i n less
datum_bytes (requests.BlockFill am addr n count new) i bytes counted less is =
    ap length (sym (same_Some _ _ is)) ∙ eqb-true (length new.items) n (and_parts _ _ counted).1
datum_bytes (requests.Modify am addr n f) i bytes counted less is = absurd (cc is)
