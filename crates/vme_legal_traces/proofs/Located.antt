-- Where the data of a lawful transfer are, as the rules of traces see it from the strobes and the address.
use Rattle.std.proofs.Common.{◌≡◌, ℕ, zero, suc, ◌+◌, ◌-◌, ◌*◌, ◌%◌, ◌^◌, ◌<◌, ◌≤◌, ◌==◌, Bool, true, false, ◌&&◌, if◌then◌else◌, Some, None, is_none, refl, ap, sym, ◌∙◌, arith}
use Rattle.std.specs.Prelude.{nat_le, nat_lt}
use Rattle.std.proofs.lemmas.Nat.{mul-le}
use Rattle.std.proofs.lemmas.Option.{same_Some}
use Rattle.vme_am.specs.declared.code.Space.{Space}
use Rattle.vme_am.specs.declared.code.Space.TheVariants.{A16, A24, A32}
use Rattle.vme_am.specs.Spaces.{addresses_of}
use Rattle.vme_am.specs.Kinds.{is_block}
use Rattle.vme_lanes.specs.declared.location.Location.{Location}
use Rattle.vme_lanes.specs.declared.location.Location.TheVariants.{Byte0, Byte1, Byte2, Byte3, Bytes01, Bytes23, Bytes03, Bytes02, Bytes13, Bytes12}
use Rattle.vme_lanes.specs.declared.location.Strobes.{Strobes}
use Rattle.vme_lanes.specs.Rows.{row_of, location_sensed}
use Rattle.vme_lanes.proofs.lemmas.Tables.{own_sensed}
use Rattle.vme_cycle.specs.declared.request.Request.{Request}
use Rattle.vme_cycle.specs.declared.request.Request.TheVariants as requests
use Rattle.vme_cycle.specs.Requests.{addr_of, datum_len, count_of, datum_of, span_of, is_block_request, address_of}
use Rattle.vme_cycle.specs.Lawful as cycles
use Rattle.vme_cycle.specs.Lawful.{IsLawfulTransfer, location_for}
use Rattle.vme_cycle.specs.Parts.{IsLawful}
use Rattle.vme_cycle.specs.SignalLines.{len_with}
use Rattle.vme_cycle.specs.Plans.{own_location, signals_of}
use Rattle.vme_cycle.proofs.lemmas.Transfers.{lawful_parts, own_sensed_at, own_row}
use Rattle.vme_protocol.specs.declared.sample.Sample.{Sample}
use Rattle.vme_protocol.specs.declared.place.Place.{Place}
use Rattle.vme_protocol.specs.declared.transfer.Transfer.{Transfer}
use Rattle.vme_protocol.specs.Places as places
use Rattle.vme_protocol.specs.Places.{a01_at, location_in, place_at, place_in, is_quad, is_placed, differs_from_block, misfits_block, misfits_cycle, misfits, breaks_at, breaks_transfer}

-- a transfer of the rules is that of a lawful transfer, as AS* fell
pub record IsBegun (t : cycles.Transfer) (u : Transfer) : Type 0 where
  pub judged : u.judged ≡ true
  pub row : u.has_row ≡ true
  pub block : u.block ≡ is_block t.am.kind
  pub wide : u.wide ≡ t.am.wide
  pub base : u.base ≡ addr_of t.request - addr_of t.request % 4
  pub a01 : u.a01 ≡ (row_of (own_location t 0)).strobes.a01
  pub lword : u.lword ≡ (row_of (own_location t 0)).strobes.lword
  pub whole : u.failed ≡ false

-- the level of WRITE* in a transfer: low for a write
abbrev pub level_for : cycles.Transfer → Bool
level_for t = is_none (datum_of t.request 0)

-- a datum that is not the first comes next
pub record IsLater (t : cycles.Transfer) (i : ℕ) (u : Transfer) : Type 0 where
  pub counted : nat_lt 0 u.count ≡ true
  pub next : u.next ≡ address_of t.request i % 2 ^ 32
  pub first : u.first ≡ addr_of t.request
  pub len : u.len ≡ datum_len t.request
  pub write : u.write ≡ level_for t

-- a datum with a number comes next
abbrev pub IsNext : cycles.Transfer → ℕ → Transfer → Type 0
IsNext t zero u = u.count ≡ 0
IsNext t (suc i) u = IsLater t (suc i) u

-- the place of a datum
abbrev pub place_for : cycles.Transfer → ℕ → Place
place_for t i = record { location = own_location t i; addr = address_of t.request i; len = datum_len t.request }

-- only a block has more than one datum
pub later_block : (request : Request) (i : ℕ) → suc i < count_of request → is_block_request request ≡ true
later_block (requests.Read am addr n) i more = absurd (omega (arith, more))
later_block (requests.Write am addr bytes) i more = absurd (omega (arith, more))
later_block (requests.BlockRead am addr n count) i more = refl
later_block (requests.BlockWrite am addr n bytes) i more = refl
later_block (requests.BlockFill am addr n count bytes) i more = refl
later_block (requests.Modify am addr n f) i more = absurd (omega (arith, more))

-- all data of a transfer have the same level of WRITE*
pub same_level : (request : Request) (i : ℕ) → is_none (datum_of request i) ≡ is_none (datum_of request 0)
same_level (requests.Read am addr n) i = refl
same_level (requests.Write am addr bytes) i = refl
same_level (requests.BlockRead am addr n count) i = refl
same_level (requests.BlockWrite am addr n bytes) i = refl
same_level (requests.BlockFill am addr n count bytes) i = refl
same_level (requests.Modify am addr n f) i = refl

-- a location has bytes
pub some_bytes : (l : Location) → 1 ≤ (row_of l).len
some_bytes Byte0 = omega arith
some_bytes Byte1 = omega arith
some_bytes Byte2 = omega arith
some_bytes Byte3 = omega arith
some_bytes Bytes01 = omega arith
some_bytes Bytes23 = omega arith
some_bytes Bytes03 = omega arith
some_bytes Bytes02 = omega arith
some_bytes Bytes13 = omega arith
some_bytes Bytes12 = omega arith

-- the length of a datum, as its location and the code have it
pub record HasLen (wide : Bool) (len n : ℕ) : Type 0 where
  pub chosen : (if wide then 8 else len) ≡ n
  pub quad : wide ≡ true → (len == 4) ≡ true
  pub some : 1 ≤ n

-- by the code
len_by : (wide : Bool) (len n : ℕ) → 1 ≤ len → len_with wide len ≡ Some n → HasLen wide len n
len_by false len n some is =
    let same : len ≡ n = same_Some _ _ is in
    record { chosen = same; quad = λ wide. absurd (cc wide); some = omega (arith, same, some) }
len_by true len n some is = by_four (len == 4) refl is
  where
    by_four : (four : Bool) → (len == 4) ≡ four → (if four then Some 8 else None) ≡ Some n → HasLen true len n
    by_four true four is =
        let same : 8 ≡ n = same_Some _ _ is in
        record { chosen = same; quad = λ wide. four; some = omega (arith, same) }
    by_four false four is = absurd (cc is)

-- a space has at most 2 ^ 32 addresses
space_few : (space : Space) → addresses_of space ≤ 2 ^ 32
space_few A16 = omega arith
space_few A24 = omega arith
space_few A32 = omega arith

-- the next of a product
pub product_next : (i n : ℕ) → (i + 1) * n ≡ i * n + n
product_next i n = grind arith

-- a choice by a number of data
first_of : (block : Bool) (count x y : ℕ) → count ≡ 0 → (if block && nat_lt 0 count then x else y) ≡ y
first_of true count x y none = rw none refl
first_of false count x y none = refl

-- the same, of levels
first_level : (block : Bool) (count : ℕ) (x y : Bool) → count ≡ 0 → (if block && nat_lt 0 count then x else y) ≡ y
first_level true count x y none = rw none refl
first_level false count x y none = refl

-- strobes from their levels
abbrev strobes_with : Bool → Bool → Bool → Bool → Strobes
strobes_with ds1 ds0 a01 lword = record { ds1 = ds1; ds0 = ds0; a01 = a01; lword = lword }

-- an address below 2 ^ 32 from the address lines and the location
sum_of_parts : (addr base first : ℕ) → base ≡ addr - addr % 4 → first ≡ addr % 4 → addr < 2 ^ 32 → (base + first) % 2 ^ 32 ≡ addr
sum_of_parts addr base first one two less = let sum : base + first ≡ addr = omega (arith, one, two) in ap (λ (x : ℕ). x % 2 ^ 32) sum ∙ omega (arith, less)

module _ (t : cycles.Transfer) (i : ℕ) (lawful : IsLawfulTransfer t) (less : i < count_of t.request) where
  -- the parts of the request
  abbrev parts : IsLawful t.am t.request
  parts = lawful_parts t lawful

  -- the length of the datum
  pub len_is : HasLen t.am.wide (row_of (own_location t i)).len (datum_len t.request)
  len_is = len_by t.am.wide (row_of (own_location t i)).len (datum_len t.request) (some_bytes (own_location t i)) (own_row t i parts less).1

  -- the datum ends within the request
  pub ends_within : i * datum_len t.request + datum_len t.request ≤ span_of t.request
  ends_within =
      let n = datum_len t.request in
      let product : (i + 1) * n ≤ count_of t.request * n = mul-le (i + 1) n (count_of t.request) n (omega (arith, less)) (omega arith) in
      let next = product_next i n in
      let turned : count_of t.request * n ≡ n * count_of t.request = grind arith in
      omega (arith, product, next, turned)

  -- the address of the datum is one of its space
  pub below : address_of t.request i < addresses_of t.am.space
  below =
      let n = datum_len t.request in
      let most = ends_within in
      let within = parts.within in
      let some = len_is.some in
      omega (arith, most, within, some)

  -- so the number of the address fits 32 bits
  below_all : address_of t.request i < 2 ^ 32
  below_all = let few = space_few t.am.space in let own = below in omega (arith, few, own)

-- a slave senses the location of a later datum of a block, at the address that it has counted up to
later_sensed : (t : cycles.Transfer) (i : ℕ) → IsLawfulTransfer t → i < count_of t.request → is_block t.am.kind ≡ true
    → location_sensed (strobes_with (row_of (own_location t i)).strobes.ds1 (row_of (own_location t i)).strobes.ds0
    (nat_le 2 (address_of t.request i % 4)) (row_of (own_location t 0)).strobes.lword) ≡ Some (own_location t i)
unfolding signals_of
later_sensed t i lawful less block =
    let shown : Strobes = strobes_with (row_of (own_location t i)).strobes.ds1 (row_of (own_location t i)).strobes.ds0
    (row_of (own_location t 0)).strobes.a01 (row_of (own_location t 0)).strobes.lword in
    ap (λ (b : Bool). location_sensed (if b then record shown { a01 = nat_le 2 (address_of t.request i % 4) } else shown)) (sym block)
    ∙ own_sensed_at t i (address_of t.request i) (lawful_parts t lawful) less refl

module _ (t : cycles.Transfer) (lawful : IsLawfulTransfer t) (u : Transfer) (begun : IsBegun t u) (s : Sample) where
  -- the location that the strobes of a datum select
  location_is : (i : ℕ) → i < count_of t.request → IsNext t i u → s.ds1 ≡ (row_of (own_location t i)).strobes.ds1
      → s.ds0 ≡ (row_of (own_location t i)).strobes.ds0 → location_in u s ≡ Some (own_location t i)
  location_is zero less next ds1 ds0 =
      let a01 : a01_at u ≡ (row_of (own_location t 0)).strobes.a01 = first_level u.block u.count (nat_le 2 (u.next % 4)) u.a01 next ∙ begun.a01 in
      ap (λ (x : Bool). location_sensed (strobes_with x s.ds0 (a01_at u) u.lword)) ds1
      ∙ ap (λ (x : Bool). location_sensed (strobes_with (row_of (own_location t 0)).strobes.ds1 x (a01_at u) u.lword)) ds0
      ∙ ap (λ (x : Bool). location_sensed (strobes_with (row_of (own_location t 0)).strobes.ds1 (row_of (own_location t 0)).strobes.ds0 x u.lword)) a01
      ∙ ap (λ (x : Bool). location_sensed (strobes_with (row_of (own_location t 0)).strobes.ds1 (row_of (own_location t 0)).strobes.ds0
      (row_of (own_location t 0)).strobes.a01 x)) begun.lword
      ∙ own_sensed (own_location t 0)
  location_is (suc i) less next ds1 ds0 =
      let block : is_block t.am.kind ≡ true = (lawful_parts t lawful).kind ∙ later_block t.request i less in
      let few = below_all t (suc i) lawful less in
      let at : u.next ≡ address_of t.request (suc i) = next.next ∙ omega (arith, few) in
      let a01 : a01_at u ≡ nat_le 2 (address_of t.request (suc i) % 4)
      = ap (λ (b : Bool). if b && nat_lt 0 u.count then nat_le 2 (u.next % 4) else u.a01) (begun.block ∙ block)
      ∙ ap (λ (b : Bool). if b then nat_le 2 (u.next % 4) else u.a01) next.counted ∙ ap (λ (a : ℕ). nat_le 2 (a % 4)) at in
      let own = row_of (own_location t (suc i)) in
      ap (λ (x : Bool). location_sensed (strobes_with x s.ds0 (a01_at u) u.lword)) ds1
      ∙ ap (λ (x : Bool). location_sensed (strobes_with own.strobes.ds1 x (a01_at u) u.lword)) ds0
      ∙ ap (λ (x : Bool). location_sensed (strobes_with own.strobes.ds1 own.strobes.ds0 x u.lword)) a01
      ∙ ap (λ (x : Bool). location_sensed (strobes_with own.strobes.ds1 own.strobes.ds0 (nat_le 2 (address_of t.request (suc i) % 4)) x)) begun.lword
      ∙ later_sensed t (suc i) lawful less block

  -- the address of the first byte
  addr_is : (i : ℕ) → i < count_of t.request → IsNext t i u → places.addr_of u (own_location t i) ≡ address_of t.request i
  addr_is zero less next =
      let few = below_all t 0 lawful less in
      let start : address_of t.request 0 ≡ addr_of t.request = omega arith in
      let placed : (row_of (own_location t 0)).first ≡ addr_of t.request % 4 = (own_row t 0 (lawful_parts t lawful) less).0 ∙ ap (λ (a : ℕ). a % 4) start in
      first_of u.block u.count u.next ((u.base + (row_of (own_location t 0)).first) % 2 ^ 32) next
      ∙ sum_of_parts (addr_of t.request) u.base (row_of (own_location t 0)).first begun.base placed (omega (arith, few, start))
      ∙ sym start
  addr_is (suc i) less next =
      let block : is_block t.am.kind ≡ true = (lawful_parts t lawful).kind ∙ later_block t.request i less in
      let few = below_all t (suc i) lawful less in
      ap (λ (b : Bool). if b && nat_lt 0 u.count then u.next else (u.base + (row_of (own_location t (suc i))).first) % 2 ^ 32) (begun.block ∙ block)
      ∙ ap (λ (b : Bool). if b then u.next else (u.base + (row_of (own_location t (suc i))).first) % 2 ^ 32) next.counted
      ∙ next.next ∙ omega (arith, few)

  -- the place of a datum
  pub place_is : (i : ℕ) → i < count_of t.request → IsNext t i u → s.ds1 ≡ (row_of (own_location t i)).strobes.ds1
      → s.ds0 ≡ (row_of (own_location t i)).strobes.ds0 → place_in u s ≡ Some (place_for t i)
  unfolding place_in
  place_is i less next ds1 ds0 =
      let l = own_location t i in
      let len : places.len_of u l ≡ datum_len t.request
      = ap (λ (b : Bool). if b then 8 else (row_of l).len) begun.wide ∙ (len_is t i lawful less).chosen in
      ap (place_at u) (location_is i less next ds1 ds0)
      ∙ ap (λ (a : ℕ). Some (record { location = l; addr = a; len = places.len_of u l })) (addr_is i less next)
      ∙ ap (λ (n : ℕ). Some (record { location = l; addr = address_of t.request i; len = n })) len
