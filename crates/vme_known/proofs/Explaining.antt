-- The memories that have the known bytes are the ones that explain the accesses, with unseen stores to open bytes.
use Rattle.std.proofs.Common.{◌≡◌, ℕ, zero, suc, Bool, true, false, ◌&&◌, if◌then◌else◌, inl, inr, List, [], ◌∷◌, length, map, Option, Some, None, refl, ap, sym, ◌∙◌, subst, arith, eq-eqb}
use Rattle.std.specs.Prelude.{slice_get, slice_set}
use Rattle.std.proofs.lemmas.Bool.{and_parts, cases_eq, eqb-true, false≢true}
use Rattle.vme_known.specs.declared.access.Access.{Access}
use Rattle.vme_known.specs.declared.access.Access.TheVariants.{Finds, Stores}
use Rattle.vme_known.specs.declared.byte.Byte.{Byte}
use Rattle.vme_known.specs.declared.byte.Byte.TheVariants.{Open, Unseen, Known}
use Rattle.vme_known.specs.Histories.{has_byte, explains, Adds, none, seen, unseen, HasKnown, IsHistory}
use Rattle.vme_known.specs.Judging.{may_find, is_open, known_after, may_all_come}

-- both tests hold
both_hold : (a b : Bool) → a ≡ true → b ≡ true → (a && b) ≡ true
both_hold true b h k = k
both_hold false b h k = h

-- an element that is set has the value, if there is one in a list of the same length
set_there : {A B : Type 0} (xs : List A) (ys : List B) (i : ℕ) (x : A) (y : B) → length xs ≡ length ys → slice_get ys i ≡ Some y
    → slice_get (slice_set xs i x) i ≡ Some x
set_there xs [] i x y same there = absurd (cc there)
set_there [] (z ∷ ys) i x y same there = absurd (omega (arith, same))
set_there (w ∷ xs) (z ∷ ys) zero x y same there = refl
set_there (w ∷ xs) (z ∷ ys) (suc i) x y same there = set_there xs ys i x y (omega (arith, same)) there

-- the other elements are as they were
set_other : {A : Type 0} (xs : List A) (i k : ℕ) (x : A) → (i ≡ k → ⊥) → slice_get (slice_set xs i x) k ≡ slice_get xs k
set_other [] i k x apart = refl
set_other (w ∷ xs) zero zero x apart = absurd (apart refl)
set_other (w ∷ xs) zero (suc k) x apart = refl
set_other (w ∷ xs) (suc i) zero x apart = refl
set_other (w ∷ xs) (suc i) (suc k) x apart = set_other xs i k x (λ same. apart (ap suc same))

-- a list keeps its length
pub set_length : {A : Type 0} (xs : List A) (i : ℕ) (x : A) → length (slice_set xs i x) ≡ length xs
set_length [] i x = refl
set_length (w ∷ xs) zero x = refl
set_length (w ∷ xs) (suc i) x = let rest : length (slice_set xs i x) ≡ length xs = set_length xs i x in omega (arith, rest)

-- an element that is set can only be that value
set_is : {A : Type 0} (xs : List A) (i : ℕ) (x y : A) → slice_get (slice_set xs i x) i ≡ Some y → x ≡ y
set_is [] i x y there = absurd (cc there)
set_is (w ∷ xs) zero x y there = cc there
set_is (w ∷ xs) (suc i) x y there = set_is xs i x y there

-- an element that was in a list before it was set
set_was : {A : Type 0} (xs : List A) (i : ℕ) (x y : A) → slice_get (slice_set xs i x) i ≡ Some y → (z : A) × (slice_get xs i ≡ Some z)
set_was [] i x y there = absurd (cc there)
set_was (w ∷ xs) zero x y there = (w, refl)
set_was (w ∷ xs) (suc i) x y there = set_was xs i x y there

-- a list in which an element is set and set back is as it was
set_back : {A : Type 0} (xs : List A) (i : ℕ) (x y : A) → ((z : A) → slice_get xs i ≡ Some z → z ≡ y)
    → slice_set (slice_set xs i x) i y ≡ xs
set_back [] i x y only = refl
set_back (w ∷ xs) zero x y only = ap (λ (z : _). z ∷ xs) (sym (only w refl))
set_back (w ∷ xs) (suc i) x y only = ap (λ (rest : _). w ∷ rest) (set_back xs i x y only)

-- two lists of one length have elements at the same places
also_there : {A B : Type 0} (xs : List A) (ys : List B) (i : ℕ) (y : B) → length xs ≡ length ys → slice_get ys i ≡ Some y
    → (x : A) × (slice_get xs i ≡ Some x)
also_there xs [] i y same there = absurd (cc there)
also_there [] (z ∷ ys) i y same there = absurd (omega (arith, same))
also_there (x ∷ xs) (z ∷ ys) zero y same there = (x, refl)
also_there (x ∷ xs) (z ∷ ys) (suc i) y same there = also_there xs ys i y (omega (arith, same)) there

-- a byte that is there
byte_is : (found : Option ℕ) (byte : ℕ) → has_byte found byte ≡ true → found ≡ Some byte
byte_is None byte h = absurd cc
byte_is (Some value) byte h = ap Some (eqb-true value byte h)

-- a byte is there
is_byte : (found : Option ℕ) (byte : ℕ) → found ≡ Some byte → has_byte found byte ≡ true
is_byte found byte h = ap (λ (f : Option ℕ). has_byte f byte) h ∙ eq-eqb byte byte refl

-- whether a byte of a board is open, by its place
abbrev pub open_at : List Byte → ℕ → Bool
open_at bytes at = is_open (slice_get bytes at)

-- what is known after an access, by whether its byte is open
abbrev pub set_unless : Bool → List Byte → ℕ → ℕ → List Byte
set_unless is_free bytes at byte = if is_free then bytes else slice_set bytes at (Known byte)

-- a byte that is set is not open
set_closed : (bytes : List Byte) (at byte : ℕ) → is_open (slice_get (slice_set bytes at (Known byte)) at) ≡ false
set_closed [] at byte = refl
set_closed (b ∷ bytes) zero byte = refl
set_closed (b ∷ bytes) (suc at) byte = set_closed bytes at byte

-- an access leaves the same bytes open
opens_by : (is_free : Bool) (bytes : List Byte) (at byte k : ℕ) → is_open (slice_get bytes at) ≡ is_free
    → open_at (set_unless is_free bytes at byte) k ≡ open_at bytes k
opens_by true bytes at byte k is = refl
opens_by false bytes at byte k is = elim (cases_eq at k) [
  | inl same ↦ subst (λ (i : ℕ). open_at (slice_set bytes at (Known byte)) i ≡ open_at bytes i) same (set_closed bytes at byte ∙ sym is)
  | inr apart ↦ ap is_open (set_other bytes at k (Known byte) apart)
]

-- which bytes are open, in other words
record IsOpenAt (is_free : ℕ → Bool) (bytes : List Byte) : Type 0 where
  pub at_each : (k : ℕ) → is_free k ≡ open_at bytes k

-- an access leaves them as they are
still_open : (is_free : ℕ → Bool) (bytes : List Byte) (at byte : ℕ) → IsOpenAt is_free bytes
    → IsOpenAt is_free (set_unless (open_at bytes at) bytes at byte)
still_open is_free bytes at byte h = record { at_each = λ k. h.at_each k ∙ sym (opens_by (open_at bytes at) bytes at byte k refl) }

-- a byte that is known is not open
known_closed : (found : Option Byte) (value : ℕ) → found ≡ Some (Known value) → is_open found ≡ false
known_closed found value h = ap is_open h

-- after an access a memory that has its byte has the known bytes
after_by : (is_free : Bool) (bytes : List Byte) (before after : List ℕ) (at byte : ℕ) → is_open (slice_get bytes at) ≡ is_free
    → length after ≡ length bytes
    → ((k : ℕ) → (at ≡ k → ⊥) → slice_get after k ≡ slice_get before k)
    → ((z : Byte) → slice_get bytes at ≡ Some z → slice_get after at ≡ Some byte)
    → HasKnown bytes before → HasKnown (set_unless is_free bytes at byte) after
after_by true bytes before after at byte is size others there has = record {
  size = size;
  each = λ k value h. elim (cases_eq at k) [
    | inl same ↦ absurd (false≢true (sym (known_closed (slice_get bytes at) value (ap (slice_get bytes) same ∙ h)) ∙ is))
    | inr apart ↦ others k apart ∙ has.each k value h
  ];
}
after_by false bytes before after at byte is size others there has = record {
  size = size ∙ sym (set_length bytes at (Known byte));
  each = λ k value h. elim (cases_eq at k) [
    | inl same ↦
        let here : slice_get (slice_set bytes at (Known byte)) at ≡ Some (Known value) = subst (λ (i : ℕ). slice_get (slice_set bytes at (Known byte)) i ≡ Some (Known value)) (sym same) h in
        let is : Known byte ≡ Known value = set_is bytes at (Known byte) (Known value) here in
        let equal : byte ≡ value = cc is in
        let was = set_was bytes at (Known byte) (Known value) here in
        subst (λ (i : ℕ). slice_get after i ≡ Some value) same (there was.0 was.1 ∙ ap Some equal)
    | inr apart ↦ others k apart ∙ has.each k value (sym (set_other bytes at k (Known byte) apart) ∙ h)
  ];
}

-- a byte may be found where a memory that has the known bytes has it
may_find_it : (found : Option Byte) (byte : ℕ) → (found ≡ None → ⊥) → ((value : ℕ) → found ≡ Some (Known value) → value ≡ byte)
    → may_find found byte ≡ true
may_find_it None byte some only = absurd (some refl)
may_find_it (Some Open) byte some only = refl
may_find_it (Some Unseen) byte some only = refl
may_find_it (Some (Known value)) byte some only = eq-eqb value byte (only value refl)

-- a byte that is there is not none
is_there : {A : Type 0} (found : Option A) (x : A) → found ≡ Some x → found ≡ None → ⊥
is_there found x some absent = let both : Some x ≡ None = sym some ∙ absent in cc both

-- accesses that a memory explains, with unseen stores, may come
come_by : (is_free : ℕ → Bool) (accesses more : List Access) → Adds is_free accesses more
    → (bytes : List Byte) (memory : List ℕ) → IsOpenAt is_free bytes → HasKnown bytes memory → explains memory more ≡ true
    → may_all_come bytes accesses ≡ true
come_by is_free _ _ none bytes memory opens has h = refl
come_by is_free _ _ (seen (Finds at byte) accesses more rest) bytes memory opens has h =
    let parts = and_parts _ _ h in
    let there : slice_get memory at ≡ Some byte = byte_is (slice_get memory at) byte parts.0 in
    let known = also_there bytes memory at byte (sym has.size) there in
    let first : may_find (slice_get bytes at) byte ≡ true =
    may_find_it (slice_get bytes at) byte (is_there (slice_get bytes at) known.0 known.1)
    (λ value is. let both : Some value ≡ Some byte = sym (has.each at value is) ∙ there in cc both) in
    both_hold (may_find (slice_get bytes at) byte) _ first
    (come_by is_free accesses more rest (known_after bytes (Finds at byte)) memory (still_open is_free bytes at byte opens)
    (after_by (open_at bytes at) bytes memory memory at byte refl has.size (λ k apart. refl) (λ z was. there) has) parts.1)
come_by is_free _ _ (seen (Stores at byte) accesses more rest) bytes memory opens has h =
    come_by is_free accesses more rest (known_after bytes (Stores at byte)) (slice_set memory at byte) (still_open is_free bytes at byte opens)
    (after_by (open_at bytes at) bytes memory (slice_set memory at byte) at byte refl (set_length memory at byte ∙ has.size)
    (λ k apart. set_other memory at k byte apart) (λ z was. set_there memory bytes at byte z has.size was) has) h
come_by is_free _ _ (unseen at byte accesses more is rest) bytes memory opens has h =
    come_by is_free accesses more rest bytes (slice_set memory at byte) opens
    (after_by true bytes memory (slice_set memory at byte) at byte (sym (opens.at_each at) ∙ is) (set_length memory at byte ∙ has.size)
    (λ k apart. set_other memory at k byte apart) (λ z was. set_there memory bytes at byte z has.size was) has) h

-- a memory of what is known, with zeros elsewhere
abbrev pub value_of : Byte → ℕ
value_of Open = 0
value_of Unseen = 0
value_of (Known value) = value

memory_length : (bytes : List Byte) → length (map value_of bytes) ≡ length bytes
memory_length [] = refl
memory_length (b ∷ bytes) = let rest : length (map value_of bytes) ≡ length bytes = memory_length bytes in omega (arith, rest)

memory_each : (bytes : List Byte) (at byte : ℕ) → slice_get bytes at ≡ Some (Known byte) → slice_get (map value_of bytes) at ≡ Some byte
memory_each [] at byte h = absurd (cc h)
memory_each (Open ∷ bytes) zero byte h = absurd (cc h)
memory_each (Unseen ∷ bytes) zero byte h = absurd (cc h)
memory_each (Known value ∷ bytes) zero byte h = let same : value ≡ byte = cc h in ap Some same
memory_each (b ∷ bytes) (suc at) byte h = memory_each bytes at byte h

-- a memory that explains accesses, with unseen stores
record IsExplained (is_free : ℕ → Bool) (bytes : List Byte) (accesses : List Access) : Type 0 where
  pub memory : List ℕ
  pub has : HasKnown bytes memory
  pub more : List Access
  pub adds : Adds is_free accesses more
  pub explained : explains memory more ≡ true

-- a byte that may be found is there
found_is : (found : Option Byte) (byte : ℕ) → may_find found byte ≡ true → (z : Byte) × (found ≡ Some z)
found_is None byte h = absurd cc
found_is (Some z) byte h = (z, refl)

-- a byte that may be found where it is known is that byte
found_known : (found : Option Byte) (value byte : ℕ) → may_find found byte ≡ true → found ≡ Some (Known value) → byte ≡ value
found_known None value byte h is = absurd cc
found_known (Some Open) value byte h is = absurd (cc is)
found_known (Some Unseen) value byte h is = absurd (cc is)
found_known (Some (Known other)) value byte h is = let same : other ≡ value = cc is in sym (eqb-true other byte h) ∙ same

-- a memory that has the bytes known after a byte was set has that byte, if it is there
has_its_byte : (bytes : List Byte) (memory : List ℕ) (at byte value : ℕ) → HasKnown (slice_set bytes at (Known byte)) memory
    → slice_get memory at ≡ Some value → value ≡ byte
has_its_byte bytes memory at byte value has there =
    let size : length bytes ≡ length memory = sym (has.size ∙ set_length bytes at (Known byte)) in
    let known = set_there bytes memory at (Known byte) value size there in
    let both : Some value ≡ Some byte = sym there ∙ has.each at byte known in cc both

-- the byte before a store: what was known, or any
abbrev pub byte_before : Option Byte → ℕ → ℕ
byte_before None byte = byte
byte_before (Some Open) byte = byte
byte_before (Some Unseen) byte = byte
byte_before (Some (Known value)) byte = value

-- an open byte is found: something stores it before, and stores what was there after
find_open : (is_free : ℕ → Bool) (bytes : List Byte) (accesses : List Access) (at byte : ℕ) → is_free at ≡ true → may_find (slice_get bytes at) byte ≡ true
    → open_at bytes at ≡ true → IsExplained is_free bytes accesses → IsExplained is_free bytes (Finds at byte ∷ accesses)
find_open is_free bytes accesses at byte is found closed rest =
    let some = found_is (slice_get bytes at) byte found in
    let known = also_there rest.memory bytes at some.0 rest.has.size some.1 in
    let there : slice_get (slice_set rest.memory at byte) at ≡ Some byte = set_there rest.memory bytes at byte some.0 rest.has.size some.1 in
    let back : slice_set (slice_set rest.memory at byte) at known.0 ≡ rest.memory =
    set_back rest.memory at byte known.0 (λ z h. let both : Some z ≡ Some known.0 = sym h ∙ known.1 in cc both) in
    record {
      memory = rest.memory;
      has = rest.has;
      more = Stores at byte ∷ Finds at byte ∷ Stores at known.0 ∷ rest.more;
      adds = unseen at byte (Finds at byte ∷ accesses) (Finds at byte ∷ Stores at known.0 ∷ rest.more) is
          (seen (Finds at byte) accesses (Stores at known.0 ∷ rest.more) (unseen at known.0 accesses rest.more is rest.adds));
      explained = both_hold (has_byte (slice_get (slice_set rest.memory at byte) at) byte) _
          (is_byte (slice_get (slice_set rest.memory at byte) at) byte there)
          (ap (λ (memory : List ℕ). explains memory rest.more) back ∙ rest.explained);
    }

-- a byte that is not open is found
find_closed : (is_free : ℕ → Bool) (bytes : List Byte) (accesses : List Access) (at byte : ℕ) → may_find (slice_get bytes at) byte ≡ true
    → IsExplained is_free (slice_set bytes at (Known byte)) accesses → IsExplained is_free bytes (Finds at byte ∷ accesses)
find_closed is_free bytes accesses at byte found rest =
    let some = found_is (slice_get bytes at) byte found in
    let there : slice_get rest.memory at ≡ Some byte = rest.has.each at byte (set_there bytes bytes at (Known byte) some.0 refl some.1) in
    record {
      memory = rest.memory;
      has = record {
        size = rest.has.size ∙ set_length bytes at (Known byte);
        each = λ k value is. elim (cases_eq at k) [
          | inl same ↦
              let here : slice_get bytes at ≡ Some (Known value) = subst (λ (i : ℕ). slice_get bytes i ≡ Some (Known value)) (sym same) is in
              subst (λ (i : ℕ). slice_get rest.memory i ≡ Some value) same (there ∙ ap Some (found_known (slice_get bytes at) value byte found here))
          | inr apart ↦ rest.has.each k value (set_other bytes at k (Known byte) apart ∙ is)
        ];
      };
      more = Finds at byte ∷ rest.more;
      adds = seen (Finds at byte) accesses rest.more rest.adds;
      explained = both_hold (has_byte (slice_get rest.memory at) byte) _ (is_byte (slice_get rest.memory at) byte there) rest.explained;
    }

-- an open byte is stored, and what was there is stored after
store_open : (is_free : ℕ → Bool) (bytes : List Byte) (accesses : List Access) (at byte : ℕ) → is_free at ≡ true
    → open_at bytes at ≡ true → IsExplained is_free bytes accesses → IsExplained is_free bytes (Stores at byte ∷ accesses)
store_open is_free bytes accesses at byte is here rest =
    let some = open_there (slice_get bytes at) here in
    let known = also_there rest.memory bytes at some.0 rest.has.size some.1 in
    let back : slice_set (slice_set rest.memory at byte) at known.0 ≡ rest.memory =
    set_back rest.memory at byte known.0 (λ z h. let both : Some z ≡ Some known.0 = sym h ∙ known.1 in cc both) in
    record {
      memory = rest.memory;
      has = rest.has;
      more = Stores at byte ∷ Stores at known.0 ∷ rest.more;
      adds = seen (Stores at byte) accesses (Stores at known.0 ∷ rest.more) (unseen at known.0 accesses rest.more is rest.adds);
      explained = ap (λ (memory : List ℕ). explains memory rest.more) back ∙ rest.explained;
    }
  where
    -- an open byte is there
    open_there : (found : Option Byte) → is_open found ≡ true → (z : Byte) × (found ≡ Some z)
    open_there None h = absurd cc
    open_there (Some z) h = (z, refl)

-- a byte that is not open is stored
store_closed : (is_free : ℕ → Bool) (bytes : List Byte) (accesses : List Access) (at byte : ℕ)
    → IsExplained is_free (slice_set bytes at (Known byte)) accesses → IsExplained is_free bytes (Stores at byte ∷ accesses)
store_closed is_free bytes accesses at byte rest =
    let before = byte_before (slice_get bytes at) byte in
    let back : slice_set (slice_set rest.memory at before) at byte ≡ rest.memory =
    set_back rest.memory at before byte (λ value there. has_its_byte bytes rest.memory at byte value rest.has there) in
    let size : length rest.memory ≡ length bytes = rest.has.size ∙ set_length bytes at (Known byte) in
    record {
      memory = slice_set rest.memory at before;
      has = record {
        size = set_length rest.memory at before ∙ size;
        each = λ k value is. elim (cases_eq at k) [
          | inl same ↦
              let here : slice_get bytes at ≡ Some (Known value) = subst (λ (i : ℕ). slice_get bytes i ≡ Some (Known value)) (sym same) is in
              subst (λ (i : ℕ). slice_get (slice_set rest.memory at before) i ≡ Some value) same
              (set_there rest.memory bytes at before (Known value) size here ∙ ap Some (ap (λ (found : _). byte_before found byte) here))
          | inr apart ↦ set_other rest.memory at k before apart ∙ rest.has.each k value (set_other bytes at k (Known byte) apart ∙ is)
        ];
      };
      more = Stores at byte ∷ rest.more;
      adds = seen (Stores at byte) accesses rest.more rest.adds;
      explained = ap (λ (memory : List ℕ). explains memory rest.more) back ∙ rest.explained;
    }

-- an access before explained ones, by whether its byte is open
find_by : (free : Bool) (is_free : ℕ → Bool) (bytes : List Byte) (accesses : List Access) (at byte : ℕ) → is_free at ≡ free → open_at bytes at ≡ free
    → may_find (slice_get bytes at) byte ≡ true → IsExplained is_free (set_unless free bytes at byte) accesses
    → IsExplained is_free bytes (Finds at byte ∷ accesses)
find_by true is_free bytes accesses at byte is here found rest = find_open is_free bytes accesses at byte is found here rest
find_by false is_free bytes accesses at byte is here found rest = find_closed is_free bytes accesses at byte found rest

store_by : (free : Bool) (is_free : ℕ → Bool) (bytes : List Byte) (accesses : List Access) (at byte : ℕ) → is_free at ≡ free → open_at bytes at ≡ free
    → IsExplained is_free (set_unless free bytes at byte) accesses → IsExplained is_free bytes (Stores at byte ∷ accesses)
store_by true is_free bytes accesses at byte is here rest = store_open is_free bytes accesses at byte is here rest
store_by false is_free bytes accesses at byte is here rest = store_closed is_free bytes accesses at byte rest

-- accesses that may come are explained by a memory
explained_by : (is_free : ℕ → Bool) (accesses : List Access) (bytes : List Byte) → IsOpenAt is_free bytes → may_all_come bytes accesses ≡ true
    → IsExplained is_free bytes accesses
explained_by is_free [] bytes opens h = record {
  memory = map value_of bytes;
  has = record { size = memory_length bytes; each = memory_each bytes };
  more = [];
  adds = none;
  explained = refl;
}
explained_by is_free (Finds at byte ∷ accesses) bytes opens h =
    let parts = and_parts _ _ h in
    find_by (open_at bytes at) is_free bytes accesses at byte (opens.at_each at) refl parts.0
    (explained_by is_free accesses (known_after bytes (Finds at byte)) (still_open is_free bytes at byte opens) parts.1)
explained_by is_free (Stores at byte ∷ accesses) bytes opens h =
    store_by (open_at bytes at) is_free bytes accesses at byte (opens.at_each at) refl
    (explained_by is_free accesses (known_after bytes (Stores at byte)) (still_open is_free bytes at byte opens) h)

-- accesses that may come are a history
pub explained : (bytes : List Byte) (accesses : List Access) → may_all_come bytes accesses ≡ true → IsHistory bytes accesses
explained bytes accesses h =
    let found = explained_by (open_at bytes) accesses bytes (record { at_each = λ k. refl }) h in
    record { memory = found.memory; has_known = found.has; more = found.more; adds = found.adds; explained = found.explained }

-- a history may come
pub possible : (bytes : List Byte) (accesses : List Access) → IsHistory bytes accesses → may_all_come bytes accesses ≡ true
possible bytes accesses history =
    come_by (open_at bytes) accesses history.more history.adds bytes history.memory (record { at_each = λ k. refl }) history.has_known history.explained

-- nothing is added where no byte is open
none_added : (is_free : ℕ → Bool) (accesses more : List Access) → ((at : ℕ) → is_free at ≡ false) → Adds is_free accesses more → more ≡ accesses
none_added is_free _ _ closed none = refl
none_added is_free _ _ closed (seen access accesses more rest) = ap (λ (later : List Access). access ∷ later) (none_added is_free accesses more closed rest)
none_added is_free _ _ closed (unseen at byte accesses more is rest) = absurd (false≢true (sym (closed at) ∙ is))

-- as above, of the bytes of a board
pub nothing_added : (bytes : List Byte) (accesses more : List Access) → ((at : ℕ) → is_open (slice_get bytes at) ≡ false)
    → Adds (open_at bytes) accesses more → more ≡ accesses
nothing_added bytes accesses more closed adds = none_added (open_at bytes) accesses more closed adds
