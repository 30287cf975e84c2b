-- Numbers and their bytes are inverse, and sums are modulo a power of 256.
use Rattle.std.proofs.Common.{◌≡◌, ℕ, ◌+◌, ◌*◌, ◌/◌, ◌%◌, ◌^◌, ◌<◌, zero, suc, List, [], ◌∷◌, ◌++◌, length, append-nil, refl, ap, sym, ◌∙◌, arith}
use Rattle.std.specs.List.{All, AllByRecursion}
use Rattle.std.proofs.Math.Nat.{pow-suc, mul_comm, div-div-eq-div-mul}
use Rattle.std.proofs.Math.Arith.{mod-mul, digits_div, digits_lt}
use Rattle.std.proofs.lemmas.List.Elements.{recursion_from_All, All-from_recursion}
use Rattle.vme_cycle.specs.Functions.{number_from, number_of, bytes_onto, number_bytes, sum_of}

-- a power of 256 is positive
power_some : (len : ℕ) → 0 < 256 ^ len
power_some zero = omega arith
power_some (suc len) = rw pow-suc (let less = power_some len in omega (arith, less))

-- a digit that is appended to a number in two parts is appended to its lower part
digit_more :
    (before high low p : ℕ) → 256 * (before * p + high) + low ≡ before * (p * 256) + (high * 256 + low)
digit_more before high low p = grind arith

-- the bytes of a number spell its last digits, after the digits before them
number_onto :
    (len n before : ℕ) (rest : List ℕ) → number_from before (bytes_onto len n rest) ≡ number_from (before * 256 ^ len + n % 256 ^ len) rest
number_onto zero n before rest = ap (λ k. number_from k rest) (omega arith)
number_onto (suc len) n before rest =
    number_onto len (n / 256) before ((n % 256) ∷ rest)
    ∙ ap (λ k. number_from k rest)
    (digit_more before (n / 256 % 256 ^ len) (n % 256) (256 ^ len)
    ∙ ap (λ low. before * (256 ^ len * 256) + low) (sym (mod-mul n (power_some len) (omega arith)))
    ∙ ap (λ p. before * p + n % p) (sym (pow-suc 256 len)))

-- the number of a number's bytes is the number modulo a power of 256
pub number_of-number_bytes : (len n : ℕ) → number_of (number_bytes len n) ≡ n % 256 ^ len
number_of-number_bytes len n = number_onto len n 0 [] ∙ omega arith

-- the last len bytes of a number, followed by some bytes, are len bytes more than those
onto_len : (len n : ℕ) (rest : List ℕ) → length (bytes_onto len n rest) ≡ len + length rest
onto_len zero n rest = omega arith
onto_len (suc len) n rest = onto_len len (n / 256) ((n % 256) ∷ rest) ∙ omega arith

-- a number is spelled in len bytes
pub length-number_bytes : (len n : ℕ) → length (number_bytes len n) ≡ len
length-number_bytes len n = onto_len len n [] ∙ omega arith

-- a number is a byte
abbrev IsByte : ℕ → Type 0
IsByte byte = byte < 256

-- the last bytes of a number, followed by bytes, are bytes
onto_small : (len n : ℕ) (rest : List ℕ) → AllByRecursion IsByte rest → AllByRecursion IsByte (bytes_onto len n rest)
onto_small zero n rest small = small
onto_small (suc len) n rest small = onto_small len (n / 256) ((n % 256) ∷ rest) (omega arith, small)

-- each of the bytes that spell a number is below 256
pub number_bytes-small : (len n : ℕ) → All (λ byte. byte < 256) (number_bytes len n)
number_bytes-small len n = All-from_recursion IsByte (number_bytes len n) (onto_small len n [] tt)

-- the first of the bytes is the highest digit
first_byte : (len n : ℕ) (rest : List ℕ) → bytes_onto (suc len) n rest ≡ (n / 256 ^ len % 256) ∷ bytes_onto len n rest
first_byte zero n rest = ap (λ k. (k % 256) ∷ rest) (omega arith)
first_byte (suc len) n rest =
    first_byte len (n / 256) ((n % 256) ∷ rest)
    ∙ ap (λ k. (k % 256) ∷ bytes_onto len (n / 256) ((n % 256) ∷ rest))
    (div-div-eq-div-mul n 256 (256 ^ len) ∙ ap (λ p. n / p) (mul_comm 256 (256 ^ len) ∙ sym (pow-suc 256 len)))

-- the digits before some bytes are the higher part of the number
number_before : (bytes : List ℕ) (before : ℕ) → number_from before bytes ≡ before * 256 ^ length bytes + number_of bytes
number_before [] before = omega arith
number_before (byte ∷ bytes) before =
    number_before bytes (256 * before + byte)
    ∙ higher (256 ^ length bytes) (number_of bytes)
    ∙ ap (λ k. before * (256 ^ length bytes * 256) + k) (sym (number_before bytes (256 * 0 + byte)))
    ∙ ap (λ p. before * p + number_from (256 * 0 + byte) bytes) (sym (pow-suc 256 (length bytes)))
  where
    higher : (p low : ℕ) → (256 * before + byte) * p + low ≡ before * (p * 256) + ((256 * 0 + byte) * p + low)
    higher p low = grind arith

-- bytes spell a number below a power of 256, by recursion
number_small : (bytes : List ℕ) → AllByRecursion IsByte bytes → number_of bytes < 256 ^ length bytes
number_small [] small = omega arith
number_small (byte ∷ bytes) small =
    rw (number_before bytes (256 * 0 + byte), pow-suc)
    (let less = digits_lt {q = byte} {m = 256} {r = number_of bytes} {c = 256 ^ length bytes} small.0 (number_small bytes small.1) in
    let same : 256 * 0 + byte ≡ byte = omega arith in
    rw (same, mul_comm (256 ^ length bytes) 256) less)

-- bytes spell a number below a power of 256
pub number_of-small : (bytes : List ℕ) → All (λ byte. byte < 256) bytes → number_of bytes < 256 ^ length bytes
number_of-small bytes small = number_small bytes (recursion_from_All IsByte bytes small)

-- bytes are those of their number, after any digits
bytes_back :
    (bytes : List ℕ) (before : ℕ) (rest : List ℕ) → AllByRecursion IsByte bytes → bytes_onto (length bytes) (number_from before bytes) rest ≡ bytes ++ rest
bytes_back [] before rest small = refl
bytes_back (byte ∷ bytes) before rest small =
    let n = number_from (256 * before + byte) bytes in
    let high : n / 256 ^ length bytes ≡ 256 * before + byte =
    rw (number_before bytes (256 * before + byte)) (digits_div (256 * before + byte) (number_small bytes small.1)) in
    let digit : n / 256 ^ length bytes % 256 ≡ byte = let less = small.0 in omega (arith, high, less) in
    first_byte (length bytes) n rest
    ∙ ap (λ k. k ∷ bytes_onto (length bytes) n rest) digit
    ∙ ap (λ more. byte ∷ more) (bytes_back bytes (256 * before + byte) rest small.1)

-- the bytes of the number that bytes spell are these bytes
pub number_bytes-number_of : (bytes : List ℕ) → All (λ byte. byte < 256) bytes → number_bytes (length bytes) (number_of bytes) ≡ bytes
number_bytes-number_of bytes small = bytes_back bytes 0 [] (recursion_from_All IsByte bytes small) ∙ append-nil bytes

-- a sum is modulo a power of 256
pub number_of-sum_of : (a b : List ℕ) → number_of (sum_of a b) ≡ (number_of a + number_of b) % 256 ^ length a
unfolding sum_of
number_of-sum_of a b = number_of-number_bytes (length a) (number_of a + number_of b)

-- a sum is as long as the first number
pub length-sum_of : (a b : List ℕ) → length (sum_of a b) ≡ length a
unfolding sum_of
length-sum_of a b = length-number_bytes (length a) (number_of a + number_of b)
