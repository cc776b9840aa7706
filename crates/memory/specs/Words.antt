-- Little-endian numbers of four and of eight bytes, and items made of words of four.
use Rattle.std.specs.Prelude.{◌≡◌, refl, List, [], ◌∷◌, ◌++◌, ℕ, zero, suc, ◌+◌, ◌*◌, ◌/◌, ◌%◌, ◌^◌, ◌<◌, length, get_or}
use Rattle.std.proofs.Common.{◌∙◌, arith, get_or-append-add}
use Rattle.memory.specs.Bits.{bit, bit_in, bit_mod, bit_shr}

-- byte i of a number, lowest first
unfoldable pub byte_of : ℕ → ℕ → ℕ
byte_of k zero = k % 256
byte_of k (suc i) = byte_of (k / 256) i

-- the four bytes of a number below 2 ^ 32
abbrev pub bytes4 : ℕ → List ℕ
bytes4 k = (k % 256) ∷ (k / 256 % 256) ∷ (k / 256 / 256 % 256) ∷ (k / 256 / 256 / 256 % 256) ∷ []

-- the eight bytes of a number below 2 ^ 64
abbrev pub bytes8 : ℕ → List ℕ
bytes8 x =
    (x % 256) ∷ (x / 256 % 256) ∷ (x / 256 / 256 % 256) ∷ (x / 256 / 256 / 256 % 256) ∷ (x / 256 / 256 / 256 / 256 % 256)
    ∷ (x / 256 / 256 / 256 / 256 / 256 % 256) ∷ (x / 256 / 256 / 256 / 256 / 256 / 256 % 256)
    ∷ (x / 256 / 256 / 256 / 256 / 256 / 256 / 256 % 256) ∷ []

-- the number that four bytes from `at` on make
abbrev pub word : List ℕ → ℕ → ℕ
word l at = get_or l at 0 + get_or l (at + 1) 0 * 256 + get_or l (at + 2) 0 * 65536 + get_or l (at + 3) 0 * 16777216

-- r has the 64 bits of the eight bytes from `at` on
unfoldable pub Word64 : List ℕ → ℕ → ℕ → Type 0
Word64 bytes at r = (i : ℕ) → i < 64 → bit r i ≡ bit_in bytes at i

-- the bytes of words, one after another
unfoldable pub words_bytes : List ℕ → List ℕ
words_bytes [] = []
words_bytes (k ∷ ks) = bytes4 k ++ words_bytes ks

-- ---- laws

-- four bytes that are those of a number make the number
pub bytes_word : (k a b c d : ℕ) → k < 2 ^ 32 → a ≡ byte_of k 0 → b ≡ byte_of k 1 → c ≡ byte_of k 2 → d ≡ byte_of k 3
    → a + b * 256 + c * 65536 + d * 16777216 ≡ k
unfolding byte_of
bytes_word k a b c d h ea eb ec ed = omega arith

pub length_words : (ks : List ℕ) → length (words_bytes ks) ≡ length ks * 4
unfolding words_bytes
length_words [] = refl
length_words (k ∷ ks) = omega (arith, length_words ks)

pub words_byte : (ks : List ℕ) (i b : ℕ) → i < length ks → b < 4 → get_or (words_bytes ks) (i * 4 + b) 0 ≡ byte_of (get_or ks i 0) b
unfolding words_bytes byte_of
words_byte [] i b h k = absurd (omega arith)
words_byte (x ∷ ks) zero zero h k = refl
words_byte (x ∷ ks) zero (suc zero) h k = refl
words_byte (x ∷ ks) zero (suc (suc zero)) h k = refl
words_byte (x ∷ ks) zero (suc (suc (suc zero))) h k = refl
words_byte (x ∷ ks) zero (suc (suc (suc (suc b)))) h k = absurd (omega arith)
words_byte (x ∷ ks) (suc i) b h k =
    let e : suc i * 4 + b ≡ 4 + (i * 4 + b) = omega arith in
    rw e (get_or-append-add (bytes4 x) (words_bytes ks) (i * 4 + b) 0 ∙ words_byte ks i b (omega arith) k)

-- ---- bits of a byte, and the bytes of a number below 2 ^ 64

byte_bits : (x q : ℕ) → (byte_of x q < 256) × ((b : ℕ) → b < 8 → bit (byte_of x q) b ≡ bit x (q * 8 + b))
unfolding byte_of
byte_bits x zero = (omega arith, λ b h. let e : 0 * 8 + b ≡ b = omega arith in rw e (bit_mod x 8 b h))
byte_bits x (suc q) =
    let r = byte_bits (x / 256) q in
    (r.0, λ b h. let e : suc q * 8 + b ≡ 8 + (q * 8 + b) = omega arith in rw e (r.1 b h ∙ bit_shr x 8 (q * 8 + b)))

byte_of_eight : (x q : ℕ) → q < 8 → get_or (bytes8 x) q 0 ≡ byte_of x q
unfolding byte_of
byte_of_eight x zero h = refl
byte_of_eight x (suc zero) h = refl
byte_of_eight x (suc (suc zero)) h = refl
byte_of_eight x (suc (suc (suc zero))) h = refl
byte_of_eight x (suc (suc (suc (suc zero)))) h = refl
byte_of_eight x (suc (suc (suc (suc (suc zero))))) h = refl
byte_of_eight x (suc (suc (suc (suc (suc (suc zero)))))) h = refl
byte_of_eight x (suc (suc (suc (suc (suc (suc (suc zero))))))) h = refl
byte_of_eight x (suc (suc (suc (suc (suc (suc (suc (suc q)))))))) h = absurd (omega arith)

pub eight_bits : (x q : ℕ) → q < 8
    → (get_or (bytes8 x) q 0 < 256) × ((b : ℕ) → b < 8 → bit (get_or (bytes8 x) q 0) b ≡ bit x (q * 8 + b))
eight_bits x q h = rw (byte_of_eight x q h) (byte_bits x q)
