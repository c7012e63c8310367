-- The body of kind 6: a word of the set from its bytes, a byte from a word of the set, left-over bits, and the trips between a set and its body.
-- Assumes nothing.
use Prim.Native.Nat.{ℕ, ◌+◌, ◌-◌, ◌*◌, ◌/◌, ◌%◌, ◌^◌, ◌≤◌, ◌<◌}
use mathlib.Core.Path.{◌≡◌, refl, sym, ap, ap₂, ◌∙◌}
use mathlib.Core.Bool.{Bool, true, false, not}
use mathlib.Core.List.{List, [], ◌∷◌}
use native.Mathlib.Decide.{dec_lt}
use native.Mathlib.Omega.{arith}
use lib.Dec.{eqb}
use lib.ListN.{length, get_or, get_or-eq_default}
use lib.Pow.{pow_pos}
use lib.Seq.{sets, take_all}
use borrow.Author.Tests.{not-true}
use Rattle.laws.specs.Bits.{bit_at, word_of}
use Rattle.laws.specs.Choice.{pick}
use Rattle.laws.specs.Part.{list_of}
use Rattle.laws.proofs.Any.{any_none, none_any}
use Rattle.laws.proofs.Bits.{shr-bit, none_in}
use Rattle.laws.proofs.Choice.{refute}
use Rattle.laws.proofs.Stores.{length-list, list-take, list_at, zeros-at}
use Rattle.laws.proofs.Words.{word_lt, word-bit, word-eq, word_mod, bits-eq, none-word, word_split}
use Rattle.positions.specs.Blocked.{most_positions, blocked_at, any_in, empty_set, word_in, set_of}
use Rattle.positions.proofs.Sets.{in-set, set-eq, set_back}
use Rattle.records.specs.Bits.{bytes_for, bit_of, left_over}
use Rattle.records.specs.Bytes.{Bytes, two_bytes_each}
use Rattle.records.specs.Layout.{record_of}
use Rattle.records.proofs.Write.{record-put}
use Rattle.blockbits.specs.Blocks.{bit_stated, blocked_of_body, block_byte, block_bytes, nothing_in, block_record}

-- ---- bytes of a body

-- bit b of byte k
stated-at : (body : List ℕ) (k b : ℕ) → b < 8 → bit_stated body (8 * k + b) ≡ bit_at (get_or body k 0) b
stated-at body k b h =
    let d : (8 * k + b) / 8 ≡ k = omega arith in
    let m : (8 * k + b) % 8 ≡ b = omega arith in
    ap₂ (λ (q r : ℕ). bit_at (get_or body q 0) r) d m

byte_word : (body : List ℕ) (k : ℕ) → get_or body k 0 < 256 → word_of (λ b. bit_stated body (8 * k + b)) 8 ≡ get_or body k 0
byte_word body k h = sym (bits-eq (λ b. bit_stated body (8 * k + b)) (get_or body k 0) 8 h (λ b l. sym (stated-at body k b l)))

-- a turn of `word_of`'s loop: one byte more below
pub byte_more :
    (body : List ℕ) (j i v x : ℕ) → 0 < i → i ≤ 8 → x ≡ get_or body (8 * j + (i - 1)) 0 → x < 256 →
    v ≡ word_of (λ b. bit_stated body (8 * (8 * j + i) + b)) (8 * (8 - i)) →
    v * 256 + x ≡ word_of (λ b. bit_stated body (8 * (8 * j + (i - 1)) + b)) (8 * (8 - (i - 1)))
byte_more body j i v x some most is low e =
    let p : ℕ → Bool = λ b. bit_stated body (8 * (8 * j + (i - 1)) + b) in
    let n : 8 * (8 - (i - 1)) ≡ 8 + 8 * (8 - i) = omega arith in
    let small : get_or body (8 * j + (i - 1)) 0 < 256 = omega (arith, is, low) in
    let b : word_of p 8 ≡ x = byte_word body (8 * j + (i - 1)) small ∙ sym is in
    let w : word_of (λ c. p (8 + c)) (8 * (8 - i)) ≡ v =
    word-eq (λ c. p (8 + c)) (λ c. bit_stated body (8 * (8 * j + i) + c)) (8 * (8 - i))
    (λ c l. let q : 8 * (8 * j + (i - 1)) + (8 + c) ≡ 8 * (8 * j + i) + c = omega arith in ap (bit_stated body) q)
    ∙ sym e in
    let last : x + 2 ^ 8 * v ≡ v * 256 + x = omega arith in
    sym (ap (word_of p) n ∙ word_split p 8 (8 * (8 - i)) ∙ ap₂ (λ (y z : ℕ). y + 2 ^ 8 * z) b w ∙ last)

-- its end: all eight bytes
pub byte-all : (body : List ℕ) (j i v : ℕ) → i ≡ 0 → v ≡ word_of (λ b. bit_stated body (8 * (8 * j + i) + b)) (8 * (8 - i)) → v ≡ word_in (bit_stated body) j
byte-all body j i v z e =
    let n : 8 * (8 - i) ≡ 64 = omega arith in
    e ∙ ap (word_of (λ b. bit_stated body (8 * (8 * j + i) + b))) n
    ∙ word-eq (λ b. bit_stated body (8 * (8 * j + i) + b)) (λ b. bit_stated body (64 * j + b)) 64
    (λ b l. let q : 8 * (8 * j + i) + b ≡ 64 * j + b = omega arith in ap (bit_stated body) q)

-- a byte of a set is eight bits of a word
pub byte-is : (set : List ℕ) (j : ℕ) → get_or set (j / 8) 0 / 2 ^ (8 * (j % 8)) % 256 ≡ block_byte set j
byte-is set j =
    word_mod (get_or set (j / 8) 0 / 2 ^ (8 * (j % 8))) 8
    ∙ word-eq (bit_at (get_or set (j / 8) 0 / 2 ^ (8 * (j % 8)))) (λ b. blocked_at set (8 * j + b)) 8
    (λ b l.
    let d : j / 8 ≡ (8 * j + b) / 64 = omega arith in
    let m : 8 * (j % 8) + b ≡ (8 * j + b) % 64 = omega arith in
    ap (λ (u : ℕ). eqb u 1) (shr-bit (get_or set (j / 8) 0) (8 * (j % 8)) b) ∙ ap₂ (λ (q r : ℕ). bit_at (get_or set q 0) r) d m)

-- ---- sets in order, for n positions

pub record SetHeld (set : List ℕ) (n : ℕ) : Type 0 where
  pub long : length set ≡ 32
  pub fits : (j : ℕ) → j < 32 → get_or set j 0 < 2 ^ 64
  pub none_past : (k : ℕ) → n ≤ k → k < most_positions → blocked_at set k ≡ false

-- a word past the body has no bit
pub past-body : (body : List ℕ) (j : ℕ) → length body ≤ 8 * j → word_in (bit_stated body) j ≡ 0
past-body body j h =
    none-word (λ b. bit_stated body (64 * j + b)) 64 (λ b _.
    ap (λ (x : ℕ). bit_at x ((64 * j + b) % 8)) (get_or-eq_default body 0 {n = (64 * j + b) / 8} (omega arith))
    ∙ none_in ((64 * j + b) % 8))

empty-none : (k : ℕ) → blocked_at empty_set k ≡ false
empty-none k = ap (λ (x : ℕ). bit_at x (k % 64)) (zeros-at 32 (k / 64)) ∙ none_in (k % 64)

pub nothing-empty : nothing_in empty_set ≡ true
nothing-empty = ap not (none_any (blocked_at empty_set) most_positions (λ k l. empty-none k))

empty-fits : (j : ℕ) → j < 32 → get_or empty_set j 0 < 2 ^ 64
empty-fits j l = let e : get_or empty_set j 0 ≡ 0 = zeros-at 32 j in rw e (pow_pos 64)

pub empty-held : (n : ℕ) → SetHeld empty_set n
empty-held n = record { long = refl; fits = empty-fits; none_past = λ k h l. empty-none k }

-- a set with nothing in it is the empty one
pub empty-is : (set : List ℕ) (n : ℕ) → SetHeld set n → nothing_in set ≡ true → set ≡ empty_set
empty-is set n held e =
    sym (set_back set held.long held.fits)
    ∙ set-eq (blocked_at set) (blocked_at empty_set)
    (λ k l. any_none (blocked_at set) most_positions (not-true (any_in set most_positions) e) k l ∙ sym (empty-none k))
    ∙ set_back empty_set refl empty-fits

-- what a body without left-over bits states
pub body-held : (body : List ℕ) (n : ℕ) → left_over body n ≡ false → SetHeld (blocked_of_body body) n
unfolding blocked_of_body left_over
body-held body n none =
    record {
      long = length-list (word_in (bit_stated body)) 32;
      fits = λ j l.
          let e : get_or (blocked_of_body body) j 0 ≡ word_in (bit_stated body) j = list_at (word_in (bit_stated body)) 32 j l in
          rw e (word_lt (λ b. bit_stated body (64 * j + b)) 64);
      none_past = λ k h l. in-set (bit_stated body) k l ∙ past k h (dec_lt k (8 * length body));
    }
  where
    past : (k : ℕ) → n ≤ k → Dec (k < 8 * length body) → bit_stated body k ≡ false
    past k h (yes m) =
        let e : k ≡ n + (k - n) = omega arith in
        ap (bit_stated body) e ∙ any_none (λ b. eqb (bit_of body (n + b)) 1) (8 * length body - n) none (k - n) (omega arith)
    past k h (no m) =
        let z : get_or body (k / 8) 0 ≡ 0 = get_or-eq_default body 0 {n = k / 8} (omega arith) in
        ap (λ (x : ℕ). bit_at x (k % 8)) z ∙ none_in (k % 8)

-- ---- the body of a set

pub bytes-length : (set : List ℕ) (n : ℕ) → length (block_bytes set n) ≡ bytes_for n
unfolding block_bytes
bytes-length set n = length-list (block_byte set) (bytes_for n)

stated-back : (set : List ℕ) (n k : ℕ) → k / 8 < bytes_for n → bit_stated (block_bytes set n) k ≡ blocked_at set k
unfolding block_bytes
stated-back set n k h =
    let e : 8 * (k / 8) + k % 8 ≡ k = omega arith in
    ap (λ (x : ℕ). bit_at x (k % 8)) (list_at (block_byte set) (bytes_for n) (k / 8) h)
    ∙ word-bit (λ b. blocked_at set (8 * (k / 8) + b)) 8 (k % 8) (omega arith)
    ∙ ap (blocked_at set) e

-- read back it is the set, and no bit is left over
pub bytes-set : (set : List ℕ) (n : ℕ) → SetHeld set n → blocked_of_body (block_bytes set n) ≡ set
unfolding blocked_of_body
bytes-set set n held =
    set-eq (bit_stated (block_bytes set n)) (blocked_at set) (λ k l. same k l (dec_lt (k / 8) (bytes_for n))) ∙ set_back set held.long held.fits
  where
    same : (k : ℕ) → k < most_positions → Dec (k / 8 < bytes_for n) → bit_stated (block_bytes set n) k ≡ blocked_at set k
    same k l (yes h) = stated-back set n k h
    same k l (no h) =
        let z : get_or (block_bytes set n) (k / 8) 0 ≡ 0 = get_or-eq_default (block_bytes set n) 0 {n = k / 8} (omega (arith, bytes-length set n)) in
        ap (λ (x : ℕ). bit_at x (k % 8)) z ∙ none_in (k % 8) ∙ sym (held.none_past k (omega arith) l)

pub none_left : (set : List ℕ) (n : ℕ) → n ≤ most_positions → SetHeld set n → left_over (block_bytes set n) n ≡ false
unfolding left_over
none_left set n most held =
    none_any (λ b. eqb (bit_of (block_bytes set n) (n + b)) 1) (8 * length (block_bytes set n) - n) (λ b l.
    let m : n + b < 8 * bytes_for n = omega (arith, bytes-length set n) in
    stated-back set n (n + b) (omega arith) ∙ held.none_past (n + b) (omega arith) (omega arith))

-- and a body is that of the set which it states
pub set-bytes : (body : List ℕ) (n : ℕ) → Bytes body → length body ≡ bytes_for n → n ≤ most_positions → block_bytes (blocked_of_body body) n ≡ body
unfolding blocked_of_body block_bytes
set-bytes body n small long most =
    list-take (block_byte (set_of (bit_stated body))) (bytes_for n) body (omega (arith, long)) (λ j l. sym (byte j l))
    ∙ take_all (bytes_for n) body (omega (arith, long))
  where
    byte : (j : ℕ) → j < bytes_for n → block_byte (set_of (bit_stated body)) j ≡ get_or body j 0
    byte j l =
        word-eq (λ b. blocked_at (set_of (bit_stated body)) (8 * j + b)) (λ b. bit_stated body (8 * j + b)) 8
        (λ b m. in-set (bit_stated body) (8 * j + b) (omega arith))
        ∙ byte_word body j (small j)

-- ---- the record

module _ (set : List ℕ) (n : ℕ) where
  pub block_none : nothing_in set ≡ true → block_record set n ≡ []
  unfolding block_record
  block_none e = ap (λ (t : Bool). pick t [] (record_of 6 (block_bytes set n))) e

  module _ (some : nothing_in set ≡ false) where
    pub block-some : block_record set n ≡ record_of 6 (block_bytes set n)
    unfolding block_record
    block-some = ap (λ (t : Bool). pick t [] (record_of 6 (block_bytes set n))) some

    pub block-length : length (block_record set n) ≡ 4 + bytes_for n
    block-length =
        let r : length (record_of 6 (block_bytes set n)) ≡ 4 + length (block_bytes set n) = omega arith in
        ap length block-some ∙ r ∙ ap (λ (m : ℕ). 4 + m) (bytes-length set n)

    -- its start and its body, stored one after the other
    pub block-put :
        (out : List ℕ) (at : ℕ) →
        sets (sets out at (two_bytes_each ((2 + bytes_for n) ∷ 6 ∷ []))) (at + 4) (list_of (block_byte set) (bytes_for n)) ≡ sets out at (block_record set n)
    unfolding block_bytes
    block-put out at =
        record-put out at 6 (2 + bytes_for n) (list_of (block_byte set) (bytes_for n)) (ap (λ (m : ℕ). 2 + m) (sym (bytes-length set n)))
        ∙ ap (sets out at) (sym block-some)

  -- it takes bytes only where something is blocked
  pub some_bytes : (need : ℕ) → need ≡ length (block_record set n) → (need ≡ 0 → ⊥) → nothing_in set ≡ false
  some_bytes need e some = refute (nothing_in set) (λ t. some (e ∙ ap length (block_none t)))

pub none-put : (out : List ℕ) (at : ℕ) (r : List ℕ) → length r ≡ 0 → sets out at r ≡ out
none-put out at [] h = refl
none-put out at (x ∷ r) h = absurd (omega arith)
