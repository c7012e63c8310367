-- The changes of form, a row at a time: a row of bytes joined to the words of the rows before it, and a row of bytes put after those before it.
-- Assumes nothing.
use mathlib.Core.Path.{◌≡◌, sym, ap, ap₂, ◌∙◌}
use mathlib.Core.List.{List, ◌++◌, append_assoc, append-nil}
use Prim.Native.Nat.{ℕ, zero, suc, ◌+◌, ◌-◌, ◌*◌, ◌/◌, ◌%◌, ◌^◌, ◌≤◌, ◌<◌}
use native.Mathlib.Nat.{add-zero, add-suc, zero-mul, one-mul, suc-mul, add-mul, mul-le-mul_right}
use native.Mathlib.Omega.{arith}
use borrow.Rule.Slice.PartMut.{mid_of, put_mid}
use lib.Bits.{bit_or}
use lib.ListN.{length, get_or, take, drop, length-append, length-drop}
use lib.Seq.{sets, sets-eq, take_at, drop_at, drop-drop, drop-length, get_or-drop}
use Rattle.laws.specs.Bits.{bit_at}
use Rattle.laws.specs.Choice.{pick}
use Rattle.laws.specs.Part.{put, list_of, Zeros}
use Rattle.laws.specs.Sum.{bit}
use Rattle.laws.proofs.Part.{lent, back, length_part, get_d-put}
use Rattle.laws.proofs.Stores.{sets_same, sets-next, sets-at, sets-beyond, sets-on, length-list, list-eq, list_at}
use Rattle.laws.proofs.Words.{word-zero, word_more}
use Rattle.theory.specs.Net.{Reserved}
use Rattle.theory.specs.Greedy.{reserved}
use Rattle.words.specs.Words.{word_at, joined_at, joined_row}
use Rattle.wordforms.specs.Words.{sends_at, bytes_of}
use Rattle.wordforms.specs.Eights.{eight_of, eight_joined}
use Rattle.wordforms.proofs.Eights.{word-eight, byte-bit}

-- ---- rows of bytes into words: w is what stands at first

module _ (n : ℕ) (table w : List ℕ) where
  -- the words with the rows of the first i cells
  abbrev pub Gathered : ℕ → List ℕ → Type 0
  Gathered i words = words ≡ sets w 0 (list_of (word_at i (reserved n table)) n)

  -- no row yet, over words that are 0
  pub none-gathered : n ≤ length w → Zeros n w → Gathered 0 w
  none-gathered h none = sets_same (word_at 0 (reserved n table)) n w h (λ k l. none k l ∙ sym (word-zero (λ i. reserved n table i k)))

  pub one-gathered : (i b : ℕ) (words after : List ℕ) → n ≤ length w → b ≡ 2 ^ i → Gathered i words
      → after ≡ joined_row words table (i * n) n b → Gathered (i + 1) after
  one-gathered i b words after h e g d =
      sets-next (word_at i (reserved n table)) (joined_at words table (i * n) b) (word_at (i + 1) (reserved n table)) n w words after h g d
      (λ k l was. ap₂ (λ x y. bit_or x (pick (reserved n table i k) y 0)) was e ∙ word_more (λ c. reserved n table c k) i)

  -- eight rows, of which some may be among the first i
  pub eight-gathered : (i s : ℕ) (words after : List ℕ) → n ≤ length w → s ≤ i → i ≤ s + 8 → Gathered i words
      → after ≡ sets words 0 (list_of (eight_joined n table s words) n) → Gathered (s + 8) after
  eight-gathered i s words after h lo hi g d =
      sets-next (word_at i (reserved n table)) (eight_joined n table s words) (word_at (s + 8) (reserved n table)) n w words after h g d
      (λ k l was. ap (λ x. bit_or x (eight_of n table s k * 2 ^ s)) was ∙ word-eight (λ c. reserved n table c k) i s lo hi)

-- the words of a piece of the positions: its bytes, and the pieces up to it
pub piece-joined : (n i at m : ℕ) (t words zeros bytes after : List ℕ) → m ≤ length zeros
    → bytes ≡ sets zeros 0 (list_of (λ k. eight_of n t i (at + k)) m)
    → after ≡ sets words at (list_of (λ k. bit_or (get_or words (at + k) 0) (get_or bytes k 0 * 2 ^ i)) m)
    → after ≡ sets words at (list_of (λ k. eight_joined n t i words (at + k)) m)
piece-joined n i at m t words zeros bytes after h e d =
    d
    ∙ ap (sets words at)
    (list-eq (λ k. bit_or (get_or words (at + k) 0) (get_or bytes k 0 * 2 ^ i)) (λ k. eight_joined n t i words (at + k)) m (λ k l.
    ap (λ (x : ℕ). bit_or (get_or words (at + k) 0) (x * 2 ^ i))
    (ap (λ (z : List ℕ). get_or z k 0) e ∙ sets-at (λ k. eight_of n t i (at + k)) m zeros k l h)))

pub piece-more : (n i at m : ℕ) (t w words after : List ℕ) → words ≡ sets w 0 (list_of (eight_joined n t i w) at)
    → after ≡ sets words at (list_of (λ k. eight_joined n t i words (at + k)) m) → after ≡ sets w 0 (list_of (eight_joined n t i w) (at + m))
piece-more n i at m t w words after e d =
    d
    ∙ sets-on (eight_joined n t i w) (λ k. eight_joined n t i words (at + k)) at m words w e (λ k l.
    ap (λ (x : ℕ). bit_or x (eight_of n t i (at + k) * 2 ^ i))
    (sym (ap (λ (z : List ℕ). get_or z (at + k) 0) e ∙ sets-beyond (eight_joined n t i w) at w (at + k) (omega arith))))

-- ---- words into rows of bytes: t is what stands at first

pub bytes-long : (i n : ℕ) (res : Reserved) → length (bytes_of i n res) ≡ i * n
unfolding bytes_of
bytes-long zero n res = sym (zero-mul n)
bytes-long (suc i) n res =
    length-append (bytes_of i n res) (list_of (λ k. bit (res i k)) n)
    ∙ ap₂ ◌+◌ (bytes-long i n res) (length-list (λ k. bit (res i k)) n)
    ∙ sym (suc-mul i n)

-- the rows of the first i cells, and of m cells from i on
pub bytes-add : (i m n : ℕ) (res : Reserved) → bytes_of (i + m) n res ≡ bytes_of i n res ++ bytes_of m n (λ b. res (i + b))
unfolding bytes_of
bytes-add i zero n res = ap (λ (k : ℕ). bytes_of k n res) (add-zero i) ∙ sym (append-nil (bytes_of i n res))
bytes-add i (suc m) n res =
    ap (λ (k : ℕ). bytes_of k n res) (add-suc i m)
    ∙ ap (λ (z : List ℕ). z ++ list_of (λ k. bit (res (i + m) k)) n) (bytes-add i m n res)
    ∙ append_assoc (bytes_of i n res) (bytes_of m n (λ b. res (i + b))) (list_of (λ k. bit (res (i + m) k)) n)

-- what is lent of w bytes from a on
pub lent-long : (a w : ℕ) (table : List ℕ) → a + w ≤ length table → length (mid_of a (a + w - a) table) ≡ w
lent-long a w table h = ap length (lent a w table) ∙ length_part a w table h

module _ (n : ℕ) (res : Reserved) (t : List ℕ) where
  -- the rows of the first i cells are written
  abbrev pub Scattered : ℕ → List ℕ → Type 0
  Scattered i table = table ≡ bytes_of i n res ++ drop (i * n) t

  pub none-scattered : Scattered 0 t
  unfolding bytes_of
  none-scattered = ap (λ (k : ℕ). drop k t) (sym (zero-mul n))

  pub scattered-long : (i : ℕ) (table : List ℕ) → i * n ≤ length t → Scattered i table → length table ≡ length t
  scattered-long i table h e =
      ap length e ∙ length-append (bytes_of i n res) (drop (i * n) t) ∙ omega (arith, bytes-long i n res, length-drop (i * n) t)

  -- what is past them is as it was
  rest : (i : ℕ) (table : List ℕ) → Scattered i table → drop (i * n) table ≡ drop (i * n) t
  rest i table e = ap (drop (i * n)) e ∙ drop_at (bytes_of i n res) (drop (i * n) t) (i * n) (bytes-long i n res)

  pub kept-past : (i : ℕ) (table : List ℕ) → Scattered i table → (j : ℕ) → i * n ≤ j → get_or table j 0 ≡ get_or t j 0
  kept-past i table e j h =
      let at : i * n + (j - i * n) ≡ j = omega arith in
      ap (λ (k : ℕ). get_or table k 0) (sym at)
      ∙ sym (get_or-drop (i * n) table (j - i * n) 0)
      ∙ ap (λ (z : List ℕ). get_or z (j - i * n) 0) (rest i table e)
      ∙ get_or-drop (i * n) t (j - i * n) 0
      ∙ ap (λ (k : ℕ). get_or t k 0) at

  -- m rows more, w bytes in all, and one row more
  pub more-scattered : (i m w : ℕ) (table rows : List ℕ) → w ≡ m * n → Scattered i table → rows ≡ bytes_of m n (λ b. res (i + b))
      → Scattered (i + m) (put (i * n) w rows table)
  unfolding put
  more-scattered i m w table rows g e d =
      let next : i * n + w ≡ (i + m) * n = omega (arith, add-mul i m n) in
      ap₂ (λ (a b : List ℕ). a ++ (rows ++ b))
      (ap (take (i * n)) e ∙ take_at (bytes_of i n res) (drop (i * n) t) (i * n) (bytes-long i n res))
      (sym (drop-drop w (i * n) table) ∙ ap (drop w) (rest i table e) ∙ drop-drop w (i * n) t)
      ∙ sym (append_assoc (bytes_of i n res) rows (drop (i * n + w) t))
      ∙ ap₂ (λ (a : List ℕ) (k : ℕ). a ++ drop k t) (ap (λ (z : List ℕ). bytes_of i n res ++ z) d ∙ sym (bytes-add i m n res)) next

  pub row-scattered : (i : ℕ) (table row : List ℕ) → Scattered i table → row ≡ list_of (λ k. bit (res i k)) n → Scattered (i + 1) (put (i * n) n row table)
  unfolding bytes_of
  row-scattered i table row e d =
      more-scattered i 1 n table row (sym (one-mul n)) e (d ∙ ap (λ (j : ℕ). list_of (λ k. bit (res j k)) n) (sym (add-zero i)))

  -- the row handed back, and stored byte by byte
  pub one-scattered : (i : ℕ) (table row : List ℕ) → Scattered i table → row ≡ list_of (λ k. bit (res i k)) n
      → Scattered (i + 1) (put_mid (i * n) (i * n + n - i * n) table row)
  one-scattered i table row e d = back (i * n) n table row ∙ row-scattered i table row e d

  pub set-scattered : (i : ℕ) (f : ℕ → ℕ) (table after : List ℕ) → i * n + n ≤ length table → Scattered i table
      → ((k : ℕ) → k < n → f k ≡ bit (res i k)) → after ≡ sets table (i * n) (list_of f n) → Scattered (i + 1) after
  unfolding put
  set-scattered i f table after h e same d =
      d
      ∙ sets-eq (list_of f n) table (i * n) (omega (arith, length-list f n))
      ∙ append_assoc (take (i * n) table) (list_of f n) (drop (i * n + length (list_of f n)) table)
      ∙ ap (λ (k : ℕ). take (i * n) table ++ (list_of f n ++ drop (i * n + k) table)) (length-list f n)
      ∙ row-scattered i table (list_of f n) e (list-eq f (λ k. bit (res i k)) n same)

  -- all the rows, and no byte past them
  pub whole-scattered : (i : ℕ) (table : List ℕ) → length t ≡ i * n → Scattered i table → table ≡ bytes_of i n res
  whole-scattered i table h e =
      e ∙ ap (λ (z : List ℕ). bytes_of i n res ++ z) (ap (λ (k : ℕ). drop k t) (sym h) ∙ drop-length t) ∙ append-nil (bytes_of i n res)

-- ---- the rows of the cells from i on, of which the last has the bytes of all: t is what stands then

module _ (n i last : ℕ) (words t : List ℕ) (bytes : (k : ℕ) → k < n → get_or t (last * n + k) 0 ≡ get_or words k 0 / 2 ^ i % 256) where
  -- bit b of a byte of the last row, while the rows before it are written
  pub byte-sends : (b : ℕ) (rows : List ℕ) → b ≤ last → b < 8 → Scattered n (λ c. sends_at words (i + c)) t b rows
      → (k : ℕ) → k < n → bit (bit_at (get_or rows (last * n + k) 0) b) ≡ bit (sends_at words (i + b) k)
  byte-sends b rows h l e k m =
      ap bit (ap (λ (x : ℕ). bit_at x b) (kept-past n (λ c. sends_at words (i + c)) t b rows e (last * n + k) (omega (arith, mul-le-mul_right n h)) ∙ bytes k m)
      ∙ byte-bit (get_or words k 0) i b l)

-- a row of bytes handed back
pub handed : (f : ℕ → ℕ) (a n : ℕ) (t r : List ℕ) → a + n ≤ length t → r ≡ list_of f n → (k : ℕ) → k < n → get_or (put_mid a (a + n - a) t r) (a + k) 0 ≡ f k
handed f a n t r h e k l =
    ap (λ (z : List ℕ). get_or z (a + k) 0) (back a n t r)
    ∙ get_d-put a n r t (ap length e ∙ length-list f n) h k 0 l
    ∙ ap (λ (z : List ℕ). get_or z k 0) e
    ∙ list_at f n k l
