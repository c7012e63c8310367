-- One line: the reader's steps, and that a written line is read as what was written. Assumes nothing.
use Prim.Native.Nat.{ℕ, zero, suc, ◌+◌, ◌*◌, ◌/◌, ◌%◌, ◌^◌, ◌≤◌, ◌<◌}
use mathlib.Core.Path.{◌≡◌, refl, ap, ◌∙◌}
use mathlib.Core.Bool.{Bool, true, false}
use mathlib.Core.List.{List, ◌++◌, append_assoc}
use native.Mathlib.Omega.{arith}
use native.Mathlib.Nat.{two-pow-succ, add-zero, zero-add}
use lib.ListN.{length, drop, get_or}
use lib.Seq.{drop-append_seam, drop-append-add}
use lib.Dec.{eqb}
use borrow.Author.Tests.{le-leb, leb-true}
use Rattle.laws.specs.Sum.{bit}
use Rattle.laws.proofs.Choice.{both}
use Rattle.laws.proofs.Bits.{half-shift}
use Rattle.text.specs.Decimal.{decimal}
use Rattle.lines.specs.Format.{comma_byte, crlf, bits_of, marks, label, cell_line}
use Rattle.lines.specs.Content.{scanned, load_of_line, marks_of_line, mark_of_line, weigh, row_of_line, line_in, line_ok}
use Rattle.lines.proofs.Match.{starts_is, starts-there}
use Rattle.lines.proofs.Numbers.{scanned-decimal, scanned-end}

-- ---- the marks and their row

pub mark-two : (r : List ℕ) (b : ℕ) → mark_of_line r b < 2
unfolding mark_of_line
mark-two r b = go (eqb (get_or r (2 * b + 1) 0) 49)
  where
    go : (t : Bool) → bit t < 2
    go true = omega arith
    go false = omega arith

module _ (f : ℕ → ℕ) (two : (b : ℕ) → f b < 2) where
  pub weigh-lt : (c b : ℕ) → weigh f b c < 2 ^ c
  unfolding weigh
  weigh-lt zero b = omega arith
  weigh-lt (suc c) b = omega (arith, two b, weigh-lt c (suc b), two-pow-succ c)

-- the bits of a row are its marks
pub weigh-bit : (f : ℕ → ℕ) → ((b : ℕ) → f b < 2) → (c i b : ℕ) → i < c → weigh f b c / 2 ^ i % 2 ≡ f (b + i)
unfolding weigh
weigh-bit f two zero i b h = absurd (omega arith)
weigh-bit f two (suc c) zero b h =
    let e : weigh f b (suc c) / 2 ^ 0 % 2 ≡ f b = omega (arith, two b) in
    rw (add-zero b) e
weigh-bit f two (suc c) (suc i) b h =
    let e : (f b + 2 * weigh f (suc b) c) / 2 ≡ weigh f (suc b) c = omega (arith, two b) in
    let g : b + suc i ≡ suc b + i = omega arith in
    rw (half-shift (f b + 2 * weigh f (suc b) c) i, e, g) (weigh-bit f two c i (suc b) (omega arith))

-- the row of the bits of x is x
pub bits-weigh : (f : ℕ → ℕ) (c b x : ℕ) → x < 2 ^ c → ((i : ℕ) → i < c → f (b + i) ≡ x / 2 ^ i % 2) → weigh f b c ≡ x
unfolding weigh
bits-weigh f zero b x h same = omega arith
bits-weigh f (suc c) b x h same =
    let first : f b ≡ x % 2 = rw (add-zero b) at (same 0 (omega arith)) ∙ omega arith in
    let rest : weigh f (suc b) c ≡ x / 2 =
    bits-weigh f c (suc b) (x / 2) (omega (arith, two-pow-succ c))
    (λ i l.
    let g : suc b + i ≡ b + suc i = omega arith in
    rw (g, ← half-shift x i) (same (suc i) (omega arith))) in
    omega arith

-- marks that agree are written alike, and their rows are alike
pub marks-same : (f g : ℕ → ℕ) (n b : ℕ) → ((i : ℕ) → i < n → f (b + i) ≡ g (b + i)) → marks f b n ≡ marks g b n
unfolding marks
marks-same f g zero b same = refl
marks-same f g (suc n) b same =
    let e : f b ≡ g b = rw (add-zero b) at (same 0 (omega arith)) in
    rw (e, marks-same f g n (suc b) (λ i l. let p : suc b + i ≡ b + suc i = omega arith in rw p (same (suc i) (omega arith))))

pub marks-long : (f : ℕ → ℕ) (n b : ℕ) → length (marks f b n) ≡ 2 * n
unfolding marks
marks-long f zero b = refl
marks-long f (suc n) b = omega (arith, marks-long f n (suc b))

-- a written mark is read as it is
pub marks-at : (f : ℕ → ℕ) (n b i : ℕ) (r : List ℕ) → i < n → get_or (marks f b n ++ r) (2 * i + 1) 0 ≡ 48 + f (b + i)
unfolding marks
marks-at f zero b i r h = absurd (omega arith)
marks-at f (suc n) b zero r h = rw (add-zero b)
marks-at f (suc n) b (suc i) r h =
    let e : 2 * suc i + 1 ≡ suc (suc (2 * i + 1)) = omega arith in
    let p : b + suc i ≡ suc b + i = omega arith in
    rw (e, p) (marks-at f n (suc b) i r (omega arith))

-- the bit of a digit
pub digit-bit : (x : ℕ) → x < 2 → bit (eqb (48 + x) 49) ≡ x
digit-bit zero h = refl
digit-bit (suc zero) h = refl
digit-bit (suc (suc x)) h = absurd (omega arith)

-- ---- a written line, and any bytes after it

module _ (n k load : ℕ) (f : ℕ → ℕ) (r : List ℕ) (few : load < 100000) (two : (b : ℕ) → f b < 2) where
  whole : cell_line n k load f ++ r ≡ label k ++ (decimal load ++ (marks f 0 n ++ (crlf ++ r)))
  unfolding cell_line
  whole = simp append_assoc

  after-label : drop (length (label k)) (cell_line n k load f ++ r) ≡ decimal load ++ (marks f 0 n ++ (crlf ++ r))
  after-label = rw whole (drop-append_seam (label k) _)

  comma : (m : ℕ) → 0 < m → scanned load (marks f 0 m ++ (crlf ++ r)) ≡ load
  unfolding marks
  comma zero h = absurd (omega arith)
  comma (suc m) h = scanned-end load comma_byte _ (omega arith)

  pub load-written : 0 < n → load_of_line k (cell_line n k load f ++ r) ≡ load
  unfolding load_of_line
  load-written h = rw after-label (scanned-decimal load _ few ∙ comma n h)

  module _ (some : 0 < n) where
    marks-written : marks_of_line k (cell_line n k load f ++ r) ≡ marks f 0 n ++ (crlf ++ r)
    unfolding marks_of_line
    marks-written = rw (load-written some, whole, drop-append-add (label k) (decimal load ++ (marks f 0 n ++ (crlf ++ r))) (length (decimal load)))
        (drop-append_seam (decimal load) _)

    pub mark-written : (i : ℕ) → i < n → mark_of_line (marks_of_line k (cell_line n k load f ++ r)) i ≡ f i
    unfolding mark_of_line
    mark-written i h =
        rw (marks-written, marks-at f n 0 i (crlf ++ r) h, zero-add i) (digit-bit (f i) (two i))

    -- it is the line that its content gives
    pub line-written : line_in n k (cell_line n k load f ++ r) ≡ cell_line n k load f
    unfolding line_in cell_line
    line-written =
        rw (load-written some, marks-same (mark_of_line (marks_of_line k (cell_line n k load f ++ r))) f n 0 (λ i h. rw (zero-add i) (mark-written i h)))

    pub ok-written : load ≤ 65535 → line_ok n k (cell_line n k load f ++ r) ≡ true
    unfolding line_ok
    ok-written h = rw (load-written some, le-leb load 65535 h, line-written) (starts-there (cell_line n k load f) r)

    pub row_written : (x : ℕ) → x < 2 ^ n → ((i : ℕ) → i < n → f i ≡ x / 2 ^ i % 2) → row_of_line n k (cell_line n k load f ++ r) ≡ x
    unfolding row_of_line
    row_written x l same = bits-weigh (mark_of_line (marks_of_line k (cell_line n k load f ++ r))) n 0 x l
        (λ i h. rw (zero-add i) (mark-written i h ∙ same i h))

-- a line that is well is there
pub line-there : (n k : ℕ) (r : List ℕ) → line_ok n k r ≡ true → (load_of_line k r ≤ 65535) × (r ≡ line_in n k r ++ drop (length (line_in n k r)) r)
unfolding line_ok
line-there n k r h = let b = both _ _ h in (leb-true _ _ b.0, starts_is _ _ b.1)

-- and it is written from its load and its row
pub line-content : (n k : ℕ) (r : List ℕ) → cell_line n k (load_of_line k r) (bits_of (row_of_line n k r)) ≡ line_in n k r
unfolding line_in cell_line row_of_line bits_of
line-content n k r =
    let f = mark_of_line (marks_of_line k r) in
    rw (marks-same (λ b. weigh f 0 n / 2 ^ b % 2) f n 0 (λ i l. rw (zero-add i) (weigh-bit f (mark-two (marks_of_line k r)) n i 0 l ∙ ap f (zero-add i))))
