-- The first line: the reader's steps, and that a written first line is read as what was written. Assumes nothing.
use Prim.Native.Nat.{ℕ, zero, suc, ◌+◌, ◌-◌, ◌≤◌, ◌<◌}
use mathlib.Core.Path.{◌≡◌, refl, sym, ap, ◌∙◌}
use mathlib.Core.Bool.{Bool, true, false, ◌&&◌}
use mathlib.Core.List.{List, [], ◌∷◌, ◌++◌, append_assoc, append-nil}
use native.Mathlib.Omega.{arith}
use native.Mathlib.Numerals.{add-one}
use native.Mathlib.Nat.{add-zero, zero-add}
use lib.ListN.{length, drop}
use lib.Seq.{drop-drop, drop-append_seam}
use lib.Dec.{leb}
use borrow.Author.Tests.{le-leb, lt-leb, leb-true}
use Rattle.laws.specs.Choice.{pick}
use Rattle.laws.proofs.Choice.{both, refute}
use Rattle.text.specs.Decimal.{decimal}
use Rattle.lines.specs.Match.{starts, nowhere, eaten}
use Rattle.lines.specs.Format.{comma_byte, cell_number, cr_byte, lf_byte, crlf, column, columns, cell_load, header}
use Rattle.lines.specs.declared.Head.{Head}
use Rattle.lines.specs.Content.{columns_in, columns_read, cells_of_line, head_ok, no_head, head_read}
use Rattle.lines.proofs.Match.{starts_is, starts-there, starts-long, eaten-append}
use Rattle.lines.proofs.Steps.{eaten-lost, eaten-there, eaten-not}

-- ---- columns

pub columns-snoc : (n j : ℕ) → columns j (n + 1) ≡ columns j n ++ column (cell_number (j + n))
unfolding columns
columns-snoc zero j =
    let e : zero + 1 ≡ suc zero = omega arith in
    let g : j + zero ≡ j = omega arith in
    rw (e, g) (append-nil (column (cell_number j)))
columns-snoc (suc n) j =
    let e : suc n + 1 ≡ suc (n + 1) = omega arith in
    let g : j + suc n ≡ suc j + n = omega arith in
    rw (e, g, columns-snoc n (suc j), append_assoc (column (cell_number j)) (columns (suc j) n) (column (cell_number (suc j + n))))

column-some : (x : ℕ) → 0 < length (column x)
unfolding column
column-some x = omega arith

module _ (s : List ℕ) (short : length s < nowhere) where
  pub column-eaten : (p x c q : ℕ) → c ≡ eaten s p (comma_byte ∷ []) → q ≡ eaten s c (decimal x) → q ≡ eaten s p (column x)
  unfolding column
  column-eaten p x c q a b = b ∙ ap (λ (i : ℕ). eaten s i (decimal x)) a ∙ eaten-append s p (comma_byte ∷ []) (decimal x) (omega arith)

  -- no more columns stand there
  pub columns-stop : (p k q : ℕ) → k < 32 → q ≡ eaten s p (column (cell_number k)) → q ≡ nowhere → columns_in (32 - k) k (drop p s) ≡ k
  unfolding columns_in
  columns-stop p k q h a b =
      let e : 32 - k ≡ suc (31 - k) = omega arith in
      rw (e, eaten-not s p (column (cell_number k)) short (column-some (cell_number k)) (sym a ∙ b))

  -- one more stands there
  pub columns-step :
      (p k q : ℕ) → k < 32 → q ≡ eaten s p (column (cell_number k)) → (q ≡ nowhere → ⊥) →
      columns_in (32 - (k + 1)) (k + 1) (drop q s) ≡ columns_in (32 - k) k (drop p s)
  unfolding columns_in
  columns-step p k q h a b =
      let e : 32 - k ≡ suc (32 - (k + 1)) = omega arith in
      let t = eaten-there s p (column (cell_number k)) (λ z. b (a ∙ z)) in
      rw (e, t.0, a ∙ t.1, drop-drop (length (column (cell_number k))) p s, add-one k)

  pub columns-place : (at p k q : ℕ) → p ≡ eaten s at (columns 0 k) → q ≡ eaten s p (column (cell_number k)) → q ≡ eaten s at (columns 0 (k + 1))
  columns-place at p k q a b =
      b ∙ ap (λ (i : ℕ). eaten s i (column (cell_number k))) a ∙ eaten-append s at (columns 0 k) (column (cell_number k)) (omega arith)
      ∙ ap (eaten s at) (sym (columns-snoc k 0 ∙ ap (λ (i : ℕ). columns 0 k ++ column i) (omega arith)))

  pub columns-end : (at p k : ℕ) → p ≡ eaten s at (columns 0 k) → columns_in (32 - k) k (drop p s) ≡ columns_in 32 0 (drop at s)
      → columns_in (32 - k) k (drop p s) ≡ k → record { cells = k; next = p } ≡ columns_read s at
  unfolding columns_read
  columns-end at p k a b c = rw (sym b ∙ c, a)

  pub columns-full : (p k : ℕ) → 32 ≤ k → columns_in (32 - k) k (drop p s) ≡ k
  unfolding columns_in
  columns-full p k h = let e : 32 - k ≡ 0 = omega arith in rw e

  pub columns-begin : (at : ℕ) → at ≡ eaten s at (columns 0 0)
  unfolding columns eaten starts
  columns-begin at = sym (add-zero at)

-- ---- the first line

module _ (s : List ℕ) (short : length s < nowhere) where
  head-some : 0 < length (header (cells_of_line s))
  unfolding header
  head-some = omega arith

  pub head-lost : eaten s 0 (header (cells_of_line s)) ≡ nowhere → no_head ≡ head_read s
  unfolding head_read head_ok
  head-lost e = rw (eaten-not s 0 _ short head-some e) (go (leb 1 (cells_of_line s)))
    where
      go : (t : Bool) → no_head ≡ pick (t && false) (record { cells = cells_of_line s; next = length (header (cells_of_line s)) }) no_head
      go true = refl
      go false = refl

  pub head-none : cells_of_line s < 1 → no_head ≡ head_read s
  unfolding head_read head_ok
  head-none h = rw (lt-leb _ _ h)

  head-there : 1 ≤ cells_of_line s → (eaten s 0 (header (cells_of_line s)) ≡ nowhere → ⊥)
      → record { cells = cells_of_line s; next = eaten s 0 (header (cells_of_line s)) } ≡ head_read s
  unfolding head_read head_ok
  head-there h e =
      let t = eaten-there s 0 (header (cells_of_line s)) e in
      rw (le-leb _ _ h, t.0, t.1 ∙ zero-add _)

  module _ (a : ℕ) (begun : a ≡ eaten s 0 cell_load) where
    pub no-begin : a ≡ nowhere → no_head ≡ head_read s
    unfolding header
    no-begin e = head-lost (eaten-lost s 0 cell_load _ (omega arith) (sym begun ∙ e))

    module _ (on : a ≡ nowhere → ⊥) (h : Head) (read : h ≡ columns_read s a) where
      begin-end : a ≡ 9
      begin-end = begun ∙ (eaten-there s 0 cell_load (λ e. on (begun ∙ e))).1

      pub cells_are : h.cells ≡ cells_of_line s
      unfolding cells_of_line columns_read
      cells_are = ap (λ (x : Head). x.cells) read ∙ ap (λ (i : ℕ). columns_in 32 0 (drop i s)) begin-end

      place_is : h.next ≡ eaten s a (columns 0 (cells_of_line s))
      unfolding cells_of_line columns_read
      place_is = ap (λ (x : Head). x.next) read ∙ ap (λ (i : ℕ). eaten s a (columns 0 (columns_in 32 0 (drop i s)))) begin-end

      pub no_cells : h.cells < 1 → no_head ≡ head_read s
      no_cells l = head-none (omega (arith, cells_are))

      module _ (cr end : ℕ) (p : cr ≡ eaten s h.next (cr_byte ∷ [])) (q : end ≡ eaten s cr (lf_byte ∷ [])) where
        end_is : end ≡ eaten s 0 (header (cells_of_line s))
        unfolding header
        end_is =
            q ∙ ap (λ (i : ℕ). eaten s i (lf_byte ∷ [])) p ∙ eaten-append s h.next (cr_byte ∷ []) (lf_byte ∷ []) (omega arith)
            ∙ ap (λ (i : ℕ). eaten s i crlf) place_is ∙ eaten-append s a _ crlf (omega arith)
            ∙ ap (λ (i : ℕ). eaten s i (columns 0 (cells_of_line s) ++ crlf)) begun ∙ eaten-append s 0 cell_load _ (omega arith)

        pub no-head-end : end ≡ nowhere → no_head ≡ head_read s
        no-head-end e = head-lost (sym end_is ∙ e)

        pub whole-head : 1 ≤ h.cells → (end ≡ nowhere → ⊥) → record { cells = h.cells; next = end } ≡ head_read s
        whole-head l e = rw (cells_are, end_is) (head-there (omega (arith, cells_are)) (λ z. e (end_is ∙ z)))

-- ---- a written first line, and any bytes after it

one_more : (m k : ℕ) (r : List ℕ) → columns_in (suc m) k (column (cell_number k) ++ r) ≡ columns_in m (suc k) r
unfolding columns_in
one_more m k r = rw (starts-there (column (cell_number k)) r, drop-append_seam (column (cell_number k)) r)

no_more : (m k : ℕ) (r : List ℕ) → columns_in m k (crlf ++ r) ≡ k
unfolding columns_in starts column
no_more zero k r = refl
no_more (suc m) k r = refl

columns-written : (n m k : ℕ) (r : List ℕ) → n ≤ m → columns_in m k (columns k n ++ (crlf ++ r)) ≡ k + n
unfolding columns
columns-written zero m k r h = no_more m k r ∙ sym (add-zero k)
columns-written (suc n) zero k r h = absurd (omega arith)
columns-written (suc n) (suc m) k r h =
    ap (columns_in (suc m) k) (append_assoc (column (cell_number k)) (columns (suc k) n) (crlf ++ r))
    ∙ one_more m k (columns (suc k) n ++ (crlf ++ r))
    ∙ columns-written n m (suc k) r (omega arith)
    ∙ omega arith

pub cells-written : (n : ℕ) (r : List ℕ) → n ≤ 32 → cells_of_line (header n ++ r) ≡ n
unfolding cells_of_line header
cells-written n r h = rw (append_assoc (columns 0 n) crlf r) (columns-written n 32 0 r h ∙ zero-add n)

pub head-written : (n : ℕ) (r : List ℕ) → 1 ≤ n → n ≤ 32 → head_ok (header n ++ r) ≡ true
unfolding head_ok
head-written n r l h = rw (cells-written n r h, le-leb 1 n l) (starts-there (header n) r)

-- a first line that is well is there
pub head-is : (r : List ℕ) → head_ok r ≡ true → (1 ≤ cells_of_line r) × (r ≡ header (cells_of_line r) ++ drop (length (header (cells_of_line r))) r)
unfolding head_ok
head-is r h = let b = both _ _ h in (leb-true _ _ b.0, starts_is _ _ b.1)

few : (n k : ℕ) (r : List ℕ) → columns_in n k r ≤ k + n
unfolding columns_in
few zero k r = omega arith
few (suc n) k r = go (starts (column (cell_number k)) r) (few n (suc k) (drop (length (column (cell_number k))) r))
  where
    go : (t : Bool) → columns_in n (suc k) (drop (length (column (cell_number k))) r) ≤ suc k + n →
        pick t (columns_in n (suc k) (drop (length (column (cell_number k))) r)) k ≤ k + suc n
    go true h = omega arith
    go false h = omega arith

pub cells-few : (r : List ℕ) → cells_of_line r ≤ 32
unfolding cells_of_line
cells-few r = few 32 0 (drop 9 r)

-- ---- what the answer says

module _ (s : List ℕ) (short : length s < nowhere) where
  told : (t : Bool) → head_ok s ≡ t → head_read s ≡ pick t (record { cells = cells_of_line s; next = length (header (cells_of_line s)) }) no_head
  unfolding head_read
  told t e = rw e

  pub head-bad : (h : Head) → h ≡ head_read s → h.next ≡ nowhere → head_ok s ≡ false
  unfolding head_ok
  head-bad h e n =
      refute _
      (λ t.
      let b : length (header (cells_of_line s)) ≤ length s = starts-long _ _ (both (leb 1 (cells_of_line s)) (starts (header (cells_of_line s)) s) t).1 in
      let z : length (header (cells_of_line s)) ≡ nowhere = sym (ap (λ (x : Head). x.next) (e ∙ told true t)) ∙ n in
      omega (arith, b, z))

  pub head-good : (h : Head) → h ≡ head_read s → (h.next ≡ nowhere → ⊥)
      → (head_ok s ≡ true) × (h ≡ record { cells = cells_of_line s; next = length (header (cells_of_line s)) })
  head-good h e n = go (head_ok s) refl
    where
      go : (t : Bool) → head_ok s ≡ t → (head_ok s ≡ true) × (h ≡ record { cells = cells_of_line s; next = length (header (cells_of_line s)) })
      go true p = (p, e ∙ told true p)
      go false p = absurd (n (ap (λ (x : Head). x.next) (e ∙ told false p)))
