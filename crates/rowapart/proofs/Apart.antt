-- A row that is marked apart from the table is marked as it would be in its place there (`here`): marking looks at the rows before it alone. So the laws of
-- crate `planrows` are laws of it. Assumes nothing.
use mathlib.Core.Path.{◌≡◌, refl, sym, ap, ap₂, ◌∙◌}
use mathlib.Core.Bool.{Bool, true, false, ◌&&◌, not}
use mathlib.Core.List.{List, []}
use Prim.Native.Nat.{ℕ, zero, suc, ◌+◌, ◌*◌, ◌≤◌, ◌<◌}
use native.Mathlib.Numerals.{add-one}
use native.Mathlib.Omega.{arith}
use lib.Bits.{bit_or}
use lib.Dec.{eqb}
use lib.ListN.{length, get_or, replicate, length-replicate, get_or-replicate}
use Rattle.laws.specs.Bits.{bit_at, bit_in, set_bit, word_of}
use Rattle.laws.specs.Choice.{pick}
use Rattle.laws.specs.Part.{part, put, list_of, Below}
use Rattle.laws.specs.Sum.{any}
use Rattle.laws.proofs.Grid.{row_before}
use Rattle.laws.proofs.Part.{length-put, part-put, part-put-before, put-put, get_d_part, get_d-put}
use Rattle.laws.proofs.Stores.{length-list, list-eq}
use Rattle.theory.specs.Net.{unblocked}
use Rattle.theory.specs.Greedy.{row_at, reserved, forbid, fill, unmet}
use Rattle.theory.proofs.Row.{marked-length, marked-at}
use Rattle.site.specs.Reach.{net_in}
use Rattle.rows.specs.Bars.{bar_row, lifted}
use Rattle.rows.specs.Stretch.{SameBut, SendsIn, cover_at}
use Rattle.rows.proofs.Bars.{fill-bars, unmet-bars}
use Rattle.planrows.specs.Row.{marks_in, marks_on, marks_here, row_short, EitherWay, near_in, by_word, RowsMarked}
use Rattle.planrows.proofs.Marked.{on-length, marks-skip, open-marks, barred-marks, barred-sends}
use Rattle.planrows.proofs.Over.{by_near, by_over}
use Rattle.planrows.proofs.Sent.{same-but-is, marked-put}
use Rattle.rowapart.specs.Code.{cover_by}

-- the row r, of cell i, and the table t with that row in its place
module _ (n i : ℕ) (t r : List ℕ) (long : length r ≡ n) (fits : i * n + n ≤ length t) where
  abbrev laid : List ℕ
  laid = put (i * n) n r t

  laid-fits : i * n + n ≤ length laid
  laid-fits = omega (arith, length-put (i * n) n r t long fits)

  -- its bytes, and those of the rows before
  theirs : (j p : ℕ) → j < i → p < n → get_or laid (j * n + p) 0 ≡ get_or t (j * n + p) 0
  theirs j p l h =
      sym (get_d_part (j * n) n laid p 0 h)
      ∙ ap (λ (x : List ℕ). get_or x p 0) (part-put-before (i * n) n r t long fits (j * n) n (row_before n l))
      ∙ get_d_part (j * n) n t p 0 h

  covered : (j : ℕ) → j < i → list_of (cover_by n t j r) n ≡ list_of (cover_at n laid j i) n
  covered j l =
      list-eq (cover_by n t j r) (cover_at n laid j i) n (λ p h.
      ap₂ (λ (a b : ℕ). pick (eqb a 0) b 2) (sym (theirs j p l h)) (sym (get_d-put (i * n) n r t long fits p 0 h)))

  module _ (clash : ℕ → ℕ → Bool) where
    same : (z : List ℕ) (j : ℕ) → j ≤ i → marks_on n clash laid i z j ≡ marks_on n clash t i z j
    unfolding marks_on
    same z zero h = refl
    same z (suc j) h =
        (λ x.
        pick (clash j i)
        (forbid (part-put-before (i * n) n r t long fits (j * n) n (row_before n h) x) (same z j (omega arith) x))
        (same z j (omega arith) x))

    here-below : (j : ℕ) → j ≤ i → marks_on n clash laid i (part (i * n) n laid) j ≡ marks_on n clash t i r j
    here-below j h = ap (λ (z : List ℕ). marks_on n clash laid i z j) (part-put (i * n) n r t long fits) ∙ same r j h

    pub here : marks_here n clash (put (i * n) n r t) i ≡ marks_on n clash t i r i
    here = here-below i (omega arith)

    -- the cells from j to k do not mark it
    pub apart-skip : (j k : ℕ) → j ≤ k → k ≤ i → ((m : ℕ) → j ≤ m → m < k → clash m i ≡ false) → marks_on n clash t i r j ≡ marks_on n clash t i r k
    apart-skip j k l h none =
        let z : ℕ → List ℕ = marks_on n clash laid i (part (i * n) n laid) in
        let long' : (m : ℕ) → length (z m) ≡ n
        = λ m. on-length n clash laid i (part (i * n) n laid) m ∙ ap length (part-put (i * n) n r t long fits) ∙ long in
        sym (here-below j (omega arith))
        ∙ sym (part-put (i * n) n (z j) laid (long' j) laid-fits)
        ∙ ap (part (i * n) n) (marks-skip n clash i laid laid-fits j k l none refl)
        ∙ part-put (i * n) n (z k) laid (long' k) laid-fits
        ∙ here-below k h

    -- an idle row
    pub apart-open : r ≡ replicate n 0 → marks_on n clash t i r i ≡ marks_in n clash t i
    apart-open idle = sym here ∙ open-marks n clash i t fits r long refl idle

    -- a barred row
    module _ (u : ℕ → Bool) (bars : r ≡ bar_row u 0 (replicate n 0)) where
      pub apart-barred : marks_on n clash t i r i ≡ bar_row u 0 (marks_in n clash t i)
      apart-barred = sym here ∙ barred-marks n clash i t fits r long refl u bars

      low : (c : Bool) (b : ℕ) → b ≡ pick c 2 0 → b < 4
      low true b e = omega arith
      low false b e = omega arith

      low-bytes : Below 4 (length (marks_in n clash t i)) (marks_in n clash t i)
      low-bytes k h =
          low (any (λ m. clash m i && reserved n t m k) i) (get_or (marks_in n clash t i) k 0)
          (marked-at (net_in 0 n [] clash unblocked) t i i k (omega (arith, marked-length (net_in 0 n [] clash unblocked) t i i)))

      pub apart-lifted : (load : ℕ) → lifted (fill unblocked 0 load (marks_on n clash t i r i)) ≡ fill u 0 load (marks_in n clash t i)
      apart-lifted load = ap (λ (m : List ℕ). lifted (fill unblocked 0 load m)) apart-barred ∙ fill-bars u 0 0 load (marks_in n clash t i) low-bytes

      pub apart-short : (load : ℕ) → unmet unblocked 0 load (marks_on n clash t i r i) ≡ row_short n clash u i load t
      apart-short load = ap (unmet unblocked 0 load) apart-barred ∙ unmet-bars u 0 0 load (marks_in n clash t i)

      pub apart-sends : {w : List ℕ} (load a b : ℕ) → w ≡ fill u 0 load (marks_in n clash t i)
          → SameBut a b (marks_on n clash t i r i) (fill unblocked 0 load (marks_on n clash t i r i)) → SendsIn n (put (i * n) n w t) i a b
      apart-sends load a b is s =
          barred-sends n clash i t fits r long refl u bars load a b (ap (λ (z : List ℕ). put (i * n) n z t) is)
          (same-but-is (sym here) (ap (fill unblocked 0 load) (sym here)) s)

  -- the cells of a word
  module _ (clash : List ℕ) (two : EitherWay clash) where
    pub apart-near : {w : ℕ} → w ≡ near_in clash i → marks_on n (by_word w) t i r i ≡ marks_on n (bit_in clash) t i r i
    apart-near {w} is = sym (here (by_word w)) ∙ by_near clash n i laid laid-fits two is ∙ here (bit_in clash)

-- no cell yet; and one more, that clashes
pub apart_none : (n i : ℕ) (clash : ℕ → ℕ → Bool) (t r : List ℕ) → r ≡ marks_on n clash t i r 0
unfolding marks_on
apart_none n i clash t r = refl

pub apart-yes : (n i : ℕ) (clash : ℕ → ℕ → Bool) (t r : List ℕ) (j : ℕ) → clash j i ≡ true
    → marks_on n clash t i r (j + 1) ≡ forbid (row_at n t j) (marks_on n clash t i r j)
unfolding marks_on
apart-yes n i clash t r j here' = rw (add-one, here') refl

-- v is the row r with the marks of the row before taken over
module _ (n i : ℕ) (t r v : List ℕ) (long : length r ≡ n) (fits : i * n + n ≤ length t) (clash : List ℕ) (two : EitherWay clash) (j : ℕ) (next : i ≡ j + 1)
    (is : v ≡ list_of (cover_by n t j r) n) where
  v-long : length v ≡ n
  v-long = ap length is ∙ length-list (cover_by n t j r) n

  pub apart-over : i < 32 → RowsMarked n (bit_in clash) t i → bit_or (set_bit (near_in clash j) j) (near_in clash i) ≡ near_in clash i
      → {w : ℕ} → w ≡ word_of (λ b. bit_at (near_in clash i) b && not (bit_at (set_bit (near_in clash j) j) b)) 32
      → marks_on n (by_word w) t i v i ≡ marks_on n (bit_in clash) t i r i
  apart-over small marked inside {w} word =
      let t₁ : List ℕ = put (i * n) n r t in
      let laid' : put (i * n) n v t ≡ put (i * n) n (list_of (cover_at n t₁ j i) n) t₁
      = ap (λ (z : List ℕ). put (i * n) n z t) (is ∙ covered n i t r long fits j (omega arith))
      ∙ sym (put-put (i * n) n r t long fits (list_of (cover_at n t₁ j i) n)) in
      sym (here n i t v v-long fits (by_word w))
      ∙ by_over clash n i t₁ (laid-fits n i t r long fits) two j next small (marked-put n i r t long fits (bit_in clash) refl marked) inside word laid'
      ∙ here n i t r long fits (bit_in clash)

-- the same of an idle row, which nobody has cleared
pub apart-idle : (n i : ℕ) (t v : List ℕ) → i * n + n ≤ length t → (clash : List ℕ) → EitherWay clash → (j : ℕ) → i ≡ j + 1
    → v ≡ list_of (cover_by n t j []) n → i < 32 → RowsMarked n (bit_in clash) t i → bit_or (set_bit (near_in clash j) j) (near_in clash i) ≡ near_in clash i
    → {w : ℕ} → w ≡ word_of (λ b. bit_at (near_in clash i) b && not (bit_at (set_bit (near_in clash j) j) b)) 32
    → marks_on n (by_word w) t i v i ≡ marks_in n (bit_in clash) t i
apart-idle n i t v fits clash two j next is small marked inside word =
    let r : List ℕ = replicate n 0 in
    let long : length r ≡ n = length-replicate {A = ℕ} n 0 in
    let covers : v ≡ list_of (cover_by n t j r) n
    = is ∙ list-eq (cover_by n t j []) (cover_by n t j r) n (λ p h.
    ap (λ (b : ℕ). pick (eqb (get_or t (j * n + p) 0) 0) b 2) (sym (get_or-replicate n p 0 0 h))) in
    apart-over n i t r v long fits clash two j next covers small marked inside word ∙ apart-open n i t r long fits (bit_in clash) refl
