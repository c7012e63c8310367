-- A table while one row of it is laid, marked by the earlier clashing rows (`marks`), filled, and lifted. The rows before stay as they were, and they are
-- all that marking looks at. Assumes nothing.
use mathlib.Core.Path.{◌≡◌, refl, sym, ap, ◌∙◌}
use mathlib.Core.Bool.{Bool, true, false, ◌&&◌}
use mathlib.Core.List.{List, [], ◌∷◌}
use Prim.Native.Nat.{ℕ, zero, suc, ◌+◌, ◌-◌, ◌*◌, ◌≤◌, ◌<◌}
use native.Mathlib.Numerals.{add-one}
use native.Mathlib.Nat.{add-zero}
use native.Mathlib.Omega.{arith}
use borrow.Rule.Slice.PartMut.{mid_of, put_mid}
use lib.ListN.{length, get_or, take, replicate}
use Rattle.laws.specs.Choice.{pick}
use Rattle.laws.specs.Part.{part, put, Below}
use Rattle.laws.specs.Sum.{any}
use Rattle.laws.proofs.Part.{put-part, length-put, part-put, part-put-before, put-put, part-take, length_part, take_put, lent, back}
use Rattle.laws.proofs.Grid.{row_before}
use Rattle.rows.specs.Bars.{bar_row, lifted}
use Rattle.rows.proofs.Bars.{bars-length, forbid-bars, lift-bars, fill-bars, unmet-bars}
use Rattle.rows.specs.Stretch.{SameBut, SendsIn}
use Rattle.theory.specs.Net.{Net, unblocked}
use Rattle.theory.specs.Greedy.{row_at, reserved, forbid, marked, fill, unmet}
use Rattle.theory.proofs.Row.{forbid-length, either-length, marked-length, marked-at, fill-length}
use Rattle.site.specs.Reach.{net_in}
use Rattle.planrows.specs.Row.{marks_in, marks_on, marks_here, row_planned, row_short, opens}
use Rattle.planrows.proofs.Sent.{same-but-is, same-but-lifted, planned-sends}

-- ---- marks on a row that need not be idle

module _ (n : ℕ) (clash : ℕ → ℕ → Bool) where
  pub on-length : (t : List ℕ) (i : ℕ) (r : List ℕ) (j : ℕ) → length (marks_on n clash t i r j) ≡ length r
  unfolding marks_on
  on-length t i r zero = refl
  on-length t i r (suc j) =
      let ih = on-length t i r j in either-length (clash j i) _ _ (length r) (forbid-length _ (marks_on n clash t i r j) ∙ ih) ih

  on-take : (i : ℕ) (t r : List ℕ) → i * n ≤ length t → (j : ℕ) → j ≤ i → marks_on n clash (take (i * n) t) i r j ≡ marks_on n clash t i r j
  unfolding marks_on
  on-take i t r fits zero h = refl
  on-take i t r fits (suc j) h =
      (λ x.
      pick (clash j i)
      (forbid (part-take (j * n) n (i * n) t (row_before n h) fits x) (on-take i t r fits j (omega arith) x))
      (on-take i t r fits j (omega arith) x))

  -- cells that do not clash leave no mark
  on-more : (t : List ℕ) (i : ℕ) (r : List ℕ) (j d : ℕ) → ((m : ℕ) → j ≤ m → m < j + d → clash m i ≡ false)
      → marks_on n clash t i r j ≡ marks_on n clash t i r (j + d)
  unfolding marks_on
  on-more t i r j zero none = rw add-zero refl
  on-more t i r j (suc d) none =
      let e : j + suc d ≡ suc (j + d) = omega arith in
      on-more t i r j d (λ m a b. none m a (omega arith))
      ∙ rw (e, none (j + d) (omega arith) (omega arith)) refl

  on-skip : (t : List ℕ) (i : ℕ) (r : List ℕ) (j k : ℕ) → j ≤ k → ((m : ℕ) → j ≤ m → m < k → clash m i ≡ false)
      → marks_on n clash t i r j ≡ marks_on n clash t i r k
  on-skip t i r j k l none =
      let e : j + (k - j) ≡ k = omega arith in
      on-more t i r j (k - j) (λ m a b. none m a (omega arith)) ∙ ap (marks_on n clash t i r) e

  -- on an idle row they are the planner's
  on-idle : (t : List ℕ) (i j : ℕ) → marks_on n clash t i (replicate n 0) j ≡ marked (net_in 0 n [] clash unblocked) t i j
  unfolding marks_on marked
  on-idle t i zero = refl
  on-idle t i (suc j) = (λ x. pick (clash j i) (forbid (row_at n t j) (on-idle t i j x)) (on-idle t i j x))

  bars-pick : (c : Bool) (u : ℕ → Bool) (e m : List ℕ) → pick c (forbid e (bar_row u 0 m)) (bar_row u 0 m) ≡ bar_row u 0 (pick c (forbid e m) m)
  bars-pick true u e m = forbid-bars u 0 e m
  bars-pick false u e m = refl

  -- on a barred row they leave the bars
  on-bars : (u : ℕ → Bool) (t : List ℕ) (i : ℕ) (r : List ℕ) (j : ℕ) → marks_on n clash t i (bar_row u 0 r) j ≡ bar_row u 0 (marks_on n clash t i r j)
  unfolding marks_on
  on-bars u t i r zero = refl
  on-bars u t i r (suc j) =
      (λ x. pick (clash j i) (forbid (row_at n t j) (on-bars u t i r j x)) (on-bars u t i r j x))
      ∙ bars-pick (clash j i) u (row_at n t j) (marks_on n clash t i r j)

-- a marked row has low bytes
low_byte : (c : Bool) (b : ℕ) → b ≡ pick c 2 0 → b < 4
low_byte true b e = omega arith
low_byte false b e = omega arith

marked-low : (s : Net) (t : List ℕ) (i j : ℕ) → Below 4 (length (marked s t i j)) (marked s t i j)
marked-low s t i j k h =
    low_byte (any (λ m. s.clash m i && reserved s.width t m k) j) (get_or (marked s t i j) k 0)
    (marked-at s t i j k (omega (arith, marked-length s t i j)))

-- ---- while a row is marked

-- t with row i, as it stands, marked by the first j cells
abbrev pub marks : ℕ → (ℕ → ℕ → Bool) → ℕ → ℕ → List ℕ → List ℕ
marks n clash i j t = put (i * n) n (marks_on n clash t i (part (i * n) n t) j) t

module _ (n : ℕ) (clash : ℕ → ℕ → Bool) (i : ℕ) (t : List ℕ) (fits : i * n + n ≤ length t) where
  pub here-long : (j : ℕ) → length (marks_on n clash t i (part (i * n) n t) j) ≡ n
  here-long j = on-length n clash t i (part (i * n) n t) j ∙ length_part (i * n) n t fits

  pub marks-long : (j : ℕ) → length (marks n clash i j t) ≡ length t
  marks-long j = length-put (i * n) n _ t (here-long j) fits

  pub marks-none : t ≡ marks n clash i 0 t
  unfolding marks_on
  marks-none = sym (put-part (i * n) n t fits)

  -- the cells from j to k do not mark it
  pub marks-skip : {u : List ℕ} (j k : ℕ) → j ≤ k → ((m : ℕ) → j ≤ m → m < k → clash m i ≡ false) → u ≡ marks n clash i j t → u ≡ marks n clash i k t
  marks-skip j k l none is = is ∙ ap (λ (r : List ℕ). put (i * n) n r t) (on-skip n clash t i (part (i * n) n t) j k l none)

  module _ {u v : List ℕ} (j : ℕ) (is : u ≡ marks n clash i j t) where
    pub marks-yes : j < i → true ≡ clash j i → v ≡ put (i * n) n (forbid (part (j * n) n u) (part (i * n) n u)) u → v ≡ marks n clash i (j + 1) t
    unfolding marks_on
    marks-yes before yes' e =
        let m : List ℕ = marks_on n clash t i (part (i * n) n t) j in
        let theirs : part (j * n) n u ≡ part (j * n) n t = rw is (part-put-before (i * n) n m t (here-long j) fits (j * n) n (row_before n before)) in
        let mine : part (i * n) n u ≡ m = rw is (part-put (i * n) n m t (here-long j) fits) in
        e ∙ rw (theirs, mine, is, put-put (i * n) n m t (here-long j) fits, add-one, ← yes') refl

-- ---- a row that is put, lent again and handed back

-- t₂ is t with m for its n elements from a on
module _ (a n : ℕ) (m t : List ℕ) (long : length m ≡ n) (fits : a + n ≤ length t) {t₂ : List ℕ} (is : t₂ ≡ put a n m t) where
  pub lent-put : mid_of a (a + n - a) t₂ ≡ m
  lent-put = lent a n t₂ ∙ ap (part a n) is ∙ part-put a n m t long fits

  pub back-put : (r : List ℕ) → put_mid a (a + n - a) t₂ r ≡ put a n r t
  back-put r = back a n t₂ r ∙ ap (put a n r) is ∙ put-put a n m t long fits r

-- what is lent of row a, cleared, and with a mask laid on it
pub cleared : (a n : ℕ) (t : List ℕ) → a + n ≤ length t → {z : List ℕ} → z ≡ replicate (length (mid_of a (a + n - a) t)) 0 → z ≡ replicate n 0
cleared a n t fits e = e ∙ ap (λ (k : ℕ). replicate k 0) (ap length (lent a n t) ∙ length_part a n t fits)

pub masked : (a n : ℕ) (t mask : List ℕ) → a + n ≤ length t → {z : List ℕ} → z ≡ take (length (mid_of a (a + n - a) t)) mask → z ≡ take n mask
masked a n t mask fits e = e ∙ ap (λ (k : ℕ). take k mask) (ap length (lent a n t) ∙ length_part a n t fits)

pub masked-fits : (a n : ℕ) (t : List ℕ) → a + n ≤ length t → {m : ℕ} → n ≤ m → length (mid_of a (a + n - a) t) ≤ m
masked-fits a n t fits h = let e : length (mid_of a (a + n - a) t) ≡ n = ap length (lent a n t) ∙ length_part a n t fits in omega (arith, e)

-- a mask without bytes leaves every position usable
pub bare : (mask : List ℕ) → length mask ≡ 0 → unblocked ≡ opens mask
bare [] e = refl
bare (b ∷ mask) e = let z : suc (length mask) ≡ 0 = e in absurd (omega arith)

-- t₁ is t with the row z laid for row i, and then marked and filled
module _ (n : ℕ) (clash : ℕ → ℕ → Bool) (i : ℕ) (t : List ℕ) (fits : i * n + n ≤ length t) (z : List ℕ) (long : length z ≡ n) where
  here : marks_here n clash (put (i * n) n z t) i ≡ marks_on n clash t i z i
  here =
      let t₁ : List ℕ = put (i * n) n z t in
      let same : length t₁ ≡ length t = length-put (i * n) n z t long fits in
      let low : i * n ≤ length t = omega arith in
      let low₁ : i * n ≤ length t₁ = omega arith in
      let self : i ≤ i = omega arith in
      ap (λ (r : List ℕ). marks_on n clash t₁ i r i) (part-put (i * n) n z t long fits)
      ∙ sym (on-take n clash i t₁ z low₁ i self)
      ∙ ap (λ (l : List ℕ). marks_on n clash l i z i) (take_put (i * n) n z t long fits)
      ∙ on-take n clash i t z low i self

  module _ {t₁ : List ℕ} (laid : t₁ ≡ put (i * n) n z t) where
    pub laid-long : length t₁ ≡ length t
    laid-long = ap length laid ∙ length-put (i * n) n z t long fits

    here-laid : marks_here n clash t₁ i ≡ marks_on n clash t i z i
    here-laid = ap (λ (l : List ℕ). marks_here n clash l i) laid ∙ here

    row-taken : {t₂ : List ℕ} (load : ℕ) → t₂ ≡ put (i * n) n (fill unblocked 0 load (marks_here n clash t₁ i)) t₁
        → t₂ ≡ put (i * n) n (fill unblocked 0 load (marks_on n clash t i z i)) t
    row-taken load e =
        e ∙ (λ x. put (i * n) n (fill unblocked 0 load (here-laid x)) (laid x)) ∙ put-put (i * n) n z t long fits _

    -- an idle row
    module _ (idle : z ≡ replicate n 0) where
      as-planned : marks_on n clash t i z i ≡ marks_in n clash t i
      as-planned = ap (λ (r : List ℕ). marks_on n clash t i r i) idle ∙ on-idle n clash t i i

      pub open-marks : marks_here n clash t₁ i ≡ marks_in n clash t i
      open-marks = here-laid ∙ as-planned

      pub open_row : {t₂ : List ℕ} (load : ℕ) → t₂ ≡ put (i * n) n (fill unblocked 0 load (marks_here n clash t₁ i)) t₁
          → t₂ ≡ row_planned n clash unblocked i load t
      open_row load e = row-taken load e ∙ ap (λ (m : List ℕ). put (i * n) n (fill unblocked 0 load m) t) as-planned

      pub open-short : {m : ℕ} (load : ℕ) → m ≡ unmet unblocked 0 load (marks_here n clash t₁ i) → m ≡ row_short n clash unblocked i load t
      open-short load e = e ∙ ap (unmet unblocked 0 load) (here-laid ∙ as-planned)

      pub open-sends : {t₂ : List ℕ} (load a b : ℕ) → t₂ ≡ put (i * n) n (fill unblocked 0 load (marks_here n clash t₁ i)) t₁
          → SameBut a b (marks_here n clash t₁ i) (fill unblocked 0 load (marks_here n clash t₁ i)) → SendsIn n t₂ i a b
      open-sends load a b e s =
          let is : marks_here n clash t₁ i ≡ marks_in n clash t i = here-laid ∙ as-planned in
          planned-sends n clash i t fits unblocked load a b (open_row load e) (same-but-is is (ap (fill unblocked 0 load) is) s)

    -- a barred row, which is lifted at the end
    module _ (u : ℕ → Bool) (bars : z ≡ bar_row u 0 (replicate n 0)) where
      as-barred : marks_on n clash t i z i ≡ bar_row u 0 (marks_in n clash t i)
      as-barred =
          ap (λ (r : List ℕ). marks_on n clash t i r i) bars ∙ on-bars n clash u t i (replicate n 0) i ∙ ap (bar_row u 0) (on-idle n clash t i i)

      pub barred-marks : marks_here n clash t₁ i ≡ bar_row u 0 (marks_in n clash t i)
      barred-marks = here-laid ∙ as-barred

      low-bytes : Below 4 (length (marks_in n clash t i)) (marks_in n clash t i)
      low-bytes k h = marked-low (net_in 0 n [] clash unblocked) t i i k h

      filled-long : (load : ℕ) → length (fill unblocked 0 load (bar_row u 0 (marks_in n clash t i))) ≡ n
      filled-long load =
          fill-length unblocked 0 load (bar_row u 0 (marks_in n clash t i)) ∙ bars-length u 0 (marks_in n clash t i)
          ∙ marked-length (net_in 0 n [] clash unblocked) t i i

      pub barred-row : {t₂ r : List ℕ} (load : ℕ) → t₂ ≡ put (i * n) n (fill unblocked 0 load (marks_here n clash t₁ i)) t₁
          → r ≡ lifted (mid_of (i * n) (i * n + n - i * n) t₂) → put_mid (i * n) (i * n + n - i * n) t₂ r ≡ row_planned n clash u i load t
      barred-row {t₂} {r} load e f =
          let m : List ℕ = fill unblocked 0 load (bar_row u 0 (marks_in n clash t i)) in
          let is : t₂ ≡ put (i * n) n m t = row-taken load e ∙ ap (λ (l : List ℕ). put (i * n) n (fill unblocked 0 load l) t) as-barred in
          let up : r ≡ fill u 0 load (marks_in n clash t i)
          = f ∙ ap lifted (lent-put (i * n) n m t (filled-long load) fits is) ∙ fill-bars u 0 0 load (marks_in n clash t i) low-bytes in
          back-put (i * n) n m t (filled-long load) fits is r ∙ ap (λ (l : List ℕ). put (i * n) n l t) up

      pub barred-short : {m : ℕ} (load : ℕ) → m ≡ unmet unblocked 0 load (marks_here n clash t₁ i) → m ≡ row_short n clash u i load t
      barred-short load e = e ∙ ap (unmet unblocked 0 load) (here-laid ∙ as-barred) ∙ unmet-bars u 0 0 load (marks_in n clash t i)

      pub barred-sends : {t₂ : List ℕ} (load a b : ℕ) → t₂ ≡ row_planned n clash u i load t
          → SameBut a b (marks_here n clash t₁ i) (fill unblocked 0 load (marks_here n clash t₁ i)) → SendsIn n t₂ i a b
      barred-sends load a b is s =
          let m : List ℕ = marks_here n clash t₁ i in
          let bars' : m ≡ bar_row u 0 (marks_in n clash t i) = here-laid ∙ as-barred in
          planned-sends n clash i t fits u load a b is
          (same-but-is
          (ap lifted bars' ∙ lift-bars u 0 (marks_in n clash t i) low-bytes)
          (ap (λ (x : List ℕ). lifted (fill unblocked 0 load x)) bars' ∙ fill-bars u 0 0 load (marks_in n clash t i) low-bytes)
          (same-but-lifted m (fill unblocked 0 load m) s))
