-- A table while one row of it is marked, a position at a time (`half`). Each turn stores the byte that `forbid` gives there (`forbid-more`), and where the
-- earlier row sends nothing there is none to store (`forbid-run`).
-- Assumes nothing.
use mathlib.Core.Path.{◌≡◌, refl, sym, ap, ◌∙◌}
use mathlib.Core.Bool.{false}
use mathlib.Core.List.{List, [], ◌∷◌}
use Prim.Native.Nat.{ℕ, zero, suc, ◌+◌, ◌-◌, ◌*◌, ◌≤◌, ◌<◌}
use native.Mathlib.Numerals.{add-one}
use native.Mathlib.Nat.{add-zero, not-suc-le-zero, le_of_suc-le-suc}
use native.Mathlib.Omega.{arith}
use lib.Dec.{eqb}
use lib.ListN.{length, take, get_or, set}
use lib.Seq.{take_all, set-get_or}
use Rattle.laws.specs.Choice.{pick}
use Rattle.laws.proofs.Choice.{refute}
use Rattle.laws.specs.Part.{part, put}
use Rattle.laws.proofs.Part.{length_part, get_d_part, put-part, part-put-before, set-put, get_d-put}
use Rattle.laws.proofs.Grid.{row_before}
use Rattle.theory.specs.Greedy.{sends, reserved, forbid}
use Rattle.theory.proofs.Row.{forbid-length}
use Rattle.rows.specs.Stretch.{SendsIn}

-- one position more of the earlier row e
pub forbid-more : (e b : List ℕ) (p : ℕ) → p < length e
    → forbid (take (suc p) e) b ≡ set (forbid (take p e) b) p (pick (sends (get_or e p 0)) 2 (get_or (forbid (take p e) b) p 0))
unfolding forbid
forbid-more [] b p h = absurd (not-suc-le-zero h)
forbid-more (x ∷ e) [] zero h = refl
forbid-more (x ∷ e) (y ∷ b) zero h = refl
forbid-more (x ∷ e) [] (suc p) h = refl
forbid-more (x ∷ e) (y ∷ b) (suc p) h = ap (λ (r : List ℕ). pick (eqb x 1) 2 y ∷ r) (forbid-more e b p (le_of_suc-le-suc h))

-- positions more at which it sends nothing
forbid-skip : (e b : List ℕ) (p : ℕ) → p < length e → sends (get_or e p 0) ≡ false → forbid (take (suc p) e) b ≡ forbid (take p e) b
forbid-skip e b p h no' =
    forbid-more e b p h ∙ ap (λ t. set (forbid (take p e) b) p (pick t 2 (get_or (forbid (take p e) b) p 0))) no' ∙ set-get_or (forbid (take p e) b) p 0

forbid-run : (e b : List ℕ) (a d : ℕ) → a + d ≤ length e → ((p : ℕ) → a ≤ p → p < a + d → sends (get_or e p 0) ≡ false)
    → forbid (take a e) b ≡ forbid (take (a + d) e) b
forbid-run e b a zero h none = rw add-zero refl
forbid-run e b a (suc d) h none =
    let s : a + suc d ≡ suc (a + d) = omega arith in
    forbid-run e b a d (omega arith) (λ p l g. none p l (omega arith))
    ∙ sym (forbid-skip e b (a + d) (omega arith) (none (a + d) (omega arith) (omega arith)))
    ∙ ap (λ (k : ℕ). forbid (take k e) b) (sym s)

-- the table t with the first p positions of row i marked by row j
abbrev pub half : ℕ → ℕ → ℕ → ℕ → List ℕ → List ℕ
half n j i p t = put (i * n) n (forbid (take p (part (j * n) n t)) (part (i * n) n t)) t

module _ (n j i : ℕ) (t : List ℕ) (before : j < i) (fits : i * n + n ≤ length t) where
  row-long : (p : ℕ) → length (forbid (take p (part (j * n) n t)) (part (i * n) n t)) ≡ n
  row-long p = forbid-length (take p (part (j * n) n t)) (part (i * n) n t) ∙ length_part (i * n) n t fits

  earlier-long : length (part (j * n) n t) ≡ n
  earlier-long = length_part (j * n) n t (omega (arith, row_before n before))

  half-run : (a b : ℕ) → a ≤ b → b ≤ n → ((p : ℕ) → a ≤ p → p < b → reserved n t j p ≡ false) → half n j i a t ≡ half n j i b t
  half-run a b h g none =
      let e : a + (b - a) ≡ b = omega arith in
      ap (λ (r : List ℕ). put (i * n) n r t)
      (forbid-run (part (j * n) n t) (part (i * n) n t) a (b - a) (omega (arith, earlier-long))
      (λ p l m. ap sends (get_d_part (j * n) n t p 0 (omega arith)) ∙ none p l (omega arith)))
      ∙ ap (λ (k : ℕ). half n j i k t) e

  half-none : t ≡ half n j i 0 t
  unfolding forbid
  half-none = sym (put-part (i * n) n t fits)

  half-all : half n j i n t ≡ put (i * n) n (forbid (part (j * n) n t) (part (i * n) n t)) t
  half-all =
      let h : length (part (j * n) n t) ≤ n = omega (arith, earlier-long) in
      rw (take_all n (part (j * n) n t) h) refl

  -- row j sends from a to b alone: what is before needs no mark, and what is after none
  module _ (a b : ℕ) (in' : SendsIn n t j a b) where
    pub half-start : t ≡ half n j i a t
    half-start =
        half-none
        ∙ half-run 0 a (omega arith) (omega (arith, in'.0, in'.1))
        (λ p l m. refute (reserved n t j p) (λ e. let h : a ≤ p = (in'.2 p (omega (arith, in'.0, in'.1)) e).0 in omega arith))

    pub half-end : half n j i b t ≡ put (i * n) n (forbid (part (j * n) n t) (part (i * n) n t)) t
    half-end =
        half-run b n in'.1 (omega arith)
        (λ p l m. refute (reserved n t j p) (λ e. let h : p < b = (in'.2 p m e).1 in omega arith))
        ∙ half-all

  module _ {s : List ℕ} (p : ℕ) (below : p < n) (is : s ≡ half n j i p t) where
    -- what is read of row j is what stood there, and of row i what it has come to
    earlier : get_or s (j * n + p) 0 ≡ get_or (part (j * n) n t) p 0
    earlier =
        rw is
        (sym (get_d_part (j * n) n (half n j i p t) p 0 below)
        ∙ ap (λ (l : List ℕ). get_or l p 0) (part-put-before (i * n) n _ t (row-long p) fits (j * n) n (row_before n before)))

    own : get_or s (i * n + p) 0 ≡ get_or (forbid (take p (part (j * n) n t)) (part (i * n) n t)) p 0
    own = rw is (get_d-put (i * n) n _ t (row-long p) fits p 0 below)

    pub half-more : {v : ℕ} → v ≡ pick (sends (get_or s (j * n + p) 0)) 2 (get_or s (i * n + p) 0) → set s (i * n + p) v ≡ half n j i (p + 1) t
    half-more {v} e =
        let h : p < length (part (j * n) n t) = omega (arith, earlier-long) in
        let row : List ℕ = forbid (take p (part (j * n) n t)) (part (i * n) n t) in
        let w : ℕ = pick (sends (get_or (part (j * n) n t) p 0)) 2 (get_or row p 0) in
        let same : v ≡ w = e ∙ (λ x. pick (sends (earlier x)) 2 (own x)) in
        rw (same, is, set-put (i * n) n row t (row-long p) fits p w below, add-one, forbid-more (part (j * n) n t) (part (i * n) n t) p h)
