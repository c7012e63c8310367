-- The loads and the rows that are read: a list of 32, filled from the front. Assumes nothing.
use Prim.Native.Nat.{ℕ, zero, suc, ◌≤◌, ◌<◌}
use mathlib.Core.Path.{◌≡◌, refl, sym, ap, ◌∙◌}
use mathlib.Core.List.{List}
use mathlib.Core.Logic.{⊎_elim}
use native.Mathlib.Omega.{arith}
use native.Mathlib.Decide.{dec_lt}
use native.Mathlib.Nat.{eq-or-lt_of_le, le_of_suc-le-suc}
use lib.ListN.{length, get_or, set, replicate, length-set}
use lib.Seq.{ext_get_or, get_or-set_same, get_or-set_other}
use Rattle.laws.proofs.Stores.{zeros-at}
use Rattle.lines.specs.Content.{load_of_line, row_of_line}
use Rattle.sheet.specs.Read.{from, loads_of_sheet, rows_of_sheet}

unfoldable pub fill : (ℕ → ℕ) → ℕ → List ℕ
fill f zero = replicate 32 0
fill f (suc k) = set (fill f k) k (f k)

pub fill-long : (f : ℕ → ℕ) (k : ℕ) → length (fill f k) ≡ 32
unfolding fill
fill-long f zero = refl
fill-long f (suc k) = length-set (fill f k) k (f k) ∙ fill-long f k

-- past what is filled there is nothing, and before that what was filled in
pub fill-past : (f : ℕ → ℕ) (k j : ℕ) → k ≤ j → get_or (fill f k) j 0 ≡ 0
unfolding fill
fill-past f zero j h = zeros-at 32 j
fill-past f (suc k) j h = get_or-set_other (fill f k) k j (f k) 0 (λ e. omega arith) ∙ fill-past f k j (omega arith)

pub fill-at : (f : ℕ → ℕ) (k j : ℕ) → j < k → j < 32 → get_or (fill f k) j 0 ≡ f j
unfolding fill
fill-at f zero j h l = absurd (omega arith)
fill-at f (suc k) j h l =
    ⊎_elim
    (λ e. rw e (get_or-set_same (fill f k) k (f k) 0 (omega (arith, fill-long f k))))
    (λ m. get_or-set_other (fill f k) k j (f k) 0 (λ e. omega arith) ∙ fill-at f k j m l)
    (eq-or-lt_of_le (le_of_suc-le-suc h))

-- so a list with nothing from k on is filled by its own elements
pub fill_is : (f : ℕ → ℕ) (k : ℕ) (l : List ℕ) → length l ≡ 32 → ((j : ℕ) → j < k → f j ≡ get_or l j 0) → ((j : ℕ) → k ≤ j → j < 32 → get_or l j 0 ≡ 0)
    → fill f k ≡ l
fill_is f k l e same none =
    ext_get_or 0 (fill f k) l (fill-long f k ∙ sym e) (λ j h. go j (omega (arith, fill-long f k)) (dec_lt j k))
  where
    go : (j : ℕ) → j < 32 → Dec (j < k) → get_or (fill f k) j 0 ≡ get_or l j 0
    go j h (yes m) = fill-at f k j m h ∙ same j m
    go j h (no m) = fill-past f k j (omega arith) ∙ sym (none j (omega arith) h)

pub loads-fill : (n : ℕ) (r : List ℕ) (k : ℕ) → loads_of_sheet n r k ≡ fill (λ j. load_of_line j (from n r j)) k
unfolding loads_of_sheet fill
loads-fill n r zero = refl
loads-fill n r (suc k) = ap (λ (l : List ℕ). set l k (load_of_line k (from n r k))) (loads-fill n r k)

pub rows_fill : (n : ℕ) (r : List ℕ) (k : ℕ) → rows_of_sheet n r k ≡ fill (λ j. row_of_line n j (from n r j)) k
unfolding rows_of_sheet fill
rows_fill n r zero = refl
rows_fill n r (suc k) = ap (λ (l : List ℕ). set l k (row_of_line n k (from n r k))) (rows_fill n r k)
