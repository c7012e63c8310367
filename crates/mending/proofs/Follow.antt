-- Whoever follows the list has the mended table: each change is one store, and where nothing changes the byte stays.
--     follow-changes      the changes, laid over the old table, give the new one
--     follow-append       one list after another
--     follow-cell, follow-later, follow-below      a cell at a time: what is stored, and that later positions and cells are as they were
-- Assumes nothing.
use mathlib.Core.Path.{◌≡◌, refl, sym, ap, ◌∙◌}
use mathlib.Core.Bool.{Bool, true, false, not}
use mathlib.Core.List.{List, [], ◌∷◌, ◌++◌}
use Prim.Native.Nat.{ℕ, zero, suc, ◌+◌, ◌-◌, ◌*◌, ◌≤◌}
use native.Mathlib.Nat.{suc-mul, zero-mul, add-zero, add-suc}
use native.Mathlib.Omega.{arith}
use lib.ListN.{length, get_or, set, take, length-set, length-take}
use lib.Seq.{get_or-set_other, set-get_or}
use borrow.Author.Tests.{eqb-true}
use Rattle.laws.specs.Choice.{pick}
use Rattle.laws.specs.Sum.{bit, count}
use Rattle.theory.specs.Net.{Reserved}
use Rattle.theory.specs.Greedy.{sends, reserved}
use Rattle.mending.specs.Mend.{mend_byte, overlay}
use Rattle.mending.specs.Changes.{changed, change, cell_changes, changes, change_count, follow}
use Rattle.mending.proofs.Overlay.{overlay-more, overlay-past}
use Rattle.mending.proofs.Changes.{cell-length, changes-length}

-- one list of changes after another
pub follow-append : (n m : ℕ) (a b u : List ℕ) → length a ≡ 4 * m → follow n (a ++ b) u ≡ follow n b (follow n a u)
unfolding follow
follow-append n m [] b u e = refl
follow-append n m (c ∷ []) b u e = absurd (omega arith)
follow-append n m (c ∷ k ∷ []) b u e = absurd (omega arith)
follow-append n m (c ∷ k ∷ w ∷ []) b u e = absurd (omega arith)
follow-append n m (c ∷ k ∷ w ∷ x ∷ a) b u e = follow-append n (m - 1) a b (set u ((c - 1) * n + k) x) (omega arith)

module _ (is was : Reserved) (n : ℕ) where
  -- one position more
  pub follow-more : (i k : ℕ) (u : List ℕ) → follow n (cell_changes is was i (suc k)) u
      ≡ follow n (change (is i k) (was i k) i k) (follow n (cell_changes is was i k) u)
  unfolding cell_changes
  follow-more i k u = follow-append n (count (changed is was i) k) (cell_changes is was i k) (change (is i k) (was i k) i k) u (cell-length is was i k)

  -- one cell more
  pub follow-cell : (c : ℕ) (u : List ℕ) → follow n (changes is was n (suc c)) u ≡ follow n (cell_changes is was c n) (follow n (changes is was n c) u)
  unfolding changes
  follow-cell c u = follow-append n (change_count is was n c) (changes is was n c) (cell_changes is was c n) u (changes-length is was n c)

  -- what a store leaves alone
  spared : (b : Bool) (i k x : ℕ) (u : List ℕ) → (i * n + k ≡ x → ⊥) → get_or (follow n (pick b ((i + 1) ∷ k ∷ bit (was i k) ∷ bit (is i k) ∷ []) []) u) x 0
      ≡ get_or u x 0
  unfolding follow
  spared true i k x u ne = let e : i + 1 - 1 ≡ i = omega arith in rw e (get_or-set_other u (i * n + k) x (bit (is i k)) 0 (λ q. ne (sym q)))
  spared false i k x u ne = refl

  pub follow-later : (i k x : ℕ) (u : List ℕ) → i * n + k ≤ x → get_or (follow n (cell_changes is was i k) u) x 0 ≡ get_or u x 0
  unfolding cell_changes follow
  follow-later i zero x u h = refl
  follow-later i (suc k) x u h =
      ap (λ z. get_or z x 0) (follow-more i k u)
      ∙ spared (changed is was i k) i k x (follow n (cell_changes is was i k) u) (λ e. omega arith)
      ∙ follow-later i k x u (omega arith)

  pub follow-below : (c x : ℕ) (u : List ℕ) → c * n ≤ x → get_or (follow n (changes is was n c) u) x 0 ≡ get_or u x 0
  unfolding changes follow
  follow-below zero x u h = refl
  follow-below (suc c) x u h =
      ap (λ z. get_or z x 0) (follow-cell c u)
      ∙ follow-later c n x (follow n (changes is was n c) u) (omega (arith, suc-mul c n))
      ∙ follow-below c x u (omega (arith, suc-mul c n))

  kept-long : (b : Bool) (i k : ℕ) (u : List ℕ) → length (follow n (pick b ((i + 1) ∷ k ∷ bit (was i k) ∷ bit (is i k) ∷ []) []) u) ≡ length u
  unfolding follow
  kept-long true i k u = length-set u ((i + 1 - 1) * n + k) (bit (is i k))
  kept-long false i k u = refl

  pub cell-long : (i k : ℕ) (u : List ℕ) → length (follow n (cell_changes is was i k) u) ≡ length u
  unfolding cell_changes follow
  cell-long i zero u = refl
  cell-long i (suc k) u = ap length (follow-more i k u) ∙ kept-long (changed is was i k) i k (follow n (cell_changes is was i k) u) ∙ cell-long i k u

-- ---- over the old table

module _ (n : ℕ) (t u : List ℕ) where
  abbrev now' : Reserved
  now' = reserved n t

  abbrev old : Reserved
  old = reserved n u

  -- a store of what stands, where it differs, is the mended byte
  one_byte : (is was : Bool) (v : List ℕ) (i k b : ℕ) → was ≡ sends b → get_or v (i * n + k) 0 ≡ b
      → follow n (pick (pick was (not is) is) ((i + 1) ∷ k ∷ bit was ∷ bit is ∷ []) []) v ≡ set v (i * n + k) (mend_byte is b)
  unfolding follow
  one_byte true true v i k b w h = sym (ap (set v (i * n + k)) (sym (eqb-true b 1 (sym w)) ∙ sym h) ∙ set-get_or v (i * n + k) 0)
  one_byte true false v i k b w h = let e : i + 1 - 1 ≡ i = omega arith in rw e
  one_byte false true v i k b w h = let e : i + 1 - 1 ≡ i = omega arith in rw (e, ← w)
  one_byte false false v i k b w h = rw (← w) (sym (ap (set v (i * n + k)) (sym h) ∙ set-get_or v (i * n + k) 0))

  cell-overlay : (i k : ℕ) → i * n + k ≤ length t → follow n (cell_changes now' old i k) (overlay (take (i * n) t) u) ≡ overlay (take (i * n + k) t) u
  unfolding cell_changes follow
  cell-overlay i zero h = rw add-zero
  cell-overlay i (suc k) h =
      let x = i * n + k in
      follow-more now' old n i k (overlay (take (i * n) t) u)
      ∙ ap (follow n (change (now' i k) (old i k) i k)) (cell-overlay i k (omega arith))
      ∙ one_byte (now' i k) (old i k) (overlay (take x t) u) i k (get_or u x 0) refl (overlay-past (take x t) u x (omega (arith, length-take x t)))
      ∙ overlay-more t u x (omega arith)
      ∙ ap (λ y. overlay (take y t) u) (sym (add-suc (i * n) k))

  pub follow-changes : (c : ℕ) → c * n ≤ length t → follow n (changes now' old n c) u ≡ overlay (take (c * n) t) u
  unfolding changes follow overlay
  follow-changes zero h = rw zero-mul
  follow-changes (suc c) h =
      follow-cell now' old n c u
      ∙ ap (follow n (cell_changes now' old c n)) (follow-changes c (omega (arith, suc-mul c n)))
      ∙ cell-overlay c n (omega (arith, suc-mul c n))
      ∙ ap (λ y. overlay (take y t) u) (sym (suc-mul c n))
