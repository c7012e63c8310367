-- The carried table: its rows are those of the other table, the bytes past them are as they were, and it is valid for the old problem
-- where the other is for the new one.
-- Assumes nothing.
use mathlib.Core.Path.{◌≡◌, refl, sym, ap, ◌∙◌, subst}
use mathlib.Core.List.{List}
use mathlib.Core.Logic.{⊎_elim}
use Prim.Native.Nat.{ℕ, zero, suc, ◌+◌, ◌*◌, ◌≤◌, ◌<◌}
use native.Mathlib.Omega.{arith}
use native.Mathlib.Nat.{eq-or-lt_of_le, le_of_suc-le-suc, not-suc-le-zero, le_refl}
use lib.Dec.{eqb}
use lib.ListN.{length, get_or, drop}
use Rattle.theory.specs.Net.{Net, Valid}
use Rattle.theory.specs.Greedy.{reserved}
use Rattle.theory.proofs.Exact.{valid-agree}
use Rattle.laws.specs.Part.{part, put}
use Rattle.laws.proofs.Part.{length_part, length-put, get_d_part, part-put, part-put-before, drop-put-after}
use Rattle.laws.proofs.Grid.{row_before}
use Rattle.renumbering.specs.Renumbers.{Renumbers, renumbered, Symmetric}
use Rattle.renumbering.specs.Carry.{carried}
use Rattle.renumbering.proofs.Renumber.{valid-back}

module _ (new : ℕ → ℕ) (n w : ℕ) (from to : List ℕ) (has : n * w ≤ length from) (fits : n * w ≤ length to) (new_in : (i : ℕ) → i < n → new i < n) where
  row-long : (i : ℕ) → i < n → length (part (new i * w) w from) ≡ w
  row-long i l = length_part (new i * w) w from (omega (arith, row_before w (new_in i l)))

  pub carried-long : (m : ℕ) → m ≤ n → length (carried new w from to m) ≡ length to
  unfolding carried
  carried-long zero h = refl
  carried-long (suc i) h =
      let ih = carried-long i (omega arith) in
      length-put (i * w) w (part (new i * w) w from) (carried new w from to i) (row-long i h) (omega (arith, row_before w h)) ∙ ih

  inside : (i : ℕ) → i < n → i * w + w ≤ length (carried new w from to i)
  inside i l = omega (arith, row_before w l, carried-long i (omega arith))

  -- each row done is the other table's
  pub carried_row : (m j : ℕ) → m ≤ n → j < m → part (j * w) w (carried new w from to m) ≡ part (new j * w) w from
  unfolding carried
  carried_row zero j h l = absurd (not-suc-le-zero l)
  carried_row (suc i) j h l =
      ⊎_elim
      (λ e.
      subst (λ k. part (k * w) w (put (i * w) w (part (new i * w) w from) (carried new w from to i)) ≡ part (new k * w) w from) (sym e)
      (part-put (i * w) w (part (new i * w) w from) (carried new w from to i) (row-long i h) (inside i h)))
      (λ m.
      part-put-before (i * w) w (part (new i * w) w from) (carried new w from to i) (row-long i h) (inside i h) (j * w) w (row_before w m)
      ∙ carried_row i j (omega arith) m)
      (eq-or-lt_of_le (le_of_suc-le-suc l))

  -- the bytes past the site's are never written
  pub carried-past : (m : ℕ) → m ≤ n → drop (n * w) (carried new w from to m) ≡ drop (n * w) to
  unfolding carried
  carried-past zero h = refl
  carried-past (suc i) h =
      drop-put-after (i * w) w (part (new i * w) w from) (carried new w from to i) (row-long i h) (inside i h) (n * w) (row_before w h)
      ∙ carried-past i (omega arith)

  pub carried-byte : (i k : ℕ) → i < n → k < w → get_or (carried new w from to n) (i * w + k) 0 ≡ get_or from (new i * w + k) 0
  carried-byte i k l h =
      sym (get_d_part (i * w) w (carried new w from to n) k 0 h)
      ∙ ap (λ r. get_or r k 0) (carried_row n i (le_refl n) l)
      ∙ get_d_part (new i * w) w from k 0 h

pub carried-valid : (s : Net) → Symmetric s.clash → (new old : ℕ → ℕ) → Renumbers s.cells new old → (from to : List ℕ)
    → s.cells * s.width ≤ length from → s.cells * s.width ≤ length to → Valid (renumbered old s) (reserved s.width from)
    → Valid s (reserved s.width (carried new s.width from to s.cells))
carried-valid s symmetric new old r from to has fits v =
    valid-agree s (λ i k. reserved s.width from (new i) k) (reserved s.width (carried new s.width from to s.cells))
    (λ i k l h. ap (λ b. eqb b 1) (carried-byte new s.cells s.width from to has fits r.new_in i k l h))
    (valid-back s symmetric new old r (reserved s.width from) v)
