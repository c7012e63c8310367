-- A table while a row of it takes the marks of an earlier row over, a position at a time. What is read is what stood there. Assumes nothing.
use mathlib.Core.Path.{◌≡◌, refl, ap, ap₂, ◌∙◌}
use mathlib.Core.List.{List, ◌++◌, append_assoc}
use Prim.Native.Nat.{ℕ, ◌+◌, ◌*◌, ◌≤◌, ◌<◌}
use native.Mathlib.Omega.{arith}
use lib.Dec.{eqb}
use lib.ListN.{length, get_or, set, take, drop}
use lib.Seq.{sets, sets-eq}
use Rattle.laws.specs.Choice.{pick}
use Rattle.laws.specs.Part.{put, list_of}
use Rattle.laws.proofs.Grid.{row_before}
use Rattle.laws.proofs.Stores.{sets-past, sets-after, length-list, sets-before}
use Rattle.rows.specs.Stretch.{cover_at}

module _ (n j i : ℕ) (t : List ℕ) (before : j < i) (fits : i * n + n ≤ length t) where
  pub cover-none : t ≡ sets t (i * n) (list_of (cover_at n t j i) 0)
  unfolding list_of
  cover-none = refl

  pub cover-more : {s : List ℕ} {v : ℕ} (p : ℕ) → p < n → s ≡ sets t (i * n) (list_of (cover_at n t j i) p)
      → v ≡ pick (eqb (get_or s (j * n + p) 0) 0) (get_or s (i * n + p) 0) 2 → set s (i * n + p) v ≡ sets t (i * n) (list_of (cover_at n t j i) (p + 1))
  cover-more {s} {v} p h is e =
      let w : List ℕ = list_of (cover_at n t j i) p in
      let theirs : get_or s (j * n + p) 0 ≡ get_or t (j * n + p) 0
      = ap (λ (x : List ℕ). get_or x (j * n + p) 0) is ∙ sets-before w t (i * n) (j * n + p) (omega (arith, row_before n before)) in
      let mine : get_or s (i * n + p) 0 ≡ get_or t (i * n + p) 0
      = ap (λ (x : List ℕ). get_or x (i * n + p) 0) is ∙ sets-past w t (i * n) (i * n + p) (omega (arith, length-list (cover_at n t j i) p)) in
      sets-after (cover_at n t j i) (i * n) p v s t (e ∙ ap₂ (λ (a b : ℕ). pick (eqb a 0) b 2) theirs mine) is

  pub cover-end : sets t (i * n) (list_of (cover_at n t j i) n) ≡ put (i * n) n (list_of (cover_at n t j i) n) t
  unfolding put
  cover-end =
      let w : List ℕ = list_of (cover_at n t j i) n in
      let long : length w ≡ n = length-list (cover_at n t j i) n in
      sets-eq w t (i * n) (omega (arith, long)) ∙ append_assoc (take (i * n) t) w (drop (i * n + length w) t)
      ∙ ap (λ (k : ℕ). take (i * n) t ++ (w ++ drop (i * n + k) t)) long
