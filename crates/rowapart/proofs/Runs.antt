-- The test of a table, row by row: a table that has the rows so far is the plan only where its next row is the run's, and with that row in its place it is
-- itself. Assumes nothing.
use mathlib.Core.Path.{◌≡◌, sym, ap, ◌∙◌}
use mathlib.Core.Bool.{true, false, false≢true}
use mathlib.Core.List.{List}
use Prim.Native.Nat.{ℕ, ◌+◌, ◌*◌, ◌≤◌, ◌<◌}
use native.Mathlib.Nat.{mul-le-mul_right}
use native.Mathlib.Omega.{arith}
use lib.ListN.{length, get_or, take}
use lib.Seq.{take-take, ext_get_or, get_or-take}
use Rattle.laws.specs.Part.{part, put}
use Rattle.laws.proofs.Choice.{refute}
use Rattle.laws.proofs.Grid.{inside}
use Rattle.laws.proofs.Part.{length_part, get_d_part, get_d-put, put-part}
use Rattle.theory.specs.Net.{Net}
use Rattle.theory.specs.Greedy.{row, Outcome, planned, no_room, run, greedy}
use Rattle.theory.specs.Plan.{comes_to, is_plan}
use Rattle.theory.proofs.Exact.{greedy-fair}
use Rattle.theory.proofs.Plan.{is-plan}
use Rattle.theory.proofs.Run.{run-begins, is-planned}
use Rattle.planner.specs.Loop.{PlannedTo}
use Rattle.rowapart.specs.Code.{bytes_alike}
use Rattle.rowapart.proofs.Bytes.{same-all, all_same}

-- a table that is the plan begins with the rows of its first cells
pub plan-front : (s : Net) (t : List ℕ) → is_plan s t ≡ true → (i : ℕ) → i ≤ s.cells → PlannedTo s i t
plan-front s t e i h =
    let m : ℕ = s.cells * s.width in
    run-begins s (row s) (greedy-fair s) s.cells (take m t) ((is-plan s t).0 e) i h
    ∙ ap planned (take-take (i * s.width) m t (mul-le-mul_right s.width h))

-- a run that ends short has no plan
pub short-not : (s : Net) (t : List ℕ) {c l : ℕ} → greedy s ≡ no_room c l → false ≡ is_plan s t
unfolding is_plan
short-not s t e = sym (ap (λ (o : Outcome). comes_to o (take (s.cells * s.width) t)) e)

-- all rows are the run's
pub all_yes : (s : Net) (t : List ℕ) → PlannedTo s s.cells t → true ≡ is_plan s t
all_yes s t e = sym ((is-plan s t).1 e)

-- r is row i, and the table t has it, or another
module _ (n i : ℕ) (t r : List ℕ) (long : length r ≡ n) (fits : i * n + n ≤ length t) where
  pub row-yes : true ≡ bytes_alike t (i * n) r n → put (i * n) n r t ≡ t
  row-yes alike =
      let e : r ≡ part (i * n) n t
      = ext_get_or 0 r (part (i * n) n t) (long ∙ sym (length_part (i * n) n t fits)) (λ k h.
      let l : k < n = omega arith in
      sym (get_d_part (i * n) n t k 0 l ∙ same-all t (i * n) r n (sym alike) k l)) in
      ap (λ (z : List ℕ). put (i * n) n z t) e ∙ put-part (i * n) n t fits

  -- where row i of the run is r
  pub row-not : (s : Net) → s.width ≡ n → i < s.cells → run s (row s) (i + 1) ≡ planned (take ((i + 1) * n) (put (i * n) n r t))
      → false ≡ bytes_alike t (i * n) r n → false ≡ is_plan s t
  row-not s wide low next differ =
      sym (refute (is_plan s t) (λ plan.
      let front : run s (row s) (i + 1) ≡ planned (take ((i + 1) * n) t)
      = plan-front s t plan (i + 1) (omega arith) ∙ ap (λ (w : ℕ). planned (take ((i + 1) * w) t)) wide in
      let same : take ((i + 1) * n) (put (i * n) n r t) ≡ take ((i + 1) * n) t = is-planned _ _ (sym next ∙ front) in
      false≢true (differ ∙ all_same t (i * n) r n (λ k h.
      let l : i * n + k < (i + 1) * n = inside (i + 1) n i k (omega arith) h in
      sym (get_or-take ((i + 1) * n) t (i * n + k) 0 l)
      ∙ ap (λ (z : List ℕ). get_or z (i * n + k) 0) (sym same)
      ∙ get_or-take ((i + 1) * n) (put (i * n) n r t) (i * n + k) 0 l
      ∙ get_d-put (i * n) n r t long fits k 0 h))))
