-- A cell more of the greedy run, over a table whose first rows are its rows so far: the run goes on with the table, or ends short. Assumes nothing.
use mathlib.Core.Bool.{Bool}
use mathlib.Core.Path.{◌≡◌, refl, sym, ap, ◌∙◌}
use mathlib.Core.List.{List, ◌++◌}
use Prim.Native.Nat.{ℕ, ◌+◌, ◌-◌, ◌*◌, ◌≤◌, ◌<◌}
use native.Mathlib.Numerals.{add-one}
use native.Mathlib.Nat.{suc-mul, zero-mul}
use native.Mathlib.Omega.{arith}
use lib.Seq.{length-take-le}
use lib.ListN.{length, take, drop, get_or, replicate, take-append-drop}
use Rattle.laws.proofs.Part.{length-put, take-put-end, drop-put-after}
use Rattle.theory.specs.Net.{Net}
use Rattle.theory.specs.Greedy.{marked, fill, unmet, row, held, Outcome, planned, no_room, run}
use Rattle.theory.proofs.Loops.{run-next, run-stop, run-stays}
use Rattle.theory.proofs.Row.{row-length, row-short}
use Rattle.planner.specs.Plan.{table_of}
use Rattle.planrows.specs.Row.{marks_in, row_planned, row_short}
use Rattle.planner.specs.Loop.{PlannedTo}
use Rattle.planner.proofs.Marked.{marked-take, marked-alike}
use Rattle.site.specs.Reach.{net_in}

-- cell i, with its load, over the table t
module _ (cells n : ℕ) (loads : List ℕ) (clash : ℕ → ℕ → Bool) (usable : ℕ → Bool) (i : ℕ) (t : List ℕ) (fits : i * n + n ≤ length t)
    {load : ℕ} (own : load ≡ get_or loads i 0) where
  abbrev net : Net
  net = net_in cells n loads clash usable

  abbrev marks : List ℕ
  marks = marks_in n clash t i

  same-marks : marked net (take (i * n) t) i i ≡ marks
  same-marks = marked-take net i t (omega arith) i (omega arith) ∙ sym (marked-alike cells n loads clash usable t i i)

  -- the row of cell i, from the rows that stand in the table
  same_row : row net (take (i * n) t) i ≡ fill usable 0 load marks
  same_row = (λ x. fill usable 0 (sym own x) (same-marks x))

  filled-long : length (fill usable 0 load marks) ≡ n
  filled-long = sym (ap length same_row) ∙ row-length net (take (i * n) t) i

  -- what the row filler finds no place for
  lacks : row_short n clash usable i load t ≡ get_or loads i 0 - held n (row net (take (i * n) t) i)
  lacks = (λ x. unmet usable 0 (own x) (sym same-marks x)) ∙ row-short net (take (i * n) t) i

  module _ {u : List ℕ} (is : u ≡ row_planned n clash usable i load t) where
    pub more-long : length u ≡ length t
    more-long = ap length is ∙ length-put (i * n) n _ t filled-long fits

    pub more-drop : (b : ℕ) → i * n + n ≤ b → drop b u ≡ drop b t
    more-drop b h = ap (drop b) is ∙ drop-put-after (i * n) n _ t filled-long fits b h

    more-take : take ((i + 1) * n) u ≡ take (i * n) t ++ row net (take (i * n) t) i
    more-take = rw (add-one, suc-mul, is, take-put-end (i * n) n _ t filled-long fits, same_row) refl

    module _ (so_far : PlannedTo (net_in cells n loads clash usable) i t) {short : ℕ}
        (over : short ≡ row_short n clash usable i load t) where
      pub more-planned : short ≡ 0 → PlannedTo (net_in cells n loads clash usable) (i + 1) u
      more-planned z = run-next net (row net) i (take (i * n) t) so_far (omega (arith, lacks)) ∙ ap planned (sym more-take)

      pub more-short : 0 < short → (k : ℕ) → i < k → run (net_in cells n loads clash usable) (row (net_in cells n loads clash usable)) k ≡ no_room i short
      more-short h k below =
          let e : short ≡ get_or loads i 0 - held n (row net (take (i * n) t) i) = over ∙ lacks in
          run-stays net (row net) (i + 1) i short
          (run-stop net (row net) i (take (i * n) t) so_far (omega arith) ∙ ap (no_room i) (sym e)) k (omega arith)

-- no row is planned before the first
pub no-rows : (s : Net) (t : List ℕ) → PlannedTo s 0 t
unfolding run
no-rows s t = rw zero-mul refl

-- what the table holds at the end of a finished run, and of one that ended short, where z is what `clear` left of the first m bytes
pub end-done : {o : Outcome} (m : ℕ) (t t₀ : List ℕ) → o ≡ planned (take m t) → drop m t ≡ drop m t₀ → t ≡ table_of m o ++ drop m t₀
end-done m t t₀ e d = sym (take-append-drop m t) ∙ (λ x. sym (ap (table_of m) e) x ++ d x)

pub end_short : {o : Outcome} {c l : ℕ} (m : ℕ) (z t t₀ : List ℕ) → o ≡ no_room c l → m ≤ length t → z ≡ replicate (length (take m t)) 0
    → drop m t ≡ drop m t₀ → z ++ drop m t ≡ table_of m o ++ drop m t₀
end_short m z t t₀ e h is d =
    (λ x. (is ∙ ap (λ (k : ℕ). replicate k 0) (length-take-le m t h) ∙ sym (ap (table_of m) e)) x ++ d x)
