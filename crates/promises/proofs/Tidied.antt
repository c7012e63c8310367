-- Tidying over what the call answers and leaves, with any input and any output, in the documents' numbers. The laws are those of crate `tidying`.
-- What is left goes by the two tests of the definition: whether a line is bad, and whether the sheet fits. Assumes nothing.
use mathlib.Core.Path.{◌≡◌, refl, sym, ap}
use mathlib.Core.Bool.{Bool, true, false}
use mathlib.Core.List.{List, [], ◌∷◌, ◌++◌}
use mathlib.Core.Logic.{◌↔◌}
use Prim.Native.Nat.{ℕ, ◌≤◌, ◌<◌}
use native.Mathlib.Omega.{arith}
use lib.Dec.{leb, eqb}
use lib.ListN.{length, take, drop}
use lib.Seq.{take_at}
use Rattle.std.specs.Prelude.{Ok, Err}
use Rattle.laws.specs.Choice.{pick}
use Rattle.records.specs.Write.{laid_over}
use Rattle.sheet.specs.Means.{FirstBadOfSheet}
use Rattle.tidying.specs.Tidy.{tidied, bad_line_of, laid_answer, judged_answer, judged_out, tidy_answer, tidy_out}
use Rattle.tidying.specs.Given.{tidy_given}
use Rattle.tidying.specs.declared.TidyError.TheVariants.{OutShort, BadLine}
use Rattle.tidying.proofs.Laws.{good_left}
use Rattle.tidying.proofs.Given.{tidy-apart, tidy-bad, tidy-short, tidy-done}
use Rattle.demanded.specs.Numbers.{done_with, refused}
use Rattle.promises.specs.Leaves.{WriterLeaves}

-- ---- nothing written on a refusal, nothing past the sheet

left_by : (file out : List ℕ) (bad : ℕ) (good fits : Bool)
    → WriterLeaves file out (tidy_given (pick good (pick fits (Ok (length file)) (Err (OutShort (length file)))) (Err (BadLine bad))))
    (pick good (pick fits (file ++ drop (length file) out) out) out)
left_by file out bad true true = record { if_done = λ e. (refl, refl); if_refused = λ n. absurd (n refl) }
left_by file out bad true false = record { if_done = λ e. absurd (omega arith); if_refused = λ n. refl }
left_by file out bad false fits = record { if_done = λ e. absurd (omega arith); if_refused = λ n. refl }

pub tidy-leaves : (s out : List ℕ) → WriterLeaves (tidied s) out (tidy_given (tidy_answer s out)) (tidy_out s out)
unfolding tidy_answer tidy_out judged_answer judged_out laid_answer laid_over
tidy-leaves s out = left_by (tidied s) out (bad_line_of (tidied s)) (eqb (bad_line_of (tidied s)) 0) (leb (length (tidied s)) (length out))

module _ (s out : List ℕ) where
  -- 17 with the line l exactly where l is the first bad line of the tidied sheet
  pub tidied-seventeen : (l : ℕ) → tidy_given (tidy_answer s out) ≡ refused 17 (l ∷ []) ↔ FirstBadOfSheet (tidied s) l
  tidied-seventeen l =
      (λ e. (tidy-bad s out l).0 (tidy-apart (tidy_answer s out) (Err (BadLine l)) e), λ f. ap tidy_given ((tidy-bad s out l).1 f))

  -- 13 exactly where no line is bad and the output is too short, with the bytes needed
  pub tidied-thirteen : (n : ℕ) → tidy_given (tidy_answer s out) ≡ refused 13 (n ∷ [])
      ↔ ((bad_line_of (tidied s) ≡ 0) × (n ≡ length (tidied s)) × (length out < length (tidied s)))
  tidied-thirteen n =
      (λ e. (tidy-short s out n).0 (tidy-apart (tidy_answer s out) (Err (OutShort n)) e), λ w. ap tidy_given ((tidy-short s out n).1 w))

  -- 0 exactly where no line is bad and there is room, with the bytes of the tidied sheet
  pub tidied-done : (n : ℕ) → tidy_given (tidy_answer s out) ≡ done_with (n ∷ [])
      ↔ ((bad_line_of (tidied s) ≡ 0) × (n ≡ length (tidied s)) × (length (tidied s) ≤ length out))
  tidied-done n = (λ e. (tidy-done s out n).0 (tidy-apart (tidy_answer s out) (Ok n) e), λ w. ap tidy_given ((tidy-done s out n).1 w))

  -- "what is tidied is the same sheet when tidied again": the bytes that a call wrote, given to another
  pub tidied-again : (n : ℕ) → tidy_given (tidy_answer s out) ≡ done_with (n ∷ [])
      → (take n (tidy_out s out) ≡ tidied s) × (tidied (take n (tidy_out s out)) ≡ take n (tidy_out s out))
  tidied-again n e =
      let w = (tidied-done n).0 e in
      let z : (tidy_given (tidy_answer s out)).number ≡ 0 = ap (λ g. g.number) e in
      let left = (tidy-leaves s out).if_done z in
      let file : take n (tidy_out s out) ≡ tidied s = rw left.1 (take_at (tidied s) (drop (length (tidied s)) out) n (sym w.1)) in
      (file, rw file (good_left (tidied s) w.0))

  -- "a good sheet is left as it is": where there is room for it, these are the bytes that are written
  pub good-sheet-left : bad_line_of s ≡ 0 → length s ≤ length out
      → (tidy_given (tidy_answer s out) ≡ done_with (length s ∷ [])) × (tidy_out s out ≡ s ++ drop (length s) out)
  good-sheet-left good room =
      let same : tidied s ≡ s = good_left s good in
      let is : tidy_given (tidy_answer s out) ≡ done_with (length s ∷ []) = (tidied-done (length s)).1 (rw same good, ap length (sym same), rw same room) in
      let z : (tidy_given (tidy_answer s out)).number ≡ 0 = ap (λ g. g.number) is in
      let left = ((tidy-leaves s out).if_done z).1 in
      (is, rw same at left)
