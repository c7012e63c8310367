-- The numbers and values given back tell the answers of tidying apart: each answer can be read back from them. And what they are, written out.
--     tidy-bad          17 exactly where a line of the tidied sheet is bad, with the first such line
--     tidy-short        13 exactly where none is and the output is too short, with the bytes that the tidied sheet has
--     tidy-done         0 exactly where none is and there is room, with these bytes
-- By what the two tests of the definition say: whether a line is bad, and whether the sheet fits. Assumes nothing.
use Prim.Native.Nat.{ℕ, zero, suc, ◌≤◌, ◌<◌}
use mathlib.Core.Path.{◌≡◌, refl, sym, ap, ◌∙◌}
use mathlib.Core.Bool.{Bool, true, false}
use mathlib.Core.List.{List, [], ◌∷◌, map}
use mathlib.Core.Logic.{◌↔◌}
use native.Mathlib.Omega.{arith}
use lib.Dec.{leb, ltb, eqb}
use lib.ListN.{length, get_or}
use borrow.Author.Tests.{eqb-true, le-leb, lt-leb, leb-true, leb-false, lt-ltb}
use Rattle.laws.specs.Choice.{pick}
use Rattle.site.specs.Given.{Given, as_list}
use Rattle.sheet.specs.Means.{FirstBadOfSheet}
use Rattle.tidying.specs.Tidy.{tidied, bad_line_of, laid_answer, judged_answer, tidy_answer}
use Rattle.tidying.specs.Given.{tidy_given, tidy_proper}
use Rattle.std.specs.Prelude.{Result, Ok, Err}
use Rattle.tidying.specs.declared.TidyError.{TidyError}
use Rattle.tidying.specs.declared.TidyError.TheVariants.{OutShort, BadLine}
use Rattle.tidying.proofs.Laws.{from_one, first-line, refused-first}

abbrev only_value : Given → ℕ
only_value g = get_or g.values 0 0

abbrev read_back : Given → Result ℕ TidyError
read_back g = pick (eqb g.number 0) (Ok (only_value g)) (pick (eqb g.number 13) (Err (OutShort (only_value g))) (Err (BadLine (only_value g))))

read_back-law : (a : Result ℕ TidyError) → read_back (tidy_given a) ≡ a
read_back-law (Ok n) = refl
read_back-law (Err (OutShort n)) = refl
read_back-law (Err (BadLine l)) = refl

pub tidy-apart : (a b : Result ℕ TidyError) → tidy_given a ≡ tidy_given b → a ≡ b
tidy-apart a b e = sym (read_back-law a) ∙ ap read_back e ∙ read_back-law b

-- the documents' numbers and values: done with the bytes; 13 with the bytes needed; 17 with the line
pub tidy-numbers : (bytes line : ℕ)
    → map (λ a. as_list (tidy_given a)) (Ok bytes ∷ Err (OutShort bytes) ∷ Err (BadLine line) ∷ [])
    ≡ (0 ∷ bytes ∷ []) ∷ (13 ∷ bytes ∷ []) ∷ (17 ∷ line ∷ []) ∷ []
tidy-numbers bytes line = refl

past-zero : (l : ℕ) → eqb l 0 ≡ false → ltb 0 l ≡ true
past-zero zero e = let z : ◌≡◌ {A = ℕ} 0 1 = cc in absurd (omega arith)
past-zero (suc l) e = lt-ltb 0 (suc l) (omega arith)

module _ (s out : List ℕ) where
  abbrev bad : ℕ
  bad = bad_line_of (tidied s)

  abbrev long : ℕ
  long = length (tidied s)

  -- a line that is told is one: lines are numbered from 1
  pub tidy-proper : tidy_proper (tidy_answer s out) ≡ true
  unfolding tidy_answer judged_answer laid_answer
  tidy-proper = go (eqb bad 0) (leb long (length out)) refl
    where
      go : (good fits : Bool) → eqb bad 0 ≡ good → tidy_proper (pick good (pick fits (Ok long) (Err (OutShort long))) (Err (BadLine bad))) ≡ true
      go true true e = refl
      go true false e = refl
      go false fits e = past-zero bad e

  abbrev said : Bool → Bool → Result ℕ TidyError
  said good fits = pick good (pick fits (Ok long) (Err (OutShort long))) (Err (BadLine bad))

  told-bad : (l : ℕ) → bad ≡ l → 0 < l → (good : Bool) → eqb bad 0 ≡ good → said good (leb long (length out)) ≡ Err (BadLine l)
  told-bad l e h true q = absurd (omega (arith, eqb-true bad 0 q, e))
  told-bad l e h false q = ap (λ (k : ℕ). Err (BadLine k)) e

  -- 17 with the line l exactly where l is the first bad line of the tidied sheet
  pub tidy-bad : (l : ℕ) → tidy_answer s out ≡ Err (BadLine l) ↔ FirstBadOfSheet (tidied s) l
  unfolding tidy_answer judged_answer laid_answer
  tidy-bad l = (refused-first s out l, λ f. told-bad l (first-line (tidied s) l f) (from_one (tidied s) l f) (eqb bad 0) refl)

  short-by : (n : ℕ) (good fits : Bool) → eqb bad 0 ≡ good → leb long (length out) ≡ fits → said good fits ≡ Err (OutShort n)
      → (bad ≡ 0) × (n ≡ long) × (length out < long)
  short-by n true true e h q = let z : ◌≡◌ {A = ℕ} 0 1 = cc in absurd (omega arith)
  short-by n true false e h q = (eqb-true bad 0 e, cc, leb-false long (length out) h)
  short-by n false fits e h q = let z : ◌≡◌ {A = ℕ} 0 1 = cc in absurd (omega arith)

  -- 13 exactly where no line is bad and the output has not as many bytes as the tidied sheet, with how many that is
  pub tidy-short : (n : ℕ) → tidy_answer s out ≡ Err (OutShort n) ↔ ((bad ≡ 0) × (n ≡ long) × (length out < long))
  unfolding tidy_answer judged_answer laid_answer
  tidy-short n = (
    short-by n (eqb bad 0) (leb long (length out)) refl refl,
    λ w. rw (w.0, lt-leb long (length out) w.2, w.1),
  )

  done-by : (n : ℕ) (good fits : Bool) → eqb bad 0 ≡ good → leb long (length out) ≡ fits → said good fits ≡ Ok n
      → (bad ≡ 0) × (n ≡ long) × (long ≤ length out)
  done-by n true true e h q = (eqb-true bad 0 e, cc, leb-true long (length out) h)
  done-by n true false e h q = let z : ◌≡◌ {A = ℕ} 0 1 = cc in absurd (omega arith)
  done-by n false fits e h q = let z : ◌≡◌ {A = ℕ} 0 1 = cc in absurd (omega arith)

  -- 0 exactly where no line is bad and there is room, with the bytes of the tidied sheet
  pub tidy-done : (n : ℕ) → tidy_answer s out ≡ Ok n ↔ ((bad ≡ 0) × (n ≡ long) × (long ≤ length out))
  unfolding tidy_answer judged_answer laid_answer
  tidy-done n = (
    done-by n (eqb bad 0) (leb long (length out)) refl refl,
    λ w. rw (w.0, le-leb long (length out) w.2, w.1),
  )
