-- A tree of clashes numbered from the mouth is in the class, whichever cells count: no cell has two lower clashing cells.
-- It need not be chained: the side drift is not. The star with its centre last is outside, and so is P4; the places are computed.
-- Assumes nothing.
use mathlib.Core.Path.{◌≡◌, refl, sym, ◌∙◌}
use mathlib.Core.Bool.{Bool}
use Prim.Native.Nat.{ℕ}
use native.Mathlib.Omega.{arith}
use Rattle.theory.specs.Net.{Net, Class, loaded}
use Rattle.laws.specs.Search.{first_of}
use Rattle.theory.specs.Verdict.{in_class, outside, second, splits, split_of, first_split, class_verdict}
use Rattle.theory.specs.Verdict.{broken, gap, breaks, break_of, first_break, chain_verdict}
use Rattle.theory.specs.Drift.{FromMouth, side_drift, star_last, star_first, fourth_desk}
use Rattle.theory.proofs.ClassLaws.{class-holds}

pub tree-class : (s : Net) (before : ℕ → ℕ) → FromMouth s before → (who : ℕ → Bool) → Class s who
tree-class s before tree who a b i l m n pa pb pi ca cb =
    let one = tree a i (omega arith) n ca in
    let other = tree b i m n cb in
    absurd (omega arith)

pub drift-nested : (class_verdict side_drift (loaded side_drift) ≡ in_class) × (chain_verdict side_drift (loaded side_drift) ≡ broken 0 2 3)
unfolding class_verdict first_split split_of splits second chain_verdict first_break break_of breaks gap first_of
drift-nested = (refl, refl)

star-last-verdict : class_verdict star_last (loaded star_last) ≡ outside 0 1 2
unfolding class_verdict first_split split_of splits second first_of
star-last-verdict = refl

-- W9: "The three-cell star with its centre last stays outside."
pub star-last-outside : (class_verdict star_last (loaded star_last) ≡ outside 0 1 2) × (Class star_last (loaded star_last) → ⊥)
star-last-outside = (
  star-last-verdict,
  λ c. let e = sym star-last-verdict ∙ (class-holds star_last (loaded star_last)).1 c in let z : ◌≡◌ {A = ℕ} 0 1 = cc in omega arith,
)

pub star-first-nested : class_verdict star_first (loaded star_first) ≡ in_class
unfolding class_verdict first_split split_of splits second first_of
star-first-nested = refl

pub fourth-outside : class_verdict fourth_desk (loaded fourth_desk) ≡ outside 1 2 3
unfolding class_verdict first_split split_of splits second first_of
fourth-outside = refl
