-- Clashes of small sites, counted. Assumes nothing.
use mathlib.Core.List.{[], ◌∷◌}
use mathlib.Core.Path.{◌≡◌, refl}
use Prim.Native.Nat.{ℕ}
use Rattle.laws.specs.Sum.{sum, any}
use Rattle.site.specs.Record.{site_of}
use Rattle.site.specs.Reach.{reaches, reached_by_both, clash_in}
use Rattle.site.specs.declared.Site.{Site}
use Rattle.clashcount.specs.Count.{clash_count}

-- 1 reaches 2, and 2 and 5 reach 4: three pairs, and under rule 2 also 2 and 5
abbrev edge : ℕ → Site
edge = site_of 5 4 2 (4 ∷ 3 ∷ 0 ∷ 3 ∷ 2 ∷ []) (2 ∷ 8 ∷ 0 ∷ 0 ∷ 8 ∷ []) []

-- a pair that reaches both ways is one; all three cells clash; one cell alone
pub counted :
    clash_count (edge 1)
    ∷ clash_count (edge 2)
    ∷ clash_count (site_of 2 1 1 [] (2 ∷ 1 ∷ []) [] 1)
    ∷ clash_count (site_of 3 1 1 [] (6 ∷ 4 ∷ []) [] 1)
    ∷ clash_count (site_of 1 1 1 [] [] [] 1)
    ∷ []
    ≡ 3 ∷ 4 ∷ 1 ∷ 3 ∷ 0 ∷ []
unfolding clash_count sum any reaches reached_by_both clash_in
counted = refl
