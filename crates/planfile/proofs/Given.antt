-- The numbers and values given back tell the writer's answers apart: each answer can be read back from them, so two answers that give the same are one.
-- (The reader's answers: crate `records`, and `refused-some` of Order.)
-- Assumes nothing.
use Prim.Native.Nat.{ℕ}
use mathlib.Core.Path.{◌≡◌, refl, sym, ap, ◌∙◌}
use mathlib.Core.List.{[], ◌∷◌, map}
use lib.Dec.{eqb}
use lib.ListN.{get_or}
use Rattle.laws.specs.Choice.{pick}
use Rattle.site.specs.Given.{Given}
use Rattle.site.specs.declared.Fault.TheVariants.{Size, Rule, Load, Reach, Blocked}
use Rattle.std.specs.Prelude.{Result, Ok, Err}
use Rattle.planfile.specs.Given.{plan_written_given}
use Rattle.planfile.specs.declared.PlanWriteError.{PlanWriteError}
use Rattle.planfile.specs.declared.PlanWriteError.TheVariants.{TableShort, OutShort, Record}

-- the writer's answer with this number and these values
written : Given → Result ℕ PlanWriteError
written g =
    pick (eqb g.number 1) (Err (Record Size))
    (pick (eqb g.number 24) (Err (Record Rule))
    (pick (eqb g.number 2) (Err (Record (Load (get_or g.values 0 0))))
    (pick (eqb g.number 3) (Err (Record (Reach (get_or g.values 0 0))))
    (pick (eqb g.number 4) (Err TableShort)
    (pick (eqb g.number 13) (Err (OutShort (get_or g.values 0 0)))
    (pick (eqb g.number 20) (Err (Record (Blocked (get_or g.values 0 0)))) (Ok (get_or g.values 0 0))))))))

written_back : (a : Result ℕ PlanWriteError) → written (plan_written_given a) ≡ a
unfolding written
written_back (Ok n) = refl
written_back (Err TableShort) = refl
written_back (Err (OutShort n)) = refl
written_back (Err (Record Size)) = refl
written_back (Err (Record Rule)) = refl
written_back (Err (Record (Load k))) = refl
written_back (Err (Record (Reach k))) = refl
written_back (Err (Record (Blocked k))) = refl

pub written_apart : (a b : Result ℕ PlanWriteError) → plan_written_given a ≡ plan_written_given b → a ≡ b
written_apart a b e = sym (written_back a) ∙ ap written e ∙ written_back b

-- document 01's numbers and values, written out: done with the bytes written, 4 alone, 13 with the bytes needed, 1, 2 with the cell, 3 with the row;
-- W8: 20 with the position
pub numbers :
    (n k : ℕ) →
    (map (λ (a : Result ℕ PlanWriteError). (plan_written_given a).number)
    (Ok n ∷ Err TableShort ∷ Err (OutShort n) ∷ Err (Record Size) ∷ Err (Record Rule) ∷ Err (Record (Load k)) ∷ Err (Record (Reach k))
    ∷ Err (Record (Blocked k)) ∷ [])
    ≡ 0 ∷ 4 ∷ 13 ∷ 1 ∷ 24 ∷ 2 ∷ 3 ∷ 20 ∷ [])
    × (map (λ (a : Result ℕ PlanWriteError). (plan_written_given a).values)
    (Ok n ∷ Err TableShort ∷ Err (OutShort n) ∷ Err (Record Size) ∷ Err (Record Rule) ∷ Err (Record (Load k)) ∷ Err (Record (Reach k))
    ∷ Err (Record (Blocked k)) ∷ [])
    ≡ (n ∷ []) ∷ [] ∷ (n ∷ []) ∷ [] ∷ [] ∷ (k ∷ []) ∷ (k ∷ []) ∷ (k ∷ []) ∷ [])
numbers n k = (refl, refl)
