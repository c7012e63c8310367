-- The request's example and the paper's, computed from the definition. On the first the paper's recurrence, which settles flow after flow, stops at a set
-- worth 5; on the second it finds the set that the paper says it finds.
-- Assumes nothing.
use mathlib.Core.Path.{◌≡◌, refl}
use mathlib.Core.Bool.{true, false}
use mathlib.Core.List.{[], ◌∷◌}
use Prim.Native.Nat.{◌+◌}
use lib.Dec.{eqb}
use lib.ListN.{get_or}
use Rattle.laws.specs.Sum.{sum}
use Rattle.laws.specs.Search.{first_of}
use Rattle.theory.specs.Net.{Net, unblocked}
use Rattle.theory.specs.Verdict.{overloaded, lowest_over, load_verdict}
use Rattle.admitting.specs.Recurrence.{greatest, kept, kept_below, recurrence}
use Rattle.admitting.specs.Best.{Flows, worth, allowed_beside, best_of, best_beside, best}

-- "no clashes, two cells, N=2"
abbrev bare : Net
bare = record { cells = 2; width = 2; load = λ _. 0; clash = λ _ _. false; usable = unblocked }

-- "flows (cell, share, value) 1,1,1; 2,2,1; 1,2,5"
abbrev three : Flows
three = record { count = 3; cell = λ k. get_or (0 ∷ 1 ∷ 0 ∷ []) k 0; share = λ k. get_or (1 ∷ 2 ∷ 2 ∷ []) k 0; value = λ k. get_or (1 ∷ 1 ∷ 5 ∷ []) k 0 }

-- the set {2,3} worth 6: numbers 2 and 4
pub desk : (best bare three ≡ 6) × (worth three 6 ≡ 6)
unfolding best_beside best_of allowed_beside sum first_of overloaded lowest_over load_verdict
desk = (refl, refl)

-- "and the recurrence stops at 5": it keeps flow 1 for the reward 1, which does not go with flow 3
pub recurrence-stops : (recurrence bare three ≡ 4) × (worth three 4 ≡ 5)
unfolding kept_below kept greatest sum
recurrence-stops = (refl, refl)

-- 000's Table I and II: T=3, F=2, cells 1-2-3 in a row each clashing with the next
abbrev row : Net
row = record { cells = 3; width = 6; load = λ _. 0; clash = λ a c. eqb (a + 1) c; usable = unblocked }

-- the nine flows (cell, period, burst, value) 1,10,1,8; 1,4,3,39; 1,7,3,38; 2,10,1,50; 2,6,5,29; 2,7,6,41; 3,5,3,3; 3,11,4,20;
-- 3,9,6,30, by their shares in a superframe of 3 slots
abbrev nine : Flows
nine = record {
  count = 9;
  cell = λ k. get_or (0 ∷ 0 ∷ 0 ∷ 1 ∷ 1 ∷ 1 ∷ 2 ∷ 2 ∷ 2 ∷ []) k 0;
  share = λ k. get_or (1 ∷ 3 ∷ 2 ∷ 1 ∷ 3 ∷ 3 ∷ 2 ∷ 2 ∷ 2 ∷ []) k 0;
  value = λ k. get_or (8 ∷ 39 ∷ 38 ∷ 50 ∷ 29 ∷ 41 ∷ 3 ∷ 20 ∷ 30 ∷ []) k 0;
}

-- the set {2,3,4,8,9}, worth 177: 2 + 4 + 8 + 128 + 256
pub table-two : (best row nine ≡ 398) × (worth nine 398 ≡ 177)
unfolding best_beside best_of allowed_beside sum first_of overloaded lowest_over load_verdict
table-two = (refl, refl)

-- Table II's line Opt, which is this recurrence: the same set, 177. So the recurrence is the paper's where the paper says what it finds, and stops at 5 where
-- the request says so
pub table-two-recurrence : recurrence row nine ≡ 398
unfolding kept_below kept greatest sum
table-two-recurrence = refl

-- "on top of the loads that the site has": two cells that clash, N=4, loads 1 and 1, flows (cell, share, value) 1,2,5; 2,1,3; 2,1,4. All three go where the
-- loads are set aside; beside them cell 2 has room for 2, and the two flows in it are worth more than the one in cell 1
abbrev running : Net
running = record { cells = 2; width = 4; load = λ _. 1; clash = λ _ _. true; usable = unblocked }

abbrev asking : Flows
asking = record { count = 3; cell = λ k. get_or (0 ∷ 1 ∷ 1 ∷ []) k 0; share = λ k. get_or (2 ∷ 1 ∷ 1 ∷ []) k 0; value = λ k. get_or (5 ∷ 3 ∷ 4 ∷ []) k 0 }

pub desk-beside : (best_beside running asking ≡ 6) × (best running asking ≡ 7)
unfolding best_beside best_of allowed_beside sum first_of overloaded lowest_over load_verdict
desk-beside = (refl, refl)
