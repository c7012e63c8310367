-- The desk's examples, through the call: the request's three flows, the paper's nine, and the bad input that each refusal is for.
-- Each answer is computed from the definition.
-- Assumes nothing.
use Prim.Native.Nat.{ℕ}
use mathlib.Core.List.{List, [], ◌∷◌, ◌++◌}
use mathlib.Core.Path.{◌≡◌, refl}
use lib.ListN.{replicate}
use Rattle.laws.specs.Sum.{sum}
use Rattle.laws.specs.Search.{first_of}
use Rattle.theory.specs.Verdict.{overloaded, lowest_over, load_verdict, second, splits, split_of, first_split, class_verdict}
use Rattle.positions.specs.Blocked.{empty_set}
use Rattle.site.specs.Record.{site_of, up_to, size_ok, rule_ok, row_bad, extra_load, bad_row, extra_blocked, fault_of}
use Rattle.site.specs.Reach.{reaches, clash_in}
use Rattle.site.specs.declared.Site.{Site}
use Rattle.shares.specs.Share.{rounded_up, share_of}
use Rattle.admitting.specs.Best.{allowed_beside, best_of, best_beside}
use Rattle.flowlist.specs.declared.Flow.{Flow}
use Rattle.admission.specs.Admit.{bad_in, refused_in, first_bad_in, answer_from, admit_answer}
use Rattle.admission.specs.Beside.{beside_in, beside_answer}
use Rattle.std.specs.Prelude.{Ok, Err}
use Rattle.admission.specs.declared.BesideError.TheVariants.{Over, Admit}
use Rattle.admission.specs.declared.AdmitError.TheVariants.{TooMany, NotNested, BadCell, BadFlow, BigShare}

-- 32 numbers, the first of them these
abbrev rows : List ℕ → List ℕ
rows xs = xs ++ replicate 27 0

abbrev flow : (cell burst period repeats value : ℕ) → Flow
flow cell burst period repeats value = record { cell = cell; burst = burst; period = period; repeats = repeats; value = value }

-- "no clashes, two cells, N=2": T=2, F=1, and loads of its own that are set aside
abbrev bare : Site
bare = site_of 2 2 1 (rows (2 ∷ 2 ∷ 0 ∷ 0 ∷ 0 ∷ [])) (rows (0 ∷ 0 ∷ 0 ∷ 0 ∷ 0 ∷ [])) empty_set 1

-- "flows (cell, share, value) 1,1,1; 2,2,1; 1,2,5": a burst of 1 each 2 slots has share 1, a burst of 2 share 2
abbrev three : List Flow
three = flow 1 1 2 1 1 ∷ flow 2 2 2 1 1 ∷ flow 1 2 2 1 5 ∷ []

-- the set {2,3} worth 6
pub desk : admit_answer bare three ≡ Ok 6
unfolding answer_from fault_of size_ok rule_ok up_to extra_load bad_row extra_blocked row_bad first_of class_verdict first_split split_of splits second clash_in
    reaches
    first_bad_in
    bad_in refused_in share_of rounded_up best_beside best_of allowed_beside sum overloaded lowest_over load_verdict
desk = refl

-- the same where position 0 of the two is blocked, so that one is open: of shares 1, 2 and 2 only the first is at most 1, and the set is {1}
abbrev narrow : Site
narrow = site_of 2 2 1 (rows (2 ∷ 2 ∷ 0 ∷ 0 ∷ 0 ∷ [])) (rows (0 ∷ 0 ∷ 0 ∷ 0 ∷ 0 ∷ [])) (1 ∷ replicate 31 0) 1

pub one-open : admit_answer narrow three ≡ Ok 1
unfolding answer_from fault_of size_ok rule_ok up_to extra_load bad_row extra_blocked row_bad first_of class_verdict first_split split_of splits second clash_in
    reaches
    first_bad_in
    bad_in refused_in share_of rounded_up best_beside best_of allowed_beside sum overloaded lowest_over load_verdict
one-open = refl

-- repeats that decide: two flows of burst 1 each 2 slots in cell 1, the first sent twice. Its share is 2 and the other's 1, which are 3 where N is 2;
-- sent once they would both go
abbrev twice : List Flow
twice = flow 1 1 2 2 3 ∷ flow 1 1 2 1 2 ∷ []

pub repeats-decide : (admit_answer bare twice ≡ Ok 1) × (admit_answer bare (flow 1 1 2 1 3 ∷ flow 1 1 2 1 2 ∷ []) ≡ Ok 3)
unfolding answer_from fault_of size_ok rule_ok up_to extra_load bad_row extra_blocked row_bad first_of class_verdict first_split split_of splits second clash_in
    reaches
    first_bad_in bad_in refused_in share_of rounded_up best_beside best_of allowed_beside sum overloaded lowest_over load_verdict
repeats-decide = (refl, refl)

-- T=3, F=2, cells 1-2-3 in a row each clashing with the next
abbrev row : Site
row = site_of 3 3 2 (rows (0 ∷ 0 ∷ 0 ∷ 0 ∷ 0 ∷ [])) (rows (2 ∷ 4 ∷ 0 ∷ 0 ∷ 0 ∷ [])) empty_set 1

-- nine flows with (cell, period, burst, value) 1,10,1,8; 1,4,3,39; 1,7,3,38; 2,10,1,50; 2,6,5,29; 2,7,6,41; 3,5,3,3; 3,11,4,20; 3,9,6,30
abbrev nine : List Flow
nine =
    flow 1 1 10 1 8 ∷ flow 1 3 4 1 39 ∷ flow 1 3 7 1 38 ∷ flow 2 1 10 1 50 ∷ flow 2 5 6 1 29 ∷ flow 2 6 7 1 41 ∷ flow 3 3 5 1 3 ∷ flow 3 4 11 1 20
    ∷ flow 3 6 9 1 30 ∷ []

-- the set {2,3,4,8,9}, worth 177
pub table-two : admit_answer row nine ≡ Ok 398
unfolding answer_from fault_of size_ok rule_ok up_to extra_load bad_row extra_blocked row_bad first_of class_verdict first_split split_of splits second clash_in
    reaches
    first_bad_in
    bad_in refused_in share_of rounded_up best_beside best_of allowed_beside sum overloaded lowest_over load_verdict
table-two = refl

-- no flows; all values 0; a cell outside the site; repeats of 5; a share too big; a star with its centre last, of whose outer cells one is spare
abbrev spare : Site
spare = site_of 3 3 2 (rows (1 ∷ 0 ∷ 1 ∷ 0 ∷ 0 ∷ [])) (rows (4 ∷ 4 ∷ 0 ∷ 0 ∷ 0 ∷ [])) empty_set 1

pub bad-input :
    (admit_answer row [] ≡ Ok 0) × (admit_answer row (flow 1 1 1 1 0 ∷ flow 2 1 1 1 0 ∷ []) ≡ Ok 0)
    × (admit_answer row (flow 1 1 1 1 9 ∷ flow 4 1 1 1 9 ∷ []) ≡ Err (BadCell 2))
    × (admit_answer row (flow 1 1 1 5 9 ∷ []) ≡ Err (BadFlow 1))
    × (admit_answer row (flow 1 1 1 1 9 ∷ flow 1 1 1 1 9 ∷ flow 2 65535 1 1 9 ∷ []) ≡ Err (BigShare 3))
    × (admit_answer spare (flow 1 1 1 1 9 ∷ []) ≡ Err NotNested) × (admit_answer spare (replicate 17 (flow 1 1 1 1 9)) ≡ Err TooMany)
unfolding answer_from fault_of size_ok rule_ok up_to extra_load bad_row extra_blocked row_bad first_of class_verdict first_split split_of splits second clash_in
    reaches
    first_bad_in
    bad_in refused_in share_of rounded_up best_beside best_of allowed_beside sum overloaded lowest_over load_verdict
bad-input = (refl, refl, refl, refl, refl, refl, refl)

-- W9: "A side drift makes a site unchained though the test is still exact there": cells 1-2-3 in a row, and cell 4 in a drift that leaves it at cell 1.
-- N is 6, and the three flows have share 3 each: with cell 1, cell 2 needs 6 positions, and so does cell 4
abbrev drift : Site
drift = site_of 4 3 2 (rows (0 ∷ 0 ∷ 0 ∷ 0 ∷ 0 ∷ [])) (rows (10 ∷ 4 ∷ 0 ∷ 0 ∷ 0 ∷ [])) empty_set 1

pub drift-admitted : admit_answer drift (flow 1 1 1 1 9 ∷ flow 2 1 1 1 9 ∷ flow 4 1 1 1 9 ∷ []) ≡ Ok 7
unfolding answer_from fault_of size_ok rule_ok up_to extra_load bad_row extra_blocked row_bad first_of class_verdict first_split split_of splits second clash_in
    reaches
    first_bad_in
    bad_in refused_in share_of rounded_up best_beside best_of allowed_beside sum overloaded lowest_over load_verdict
drift-admitted = refl

-- On top of the loads: two cells that clash, N=4, loads 1 and 1, so that cell 2 has room for 2. With 4 slots a burst of 1 has share 2 each 2 slots, and share 1
-- each 4. The set {2,3} is worth 7, and with the loads set aside all three go. Cell 2 at load 3 is full: no flow is taken. At load 5 it is over by 2, which
-- comes after 18 and before a bad flow
abbrev running : ℕ → Site
running load = site_of 2 4 1 (rows (1 ∷ load ∷ 0 ∷ 0 ∷ 0 ∷ [])) (rows (0 ∷ 1 ∷ 0 ∷ 0 ∷ 0 ∷ [])) empty_set 1

abbrev asking : List Flow
asking = flow 1 1 2 1 5 ∷ flow 2 1 4 1 3 ∷ flow 2 1 4 1 4 ∷ []

pub on-top :
    (beside_answer (running 1) asking ≡ Ok 6) × (admit_answer (running 1) asking ≡ Ok 7)
    × (beside_answer (running 3) asking ≡ Ok 0) × (beside_answer (running 5) (flow 0 0 0 0 0 ∷ []) ≡ Err (Over 2 2))
    × (beside_answer (running 5) (replicate 17 (flow 1 1 1 1 9)) ≡ Err (Admit TooMany))
    × (beside_answer (running 1) (flow 1 1 2 1 5 ∷ flow 3 1 1 1 1 ∷ []) ≡ Err (Admit (BadCell 2)))
    × (beside_answer spare (flow 1 1 1 1 9 ∷ []) ≡ Err (Admit NotNested))
unfolding answer_from beside_in fault_of size_ok rule_ok up_to extra_load bad_row extra_blocked row_bad first_of class_verdict first_split split_of splits
    second clash_in
    reaches
    first_bad_in
    bad_in refused_in share_of rounded_up best_beside best_of allowed_beside sum overloaded lowest_over load_verdict
on-top = (refl, refl, refl, refl, refl, refl, refl)

-- a cell without flows counts where it has a load: cell 2 of two that clash has load 3 of 4, and one flow of share 2 in cell 1 would put it over
pub loaded-cell : beside_answer (site_of 2 4 1 (rows (0 ∷ 3 ∷ 0 ∷ 0 ∷ 0 ∷ [])) (rows (0 ∷ 1 ∷ 0 ∷ 0 ∷ 0 ∷ [])) empty_set 1) (flow 1 1 2 1 5 ∷ [])
    ≡ Ok 0
unfolding answer_from beside_in fault_of size_ok rule_ok up_to extra_load bad_row extra_blocked row_bad first_of class_verdict first_split split_of splits
    second clash_in
    reaches
    first_bad_in
    bad_in refused_in share_of rounded_up best_beside best_of allowed_beside sum overloaded lowest_over load_verdict
loaded-cell = refl
