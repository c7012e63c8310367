-- What an answer of `find` means, for any site, any limit and any table.
--     plan_right                    a plan: the table is valid
--     none_right                    none: no table is valid, whichever way says it
--     full-right                    the set that is named is the heaviest, and is over
--     never-in-class                the class never says that there is none
--     not_known-law                     only for a site with no numbering, with no set that is over, and whose search met its limit or is too large
--     larger                        a larger limit never alters a plan or a none, nor the table
--     greedy-kept                   where the planner plans, its own table is left
--     idle-part, past-kept          what is in the table else
--     find-refused, four-means, not_written    when it refuses, and that nothing is written then
--     over_exactly, over-right, over-refused   when a set is over, and that no table is valid then; within_load  its load where it is not
-- Assumes nothing.
use mathlib.Core.Path.{◌≡◌, refl, sym, ap, ◌∙◌, subst}
use mathlib.Core.Bool.{Bool, true, false, true≢false, false≢true}
use mathlib.Core.List.{List, ◌++◌}
use mathlib.Core.Logic.{◌⊎◌, inl, inr, ⊎_elim, ◌↔◌}
use Prim.Native.Nat.{ℕ, ◌^◌, ◌≤◌, ◌<◌}
use native.Mathlib.Omega.{arith}
use lib.Dec.{ltb}
use lib.ListN.{length, drop, replicate, length-replicate}
use lib.Seq.{drop-append_seam}
use borrow.Author.Tests.{ltb-true, lt-ltb, le-ltb}
use Rattle.std.specs.Prelude.{Result, Ok, Err, is_ok}
use Rattle.laws.specs.Bits.{bit_at}
use Rattle.laws.specs.Choice.{pick}
use Rattle.laws.proofs.Choice.{cases}
use Rattle.theory.specs.Net.{Reserved, Valid, room}
use Rattle.theory.specs.Greedy.{reserved}
use Rattle.theory.specs.Full.{Mutual, weight}
use Rattle.theory.proofs.Exact.{valid-agree, planned-size}
use Rattle.theory.proofs.Row.{kept}
use Rattle.renumbering.specs.Numbering.{index_at}
use Rattle.tries.specs.Search.{Spot, reserved_by, plan_found, none_exists, tries_of, search_of, ended, limit_met}
use Rattle.tries.proofs.Sound.{plan-inside}
use Rattle.site.specs.Record.{positions, size, fault_of, is_fine, answer_with}
use Rattle.site.specs.Reach.{net_of}
use Rattle.site.specs.declared.Site.{Site}
use Rattle.site.specs.declared.Fault.{Fault}
use Rattle.site.proofs.Faults.{fine-is, fine-sized}
use Rattle.site.proofs.PassedOn.{passed_on}
use Rattle.site.proofs.Reach.{clash-sym}
use Rattle.wordforms.specs.Words.{bytes_of}
use Rattle.wordforms.proofs.Rows.{bytes-long}
use Rattle.wordtable.proofs.Same.{bytes-send}
use Rattle.judges.proofs.Meaning.{told, refused}
use Rattle.planner.specs.Plan.{plan_answer, plan_table}
use Rattle.planner.specs.Plan as plan
use Rattle.planner.proofs.Answer.{run-table}
use Rattle.planner.proofs.Meaning.{done-means}
use Rattle.heaviest.specs.Sets.{heaviest_set, heaviest_of}
use Rattle.heaviest.proofs.Meaning.{done-fine}
use Rattle.search.specs.Search.{too_large, lay_out}
use Rattle.search.proofs.Table.{lay-length, lay-mark}
use Rattle.finding.specs.Found.{over_full, Found, greedily, over_by, renumbered_plan, full_renumbered, by_search, unsearched, found_of, known}
use Rattle.finding.specs.Means.{NeverValid, NoneOver, NoNumbering, FoundMeans}
use Rattle.finding.proofs.Over.{over-means, over_none}
use Rattle.finding.proofs.Right.{found-means, found-greedy, found-larger}
use Rattle.finding.proofs.Never.{never-full}
use Rattle.finder.specs.Find.{finding_answer, finding_table, finding_leaves, find_answer, find_table, over_said, over_full_answer}
use Rattle.finder.specs.declared.Way.{Way}
use Rattle.finder.specs.declared.Way.TheVariants.{Greedy}
use Rattle.finder.specs.declared.FindError.{FindError}
use Rattle.finder.specs.declared.FindError.TheVariants.{Full, FullInClass, FullSearched, NotKnown, TableShort, Record}
use Rattle.finder.specs.declared.OverFull.TheVariants.{Over, Within}

-- an answer that there is none
abbrev pub is_none : Result Way FindError → Bool
is_none (Ok w) = false
is_none (Err (Full x)) = true
is_none (Err FullInClass) = true
is_none (Err (FullSearched n)) = true
is_none (Err (NotKnown n)) = false
is_none (Err TableShort) = false
is_none (Err (Record f)) = false

-- an answer that is no refusal
abbrev pub is_verdict : Result Way FindError → Bool
is_verdict (Ok w) = true
is_verdict (Err (Full x)) = true
is_verdict (Err FullInClass) = true
is_verdict (Err (FullSearched n)) = true
is_verdict (Err (NotKnown n)) = true
is_verdict (Err TableShort) = false
is_verdict (Err (Record f)) = false

plan-verdict : (a : Result Way FindError) → is_ok a ≡ true → is_verdict a ≡ true
plan-verdict (Ok w) h = refl
plan-verdict (Err e) h = cc

pub none-verdict : (a : Result Way FindError) → is_none a ≡ true → is_verdict a ≡ true
none-verdict (Ok w) h = cc
none-verdict (Err (Full x)) h = refl
none-verdict (Err FullInClass) h = refl
none-verdict (Err (FullSearched n)) h = refl
none-verdict (Err (NotKnown n)) h = cc
none-verdict (Err TableShort) h = cc
none-verdict (Err (Record f)) h = cc

pub none-no-plan : (a : Result Way FindError) → is_none a ≡ true → is_ok a ≡ false
none-no-plan (Ok w) h = cc
none-no-plan (Err e) h = refl

went : (r : Result Unit Fault) (short : Bool) (x : Result Way FindError) → is_verdict (answer_with Record r (pick short (Err TableShort) x)) ≡ true
    → (r ≡ Ok tt) × (short ≡ false)
went (Ok u) true x h = absurd (false≢true h)
went (Ok u) false x h = (refl, refl)
went (Err f) short x h = absurd (false≢true h)

module _ (s : Site) (limit : ℕ) (t : List ℕ) where
  -- the record is fine, and the table long enough
  record Ran : Type 0 where
    fine : fault_of s ≡ Ok tt
    long : ltb (length t) (size s) ≡ false

  ran : is_verdict (find_answer s limit t) ≡ true → Ran
  unfolding find_answer
  ran h =
      let w = went (fault_of s) (ltb (length t) (size s)) (finding_answer limit (found_of (net_of s) limit)) h in
      record { fine = w.0; long = w.1 }

  ran_says : Ran → find_answer s limit t ≡ finding_answer limit (found_of (net_of s) limit)
  unfolding find_answer
  ran_says r = rw (r.fine, r.long)

  ran-leaves : Ran → find_table s limit t ≡ finding_leaves s (found_of (net_of s) limit) t
  unfolding find_table
  ran-leaves r = rw (r.fine, r.long)

  means : Ran → FoundMeans (net_of s) limit (found_of (net_of s) limit)
  means r = found-means (net_of s) (clash-sym s.rule s.reach) (fine-sized s r.fine).cells_most limit

  -- ---- a plan

  laid-long : (qs : List Spot) → length (lay_out (positions s) qs (replicate (size s) 0)) ≡ size s
  laid-long qs = lay-length (positions s) qs (replicate (size s) 0) ∙ length-replicate {A = ℕ} (size s) 0

  plan-of : (x : Found) → FoundMeans (net_of s) limit x → is_ok (finding_answer limit x) ≡ true → Valid (net_of s)
      (reserved (positions s) (finding_leaves s x t))
  plan-of (greedily p) m h =
      valid-agree (net_of s) (reserved (positions s) p) (reserved (positions s) (p ++ drop (size s) t))
      (λ i k l w. kept (positions s) p (drop (size s) t) s.cells (planned-size (net_of s) p m.0) i k l w) m.1
  plan-of (over_by x) m h = absurd (false≢true h)
  plan-of (renumbered_plan new p) m h =
      let res : Reserved = λ i k. reserved (positions s) p (index_at new i) k in
      valid-agree (net_of s) res (reserved (positions s) (bytes_of s.cells (positions s) res ++ drop (size s) t))
      (λ i k l w. bytes-send s.cells (positions s) res (drop (size s) t) i k l w) m
  plan-of full_renumbered m h = absurd (false≢true h)
  plan-of (by_search (ended (plan_found qs n))) m h =
      let u = lay_out (positions s) qs (replicate (size s) 0) in
      valid-agree (net_of s) (reserved_by qs) (reserved (positions s) (u ++ drop (size s) t))
      (λ i k l w.
      kept (positions s) u (drop (size s) t) s.cells (laid-long qs) i k l w
      ∙ lay-mark s.cells (positions s) qs (plan-inside (net_of s) qs n m.0) i k l w) m.1
  plan-of (by_search (ended (none_exists n))) m h = absurd (false≢true h)
  plan-of (by_search limit_met) m h = absurd (false≢true h)
  plan-of unsearched m h = absurd (false≢true h)

  pub plan_right : is_ok (find_answer s limit t) ≡ true → Valid (net_of s) (reserved (positions s) (find_table s limit t))
  plan_right h =
      let r = ran (plan-verdict (find_answer s limit t) h) in
      rw (ran-leaves r) (plan-of (found_of (net_of s) limit) (means r) (ap is_ok (sym (ran_says r)) ∙ h))

  -- ---- none

  none_of : (x : Found) → FoundMeans (net_of s) limit x → is_none (finding_answer limit x) ≡ true → NeverValid (net_of s)
  none_of (greedily p) m h = absurd (false≢true h)
  none_of (over_by x) m h = m.2
  none_of (renumbered_plan new p) m h = absurd (false≢true h)
  none_of full_renumbered m h = m
  none_of (by_search (ended (plan_found qs n))) m h = absurd (false≢true h)
  none_of (by_search (ended (none_exists n))) m h = m.1
  none_of (by_search limit_met) m h = absurd (false≢true h)
  none_of unsearched m h = absurd (false≢true h)

  pub none_right : is_none (find_answer s limit t) ≡ true → NeverValid (net_of s)
  none_right h =
      let r = ran (none-verdict (find_answer s limit t) h) in
      none_of (found_of (net_of s) limit) (means r) (ap is_none (sym (ran_says r)) ∙ h)

  -- ---- the set that is named

  -- an answer's place, and the cells that it names
  full-of : (cells : ℕ) (x : Found) → FoundMeans (net_of s) limit x → finding_answer limit x ≡ Err (Full cells)
      → (cells ≡ heaviest_set (net_of s)) × (over_full (net_of s) cells ≡ true)
  full-of cells (greedily p) m h = cc
  full-of cells (over_by x) m h = let e : x ≡ cells = cc in (sym e ∙ m.0, subst (λ y. over_full (net_of s) y ≡ true) e m.1)
  full-of cells (renumbered_plan new p) m h = cc
  full-of cells full_renumbered m h = cc
  full-of cells (by_search (ended (plan_found qs n))) m h = cc
  full-of cells (by_search (ended (none_exists n))) m h = cc
  full-of cells (by_search limit_met) m h = cc
  full-of cells unsearched m h = cc

  -- it is the heaviest set, and `over_full` says that it is over
  pub full-right : (cells : ℕ) → find_answer s limit t ≡ Err (Full cells)
      → (heaviest_of s ≡ Ok (weight (net_of s) (bit_at cells), cells)) × (over_full_answer s cells ≡ Ok (Over (weight (net_of s) (bit_at cells))))
  unfolding over_full_answer
  full-right cells e =
      let r = ran (ap is_verdict e) in
      let f = full-of cells (found_of (net_of s) limit) (means r) (sym (ran_says r) ∙ e) in (
        done-fine s r.fine ∙ ap (λ (x : ℕ). Ok (weight (net_of s) (bit_at x), x)) (sym f.0),
        rw (r.fine, f.1),
      )

  -- ---- the class never says it: a site that can be numbered has a plan, or a set that is over

  class-of : (x : Found) → found_of (net_of s) limit ≡ x → Ran → finding_answer limit x ≡ Err FullInClass → ⊥
  class-of (greedily p) f r h = cc
  class-of (over_by x) f r h = cc
  class-of (renumbered_plan new p) f r h = cc
  class-of full_renumbered f r h = never-full (net_of s) (clash-sym s.rule s.reach) (fine-sized s r.fine).cells_most limit f
  class-of (by_search (ended (plan_found qs n))) f r h = cc
  class-of (by_search (ended (none_exists n))) f r h = cc
  class-of (by_search limit_met) f r h = cc
  class-of unsearched f r h = cc

  pub never-in-class : find_answer s limit t ≡ Err FullInClass → ⊥
  never-in-class e = let r = ran (ap is_verdict e) in class-of (found_of (net_of s) limit) refl r (sym (ran_says r) ∙ e)

  -- ---- not known

  abbrev NotFound : ℕ → Type 0
  NotFound n = NoNumbering (net_of s) × NoneOver (net_of s) ×
      (((n ≡ limit) × (limit < tries_of (search_of (net_of s)))) ⊎ ((n ≡ 0) × (too_large (net_of s) ≡ true)))

  unknown-of : (n : ℕ) (x : Found) → FoundMeans (net_of s) limit x → finding_answer limit x ≡ Err (NotKnown n) → NotFound n
  unknown-of n (greedily p) m h = cc
  unknown-of n (over_by x) m h = cc
  unknown-of n (renumbered_plan new p) m h = cc
  unknown-of n full_renumbered m h = cc
  unknown-of n (by_search (ended (plan_found qs k))) m h = cc
  unknown-of n (by_search (ended (none_exists k))) m h = cc
  unknown-of n (by_search limit_met) m h = (m.0, m.1, inl (let e : n ≡ limit = cc in e, m.2))
  unknown-of n unsearched m h = (m.0, m.1, inr (let e : n ≡ 0 = cc in e, m.2))

  pub not_known-law : (n : ℕ) → find_answer s limit t ≡ Err (NotKnown n) → NotFound n
  not_known-law n e =
      let r = ran (ap is_verdict e) in
      unknown-of n (found_of (net_of s) limit) (means r) (sym (ran_says r) ∙ e)

  -- ---- a larger limit

  known_of : (x : Found) → (is_ok (finding_answer limit x) ≡ true) ⊎ (is_none (finding_answer limit x) ≡ true) → known x ≡ true
  known_of (greedily p) h = refl
  known_of (over_by x) h = refl
  known_of (renumbered_plan new p) h = refl
  known_of full_renumbered h = refl
  known_of (by_search (ended r)) h = refl
  known_of (by_search limit_met) h = ⊎_elim (λ e. absurd (false≢true e)) (λ e. absurd (false≢true e)) h
  known_of unsearched h = ⊎_elim (λ e. absurd (false≢true e)) (λ e. absurd (false≢true e)) h

  same_answer : (more : ℕ) (x : Found) → known x ≡ true → finding_answer more x ≡ finding_answer limit x
  same_answer more (greedily p) h = refl
  same_answer more (over_by x) h = refl
  same_answer more (renumbered_plan new p) h = refl
  same_answer more full_renumbered h = refl
  same_answer more (by_search (ended (plan_found qs n))) h = refl
  same_answer more (by_search (ended (none_exists n))) h = refl
  same_answer more (by_search limit_met) h = absurd (false≢true h)
  same_answer more unsearched h = absurd (false≢true h)

  -- ---- the table

  idle-of : (x : Found) → is_ok (finding_answer limit x) ≡ false → finding_table s.cells (positions s) x ≡ replicate (size s) 0
  idle-of (greedily p) h = absurd (true≢false h)
  idle-of (over_by x) h = refl
  idle-of (renumbered_plan new p) h = absurd (true≢false h)
  idle-of full_renumbered h = refl
  idle-of (by_search (ended (plan_found qs n))) h = absurd (true≢false h)
  idle-of (by_search (ended (none_exists n))) h = refl
  idle-of (by_search limit_met) h = refl
  idle-of unsearched h = refl

  -- on every verdict that is no plan the site's part of the table is idle
  pub idle-part : is_verdict (find_answer s limit t) ≡ true → is_ok (find_answer s limit t) ≡ false
      → find_table s limit t ≡ replicate (size s) 0 ++ drop (size s) t
  idle-part v h =
      let r = ran v in
      ran-leaves r ∙ ap (λ (x : List ℕ). x ++ drop (size s) t) (idle-of (found_of (net_of s) limit) (ap is_ok (sym (ran_says r)) ∙ h))

  -- where the planner plans, its own table
  pub greedy-kept : plan_answer s t ≡ Ok tt → (find_answer s limit t ≡ Ok Greedy) × (find_table s limit t ≡ plan_table s t)
  greedy-kept e =
      let d = (done-means s t).0 e in
      let f : found_of (net_of s) limit ≡ greedily d.2.0 = found-greedy (net_of s) limit d.2.0 d.2.1 in
      let r : Ran = record { fine = d.0; long = le-short d.1 } in (
        ran_says r ∙ ap (finding_answer limit) f,
        ran-leaves r ∙ ap (λ x. finding_leaves s x t) f ∙ sym (run-table s t d.0 d.1 ∙ ap (λ o. plan.table_of (size s) o ++ drop (size s) t) d.2.1),
      )
    where
      le-short : size s ≤ length t → ltb (length t) (size s) ≡ false
      le-short h = le-ltb (length t) (size s) h

module _ (s : Site) (limit more : ℕ) (t : List ℕ) where
  pub larger : limit ≤ more → (is_ok (find_answer s limit t) ≡ true) ⊎ (is_none (find_answer s limit t) ≡ true)
      → (find_answer s more t ≡ find_answer s limit t) × (find_table s more t ≡ find_table s limit t)
  larger l h =
      let r = ran s limit t (⊎_elim (plan-verdict (find_answer s limit t)) (none-verdict (find_answer s limit t)) h) in
      let g : Ran s more t = record { fine = r.fine; long = r.long } in
      let says = ran_says s limit t r in
      let k : known (found_of (net_of s) limit) ≡ true
      = known_of s limit t (found_of (net_of s) limit) (⊎_elim (λ e. inl (ap is_ok (sym says) ∙ e)) (λ e. inr (ap is_none (sym says) ∙ e)) h) in
      let same = found-larger (net_of s) limit more l k in (
        ran_says s more t g ∙ ap (finding_answer more) same ∙ same_answer s limit t more (found_of (net_of s) limit) k ∙ sym says,
        ran-leaves s more t g ∙ ap (λ x. finding_leaves s x t) same ∙ sym (ran-leaves s limit t r),
      )

-- ---- refusals: the record's own fault, then 4; nothing is written

abbrev place : Result Way FindError → ℕ
place (Err (Record f)) = 0
place (Err TableShort) = 1
place (Ok w) = 2
place (Err (Full x)) = 2
place (Err FullInClass) = 2
place (Err (FullSearched n)) = 2
place (Err (NotKnown n)) = 2

place_found : (limit : ℕ) (x : Found) → place (finding_answer limit x) ≡ 2
place_found limit (greedily p) = refl
place_found limit (over_by x) = refl
place_found limit (renumbered_plan new p) = refl
place_found limit full_renumbered = refl
place_found limit (by_search (ended (plan_found qs n))) = refl
place_found limit (by_search (ended (none_exists n))) = refl
place_found limit (by_search limit_met) = refl
place_found limit unsearched = refl

no-refusal : (limit : ℕ) (short : Bool) (x : Found) (f : Fault) → pick short (Err TableShort) (finding_answer limit x) ≡ Err (Record f) → ⊥
no-refusal limit true x f e = let z : ◌≡◌ {A = ℕ} 1 0 = ap place e in omega arith
no-refusal limit false x f e = let z : place (finding_answer limit x) ≡ 0 = ap place e in omega (arith, place_found limit x)

was-short : (limit : ℕ) (r : Result Unit Fault) (short : Bool) (x : Found)
    → answer_with Record r (pick short (Err TableShort) (finding_answer limit x)) ≡ Err TableShort → (is_fine r ≡ true) × (short ≡ true)
was-short limit (Ok u) true x e = (refl, refl)
was-short limit (Ok u) false x e = absurd (let z : place (finding_answer limit x) ≡ 1 = ap place e in omega (arith, place_found limit x))
was-short limit (Err f) short x e = absurd (let z : ◌≡◌ {A = ℕ} 0 1 = ap place e in omega arith)

not-wrote : (limit : ℕ) (r : Result Unit Fault) (short : Bool) (x : Found) (t u : List ℕ)
    → is_verdict (answer_with Record r (pick short (Err TableShort) (finding_answer limit x))) ≡ false → is_verdict (finding_answer limit x) ≡ true
    → pick (is_fine r) (pick short t u) t ≡ t
not-wrote limit (Ok w) true x t u h v = refl
not-wrote limit (Ok w) false x t u h v = absurd (true≢false (sym v ∙ h))
not-wrote limit (Err f) short x t u h v = refl

all-verdicts : (limit : ℕ) (x : Found) → is_verdict (finding_answer limit x) ≡ true
all-verdicts limit (greedily p) = refl
all-verdicts limit (over_by x) = refl
all-verdicts limit (renumbered_plan new p) = refl
all-verdicts limit full_renumbered = refl
all-verdicts limit (by_search (ended (plan_found qs n))) = refl
all-verdicts limit (by_search (ended (none_exists n))) = refl
all-verdicts limit (by_search limit_met) = refl
all-verdicts limit unsearched = refl

module _ (s : Site) (limit : ℕ) (t : List ℕ) where
  pub find-refused : (f : Fault) → find_answer s limit t ≡ Err (Record f) ↔ (fault_of s ≡ Err f)
  unfolding find_answer
  find-refused = passed_on Record (λ f g e. cc) (fault_of s) _ (no-refusal limit (ltb (length t) (size s)) (found_of (net_of s) limit))

  pub four-means : (find_answer s limit t ≡ Err TableShort) ↔ ((is_fine (fault_of s) ≡ true) × (length t < size s))
  unfolding find_answer
  four-means = (
    λ e.
        let w = was-short limit (fault_of s) (ltb (length t) (size s)) (found_of (net_of s) limit) e in
        (w.0, ltb-true (length t) (size s) w.1),
    λ h. rw (fine-is (fault_of s) h.0, lt-ltb (length t) (size s) h.1),
  )

  pub not_written : is_verdict (find_answer s limit t) ≡ false → find_table s limit t ≡ t
  unfolding find_answer find_table
  not_written h =
      not-wrote limit (fault_of s) (ltb (length t) (size s)) (found_of (net_of s) limit) t _ h
      (all-verdicts limit (found_of (net_of s) limit))

  -- bytes past IN are never written
  table-long : (x : Found) → FoundMeans (net_of s) limit x → length (finding_table s.cells (positions s) x) ≡ size s
  table-long (greedily p) m = planned-size (net_of s) p m.0
  table-long (over_by x) m = length-replicate {A = ℕ} (size s) 0
  table-long (renumbered_plan new p) m = bytes-long s.cells (positions s) (λ i k. reserved (positions s) p (index_at new i) k)
  table-long full_renumbered m = length-replicate {A = ℕ} (size s) 0
  table-long (by_search (ended (plan_found qs n))) m = laid-long s limit t qs
  table-long (by_search (ended (none_exists n))) m = length-replicate {A = ℕ} (size s) 0
  table-long (by_search limit_met) m = length-replicate {A = ℕ} (size s) 0
  table-long unsearched m = length-replicate {A = ℕ} (size s) 0

  pub past-kept : drop (size s) (find_table s limit t) ≡ drop (size s) t
  past-kept =
      ⊎_elim
      (λ h.
      let r = ran s limit t h in
      let x = finding_table s.cells (positions s) (found_of (net_of s) limit) in
      ap (drop (size s)) (ran-leaves s limit t r)
      ∙ ap (λ k. drop k (x ++ drop (size s) t)) (sym (table-long (found_of (net_of s) limit) (means s limit t r)))
      ∙ drop-append_seam x (drop (size s) t))
      (λ h. ap (drop (size s)) (not_written h))
      (cases (is_verdict (find_answer s limit t)))

-- ---- a set that is over

said-over : (is : Bool) (w load : ℕ) → over_said is w ≡ Over load → (is ≡ true) × (load ≡ w)
said-over true w load e = (refl, cc)
said-over false w load e = cc

said-within : (is : Bool) (w load : ℕ) → over_said is w ≡ Within load → (is ≡ false) × (load ≡ w)
said-within true w load e = cc
said-within false w load e = (refl, cc)

module _ (s : Site) (cells : ℕ) where
  -- the load of those that the site has
  abbrev own-load : ℕ
  own-load = weight (net_of s) (bit_at cells)

  over-of : (load : ℕ) → over_full_answer s cells ≡ Ok (Over load) → (fault_of s ≡ Ok tt) × (over_full (net_of s) cells ≡ true) × (load ≡ own-load)
  unfolding over_full_answer
  over-of load e =
      let h = told (fault_of s) (over_said (over_full (net_of s) cells) own-load) (Over load) e in
      let is = said-over (over_full (net_of s) cells) own-load load h.1 in
      (h.0, is.0, is.1)

  pub over-right : (load : ℕ) → over_full_answer s cells ≡ Ok (Over load) → NeverValid (net_of s)
  over-right load e = over_none (net_of s) cells (over-of load e).1

  -- exactly when the record is accepted, the cells are the site's and clash with one another, and their loads, which are named, are above the open positions
  pub over_exactly : (load : ℕ)
      → (over_full_answer s cells ≡ Ok (Over load))
      ↔ ((fault_of s ≡ Ok tt) × (cells < 2 ^ s.cells) × Mutual (net_of s) (bit_at cells) × (room (net_of s) < own-load) × (load ≡ own-load))
  unfolding over_full_answer
  over_exactly load = (
    λ e.
        let is = over-of load e in
        let h = (over-means (net_of s) cells).0 is.1 in
        (is.0, h.0, h.1, h.2, is.2),
    λ h. rw (h.0, (over-means (net_of s) cells).1 (h.1, h.2, h.3), h.4),
  )

  -- a set that is not over has its load named as well
  pub within_load : (load : ℕ) → over_full_answer s cells ≡ Ok (Within load) → (over_full (net_of s) cells ≡ false) × (load ≡ own-load)
  unfolding over_full_answer
  within_load load e =
      said-within (over_full (net_of s) cells) own-load load (told (fault_of s) (over_said (over_full (net_of s) cells) own-load) (Within load) e).1

  pub over-refused : (f : Fault) → over_full_answer s cells ≡ Err f ↔ (fault_of s ≡ Err f)
  unfolding over_full_answer
  over-refused = refused (fault_of s) (over_said (over_full (net_of s) cells) own-load)
