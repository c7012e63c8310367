-- What the planner's answers mean, by the theorems on planning problems.
--     plan-refused      refused: the record's own fault, where it has one
--     done-means        done: nothing is wrong with the record, the table is long enough, and the greedy run plans
--     done-valid        then the table is valid
--     short-means       no room: the cell's shortage, counted from its row
--     test-done         where the load test holds the planner is done
--     figure-answer, figure-table   answer and table are those of the paper's Figure 1
-- Assumes nothing.
use mathlib.Core.Path.{◌≡◌, refl, sym, ap, ◌∙◌}
use mathlib.Core.Bool.{Bool, true, false, false≢true}
use mathlib.Core.List.{List, ◌++◌}
use mathlib.Core.Logic.{◌↔◌}
use Prim.Native.Nat.{ℕ, ◌+◌, ◌≤◌}
use lib.Dec.{ltb}
use lib.ListN.{length, drop}
use borrow.Author.Tests.{ltb-false}
use Rattle.laws.specs.Choice.{pick}
use Rattle.theory.specs.Net.{Valid, Covers, LoadTest}
use Rattle.theory.specs.Greedy.{reserved, row, Outcome, planned, no_room, greedy, Plans}
use Rattle.theory.specs.Figure.{figure_one}
use Rattle.theory.proofs.Row.{kept}
use Rattle.theory.specs.Named.{Fails}
use Rattle.theory.proofs.Run.{run-fails}
use Rattle.theory.proofs.Exact.{planned-valid, planned-size, valid-agree, test-plans}
use Rattle.theory.proofs.Figure.{figure-greedy}
use Rattle.site.specs.Record.{positions, fault_of, size, answer_with}
use Rattle.site.specs.Reach.{net_of}
use Rattle.site.proofs.PassedOn.{passed_on}
use Rattle.site.specs.declared.Site.{Site}
use Rattle.site.specs.declared.Fault.{Fault}
use Rattle.planner.specs.Plan.{answer_of, table_of, plan_answer, plan_table}
use Rattle.planner.specs.declared.PlanError.{PlanError}
use Rattle.planner.specs.declared.PlanError.TheVariants.{TableShort, NoRoom, Record}
use Rattle.std.specs.Prelude.{Result, Ok, Err}
use Rattle.planner.proofs.Answer.{run-answer, run-table}

-- a call that went on to the run
pub record Ran (s : Site) (t : List ℕ) (a : Result Unit PlanError) : Type 0 where
  pub fine : fault_of s ≡ Ok tt
  pub long : size s ≤ length t
  pub answer : answer_of (greedy (net_of s)) ≡ a

-- such an answer is the run's
runs : Result Unit PlanError → Bool
runs (Ok u) = true
runs (Err TableShort) = false
runs (Err (NoRoom c m)) = true
runs (Err (Record f)) = false

ran-of : (f : Result Unit Fault) (short : Bool) (o a : Result Unit PlanError) → runs a ≡ true
    → answer_with Record f (pick short (Err TableShort) o) ≡ a → (f ≡ Ok tt) × (short ≡ false) × (o ≡ a)
unfolding runs
ran-of (Ok u) true o a h e = absurd (false≢true (ap runs e ∙ h))
ran-of (Ok u) false o a h e = (refl, refl, e)
ran-of (Err f) short o a h e = absurd (false≢true (ap runs e ∙ h))

ran : (s : Site) (t : List ℕ) (a : Result Unit PlanError) → runs a ≡ true → plan_answer s t ≡ a → Ran s t a
unfolding plan_answer
ran s t a h e =
    let z = ran-of (fault_of s) (ltb (length t) (size s)) (answer_of (greedy (net_of s))) a h e in
    record { fine = z.0; long = ltb-false (length t) (size s) z.1; answer = z.2 }

-- "1, 2, 3, .. then 4": a refusal carries the record's own fault, and a record at fault is refused
no-refusal : (short : Bool) (o : Outcome) (f : Fault) → pick short (Err TableShort) (answer_of o) ≡ Err (Record f) → ⊥
no-refusal true o f e = cc
no-refusal false (planned t) f e = cc
no-refusal false (no_room c m) f e = cc

pub plan-refused : (s : Site) (t : List ℕ) (f : Fault) → plan_answer s t ≡ Err (Record f) ↔ (fault_of s ≡ Err f)
unfolding plan_answer
plan-refused s t = passed_on Record (λ f g e. cc) (fault_of s) _ (no-refusal (ltb (length t) (size s)) (greedy (net_of s)))

done-planned : (o : Outcome) → answer_of o ≡ Ok tt → (t : List ℕ) × (o ≡ planned t)
done-planned (planned t) e = (t, refl)
done-planned (no_room c m) e = cc

-- done, exactly where nothing is wrong with the record, the table is long enough and the greedy run plans
pub done-means : (s : Site) (t : List ℕ) → (plan_answer s t ≡ Ok tt) ↔ ((fault_of s ≡ Ok tt) × (size s ≤ length t) × Plans (net_of s))
unfolding runs
done-means s t = (
  (λ e. let r = ran s t (Ok tt) refl e in (r.fine, r.long, done-planned (greedy (net_of s)) r.answer)),
  (λ h. run-answer s t h.0 h.1 ∙ ap answer_of h.2.1),
)

-- ---- the table of a finished plan

pub done-valid : (s : Site) (t : List ℕ) → plan_answer s t ≡ Ok tt → Valid (net_of s) (reserved (positions s) (plan_table s t))
done-valid s t e =
    let h = (done-means s t).0 e in
    let p = h.2.0 in
    let is : plan_table s t ≡ p ++ drop (size s) t = run-table s t h.0 h.1 ∙ ap (λ o. table_of (size s) o ++ drop (size s) t) h.2.1 in
    rw is
    (valid-agree (net_of s) (reserved (positions s) p) (reserved (positions s) (p ++ drop (size s) t))
    (λ i k l w. kept (positions s) p (drop (size s) t) s.cells (planned-size (net_of s) p h.2.1) i k l w)
    (planned-valid (net_of s) p h.2.1))

-- ---- no room

no-room-run : (o : Outcome) (c m : ℕ) → answer_of o ≡ Err (NoRoom c m) → (k : ℕ) × (c ≡ k + 1) × (o ≡ no_room k m)
no-room-run (planned t) c m e = cc
no-room-run (no_room k l) c m e = let p : k + 1 ≡ c = cc in let q : l ≡ m = cc in (k, sym p, ap (no_room k) q)

-- the cell that is named is the first whose row leaves fragments over, and as many as are named
pub short-means : (s : Site) (t : List ℕ) (c m : ℕ) → plan_answer s t ≡ Err (NoRoom c m) → (k : ℕ) × (c ≡ k + 1) × Fails (net_of s) (row (net_of s)) s.cells k m
unfolding runs
short-means s t c m e =
    let r = ran s t (Err (NoRoom c m)) refl e in
    let z = no-room-run (greedy (net_of s)) c m r.answer in
    (z.0, z.1, run-fails (net_of s) (row (net_of s)) s.cells z.0 m z.2)

-- ---- the load test, and the paper's figure

module _ (s : Site) (t : List ℕ) (fine : fault_of s ≡ Ok tt) (long : size s ≤ length t) where
  pub test-done : (who : ℕ → Bool) → Covers (net_of s) who → LoadTest (net_of s) who → plan_answer s t ≡ Ok tt
  test-done who covers h = (done-means s t).1 (fine, long, test-plans (net_of s) who covers h)

  pub figure-answer : plan_answer s t ≡ answer_of (figure_one (net_of s) s.slots s.channels)
  figure-answer = run-answer s t fine long ∙ ap answer_of (sym (figure-greedy (net_of s) s.slots s.channels refl))

  pub figure-table : plan_table s t ≡ table_of (size s) (figure_one (net_of s) s.slots s.channels) ++ drop (size s) t
  figure-table =
      run-table s t fine long
      ∙ ap (λ o. table_of (size s) o ++ drop (size s) t) (sym (figure-greedy (net_of s) s.slots s.channels refl))
