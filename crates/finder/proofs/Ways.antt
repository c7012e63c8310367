-- The ways that a call of `find` goes: by the planner's answer, and what holds where the planner has found no room. Each is a case of the record's fault, of
-- the table's length and of the greedy run. And what each way past it leaves, in the terms of the calls that it makes.
-- Assumes nothing.
use mathlib.Core.Path.{◌≡◌, refl, sym, ap, ◌∙◌}
use mathlib.Core.Bool.{Bool, true, false}
use mathlib.Core.List.{List, ◌++◌}
use Prim.Native.Nat.{ℕ, ◌+◌}
use native.Mathlib.Omega.{arith}
use lib.Dec.{ltb}
use lib.ListN.{length, drop, replicate, length-append, length-replicate}
use lib.Seq.{drop-append_seam}
use Rattle.std.specs.Prelude.{Result, Ok, Err}
use Rattle.laws.specs.Choice.{pick}
use Rattle.theory.specs.Greedy.{Outcome, planned, no_room, greedy}
use Rattle.site.specs.Record.{positions, size, fault_of, is_fine, answer_with}
use Rattle.site.specs.Reach.{net_of}
use Rattle.site.specs.declared.Site.{Site}
use Rattle.site.specs.declared.Fault.{Fault}
use Rattle.planner.specs.Plan.{plan_answer, plan_table}
use Rattle.planner.specs.Plan as plan
use Rattle.planner.specs.declared.PlanError.{PlanError}
use Rattle.planner.specs.declared.PlanError.TheVariants as Plan
use Rattle.finding.specs.Found.{Found, found_else, found_by, found_of}
use Rattle.finder.specs.Find.{finding_answer, finding_table, finding_leaves, find_answer, find_table, GaveUp}
use Rattle.finder.specs.declared.Way.{Way}
use Rattle.finder.specs.declared.Way.TheVariants.{Greedy}
use Rattle.finder.specs.declared.FindError.{FindError}
use Rattle.finder.specs.declared.FindError.TheVariants.{TableShort, Record}

-- idle bytes, and what is past them
pub past-idle : (m : ℕ) (x : List ℕ) → drop m (replicate m 0 ++ x) ≡ x
past-idle m x =
    ap (λ k. drop k (replicate m 0 ++ x)) (sym (length-replicate {A = ℕ} m 0)) ∙ drop-append_seam (replicate m 0) x

-- by the planner's answer: `rest` is what is answered where it finds no room
abbrev pub via_plan : Result Way FindError → Result Unit PlanError → Result Way FindError
via_plan rest (Ok u) = Ok Greedy
via_plan rest (Err Plan.TableShort) = Err TableShort
via_plan rest (Err (Plan.NoRoom c m)) = rest
via_plan rest (Err (Plan.Record f)) = Err (Record f)

-- by the planner's answer and the table that it leaves
abbrev pub via_table : (List ℕ → List ℕ) → List ℕ → Result Unit PlanError → List ℕ
via_table rest u (Ok v) = u
via_table rest u (Err Plan.TableShort) = u
via_table rest u (Err (Plan.NoRoom c m)) = rest u
via_table rest u (Err (Plan.Record f)) = u

module _ (s : Site) (limit : ℕ) (t : List ℕ) where
  abbrev net-else : Found
  net-else = found_else (net_of s) limit

  abbrev planner : Result Unit Fault → Bool → Outcome → Result Unit PlanError
  planner r short o = answer_with Plan.Record r (pick short (Err Plan.TableShort) (plan.answer_of o))

  answer-by : (r : Result Unit Fault) (short : Bool) (o : Outcome)
      → answer_with Record r (pick short (Err TableShort) (finding_answer limit (found_by (net_of s) limit o)))
      ≡ via_plan (finding_answer limit net-else) (planner r short o)
  answer-by (Ok u) true o = refl
  answer-by (Ok u) false (planned p) = refl
  answer-by (Ok u) false (no_room c m) = refl
  answer-by (Err f) short o = refl

  pub answer-via : find_answer s limit t ≡ via_plan (finding_answer limit net-else) (plan_answer s t)
  unfolding find_answer found_of plan_answer
  answer-via = answer-by (fault_of s) (ltb (length t) (size s)) (greedy (net_of s))

  abbrev plan_leaves : Result Unit Fault → Bool → Outcome → List ℕ
  plan_leaves r short o = pick (is_fine r) (pick short t (plan.table_of (size s) o ++ drop (size s) t)) t

  table-by : (r : Result Unit Fault) (short : Bool) (o : Outcome)
      → pick (is_fine r) (pick short t (finding_leaves s (found_by (net_of s) limit o) t)) t
      ≡ via_table (finding_leaves s net-else) (plan_leaves r short o) (planner r short o)
  table-by (Ok u) true o = refl
  table-by (Ok u) false (planned p) = refl
  table-by (Ok u) false (no_room c m) =
      ap (λ (x : List ℕ). finding_table s.cells (positions s) net-else ++ x) (sym (past-idle (size s) (drop (size s) t)))
  table-by (Err f) short o = refl

  pub table-via : find_table s limit t ≡ via_table (finding_leaves s net-else) (plan_table s t) (plan_answer s t)
  unfolding find_table found_of plan_answer plan_table
  table-via = table-by (fault_of s) (ltb (length t) (size s)) (greedy (net_of s))

  said_via : (a : Result Unit PlanError) → plan_answer s t ≡ a → find_answer s limit t ≡ via_plan (finding_answer limit net-else) a
  said_via a e = answer-via ∙ ap (via_plan (finding_answer limit net-else)) e

  left_via : (a : Result Unit PlanError) → plan_answer s t ≡ a → find_table s limit t ≡ via_table (finding_leaves s net-else) (plan_table s t) a
  left_via a e = table-via ∙ ap (via_table (finding_leaves s net-else) (plan_table s t)) e

  pub planned-said : plan_answer s t ≡ Ok tt → find_answer s limit t ≡ Ok Greedy
  planned-said = said_via (Ok tt)

  pub planned-left : plan_answer s t ≡ Ok tt → find_table s limit t ≡ plan_table s t
  planned-left = left_via (Ok tt)

  pub short-said : plan_answer s t ≡ Err Plan.TableShort → find_answer s limit t ≡ Err TableShort
  short-said = said_via (Err Plan.TableShort)

  pub short-left : plan_answer s t ≡ Err Plan.TableShort → find_table s limit t ≡ plan_table s t
  short-left = left_via (Err Plan.TableShort)

  pub no-room-said : (c m : ℕ) → plan_answer s t ≡ Err (Plan.NoRoom c m) → find_answer s limit t ≡ finding_answer limit net-else
  no-room-said c m = said_via (Err (Plan.NoRoom c m))

  pub no-room-left : (c m : ℕ) → plan_answer s t ≡ Err (Plan.NoRoom c m) → find_table s limit t ≡ finding_leaves s net-else (plan_table s t)
  no-room-left c m = left_via (Err (Plan.NoRoom c m))

  pub fault-said : (f : Fault) → plan_answer s t ≡ Err (Plan.Record f) → find_answer s limit t ≡ Err (Record f)
  fault-said f = said_via (Err (Plan.Record f))

  pub fault-left : (f : Fault) → plan_answer s t ≡ Err (Plan.Record f) → find_table s limit t ≡ plan_table s t
  fault-left f = left_via (Err (Plan.Record f))

-- ---- where the planner finds no room

module _ (s : Site) (t : List ℕ) (c m : ℕ) where
  room_by-law : (r : Result Unit Fault) (short : Bool) (o : Outcome) → planner s 0 t r short o ≡ Err (Plan.NoRoom c m)
      → (r ≡ Ok tt) × (plan_leaves s 0 t r short o ≡ replicate (size s) 0 ++ drop (size s) t)
  room_by-law (Ok u) true o e = cc
  room_by-law (Ok u) false (planned p) e = cc
  room_by-law (Ok u) false (no_room k l) e = (refl, refl)
  room_by-law (Err f) short o e = cc

  pub no-room-ready : plan_answer s t ≡ Err (Plan.NoRoom c m) → GaveUp s (plan_table s t)
  unfolding plan_answer plan_table
  no-room-ready e =
      let w = room_by-law (fault_of s) (ltb (length t) (size s)) (greedy (net_of s)) e in
      let u = plan_leaves s 0 t (fault_of s) (ltb (length t) (size s)) (greedy (net_of s)) in
      let is : u ≡ replicate (size s) 0 ++ drop (size s) t = w.1 in
      let long : length u ≡ size s + length (drop (size s) t)
      = ap length is ∙ length-append (replicate (size s) 0) (drop (size s) t)
      ∙ ap (λ k. k + length (drop (size s) t)) (length-replicate {A = ℕ} (size s) 0) in (
        w.0,
        omega (arith, long),
        is ∙ ap (λ (x : List ℕ). replicate (size s) 0 ++ x) (sym (ap (drop (size s)) is ∙ past-idle (size s) (drop (size s) t))),
      )

pub ruleset by_the_planner = (planned-said, planned-left, short-said, short-left, no-room-said, no-room-left, fault-said, fault-left, no-room-ready)
