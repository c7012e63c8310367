-- What is printed is true, from the words back to the answer. A refusal begins with an r, and no good answer does, so that `valid`, `planned`, `valid as it is`
-- and `mended` come of these answers alone; and the answers mean what is promised of them.
--     valid-printed          `valid` is printed exactly of valid tables
--     planned-printed        where `planned` is printed, the plan is valid
--     unchanged-printed      where `valid as it is` is printed, the table was valid
--     mended-printed         where `mended` is printed, the new table is valid
-- Assumes nothing.
use Prim.Native.Nat.{ℕ, ◌+◌, ◌/◌, ◌%◌}
use mathlib.Core.Bool.{Bool, true, false, ◌||◌, ◌&&◌, true≢false}
use mathlib.Core.List.{List}
use mathlib.Core.Logic.{◌↔◌}
use mathlib.Core.Path.{◌≡◌, refl, sym, ap, ◌∙◌}
use native.Mathlib.Omega.{arith}
use borrow.Author.Tests.{eqb-true}
use lib.Dec.{ltb, eqb}
use lib.ListN.{get_or}
use Rattle.std.specs.Prelude.{Result, Ok, Err, Option, Some, None}
use Rattle.laws.specs.Choice.{pick}
use Rattle.theory.specs.Net.{Valid}
use Rattle.theory.specs.Greedy.{reserved}
use Rattle.site.specs.Record.{positions}
use Rattle.site.specs.Reach.{net_of}
use Rattle.site.specs.declared.Site.{Site}
use Rattle.site.specs.declared.Fault.{Fault}
use Rattle.site.specs.declared.Fault.TheVariants.{Size, Rule, Load, Reach, Blocked}
use Rattle.checker.specs.Check.{check_answer}
use Rattle.checker.specs.Given.{check_given}
use Rattle.checker.specs.declared.CheckError.{CheckError}
use Rattle.checker.specs.declared.CheckError.TheVariants as check
use Rattle.planner.specs.Plan.{plan_answer, plan_table}
use Rattle.planner.specs.Given.{plan_given}
use Rattle.planner.specs.declared.PlanError.{PlanError}
use Rattle.planner.specs.declared.PlanError.TheVariants as plan
use Rattle.mender.specs.Mend.{mend_answer, mend_table}
use Rattle.mender.specs.Given.{mend_given}
use Rattle.mender.specs.declared.MendError.{MendError}
use Rattle.mender.specs.declared.MendError.TheVariants as mend
use Rattle.speech.specs.Speech.{spoken}
use Rattle.say_refusals.specs.Lines.{refusal_heads}
use Rattle.say_refusals.specs.Said.{refused_line}
use Rattle.say_refusals.specs.declared.Place.{Place}
use Rattle.say_refusals.specs.declared.Place.TheVariants as place
use Rattle.say_refusals.specs.Sentences.{sentence}
use Rattle.say_refusals.specs.declared.Sentence.{Sentence}
use Rattle.say_refusals.specs.declared.Sentence.TheVariants.{Refusal}
use Rattle.verdicts.specs.Lines.{verdict_lines, unchanged_row, mended_row, blocked_row}
use Rattle.verdicts.specs.Said.{line, reach_named, way_sentence, blocked_sentence, clash_sentence, changes_sentence, fault_said, check_said, plan_said}
use Rattle.verdicts.specs.Said.{mend_said}
use Rattle.verdicts.specs.Said.{valid_line, planned_line, unchanged_line, mended_line}
use Rattle.demanded.specs.Numbers.{done}
use Rattle.demanded.specs.Demands.{Accepted, LongEnough}
use Rattle.demanded.proofs.Numbers.{check-number}
use Rattle.demanded.proofs.Demand2.{check-is-valid, planned-checks}
use Rattle.promises.proofs.Mending.{mended-checks, unchanged-valid}

-- ---- how words begin

abbrev begins : List ℕ → ℕ
begins words = get_or words 0 0

-- with an r (114), or not at all
abbrev refusing : List ℕ → Bool
refusing words = eqb (begins words) 114 || eqb (begins words) 0

-- words that refuse are not those of a good answer
apart : (l m : List ℕ) → l ≡ m → refusing l ≡ true → refusing m ≡ false → ⊥
apart l m e p q = true≢false (sym p ∙ ap refusing e ∙ q)

refused-r : (n : ℕ) (p : Option Place) → refusing (refused_line n p) ≡ true
unfolding refusal_heads refused_line spoken
refused-r n None = refl
refused-r n (Some (place.Byte k)) = refl
refused-r n (Some (place.PlanByte k)) = refl
refused-r n (Some (place.Line k)) = refl
refused-r n (Some (place.Cell k)) = refl
refused-r n (Some (place.Flow k)) = refl
refused-r n (Some (place.Position k)) = refl

fault-r : (f : Fault) → refusing (fault_said f) ≡ true
fault-r Size = refused-r 1 None
fault-r Rule = refused-r 24 None
fault-r (Load k) = refused-r 2 (Some (place.Cell k))
fault-r (Reach k) = refused-r 3 (Some (place.Cell k))
fault-r (Blocked k) = refused-r 20 (Some (place.Position k))

chosen-r : (t : Bool) (x y : Sentence) → refusing (sentence verdict_lines x) ≡ true → refusing (sentence verdict_lines y) ≡ true
    → refusing (sentence verdict_lines (pick t x y)) ≡ true
chosen-r true x y p q = p
chosen-r false x y p q = q

way-r : (forth back : Bool) (a c slot channel : ℕ) → refusing (sentence verdict_lines (way_sentence forth back a c slot channel)) ≡ true
unfolding verdict_lines spoken
way-r true true a c slot channel = refl
way-r true false a c slot channel = refl
way-r false true a c slot channel = refl
way-r false false a c slot channel = refl

clash-r : (s : Site) (p a c : ℕ) → refusing (check_said s (Err (check.Clash p a c))) ≡ true
unfolding clash_sentence
clash-r s p a c =
    let slot = p / s.channels + 1 in
    let channel = p % s.channels + 1 in
    chosen-r (ltb 0 s.channels && ltb p 65536) (way_sentence (reach_named s a c) (reach_named s c a) a c slot channel) (Refusal 6 None)
    (way-r (reach_named s a c) (reach_named s c a) a c slot channel) (refused-r 6 None)

blocked-r : (s : Site) (p c : ℕ) → refusing (check_said s (Err (check.Blocked p c))) ≡ true
unfolding blocked_sentence verdict_lines spoken
blocked-r s p c =
    chosen-r (ltb 0 s.channels && ltb p 65536) (line blocked_row c (p / s.channels + 1) (p % s.channels + 1) 0) (Refusal 22 None)
    refl (refused-r 22 None)

-- ---- from the words back to the answer

valid-only : (s : Site) (a : Result Unit CheckError) → check_said s a ≡ valid_line → a ≡ Ok tt
unfolding verdict_lines spoken
valid-only s (Ok u) e = refl
valid-only s (Err check.TableShort) e = absurd (apart _ _ e (refused-r 4 None) refl)
valid-only s (Err (check.Blocked p c)) e = absurd (apart _ _ e (blocked-r s p c) refl)
valid-only s (Err (check.Clash p a c)) e = absurd (apart _ _ e (clash-r s p a c) refl)
valid-only s (Err (check.Count i n)) e = absurd (apart _ _ e refl refl)
valid-only s (Err (check.Record f)) e = absurd (apart _ _ e (fault-r f) refl)

planned-only : (s : Site) (a : Result Unit PlanError) (i t f : ℕ) → plan_said s a ≡ planned_line i t f → a ≡ Ok tt
unfolding verdict_lines spoken
planned-only s (Ok u) i t f e = refl
planned-only s (Err plan.TableShort) i t f e = absurd (apart _ _ e (refused-r 4 None) refl)
planned-only s (Err (plan.NoRoom c n)) i t f e = absurd (apart _ _ e refl refl)
planned-only s (Err (plan.Record g)) i t f e = absurd (apart _ _ e (fault-r g) refl)

-- of the words of a number of changes, those of none are apart by their first letter
none-changed : (n : ℕ) (b : Bool) → eqb n 0 ≡ b
    → sentence verdict_lines (pick b (line unchanged_row 0 0 0 0) (line mended_row n 0 0 0)) ≡ unchanged_line → n ≡ 0
unfolding verdict_lines spoken
none-changed n true p e = eqb-true n 0 p
none-changed n false p e = let z : ◌≡◌ {A = ℕ} 109 118 = ap begins e in absurd (omega arith)

unchanged-only : (a : Result ℕ MendError) → mend_said a ≡ unchanged_line → a ≡ Ok 0
unfolding verdict_lines spoken changes_sentence
unchanged-only (Ok n) e = ap Ok (none-changed n (eqb n 0) refl e)
unchanged-only (Err mend.TableShort) e = absurd (apart _ _ e (refused-r 4 None) refl)
unchanged-only (Err (mend.NoRoom c n)) e = absurd (apart _ _ e refl refl)
unchanged-only (Err (mend.ListShort n)) e = absurd (apart _ _ e (refused-r 13 None) refl)
unchanged-only (Err (mend.Record f)) e = absurd (apart _ _ e (fault-r f) refl)

mended-only : (a : Result ℕ MendError) (k : ℕ) → mend_said a ≡ mended_line k → (n : ℕ) × (a ≡ Ok n)
unfolding verdict_lines spoken
mended-only (Ok n) k e = (n, refl)
mended-only (Err mend.TableShort) k e = absurd (apart _ _ e (refused-r 4 None) refl)
mended-only (Err (mend.NoRoom c n)) k e = absurd (apart _ _ e refl refl)
mended-only (Err (mend.ListShort n)) k e = absurd (apart _ _ e (refused-r 13 None) refl)
mended-only (Err (mend.Record f)) k e = absurd (apart _ _ e (fault-r f) refl)

-- ---- what is printed

pub valid-printed : (s : Site) (t : List ℕ)
    → check_said s (check_answer s t) ≡ valid_line ↔ ((Accepted s) × (LongEnough s t) × (Valid (net_of s) (reserved (positions s) t)))
valid-printed s t = (
  λ e. (check-is-valid s t).0 (ap check_given (valid-only s (check_answer s t) e)),
  λ v. ap (check_said s) ((check-number s t).0 ((check-is-valid s t).1 v)),
)

pub planned-printed : (s : Site) (lent : List ℕ) (i t f : ℕ) → plan_said s (plan_answer s lent) ≡ planned_line i t f
    → check_given (check_answer s (plan_table s lent)) ≡ done
planned-printed s lent i t f e = planned-checks s lent (ap plan_given (planned-only s (plan_answer s lent) i t f e))

module _ (s : Site) (u l : List ℕ) where
  pub unchanged-printed : mend_said (mend_answer s u l) ≡ unchanged_line → check_given (check_answer s u) ≡ done
  unchanged-printed e = unchanged-valid s u l (ap mend_given (unchanged-only (mend_answer s u l) e))

  pub mended-printed : (k : ℕ) → mend_said (mend_answer s u l) ≡ mended_line k → check_given (check_answer s (mend_table s u l)) ≡ done
  mended-printed k e = let m = mended-only (mend_answer s u l) k e in mended-checks s u l m.0 (ap mend_given m.1)
