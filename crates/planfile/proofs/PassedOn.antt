-- The writer passes on the record's own fault, exactly where there is one: the lemma of crate `site`, since a file that is written, a table that is short,
-- or a file that does not fit, is no refusal of the record. After it 4, and then 13 with the bytes needed, each exactly where it applies. Assumes nothing.
use Prim.Native.Nat.{ℕ, ◌≤◌, ◌<◌}
use mathlib.Core.Path.{◌≡◌, refl}
use mathlib.Core.Bool.{Bool, true, false}
use mathlib.Core.List.{List}
use mathlib.Core.Logic.{◌↔◌}
use native.Mathlib.Omega.{arith}
use borrow.Author.Tests.{ltb-true, ltb-false, lt-ltb, le-ltb, leb-false, lt-leb}
use lib.Dec.{ltb, leb}
use lib.ListN.{length}
use Rattle.laws.specs.Choice.{pick}
use Rattle.site.specs.Record.{size, fault_of, answer_with}
use Rattle.site.specs.declared.Site.{Site}
use Rattle.site.specs.declared.Fault.{Fault}
use Rattle.site.proofs.PassedOn.{passed_on}
use Rattle.std.specs.Prelude.{Result, Ok, Err}
use Rattle.planfile.specs.Write.{plan_file, plan_written}
use Rattle.planfile.specs.declared.PlanWriteError.{PlanWriteError}
use Rattle.planfile.specs.declared.PlanWriteError.TheVariants.{TableShort, OutShort, Record}

-- the answer for an accepted record, by its tests
abbrev answer : Bool → Bool → ℕ → Result ℕ PlanWriteError
answer short fits n = pick short (Err TableShort) (pick fits (Ok n) (Err (OutShort n)))

no-refusal : (short fits : Bool) (n : ℕ) (f : Fault) → answer short fits n ≡ Err (Record f) → ⊥
no-refusal true fits n f e = let z : ◌≡◌ {A = ℕ} 0 1 = cc in omega arith
no-refusal false true n f e = let z : ◌≡◌ {A = ℕ} 0 1 = cc in omega arith
no-refusal false false n f e = let z : ◌≡◌ {A = ℕ} 0 1 = cc in omega arith

-- which tests an answer has passed
was-four : (r : Result Unit Fault) (short fits : Bool) (n : ℕ)
    → answer_with Record r (answer short fits n) ≡ Err TableShort → (r ≡ Ok tt) × (short ≡ true)
was-four (Ok u) true fits n e = (refl, refl)
was-four (Ok u) false true n e = let z : ◌≡◌ {A = ℕ} 0 1 = cc in absurd (omega arith)
was-four (Ok u) false false n e = let z : ◌≡◌ {A = ℕ} 0 1 = cc in absurd (omega arith)
was-four (Err f) short fits n e = let z : ◌≡◌ {A = ℕ} 0 1 = cc in absurd (omega arith)

was-thirteen : (r : Result Unit Fault) (short fits : Bool) (n m : ℕ)
    → answer_with Record r (answer short fits n) ≡ Err (OutShort m) → (r ≡ Ok tt) × (short ≡ false) × (fits ≡ false) × (m ≡ n)
was-thirteen (Ok u) true fits n m e = let z : ◌≡◌ {A = ℕ} 0 1 = cc in absurd (omega arith)
was-thirteen (Ok u) false true n m e = let z : ◌≡◌ {A = ℕ} 0 1 = cc in absurd (omega arith)
was-thirteen (Ok u) false false n m e = (refl, refl, refl, cc)
was-thirteen (Err f) short fits n m e = let z : ◌≡◌ {A = ℕ} 0 1 = cc in absurd (omega arith)

module _ (s : Site) (t out : List ℕ) where
  pub plan-written-refused : (f : Fault) → plan_written s t out ≡ Err (Record f) ↔ (fault_of s ≡ Err f)
  unfolding plan_written
  plan-written-refused =
      let n = length (plan_file s t) in
      passed_on Record (λ f g e. cc) (fault_of s) _ (no-refusal (ltb (length t) (size s)) (leb n (length out)) n)

  -- "4 where there is a table": exactly where the record has no fault and the table is shorter than IN, whatever the output
  pub plan-written-four : (plan_written s t out ≡ Err TableShort) ↔ ((fault_of s ≡ Ok tt) × (length t < size s))
  unfolding plan_written
  plan-written-four =
      let n = length (plan_file s t) in (
        λ e.
            let w = was-four (fault_of s) (ltb (length t) (size s)) (leb n (length out)) n e in
            (w.0, ltb-true (length t) (size s) w.1),
        λ h. rw (h.0, lt-ltb (length t) (size s) h.1),
      )

  -- then "13", with the "bytes needed": exactly where the table is long enough and the output is shorter than the file, and with the file's length
  pub plan-written-thirteen : (n : ℕ) → (plan_written s t out ≡ Err (OutShort n))
      ↔ ((fault_of s ≡ Ok tt) × (size s ≤ length t) × (length out < length (plan_file s t)) × (n ≡ length (plan_file s t)))
  unfolding plan_written
  plan-written-thirteen n =
      let m = length (plan_file s t) in (
        λ e.
            let w = was-thirteen (fault_of s) (ltb (length t) (size s)) (leb m (length out)) m n e in
            (w.0, ltb-false (length t) (size s) w.1, leb-false m (length out) w.2, w.3),
        λ h. rw (h.0, le-ltb (length t) (size s) h.1, lt-leb m (length out) h.2, h.3),
      )
