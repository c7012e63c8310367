-- What the command's sentence of a wrong count says is true: the cell sends so often, and the load that is named is its own and another number.
-- Assumes nothing.
use Prim.Native.Nat.{ℕ, ◌-◌, ◌<◌}
use mathlib.Core.List.{List}
use mathlib.Core.Path.{◌≡◌, refl, sym, ap, ◌∙◌}
use native.Mathlib.Omega.{arith}
use borrow.Author.Tests.{lt-ltb}
use lib.ListN.{get_or}
use Rattle.std.specs.Prelude.{Result, Ok, Err}
use Rattle.laws.specs.Sum.{count}
use Rattle.theory.specs.Greedy.{reserved}
use Rattle.site.specs.Record.{positions, answer_with, fault_of}
use Rattle.site.specs.Means.{UpTo}
use Rattle.site.specs.declared.Site.{Site}
use Rattle.site.specs.declared.Fault.{Fault}
use Rattle.site.proofs.Faults.{fine-sized}
use Rattle.checker.specs.Check.{check_answer}
use Rattle.checker.specs.declared.CheckError.{CheckError}
use Rattle.checker.specs.declared.CheckError.TheVariants.{Count, Record}
use Rattle.checker.proofs.Meaning.{count-means}
use Rattle.verdicts.specs.Said.{load_named, count_line, check_said}

-- a count is answered of a record without a fault
accepted : (f : Result Unit Fault) (o : Result Unit CheckError) (i n : ℕ) → answer_with Record f o ≡ Err (Count i n) → f ≡ Ok tt
accepted (Ok u) o i n e = refl
accepted (Err f) o i n e = cc

-- `cell i sends n times in a superframe, and its load is l`: a cell of the site, its own count and its own load, which differ
pub record CountSaid (s : Site) (t : List ℕ) (i n l : ℕ) : Type 0 where
  pub inside : UpTo s.cells i
  pub sends : n ≡ count (reserved (positions s) t (i - 1)) (positions s)
  pub load : l ≡ get_or s.loads (i - 1) 0
  pub differ : n ≡ l → ⊥

pub count-said : (s : Site) (t : List ℕ) (i n : ℕ) → check_answer s t ≡ Err (Count i n)
    → (l : ℕ) × CountSaid s t i n l × (check_said s (Err (Count i n)) ≡ count_line i n l)
unfolding check_answer load_named
count-said s t i n e =
    let m = count-means s t i n e in
    let k = m.0 in
    let w = m.2 in
    let z = fine-sized s (accepted (fault_of s) _ i n e) in
    let here : i - 1 ≡ k = omega (arith, m.1) in
    let some : 0 < i = omega (arith, m.1) in
    let most : i < 33 = omega (arith, m.1, w.inside, z.cells_most) in
    let said : CountSaid s t i n (get_or s.loads (i - 1) 0) = record {
      inside = (some, omega (arith, m.1, w.inside));
      sends = rw here w.counted;
      load = refl;
      differ = λ q. w.differs (sym w.counted ∙ q ∙ ap (λ (x : ℕ). get_or s.loads x 0) here);
    } in
    (get_or s.loads (i - 1) 0, said, simp (lt-ltb 0 i some, lt-ltb i 33 most))
