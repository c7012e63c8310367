-- The ways that a call on top of the loads goes: what comes before 5, 5 as the load test names it, and the answer of an admission where the loads pass.
-- Assumes nothing.
use Prim.Native.Nat.{ℕ, ◌≤◌, ◌<◌}
use mathlib.Core.Bool.{Bool, true, false, false≢true}
use mathlib.Core.Logic.{⊎_elim}
use mathlib.Core.Path.{◌≡◌, refl, sym, ap, ◌∙◌}
use borrow.Author.Tests.{lt-ltb, le-ltb}
use Rattle.std.specs.Prelude.{Result, Ok, Err}
use Rattle.std.specs.Result.{result_and}
use Rattle.laws.proofs.Choice.{cases}
use Rattle.theory.specs.Net.{everyone, loaded, LoadTest}
use Rattle.theory.specs.Verdict.{LoadVerdict, holds, over, load_verdict, class_verdict}
use Rattle.theory.proofs.LoadLaws.{load-holds}
use Rattle.site.specs.Record.{is_fine, fault_of}
use Rattle.site.specs.Reach.{net_of}
use Rattle.site.specs.declared.Site.{Site}
use Rattle.site.specs.declared.Fault.{Fault}
use Rattle.site.proofs.Faults.{fine-is}
use Rattle.judges.specs.Judges.{load_of, load_answer}
use Rattle.judges.specs.declared.LoadVerdict as judged
use Rattle.judges.specs.declared.LoadVerdict.TheVariants as load
use Rattle.flowlist.specs.declared.Flow.{Flow}
use Rattle.admission.specs.Admit.{is_nested, answer_from}
use Rattle.admission.specs.Beside.{as_beside, is_asked, beside_where, beside_in}
use Rattle.admission.specs.declared.AdmitError.{AdmitError}
use Rattle.admission.specs.declared.AdmitError.TheVariants.{TooMany, NotNested, Record}
use Rattle.admission.specs.declared.BesideError.{BesideError}
use Rattle.admission.specs.declared.BesideError.TheVariants.{Over, Admit}
use Rattle.admission.proofs.Answer.{fault-answer, many-answer, outside-answer}

-- ---- the load test's answer

abbrev pub is_over : Result judged.LoadVerdict Fault → Bool
is_over (Ok load.Holds) = false
is_over (Ok (load.Over cell excess)) = true
is_over (Err f) = false

-- 5 says of the answer what the load test says
abbrev restated : judged.LoadVerdict → Result ℕ BesideError
restated load.Holds = Err (Over 0 0)
restated (load.Over cell excess) = Err (Over cell excess)

named : (v : LoadVerdict) (a : Result ℕ AdmitError) (cell excess : ℕ) → load_of v ≡ load.Over cell excess → beside_where true v a ≡ Err (Over cell excess)
named (over i m) a cell excess e = ap restated e
named holds a cell excess e = absurd (false≢true (ap (λ (x : judged.LoadVerdict). is_over (Ok x)) e))

quiet : (t : Bool) (v : LoadVerdict) (a : Result ℕ AdmitError) → is_over (Ok (load_of v)) ≡ false → beside_where t v a ≡ as_beside a
quiet true holds a h = refl
quiet true (over i m) a h = absurd (false≢true (sym h))
quiet false v a h = refl

holds-is : (v : LoadVerdict) → is_over (Ok (load_of v)) ≡ false → v ≡ holds
holds-is holds h = refl
holds-is (over i m) h = absurd (false≢true (sym h))

-- the verdict behind the answer, of an accepted record
pub verdict-of : (s : Site) → fault_of s ≡ Ok tt → load_answer s ≡ Ok (load_of (load_verdict (net_of s) (loaded (net_of s))))
unfolding load_answer
verdict-of s h = rw h refl

-- where a cell is named the record is accepted
pub over-fine : (s : Site) → is_over (load_answer s) ≡ true → fault_of s ≡ Ok tt
unfolding load_answer
over-fine s e = at (fault_of s) _ e
  where
    at : (f : Result Unit Fault) (a : Result judged.LoadVerdict Fault) → is_over (result_and f a) ≡ true → f ≡ Ok tt
    at (Ok u) a h = refl
    at (Err g) a h = absurd (false≢true h)

-- where none is, the loads of an accepted record pass
pub passes-quiet : (s : Site) → is_over (load_answer s) ≡ false → fault_of s ≡ Ok tt → LoadTest (net_of s) (loaded (net_of s))
passes-quiet s h e =
    let v : load_verdict (net_of s) (loaded (net_of s)) ≡ holds
    = holds-is (load_verdict (net_of s) (loaded (net_of s))) (sym (ap is_over (verdict-of s e)) ∙ h) in
    (load-holds (net_of s) (loaded (net_of s))).0 v

-- ---- the ways of the call

module _ (s : Site) (f : ℕ → Flow) (n : ℕ) where
  pub before : is_asked s n ≡ false → beside_in s f n ≡ as_beside (answer_from (net_of s) s f n)
  unfolding beside_in
  before e = rw e refl

  pub fault-beside : (g : Fault) → fault_of s ≡ Err g → beside_in s f n ≡ Err (Admit (Record g))
  fault-beside g e = before (rw e refl) ∙ ap as_beside (fault-answer (net_of s) s f n g e)

  pub many-beside : fault_of s ≡ Ok tt → 16 < n → beside_in s f n ≡ Err (Admit TooMany)
  many-beside e h = before (rw (e, lt-ltb 16 n h) refl) ∙ ap as_beside (many-answer (net_of s) s f n e h)

  pub outside-beside : fault_of s ≡ Ok tt → n ≤ 16 → is_nested (class_verdict (net_of s) everyone) ≡ false → beside_in s f n ≡ Err (Admit NotNested)
  outside-beside e h q = before (rw (e, le-ltb 16 n h, q) refl) ∙ ap as_beside (outside-answer (net_of s) s f n e h q)

  pub over-beside : fault_of s ≡ Ok tt → n ≤ 16 → is_nested (class_verdict (net_of s) everyone) ≡ true → (cell excess : ℕ) → load_answer s
      ≡ Ok (load.Over cell excess)
      → beside_in s f n ≡ Err (Over cell excess)
  unfolding beside_in
  over-beside e h q cell excess o =
      let asked : is_asked s n ≡ true = rw (e, le-ltb 16 n h, q) refl in
      let verdict : load_of (load_verdict (net_of s) (loaded (net_of s))) ≡ load.Over cell excess
      = ap (verdict_in (load.Over cell excess)) (sym (verdict-of s e) ∙ o) in
      rw asked (named (load_verdict (net_of s) (loaded (net_of s))) (answer_from (net_of s) s f n) cell excess verdict)
    where
      verdict_in : judged.LoadVerdict → Result judged.LoadVerdict Fault → judged.LoadVerdict
      verdict_in x (Ok v) = v
      verdict_in x (Err g) = x

  pub quiet-beside : is_over (load_answer s) ≡ false → beside_in s f n ≡ as_beside (answer_from (net_of s) s f n)
  unfolding beside_in
  quiet-beside h =
      ⊎_elim
      (λ e.
      quiet (is_asked s n) (load_verdict (net_of s) (loaded (net_of s))) (answer_from (net_of s) s f n)
      (sym (ap is_over (verdict-of s (fine-is (fault_of s) e))) ∙ h))
      (λ e. before (rw e refl))
      (cases (is_fine (fault_of s)))
