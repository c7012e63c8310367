-- What is chosen by the arrays is the answer of an admission: the first flow that is refused is the same, and where there is none the arrays state the list's
-- flows, and the rows and rooms the problem, so that the best set is the same.
-- Assumes nothing.
use Prim.Native.Nat.{ℕ, ◌+◌, ◌≤◌, ◌<◌}
use mathlib.Core.Bool.{true}
use mathlib.Core.List.{List}
use mathlib.Core.Logic.{⊎_elim}
use mathlib.Core.Path.{◌≡◌, refl, sym, ap, ◌∙◌}
use borrow.Author.Tests.{ltb-true, ltb-false, lt-ltb, le-ltb}
use lib.Dec.{ltb}
use lib.ListN.{get_or}
use Rattle.laws.proofs.Choice.{cases}
use Rattle.theory.specs.Net.{Net, everyone}
use Rattle.theory.specs.Verdict.{class_verdict}
use Rattle.site.specs.Record.{fault_of}
use Rattle.site.specs.Reach.{net_of}
use Rattle.site.specs.declared.Site.{Site}
use Rattle.std.specs.Prelude.{Ok, Err}
use Rattle.site.proofs.Faults.{fine-sized}
use Rattle.bestset.specs.Code.{Stands}
use Rattle.bestset.proofs.Problem.{best-in-is}
use Rattle.flowlist.specs.declared.Flow.{Flow}
use Rattle.admission.specs.Admit.{refused_in, first_bad_in, is_nested, answer_from}
use Rattle.admission.specs.Code.{best_laid, chosen_in}
use Rattle.admission.proofs.Answer.{bad-answer, set-answer}
use Rattle.admission.proofs.Arrays.{inside, same-best}

module _ (cells slots : ℕ) (f : ℕ → Flow) (n : ℕ) (rows rooms : List ℕ) where
  pub chosen-bad : (bad : ℕ) → bad ≡ first_bad_in cells slots f n → bad < n
      → chosen_in cells slots f n rows rooms ≡ Err (refused_in cells slots (f bad) (bad + 1))
  unfolding chosen_in
  chosen-bad bad b l = rw (← b, lt-ltb bad n l)

  pub chosen-set : n ≤ first_bad_in cells slots f n → chosen_in cells slots f n rows rooms ≡ Ok (best_laid slots f n rows rooms)
  unfolding chosen_in
  chosen-set l = rw (le-ltb (first_bad_in cells slots f n) n l)

module _ (start : Net) (s : Site) (f : ℕ → Flow) (n : ℕ) (fine : fault_of s ≡ Ok tt) (few : n ≤ 16)
    (class : is_nested (class_verdict (net_of s) everyone) ≡ true)
    (rows rooms : List ℕ) (stand : (own : List ℕ) → ((k : ℕ) → k < 16 → get_or own k 0 < s.cells) → Stands start rooms rows own) where
  abbrev bad : ℕ
  bad = first_bad_in s.cells s.slots f n

  best_is : n ≤ bad → chosen_in s.cells s.slots f n rows rooms ≡ answer_from start s f n
  best_is l =
      chosen-set s.cells s.slots f n rows rooms l
      ∙ ap Ok
      (best-in-is rooms rows _ _ _ n few start (stand _ (inside s.cells s.slots f n few l (fine-sized s fine).cells_some))
      ∙ same-best s.cells s.slots f n few l start)
      ∙ sym (set-answer start s f n fine few class l)

  pub chosen_is : chosen_in s.cells s.slots f n rows rooms ≡ answer_from start s f n
  chosen_is =
      ⊎_elim
      (λ h.
      chosen-bad s.cells s.slots f n rows rooms bad refl (ltb-true bad n h)
      ∙ sym (bad-answer start s f n fine few class bad refl (ltb-true bad n h)))
      (λ h. best_is (ltb-false bad n h)) (cases (ltb bad n))
