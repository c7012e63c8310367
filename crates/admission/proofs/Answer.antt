-- The ways that a call goes, on top of whatever loads count, each with its answer:
-- the record's fault, too many flows, a site that is not nested, the first flow that is refused, and the set.
-- Assumes nothing.
use Prim.Native.Nat.{ℕ, ◌+◌, ◌≤◌, ◌<◌}
use mathlib.Core.Bool.{true, false}
use Rattle.std.specs.Prelude.{Ok, Err}
use mathlib.Core.Path.{◌≡◌}
use borrow.Author.Tests.{lt-ltb, le-ltb}
use Rattle.theory.specs.Net.{Net, everyone}
use Rattle.theory.specs.Verdict.{class_verdict}
use Rattle.site.specs.Record.{fault_of}
use Rattle.site.specs.Reach.{net_of}
use Rattle.site.specs.declared.Site.{Site}
use Rattle.site.specs.declared.Fault.{Fault}
use Rattle.admitting.specs.Best.{best_beside}
use Rattle.flowlist.specs.declared.Flow.{Flow}
use Rattle.admission.specs.Admit.{refused_in, first_bad_in, flows_asked, is_nested, answer_from}
use Rattle.admission.specs.declared.AdmitError.TheVariants.{TooMany, NotNested, Record}

module _ (start : Net) (s : Site) (f : ℕ → Flow) (n : ℕ) where
  pub fault-answer : (g : Fault) → fault_of s ≡ Err g → answer_from start s f n ≡ Err (Record g)
  unfolding answer_from
  fault-answer g e = rw e

  pub many-answer : fault_of s ≡ Ok tt → 16 < n → answer_from start s f n ≡ Err TooMany
  unfolding answer_from
  many-answer e h = rw (e, lt-ltb 16 n h)

  pub outside-answer : fault_of s ≡ Ok tt → n ≤ 16 → is_nested (class_verdict (net_of s) everyone) ≡ false → answer_from start s f n ≡ Err NotNested
  unfolding answer_from
  outside-answer e h q = rw (e, le-ltb 16 n h, q)

  pub bad-answer : fault_of s ≡ Ok tt → n ≤ 16 → is_nested (class_verdict (net_of s) everyone) ≡ true → (bad : ℕ) → bad ≡ first_bad_in s.cells s.slots f n
      → bad < n
      → answer_from start s f n ≡ Err (refused_in s.cells s.slots (f bad) (bad + 1))
  unfolding answer_from
  bad-answer e h q bad b l = rw (e, le-ltb 16 n h, q, ← b, lt-ltb bad n l)

  pub set-answer : fault_of s ≡ Ok tt → n ≤ 16 → is_nested (class_verdict (net_of s) everyone) ≡ true → n ≤ first_bad_in s.cells s.slots f n
      → answer_from start s f n ≡ Ok (best_beside start (flows_asked s.slots f n))
  unfolding answer_from
  set-answer e h q l = rw (e, le-ltb 16 n h, q, le-ltb (first_bad_in s.cells s.slots f n) n l)
