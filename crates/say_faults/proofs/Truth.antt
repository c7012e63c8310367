-- Every line of the faults is true, that of a later fault as that of the first: what is in the list is a fault of the table, and the line of a fault names what
-- it is. Assumes nothing.
--     fault-told       what the line of a fault says is the case
use Prim.Native.Nat.{ℕ, ◌+◌, ◌-◌, ◌<◌}
use mathlib.Core.Bool.{true}
use mathlib.Core.List.{List}
use mathlib.Core.Path.{◌≡◌, refl, sym, ◌∙◌}
use native.Mathlib.Omega.{arith}
use borrow.Author.Tests.{lt-ltb}
use Rattle.theory.specs.Greedy.{reserved}
use Rattle.theory.specs.Verdict.{TableVerdict, valid, barred, clash, wrong}
use Rattle.faults.specs.Means.{times}
use Rattle.faults.proofs.Once.{faults-only}
use Rattle.site.specs.Record.{positions}
use Rattle.site.specs.Reach.{net_of}
use Rattle.site.specs.declared.Site.{Site}
use Rattle.checker.specs.Check.{verdict_of}
use Rattle.verdicts.specs.Said.{load_named}
use Rattle.verdicts.proofs.Clash.{any-clash-said, any-clash-sends, any-blocked-said, any-blocked-sends}
use Rattle.say_faults.specs.Said.{judgeable, table_faults}
use Rattle.say_faults.specs.Means.{FaultTold}
use Rattle.say_faults.proofs.Ready.{ready-fine, ready-sizes}

module _ (s : Site) (t : List ℕ) (ok : judgeable s t ≡ true) where
  pub fault-told : (v : TableVerdict) → 0 < times v (table_faults s t) → FaultTold s t v
  unfolding verdict_of load_named
  fault-told valid h = faults-only (net_of s) (reserved (positions s) t) valid h
  fault-told (barred k i) h =
      let f = faults-only (net_of s) (reserved (positions s) t) (barred k i) h in
      let fine = ready-fine s t ok in
      (any-blocked-said s t fine k (i + 1) (i, refl, f), any-blocked-sends s t fine k (i + 1) (i, refl, f))
  fault-told (clash k a c) h =
      let f = faults-only (net_of s) (reserved (positions s) t) (clash k a c) h in
      let fine = ready-fine s t ok in
      (any-clash-said s t fine k (a + 1) (c + 1) (a, c, refl, refl, f), any-clash-sends s t fine k (a + 1) (c + 1) (a, c, refl, refl, f))
  fault-told (wrong i n) h =
      let f = faults-only (net_of s) (reserved (positions s) t) (wrong i n) h in
      let within : i < s.cells = f.inside in
      let few = (ready-sizes s t ok).cells_most in
      let back : i + 1 - 1 ≡ i = omega arith in
      (rw (lt-ltb 0 (i + 1) (omega arith), lt-ltb (i + 1) 33 (omega arith), back), within, f.counted, λ q. f.differs (sym f.counted ∙ q))
