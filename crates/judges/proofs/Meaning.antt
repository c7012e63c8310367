-- What the calls say: Holds, Chained and InClass exactly where a record without fault has the property; where a cell or three cells are named,
-- they are the first, by the theory's laws. The load test holds where there are open positions enough.
-- And Least and Enough exactly in the class and outside it, with the greatest demand.
-- Assumes nothing.
use Prim.Native.Nat.{ℕ, ◌+◌, ◌≤◌, ◌<◌}
use mathlib.Core.Logic.{◌↔◌}
use mathlib.Core.Path.{◌≡◌, refl, sym, ap, ◌∙◌}
use native.Mathlib.Omega.{arith}
use mathlib.Core.Bool.{true}
use borrow.Author.Tests.{ltb-true, lt-ltb}
use Rattle.std.specs.Prelude.{Result, Ok, Err}
use Rattle.std.specs.Result.{result_and}
use Rattle.theory.specs.Net.{Covers, LoadTest, Chained, Class}
use Rattle.theory.proofs.Exact.{covers-loaded, chained-class}
use Rattle.theory.specs.Verdict as theory
use Rattle.theory.specs.Verdict.{holds, over, load_verdict, most_demand, chained, broken, chain_verdict, in_class, outside, class_verdict}
use Rattle.theory.specs.Named.{FirstOver, FirstBreaks, FirstSplits}
use Rattle.theory.proofs.LoadLaws.{load-holds, load-names, most-demand-test}
use Rattle.theory.proofs.ChainLaws.{chain-holds, chain-names}
use Rattle.theory.proofs.ClassLaws.{class-holds, class-names}
use Rattle.positions.specs.Blocked.{open_in}
use Rattle.site.specs.Record.{load_at, positions, fault_of}
use Rattle.site.specs.Reach.{net_of}
use Rattle.site.specs.declared.Site.{Site}
use Rattle.site.specs.declared.Fault.{Fault}
use Rattle.judges.specs.Judges.{counted, load_of, load_answer, chain_of, chain_answer, class_of, class_answer, least_of, least_answer}
use Rattle.judges.specs.declared.LoadVerdict.{LoadVerdict}
use Rattle.judges.specs.declared.LoadVerdict.TheVariants as load
use Rattle.judges.specs.declared.ChainVerdict.{ChainVerdict}
use Rattle.judges.specs.declared.ChainVerdict.TheVariants as chain
use Rattle.judges.specs.declared.ClassVerdict.{ClassVerdict}
use Rattle.judges.specs.declared.ClassVerdict.TheVariants as class
use Rattle.judges.specs.declared.LeastVerdict.{LeastVerdict}
use Rattle.judges.specs.declared.LeastVerdict.TheVariants as least

-- "cells with load above 0 only": who counts, said of the load itself
pub counted-means : (s : Site) (i : ℕ) → counted s i ≡ true ↔ 0 < load_at s i
counted-means s i = (ltb-true 0 (load_at s i), lt-ltb 0 (load_at s i))

-- no loaded cell is left out of the rules, so that what they say of a site is said of its plans
pub covers-counted : (s : Site) → Covers (net_of s) (counted s)
covers-counted s = covers-loaded (net_of s)

-- a call answers a verdict of an accepted record alone, and refuses with the record's own fault
pub told : {A : Type 0} (f : Result Unit Fault) (x y : A) → result_and f (Ok x) ≡ Ok y → (f ≡ Ok tt) × (x ≡ y)
told (Ok u) x y e = (refl, cc)
told (Err f) x y e = (cc, absurd cc)

pub refused : {A : Type 0} (f : Result Unit Fault) (x : A) (g : Fault) → result_and f (Ok x) ≡ Err g ↔ (f ≡ Err g)
refused (Ok u) x g = (λ e. cc, λ h. cc)
refused (Err f) x g = (λ e. cc, λ h. cc)

-- the answer that a verdict was made into
load-is-holds : (v : theory.LoadVerdict) → load_of v ≡ load.Holds → v ≡ holds
load-is-holds holds e = refl
load-is-holds (over i m) e = let z : ◌≡◌ {A = ℕ} 0 1 = cc in absurd (omega arith)

load-is-over : (v : theory.LoadVerdict) (cell m : ℕ) → load_of v ≡ load.Over cell m → (i : ℕ) × (cell ≡ i + 1) × (v ≡ over i m)
load-is-over holds cell m e = let z : ◌≡◌ {A = ℕ} 0 1 = cc in absurd (omega arith)
load-is-over (over j n) cell m e =
    let p : j + 1 ≡ cell = cc in
    let q : n ≡ m = cc in
    (j, sym p, ap (over j) q)

chain-is-chained : (v : theory.ChainVerdict) → chain_of v ≡ chain.Chained → v ≡ chained
chain-is-chained chained e = refl
chain-is-chained (broken a b c) e = let z : ◌≡◌ {A = ℕ} 0 1 = cc in absurd (omega arith)

chain-is-broken : (v : theory.ChainVerdict) (a b c : ℕ) → chain_of v ≡ chain.Broken a b c
    → (x y z : ℕ) × (a ≡ x + 1) × (b ≡ y + 1) × (c ≡ z + 1) × (v ≡ broken x y z)
chain-is-broken chained a b c e = let z : ◌≡◌ {A = ℕ} 0 1 = cc in absurd (omega arith)
chain-is-broken (broken x y z) a b c e =
    let p : x + 1 ≡ a = cc in
    let q : y + 1 ≡ b = cc in
    let r : z + 1 ≡ c = cc in
    (x, y, z, sym p, sym q, sym r, refl)

-- an accepted record gets its verdict, and what gets a verdict is accepted
pub load-fine : (s : Site) → fault_of s ≡ Ok tt → load_answer s ≡ Ok (load_of (load_verdict (net_of s) (counted s)))
unfolding load_answer
load-fine s fine = rw fine

pub load-accepted : (s : Site) (v : LoadVerdict) → load_answer s ≡ Ok v → (fault_of s ≡ Ok tt) × (load_of (load_verdict (net_of s) (counted s)) ≡ v)
unfolding load_answer
load-accepted s v e = told (fault_of s) _ v e

pub chain-fine : (s : Site) → fault_of s ≡ Ok tt → chain_answer s ≡ Ok (chain_of (chain_verdict (net_of s) (counted s)))
unfolding chain_answer
chain-fine s fine = rw fine

pub chain-accepted : (s : Site) (v : ChainVerdict) → chain_answer s ≡ Ok v → (fault_of s ≡ Ok tt) × (chain_of (chain_verdict (net_of s) (counted s)) ≡ v)
unfolding chain_answer
chain-accepted s v e = told (fault_of s) _ v e

-- "they refuse only with 1 to 3", W8: and 20, W11: and 24: a refusal carries the record's own fault, and a record at fault is refused
pub load-refused : (s : Site) (f : Fault) → load_answer s ≡ Err f ↔ (fault_of s ≡ Err f)
unfolding load_answer
load-refused s = refused (fault_of s) _

pub chain-refused : (s : Site) (f : Fault) → chain_answer s ≡ Err f ↔ (fault_of s ≡ Err f)
unfolding chain_answer
chain-refused s = refused (fault_of s) _

-- "The load test holds when, for each cell, its load plus the loads of its lower-numbered clashing cells is at most N".
-- W2: "the load test skips cells with load 0".
pub holds-means : (s : Site) → load_answer s ≡ Ok load.Holds ↔ ((fault_of s ≡ Ok tt) × LoadTest (net_of s) (counted s))
holds-means s = (
  λ e.
      let h = load-accepted s load.Holds e in
      (h.0, (load-holds (net_of s) (counted s)).0 (load-is-holds _ h.1)),
  λ h. load-fine s h.0 ∙ ap (λ v. Ok (load_of v)) ((load-holds (net_of s) (counted s)).1 h.1),
)

-- "If not, it names the lowest cell that is over and by how much."
pub over-means : (s : Site) (cell m : ℕ) → load_answer s ≡ Ok (load.Over cell m)
    → (fault_of s ≡ Ok tt) × ((i : ℕ) × (cell ≡ i + 1) × FirstOver (net_of s) (counted s) i m)
over-means s cell m e =
    let h = load-accepted s (load.Over cell m) e in
    let v = load-is-over (load_verdict (net_of s) (counted s)) cell m h.1 in
    (h.0, (v.0, v.1, load-names (net_of s) (counted s) v.0 m v.2))

-- W8: "N in the load test becomes the count of open positions": it holds exactly where they are at least the greatest demand, which is what `least` answers
pub holds-open : (s : Site) → fault_of s ≡ Ok tt → load_answer s ≡ Ok load.Holds ↔ most_demand (net_of s) (counted s) ≤ open_in s.blocked (positions s)
holds-open s fine =
    let t = most-demand-test (net_of s) (counted s) in
    let m = holds-means s in
    (λ e. t.1 (m.0 e).1, λ h. m.1 (fine, t.0 h))

-- "A site is chained when, for every clashing pair a < c, each b strictly between clashes with a, the EARLIER cell."
-- W2: "about cells with load above 0 only, as a, b and c".
pub chained-means : (s : Site) → chain_answer s ≡ Ok chain.Chained ↔ ((fault_of s ≡ Ok tt) × Chained (net_of s) (counted s))
chained-means s = (
  λ e.
      let h = chain-accepted s chain.Chained e in
      (h.0, (chain-holds (net_of s) (counted s)).0 (chain-is-chained _ h.1)),
  λ h. chain-fine s h.0 ∙ ap (λ v. Ok (chain_of v)) ((chain-holds (net_of s) (counted s)).1 h.1),
)

-- "If not chained, the judge names the first triple a, b, c in rising order of a, then c, then b."
pub broken-means : (s : Site) (a b c : ℕ) → chain_answer s ≡ Ok (chain.Broken a b c)
    → (fault_of s ≡ Ok tt) × ((x y z : ℕ) × (a ≡ x + 1) × (b ≡ y + 1) × (c ≡ z + 1) × FirstBreaks (net_of s) (counted s) x y z)
broken-means s a b c e =
    let h = chain-accepted s (chain.Broken a b c) e in
    let v = chain-is-broken (chain_verdict (net_of s) (counted s)) a b c h.1 in
    (h.0, (v.0, v.1, v.2, v.3, v.4, v.5, chain-names (net_of s) (counted s) v.0 v.1 v.2 v.6))

-- ---- the class

class-is-in : (v : theory.ClassVerdict) → class_of v ≡ class.InClass → v ≡ in_class
class-is-in in_class e = refl
class-is-in (outside a b i) e = let z : ◌≡◌ {A = ℕ} 0 1 = cc in absurd (omega arith)

class-is-outside : (v : theory.ClassVerdict) (a b i : ℕ) → class_of v ≡ class.Outside a b i
    → (x y z : ℕ) × (a ≡ x + 1) × (b ≡ y + 1) × (i ≡ z + 1) × (v ≡ outside x y z)
class-is-outside in_class a b i e = let z : ◌≡◌ {A = ℕ} 0 1 = cc in absurd (omega arith)
class-is-outside (outside x y z) a b i e =
    let p : x + 1 ≡ a = cc in
    let q : y + 1 ≡ b = cc in
    let r : z + 1 ≡ i = cc in
    (x, y, z, sym p, sym q, sym r, refl)

pub class-fine : (s : Site) → fault_of s ≡ Ok tt → class_answer s ≡ Ok (class_of (class_verdict (net_of s) (counted s)))
unfolding class_answer
class-fine s fine = rw fine

pub class-accepted : (s : Site) (v : ClassVerdict) → class_answer s ≡ Ok v → (fault_of s ≡ Ok tt) × (class_of (class_verdict (net_of s) (counted s)) ≡ v)
unfolding class_answer
class-accepted s v e = told (fault_of s) _ v e

-- it refuses only with the record's faults, and a record at fault is refused
pub class-refused : (s : Site) (f : Fault) → class_answer s ≡ Err f ↔ (fault_of s ≡ Err f)
unfolding class_answer
class-refused s = refused (fault_of s) _

-- W9: "every loaded cell's loaded, lower-numbered clashing cells clash with one another"
pub class-means : (s : Site) → class_answer s ≡ Ok class.InClass ↔ ((fault_of s ≡ Ok tt) × Class (net_of s) (counted s))
class-means s = (
  λ e.
      let h = class-accepted s class.InClass e in
      (h.0, (class-holds (net_of s) (counted s)).0 (class-is-in _ h.1)),
  λ h. class-fine s h.0 ∙ ap (λ v. Ok (class_of v)) ((class-holds (net_of s) (counted s)).1 h.1),
)

-- the cells that are named are the first in rising order of i, then a, then b
pub outside-means : (s : Site) (a b i : ℕ) → class_answer s ≡ Ok (class.Outside a b i)
    → (fault_of s ≡ Ok tt) × ((x y z : ℕ) × (a ≡ x + 1) × (b ≡ y + 1) × (i ≡ z + 1) × FirstSplits (net_of s) (counted s) x y z)
outside-means s a b i e =
    let h = class-accepted s (class.Outside a b i) e in
    let v = class-is-outside (class_verdict (net_of s) (counted s)) a b i h.1 in
    (h.0, (v.0, v.1, v.2, v.3, v.4, v.5, class-names (net_of s) (counted s) v.0 v.1 v.2 v.6))

-- W9: "Show that each chained site is in the class."
pub chained-in-class : (s : Site) → chain_answer s ≡ Ok chain.Chained → class_answer s ≡ Ok class.InClass
chained-in-class s e = let c = (chained-means s).0 e in (class-means s).1 (c.0, chained-class (net_of s) (counted s) c.1)

-- ---- the least number of channel-slots

pub least-accepted : (s : Site) (v : LeastVerdict) → least_answer s ≡ Ok v
    → (fault_of s ≡ Ok tt) × (least_of (class_verdict (net_of s) (counted s)) (most_demand (net_of s) (counted s)) ≡ v)
unfolding least_answer
least-accepted s v e = told (fault_of s) _ v e

least-fine : (s : Site) → fault_of s ≡ Ok tt
    → least_answer s ≡ Ok (least_of (class_verdict (net_of s) (counted s)) (most_demand (net_of s) (counted s)))
unfolding least_answer
least-fine s fine = rw fine

least-is : (v : theory.ClassVerdict) (m n : ℕ) → least_of v m ≡ least.Least n → (v ≡ in_class) × (m ≡ n)
least-is in_class m n e = (refl, cc)
least-is (outside a b i) m n e = let z : ◌≡◌ {A = ℕ} 0 1 = cc in absurd (omega arith)

enough-is : (v : theory.ClassVerdict) (m n : ℕ) → least_of v m ≡ least.Enough n → (v ≡ in_class → ⊥) × (m ≡ n)
enough-is in_class m n e = let z : ◌≡◌ {A = ℕ} 0 1 = cc in absurd (omega arith)
enough-is (outside a b i) m n e = (λ q. let z : ◌≡◌ {A = ℕ} 0 1 = cc in omega arith, cc)

least-of : (v : theory.ClassVerdict) (m : ℕ) → v ≡ in_class → least_of v m ≡ least.Least m
least-of v m q = rw q

-- Least exactly in the class, with the greatest demand
pub least-means : (s : Site) (n : ℕ) → least_answer s ≡ Ok (least.Least n)
    ↔ ((fault_of s ≡ Ok tt) × (Class (net_of s) (counted s)) × (most_demand (net_of s) (counted s) ≡ n))
least-means s n = (
  λ e.
      let h = least-accepted s (least.Least n) e in
      let w = least-is (class_verdict (net_of s) (counted s)) (most_demand (net_of s) (counted s)) n h.1 in
      (h.0, (class-holds (net_of s) (counted s)).0 w.0, w.1),
  λ h. least-fine s h.0 ∙ ap Ok (least-of _ _ ((class-holds (net_of s) (counted s)).1 h.1) ∙ ap least.Least h.2),
)

enough-of : (v : theory.ClassVerdict) (m : ℕ) → (v ≡ in_class → ⊥) → least_of v m ≡ least.Enough m
enough-of in_class m q = absurd (q refl)
enough-of (outside a b i) m q = refl

-- Enough exactly outside it, with the greatest demand
pub enough-means : (s : Site) (n : ℕ) → least_answer s ≡ Ok (least.Enough n)
    ↔ ((fault_of s ≡ Ok tt) × (Class (net_of s) (counted s) → ⊥) × (most_demand (net_of s) (counted s) ≡ n))
enough-means s n = (
  λ e.
      let h = least-accepted s (least.Enough n) e in
      let w = enough-is (class_verdict (net_of s) (counted s)) (most_demand (net_of s) (counted s)) n h.1 in
      (h.0, λ c. w.0 ((class-holds (net_of s) (counted s)).1 c), w.1),
  λ h. least-fine s h.0 ∙ ap Ok (enough-of _ _ (λ q. h.1 ((class-holds (net_of s) (counted s)).0 q)) ∙ ap least.Enough h.2),
)

pub least-refused : (s : Site) (f : Fault) → least_answer s ≡ Err f ↔ (fault_of s ≡ Err f)
unfolding least_answer
least-refused s = refused (fault_of s) _
