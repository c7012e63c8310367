-- The site's own chain, class and load test are the theory's, on the problem that the site states: each goes over to the other cell by cell, for a load above 0
-- is a loaded cell, and the open positions are the room. Assumes nothing.
use mathlib.Core.Path.{◌≡◌, ◌∙◌}
use mathlib.Core.Logic.{◌↔◌, ⊎_elim}
use mathlib.Core.Bool.{true}
use Prim.Native.Nat.{ℕ, ◌≤◌, ◌<◌}
use native.Mathlib.Omega.{arith}
use lib.Dec.{ltb}
use borrow.Author.Tests.{lt-ltb, ltb-true, ltb-false}
use Rattle.laws.proofs.Choice.{cases}
use Rattle.theory.specs.Net.{LoadTest, Chained, Class}
use Rattle.theory.proofs.Exact.{chained-class}
use Rattle.site.specs.Reach.{clash_of, net_of}
use Rattle.site.specs.Record.{load_at}
use Rattle.site.proofs.Accepted.{net-open}
use Rattle.site.proofs.Reach.{clash-sym}
use Rattle.site.specs.declared.Site.{Site}
use Rattle.judges.specs.Judges.{counted, chain_answer, class_answer}
use Rattle.judges.specs.Given.{chain_given, class_given}
use Rattle.demanded.specs.Numbers.{done}
use Rattle.demanded.specs.Demands.{Accepted, ChainedSite, LowerClashing, NestedSite, ClaimOne}
use Rattle.demanded.proofs.Demand2.{judge-is-chained, judge-is-nested}

pub chained-site : (s : Site) → ChainedSite s ↔ Chained (net_of s) (counted s)
chained-site s = (
  λ h a b c l m n p q r. h a b c l m n (ltb-true 0 (load_at s a) p) (ltb-true 0 (load_at s b) q) (ltb-true 0 (load_at s c) r),
  λ h a b c l m n p q r. h a b c l m n (lt-ltb 0 (load_at s a) p) (lt-ltb 0 (load_at s b) q) (lt-ltb 0 (load_at s c) r),
)

-- two cells that differ are a lower and a higher one, and a clash goes both ways
either_way : (s : Site) (i a b : ℕ) → LowerClashing s i a → LowerClashing s i b → (a ≡ b → ⊥)
    → ((x y : ℕ) → x < y → LowerClashing s i x → LowerClashing s i y → clash_of s x y ≡ true) → clash_of s a b ≡ true
either_way s i a b p q n h =
    ⊎_elim (λ e. h a b (ltb-true a b e) p q)
    (λ e.
    let l : b ≤ a = ltb-false a b e in
    ⊎_elim (λ f. clash-sym s.rule s.reach a b ∙ h b a (ltb-true b a f) q p)
    (λ f. let m : a ≤ b = ltb-false b a f in absurd (n (omega arith))) (cases (ltb b a)))
    (cases (ltb a b))

pub nested-site : (s : Site) → NestedSite s ↔ Class (net_of s) (counted s)
nested-site s = (
  λ h a b i l m n p q r ca cb.
      h i n (ltb-true 0 (load_at s i) r) a b
      (record { below = omega arith; loaded = omega (arith, ltb-true 0 (load_at s a) p); clashes = ca })
      (record { below = m; loaded = omega (arith, ltb-true 0 (load_at s b) q); clashes = cb })
      (λ e. omega arith),
  λ h i n r a b p q d.
      either_way s i a b p q d
      (λ x y l u v.
      h x y i l v.below n (lt-ltb 0 (load_at s x) (omega (arith, u.loaded))) (lt-ltb 0 (load_at s y) (omega (arith, v.loaded))) (lt-ltb 0 (load_at s i) r)
      u.clashes v.clashes),
)

-- W9: "Show that each chained site is in the class."
pub chained_is_nested : (s : Site) → ChainedSite s → NestedSite s
chained_is_nested s h = (nested-site s).1 (chained-class (net_of s) (counted s) ((chained-site s).0 h))

pub claim-one : (s : Site) → ClaimOne s ↔ LoadTest (net_of s) (counted s)
claim-one s = (
  λ h i l p. rw (net-open s) (h i l (ltb-true 0 (load_at s i) p)),
  λ h i l p. rw (← net-open s) (h i l (lt-ltb 0 (load_at s i) p)),
)

pub judge-is-chained-site : (s : Site) → chain_given (chain_answer s) ≡ done ↔ ((Accepted s) × (ChainedSite s))
judge-is-chained-site s = (
  λ e. let j = (judge-is-chained s).0 e in (j.0, (chained-site s).1 j.1),
  λ h. (judge-is-chained s).1 (h.0, (chained-site s).0 h.1),
)

pub judge-is-nested-site : (s : Site) → class_given (class_answer s) ≡ done ↔ ((Accepted s) × (NestedSite s))
judge-is-nested-site s = (
  λ e. let j = (judge-is-nested s).0 e in (j.0, (nested-site s).1 j.1),
  λ h. (judge-is-nested s).1 (h.0, (nested-site s).0 h.1),
)
