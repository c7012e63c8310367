-- Searches over equal tests, cells that a renumbering keeps apart, and problems that agree on their cells and positions: they have the same class and the
-- same valid tables. Assumes nothing.
use mathlib.Core.Path.{◌≡◌, refl, sym, ap, ◌∙◌}
use mathlib.Core.Bool.{Bool}
use mathlib.Core.Logic.{⊎_elim}
use Prim.Native.Nat.{ℕ, zero, suc, ◌<◌}
use native.Mathlib.Omega.{arith}
use native.Mathlib.Nat.{le_refl}
use lib.Dec.{eqb}
use borrow.Author.Tests.{eqb-true, eqb-false, eq-eqb, ne_eqb}
use Rattle.laws.specs.Sum.{count}
use Rattle.laws.proofs.Choice.{cases}
use Rattle.theory.specs.Net.{Net, Reserved, Valid, Class}
use Rattle.renumbering.specs.Numbering.{last}
use Rattle.renumbering.specs.Renumbers.{Renumbers, SameNet}

pub last-eq : (p q : ℕ → Bool) (n : ℕ) → ((k : ℕ) → k < n → p k ≡ q k) → last p n ≡ last q n
unfolding last
last-eq p q zero h = refl
last-eq p q (suc n) h = rw (last-eq p q n (λ k l. h k (omega arith)), h n (le_refl (suc n)))

-- a renumbering keeps two cells two
pub same-cell : (n : ℕ) (new old : ℕ → ℕ) → Renumbers n new old → (a b : ℕ) → a < n → b < n → eqb (old a) (old b) ≡ eqb a b
same-cell n new old r a b la lb =
    ⊎_elim (λ e. eq-eqb (old a) (old b) (ap old (eqb-true a b e)) ∙ sym e)
    (λ e. ne_eqb (old a) (old b) (λ q. eqb-false a b e (sym (r.new_old a la) ∙ ap new q ∙ r.new_old b lb)) ∙ sym e) (cases (eqb a b))

-- ---- problems that agree

module _ (t s : Net) (e : SameNet t s) where
  below : (i : ℕ) → i < t.cells → i < s.cells
  below i l = omega (arith, e.cells)

  pub alike-class : (who : ℕ → Bool) → Class s who → Class t who
  alike-class who h a b i m n l pa pb pi ca cb =
      let li = below i l in
      e.clash a b (omega arith) (omega arith)
      ∙ h a b i m n li pa pb pi (sym (e.clash a i (omega arith) li) ∙ ca) (sym (e.clash b i (omega arith) li) ∙ cb)

  pub alike-valid : (res : Reserved) → Valid s res → Valid t res
  alike-valid res v = record {
    apart = λ a c k l m w h p q.
        let lc = below c m in
        v.apart a c k l lc (omega (arith, e.width)) (sym (e.clash a c (omega arith) lc) ∙ h) p q;
    exact = λ i l. ap (λ w. count (res i) w) e.width ∙ v.exact i (below i l) ∙ sym (e.load i (below i l));
    allowed = λ i k l w h. let lk : k < s.width = omega (arith, e.width) in e.usable k lk ∙ v.allowed i k (below i l) lk h;
  }
