-- What a run of `give_numbers` leaves, and that it is stuck only where every renumbering is outside the class.
--     told        the new numbers and the old ones undo each other, and each cell's lower clashing cells clash with one another
--     unstuck     with a renumbering into the class index_at hand, the run is never stuck
-- Assumes nothing.
use mathlib.Core.Path.{◌≡◌, refl, sym, ap, ◌∙◌, subst}
use mathlib.Core.Bool.{Bool, true, false, true≢false}
use mathlib.Core.List.{List}
use mathlib.Core.Logic.{⊎_elim}
use Prim.Native.Nat.{ℕ, zero, suc, ◌≤◌, ◌<◌}
use native.Mathlib.Omega.{arith}
use native.Mathlib.Nat.{eq-or-lt_of_le, le_of_suc-le-suc, not-suc-le-zero}
use lib.Dec.{eqb}
use lib.ListN.{length, get_or, set, length-set}
use lib.Seq.{get_or-set_same, get_or-set_other}
use borrow.Author.Tests.{eqb-true, eqb-false, eq-eqb, ne_eqb}
use Rattle.laws.specs.Sum.{bit, sum, count}
use Rattle.laws.proofs.Sums.{sum-eq, sum-none}
use Rattle.laws.proofs.Choice.{cases, order}
use Rattle.renumbering.specs.Numbering.{last, unnumbered, fit, numbered, stuck, give_to, give_numbers, index_at}
use Rattle.renumbering.specs.Renumbers.{Renumbers, Symmetric}
use Rattle.renumbering.proofs.Fit.{Last, last-is, last_none, Near, Fit, fit-means, means-fit}

-- ---- counting those left

count-one-less : (p q : ℕ → Bool) (n i : ℕ) → i < n → p i ≡ true → q i ≡ false → ((k : ℕ) → (k ≡ i → ⊥) → q k ≡ p k) → count p n ≡ suc (count q n)
unfolding sum
count-one-less p q zero i l a b h = absurd (not-suc-le-zero l)
count-one-less p q (suc n) i l a b h =
    ⊎_elim
    (λ e.
    let same : count p n ≡ count q n = sum-eq (λ k. bit (p k)) (λ k. bit (q k)) n (λ k m. ap bit (sym (h k (omega arith)))) in
    let one : bit (p n) ≡ 1 = subst (λ k. bit (p k) ≡ 1) e (ap bit a) in
    let none : bit (q n) ≡ 0 = subst (λ k. bit (q k) ≡ 0) e (ap bit b) in
    omega arith)
    (λ m. let alike : bit (q n) ≡ bit (p n) = ap bit (h n (omega arith)) in omega (arith, count-one-less p q n i m a b h))
    (eq-or-lt_of_le (le_of_suc-le-suc l))

bit-zero : (b : Bool) → bit b ≡ 0 → b ≡ false
bit-zero true h = absurd (omega arith)
bit-zero false h = refl

count-zero : (p : ℕ → Bool) (n : ℕ) → count p n ≡ 0 → (k : ℕ) → k < n → p k ≡ false
unfolding sum
count-zero p zero h k l = absurd (not-suc-le-zero l)
count-zero p (suc n) h k l =
    ⊎_elim (λ e. subst (λ j. p j ≡ false) (sym e) (bit-zero (p n) (omega arith))) (λ m. count-zero p n (omega arith) k m)
    (eq-or-lt_of_le (le_of_suc-le-suc l))

none-count : (p : ℕ → Bool) (n : ℕ) → ((k : ℕ) → k < n → p k ≡ false) → count p n ≡ 0
none-count p n h = sum-eq (λ k. bit (p k)) (λ k. 0) n (λ k l. ap bit (h k l)) ∙ sum-none n

-- ---- one number given: suc m to cell i

module _ (n : ℕ) (new : List ℕ) (i m : ℕ) (inside : i < n) (long : n ≤ length new) where
  pub given-here : get_or (set new i (suc m)) i 0 ≡ suc m
  given-here = get_or-set_same new i (suc m) 0 (omega arith)

  pub given-other : (k : ℕ) → (k ≡ i → ⊥) → get_or (set new i (suc m)) k 0 ≡ get_or new k 0
  given-other k ne = get_or-set_other new i k (suc m) 0 ne

  -- whoever is left afterwards is another cell, and was left before
  pub still-left : (k : ℕ) → get_or (set new i (suc m)) k 0 ≡ 0 → (k ≡ i → ⊥) × (get_or new k 0 ≡ 0)
  still-left k h =
      let ne : k ≡ i → ⊥ = λ e. let z : get_or (set new i (suc m)) i 0 ≡ 0 = subst (λ j. get_or (set new i (suc m)) j 0 ≡ 0) e h in omega (arith, given-here) in
      (ne, sym (given-other k ne) ∙ h)

  pub one_less : unnumbered new i ≡ true → count (unnumbered new) n ≡ suc (count (unnumbered (set new i (suc m))) n)
  one_less h =
      count-one-less (unnumbered new) (unnumbered (set new i (suc m))) n i inside h (ne_eqb (get_or (set new i (suc m)) i 0) 0 (λ e. omega (arith, given-here)))
      (λ k ne. ap (λ v. eqb v 0) (given-other k ne))

-- ---- a whole run

-- the cell that was i is now j
pub record Place (new old : List ℕ) (i j : ℕ) : Type 0 where
  pub there : get_or new i 0 ≡ suc j
  pub back : get_or old j 0 ≡ suc i

at-is : (l : List ℕ) (j i : ℕ) → get_or l j 0 ≡ suc i → index_at l j ≡ i
at-is l j i h = omega arith

module _ (clash : ℕ → ℕ → Bool) (n : ℕ) where
  -- what giving the numbers from m down, to those left in `new`, makes of the two arrays
  pub record Told (m : ℕ) (new old new' old' : List ℕ) : Type 0 where
    pub below : (j : ℕ) → j < m → (i : ℕ) × ((i < n) × (get_or new i 0 ≡ 0) × Place new' old' i j)
    pub all : (i : ℕ) → i < n → get_or new i 0 ≡ 0 → (j : ℕ) × ((j < m) × Place new' old' i j)
    pub kept : (i v : ℕ) → get_or new i 0 ≡ suc v → get_or new' i 0 ≡ suc v
    pub past : (i : ℕ) → n ≤ i → get_or new' i 0 ≡ get_or new i 0
    pub above : (j : ℕ) → m ≤ j → get_or old' j 0 ≡ get_or old j 0
    pub class : (a b k : ℕ) → a < b → b < k → k < m → clash (index_at old' a) (index_at old' k) ≡ true → clash (index_at old' b) (index_at old' k) ≡ true
        → clash (index_at old' a) (index_at old' b) ≡ true

  module _ (symmetric : Symmetric clash) where
    -- the last number went to cell i
    told_more : (m i : ℕ) (new old new' old' : List ℕ) → m < n → n ≤ length new → n ≤ length old → i < n → Fit clash n new i
        → Told m (set new i (suc m)) (set old m (suc i)) new' old' → Told (suc m) new old new' old'
    told_more m i new old new' old' in-m long long' in-i f t =
        let last-place : Place new' old' i m = record {
          there = t.kept i m (given-here n new i m in-i long);
          back = t.above m (omega arith) ∙ get_or-set_same old m (suc i) 0 (omega arith);
        } in
        let was = eqb-true (get_or new i 0) 0 f.free in
        let lower : (j : ℕ) → j < m → (x : ℕ) × ((x < n) × (get_or new x 0 ≡ 0) × Place new' old' x j)
        = λ j l. let b = t.below j l in (b.0, (b.1.0, (still-left n new i m in-i long b.0 b.1.1).1, b.1.2)) in
        record {
          below = λ j l. ⊎_elim (λ e. (i, (in-i, was, subst (λ k. Place new' old' i k) (sym e) last-place))) (lower j) (eq-or-lt_of_le (le_of_suc-le-suc l));
          all = λ k l h. ⊎_elim
              (λ e. let same = eqb-true k i e in (m, (omega arith, subst (λ x. Place new' old' x m) (sym same) last-place)))
              (λ e. let a = t.all k l (given-other n new i m in-i long k (eqb-false k i e) ∙ h) in (a.0, (omega (arith, a.1.0), a.1.1)))
              (cases (eqb k i));
          kept = λ k v h. t.kept k v (given-other n new i m in-i long k (λ e. let z = ap (λ x. get_or new x 0) e in omega arith) ∙ h);
          past = λ k l. t.past k l ∙ given-other n new i m in-i long k (λ e. omega arith);
          above = λ j l. t.above j (omega arith) ∙ get_or-set_other old m j (suc i) 0 (λ e. omega arith);
          class = λ a b k la lb lk. ⊎_elim
              (λ e.
              let pa = lower a (omega arith) in
              let pb = lower b (omega arith) in
              let ea : index_at old' a ≡ pa.0 = at-is old' a pa.0 pa.1.2.back in
              let eb : index_at old' b ≡ pb.0 = at-is old' b pb.0 pb.1.2.back in
              let ek : index_at old' k ≡ i = at-is old' k i (ap (λ x. get_or old' x 0) e ∙ last-place.back) in
              let differ : pa.0 ≡ pb.0 → ⊥ = λ q. let z = ap (λ x. get_or new' x 0) q in omega (arith, pa.1.2.there, pb.1.2.there) in
              rw (ea, eb, ek)
              (λ p q.
              f.clique pa.0 pb.0 differ
              (record { inside = pa.1.0; free = eq-eqb _ 0 pa.1.1; met = symmetric i pa.0 ∙ p })
              (record { inside = pb.1.0; free = eq-eqb _ 0 pb.1.1; met = symmetric i pb.0 ∙ q })))
              (λ l. t.class a b k la lb l)
              (eq-or-lt_of_le (le_of_suc-le-suc lk));
        }

    told-turn : (m h : ℕ) (new old new' old' : List ℕ) → last (fit clash n new) n ≡ h → m < n → n ≤ length new → n ≤ length old
        → count (unnumbered new) n ≡ suc m → give_to m h new old (λ x y. give_numbers clash n m x y) ≡ numbered new' old'
        → ((i : ℕ) → count (unnumbered (set new i (suc m))) n ≡ m → give_numbers clash n m (set new i (suc m)) (set old m (suc i)) ≡ numbered new' old'
        → Told m (set new i (suc m)) (set old m (suc i)) new' old')
        → Told (suc m) new old new' old'
    told-turn m zero new old new' old' e in-m long long' c g rec = let z : ◌≡◌ {A = ℕ} 0 1 = cc in absurd (omega arith)
    told-turn m (suc i) new old new' old' e in-m long long' c g rec =
        let l = last-is (fit clash n new) n i e in
        let f = fit-means clash n new i l.has in
        told_more m i new old new' old' in-m long long' l.inside f (rec i (omega (arith, one_less n new i m l.inside long f.free)) g)

    pub told : (m : ℕ) (new old new' old' : List ℕ) → m ≤ n → n ≤ length new → n ≤ length old → count (unnumbered new) n ≡ m
        → give_numbers clash n m new old ≡ numbered new' old' → Told m new old new' old'
    unfolding give_numbers
    told zero new old new' old' in-m long long' c g =
        let en : new ≡ new' = cc in
        let eo : old ≡ old' = cc in
        record {
          below = λ j l. absurd (not-suc-le-zero l);
          all = λ i l h. absurd (true≢false (sym (eq-eqb _ 0 h) ∙ count-zero (unnumbered new) n c i l));
          kept = λ i v h. ap (λ x. get_or x i 0) (sym en) ∙ h;
          past = λ i l. ap (λ x. get_or x i 0) (sym en);
          above = λ j l. ap (λ x. get_or x j 0) (sym eo);
          class = λ a b k la lb lk. absurd (not-suc-le-zero lk);
        }
    told (suc m) new old new' old' in-m long long' c g =
        told-turn m (last (fit clash n new) n) new old new' old' refl in-m long long' c g
        (λ i d h. told m (set new i (suc m)) (set old m (suc i)) new' old' (omega arith) (rw length-set long) (rw length-set long') d h)

    -- ---- stuck

    -- `to i` is the new index of cell i in some renumbering into the class
    module _ (to from : ℕ → ℕ) (r : Renumbers n to from)
        (class : (x y z : ℕ) → x < n → y < n → z < n → to x < to y → to y < to z → clash x z ≡ true → clash y z ≡ true → clash x y ≡ true) where
      -- of those unnumbered, the one with the last of their new numbers is fit
      last_fit : (new : List ℕ) (k : ℕ) → Last (λ j. unnumbered new (from j)) n k → Fit clash n new (from k)
      last_fit new k l =
          let i = from k in
          let in-i = r.old_in k l.inside in
          let top : to i ≡ k = r.new_old k l.inside in
          let low : (x : ℕ) → Near clash n new i x → to x ≤ k = λ x w. ⊎_elim (λ o. omega arith) (⊎_elim (λ o. omega arith) (λ o.
          absurd (true≢false (sym w.free ∙ ap (unnumbered new) (sym (r.old_new x w.inside)) ∙ l.above (to x) o (r.new_in x w.inside)))))
          (order (to x) k) in
          let same : (x : ℕ) → Near clash n new i x → to x ≡ k → x ≡ i = λ x w e. sym (r.old_new x w.inside) ∙ ap from e in
          let apart : (x y : ℕ) → (x ≡ y → ⊥) → Near clash n new i x → Near clash n new i y → to x ≡ to y → ⊥
          = λ x y ne v w e. ne (sym (r.old_new x v.inside) ∙ ap from e ∙ r.old_new y w.inside) in
          let rising : (x y : ℕ) → Near clash n new i x → Near clash n new i y → to x < to y → to y < k → clash x y ≡ true
          = λ x y v w p q. class x y i v.inside w.inside in-i p (omega arith) (symmetric x i ∙ v.met) (symmetric y i ∙ w.met) in
          record {
            free = l.has;
            clique = λ a b ne x y. ⊎_elim
                (λ e. subst (λ z. clash z b ≡ true) (sym (same a x e)) y.met)
                (λ p. ⊎_elim
                (λ e. subst (λ z. clash a z ≡ true) (sym (same b y e)) (symmetric a i ∙ x.met))
                (λ q.
                ⊎_elim (λ o. rising a b x y o q) (⊎_elim (λ o. absurd (apart a b ne x y o)) (λ o. symmetric a b ∙ rising b a y x o p)) (order (to a) (to b)))
                (eq-or-lt_of_le (low b y)))
                (eq-or-lt_of_le (low a x));
          }

      someone-fit : (new : List ℕ) (m h : ℕ) → count (unnumbered new) n ≡ suc m → last (λ j. unnumbered new (from j)) n ≡ h
          → ((k : ℕ) → k < n → fit clash n new k ≡ false) → ⊥
      someone-fit new m zero c e none =
          let gone = none-count (unnumbered new) n (λ i l.
          ap (unnumbered new) (sym (r.old_new i l)) ∙ last_none (λ j. unnumbered new (from j)) n e (to i) (r.new_in i l)) in
          omega arith
      someone-fit new m (suc k) c e none =
          let l = last-is (λ j. unnumbered new (from j)) n k e in
          true≢false (sym (means-fit clash n new (from k) (last_fit new k l)) ∙ none (from k) (r.old_in k l.inside))

      unstuck-turn : (m h : ℕ) (new old : List ℕ) → last (fit clash n new) n ≡ h → n ≤ length new → count (unnumbered new) n ≡ suc m
          → give_to m h new old (λ x y. give_numbers clash n m x y) ≡ stuck
          → ((i : ℕ) → count (unnumbered (set new i (suc m))) n ≡ m → give_numbers clash n m (set new i (suc m)) (set old m (suc i)) ≡ stuck → ⊥) → ⊥
      unstuck-turn m zero new old e long c g rec =
          someone-fit new m (last (λ j. unnumbered new (from j)) n) c refl (last_none (fit clash n new) n e)
      unstuck-turn m (suc i) new old e long c g rec =
          let l = last-is (fit clash n new) n i e in
          rec i (omega (arith, one_less n new i m l.inside long (fit-means clash n new i l.has).free)) g

      pub unstuck : (m : ℕ) (new old : List ℕ) → n ≤ length new → count (unnumbered new) n ≡ m → give_numbers clash n m new old ≡ stuck → ⊥
      unfolding give_numbers
      unstuck zero new old long c g = let z : ◌≡◌ {A = ℕ} 0 1 = cc in omega arith
      unstuck (suc m) new old long c g =
          unstuck-turn m (last (fit clash n new) n) new old refl long c g
          (λ i d h. unstuck m (set new i (suc m)) (set old m (suc i)) (rw length-set long) d h)
