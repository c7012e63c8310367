-- "Of all choices": each number went to the highest cell left whose clashing cells all clash with one another, and no other numbering does so.
-- By the numbers that are given: a cell's later turns leave those left before it as they were.
--     numbers-by-rule     the numbering goes by the rule
--     one-by-rule         and two renumberings that do are one
-- Assumes nothing.
use mathlib.Core.Path.{◌≡◌, refl, sym, ap, ◌∙◌, subst}
use mathlib.Core.Bool.{Bool, true, true≢false}
use mathlib.Core.List.{List}
use mathlib.Core.Logic.{⊎_elim}
use Prim.Native.Nat.{ℕ, zero, suc, ◌+◌, ◌≤◌, ◌<◌}
use native.Mathlib.Omega.{arith}
use native.Mathlib.Nat.{eq-or-lt_of_le, le_of_suc-le-suc, not-suc-le-zero, le_refl}
use lib.ListN.{length, get_or, set, length-set}
use lib.Seq.{get_or-set_same}
use borrow.Author.Tests.{eqb-true, eq-eqb}
use Rattle.laws.specs.Sum.{count}
use Rattle.laws.proofs.Choice.{order, at_least}
use Rattle.renumbering.specs.Numbering.{last, unnumbered, fit, numbered, give_to, give_numbers, blank, numbering, index_at}
use Rattle.renumbering.specs.Renumbers.{Renumbers, Symmetric, AllClash, Highest, ByRule}
use Rattle.renumbering.proofs.Fit.{Last, last-is, Near, fit-means, means-fit}
use Rattle.renumbering.proofs.Given.{Place, Told, told, given-here, given-other, still-left, one_less}
use Rattle.renumbering.proofs.Renumber.{blank-at, all_left, blank-long}

module _ (clash : ℕ → ℕ → Bool) (n : ℕ) where
  -- x is left when the number a + 1 is given, in a run that began with `new` and ended with new'
  record Left (new new' : List ℕ) (a x : ℕ) : Type 0 where
    pub inside : x < n
    pub free : get_or new x 0 ≡ 0
    pub low : get_or new' x 0 ≤ suc a

  abbrev Close : (new new' : List ℕ) (a i : ℕ) → Type 0
  Close new new' a i =
      (x y : ℕ) → (x ≡ y → ⊥) → Left new new' a x → Left new new' a y → clash i x ≡ true → clash i y ≡ true → clash x y ≡ true

  -- i got the number a + 1, by the rule
  record Ruled (new new' old' : List ℕ) (a i : ℕ) : Type 0 where
    pub place : Place new' old' i a
    pub is_left : Left new new' a i
    pub clashing : Close new new' a i
    pub above : (j : ℕ) → i < j → Left new new' a j → Close new new' a j → ⊥

  module _ (symmetric : Symmetric clash) where
    -- the number that is given first
    rule-here : (m i : ℕ) (new old new' old' : List ℕ) → Last (fit clash n new) n i → Told clash n (suc m) new old new' old' → Place new' old' i m
        → Ruled new new' old' m i
    rule-here m i new old new' old' l t p =
        let f = fit-means clash n new i l.has in
        let near : (x : ℕ) → Left new new' m x → clash i x ≡ true → Near clash n new i x
        = λ x w h. record { inside = w.inside; free = eq-eqb _ 0 w.free; met = h } in
        let here : (j x : ℕ) → Near clash n new j x → Left new new' m x
        = λ j x w.
        let free = eqb-true (get_or new x 0) 0 w.free in
        let a = t.all x w.inside free in
        record { inside = w.inside; free = free; low = omega (arith, a.1.0, a.1.1.there) } in
        record {
          place = p;
          is_left = record { inside = l.inside; free = eqb-true (get_or new i 0) 0 f.free; low = omega (arith, p.there) };
          clashing = λ x y ne wx wy hx hy. f.clique x y ne (near x wx hx) (near y wy hy);
          above = λ j h w close.
              true≢false
              (sym
              (means-fit clash n new j (record {
                free = eq-eqb _ 0 w.free;
                clique = λ x y ne wx wy. close x y ne (here j x wx) (here j y wy) wx.met wy.met;
              }))
              ∙ l.above j h w.inside);
        }

    -- the numbers after it: those left are the same
    rule-below : (m i : ℕ) (new new' old' : List ℕ) → i < n → n ≤ length new → get_or new' i 0 ≡ suc m → (a k : ℕ) → a < m
        → Ruled (set new i (suc m)) new' old' a k → Ruled new new' old' a k
    rule-below m i new new' old' in-i long place a k l r =
        let out : (x : ℕ) → Left new new' a x → Left (set new i (suc m)) new' a x
        = λ x w.
        let ne : x ≡ i → ⊥ = λ e. let z = ap (λ y. get_or new' y 0) e in omega (arith, w.low) in
        record { inside = w.inside; free = given-other n new i m in-i long x ne ∙ w.free; low = w.low } in
        let back : (x : ℕ) → Left (set new i (suc m)) new' a x → Left new new' a x
        = λ x w. record { inside = w.inside; free = (still-left n new i m in-i long x w.free).1; low = w.low } in
        record {
          place = r.place;
          is_left = back k r.is_left;
          clashing = λ x y ne wx wy. r.clashing x y ne (out x wx) (out y wy);
          above = λ j h w close. r.above j h (out j w) (λ x y ne wx wy. close x y ne (back x wx) (back y wy));
        }

    abbrev Goal : (m : ℕ) (new new' old' : List ℕ) → Type 0
    Goal m new new' old' = (a : ℕ) → a < m → (k : ℕ) × Ruled new new' old' a k

    ruled-turn : (m h : ℕ) (new old new' old' : List ℕ) → last (fit clash n new) n ≡ h → m < n → n ≤ length new → n ≤ length old
        → count (unnumbered new) n ≡ suc m → Told clash n (suc m) new old new' old'
        → give_to m h new old (λ x y. give_numbers clash n m x y) ≡ numbered new' old'
        → ((i : ℕ) → i < n → count (unnumbered (set new i (suc m))) n ≡ m → give_numbers clash n m (set new i (suc m)) (set old m (suc i)) ≡ numbered new' old'
        → (get_or new' i 0 ≡ suc m) × (get_or old' m 0 ≡ suc i) × Goal m (set new i (suc m)) new' old')
        → Goal (suc m) new new' old'
    ruled-turn m zero new old new' old' e in-m long long' c t g rec a l = let z : ◌≡◌ {A = ℕ} 0 1 = cc in absurd (omega arith)
    ruled-turn m (suc i) new old new' old' e in-m long long' c t g rec a l =
        let la = last-is (fit clash n new) n i e in
        let f = fit-means clash n new i la.has in
        let r = rec i la.inside (omega (arith, one_less n new i m la.inside long f.free)) g in
        ⊎_elim
        (λ q.
        (i, subst (λ b. Ruled new new' old' b i) (sym q) (rule-here m i new old new' old' la t (record { there = r.0; back = r.1 }))))
        (λ q. let b = r.2 a q in (b.0, rule-below m i new new' old' la.inside long r.0 a b.0 q b.1))
        (eq-or-lt_of_le (le_of_suc-le-suc l))

    ruled : (m : ℕ) (new old new' old' : List ℕ) → m ≤ n → n ≤ length new → n ≤ length old → count (unnumbered new) n ≡ m
        → give_numbers clash n m new old ≡ numbered new' old' → Goal m new new' old'
    unfolding give_numbers
    ruled zero new old new' old' in-m long long' c g a l = absurd (not-suc-le-zero l)
    ruled (suc m) new old new' old' in-m long long' c g a l =
        ruled-turn m (last (fit clash n new) n) new old new' old' refl in-m long long' c
        (told clash n symmetric (suc m) new old new' old' in-m long long' c g) g
        (λ i in-i d h.
        let long-i : n ≤ length (set new i (suc m)) = rw length-set long in
        let long-m : n ≤ length (set old m (suc i)) = rw length-set long' in
        let t = told clash n symmetric m (set new i (suc m)) (set old m (suc i)) new' old' (omega arith) long-i long-m d h in (
          t.kept i m (given-here n new i m in-i long),
          t.above m (le_refl m) ∙ get_or-set_same old m (suc i) 0 (omega arith),
          ruled m (set new i (suc m)) (set old m (suc i)) new' old' (omega arith) long-i long-m d h,
        )) a l

module _ (clash : ℕ → ℕ → Bool) (n : ℕ) (symmetric : Symmetric clash) (size : ℕ) (fits : n ≤ size) (new old : List ℕ)
    (found : numbering size clash n ≡ numbered new old) where
  pub numbers-by-rule : ByRule clash n (index_at new) (index_at old)
  unfolding numbering
  numbers-by-rule a l =
      let long = blank-long size n fits in
      let r = ruled clash n symmetric n (blank size) (blank size) new old (le_refl n) long long (all_left size n fits) found a l in
      let e : index_at old a ≡ r.0 = omega (arith, r.1.place.back) in
      let left : (x : ℕ) → x < n → index_at new x ≤ a → Left clash n (blank size) new a x
      = λ x w h. record { inside = w; free = blank-at size x; low = omega arith } in
      let close : (i : ℕ) → AllClash clash n (index_at new) a i → Close clash n (blank size) new a i
      = λ i all x y ne wx wy. all x y wx.inside wy.inside ne (omega (arith, wx.low)) (omega (arith, wy.low)) in
      rw e (record {
        inside = r.1.is_left.inside;
        is_left = omega (arith, r.1.is_left.low);
        clashing = λ x y wx wy ne hx hy. r.1.clashing x y ne (left x wx hx) (left y wy hy);
        above = λ j h w hj all. r.1.above j h (left j w hj) (close j all);
      })

-- ---- no other renumbering goes by the rule

module _ (clash : ℕ → ℕ → Bool) (n : ℕ) (new old new' old' : ℕ → ℕ) (r : Renumbers n new old) (r' : Renumbers n new' old') where
  -- where the numbers above a + 1 are the same, those left are
  same_left : (a : ℕ) → ((b : ℕ) → a < b → b < n → old b ≡ old' b) → (x : ℕ) → x < n → new x ≤ a → new' x ≤ a
  same_left a same x w h = at_least (new' x) a (λ over.
      let e : new x ≡ new' x = ap new (sym (r'.old_new x w) ∙ sym (same (new' x) over (r'.new_in x w))) ∙ r.new_old (new' x) (r'.new_in x w) in
      omega arith)

  -- so the highest of the one is no lower than that of the other
  no_lower : (a : ℕ) → ((x : ℕ) → x < n → new x ≤ a → new' x ≤ a) → ((x : ℕ) → x < n → new' x ≤ a → new x ≤ a) → (i j : ℕ)
      → Highest clash n new a i → Highest clash n new' a j → i < j → ⊥
  no_lower a out back i j h k l =
      h.above j l k.inside (back j k.inside k.is_left) (λ x y wx wy ne hx hy. k.clashing x y wx wy ne (out x wx hx) (out y wy hy))

module _ (clash : ℕ → ℕ → Bool) (n : ℕ) (new old new' old' : ℕ → ℕ) (r : Renumbers n new old) (r' : Renumbers n new' old')
    (by : ByRule clash n new old) (by' : ByRule clash n new' old') where
  same_from : (d a : ℕ) → a < n → n ≤ a + d → old a ≡ old' a
  same_from zero a l h = absurd (omega arith)
  same_from (suc d) a l h =
      let same : (b : ℕ) → a < b → b < n → old b ≡ old' b = λ b m w. same_from d b w (omega arith) in
      let out = same_left clash n new old new' old' r r' a same in
      let back = same_left clash n new' old' new old r' r a (λ b m w. sym (same b m w)) in
      ⊎_elim (λ o. absurd (no_lower clash n new old new' old' r r' a out back (old a) (old' a) (by a l) (by' a l) o))
      (⊎_elim (λ e. e) (λ o. absurd (no_lower clash n new' old' new old r' r a back out (old' a) (old a) (by' a l) (by a l) o)))
      (order (old a) (old' a))

  pub one-by-rule : (a : ℕ) → a < n → old a ≡ old' a
  one-by-rule a l = same_from n a l (omega arith)
