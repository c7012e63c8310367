-- Where the greedy planner plans, the search never goes back: it places the fragments as greedy does, cell after cell, position after position, and looks
-- at the
-- same open positions. `greedy-search`.
-- Assumes nothing.
use mathlib.Core.Path.{◌≡◌, refl, sym, ap, ap₂, ◌∙◌, subst}
use mathlib.Core.Bool.{Bool, true, false, ◌&&◌, not, true≢false, and-false}
use mathlib.Core.List.{List, [], ◌∷◌, ◌++◌}
use mathlib.Core.Logic.{inl, inr, ⊎_elim}
use Prim.Native.Nat.{ℕ, zero, suc, ◌+◌, ◌*◌, ◌≤◌, ◌<◌}
use native.Mathlib.Omega.{arith}
use native.Mathlib.Nat.{not-suc-le-zero}
use lib.ListN.{take, replicate}
use lib.Seq.{get_or-take}
use borrow.Author.Tests.{lt-ltb, le-ltb, eq-eqb, ne_eqb}
use Rattle.laws.specs.Choice.{pick, Rising}
use Rattle.laws.specs.Few.{first_few}
use Rattle.laws.specs.Sum.{bit, sum, count}
use Rattle.laws.proofs.Any.{any_here, any_some, any-eq}
use Rattle.laws.proofs.Choice.{alike, both, both_is, order}
use Rattle.laws.proofs.Few.{few-count, few-eq, few_past}
use Rattle.laws.proofs.Grid.{inside}
use Rattle.laws.proofs.Sums.{sum-eq, sum-front, sum-none, sum-up}
use Rattle.theory.specs.Net.{Net, Reserved, taken, free}
use Rattle.theory.specs.Greedy.{sends, reserved, row, planned, greedy}
use Rattle.theory.proofs.Exact.{greedy-fair, planned-valid}
use Rattle.theory.proofs.Row.{row-reserved}
use Rattle.theory.proofs.Run.{run_at}
use Rattle.tries.specs.Search.{Spot, spot_at, reserved_by, taken_by, End, plan_found, after_tries, or_next, look_at, onward, seek, opens_from}
use Rattle.tries.specs.Search.{fragments_from, open_list, search_of}
use Rattle.tries.specs.Looks.{looks_at, looks_of}
use Rattle.tries.proofs.Lists.{Sorted, done, more, fragments-sorted-from, spots-cases, spots-head, spots-tail, taken-some, taken_none}
use Rattle.tries.proofs.Ends.{after-zero}

-- a table of which each row takes the first few of its free positions, and finds enough of them
module _ (s : Net) (res : Reserved) (few : (i k : ℕ) → i < s.cells → k < s.width → res i k ≡ first_few (free s res i) (s.load i) k)
    (enough : (i : ℕ) → i < s.cells → s.load i ≤ count (free s res i) s.width) where
  -- what is placed is what the table has before position p of cell i
  record Sofar (i p : ℕ) (qs : List Spot) : Type 0 where
    only : (j k : ℕ) → k < s.width → reserved_by qs j k ≡ true → (res j k ≡ true) × Rising j i (k < p)
    all : (j k : ℕ) → k < s.width → res j k ≡ true → Rising j i (k < p) → reserved_by qs j k ≡ true

  sofar-none : Sofar 0 0 []
  unfolding reserved_by
  sofar-none = record {
    only = λ j k l h. absurd (true≢false (sym h));
    all = λ j k l r. ⊎_elim (λ a. absurd (not-suc-le-zero a)) (λ a. absurd (not-suc-le-zero a.1));
  }

  taken_is : (i p : ℕ) (qs : List Spot) → Sofar i p qs → (q : ℕ) → q < s.width → taken_by s.clash qs i q ≡ taken s res i q
  taken_is i p qs h q l =
      alike (taken_by s.clash qs i q) (taken s res i q)
      (λ e.
      let x = taken-some s.clash qs i q e in
      any_here (λ j. s.clash j i && res j q) i x.0 x.1 (both_is (s.clash x.0 i) (res x.0 q) x.2 (h.only x.0 q l x.3).0))
      (λ e.
      let x = any_some (λ j. s.clash j i && res j q) i e in
      let y = both (s.clash x.0 i) (res x.0 q) x.2 in
      taken_none s.clash qs i q x.0 x.1 y.0 (h.all x.0 q l y.1 (inl x.1)))

  -- the position is taken, or not
  sofar-put : (i p : ℕ) (qs : List Spot) → p < s.width → res i p ≡ true → Sofar i p qs → Sofar i (suc p) (spot_at i p ∷ qs)
  sofar-put i p qs w r h = record {
    only = λ j k l e.
        ⊎_elim
        (λ a. (subst (λ z. res z k ≡ true) (sym a.0) (subst (λ z. res i z ≡ true) (sym a.1) r), inr (a.0, omega arith)))
        (λ a. let x = h.only j k l a in (x.0, ⊎_elim inl (λ b. inr (b.0, omega arith)) x.1))
        (spots-cases i p qs j k e);
    all = λ j k l t a.
        ⊎_elim (λ b. spots-tail (spot_at i p) qs j k (h.all j k l t (inl b)))
        (λ b.
        ⊎_elim (λ o. spots-tail (spot_at i p) qs j k (h.all j k l t (inr (b.0, o))))
        (⊎_elim
        (λ o. subst (λ z. reserved_by (spot_at i p ∷ qs) z k ≡ true) (sym b.0)
        (subst (λ z. reserved_by (spot_at i p ∷ qs) i z ≡ true) (sym o) (spots-head (spot_at i p) qs)))
        (λ o. absurd (omega arith))) (order k p))
        a;
  }

  sofar-skip : (i p : ℕ) (qs : List Spot) → res i p ≡ false → Sofar i p qs → Sofar i (suc p) qs
  sofar-skip i p qs r h = record {
    only = λ j k l e. let x = h.only j k l e in (x.0, ⊎_elim inl (λ b. inr (b.0, omega arith)) x.1);
    all = λ j k l t a.
        ⊎_elim (λ b. h.all j k l t (inl b))
        (λ b.
        ⊎_elim (λ o. h.all j k l t (inr (b.0, o)))
        (⊎_elim
        (λ o. absurd (true≢false (sym t ∙ subst (λ z. res z k ≡ false) (sym b.0) (subst (λ z. res i z ≡ false) (sym o) r))))
        (λ o. absurd (omega arith))) (order k p))
        a;
  }

  -- the load is met, and the next cell's turn comes
  sofar-next : (i p : ℕ) (qs : List Spot) → i < s.cells → s.load i ≤ count (free s res i) p → Sofar i p qs → Sofar (suc i) 0 qs
  sofar-next i p qs c met h = record {
    only = λ j k l e. let x = h.only j k l e in (x.0, inl (⊎_elim (λ b. omega arith) (λ b. omega (arith, b.0)) x.1));
    all = λ j k l t a.
        ⊎_elim
        (λ b.
        ⊎_elim (λ o. h.all j k l t (inl o))
        (⊎_elim (λ o. h.all j k l t (inr (o, before k l (subst (λ z. res z k ≡ true) o t)))) (λ o. absurd (omega arith))) (order j i))
        (λ b. absurd (not-suc-le-zero b.1))
        a;
  }
    where
      before : (k : ℕ) → k < s.width → res i k ≡ true → k < p
      before k l t =
          ⊎_elim (λ o. o) (λ o. absurd (true≢false
          (sym t ∙ few i k c l ∙ few_past (free s res i) (s.load i) p k met (⊎_elim (λ q. omega arith) (λ q. omega arith) o))))
          (order k p)

  -- ---- the positions of a cell

  abbrev looks : ℕ → ℕ → ℕ → ℕ
  looks i p n = sum (λ d. bit (looks_at s res i (p + d))) n

  looks-front : (i p n : ℕ) → looks i p (suc n) ≡ bit (looks_at s res i p) + looks i (suc p) n
  looks-front i p n =
      let first : bit (looks_at s res i (p + 0)) ≡ bit (looks_at s res i p) = ap (λ z. bit (looks_at s res i z)) (let e : p + 0 ≡ p = omega arith in e) in
      let moved : sum (λ d. bit (looks_at s res i (p + suc d))) n ≡ looks i (suc p) n =
      sum-eq (λ d. bit (looks_at s res i (p + suc d))) (λ d. bit (looks_at s res i (suc p + d))) n
      (λ d _. ap (λ z. bit (looks_at s res i z)) (let e : p + suc d ≡ suc p + d = omega arith in e)) in
      omega (arith, sum-front (λ d. bit (looks_at s res i (p + d))) n)

  looks-none : (i p n : ℕ) → s.load i ≤ count (free s res i) p → looks i p n ≡ 0
  looks-none i p n h =
      sum-eq (λ d. bit (looks_at s res i (p + d))) (λ _. 0) n
      (λ d _.
      let up : count (free s res i) p ≤ count (free s res i) (p + d) = sum-up (λ k. bit (free s res i k)) p (p + d) (omega arith) in
      rw (le-ltb (count (free s res i) (p + d)) (s.load i) (omega arith), and-false))
      ∙ sum-none n

  -- ---- one try

  abbrev go : List ℕ → List Spot → List ℕ → End
  go = seek s.clash (open_list s)

  try-taken : (i p : ℕ) (cs ps : List ℕ) (qs : List Spot) → taken_by s.clash qs i p ≡ true → go (i ∷ cs) qs (p ∷ ps) ≡ after_tries 1 (go (i ∷ cs) qs ps)
  unfolding seek look_at or_next
  try-taken i p cs ps qs e = rw e (ap (after_tries 1) (after-zero _))

  try-found : (i p x : ℕ) (cs ps : List ℕ) (qs f : List Spot) → taken_by s.clash qs i p ≡ false
      → go cs (spot_at i p ∷ qs) (onward (open_list s) i cs ps) ≡ plan_found f x → go (i ∷ cs) qs (p ∷ ps) ≡ plan_found f (1 + x)
  unfolding seek look_at or_next after_tries
  try-found i p x cs ps qs f e h = rw (e, h)

  -- the first fragment of a later cell starts anew
  fresh : (i n : ℕ) (cs ps : List ℕ) (qs : List Spot) → Sorted n (suc i) cs → go cs qs (onward (open_list s) i cs ps) ≡ go cs qs (open_list s)
  unfolding seek onward
  fresh i n [] ps qs done = refl
  fresh i n (d ∷ ds) ps qs (more l m r) = rw (ne_eqb d i (λ e. omega arith))

  stays : (i : ℕ) (cs ps : List ℕ) → onward (open_list s) i (i ∷ cs) ps ≡ ps
  unfolding onward
  stays i cs ps = rw (eq-eqb i i refl)

  -- ---- one cell, where the later fragments are planned with x tries

  -- a plan of the fragments fs with so many tries, which is the table's
  abbrev Plans : List ℕ → List Spot → List ℕ → ℕ → Type 0
  Plans fs qs ps x = (f : List Spot) × (go fs qs ps ≡ plan_found f x) × Sofar s.cells 0 f

  abbrev Later : List ℕ → ℕ → ℕ → Type 0
  Later fs i x = (qs : List Spot) → Sofar i 0 qs → Plans fs qs (open_list s) x

  more-tries : (fs ps : List ℕ) (qs : List Spot) (x y : ℕ) → x ≡ y → Plans fs qs ps x → Plans fs qs ps y
  more-tries fs ps qs x y e h = subst (Plans fs qs ps) e h

  module _ (i : ℕ) (c : i < s.cells) (rest : List ℕ) (x : ℕ) (so : Sorted s.cells (suc i) rest) (later : Later rest (suc i) x) where
    abbrev mine : ℕ → Bool
    mine = free s res i

    -- the fragments that are left, over the n positions from p on
    abbrev Cell : ℕ → ℕ → Type 0
    Cell n p =
        (m : ℕ) (qs : List Spot) → p + n ≡ s.width → suc m + count mine p ≡ s.load i → Sofar i p qs
        → Plans (i ∷ replicate m i ++ rest) qs (opens_from s.usable p n) (looks i p n + x)

    -- at position p: not open; taken; free, with the last fragment or another
    shut : (n p : ℕ) → Cell n (suc p) → (m : ℕ) (qs : List Spot) → s.usable p ≡ false → p + suc n ≡ s.width → suc m + count mine p ≡ s.load i → Sofar i p qs
        → Plans (i ∷ replicate m i ++ rest) qs (opens_from s.usable (suc p) n) (looks i p (suc n) + x)
    unfolding sum
    shut n p ih m qs u w e h =
        let no : mine p ≡ false = rw u in
        let r : res i p ≡ false = few i p c (omega arith) ∙ rw no in
        more-tries _ _ qs (looks i (suc p) n + x) _ (let z : bit (looks_at s res i p) ≡ 0 = rw u in omega (arith, looks-front i p n))
        (ih m qs (omega arith) (let z : bit (mine p) ≡ 0 = ap bit no in omega arith) (sofar-skip i p qs r h))

    hit : (n p : ℕ) → Cell n (suc p) → (m : ℕ) (qs : List Spot) → s.usable p ≡ true → taken s res i p ≡ true → p + suc n ≡ s.width → suc m + count
        mine p ≡ s.load i → Sofar i p qs
        → Plans (i ∷ replicate m i ++ rest) qs (p ∷ opens_from s.usable (suc p) n) (looks i p (suc n) + x)
    unfolding sum after_tries
    hit n p ih m qs u t w e h =
        let no : mine p ≡ false = rw (u, t) in
        let r : res i p ≡ false = few i p c (omega arith) ∙ rw no in
        let one : bit (looks_at s res i p) ≡ 1 = rw (u, lt-ltb (count mine p) (s.load i) (omega arith)) in
        let y = ih m qs (omega arith) (let z : bit (mine p) ≡ 0 = ap bit no in omega arith) (sofar-skip i p qs r h) in (
          y.0,
          try-taken i p _ _ qs (taken_is i p qs h p (omega arith) ∙ t) ∙ ap (after_tries 1) y.1
              ∙ ap (plan_found y.0) (let z : 1 + (looks i (suc p) n + x) ≡ looks i p (suc n) + x = omega (arith, looks-front i p n) in z),
          y.2,
        )

    put : (n p : ℕ) → Cell n (suc p) → (m : ℕ) (qs : List Spot) → s.usable p ≡ true → taken s res i p ≡ false → p + suc n ≡ s.width → suc m + count
        mine p ≡ s.load i → Sofar i p qs
        → Plans (i ∷ replicate m i ++ rest) qs (p ∷ opens_from s.usable (suc p) n) (looks i p (suc n) + x)
    unfolding sum
    put n p ih zero qs u t w e h =
        let yes : mine p ≡ true = rw (u, t) in
        let r : res i p ≡ true = few i p c (omega arith) ∙ rw (yes, lt-ltb (count mine p) (s.load i) (omega arith)) in
        let one : bit (looks_at s res i p) ≡ 1 = rw (u, lt-ltb (count mine p) (s.load i) (omega arith)) in
        let met : s.load i ≤ count mine (suc p) = let z : bit (mine p) ≡ 1 = ap bit yes in omega arith in
        let y = later (spot_at i p ∷ qs) (sofar-next i (suc p) (spot_at i p ∷ qs) c met (sofar-put i p qs (omega arith) r h)) in (
          y.0,
          try-found i p x rest _ qs y.0 (taken_is i p qs h p (omega arith) ∙ t) (fresh i s.cells rest _ (spot_at i p ∷ qs) so ∙ y.1)
              ∙ ap (plan_found y.0) (let z : 1 + x ≡ looks i p (suc n) + x = omega (arith, looks-front i p n, looks-none i (suc p) n met) in z),
          y.2,
        )
    put n p ih (suc m) qs u t w e h =
        let yes : mine p ≡ true = rw (u, t) in
        let r : res i p ≡ true = few i p c (omega arith) ∙ rw (yes, lt-ltb (count mine p) (s.load i) (omega arith)) in
        let one : bit (looks_at s res i p) ≡ 1 = rw (u, lt-ltb (count mine p) (s.load i) (omega arith)) in
        let y = ih m (spot_at i p ∷ qs) (omega arith) (let z : bit (mine p) ≡ 1 = ap bit yes in omega arith) (sofar-put i p qs (omega arith) r h) in (
          y.0,
          try-found i p (looks i (suc p) n + x) (i ∷ replicate m i ++ rest) _ qs y.0 (taken_is i p qs h p (omega arith) ∙ t)
              (ap (go (i ∷ replicate m i ++ rest) (spot_at i p ∷ qs)) (stays i (replicate m i ++ rest) _) ∙ y.1)
              ∙ ap (plan_found y.0) (let z : 1 + (looks i (suc p) n + x) ≡ looks i p (suc n) + x = omega (arith, looks-front i p n) in z),
          y.2,
        )

    at : (n p : ℕ) → Cell n (suc p) → (m : ℕ) (qs : List Spot) (u t : Bool) → s.usable p ≡ u → taken s res i p ≡ t → p + suc n ≡ s.width
        → suc m + count mine p ≡ s.load i → Sofar i p qs
        → Plans (i ∷ replicate m i ++ rest) qs (pick u (p ∷ []) [] ++ opens_from s.usable (suc p) n) (looks i p (suc n) + x)
    at n p ih m qs false t u v = shut n p ih m qs u
    at n p ih m qs true true u v = hit n p ih m qs u v
    at n p ih m qs true false u v = put n p ih m qs u v

    cell : (n p : ℕ) → Cell n p
    unfolding opens_from
    cell zero p m qs w e h = absurd (omega (arith, enough i c, ap (λ z. count mine z) (let z : p ≡ s.width = omega arith in z)))
    cell (suc n) p m qs w e h = at n p (cell n (suc p)) m qs (s.usable p) (taken s res i p) refl refl w e h

  -- ---- all cells

  -- cell i, with l fragments, and the later ones
  turn : (i l : ℕ) (rest : List ℕ) (x : ℕ) → i < s.cells → s.load i ≡ l → Sorted s.cells (suc i) rest → Later rest (suc i) x
      → Later (replicate l i ++ rest) i (looks i 0 s.width + x)
  unfolding sum
  turn i zero rest x c e so later qs h =
      more-tries rest (open_list s) qs x _ (omega (arith, looks-none i 0 s.width (omega arith)))
      (later qs (sofar-next i 0 qs c (omega arith) h))
  turn i (suc m) rest x c e so later qs h = cell i c rest x so later s.width 0 m qs (omega arith) (omega arith) h

  turns : (r i : ℕ) → i + r ≡ s.cells → Later (fragments_from s.load i r) i (sum (λ d. looks (i + d) 0 s.width) r)
  unfolding fragments_from seek sum
  turns zero i e qs h = (qs, refl, subst (λ z. Sofar z 0 qs) (let z : i ≡ s.cells = omega arith in z) h)
  turns (suc r) i e qs h =
      let first : looks (i + 0) 0 s.width ≡ looks i 0 s.width = ap (λ z. looks z 0 s.width) (let z : i + 0 ≡ i = omega arith in z) in
      let moved : sum (λ d. looks (i + suc d) 0 s.width) r ≡ sum (λ d. looks (suc i + d) 0 s.width) r =
      sum-eq (λ d. looks (i + suc d) 0 s.width) (λ d. looks (suc i + d) 0 s.width) r
      (λ d _. ap (λ z. looks z 0 s.width) (let z : i + suc d ≡ suc i + d = omega arith in z)) in
      more-tries (replicate (s.load i) i ++ fragments_from s.load (suc i) r) (open_list s) qs
      (looks i 0 s.width + sum (λ d. looks (suc i + d) 0 s.width) r) _
      (omega (arith, sum-front (λ d. looks (i + d) 0 s.width) r))
      (turn i (s.load i) (fragments_from s.load (suc i) r) _ (omega arith) refl
      (fragments-sorted-from s.load s.cells (suc i) r (omega arith)) (turns r (suc i) (omega arith)) qs h)

  looks-all : sum (λ d. looks (0 + d) 0 s.width) s.cells ≡ looks_of s res
  looks-all =
      sum-eq (λ d. looks (0 + d) 0 s.width) (λ i. count (looks_at s res i) s.width) s.cells
      (λ d _.
      sum-eq (λ k. bit (looks_at s res (0 + d) (0 + k))) (λ k. bit (looks_at s res d k)) s.width
      (λ k _. ap₂ (λ i q. bit (looks_at s res i q)) (let e : 0 + d ≡ d = omega arith in e) (let e : 0 + k ≡ k = omega arith in e)))

  found_as : (qs : List Spot) × (search_of s ≡ plan_found qs (looks_of s res)) × ((i k : ℕ) → i < s.cells → k < s.width → reserved_by qs i k ≡ res i k)
  found_as =
      let y = turns s.cells 0 (omega arith) [] sofar-none in (
        y.0,
        y.1 ∙ ap (plan_found y.0) looks-all,
        λ i k l w. alike (reserved_by y.0 i k) (res i k) (λ h. (y.2.only i k w h).0) (λ h. y.2.all i k w h (inl l)),
      )

-- ---- the greedy planner's table is such a table

module _ (s : Net) (t : List ℕ) (e : greedy s ≡ planned t) where
  abbrev res : Reserved
  res = reserved s.width t

  greedy-few : (i k : ℕ) → i < s.cells → k < s.width → res i k ≡ first_few (free s res i) (s.load i) k
  greedy-few i k l w =
      let below : List ℕ = take (i * s.width) t in
      let same : (q : ℕ) → q < s.width → free s (reserved s.width below) i q ≡ free s res i q =
      λ q h. ap (λ b. s.usable q && not b)
      (any-eq (λ j. s.clash j i && reserved s.width below j q) (λ j. s.clash j i && res j q) i
      (λ j m. ap (λ b. s.clash j i && sends b) (get_or-take (i * s.width) t (j * s.width + q) 0 (inside i s.width j q m h)))) in
      ap sends (run_at s (row s) (greedy-fair s) s.cells t e i k l w) ∙ row-reserved s below i k w
      ∙ few-eq (free s (reserved s.width below) i) (free s res i) (s.load i) k (λ j m. same j (omega arith))

  greedy-enough : (i : ℕ) → i < s.cells → s.load i ≤ count (free s res i) s.width
  greedy-enough i l =
      omega (
        arith,
        (planned-valid s t e).exact i l,
        sum-eq (λ k. bit (res i k)) (λ k. bit (first_few (free s res i) (s.load i) k)) s.width (λ k w. ap bit (greedy-few i k l w)),
        few-count (free s res i) (s.load i) s.width,
      )

  -- where the greedy planner plans, the search finds the same reservations, and its tries are the open positions that the greedy planner looks at
  pub greedy-search : (qs : List Spot) × (search_of s ≡ plan_found qs (looks_of s (reserved s.width t)))
      × ((i k : ℕ) → i < s.cells → k < s.width → reserved_by qs i k ≡ reserved s.width t i k)
  greedy-search = found_as s res greedy-few greedy-enough
