-- A spare cell numbered in at any place changes no verdict of the load test, of the chain or of the class: the same cells are named, where they stand then.
-- No search stops at a cell without load, so that each search finds the same cell, moved; and no sum has anything of it.
-- Assumes nothing.
use mathlib.Core.Path.{◌≡◌, refl, sym, ap, ap₂, ◌∙◌}
use mathlib.Core.Bool.{Bool, true, false, ◌&&◌, not, and-false}
use mathlib.Core.Logic.{⊎_elim, ◌⊎◌, inl, inr}
use Prim.Native.Nat.{ℕ, zero, suc, ◌+◌, ◌-◌, ◌≤◌, ◌<◌, zero-le}
use native.Mathlib.Nat.{le_antisymm}
use native.Mathlib.Omega.{arith}
use lib.Dec.{ltb}
use borrow.Author.Tests.{ltb-true, ltb-false, lt-ltb, le-ltb}
use Rattle.laws.specs.Choice.{pick}
use Rattle.laws.specs.Most.{most}
use Rattle.laws.specs.Search.{first}
use Rattle.laws.specs.Sum.{sum}
use Rattle.laws.proofs.Choice.{cases, alike, pick_same}
use Rattle.laws.proofs.Most.{most-above, most-within}
use Rattle.laws.proofs.Search.{first-most, first-least, first_passes, first-before, first-none, first-is}
use Rattle.theory.specs.Net.{Net, demand, loaded}
use Rattle.theory.specs.Spare.{past, SparePut, load_past, chain_past, class_past}
use Rattle.theory.specs.Verdict.{over, overloaded, lowest_over, over_at, load_verdict, asks, most_demand}
use Rattle.theory.specs.Verdict.{gap, breaks, break_of, first_break, broken_at, chain_verdict}
use Rattle.theory.specs.Verdict.{near_to, second, splits, split_of, first_split, outside_at, class_verdict}

-- ---- where the cells stand

module _ (p : ℕ) where
  pub past-below : (i : ℕ) → i < p → past p i ≡ i
  unfolding past
  past-below i l = rw (lt-ltb i p l)

  pub past-above : (i : ℕ) → p ≤ i → past p i ≡ i + 1
  unfolding past
  past-above i l = rw (le-ltb i p l)

  past-at : (i : ℕ) → ((i < p) × (past p i ≡ i)) ⊎ ((p ≤ i) × (past p i ≡ i + 1))
  past-at i =
      ⊎_elim (λ e. let l = ltb-true i p e in inl (l, past-below i l)) (λ e. let l = ltb-false i p e in inr (l, past-above i l)) (cases (ltb i p))

  past_up : (i j : ℕ) → i < j → past p i < past p j
  past_up i j l =
      ⊎_elim (λ a. ⊎_elim (λ b. omega arith) (λ b. omega arith) (past-at j)) (λ a. ⊎_elim (λ b. omega arith) (λ b. omega arith) (past-at j)) (past-at i)

  past-less : (i j : ℕ) → past p i < past p j → i < j
  past-less i j l =
      ⊎_elim (λ a. ⊎_elim (λ b. omega arith) (λ b. omega arith) (past-at j)) (λ a. ⊎_elim (λ b. omega arith) (λ b. omega arith) (past-at j)) (past-at i)

  -- no two cells stand at one place
  pub past_one : (i j : ℕ) → past p i ≡ past p j → i ≡ j
  past_one i j e =
      ⊎_elim (λ a. ⊎_elim (λ b. omega arith) (λ b. omega arith) (past-at j)) (λ a. ⊎_elim (λ b. omega arith) (λ b. omega arith) (past-at j)) (past-at i)

  past-ltb : (i j : ℕ) → ltb (past p i) (past p j) ≡ ltb i j
  past-ltb i j =
      alike _ _ (λ e. lt-ltb i j (past-less i j (ltb-true _ _ e))) (λ e. lt-ltb (past p i) (past p j) (past_up i j (ltb-true _ _ e)))

  -- every place is the spare's, or that of a cell
  back : (j : ℕ) → (j ≡ p) ⊎ ((i : ℕ) × (j ≡ past p i))
  back j =
      ⊎_elim (λ e. inr (j, sym (past-below j (ltb-true j p e))))
      (λ e.
      ⊎_elim (λ f. inr (j - 1, let l = ltb-true p j f in let h = past-above (j - 1) (omega arith) in omega arith))
      (λ f. inl (omega (arith, ltb-false j p e, ltb-false p j f))) (cases (ltb p j)))
      (cases (ltb j p))

  -- a search that does not stop at the spare finds what the search without it finds
  module _ (q r : ℕ → Bool) (m k e : ℕ) (le : k ≤ e) (from : m ≤ past p k) (low : (i : ℕ) → m ≤ past p i → k ≤ i) (skips : q p ≡ false)
      (same : (i : ℕ) → k ≤ i → i < e → q (past p i) ≡ r i) where
    none_below : (x : ℕ) → x ≤ e → ((i : ℕ) → k ≤ i → i < x → r i ≡ false) → (j : ℕ) → m ≤ j → j < past p x → q j ≡ false
    none_below x h none j l u =
        ⊎_elim (λ at. rw at skips)
        (λ w.
        let i = w.0 in
        let here : j ≡ past p i = w.1 in
        let lo : k ≤ i = low i (rw here at l) in
        let hi : i < x = past-less i x (rw here at u) in
        rw here (same i lo (omega arith) ∙ none i lo hi))
        (back j)

    start : (x : ℕ) → k ≤ x → m ≤ past p x
    start x l =
        ⊎_elim (λ t. omega (arith, from, past_up k x (ltb-true k x t))) (λ t. let s : x ≡ k = omega (arith, ltb-false k x t) in rw s from) (cases (ltb k x))

    first_past-law : first q m (past p e) ≡ past p (first r k e)
    first_past-law =
        let x = first r k e in
        let most : x ≤ e = first-most r k e le in
        let least : k ≤ x = first-least r k e in
        let below = none_below x most (λ i lo l. first-before r k e i lo l) in
        ⊎_elim
        (λ t.
        let l : x < e = ltb-true x e t in
        first-is q m (past p x) (past p e) (start x least) (past_up x e l) (same x least l ∙ first_passes r k e le l) below)
        (λ t.
        let is : x ≡ e = omega (arith, ltb-false x e t) in
        rw is (first-none q m (past p e) (start e le) (rw is at below)))
        (cases (ltb x e))

  -- a sum that has nothing of the spare
  sum_past : (f g : ℕ → ℕ) → f p ≡ 0 → (n : ℕ) → ((j : ℕ) → j < n → f (past p j) ≡ g j) → sum f (past p n) ≡ sum g n
  unfolding sum
  sum_past f g z zero h =
      ⊎_elim (λ a. rw a.1) (λ a. let here : p ≡ 0 = omega arith in let none : f 0 ≡ 0 = rw here at z in rw a.1 (omega arith)) (past-at 0)
  sum_past f g z (suc n) h =
      let step = sum_past f g z n (λ j l. h j (omega arith)) in
      let last = h n (omega arith) in
      ⊎_elim
      (λ a.
      ⊎_elim
      (λ b. let e : past p (suc n) ≡ suc n = b.1 in rw e (ap₂ ◌+◌ (rw a.1 at step) (rw a.1 at last)))
      (λ b.
      let here : p ≡ suc n = omega arith in
      let e : past p (suc n) ≡ suc (suc n) = omega arith in
      let none : f (suc n) ≡ 0 = rw here at z in
      rw e (omega (arith, rw a.1 at step, rw a.1 at last)))
      (past-at (suc n)))
      (λ a.
      let i : past p n ≡ suc n = omega arith in
      let e : past p (suc n) ≡ suc (suc n) = omega (arith, past-above (suc n) (omega arith)) in
      rw e (ap₂ ◌+◌ (rw i at step) (rw i at last)))
      (past-at n)

-- ---- the verdicts

module _ (p : ℕ) (s t : Net) (put : SparePut p s t) where
  -- the number of cells is where a cell after the last would stand
  end : t.cells ≡ past p s.cells
  end = put.one_more ∙ sym (past-above p s.cells put.place)

  spare-out : loaded t p ≡ false
  spare-out = rw put.no_load

  counts : (i : ℕ) → i < s.cells → loaded t (past p i) ≡ loaded s i
  counts i l = ap (ltb 0) (put.same_load i l)

  pub demand-past : (i : ℕ) → i < s.cells → demand t (past p i) ≡ demand s i
  demand-past i l =
      ap₂ ◌+◌ (put.same_load i l)
      (sum_past p (λ j. pick (t.clash j (past p i)) (t.load j) 0) (λ j. pick (s.clash j i) (s.load j) 0)
      (rw put.no_load (pick_same (t.clash p (past p i)) 0)) i
      (λ j h. ap₂ (λ (b : Bool) (n : ℕ). pick b n 0) (put.same_clash j i h l) (put.same_load j (omega arith))))

  over-past : (i : ℕ) → i < s.cells → overloaded t (loaded t) (past p i) ≡ overloaded s (loaded s) i
  unfolding overloaded
  over-past i l = ap₂ ◌&&◌ (counts i l) (ap₂ ltb put.same_room (demand-past i l))

  lowest-past : lowest_over t (loaded t) ≡ past p (lowest_over s (loaded s))
  unfolding lowest_over overloaded
  lowest-past =
      ap (first (overloaded t (loaded t)) 0) end
      ∙ first_past-law p (overloaded t (loaded t)) (overloaded s (loaded s)) 0 0 s.cells zero-le zero-le (λ i _. zero-le) (rw spare-out)
      (λ i _ l. over-past i l)

  -- the load test: the same verdict, about the same cell
  pub load_past-law : load_verdict t (loaded t) ≡ load_past p (load_verdict s (loaded s))
  unfolding load_verdict
  load_past-law =
      let i = lowest_over s (loaded s) in
      ap (over_at t) lowest-past
      ∙ ⊎_elim
      (λ e.
      let inside : ltb (past p i) t.cells ≡ true = ap (ltb (past p i)) end ∙ past-ltb p i s.cells ∙ e in
      rw (e, inside) (ap (over (past p i)) (ap₂ ◌-◌ (demand-past i (ltb-true _ _ e)) put.same_room)))
      (λ e.
      let outside : ltb (past p i) t.cells ≡ false = ap (ltb (past p i)) end ∙ past-ltb p i s.cells ∙ e in
      rw (e, outside))
      (cases (ltb i s.cells))

  -- what the load test asks of the room
  pub most-past : most_demand t (loaded t) ≡ most_demand s (loaded s)
  unfolding most_demand
  most-past =
      let a = asks t (loaded t) in
      let b = asks s (loaded s) in
      le_antisymm
      ((most-within a t.cells (most b s.cells)).1
      (λ j l.
      ⊎_elim (λ at. omega (arith, ap (asks t (loaded t)) at, asks-spare))
      (λ w.
      let here : j ≡ past p w.0 = w.1 in
      let inside : w.0 < s.cells = past-less p w.0 s.cells (rw (here, end) at l) in
      omega (arith, ap (asks t (loaded t)) here, asks-past w.0 inside, most-above b s.cells w.0 inside))
      (back p j)))
      ((most-within b s.cells (most a t.cells)).1
      (λ i l. omega (arith, asks-past i l, most-above a t.cells (past p i) (rw end (past_up p i s.cells l)))))
    where
      asks-spare : asks t (loaded t) p ≡ 0
      asks-spare = ap (λ (b : Bool). pick b (demand t p) 0) spare-out

      asks-past : (i : ℕ) → i < s.cells → asks t (loaded t) (past p i) ≡ asks s (loaded s) i
      asks-past i l = ap₂ (λ (b : Bool) (n : ℕ). pick b n 0) (counts i l) (demand-past i l)

  -- ---- the chain

  after : (a i : ℕ) → past p a + 1 ≤ past p i → a + 1 ≤ i
  after a i l = omega (arith, past-less p a i (omega arith))

  next : (a : ℕ) → past p a + 1 ≤ past p (a + 1)
  next a = omega (arith, past_up p a (a + 1) (omega arith))

  gap-past : (a c : ℕ) → a < c → c < s.cells → gap t (loaded t) (past p a) (past p c) ≡ past p (gap s (loaded s) a c)
  unfolding gap
  gap-past a c l m =
      first_past-law p (λ b. loaded t b && not (t.clash (past p a) b)) (λ b. loaded s b && not (s.clash a b)) (past p a + 1) (a + 1) c (omega arith) (next a)
      (after a)
      (rw spare-out)
      (λ b lo hi. ap₂ (λ (x y : Bool). x && not y) (counts b (omega arith)) (put.same_clash a b (omega arith) (omega arith)))

  breaks-past : (a c : ℕ) → a < c → c < s.cells → breaks t (loaded t) (past p a) (past p c) ≡ breaks s (loaded s) a c
  unfolding breaks
  breaks-past a c l m =
      ap₂ ◌&&◌ (ap₂ ◌&&◌ (counts a (omega arith)) (counts c m))
      (ap₂ ◌&&◌ (put.same_clash a c l m) (ap (λ (g : ℕ). ltb g (past p c)) (gap-past a c l m) ∙ past-ltb p (gap s (loaded s) a c) c))

  break-past : (a : ℕ) → a < s.cells → break_of t (loaded t) (past p a) ≡ past p (break_of s (loaded s) a)
  unfolding break_of breaks
  break-past a l =
      ap (first (breaks t (loaded t) (past p a)) (past p a + 1)) end
      ∙ first_past-law p (breaks t (loaded t) (past p a)) (breaks s (loaded s) a) (past p a + 1) (a + 1) s.cells (omega arith) (next a) (after a)
      (rw (spare-out, and-false (loaded t (past p a))))
      (λ c lo hi. breaks-past a c (omega arith) hi)

  -- the spare cell breaks with nobody
  spare-keeps : ltb (break_of t (loaded t) p) t.cells ≡ false
  unfolding break_of breaks
  spare-keeps =
      let none = first-none (breaks t (loaded t) p) (p + 1) t.cells (omega (arith, put.place, put.one_more)) (λ c _ _. rw spare-out) in
      le-ltb (break_of t (loaded t) p) t.cells (omega (arith, none))

  first-break-past : first_break t (loaded t) ≡ past p (first_break s (loaded s))
  unfolding first_break
  first-break-past =
      ap (first (λ a. ltb (break_of t (loaded t) a) t.cells) 0) end
      ∙ first_past-law p (λ a. ltb (break_of t (loaded t) a) t.cells) (λ a. ltb (break_of s (loaded s) a) s.cells) 0 0 s.cells
      zero-le zero-le (λ i _. zero-le)
      spare-keeps
      (λ a _ l. ap₂ ltb (break-past a l) end ∙ past-ltb p (break_of s (loaded s) a) s.cells)

  -- the chain: the same verdict, about the same cells
  pub chain-past : chain_verdict t (loaded t) ≡ chain_past p (chain_verdict s (loaded s))
  unfolding chain_verdict first_break break_of
  chain-past =
      let a = first_break s (loaded s) in
      let c = break_of s (loaded s) a in
      ap (broken_at t (loaded t)) first-break-past
      ∙ ⊎_elim
      (λ e.
      let l = ltb-true a s.cells e in
      let inside : ltb (past p a) t.cells ≡ true = ap (ltb (past p a)) end ∙ past-ltb p a s.cells ∙ e in
      let m : c < s.cells = ltb-true _ _ (first_passes (λ a. ltb (break_of s (loaded s) a) s.cells) 0 s.cells zero-le l) in
      let up : a + 1 ≤ c = first-least (breaks s (loaded s) a) (a + 1) s.cells in
      rw (e, inside, break-past a l, gap-past a c (omega arith) m))
      (λ e.
      let outside : ltb (past p a) t.cells ≡ false = ap (ltb (past p a)) end ∙ past-ltb p a s.cells ∙ e in
      rw (e, outside))
      (cases (ltb a s.cells))

  -- ---- the class

  near-past : (i a : ℕ) → a < i → i < s.cells → near_to t (loaded t) (past p i) (past p a) ≡ near_to s (loaded s) i a
  near-past i a l m = ap₂ ◌&&◌ (counts a (omega arith)) (put.same_clash a i l m)

  second_past : (i a : ℕ) → a < i → i < s.cells → second t (loaded t) (past p i) (past p a) ≡ past p (second s (loaded s) i a)
  unfolding second
  second_past i a l m =
      first_past-law p (λ b. near_to t (loaded t) (past p i) b && not (t.clash (past p a) b)) (λ b. near_to s (loaded s) i b && not (s.clash a b))
      (past p a + 1) (a + 1) i (omega arith) (next a) (after a)
      (rw spare-out)
      (λ b lo hi. ap₂ (λ (x y : Bool). x && not y) (near-past i b hi m) (put.same_clash a b (omega arith) (omega arith)))

  splits-past : (i a : ℕ) → a < i → i < s.cells → splits t (loaded t) (past p i) (past p a) ≡ splits s (loaded s) i a
  unfolding splits
  splits-past i a l m =
      ap₂ ◌&&◌ (near-past i a l m) (ap (λ (g : ℕ). ltb g (past p i)) (second_past i a l m) ∙ past-ltb p (second s (loaded s) i a) i)

  split-past : (i : ℕ) → i < s.cells → split_of t (loaded t) (past p i) ≡ past p (split_of s (loaded s) i)
  unfolding split_of splits
  split-past i m =
      ap₂ (λ (b : Bool) (n : ℕ). pick b n (past p i)) (counts i m)
      (first_past-law p (splits t (loaded t) (past p i)) (splits s (loaded s) i) 0 0 i zero-le zero-le (λ j _. zero-le) (rw spare-out)
      (λ a _ l. splits-past i a l m))
      ∙ either (loaded s i) (first (splits s (loaded s) i) 0 i)
    where
      either : (b : Bool) (n : ℕ) → pick b (past p n) (past p i) ≡ past p (pick b n i)
      either true n = refl
      either false n = refl

  -- the spare cell does not count
  spare-in : ltb (split_of t (loaded t) p) p ≡ false
  unfolding split_of
  spare-in = rw spare-out (le-ltb p p (omega arith))

  first-split-past : first_split t (loaded t) ≡ past p (first_split s (loaded s))
  unfolding first_split
  first-split-past =
      ap (first (λ i. ltb (split_of t (loaded t) i) i) 0) end
      ∙ first_past-law p (λ i. ltb (split_of t (loaded t) i) i) (λ i. ltb (split_of s (loaded s) i) i) 0 0 s.cells zero-le zero-le (λ i _. zero-le)
      spare-in
      (λ i _ l. ap (λ (n : ℕ). ltb n (past p i)) (split-past i l) ∙ past-ltb p (split_of s (loaded s) i) i)

  -- the class: the same verdict, about the same cells
  pub class-past : class_verdict t (loaded t) ≡ class_past p (class_verdict s (loaded s))
  unfolding class_verdict first_split
  class-past =
      let i = first_split s (loaded s) in
      let a = split_of s (loaded s) i in
      ap (outside_at t (loaded t)) first-split-past
      ∙ ⊎_elim
      (λ e.
      let l = ltb-true i s.cells e in
      let inside : ltb (past p i) t.cells ≡ true = ap (ltb (past p i)) end ∙ past-ltb p i s.cells ∙ e in
      let m : a < i = ltb-true _ _ (first_passes (λ i. ltb (split_of s (loaded s) i) i) 0 s.cells zero-le l) in
      rw (e, inside, split-past i l, second_past i a m l))
      (λ e.
      let none : ltb (past p i) t.cells ≡ false = ap (ltb (past p i)) end ∙ past-ltb p i s.cells ∙ e in
      rw (e, none))
      (cases (ltb i s.cells))
