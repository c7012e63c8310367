-- Laws of the lists that a search goes through, and of what is placed.
--     Sorted, fragments-sorted, fragments-times, fragments-length    the fragments: cells rising, each as often as its load
--     Upwards, opens-rising, opens-hits, open-length                 the positions: strictly rising, usable, below the width
--     spots-cases, spots-head, spots-tail, count-spots               the table of what is placed
--     taken-some, taken_none                                         whether a position is taken
-- Assumes nothing.
use mathlib.Core.Path.{◌≡◌, refl, sym, ap, ◌∙◌, subst}
use mathlib.Core.Bool.{Bool, true, false, ◌&&◌, ◌||◌, or-true, and-eq-true_iff, false≢true}
use Rattle.laws.specs.Choice.{pick}
use mathlib.Core.List.{List, [], ◌∷◌, ◌++◌}
use mathlib.Core.Logic.{◌⊎◌, inl, inr, ⊎_elim}
use Prim.Native.Nat.{ℕ, zero, suc, ◌+◌, ◌≤◌, ◌<◌}
use native.Mathlib.Omega.{arith}
use native.Mathlib.Nat.{le_refl, le_trans}
use lib.Dec.{ltb, eqb}
use lib.ListN.{length, replicate}
use borrow.Author.Tests.{ltb-true, ltb-false, lt-ltb, le-ltb, eq-eqb, ne_eqb, eqb-true, eqb-false}
use Rattle.laws.specs.Sum.{bit, sum, count}
use Rattle.theory.specs.Net.{Net, room}
use Rattle.laws.proofs.Choice.{cases, either}
use Rattle.laws.proofs.Sums.{sum-eq, sum-front}
use Rattle.laws.proofs.Choice.{order}
use Rattle.tries.specs.Search.{Spot, spot_at, reserved_by, taken_by, onward, opens_from, fragments_from, open_list, fragments}

-- how often i stands in a list
unfoldable pub times : ℕ → List ℕ → ℕ
times i [] = 0
times i (c ∷ cs) = bit (eqb i c) + times i cs

-- how many of a list's positions have r
unfoldable pub hits : (ℕ → Bool) → List ℕ → ℕ
hits r [] = 0
hits r (p ∷ ps) = bit (r p) + hits r ps

-- cells below n, not falling, from b on
pub data Sorted (n : ℕ) : ℕ → List ℕ → Type 0 where
  done : {b : ℕ} → Sorted n b []
  more : {b c : ℕ} {cs : List ℕ} → b ≤ c → c < n → Sorted n c cs → Sorted n b (c ∷ cs)

-- usable positions below the width, strictly rising, from b on
pub data Upwards (s : Net) : ℕ → List ℕ → Type 0 where
  end : {b : ℕ} → Upwards s b []
  step : {b p : ℕ} {ps : List ℕ} → b ≤ p → p < s.width → s.usable p ≡ true → Upwards s (suc p) ps → Upwards s b (p ∷ ps)

pub past_of : (c d : ℕ) → c ≤ d → (d ≡ c → ⊥) → c < d
past_of c d l w = ⊎_elim (λ o. o) (⊎_elim (λ o. absurd (w (sym o))) (λ o. absurd (omega arith))) (order c d)

-- ---- the fragments

sorted-less : {n b c : ℕ} {cs : List ℕ} → b ≤ c → Sorted n c cs → Sorted n b cs
sorted-less h done = done
sorted-less h (more l m r) = more (le_trans h l) m r

sorted-rep : {n a : ℕ} {cs : List ℕ} (m : ℕ) → a < n → Sorted n a cs → Sorted n a (replicate m a ++ cs)
sorted-rep zero l h = h
sorted-rep (suc m) l h = more (le_refl _) l (sorted-rep m l h)

pub fragments-sorted-from : (load : ℕ → ℕ) (n i m : ℕ) → i + m ≤ n → Sorted n i (fragments_from load i m)
unfolding fragments_from
fragments-sorted-from load n i zero h = done
fragments-sorted-from load n i (suc m) h =
    sorted-rep (load i) (omega arith) (sorted-less (omega arith) (fragments-sorted-from load n (suc i) m (omega arith)))

pub fragments-sorted : (s : Net) → Sorted s.cells 0 (fragments s)
fragments-sorted s = fragments-sorted-from s.load s.cells 0 s.cells (omega arith)

times-rep-same : (i m : ℕ) (cs : List ℕ) → times i (replicate m i ++ cs) ≡ m + times i cs
unfolding times
times-rep-same i zero cs = omega arith
times-rep-same i (suc m) cs = rw (eq-eqb i i refl) (omega (arith, times-rep-same i m cs))

times-rep-other : (i a m : ℕ) (cs : List ℕ) → (i ≡ a → ⊥) → times i (replicate m a ++ cs) ≡ times i cs
unfolding times
times-rep-other i a zero cs h = refl
times-rep-other i a (suc m) cs h = rw (ne_eqb i a h) (omega (arith, times-rep-other i a m cs h))

times_below : (load : ℕ → ℕ) (i a m : ℕ) → i < a → times i (fragments_from load a m) ≡ 0
unfolding fragments_from times
times_below load i a zero h = refl
times_below load i a (suc m) h =
    times-rep-other i a (load a) (fragments_from load (suc a) m) (λ e. omega arith) ∙ times_below load i (suc a) m (omega arith)

fragments-times-from : (load : ℕ → ℕ) (i a m : ℕ) → a ≤ i → i < a + m → times i (fragments_from load a m) ≡ load i
unfolding fragments_from
fragments-times-from load i a zero l h = absurd (omega arith)
fragments-times-from load i a (suc m) l h =
    ⊎_elim
    (λ e. let q : i ≡ a = eqb-true i a e in
    subst (λ x. times i (replicate (load x) x ++ fragments_from load (suc x) m) ≡ load i) q
    (omega (arith, times-rep-same i (load i) (fragments_from load (suc i) m), times_below load i (suc i) m (omega arith))))
    (λ e. let q : i ≡ a → ⊥ = eqb-false i a e in
    times-rep-other i a (load a) (fragments_from load (suc a) m) q
    ∙ fragments-times-from load i (suc a) m (omega (arith, lt_of q l)) (omega arith))
    (cases (eqb i a))
  where
    lt_of : (i ≡ a → ⊥) → a ≤ i → a < i
    lt_of q h = ⊎_elim (λ e. ltb-true a i e) (λ e. absurd (q (omega (arith, ltb-false a i e)))) (cases (ltb a i))

pub fragments-times : (s : Net) (i : ℕ) → i < s.cells → times i (fragments s) ≡ s.load i
fragments-times s i h = fragments-times-from s.load i 0 s.cells (omega arith) (omega arith)

-- ---- the positions

rising-less : {s : Net} {b c : ℕ} {ps : List ℕ} → b ≤ c → Upwards s c ps → Upwards s b ps
rising-less h end = end
rising-less h (step l m u r) = step (le_trans h l) m u r

rising-pick : (s : Net) (p : ℕ) (ps : List ℕ) (t : Bool) → s.usable p ≡ t → p < s.width → Upwards s (suc p) ps
    → Upwards s p (pick t (p ∷ []) [] ++ ps)
rising-pick s p ps true e l h = step (le_refl p) l e h
rising-pick s p ps false e l h = rising-less (omega arith) h

opens-rising-from : (s : Net) (p n : ℕ) → p + n ≤ s.width → Upwards s p (opens_from s.usable p n)
unfolding opens_from
opens-rising-from s p zero h = end
opens-rising-from s p (suc n) h =
    rising-pick s p (opens_from s.usable (suc p) n) (s.usable p) refl (omega arith) (opens-rising-from s (suc p) n (omega arith))

pub opens-rising : (s : Net) → Upwards s 0 (open_list s)
opens-rising s = opens-rising-from s 0 s.width (omega arith)

hits-pick : (r : ℕ → Bool) (p : ℕ) (ps : List ℕ) (t : Bool) → (r p ≡ true → t ≡ true) → hits r (pick t (p ∷ []) [] ++ ps) ≡ bit (r p) + hits r ps
unfolding hits
hits-pick r p ps true h = refl
hits-pick r p ps false h = ⊎_elim (λ e. absurd (false≢true (h e))) (λ e. rw e (omega arith)) (cases (r p))

opens-hits-from : (u r : ℕ → Bool) (p n : ℕ) → ((k : ℕ) → p ≤ k → k < p + n → r k ≡ true → u k ≡ true)
    → hits r (opens_from u p n) ≡ sum (λ k. bit (r (p + k))) n
unfolding opens_from hits sum
opens-hits-from u r p zero h = refl
opens-hits-from u r p (suc n) h =
    let here : p + 0 ≡ p = omega arith in
    let first : bit (r (p + 0)) ≡ bit (r p) = ap (λ x. bit (r x)) here in
    let rest : hits r (opens_from u (suc p) n) ≡ sum (λ k. bit (r (suc p + k))) n =
    opens-hits-from u r (suc p) n (λ k l m. h k (omega arith) (omega arith)) in
    let moved : sum (λ k. bit (r (suc p + k))) n ≡ sum (λ k. bit (r (p + suc k))) n =
    sum-eq (λ k. bit (r (suc p + k))) (λ k. bit (r (p + suc k))) n
    (λ k _. ap (λ x. bit (r x)) (let q : suc p + k ≡ p + suc k = omega arith in q)) in
    omega (
      arith,
      hits-pick r p (opens_from u (suc p) n) (u p) (h p (omega arith) (omega arith)),
      sum-front (λ k. bit (r (p + k))) n,
    )

pub opens-hits : (s : Net) (r : ℕ → Bool) → ((k : ℕ) → k < s.width → r k ≡ true → s.usable k ≡ true) → hits r (open_list s) ≡ count r s.width
opens-hits s r h =
    opens-hits-from s.usable r 0 s.width (λ k _ l. h k (omega arith))
    ∙ sum-eq (λ k. bit (r (0 + k))) (λ k. bit (r k)) s.width (λ k _. ap (λ x. bit (r x)) (let q : 0 + k ≡ k = omega arith in q))

-- ---- what is placed

pub spots-cases : (c p : ℕ) (qs : List Spot) (i k : ℕ) → reserved_by (spot_at c p ∷ qs) i k ≡ true → ((i ≡ c) × (k ≡ p)) ⊎ (reserved_by qs i k ≡ true)
unfolding reserved_by
spots-cases c p qs i k h =
    ⊎_elim
    (λ e. let x = (and-eq-true_iff (eqb i c) (eqb k p)).0 e in inl (eqb-true i c x.0, eqb-true k p x.1))
    inr
    (either (eqb i c && eqb k p) (reserved_by qs i k) h)

pub spots-head : (q : Spot) (qs : List Spot) → reserved_by (q ∷ qs) q.cell q.position ≡ true
unfolding reserved_by
spots-head q qs = rw (eq-eqb q.cell q.cell refl, eq-eqb q.position q.position refl)

pub spots-tail : (q : Spot) (qs : List Spot) (i k : ℕ) → reserved_by qs i k ≡ true → reserved_by (q ∷ qs) i k ≡ true
unfolding reserved_by
spots-tail q qs i k h = rw (h, or-true)

-- a position more, where r does not stand yet
count-one : (r : ℕ → Bool) (p n : ℕ) → r p ≡ false → count (λ k. eqb k p || r k) n ≡ count r n + bit (ltb p n)
unfolding sum
count-one r p zero h = rw (le-ltb p 0 (omega arith))
count-one r p (suc n) h =
    let ih = count-one r p n h in
    ⊎_elim
    (λ e. let q : n ≡ p = eqb-true n p e in
    let z : bit (r n) ≡ 0 = ap (λ x. bit (r x)) q ∙ ap bit h in
    let a : bit (ltb p n) ≡ 0 = ap bit (le-ltb p n (omega arith)) in
    let b : bit (ltb p (suc n)) ≡ 1 = ap bit (lt-ltb p (suc n) (omega arith)) in
    rw e (omega arith))
    (λ e. let q : n ≡ p → ⊥ = eqb-false n p e in
    let a : bit (ltb p n) ≡ bit (ltb p (suc n)) = ap bit (same p n q) in
    rw e (omega arith))
    (cases (eqb n p))
  where
    same : (p n : ℕ) → (n ≡ p → ⊥) → ltb p n ≡ ltb p (suc n)
    same p n q =
        ⊎_elim (λ e. e ∙ sym (lt-ltb p (suc n) (omega (arith, ltb-true p n e))))
        (λ e. e ∙ sym (le-ltb p (suc n) (above e))) (cases (ltb p n))
      where
        above : ltb p n ≡ false → suc n ≤ p
        above e =
            ⊎_elim (λ f. ltb-true n p f) (λ f. absurd (q (omega (arith, ltb-false p n e, ltb-false n p f)))) (cases (ltb n p))

pub count-spots : (c p : ℕ) (qs : List Spot) (i n : ℕ) → reserved_by qs c p ≡ false → p < n
    → count (reserved_by (spot_at c p ∷ qs) i) n ≡ count (reserved_by qs i) n + bit (eqb i c)
unfolding reserved_by
count-spots c p qs i n h l =
    ⊎_elim
    (λ e. let q : i ≡ c = eqb-true i c e in
    let one : bit (ltb p n) ≡ 1 = ap bit (lt-ltb p n l) in
    let b : bit (eqb i c) ≡ 1 = ap bit e in
    let s : count (λ k. (eqb i c && eqb k p) || reserved_by qs i k) n ≡ count (λ k. eqb k p || reserved_by qs i k) n =
    ap (λ t. count (λ k. (t && eqb k p) || reserved_by qs i k) n) e in
    omega (arith, count-one (reserved_by qs i) p n (subst (λ x. reserved_by qs x p ≡ false) (sym q) h)))
    (λ e. let b : bit (eqb i c) ≡ 0 = ap bit e in
    let s : count (λ k. (eqb i c && eqb k p) || reserved_by qs i k) n ≡ count (reserved_by qs i) n =
    ap (λ t. count (λ k. (t && eqb k p) || reserved_by qs i k) n) e in
    omega arith)
    (cases (eqb i c))

-- ---- taken_by

pub taken-some : (clash : ℕ → ℕ → Bool) (qs : List Spot) (c p : ℕ) → taken_by clash qs c p ≡ true
    → (j : ℕ) × (j < c) × (clash j c ≡ true) × (reserved_by qs j p ≡ true)
unfolding taken_by reserved_by
taken-some clash [] c p h = absurd (false≢true h)
taken-some clash (q ∷ qs) c p h =
    ⊎_elim
    (λ e.
    let x = (and-eq-true_iff (ltb q.cell c && clash q.cell c) (eqb q.position p)).0 e in
    let y = (and-eq-true_iff (ltb q.cell c) (clash q.cell c)).0 x.0 in (
      q.cell,
      ltb-true q.cell c y.0,
      y.1,
      rw (eq-eqb q.cell q.cell refl, eq-eqb p q.position (sym (eqb-true q.position p x.1))),
    ))
    (λ e.
    let r = taken-some clash qs c p e in (
      r.0,
      r.1,
      r.2,
      rw (r.3, or-true),
    ))
    (either (ltb q.cell c && clash q.cell c && eqb q.position p) (taken_by clash qs c p) h)

pub taken_none : (clash : ℕ → ℕ → Bool) (qs : List Spot) (c p j : ℕ) → j < c → clash j c ≡ true → reserved_by qs j p ≡ true → taken_by clash qs c p ≡ true
unfolding taken_by reserved_by
taken_none clash [] c p j l e h = absurd (false≢true h)
taken_none clash (q ∷ qs) c p j l e h =
    ⊎_elim
    (λ m.
    let x = (and-eq-true_iff (eqb j q.cell) (eqb p q.position)).0 m in
    let same : j ≡ q.cell = eqb-true j q.cell x.0 in
    let here : p ≡ q.position = eqb-true p q.position x.1 in
    rw (← same, lt-ltb j c l, e, eq-eqb q.position p (sym here)))
    (λ m. rw (taken_none clash qs c p j l e m, or-true))
    (either (eqb j q.cell && eqb p q.position) (reserved_by qs j p) h)

-- ---- where the next fragment starts

pub onward-cases : (P : List ℕ → Type 0) (all : List ℕ) (c d : ℕ) (ds ps : List ℕ) → (d ≡ c → P ps) → ((d ≡ c → ⊥) → P all)
    → P (onward all c (d ∷ ds) ps)
unfolding onward
onward-cases P all c d ds ps h g = ⊎_elim (λ e. rw e (h (eqb-true d c e))) (λ e. rw e (g (eqb-false d c e))) (cases (eqb d c))

-- ---- how many

rep-length : (m i : ℕ) (cs : List ℕ) → length (replicate m i ++ cs) ≡ m + length cs
rep-length zero i cs = omega arith
rep-length (suc m) i cs = omega (arith, rep-length m i cs)

fragments-length-from : (load : ℕ → ℕ) (i m : ℕ) → length (fragments_from load i m) ≡ sum (λ k. load (i + k)) m
unfolding fragments_from sum
fragments-length-from load i zero = refl
fragments-length-from load i (suc m) =
    let first : load (i + 0) ≡ load i = ap load (let e : i + 0 ≡ i = omega arith in e) in
    let moved : sum (λ k. load (suc i + k)) m ≡ sum (λ k. load (i + suc k)) m =
    sum-eq (λ k. load (suc i + k)) (λ k. load (i + suc k)) m (λ k _. ap load (let q : suc i + k ≡ i + suc k = omega arith in q)) in
    omega (arith, rep-length (load i) i (fragments_from load (suc i) m), fragments-length-from load (suc i) m, sum-front (λ k. load (i + k)) m)

-- the fragments are as many as the loads come to
pub fragments-length : (s : Net) → length (fragments s) ≡ sum s.load s.cells
fragments-length s =
    fragments-length-from s.load 0 s.cells
    ∙ sum-eq (λ k. s.load (0 + k)) s.load s.cells (λ k _. ap s.load (let q : 0 + k ≡ k = omega arith in q))

upwards-hits : {s : Net} {b : ℕ} {ps : List ℕ} → Upwards s b ps → hits s.usable ps ≡ length ps
unfolding hits
upwards-hits end = refl
upwards-hits (step l m u r) = omega (arith, ap bit u, upwards-hits r)

-- the open positions are as many as the room
pub open-length : (s : Net) → length (open_list s) ≡ room s
open-length s = sym (upwards-hits (opens-rising s)) ∙ opens-hits s s.usable (λ k _ h. h)
