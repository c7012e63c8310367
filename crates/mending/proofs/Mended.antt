-- What the mender gives. Its rule is fair, so a run's laws are cited; a valid table keeps all that it has; and a reservation goes only for one of two reasons.
--     mended-valid       a mended table is valid
--     test-mends         where the load test holds, every table mends
--     mends-test         in the class, a table mends only if the load test holds
--     valid-mends        a valid table yields no change and stays byte for byte
--     dropped-why        a reservation is dropped only where an earlier clashing cell stands, or the load is met before it
--     added-why          a position is added only where it is free, where the cell stands on all that is free below it and keeps all that it may
--     mended-follows     the changes, laid over the old table, give the mended one
-- Assumes nothing.
use mathlib.Core.Path.{◌≡◌, refl, sym, ap, ◌∙◌}
use mathlib.Core.Bool.{Bool, true, false, ◌&&◌, ◌||◌, not, and-eq-true_iff, and-false, false≢true, true≢false}
use mathlib.Core.List.{List, [], ◌++◌}
use mathlib.Core.Logic.{◌⊎◌, inl, inr, ⊎_elim}
use Prim.Native.Nat.{ℕ, zero, suc, ◌+◌, ◌-◌, ◌*◌, ◌≤◌, ◌<◌}
use native.Mathlib.Omega.{arith}
use native.Mathlib.Nat.{not-suc-le-zero, le_of_suc-le-suc, eq-or-lt_of_le, zero-mul, suc-mul, mul-le-mul_right}
use lib.Dec.{ltb, leb-suc-zero}
use lib.ListN.{length, get_or, take, length-append}
use lib.Seq.{take_all, get_or-take}
use borrow.Author.Tests.{lt-ltb, ltb-false}
use Rattle.laws.specs.Sum.{bit, count}
use Rattle.laws.proofs.Any.{none_any, any-eq}
use Rattle.laws.proofs.Choice.{refute}
use Rattle.laws.proofs.Few.{few-count}
use Rattle.laws.proofs.Sums.{sum-eq, sum-le, sum_below}
use Rattle.theory.specs.Net.{Net, Valid, Covers, LoadTest, Class, taken, free}
use Rattle.theory.specs.Greedy.{sends, reserved, held, planned, close, shortage, next, run}
use Rattle.theory.proofs.Row.{kept, added}
use Rattle.theory.proofs.Run.{run-size, run-valid, run_at, test-runs}
use Rattle.theory.proofs.Exact.{valid-agree, demand-three-test, eases-refl}
use Rattle.mending.specs.Mend.{stand, mend, overlay}
use Rattle.mending.specs.Changes.{changes, change_count, follow}
use Rattle.mending.proofs.Stand.{mine, keeps, adds, stand-one, stand-length, stand-fair, kept-all, add-lowest}
use Rattle.mending.proofs.Overlay.{overlay-reserved}
use Rattle.mending.proofs.Changes.{count_same, changes-none}
use Rattle.mending.proofs.Follow.{follow-changes}

module _ (s : Net) (u : List ℕ) where
  pub mend-size : (t : List ℕ) → mend s u ≡ planned t → length t ≡ s.cells * s.width
  mend-size = run-size s (stand s u) (stand-fair s u)

  pub stand-valid : (t : List ℕ) → mend s u ≡ planned t → Valid s (reserved s.width t)
  stand-valid = run-valid s (stand s u) (stand-fair s u)

  pub mended-valid : (t : List ℕ) → mend s u ≡ planned t → s.cells * s.width ≤ length u → Valid s (reserved s.width (overlay t u))
  mended-valid t e fits =
      valid-agree s (reserved s.width t) (reserved s.width (overlay t u)) (overlay-reserved s.cells s.width t u (mend-size t e) fits)
      (stand-valid t e)

  -- the changes listed, laid over the old table, give the new one
  pub mended-follows : (t : List ℕ) → mend s u ≡ planned t
      → follow s.width (changes (reserved s.width t) (reserved s.width u) s.width s.cells) u ≡ overlay t u
  mended-follows t e =
      let size = mend-size t e in
      follow-changes s.width t u s.cells (omega arith) ∙ ap (λ z. overlay z u) (take_all (s.cells * s.width) t (omega arith))

  -- ---- the load test

  pub test-mends : (who : ℕ → Bool) → Covers s who → LoadTest s who → (t : List ℕ) × (mend s u ≡ planned t)
  test-mends = test-runs s (stand s u) (stand-fair s u)

  pub mends-test : (who : ℕ → Bool) → Covers s who → Class s who → (t : List ℕ) → mend s u ≡ planned t → LoadTest s who
  mends-test who covers class t e = demand-three-test s (reserved s.width t) (stand-valid t e) s (eases-refl s) who covers class

-- ---- a valid table

-- what has p is among the first l with p
among : (x o : Bool) (c l : ℕ) → x ≡ o → (o ≡ true → c < l) → (x && ltb c l) ≡ o
among true o c l e h = rw (lt-ltb c l (h (sym e))) e
among false o c l e h = e

or-none : (x y o : Bool) → x ≡ o → y ≡ false → (x || y) ≡ o
or-none true y o e h = e
or-none false y o e h = h ∙ e

and-of : (x o : Bool) → (o ≡ true → x ≡ true) → (x && o) ≡ o
and-of true o h = refl
and-of false true h = h refl
and-of false false h = refl

open_free : (a b : Bool) → a ≡ true → b ≡ false → (a && not b) ≡ true
open_free a b e h = rw (e, h)

none_first : (b : Bool) (c l : ℕ) → l ≡ 0 → (b && ltb c l) ≡ false
none_first b c l e = rw (e, leb-suc-zero, and-false)

-- the table of the first n cells reserves what u does
record Same (s : Net) (u : List ℕ) (n : ℕ) : Type 0 where
  table : List ℕ
  runs : run s (stand s u) n ≡ planned table
  size : length table ≡ n * s.width
  same : (j k : ℕ) → j < n → k < s.width → reserved s.width table j k ≡ reserved s.width u j k

module _ (s : Net) (u : List ℕ) (v : Valid s (reserved s.width u)) where
  module _ (n : ℕ) (below : n < s.cells) (t : List ℕ) (same : (j k : ℕ) → j < n → k < s.width → reserved s.width t j k ≡ reserved s.width u j k) where
    abbrev was : ℕ → Bool
    was = reserved s.width u n

    still-free : (k : ℕ) → k < s.width → was k ≡ true → mine s u t n k ≡ true
    still-free k w h =
        open_free (s.usable k) (taken s (reserved s.width t) n k) (v.allowed n k below w h)
        (none_any (λ j. s.clash j n && reserved s.width t j k) n
        (λ j l. refute _ (λ e.
        let p = (and-eq-true_iff (s.clash j n) (reserved s.width t j k)).0 e in
        v.apart j n k l below w p.0 (sym (same j k l w) ∙ p.1) h)))

    wanted : (k : ℕ) → k < s.width → (mine s u t n k && was k) ≡ was k
    wanted k w = and-of (mine s u t n k) (was k) (still-free k w)

    keeps-all : (k : ℕ) → k < s.width → keeps s u t n k ≡ was k
    keeps-all k w =
        let c : count (λ q. mine s u t n q && was q) k ≡ count was k = sum-eq _ _ k (λ q l. ap bit (wanted q (omega arith))) in
        among (mine s u t n k && was k) (was k) (count (λ q. mine s u t n q && was q) k) (s.load n) (wanted k w)
        (λ e. let b : bit (was k) ≡ 1 = rw e in omega (arith, sum_below (λ q. bit (was q)) k s.width w, v.exact n below))

    adds_none : (k : ℕ) → adds s u t n k ≡ false
    adds_none k =
        let c : count (keeps s u t n) s.width ≡ s.load n = sum-eq _ _ s.width (λ q l. ap bit (keeps-all q l)) ∙ v.exact n below in
        none_first (mine s u t n k && not (keeps s u t n k)) _ (s.load n - count (keeps s u t n) s.width) (omega arith)

    stand-same : (k : ℕ) → k < s.width → sends (get_or (stand s u t n) k 0) ≡ was k
    stand-same k w = stand-one s u t n k w ∙ or-none (keeps s u t n k) (adds s u t n k) (was k) (keeps-all k w) (adds_none k)

    none-short : shortage s (stand s u) t n ≡ 0
    none-short =
        let h : held s.width (stand s u t n) ≡ s.load n = sum-eq _ _ s.width (λ k w. ap bit (stand-same k w)) ∙ v.exact n below in
        omega arith

    one_more : length t ≡ n * s.width → (j k : ℕ) → j < suc n → k < s.width → reserved s.width (t ++ stand s u t n) j k ≡ reserved s.width u j k
    one_more z j k l w =
        ⊎_elim
        (λ (e : j ≡ n). rw e (added s.width t (stand s u t n) n z k ∙ stand-same k w))
        (λ (m : j < n). kept s.width t (stand s u t n) n z j k m w ∙ same j k m w)
        (eq-or-lt_of_le (le_of_suc-le-suc l))

  same-run : (n : ℕ) → n ≤ s.cells → Same s u n
  unfolding run
  same-run zero l = record { table = []; runs = refl; size = sym (zero-mul s.width); same = λ j k m. absurd (not-suc-le-zero m) }
  same-run (suc n) l =
      let h = same-run n (omega arith) in
      record {
        table = h.table ++ stand s u h.table n;
        runs =
            ap (next s (stand s u) n) h.runs
            ∙ ap (λ m. close n m (h.table ++ stand s u h.table n)) (none-short n l h.table h.same);
        size = omega (arith, length-append h.table (stand s u h.table n), stand-length s u h.table n, h.size);
        same = one_more n l h.table h.same h.size;
      }

-- a valid table mends to itself, byte for byte, with no change
pub record Unchanged (s : Net) (u : List ℕ) : Type 0 where
  pub table : List ℕ
  pub mends : mend s u ≡ planned table
  pub bytes : overlay table u ≡ u
  pub number : change_count (reserved s.width table) (reserved s.width u) s.width s.cells ≡ 0
  pub none : changes (reserved s.width table) (reserved s.width u) s.width s.cells ≡ []

pub valid-mends : (s : Net) (u : List ℕ) → Valid s (reserved s.width u) → Unchanged s u
unfolding follow
valid-mends s u v =
    let r = same-run s u v s.cells (omega arith) in
    let zero' = count_same (reserved s.width r.table) (reserved s.width u) s.width s.cells r.same in
    let none' = changes-none (reserved s.width r.table) (reserved s.width u) s.width s.cells zero' in
    record {
      table = r.table;
      mends = r.runs;
      bytes = sym (mended-follows s u r.table r.runs) ∙ ap (λ l. follow s.width l u) none';
      number = zero';
      none = none';
    }

-- ---- least harm

-- A reservation of cell i that no longer stands, at a position that may be reserved:
-- an earlier clashing cell stands there, or cell i has kept as many as its load below it.
module _ (s : Net) (u t : List ℕ) (e : mend s u ≡ planned t) (i k : ℕ) (l : i < s.cells) (w : k < s.width) where
  abbrev n : ℕ
  n = s.width

  -- the rows below i
  abbrev rows : List ℕ
  rows = take (i * s.width) t

  stands : (q : ℕ) → q < n → reserved n t i q ≡ (keeps s u rows i q || adds s u rows i q)
  stands q h = ap sends (run_at s (stand s u) (stand-fair s u) s.cells t e i q l h) ∙ stand-one s u rows i q h

  below : (q : ℕ) → q < n → (j : ℕ) → j < i → reserved n rows j q ≡ reserved n t j q
  below q z j h = ap sends (get_or-take (i * n) t (j * n + q) 0 (omega (arith, mul-le-mul_right n h, suc-mul j n)))

  taken-same : (q : ℕ) → q < n → taken s (reserved n rows) i q ≡ taken s (reserved n t) i q
  taken-same q z =
      any-eq (λ j. s.clash j i && reserved n rows j q) (λ j. s.clash j i && reserved n t j q) i (λ j h. ap (λ b. s.clash j i && b) (below q z j h))

  abbrev wish : ℕ → Bool
  wish q = mine s u rows i q && reserved n u i q

  kept-both : (q : ℕ) → q < n → bit (keeps s u rows i q) ≤ bit (reserved n u i q && reserved n t i q)
  kept-both q h = least (mine s u rows i q) (reserved n u i q) (ltb (count wish q) (s.load i)) (adds s u rows i q) (reserved n t i q) (stands q h)
    where
      least : (f o a b r : Bool) → r ≡ ((f && o && a) || b) → bit (f && o && a) ≤ bit (o && r)
      least true true true b r h = rw h (omega arith)
      least true true false b r h = omega arith
      least true false a b r h = omega arith
      least false o a b r h = omega arith

  why : (may hit o few b r : Bool) → may ≡ true → o ≡ true → r ≡ ((may && not hit && o && few) || b) → r ≡ false → (hit ≡ true) ⊎ (few ≡ false)
  why may true o few b r y g h d = inl refl
  why may false o false b r y g h d = inr refl
  why may false o true b r y g h d = absurd (false≢true (sym d ∙ rw (y, g) at h))

  pub dropped-why : s.usable k ≡ true → reserved s.width u i k ≡ true → reserved s.width t i k ≡ false
      → (taken s (reserved s.width t) i k ≡ true) ⊎ (s.load i ≤ count (λ q. reserved s.width u i q && reserved s.width t i q) k)
  dropped-why y o d =
      ⊎_elim
      (λ (h : taken s (reserved n rows) i k ≡ true). inl (sym (taken-same k w) ∙ h))
      (λ (h : ltb (count wish k) (s.load i) ≡ false).
      inr (omega (
        arith,
        ltb-false (count wish k) (s.load i) h,
        few-count wish (s.load i) k,
        sum-le (λ q. bit (keeps s u rows i q)) (λ q. bit (reserved n u i q && reserved n t i q)) k (λ q m. kept-both q (omega arith)),
      )))
      (why (s.usable k) (taken s (reserved n rows) i k) (reserved n u i k) (ltb (count wish k) (s.load i)) (adds s u rows i k) (reserved n t i k) y o
      (stands k w) d)

  -- A position of cell i that stands and was not reserved: it is free; the cell stands on every lower position that is; it gives up nothing that it may keep.
  free-same : (q : ℕ) → q < n → free s (reserved n rows) i q ≡ free s (reserved n t) i q
  free-same q z = ap (λ b. s.usable q && not b) (taken-same q z)

  new : (f o a b r : Bool) → r ≡ ((f && o && a) || b) → o ≡ false → r ≡ true → b ≡ true
  new f true a b r h g d = absurd (true≢false g)
  new true false a b r h g d = sym h ∙ d
  new false false a b r h g d = sym h ∙ d

  pub added-why : reserved s.width u i k ≡ false → reserved s.width t i k ≡ true
      → (free s (reserved s.width t) i k ≡ true)
      × ((q : ℕ) → q < k → free s (reserved s.width t) i q ≡ true → reserved s.width t i q ≡ true)
      × ((q : ℕ) → q < s.width → free s (reserved s.width t) i q ≡ true → reserved s.width u i q ≡ true → reserved s.width t i q ≡ true)
  added-why o d =
      let f = mine s u rows i in
      let a = new (f k) (reserved n u i k) _ (adds s u rows i k) (reserved n t i k) (stands k w) o d in (
        sym (free-same k w) ∙ (stand-fair s u).only rows i k w (sym (ap sends (run_at s (stand s u) (stand-fair s u) s.cells t e i k l w)) ∙ d),
        λ q h y. stands q (omega arith) ∙ add-lowest f (reserved n u i) (s.load i) n k a q h (free-same q (omega arith) ∙ y),
        λ q h y z. stands q h ∙ ap (λ b. b || adds s u rows i q) (kept-all f (reserved n u i) (s.load i) n k a q h (free-same q h ∙ y) z),
      )
