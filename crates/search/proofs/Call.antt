-- What each way through the search's call gives, over the problem that its numbers state: the lists are the problem's, a plan lies in the site's part of the
-- table, and too many positions or fragments are told from the lists. Assumes nothing.
use mathlib.Core.Path.{◌≡◌, refl, sym, ap, ◌∙◌, subst}
use mathlib.Core.Bool.{true, false, or-true}
use mathlib.Core.List.{List, [], ◌++◌}
use Rattle.std.specs.Prelude.{Result, Err}
use Prim.Native.Nat.{ℕ, zero, suc, ◌+◌, ◌*◌, ◌≤◌, ◌<◌}
use native.Mathlib.Omega.{arith}
use native.Mathlib.Nat.{not-suc-le-zero, le_of_suc-le-suc}
use lib.ListN.{length, get_or, drop, replicate, length-replicate, length-append, length-drop}
use borrow.Author.Tests.{lt-ltb, le-ltb}
use Rattle.laws.specs.Sum.{sum}
use Rattle.theory.specs.Net.{Net, room}
use Rattle.search.specs.Hunt.{Distinct}
use Rattle.laws.proofs.Grid.{inside}
use Rattle.tries.specs.Search.{plan_found, none_exists, seek, Limited, ended, limit_met, limited, open_list, fragments, searched}
use Rattle.tries.proofs.Lists.{Sorted, done, more, fragments-sorted, fragments-length, open-length, Upwards, end, step, opens-rising}
use Rattle.tries.proofs.Sound.{plan-inside}
use Rattle.tries.proofs.Limit.{ended_is}
use Rattle.search.specs.Search.{most_fragments, most_open, too_large, replied, reply_of, laid_on, leaves_of}
use Rattle.search.specs.declared.SearchError.{SearchError}
use Rattle.search.specs.declared.SearchError.TheVariants.{TooMany}
use Rattle.search.proofs.Table.{lay-append}

sorted-at : {n b : ℕ} {fs : List ℕ} → Sorted n b fs → (k : ℕ) → k < length fs → get_or fs k 0 < n
sorted-at done k l = absurd (not-suc-le-zero l)
sorted-at (more x y r) zero l = y
sorted-at (more x y r) (suc k) l = sorted-at r k (le_of_suc-le-suc l)

sorted-any : {n b : ℕ} {fs : List ℕ} → Sorted n b fs → (m : ℕ) → n ≤ m → 0 < m → (k : ℕ) → get_or fs k 0 < m
sorted-any done m l p k = p
sorted-any (more x y r) m l p zero = omega arith
sorted-any (more x y r) m l p (suc k) = sorted-any r m l p k

rising-at : {s : Net} {b : ℕ} {ps : List ℕ} → Upwards s b ps → (i : ℕ) → i < length ps → get_or ps i 0 < s.width
rising-at end i l = absurd (not-suc-le-zero l)
rising-at (step x y u r) zero l = y
rising-at (step x y u r) (suc i) l = rising-at r i (le_of_suc-le-suc l)

-- an element of a rising list is at least as large as the first may be, and no other is equal
rising-from : {s : Net} {b : ℕ} {ps : List ℕ} → Upwards s b ps → (i : ℕ) → i < length ps → b ≤ get_or ps i 0
rising-from end i l = absurd (not-suc-le-zero l)
rising-from (step x y u r) zero l = x
rising-from (step x y u r) (suc i) l = omega (arith, x, rising-from r i (le_of_suc-le-suc l))

rising-once : {s : Net} {b : ℕ} {ps : List ℕ} → Upwards s b ps → Distinct ps
rising-once end i j l m e = absurd (not-suc-le-zero l)
rising-once (step x y u r) zero zero l m e = refl
rising-once (step x y u r) zero (suc j) l m e = absurd (omega (arith, e, rising-from r j (le_of_suc-le-suc m)))
rising-once (step x y u r) (suc i) zero l m e = absurd (omega (arith, e, rising-from r i (le_of_suc-le-suc l)))
rising-once (step x y u r) (suc i) (suc j) l m e = ap suc (rising-once r i j (le_of_suc-le-suc l) (le_of_suc-le-suc m) e)

module _ (s : Net) where
  pub cell_below : s.cells ≤ 32 → (k : ℕ) → get_or (fragments s) k 0 < 32
  cell_below l k = sorted-any (fragments-sorted s) 32 l (omega arith) k

  pub spot-below : (k i : ℕ) → k < length (fragments s) → i < length (open_list s) → get_or (fragments s) k 0 * s.width + get_or (open_list s) i 0 <
      s.cells * s.width
  spot-below k i l m = inside s.cells s.width _ _ (sorted-at (fragments-sorted s) k l) (rising-at (opens-rising s) i m)

  -- the same of lists that are equal to these, for a table whose site part is idle
  module _ (fs ps z t : List ℕ) (is-fs : fs ≡ fragments s) (is-ps : ps ≡ open_list s) (idle : z ≡ replicate (s.cells * s.width) 0)
      (big : s.cells * s.width ≤ length t) where
    pub cells-ok : s.cells ≤ 32 → (k : ℕ) → get_or fs k 0 < 32
    cells-ok l k = rw is-fs (cell_below l k)

    pub once-ok : Distinct ps
    once-ok = subst Distinct (sym is-ps) (rising-once (opens-rising s))

    pub spots-ok : (k i : ℕ) → k < length fs → i < length ps → get_or fs k 0 * s.width + get_or ps i 0 < length (z ++ drop (s.cells * s.width) t)
    spots-ok k i l m =
        let whole : length (z ++ drop (s.cells * s.width) t) ≡ length t =
        rw (idle, length-append, length-drop, length-replicate {A = ℕ} (s.cells * s.width) 0) (omega arith) in
        let place : get_or fs k 0 * s.width + get_or ps i 0 < s.cells * s.width =
        rw (is-fs, is-ps) (spot-below k i (subst (λ x. k < length x) is-fs l) (subst (λ x. i < length x) is-ps m)) in
        omega arith

  pub over-fragments : 24 < length (fragments s) → too_large s ≡ true
  over-fragments h = rw (lt-ltb most_fragments (sum s.load s.cells) (omega (arith, fragments-length s)))

  pub over-opens : 64 < length (open_list s) → too_large s ≡ true
  over-opens h = rw (lt-ltb most_open (room s) (omega (arith, open-length s)), or-true)

  pub within : length (fragments s) ≤ 24 → length (open_list s) ≤ 64 → too_large s ≡ false
  within h g = rw (le-ltb most_fragments (sum s.load s.cells) (omega (arith, fragments-length s)), le-ltb most_open (room s) (omega (arith, open-length s)))

  module _ (limit : ℕ) (t : List ℕ) where
    pub many-reply : too_large s ≡ true → Err TooMany ≡ reply_of s limit
    many-reply h = rw h

    pub many-table : too_large s ≡ true → t ≡ leaves_of s limit t
    many-table h = rw h

    abbrev size : ℕ
    size = s.cells * s.width

    split : (x : Limited) → searched s limit ≡ x → (ys : List ℕ) → laid_on s.width x (replicate size 0 ++ ys) ≡ laid_on s.width x (replicate size 0) ++ ys
    split (ended (plan_found qs m)) e ys =
        let f = plan-inside s qs m (ended_is s limit (plan_found qs m) e).0 in
        lay-append s.width qs (replicate size 0) ys
        (λ i k h. omega (arith, inside s.cells s.width i k (f i k h).0 (f i k h).1, length-replicate {A = ℕ} size 0))
    split (ended (none_exists m)) e ys = refl
    split limit_met e ys = refl

    -- the lists that were gathered are those of the problem
    module _ (fs ps : List ℕ) (is-fs : fs ≡ fragments s) (is-ps : ps ≡ open_list s) (fits : too_large s ≡ false) where
      all : limited limit (seek s.clash ps fs [] ps) ≡ searched s limit
      all = ap (λ z. limited limit (seek s.clash ps z [] ps)) is-fs ∙ ap (λ z. limited limit (seek s.clash z (fragments s) [] z)) is-ps

      pub found-reply : (r : Result ℕ SearchError) → r ≡ replied limit (limited limit (seek s.clash ps fs [] ps)) → r ≡ reply_of s limit
      found-reply r e = rw fits (e ∙ ap (replied limit) all)

      pub found-table : (z u : List ℕ) → z ≡ replicate size 0 → u ≡ laid_on s.width (limited limit (seek s.clash ps fs [] ps)) (z ++ drop size t)
          → u ≡ leaves_of s limit t
      found-table z u e h =
          rw fits
          (h ∙ ap (λ x. laid_on s.width x (z ++ drop size t)) all ∙ ap (λ x. laid_on s.width (searched s limit) (x ++ drop size t)) e
          ∙ split (searched s limit) refl (drop size t))
