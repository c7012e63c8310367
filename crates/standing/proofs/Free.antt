-- The free positions of a cell: a clashing cell's set more is taken away; and the open positions of a site. Assumes nothing.
use mathlib.Core.Path.{◌≡◌, refl, sym, ap, ap₂, ◌∙◌}
use mathlib.Core.Bool.{Bool, true, false, ◌&&◌, ◌||◌, not}
use mathlib.Core.List.{List}
use Prim.Native.Nat.{ℕ, ◌+◌, ◌*◌, ◌≤◌, ◌<◌}
use native.Mathlib.Omega.{arith}
use native.Mathlib.Numerals.{add-one}
use lib.Dec.{ltb}
use lib.ListN.{length}
use lib.Seq.{sets}
use Rattle.laws.specs.Sum.{any}
use Rattle.laws.proofs.Any.{any-skip}
use Rattle.laws.proofs.Stores.{sets-next}
use Rattle.laws.proofs.Words.{word-eq}
use Rattle.positions.specs.Blocked.{word_in}
use Rattle.sets.specs.Sets.{in_set, set_in}
use Rattle.sets.proofs.Sets.{in-set, set_same}
use Rattle.standing.specs.Sets.{vacant_at}

-- a pass over a pass: what is lent is l, what the first leaves x, and the second r; the second's test may be said by x
pub pass-next : (p q h : ℕ → Bool) (w : ℕ) (l x r : List ℕ) → w ≤ length l → x ≡ sets l 0 (set_in p w) → r ≡ sets x 0 (set_in q w)
    → ((k : ℕ) → k < 64 * w → in_set x k ≡ p k → q k ≡ h k) → r ≡ sets l 0 (set_in h w)
pass-next p q h w l x r long ex er same =
    sets-next (word_in p) (word_in q) (word_in h) w l x r long ex er (λ j m g.
    word-eq (λ b. q (64 * j + b)) (λ b. h (64 * j + b)) 64 (λ b n.
    let inside : 64 * j + b < 64 * w = omega arith in
    same (64 * j + b) inside (ap (λ (z : List ℕ). in_set z (64 * j + b)) ex ∙ in-set p w (64 * j + b) l long inside)))

-- a test that says the same
pub pass_same : (p q : ℕ → Bool) (w : ℕ) (l r : List ℕ) → r ≡ sets l 0 (set_in p w) → ((k : ℕ) → k < 64 * w → p k ≡ q k) → r ≡ sets l 0 (set_in q w)
pass_same p q w l r e same = e ∙ ap (sets l 0) (set_same p q w same)

-- ---- the open positions

pub open-left : (l x r blocked : List ℕ) (w n : ℕ) → w ≤ length l → x ≡ sets l 0 (set_in (λ k. ltb k n) w)
    → r ≡ sets x 0 (set_in (λ k. in_set x k && not (in_set blocked (64 * 0 + k))) w) → r ≡ sets l 0 (set_in (vacant_at n blocked) w)
open-left l x r blocked w n long ex er =
    pass-next (λ k. ltb k n) (λ k. in_set x k && not (in_set blocked (64 * 0 + k))) (vacant_at n blocked) w l x r long ex er (λ k h g.
    let e : 64 * 0 + k ≡ k = omega arith in
    ap₂ (λ t (q : ℕ). t && not (in_set blocked q)) g e)

-- ---- the clashing cells

turned : (s t u : Bool) → ((s && not t) && not u) ≡ (s && not (t || u))
turned true true u = refl
turned true false u = refl
turned false t u = refl

both-once : (t : Bool) → (t && t) ≡ (t && not false)
both-once true = refl
both-once false = refl

-- q are the cells that clash, s a k whether cell a stands at k
module _ (vacant q : ℕ → Bool) (s : ℕ → ℕ → Bool) (w : ℕ) where
  -- the open positions where none of the clashing cells below a stands
  abbrev free : ℕ → ℕ → Bool
  free a k = vacant k && not (any (λ c. q c && s c k) a)

  -- before the first cell; the loop goes by what the copy of the open positions left, l what was lent
  pub none-off : (l r : List ℕ) → w ≤ length l → r ≡ sets l 0 (set_in (λ k. vacant k && vacant k) w) → r ≡ sets r 0 (set_in (free 0) w)
  unfolding any
  none-off l r long e =
      let f : r ≡ sets l 0 (set_in (λ k. vacant k && not false) w) =
      pass_same (λ k. vacant k && vacant k) (λ k. vacant k && not false) w l r e (λ k h. both-once (vacant k)) in
      f
      ∙ sym (pass-next (λ k. vacant k && vacant k) (λ k. vacant k && not false) (λ k. vacant k && not false) w l r
      (sets r 0 (set_in (λ k. vacant k && not false) w)) long e refl (λ k h g. refl))

  -- a clashing cell more
  more-off : (l x r : List ℕ) (a : ℕ) → w ≤ length l → q a ≡ true → x ≡ sets l 0 (set_in (free a) w)
      → r ≡ sets x 0 (set_in (λ k. in_set x k && not (s a k)) w) → r ≡ sets l 0 (set_in (free (a + 1)) w)
  unfolding any
  more-off l x r a long clashes ex er =
      rw (add-one a)
      (pass-next (free a) (λ k. in_set x k && not (s a k)) (λ k. vacant k && not (any (λ c. q c && s c k) a || (q a && s a k))) w l x r long ex er
      (λ k h g. ap (λ t. t && not (s a k)) g ∙ rw clashes (turned (vacant k) (any (λ c. q c && s c k) a) (s a k))))

  -- cells that do not clash are left out
  pub none_between : (l r : List ℕ) (b a : ℕ) → b ≤ a → ((c : ℕ) → b ≤ c → c < a → q c ≡ false) → r ≡ sets l 0 (set_in (free b) w)
      → r ≡ sets l 0 (set_in (free a) w)
  none_between l r b a h none e =
      pass_same (free b) (free a) w l r e (λ k m.
      ap (λ t. vacant k && not t) (sym (any-skip (λ c. q c && s c k) b a h (λ c g n. ap (λ t. t && s c k) (none c g n)))))

  -- from one clashing cell to the next
  pub next-off : (l x r : List ℕ) (a b : ℕ) → w ≤ length l → q a ≡ true → a + 1 ≤ b → ((c : ℕ) → a + 1 ≤ c → c < b → q c ≡ false)
      → x ≡ sets l 0 (set_in (free a) w) → r ≡ sets x 0 (set_in (λ k. in_set x k && not (s a k)) w) → r ≡ sets l 0 (set_in (free b) w)
  next-off l x r a b long clashes h none ex er = none_between l r (a + 1) b h none (more-off l x r a long clashes ex er)

  -- the last one
  pub end-off : (l x r : List ℕ) (f : ℕ → Bool) → w ≤ length l → x ≡ sets l 0 (set_in (λ k. vacant k && vacant k) w)
      → r ≡ sets x 0 (set_in f w) → r ≡ sets l 0 (set_in f w)
  end-off l x r f long e d = pass-next (λ k. vacant k && vacant k) f f w l x r long e d (λ k h g. refl)
