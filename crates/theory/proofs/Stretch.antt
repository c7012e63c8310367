-- A row is filled a stretch at a time. What one part leaves of the load goes on into the next (`fill-append`, `unmet-append`),
-- and where there are fragments for every idle position of a part, all of them are reserved (`fill-sure`). For any usable positions u;
-- a part that begins at position k has them as v.
--     all-at                                  the bytes of a part with as many fragments as positions
--     front-none, after_none                  a row of which the first m positions are filled (`front`), and what is left of the load (`after`): none of them
--     stretch-filled, stretch-left            a stretch more
--     front_rest, after-rest                  the rest
-- Assumes nothing.
use mathlib.Core.Path.{◌≡◌, refl, sym, ap, ◌∙◌}
use mathlib.Core.Bool.{Bool, true, false, ◌&&◌}
use mathlib.Core.List.{List, [], ◌∷◌, ◌++◌, append_assoc}
use Prim.Native.Nat.{ℕ, zero, suc, ◌+◌, ◌-◌, ◌≤◌, ◌<◌}
use native.Mathlib.Omega.{arith}
use native.Mathlib.Nat.{add-zero, zero-add}
use lib.Dec.{eqb, ltb}
use lib.ListN.{length, get_or, take, drop, take-append-drop, length-append}
use lib.Seq.{ext_get_or, take-add, take_at, drop_at, length-take-le, drop-drop}
use borrow.Author.Tests.{lt-ltb, eqb-true}
use Rattle.laws.specs.Choice.{pick}
use Rattle.laws.specs.Sum.{bit, count}
use Rattle.laws.specs.Part.{part, put}
use Rattle.laws.proofs.Sums.{count_most, count-below}
use Rattle.theory.specs.Greedy.{fill, unmet}
use Rattle.theory.proofs.Row.{fill-length, fill-at, unmet-count}
use Rattle.theory.proofs.Loops.{filling, fill-zero, unmet-stop}

-- ---- one part after another

fill-pick : (t : Bool) (b : ℕ) (x y : List ℕ) (n m : ℕ) (f : ℕ → List ℕ) (v w : List ℕ) → v ≡ x ++ f n → w ≡ y ++ f m
    → pick t (1 ∷ v) (b ∷ w) ≡ pick t (1 ∷ x) (b ∷ y) ++ f (pick t n m)
fill-pick true b x y n m f v w e g = ap (λ (l : List ℕ). 1 ∷ l) e
fill-pick false b x y n m f v w e g = ap (λ (l : List ℕ). b ∷ l) g

unmet-pick : (t : Bool) (n m : ℕ) (f : ℕ → ℕ) (v w : ℕ) → v ≡ f n → w ≡ f m → pick t v w ≡ f (pick t n m)
unmet-pick true n m f v w e g = e
unmet-pick false n m f v w e g = g

pub fill-append : (u : ℕ → Bool) (k l : ℕ) (x y : List ℕ) → fill u k l (x ++ y) ≡ fill u k l x ++ fill u (k + length x) (unmet u k l x) y
unfolding fill unmet
fill-append u k l [] y = rw add-zero
fill-append u k zero (b ∷ x) y = rw (fill-zero u (k + suc (length x)) y)
fill-append u k (suc l) (b ∷ x) y =
    let e : k + suc (length x) ≡ suc k + length x = omega arith in
    rw e
    (fill-pick (u k && eqb b 0) b (fill u (suc k) l x) (fill u (suc k) (suc l) x) _ _ (λ n. fill u (suc k + length x) n y) _ _
    (fill-append u (suc k) l x y)
    (fill-append u (suc k) (suc l) x y))

pub unmet-append : (u : ℕ → Bool) (k l : ℕ) (x y : List ℕ) → unmet u k l (x ++ y) ≡ unmet u (k + length x) (unmet u k l x) y
unfolding unmet
unmet-append u k l [] y = rw add-zero
unmet-append u k zero (b ∷ x) y = sym (unmet-stop u (k + suc (length x)) y)
unmet-append u k (suc l) (b ∷ x) y =
    let e : k + suc (length x) ≡ suc k + length x = omega arith in
    rw e
    (unmet-pick (u k && eqb b 0) _ _ (λ n. unmet u (suc k + length x) n y) _ _
    (unmet-append u (suc k) l x y)
    (unmet-append u (suc k) (suc l) x y))

-- ---- fragments for every idle position

sure : (f t : Bool) (w : ℕ) → (f ≡ true → t ≡ true) → pick (f && t) 1 w ≡ pick f 1 w
sure true t w h = rw (h refl)
sure false t w h = refl

module _ (u : ℕ → Bool) (k l : ℕ) (x : List ℕ) (v : ℕ → Bool) (from : (p : ℕ) → v p ≡ u (k + p))
    (enough : count (λ q. v q && eqb (get_or x q 0) 0) (length x) ≤ l) where
  sure-at : (p : ℕ) → p < length x → get_or (fill u k l x) p 0 ≡ pick (v p && eqb (get_or x p 0) 0) 1 (get_or x p 0)
  sure-at p h =
      fill-at u k l x v from p h
      ∙ sure (v p && eqb (get_or x p 0) 0) (ltb (count (λ q. v q && eqb (get_or x q 0) 0) p) l) (get_or x p 0)
      (λ e. lt-ltb (count (λ q. v q && eqb (get_or x q 0) 0) p) l (omega (arith, count-below (λ q. v q && eqb (get_or x q 0) 0) p (length x) h e)))

-- as many fragments as positions are enough, and any other number that is enough does the same
pub fill-sure : (u : ℕ → Bool) (k l : ℕ) (x : List ℕ) (v : ℕ → Bool) → ((p : ℕ) → v p ≡ u (k + p))
    → count (λ q. v q && eqb (get_or x q 0) 0) (length x) ≤ l → fill v 0 (length x) x ≡ fill u k l x
fill-sure u k l x v from enough =
    ext_get_or 0 (fill v 0 (length x) x) (fill u k l x) (fill-length v 0 (length x) x ∙ sym (fill-length u k l x)) (λ p h.
    let b : p < length x = rw fill-length at h in
    sure-at v 0 (length x) x v (λ q. ap v (sym (zero-add q))) (count_most (λ q. v q && eqb (get_or x q 0) 0) (length x)) p b
    ∙ sym (sure-at u k l x v from enough p b))

raised : (t : Bool) (b : ℕ) → eqb b 0 ≡ t → (f : Bool) → pick (f && t) 1 b ≡ b + bit (f && t)
raised true b e true = omega (arith, eqb-true b 0 e)
raised true b e false = omega arith
raised false b e true = omega arith
raised false b e false = omega arith

-- its bytes then
pub all-at : (v : ℕ → Bool) (x : List ℕ) (p : ℕ) → p < length x
    → get_or (fill v 0 (length x) x) p 0 ≡ get_or x p 0 + bit (v p && eqb (get_or x p 0) 0)
all-at v x p h =
    sure-at v 0 (length x) x v (λ q. ap v (sym (zero-add q))) (count_most (λ q. v q && eqb (get_or x q 0) 0) (length x)) p h
    ∙ raised (eqb (get_or x p 0) 0) (get_or x p 0) refl (v p)

-- ---- a row, of which the first m positions are filled

-- the row then
abbrev pub front : (ℕ → Bool) → ℕ → ℕ → List ℕ → List ℕ
front u m l r = fill u 0 l (take m r) ++ drop m r

-- the fragments left
abbrev pub after : (ℕ → Bool) → ℕ → ℕ → List ℕ → ℕ
after u m l r = unmet u 0 l (take m r)

module _ (u : ℕ → Bool) (l : ℕ) (r : List ℕ) where
  pub front-none : r ≡ front u 0 l r
  unfolding fill
  front-none = refl

  pub after_none : l ≡ after u 0 l r
  unfolding unmet
  after_none = refl

  module _ (m : ℕ) (fits : m ≤ length r) where
    front_long : length (fill u 0 l (take m r)) ≡ m
    front_long = fill-length u 0 l (take m r) ∙ length-take-le m r fits

    pub length_front : length (front u m l r) ≡ length r
    length_front = rw (length-append, front_long) (omega (arith, simp length-append at (ap length (take-append-drop m r)), length-take-le m r fits))

    take-front : take m (front u m l r) ≡ fill u 0 l (take m r)
    take-front = take_at (fill u 0 l (take m r)) (drop m r) m front_long

    drop-front : drop m (front u m l r) ≡ drop m r
    drop-front = drop_at (fill u 0 l (take m r)) (drop m r) m front_long

    from-m : 0 + length (take m r) ≡ m
    from-m = zero-add (length (take m r)) ∙ length-take-le m r fits

    -- the rest is filled as if from the start
    pub front_rest : filling u m (after u m l r) (front u m l r) ≡ fill u 0 l r
    front_rest =
        rw (take-front, drop-front)
        (sym (rw (take-append-drop m r, from-m) at (fill-append u 0 l (take m r) (drop m r))))

    pub after-rest : unmet u m (after u m l r) (drop m (front u m l r)) ≡ unmet u 0 l r
    after-rest = rw drop-front (sym (rw (take-append-drop m r, from-m) at (unmet-append u 0 l (take m r) (drop m r))))

    -- a stretch of n positions more
    module _ (n : ℕ) (more : m + n ≤ length r) where
      pub front-part : part m n (front u m l r) ≡ part m n r
      unfolding part
      front-part = ap (take n) drop-front

      pub after_more : unmet u m (after u m l r) (part m n r) ≡ after u (m + n) l r
      unfolding part
      after_more = sym (rw (← take-add m n r, from-m) at (unmet-append u 0 l (take m r) (take n (drop m r))))

      pub front-more : put m n (fill u m (after u m l r) (part m n r)) (front u m l r) ≡ front u (m + n) l r
      unfolding part put
      front-more =
          let past : drop (m + n) (front u m l r) ≡ drop (m + n) r = sym (drop-drop n m (front u m l r)) ∙ ap (drop n) drop-front ∙ drop-drop n m r in
          let filled : fill u 0 l (take (m + n) r) ≡ fill u 0 l (take m r) ++ fill u m (after u m l r) (take n (drop m r))
          = rw (← take-add m n r, from-m) at (fill-append u 0 l (take m r) (take n (drop m r))) in
          rw (take-front, past, filled) (sym (append_assoc (fill u 0 l (take m r)) (fill u m (after u m l r) (take n (drop m r))) (drop (m + n) r)))

      -- s is the row so far, x the stretch, c how many of its positions are idle, and y the stretch with those reserved
      module _ {s x : List ℕ} {left c : ℕ} (v : ℕ → Bool) (from : (p : ℕ) → v p ≡ u (m + p)) (so_far : s ≡ front u m l r) (still : left ≡ after u m l r)
          (lent : x ≡ part m n s) (counted : c ≡ count (λ q. v q && eqb (get_or x q 0) 0) (length x)) where
        stretch : x ≡ part m n r
        stretch = lent ∙ ap (part m n) so_far ∙ front-part

        pub stretch-filled : {y : List ℕ} → c ≤ left → y ≡ fill v 0 (length x) x → put m n y s ≡ front u (m + n) l r
        stretch-filled {y} h e =
            let filled : y ≡ fill u m left x = e ∙ fill-sure u m left x v from (omega arith) in
            (λ i. put m n ((filled ∙ (λ j. fill u m (still j) (stretch j))) i) (so_far i)) ∙ front-more

        pub stretch-left : left - c ≡ after u (m + n) l r
        stretch-left = rw counted (sym (unmet-count u m left x v from) ∙ (λ i. unmet u m (still i) (stretch i)) ∙ after_more)
