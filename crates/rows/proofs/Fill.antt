-- A position of a row that is filled: its byte is raised by 1 where it is idle and by 0 where it is not, and so is what is taken from the load. What the row
-- will be, and what will be left over, does not change (`fill-turn`, `unmet-turn`): that is what a filler keeps (`Going`). A stretch in which every idle
-- position is reserved goes the same way, a byte at a time (`done_more`) or as a whole (`stretch-fills`, `stretch-leaves`). Where all of the load is left after
-- a part of the row, and where none is, the row stays as it was up to there (`still-front`) and from there on (`front-past`). Assumes nothing.
use mathlib.Core.Path.{◌≡◌, refl, sym, ap, ap₂, ◌∙◌}
use mathlib.Core.Bool.{Bool, true, false, ◌&&◌}
use mathlib.Core.List.{List, [], ◌∷◌, ◌++◌, append_assoc}
use Prim.Native.Nat.{ℕ, zero, suc, ◌+◌, ◌-◌, ◌≤◌, ◌<◌}
use native.Mathlib.Omega.{arith}
use native.Mathlib.Numerals.{add-one}
use native.Mathlib.Nat.{add-zero}
use lib.Dec.{eqb, ltb}
use lib.ListN.{length, get_or, set, take, drop, take-append-drop, length-append, get_or-append}
use lib.Seq.{set-get_or, set_at, get_or_at, take-suc, drop-cons, drop_at, take_at, drop-drop, append_snoc, length-take-le, get_or-take, get_or-drop}
use borrow.Author.Tests.{eqb-true, lt-ltb, le-ltb}
use Rattle.laws.specs.Choice.{pick}
use Rattle.laws.specs.Part.{part, put}
use Rattle.laws.specs.Sum.{bit, count}
use Rattle.laws.proofs.Part.{length_part}
use Rattle.theory.specs.Net.{unblocked}
use Rattle.theory.specs.Greedy.{fill, unmet}
use Rattle.theory.proofs.Row.{fill-length, unmet-count}
use Rattle.theory.proofs.Stretch.{front, after, front_rest, after-rest, all-at, fill-append, unmet-append, fill-sure}
use Rattle.theory.proofs.Loops.{filling, fill-zero, fill-take, fill-skip, fill_stop, fill_end-law, unmet-take, unmet-skip, unmet-stop, unmet-end}

-- position p of a row, and what it takes
module _ (p l : ℕ) (r : List ℕ) (h : p < length r) (g : 0 < l) where
  fill-case : (t : Bool) → eqb (get_or r p 0) 0 ≡ t → filling unblocked p l r ≡ filling unblocked (p + 1) (l - bit t) (set r p (get_or r p 0 + bit t))
  fill-case true e = let one : get_or r p 0 + 1 ≡ 1 = omega (arith, eqb-true (get_or r p 0) 0 e) in rw one (fill-take unblocked p l r h g e)
  fill-case false e =
      let all : l - 0 ≡ l = omega arith in
      rw (add-zero, set-get_or, all) (fill-skip unblocked p l r h e)

  unmet-case : (t : Bool) → eqb (get_or r p 0) 0 ≡ t
      → unmet unblocked p l (drop p r) ≡ unmet unblocked (p + 1) (l - bit t) (drop (p + 1) (set r p (get_or r p 0 + bit t)))
  unmet-case true e = let one : get_or r p 0 + 1 ≡ 1 = omega (arith, eqb-true (get_or r p 0) 0 e) in rw one (unmet-take unblocked p l r h g e)
  unmet-case false e =
      let all : l - 0 ≡ l = omega arith in
      rw (add-zero, set-get_or, all) (unmet-skip unblocked p l r h e)

  module _ {k : ℕ} (is : k ≡ bit (eqb (get_or r p 0) 0)) where
    pub fill-turn : filling unblocked p l r ≡ filling unblocked (p + 1) (l - k) (set r p (get_or r p 0 + k))
    fill-turn = rw is (fill-case (eqb (get_or r p 0) 0) refl)

    pub unmet-turn : unmet unblocked p l (drop p r) ≡ unmet unblocked (p + 1) (l - k) (drop (p + 1) (set r p (get_or r p 0 + k)))
    unmet-turn = rw is (unmet-case (eqb (get_or r p 0) 0) refl)

-- ---- the row that is filled

-- a row that was `was`, with a load to place: the positions below p are done, and l fragments are left
pub record Going (load : ℕ) (was : List ℕ) (p l : ℕ) (r : List ℕ) : Type 0 where
  pub filled : filling unblocked p l r ≡ fill unblocked 0 load was
  pub left : unmet unblocked p l (drop p r) ≡ unmet unblocked 0 load was

-- its first m positions are filled
pub going-front : (load m : ℕ) (was : List ℕ) {l : ℕ} {r : List ℕ} → m ≤ length was → r ≡ front unblocked m load was → l ≡ after unblocked m load was
    → Going load was m l r
going-front load m was h e f = record {
  filled = ap₂ (filling unblocked m) f e ∙ front_rest unblocked load was m h;
  left = ap₂ (λ (k : ℕ) (x : List ℕ). unmet unblocked m k (drop m x)) f e ∙ after-rest unblocked load was m h;
}

module _ {load p l : ℕ} {was r : List ℕ} (g : Going load was p l r) where
  pub going-on : {q k : ℕ} {s : List ℕ} → filling unblocked q k s ≡ filling unblocked p l r
      → unmet unblocked q k (drop q s) ≡ unmet unblocked p l (drop p r) → Going load was q k s
  going-on e f = record { filled = e ∙ g.filled; left = f ∙ g.left }

  pub going-turn : p < length r → 0 < l → {k : ℕ} → k ≡ bit (eqb (get_or r p 0) 0) → Going load was (p + 1) (l - k) (set r p (get_or r p 0 + k))
  going-turn h some is = record { filled = sym (fill-turn p l r h some is) ∙ g.filled; left = sym (unmet-turn p l r h some is) ∙ g.left }

  pub going-stop : l ≡ 0 → (r ≡ fill unblocked 0 load was) × (l ≡ unmet unblocked 0 load was)
  going-stop e =
      (sym (fill_stop unblocked p r) ∙ (rw e at g.filled), e ∙ sym (unmet-stop unblocked p (drop p r)) ∙ (rw e at g.left))

  pub going-end : p ≡ length r → (r ≡ fill unblocked 0 load was) × (l ≡ unmet unblocked 0 load was)
  going-end e = (sym (fill_end-law unblocked l r) ∙ (rw e at g.filled), sym (unmet-end unblocked l r) ∙ (rw e at g.left))

-- ---- a stretch in which every idle position is reserved

-- its first p positions are done
abbrev pub done : ℕ → List ℕ → List ℕ
done p x = take p (fill unblocked 0 (length x) x) ++ drop p x

module _ (x : List ℕ) (p : ℕ) (h : p < length x) where
  front_long : length (take p (fill unblocked 0 (length x) x)) ≡ p
  front_long = length-take-le p (fill unblocked 0 (length x) x) (rw fill-length (omega arith))

  done-byte : get_or (done p x) p 0 ≡ get_or x p 0
  done-byte = rw (drop-cons x p 0 h) (get_or_at (take p (fill unblocked 0 (length x) x)) (get_or x p 0) _ 0 p front_long)

  pub done_more : {s : List ℕ} {k : ℕ} → s ≡ done p x → k ≡ bit (eqb (get_or s p 0) 0) → set s p (get_or s p 0 + k) ≡ done (p + 1) x
  done_more {s} {k} is e =
      let g : List ℕ = fill unblocked 0 (length x) x in
      let same : get_or s p 0 ≡ get_or x p 0 = rw is done-byte in
      let byte : get_or s p 0 + k ≡ get_or g p 0 = rw (e, same) (sym (all-at unblocked x p h)) in
      let b : p < length g = rw fill-length h in
      rw (byte, is, drop-cons x p 0 h, set_at (take p g) (get_or x p 0) (drop (suc p) x) (get_or g p 0) p front_long, add-one, take-suc g p 0 b, append_snoc)

-- ---- the stretch outside which a row that is filled stays as it was

none-taken : (c : Bool) (b l v w : ℕ) (x y z : List ℕ) → v ≤ l → (w ≡ suc l → z ≡ x) → pick c v w ≡ suc l → pick c (1 ∷ y) (b ∷ z) ≡ b ∷ x
none-taken true b l v w x y z h f e = absurd (omega arith)
none-taken false b l v w x y z h f e = ap (λ (r : List ℕ). b ∷ r) (f e)

pub unmet-most : (u : ℕ → Bool) (k l : ℕ) (x : List ℕ) → unmet u k l x ≤ l
unmet-most u k l x = omega (arith, unmet-count u k l x (λ p. u (k + p)) (λ p. refl))

-- where all of the load is left nothing is reserved
fill_none : (u : ℕ → Bool) (k l : ℕ) (x : List ℕ) → unmet u k l x ≡ l → fill u k l x ≡ x
unfolding fill unmet
fill_none u k l [] e = refl
fill_none u k zero (b ∷ x) e = refl
fill_none u k (suc l) (b ∷ x) e =
    none-taken (u k && eqb b 0) b l (unmet u (suc k) l x) (unmet u (suc k) (suc l) x) x (fill u (suc k) l x) (fill u (suc k) (suc l) x)
    (unmet-most u (suc k) l x)
    (fill_none u (suc k) (suc l) x)
    e

module _ (u : ℕ → Bool) (l : ℕ) (r : List ℕ) (m : ℕ) (fits : m ≤ length r) where
  pub still-front : after u m l r ≡ l → (p : ℕ) → p < m → get_or (fill u 0 l r) p 0 ≡ get_or r p 0
  still-front none p h =
      let past : List ℕ = fill u (0 + length (take m r)) (unmet u 0 l (take m r)) (drop m r) in
      let e : fill u 0 l r ≡ take m r ++ past
      = ap (fill u 0 l) (sym (take-append-drop m r)) ∙ fill-append u 0 l (take m r) (drop m r)
      ∙ ap (λ (x : List ℕ). x ++ past) (fill_none u 0 l (take m r) none) in
      let in' : p < length (take m r) = omega (arith, length-take-le m r fits) in
      ap (λ (x : List ℕ). get_or x p 0) e ∙ get_or-append (take m r) past 0 p in' ∙ get_or-take m r p 0 h

  pub front-past : (p : ℕ) → m ≤ p → get_or (front u m l r) p 0 ≡ get_or r p 0
  front-past p h =
      let at : p ≡ m + (p - m) = omega arith in
      let e : drop m (front u m l r) ≡ drop m r
      = drop_at (fill u 0 l (take m r)) (drop m r) m (fill-length u 0 l (take m r) ∙ length-take-le m r fits) in
      rw at
      (sym (get_or-drop m (front u m l r) (p - m) 0) ∙ ap (λ (x : List ℕ). get_or x (p - m) 0) e ∙ get_or-drop m r (p - m) 0)

  -- where none of the load is left the rest is as it was
  pub met-past : after u m l r ≡ 0 → (p : ℕ) → m ≤ p → get_or (fill u 0 l r) p 0 ≡ get_or r p 0
  met-past none p h =
      let e : fill u 0 l r ≡ front u m l r
      = ap (fill u 0 l) (sym (take-append-drop m r)) ∙ fill-append u 0 l (take m r) (drop m r)
      ∙ ap (λ (x : List ℕ). fill u 0 l (take m r) ++ x)
      (ap (λ (k : ℕ). fill u (0 + length (take m r)) k (drop m r)) none ∙ fill-zero u (0 + length (take m r)) (drop m r)) in
      ap (λ (x : List ℕ). get_or x p 0) e ∙ front-past p h

-- where nothing is idle, reserving every idle position does nothing
pub none-idle : (x : List ℕ) → count (λ k. unblocked k && eqb (get_or x k 0) 0) (length x) ≡ 0 → x ≡ fill unblocked 0 (length x) x
none-idle x none =
    sym (fill_none unblocked 0 (length x) x (omega (arith, none, unmet-count unblocked 0 (length x) x unblocked (λ p. refl))))

pub same-either : (t : Bool) (x y : List ℕ) → x ≡ y → x ≡ pick t x y
same-either true x y e = refl
same-either false x y e = e

-- where the reserved positions begin, as `begins` has it
pub begins-at : (u : ℕ → Bool) (load : ℕ) (r : List ℕ) (left at from : ℕ) {b : ℕ} (t : Bool) → eqb left load ≡ t → b ≡ pick t at from
    → left ≡ after u at load r → from ≤ at → after u from load r ≡ load → (b ≤ at) × (after u b load r ≡ load)
begins-at u load r left at from true e is left_is h g = rw is (omega arith, sym left_is ∙ eqb-true left load e)
begins-at u load r left at from false e is left_is h g = rw is (h, g)

-- a stretch as `take_idle` leaves it: with its idle positions reserved, where there is a fragment for each, and else as it was
pub taken : (x : List ℕ) {y : List ℕ} (r left : ℕ) → r ≤ left → y ≡ pick (ltb left r) x (fill unblocked 0 (length x) x) → y ≡ fill unblocked 0 (length x) x
taken x r left h e = e ∙ ap (λ t. pick t x (fill unblocked 0 (length x) x)) (le-ltb left r h)

pub as_it_was : (x : List ℕ) {y : List ℕ} (r left : ℕ) → left < r → y ≡ pick (ltb left r) x (fill unblocked 0 (length x) x) → y ≡ x
as_it_was x r left h e = e ∙ ap (λ t. pick t x (fill unblocked 0 (length x) x)) (lt-ltb left r h)

-- a stretch of n positions from m on, with its c idle ones reserved: what the row will be, and what will be left over, does not change
module _ (m n left : ℕ) {c : ℕ} (s : List ℕ) (more : m + n ≤ length s)
    (counted : c ≡ count (λ q. unblocked q && eqb (get_or (part m n s) q 0) 0) (length (part m n s))) (enough : c ≤ left) where
  abbrev y : List ℕ
  y = fill unblocked m left (part m n s)

  abbrev z : List ℕ
  z = drop (m + n) s

  rest : drop m s ≡ part m n s ++ z
  unfolding part
  rest = sym (take-append-drop n (drop m s)) ∙ ap (λ (w : List ℕ). take n (drop m s) ++ w) (drop-drop n m s)

  over : unmet unblocked m left (part m n s) ≡ left - c
  over = unmet-count unblocked m left (part m n s) unblocked (λ p. refl) ∙ ap (λ (k : ℕ). left - k) (sym counted)

  long : length (take m s ++ y) ≡ m + n
  long = rw (length-append, fill-length, length_part m n s more, length-take-le m s (omega arith))

  stored : put m n (fill unblocked 0 (length (part m n s)) (part m n s)) s ≡ (take m s ++ y) ++ z
  unfolding put
  stored =
      ap (λ (w : List ℕ). take m s ++ (w ++ z)) (fill-sure unblocked m left (part m n s) unblocked (λ p. refl) (omega arith))
      ∙ sym (append_assoc (take m s) y z)

  to-come : fill unblocked m left (drop m s) ≡ y ++ fill unblocked (m + n) (left - c) z
  to-come =
      ap (fill unblocked m left) rest ∙ fill-append unblocked m left (part m n s) z
      ∙ ap₂ (λ (k l : ℕ). y ++ fill unblocked (m + k) l z) (length_part m n s more) over

  pub stretch-fills : filling unblocked (m + n) (left - c) (put m n (fill unblocked 0 (length (part m n s)) (part m n s)) s) ≡ filling unblocked m left s
  stretch-fills =
      rw (stored, take_at (take m s ++ y) z (m + n) long, drop_at (take m s ++ y) z (m + n) long)
      (append_assoc (take m s) y (fill unblocked (m + n) (left - c) z) ∙ ap (λ (w : List ℕ). take m s ++ w) (sym to-come))

  pub stretch-leaves : unmet unblocked (m + n) (left - c) (drop (m + n) (put m n (fill unblocked 0 (length (part m n s)) (part m n s)) s))
      ≡ unmet unblocked m left (drop m s)
  stretch-leaves =
      rw (stored, drop_at (take m s ++ y) z (m + n) long)
      (sym (ap (unmet unblocked m left) rest ∙ unmet-append unblocked m left (part m n s) z
      ∙ ap₂ (λ (k l : ℕ). unmet unblocked (m + k) l z) (length_part m n s more) over))
