-- A row with barred positions is marked and filled as if all of it were usable, and lifted: that is the row marked and filled by its usable positions.
--     forbid-bars                marking leaves the bars
--     fill-bars, unmet-bars      filling passes over them
--     bars-of                    the bars of an idle row, by a rule
-- Assumes nothing.
use mathlib.Core.Path.{◌≡◌, refl, sym, ap, ◌∙◌}
use mathlib.Core.Bool.{Bool, true, false, ◌&&◌}
use mathlib.Core.List.{List, [], ◌∷◌, ◌++◌, append-nil}
use Prim.Native.Nat.{ℕ, zero, suc, ◌+◌, ◌%◌, ◌<◌}
use native.Mathlib.Omega.{arith}
use native.Mathlib.Numerals.{add-one}
use native.Mathlib.Nat.{le_refl, not-suc-le-zero, le_of_suc-le-suc, add-zero, zero-add}
use lib.Dec.{eqb}
use lib.ListN.{length, get_or, set, take, drop, replicate, length-replicate, get_or-replicate}
use lib.Seq.{take_all, take-suc, take-suc-set, drop-set-lt, drop-cons, append_snoc, take-length, drop-length}
use borrow.Author.Tests.{eqb-true}
use Rattle.laws.specs.Choice.{pick}
use Rattle.laws.specs.Part.{list_of, Below}
use Rattle.laws.proofs.Stores.{list-take}
use Rattle.theory.specs.Net.{unblocked}
use Rattle.theory.specs.Greedy.{forbid, fill, unmet}
use Rattle.rows.specs.Bars.{bar_row, lifted}

pub bars-length : (u : ℕ → Bool) (k : ℕ) (r : List ℕ) → length (bar_row u k r) ≡ length r
unfolding bar_row
bars-length u k [] = refl
bars-length u k (b ∷ r) = ap suc (bars-length u (suc k) r)

pub lifted-length : (r : List ℕ) → length (lifted r) ≡ length r
unfolding lifted
lifted-length [] = refl
lifted-length (b ∷ r) = ap suc (lifted-length r)

pub lifted-at : (r : List ℕ) (p : ℕ) → get_or (lifted r) p 0 ≡ get_or r p 0 % 4
unfolding lifted
lifted-at [] p = refl
lifted-at (b ∷ r) zero = refl
lifted-at (b ∷ r) (suc p) = lifted-at r p

-- where every position is usable there is no bar
pub open-bars : (k : ℕ) (r : List ℕ) → bar_row unblocked k r ≡ r
unfolding bar_row
open-bars k [] = refl
open-bars k (b ∷ r) = ap (λ (l : List ℕ). b ∷ l) (open-bars (suc k) r)

-- ---- marking

forbid-byte : (s t : Bool) (b : ℕ) → pick s 2 (pick t b (pick (eqb b 0) 4 b)) ≡ pick t (pick s 2 b) (pick (eqb (pick s 2 b) 0) 4 (pick s 2 b))
forbid-byte true true b = refl
forbid-byte true false b = refl
forbid-byte false true b = refl
forbid-byte false false b = refl

pub forbid-bars : (u : ℕ → Bool) (k : ℕ) (e r : List ℕ) → forbid e (bar_row u k r) ≡ bar_row u k (forbid e r)
unfolding forbid bar_row
forbid-bars u k [] r = refl
forbid-bars u k (x ∷ e) [] = refl
forbid-bars u k (x ∷ e) (b ∷ r) = (λ z. forbid-byte (eqb x 1) (u k) b z ∷ forbid-bars u (suc k) e r z)

-- ---- filling

low : (b : ℕ) → b < 4 → b % 4 ≡ b
low b h = omega arith

lift-byte : (t z : Bool) (b : ℕ) → eqb b 0 ≡ z → b < 4 → pick t b (pick z 4 b) % 4 ≡ b
lift-byte true z b e h = low b h
lift-byte false true b e h = sym (eqb-true b 0 e)
lift-byte false false b e h = low b h

-- the rest of a row whose bytes are low
rest : (b : ℕ) (r : List ℕ) → Below 4 (length (b ∷ r)) (b ∷ r) → Below 4 (length r) r
rest b r small p h = small (suc p) (omega arith)

pub lift-bars : (u : ℕ → Bool) (k : ℕ) (r : List ℕ) → Below 4 (length r) r → lifted (bar_row u k r) ≡ r
unfolding bar_row lifted
lift-bars u k [] small = refl
lift-bars u k (b ∷ r) small = (λ x. lift-byte (u k) (eqb b 0) b refl (small 0 (omega arith)) x ∷ lift-bars u (suc k) r (rest b r small) x)

fill-byte : (t z : Bool) (b : ℕ) (p q v w : List ℕ) → eqb b 0 ≡ z → b < 4 → lifted p ≡ v → lifted q ≡ w
    → lifted (pick (eqb (pick t b (pick z 4 b)) 0) (1 ∷ p) (pick t b (pick z 4 b) ∷ q)) ≡ pick (t && z) (1 ∷ v) (b ∷ w)
unfolding lifted
fill-byte true true b p q v w e h f g = rw e (λ x. 1 ∷ f x)
fill-byte true false b p q v w e h f g = rw e (λ x. low b h x ∷ g x)
fill-byte false true b p q v w e h f g = (λ x. sym (eqb-true b 0 e) x ∷ g x)
fill-byte false false b p q v w e h f g = rw e (λ x. low b h x ∷ g x)

pub fill-bars : (u : ℕ → Bool) (j k l : ℕ) (r : List ℕ) → Below 4 (length r) r → lifted (fill unblocked j l (bar_row u k r)) ≡ fill u k l r
unfolding fill bar_row lifted
fill-bars u j k l [] small = refl
fill-bars u j k zero (b ∷ r) small = lift-bars u k (b ∷ r) small
fill-bars u j k (suc l) (b ∷ r) small =
    fill-byte (u k) (eqb b 0) b (fill unblocked (suc j) l (bar_row u (suc k) r)) (fill unblocked (suc j) (suc l) (bar_row u (suc k) r)) _ _ refl
    (small 0 (omega arith))
    (fill-bars u (suc j) (suc k) l r (rest b r small))
    (fill-bars u (suc j) (suc k) (suc l) r (rest b r small))

unmet-byte : (t z : Bool) (b p q v w : ℕ) → eqb b 0 ≡ z → p ≡ v → q ≡ w → pick (eqb (pick t b (pick z 4 b)) 0) p q ≡ pick (t && z) v w
unmet-byte true true b p q v w e f g = rw e f
unmet-byte true false b p q v w e f g = rw e g
unmet-byte false true b p q v w e f g = g
unmet-byte false false b p q v w e f g = rw e g

pub unmet-bars : (u : ℕ → Bool) (j k l : ℕ) (r : List ℕ) → unmet unblocked j l (bar_row u k r) ≡ unmet u k l r
unfolding unmet bar_row
unmet-bars u j k l [] = refl
unmet-bars u j k zero (b ∷ r) = refl
unmet-bars u j k (suc l) (b ∷ r) =
    unmet-byte (u k) (eqb b 0) b _ _ _ _ refl (unmet-bars u (suc j) (suc k) l r) (unmet-bars u (suc j) (suc k) (suc l) r)

-- ---- the bars of an idle row

bars-at : (u : ℕ → Bool) (k : ℕ) (r : List ℕ) (p : ℕ) → p < length r
    → get_or (bar_row u k r) p 0 ≡ pick (u (k + p)) (get_or r p 0) (pick (eqb (get_or r p 0) 0) 4 (get_or r p 0))
unfolding bar_row
bars-at u k [] p h = absurd (not-suc-le-zero h)
bars-at u k (b ∷ r) zero h = ap (λ (m : ℕ). pick (u m) b (pick (eqb b 0) 4 b)) (sym (add-zero k))
bars-at u k (b ∷ r) (suc p) h =
    let e : suc k + p ≡ k + suc p = omega arith in
    bars-at u (suc k) r p (le_of_suc-le-suc h) ∙ ap (λ (m : ℕ). pick (u m) (get_or r p 0) (pick (eqb (get_or r p 0) 0) 4 (get_or r p 0))) e

pub bars-of : (u : ℕ → Bool) (f : ℕ → ℕ) (n : ℕ) → ((k : ℕ) → k < n → f k ≡ pick (u k) 0 4) → list_of f n ≡ bar_row u 0 (replicate n 0)
bars-of u f n is =
    let idle : List ℕ = replicate n 0 in
    let long : length (bar_row u 0 idle) ≡ n = bars-length u 0 idle ∙ length-replicate {A = ℕ} n 0 in
    list-take f n (bar_row u 0 idle) (omega (arith, long))
    (λ k h.
    let in' : k < length idle = omega (arith, length-replicate {A = ℕ} n 0) in
    bars-at u 0 idle k in' ∙ ap (λ (b : ℕ). pick (u (0 + k)) b (pick (eqb b 0) 4 b)) (get_or-replicate n k 0 0 h)
    ∙ ap (λ (m : ℕ). pick (u m) 0 4) (zero-add k) ∙ sym (is k h))
    ∙ take_all n (bar_row u 0 idle) (omega (arith, long))

-- ---- the loops: a mask is laid, bars are lifted

pub lay-turn : (p v : ℕ) (r m : List ℕ) → p < length r → p < length m → take p r ≡ take p m → v ≡ get_or m p 0 → take (p + 1) (set r p v) ≡ take (p + 1) m
lay-turn p v r m h g e is = rw (add-one, take-suc-set r p v h, take-suc m p 0 g, e, is) refl

-- the row that is to come of r, of which the positions below p are done
abbrev pub lifting : ℕ → List ℕ → List ℕ
lifting p r = take p r ++ lifted (drop p r)

pub lift-turn : (p v : ℕ) (r : List ℕ) → p < length r → v ≡ get_or r p 0 % 4 → lifting (p + 1) (set r p v) ≡ lifting p r
unfolding lifted
lift-turn p v r h is =
    let past : drop (suc p) (set r p v) ≡ drop (suc p) r = drop-set-lt (suc p) r p v (le_refl (suc p)) in
    rw (add-one, take-suc-set r p v h, past, append_snoc, drop-cons r p 0 h, is) refl

pub lift-end : (r : List ℕ) → lifting (length r) r ≡ r
unfolding lifted
lift-end r = rw (drop-length, take-length, append-nil)
