-- A position of a marked row that is filled by a word: its byte is raised by the word's bit, and so is what is taken from the load. What the row will be,
-- and what will be left over, does not change (`fill-turn`, `unmet-turn`); the free positions so far are reserved (`took_more`). `Going` is all that a
-- filler keeps: at first, after a turn, where nothing is left of the load, and at the row's end. Assumes nothing.
use mathlib.Core.Path.{◌≡◌, refl, sym, ap, ◌∙◌}
use mathlib.Core.Bool.{Bool, true, false, ◌&&◌}
use mathlib.Core.List.{List}
use Prim.Native.Nat.{ℕ, ◌+◌, ◌-◌, ◌<◌}
use native.Mathlib.Omega.{arith}
use native.Mathlib.Nat.{add-zero, le_refl}
use lib.Dec.{eqb}
use lib.ListN.{length, get_or, set, drop, length-set}
use lib.Seq.{set-get_or, sets, get_or-set_other}
use Rattle.laws.specs.Bits.{bit_at}
use Rattle.laws.specs.Choice.{pick}
use Rattle.laws.specs.Part.{list_of}
use Rattle.laws.specs.Sum.{bit}
use Rattle.laws.proofs.Stores.{sets-none, sets_more, sets-beyond}
use Rattle.theory.specs.Greedy.{fill, unmet}
use Rattle.theory.proofs.Loops.{filling, fill-take, fill-skip, fill_stop, fill_end-law, unmet-take, unmet-skip, unmet-stop, unmet-end}
use Rattle.shortrows.specs.Short.{took_at, Vacant}

raised_is : (t : Bool) (b : ℕ) → (t ≡ true → b ≡ 0) → b + bit t ≡ pick t 1 b
raised_is true b e = omega (arith, e refl)
raised_is false b e = add-zero b

idle-true : (t : Bool) (b : ℕ) → t ≡ true → b ≡ 0 → (t && eqb b 0) ≡ true
idle-true t b e z = rw (e, z)

idle-false : (t : Bool) (b : ℕ) → t ≡ false → (t && eqb b 0) ≡ false
idle-false t b e = rw e

-- position p of a row r, and what it takes
module _ (free p : ℕ) (r : List ℕ) (h : p < length r) (vacant : Vacant free p r) {k : ℕ} (is : k ≡ bit (bit_at free p)) where
  idle-here : bit_at free p ≡ true → get_or r p 0 ≡ 0
  idle-here e = vacant p (le_refl p) h e

  pub vacant-more : Vacant free (p + 1) (set r p (get_or r p 0 + k))
  vacant-more q l m e =
      get_or-set_other r p q (get_or r p 0 + k) 0 (λ o. omega arith)
      ∙ vacant q (omega arith) (omega (arith, m, length-set r p (get_or r p 0 + k))) e

  pub took_more : (l : List ℕ) → r ≡ sets l 0 (list_of (took_at free l) p) → set r p (get_or r p 0 + k) ≡ sets l 0 (list_of (took_at free l) (p + 1))
  took_more l e =
      let same : get_or r p 0 ≡ get_or l p 0 = ap (λ (x : List ℕ). get_or x p 0) e ∙ sets-beyond (took_at free l) p l p (le_refl p) in
      sets_more (took_at free l) p (get_or r p 0 + k) r l
      (ap (λ (x : ℕ). get_or r p 0 + x) is
      ∙ raised_is (bit_at free p) (get_or r p 0) idle-here
      ∙ ap (λ (x : ℕ). pick (bit_at free p) 1 x) same)
      e

  module _ (l : ℕ) (g : 0 < l) where
    fill-case : (t : Bool) → bit_at free p ≡ t
        → filling (bit_at free) p l r ≡ filling (bit_at free) (p + 1) (l - bit t) (set r p (get_or r p 0 + bit t))
    fill-case true e =
        let one : get_or r p 0 + 1 ≡ 1 = omega (arith, idle-here e) in
        rw one (fill-take (bit_at free) p l r h g (idle-true (bit_at free p) (get_or r p 0) e (idle-here e)))
    fill-case false e =
        let all : l - 0 ≡ l = omega arith in
        rw (add-zero, set-get_or, all) (fill-skip (bit_at free) p l r h (idle-false (bit_at free p) (get_or r p 0) e))

    unmet-case : (t : Bool) → bit_at free p ≡ t
        → unmet (bit_at free) p l (drop p r) ≡ unmet (bit_at free) (p + 1) (l - bit t) (drop (p + 1) (set r p (get_or r p 0 + bit t)))
    unmet-case true e =
        let one : get_or r p 0 + 1 ≡ 1 = omega (arith, idle-here e) in
        rw one (unmet-take (bit_at free) p l r h g (idle-true (bit_at free p) (get_or r p 0) e (idle-here e)))
    unmet-case false e =
        let all : l - 0 ≡ l = omega arith in
        rw (add-zero, set-get_or, all) (unmet-skip (bit_at free) p l r h (idle-false (bit_at free p) (get_or r p 0) e))

    pub fill-turn : filling (bit_at free) p l r ≡ filling (bit_at free) (p + 1) (l - k) (set r p (get_or r p 0 + k))
    fill-turn = rw is (fill-case (bit_at free p) refl)

    pub unmet-turn : unmet (bit_at free) p l (drop p r) ≡ unmet (bit_at free) (p + 1) (l - k) (drop (p + 1) (set r p (get_or r p 0 + k)))
    unmet-turn = rw is (unmet-case (bit_at free p) refl)

-- ---- the row that is filled

-- a row that was `was`, with a load to place: the positions below p are done, and l fragments are left
pub record Going (free load : ℕ) (was : List ℕ) (p l : ℕ) (r : List ℕ) : Type 0 where
  pub filled : filling (bit_at free) p l r ≡ fill (bit_at free) 0 load was
  pub left : unmet (bit_at free) p l (drop p r) ≡ unmet (bit_at free) 0 load was
  pub vacant : Vacant free p r
  pub took : r ≡ sets was 0 (list_of (took_at free was) p)

pub going-first : (free load : ℕ) (was : List ℕ) → Vacant free 0 was → Going free load was 0 load was
going-first free load was h = record { filled = refl; left = refl; vacant = h; took = sets-none (took_at free was) was }

module _ {free load p l : ℕ} {was r : List ℕ} (g : Going free load was p l r) where
  pub going-turn : p < length r → 0 < l → {k : ℕ} → k ≡ bit (bit_at free p) → Going free load was (p + 1) (l - k) (set r p (get_or r p 0 + k))
  going-turn h some is = record {
    filled = sym (fill-turn free p r h g.vacant is l some) ∙ g.filled;
    left = sym (unmet-turn free p r h g.vacant is l some) ∙ g.left;
    vacant = vacant-more free p r h g.vacant is;
    took = took_more free p r h g.vacant is was g.took;
  }

  pub going-stop : l ≡ 0 → (r ≡ fill (bit_at free) 0 load was) × (l ≡ unmet (bit_at free) 0 load was)
  going-stop e =
      (sym (fill_stop (bit_at free) p r) ∙ (rw e at g.filled), e ∙ sym (unmet-stop (bit_at free) p (drop p r)) ∙ (rw e at g.left))

  pub going-end : p ≡ length r → (r ≡ fill (bit_at free) 0 load was) × (l ≡ unmet (bit_at free) 0 load was)
  going-end e = (sym (fill_end-law (bit_at free) l r) ∙ (rw e at g.filled), sym (unmet-end (bit_at free) l r) ∙ (rw e at g.left))
