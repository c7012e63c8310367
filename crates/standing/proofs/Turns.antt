-- The sets, a row or a turn at a time, as the loops over the cells have them. Assumes nothing.
use mathlib.Core.Path.{◌≡◌, refl, sym, ap, ap₂, ◌∙◌}
use mathlib.Core.Bool.{Bool, true, false}
use mathlib.Core.List.{List, ◌++◌, append_assoc}
use mathlib.Core.Logic.{⊎_elim}
use mir.Val.{bool_byte}
use borrow.Rule.Slice.PartMut.{mid_of, put_mid}
use Prim.Native.Nat.{ℕ, zero, suc, ◌+◌, ◌-◌, ◌*◌, ◌/◌, ◌%◌, ◌≤◌, ◌<◌}
use native.Mathlib.Nat.{eq-or-lt_of_le}
use native.Mathlib.Numerals.{add-one}
use native.Mathlib.Omega.{arith}
use lib.ListN.{length, get_or, drop, take, length-replicate}
use lib.Seq.{sets, sets-eq, length-sets}
use Rattle.laws.specs.Bits.{bit_at}
use Rattle.laws.specs.Part.{part, put}
use Rattle.laws.specs.Sum.{bit}
use Rattle.laws.proofs.Grid.{row_before}
use Rattle.laws.proofs.Part.{lent, back, length_part, get_d_part}
use Rattle.laws.proofs.Stores.{length-list, sets-all}
use Rattle.theory.specs.Greedy.{reserved}
use Rattle.positions.specs.Blocked.{word_in}
use Rattle.mending.specs.Keep.{stand_at}
use Rattle.sets.specs.Sets.{in_set, set_in}
use Rattle.sets.specs.Pack.{in_cell}
use Rattle.sets.proofs.Sets.{in-set, set_before, set_there}
use Rattle.standing.specs.Sets.{free_in, stands_in, vacant_at, OpenIn, OldIn}
use Rattle.standing.specs.Turns.{packed_rows, turn_sets}

-- ---- a set among sets, lent

-- what it has
pub lent-set : (old : List ℕ) (w at k : ℕ) → k < 64 * w → in_set (mid_of at (at + w - at) old) k ≡ in_set old (64 * at + k)
lent-set old w at k h =
    let d : at + k / 64 ≡ (64 * at + k) / 64 = omega arith in
    let m : k % 64 ≡ (64 * at + k) % 64 = omega arith in
    ap (λ (l : List ℕ). in_set l k) (lent at w old)
    ∙ ap (λ (x : ℕ). bit_at x (k % 64)) (get_d_part at w old (k / 64) 0 (omega arith))
    ∙ ap₂ (λ (q r : ℕ). bit_at (get_or old q 0) r) d m

-- what is stored in it is stored there
pub back-set : (p : ℕ → Bool) (old : List ℕ) (w at : ℕ) (r : List ℕ) → at + w ≤ length old → r ≡ sets (mid_of at (at + w - at) old) 0 (set_in p w)
    → put_mid at (at + w - at) old r ≡ sets old at (set_in p w)
unfolding put
back-set p old w at r fits e =
    let long : length (set_in p w) ≡ w = length-list (word_in p) w in
    back at w old r
    ∙ ap (λ (z : List ℕ). put at w z old)
    (e ∙ ap (λ (z : List ℕ). sets z 0 (set_in p w)) (lent at w old) ∙ sets-all (set_in p w) (part at w old) (long ∙ sym (length_part at w old fits)))
    ∙ ap (λ (m : ℕ). take at old ++ (set_in p w ++ drop (at + m) old)) (sym long)
    ∙ sym (append_assoc (take at old) (set_in p w) (drop (at + length (set_in p w)) old))
    ∙ sym (sets-eq (set_in p w) old at (omega (arith, long)))

-- ---- the rows packed

module _ (w n : ℕ) (u old : List ℕ) where
  pub none-packed : old ≡ packed_rows w n u old 0
  unfolding packed_rows
  none-packed = refl

  pub more-packed : (i : ℕ) (x y : List ℕ) → x ≡ packed_rows w n u old i → y ≡ sets x (i * w) (set_in (in_cell n u i) w) → y ≡ packed_rows w n u old (i + 1)
  unfolding packed_rows
  more-packed i x y e d = d ∙ ap (λ (z : List ℕ). sets z (i * w) (set_in (in_cell n u i) w)) e ∙ ap (packed_rows w n u old) (sym (add-one i))

  packed-long : (i : ℕ) → length (packed_rows w n u old i) ≡ length old
  unfolding packed_rows
  packed-long zero = refl
  packed-long (suc i) = length-sets (packed_rows w n u old i) (i * w) (set_in (in_cell n u i) w) ∙ packed-long i

  -- the sets have them
  pub packed-in : (cells : ℕ) → cells * w ≤ length old → OldIn w cells n u (packed_rows w n u old cells)
  unfolding packed_rows
  packed-in zero fits i k l h = absurd (omega arith)
  packed-in (suc c) fits i k l h =
      ⊎_elim
      (λ (e : i ≡ c).
      rw e (set_there (in_cell n u c) w k (c * w) (packed_rows w n u old c) (omega (arith, packed-long c, row_before w {j = c} {i = suc c} (omega arith))) h))
      (λ (m : i < c).
      set_before (set_in (in_cell n u c) w) (packed_rows w n u old c) (c * w) (64 * (i * w) + k) (omega (arith, row_before w m))
      ∙ packed-in c (omega (arith, row_before w {j = c} {i = suc c} (omega arith))) i k m h)
      (eq-or-lt_of_le {n = i} {m = c} (omega arith))

-- ---- the cells' turns

module _ (w n : ℕ) (loads clash blocked u stands : List ℕ) where
  pub no-sets : stands ≡ turn_sets w n loads clash blocked u stands 0
  unfolding turn_sets
  no-sets = refl

  sets-more-of : (i : ℕ) → turn_sets w n loads clash blocked u stands (i + 1)
      ≡ sets (turn_sets w n loads clash blocked u stands i) (i * w)
      (set_in (stand_at (free_in w n blocked (get_or clash i 0) (turn_sets w n loads clash blocked u stands i) i) (reserved n u i) (get_or loads i 0) n) w)
  unfolding turn_sets
  sets-more-of i = rw add-one

  -- cell i's turn, over the sets x
  module _ (i : ℕ) (x : List ℕ) (before : x ≡ turn_sets w n loads clash blocked u stands i) {load : ℕ} (own : load ≡ get_or loads i 0) where
    pub turn-stored : (y : List ℕ) → y ≡ sets x (i * w) (set_in (stand_at (free_in w n blocked (get_or clash i 0) x i) (reserved n u i) load n) w)
        → y ≡ turn_sets w n loads clash blocked u stands (i + 1)
    turn-stored y e =
        e
        ∙ ap₂ (λ (v : List ℕ) (m : ℕ). sets v (i * w) (set_in (stand_at (free_in w n blocked (get_or clash i 0) v i) (reserved n u i) m n) w)) before own
        ∙ sym (sets-more-of i)

-- a test as the code has it
pub bool-bit : (b : Bool) → bool_byte b ≡ bit b
bool-bit true = refl
bool-bit false = refl

-- ---- what the turns are lent: the sets of the packed rows, and those of the open positions

pub all_packed : (w n cells : ℕ) (u old new : List ℕ) → new ≡ packed_rows w n u old cells → cells * w ≤ length old → OldIn w cells n u new
all_packed w n cells u old new e fits i k l h = ap (λ (z : List ℕ). stands_in w z i k) e ∙ packed-in w n u old cells fits i k l h

pub all_open : (w n : ℕ) (blocked old new : List ℕ) → new ≡ sets old 0 (set_in (vacant_at n blocked) w) → w ≤ length old → OpenIn w n blocked new
all_open w n blocked old new e fits k h = ap (λ (l : List ℕ). in_set l k) e ∙ in-set (vacant_at n blocked) w k old fits h

pub ruleset lent_sets = (all_packed, all_open, length-replicate)
