-- One row is copied: what the code's lent parts come to; and one row more is carried. Assumes nothing.
use mathlib.Core.Path.{◌≡◌, sym, ap, ap₂, ◌∙◌}
use mathlib.Core.List.{List, ◌++◌, append-nil}
use Prim.Native.Nat.{ℕ, ◌+◌, ◌-◌, ◌*◌, ◌≤◌}
use native.Mathlib.Numerals.{add-one}
use borrow.Rule.Slice.PartMut.{mid_of, put_mid}
use lib.ListN.{length, take, drop}
use lib.Seq.{take-length, drop-length}
use Rattle.laws.specs.Part.{part, put}
use Rattle.laws.proofs.Part.{length_part, lent, back}
use Rattle.renumbering.specs.Carry.{carried}

-- the part of t that is lent from a on, w long
abbrev pub lent_row : ℕ → ℕ → List ℕ → List ℕ
lent_row a w t = mid_of a (a + w - a) t

pub lent-long : (a w : ℕ) (t : List ℕ) → a + w ≤ length t → length (lent_row a w t) ≡ w
lent-long a w t h = ap length (lent a w t) ∙ length_part a w t h

-- what a copy leaves, where both parts are equally long
copied : (x y : List ℕ) → length x ≡ length y → take (length x) x ++ drop (length x) y ≡ x
copied x y e = rw (take-length, e, drop-length, append-nil)

-- a row handed back is the other's
pub row-same : (a b w : ℕ) (from to r : List ℕ) → r ≡ lent_row a w from → put_mid b (b + w - b) to r ≡ put b w (part a w from) to
row-same a b w from to r e = back b w to r ∙ ap (λ x. put b w x to) (e ∙ lent a w from)

pub row_copied : (a b w : ℕ) (from to r : List ℕ) → a + w ≤ length from → b + w ≤ length to
    → r ≡ take (length (lent_row a w from)) (lent_row a w from) ++ drop (length (lent_row a w from)) (lent_row b w to)
    → put_mid b (b + w - b) to r ≡ put b w (part a w from) to
row_copied a b w from to r has fits e =
    let same : length (lent_row a w from) ≡ length (lent_row b w to) = lent-long a w from has ∙ sym (lent-long b w to fits) in
    row-same a b w from to r (e ∙ copied (lent_row a w from) (lent_row b w to) same)

-- one row more
pub carried-more : (new : ℕ → ℕ) (w : ℕ) (from to₀ : List ℕ) (i a : ℕ) (to r : List ℕ) → a ≡ new i → to ≡ carried new w from to₀ i
    → r ≡ put (i * w) w (part (a * w) w from) to → r ≡ carried new w from to₀ (i + 1)
unfolding carried
carried-more new w from to₀ i a to r e so_far is =
    rw add-one (is ∙ ap₂ (λ (k : ℕ) t. put (i * w) w (part (k * w) w from) t) e so_far)
