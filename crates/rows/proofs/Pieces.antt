-- A row that is filled by pieces: what the filler keeps (`Pieces`), where the reserved positions begin (`start-more`), at which piece it ends (`stop-zero`,
-- `stop-short`, `go_on`), and that none of the load is left after a piece that has more idle positions than fragments are left (`met-after`). Assumes nothing.
use mathlib.Core.Path.{◌≡◌, refl, sym, ap, ap₂, ◌∙◌}
use mathlib.Core.Bool.{Bool, true, false, ◌&&◌, ◌||◌, not, or-true, true≢false}
use mathlib.Core.List.{List}
use mathlib.Core.Logic.{⊎_elim}
use Prim.Native.Nat.{ℕ, suc, ◌+◌, ◌-◌, ◌*◌, ◌/◌, ◌≤◌, ◌<◌, zero-le, min}
use native.Mathlib.Nat.{eq-or-lt_of_le, suc-mul, zero-mul, mul_assoc, mul_comm, mul-le-mul_right}
use native.Mathlib.Numerals.{add-one}
use native.Mathlib.Omega.{arith}
use lib.Dec.{eqb, ltb}
use lib.ListN.{length, get_or, take}
use borrow.Author.Tests.{eq-eqb, ne_eqb, eqb-true, eqb-false, lt-ltb, le-ltb, ltb-true, ltb-false}
use Rattle.laws.specs.Choice.{pick}
use Rattle.laws.specs.Part.{part, put}
use Rattle.laws.specs.Search.{first}
use Rattle.laws.specs.Sum.{count}
use Rattle.laws.proofs.Search.{first-miss, first-end, first-most, first_passes, first-before, first-none, first-is}
use Rattle.theory.specs.Net.{unblocked}
use Rattle.theory.proofs.Row.{unmet-count}
use Rattle.theory.proofs.Stretch.{front, after, front-none, after_none, front-part, after_more, stretch-filled, stretch-left}
use Rattle.theory.specs.Greedy.{fill}
use Rattle.rows.specs.Stretch.{left_after, idle_at, stops_at, whole_pieces, fill_start, fill_end}
use Rattle.rows.proofs.Fill.{begins-at, unmet-most, met-past}

-- eight slots are a piece
pub piece-at : (k c : ℕ) → 8 * k * c ≡ k * (8 * c)
piece-at k c = ap (λ (x : ℕ). x * c) (mul_comm 8 k) ∙ mul_assoc k 8 c

module _ (size load : ℕ) (r : List ℕ) where
  -- not all of the load is left after piece j
  abbrev pub begun : ℕ → Bool
  begun j = not (eqb (left_after size load r (suc j)) load)

  pub none-begun : first begun 0 0 ≡ 0
  none-begun = first-end begun 0 0 zero-le

  pub start_none : 0 ≡ fill_start size load r 0
  start_none = sym (ap (λ (m : ℕ). m * size) none-begun ∙ zero-mul size)

  pub start-more : (k left less from : ℕ) {b : ℕ} → less ≡ left_after size load r (suc k) → less ≤ left → left ≤ load → from ≡ fill_start size load r k
      → (left ≡ load → first begun 0 k ≡ k) → (t : Bool) → eqb less load ≡ t → b ≡ pick t (suc k * size) from
      → (b ≡ fill_start size load r (suc k)) × (less ≡ load → first begun 0 (suc k) ≡ suc k)
  start-more k left less from is low most so_far none true e f =
      let all : less ≡ load = eqb-true less load e in
      let full : first begun 0 k ≡ k = none (omega arith) in
      let here : begun k ≡ false = ap not (eq-eqb (left_after size load r (suc k)) load (sym is ∙ all)) in
      let quiet : (j : ℕ) → 0 ≤ j → j < suc k → begun j ≡ false
      = λ j _ l.
      ⊎_elim (λ (q : j ≡ k). ap begun q ∙ here) (λ (m : j < k). first-before begun 0 k j zero-le (omega arith))
      (eq-or-lt_of_le {n = j} {m = k} (omega arith)) in
      let next : first begun 0 (suc k) ≡ suc k = first-none begun 0 (suc k) zero-le quiet in
      (f ∙ ap (λ (m : ℕ). m * size) (sym next), λ _. next)
  start-more k left less from is low most so_far none false e f =
      let here : begun k ≡ true = ap not (ap (λ (x : ℕ). eqb x load) (sym is) ∙ e) in
      let within : first begun 0 k ≤ k = first-most begun 0 k zero-le in
      let passes : begun (first begun 0 k) ≡ true
      = ⊎_elim (λ (q : first begun 0 k ≡ k). ap begun q ∙ here) (λ (m : first begun 0 k < k). first_passes begun 0 k zero-le m) (eq-or-lt_of_le within) in
      let next : first begun 0 (suc k) ≡ first begun 0 k = first-is begun 0 (first begun 0 k) (suc k) zero-le (omega arith) passes (first-before begun 0 k) in
      (f ∙ so_far ∙ ap (λ (m : ℕ). m * size) (sym next), λ q. absurd (eqb-false less load e q))

  module _ (k : ℕ) {left : ℕ} (is : left ≡ left_after size load r k) where
    pub stop-zero : left ≡ 0 → stops_at size load r k ≡ true
    stop-zero z = ap (λ b. b || ltb (left_after size load r k) (idle_at size r k)) (eq-eqb (left_after size load r k) 0 (sym is ∙ z))

    module _ {c : ℕ} (counted : c ≡ idle_at size r k) where
      compared : ltb left c ≡ ltb (left_after size load r k) (idle_at size r k)
      compared = ap₂ ltb is counted

      pub stop-short : left < c → stops_at size load r k ≡ true
      stop-short h =
          ap (λ b. eqb (left_after size load r k) 0 || b) (sym compared ∙ lt-ltb left c h) ∙ or-true (eqb (left_after size load r k) 0)

      pub go_on : (left ≡ 0 → ⊥) → c ≤ left → stops_at size load r k ≡ false
      go_on some h = ap₂ ◌||◌ (ne_eqb (left_after size load r k) 0 (λ z. some (is ∙ z))) (sym compared ∙ le-ltb left c h)

  -- the piece has more idle positions than fragments are left
  short-of : (a b : Bool) → (a || b) ≡ true → a ≡ false → b ≡ true
  short-of true b e f = absurd (true≢false f)
  short-of false b e f = e

  pub met-after : (k : ℕ) → suc k * size ≤ length r → stops_at size load r k ≡ true → (left_after size load r k ≡ 0 → ⊥) → left_after size load r (suc k) ≡ 0
  met-after k fits stops some =
      let end : suc k * size ≡ k * size + size = suc-mul k size in
      let less : left_after size load r k < idle_at size r k
      = ltb-true (left_after size load r k) (idle_at size r k) (short-of _ _ stops (ne_eqb (left_after size load r k) 0 some)) in
      let x : List ℕ = part (k * size) size r in
      let step : left_after size load r k - idle_at size r k ≡ after unblocked (k * size + size) load r
      = sym (unmet-count unblocked (k * size) (left_after size load r k) x unblocked (λ p. refl))
      ∙ after_more unblocked load r (k * size) (omega arith) size (omega arith) in
      ap (λ (m : ℕ). after unblocked m load r) end ∙ sym step ∙ omega arith

-- ---- what the filler keeps

-- the first k pieces of the row `was` are filled as a whole, and none before them stopped: the row then, what is left of the load, and the position before
-- which all of it is left
pub record Pieces (slots size load : ℕ) (was : List ℕ) (k left from : ℕ) (row : List ℕ) : Type 0 where
  pub row_is : row ≡ front unblocked (k * size) load was
  pub left_is : left ≡ left_after size load was k
  pub early : from ≤ k * size
  pub none_before : after unblocked from load was ≡ load
  pub whole : whole_pieces slots size load was ≡ first (stops_at size load was) k (slots / 8)
  pub start : from ≡ fill_start size load was k
  pub all_left : left ≡ load → first (begun size load was) 0 k ≡ k

pub pieces-first : (slots size load : ℕ) (was : List ℕ) → Pieces slots size load was 0 load 0 was
pieces-first slots size load was = record {
  row_is = rw zero-mul (front-none unblocked load was);
  left_is = rw zero-mul (after_none unblocked load was);
  early = omega arith;
  none_before = sym (after_none unblocked load was);
  whole = refl;
  start = start_none size load was;
  all_left = λ _. none-begun size load was;
}

-- piece k of so many is in the row
pub piece_in : (slots channels : ℕ) {k : ℕ} → k < slots / 8 → k * (8 * channels) + 8 * channels ≤ slots * channels
piece_in slots channels {k} h =
    let e : 8 * (k + 1) ≤ slots = omega arith in
    omega (arith, mul-le-mul_right channels e)

-- piece k, which is x, with c idle positions
module _ (slots size load : ℕ) (was : List ℕ) (k : ℕ) {left from : ℕ} {row : List ℕ} (g : Pieces slots size load was k left from row)
    (more : k * size + size ≤ length was) where
  short : k * size ≤ length was
  short = omega arith

  module _ {x : List ℕ} {c : ℕ} where
    idle-counted : x ≡ part (k * size) size row → c ≡ count (λ q. unblocked q && eqb (get_or x q 0) 0) (length x) → c ≡ idle_at size was k
    idle-counted lent counted =
        counted
        ∙ ap (λ (z : List ℕ). count (λ q. unblocked q && eqb (get_or z q 0) 0) (length z))
        (lent ∙ ap (part (k * size) size) g.row_is ∙ front-part unblocked load was (k * size) short size more)

    pub pieces-short : x ≡ part (k * size) size row → c ≡ count (λ q. unblocked q && eqb (get_or x q 0) 0) (length x) → left < c
        → stops_at size load was k ≡ true
    pieces-short lent counted h = stop-short size load was k g.left_is (idle-counted lent counted) h

    pub pieces-turn : {y : List ℕ} {b : ℕ} → k < slots / 8 → x ≡ part (k * size) size row
        → c ≡ count (λ q. unblocked q && eqb (get_or x q 0) 0) (length x) → c ≤ left → (left ≡ 0 → ⊥) → y ≡ fill unblocked 0 (length x) x
        → b ≡ pick (eqb (left - c) load) (k * size + size) from → Pieces slots size load was (k + 1) (left - c) b (put (k * size) size y row)
    pieces-turn {y} {b} inside lent counted over some filled b_is =
        let end : k * size + size ≡ suc k * size = sym (suc-mul k size) in
        let less : left - c ≡ after unblocked (k * size + size) load was
        = stretch-left unblocked load was (k * size) short size more unblocked (λ p. refl) g.row_is g.left_is lent counted in
        let row' : put (k * size) size y row ≡ front unblocked (k * size + size) load was
        = stretch-filled unblocked load was (k * size) short size more unblocked (λ p. refl) g.row_is g.left_is lent counted over filled in
        let most : left ≤ load = omega (arith, g.left_is, unmet-most unblocked 0 load (take (k * size) was)) in
        let begin = begins-at unblocked load was (left - c) (k * size + size) from _ refl b_is less (omega (arith, g.early)) g.none_before in
        let next = start-more size load was k left (left - c) from (less ∙ ap (λ (m : ℕ). after unblocked m load was) end) (omega arith) most g.start g.all_left
        _ refl (b_is ∙ ap (λ (m : ℕ). pick (eqb (left - c) load) m from) end) in
        let goes = first-miss (stops_at size load was) k (slots / 8) inside (go_on size load was k g.left_is (idle-counted lent counted) some over) in
        rw add-one
        (record {
          row_is = row' ∙ ap (λ (m : ℕ). front unblocked m load was) end;
          left_is = less ∙ ap (λ (m : ℕ). after unblocked m load was) end;
          early = omega (arith, begin.0, end);
          none_before = begin.1;
          whole = g.whole ∙ goes ∙ ap (λ (m : ℕ). first (stops_at size load was) m (slots / 8)) (add-one k);
          start = next.0;
          all_left = next.1;
        })

-- ---- where the filling of a row ends

-- at or after the slots that are done, and in the row
pub end_after : (t : Bool) (done slots channels : ℕ) → done ≤ slots
    → (done * channels ≤ pick t done (min (done + 8) slots) * channels) × (pick t done (min (done + 8) slots) * channels ≤ slots * channels)
end_after true done slots channels h = (omega arith, mul-le-mul_right channels h)
end_after false done slots channels h =
    let low : done ≤ min (done + 8) slots = omega arith in
    let high : min (done + 8) slots ≤ slots = omega arith in
    (mul-le-mul_right channels low, mul-le-mul_right channels high)

-- from there on the row is as it was
module _ (slots channels load : ℕ) (r : List ℕ) (long : length r ≡ slots * channels) where
  abbrev size' : ℕ
  size' = 8 * channels

  abbrev whole : ℕ
  whole = whole_pieces slots size' load r

  next-end : (8 * whole + 8) * channels ≡ suc whole * size'
  next-end = let e : 8 * whole + 8 ≡ 8 * suc whole = omega arith in ap (λ (x : ℕ). x * channels) e ∙ piece-at (suc whole) channels

  past_next : (t : Bool) → ltb slots (8 * whole + 8) ≡ t → (left_after size' load r whole ≡ 0 → ⊥) → (p : ℕ)
      → min (8 * whole + 8) slots * channels ≤ p → p < length r → get_or (fill unblocked 0 load r) p 0 ≡ get_or r p 0
  past_next true e some p h l =
      let m : min (8 * whole + 8) slots ≡ slots = omega (arith, ltb-true slots (8 * whole + 8) e) in
      let g : slots * channels ≤ p = rw m at h in
      absurd (omega arith)
  past_next false e some p h l =
      let fits : 8 * whole + 8 ≤ slots = ltb-false slots (8 * whole + 8) e in
      let m : min (8 * whole + 8) slots ≡ 8 * whole + 8 = omega arith in
      let g : (8 * whole + 8) * channels ≤ p = rw m at h in
      let within : whole < slots / 8 = omega arith in
      let short : suc whole * size' ≤ length r = omega (arith, next-end, mul-le-mul_right channels fits) in
      met-past unblocked load r (suc whole * size') short
      (met-after size' load r whole short (first_passes (stops_at size' load r) 0 (slots / 8) zero-le within) some) p (omega (arith, next-end))

  past_end : (t : Bool) → eqb (left_after size' load r whole) 0 ≡ t → (p : ℕ) → pick t (8 * whole) (min (8 * whole + 8) slots) * channels ≤ p → p < length r
      → get_or (fill unblocked 0 load r) p 0 ≡ get_or r p 0
  past_end true e p h l =
      let g : whole * size' ≤ p = omega (arith, piece-at whole channels) in
      met-past unblocked load r (whole * size') (omega arith) (eqb-true (left_after size' load r whole) 0 e) p g
  past_end false e p h l =
      past_next (ltb slots (8 * whole + 8)) refl (eqb-false (left_after size' load r whole) 0 e) p h l

  pub end-past : (p : ℕ)
      → fill_end slots channels (left_after (8 * channels) load r (whole_pieces slots (8 * channels) load r)) (whole_pieces slots (8 * channels) load r) ≤ p
      → p < length r → get_or (fill unblocked 0 load r) p 0 ≡ get_or r p 0
  end-past = past_end (eqb (left_after size' load r whole) 0) refl
