-- The word of the open positions that a fragment cannot have: one bit for each fragment placed of a lower clashing cell.
--     keeps-join     one fragment more, one bit more
--     marks-same     within a cell the word stays as it is
--     marks-placed   its bits say what the definition asks of positions
-- Assumes nothing.
use mathlib.Core.Path.{◌≡◌, refl, sym, ap, ◌∙◌, subst}
use mathlib.Core.Bool.{Bool, ◌&&◌, ◌||◌, and_comm}
use mathlib.Core.List.{List}
use Prim.Native.Nat.{ℕ, zero, suc, ◌+◌, ◌-◌, ◌≤◌, ◌<◌, ◌^◌}
use native.Mathlib.Omega.{arith}
use native.Mathlib.Nat.{le_refl}
use native.Mathlib.Numerals.{add-one}
use lib.Bits.{bit_or}
use lib.Dec.{ltb, eqb}
use lib.ListN.{length, get_or, set}
use lib.Seq.{get_or-set_other}
use borrow.Author.Tests.{le-ltb, eq-eqb, eqb-true}
use Rattle.laws.specs.Bits.{bit_at, bit_in}
use Rattle.laws.specs.Choice.{pick}
use Rattle.laws.proofs.Bits.{none_in}
use Rattle.laws.proofs.Choice.{alike, eqb-sym}
use Rattle.laws.proofs.Words.{set-one}
use Rattle.tries.specs.Search.{taken_by}
use Rattle.search.specs.Hunt.{placed_of, stack_of, keeps, TakenWord, Distinct}

-- ---- the word in the making

module _ (clash : ℕ → ℕ → Bool) (owner at : List ℕ) (c : ℕ) where
  pub keeps-none : (i : ℕ) → bit_at 0 i ≡ keeps clash owner at 0 c i
  unfolding stack_of taken_by
  keeps-none i = none_in i

  keeps-more : (k i : ℕ) → keeps clash owner at (suc k) c i
      ≡ ((ltb (get_or owner k 0) c && clash (get_or owner k 0) c && eqb (get_or at k 0) i) || keeps clash owner at k c i)
  unfolding stack_of taken_by
  keeps-more k i = refl

  pub keeps-join : (k word : ℕ) (with : Bool) → with ≡ (ltb (get_or owner k 0) c && clash (get_or owner k 0) c)
      → ((i : ℕ) → bit_at word i ≡ keeps clash owner at k c i)
      → (i : ℕ) → bit_at (bit_or word (pick with (2 ^ get_or at k 0) 0)) i ≡ keeps clash owner at (k + 1) c i
  keeps-join k word with e h i =
      set-one with word (get_or at k 0) i
      ∙ rw (
        h i,
        e,
        add-one,
        keeps-more k i,
        eqb-sym i (get_or at k 0),
        and_comm (eqb (get_or at k 0) i)
            (ltb (get_or owner k 0) c && clash (get_or owner k 0) c),
      )

  -- a fragment of the cell itself keeps it from nothing
  pub keeps-own : (k i : ℕ) → get_or owner k 0 ≡ c → keeps clash owner at (suc k) c i ≡ keeps clash owner at k c i
  keeps-own k i e = keeps-more k i ∙ rw (e, le-ltb c c (le_refl c))

pub marks-same : (rows owner at : List ℕ) (d w : ℕ) → 0 < d → get_or owner d 0 ≡ get_or owner (d - 1) 0 → TakenWord rows owner at (d - 1) w
    → TakenWord rows owner at d w
marks-same rows owner at zero w z e h = absurd (omega arith)
marks-same rows owner at (suc d) w z e h =
    let back : suc d - 1 ≡ d = omega arith in
    let same : get_or owner (suc d) 0 ≡ get_or owner d 0 = e ∙ ap (λ k. get_or owner k 0) back in
    let before : TakenWord rows owner at d w = subst (λ k. TakenWord rows owner at k w) back h in
    λ l i.
    before (omega arith) i
    ∙ sym (ap (λ c. keeps (bit_in rows) owner at (suc d) c i) same ∙ keeps-own (bit_in rows) owner at (get_or owner d 0) d i refl)

-- ---- a stack that grows

stack-kept : (owner at : List ℕ) (d i k : ℕ) → k ≤ d → stack_of owner (set at d i) k ≡ stack_of owner at k
unfolding stack_of
stack-kept owner at d i zero l = refl
stack-kept owner at d i (suc k) l = rw (get_or-set_other at d k i 0 (λ e. omega arith), stack-kept owner at d i k (omega arith))

pub marks-kept : (rows owner at : List ℕ) (d i k w : ℕ) → k ≤ d → TakenWord rows owner at k w → TakenWord rows owner (set at d i) k w
marks-kept rows owner at d i k w l h m j = rw (stack-kept owner at d i k l) (h m j)

-- ---- positions by their index

module _ (clash : ℕ → ℕ → Bool) (owner opens at : List ℕ) (once : Distinct opens) (c i : ℕ) (inside : i < length opens) where
  same_index : (a : ℕ) → a < length opens → eqb a i ≡ eqb (get_or opens a 0) (get_or opens i 0)
  same_index a l =
      alike (eqb a i) (eqb (get_or opens a 0) (get_or opens i 0))
      (λ h. eq-eqb _ _ (ap (λ k. get_or opens k 0) (eqb-true a i h)))
      (λ h. eq-eqb a i (once a i l inside (eqb-true (get_or opens a 0) (get_or opens i 0) h)))

  pub keeps_placed : (d : ℕ) → ((k : ℕ) → k < d → get_or at k 0 < length opens)
      → keeps clash owner at d c i ≡ taken_by clash (placed_of owner opens at d) c (get_or opens i 0)
  unfolding stack_of placed_of taken_by
  keeps_placed zero h = refl
  keeps_placed (suc d) h = rw (same_index (get_or at d 0) (h d (omega arith)), keeps_placed d (λ k l. h k (omega arith)))
