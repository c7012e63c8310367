-- What a site, a table and clash rows that may be drawn have: every place is in the table, and the rows say who is met. Assumes nothing.
use Prim.Native.Nat.{ℕ, ◌+◌, ◌*◌, ◌≤◌, ◌<◌}
use mathlib.Core.Path.{◌≡◌, ap}
use mathlib.Core.Bool.{Bool, ◌&&◌, ◌||◌, not}
use mathlib.Core.List.{List}
use native.Mathlib.Omega.{arith}
use lib.ListN.{length, get_or}
use Rattle.laws.specs.Bits.{bit_at}
use Rattle.laws.specs.Sum.{any}
use Rattle.laws.proofs.Grid.{row_before, inside}
use Rattle.laws.proofs.Search.{first-least, first-most}
use Rattle.theory.specs.Greedy.{reserved}
use Rattle.positions.specs.Blocked.{blocked_at}
use Rattle.site.specs.Record.{positions, size}
use Rattle.site.specs.declared.Site.{Site}
use Rattle.site.proofs.Faults.{Sized, few-positions, few_bytes}
use Rattle.drawing.specs.Slots.{meets, keeps_clear, sends_wrong, marked_in, run_past}
use Rattle.say_slots.specs.Code.{Drawn}

module _ (s : Site) (sizes : Sized s) where
  pub row-most : (i : ℕ) → i < s.cells → i * positions s + positions s ≤ 65536
  row-most i l = omega (arith, row_before (positions s) l, few_bytes sizes)

  pub row-in : (t : List ℕ) → size s ≤ length t → (i : ℕ) → i < s.cells → i * positions s + positions s ≤ length t
  row-in t long i l = omega (arith, row_before (positions s) l, long)

  pub place_in : (slot channel : ℕ) → slot < s.slots → channel < s.channels → slot * s.channels + channel < positions s
  place_in slot channel l m = inside s.slots s.channels slot channel l m

  pub place-few : (slot channel : ℕ) → slot < s.slots → channel < s.channels → slot * s.channels + channel < 2048
  place-few slot channel l m = omega (arith, place_in slot channel l m, few-positions sizes)

module _ (s : Site) (t : List ℕ) where
  pub past-least : (mark i channel slot : ℕ) → slot ≤ run_past s t mark i channel slot
  unfolding run_past
  past-least mark i channel slot = first-least (λ j. not (marked_in s t mark i channel j)) slot s.slots

  pub past-most : (mark i channel slot : ℕ) → slot < s.slots → run_past s t mark i channel slot ≤ s.slots
  unfolding run_past
  past-most mark i channel slot l = first-most (λ j. not (marked_in s t mark i channel j)) slot s.slots (omega arith)

  module _ (clash : List ℕ) (drawn : Drawn s t clash) (i k : ℕ) where
    pub clear-rows : (not (reserved (positions s) t i k)
        && (not (blocked_at s.blocked k) && any (λ c. reserved (positions s) t c k && bit_at (get_or clash i 0) c) s.cells))
        ≡ keeps_clear s t i k
    unfolding meets
    clear-rows =
        ap (λ (f : ℕ → ℕ → Bool). not (reserved (positions s) t i k)
        && (not (blocked_at s.blocked k) && any (λ c. reserved (positions s) t c k && f i c) s.cells)) drawn.rows

    pub wrong-rows : (reserved (positions s) t i k
        && (blocked_at s.blocked k || any (λ c. reserved (positions s) t c k && bit_at (get_or clash i 0) c) s.cells))
        ≡ sends_wrong s t i k
    unfolding meets
    wrong-rows =
        ap (λ (f : ℕ → ℕ → Bool). reserved (positions s) t i k
        && (blocked_at s.blocked k || any (λ c. reserved (positions s) t c k && f i c) s.cells)) drawn.rows
