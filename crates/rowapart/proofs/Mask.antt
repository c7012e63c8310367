-- The mask of the blocked positions, which has no bytes where none is blocked: it leaves usable what is open. Assumes nothing.
use mathlib.Core.Path.{◌≡◌, sym, ap, subst, ◌∙◌}
use mathlib.Core.Bool.{Bool, true, false, not}
use mathlib.Core.List.{List, [], append-nil}
use mathlib.Core.Logic.{⊎_elim}
use Prim.Native.Nat.{ℕ, ◌≤◌, ◌<◌}
use native.Mathlib.Omega.{arith}
use lib.ListN.{length, take, replicate, length-replicate}
use lib.Seq.{length-take-le}
use Rattle.laws.specs.Choice.{pick}
use Rattle.laws.specs.Part.{list_of}
use Rattle.laws.proofs.Choice.{cases, pick-most}
use Rattle.laws.proofs.Stores.{length-list}
use Rattle.positions.specs.Blocked.{most_positions, any_in, bar_of}
use Rattle.site.specs.Reach.{is_open}
use Rattle.planrows.specs.Row.{opens, Masks}
use Rattle.planner.proofs.MaskLaws.{none_open, no-mask, mask-opens, mask-bars}
use Rattle.rowapart.specs.Code.{mask_size}

pub mask-small : (blocked : List ℕ) (n : ℕ) → mask_size blocked n ≤ n
mask-small blocked n = pick-most (any_in blocked most_positions) n

pub mask-within : (blocked : List ℕ) (n most : ℕ) {m : ℕ} → m ≡ mask_size blocked n → n ≤ most → m ≤ most
mask-within blocked n most {m} e h = let few : m ≤ n = rw e (mask-small blocked n) in omega arith

-- of m zeros the first n are lent
pub cut : (m n : ℕ) → n ≤ m → n ≡ length (take {A = ℕ} n (replicate m 0))
cut m n h = sym (length-take-le n (replicate m 0) (subst (λ (k : ℕ). n ≤ k) (sym (length-replicate {A = ℕ} m 0)) h))

-- the mask is the bytes of so many positions
module _ (blocked mask : List ℕ) (n : ℕ) (few : n ≤ 2048) (is : mask ≡ list_of (bar_of blocked) (mask_size blocked n)) where
  abbrev some : Bool
  some = any_in blocked most_positions

  whole : some ≡ true → mask ≡ list_of (bar_of blocked) n
  whole e = is ∙ ap (λ (t : Bool). list_of (bar_of blocked) (pick t n 0)) e

  none : some ≡ false → mask ≡ []
  unfolding list_of
  none e = is ∙ ap (λ (t : Bool). list_of (bar_of blocked) (pick t n 0)) e

  pub mask-open : (k : ℕ) → k < n → is_open blocked k ≡ opens mask k
  mask-open k h =
      ⊎_elim
      (λ (e : some ≡ true). mask-opens blocked mask [] n (whole e) k h ∙ ap (λ (l : List ℕ). opens l k) (append-nil mask))
      (λ (e : some ≡ false). none_open blocked n few (ap not e) k h ∙ ap (λ (l : List ℕ). opens l k) (sym (none e)))
      (cases some)

  pub mask-good : Masks n mask
  mask-good =
      ⊎_elim
      (λ (e : some ≡ true).
      subst (Masks n) (append-nil mask)
      (λ _. (omega (arith, ap length (append-nil mask ∙ whole e), length-list (bar_of blocked) n), mask-bars blocked mask [] n (whole e))))
      (λ (e : some ≡ false). subst (Masks n) (sym (none e)) (no-mask n))
      (cases some)
