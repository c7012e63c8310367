-- The mask of a set of blocked positions bars exactly those, and where nothing is blocked none is needed. Assumes nothing.
use mathlib.Core.Path.{◌≡◌, refl, sym, ap, ◌∙◌}
use mathlib.Core.Bool.{Bool, true, false, not}
use mathlib.Core.List.{List, [], ◌++◌}
use Prim.Native.Nat.{ℕ, ◌≤◌, ◌<◌}
use native.Mathlib.Omega.{arith}
use native.Mathlib.Nat.{not-suc-le-zero}
use lib.Dec.{eqb}
use lib.ListN.{length, get_or, take, replicate, get_or-append}
use lib.Seq.{take_at}
use borrow.Author.Tests.{not-true}
use Rattle.laws.specs.Choice.{pick}
use Rattle.laws.specs.Part.{list_of}
use Rattle.laws.proofs.Any.{any_none}
use Rattle.laws.proofs.Stores.{length-list, list_at}
use Rattle.positions.specs.Blocked.{most_positions, blocked_at, any_in, bar_of}
use Rattle.rows.specs.Bars.{bar_row}
use Rattle.rows.proofs.Bars.{bars-of}
use Rattle.site.specs.Reach.{is_open}
use Rattle.planrows.specs.Row.{opens, Masks}

-- nothing is blocked: every position is open, and no mask is asked for
pub none_open : (words : List ℕ) (n : ℕ) → n ≤ 2048 → not (any_in words most_positions) ≡ true → (k : ℕ) → k < n → is_open words k ≡ opens [] k
none_open words n h none k l = ap not (any_none (blocked_at words) most_positions (not-true (any_in words most_positions) none) k (omega arith))

pub no-mask : (n : ℕ) → Masks n []
no-mask n h = absurd (not-suc-le-zero h)

bar-open : (t : Bool) → not t ≡ eqb (pick t 4 0) 0
bar-open true = refl
bar-open false = refl

bar-byte : (t : Bool) → ◌≡◌ {A = ℕ} (pick t 4 0) (pick (not t) 0 4)
bar-byte true = refl
bar-byte false = refl

-- m has the bytes of the first n positions, and stands at the start of the mask
module _ (words m rest : List ℕ) (n : ℕ) (is : m ≡ list_of (bar_of words) n) where
  mask-long : length m ≡ n
  mask-long = ap length is ∙ length-list (bar_of words) n

  mask-byte : (k : ℕ) → k < n → get_or (m ++ rest) k 0 ≡ bar_of words k
  mask-byte k h = get_or-append m rest 0 k (omega (arith, mask-long)) ∙ ap (λ (l : List ℕ). get_or l k 0) is ∙ list_at (bar_of words) n k h

  pub mask-opens : (k : ℕ) → k < n → is_open words k ≡ opens (m ++ rest) k
  mask-opens k h = bar-open (blocked_at words k) ∙ ap (λ (b : ℕ). eqb b 0) (sym (mask-byte k h))

  pub mask-bars : take n (m ++ rest) ≡ bar_row (opens (m ++ rest)) 0 (replicate n 0)
  mask-bars =
      take_at m rest n mask-long ∙ is
      ∙ bars-of (opens (m ++ rest)) (bar_of words) n (λ k h. bar-byte (blocked_at words k) ∙ ap (λ (t : Bool). pick {A = ℕ} t 0 4) (mask-opens k h))
