-- Bytes that are compared: no byte differs exactly where every one is the same. Assumes nothing.
use mathlib.Core.Path.{◌≡◌, refl, sym, ap, ap₂, ◌∙◌}
use mathlib.Core.Bool.{Bool, true, false, not, ◌||◌, not-not}
use mathlib.Core.List.{List}
use Prim.Native.Nat.{ℕ, ◌+◌, ◌<◌}
use lib.Bits.{bit_or}
use lib.Dec.{eqb}
use lib.ListN.{get_or}
use borrow.Author.Tests.{eqb-true, eq-eqb}
use mir.Val.{bool_byte}
use Rattle.laws.specs.Sum.{any}
use Rattle.laws.proofs.Any.{any-more, any_none, none_any}
use Rattle.laws.proofs.Bits.{either-some}
use Rattle.rowapart.specs.Code.{bytes_alike}

byte-some : (b : Bool) → not (eqb (bool_byte b) 0) ≡ b
byte-some true = refl
byte-some false = refl

-- one byte more is compared
pub differ-more : (p : ℕ → Bool) (k other : ℕ) (b : Bool) → b ≡ p k → not (eqb other 0) ≡ any p k → not (eqb (bit_or other (bool_byte b)) 0) ≡ any p (k + 1)
differ-more p k other b e h = either-some other (bool_byte b) ∙ ap₂ ◌||◌ h (byte-some b ∙ e) ∙ sym (any-more p k)

pub differ-end : (x : Bool) (y : Bool) → not x ≡ y → x ≡ not y
differ-end x y e = sym (not-not x) ∙ ap not e

-- the same, byte for byte
pub same-all : (t : List ℕ) (from : ℕ) (p : List ℕ) (m : ℕ) → bytes_alike t from p m ≡ true → (k : ℕ) → k < m → get_or t (from + k) 0 ≡ get_or p k 0
same-all t from p m e k h =
    let none : any (λ k. not (eqb (get_or t (from + k) 0) (get_or p k 0))) m ≡ false = differ-end _ true e in
    eqb-true _ _ (differ-end _ false (any_none (λ k. not (eqb (get_or t (from + k) 0) (get_or p k 0))) m none k h))

pub all_same : (t : List ℕ) (from : ℕ) (p : List ℕ) (m : ℕ) → ((k : ℕ) → k < m → get_or t (from + k) 0 ≡ get_or p k 0) → bytes_alike t from p m ≡ true
all_same t from p m h = ap not (none_any (λ k. not (eqb (get_or t (from + k) 0) (get_or p k 0))) m (λ k l. ap not (eq-eqb _ _ (h k l))))
