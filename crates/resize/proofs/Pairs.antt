-- Slots and channels, and the positions that they have. A slot and a channel of a site are one position, and a position is one slot and one channel, by
-- division. Assumes nothing.
use Prim.Native.Nat.{ℕ, ◌+◌, ◌*◌, ◌/◌, ◌%◌, ◌≤◌, ◌<◌}
use mathlib.Core.Bool.{Bool, true, false, not, ◌&&◌, true≢false}
use mathlib.Core.List.{List}
use mathlib.Core.Path.{◌≡◌, refl, ◌∙◌}
use native.Mathlib.Nat.{mul-le-mul, mod-lt, mod-eq_of_lt, mul-add-mod_self_right, div-eq_of_lt-le, div-lt_iff_lt-mul, le-div_iff_mul-le, suc-mul}
use native.Mathlib.Omega.{arith}
use borrow.Author.Tests.{ltb-true, lt-ltb, le-ltb}
use lib.Arith.{digits_lt}
use lib.Dec.{ltb}
use Rattle.laws.proofs.Choice.{both, both_is}
use Rattle.laws.proofs.Search.{first-before}
use Rattle.positions.specs.Blocked.{most_positions, blocked_at}
use Rattle.resize.specs.Sizes.{pair_in, pair_blocked, gone_at, first_gone}

pub pair_is : (slots channels slot channel : ℕ) → pair_in slots channels slot channel ≡ true → (slot < slots) × (channel < channels)
unfolding pair_in
pair_is slots channels slot channel e =
    let h = both (ltb slot slots) (ltb channel channels) e in
    (ltb-true slot slots h.0, ltb-true channel channels h.1)

pub is-pair : (slots channels slot channel : ℕ) → slot < slots → channel < channels → pair_in slots channels slot channel ≡ true
unfolding pair_in
is-pair slots channels slot channel l m = both_is (ltb slot slots) (ltb channel channels) (lt-ltb slot slots l) (lt-ltb channel channels m)

-- a slot that the site does not have
pub no_slot : (slots channels slot channel : ℕ) → slots ≤ slot → pair_in slots channels slot channel ≡ false
unfolding pair_in
no_slot slots channels slot channel l = rw (le-ltb slot slots l)

-- the position of a slot and a channel is one of at most 2,048
pub pair-few : (slots channels slot channel : ℕ) → slots ≤ 128 → channels ≤ 16 → pair_in slots channels slot channel ≡ true
    → slot * channels + channel < 2048
pair-few slots channels slot channel l m e =
    let h = pair_is slots channels slot channel e in
    omega (arith, digits_lt {q = slot} {m = slots} {r = channel} {c = channels} h.0 h.1, mul-le-mul l m)

-- and it is theirs alone
pub slot_of : (channels slot channel : ℕ) → channel < channels → (slot * channels + channel) / channels ≡ slot
slot_of channels slot channel l =
    div-eq_of_lt-le channels (omega arith) (omega (arith, suc-mul slot channels))

pub channel-of : (channels slot channel : ℕ) → channel < channels → (slot * channels + channel) % channels ≡ channel
channel-of channels slot channel l = mul-add-mod_self_right slot channels channel ∙ mod-eq_of_lt l

-- a position of the site has one of its slots and one of its channels
pub position-pair : (slots channels k : ℕ) → 0 < channels → k < slots * channels → pair_in slots channels (k / channels) (k % channels) ≡ true
position-pair slots channels k some l =
    is-pair slots channels (k / channels) (k % channels) ((div-lt_iff_lt-mul {x = k} some).1 l) (mod-lt k some)

pub past-pair : (slots channels k : ℕ) → 0 < channels → slots * channels ≤ k → slots ≤ k / channels
past-pair slots channels k some l = (le-div_iff_mul-le some).1 l

-- ---- what would be gone

-- with none gone, a slot and a channel that are gone were not blocked
module _ (set : List ℕ) (slots channels new to : ℕ) (few : slots ≤ 128) (fewer : channels ≤ 16) (none : 2048 ≤ first_gone set channels new to) where
  pub none-lost : (slot channel : ℕ) → pair_in new to slot channel ≡ false → pair_blocked set slots channels slot channel ≡ false
  unfolding pair_blocked first_gone gone_at
  none-lost slot channel out = go (pair_in slots channels slot channel) refl
    where
      gone-false : (b p : Bool) → p ≡ false → (b && not p) ≡ false → b ≡ false
      gone-false true p e g = absurd (true≢false (rw e at g))
      gone-false false p e g = refl

      go : (t : Bool) → pair_in slots channels slot channel ≡ t → (t && blocked_at set (slot * channels + channel)) ≡ false
      go false e = refl
      go true e =
          let h = pair_is slots channels slot channel e in
          let k = slot * channels + channel in
          let l : k < 2048 = pair-few slots channels slot channel few fewer e in
          let g : gone_at set channels new to k ≡ false = first-before (gone_at set channels new to) 0 most_positions k (omega arith) (omega arith) in
          let is : pair_in new to (k / channels) (k % channels) ≡ false =
          rw (slot_of channels slot channel h.1, channel-of channels slot channel h.1) out in
          gone-false (blocked_at set k) (pair_in new to (k / channels) (k % channels)) is g
