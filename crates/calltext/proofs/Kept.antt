-- A text that is put at the start of a long enough buffer is the buffer's first part. Assumes nothing.
use Prim.Native.Nat.{ℕ, ◌≤◌}
use mathlib.Core.Path.{◌≡◌, sym, ap, ◌∙◌}
use mathlib.Core.List.{List}
use native.Mathlib.Nat.{zero-add}
use native.Mathlib.Omega.{arith}
use lib.ListN.{length, take}
use Rattle.laws.proofs.Stores.{take-sets}
use Rattle.phrases.specs.Put.{Put}
use Rattle.phrases.proofs.Put.{put-long}

module _ {before after text : List ℕ} {n room : ℕ} (p : Put before 0 text room after n) where
  pub put-end : n ≡ length text
  put-end = p.follows ∙ zero-add _

  pub put-inside : room ≤ length before → n ≤ length after
  put-inside h = omega (arith, put-end, p.short, put-long p)

  pub put-kept : room ≤ length before → take n after ≡ text
  put-kept h = ap (take n) p.stored ∙ take-sets n text before (sym put-end) (omega (arith, p.short))

  pub put_whole : room ≤ length before → n ≡ length (take n after)
  put_whole h = put-end ∙ sym (ap length (put-kept h))
