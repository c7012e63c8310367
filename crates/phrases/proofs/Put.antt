-- Laws of `Put`: one text and then another, more room than is needed, and no text. Assumes nothing.
use Prim.Native.Nat.{ℕ, ◌+◌, ◌≤◌}
use mathlib.Core.Path.{◌≡◌, refl, sym, ap, ◌∙◌}
use mathlib.Core.List.{List, [], ◌++◌}
use native.Mathlib.Nat.{add-zero}
use native.Mathlib.Omega.{arith}
use lib.ListN.{length, length-append}
use lib.Seq.{sets, length-sets}
use Rattle.laws.proofs.Stores.{sets-append}
use Rattle.phrases.specs.Put.{Put}

module _ {before middle after : List ℕ} {at place next : ℕ} (text more : List ℕ) {room space : ℕ} where
  pub put_both : Put before at text room middle place → Put middle place more space after next → Put before at (text ++ more) (room + space) after next
  put_both p q =
      record {
        stored = q.stored ∙ rw (p.stored, p.follows) (sym (sets-append before at text more));
        follows = omega (arith, p.follows, q.follows, length-append text more);
        short = omega (arith, p.short, q.short, length-append text more);
      }

-- from three facts
pub put_of : {before after text : List ℕ} {at next : ℕ} (room : ℕ) → after ≡ sets before at text → next ≡ at + length text
    → next ≤ at + room → Put before at text room after next
put_of room e n h = record { stored = e; follows = n; short = omega (arith, n, h) }

pub put-wide : {before after text : List ℕ} {at next room : ℕ} (space : ℕ) → room ≤ space → Put before at text room after next
    → Put before at text space after next
put-wide space h p = record { stored = p.stored; follows = p.follows; short = omega (arith, p.short) }

pub put-none : (before : List ℕ) (at room : ℕ) → Put before at [] room before at
put-none before at room = record { stored = refl; follows = sym (add-zero at); short = omega arith }

-- the buffer stays as long as it was
pub put-long : {before after text : List ℕ} {at next room : ℕ} → Put before at text room after next → length after ≡ length before
put-long {before} {after} {text} {at} p = ap length p.stored ∙ length-sets before at text
