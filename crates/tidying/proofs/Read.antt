-- What the calls below give, in the words of the definitions. Assumes nothing.
use Prim.Native.Nat.{ℕ, zero, suc, ◌≤◌, ◌<◌}
use mathlib.Core.Path.{◌≡◌, sym, ap, ◌∙◌}
use mathlib.Core.List.{List, [], ◌∷◌}
use native.Mathlib.Omega.{arith}
use lib.ListN.{length, take}
use lib.Seq.{length-take-le, sets, length-sets}
use borrow.Author.Tests.{le-leb, lt-leb}
use Rattle.laws.proofs.Stores.{take-sets}
use Rattle.std.specs.Prelude.{Ok, Err}
use Rattle.cleaning.specs.Clean.{cleaned}
use Rattle.tidying.specs.Tidy.{most_bytes, tidied, laid_answer}
use Rattle.tidying.specs.declared.TidyError.TheVariants.{OutShort}

pub laid_out : (file out : List ℕ) → length file ≤ length out → Ok (length file) ≡ laid_answer file out
unfolding laid_answer
laid_out file out h = rw (le-leb (length file) (length out) h)

pub not-laid-out : (file out : List ℕ) → length out < length file → Err (OutShort (length file)) ≡ laid_answer file out
unfolding laid_answer
not-laid-out file out h = rw (lt-leb (length file) (length out) h)

-- a part is no longer than was asked
short : (n : ℕ) (l : List ℕ) → length (take n l) ≤ n
short zero l = omega arith
short (suc n) [] = omega arith
short (suc n) (x ∷ l) = omega (arith, short n l)

-- the bytes that cleaning stored are the tidied sheet
module _ (s before after : List ℕ) (n : ℕ) (stored : after ≡ sets before 0 (take (length before) (cleaned s)))
    (size : n ≡ length (take (length before) (cleaned s))) where
  pub kept-inside : n ≤ length after
  kept-inside = omega (arith, ap length stored, length-sets before 0 (take (length before) (cleaned s)), short (length before) (cleaned s))

  pub kept-long : n ≡ length (take n after)
  kept-long = sym (length-take-le n after kept-inside)

  pub kept-tidied : length before ≡ most_bytes → take n after ≡ tidied s
  unfolding tidied
  kept-tidied h =
      ap (take n) stored
      ∙ take-sets n (take (length before) (cleaned s)) before (sym size) (omega (arith, short (length before) (cleaned s)))
      ∙ ap (λ (m : ℕ). take m (cleaned s)) h
