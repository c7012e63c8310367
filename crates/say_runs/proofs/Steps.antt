-- The number before a place, and how long the numbers of channels are. Assumes nothing.
use Prim.Native.Nat.{ℕ, zero, suc, ◌+◌, ◌-◌, ◌≤◌, ◌<◌}
use mathlib.Core.Path.{◌≡◌, refl, ap}
use mathlib.Core.Bool.{Bool, true, false}
use mathlib.Core.List.{List}
use native.Mathlib.Omega.{arith}
use lib.Dec.{eqb}
use lib.ListN.{length, get_or, length-append}
use Rattle.laws.specs.Choice.{pick}
use Rattle.laws.proofs.Search.{first-most}
use Rattle.text.proofs.Digits.{decimal-long}
use Rattle.speech.specs.Speech.{spoken}
use Rattle.phrases.specs.Phrases.{phrase}
use Rattle.phrases.specs.Put.{Put}
use Rattle.phrases.specs.declared.Phrase.TheVariants.{Silent, Row}
use Rattle.say_runs.specs.Lines.{run_lines}
use Rattle.say_runs.specs.Runs.{number_before, starts_run, run_stop, run_before}
use Rattle.say_runs.specs.Said.{span_phrase, run_phrase, number_said}

pub before-is : (row : List ℕ) (i : ℕ) → (i ≡ 0 → ⊥) → get_or row (i - 1) 0 ≡ number_before row i
before-is row zero h = absurd (h refl)
before-is row (suc i) h = ap (λ k. get_or row k 0) (omega arith)

end-most : (row : List ℕ) (i : ℕ) → i < length row → run_stop row i ≤ length row
unfolding run_stop
end-most row i h = first-most _ (i + 1) (length row) (omega arith)

span-long : (on one : Bool) (x y : ℕ) → x < 100 → y < 100
    → length (phrase run_lines (Row (pick on (pick one 2 3) (pick one 0 1)) x y 0 0)) ≤ 6
unfolding run_lines spoken
span-long true true x y h l = simp length-append (omega (arith, decimal-long 1 x h))
span-long true false x y h l = simp length-append (omega (arith, decimal-long 1 x h, decimal-long 1 y l))
span-long false true x y h l = simp length-append (omega (arith, decimal-long 1 x h))
span-long false false x y h l = simp length-append (omega (arith, decimal-long 1 x h, decimal-long 1 y l))

pub number-long : (row : List ℕ) (i : ℕ) → length row ≤ 16 → i < length row → length (number_said row i) ≤ 6
unfolding run_phrase span_phrase
number-long row i few h = go (starts_run row i)
  where
    one : Bool
    one = eqb (i + 1) (run_stop row i)

    go : (t : Bool)
        → length (phrase run_lines (pick t (Row (pick (run_before row i) (pick one 2 3) (pick one 0 1)) (i + 1) (run_stop row i) 0 0) Silent)) ≤ 6
    go true = span-long (run_before row i) one (i + 1) (run_stop row i) (omega arith) (omega (arith, end-most row i h))
    go false = omega arith

-- so that they take no more room
pub number_put : (row : List ℕ) (i : ℕ) → length row ≤ 16 → i < length row → {before after : List ℕ} {at next : ℕ}
    → Put before at (number_said row i) 130 after next → Put before at (number_said row i) 6 after next
number_put row i few h q = record { stored = q.stored; follows = q.follows; short = number-long row i few h }
