-- How long a sentence can be: a place mark of two bytes becomes at most 20 digits or an s, so that it has at most ten times the bytes of its text.
-- Assumes nothing.
use Prim.Native.Nat.{ℕ, ◌+◌, ◌*◌, ◌-◌, ◌≤◌, ◌<◌}
use mathlib.Core.Bool.{Bool, true, false}
use mathlib.Core.List.{List, [], ◌∷◌, ◌++◌}
use native.Mathlib.Omega.{arith}
use lib.Dec.{ltb, eqb}
use lib.ListN.{length, length-append}
use Rattle.laws.specs.Choice.{pick}
use Rattle.text.proofs.Digits.{decimal-long}
use Rattle.speech.specs.Speech.{value_of, plural, mark_said, spoken}

-- marks that stand for at most 20 bytes
abbrev pub Brief : (ℕ → List ℕ) → Type 0
Brief words = (mark : ℕ) → length (words mark) ≤ 20

picked : (t : Bool) (x y : ℕ) → x < 18446744073709551616 → y < 18446744073709551616 → pick t x y < 18446744073709551616
picked true x y p q = p
picked false x y p q = q

-- a value of 64 bits
wide : (a b c d : ℕ) → a < 18446744073709551616 → b < 18446744073709551616 → c < 18446744073709551616 → d < 18446744073709551616
    → (digit : ℕ) → value_of a b c d digit < 18446744073709551616
wide a b c d p q r s digit =
    picked (eqb digit 49) a (pick (eqb digit 50) b (pick (eqb digit 51) c d)) p
    (picked (eqb digit 50) b (pick (eqb digit 51) c d) q (picked (eqb digit 51) c d r s))

either : (t : Bool) (l m : List ℕ) → length l ≤ 20 → length m ≤ 20 → length (pick t l m) ≤ 20
either true l m p q = p
either false l m p q = q

plural-brief : (x : ℕ) → length (plural x) ≤ 20
plural-brief x = either (eqb x 1) [] (115 ∷ []) (omega arith) (omega arith)

pub marks-brief : (a b c d : ℕ) → a < 18446744073709551616 → b < 18446744073709551616 → c < 18446744073709551616 → d < 18446744073709551616
    → Brief (mark_said a b c d)
marks-brief a b c d p q r s mark =
    either (ltb mark 97) _ _ (decimal-long 19 (value_of a b c d mark) (omega (arith, wide a b c d p q r s mark))) (plural-brief (value_of a b c d (mark - 48)))

two : (t : Bool) (rest b : ℕ) (r s : List ℕ) (n : List ℕ) → length n ≤ 20 → length r ≤ 10 * rest → length s ≤ 10 * (rest + 1)
    → length (pick t (n ++ r) (b ∷ s)) ≤ 10 * (rest + 2)
two true rest b r s n p q u = omega (arith, length-append n r)
two false rest b r s n p q u = omega arith

pub spoken-long : (words : ℕ → List ℕ) → Brief words → (text : List ℕ) → length (spoken words text) ≤ 10 * length text
unfolding spoken
spoken-long words brief [] = omega arith
spoken-long words brief (b ∷ []) = omega arith
spoken-long words brief (b ∷ mark ∷ text) =
    let all = two (eqb b 64) (length text) b (spoken words text) (spoken words (mark ∷ text)) (words mark) (brief mark)
    (spoken-long words brief text) (omega (arith, spoken-long words brief (mark ∷ text))) in
    omega arith
