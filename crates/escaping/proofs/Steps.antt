-- What is left of a text, a byte at a time, and how long it gets: by induction over its bytes, at most six for each. Assumes nothing.
use Prim.Native.Nat.{ℕ, suc, ◌+◌, ◌*◌, ◌-◌, ◌≤◌, ◌<◌}
use mathlib.Core.Path.{◌≡◌, refl, ap}
use mathlib.Core.Bool.{Bool, true, false}
use mathlib.Core.List.{List, [], ◌∷◌, ◌++◌}
use native.Mathlib.Omega.{arith}
use lib.Dec.{eqb}
use lib.ListN.{length, length-append, length-drop, take, drop, get_or}
use lib.Seq.{take_all}
use Rattle.laws.specs.Choice.{pick}
use Rattle.text.proofs.Left.{next-left, none_left}
use Rattle.escaping.specs.Letters.{letters, stretch}
use Rattle.escaping.specs.Escaped.{reference, referred, escaped}

-- the part of the text from a byte on is what is left there
pub from-here : (left : ℕ) (text : List ℕ) (i : ℕ) → stretch left (take (length text - i) (drop i text)) ≡ stretch left (drop i text)
from-here left text i = ap (stretch left) (take_all (length text - i) (drop i text) (omega (arith, length-drop i text)))

-- one byte, and what comes after it
pub escape-next : (left : ℕ) (text : List ℕ) (i : ℕ) → i < length text
    → referred (letters left (drop i text))
    ≡ reference (pick (eqb (stretch left (drop i text)) 0) 63 (get_or text i 0)) ++ referred (letters (stretch left (drop i text) - 1) (drop (i + 1) text))
unfolding letters referred
escape-next left text i h = rw (next-left text i h)

pub escape_end : (left : ℕ) (text : List ℕ) (i : ℕ) → length text ≤ i → referred (letters left (drop i text)) ≡ []
unfolding letters referred
escape_end left text i h = rw (none_left text i h)

-- ---- how long

either : (t : Bool) (l m : List ℕ) → length l ≤ 6 → length m ≤ 6 → length (pick t l m) ≤ 6
either true l m p q = p
either false l m p q = q

pub reference-long : (b : ℕ) → length (reference b) ≤ 6
unfolding reference
reference-long b =
    either (eqb b 60) _ _ (omega arith)
    (either (eqb b 62) _ _ (omega arith)
    (either (eqb b 38) _ _ (omega arith) (either (eqb b 34) _ _ (omega arith) (either (eqb b 39) _ _ (omega arith) (omega arith)))))

referred-long : (text : List ℕ) → length (referred text) ≤ 6 * length text
unfolding referred
referred-long [] = omega arith
referred-long (b ∷ text) = omega (arith, length-append (reference b) (referred text), reference-long b, referred-long text)

-- a byte stays a byte
pub letters-long : (left : ℕ) (text : List ℕ) → length (letters left text) ≡ length text
unfolding letters
letters-long left [] = refl
letters-long left (b ∷ text) = ap suc (letters-long (stretch left (b ∷ text) - 1) text)

pub escaped-long : (text : List ℕ) → length (escaped text) ≤ 6 * length text
escaped-long text = omega (arith, referred-long (letters 0 text), letters-long 0 text)
