-- A sentence with numbers in it. Its text has place marks, an @ (64) and one byte more. With a digit, @1, @2, @3 and @4 stand for the first to the fourth
-- value, in decimal. With a letter, @a, @b, @c and @d stand for an s where the first to the fourth value is not 1, and for nothing where it is 1:
-- `@1 slot@a` is `1 slot` and `2 slots`.
use Rattle.std.specs.Prelude.{ℕ, ◌+◌, ◌-◌, Bool, false, List, [], ◌∷◌, ◌++◌, ltb, eqb, length, get_or}
use Prim.Native.Char.{code}
use Prim.Native.String.{String, [] as none, ◌∷◌ as ◌then◌}
use Rattle.laws.specs.Choice.{pick}
use Rattle.text.specs.Decimal.{decimal}

-- the bytes of a text. The product's texts have only characters below 128, each of which is one byte
abbrev pub bytes : String → List ℕ
bytes none = []
bytes (c then s) = code c ∷ bytes s

-- the value that a digit stands for: 49 is the digit 1. Any other than 1, 2 and 3 is the fourth
abbrev pub value_of : (a b c d : ℕ) → ℕ → ℕ
value_of a b c d digit = pick (eqb digit 49) a (pick (eqb digit 50) b (pick (eqb digit 51) c d))

-- the s (115) of a plural: nothing for 1, an s for any other number
abbrev pub plural : ℕ → List ℕ
plural x = pick (eqb x 1) [] (115 ∷ [])

-- what a mark stands for: a digit (49 is 1) for the value's decimal, a letter (97 is a) for the plural of the value
abbrev pub mark_said : (a b c d : ℕ) → ℕ → List ℕ
mark_said a b c d mark = pick (ltb mark 97) (decimal (value_of a b c d mark)) (plural (value_of a b c d (mark - 48)))

-- the text with each place mark replaced by its words. An @ at the very end is no mark
unfoldable pub spoken : (ℕ → List ℕ) → List ℕ → List ℕ
spoken words [] = []
spoken words (b ∷ []) = b ∷ []
spoken words (b ∷ mark ∷ text) = pick (eqb b 64) (words mark ++ spoken words text) (b ∷ spoken words (mark ∷ text))

-- whether a place mark begins at i, as the loop asks
abbrev pub mark_at : List ℕ → ℕ → Bool
mark_at text i = pick (ltb (i + 1) (length text)) (eqb (get_or text i 0) 64) false

-- a sentence, its text in letters
abbrev pub said : String → (a b c d : ℕ) → List ℕ
said text a b c d = spoken (mark_said a b c d) (bytes text)
