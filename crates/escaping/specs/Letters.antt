-- What of a text is letters of a page: "a control byte other than newline (and tab) becomes ?; a byte of 128 or more stays only where it is part of a whole
-- UTF-8 letter (RFC 3629: no overlong, no surrogate, at most 4 bytes), and is ? otherwise". Two letters of RFC 3629 are in no XML text, U+FFFE and U+FFFF,
-- and U+0080 to U+009F are controls: these are no letters here.
use Rattle.std.specs.Prelude.{ℕ, ◌-◌, Bool, true, ◌&&◌, ◌||◌, not, List, [], ◌∷◌, ltb, eqb, get_or}
use Rattle.laws.specs.Choice.{pick}

-- at least `low` and below `top`
abbrev pub between : (low b top : ℕ) → Bool
between low b top = not (ltb b low) && ltb b top

-- one byte: newline, tab, and from the blank to the tilde
unfoldable pub is_one : ℕ → Bool
is_one a = eqb a 10 || (eqb a 9 || between 32 a 127)

-- a byte that comes after the first one: hexadecimal 80 to BF
abbrev pub is_tail : ℕ → Bool
is_tail b = between 128 b 192

-- the second byte, where the first is a: from A0 after C2 (controls) and E0 (overlong), from 90 after F0 (overlong); to 9F after ED (surrogates), to 8F
-- after F4 (past the last letter)
abbrev pub second_low : ℕ → ℕ
second_low a = pick (eqb a 194) 160 (pick (eqb a 224) 160 (pick (eqb a 240) 144 128))

abbrev pub second_top : ℕ → ℕ
second_top a = pick (eqb a 237) 160 (pick (eqb a 244) 144 192)

unfoldable pub is_second : ℕ → ℕ → Bool
is_second a b = between (second_low a) b (second_top a)

-- the third byte of three: to BD after EF BF (U+FFFE and U+FFFF)
abbrev pub third_top : ℕ → ℕ → ℕ
third_top a b = pick (eqb a 239) (pick (eqb b 191) 190 192) 192

unfoldable pub is_third : ℕ → ℕ → ℕ → Bool
is_third a b c = between 128 c (third_top a b)

-- letters of two, three and four bytes: their first bytes are C2 to DF, E0 to EF, F0 to F4
unfoldable pub is_two : ℕ → ℕ → Bool
is_two a b = between 194 a 224 && is_second a b

unfoldable pub is_three : ℕ → ℕ → ℕ → Bool
is_three a b c = between 224 a 240 && (is_second a b && is_third a b c)

unfoldable pub is_four : ℕ → ℕ → ℕ → ℕ → Bool
is_four a b c d = between 240 a 245 && (is_second a b && (is_tail c && is_tail d))

-- how many bytes the letter has that begins with a, where b, c and d come next; 0: none begins there
unfoldable pub letter_size : (a b c d : ℕ) → ℕ
letter_size a b c d = pick (is_one a) 1 (pick (is_two a b) 2 (pick (is_three a b c) 3 (pick (is_four a b c d) 4 0)))

-- the same for a text: past its end it has 0, which is no part of any letter
abbrev pub letter_at : List ℕ → ℕ
letter_at text = letter_size (get_or text 0 0) (get_or text 1 0) (get_or text 2 0) (get_or text 3 0)

-- how many bytes of a letter stand here, this one counted: those that are left of the letter before, or else the letter that begins here
abbrev pub stretch : ℕ → List ℕ → ℕ
stretch left text = pick (eqb left 0) (letter_at text) left

-- the text with a ? (63) for every byte that is in no letter; so many bytes are left of the letter before
unfoldable pub letters : ℕ → List ℕ → List ℕ
letters left [] = []
letters left (b ∷ text) = pick (eqb (stretch left (b ∷ text)) 0) 63 b ∷ letters (stretch left (b ∷ text) - 1) text

-- whether every byte is in a letter
unfoldable pub whole : ℕ → List ℕ → Bool
whole left [] = true
whole left (b ∷ text) = not (eqb (stretch left (b ∷ text)) 0) && whole (stretch left (b ∷ text) - 1) text
