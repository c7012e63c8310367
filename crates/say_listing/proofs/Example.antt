-- The listing of document 01, line by line, and each other line that a listing can have: the texts are the document's, and the lines are computed. Assumes
-- nothing.
use Prim.Native.Nat.{ℕ}
use mathlib.Core.Path.{◌≡◌, refl}
use mathlib.Core.List.{List, [], ◌∷◌, ◌++◌}
use Rattle.text.specs.Decimal.{digits_of, decimal}
use Rattle.speech.specs.Speech.{bytes, spoken}
use Rattle.phrases.specs.Phrases.{phrase}
use Rattle.phrases.specs.declared.Phrase.{Phrase}
use Rattle.phrases.specs.declared.Phrase.TheVariants.{Row}
use Rattle.say_listing.specs.Lines.{listing_lines, site_row, chain_yes_row, chain_no_row, load_holds_row, load_over_row, plan_done_row, plan_short_row}
use Rattle.say_listing.specs.Lines.{refused_row}
use Rattle.say_listing.specs.Lines.{listed, reservations, cell_listed}

abbrev pub line : Phrase → List ℕ
line p = phrase listing_lines p

-- P1, with its rows 111110, 222221, 111102
pub document :
    line (Row site_row 3 3 2 0)
    ++ (line (Row chain_yes_row 0 0 0 0)
    ++ (line (Row load_holds_row 0 0 0 0)
    ++ (line (Row plan_done_row 0 0 0 0)
    ++ (cell_listed 1 2 (1 ∷ 1 ∷ 1 ∷ 1 ∷ 1 ∷ 0 ∷ [])
    ++ (cell_listed 2 2 (2 ∷ 2 ∷ 2 ∷ 2 ∷ 2 ∷ 1 ∷ [])
    ++ cell_listed 3 2 (1 ∷ 1 ∷ 1 ∷ 1 ∷ 0 ∷ 2 ∷ []))))))
    ≡ bytes "site 3 3 2\nchain yes\nload holds\nplan done\n1 1.1 1.2 2.1 2.2 3.1\n2 3.2\n3 1.1 1.2 2.1 2.2\n"
unfolding listing_lines listed reservations cell_listed spoken decimal digits_of
document = refl

-- "the number alone if it has none"
pub alone : cell_listed 12 16 (0 ∷ 2 ∷ []) ≡ bytes "12\n"
unfolding listing_lines listed reservations cell_listed spoken decimal digits_of
alone = refl

-- P3, and P2: "load over 2 by 1; refusal 5, cell 2, short 1"
pub chain-no : line (Row chain_no_row 1 2 3 0) ≡ bytes "chain no 1 2 3\n"
unfolding listing_lines spoken decimal digits_of
chain-no = refl

pub load-over : line (Row load_over_row 2 1 0 0) ≡ bytes "load over 2 1\n"
unfolding listing_lines spoken decimal digits_of
load-over = refl

pub plan-short : line (Row plan_short_row 2 1 0 0) ≡ bytes "plan 5 2 1\n"
unfolding listing_lines spoken decimal digits_of
plan-short = refl

-- a file that ends after 20 bytes
pub refused : line (Row refused_row 8 20 0 0) ≡ bytes "refused 8 20\n"
unfolding listing_lines spoken decimal digits_of
refused = refl
