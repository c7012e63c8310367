-- Places, computed letter by letter. Assumes nothing.
use Prim.Native.Nat.{ℕ}
use mathlib.Core.Bool.{Bool, true, false}
use mathlib.Core.Path.{◌≡◌, refl}
use Rattle.laws.specs.Search.{first_of}
use Rattle.faults.specs.Faults.{in_turn}
use Rattle.text.specs.Decimal.{digits_of, decimal}
use Rattle.speech.specs.Speech.{bytes, spoken}
use Rattle.places.specs.Lines.{place_lines, spread_lines}
use Rattle.places.specs.Places.{sent_phrase, place_said, spread_said}
use Rattle.places.specs.declared.PlaceShown.{PlaceShown}

abbrev place : ℕ → Bool → Bool → PlaceShown
place word clash blocked = record { cells = word; clash = clash; blocked = blocked }

-- the cells 1, 3 and 12
three : place_said (place 2053 false false) ≡ bytes "1+3+12"
unfolding first_of in_turn sent_phrase place_said place_lines spoken decimal digits_of
three = refl

-- two that clash
clash : place_said (place 3 true false) ≡ bytes "1+2!"
unfolding first_of in_turn sent_phrase place_said place_lines spoken decimal digits_of
clash = refl

-- one at a blocked position, and two that clash there
blocked : place_said (place 2 false true) ≡ bytes "2#"
unfolding first_of in_turn sent_phrase place_said place_lines spoken decimal digits_of
blocked = refl

both : place_said (place 10 true true) ≡ bytes "2+4!#"
unfolding first_of in_turn sent_phrase place_said place_lines spoken decimal digits_of
both = refl

-- nobody, at an open position and at a blocked one
idle : place_said (place 0 false false) ≡ bytes "."
unfolding first_of in_turn sent_phrase place_said place_lines spoken decimal digits_of
idle = refl

barred : place_said (place 0 false true) ≡ bytes "#"
unfolding first_of in_turn sent_phrase place_said place_lines spoken decimal digits_of
barred = refl

-- for a spreadsheet: position 7 of a site with 2 channels
sheet-line : spread_said 2 7 (place 5 true false) ≡ bytes "4,2,1+3,clash\r\n"
unfolding first_of in_turn sent_phrase spread_said place_lines spread_lines spoken decimal digits_of
sheet-line = refl

sheet-empty : spread_said 2 0 (place 0 false true) ≡ bytes "1,1,,blocked\r\n"
unfolding first_of in_turn sent_phrase spread_said place_lines spread_lines spoken decimal digits_of
sheet-empty = refl
