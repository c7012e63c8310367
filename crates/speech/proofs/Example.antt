-- Sentences, computed: values in any order, one of them twice, an @ that is no mark, and counts of 1, 0 and 2. Assumes nothing.
use mathlib.Core.Path.{◌≡◌, refl}
use Rattle.text.specs.Decimal.{digits_of, decimal}
use Rattle.speech.specs.Speech.{bytes, spoken, said}

change-said : said "cell @3: slot @2 channel @1 added, @4 in all, @1\n" 1 20 3 65535 ≡ bytes "cell 3: slot 20 channel 1 added, 65535 in all, 1\n"
unfolding spoken decimal digits_of
change-said = refl

last-said : said "at @" 1 2 3 4 ≡ bytes "at @"
unfolding spoken
last-said = refl

one-said : said "@1 cell@a, @2 slot@b, @3 channel@c, @4 time@d\n" 1 1 1 1 ≡ bytes "1 cell, 1 slot, 1 channel, 1 time\n"
unfolding spoken decimal digits_of
one-said = refl

none_said : said "@1 cell@a, @2 slot@b, @3 channel@c, @4 time@d\n" 0 2 1 0 ≡ bytes "0 cells, 2 slots, 1 channel, 0 times\n"
unfolding spoken decimal digits_of
none_said = refl
