-- The reservations of a row, a position at a time, and how long each can be. Assumes nothing.
use Prim.Native.Nat.{ℕ, ◌+◌, ◌/◌, ◌%◌, ◌≤◌, ◌<◌}
use mathlib.Core.Path.{◌≡◌, ap}
use mathlib.Core.Bool.{Bool, true, false}
use mathlib.Core.List.{List, ◌++◌}
use native.Mathlib.Nat.{div-le_self, mod-le}
use native.Mathlib.Numerals.{add-one}
use native.Mathlib.Omega.{arith}
use lib.ListN.{length, get_or, length-append}
use Rattle.laws.specs.Choice.{pick}
use Rattle.theory.specs.Greedy.{sends}
use Rattle.text.proofs.Digits.{decimal-long}
use Rattle.speech.specs.Speech.{spoken}
use Rattle.phrases.specs.Phrases.{phrase}
use Rattle.phrases.specs.Put.{Put}
use Rattle.phrases.specs.declared.Phrase.TheVariants.{Silent}
use Rattle.say_listing.specs.Lines.{listing_lines, reservation, listed, reservations}

pub position-more : (channels : ℕ) (row : List ℕ) (p : ℕ)
    → reservations channels row (p + 1) ≡ reservations channels row p ++ phrase listing_lines (listed channels p (get_or row p 0))
unfolding reservations
position-more channels row p = ap (reservations channels row) (add-one p)

-- a space, four digits, a full stop and four digits
reservation-long : (channels p : ℕ) → p < 2048 → length (phrase listing_lines (reservation channels p)) ≤ 10
unfolding listing_lines spoken
reservation-long channels p h =
    simp length-append (
    omega (
      arith,
      decimal-long 3 (p / channels + 1) (omega (arith, div-le_self p channels)),
      decimal-long 3 (p % channels + 1) (omega (arith, mod-le p channels)),
    )
    )

listed-long : (channels p byte : ℕ) → p < 2048 → length (phrase listing_lines (listed channels p byte)) ≤ 10
unfolding listed
listed-long channels p byte h = go (sends byte)
  where
    go : (b : Bool) → length (phrase listing_lines (pick b (reservation channels p) Silent)) ≤ 10
    go true = reservation-long channels p h
    go false = omega arith

-- so that it takes no more room
pub listed-put : (channels p byte : ℕ) → p < 2048 → {before after : List ℕ} {at next : ℕ}
    → Put before at (phrase listing_lines (listed channels p byte)) 200 after next → Put before at (phrase listing_lines (listed channels p byte)) 10 after next
listed-put channels p byte h q = record { stored = q.stored; follows = q.follows; short = listed-long channels p byte h }
