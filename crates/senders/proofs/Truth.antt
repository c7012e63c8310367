-- What the row of a cell says, from which its line is made: at each slot and channel of the site. Assumes nothing.
--     sends-there   a reservation is in the row exactly where the table has it
--     clash-there   and in the row of clashes exactly where a cell of its clash row is reserved too
--     barred-there  and in the row of blocked positions exactly where the site blocks it
-- And its line, read back from its letters, says the row: slot and channel by slot and channel.
--     line-sends    the first line of a cell has a slot and a channel exactly where the table reserves them
--     line-clashes  the second exactly where a cell of its clash row is reserved too
--     line-barred   the third exactly where the site blocks it
use Prim.Native.Nat.{ℕ, ◌+◌, ◌*◌, ◌/◌, ◌%◌, ◌^◌, ◌<◌, ◌≤◌}
use mathlib.Core.Path.{◌≡◌, refl, sym, ap, ◌∙◌}
use mathlib.Core.Bool.{Bool, true, false, ◌&&◌, and-true}
use mathlib.Core.List.{List, [], ◌∷◌, ◌++◌, append_assoc}
use native.Mathlib.Omega.{arith}
use lib.Dec.{eqb, ltb}
use lib.ListN.{length, get_or}
use lib.Pow.{pow_pos}
use borrow.Author.Tests.{lt-ltb, ltb-true, ltb-false, ne_eqb, eqb-true, not-false}
use Rattle.laws.specs.Bits.{bit_at, bit_in}
use Rattle.laws.specs.Choice.{pick}
use Rattle.laws.specs.Sum.{any}
use Rattle.laws.proofs.Stores.{length-list, list_at}
use Rattle.laws.proofs.Words.{word-bit, word_lt, shares-any}
use Rattle.laws.proofs.Bits.{none_in}
use Rattle.theory.specs.Greedy.{reserved}
use Rattle.positions.specs.Blocked.{blocked_at}
use Rattle.site.specs.Record.{positions}
use Rattle.site.specs.Reach.{clash_rows}
use Rattle.site.specs.declared.Site.{Site}
use Rattle.site.specs.Means.{Sized}
use Rattle.text.specs.Decimal.{decimal}
use Rattle.text.proofs.Digits.{decimal-one, decimal-two}
use Rattle.speech.specs.Speech.{spoken}
use Rattle.phrases.specs.Phrases.{phrase}
use Rattle.phrases.specs.declared.Phrase.TheVariants.{Row}
use Rattle.say_faults.specs.Said.{judgeable}
use Rattle.say_faults.proofs.Ready.{ready-sizes}
use Rattle.places.specs.Places.{place_of}
use Rattle.say_runs.specs.Runs.{run_before}
use Rattle.say_runs.specs.Said.{runs_said}
use Rattle.say_cells.specs.Lines.{sender_lines, cell_end_row}
use Rattle.say_cells.specs.Cells.{of_kind, held_as, channels_at, slot_channels, sender_row, begin_phrase, none_phrase, row_line, sender_line}
use Rattle.say_cells.specs.declared.SentAs.{SentAs}
use Rattle.say_cells.specs.declared.SentAs.TheVariants.{Sends, Clashing, Barred}
use Rattle.senders.specs.Read.{Span, runs_read_from, runs_told, some_in, run_has, past_colon, line_has}
use Rattle.senders.proofs.Heard.{no_number-law}
use Rattle.senders.proofs.Lines.{row_told}

module _ (s : Site) (t : List ℕ) (i slot f : ℕ) (cell : i < s.cells) (few : s.slots ≤ 128) (below : slot < s.slots) (channel : f < s.channels) where
  abbrev at : ℕ
  at = slot * s.channels + f

  abbrev sent : ℕ → Bool
  sent c = reserved (positions s) t c at

  abbrev clash_row : ℕ
  clash_row = get_or (clash_rows s) i 0

  -- the word of a slot
  word-there : (kind : SentAs) → get_or (sender_row s t kind i) slot 0 ≡ channels_at s t kind i slot
  unfolding sender_row
  word-there kind = list_at (slot_channels s t kind i) 128 slot (omega (arith, few)) ∙ rw (lt-ltb slot s.slots below)

  held-there : (kind : SentAs) → bit_at (get_or (sender_row s t kind i) slot 0) f ≡ (sent i && of_kind kind clash_row (place_of s t at))
  held-there kind =
      ap (λ w. bit_at w f) (word-there kind)
      ∙ word-bit (λ g. held_as kind clash_row i (place_of s t (slot * s.channels + g))) s.channels f channel
      ∙ ap (λ b. b && of_kind kind clash_row (place_of s t at)) (word-bit sent s.cells i cell)

  pub sends-there : bit_at (get_or (sender_row s t Sends i) slot 0) f ≡ sent i
  sends-there = held-there Sends ∙ and-true (sent i)

  pub clash-there : bit_at (get_or (sender_row s t Clashing i) slot 0) f ≡ (sent i && any (λ c. sent c && bit_in (clash_rows s) i c) s.cells)
  clash-there = held-there Clashing ∙ ap (λ b. sent i && b) (shares-any sent s.cells clash_row)

  pub barred-there : bit_at (get_or (sender_row s t Barred i) slot 0) f ≡ (sent i && blocked_at s.blocked at)
  barred-there = held-there Barred

-- ---- the line

-- the digits of a number have no colon
past-number : (x : ℕ) → x < 100 → (rest : List ℕ) → past_colon (decimal x ++ rest) ≡ past_colon rest
unfolding past_colon
past-number x few rest = go (ltb x 10) refl
  where
    go : (q : Bool) → ltb x 10 ≡ q → past_colon (decimal x ++ rest) ≡ past_colon rest
    go true q = rw (decimal-one x (ltb-true x 10 q), ne_eqb (48 + x) 58 (λ z. omega (arith, z, ltb-true x 10 q)))
    go false q =
        rw (decimal-two x (ltb-false x 10 q) few, ne_eqb (48 + x / 10) 58 (λ z. omega (arith, z)), ne_eqb (48 + x % 10) 58 (λ z. omega (arith, z)))

begin-past : (kind : SentAs) (i : ℕ) → i < 32 → (rest : List ℕ) → past_colon (phrase sender_lines (begin_phrase kind i) ++ rest) ≡ rest
unfolding sender_lines spoken past_colon
begin-past Sends i few rest =
    ap past_colon (append_assoc (decimal (i + 1)) (58 ∷ []) rest) ∙ past-number (i + 1) (omega arith) (58 ∷ rest)
begin-past Clashing i few rest = refl
begin-past Barred i few rest = refl

none_past : (kind : SentAs) (i : ℕ) → i < 32 → past_colon (phrase sender_lines (none_phrase kind i)) ≡ []
unfolding sender_lines spoken past_colon
none_past Sends i few = past-number (i + 1) (omega arith) _
none_past Clashing i few = refl
none_past Barred i few = refl

end-text : phrase sender_lines (Row cell_end_row 0 0 0 0) ≡ 10 ∷ []
unfolding sender_lines spoken
end-text = refl

nothing_told : (p : List Span → Bool) → p [] ≡ false → some_in p (runs_told []) ≡ false
unfolding runs_read_from some_in
nothing_told p e = rw e

module _ (s : Site) (t : List ℕ) (i slot f : ℕ) (ok : judgeable s t ≡ true) (cell : i < s.cells) (below : slot < s.slots) (channel : f < s.channels) where
  sizes : Sized s
  sizes = ready-sizes s t ok

  few_cells : i < 32
  few_cells = omega (arith, cell, sizes.cells_most)

  module _ (kind : SentAs) where
    abbrev row : List ℕ
    row = sender_row s t kind i

    row-long : length row ≡ 128
    unfolding sender_row
    row-long = length-list (slot_channels s t kind i) 128

    small : (a : ℕ) → a < 128 → get_or row a 0 < 2 ^ s.channels
    unfolding sender_row
    small a l = rw (list_at (slot_channels s t kind i) 128 a l) (go (ltb a s.slots))
      where
        go : (q : Bool) → pick q (channels_at s t kind i a) 0 < 2 ^ s.channels
        go true = word_lt (λ g. held_as kind (get_or (clash_rows s) i 0) i (place_of s t (a * s.channels + g))) s.channels
        go false = pow_pos s.channels

    abbrev has : List Span → Bool
    has = run_has (slot + 1) (f + 1)

    inside : slot < length row
    inside = omega (arith, row-long, below, sizes.slots_most)

    idle : run_before row 128 ≡ false → bit_at (get_or row slot 0) f ≡ false
    idle e =
        let none = no_number-law row 128 e slot (omega (arith, below, sizes.slots_most)) in
        let zero : get_or row slot 0 ≡ 0 = eqb-true (get_or row slot 0) 0 (not-false (eqb (get_or row slot 0) 0) none) in
        ap (λ w. bit_at w f) zero ∙ none_in f

    line-told : line_has (slot + 1) (f + 1) (sender_line s t kind i) ≡ bit_at (get_or row slot 0) f
    unfolding sender_line row_line
    line-told = rw (ok, lt-ltb i s.cells cell) (go (run_before row 128) refl)
      where
        go : (q : Bool) → run_before row 128 ≡ q
            → line_has (slot + 1) (f + 1)
            (pick q (phrase sender_lines (begin_phrase kind i) ++ (runs_said s.channels row ++ phrase sender_lines (Row cell_end_row 0 0 0 0)))
            (phrase sender_lines (none_phrase kind i)))
            ≡ bit_at (get_or row slot 0) f
        go true e =
            ap (λ (l : List ℕ). some_in has (runs_told l))
            (begin-past kind i few_cells (runs_said s.channels row ++ phrase sender_lines (Row cell_end_row 0 0 0 0)))
            ∙ ap (λ (l : List ℕ). some_in has (runs_told (runs_said s.channels row ++ l))) end-text
            ∙ row_told s.channels row (omega (arith, row-long)) sizes.channels_most (λ a l. small a (omega (arith, l, row-long))) slot f inside channel
        go false e = ap (λ (l : List ℕ). some_in has (runs_told l)) (none_past kind i few_cells) ∙ nothing_told has refl ∙ sym (idle e)

  abbrev at' : ℕ
  at' = slot * s.channels + f

  abbrev sends : ℕ → Bool
  sends c = reserved (positions s) t c at'

  few : s.slots ≤ 128
  few = sizes.slots_most

  pub line-sends : line_has (slot + 1) (f + 1) (sender_line s t Sends i) ≡ sends i
  line-sends = line-told Sends ∙ sends-there s t i slot f cell few below channel

  pub line-clashes : line_has (slot + 1) (f + 1) (sender_line s t Clashing i) ≡ (sends i && any (λ c. sends c && bit_in (clash_rows s) i c) s.cells)
  line-clashes = line-told Clashing ∙ clash-there s t i slot f cell few below channel

  pub line-barred : line_has (slot + 1) (f + 1) (sender_line s t Barred i) ≡ (sends i && blocked_at s.blocked at')
  line-barred = line-told Barred ∙ barred-there s t i slot f cell few below channel
