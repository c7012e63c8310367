-- What the lines of a piece say. Assumes nothing.
--     column-at     the column of a slot stands at the same place in each line
--     column-sends  in the line of a channel it names exactly the cells that the table reserves there
--     line-long     each line of a piece is as wide as the piece
--     piece-fits    a piece fits the width, where it has more slots than one
--     piece-some    it has a slot at least, and none that the site does not have: so the pieces have every slot once
use Prim.Native.Nat.{ℕ, zero, suc, ◌+◌, ◌-◌, ◌*◌, ◌≤◌, ◌<◌}
use mathlib.Core.Path.{◌≡◌, refl, sym, ap, ap₂, ◌∙◌}
use mathlib.Core.Bool.{Bool, true, false, true≢false}
use mathlib.Core.List.{List, [], ◌∷◌, ◌++◌, append_assoc, append-nil}
use mathlib.Core.Logic.{◌⊎◌, inl, inr, ⊎_elim}
use native.Mathlib.Omega.{arith}
use lib.Dec.{eqb, ltb}
use lib.ListN.{length, take, length-append}
use lib.Seq.{take-append_seam, drop-append_seam}
use borrow.Author.Tests.{eq-eqb, ne_eqb, ltb-true, ltb-false, eqb-true, lt-ltb}
use Rattle.laws.specs.Choice.{pick}
use Rattle.laws.specs.Part.{part}
use Rattle.laws.specs.Sum.{sum}
use Rattle.laws.proofs.Choice.{cases, at_least}
use Rattle.laws.proofs.Search.{first-least, first-most, first-before}
use Rattle.laws.proofs.Sums.{sum-eq}
use Rattle.faults.specs.Faults.{in_turn, passed}
use Rattle.faults.proofs.InTurn.{turn-length, turn_suc}
use Rattle.theory.specs.Greedy.{reserved}
use Rattle.text.proofs.Digits.{one-long, two-long}
use Rattle.speech.specs.Speech.{spoken}
use Rattle.site.specs.Record.{positions}
use Rattle.site.specs.declared.Site.{Site}
use Rattle.phrases.specs.Phrases.{phrase}
use Rattle.phrases.specs.declared.Phrase.TheVariants.{Row}
use Rattle.say_faults.specs.Said.{judgeable}
use Rattle.say_faults.proofs.Ready.{ready-sizes}
use Rattle.places.specs.Places.{place_of, place_said}
use Rattle.places.specs.Read.{numbers_told}
use Rattle.places.proofs.Read.{blank-read}
use Rattle.places.proofs.Truth.{place-sends}
use Rattle.say_grid.specs.Lines.{grid_lines, grid_slots_row, channel_row, long_channel_row, grid_end_row}
use Rattle.say_grid.specs.Grid.{entry_said, column_width, blanks, column_said, columns_said, line_head, line_there, whole_line, grid_line}
use Rattle.say_grid.specs.Grid.{piece_width, fitting, piece_slots}
use Rattle.say_grid.proofs.Steps.{entry-fits, there_has}

blanks-more : (n : ℕ) → blanks (suc n) ≡ blanks n ++ (32 ∷ [])
unfolding in_turn
blanks-more n = refl

no-blanks : blanks 0 ≡ []
unfolding in_turn
no-blanks = refl

blanks-long : (n : ℕ) → length (blanks n) ≡ n
blanks-long zero = ap length no-blanks
blanks-long (suc n) = ap length (blanks-more n) ∙ omega (arith, length-append (blanks n) (32 ∷ []), blanks-long n)

blanks-read : (n : ℕ) (rest : List ℕ) → numbers_told (blanks n ++ rest) ≡ numbers_told rest
blanks-read zero rest = ap (λ (l : List ℕ). numbers_told (l ++ rest)) no-blanks
blanks-read (suc n) rest =
    ap (λ (l : List ℕ). numbers_told (l ++ rest)) (blanks-more n)
    ∙ ap numbers_told (append_assoc (blanks n) (32 ∷ []) rest)
    ∙ blanks-read n (32 ∷ rest)
    ∙ blank-read rest

-- how a line begins: ten letters
head-long : (line : ℕ) → line ≤ 16 → length (phrase grid_lines (line_head line)) ≡ 10
unfolding grid_lines spoken
head-long line few = go (eqb line 0) (ltb line 10) refl
  where
    go : (z t : Bool) → ltb line 10 ≡ t
        → length (phrase grid_lines (pick z (Row grid_slots_row 0 0 0 0) (pick t (Row channel_row line 0 0 0) (Row long_channel_row line 0 0 0)))) ≡ 10
    go true t q = refl
    go false true q = simp length-append (omega (arith, one-long line (ltb-true line 10 q)))
    go false false q = simp length-append (omega (arith, two-long line (ltb-false line 10 q) (omega arith)))

end-long : length (phrase grid_lines (Row grid_end_row 0 0 0 0)) ≡ 1
unfolding grid_lines spoken
end-long = refl

-- one list of those joined, and what is before and after it
split_at : (g : ℕ → List ℕ) (n j : ℕ) → j < n → (rest : List ℕ) × (in_turn g n ≡ in_turn g j ++ (g j ++ rest))
split_at g zero j h = absurd (omega arith)
split_at g (suc n) j h = ⊎_elim (λ e. last (eqb-true j n e)) (λ e. earlier (split_at g n j (below e))) (cases (eqb j n))
  where
    last : j ≡ n → (rest : List ℕ) × (in_turn g (suc n) ≡ in_turn g j ++ (g j ++ rest))
    last e = ([], turn_suc g n ∙ rw e (ap (λ (l : List ℕ). in_turn g n ++ l) (sym (append-nil (g n)))))

    below : eqb j n ≡ false → j < n
    below e = at_least (suc j) n (λ l. true≢false (sym (eq-eqb j n (omega (arith, h, l))) ∙ e))

    earlier : (rest : List ℕ) × (in_turn g n ≡ in_turn g j ++ (g j ++ rest)) → (rest : List ℕ) × (in_turn g (suc n) ≡ in_turn g j ++ (g j ++ rest))
    earlier w = (
      w.0 ++ g n,
      turn_suc g n ∙ ap (λ (l : List ℕ). l ++ g n) w.1 ∙ append_assoc (in_turn g j) (g j ++ w.0) (g n)
          ∙ ap (λ (l : List ℕ). in_turn g j ++ l) (append_assoc (g j) w.0 (g n)),
    )

-- what stands between two texts
part-seam : (x y z : List ℕ) → part (length x) (length y) (x ++ (y ++ z)) ≡ y
unfolding part
part-seam x y z = ap (take (length y)) (drop-append_seam x (y ++ z)) ∙ take-append_seam y z

module _ (s : Site) (t : List ℕ) where
  column-long : (line slot : ℕ) → line ≤ s.channels → length (column_said s t line slot) ≡ column_width s t slot + 2
  column-long line slot h =
      let e = entry_said s t line slot in
      let n = column_width s t slot + 2 - length e in
      omega (arith, length-append (blanks n) e, blanks-long n, entry-fits s t line slot h)

  columns-long : (line from many : ℕ) → line ≤ s.channels
      → length (columns_said s t line from many) ≡ sum (λ j. column_width s t (from + j) + 2) many
  columns-long line from many h =
      turn-length (λ j. column_said s t line (from + j)) many
      ∙ sum-eq (λ j. length (column_said s t line (from + j))) (λ j. column_width s t (from + j) + 2) many (λ j l. column-long line (from + j) h)

  -- what stands in a line before a column
  before-long : (line from many : ℕ) → line ≤ s.channels → line ≤ 16
      → length (phrase grid_lines (line_head line) ++ columns_said s t line from many) ≡ piece_width s t from many
  unfolding piece_width
  before-long line from many h few =
      omega (arith, length-append (phrase grid_lines (line_head line)) (columns_said s t line from many), head-long line few, columns-long line from many h)

  module _ (line from many : ℕ) (is : line_there s t line from many ≡ true) where
    has : (judgeable s t ≡ true) × (line ≤ s.channels) × (from + many ≤ s.slots)
    has = there_has s t line from many is

    few-lines : line ≤ 16
    few-lines = omega (arith, has.1, (ready-sizes s t has.0).channels_most)

    whole : grid_line s t line from many ≡ whole_line s t line from many
    unfolding grid_line
    whole = rw is

    pub line-long : length (grid_line s t line from many) ≡ piece_width s t from many + 1
    line-long =
        let head = phrase grid_lines (line_head line) in
        let columns = columns_said s t line from many in
        let end = phrase grid_lines (Row grid_end_row 0 0 0 0) in
        ap length (whole ∙ sym (append_assoc head columns end))
        ∙ omega (arith, length-append (head ++ columns) end, before-long line from many has.1 few-lines, end-long)

    pub column-at : (j : ℕ) → j < many
        → part (piece_width s t from j) (column_width s t (from + j) + 2) (grid_line s t line from many) ≡ column_said s t line (from + j)
    column-at j l =
        let head = phrase grid_lines (line_head line) in
        let end = phrase grid_lines (Row grid_end_row 0 0 0 0) in
        let g : ℕ → List ℕ = λ x. column_said s t line (from + x) in
        let w = split_at g many j l in
        let text : grid_line s t line from many ≡ (head ++ in_turn g j) ++ (g j ++ (w.0 ++ end)) =
        whole
        ∙ ap (λ (x : List ℕ). head ++ (x ++ end)) w.1
        ∙ ap (λ (x : List ℕ). head ++ x) (append_assoc (in_turn g j) (g j ++ w.0) end)
        ∙ ap (λ (x : List ℕ). head ++ (in_turn g j ++ x)) (append_assoc (g j) w.0 end)
        ∙ sym (append_assoc head (in_turn g j) (g j ++ (w.0 ++ end))) in
        ap₂ (λ a m. part a m (grid_line s t line from many)) (sym (before-long line from j has.1 few-lines)) (sym (column-long line (from + j) has.1))
        ∙ ap (part (length (head ++ in_turn g j)) (length (g j))) text
        ∙ part-seam (head ++ in_turn g j) (g j) (w.0 ++ end)

  entry-is : (line slot : ℕ) → (line ≡ 0 → ⊥) → entry_said s t line slot ≡ place_said (place_of s t (slot * s.channels + (line - 1)))
  unfolding entry_said
  entry-is line slot some = rw (ne_eqb line 0 some)

  pub column-sends : (line slot : ℕ) → (line ≡ 0 → ⊥) → s.cells ≤ 32
      → numbers_told (column_said s t line slot) ≡ passed (λ i. reserved (positions s) t i (slot * s.channels + (line - 1))) (λ i. i + 1) s.cells
  column-sends line slot some few =
      blanks-read (column_width s t slot + 2 - length (entry_said s t line slot)) (entry_said s t line slot)
      ∙ ap numbers_told (entry-is line slot some)
      ∙ place-sends s t (slot * s.channels + (line - 1)) few

  module _ (width from : ℕ) (ok : judgeable s t ≡ true) (below : from < s.slots) where
    slots_are : piece_slots s t width from ≡ fitting s t width from
    unfolding piece_slots
    slots_are = rw (ok, lt-ltb from s.slots below)

    pub piece-some : (1 ≤ piece_slots s t width from) × (piece_slots s t width from ≤ s.slots - from)
    unfolding fitting
    piece-some =
        let over : ℕ → Bool = λ m. ltb width (piece_width s t from (m + 1)) in
        let few = first-least over 1 (s.slots - from) in
        let most = first-most over 1 (s.slots - from) (omega arith) in
        (omega (arith, slots_are, few), omega (arith, slots_are, most))

    fits : (m : ℕ) → piece_slots s t width from ≡ m → 2 ≤ m → piece_width s t from m ≤ width
    unfolding fitting
    fits m e h =
        let over : ℕ → Bool = λ k. ltb width (piece_width s t from (k + 1)) in
        let no = first-before over 1 (s.slots - from) (m - 1) (omega arith) (omega (arith, slots_are, e)) in
        let same : m - 1 + 1 ≡ m = omega arith in
        ltb-false width (piece_width s t from m) (rw same at no)

    more : (m : ℕ) → piece_slots s t width from ≡ m → eqb m 1 ≡ false → 2 ≤ m
    more m e q = at_least 2 m (λ l. true≢false (sym (eq-eqb m 1 (omega (arith, l, piece-some.0, e))) ∙ q))

    pub piece-fits : (piece_slots s t width from ≡ 1) ⊎ (piece_width s t from (piece_slots s t width from) ≤ width)
    piece-fits =
        let m = piece_slots s t width from in
        ⊎_elim (λ q. inl (eqb-true m 1 q)) (λ q. inr (fits m refl (more m refl q))) (cases (eqb m 1))
