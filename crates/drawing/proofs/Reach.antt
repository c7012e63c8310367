-- "The arcs and arrows are the record's reach." The text of the lines gives an arc for each two cells that reach each other, and an arrow for each that
-- reaches one way; and no two cells have one middle.
--     lines-arcs, lines-arrows     what the text gives
--     arcs-are, arrows-are         an arc, or an arrow, is drawn exactly where the record has the reach
-- Assumes nothing.
use Prim.Native.Nat.{ℕ, ◌+◌, ◌-◌, ◌*◌, ◌/◌, ◌≤◌, ◌<◌}
use mathlib.Core.Path.{◌≡◌, refl, sym, ap, ◌∙◌}
use mathlib.Core.Bool.{Bool, true, false, ◌&&◌, not, true≢false}
use mathlib.Core.List.{List, [], ◌∷◌, ◌++◌}
use native.Mathlib.Nat.{mul-le-mul, le-div_iff_mul-le, div-lt_iff_lt-mul}
use native.Mathlib.Omega.{arith}
use lib.Dec.{eqb, ltb}
use borrow.Author.Tests.{eqb-true, eq-eqb, lt-ltb}
use Rattle.laws.specs.Choice.{pick}
use Rattle.laws.proofs.Choice.{both, both_is, alike}
use Rattle.laws.proofs.Any.{any_here, any_some}
use Rattle.laws.proofs.Grid.{same_place}
use Rattle.faults.specs.Faults.{in_turn}
use Rattle.speech.specs.Speech.{bytes}
use Rattle.phrases.specs.Phrases.{phrase}
use Rattle.phrases.specs.declared.Phrase.TheVariants.{Silent, Row}
use Rattle.readback.specs.Back.{values_from, spaced, unlike, unlike_at}
use Rattle.readback.proofs.Back.{read-row, read-unlike}
use Rattle.site.specs.Reach.{reaches}
use Rattle.site.specs.declared.Site.{Site}
use Rattle.site.proofs.Faults.{Sized}
use Rattle.drawing.specs.Range.{reach_lines, arc_line, arrow_line, cell_step, cell_at, bend_of, both_ways, one_way, drawn_third, line_phrase, lines_said}
use Rattle.drawing.specs.Read.{some_of, goes_from, drawn_from}
use Rattle.drawing.proofs.Gives.{Gives, gives-joined, some-joined, some_one, one-some}

abbrev pub arc_tail : List ℕ
arc_tail = bytes "path class=\"arc\" d=\"M@1 226Q@2 @3 @4 226\"/>\n"

abbrev pub arrow_tail : List ℕ
arrow_tail = bytes "path class=\"arrow\" d=\"M@1 276Q@2 @3 @4 276\"/>\n"

-- ---- one line

abbrev line_of : (arc arrow third : Bool) (a m u d b : ℕ) → List ℕ
line_of arc arrow third a m u d b = phrase reach_lines (pick arc (Row 0 a m u b) (pick arrow (Row 1 a m d b) (pick third (Row 2 a m u b) Silent)))

line-arc : (arc arrow third : Bool) (a m u d b : ℕ) → a < 100000 → m < 100000 → u < 100000 → b < 100000
    → Gives arc_tail (line_of arc arrow third a m u d b) (pick arc ((a ∷ m ∷ u ∷ b ∷ []) ∷ []) [])
unfolding reach_lines values_from spaced unlike unlike_at
line-arc true arrow third a m u d b p q r z rest = read-row arc_tail a m u b [] rest p q r z refl refl refl
line-arc false true third a m u d b p q r z rest = read-unlike arc_tail a m d b (60 ∷ arrow_tail) rest refl
line-arc false false true a m u d b p q r z rest = read-unlike arc_tail a m u b (bytes "<path class=\"third\" d=\"M@1 226Q@2 @3 @4 226\"/>\n") rest refl
line-arc false false false a m u d b p q r z rest = refl

line-arrow : (arc arrow third : Bool) (a m u d b : ℕ) → a < 100000 → m < 100000 → d < 100000 → b < 100000
    → Gives arrow_tail (line_of arc arrow third a m u d b) (pick arc [] (pick arrow ((a ∷ m ∷ d ∷ b ∷ []) ∷ []) []))
unfolding reach_lines values_from spaced unlike unlike_at
line-arrow true arrow third a m u d b p q r z rest = read-unlike arrow_tail a m u b (60 ∷ arc_tail) rest refl
line-arrow false true third a m u d b p q r z rest = read-row arrow_tail a m d b [] rest p q r z refl refl refl
line-arrow false false true a m u d b p q r z rest = read-unlike arrow_tail a m u b (bytes "<path class=\"third\" d=\"M@1 226Q@2 @3 @4 226\"/>\n") rest refl
line-arrow false false false a m u d b p q r z rest = refl

-- ---- the sizes

module _ (s : Site) where
  pub step-most : cell_step s ≤ 860
  unfolding cell_step
  step-most = omega arith

  module _ (sizes : Sized s) where
    pub step-some : 0 < cell_step s
    unfolding cell_step
    step-some = let some : 1 ≤ 1720 / s.cells = (le-div_iff_mul-le sizes.cells_some).1 (omega (arith, sizes.cells_most)) in omega (arith, some)

    pub cell-most : (i : ℕ) → i < s.cells → cell_at s i ≤ 27190
    cell-most i l =
        let few : i ≤ 31 = omega (arith, sizes.cells_most) in
        let far : i * cell_step s ≤ 31 * 860 = mul-le-mul few step-most in
        omega (arith, far, step-most)

    -- it stays in the picture
    pub bend-low : (a b : ℕ) → bend_of s a b ≤ 220
    unfolding bend_of
    bend-low a b =
        let d : ℕ = (a - b) + (b - a) in
        let less : 200 * d / (1 + (d + s.cells / 8)) < 201 = (div-lt_iff_lt-mul {k = 1 + (d + s.cells / 8)} (omega arith)).1 (omega arith) in
        omega (arith, less)

    -- no two cells have one middle
    pub cell-one : (a b : ℕ) → cell_at s a ≡ cell_at s b → a ≡ b
    cell-one a b e = (same_place (cell_step s) a b 0 0 step-some step-some (omega (arith, e))).0

    -- ---- the text of all lines

    abbrev pub arc_mark : (a b : ℕ) → List ℕ
    arc_mark a b = cell_at s a ∷ ((cell_at s a + cell_at s b) / 2) ∷ (226 - bend_of s a b) ∷ cell_at s b ∷ []

    abbrev pub arrow_mark : (a b : ℕ) → List ℕ
    arrow_mark a b = cell_at s a ∷ ((cell_at s a + cell_at s b) / 2) ∷ (276 + bend_of s a b) ∷ cell_at s b ∷ []

    abbrev pub arc_marks : List (List ℕ)
    arc_marks = in_turn (λ a. in_turn (λ b. pick (both_ways s a b) (arc_mark a b ∷ []) []) s.cells) s.cells

    abbrev pub arrow_marks : List (List ℕ)
    arrow_marks = in_turn (λ a. in_turn (λ b. pick (both_ways s a b) [] (pick (one_way s a b) (arrow_mark a b ∷ []) [])) s.cells) s.cells

    pub lines-arcs : Gives arc_tail (lines_said s s.cells) arc_marks
    unfolding line_phrase
    lines-arcs =
        gives-joined arc_tail _ _ s.cells (λ a l.
        gives-joined arc_tail _ _ s.cells (λ b m.
        line-arc (both_ways s a b) (one_way s a b) (drawn_third s a b) _ _ _ (276 + bend_of s a b) _
        (omega (arith, cell-most a l))
        (omega (arith, cell-most a l, cell-most b m))
        (omega arith)
        (omega (arith, cell-most b m))))

    pub lines-arrows : Gives arrow_tail (lines_said s s.cells) arrow_marks
    unfolding line_phrase
    lines-arrows =
        gives-joined arrow_tail _ _ s.cells (λ a l.
        gives-joined arrow_tail _ _ s.cells (λ b m.
        line-arrow (both_ways s a b) (one_way s a b) (drawn_third s a b) _ _ (226 - bend_of s a b) _ _
        (omega (arith, cell-most a l))
        (omega (arith, cell-most a l, cell-most b m))
        (omega (arith, bend-low a b))
        (omega (arith, cell-most b m))))

    -- ---- from which cell to which

    goes-is : (a b c d m u : ℕ) → goes_from s a b (cell_at s c ∷ m ∷ u ∷ cell_at s d ∷ []) ≡ true → (c ≡ a) × (d ≡ b)
    unfolding goes_from
    goes-is a b c d m u e =
        let p = both (eqb (cell_at s c) (cell_at s a)) (eqb (cell_at s d) (cell_at s b)) e in
        (cell-one c a (eqb-true _ _ p.0), cell-one d b (eqb-true _ _ p.1))

    is-goes : (a b m u : ℕ) → goes_from s a b (cell_at s a ∷ m ∷ u ∷ cell_at s b ∷ []) ≡ true
    unfolding goes_from
    is-goes a b m u = both_is _ _ (eq-eqb (cell_at s a) (cell_at s a) refl) (eq-eqb (cell_at s b) (cell_at s b) refl)

    -- what was read of two cells holds of the two that were asked for
    moved : (f : ℕ → ℕ → Bool) (a b c d : ℕ) → (c ≡ a) × (d ≡ b) → f c d ≡ true → f a b ≡ true
    moved f a b c d e h = rw (e.0, e.1) at h

    -- an arrow is of two that do not both reach
    some-arrow : (p : List ℕ → Bool) (x y : Bool) (v : List ℕ) → some_of p (pick x [] (pick y (v ∷ []) [])) ≡ true → (y ≡ true) × (p v ≡ true)
    unfolding some_of
    some-arrow p true y v e = absurd (true≢false (sym e))
    some-arrow p false y v e = some_one p y v e

    one-not-both : (x y z : Bool) → (x && not y) ≡ true → (z && (x && y)) ≡ false
    one-not-both true true z e = absurd (true≢false (sym e))
    one-not-both true false true e = refl
    one-not-both true false false e = refl
    one-not-both false y z e = absurd (true≢false (sym e))

    module _ (a b : ℕ) (al : a < s.cells) (bl : b < s.cells) where
      arcs-more : drawn_from s a b arc_marks ≡ true → both_ways s a b ≡ true
      arcs-more h =
          let row : ℕ → List (List ℕ) = λ c. in_turn (λ d. pick (both_ways s c d) (arc_mark c d ∷ []) []) s.cells in
          let x = any_some _ s.cells (sym (some-joined (goes_from s a b) row s.cells) ∙ h) in
          let y = any_some _ s.cells (sym (some-joined (goes_from s a b) (λ d. pick (both_ways s x.0 d) (arc_mark x.0 d ∷ []) []) s.cells) ∙ x.2) in
          let one = some_one (goes_from s a b) (both_ways s x.0 y.0) (arc_mark x.0 y.0) y.2 in
          moved (both_ways s) a b x.0 y.0 (goes-is a b x.0 y.0 _ _ one.1) one.0

      arcs-fewer : both_ways s a b ≡ true → drawn_from s a b arc_marks ≡ true
      arcs-fewer h =
          some-joined (goes_from s a b) (λ c. in_turn (λ d. pick (both_ways s c d) (arc_mark c d ∷ []) []) s.cells) s.cells
          ∙ any_here _ s.cells a al
          (some-joined (goes_from s a b) (λ d. pick (both_ways s a d) (arc_mark a d ∷ []) []) s.cells
          ∙ any_here _ s.cells b bl (one-some (goes_from s a b) (both_ways s a b) (arc_mark a b) h (is-goes a b _ _)))

      -- an arc from the lower of two cells to the higher, exactly where each reaches the other
      pub arcs-are : a < b → drawn_from s a b arc_marks ≡ (reaches s.reach a b && reaches s.reach b a)
      arcs-are l = alike _ _ arcs-more arcs-fewer ∙ rw (lt-ltb a b l)

      arrows-more : drawn_from s a b arrow_marks ≡ true → one_way s a b ≡ true
      arrows-more h =
          let row : ℕ → ℕ → List (List ℕ) = λ c d. pick (both_ways s c d) [] (pick (one_way s c d) (arrow_mark c d ∷ []) []) in
          let x = any_some _ s.cells (sym (some-joined (goes_from s a b) (λ c. in_turn (row c) s.cells) s.cells) ∙ h) in
          let y = any_some _ s.cells (sym (some-joined (goes_from s a b) (row x.0) s.cells) ∙ x.2) in
          let one = some-arrow (goes_from s a b) (both_ways s x.0 y.0) (one_way s x.0 y.0) (arrow_mark x.0 y.0) y.2 in
          moved (one_way s) a b x.0 y.0 (goes-is a b x.0 y.0 _ _ one.1) one.0

      arrows-fewer : one_way s a b ≡ true → drawn_from s a b arrow_marks ≡ true
      arrows-fewer h =
          let row : ℕ → ℕ → List (List ℕ) = λ c d. pick (both_ways s c d) [] (pick (one_way s c d) (arrow_mark c d ∷ []) []) in
          let no : both_ways s a b ≡ false = one-not-both (reaches s.reach a b) (reaches s.reach b a) (ltb a b) h in
          some-joined (goes_from s a b) (λ c. in_turn (row c) s.cells) s.cells
          ∙ any_here _ s.cells a al
          (some-joined (goes_from s a b) (row a) s.cells
          ∙ any_here _ s.cells b bl (rw no (one-some (goes_from s a b) (one_way s a b) (arrow_mark a b) h (is-goes a b _ _))))

      -- an arrow from a cell to another, exactly where it reaches that one and is not reached by it
      pub arrows-are : drawn_from s a b arrow_marks ≡ one_way s a b
      arrows-are = alike _ _ arrows-more arrows-fewer
