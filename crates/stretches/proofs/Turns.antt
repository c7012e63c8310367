-- A stretch worked out cell by cell. Once the cells below i had their turn, those from i on are open that are in need and clash with none taken.
-- So cell i is taken exactly where it is open; the cells of its clash row are then barred, and else nothing changes.
-- With each cell taken, the run gets no longer than what that has left. `met` has the cells that are barred, and `rest` cells in need, among them all
-- that are open.
--     unturned, turn_more, turned-all     at first, one cell more, and at the end
--     left-apart, left-more               what is left where the barred cells are dropped, and after a cell that is taken
-- Assumes nothing.
use mathlib.Core.Path.{◌≡◌, refl, sym, ap, ap₂, ◌∙◌}
use mathlib.Core.Bool.{Bool, true, false, ◌&&◌, ◌||◌, not, and-true, and-false, and_assoc, or-false, true≢false}
use mathlib.Core.List.{List}
use Prim.Native.Nat.{ℕ, suc, ◌+◌, ◌-◌, ◌^◌, ◌≤◌, ◌<◌, min}
use native.Mathlib.Decide.{le_ind}
use native.Mathlib.Omega.{arith}
use native.Mathlib.Nat.{add-zero, le_refl}
use native.Mathlib.Numerals.{add-one}
use lib.Bits.{bit_and, bit_or}
use lib.Count.{count_trailing_zeros}
use lib.Dec.{leb}
use lib.ListN.{get_or}
use borrow.Author.Tests.{le-leb}
use Rattle.laws.specs.Bits.{bit_at, bit_in, word_of}
use Rattle.laws.specs.Choice.{pick}
use Rattle.laws.specs.Sum.{any}
use Rattle.laws.proofs.Bits.{bit-either, none_in}
use Rattle.laws.proofs.Choice.{refute, both, both_is}
use Rattle.laws.proofs.Upward.{from_on, walk-done, walk_inside, walk_from, walk_here, walk-passed, walk-off}
use Rattle.laws.proofs.Words.{word-zero, word-suc, word_more, word-bit, word_lt, bits-eq}
use Rattle.theory.specs.Positions.{chosen}
use Rattle.theory.proofs.Chosen.{chosen_is}
use Rattle.stretches.specs.Stretches.{shortest}
use Rattle.stretches.proofs.Runs.{shortest-none, shortest-suc}

module _ (rows left : List ℕ) (need most : ℕ) where
  -- whether some cell below i that is taken clashes with b
  abbrev pub barred : ℕ → ℕ → Bool
  barred i b = any (λ m. bit_in rows m b && chosen (bit_in rows) (bit_at need) m) i

  -- whether b is in need and clashes with no cell below i that is taken
  abbrev pub opened : ℕ → ℕ → Bool
  opened i b = bit_at need b && not (any (λ m. bit_in rows m b && chosen (bit_in rows) (bit_at need) m) i)

  -- the cells below i had their turn
  pub record Turned (i word run : ℕ) : Type 0 where
    pub taken : word ≡ word_of (chosen (bit_in rows) (bit_at need)) i
    pub lasts : run ≡ shortest (chosen (bit_in rows) (bit_at need)) (λ j. get_or left j 0) most i

  abbrev chose : ℕ → Bool
  chose = chosen (bit_in rows) (bit_at need)

  abbrev has : ℕ → ℕ
  has j = get_or left j 0

  barred-more : (i b : ℕ) → barred (suc i) b ≡ (barred i b || (bit_in rows i b && chose i))
  unfolding any
  barred-more i b = refl

  here : (i : ℕ) → opened i i ≡ chose i
  here i = sym (chosen_is (bit_in rows) (bit_at need) i)

  -- ---- cell i is not taken

  past-barred : (i b : ℕ) → chose i ≡ false → barred (suc i) b ≡ barred i b
  past-barred i b none =
      barred-more i b ∙ ap (λ u. barred i b || (bit_in rows i b && u)) none ∙ ap (λ u. barred i b || u) (and-false (bit_in rows i b)) ∙ or-false (barred i b)

  same_word : (p : ℕ → Bool) (i : ℕ) → p i ≡ false → word_of p i ≡ word_of p (suc i)
  same_word p i e = sym (word-suc p i ∙ ap (λ u. word_of p i + pick u (2 ^ i) 0) e ∙ add-zero (word_of p i))

  past : (i word run : ℕ) → chose i ≡ false → Turned i word run → Turned (suc i) word run
  past i word run none t = record {
    taken = t.taken ∙ same_word chose i none;
    lasts = t.lasts ∙ sym (shortest-suc chose has most i ∙ ap (λ u. pick u (min (shortest chose has most i) (has i)) (shortest chose has most i)) none);
  }

  -- nor any up to j
  module _ (i word run : ℕ) (t : Turned i word run) where
    on : (j : ℕ) → i ≤ j → ((b : ℕ) → i ≤ b → b < j → opened i b ≡ false) → Turned j word run × ((b : ℕ) → barred j b ≡ barred i b)
    on j l none =
        le_ind (λ (m : ℕ). m ≤ j → Turned m word run × ((b : ℕ) → barred m b ≡ barred i b)) (λ _. (t, λ b. refl))
        (λ m g go h.
        let u = go (omega arith) in
        let miss : chose m ≡ false = sym (here m) ∙ ap (λ v. bit_at need m && not v) (u.1 m) ∙ none m g h in
        (past m word run miss u.0, λ b. past-barred m b miss ∙ u.1 b))
        j l (le_refl j)

  -- ---- cell i is taken

  module _ (i word run : ℕ) (is : chose i ≡ true) (t : Turned i word run) where
    took-barred : (b : ℕ) → barred (i + 1) b ≡ (barred i b || bit_in rows i b)
    took-barred b =
        ap (λ n. barred n b) (add-one i)
        ∙ barred-more i b
        ∙ ap (λ u. barred i b || (bit_in rows i b && u)) is
        ∙ ap (λ u. barred i b || u) (and-true (bit_in rows i b))

    took : (run' : ℕ) → run' ≡ min run (has i) → Turned (i + 1) (bit_or word (2 ^ i)) run'
    took run' e = record {
      taken = ap₂ (λ w u. bit_or w (pick u (2 ^ i) 0)) t.taken (sym is) ∙ word_more chose i;
      lasts =
          e ∙ ap (λ x. min x (has i)) t.lasts
          ∙ sym (ap (shortest chose has most) (add-one i) ∙ shortest-suc chose has most i
          ∙ ap (λ u. pick u (min (shortest chose has most i) (has i)) (shortest chose has most i)) is);
    }

  -- ---- the loop

  -- what is left once the cells below i had their turn: those from i on that pass q
  pub record Left (cells i met rest : ℕ) (q : ℕ → Bool) : Type 0 where
    pub is-rest : rest ≡ word_of (from_on q i) cells
    pub is-met : (b : ℕ) → bit_at met b ≡ barred i b
    pub wide : (b : ℕ) → opened i b ≡ true → q b ≡ true
    pub within : (b : ℕ) → q b ≡ true → bit_at need b ≡ true

  pub unturned : (cells : ℕ) → need < 2 ^ cells → Turned 0 0 most × Left cells 0 0 need (bit_at need)
  unfolding any
  unturned cells h = (
    record { taken = sym (word-zero chose); lasts = shortest-none chose has most },
    record {
      is-rest = bits-eq (from_on (bit_at need) 0) need cells h (λ b l. sym (ap (λ u. u && bit_at need b) (le-leb 0 b (omega arith))));
      is-met = λ b. none_in b;
      wide = λ b e. (both (bit_at need b) (not (barred 0 b)) e).0;
      within = λ b e. e;
    },
  )

  module _ (cells i word run met rest : ℕ) (q : ℕ → Bool) (t : Turned i word run) (o : Left cells i met rest q) where
    -- a cell that is not left is not open
    shut : (b : ℕ) → q b ≡ false → opened i b ≡ false
    shut b e = refute (opened i b) (λ d. true≢false (sym (o.wide b d) ∙ e))

    pub turned-all : rest ≡ 0 → i ≤ cells → Turned cells word run
    turned-all done l = (on i word run t cells l (λ b g h. shut b (walk-done q cells i rest o.is-rest done b g h))).0

    module _ (some : rest ≡ 0 → ⊥) (small : cells ≤ 32) where
      abbrev at : ℕ
      at = count_trailing_zeros 32 rest

      up : Turned at word run × ((b : ℕ) → barred at b ≡ barred i b)
      up =
          on i word run t at (walk_from q cells i rest o.is-rest some small) (λ b g h. shut b (walk-passed q cells i rest o.is-rest some small b g h))

      -- ---- the cells that are barred are dropped

      pub left-apart : (rest' : ℕ) → rest' ≡ word_of (λ b. bit_at rest b && not (bit_at met b)) 32 → rest' ≤ rest
          → Left cells i met rest' (λ b. q b && not (bit_at met b))
      left-apart rest' e h = record {
        is-rest = bits-eq (from_on (λ b. q b && not (bit_at met b)) i) rest' cells (omega (arith, o.is-rest, word_lt (from_on q i) cells)) (λ b l.
            ap (λ x. bit_at x b) e
            ∙ word-bit (λ b. bit_at rest b && not (bit_at met b)) 32 b (omega arith)
            ∙ ap (λ u. u && not (bit_at met b)) (ap (λ x. bit_at x b) o.is-rest ∙ word-bit (from_on q i) cells b l)
            ∙ and_assoc (leb i b) (q b) (not (bit_at met b)));
        is-met = o.is-met;
        wide = λ b d. both_is (q b) (not (bit_at met b)) (o.wide b d) (ap not (o.is-met b) ∙ (both (bit_at need b) (not (barred i b)) d).1);
        within = λ b d. o.within b (both (q b) (not (bit_at met b)) d).0;
      }

      -- the lowest is one of them: fewer are left
      pub less-apart : (rest' : ℕ) → bit_at met (count_trailing_zeros 32 rest) ≡ true → rest' ≡ word_of (λ b. bit_at rest b && not (bit_at met b)) 32
          → rest' ≤ rest
          → rest' < rest
      less-apart rest' m e h =
          let inside = walk_inside q cells i rest o.is-rest some small in
          let set : bit_at rest at ≡ true
          = ap (λ x. bit_at x at) o.is-rest
          ∙ word-bit (from_on q i) cells at inside
          ∙ both_is (leb i at) (q at) (le-leb i at (walk_from q cells i rest o.is-rest some small)) (walk_here q cells i rest o.is-rest some small) in
          let off : bit_at rest' at ≡ false
          = ap (λ x. bit_at x at) e
          ∙ word-bit (λ b. bit_at rest b && not (bit_at met b)) 32 at (omega arith)
          ∙ ap (λ u. bit_at rest at && not u) m
          ∙ and-false (bit_at rest at) in
          let other : rest' ≡ rest → ⊥ = λ same. true≢false (sym set ∙ ap (λ x. bit_at x at) (sym same) ∙ off) in
          omega arith

      -- ---- the lowest is not barred

      module _ (free : bit_at met (count_trailing_zeros 32 rest) ≡ false) where
        takes : chose at ≡ true
        takes =
            sym (here at)
            ∙ ap₂ (λ n u. n && not u) (o.within at (walk_here q cells i rest o.is-rest some small)) (up.1 at ∙ sym (o.is-met at) ∙ free)

        pub turn_more : (run' : ℕ) → run' ≡ min run (get_or left (count_trailing_zeros 32 rest) 0)
            → Turned (count_trailing_zeros 32 rest + 1) (bit_or word (2 ^ count_trailing_zeros 32 rest)) run'
        turn_more run' e = took at word run takes up.0 run' e

        barred-now : (b : ℕ) → barred (at + 1) b ≡ (barred i b || bit_in rows at b)
        barred-now b = took-barred at word run takes up.0 b ∙ ap (λ u. u || bit_in rows at b) (up.1 b)

        pub left-more : Left cells (count_trailing_zeros 32 rest + 1) (bit_or met (get_or rows (count_trailing_zeros 32 rest) 0)) (bit_and rest (rest - 1)) q
        left-more = record {
          is-rest = walk-off q cells i rest o.is-rest some small;
          is-met = λ b. bit-either met (get_or rows at 0) b ∙ ap (λ u. u || bit_in rows at b) (o.is-met b) ∙ sym (barred-now b);
          wide = λ b d. o.wide b (still (bit_at need b) (barred i b) (bit_in rows at b) (sym (ap (λ u. bit_at need b && not u) (barred-now b)) ∙ d));
          within = o.within;
        }
          where
            still : (n h r : Bool) → (n && not (h || r)) ≡ true → (n && not h) ≡ true
            still true true r e = e
            still true false r e = refl
            still false h r e = e
