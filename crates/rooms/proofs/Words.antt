-- What the searches over the clash rows and the words of cells find is what the definitions name: below I the words say who is touched and who counts.
--     cell_within                  a cell that is within the site is from 1 to its cells
--     word-touched, word_counts    the bits of the two words
--     left_is                      what is left
--     is-exact, is-least           the answer, from the cell that shows the site outside the class
-- Assumes nothing.
use Prim.Native.Nat.{ℕ, ◌-◌, ◌^◌, ◌≤◌, ◌<◌}
use mathlib.Core.Bool.{Bool, true, false, not, ◌&&◌, ◌||◌}
use mathlib.Core.List.{List}
use mathlib.Core.Logic.{⊎_elim}
use mathlib.Core.Path.{◌≡◌, refl, sym, ap, ap₂, ◌∙◌}
use native.Mathlib.Omega.{arith}
use borrow.Author.Tests.{lt-ltb, le-ltb, eqb-false}
use lib.Bits.{bit_and}
use lib.Dec.{ltb, eqb}
use lib.ListN.{get_or}
use Rattle.laws.specs.Bits.{bit_at, bit_in, set_bit, word_of}
use Rattle.laws.specs.Choice.{pick}
use Rattle.laws.specs.Most.{most}
use Rattle.laws.proofs.Bits.{bit-and, bit-set}
use Rattle.laws.proofs.Choice.{cases, order}
use Rattle.laws.proofs.Lowest.{bit-all}
use Rattle.laws.proofs.Most.{most-same}
use Rattle.laws.proofs.Words.{word-bit}
use Rattle.theory.specs.Net.{loaded, room}
use Rattle.theory.specs.Verdict.{asks, most_demand, first_split, class_verdict}
use Rattle.chainwords.specs.Chain.{first_split_in}
use Rattle.chainwords.proofs.Rows.{first-split-is}
use Rattle.demands.specs.Words.{demand_counted}
use Rattle.judges.proofs.Laws.{demand-is}
use Rattle.roomy.specs.Room.{touched, counted_with, room_left}
use Rattle.site.specs.Record.{up_to, fault_of}
use Rattle.site.specs.Reach.{clash_of, net_of}
use Rattle.site.specs.declared.Site.{Site}
use Rattle.std.specs.Prelude.{Ok}
use Rattle.site.proofs.Faults.{fine-sized, up-to}
use Rattle.site.proofs.Reach.{clash-sym}
use Rattle.rooms.specs.Room.{room_in, touched_word}
use Rattle.rooms.specs.declared.Room.TheVariants.{Exactly, AtLeast}

pub cell_within : (s : Site) (cell : ℕ) → up_to s.cells cell ≡ true → (1 ≤ cell) × (cell ≤ s.cells)
cell_within s cell e = up-to s.cells cell e

-- of the cells of two words those above k, and k
touched-bit : (who row k j : ℕ) → j < 32 → bit_at (touched_word who row k) j ≡ (eqb j k || ((bit_at who j && bit_at row j) && not (ltb j k)))
touched-bit who row k j l =
    bit-set _ k j
    ∙ ap (λ t. eqb j k || t)
    (word-bit (λ b. bit_at (bit_and who row) b && not (bit_at (2 ^ k - 1) b)) 32 j l ∙ ap₂ (λ t u. t && not u) (bit-and who row j) (bit-all k j))

-- the order in which the two are asked
above : (a b : Bool) (k j : ℕ) → (eqb j k || ((a && b) && not (ltb j k))) ≡ (eqb j k || (ltb k j && (b && a)))
above a b k j =
    ⊎_elim (λ e. rw e)
    (λ e. rw e (⊎_elim
    (λ l. rw (le-ltb j k (omega arith), lt-ltb k j l) (turn a b))
    (⊎_elim (λ q. absurd (eqb-false j k e (sym q))) (λ l. rw (lt-ltb j k l, le-ltb k j (omega arith)) (none a b))) (order k j)))
    (cases (eqb j k))
  where
    turn : (a b : Bool) → ((a && b) && true) ≡ (b && a)
    turn true true = refl
    turn true false = refl
    turn false true = refl
    turn false false = refl

    none : (a b : Bool) → ((a && b) && false) ≡ false
    none true true = refl
    none true false = refl
    none false b = refl

module _ (s : Site) (fine : fault_of s ≡ Ok tt) (rows : List ℕ) (relation : bit_in rows ≡ clash_of s)
    (who : ℕ) (word : who ≡ word_of (loaded (net_of s)) 32) (k : ℕ) where
  word-loaded : (j : ℕ) → j < s.cells → bit_at who j ≡ loaded (net_of s) j
  word-loaded j l = ap (λ (w : ℕ). bit_at w j) word ∙ word-bit (loaded (net_of s)) 32 j (omega (arith, (fine-sized s fine).cells_most))

  word-touched : (j : ℕ) → j < s.cells → bit_at (touched_word who (get_or rows k 0) k) j ≡ touched (net_of s) k j
  unfolding touched
  word-touched j l =
      touched-bit who (get_or rows k 0) k j (omega (arith, (fine-sized s fine).cells_most))
      ∙ above (bit_at who j) (bit_in rows k j) k j
      ∙ ap₂ (λ t u. eqb j k || (ltb k j && (t && u))) (ap (λ (r : ℕ → ℕ → Bool). r k j) relation) (word-loaded j l)

  word_counts : (j : ℕ) → j < s.cells → bit_at (set_bit who k) j ≡ counted_with (net_of s) k j
  word_counts j l = bit-set who k j ∙ ap (λ t. eqb j k || t) (word-loaded j l)

  -- the greatest of what the rows ask for the cells of a word
  most-of : (x : ℕ) (p : ℕ → Bool) → ((j : ℕ) → j < s.cells → bit_at x j ≡ p j)
      → most (λ j. demand_counted s.loads (get_or rows j 0) x j) s.cells ≡ most_demand (net_of s) p
  unfolding most_demand
  most-of x p agree =
      most-same (λ j. demand_counted s.loads (get_or rows j 0) x j) (asks (net_of s) p) s.cells
      (λ j l. ap₂ (λ t d. pick t d 0) (agree j l) (demand-is s rows relation j))

  module _ (r n m : ℕ) (all : r ≡ room (net_of s)) (en : n ≡ most (λ j. demand_counted s.loads (get_or rows j 0) who j) s.cells)
      (x : ℕ) (ex : x ≡ touched_word who (get_or rows k 0) k) (em : m ≡ most (λ j. demand_counted s.loads (get_or rows j 0) x j) s.cells) where
    left_is : pick (ltb r n) 0 (r - m) ≡ room_left (net_of s) k
    unfolding room_left
    left_is =
        let a : n ≡ most_demand (net_of s) (loaded (net_of s)) = en ∙ most-of who (loaded (net_of s)) word-loaded in
        let b : m ≡ most_demand (net_of s) (touched (net_of s) k) =
        em ∙ most-of x (touched (net_of s) k) (λ j l. ap (λ (w : ℕ). bit_at w j) ex ∙ word-touched j l) in
        rw (all, a, b)

    module _ (more : ℕ) (eo : more ≡ pick (ltb r n) 0 (r - m)) (w : ℕ) (ew : w ≡ set_bit who k) (i : ℕ) (ei : i ≡ first_split_in rows w s.cells) where
      first-is : i ≡ first_split (net_of s) (counted_with (net_of s) k)
      first-is =
          ei
          ∙ first-split-is (net_of s) rows relation (clash-sym s.rule s.reach) w (counted_with (net_of s) k)
          (λ j l. ap (λ (y : ℕ). bit_at y j) ew ∙ word_counts j l)

      pub is-least : i < s.cells → AtLeast more ≡ room_in (net_of s) k
      unfolding room_in class_verdict
      is-least l = rw (← first-is, lt-ltb i s.cells l, ← left_is, ← eo)

      pub is-exact : s.cells ≤ i → Exactly more ≡ room_in (net_of s) k
      unfolding room_in class_verdict
      is-exact l = rw (← first-is, le-ltb i s.cells l, ← left_is, ← eo)
