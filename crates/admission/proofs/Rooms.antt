-- What the arrays state of the site: what the loads that count leave of the room in each cell, and no clash with a spare cell (`stands`).
-- In the class loads that pass the load test leave no cell over, loaded or not, so that what is left and what is used make up the room.
-- Assumes nothing.
use Prim.Native.Nat.{ℕ, ◌+◌, ◌≤◌, ◌<◌}
use mathlib.Core.Bool.{Bool, true, false, and-false}
use mathlib.Core.List.{List}
use mathlib.Core.Logic.{⊎_elim}
use mathlib.Core.Path.{◌≡◌, refl, sym, ap, ◌∙◌}
use native.Mathlib.Omega.{arith}
use borrow.Author.Tests.{le-ltb, ltb-true, ltb-false}
use lib.Dec.{ltb}
use lib.ListN.{get_or, replicate, get_or-replicate, length-replicate}
use Rattle.laws.specs.Bits.{bit_at, bit_in, word_of}
use Rattle.laws.specs.Choice.{pick}
use Rattle.laws.proofs.Choice.{cases, pick_same}
use Rattle.laws.proofs.Stores.{list_at, sets-at, sets-beyond}
use Rattle.laws.proofs.Sums.{sum-eq, sum-none}
use Rattle.laws.proofs.Words.{word-bit}
use Rattle.theory.specs.Net.{Net, everyone, loaded, LoadTest, room, demand}
use Rattle.theory.specs.Verdict.{class_verdict}
use Rattle.theory.proofs.Exact.{covers-everyone, covers-loaded, test-plans, class-exact}
use Rattle.positions.specs.Blocked.{open_in}
use Rattle.site.specs.Record.{positions, fault_of}
use Rattle.site.specs.Reach.{clash_of, clash_within, clash_rows, net_of}
use Rattle.site.specs.declared.Site.{Site}
use Rattle.std.specs.Prelude.{Ok}
use Rattle.site.proofs.Faults.{fine-sized}
use Rattle.site.proofs.Accepted.{net-open}
use Rattle.judges.proofs.Laws.{demand-is}
use Rattle.admitting.specs.Best.{idle}
use Rattle.bestset.specs.Code.{Stands}
use Rattle.admission.specs.Admit.{is_nested}
use Rattle.admission.specs.Beside.{start_for}
use Rattle.admission.specs.Code.{left_in, rooms_for}
use Rattle.admission.proofs.Suits.{class-of}

-- no cell has a room above the site's
pub rooms-most : (beside : Bool) (loads rows : List ℕ) (room cells i : ℕ) → cells ≤ 32 → i < 32 → get_or (rooms_for beside loads rows room cells) i 0 ≤ room
rooms-most true loads rows room cells i few h =
    ⊎_elim
    (λ l. omega (arith, sets-at (left_in loads rows room) cells (replicate 32 0) i (ltb-true i cells l) (omega (arith, length-replicate {A = ℕ} 32 0))))
    (λ l. omega (arith, sets-beyond (left_in loads rows room) cells (replicate 32 0) i (ltb-false i cells l), get_or-replicate {A = ℕ} 32 i 0 0 h))
    (cases (ltb i cells))
rooms-most false loads rows room cells i few h = omega (arith, get_or-replicate {A = ℕ} 32 i room 0 h)

-- where no cell has a load nothing is asked for
idle-demand : (s : Net) (i : ℕ) → demand (idle s) i ≡ 0
idle-demand s i = let e = sum-eq (λ j. pick (s.clash j i) 0 0) (λ _. 0) i (λ j _. pick_same (s.clash j i) 0) ∙ sum-none i in omega (arith, e)

module _ (s : Site) (fine : fault_of s ≡ Ok tt) (rows : List ℕ) (made : rows ≡ clash_rows s) (relation : bit_in rows ≡ clash_of s) where
  -- nobody clashes with a spare cell
  none_past : (a i : ℕ) → a < s.cells → s.cells ≤ i → i < 32 → clash_of s a i ≡ false
  unfolding clash_rows
  none_past a i h l m =
      let row : get_or rows a 0 ≡ word_of (clash_within s a) 32
      = ap (λ (t : List ℕ). get_or t a 0) made ∙ list_at (λ b. word_of (clash_within s b) 32) 32 a (omega (arith, (fine-sized s fine).cells_most)) in
      ap (λ (r : ℕ → ℕ → Bool). r a i) (sym relation)
      ∙ ap (λ (w : ℕ). bit_at w i) row
      ∙ word-bit (clash_within s a) 32 i m
      ∙ simp (le-ltb i s.cells l, and-false)

  module _ (n : ℕ) (counted : n ≡ open_in s.blocked (positions s)) (class : is_nested (class_verdict (net_of s) everyone) ≡ true) (own : List ℕ)
      (inside : (k : ℕ) → k < 16 → get_or own k 0 < s.cells) where
    is-room : n ≡ room (net_of s)
    is-room = counted ∙ sym (net-open s)

    -- what is left in a cell and what its loads use are the room
    left_is : LoadTest (net_of s) (loaded (net_of s)) → (i : ℕ) → i < s.cells
        → get_or (rooms_for true s.loads rows n s.cells) i 0 + demand (net_of s) i ≡ room (net_of s)
    left_is passed i h =
        let net = net_of s in
        let all = (class-exact net everyone (covers-everyone net) (class-of net class)).1 (test-plans net (loaded net) (covers-loaded net) passed) in
        omega (
          arith,
          sets-at (left_in s.loads rows n) s.cells (replicate 32 0) i h (omega (arith, length-replicate {A = ℕ} 32 0, (fine-sized s fine).cells_most)),
          demand-is s rows relation i,
          all i h refl,
          is-room,
        )

    pub stands : (beside : Bool) → (beside ≡ true → LoadTest (net_of s) (loaded (net_of s)))
        → Stands (start_for beside s) (rooms_for beside s.loads rows n s.cells) rows own
    stands true passed = record {
      rooms_are = left_is (passed refl);
      clash_is = relation;
      none_past = none_past;
      few_cells = (fine-sized s fine).cells_most;
      inside = inside;
      class = class-of (net_of s) class;
    }
    stands false passed = record {
      rooms_are = λ i h.
          omega (
            arith,
            get_or-replicate {A = ℕ} 32 i n 0 (omega (arith, (fine-sized s fine).cells_most)),
            idle-demand (net_of s) i,
            is-room,
          );
      clash_is = relation;
      none_past = none_past;
      few_cells = (fine-sized s fine).cells_most;
      inside = inside;
      class = class-of (net_of s) class;
    }
