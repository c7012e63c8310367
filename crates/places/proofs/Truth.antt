-- What the text of a place says is so. Assumes nothing.
--     place-sends   at each place exactly the cells that the table reserves there are named, in rising order
--     clash-marked  a place has a ! exactly where two cells that are reserved there clash
--     block-marked  a place has a # exactly where the site blocks it
-- And of the lines for a spreadsheet:
--     csv-sends     the numbers of a line are its slot, its channel, and then exactly the cells that the table reserves there, in rising order
--     csv-clash     it says "clash" exactly where two cells that are reserved there clash
--     csv-block     it says "blocked" exactly where the site blocks the place
use Prim.Native.Nat.{ℕ, zero, suc, ◌+◌, ◌-◌, ◌/◌, ◌%◌, ◌≤◌, ◌<◌, zero-le}
use mathlib.Core.Path.{◌≡◌, refl, sym, ap, ◌∙◌}
use mathlib.Core.Bool.{Bool, true, true≢false, ◌&&◌}
use mathlib.Core.List.{List, [], ◌∷◌, ◌++◌, append-nil}
use mathlib.Core.Logic.{◌↔◌}
use native.Mathlib.Nat.{mod-lt, div-lt_iff_lt-mul}
use native.Mathlib.Omega.{arith}
use lib.Dec.{ltb}
use borrow.Author.Tests.{lt-ltb, ltb-true}
use Rattle.laws.specs.Bits.{bit_at, word_of}
use Rattle.laws.specs.Choice.{pick}
use Rattle.laws.proofs.Choice.{both, at_least}
use Rattle.laws.proofs.Search.{first_passes, first-before, first-least}
use Rattle.laws.proofs.Words.{word-bit, word-past}
use Rattle.theory.specs.Net.{Net, Reserved}
use Rattle.theory.specs.Greedy.{reserved}
use Rattle.theory.specs.Named.{Clashes}
use Rattle.theory.specs.Verdict.{second_at, clashes_at, first_at}
use Rattle.faults.specs.Faults.{in_turn, passed}
use Rattle.positions.specs.Blocked.{blocked_at}
use Rattle.site.specs.Record.{positions}
use Rattle.site.specs.Reach.{net_of}
use Rattle.site.specs.Means.{Sized}
use Rattle.site.specs.declared.Site.{Site}
use Rattle.checker.specs.Marks.{clashing}
use Rattle.say_faults.specs.Said.{judgeable}
use Rattle.say_faults.proofs.Ready.{ready-sizes}
use Rattle.places.specs.Places.{place_of, place_said, spread_said, spread_line}
use Rattle.places.specs.Read.{numbers_told, stands, cells_in}
use Rattle.places.proofs.Read.{place-names}
use Rattle.places.proofs.Marks.{clash-shown, block-shown}
use Rattle.places.proofs.Sheet.{sheet-names, sheet-clash, sheet-block}
use Rattle.faults.proofs.InTurn.{turn_suc}

turn-same : (f g : ℕ → List ℕ) (n : ℕ) → ((k : ℕ) → k < n → f k ≡ g k) → in_turn f n ≡ in_turn g n
unfolding in_turn
turn-same f g zero h = refl
turn-same f g (suc n) h = rw (turn-same f g n (λ k l. h k (omega arith)), h n (omega arith))

-- lists past n that are empty add nothing
turn-past : (f : ℕ → List ℕ) (n d : ℕ) → ((k : ℕ) → n ≤ k → f k ≡ []) → in_turn f (d + n) ≡ in_turn f n
turn-past f n zero h = ap (in_turn f) (omega arith)
turn-past f n (suc d) h =
    let e : suc d + n ≡ suc (d + n) = omega arith in
    ap (in_turn f) e
    ∙ turn_suc f (d + n)
    ∙ ap (λ (l : List ℕ). in_turn f (d + n) ++ l) (h (d + n) (omega arith))
    ∙ append-nil (in_turn f (d + n))
    ∙ turn-past f n d h

-- the cells of a word of tests
cells_of : (p : ℕ → Bool) (n : ℕ) → n ≤ 32 → cells_in (word_of p n) 32 ≡ passed p (λ i. i + 1) n
cells_of p n few =
    let item : ℕ → List ℕ = λ k. pick (bit_at (word_of p n) k) ((k + 1) ∷ []) [] in
    let all : 32 ≡ 32 - n + n = omega (arith, few) in
    ap (in_turn item) all
    ∙ turn-past item n (32 - n) (λ k l. rw (word-past p n k l))
    ∙ turn-same item (λ k. pick (p k) ((k + 1) ∷ []) []) n (λ k l. rw (word-bit p n k l))

module _ (s : Net) (res : Reserved) (k : ℕ) where
  clash-there : k < s.width → clashing s res k ≡ true → (a : ℕ) × (c : ℕ) × Clashes s res k a c
  unfolding first_at clashes_at second_at
  clash-there l e =
      let a = first_at s res k in
      let c = second_at s res k a in
      let la : a < s.cells = ltb-true a s.cells e in
      let x = both (res a k) (ltb c s.cells) (first_passes (clashes_at s res k) 0 s.cells zero-le la) in
      let lc : c < s.cells = ltb-true c s.cells x.1 in
      let y = both (s.clash a c) (res c k) (first_passes (λ d. s.clash a d && res d k) (a + 1) s.cells (omega arith) lc) in (
        a,
        c,
        record {
          rising = omega (arith, first-least (λ d. s.clash a d && res d k) (a + 1) s.cells);
          inside = lc;
          within = l;
          far = y.0;
          one = x.0;
          other = y.1;
        },
      )

  second-most : (a c : ℕ) → Clashes s res k a c → second_at s res k a ≤ c
  unfolding second_at
  second-most a c h =
      at_least (second_at s res k a) c
      (λ l.
      let no = first-before (λ d. s.clash a d && res d k) (a + 1) s.cells c (omega (arith, h.rising)) l in
      true≢false (rw (h.far, h.other) at no))

  clash-here : (a c : ℕ) → Clashes s res k a c → clashes_at s res k a ≡ true
  unfolding clashes_at
  clash-here a c h = rw (h.one, lt-ltb (second_at s res k a) s.cells (omega (arith, second-most a c h, h.inside)))

  first-most-at : (a c : ℕ) → Clashes s res k a c → first_at s res k ≤ a
  unfolding first_at
  first-most-at a c h =
      at_least (first_at s res k) a (λ l. true≢false (sym (clash-here a c h) ∙ first-before (clashes_at s res k) 0 s.cells a zero-le l))

  there-clash : (a c : ℕ) → Clashes s res k a c → clashing s res k ≡ true
  there-clash a c h = lt-ltb (first_at s res k) s.cells (omega (arith, first-most-at a c h, h.rising, h.inside))

module _ (s : Site) (t : List ℕ) (k : ℕ) where
  abbrev sent : Reserved
  sent = reserved (positions s) t

  pub place-sends : s.cells ≤ 32 → numbers_told (place_said (place_of s t k)) ≡ passed (λ i. sent i k) (λ i. i + 1) s.cells
  place-sends few = place-names (place_of s t k) ∙ cells_of (λ i. sent i k) s.cells few

  pub clash-marked : k < positions s → (stands 33 (place_said (place_of s t k)) ≡ true) ↔ ((a : ℕ) × (c : ℕ) × Clashes (net_of s) sent k a c)
  clash-marked l = (
    λ e. clash-there (net_of s) sent k l (sym (clash-shown (place_of s t k)) ∙ e),
    λ w. clash-shown (place_of s t k) ∙ there-clash (net_of s) sent k w.0 w.1 w.2,
  )

  pub block-marked : stands 35 (place_said (place_of s t k)) ≡ blocked_at s.blocked k
  block-marked = block-shown (place_of s t k)

  module _ (ok : judgeable s t ≡ true) (inside : k < positions s) where
    sizes : Sized s
    sizes = ready-sizes s t ok

    line-is : spread_line s t k ≡ spread_said s.channels k (place_of s t k)
    unfolding spread_line
    line-is = rw (ok, lt-ltb k (positions s) inside)

    few-slots : k / s.channels + 1 < 1000
    few-slots =
        let below : k / s.channels < s.slots = (div-lt_iff_lt-mul sizes.channels_some).1 inside in
        omega (arith, below, sizes.slots_most)

    few-channels : k % s.channels + 1 < 1000
    few-channels = let below : k % s.channels < s.channels = mod-lt k sizes.channels_some in omega (arith, below, sizes.channels_most)

    pub csv-sends : numbers_told (spread_line s t k) ≡ (k / s.channels + 1) ∷ (k % s.channels + 1) ∷ passed (λ i. sent i k) (λ i. i + 1) s.cells
    csv-sends =
        ap numbers_told line-is
        ∙ sheet-names s.channels k (place_of s t k) few-slots few-channels
        ∙ ap (λ (l : List ℕ). (k / s.channels + 1) ∷ (k % s.channels + 1) ∷ l) (cells_of (λ i. sent i k) s.cells sizes.cells_most)

    pub csv-clash : stands 104 (spread_line s t k) ≡ stands 33 (place_said (place_of s t k))
    csv-clash = ap (stands 104) line-is ∙ sheet-clash s.channels k (place_of s t k) few-slots few-channels ∙ sym (clash-shown (place_of s t k))

    pub csv-block : stands 98 (spread_line s t k) ≡ blocked_at s.blocked k
    csv-block = ap (stands 98) line-is ∙ sheet-block s.channels k (place_of s t k) few-slots few-channels
