-- The marks of a run of slots: from the slot at which it begins to the slot past it no other run begins, so its mark is all that is put. Assumes nothing.
use Prim.Native.Nat.{ℕ, zero, suc, ◌+◌, ◌-◌, ◌*◌, ◌≤◌, ◌<◌}
use mathlib.Core.Path.{◌≡◌, sym, ap, ◌∙◌}
use mathlib.Core.Bool.{Bool, true, false, not, and-false, and-true}
use mathlib.Core.List.{List, [], ◌++◌, append-nil}
use mathlib.Core.Logic.{⊎_elim}
use native.Mathlib.Omega.{arith}
use lib.Dec.{ltb}
use borrow.Author.Tests.{ne_eqb, ltb-true, ltb-false, not-true, not-false}
use Rattle.laws.specs.Choice.{pick}
use Rattle.laws.proofs.Choice.{cases}
use Rattle.laws.proofs.Search.{first-least, first-before, first_passes}
use Rattle.faults.specs.Faults.{in_turn}
use Rattle.faults.proofs.InTurn.{turn_more}
use Rattle.site.specs.declared.Site.{Site}
use Rattle.phrases.specs.Phrases.{phrase}
use Rattle.phrases.specs.declared.Phrase.{Phrase}
use Rattle.phrases.specs.declared.Phrase.TheVariants.{Silent, Row}
use Rattle.drawing.specs.Lines.{mark_lines}
use Rattle.drawing.specs.Places.{slot_wide, channel_high, across_of, down_of}
use Rattle.drawing.specs.Slots.{marked_in, run_begins, run_past, mark_phrase, marks_of_kind}

-- lists that are empty add nothing
turn-more_none : {A : Type 0} (g : ℕ → List A) (k d : ℕ) → ((j : ℕ) → k ≤ j → j < k + d → g j ≡ []) → in_turn g (k + d) ≡ in_turn g k
turn-more_none g k zero none = let e : k + 0 ≡ k = omega arith in ap (in_turn g) e
turn-more_none g k (suc d) none =
    let e : k + suc d ≡ k + d + 1 = omega arith in
    ap (in_turn g) e ∙ turn_more g (k + d)
    ∙ rw (none (k + d) (omega arith) (omega arith)) (append-nil (in_turn g (k + d)) ∙ turn-more_none g k d (λ j l m. none j l (omega arith)))

turn-skip : {A : Type 0} (g : ℕ → List A) (k n : ℕ) → k ≤ n → ((j : ℕ) → k ≤ j → j < n → g j ≡ []) → in_turn g n ≡ in_turn g k
turn-skip g k n l none =
    let e : k + (n - k) ≡ n = omega arith in
    ap (in_turn g) (sym e) ∙ turn-more_none g k (n - k) (λ j m h. none j m (omega arith))

module _ (s : Site) (t : List ℕ) (mark i channel slot : ℕ) where
  abbrev pub has_mark : ℕ → Bool
  has_mark j = marked_in s t mark i channel j

  abbrev pub past : ℕ
  past = run_past s t mark i channel slot

  -- no run begins where the slot before has the mark
  no-run : (j : ℕ) → slot < j → j ≤ past → run_begins s t mark i channel j ≡ false
  unfolding run_begins run_past
  no-run j l m =
      let before : not (has_mark (j - 1)) ≡ false = first-before (λ k. not (has_mark k)) slot s.slots (j - 1) (omega arith) (omega arith) in
      rw (ne_eqb j 0 (omega arith), before) (and-false (has_mark j))

  module _ (inside : slot < s.slots) where
    abbrev pub mark_at : ℕ → Bool
    mark_at j = not (has_mark j)

    ends-here : past ≤ slot → has_mark slot ≡ false
    unfolding run_past
    ends-here l =
        let e : past ≡ slot = omega (arith, l, first-least mark_at slot s.slots) in
        let p : mark_at past ≡ true = first_passes mark_at slot s.slots (omega (arith, inside)) (omega (arith, e, inside)) in
        not-true (has_mark slot) (ap mark_at (sym e) ∙ p)

    goes-on : slot < past → has_mark slot ≡ true
    unfolding run_past
    goes-on l = not-false (has_mark slot) (first-before mark_at slot s.slots slot (omega arith) l)

    abbrev pub row : ℕ → Phrase
    row j = Row mark (across_of s j) (down_of s i channel) ((run_past s t mark i channel j - j) * slot_wide s) (channel_high s)

    abbrev pub one : ℕ → List ℕ
    one j = phrase mark_lines (mark_phrase s t mark i channel j)

    -- the next slot at which the search goes on, after the run or after the slot
    module _ (m : ℕ) (run : slot < past → m ≡ past) (none : past ≤ slot → m ≡ slot + 1) where
      pub begins-next : m < s.slots → run_begins s t mark i channel m ≡ has_mark m
      unfolding run_begins run_past
      begins-next l =
          ⊎_elim
          (λ h.
          let e : m ≡ past = run (ltb-true slot past h) in
          let p : mark_at past ≡ true = first_passes mark_at slot s.slots (omega (arith, inside)) (omega (arith, e, l)) in
          let q : has_mark m ≡ false = ap has_mark e ∙ not-true (has_mark past) p in
          no-run m (omega (arith, e, ltb-true slot past h)) (omega (arith, e)) ∙ sym q)
          (λ h.
          let e : m ≡ slot + 1 = none (ltb-false slot past h) in
          let f : m - 1 ≡ slot = omega (arith, e) in
          rw (ne_eqb m 0 (omega (arith, e)), f, ends-here (ltb-false slot past h)) (and-true (has_mark m)))
          (cases (ltb slot past))

      module _ (begins : run_begins s t mark i channel slot ≡ has_mark slot) where
        runs : run_begins s t mark i channel slot ≡ ltb slot past
        runs =
            begins
            ∙ ⊎_elim (λ h. goes-on (ltb-true slot past h) ∙ sym h) (λ h. ends-here (ltb-false slot past h) ∙ sym h) (cases (ltb slot past))

        pub marks-next : marks_of_kind s t mark i channel m
            ≡ marks_of_kind s t mark i channel slot
            ++ phrase mark_lines
            (pick (ltb slot past) (Row mark (across_of s slot) (down_of s i channel) ((past - slot) * slot_wide s) (channel_high s)) Silent)
        marks-next =
            turn-skip one (slot + 1) m most
            (λ j l h. ap (λ b. phrase mark_lines (pick b (row j) Silent)) (no-run j (omega (arith, l)) (inside-run j l h)))
            ∙ turn_more one slot
            ∙ ap (λ b. in_turn one slot ++ phrase mark_lines (pick b (row slot) Silent)) runs
          where
            most : slot + 1 ≤ m
            most =
                ⊎_elim (λ h. omega (arith, run (ltb-true slot past h), ltb-true slot past h)) (λ h. omega (arith, none (ltb-false slot past h)))
                (cases (ltb slot past))

            inside-run : (j : ℕ) → slot + 1 ≤ j → j < m → j ≤ past
            inside-run j l h =
                ⊎_elim (λ g. omega (arith, run (ltb-true slot past g), h)) (λ g. absurd (omega (arith, none (ltb-false slot past g), l, h)))
                (cases (ltb slot past))
