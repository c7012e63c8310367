-- What is said of two tables is what is said of the mender's own list of changes: going through the cells in order, and in each cell through its slots,
-- gives the changes in the order of the list. A position t * F + f is channel f of slot t.
--     slot-more        a channel more, as the loop counts
--     said-one         a change, and nothing where there is none
--     said-slot, said_row, said_all      a slot, a row, a table
-- Assumes nothing.
use Prim.Native.Nat.{ℕ, zero, suc, ◌+◌, ◌-◌, ◌*◌, ◌/◌, ◌%◌, ◌≤◌}
use mathlib.Core.Path.{◌≡◌, refl, sym, ap, ap₂, ◌∙◌}
use mathlib.Core.Bool.{Bool, true, false}
use mathlib.Core.List.{List, [], ◌∷◌, ◌++◌, append_assoc, append-nil}
use native.Mathlib.Numerals.{add-one}
use native.Mathlib.Nat.{add-zero, add-suc, zero-mul, suc-mul}
use native.Mathlib.Omega.{arith}
use lib.Arith.{digits_div, digits_mod}
use lib.ListN.{length}
use Rattle.laws.specs.Sum.{count}
use Rattle.theory.specs.Net.{Reserved}
use Rattle.theory.specs.Greedy.{reserved}
use Rattle.mending.specs.Changes.{change, changed, cell_changes, changes, change_count}
use Rattle.mending.proofs.Changes.{cell-length, changes-length}
use Rattle.phrases.specs.Phrases.{phrase}
use Rattle.say_changes.specs.Lines.{change_lines}
use Rattle.say_changes.specs.Said.{change_phrase, changes_said, channel_phrase, phrase_at, slot_said, row_said, all_said}

-- ---- a channel more, as the loop counts

pub slot-more : (old new : List ℕ) (from cell slot f : ℕ)
    → slot_said old new from cell slot (f + 1) ≡ slot_said old new from cell slot f ++ phrase change_lines (phrase_at old new (from + f) cell slot (f + 1))
unfolding slot_said
slot-more old new from cell slot f = ap (slot_said old new from cell slot) (add-one f)

-- ---- the text of a list

module _ (F : ℕ) where
  -- one list of changes after another
  said-append : (m : ℕ) (a b : List ℕ) → length a ≡ 4 * m → changes_said F (a ++ b) ≡ changes_said F a ++ changes_said F b
  unfolding changes_said
  said-append m [] b e = refl
  said-append m (c ∷ []) b e = absurd (omega arith)
  said-append m (c ∷ k ∷ []) b e = absurd (omega arith)
  said-append m (c ∷ k ∷ w ∷ []) b e = absurd (omega arith)
  said-append m (c ∷ k ∷ w ∷ x ∷ a) b e =
      let here = phrase change_lines (change_phrase F c k x) in
      ap (λ y. here ++ y) (said-append (m - 1) a b (omega arith)) ∙ sym (append_assoc here (changes_said F a) (changes_said F b))

  -- a change, and nothing where there is none
  said-one : (is was : Bool) (i k : ℕ) → changes_said F (change is was i k) ≡ phrase change_lines (channel_phrase is was (i + 1) (k / F + 1) (k % F + 1))
  unfolding changes_said
  said-one true true i k = refl
  said-one true false i k = append-nil _
  said-one false true i k = append-nil _
  said-one false false i k = refl

-- ---- two tables of rows of n

module _ (old new : List ℕ) (F n : ℕ) where
  abbrev is : Reserved
  is = reserved n new

  abbrev was : Reserved
  was = reserved n old

  -- the first f channels of slot t
  said-slot : (i t f : ℕ) → f ≤ F
      → changes_said F (cell_changes is was i (t * F + f)) ≡ changes_said F (cell_changes is was i (t * F)) ++ slot_said old new (i * n + t * F) (i + 1)
      (t + 1) f
  unfolding cell_changes slot_said
  said-slot i t zero h =
      ap (λ k. changes_said F (cell_changes is was i k)) (add-zero (t * F)) ∙ sym (append-nil (changes_said F (cell_changes is was i (t * F))))
  said-slot i t (suc f) h =
      let k = t * F + f in
      let before = changes_said F (cell_changes is was i (t * F)) in
      let slot = slot_said old new (i * n + t * F) (i + 1) (t + 1) f in
      let here = phrase change_lines (channel_phrase (is i k) (was i k) (i + 1) (t + 1) (f + 1)) in
      let one =
      said-one F (is i k) (was i k) i k
      ∙ ap₂ (λ (s c : ℕ). phrase change_lines (channel_phrase (is i k) (was i k) (i + 1) (s + 1) (c + 1))) (digits_div t h) (digits_mod t h) in
      let place : i * n + k ≡ i * n + t * F + f = omega arith in
      ap (λ x. changes_said F (cell_changes is was i x)) (add-suc (t * F) f)
      ∙ said-append F (count (changed is was i) k) (cell_changes is was i k) (change (is i k) (was i k) i k) (cell-length is was i k)
      ∙ ap₂ (λ (a b : List ℕ). a ++ b) (said-slot i t f (omega arith)) one
      ∙ append_assoc before slot here
      ∙ ap (λ (x : ℕ). before ++ (slot ++ phrase change_lines (phrase_at old new x (i + 1) (t + 1) (f + 1)))) place

  -- the first t slots of a row
  said_row : (i t : ℕ) → changes_said F (cell_changes is was i (t * F)) ≡ row_said old new F (i * n) (i + 1) t
  unfolding cell_changes changes_said row_said
  said_row i zero = ap (λ k. changes_said F (cell_changes is was i k)) (zero-mul F)
  said_row i (suc t) =
      ap (λ k. changes_said F (cell_changes is was i k)) (suc-mul t F)
      ∙ said-slot i t F (omega arith)
      ∙ ap (λ (a : List ℕ). a ++ slot_said old new (i * n + t * F) (i + 1) (t + 1) F) (said_row i t)

-- every cell: the text that is written is that of the list of changes
pub said_all : (old new : List ℕ) (T F c : ℕ)
    → all_said old new T F c ≡ changes_said F (changes (reserved (T * F) new) (reserved (T * F) old) (T * F) c)
unfolding all_said changes changes_said
said_all old new T F zero = refl
said_all old new T F (suc i) =
    let n = T * F in
    let is = reserved n new in
    let was = reserved n old in
    ap₂ (λ (a b : List ℕ). a ++ b) (said_all old new T F i) (sym (said_row old new F n i T))
    ∙ sym (said-append F (change_count is was n i) (changes is was n i) (cell_changes is was i n) (changes-length is was n i))
