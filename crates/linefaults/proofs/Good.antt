-- A good line tells nothing: each byte of it may stand where it does.
--     good-cell     a line of a cell, as the format has it
--     good-head     a first line
-- `Still` says of some bytes that none of them tells anything, and where the byte after them stands. Assumes nothing.
use Prim.Native.Nat.{ℕ, zero, suc, ◌+◌, ◌-◌, ◌*◌, ◌/◌, ◌%◌, ◌≤◌, ◌<◌}
use mathlib.Core.Path.{◌≡◌, refl, sym, ap, ◌∙◌}
use mathlib.Core.Bool.{Bool, true, false, not, ◌&&◌, and-false}
use mathlib.Core.List.{List, [], ◌∷◌, ◌++◌, append_assoc}
use native.Mathlib.Omega.{arith}
use native.Mathlib.Decide.{dec_lt}
use native.Mathlib.Nat.{add-zero}
use lib.Dec.{ltb, leb, eqb}
use borrow.Author.Tests.{ne_eqb, le-leb, lt-leb, lt-ltb, le-ltb}
use Rattle.laws.specs.Choice.{pick}
use Rattle.text.specs.Decimal.{decimal}
use Rattle.text.proofs.Digits.{decimal-one, decimal-more}
use Rattle.lines.specs.Format.{cell_load, cell_number, column, columns, header, marks, label, cell_line}
use Rattle.linefaults.specs.declared.Field.{Field}
use Rattle.linefaults.specs.declared.Seen.{Seen}
use Rattle.linefaults.specs.declared.Seen.TheVariants.{Nothing, One, More}
use Rattle.linefaults.specs.Fault.{untold, first_field, number_after, seen_after, field_after, is_nothing, seen_one, is_word, is_mark, odd_byte}
use Rattle.linefaults.specs.Fault.{empty_at, comma_at, cr_at, lf_at, mark_fault}
use Rattle.linefaults.specs.Fault.{is_zero, number_at, content_at, fault_at, fault_from, after_lines}

-- ---- bytes that tell nothing

data Still (fields : ℕ) : Field → List ℕ → Field → Type 0 where
  none : {f : Field} → Still fields f [] f
  more : {f g h : Field} {l : List ℕ} (b : ℕ) → ((at : ℕ) → fault_at fields at f b ≡ untold) → eqb b 10 ≡ false → field_after f b ≡ g → Still fields g l h
      → Still fields f (b ∷ l) h

still_both : {fields : ℕ} {f g h : Field} {l m : List ℕ} → Still fields f l g → Still fields g m h → Still fields f (l ++ m) h
still_both none h = h
still_both (more b q n e t) h = more b q n e (still_both t h)

-- after them the line is looked at from there on
quiet : {fields : ℕ} {f g : Field} {l : List ℕ} → Still fields f l g
    → (at : ℕ) (r : List ℕ) → (then : ℕ) × (fault_from fields at f (l ++ r) ≡ fault_from fields then g r)
unfolding fault_from
quiet none at r = (at, refl)
quiet (more b q n e t) at r =
    let w = quiet t (at + 1) r in
    (w.0, rw (q at, n, e) w.1)

-- the line's end
end : (fields at : ℕ) (f : Field) (r : List ℕ) → f.last ≡ 13 → fault_from fields at f (10 ∷ r) ≡ untold
unfolding fault_from fault_at lf_at
end fields at f r e = rw e

-- a line end is passed
still-passed : {fields : ℕ} {f g : Field} {l : List ℕ} → Still fields f l g → (k : ℕ) (r : List ℕ) → after_lines (suc k) (l ++ (10 ∷ r)) ≡ after_lines k r
unfolding after_lines
still-passed none k r = refl
still-passed (more b q n e t) k r = rw n (still-passed t k r)

-- ---- numbers

abbrev place : (c : ℕ) (s : Seen) (v l : ℕ) → Field
place c s v l = record { column = c; seen = s; value = v; last = l }

-- the field after the number v
abbrev behind : ℕ → ℕ → Field
behind c v = place c (pick (ltb v 10) One More) v (48 + v % 10)

seen-two : (t : Bool) → seen_after (pick t One More) ≡ More
seen-two true = refl
seen-two false = refl

seen-some : (t : Bool) → is_nothing (pick t One More) ≡ false
seen-some true = refl
seen-some false = refl

module _ (fields c : ℕ) (no_word : (eqb fields 0 && leb c 2) ≡ false) (no-mark : (not (eqb fields 0) && leb 3 c) ≡ false) where
  digit-told : (s : Seen) (v l d at : ℕ) → eqb l 13 ≡ false → (seen_one s && eqb v 0) ≡ false → d < 10 → v ≤ 6553 → 10 * v + d ≤ 65535
      → fault_at fields at (place c s v l) (48 + d) ≡ untold
  unfolding fault_at content_at odd_byte is_word is_mark number_at is_zero number_after
  digit-told s v l d at e z h few most =
      rw (
        ne_eqb (48 + d) 10 (λ q. omega arith),
        e,
        ne_eqb (48 + d) 44 (λ q. omega arith),
        ne_eqb (48 + d) 13 (λ q. omega arith),
        ne_eqb (48 + d) 59 (λ q. omega arith),
        ne_eqb (48 + d) 9 (λ q. omega arith),
        ne_eqb (48 + d) 34 (λ q. omega arith),
        ne_eqb (48 + d) 32 (λ q. omega arith),
        no_word,
        no-mark,
        le-leb 48 (48 + d) (omega arith),
        le-leb (48 + d) 57 (omega arith),
        z,
        le-leb v 6553 few,
        le-ltb 65535 (10 * v + (48 + d - 48)) (omega arith),
      )

  digit-after : (s : Seen) (v l d : ℕ) → d < 10 → v ≤ 6553 → field_after (place c s v l) (48 + d) ≡ place c (seen_after s) (10 * v + d) (48 + d)
  unfolding field_after number_after
  digit-after s v l d h few =
      let e : 48 + d - 48 ≡ d = omega arith in
      rw (ne_eqb (48 + d) 44 (λ q. omega arith), le-leb v 6553 few, e)

  one : (w l : ℕ) → w < 10 → eqb l 13 ≡ false → Still fields (place c Nothing 0 l) (decimal w) (behind c w)
  one w l h q =
      let i : 10 * 0 + w ≡ w = omega arith in
      let j : w % 10 ≡ w = omega arith in
      rw (decimal-one w h, lt-ltb w 10 h, j)
      (more (48 + w) (λ at. digit-told Nothing 0 l w at q refl h (omega arith) (omega arith)) (ne_eqb (48 + w) 10 (λ z. omega arith))
      (digit-after Nothing 0 l w h (omega arith) ∙ ap (λ (x : ℕ). place c One x (48 + w)) i) none)

  last-digit : (w l : ℕ) → 10 ≤ w → w ≤ 65535 → Still fields (place c Nothing 0 l) (decimal (w / 10)) (behind c (w / 10))
      → Still fields (place c Nothing 0 l) (decimal w) (behind c w)
  last-digit w l h few t =
      let s : Seen = pick (ltb (w / 10) 10) One More in
      let k : ℕ = 48 + w / 10 % 10 in
      let z : (seen_one s && eqb (w / 10) 0) ≡ false = ap (λ (u : Bool). seen_one s && u) (ne_eqb (w / 10) 0 (λ q. omega arith)) ∙ and-false (seen_one s) in
      let i : 10 * (w / 10) + w % 10 ≡ w = omega arith in
      rw (decimal-more w h, le-ltb w 10 h)
      (still_both t
      (more (48 + w % 10)
      (λ at. digit-told s (w / 10) k (w % 10) at (ne_eqb k 13 (λ q. omega arith)) z (omega arith) (omega arith) (omega arith))
      (ne_eqb (48 + w % 10) 10 (λ q. omega arith))
      (digit-after s (w / 10) k (w % 10) (omega arith) (omega arith)
      ∙ ap (λ (x : Seen). place c x (10 * (w / 10) + w % 10) (48 + w % 10)) (seen-two (ltb (w / 10) 10))
      ∙ ap (λ (x : ℕ). place c More x (48 + w % 10)) i)
      none))

  numbers : (n v l : ℕ) → v ≤ n → v ≤ 65535 → eqb l 13 ≡ false → Still fields (place c Nothing 0 l) (decimal v) (behind c v)
  numbers zero v l m few e = one v l (omega arith) e
  numbers (suc n) v l m few e = go (dec_lt v 10) (λ q. numbers n (v / 10) l (omega arith) (omega arith) e)
    where
      go : Dec (v < 10) → (10 ≤ v → Still fields (place c Nothing 0 l) (decimal (v / 10)) (behind c (v / 10))) → Still fields (place c Nothing 0 l) (decimal v)
          (behind c v)
      go (yes h) t = one v l h e
      go (no h) t = last-digit v l (omega arith) few (t (omega arith))

  number : (v l : ℕ) → v ≤ 65535 → eqb l 13 ≡ false → Still fields (place c Nothing 0 l) (decimal v) (behind c v)
  number v l few e = numbers v v l (omega arith) few e

-- ---- commas, marks and the end

module _ (fields c : ℕ) (s : Seen) (v l : ℕ) (no-cr : eqb l 13 ≡ false) (some : is_nothing s ≡ false) where
  comma : eqb c fields ≡ false → Still fields (place c s v l) (44 ∷ []) (place (c + 1) Nothing 0 44)
  unfolding fault_at comma_at empty_at field_after
  comma h = more {f = place c s v l} 44 (λ at. rw (no-cr, h, some)) refl refl none

  cr : ltb c fields ≡ false → Still fields (place c s v l) (13 ∷ []) (place c (seen_after s) (number_after v 13) 13)
  unfolding fault_at cr_at empty_at field_after
  cr h = more {f = place c s v l} 13 (λ at. rw (no-cr, h, some)) refl refl none

mark : (fields c x : ℕ) → eqb fields 0 ≡ false → 3 ≤ c → x < 2 → Still fields (place c Nothing 0 44) ((48 + x) ∷ []) (place c One x (48 + x))
unfolding fault_at content_at odd_byte is_word is_mark mark_fault field_after number_after
mark fields c zero h l m = more {f = place c Nothing 0 44} 48 (λ at. rw (h, le-leb 3 c l)) refl refl none
mark fields c (suc zero) h l m = more {f = place c Nothing 0 44} 49 (λ at. rw (h, le-leb 3 c l)) refl refl none
mark fields c (suc (suc x)) h l m = absurd (omega arith)

-- a field that something stands in, and no CR is the last
abbrev Closed : ℕ → ℕ → List ℕ → Field → Type 0
Closed fields c l f =
    (s : Seen) × (v : ℕ) × (b : ℕ) × (eqb b 13 ≡ false) × (is_nothing s ≡ false) × Still fields f l (place c s v b)

module _ (f : ℕ → ℕ) (two : (b : ℕ) → f b < 2) (fields : ℕ) (some : eqb fields 0 ≡ false) where
  all-marks : (n b c : ℕ) (s : Seen) (v l : ℕ) → eqb l 13 ≡ false → is_nothing s ≡ false → 2 ≤ c → c + n ≤ fields → Closed fields (c + n) (marks f b n)
      (place c s v l)
  unfolding marks
  all-marks zero b c s v l e h two_at room = (s, v, l, e, h, rw (add-zero c) none)
  all-marks (suc n) b c s v l e h two_at room =
      let w = all-marks n (suc b) (c + 1) One (f b) (48 + f b) (ne_eqb (48 + f b) 13 (λ q. omega arith)) refl (omega arith) (omega arith) in
      let i : c + 1 + n ≡ c + suc n = omega arith in (
        w.0,
        w.1,
        w.2,
        w.3,
        w.4,
        still_both (comma fields c s v l e h (ne_eqb c fields (λ q. omega arith)))
            (still_both (mark fields (c + 1) (f b) some (omega arith) (two b))
            (rw (← i) w.5)),
      )

-- ---- lines

-- a line that ends so tells nothing, and is one line
module _ (fields c : ℕ) (l r : List ℕ) (h : ltb c fields ≡ false) (w : Closed fields c l first_field) where
  abbrev whole : Field
  whole = place c (seen_after w.0) (number_after w.1 13) 13

  closed : Still fields first_field (l ++ (13 ∷ [])) whole
  closed = still_both w.5 (cr fields c w.0 w.1 w.2 w.3 w.4 h)

  joined : (l ++ (13 ∷ [])) ++ (10 ∷ r) ≡ l ++ (13 ∷ 10 ∷ r)
  joined = append_assoc l (13 ∷ []) (10 ∷ r)

  closed-end : fault_from fields 1 first_field (l ++ (13 ∷ 10 ∷ r)) ≡ untold
  closed-end =
      let q = quiet closed 1 (10 ∷ r) in
      ap (fault_from fields 1 first_field) (sym joined) ∙ q.1 ∙ end fields q.0 whole r refl

  closed-passed : (k : ℕ) → after_lines (suc k) (l ++ (13 ∷ 10 ∷ r)) ≡ after_lines k r
  closed-passed k = ap (after_lines (suc k)) (sym joined) ∙ still-passed closed k r

module _ (n k load : ℕ) (f : ℕ → ℕ) (two : (b : ℕ) → f b < 2) (few : k < 65535) (most : load ≤ 65535) where
  abbrev cell_bytes : List ℕ
  cell_bytes = label k ++ (decimal load ++ marks f 0 n)

  cell-whole : (r : List ℕ) → cell_line n k load f ++ r ≡ cell_bytes ++ (13 ∷ 10 ∷ r)
  unfolding cell_line
  cell-whole r = simp append_assoc

  cell-closed : Closed (n + 2) (2 + n) cell_bytes first_field
  unfolding label
  cell-closed =
      let m : eqb (n + 2) 0 ≡ false = ne_eqb (n + 2) 0 (λ q. omega arith) in
      let a = number (n + 2) 1 (ap (λ (t : Bool). t && leb 1 2) m) (ap (λ (t : Bool). not t && leb 3 1) m) (cell_number k) 0 (omega arith) refl in
      let b =
      comma (n + 2) 1 (pick (ltb (cell_number k) 10) One More) (cell_number k) (48 + cell_number k % 10)
      (ne_eqb (48 + cell_number k % 10) 13 (λ q. omega arith))
      (seen-some (ltb (cell_number k) 10)) (ne_eqb 1 (n + 2) (λ q. omega arith)) in
      let d = number (n + 2) 2 (ap (λ (t : Bool). t && leb 2 2) m) (ap (λ (t : Bool). not t && leb 3 2) m) load 44 most refl in
      let w =
      all-marks f two (n + 2) m n 0 2 (pick (ltb load 10) One More) load (48 + load % 10) (ne_eqb (48 + load % 10) 13 (λ q. omega arith))
      (seen-some (ltb load 10)) (omega arith) (omega arith) in
      (w.0, w.1, w.2, w.3, w.4, still_both (still_both a b) (still_both d w.5))

  pub good-cell : (r : List ℕ) → fault_from (n + 2) 1 first_field (cell_line n k load f ++ r) ≡ untold
  good-cell r =
      ap (fault_from (n + 2) 1 first_field) (cell-whole r) ∙ closed-end (n + 2) (2 + n) cell_bytes r (le-ltb (2 + n) (n + 2) (omega arith)) cell-closed

  pub cell-passed : (j : ℕ) (r : List ℕ) → after_lines (suc j) (cell_line n k load f ++ r) ≡ after_lines j r
  cell-passed j r =
      ap (after_lines (suc j)) (cell-whole r) ∙ closed-passed (n + 2) (2 + n) cell_bytes r (le-ltb (2 + n) (n + 2) (omega arith)) cell-closed j

words : Still 0 first_field cell_load (place 2 More 65536 100)
unfolding fault_at content_at odd_byte is_word comma_at empty_at field_after number_after
words =
    more 99 (λ at. refl) refl refl
    (more 101 (λ at. refl) refl refl
    (more 108 (λ at. refl) refl refl
    (more 108 (λ at. refl) refl refl
    (more 44 (λ at. refl) refl refl
    (more 108 (λ at. refl) refl refl
    (more 111 (λ at. refl) refl refl (more 97 (λ at. refl) refl refl (more 100 (λ at. refl) refl refl none))))))))

head-columns : (n k c : ℕ) (s : Seen) (v l : ℕ) → eqb l 13 ≡ false → is_nothing s ≡ false → 2 ≤ c → k + n ≤ 99 → Closed 0 (c + n) (columns k n) (place c s v l)
unfolding columns column
head-columns zero k c s v l e h two_at few = (s, v, l, e, h, rw (add-zero c) none)
head-columns (suc n) k c s v l e h two_at few =
    let x = cell_number k in
    let a = comma 0 c s v l e h (ne_eqb c 0 (λ q. omega arith)) in
    let b = number 0 (c + 1) (lt-leb (c + 1) 2 (omega arith)) refl x 44 (omega arith) refl in
    let w =
    head-columns n (suc k) (c + 1) (pick (ltb x 10) One More) x (48 + x % 10) (ne_eqb (48 + x % 10) 13 (λ q. omega arith)) (seen-some (ltb x 10)) (omega arith)
    (omega arith) in
    let i : c + 1 + n ≡ c + suc n = omega arith in
    (w.0, w.1, w.2, w.3, w.4, still_both (still_both a b) (rw (← i) w.5))

head-whole : (n : ℕ) (r : List ℕ) → header n ++ r ≡ (cell_load ++ columns 0 n) ++ (13 ∷ 10 ∷ r)
unfolding header
head-whole n r = simp append_assoc

module _ (n : ℕ) (few : n ≤ 32) where
  head-closed : Closed 0 (2 + n) (cell_load ++ columns 0 n) first_field
  head-closed =
      let w = head-columns n 0 2 More 65536 100 refl refl (omega arith) (omega arith) in
      (w.0, w.1, w.2, w.3, w.4, still_both words w.5)

  pub good-head : (r : List ℕ) → fault_from 0 1 first_field (header n ++ r) ≡ untold
  good-head r =
      ap (fault_from 0 1 first_field) (head-whole n r) ∙ closed-end 0 (2 + n) (cell_load ++ columns 0 n) r (le-ltb (2 + n) 0 (omega arith)) head-closed

  pub head_passed : (j : ℕ) (r : List ℕ) → after_lines (suc j) (header n ++ r) ≡ after_lines j r
  head_passed j r =
      ap (after_lines (suc j)) (head-whole n r) ∙ closed-passed 0 (2 + n) (cell_load ++ columns 0 n) r (le-ltb (2 + n) 0 (omega arith)) head-closed j
