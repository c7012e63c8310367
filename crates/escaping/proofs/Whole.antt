-- An escaped text is all letters: every byte of it is in one. By induction over the text, with so many tails left of the letter before; a letter that was
-- whole is whole again, since none of its bytes is one of the five. Assumes nothing.
use Prim.Native.Nat.{ℕ, zero, suc, ◌-◌, ◌≤◌, ◌<◌}
use mathlib.Core.Path.{◌≡◌, refl, sym, ap, ◌∙◌}
use mathlib.Core.Bool.{Bool, true, false, not, ◌&&◌, true≢false}
use mathlib.Core.List.{List, [], ◌∷◌, ◌++◌}
use mathlib.Core.Logic.{⊎_elim}
use native.Mathlib.Omega.{arith}
use lib.Dec.{ltb}
use borrow.Author.Tests.{ltb-true, ltb-false, ne_eqb, not-true}
use lib.ListN.{get_or}
use Rattle.laws.proofs.Choice.{cases, both}
use Rattle.escaping.specs.Letters.{between, is_one, is_tail, is_second, is_third, is_two, is_three, is_four, letter_size, letter_at, letters, whole}
use Rattle.escaping.specs.Escaped.{reference, referred, escaped}
use Rattle.escaping.proofs.Truth.{of-reference}
use Rattle.escaping.proofs.Pieces.{no_second, no_third}

-- ---- bytes of 128 and more

-- between two bounds
inside : (low b top : ℕ) → between low b top ≡ true → (low ≤ b) × (b < top)
inside low b top e =
    let t = both (not (ltb b low)) (ltb b top) e in
    (ltb-false b low (not-true _ t.0), ltb-true b top t.1)

-- stand for themselves
high-plain : (b : ℕ) → 128 ≤ b → reference b ≡ b ∷ []
unfolding reference
high-plain b h =
    rw (
      ne_eqb b 60 (λ e. omega (arith, e, h)),
      ne_eqb b 62 (λ e. omega (arith, e, h)),
      ne_eqb b 38 (λ e. omega (arith, e, h)),
      ne_eqb b 34 (λ e. omega (arith, e, h)),
      ne_eqb b 39 (λ e. omega (arith, e, h)),
    )

from_false : {P : Type 0} (t : Bool) → t ≡ true → t ≡ false → P
from_false t e f = absurd (true≢false (sym e ∙ f))

second-tail : (a b : ℕ) → is_second a b ≡ true → is_tail b ≡ true
second-tail a b e = ⊎_elim (λ h. h) (λ h. from_false (is_second a b) e (no_second a b h)) (cases (is_tail b))

third-tail : (a b c : ℕ) → is_third a b c ≡ true → is_tail c ≡ true
third-tail a b c e = ⊎_elim (λ h. h) (λ h. from_false (is_third a b c) e (no_third a b c h)) (cases (is_tail c))

-- ---- the tails that are left of a letter

abbrev Tails : ℕ → List ℕ → Type 0
Tails zero text = Unit {0}
Tails (suc k) [] = ⊥
Tails (suc k) (b ∷ text) = (is_tail b ≡ true) × Tails k text

one-tail : (text : List ℕ) → is_tail (get_or text 0 0) ≡ true → Tails 1 text
one-tail [] e = true≢false (sym e)
one-tail (b ∷ text) e = (e, tt)

two-tails : (text : List ℕ) → is_tail (get_or text 0 0) ≡ true → is_tail (get_or text 1 0) ≡ true → Tails 2 text
two-tails [] e f = true≢false (sym e)
two-tails (b ∷ text) e f = (e, one-tail text f)

three-tails : (text : List ℕ) → is_tail (get_or text 0 0) ≡ true → is_tail (get_or text 1 0) ≡ true → is_tail (get_or text 2 0) ≡ true → Tails 3 text
three-tails [] e f g = true≢false (sym e)
three-tails (b ∷ text) e f g = (e, two-tails text f g)

-- one of them is kept as it is
letters-tail : (k b : ℕ) (text : List ℕ) → letters (suc k) (b ∷ text) ≡ b ∷ letters k text
unfolding letters
letters-tail k b text =
    let e : suc k - 1 ≡ k = omega arith in
    let n = ne_eqb (suc k) 0 (λ h. omega (arith, h)) in
    rw (n, e) (rw n)

after_tail : (k b : ℕ) (text : List ℕ) → is_tail b ≡ true → referred (letters (suc k) (b ∷ text)) ≡ b ∷ referred (letters k text)
unfolding referred
after_tail k b text e =
    ap referred (letters-tail k b text) ∙ ap (λ (r : List ℕ). r ++ referred (letters k text)) (high-plain b (inside 128 b 192 e).0)

-- so that they are the first bytes
same_byte : (k : ℕ) (text : List ℕ) → Tails k text → (i : ℕ) → i < k → get_or (referred (letters k text)) i 0 ≡ get_or text i 0
same_byte zero text h i l = absurd (omega (arith, l))
same_byte (suc k) [] h i l = absurd h
same_byte (suc k) (b ∷ text) h zero l = ap (λ (r : List ℕ). get_or r 0 0) (after_tail k b text h.0)
same_byte (suc k) (b ∷ text) h (suc i) l =
    ap (λ (r : List ℕ). get_or r (suc i) 0) (after_tail k b text h.0) ∙ same_byte k text h.1 i (omega (arith, l))

-- ---- a byte at a time

whole-tail : (k b : ℕ) (text : List ℕ) → whole (suc k) (b ∷ text) ≡ whole k text
unfolding whole
whole-tail k b text =
    let e : suc k - 1 ≡ k = omega arith in
    let n = ne_eqb (suc k) 0 (λ h. omega (arith, h)) in
    rw (n, e) (rw n)

-- a letter of so many bytes
whole-first : (b n : ℕ) (text : List ℕ) → letter_at (b ∷ text) ≡ suc n → whole 0 (b ∷ text) ≡ whole n text
unfolding whole
whole-first b n text e = let f : suc n - 1 ≡ n = omega arith in rw (e, ne_eqb (suc n) 0 (λ h. omega (arith, h)), f)

letters-first : (b n : ℕ) (text : List ℕ) → letter_at (b ∷ text) ≡ suc n → letters 0 (b ∷ text) ≡ b ∷ letters n text
unfolding letters
letters-first b n text e = let f : suc n - 1 ≡ n = omega arith in rw (e, ne_eqb (suc n) 0 (λ h. omega (arith, h)), f)

letters-none : (b : ℕ) (text : List ℕ) → letter_at (b ∷ text) ≡ 0 → letters 0 (b ∷ text) ≡ 63 ∷ letters 0 text
unfolding letters
letters-none b text e = rw e

one_size : (a b c d : ℕ) → is_one a ≡ true → letter_size a b c d ≡ 1
unfolding letter_size
one_size a b c d e = rw e

-- the reference of a letter of one byte is such letters
whole-one : (b : ℕ) (text : List ℕ) → is_one b ≡ true → whole 0 (reference b ++ text) ≡ whole 0 text
unfolding whole letter_size is_one
whole-one b text e =
    of-reference (λ (x : ℕ) (l : List ℕ). whole 0 (l ++ text) ≡ whole 0 text) b refl refl refl refl refl
    (λ f g. whole-first b 0 text (one_size b _ _ _ e))

-- ---- a letter of two bytes or more, told again
module _ (b : ℕ) (text : List ℕ) (n : ℕ) (high : 128 ≤ b) (size : letter_at (b ∷ text) ≡ suc n)
    (again : letter_at (b ∷ referred (letters n text)) ≡ suc n) (rest : whole n (referred (letters n text)) ≡ true) where
  whole_long : whole 0 (referred (letters 0 (b ∷ text))) ≡ true
  unfolding referred
  whole_long =
      let r = referred (letters n text) in
      ap (λ (l : List ℕ). whole 0 (referred l)) (letters-first b n text size)
      ∙ ap (λ (l : List ℕ). whole 0 (l ++ r)) (high-plain b high) ∙ whole-first b n r again ∙ rest

-- ---- every text

-- how many bytes a letter has, from the tests of its bytes
module _ (a b c d : ℕ) (one : is_one a ≡ false) where
  two_size : is_two a b ≡ true → letter_size a b c d ≡ 2
  unfolding letter_size
  two_size e = rw (one, e)

  three-size : is_two a b ≡ false → is_three a b c ≡ true → letter_size a b c d ≡ 3
  unfolding letter_size
  three-size e f = rw (one, e, f)

  four-size : is_two a b ≡ false → is_three a b c ≡ false → is_four a b c d ≡ true → letter_size a b c d ≡ 4
  unfolding letter_size
  four-size e f g = rw (one, e, f, g)

  no_size : is_two a b ≡ false → is_three a b c ≡ false → is_four a b c d ≡ false → letter_size a b c d ≡ 0
  unfolding letter_size
  no_size e f g = rw (one, e, f, g)

-- what each test says of its bytes
two_is : (a b : ℕ) → is_two a b ≡ true → (128 ≤ a) × (is_tail b ≡ true)
unfolding is_two
two_is a b e = let t = both (between 194 a 224) (is_second a b) e in (omega (arith, (inside 194 a 224 t.0).0), second-tail a b t.1)

three-is : (a b c : ℕ) → is_three a b c ≡ true → (128 ≤ a) × ((is_tail b ≡ true) × (is_tail c ≡ true))
unfolding is_three
three-is a b c e =
    let t = both (between 224 a 240) (is_second a b && is_third a b c) e in
    let u = both (is_second a b) (is_third a b c) t.1 in
    (omega (arith, (inside 224 a 240 t.0).0), (second-tail a b u.0, third-tail a b c u.1))

four_is : (a b c d : ℕ) → is_four a b c d ≡ true → (128 ≤ a) × ((is_tail b ≡ true) × ((is_tail c ≡ true) × (is_tail d ≡ true)))
unfolding is_four
four_is a b c d e =
    let t = both (between 240 a 245) (is_second a b && (is_tail c && is_tail d)) e in
    let u = both (is_second a b) (is_tail c && is_tail d) t.1 in
    let v = both (is_tail c) (is_tail d) u.1 in
    (omega (arith, (inside 240 a 245 t.0).0), (second-tail a b u.0, (v.0, v.1)))

-- by the tests of a byte and those after it, where what comes after is all letters, whatever tails are left
module _ (b : ℕ) (text : List ℕ) (rest : (k : ℕ) → Tails k text → whole k (referred (letters k text)) ≡ true) where
  abbrev Done : Type 0
  Done = whole 0 (referred (letters 0 (b ∷ text))) ≡ true

  one-case : is_one b ≡ true → Done
  unfolding referred
  one-case e =
      ap (λ (l : List ℕ). whole 0 (referred l)) (letters-first b 0 text (one_size b _ _ _ e)) ∙ whole-one b (referred (letters 0 text)) e ∙ rest 0 tt

  none-case : letter_at (b ∷ text) ≡ 0 → Done
  unfolding referred is_one
  none-case e = ap (λ (l : List ℕ). whole 0 (referred l)) (letters-none b text e) ∙ whole-one 63 (referred (letters 0 text)) refl ∙ rest 0 tt

  module _ (one : is_one b ≡ false) where
    two-case : is_two b (get_or text 0 0) ≡ true → Done
    two-case e =
        let t = two_is b (get_or text 0 0) e in
        let h = one-tail text t.1 in
        let s = same_byte 1 text h 0 (omega arith) in
        whole_long b text 1 t.0 (two_size b _ _ _ one e) (two_size b _ _ _ one (ap (is_two b) s ∙ e)) (rest 1 h)

    three-case : is_two b (get_or text 0 0) ≡ false → is_three b (get_or text 0 0) (get_or text 1 0) ≡ true → Done
    three-case e f =
        let t = three-is b (get_or text 0 0) (get_or text 1 0) f in
        let h = two-tails text t.1.0 t.1.1 in
        let s = same_byte 2 text h 0 (omega arith) in
        let u = same_byte 2 text h 1 (omega arith) in
        let again : is_three b (get_or (referred (letters 2 text)) 0 0) (get_or (referred (letters 2 text)) 1 0) ≡ true = rw (s, u) f in
        whole_long b text 2 t.0 (three-size b _ _ _ one e f) (three-size b _ _ _ one (ap (is_two b) s ∙ e) again) (rest 2 h)

    four-case : is_two b (get_or text 0 0) ≡ false → is_three b (get_or text 0 0) (get_or text 1 0) ≡ false
        → is_four b (get_or text 0 0) (get_or text 1 0) (get_or text 2 0) ≡ true → Done
    four-case e f g =
        let t = four_is b (get_or text 0 0) (get_or text 1 0) (get_or text 2 0) g in
        let h = three-tails text t.1.0 t.1.1.0 t.1.1.1 in
        let r = referred (letters 3 text) in
        let s = same_byte 3 text h 0 (omega arith) in
        let u = same_byte 3 text h 1 (omega arith) in
        let v = same_byte 3 text h 2 (omega arith) in
        let no : is_three b (get_or r 0 0) (get_or r 1 0) ≡ false = rw (s, u) f in
        let again : is_four b (get_or r 0 0) (get_or r 1 0) (get_or r 2 0) ≡ true = rw (s, u, v) g in
        whole_long b text 3 t.0 (four-size b _ _ _ one e f g) (four-size b _ _ _ one (ap (is_two b) s ∙ e) no again) (rest 3 h)

  begun : Done
  begun =
      ⊎_elim one-case
      (λ one. ⊎_elim (two-case one)
      (λ e. ⊎_elim (three-case one e)
      (λ f. ⊎_elim (four-case one e f) (λ g. none-case (no_size b _ _ _ one e f g)) (cases (is_four b (get_or text 0 0) (get_or text 1 0) (get_or text 2 0))))
      (cases (is_three b (get_or text 0 0) (get_or text 1 0))))
      (cases (is_two b (get_or text 0 0))))
      (cases (is_one b))

all_whole : (text : List ℕ) (k : ℕ) → Tails k text → whole k (referred (letters k text)) ≡ true
unfolding letters referred whole
all_whole [] zero h = refl
all_whole [] (suc k) h = absurd h
all_whole (b ∷ text) zero h = begun b text (all_whole text)
all_whole (b ∷ text) (suc k) h = ap (whole (suc k)) (after_tail k b text h.0) ∙ whole-tail k b (referred (letters k text)) ∙ all_whole text k h.1

-- every byte of an escaped text is in a letter, so that it has no control byte and nothing that is no UTF-8
pub escaped-whole : (text : List ℕ) → whole 0 (escaped text) ≡ true
escaped-whole text = all_whole text 0 tt
