-- A long text in pieces. Whether a letter begins at a byte depends on no byte past one that is no tail; so a text may be cut before such a byte, and after
-- three tails, since no letter has more. By induction over the first piece. Assumes nothing.
use Prim.Native.Nat.{ℕ, ◌+◌, ◌-◌, ◌≤◌, ◌<◌}
use mathlib.Core.Path.{◌≡◌, refl, sym, ap, ◌∙◌}
use mathlib.Core.Bool.{Bool, true, false, not, ◌&&◌}
use mathlib.Core.List.{List, [], ◌∷◌, ◌++◌, append_assoc}
use mathlib.Core.Logic.{◌⊎◌, inl, inr, ⊎_elim}
use native.Mathlib.Omega.{arith}
use lib.Dec.{ltb, eqb}
use borrow.Author.Tests.{ltb-true, ltb-false, lt-ltb, le-ltb, ne_eqb, not-true}
use lib.ListN.{length, take, drop, get_or, take-append-drop}
use lib.Seq.{take_all}
use Rattle.laws.specs.Choice.{pick}
use Rattle.laws.proofs.Choice.{cases, both}
use Rattle.text.proofs.Left.{next-left, none_left}
use Rattle.escaping.specs.Letters.{between, is_one, is_tail, second_low, second_top, is_second, third_top, is_third, is_two, is_three, is_four}
use Rattle.escaping.specs.Letters.{letter_size, letter_at, stretch, letters}
use Rattle.escaping.specs.Escaped.{reference, referred, escaped}
use Rattle.escaping.specs.Pieces.{whole_part}

-- ---- what is no tail is no second, third or fourth byte

pub second-no : (x y : Bool) → y ≡ false → (x && y) ≡ false
second-no true y e = e
second-no false y e = refl

neither : (x y : Bool) → (not x && y) ≡ false → (x ≡ true) ⊎ (y ≡ false)
neither true y e = inl refl
neither false y e = inr e

outside : (low b top : ℕ) → 128 ≤ low → top ≤ 192 → is_tail b ≡ false → between low b top ≡ false
outside low b top l t e =
    ⊎_elim
    (λ h. let below : b < low = omega (arith, ltb-true b 128 h) in rw (lt-ltb b low below))
    (λ h. let above : top ≤ b = omega (arith, ltb-false b 192 h) in second-no (not (ltb b low)) (ltb b top) (le-ltb b top above))
    (neither (ltb b 128) (ltb b 192) e)

at_least : (t : Bool) (k x y : ℕ) → k ≤ x → k ≤ y → k ≤ pick t x y
at_least true k x y p q = p
at_least false k x y p q = q

at_most : (t : Bool) (k x y : ℕ) → x ≤ k → y ≤ k → pick t x y ≤ k
at_most true k x y p q = p
at_most false k x y p q = q

pub no_second : (a b : ℕ) → is_tail b ≡ false → is_second a b ≡ false
unfolding is_second
no_second a b e =
    outside (second_low a) b (second_top a)
    (at_least (eqb a 194) 128 _ _ (omega arith) (at_least (eqb a 224) 128 _ _ (omega arith) (at_least (eqb a 240) 128 _ _ (omega arith) (omega arith))))
    (at_most (eqb a 237) 192 _ _ (omega arith) (at_most (eqb a 244) 192 _ _ (omega arith) (omega arith))) e

pub no_third : (a b c : ℕ) → is_tail c ≡ false → is_third a b c ≡ false
unfolding is_third
no_third a b c e =
    outside 128 c (third_top a b) (omega arith) (at_most (eqb a 239) 192 _ _ (at_most (eqb b 191) 192 _ _ (omega arith) (omega arith)) (omega arith)) e

-- ---- so the size of a letter is told by the bytes before it

module _ (a b c d : ℕ) where
  one_told : is_tail b ≡ false → letter_size a b c d ≡ pick (is_one a) 1 0
  unfolding letter_size is_two is_three is_four
  one_told e =
      let s = no_second a b e in
      let two : (between 194 a 224 && is_second a b) ≡ false = second-no (between 194 a 224) _ s in
      let three : (between 224 a 240 && (is_second a b && is_third a b c)) ≡ false = second-no (between 224 a 240) _
      (ap (λ (x : Bool). x && is_third a b c) s) in
      let four : (between 240 a 245 && (is_second a b && (is_tail c && is_tail d))) ≡ false =
      second-no (between 240 a 245) _ (ap (λ (x : Bool). x && (is_tail c && is_tail d)) s) in
      rw (two, three, four)

  two-told : is_tail c ≡ false → letter_size a b c d ≡ pick (is_one a) 1 (pick (is_two a b) 2 0)
  unfolding letter_size is_three is_four
  two-told e =
      let three : (between 224 a 240 && (is_second a b && is_third a b c)) ≡ false =
      second-no (between 224 a 240) _ (second-no (is_second a b) _ (no_third a b c e)) in
      let four : (between 240 a 245 && (is_second a b && (is_tail c && is_tail d))) ≡ false =
      second-no (between 240 a 245) _ (second-no (is_second a b) _ (ap (λ (x : Bool). x && is_tail d) e)) in
      rw (three, four)

  three-told : is_tail d ≡ false → letter_size a b c d ≡ pick (is_one a) 1 (pick (is_two a b) 2 (pick (is_three a b c) 3 0))
  unfolding letter_size is_four
  three-told e =
      let four : (between 240 a 245 && (is_second a b && (is_tail c && is_tail d))) ≡ false =
      second-no (between 240 a 245) _ (second-no (is_second a b) _ (second-no (is_tail c) _ e)) in
      rw four

  four-most : letter_size a b c d ≤ 4
  unfolding letter_size
  four-most =
      at_most (is_one a) 4 _ _ (omega arith)
      (at_most (is_two a b) 4 _ _ (omega arith) (at_most (is_three a b c) 4 _ _ (omega arith) (at_most (is_four a b c d) 4 _ _ (omega arith) (omega arith))))

  -- no letter begins with a tail
  tail-told : is_tail a ≡ true → letter_size a b c d ≡ 0
  unfolding letter_size is_one is_two is_three is_four
  tail-told e =
      let t = both (not (ltb a 128)) (ltb a 192) e in
      let low : 128 ≤ a = ltb-false a 128 (not-true _ t.0) in
      let top : a < 192 = ltb-true a 192 t.1 in
      rw (
        ne_eqb a 10 (λ h. omega (arith, h, low)),
        ne_eqb a 9 (λ h. omega (arith, h, low)),
        second-no (not (ltb a 32)) (ltb a 127) (le-ltb a 127 (omega arith)),
        lt-ltb a 194 (omega arith),
        lt-ltb a 224 (omega arith),
        lt-ltb a 240 (omega arith),
      )

-- a letter is inside its text
within : (text : List ℕ) → letter_at text ≤ length text
unfolding letter_size is_one is_second is_two is_three is_four
within [] = omega arith
within (a ∷ []) = rw (one_told a 0 0 0 refl) (at_most (is_one a) 1 _ _ (omega arith) (omega arith))
within (a ∷ b ∷ []) = rw (two-told a b 0 0 refl) (at_most (is_one a) 2 _ _ (omega arith) (at_most (is_two a b) 2 _ _ (omega arith) (omega arith)))
within (a ∷ b ∷ c ∷ []) =
    rw (three-told a b c 0 refl)
    (at_most (is_one a) 3 _ _ (omega arith) (at_most (is_two a b) 3 _ _ (omega arith) (at_most (is_three a b c) 3 _ _ (omega arith) (omega arith))))
within (a ∷ b ∷ c ∷ d ∷ text) = omega (arith, four-most a b c d)

-- ---- where no letter is cut

-- at each byte of the first piece the same letter begins, whether or not the second comes after it
abbrev Uncut : List ℕ → List ℕ → Type 0
Uncut [] u = Unit {0}
Uncut (b ∷ s) u = (letter_at ((b ∷ s) ++ u) ≡ letter_at (b ∷ s)) × Uncut s u

letters-cut : (s u : List ℕ) → Uncut s u → (left : ℕ) → left ≤ length s → letters left (s ++ u) ≡ letters left s ++ letters 0 u
unfolding letters
letters-cut [] u h left l = let z : left ≡ 0 = omega (arith, l) in ap (λ (k : ℕ). letters k u) z
letters-cut (b ∷ s) u h left l =
    let here : stretch left ((b ∷ s) ++ u) ≡ stretch left (b ∷ s) = ap (λ (n : ℕ). pick (eqb left 0) n left) h.0 in
    let inside : stretch left (b ∷ s) - 1 ≤ length s = let m = at_most (eqb left 0) (length (b ∷ s)) _ _ (within (b ∷ s)) l in omega (arith, m) in
    rw here (ap (λ (r : List ℕ). pick (eqb (stretch left (b ∷ s)) 0) 63 b ∷ r) (letters-cut s u h.1 (stretch left (b ∷ s) - 1) inside))

-- before a byte that is no tail
before : (s : List ℕ) (x : ℕ) (u : List ℕ) → is_tail x ≡ false → Uncut s (x ∷ u)
before [] x u e = tt
before (a ∷ []) x u e = (one_told a x _ _ e ∙ sym (one_told a 0 0 0 refl), tt)
before (a ∷ b ∷ []) x u e = (two-told a b x _ e ∙ sym (two-told a b 0 0 refl), before (b ∷ []) x u e)
before (a ∷ b ∷ c ∷ []) x u e = (three-told a b c x e ∙ sym (three-told a b c 0 refl), before (b ∷ c ∷ []) x u e)
before (a ∷ b ∷ c ∷ d ∷ s) x u e = (refl, before (b ∷ c ∷ d ∷ s) x u e)

-- after three tails
module _ (x y z : ℕ) (u : List ℕ) (p : is_tail x ≡ true) (q : is_tail y ≡ true) (r : is_tail z ≡ true) where
  after : (s : List ℕ) → Uncut (s ++ (x ∷ y ∷ z ∷ [])) u
  after [] = (
    tail-told x _ _ _ p ∙ sym (tail-told x _ _ _ p),
    (tail-told y _ _ _ q ∙ sym (tail-told y _ _ _ q), (tail-told z _ _ _ r ∙ sym (tail-told z _ _ _ r), tt)),
  )
  after (a ∷ []) = (refl, after [])
  after (a ∷ b ∷ []) = (refl, after (b ∷ []))
  after (a ∷ b ∷ c ∷ []) = (refl, after (b ∷ c ∷ []))
  after (a ∷ b ∷ c ∷ d ∷ s) = (refl, after (b ∷ c ∷ d ∷ s))

-- ---- the text is its pieces

referred-append : (s u : List ℕ) → referred (s ++ u) ≡ referred s ++ referred u
unfolding referred
referred-append [] u = refl
referred-append (b ∷ s) u = ap (λ (r : List ℕ). reference b ++ r) (referred-append s u) ∙ sym (append_assoc (reference b) (referred s) (referred u))

cut : (s u : List ℕ) → Uncut s u → escaped (s ++ u) ≡ escaped s ++ escaped u
cut s u h = ap referred (letters-cut s u h 0 (omega arith)) ∙ referred-append (letters 0 s) (letters 0 u)

-- at a place of the text
abbrev Parts : List ℕ → List ℕ → ℕ → Type 0
Parts text u k = escaped (text ++ u) ≡ escaped (take k text) ++ escaped (drop k text ++ u)

split : (text u : List ℕ) (k : ℕ) → text ++ u ≡ take k text ++ (drop k text ++ u)
split text u k = ap (λ (t : List ℕ). t ++ u) (sym (take-append-drop k text)) ∙ append_assoc (take k text) (drop k text) u

module _ (text u : List ℕ) where
  at_byte : (k : ℕ) → k < length text → is_tail (get_or text k 0) ≡ false → Parts text u k
  at_byte k l e =
      let more = drop (k + 1) text ++ u in
      let rest : drop k text ++ u ≡ get_or text k 0 ∷ more = ap (λ (t : List ℕ). t ++ u) (next-left text k l) in
      ap escaped (split text u k ∙ ap (λ (t : List ℕ). take k text ++ t) rest)
      ∙ cut (take k text) (get_or text k 0 ∷ more) (before (take k text) (get_or text k 0) more e)
      ∙ ap (λ (t : List ℕ). escaped (take k text) ++ escaped t) (sym rest)

  at-start : Parts text u 0
  unfolding letters referred
  at-start = refl

  at-end : 3 ≤ length text → is_tail (get_or text (length text - 3) 0) ≡ true → is_tail (get_or text (length text - 2) 0) ≡ true
      → is_tail (get_or text (length text - 1) 0) ≡ true → Parts text u (length text)
  at-end l p q r =
      let n = length text in
      let x = get_or text (n - 3) 0 in
      let y = get_or text (n - 2) 0 in
      let z = get_or text (n - 1) 0 in
      let i : n - 3 + 1 ≡ n - 2 = omega arith in
      let j : n - 2 + 1 ≡ n - 1 = omega arith in
      let k : n - 1 + 1 ≡ n = omega arith in
      let one : drop (n - 3) text ≡ x ∷ drop (n - 2) text = rw i at (next-left text (n - 3) (omega arith)) in
      let two : drop (n - 2) text ≡ y ∷ drop (n - 1) text = rw j at (next-left text (n - 2) (omega arith)) in
      let three : drop (n - 1) text ≡ z ∷ drop n text = rw k at (next-left text (n - 1) (omega arith)) in
      let none : drop n text ≡ [] = none_left text n (omega arith) in
      let last : drop (n - 3) text ≡ x ∷ y ∷ z ∷ [] =
      one ∙ ap (λ (t : List ℕ). x ∷ t) (two ∙ ap (λ (t : List ℕ). y ∷ t) (three ∙ ap (λ (t : List ℕ). z ∷ t) none)) in
      let whole : text ≡ take (n - 3) text ++ (x ∷ y ∷ z ∷ []) =
      sym (take-append-drop (n - 3) text) ∙ ap (λ (t : List ℕ). take (n - 3) text ++ t) last in
      let safe : Uncut text u = rw (sym whole) at (after x y z u p q r (take (n - 3) text)) in
      rw (take_all n text (omega arith), none) (cut text u safe)

  -- "a letter must not be cut in two at a piece's border"
  pub pieces : Parts text u (whole_part text)
  pieces =
      ⊎_elim (λ h. rw h at-start)
      (λ h. let l : 3 ≤ length text = ltb-false (length text) 3 h in rw h
      (⊎_elim
      (λ r. rw r
      (⊎_elim
      (λ q. rw q (⊎_elim (λ p. rw p (at-end l p q r)) (λ p. rw p (at_byte (length text - 3) (omega arith) p))
      (cases (is_tail (get_or text (length text - 3) 0)))))
      (λ q. rw q (at_byte (length text - 2) (omega arith) q)) (cases (is_tail (get_or text (length text - 2) 0)))))
      (λ r. rw r (at_byte (length text - 1) (omega arith) r)) (cases (is_tail (get_or text (length text - 1) 0)))))
      (cases (ltb (length text) 3))
