-- A side of an item that is written at a place is read there as what was written. Assumes nothing.
use mathlib.Core.Path.{◌≡◌, refl, sym, ap, ◌∙◌}
use mathlib.Core.Bool.{true}
use mathlib.Core.List.{List, [], ◌∷◌, ◌++◌, append_assoc}
use Prim.Native.Nat.{ℕ, zero, suc, ◌+◌, ◌/◌, ◌%◌, ◌≤◌, ◌<◌}
use native.Mathlib.Omega.{arith}
use native.Mathlib.Decide.{dec_lt}
use lib.Dec.{leb}
use lib.ListN.{length, drop, length-append, length-drop}
use lib.Seq.{drop-drop, drop-append_seam}
use borrow.Author.Tests.{le-leb, leb-true, ne_eqb}
use Rattle.laws.proofs.Choice.{both}
use Rattle.text.specs.Decimal.{decimal}
use Rattle.text.proofs.Digits.{decimal-one, decimal-more}
use Rattle.lines.specs.Match.{starts, nowhere, eaten}
use Rattle.lines.specs.Content.{scanned, number_read}
use Rattle.lines.proofs.Match.{starts-there, starts-past}
use Rattle.lines.proofs.Numbers.{scanned-decimal, scanned-end}
use Rattle.blocklist.specs.Format.{Side, all, one, range, side_text, side_has, side_fits, star_byte, dash_byte}
use Rattle.blocklist.specs.Read.{span_of, span_read, in_span}
use Rattle.blocklist.specs.declared.Span.{Span}
use Rattle.blocklist.proofs.Steps.{span-star, span-one, span-two}

-- ---- texts at a place

-- after a text that stands at `at`
pub after_text : (s : List ℕ) (at : ℕ) (w r : List ℕ) → drop at s ≡ w ++ r → drop (at + length w) s ≡ r
after_text s at w r e = sym (drop-drop (length w) at s) ∙ ap (drop (length w)) e ∙ drop-append_seam w r

-- a place where a byte stands is before the end
pub inside : (s : List ℕ) (at : ℕ) (w r : List ℕ) → 0 < length w → drop at s ≡ w ++ r → at + length w ≤ length s
inside s at w r h e = omega (arith, sym (length-drop at s) ∙ ap length e ∙ length-append w r)

pub eaten-yes : (s : List ℕ) (at : ℕ) (w r : List ℕ) → drop at s ≡ w ++ r → eaten s at w ≡ at + length w
unfolding eaten
eaten-yes s at w r e = rw (ap (starts w) e ∙ starts-there w r)

pub eaten-other : (s : List ℕ) (at b d : ℕ) (r : List ℕ) → drop at s ≡ d ∷ r → (d ≡ b → ⊥) → eaten s at (b ∷ []) ≡ nowhere
unfolding eaten starts
eaten-other s at b d r e h = rw (e, ne_eqb d b h)

pub eaten-none : (s : List ℕ) (at b : ℕ) → drop at s ≡ [] → eaten s at (b ∷ []) ≡ nowhere
unfolding eaten
eaten-none s at b e = rw (e, starts-past b [])

-- ---- numbers

-- the first digit of a number
pub first-digit : (n x : ℕ) → x ≤ n → (d : ℕ) × (r : List ℕ) × (decimal x ≡ d ∷ r) × (48 ≤ d)
first-digit zero x h = let e : x ≡ 0 = omega arith in (48 + x, [], decimal-one x (omega arith), omega arith)
first-digit (suc n) x h = go (dec_lt x 10) (λ m. first-digit n (x / 10) (omega arith))
  where
    go : Dec (x < 10) → (10 ≤ x → (d : ℕ) × (r : List ℕ) × (decimal (x / 10) ≡ d ∷ r) × (48 ≤ d)) → (d : ℕ) × (r : List ℕ) × (decimal x ≡ d ∷ r) × (48 ≤ d)
    go (yes m) f = (48 + x, [], decimal-one x m, omega arith)
    go (no m) f =
        let g = f (omega arith) in
        (g.0, g.1 ++ ((48 + x % 10) ∷ []), decimal-more x (omega arith) ∙ ap (λ (l : List ℕ). l ++ ((48 + x % 10) ∷ [])) g.2, g.3)

-- what may stand after a side: no digit, and no dash
pub record Closed (r : List ℕ) : Type 0 where
  pub no_digit : (v : ℕ) → scanned v r ≡ v
  pub no-dash : (s : List ℕ) (at : ℕ) → drop at s ≡ r → eaten s at (dash_byte ∷ []) ≡ nowhere

pub closed-end : Closed []
unfolding scanned
closed-end = record { no_digit = λ v. refl; no-dash = λ s at e. eaten-none s at dash_byte e }

pub closed-byte : (d : ℕ) (r : List ℕ) → d < 48 → (d ≡ dash_byte → ⊥) → Closed (d ∷ r)
closed-byte d r h n = record { no_digit = λ v. scanned-end v d r h; no-dash = λ s at e. eaten-other s at dash_byte d r e n }

-- a number and what is no digit after it
pub number_at : (s : List ℕ) (at most v : ℕ) (r : List ℕ) → drop at s ≡ decimal v ++ r → scanned v r ≡ v → v ≤ most → v < 100000
    → number_read s at most ≡ record { value = v; next = at + length (decimal v) }
unfolding number_read
number_at s at most v r e stop l few =
    let is : scanned 0 (drop at s) ≡ v = ap (scanned 0) e ∙ scanned-decimal v r few ∙ stop in
    rw (is, le-leb v most l, eaten-yes s at (decimal v) r e)

-- no star stands where a number does
no-star : (s : List ℕ) (at v : ℕ) (r : List ℕ) → drop at s ≡ decimal v ++ r → nowhere ≡ eaten s at (star_byte ∷ [])
no-star s at v r e =
    let f = first-digit v v (omega arith) in
    sym (eaten-other s at star_byte f.0 (f.1 ++ r) (e ∙ ap (λ (l : List ℕ). l ++ r) f.2) (λ q. omega (arith, q, f.3)))

-- ---- a side

-- its first and its last number
abbrev pub low_of : Side → ℕ
low_of all = 1
low_of (one n) = n
low_of (range a b) = a

abbrev pub high_of : ℕ → Side → ℕ
high_of most all = most
high_of most (one n) = n
high_of most (range a b) = b

-- the span of a side, with the place after it
abbrev pub span_for : ℕ → Side → ℕ → Span
span_for most x next = record { from = low_of x; to = high_of most x; next = next }

pub span-has : (most : ℕ) (x : Side) (next k : ℕ) → in_span (span_for most x next) k ≡ side_has most x k
span-has most all next k = refl
span-has most (one n) next k = refl
span-has most (range a b) next k = refl

span-good : (a b next : ℕ) → 1 ≤ a → a ≤ b → span_of a b next ≡ record { from = a; to = b; next = next }
unfolding span_of
span-good a b next h l = rw (le-leb 1 a h, le-leb a b l)

module _ (s : List ℕ) (short : length s < nowhere) (at most : ℕ) (few : most ≤ 128) where
  pub side-read : (x : Side) (r : List ℕ) → side_fits most x ≡ true → Closed r → drop at s ≡ side_text x ++ r → span_read s at most
      ≡ span_for most x (at + length (side_text x))
  side-read all r h c e =
      let i : at + 1 ≤ length s = inside s at (star_byte ∷ []) r (omega arith) e in
      sym (span-star s at most (at + 1) (sym (eaten-yes s at (star_byte ∷ []) r e)) (λ q. omega (arith, q)))
  side-read (one n) r h c e =
      let f = both (leb 1 n) (leb n most) h in
      let low : 1 ≤ n = leb-true 1 n f.0 in
      let high : n ≤ most = leb-true n most f.1 in
      sym (span-one s at most nowhere (no-star s at n r e) refl (record { value = n; next = at + length (decimal n) })
      (sym (number_at s at most n r e (c.no_digit n) high (omega arith)))
      nowhere (sym (c.no-dash s (at + length (decimal n)) (after_text s at (decimal n) r e))) refl)
      ∙ span-good n n (at + length (decimal n)) low (omega arith)
  side-read (range a b) r h c e =
      let f = both (leb 1 a) _ h in
      let g = both (leb a b) (leb b most) f.1 in
      let low : 1 ≤ a = leb-true 1 a f.0 in
      let up : a ≤ b = leb-true a b g.0 in
      let high : b ≤ most = leb-true b most g.1 in
      let w : drop at s ≡ decimal a ++ (dash_byte ∷ (decimal b ++ r)) = e ∙ append_assoc (decimal a) (dash_byte ∷ decimal b) r in
      let p = at + length (decimal a) in
      let w₁ : drop p s ≡ (dash_byte ∷ []) ++ (decimal b ++ r) = after_text s at (decimal a) _ w in
      let w₂ : drop (p + 1) s ≡ decimal b ++ r = after_text s p (dash_byte ∷ []) _ w₁ in
      let i : p + 1 ≤ length s = inside s p (dash_byte ∷ []) _ (omega arith) w₁ in
      let q : p + 1 + length (decimal b) ≡ at + length (decimal a ++ (dash_byte ∷ decimal b)) = omega
      (arith, length-append (decimal a) (dash_byte ∷ decimal b)) in
      sym (span-two s at most nowhere (no-star s at a _ w) refl (record { value = a; next = p })
      (sym (number_at s at most a _ w (scanned-end a dash_byte _ (omega arith)) (omega arith) (omega arith)))
      (p + 1) (sym (eaten-yes s p (dash_byte ∷ []) _ w₁)) (λ z. omega (arith, z)) (record { value = b; next = p + 1 + length (decimal b) })
      (sym (number_at s (p + 1) most b r w₂ (c.no_digit b) high (omega arith))))
      ∙ span-good a b (p + 1 + length (decimal b)) low up ∙ ap (span_for most (range a b)) q
