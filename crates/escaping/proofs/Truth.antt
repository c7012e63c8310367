-- An escaped text, by a case for each of the five bytes: there is nothing of markup in it, and read back it is the text's letters. Assumes nothing.
use Prim.Native.Nat.{ℕ, ◌-◌}
use mathlib.Core.Path.{◌≡◌, refl, sym, ap, ◌∙◌}
use mathlib.Core.Bool.{Bool, true, false, not, ◌&&◌, true≢false}
use mathlib.Core.List.{List, [], ◌∷◌, ◌++◌}
use lib.Dec.{eqb}
use borrow.Author.Tests.{eqb-true}
use Rattle.laws.specs.Choice.{pick}
use Rattle.speech.specs.Speech.{bytes}
use Rattle.lines.specs.Match.{starts}
use Rattle.escaping.specs.Letters.{letters, stretch, whole}
use Rattle.escaping.specs.Escaped.{reference, referred, escaped, is_markup, only_text, meant, reference_rest, heard}

-- what holds of a byte's reference, from its six cases
module _ (P : ℕ → List ℕ → Type 0) (b : ℕ)
    (lt : P 60 (bytes "&lt;")) (gt : P 62 (bytes "&gt;")) (amp : P 38 (bytes "&amp;")) (quot : P 34 (bytes "&quot;")) (apos : P 39 (bytes "&#39;"))
    (other : is_markup b ≡ false → eqb b 38 ≡ false → P b (b ∷ [])) where
  by_cases : (t₁ t₂ t₃ t₄ t₅ : Bool) → eqb b 60 ≡ t₁ → eqb b 62 ≡ t₂ → eqb b 38 ≡ t₃ → eqb b 34 ≡ t₄ → eqb b 39 ≡ t₅ → P b (reference b)
  unfolding reference
  by_cases true t₂ t₃ t₄ t₅ e₁ e₂ e₃ e₄ e₅ = rw (eqb-true b 60 e₁) lt
  by_cases false true t₃ t₄ t₅ e₁ e₂ e₃ e₄ e₅ = rw (eqb-true b 62 e₂) gt
  by_cases false false true t₄ t₅ e₁ e₂ e₃ e₄ e₅ = rw (eqb-true b 38 e₃) amp
  by_cases false false false true t₅ e₁ e₂ e₃ e₄ e₅ = rw (eqb-true b 34 e₄) quot
  by_cases false false false false true e₁ e₂ e₃ e₄ e₅ = rw (eqb-true b 39 e₅) apos
  by_cases false false false false false e₁ e₂ e₃ e₄ e₅ = rw (e₁, e₂, e₃, e₄, e₅) (other (rw (e₁, e₂, e₄, e₅)) e₃)

  pub of-reference : P b (reference b)
  of-reference = by_cases (eqb b 60) (eqb b 62) (eqb b 38) (eqb b 34) (eqb b 39) refl refl refl refl refl

-- ---- nothing of markup

-- a byte that is none of the five
plain : (b : ℕ) (text : List ℕ) → is_markup b ≡ false → eqb b 38 ≡ false → only_text text ≡ true → only_text (b ∷ text) ≡ true
unfolding only_text
plain b text e a h = rw (e, a) h

one_more : (b : ℕ) (text : List ℕ) → only_text text ≡ true → only_text (reference b ++ text) ≡ true
unfolding only_text starts
one_more b text h = of-reference (λ (x : ℕ) (l : List ℕ). only_text (l ++ text) ≡ true) b h h h h h (λ e a. plain b text e a h)

all-text : (text : List ℕ) → only_text (referred text) ≡ true
unfolding referred only_text
all-text [] = refl
all-text (b ∷ text) = one_more b (referred text) (all-text text)

-- "nothing of markup is in an escaped text (no <, >, " or ', and each & begins one of the references)"
pub only-text : (text : List ℕ) → only_text (escaped text) ≡ true
only-text text = all-text (letters 0 text)

-- ---- read back

heard-plain : (b : ℕ) (text : List ℕ) → eqb b 38 ≡ false → heard 0 (b ∷ text) ≡ b ∷ heard 0 text
unfolding heard meant reference_rest starts
heard-plain b text a = rw a

heard-one : (b : ℕ) (text : List ℕ) → heard 0 (reference b ++ text) ≡ b ∷ heard 0 text
unfolding heard meant reference_rest starts reference
heard-one b text = of-reference (λ (x : ℕ) (l : List ℕ). heard 0 (l ++ text) ≡ x ∷ heard 0 text) b refl refl refl refl refl (λ e a. heard-plain b text a)

heard_all : (text : List ℕ) → heard 0 (referred text) ≡ text
unfolding referred heard
heard_all [] = refl
heard_all (b ∷ text) = heard-one b (referred text) ∙ ap (λ (r : List ℕ). b ∷ r) (heard_all text)

-- "read back, an escaped text is" its letters, and a ? for every byte that is in none
pub heard-back : (text : List ℕ) → heard 0 (escaped text) ≡ letters 0 text
heard-back text = heard_all (letters 0 text)

kept : (t : Bool) (b : ℕ) (l m : List ℕ) (w : Bool) → (not t && w) ≡ true → (w ≡ true → l ≡ m) → pick t 63 b ∷ l ≡ b ∷ m
kept true b l m w e f = absurd (true≢false (sym e))
kept false b l m w e f = ap (λ (r : List ℕ). b ∷ r) (f e)

whole_from : (left : ℕ) (text : List ℕ) → whole left text ≡ true → letters left text ≡ text
unfolding letters whole
whole_from left [] e = refl
whole_from left (b ∷ text) e =
    let here = stretch left (b ∷ text) in
    kept (eqb here 0) b (letters (here - 1) text) text (whole (here - 1) text) e (whole_from (here - 1) text)

-- "the text itself where all its letters are whole and it has no control bytes"
pub whole_back : (text : List ℕ) → whole 0 text ≡ true → heard 0 (escaped text) ≡ text
whole_back text e = heard-back text ∙ whole_from 0 text e
