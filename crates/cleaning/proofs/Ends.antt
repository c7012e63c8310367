-- Cleaning keeps the lines: what is written for some bytes has as many line ends as they have, so line l of the cleaned sheet is made of line l of the sheet.
-- Each step writes an LF for an LF, and for no other byte. Assumes nothing.
use Prim.Native.Nat.{ℕ, ◌+◌}
use mathlib.Core.Path.{◌≡◌, refl, sym, ap, ap₂, ◌∙◌}
use mathlib.Core.Bool.{Bool, true, false, ◌&&◌, ◌||◌}
use mathlib.Core.List.{List, [], ◌∷◌, ◌++◌, append_assoc}
use native.Mathlib.Omega.{arith}
use lib.Dec.{eqb}
use borrow.Author.Tests.{eqb-true, eqb-false}
use Rattle.laws.specs.Choice.{pick}
use Rattle.laws.specs.Sum.{bit}
use Rattle.cleaning.specs.declared.Quotes.TheVariants.{Open, Closed}
use Rattle.cleaning.specs.declared.Content.TheVariants.{Filled}
use Rattle.cleaning.specs.declared.Standing.{Standing}
use Rattle.cleaning.specs.declared.Step.{Step}
use Rattle.cleaning.specs.Clean.{is_unquoted, quote_open, is_empty, is_separator, separator_in, spoiled, on_blank, quoted, on_quote, is_reach, is_late}
use Rattle.cleaning.specs.Clean.{on_content, mend_of, on_separator, on_cr}
use Rattle.cleaning.specs.Clean.{fed}
use Rattle.cleaning.specs.Clean.{on_lf, after_cr, on_field, step_of, byte_out, out_of, clean_from}
use Rattle.cleaning.specs.Means.{line_ends}

ends-both : (l m : List ℕ) → line_ends (l ++ m) ≡ line_ends l + line_ends m
unfolding line_ends
ends-both [] m = omega arith
ends-both (b ∷ l) m = omega (arith, ends-both l m)

-- the line ends of a step are those of its three bytes
ends-byte : (b : ℕ) → line_ends (byte_out b) ≡ bit (eqb b 10)
unfolding byte_out line_ends
ends-byte b = go (eqb b 0) refl
  where
    go : (t : Bool) → eqb b 0 ≡ t → line_ends (pick t [] (b ∷ [])) ≡ bit (eqb b 10)
    go true e = let z : b ≡ 0 = eqb-true _ _ e in rw z
    go false e = omega arith

ends-step : (s : Step) → line_ends (out_of s) ≡ bit (eqb s.mend 10) + (bit (eqb s.byte 10) + bit (eqb s.feed 10))
unfolding out_of
ends-step s =
    omega (
      arith,
      ends-both (byte_out s.mend) (byte_out s.byte ++ byte_out s.feed),
      ends-both (byte_out s.byte) (byte_out s.feed),
      ends-byte s.mend,
      ends-byte s.byte,
      ends-byte s.feed,
    )

-- how many a step writes, by its bytes
abbrev fed_by : Step → ℕ
fed_by s = bit (eqb s.mend 10) + (bit (eqb s.byte 10) + bit (eqb s.feed 10))

mend-not : (p : Standing) → eqb (mend_of p) 10 ≡ false
unfolding mend_of
mend-not p = go (quote_open p.quotes) (eqb p.column 0 && is_empty p.content)
  where
    go : (t u : Bool) → eqb (pick t 34 (pick u 48 0)) 10 ≡ false
    go true u = refl
    go false true = refl
    go false false = refl

module _ (p : Standing) (b : ℕ) (n : eqb b 10 ≡ false) where
  quote-fed : fed_by (on_quote p) ≡ 0
  unfolding on_quote
  quote-fed = go (quote_open p.quotes) (is_unquoted p.quotes && is_empty p.content)
    where
      go : (t u : Bool) → fed_by (pick t (quoted p Closed) (pick u (quoted p Open) (spoiled p 34))) ≡ 0
      go true u = refl
      go false true = refl
      go false false = refl

  content-fed : fed_by (on_content p b) ≡ 0
  unfolding on_content
  content-fed = go (is_late p b) (is_reach p b)
    where
      go : (t u : Bool)
          → fed_by
          (pick t (spoiled p b)
          (record {
            spot = record { column = p.column; quotes = p.quotes; content = Filled; ended = false };
            mend = 0;
            byte = pick u 49 b;
            feed = 0;
            change = pick u 7 0;
          }))
          ≡ 0
      go true u = rw n
      go false true = refl
      go false false = rw n

  field-fed : fed_by (on_field p b) ≡ 0
  unfolding on_field on_blank
  field-fed = go (eqb b 32) (eqb b 34) (eqb b 44)
    where
      go : (t u v : Bool) → fed_by (pick t (on_blank p) (pick u (on_quote p) (pick v (spoiled p b) (on_content p b)))) ≡ 0
      go true u v = refl
      go false true v = quote-fed
      go false false true = rw n
      go false false false = content-fed

module _ (sep : ℕ) (other : eqb sep 10 ≡ false) where
  -- an LF for an LF, and for no other byte
  step-fed : (p : Standing) (b : ℕ) → fed_by (step_of sep p b) ≡ bit (eqb b 10)
  unfolding step_of after_cr on_separator on_lf on_cr
  step-fed p b = go p.ended (eqb b sep) refl (eqb b 10) refl (eqb b 13)
    where
      go : (t u : Bool) → eqb b sep ≡ u → (v : Bool) → eqb b 10 ≡ v → (x : Bool)
          → fed_by (pick t (pick v (fed 0) (spoiled p b)) (pick u (on_separator sep p) (pick v (on_lf p 3) (pick x (on_cr p) (on_field p b))))) ≡ bit v
      go true u e true q x = refl
      go true u e false q x = rw q
      go false true e true q x =
          let i : b ≡ sep = eqb-true _ _ e in
          let j : b ≡ 10 = eqb-true _ _ q in
          absurd (eqb-false sep 10 other (sym i ∙ j))
      go false true e false q x = rw (mend-not p)
      go false false e true q x = rw (mend-not p)
      go false false e false q true = rw (mend-not p)
      go false false e false q false = field-fed p b q

  -- what is written for the bytes a
  pub lines-kept : (p : Standing) (a r : List ℕ)
      → (w : List ℕ) × (q : Standing) × (clean_from sep p (a ++ r) ≡ w ++ clean_from sep q r) × (line_ends w ≡ line_ends a)
  unfolding clean_from line_ends
  lines-kept p [] r = ([], p, refl, refl)
  lines-kept p (b ∷ a) r =
      let s = step_of sep p b in
      let t = lines-kept s.spot a r in (
        out_of s ++ t.0,
        t.1,
        ap (λ (x : List ℕ). out_of s ++ x) t.2 ∙ sym (append_assoc (out_of s) t.0 (clean_from sep t.1 r)),
        ends-both (out_of s) t.0 ∙ ap₂ (λ (x y : ℕ). x + y) (ends-step s ∙ step-fed p b) t.3,
      )

-- no sheet's separator is an LF
pub separator-not-end : (s : List ℕ) → eqb (separator_in s) 10 ≡ false
unfolding separator_in is_separator
separator-not-end [] = refl
separator-not-end (b ∷ s) = go (eqb b 44) refl (eqb b 59) refl (eqb b 9) refl (separator-not-end s)
  where
    go : (t : Bool) → eqb b 44 ≡ t → (u : Bool) → eqb b 59 ≡ u → (v : Bool) → eqb b 9 ≡ v → eqb (separator_in s) 10 ≡ false
        → eqb (pick (t || (u || v)) b (separator_in s)) 10 ≡ false
    go true e u f v g h = let z : b ≡ 44 = eqb-true _ _ e in rw z
    go false e true f v g h = let z : b ≡ 59 = eqb-true _ _ f in rw z
    go false e false f true g h = let z : b ≡ 9 = eqb-true _ _ g in rw z
    go false e false f false g h = h
