-- Where tidying names no change the sheet is as it was. A step that makes no change writes its own byte, or leaves a quote before it. A sheet that the reader
-- takes has no quote, so each step has written its own byte. Assumes nothing.
use Prim.Native.Nat.{ℕ, ◌+◌, ◌≤◌, ◌<◌}
use mathlib.Core.Path.{◌≡◌, refl, sym, ap, ◌∙◌}
use mathlib.Core.Bool.{Bool, true, false, ◌&&◌, ◌||◌, or-true, false≢true}
use mathlib.Core.List.{List, [], ◌∷◌, ◌++◌}
use mathlib.Core.Logic.{◌⊎◌, inl, inr, ⊎_elim}
use native.Mathlib.Omega.{arith}
use lib.Dec.{eqb}
use lib.ListN.{length, length-take}
use lib.Seq.{take_all}
use borrow.Author.Tests.{eq-eqb, ne_eqb, eqb-true}
use Rattle.laws.specs.Choice.{pick}
use Rattle.lines.specs.Match.{starts}
use Rattle.cleaning.specs.Clean.{is_unquoted, quote_open, is_closed, is_empty, is_spaced, order_mark, first_spot, unchanged, next_column, spoiled, quoted}
use Rattle.cleaning.specs.Clean.{on_blank, on_quote, is_reach, is_late, on_content, mend_of}
use Rattle.cleaning.specs.Clean.{comma_change, on_separator, on_cr, fed, on_lf, after_cr, on_field, step_of, is_fresh, nothing, end_of, byte_out, out_of}
use Rattle.cleaning.specs.Clean.{clean_from}
use Rattle.cleaning.specs.Clean.{begins, cleaned, separator_in, makes, noted, line_after, changes_from, mark_change, changes_of}
use Rattle.cleaning.specs.declared.Quotes.TheVariants.{Unquoted, Open, Closed}
use Rattle.cleaning.specs.declared.Content.TheVariants.{Empty, Filled}
use Rattle.cleaning.specs.declared.Standing.{Standing}
use Rattle.cleaning.specs.declared.Step.{Step}
use Rattle.cleaning.specs.declared.Tidied.{Tidied}
use Rattle.tidying.specs.Tidy.{most_bytes, tidied, bad_line_of, tidy_answer}
use Rattle.std.specs.Prelude.{Ok}
use Rattle.tidying.proofs.Copied.{plain_step, Through, none, more, sheet-through}
use Rattle.tidying.proofs.Laws.{sheet-few, record_of-law, tidied-good}

-- ---- quotes

abbrev quote_in : List ℕ → Bool
quote_in [] = false
quote_in (b ∷ l) = eqb b 34 || quote_in l

quote-after : (l r : List ℕ) → quote_in r ≡ true → quote_in (l ++ r) ≡ true
quote-after [] r h = h
quote-after (b ∷ l) r h = ap (λ (t : Bool). eqb b 34 || t) (quote-after l r h) ∙ or-true (eqb b 34)

quote-first : (s : Step) (r : List ℕ) → s.mend ≡ 34 → quote_in (out_of s ++ r) ≡ true
unfolding out_of byte_out
quote-first s r e = rw e refl

-- ---- a step that makes no change

abbrev Quiet : Step → Type 0
Quiet s = (kind : ℕ) → 2 ≤ kind → kind ≤ 8 → makes kind s ≡ false

-- it writes its own byte, or leaves a quote
abbrev Leaves : ℕ → Step → Type 0
Leaves b s = (out_of s ≡ b ∷ []) ⊎ (s.mend ≡ 34)

changes : (s : Step) (kind : ℕ) → 2 ≤ kind → s.change ≡ kind → makes kind s ≡ true
unfolding makes
changes s kind h e = rw (ne_eqb kind 0 (λ z. omega arith), eq-eqb s.change kind e) refl

not-changed : (s : Step) → Quiet s → (kind : ℕ) → 2 ≤ kind → kind ≤ 8 → s.change ≡ kind → ⊥
not-changed s q kind l h e = false≢true (sym (q kind l h) ∙ changes s kind l e)

zero-made : (s : Step) → s.mend ≡ 48 → makes 6 s ≡ true
unfolding makes
zero-made s e = rw e (or-true (eqb s.change 6))

not-zero : (s : Step) → Quiet s → s.mend ≡ 48 → ⊥
not-zero s q e = false≢true (sym (q 6 (omega arith) (omega arith)) ∙ zero-made s e)

abbrev written : Standing → ℕ → ℕ → ℕ → Step
written q m b c = record { spot = q; mend = m; byte = b; feed = 0; change = c }

leaves : (q : Standing) (m b c : ℕ) → eqb b 0 ≡ false → (m ≡ 34) ⊎ ((m ≡ 48) ⊎ (m ≡ 0)) → Quiet (written q m b c) → Leaves b (written q m b c)
unfolding out_of byte_out
leaves q m b c n (inl e) quiet = inr e
leaves q m b c n (inr (inl e)) quiet = absurd (not-zero (written q m b c) quiet e)
leaves q m b c n (inr (inr e)) quiet = inl (rw (e, n) refl)

mend-is : (p : Standing) → (mend_of p ≡ 34) ⊎ ((mend_of p ≡ 48) ⊎ (mend_of p ≡ 0))
unfolding mend_of
mend-is p = go (quote_open p.quotes) (eqb p.column 0 && is_empty p.content)
  where
    go : (t u : Bool) → let m : ℕ = pick t 34 (pick u 48 0) in (m ≡ 34) ⊎ ((m ≡ 48) ⊎ (m ≡ 0))
    go true u = inl refl
    go false true = inr (inl refl)
    go false false = inr (inr refl)

on-separator : (sep : ℕ) (p : Standing) → Quiet (on_separator sep p) → Leaves sep (on_separator sep p)
unfolding on_separator comma_change
on-separator sep p quiet = go (eqb sep 44) refl quiet
  where
    go : (t : Bool) → eqb sep 44 ≡ t
        → Quiet (written (record { column = next_column p.column; quotes = Unquoted; content = Empty; ended = false }) (mend_of p) 44 (pick t 0 2))
        → Leaves sep (written (record { column = next_column p.column; quotes = Unquoted; content = Empty; ended = false }) (mend_of p) 44 (pick t 0 2))
    go true e q = rw (eqb-true sep 44 e) (leaves _ (mend_of p) 44 0 refl (mend-is p) q)
    go false e q = absurd (not-changed _ q 2 (omega arith) (omega arith) refl)

after-cr : (p : Standing) (b : ℕ) → Leaves b (after_cr p b)
unfolding after_cr out_of byte_out
after-cr p b = go (eqb b 10) refl
  where
    go : (t : Bool) → eqb b 10 ≡ t → Leaves b (pick t (fed 0) (spoiled p b))
    go true e = inl (rw (eqb-true b 10 e) refl)
    go false e = inr refl

on-quote : (p : Standing) (b : ℕ) → Quiet (on_quote p) → Leaves b (on_quote p)
unfolding on_quote
on-quote p b = go (quote_open p.quotes) (is_unquoted p.quotes && is_empty p.content)
  where
    go : (t u : Bool) → Quiet (pick t (quoted p Closed) (pick u (quoted p Open) (spoiled p 34))) → Leaves b
        (pick t (quoted p Closed) (pick u (quoted p Open) (spoiled p 34)))
    go true u q = absurd (not-changed _ q 4 (omega arith) (omega arith) refl)
    go false true q = absurd (not-changed _ q 4 (omega arith) (omega arith) refl)
    go false false q = inr refl

or_left : (t u : Bool) → (t || u) ≡ false → t ≡ false
or_left true u e = e
or_left false u e = refl

nonzero : (p : Standing) (b : ℕ) → is_late p b ≡ false → eqb b 0 ≡ false
unfolding is_late
nonzero p b e = or_left (eqb b 0) (is_closed p.quotes || is_spaced p.content) e

on-content : (p : Standing) (b : ℕ) → Quiet (on_content p b) → Leaves b (on_content p b)
unfolding on_content
on-content p b = go (is_late p b) refl (is_reach p b)
  where
    go : (t : Bool) → is_late p b ≡ t → (u : Bool)
        → Quiet (pick t (spoiled p b) (written (record { column = p.column; quotes = p.quotes; content = Filled; ended = false }) 0 (pick u 49 b) (pick u 7 0)))
        → Leaves b (pick t (spoiled p b) (written (record { column = p.column; quotes = p.quotes; content = Filled; ended = false }) 0 (pick u 49 b)
        (pick u 7 0)))
    go true e u q = inr refl
    go false e true q = absurd (not-changed _ q 7 (omega arith) (omega arith) refl)
    go false e false q = leaves _ 0 b 0 (nonzero p b e) (inr (inr refl)) q

on-blank : (p : Standing) → Quiet (on_blank p) → ⊥
unfolding on_blank
on-blank p q = not-changed _ q 5 (omega arith) (omega arith) refl

on-field : (p : Standing) (b : ℕ) → Quiet (on_field p b) → Leaves b (on_field p b)
unfolding on_field
on-field p b = go (eqb b 32) (eqb b 34) (eqb b 44)
  where
    go : (t u v : Bool) → Quiet (pick t (on_blank p) (pick u (on_quote p) (pick v (spoiled p b) (on_content p b))))
        → Leaves b (pick t (on_blank p) (pick u (on_quote p) (pick v (spoiled p b) (on_content p b))))
    go true u v q = absurd (on-blank p q)
    go false true v q = on-quote p b q
    go false false true q = inr refl
    go false false false q = on-content p b q

on-cr : (p : Standing) → Quiet (on_cr p) → Leaves 13 (on_cr p)
unfolding on_cr
on-cr p q = leaves _ (mend_of p) 13 0 refl (mend-is p) q

on-lf : (p : Standing) (c : ℕ) → 2 ≤ c → c ≤ 8 → Quiet (on_lf p c) → ⊥
unfolding on_lf
on-lf p c l h q = not-changed _ q c l h refl

step-leaves : (sep : ℕ) (p : Standing) (b : ℕ) → Quiet (step_of sep p b) → Leaves b (step_of sep p b)
unfolding step_of
step-leaves sep p b = go p.ended (eqb b sep) refl (eqb b 10) (eqb b 13) refl
  where
    go : (t u : Bool) → eqb b sep ≡ u → (v w : Bool) → eqb b 13 ≡ w
        → Quiet (pick t (after_cr p b) (pick u (on_separator sep p) (pick v (on_lf p 3) (pick w (on_cr p) (on_field p b)))))
        → Leaves b (pick t (after_cr p b) (pick u (on_separator sep p) (pick v (on_lf p 3) (pick w (on_cr p) (on_field p b)))))
    go true u e v w f q = after-cr p b
    go false true e v w f q = rw (eqb-true b sep e) (on-separator sep p q)
    go false false e true w f q = absurd (on-lf p 3 (omega arith) (omega arith) q)
    go false false e false true f q = rw (eqb-true b 13 f) (on-cr p q)
    go false false e false false f q = on-field p b q

empty : out_of nothing ≡ []
unfolding out_of byte_out
empty = refl

end_leaves : (p : Standing) → Quiet (end_of p) → out_of (end_of p) ≡ []
unfolding end_of
end_leaves p = go (is_fresh p) p.ended
  where
    go : (t u : Bool) → Quiet (pick t nothing (pick u (fed 8) (on_lf p 8))) → out_of (pick t nothing (pick u (fed 8) (on_lf p 8))) ≡ []
    go true u q = empty
    go false true q = absurd (not-changed _ q 8 (omega arith) (omega arith) refl)
    go false false q = absurd (on-lf p 8 (omega arith) (omega arith) q)

-- ---- the changes of some bytes

module _ (kind sep : ℕ) where
  noted-grows : (s : Step) (line : ℕ) (c : Tidied) → c.times ≤ (noted kind s line c).times
  unfolding noted
  noted-grows s line c = go (makes kind s)
    where
      go : (t : Bool) → c.times ≤ (pick t (record { times = c.times + 1; line = pick (eqb c.times 0) line c.line }) c).times
      go true = omega arith
      go false = omega arith

  grows : (l : List ℕ) (p : Standing) (line : ℕ) (c : Tidied) → c.times ≤ (changes_from kind sep p line c l).times
  unfolding changes_from
  grows [] p line c = noted-grows (end_of p) line c
  grows (b ∷ r) p line c =
      omega (
        arith,
        noted-grows (step_of sep p b) line c,
        grows r (step_of sep p b).spot (line_after line b) (noted kind (step_of sep p b) line c),
      )

  noted-none : (s : Step) (line : ℕ) (c : Tidied) → (noted kind s line c).times ≡ 0 → makes kind s ≡ false
  unfolding noted
  noted-none s line c = go (makes kind s)
    where
      go : (t : Bool) → (pick t (record { times = c.times + 1; line = pick (eqb c.times 0) line c.line }) c).times ≡ 0 → t ≡ false
      go true h = absurd (omega arith)
      go false h = refl

-- no change is named in these bytes, whatever was named before
abbrev Unnamed : ℕ → Standing → ℕ → List ℕ → Type 0
Unnamed sep p line l = (kind : ℕ) → 2 ≤ kind → kind ≤ 8 → (c : Tidied) × ((changes_from kind sep p line c l).times ≡ 0)

module _ (sep : ℕ) where
  join : (b : ℕ) (r x : List ℕ) (s : Step) → Leaves b s → (x ≡ r) ⊎ (quote_in x ≡ true) → (out_of s ++ x ≡ b ∷ r) ⊎ (quote_in (out_of s ++ x) ≡ true)
  join b r x s (inl e) (inl f) = inl (rw (e, f) refl)
  join b r x s (inl e) (inr f) = inr (quote-after (out_of s) x f)
  join b r x s (inr e) f = inr (quote-first s x e)

  step-quiet : (b : ℕ) (r : List ℕ) (p : Standing) (line : ℕ) → Unnamed sep p line (b ∷ r) → Quiet (step_of sep p b)
  unfolding changes_from
  step-quiet b r p line u kind a h =
      let w = u kind a h in
      noted-none kind sep (step_of sep p b) line w.0
      (omega (arith, w.1, grows kind sep r (step_of sep p b).spot (line_after line b) (noted kind (step_of sep p b) line w.0)))

  rest-unnamed : (b : ℕ) (r : List ℕ) (p : Standing) (line : ℕ) → Unnamed sep p line (b ∷ r) → Unnamed sep (step_of sep p b).spot (line_after line b) r
  unfolding changes_from
  rest-unnamed b r p line u kind a h = let w = u kind a h in (noted kind (step_of sep p b) line w.0, w.1)

  end_quiet : (p : Standing) (line : ℕ) → Unnamed sep p line [] → Quiet (end_of p)
  unfolding changes_from
  end_quiet p line u kind a h = let w = u kind a h in noted-none kind sep (end_of p) line w.0 w.1

  same-or-quote : (l : List ℕ) (p : Standing) (line : ℕ) → Unnamed sep p line l → (clean_from sep p l ≡ l) ⊎ (quote_in (clean_from sep p l) ≡ true)
  unfolding clean_from
  same-or-quote [] p line u = inl (end_leaves p (end_quiet p line u))
  same-or-quote (b ∷ r) p line u =
      join b r _ (step_of sep p b) (step-leaves sep p b (step-quiet b r p line u))
      (same-or-quote r (step_of sep p b).spot (line_after line b) (rest-unnamed b r p line u))

-- ---- a good sheet has no quote

quote-odd : (p q : Standing) → step_of 44 p 34 ≡ plain_step q 34 → ⊥
unfolding step_of after_cr on_field on_quote
quote-odd p q e =
    go p.ended (quote_open p.quotes) (is_unquoted p.quotes && is_empty p.content) (ap (λ (s : Step). s.mend) e) (ap (λ (s : Step). s.byte) e)
  where
    go : (t u v : Bool) → (pick t (spoiled p 34) (pick u (quoted p Closed) (pick v (quoted p Open) (spoiled p 34)))).mend ≡ 0
        → (pick t (spoiled p 34) (pick u (quoted p Closed) (pick v (quoted p Open) (spoiled p 34)))).byte ≡ 34 → ⊥
    go true u v m b = omega arith
    go false true v m b = omega arith
    go false false true m b = omega arith
    go false false false m b = omega arith

no-quote : {p q : Standing} {l : List ℕ} → Through p l q → quote_in l ≡ false
no-quote none = refl
no-quote (more {p = p} {q = q} {l = l} b n e t) = go (eqb b 34) refl (no-quote t)
  where
    go : (u : Bool) → eqb b 34 ≡ u → quote_in l ≡ false → (u || quote_in l) ≡ false
    go true h f = absurd (quote-odd p q (rw (eqb-true b 34 h) at e))
    go false h f = f

-- ---- the sheet

module _ (s out : List ℕ) (n : ℕ) (done : tidy_answer s out ≡ Ok n) (unnamed : (kind : ℕ) → 1 ≤ kind → kind ≤ 8 → (changes_of s kind).times ≡ 0) where
  good : bad_line_of (tidied s) ≡ 0
  good = tidied-good s out n done

  free : quote_in (tidied s) ≡ false
  free =
      let w = record_of-law (tidied s) good in
      rw (← w.1.bytes) (no-quote (sheet-through w.0 w.1.fits.cells.0))

  short : length (tidied s) < most_bytes
  short =
      let w = record_of-law (tidied s) good in
      rw (← w.1.bytes) (sheet-few w.0 w.1.fits)

  whole : tidied s ≡ cleaned s
  unfolding tidied
  whole = take_all most_bytes (cleaned s) (omega (arith, rw length-take at short))

  unmarked : starts order_mark s ≡ false
  unfolding changes_of mark_change
  unmarked = go (starts order_mark s) (unnamed 1 (omega arith) (omega arith))
    where
      go : (t : Bool) → (pick t (record { times = 1; line = 1 }) unchanged).times ≡ 0 → t ≡ false
      go true h = absurd (omega arith)
      go false h = refl

  from_first : begins s ≡ 0
  unfolding begins
  from_first = rw unmarked refl

  all-unnamed : Unnamed (separator_in s) first_spot 1 s
  unfolding changes_of
  all-unnamed kind a h = (unchanged, rw (ne_eqb kind 1 (λ z. omega arith), from_first) at (unnamed kind (omega arith) h))

  cleaned-is : cleaned s ≡ clean_from (separator_in s) first_spot s
  unfolding cleaned
  cleaned-is = rw from_first refl

  -- where no change is named, what tidying gives is the sheet
  pub unnamed-left : tidied s ≡ s
  unnamed-left =
      ⊎_elim (λ e. whole ∙ cleaned-is ∙ e) (λ q. absurd (false≢true (sym free ∙ ap quote_in (whole ∙ cleaned-is) ∙ q)))
      (same-or-quote (separator_in s) s first_spot 1 all-unnamed)
