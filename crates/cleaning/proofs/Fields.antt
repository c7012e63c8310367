-- A field taken at once writes what its bytes write one by one: an open quote and a closed one write nothing, content writes itself, and the separator writes a
-- comma, after a 0 where a mark has no content. Assumes nothing.
use Prim.Native.Nat.{ℕ, ◌+◌, ◌≤◌, ◌<◌}
use mathlib.Core.Path.{◌≡◌, refl, sym, ap, ap₂, subst, ◌∙◌}
use mathlib.Core.Bool.{Bool, true, false, ◌&&◌, not, true≢false}
use mathlib.Core.List.{List, [], ◌∷◌, ◌++◌, append_assoc, append-nil}
use native.Mathlib.Omega.{arith}
use native.Mathlib.Numerals.{add-one}
use lib.Dec.{eqb, leb}
use lib.ListN.{length, drop, get_or}
use lib.Seq.{drop-cons}
use borrow.Author.Tests.{eq-eqb, ne_eqb, eqb-true, leb-true}
use Rattle.std.specs.Prelude.{Option, Some, None}
use Rattle.laws.specs.Choice.{pick}
use Rattle.laws.proofs.Choice.{both}
use Rattle.lines.specs.Format.{comma_byte}
use Rattle.cleaning.specs.Clean.{is_unquoted, quote_open, is_closed, is_empty, is_separator, separator_in, next_column, on_quote, is_reach, is_late, on_content}
use Rattle.cleaning.specs.Clean.{mend_of, comma_change, on_separator}
use Rattle.cleaning.specs.Clean.{on_field, step_of, byte_out, out_of, clean_from}
use Rattle.cleaning.specs.Fields.{is_plain, content_of, empty_of, empty_field, quoted_field, bare_field, field_at, field_spot, begins_field}
use Rattle.cleaning.specs.Fields.{field_step}
use Rattle.cleaning.specs.Fields.{next_field, Stepped}
use Rattle.cleaning.specs.declared.Quotes.{Quotes}
use Rattle.cleaning.specs.declared.Content.{Content}
use Rattle.cleaning.specs.declared.Quotes.TheVariants.{Unquoted, Open, Closed}
use Rattle.cleaning.specs.declared.Content.TheVariants.{Empty, Filled, Spaced}
use Rattle.cleaning.specs.declared.Standing.{Standing}
use Rattle.cleaning.specs.declared.Step.{Step}
use Rattle.cleaning.specs.declared.Field.{Field}
use Rattle.cleaning.proofs.Kept.{clean-next}

-- ---- separators and content

pub separator-is : (s : List ℕ) → is_separator (separator_in s) ≡ true
unfolding separator_in is_separator
separator-is [] = refl
separator-is (b ∷ s) = go (is_separator b) refl (separator-is s)
  where
    go : (t : Bool) → is_separator b ≡ t → is_separator (separator_in s) ≡ true → is_separator (pick t b (separator_in s)) ≡ true
    go true e h = e
    go false e h = h

-- a byte that is no separator is not the sheet's
other : (sep b : ℕ) → is_separator sep ≡ true → is_separator b ≡ false → eqb b sep ≡ false
other sep b h n = ne_eqb b sep (λ e. let z : true ≡ false = sym h ∙ ap is_separator (sym e) ∙ n in let q : ◌≡◌ {A = ℕ} 0 1 = cc in omega arith)

-- what is not content elsewhere
pub plain-is : (b : ℕ) → is_plain b ≡ true → (48 ≤ b) × (b ≡ 59 → ⊥)
unfolding is_plain
plain-is b h = let p = both (leb 48 b) (not (eqb b 59)) h in (leb-true 48 b p.0, λ e. go (eqb b 59) (eq-eqb b 59 e) p.1)
  where
    go : (t : Bool) → t ≡ true → not t ≡ true → ⊥
    go true e n = let q : ◌≡◌ {A = ℕ} 0 1 = cc in omega arith
    go false e n = let q : ◌≡◌ {A = ℕ} 0 1 = cc in omega arith

module _ (b : ℕ) (h : is_plain b ≡ true) where
  not_a : (x : ℕ) → x < 48 → eqb b x ≡ false
  not_a x l = let p = plain-is b h in ne_eqb b x (λ e. omega (arith, p.0))

  plain_other : is_separator b ≡ false
  unfolding is_separator
  plain_other = rw (not_a 44 (omega arith), ne_eqb b 59 (plain-is b h).1, not_a 9 (omega arith))

-- ---- the steps of a field

module _ (sep column : ℕ) (is : is_separator sep ≡ true) where
  -- a spot in the field
  abbrev at : Quotes → Content → Standing
  at quotes content = record { column = column; quotes = quotes; content = content; ended = false }

  abbrev quiet : Quotes → Content → Step
  quiet quotes content = record { spot = at quotes content; mend = 0; byte = 0; feed = 0; change = 4 }

  quote-not : eqb 34 sep ≡ false
  unfolding is_separator
  quote-not = other sep 34 is refl

  opened : step_of sep (at Unquoted Empty) 34 ≡ quiet Open Empty
  unfolding step_of on_field on_quote
  opened = rw quote-not

  closed : (content : Content) → step_of sep (at Open content) 34 ≡ quiet Closed content
  unfolding step_of on_field on_quote
  closed content = rw quote-not

  -- content, in quotes or not
  abbrev written : Quotes → ℕ → ℕ → Step
  written quotes b change = record { spot = at quotes Filled; mend = 0; byte = content_of column b; feed = 0; change = change }

  content : (quotes : Quotes) (b : ℕ) → is_closed quotes ≡ false → is_plain b ≡ true
      → step_of sep (at quotes Empty) b ≡ written quotes b (pick (is_reach (at quotes Empty) b) 7 0)
  unfolding step_of on_field on_content is_late is_reach content_of
  content quotes b q h =
      rw (
        other sep b is (plain_other b h),
        not_a b h 10 (omega arith),
        not_a b h 13 (omega arith),
        not_a b h 32 (omega arith),
        not_a b h 34 (omega arith),
        not_a b h 44 (omega arith),
        not_a b h 0 (omega arith),
        q,
      )

  -- the separator
  ended : (quotes : Quotes) (filled : Content) (mend : ℕ) → mend_of (at quotes filled) ≡ mend
      → step_of sep (at quotes filled) sep
      ≡ record { spot = field_spot (next_column column); mend = mend; byte = comma_byte; feed = 0; change = comma_change sep }
  unfolding step_of on_separator
  ended quotes filled mend e = rw (eq-eqb sep sep refl, e)

  mend-none : (quotes : Quotes) → quote_open quotes ≡ false → mend_of (at quotes Empty) ≡ empty_of column
  unfolding mend_of empty_of
  mend-none quotes q = rw q (go (eqb column 0))
    where
      go : (t : Bool) → ◌≡◌ {A = ℕ} (pick (t && true) 48 0) (pick t 48 0)
      go true = refl
      go false = refl

  mend-some : (quotes : Quotes) → quote_open quotes ≡ false → mend_of (at quotes Filled) ≡ 0
  unfolding mend_of
  mend-some quotes q = rw q (go (eqb column 0))
    where
      go : (t : Bool) → ◌≡◌ {A = ℕ} (pick (t && false) 48 0) 0
      go true = refl
      go false = refl

  -- a step more
  one_more : (p : Standing) (b : ℕ) (st : Step) (r : List ℕ) → step_of sep p b ≡ st → clean_from sep p (b ∷ r) ≡ out_of st ++ clean_from sep st.spot r
  unfolding clean_from
  one_more p b st r e = rw e

  -- ---- the fields, whole

  -- after the content, or where there is none, the rest is the comma
  tail : (quotes : Quotes) (filled : Content) (r : List ℕ) → mend_of (at quotes filled) ≡ 0 → (x : ℕ)
      → byte_out x ++ clean_from sep (at quotes filled) (sep ∷ r) ≡ out_of (field_step column x) ++ clean_from sep (field_spot (next_column column)) r
  unfolding out_of field_step byte_out
  tail quotes filled r e x =
      rw (one_more (at quotes filled) sep _ r (ended quotes filled 0 e))
      (sym (append_assoc (byte_out x) (comma_byte ∷ []) (clean_from sep (field_spot (next_column column)) r)))

  empty : (quotes : Quotes) (r : List ℕ) → quote_open quotes ≡ false
      → clean_from sep (at quotes Empty) (sep ∷ r) ≡ out_of (field_step column (empty_of column)) ++ clean_from sep (field_spot (next_column column)) r
  unfolding out_of field_step
  empty quotes r q = one_more (at quotes Empty) sep _ r (ended quotes Empty (empty_of column) (mend-none quotes q))

  -- the content and what comes after it
  some : (quotes : Quotes) (b : ℕ) (r : List ℕ) → is_closed quotes ≡ false → is_plain b ≡ true
      → clean_from sep (at quotes Empty) (b ∷ r) ≡ byte_out (content_of column b) ++ clean_from sep (at quotes Filled) r
  unfolding out_of byte_out
  some quotes b r q h =
      one_more (at quotes Empty) b _ r (content quotes b q h)
      ∙ ap (λ (l : List ℕ). l ++ clean_from sep (at quotes Filled) r) (append-nil (byte_out (content_of column b)))

  open-quote : (r : List ℕ) → clean_from sep (at Unquoted Empty) (34 ∷ r) ≡ clean_from sep (at Open Empty) r
  unfolding out_of byte_out
  open-quote r = one_more (at Unquoted Empty) 34 _ r opened

  close-quote : (filled : Content) (r : List ℕ) → clean_from sep (at Open filled) (34 ∷ r) ≡ clean_from sep (at Closed filled) r
  unfolding out_of byte_out
  close-quote filled r = one_more (at Open filled) 34 _ r (closed filled)

  pub bare : (b : ℕ) (r : List ℕ) → is_plain b ≡ true
      → clean_from sep (at Unquoted Empty) (b ∷ sep ∷ r) ≡ out_of (field_step column (content_of column b)) ++ clean_from sep
      (field_spot (next_column column)) r
  bare b r h = some Unquoted b (sep ∷ r) refl h ∙ tail Unquoted Filled r (mend-some Unquoted refl) (content_of column b)

  pub quotes-only : (r : List ℕ)
      → clean_from sep (at Unquoted Empty) (34 ∷ 34 ∷ sep ∷ r) ≡ out_of (field_step column (empty_of column)) ++ clean_from sep
      (field_spot (next_column column)) r
  quotes-only r = open-quote (34 ∷ sep ∷ r) ∙ close-quote Empty (sep ∷ r) ∙ empty Closed r refl

  pub in-quotes : (b : ℕ) (r : List ℕ) → is_plain b ≡ true
      → clean_from sep (at Unquoted Empty) (34 ∷ b ∷ 34 ∷ sep ∷ r) ≡ out_of (field_step column (content_of column b)) ++ clean_from sep
      (field_spot (next_column column)) r
  in-quotes b r h =
      open-quote (b ∷ 34 ∷ sep ∷ r) ∙ some Open b (34 ∷ sep ∷ r) refl h
      ∙ ap (λ (l : List ℕ). byte_out (content_of column b) ++ l) (close-quote Filled (sep ∷ r)) ∙ tail Closed Filled r (mend-some Closed refl)
      (content_of column b)

-- ---- the field that begins at i

start_is : (p : Standing) → begins_field p ≡ true → p ≡ field_spot p.column
unfolding begins_field
start_is p h = same p.column p.quotes p.content p.ended h
  where
    same : (c : ℕ) (q : Quotes) (n : Content) (e : Bool) → (is_unquoted q && (is_empty n && not e)) ≡ true
        → ◌≡◌ {A = Standing} (record { column = c; quotes = q; content = n; ended = e }) (field_spot c)
    same c Unquoted Empty false h = refl
    same c Unquoted Empty true h = absurd (true≢false (sym h))
    same c Unquoted Filled e h = absurd (true≢false (sym h))
    same c Unquoted Spaced e h = absurd (true≢false (sym h))
    same c Open n e h = absurd (true≢false (sym h))
    same c Closed n e h = absurd (true≢false (sym h))

module _ (sep column : ℕ) (is : is_separator sep ≡ true) (s : List ℕ) (i : ℕ) where
  -- what is written for a field, where there is one
  abbrev Good : Option Field → Type 0
  Good None = Unit
  Good (Some f) = (0 < f.count) × (i + f.count ≤ length s)
      × (clean_from sep (field_spot column) (drop i s)
      ≡ out_of (field_step column f.content) ++ clean_from sep (field_spot (next_column column)) (drop (i + f.count) s))

  next : (j k x : ℕ) → j + 1 ≡ k → j < length s → get_or s j 0 ≡ x → drop j s ≡ x ∷ drop k s
  next j k x e h g = drop-cons s j 0 h ∙ ap₂ (λ (y : ℕ) (n : ℕ). y ∷ drop n s) g (sym (add-one j) ∙ e)

  module _ (room : i + 4 ≤ length s) where
    two : (x y : ℕ) → get_or s i 0 ≡ x → get_or s (i + 1) 0 ≡ y → drop i s ≡ x ∷ y ∷ drop (i + 2) s
    two x y a b =
        next i (i + 1) x refl (omega arith) a ∙ ap (λ (l : List ℕ). x ∷ l) (next (i + 1) (i + 2) y (omega arith) (omega arith) b)

    three : (x y z : ℕ) → get_or s i 0 ≡ x → get_or s (i + 1) 0 ≡ y → get_or s (i + 2) 0 ≡ z → drop i s ≡ x ∷ y ∷ z ∷ drop (i + 3) s
    three x y z a b c = two x y a b ∙ ap (λ (l : List ℕ). x ∷ y ∷ l) (next (i + 2) (i + 3) z (omega arith) (omega arith) c)

    four : (x y z w : ℕ) → get_or s i 0 ≡ x → get_or s (i + 1) 0 ≡ y → get_or s (i + 2) 0 ≡ z → get_or s (i + 3) 0 ≡ w
        → drop i s ≡ x ∷ y ∷ z ∷ w ∷ drop (i + 4) s
    four x y z w a b c d = three x y z a b c ∙ ap (λ (l : List ℕ). x ∷ y ∷ z ∷ l) (next (i + 3) (i + 4) w (omega arith) (omega arith) d)

    bare-good : Good (bare_field sep column (get_or s i 0) (get_or s (i + 1) 0))
    unfolding bare_field
    bare-good = go (is_plain (get_or s i 0)) refl (eqb (get_or s (i + 1) 0) sep) refl
      where
        go : (t : Bool) → is_plain (get_or s i 0) ≡ t → (u : Bool) → eqb (get_or s (i + 1) 0) sep ≡ u
            → Good (pick (t && u) (Some (record { count = 2; content = content_of column (get_or s i 0) })) None)
        go true e true f = (
          omega arith,
          omega arith,
          ap (clean_from sep (field_spot column)) (two (get_or s i 0) sep refl (eqb-true _ _ f)) ∙ bare sep column is (get_or s i 0) (drop (i + 2) s) e,
        )
        go true e false f = tt
        go false e u f = tt

    empty-good : get_or s i 0 ≡ 34 → get_or s (i + 1) 0 ≡ 34 → Good (empty_field sep column (get_or s (i + 2) 0))
    unfolding empty_field
    empty-good a b = go (eqb (get_or s (i + 2) 0) sep) refl
      where
        go : (t : Bool) → eqb (get_or s (i + 2) 0) sep ≡ t → Good (pick t (Some (record { count = 3; content = empty_of column })) None)
        go true e = (
          omega arith,
          omega arith,
          ap (clean_from sep (field_spot column)) (three 34 34 sep a b (eqb-true _ _ e)) ∙ quotes-only sep column is
              (drop (i + 3) s),
        )
        go false e = tt

    quoted-good : get_or s i 0 ≡ 34 → Good (quoted_field sep column (get_or s (i + 1) 0) (get_or s (i + 2) 0) (get_or s (i + 3) 0))
    unfolding quoted_field
    quoted-good a =
        go (eqb (get_or s (i + 1) 0) 34) refl (is_plain (get_or s (i + 1) 0)) refl (eqb (get_or s (i + 2) 0) 34) refl (eqb (get_or s (i + 3) 0) sep) refl
      where
        go : (t : Bool) → eqb (get_or s (i + 1) 0) 34 ≡ t → (u : Bool) → is_plain (get_or s (i + 1) 0) ≡ u → (v : Bool) → eqb (get_or s (i + 2) 0) 34 ≡ v
            → (w : Bool) → eqb (get_or s (i + 3) 0) sep ≡ w
            → Good (pick t (empty_field sep column (get_or s (i + 2) 0))
            (pick (u && (v && w)) (Some (record { count = 4; content = content_of column (get_or s (i + 1) 0) })) None))
        go true e u f v g w h = empty-good a (eqb-true _ _ e)
        go false e true f true g true h = (
          omega arith,
          room,
          ap (clean_from sep (field_spot column)) (four 34 (get_or s (i + 1) 0) 34 sep a refl (eqb-true _ _ g) (eqb-true _ _ h))
              ∙ in-quotes sep column is (get_or s (i + 1) 0) (drop (i + 4) s) f,
        )
        go false e true f true g false h = tt
        go false e true f false g w h = tt
        go false e false f v g w h = tt

    inside-good : Good (pick (eqb (get_or s i 0) 34) (quoted_field sep column (get_or s (i + 1) 0) (get_or s (i + 2) 0) (get_or s (i + 3) 0))
        (bare_field sep column (get_or s i 0) (get_or s (i + 1) 0)))
    inside-good = go (eqb (get_or s i 0) 34) refl
      where
        go : (t : Bool) → eqb (get_or s i 0) 34 ≡ t
            → Good (pick t (quoted_field sep column (get_or s (i + 1) 0) (get_or s (i + 2) 0) (get_or s (i + 3) 0))
            (bare_field sep column (get_or s i 0) (get_or s (i + 1) 0)))
        go true e = quoted-good (eqb-true _ _ e)
        go false e = bare-good

  field-good : Good (field_at sep column s i)
  unfolding field_at
  field-good = go (leb (i + 4) (length s)) refl
    where
      go : (t : Bool) → leb (i + 4) (length s) ≡ t
          → Good (pick t (pick (eqb (get_or s i 0) 34) (quoted_field sep column (get_or s (i + 1) 0) (get_or s (i + 2) 0) (get_or s (i + 3) 0))
          (bare_field sep column (get_or s i 0) (get_or s (i + 1) 0))) None)
      go true e = inside-good (leb-true _ _ e)
      go false e = tt

-- as the cleaner asks
module _ (sep : ℕ) (p : Standing) (s : List ℕ) (i : ℕ) where
  begun-taken : (f : Field) (st : Step) → is_separator sep ≡ true → begins_field p ≡ true → field_at sep p.column s i ≡ Some f
      → st ≡ field_step p.column f.content → Stepped sep p s i st f.count
  unfolding field_step
  begun-taken f st is b e t =
      let g = subst (Good sep p.column is s i) e (field-good sep p.column is s i) in
      record {
        some = g.0;
        inside = g.1;
        same = ap (λ (x : Standing). clean_from sep x (drop i s)) (start_is p b) ∙ rw t g.2;
      }

  none_some : {f : Field} → None ≡ Some f → ⊥
  none_some h = cc

  pub field-taken : (f : Field) (st : Step) → is_separator sep ≡ true → next_field sep p s i ≡ Some f
      → st ≡ field_step p.column f.content → Stepped sep p s i st f.count
  unfolding next_field
  field-taken f st is e t = go (begins_field p) refl e
    where
      go : (b : Bool) → begins_field p ≡ b → pick b (field_at sep p.column s i) None ≡ Some f → Stepped sep p s i st f.count
      go true b q = begun-taken f st is b q t
      go false b q = absurd (none_some q)

  pub byte-taken : (st : Step) → i < length s → st ≡ step_of sep p (get_or s i 0) → Stepped sep p s i st 1
  byte-taken st h e = record { some = omega arith; inside = omega arith; same = rw e (clean-next sep p s i h) }
