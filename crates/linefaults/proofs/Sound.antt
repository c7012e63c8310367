-- A reason that is told is there: `because` goes through the tests of one byte, and `shown` through the bytes of the line. Assumes nothing.
use Prim.Native.Nat.{ℕ, ◌+◌, ◌-◌, ◌≤◌, ◌<◌}
use mathlib.Core.Path.{◌≡◌, refl, sym, ap, subst, ◌∙◌}
use mathlib.Core.Bool.{Bool, true, false, ◌&&◌, ◌||◌, true≢false}
use mathlib.Core.List.{List, [], ◌∷◌}
use mathlib.Core.Logic.{◌⊎◌, inl, inr}
use native.Mathlib.Omega.{arith}
use native.Mathlib.Nat.{add-zero}
use lib.Dec.{ltb, leb, eqb}
use lib.ListN.{length}
use borrow.Author.Tests.{eqb-true, eqb-false, ltb-true, leb-true, leb-false}
use Rattle.laws.specs.Choice.{pick}
use Rattle.laws.specs.Sum.{bit}
use Rattle.laws.proofs.Choice.{both}
use Rattle.linefaults.specs.declared.Field.{Field}
use Rattle.linefaults.specs.declared.Seen.{Seen}
use Rattle.linefaults.specs.declared.Seen.TheVariants.{Nothing, One, More}
use Rattle.std.specs.Prelude.{Option, Some, None}
use Rattle.std.specs.Option.{option_or}
use Rattle.linefaults.specs.declared.LineFault.{LineFault}
use Rattle.linefaults.specs.declared.LineFault.TheVariants.{Extra, OrderMark, Semicolon, Tab, Quote, Blank, FeedAlone}
use Rattle.linefaults.specs.declared.LineFault.TheVariants.{LeadingZero, OverLarge, NoNumber, NoMark, FewFields, ManyFields, LoneCr}
use Rattle.linefaults.specs.Fault.{untold, first_field, number_after, field_after, is_nothing, seen_one, is_word, is_mark, odd_byte, empty_at}
use Rattle.linefaults.specs.Fault.{comma_at, cr_at, lf_at, mark_fault, is_zero}
use Rattle.linefaults.specs.Fault.{number_at, content_at, fault_at, end_fault, fault_from, after_lines, head_fault, cell_fault, fault_of_line}
use Rattle.lines.specs.Match.{starts}
use Rattle.lines.specs.Content.{head_read}
use Rattle.cleaning.specs.Clean.{order_mark}
use Rattle.linefaults.specs.Means.{in_line, commas, last_of, walked, Because, semicolon_there, tab_there, quote_there, blank_there}
use Rattle.linefaults.specs.Means.{feed_there, zero_there, large_there, number_empty, digit_not, mark_empty, mark_not, fields_few, fields_many}
use Rattle.linefaults.specs.Means.{lone_there, Shown, stands, ends, LineShown, begins_marked, in_first, after_cells, in_cell-law}

-- ---- one byte

nothing_is : (s : Seen) → is_nothing s ≡ true → s ≡ Nothing
nothing_is Nothing h = refl
nothing_is One h = absurd (true≢false (sym h))
nothing_is More h = absurd (true≢false (sym h))

one_is : (s : Seen) → seen_one s ≡ true → s ≡ One
one_is Nothing h = absurd (true≢false (sym h))
one_is One h = refl
one_is More h = absurd (true≢false (sym h))

module _ (fields at : ℕ) (f : Field) (b : ℕ) where
  -- nothing is told, or what is told is so
  abbrev Told : Option LineFault → Type 0
  Told None = Unit
  Told (Some x) = Because fields at f b x

  lf-told : b ≡ 10 → Told (lf_at f)
  unfolding lf_at
  lf-told h = by (eqb f.last 13) refl
    where
      by : (t : Bool) → eqb f.last 13 ≡ t → Told (pick t untold (Some FeedAlone))
      by true e = tt
      by false e = feed_there h (eqb-false _ _ e)

  empty-told : (b ≡ 44) ⊎ (b ≡ 13) → Told (empty_at fields f)
  unfolding empty_at
  empty-told h = by (is_nothing f.seen) refl
    where
      word : is_nothing f.seen ≡ true → (t : Bool) → Told (pick t untold (Some (NoNumber f.column)))
      word s true = tt
      word s false = number_empty h (nothing_is _ s)

      mark : is_nothing f.seen ≡ true → (t : Bool) → is_mark fields f ≡ t
          → Told (pick t (Some (NoMark f.column)) (pick (is_word fields f) untold (Some (NoNumber f.column))))
      mark s true e = mark_empty h e (nothing_is _ s)
      mark s false e = word s (is_word fields f)

      by : (t : Bool) → is_nothing f.seen ≡ t
          → Told (pick t (pick (is_mark fields f) (Some (NoMark f.column)) (pick (is_word fields f) untold (Some (NoNumber f.column)))) untold)
      by true e = mark e (is_mark fields f) refl
      by false e = tt

  comma-told : b ≡ 44 → Told (comma_at fields f)
  unfolding comma_at
  comma-told h = by (eqb f.column fields) refl
    where
      by : (t : Bool) → eqb f.column fields ≡ t → Told (pick t (Some (ManyFields (f.column + 1))) (empty_at fields f))
      by true e = fields_many h (eqb-true _ _ e)
      by false e = empty-told (inl h)

  cr-told : b ≡ 13 → Told (cr_at fields f)
  unfolding cr_at
  cr-told h = by (ltb f.column fields) refl
    where
      by : (t : Bool) → ltb f.column fields ≡ t → Told (pick t (Some (FewFields f.column)) (empty_at fields f))
      by true e = fields_few h (ltb-true _ _ e)
      by false e = empty-told (inr h)

  mark-told : is_mark fields f ≡ true → Told (mark_fault f b)
  unfolding mark_fault
  mark-told m = by (is_nothing f.seen) refl (eqb b 48) refl (eqb b 49) refl
    where
      by : (s : Bool) → is_nothing f.seen ≡ s → (t : Bool) → eqb b 48 ≡ t → (u : Bool) → eqb b 49 ≡ u
          → Told (pick (s && (t || u)) untold (Some (NoMark f.column)))
      by false e t g u h = mark_not m (λ z. absurd (true≢false (ap is_nothing (sym z) ∙ e)))
      by true e true g u h = tt
      by true e false g true h = tt
      by true e false g false h = mark_not m (λ z. (eqb-false _ _ g, eqb-false _ _ h))

  zero_is : is_zero f ≡ true → (f.seen ≡ One) × (f.value ≡ 0)
  unfolding is_zero
  zero_is h = let w = both (seen_one f.seen) (eqb f.value 0) h in (one_is _ w.0, eqb-true _ _ w.1)

  number-told : Told (number_at f b)
  unfolding number_at
  number-told = by (leb 48 b) refl (leb b 57) refl
    where
      large : 48 ≤ b → b ≤ 57 → (t : Bool) → ltb 65535 (number_after f.value b) ≡ t → Told (pick t (Some (OverLarge f.column)) untold)
      large l h true e = large_there l h (ltb-true _ _ e)
      large l h false e = tt

      lead : 48 ≤ b → b ≤ 57 → (t : Bool) → is_zero f ≡ t
          → Told (pick t (Some (LeadingZero f.column)) (pick (ltb 65535 (number_after f.value b)) (Some (OverLarge f.column)) untold))
      lead l h true e = let z = zero_is e in zero_there l h z.0 z.1
      lead l h false e = large l h (ltb 65535 (number_after f.value b)) refl

      by : (s : Bool) → leb 48 b ≡ s → (t : Bool) → leb b 57 ≡ t
          → Told
          (pick (s && t)
          (pick (is_zero f) (Some (LeadingZero f.column)) (pick (ltb 65535 (number_after f.value b)) (Some (OverLarge f.column)) untold))
          (Some (NoNumber f.column)))
      by true e true g = lead (leb-true _ _ e) (leb-true _ _ g) (is_zero f) refl
      by true e false g = digit_not (inr (leb-false _ _ g))
      by false e t g = digit_not (inl (leb-false _ _ e))

  -- a byte that is odd by itself, or else what x tells
  odd-told : (x : Option LineFault) → Told x → Told (option_or (odd_byte at b) x)
  unfolding odd_byte
  odd-told x h = one (eqb b 59) refl
    where
      four : (t : Bool) → eqb b 32 ≡ t → Told (option_or (pick t (Some (Blank at)) untold) x)
      four true e = blank_there (eqb-true _ _ e)
      four false e = h

      three : (t : Bool) → eqb b 34 ≡ t → Told (option_or (pick t (Some (Quote at)) (pick (eqb b 32) (Some (Blank at)) untold)) x)
      three true e = quote_there (eqb-true _ _ e)
      three false e = four (eqb b 32) refl

      two : (t : Bool) → eqb b 9 ≡ t
          → Told (option_or (pick t (Some (Tab at)) (pick (eqb b 34) (Some (Quote at)) (pick (eqb b 32) (Some (Blank at)) untold))) x)
      two true e = tab_there (eqb-true _ _ e)
      two false e = three (eqb b 34) refl

      one : (t : Bool) → eqb b 59 ≡ t
          → Told
          (option_or
          (pick t (Some (Semicolon at)) (pick (eqb b 9) (Some (Tab at)) (pick (eqb b 34) (Some (Quote at)) (pick (eqb b 32) (Some (Blank at)) untold)))) x)
      one true e = semicolon_there (eqb-true _ _ e)
      one false e = two (eqb b 9) refl

  content-told : Told (content_at fields at f b)
  unfolding content_at
  content-told = odd-told _ (word (is_word fields f))
    where
      mark : (t : Bool) → is_mark fields f ≡ t → Told (pick t (mark_fault f b) (number_at f b))
      mark true e = mark-told e
      mark false e = number-told

      word : (t : Bool) → Told (pick t untold (pick (is_mark fields f) (mark_fault f b) (number_at f b)))
      word true = tt
      word false = mark (is_mark fields f) refl

  pub because : Told (fault_at fields at f b)
  unfolding fault_at
  because = by (eqb b 10) refl
    where
      cr : (t : Bool) → eqb b 13 ≡ t → Told (pick t (cr_at fields f) (content_at fields at f b))
      cr true e = cr-told (eqb-true _ _ e)
      cr false e = content-told

      comma : (t : Bool) → eqb b 44 ≡ t → Told (pick t (comma_at fields f) (pick (eqb b 13) (cr_at fields f) (content_at fields at f b)))
      comma true e = comma-told (eqb-true _ _ e)
      comma false e = cr (eqb b 13) refl

      lone : eqb b 10 ≡ false → (t : Bool) → eqb f.last 13 ≡ t
          → Told (pick t (Some (LoneCr at)) (pick (eqb b 44) (comma_at fields f) (pick (eqb b 13) (cr_at fields f) (content_at fields at f b))))
      lone n true e = lone_there (eqb-true _ _ e) (eqb-false _ _ n)
      lone n false e = comma (eqb b 44) refl

      by : (t : Bool) → eqb b 10 ≡ t
          → Told
          (pick t (lf_at f)
          (pick (eqb f.last 13) (Some (LoneCr at)) (pick (eqb b 44) (comma_at fields f) (pick (eqb b 13) (cr_at fields f) (content_at fields at f b)))))
      by true e = lf-told (eqb-true _ _ e)
      by false e = lone e (eqb f.last 13) refl

-- ---- the line

some_is : {x y : LineFault} → Some x ≡ Some y → x ≡ y
some_is h = cc

none_some : {x : LineFault} → None ≡ Some x → ⊥
none_some h = cc

-- a reason that is told, of a line whose bytes are r
pub shown : (fields at : ℕ) (f : Field) (r : List ℕ) (x : LineFault) → fault_from fields at f r ≡ Some x → Shown fields at f r x
unfolding fault_from in_line walked
shown fields at f [] x n = ends refl (sym (some_is n) ∙ ap end_fault (sym (add-zero at)))
shown fields at f (b ∷ r) x n = by (λ m. shown fields (at + 1) (field_after f b) r x m) (fault_at fields at f b) refl n
  where
    further : eqb b 10 ≡ false → Shown fields (at + 1) (field_after f b) r x → Shown fields at f (b ∷ r) x
    further q (stands s) =
        let e : at + 1 + length s.before ≡ at + length (b ∷ s.before) = omega arith in
        stands (record {
          before = b ∷ s.before;
          byte = s.byte;
          rest = s.rest;
          parts = ap (λ (l : List ℕ). b ∷ l) s.parts;
          inside = rw q s.inside;
          because =
              rw (← e) s.because;
        })
    further q (ends i e) = ends (rw q i) (e ∙ ap end_fault (omega arith))

    on : (fault_from fields (at + 1) (field_after f b) r ≡ Some x → Shown fields (at + 1) (field_after f b) r x)
        → (t : Bool) → eqb b 10 ≡ t → pick t untold (fault_from fields (at + 1) (field_after f b) r) ≡ Some x
        → Shown fields at f (b ∷ r) x
    on deeper true e n = absurd (none_some n)
    on deeper false e n = further e (deeper n)

    by : (fault_from fields (at + 1) (field_after f b) r ≡ Some x → Shown fields (at + 1) (field_after f b) r x)
        → (o : Option LineFault) → fault_at fields at f b ≡ o
        → option_or o (pick (eqb b 10) untold (fault_from fields (at + 1) (field_after f b) r)) ≡ Some x
        → Shown fields at f (b ∷ r) x
    by deeper None e n = on deeper (eqb b 10) refl n
    by deeper (Some y) e n =
        stands (record {
          before = [];
          byte = b;
          rest = r;
          parts = refl;
          inside = refl;
          because =
              let w : fault_at fields at f b ≡ Some x = e ∙ n in
              rw (add-zero at) (subst (Told fields at f b) w (because fields at f b));
        })

-- a reason that is told of a line of a sheet
module _ (b : List ℕ) (line : ℕ) (x : LineFault) where
  abbrev cells : ℕ
  cells = (head_read b).cells

  abbrev in_cell : Option LineFault
  in_cell = fault_from (cells + 2) 1 first_field (after_lines (line - 1) b)

  first-shown : line ≤ 1 → (t : Bool) → starts order_mark b ≡ t → pick t (Some OrderMark) (fault_from 0 1 first_field b) ≡ Some x
      → LineShown b line x
  first-shown l true e n = begins_marked l e (sym (some_is n))
  first-shown l false e n = in_first l (shown 0 1 first_field b x n)

  past-shown : 1 < line → (cells ≡ 0 → ⊥) → (t : Bool) → ltb (cells + 1) line ≡ t → pick t (Some Extra) in_cell ≡ Some x → LineShown b line x
  past-shown l some true e n = after_cells l some (ltb-true _ _ e) (sym (some_is n))
  past-shown l some false e n = in_cell-law l (shown (cells + 2) 1 first_field (after_lines (line - 1) b) x n)

  cell-shown : 1 < line → (t : Bool) → eqb cells 0 ≡ t → pick t untold (pick (ltb (cells + 1) line) (Some Extra) in_cell) ≡ Some x → LineShown b line x
  cell-shown l true e n = absurd (none_some n)
  cell-shown l false e n = past-shown l (eqb-false _ _ e) (ltb (cells + 1) line) refl n

  pub line-shown : fault_of_line b line ≡ Some x → LineShown b line x
  unfolding fault_of_line head_fault cell_fault
  line-shown n = by (leb line 1) refl n
    where
      by : (t : Bool) → leb line 1 ≡ t
          → pick t (pick (starts order_mark b) (Some OrderMark) (fault_from 0 1 first_field b))
          (pick (eqb cells 0) untold (pick (ltb (cells + 1) line) (Some Extra) in_cell))
          ≡ Some x
          → LineShown b line x
      by true e n = first-shown (leb-true _ _ e) (starts order_mark b) refl n
      by false e n = cell-shown (leb-false _ _ e) (eqb cells 0) refl n

-- ---- where the byte stands: its column is one more than the commas before it, and the byte before it is the last

pub walked-column : (f : Field) (l : List ℕ) → (walked f l).column ≡ f.column + commas l
unfolding walked commas field_after
walked-column f [] = sym (add-zero f.column)
walked-column f (b ∷ l) = walked-column (field_after f b) l ∙ by (eqb b 44) refl
  where
    by : (t : Bool) → eqb b 44 ≡ t → (field_after f b).column + commas l ≡ f.column + (bit t + commas l)
    by true e = rw e (omega arith)
    by false e = rw e (omega arith)

pub walked-last : (f : Field) (l : List ℕ) → (walked f l).last ≡ last_of f.last l
unfolding walked last_of field_after
walked-last f [] = refl
walked-last f (b ∷ l) = walked-last (field_after f b) l ∙ ap (λ (x : ℕ). last_of x l) (by (eqb b 44) refl)
  where
    by : (t : Bool) → eqb b 44 ≡ t → (field_after f b).last ≡ b
    by true e = rw e
    by false e = rw e
