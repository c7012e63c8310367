-- One line of a flow, read field by field: after each field the reader stands where the text of the fields so far ends, if that text is there and each number
-- so far is small enough, and nowhere otherwise. So at the line's end it stands after the line that its content gives, or nowhere. Assumes nothing.
use Prim.Native.Nat.{ℕ, ◌+◌, ◌≤◌, ◌<◌}
use mathlib.Core.Path.{◌≡◌, refl, sym, ap, ap₂, ◌∙◌}
use mathlib.Core.Bool.{Bool, true, false, ◌&&◌}
use mathlib.Core.List.{List, [], ◌∷◌, ◌++◌, append_assoc}
use native.Mathlib.Omega.{arith}
use native.Mathlib.Nat.{add-zero}
use lib.ListN.{length, drop, length-append}
use lib.Seq.{drop-drop}
use lib.Dec.{leb}
use borrow.Author.Tests.{leb-true}
use Rattle.laws.specs.Choice.{pick}
use Rattle.laws.proofs.Choice.{both}
use Rattle.text.specs.Decimal.{decimal}
use Rattle.lines.specs.Match.{starts, nowhere, eaten}
use Rattle.lines.specs.Format.{column}
use Rattle.lines.specs.Content.{scanned, number_read}
use Rattle.lines.specs.declared.Number.{Number}
use Rattle.lines.proofs.Match.{eaten-append, lost}
use Rattle.lines.proofs.Steps.{eaten-lost, eaten-there, eaten-not}
use Rattle.flowlist.specs.declared.Flow.{Flow}
use Rattle.flowsheet.specs.Format.{flow_line}
use Rattle.std.specs.Prelude.{Some, None}
use Rattle.flowsheet.specs.Read.{after, flow_in, flow_fits, flow_ok, field_read, flow_read}

-- the reader part way through the line at `at`: whether the numbers so far fit, the text so far, what is left, and where the reader is
record Way (s : List ℕ) (at : ℕ) (t : Bool) (w rest : List ℕ) (p : ℕ) : Type 0 where
  pub place : p ≡ pick t (eaten s at w) nowhere
  pub left : rest ≡ drop (length w) (drop at s)

module _ (s : List ℕ) (short : length s < nowhere) where
  -- a field is its number and the byte after it, eaten in one
  field_next : (p b : ℕ) → (field_read s p b).next ≡ pick (leb (scanned 0 (drop p s)) 65535) (eaten s p (decimal (scanned 0 (drop p s)) ++ (b ∷ []))) nowhere
  unfolding field_read number_read
  field_next p b = go (leb (scanned 0 (drop p s)) 65535)
    where
      go : (t : Bool) → eaten s (pick t (eaten s p (decimal (scanned 0 (drop p s)))) nowhere) (b ∷ [])
          ≡ pick t (eaten s p (decimal (scanned 0 (drop p s)) ++ (b ∷ []))) nowhere
      go true = eaten-append s p (decimal (scanned 0 (drop p s))) (b ∷ []) (omega arith)
      go false = lost s (b ∷ []) (omega arith)

  field-value : (p b : ℕ) → (field_read s p b).value ≡ scanned 0 (drop p s)
  unfolding field_read number_read
  field-value p b = refl

  lost-at : (p : ℕ) (w : List ℕ) → p ≡ nowhere → eaten s p w ≡ nowhere
  lost-at p w e = ap (λ (i : ℕ). eaten s i w) e ∙ lost s w (omega arith)

  field-lost : (p b : ℕ) → p ≡ nowhere → (field_read s p b).next ≡ nowhere
  field-lost p b e = field_next p b ∙ go (leb (scanned 0 (drop p s)) 65535)
    where
      go : (t : Bool) → pick t (eaten s p (decimal (scanned 0 (drop p s)) ++ (b ∷ []))) nowhere ≡ nowhere
      go true = lost-at p (decimal (scanned 0 (drop p s)) ++ (b ∷ [])) e
      go false = refl

  module _ (at : ℕ) where
    begun : Way s at true [] (drop at s) at
    unfolding eaten starts
    begun = record { place = sym (add-zero at); left = refl }

    module _ (t : Bool) (w rest : List ℕ) (p : ℕ) (way : Way s at t w rest p) where
      -- where the reader is somewhere, what is left stands there
      here : (p ≡ nowhere → ⊥) → (t ≡ true) × (p ≡ eaten s at w) × (drop p s ≡ rest)
      here on = go t way.place
        where
          go : (t : Bool) → p ≡ pick t (eaten s at w) nowhere → (t ≡ true) × (p ≡ eaten s at w) × (drop p s ≡ rest)
          go true e =
              let h = eaten-there s at w (λ z. on (e ∙ z)) in
              (refl, e, ap (λ (i : ℕ). drop i s) (e ∙ h.1) ∙ sym (drop-drop (length w) at s) ∙ sym way.left)
          go false e = absurd (on e)

      at-end : starts w (drop at s) ≡ true → eaten s at w ≡ at + length w
      unfolding eaten
      at-end q = rw q

      not_there : starts w (drop at s) ≡ false → eaten s at w ≡ nowhere
      unfolding eaten
      not_there q = rw q

      module _ (b : ℕ) (n : Number) (read : n ≡ field_read s p b) where
        abbrev v : ℕ
        v = scanned 0 rest

        abbrev text : List ℕ
        text = decimal (scanned 0 rest) ++ (b ∷ [])

        -- nowhere, where the text so far is not there
        none : (y : Bool) → eaten s at w ≡ nowhere → nowhere ≡ pick y (eaten s at (w ++ text)) nowhere
        none true e = sym (eaten-lost s at w text (omega arith) e)
        none false e = refl

        come : p ≡ eaten s at w → (u : Bool) → starts w (drop at s) ≡ u → n.next ≡ pick (leb v 65535) (eaten s at (w ++ text)) nowhere
        come e true q =
            let a : p ≡ at + length w = e ∙ at-end q in
            let d : drop p s ≡ rest = ap (λ (i : ℕ). drop i s) a ∙ sym (drop-drop (length w) at s) ∙ sym way.left in
            ap (λ (x : Number). x.next) read ∙ field_next p b
            ∙ ap (λ (r : List ℕ). pick (leb (scanned 0 r) 65535) (eaten s p (decimal (scanned 0 r) ++ (b ∷ []))) nowhere) d
            ∙ ap (λ (i : ℕ). pick (leb v 65535) i nowhere) (ap (λ (i : ℕ). eaten s i text) e ∙ eaten-append s at w text (omega arith))
        come e false q = ap (λ (x : Number). x.next) read ∙ field-lost p b (e ∙ not_there q) ∙ none (leb v 65535) (not_there q)

        place-next : n.next ≡ pick (t && leb v 65535) (eaten s at (w ++ text)) nowhere
        place-next = go t way.place
          where
            go : (t : Bool) → p ≡ pick t (eaten s at w) nowhere → n.next ≡ pick (t && leb v 65535) (eaten s at (w ++ text)) nowhere
            go true e = come e (starts w (drop at s)) refl
            go false e = ap (λ (x : Number). x.next) read ∙ field-lost p b e

        -- one field more
        one : Way s at (t && leb v 65535) (w ++ text) (after rest) n.next
        unfolding after
        one =
            record {
              place = place-next;
              left =
                  ap (drop (length (decimal v) + 1)) way.left
                  ∙ drop-drop (length (decimal v) + 1) (length w) (drop at s)
                  ∙ ap (λ (i : ℕ). drop i (drop at s)) (sym (length-append w text ∙ ap (λ (i : ℕ). length w + i) (length-append (decimal v) (b ∷ []))));
            }

        -- and its number, where it is there
        met : (n.next ≡ nowhere → ⊥) → (n.value ≡ v) × (n.value ≤ 65535) × (p ≡ nowhere → ⊥)
        met on =
            let from : p ≡ nowhere → ⊥ = λ e. on (ap (λ (x : Number). x.next) read ∙ field-lost p b e) in
            let is : n.value ≡ v = ap (λ (x : Number). x.value) read ∙ field-value p b ∙ ap (scanned 0) (here from).2 in
            (is, go (t && leb v 65535) refl is, from)
          where
            go : (y : Bool) → (t && leb v 65535) ≡ y → n.value ≡ v → n.value ≤ 65535
            go true e is = omega (arith, is, leb-true v 65535 (both t (leb v 65535) e).1)
            go false e is = absurd (on (place-next ∙ ap (λ (y : Bool). pick y (eaten s at (w ++ text)) nowhere) e))

-- no line is empty
pub line-some : (f : Flow) → 0 < length (flow_line f)
unfolding flow_line column
line-some f = simp length-append (omega arith)

-- ---- the five fields and the line feed

all-five : (a b c d e : Bool) → ((((a && b) && c) && d) && e) ≡ (a && (b && (c && (d && e))))
all-five true true true true e = refl
all-five true true true false e = refl
all-five true true false d e = refl
all-five true false c d e = refl
all-five false b c d e = refl

-- the parts of a line at `at`, each read after the other: five numbers, with the byte that has to stand after each, and the place after the line feed
pub record Parts (s : List ℕ) (at : ℕ) : Type 0 where
  pub cell : Number
  pub burst : Number
  pub period : Number
  pub repeats : Number
  pub value : Number
  pub end : ℕ
  pub is-cell : cell ≡ field_read s at 44
  pub is-burst : burst ≡ field_read s cell.next 44
  pub is-period : period ≡ field_read s burst.next 44
  pub is-repeats : repeats ≡ field_read s period.next 44
  pub is-value : value ≡ field_read s repeats.next 13
  pub is-end : end ≡ eaten s value.next (10 ∷ [])

-- the flow of their numbers
abbrev pub flow_of : {s : List ℕ} {at : ℕ} → Parts s at → Flow
flow_of p =
    record { cell = p.cell.value; burst = p.burst.value; period = p.period.value; repeats = p.repeats.value; value = p.value.value }

module _ (s : List ℕ) (at : ℕ) (short : length s < nowhere) (p : Parts s at) where
  abbrev f : Flow
  f = flow_in (drop at s)

  abbrev r₁ : List ℕ
  r₁ = after (drop at s)

  abbrev r₂ : List ℕ
  r₂ = after r₁

  abbrev r₃ : List ℕ
  r₃ = after r₂

  abbrev r₄ : List ℕ
  r₄ = after r₃

  abbrev w₁ : List ℕ
  w₁ = [] ++ (decimal (scanned 0 (drop at s)) ++ (44 ∷ []))

  abbrev w₂ : List ℕ
  w₂ = w₁ ++ (decimal (scanned 0 r₁) ++ (44 ∷ []))

  abbrev w₃ : List ℕ
  w₃ = w₂ ++ (decimal (scanned 0 r₂) ++ (44 ∷ []))

  abbrev w₄ : List ℕ
  w₄ = w₃ ++ (decimal (scanned 0 r₃) ++ (44 ∷ []))

  abbrev w₅ : List ℕ
  w₅ = w₄ ++ (decimal (scanned 0 r₄) ++ (13 ∷ []))

  abbrev t₁ : Bool
  t₁ = true && leb (scanned 0 (drop at s)) 65535

  abbrev t₂ : Bool
  t₂ = t₁ && leb (scanned 0 r₁) 65535

  abbrev t₃ : Bool
  t₃ = t₂ && leb (scanned 0 r₂) 65535

  abbrev t₄ : Bool
  t₄ = t₃ && leb (scanned 0 r₃) 65535

  abbrev t₅ : Bool
  t₅ = t₄ && leb (scanned 0 r₄) 65535

  way₁ : Way s at t₁ w₁ r₁ p.cell.next
  way₁ = one s short at true [] (drop at s) at (begun s short at) 44 p.cell p.is-cell

  way₂ : Way s at t₂ w₂ r₂ p.burst.next
  way₂ = one s short at t₁ w₁ r₁ p.cell.next way₁ 44 p.burst p.is-burst

  way₃ : Way s at t₃ w₃ r₃ p.period.next
  way₃ = one s short at t₂ w₂ r₂ p.burst.next way₂ 44 p.period p.is-period

  way₄ : Way s at t₄ w₄ r₄ p.repeats.next
  way₄ = one s short at t₃ w₃ r₃ p.period.next way₃ 44 p.repeats p.is-repeats

  way₅ : Way s at t₅ w₅ (after r₄) p.value.next
  way₅ = one s short at t₄ w₄ r₄ p.repeats.next way₄ 13 p.value p.is-value

  -- the text of the fields and the line feed is the line
  line-is : w₅ ++ (10 ∷ []) ≡ flow_line f
  unfolding flow_line column flow_in
  line-is = simp append_assoc

  fits-is : t₅ ≡ flow_fits f
  unfolding flow_fits flow_in
  fits-is =
      all-five (leb (scanned 0 (drop at s)) 65535) (leb (scanned 0 r₁) 65535) (leb (scanned 0 r₂) 65535) (leb (scanned 0 r₃) 65535)
      (leb (scanned 0 r₄) 65535)

  last : (t : Bool) → p.value.next ≡ pick t (eaten s at w₅) nowhere → p.end ≡ pick t (eaten s at (w₅ ++ (10 ∷ []))) nowhere
  last true e = p.is-end ∙ ap (λ (i : ℕ). eaten s i (10 ∷ [])) e ∙ eaten-append s at w₅ (10 ∷ []) (omega arith)
  last false e = p.is-end ∙ lost-at s short p.value.next (10 ∷ []) e

  end_is : p.end ≡ pick (flow_fits f) (eaten s at (flow_line f)) nowhere
  end_is = last t₅ way₅.place ∙ ap₂ (λ (t : Bool) (w : List ℕ). pick t (eaten s at w) nowhere) fits-is line-is

  -- the line is not there
  pub no_line-law : p.end ≡ nowhere → None ≡ flow_read s at
  unfolding flow_read flow_ok
  no_line-law e = go (flow_fits f) refl (sym end_is ∙ e)
    where
      go : (t : Bool) → flow_fits f ≡ t → pick t (eaten s at (flow_line f)) nowhere ≡ nowhere → None ≡ flow_read s at
      go true fits q = rw (fits, eaten-not s at (flow_line f) short (line-some f) q)
      go false fits q = rw fits

  module _ (there : p.end ≡ nowhere → ⊥) where
    still₅ : p.value.next ≡ nowhere → ⊥
    still₅ e = there (p.is-end ∙ lost-at s short p.value.next (10 ∷ []) e)

    met₅ : (p.value.value ≡ scanned 0 r₄) × (p.value.value ≤ 65535) × (p.repeats.next ≡ nowhere → ⊥)
    met₅ = met s short at t₄ w₄ r₄ p.repeats.next way₄ 13 p.value p.is-value still₅

    met₄ : (p.repeats.value ≡ scanned 0 r₃) × (p.repeats.value ≤ 65535) × (p.period.next ≡ nowhere → ⊥)
    met₄ = met s short at t₃ w₃ r₃ p.period.next way₃ 44 p.repeats p.is-repeats met₅.2

    met₃ : (p.period.value ≡ scanned 0 r₂) × (p.period.value ≤ 65535) × (p.burst.next ≡ nowhere → ⊥)
    met₃ = met s short at t₂ w₂ r₂ p.burst.next way₂ 44 p.period p.is-period met₄.2

    met₂ : (p.burst.value ≡ scanned 0 r₁) × (p.burst.value ≤ 65535) × (p.cell.next ≡ nowhere → ⊥)
    met₂ = met s short at t₁ w₁ r₁ p.cell.next way₁ 44 p.burst p.is-burst met₃.2

    met₁ : (p.cell.value ≡ scanned 0 (drop at s)) × (p.cell.value ≤ 65535) × (at ≡ nowhere → ⊥)
    met₁ = met s short at true [] (drop at s) at (begun s short at) 44 p.cell p.is-cell met₂.2

    -- each number fits, and they are what the line says
    pub fit : (p.cell.value ≤ 65535) × (p.burst.value ≤ 65535) × (p.period.value ≤ 65535) × (p.repeats.value ≤ 65535) × (p.value.value ≤ 65535)
    fit = (met₁.1, met₂.1, met₃.1, met₄.1, met₅.1)

    said : flow_of p ≡ f
    unfolding flow_in
    said = rw (met₁.0, met₂.0, met₃.0, met₄.0, met₅.0)

    pub line_read-law : Some (record { flow = flow_of p; next = p.end }) ≡ flow_read s at
    unfolding flow_read flow_ok
    line_read-law = go (flow_fits f) refl end_is
      where
        go : (t : Bool) → flow_fits f ≡ t → p.end ≡ pick t (eaten s at (flow_line f)) nowhere → Some (record { flow = flow_of p; next = p.end })
            ≡ flow_read s at
        go true fits q =
            let h = eaten-there s at (flow_line f) (λ z. there (q ∙ z)) in
            rw (fits, h.0, said, q ∙ h.1)
        go false fits q = absurd (there q)
