-- A name as a field: by induction over its bytes, taking the quotes off gives it back, and one byte more is one part more. Assumes nothing.
use Prim.Native.Nat.{ℕ, ◌+◌, ◌<◌}
use mathlib.Core.Path.{◌≡◌, refl, sym, ap, ◌∙◌}
use mathlib.Core.Bool.{Bool, true, false, ◌||◌, or-false}
use mathlib.Core.List.{List, [], ◌∷◌, ◌++◌, append-nil, append_assoc}
use mathlib.Core.Logic.{⊎_elim}
use native.Mathlib.Numerals.{add-one}
use lib.Dec.{eqb}
use borrow.Author.Tests.{eqb-true}
use lib.ListN.{length, get_or, take}
use lib.Seq.{take-suc}
use Rattle.laws.proofs.Choice.{cases}
use Rattle.quoting.specs.Names.{breaks_field, has_break, twice, doubled, in_quotes, quoted_name, undoubled, unquoted}

or_assoc : (a b c : Bool) → (a || (b || c)) ≡ ((a || b) || c)
or_assoc true b c = refl
or_assoc false b c = refl

-- ---- one byte more

break-end : (name : List ℕ) (b : ℕ) → has_break (name ++ (b ∷ [])) ≡ (has_break name || breaks_field b)
unfolding has_break
break-end [] b = or-false (breaks_field b)
break-end (c ∷ name) b =
    ap (λ (r : Bool). breaks_field c || r) (break-end name b) ∙ or_assoc (breaks_field c) (has_break name) (breaks_field b)

pub break-more : (name : List ℕ) (i : ℕ) → i < length name → has_break (take (i + 1) name) ≡ (has_break (take i name) || breaks_field (get_or name i 0))
break-more name i h = ap (λ (k : ℕ). has_break (take k name)) (add-one i) ∙ ap has_break (take-suc name i 0 h) ∙ break-end (take i name) (get_or name i 0)

doubled-end : (name : List ℕ) (b : ℕ) → doubled (name ++ (b ∷ [])) ≡ doubled name ++ twice b
unfolding doubled
doubled-end [] b = append-nil (twice b)
doubled-end (c ∷ name) b =
    ap (λ (r : List ℕ). twice c ++ r) (doubled-end name b) ∙ sym (append_assoc (twice c) (doubled name) (twice b))

pub doubled-more : (name : List ℕ) (i : ℕ) → i < length name → doubled (take (i + 1) name) ≡ doubled (take i name) ++ twice (get_or name i 0)
doubled-more name i h = ap (λ (k : ℕ). doubled (take k name)) (add-one i) ∙ ap doubled (take-suc name i 0 h) ∙ doubled-end (take i name) (get_or name i 0)

-- ---- the quotes off

-- a byte that is no quote stands for itself
kept : (b : ℕ) (text : List ℕ) → eqb b 34 ≡ false → undoubled (b ∷ text) ≡ b ∷ undoubled text
unfolding undoubled
kept b [] e = rw e
kept b (c ∷ text) e = rw e

module _ (b : ℕ) (name : List ℕ) (back : undoubled (doubled name ++ (34 ∷ [])) ≡ name) where
  of-quote : eqb b 34 ≡ true → undoubled (doubled (b ∷ name) ++ (34 ∷ [])) ≡ b ∷ name
  unfolding doubled twice undoubled
  of-quote e = rw (eqb-true b 34 e) (ap (λ (r : List ℕ). 34 ∷ r) back)

  of_other : eqb b 34 ≡ false → undoubled (doubled (b ∷ name) ++ (34 ∷ [])) ≡ b ∷ name
  unfolding doubled twice
  of_other e = rw e (kept b (doubled name ++ (34 ∷ [])) e ∙ ap (λ (r : List ℕ). b ∷ r) back)

undouble : (name : List ℕ) → undoubled (doubled name ++ (34 ∷ [])) ≡ name
unfolding doubled undoubled
undouble [] = refl
undouble (b ∷ name) = ⊎_elim (of-quote b name (undouble name)) (of_other b name (undouble name)) (cases (eqb b 34))

-- where none of four holds and no more, the second does not
none-second : (a b c d e : Bool) → ((a || (b || (c || d))) || e) ≡ false → b ≡ false
none-second true true c d e h = h
none-second true false c d e h = refl
none-second false true c d e h = h
none-second false false c d e h = refl

no-quote : (b : ℕ) (name : List ℕ) → has_break (b ∷ name) ≡ false → eqb b 34 ≡ false
unfolding has_break breaks_field
no-quote b name h = none-second (eqb b 44) (eqb b 34) (eqb b 13) (eqb b 10) (has_break name) h

-- a name that is not in quotes does not begin with one
plain-off : (name : List ℕ) → has_break name ≡ false → unquoted name ≡ name
unfolding unquoted
plain-off [] e = refl
plain-off (b ∷ name) e = rw (no-quote b name e)

-- "A name with a comma, a quote or a line's end is quoted", and no other
pub quoted-where : (name : List ℕ) → has_break name ≡ true → quoted_name name ≡ in_quotes name
unfolding quoted_name
quoted-where name e = rw e

pub plain-where : (name : List ℕ) → has_break name ≡ false → quoted_name name ≡ name
unfolding quoted_name
plain-where name e = rw e

-- taking the quotes off gives the name back
in-quotes-off : (name : List ℕ) → unquoted (in_quotes name) ≡ name
unfolding unquoted
in-quotes-off name = undouble name

pub name_back : (name : List ℕ) → unquoted (quoted_name name) ≡ name
name_back name =
    ⊎_elim
    (λ e. ap unquoted (quoted-where name e) ∙ in-quotes-off name)
    (λ e. ap unquoted (plain-where name e) ∙ plain-off name e)
    (cases (has_break name))
