-- The texts of the writer, part by part. Assumes nothing.
use mathlib.Core.Path.{◌≡◌, refl, sym, ap, ◌∙◌}
use mathlib.Core.Bool.{Bool, true, false, ◌&&◌, ◌||◌, not, or-false}
use mathlib.Core.List.{List, [], ◌∷◌, ◌++◌, append_assoc, append-nil}
use Prim.Native.Nat.{ℕ, suc, ◌+◌, ◌≤◌, ◌<◌}
use native.Mathlib.Omega.{arith}
use lib.Dec.{eqb, ltb}
use lib.ListN.{length, length-append}
use lib.Seq.{sets, length-sets}
use borrow.Author.Tests.{eq-eqb, ne_eqb, lt-ltb, le-ltb}
use Rattle.laws.specs.Bits.{bit_at}
use Rattle.laws.specs.Search.{first}
use Rattle.text.specs.Decimal.{decimal}
use Rattle.blocklist.specs.Format.{Side, Item, side_text, item_text, list_text, star_byte, dash_byte, dot_byte, between_byte}
use Rattle.putblocks.specs.Canon.{slot_word, side_for, run_start, run_end, runs_from, slots_end, slots_from}
use Rattle.putblocks.specs.Loop.{comma_if, more_text}

-- ---- a side

module _ (most a b : ℕ) where
  pub text-star : (eqb a 1 && eqb b most) ≡ true → side_text (side_for most a b) ≡ star_byte ∷ []
  text-star h = rw h

  pub text-one : (eqb a 1 && eqb b most) ≡ false → a ≡ b → side_text (side_for most a b) ≡ decimal a
  text-one h e = rw (h, eq-eqb a b e)

  pub text-two : (eqb a 1 && eqb b most) ≡ false → (a ≡ b → ⊥) → side_text (side_for most a b) ≡ decimal a ++ ((dash_byte ∷ []) ++ (decimal b ++ []))
  text-two h e = rw (h, ne_eqb a b e, append-nil (decimal b))

-- ---- an item

pub item-parts : (b : Bool) (i : Item) → comma_if b ++ item_text i ≡ comma_if b ++ (side_text i.slots ++ ((dot_byte ∷ []) ++ (side_text i.channels ++ [])))
item-parts b i = rw (append-nil (side_text i.channels))

-- ---- the items

pub more-list : (l : List Item) → more_text false l ≡ list_text l
unfolding more_text list_text
more-list [] = refl
more-list (i ∷ l) = go i l
  where
    go : (i : Item) (l : List Item) → item_text i ++ more_text true l ≡ list_text (i ∷ l)
    go i [] = append-nil (item_text i)
    go i (j ∷ l) = ap (λ (r : List ℕ). item_text i ++ r) (append_assoc (between_byte ∷ []) (item_text j) (more_text true l)
        ∙ ap (λ (r : List ℕ). between_byte ∷ r) (go j l))

more-true : (l m : List Item) → more_text true (l ++ m) ≡ more_text true l ++ more_text true m
unfolding more_text
more-true [] m = refl
more-true (i ∷ l) m =
    ap (λ (r : List ℕ). (comma_if true ++ item_text i) ++ r) (more-true l m) ∙ sym
    (append_assoc (comma_if true ++ item_text i) (more_text true l) (more_text true m))

item-some : (b : Bool) (i : Item) → 0 < length (comma_if b ++ item_text i)
item-some b i = omega (arith, length-append (comma_if b) (item_text i), length-append (side_text i.slots) (dot_byte ∷ side_text i.channels))

-- one list after another: something was written where the place moved
pub more-append : (b : Bool) (l m : List Item) (p q : ℕ) → q ≡ p + length (more_text b l) → more_text b (l ++ m) ≡ more_text b l ++ more_text (b || ltb p q) m
unfolding more_text
more-append b [] m p q e = ap (λ t. more_text t m) (sym (ap (λ t. b || t) (le-ltb p q (omega (arith, e))) ∙ or-false b))
more-append b (i ∷ l) m p q e =
    let moved : ltb p q ≡ true = lt-ltb p q (omega (arith, e, item-some b i, length-append (comma_if b ++ item_text i) (more_text true l))) in
    ap (λ (r : List ℕ). (comma_if b ++ item_text i) ++ r) (more-true l m) ∙ sym (append_assoc (comma_if b ++ item_text i) (more_text true l) (more_text true m))
    ∙ ap (λ t. ((comma_if b ++ item_text i) ++ more_text true l) ++ more_text t m) (sym (ap (λ t. b || t) moved ∙ or_yes b))
  where
    or_yes : (b : Bool) → (b || true) ≡ true
    or_yes true = refl
    or_yes false = refl

-- ---- the loops' steps

module _ (b : Bool) (side : Side) (channels x f n left c : ℕ) (more : left ≡ suc n) (is_c : c ≡ run_start channels x f) where
  pub runs_none : channels ≤ c → more_text b (runs_from left side channels x f) ≡ []
  unfolding runs_from more_text
  runs_none h = rw (more, ← is_c, le-ltb c channels h)

  pub runs-next : c < channels → (e : ℕ) → e ≡ run_end channels x f
      → more_text b (runs_from left side channels x f)
      ≡ (comma_if b ++ item_text (record { slots = side; channels = side_for channels (c + 1) e })) ++ more_text true (runs_from n side channels x e)
  unfolding runs_from more_text
  runs-next h e is-e = rw (more, ← is_c, lt-ltb c channels h, ← is-e)

module _ (b : Bool) (words : List ℕ) (slots channels n left t : ℕ) (more : left ≡ suc n) where
  pub slots-none : slots ≤ t → more_text b (slots_from left words slots channels t) ≡ []
  unfolding slots_from more_text
  slots-none h = rw (more, le-ltb t slots h)

  pub slots_next : t < slots → (u x p q : ℕ) → u ≡ slots_end words slots channels t → x ≡ slot_word words channels t
      → let runs = runs_from channels (side_for slots (t + 1) u) channels x 0 in
      q ≡ p + length (more_text b runs) → more_text b (slots_from left words slots channels t)
      ≡ more_text b runs ++ more_text (b || ltb p q) (slots_from n words slots channels u)
  unfolding slots_from
  slots_next h u x p q is-u is_x e =
      rw (more, lt-ltb t slots h, ← is-u, ← is_x) (more-append b (runs_from channels (side_for slots (t + 1) u) channels x 0)
      (slots_from n words slots channels u) p q e)

pub no-slots : (b : Bool) (words : List ℕ) (slots channels left t : ℕ) → left ≡ 0 → more_text b (slots_from left words slots channels t) ≡ []
unfolding slots_from more_text
no-slots b words slots channels left t e = rw e

pub no-runs : (b : Bool) (side : Side) (channels x f left : ℕ) → left ≡ 0 → more_text b (runs_from left side channels x f) ≡ []
unfolding runs_from more_text
no-runs b side channels x f left e = rw e

-- the searches that the writer makes
pub start_is : (channels x f c : ℕ) → c ≡ first (bit_at x) f channels → c ≡ run_start channels x f
unfolding run_start
start_is channels x f c e = e

pub end_is : (channels x f c e : ℕ) → c ≡ run_start channels x f → e ≡ first (λ g. not (bit_at x g)) c channels → e ≡ run_end channels x f
unfolding run_end
end_is channels x f c e is h = h ∙ ap (λ (d : ℕ). first (λ g. not (bit_at x g)) d channels) is

-- a store keeps the length
pub kept : (x y : List ℕ) (at : ℕ) (w : List ℕ) → x ≡ sets y at w → length x ≡ length y
kept x y at w e = ap length e ∙ length-sets y at w
