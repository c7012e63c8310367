-- The two rules: what rule 2 adds, said over a cell that is neither of the two; that it adds and takes nothing away; and when it adds nothing. Each is read off
-- the search for the third cell. Assumes nothing.
use Prim.Native.Nat.{ℕ, ◌<◌}
use mathlib.Core.Bool.{Bool, true, false, not, ◌||◌, ◌&&◌, and-false, true≢false}
use mathlib.Core.List.{List}
use mathlib.Core.Path.{◌≡◌, refl, sym, ap, ◌∙◌, fun_ext}
use borrow.Author.Tests.{eqb-false, ne_eqb, not-true}
use lib.Dec.{eqb}
use Rattle.laws.proofs.Any.{any_here, any_some, any-eq}
use Rattle.laws.proofs.Choice.{refute, both}
use Rattle.reachrows.specs.Rows.{reaches, reached_by_both, clash_in}

-- a cell that is neither of the two, and is reached by both
pub record ThirdCell (rows : List ℕ) (a b c : ℕ) : Type 0 where
  pub few : c < 32
  pub not_first : c ≡ a → ⊥
  pub not_second : c ≡ b → ⊥
  pub by_first : reaches rows a c ≡ true
  pub by_second : reaches rows b c ≡ true

abbrev test : List ℕ → ℕ → ℕ → ℕ → Bool
test rows a b c = not (eqb c a) && (not (eqb c b) && (reaches rows a c && reaches rows b c))

passes : (rows : List ℕ) (a b c : ℕ) → c < 32 → test rows a b c ≡ true → ThirdCell rows a b c
passes rows a b c l e =
    let h = both _ _ e in
    let g = both _ _ h.1 in
    let r = both _ _ g.1 in
    record {
      few = l;
      not_first = eqb-false c a (not-true _ h.0);
      not_second = eqb-false c b (not-true _ g.0);
      by_first = r.0;
      by_second = r.1;
    }

-- "some third cell is reached by both" exactly where there is such a cell
pub both_some : (rows : List ℕ) (a b : ℕ) → reached_by_both rows a b ≡ true → (c : ℕ) × ThirdCell rows a b c
unfolding reached_by_both
both_some rows a b e =
    let h = any_some (test rows a b) 32 e in
    (h.0, passes rows a b h.0 h.1 h.2)

pub both-here : (rows : List ℕ) (a b c : ℕ) → ThirdCell rows a b c → reached_by_both rows a b ≡ true
unfolding reached_by_both
both-here rows a b c t =
    any_here (test rows a b) 32 c t.few
    (simp (ne_eqb c a t.not_first, ne_eqb c b t.not_second, t.by_first, t.by_second))

exchanged : (m n r s : Bool) → (m && (n && (r && s))) ≡ (n && (m && (s && r)))
exchanged false n r s = sym (and-false n)
exchanged true false r s = refl
exchanged true true true s = turned s
  where
    turned : (s : Bool) → s ≡ (s && true)
    turned true = refl
    turned false = refl
exchanged true true false s = sym (and-false s)

pub both-sym : (rows : List ℕ) (a b : ℕ) → reached_by_both rows a b ≡ reached_by_both rows b a
unfolding reached_by_both
both-sym rows a b =
    any-eq (test rows a b) (test rows b a) 32 (λ c l. exchanged (not (eqb c a)) (not (eqb c b)) (reaches rows a c) (reaches rows b c))

-- whoever reaches nobody reaches no third cell
pub both-none : (rows : List ℕ) (a b : ℕ) → ((c : ℕ) → reaches rows a c ≡ false) → reached_by_both rows a b ≡ false
both-none rows a b none =
    refute (reached_by_both rows a b) (λ e. let t = both_some rows a b e in true≢false (sym t.1.by_first ∙ none t.0))

-- every rule but 2 is rule 1
pub rule-one : (rule : ℕ) (rows : List ℕ) → eqb rule 2 ≡ false → clash_in 1 rows ≡ clash_in rule rows
unfolding clash_in
rule-one rule rows e = fun_ext (λ a. fun_ext (λ b. rw e))

-- rule 2's clash contains rule 1's
joins : (n r s t : Bool) → (n && (r || (s || false))) ≡ true → (n && (r || (s || t))) ≡ true
joins true true s t e = refl
joins true false true t e = refl
joins true false false t e = absurd (true≢false (sym e))
joins false r s t e = e

pub rule-adds : (rows : List ℕ) (a b : ℕ) → clash_in 1 rows a b ≡ true → clash_in 2 rows a b ≡ true
unfolding clash_in
rule-adds rows a b e = joins (not (eqb a b)) (reaches rows a b) (reaches rows b a) (reached_by_both rows a b) e

-- and nothing else than who reaches a third cell: two cells that clash under rule 2, and not under rule 1
pub rule-added : (rows : List ℕ) (a b : ℕ) → clash_in 2 rows a b ≡ true → clash_in 1 rows a b ≡ false → (c : ℕ) × ThirdCell rows a b c
unfolding clash_in
rule-added rows a b e f = both_some rows a b (left (not (eqb a b)) (reaches rows a b) (reaches rows b a) (reached_by_both rows a b) e f)
  where
    left : (n r s t : Bool) → (n && (r || (s || t))) ≡ true → (n && (r || (s || false))) ≡ false → t ≡ true
    left true true s t e f = absurd (true≢false f)
    left true false true t e f = absurd (true≢false f)
    left true false false t e f = e
    left false r s t e f = absurd (true≢false (sym e))

-- with no cell reached by two others the rules agree
pub rules-agree : (rows : List ℕ) → ((a b c : ℕ) → (a ≡ b → ⊥) → ThirdCell rows a b c → ⊥) → clash_in 2 rows ≡ clash_in 1 rows
unfolding clash_in
rules-agree rows none = fun_ext (λ a. fun_ext (λ b. agree a b (eqb a b) refl))
  where
    agree : (a b : ℕ) (t : Bool) → eqb a b ≡ t
        → (not t && (reaches rows a b || (reaches rows b a || reached_by_both rows a b))) ≡ (not t && (reaches rows a b || (reaches rows b a || false)))
    agree a b true e = refl
    agree a b false e =
        ap (λ u. reaches rows a b || (reaches rows b a || u))
        (refute (reached_by_both rows a b) (λ h. let t = both_some rows a b h in none a b t.0 (eqb-false a b e) t.1))
