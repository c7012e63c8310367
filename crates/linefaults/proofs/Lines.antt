-- A line is found and looked at a byte at a time. Assumes nothing.
use Prim.Native.Nat.{ℕ, suc, ◌+◌, ◌-◌, ◌≤◌, ◌<◌}
use mathlib.Core.Path.{◌≡◌, refl, sym, ap, ◌∙◌}
use mathlib.Core.Bool.{Bool, true, false, true≢false}
use mathlib.Core.List.{List, [], ◌∷◌}
use native.Mathlib.Omega.{arith}
use lib.Dec.{eqb}
use lib.ListN.{length, drop, get_or}
use borrow.Author.Tests.{eq-eqb, ne_eqb}
use Rattle.laws.specs.Choice.{pick}
use Rattle.text.proofs.Left.{next-left, none_left}
use Rattle.lines.specs.Match.{starts, eaten, nowhere}
use Rattle.lines.specs.Format.{header}
use Rattle.lines.specs.Content.{cells_of_line, head_ok, no_head, head_read}
use Rattle.lines.specs.declared.Head.{Head}
use Rattle.lines.proofs.Heads.{cells-few}
use Rattle.cleaning.specs.Clean.{order_mark}
use Rattle.linefaults.specs.declared.Field.{Field}
use Rattle.std.specs.Prelude.{Option, Some, None}
use Rattle.std.specs.Option.{option_or, is_some}
use Rattle.linefaults.specs.declared.LineFault.{LineFault}
use Rattle.linefaults.specs.Fault.{untold, after_lines, field_after, fault_at, end_fault, fault_from}

-- ---- found

pub after_none : (s : List ℕ) → after_lines 0 s ≡ s
unfolding after_lines
after_none [] = refl
after_none (b ∷ s) = refl

module _ (s : List ℕ) (i : ℕ) (k : ℕ) where
  -- no line end is left to pass
  pub passed : k ≡ 0 → after_lines k (drop i s) ≡ drop i s
  passed e = rw e (after_none (drop i s))

  pub pass-end : length s ≤ i → after_lines k (drop i s) ≡ drop i s
  unfolding after_lines
  pass-end h = rw (none_left s i h)

module _ (s : List ℕ) (i : ℕ) (h : i < length s) where
  end-cons : (k : ℕ) → eqb (get_or s i 0) 10 ≡ true → after_lines (suc k) (drop i s) ≡ after_lines k (drop (i + 1) s)
  unfolding after_lines
  end-cons k e = rw (next-left s i h, e)

  pub pass-line : (k : ℕ) → 0 < k → eqb (get_or s i 0) 10 ≡ true → after_lines k (drop i s) ≡ after_lines (k - 1) (drop (i + 1) s)
  pass-line k p e = let q : k ≡ suc (k - 1) = omega arith in ap (λ n. after_lines n (drop i s)) q ∙ end-cons (k - 1) e

  other-cons : (k : ℕ) → eqb (get_or s i 0) 10 ≡ false → after_lines (suc k) (drop i s) ≡ after_lines (suc k) (drop (i + 1) s)
  unfolding after_lines
  other-cons k e = rw (next-left s i h, e)

  pub pass-other : (k : ℕ) → 0 < k → eqb (get_or s i 0) 10 ≡ false → after_lines k (drop i s) ≡ after_lines k (drop (i + 1) s)
  pass-other k p e =
      let q : k ≡ suc (k - 1) = omega arith in
      ap (λ n. after_lines n (drop i s)) q ∙ other-cons (k - 1) e ∙ ap (λ n. after_lines n (drop (i + 1) s)) (sym q)

-- ---- looked at

module _ (s : List ℕ) (fields at : ℕ) (f : Field) (i : ℕ) where
  pub look-end : length s ≤ i → Some (end_fault at) ≡ fault_from fields at f (drop i s)
  unfolding fault_from
  look-end h = rw (none_left s i h)

  module _ (h : i < length s) (o : Option LineFault) (e : o ≡ fault_at fields at f (get_or s i 0)) where
    pub look-told : is_some o ≡ true → o ≡ fault_from fields at f (drop i s)
    unfolding fault_from
    look-told t = rw (next-left s i h, ← e) (told _ o t)
      where
        told : (p q : Option LineFault) → is_some q ≡ true → q ≡ option_or q p
        told p None t = absurd (true≢false (sym t))
        told p (Some x) t = refl

    none : is_some o ≡ false → fault_at fields at f (get_or s i 0) ≡ None
    none t = sym e ∙ by o t
      where
        by : (q : Option LineFault) → is_some q ≡ false → q ≡ None
        by None t = refl
        by (Some x) t = absurd (true≢false t)

    pub look-done : is_some o ≡ false → get_or s i 0 ≡ 10 → untold ≡ fault_from fields at f (drop i s)
    unfolding fault_from
    look-done z l = rw (next-left s i h, none z, eq-eqb _ _ l)

    pub look-on : is_some o ≡ false → (get_or s i 0 ≡ 10 → ⊥) → (g : Field) → g ≡ field_after f (get_or s i 0)
        → fault_from fields (at + 1) g (drop (i + 1) s) ≡ fault_from fields at f (drop i s)
    unfolding fault_from
    look-on z n g w = rw (next-left s i h, none z, ne_eqb _ _ n, w)

-- ---- the mark of the byte order

module _ (s : List ℕ) (r : ℕ) (e : r ≡ eaten s 0 order_mark) where
  pub mark-there : r ≡ 3 → starts order_mark s ≡ true
  unfolding eaten
  mark-there h = by (starts order_mark s) e
    where
      by : (t : Bool) → r ≡ pick t 3 nowhere → t ≡ true
      by true q = refl
      by false q = absurd (omega (arith, q, h))

  pub mark_not : (r ≡ 3 → ⊥) → starts order_mark s ≡ false
  unfolding eaten
  mark_not h = by (starts order_mark s) e
    where
      by : (t : Bool) → r ≡ pick t 3 nowhere → t ≡ false
      by true q = absurd (h q)
      by false q = refl

-- ---- the first line has at most 32 cells

pub head_few : (s : List ℕ) (h : Head) → h ≡ head_read s → h.cells ≤ 32
unfolding head_read
head_few s h e = by (head_ok s) e
  where
    by : (t : Bool) → h ≡ pick t (record { cells = cells_of_line s; next = length (header (cells_of_line s)) }) no_head → h.cells ≤ 32
    by true q = omega (arith, ap (λ (x : Head). x.cells) q, cells-few s)
    by false q = omega (arith, ap (λ (x : Head). x.cells) q)
