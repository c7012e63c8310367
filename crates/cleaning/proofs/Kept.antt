-- Text kept in lent memory as far as there is room: none, one byte, one text after another. And the steps of the passes over a sheet. Assumes nothing.
use Prim.Native.Nat.{ℕ, zero, suc, ◌+◌, ◌-◌, ◌≤◌, ◌<◌}
use mathlib.Core.Path.{◌≡◌, refl, sym, ap, ap₂, ◌∙◌}
use mathlib.Core.Bool.{Bool, true, false}
use mathlib.Core.List.{List, [], ◌∷◌, ◌++◌, append_assoc, append-nil}
use native.Mathlib.Omega.{arith}
use native.Mathlib.Numerals.{add-one}
use lib.ListN.{length, take, drop, get_or, set, length-set, length-append, drop_of_length-le, take-append-drop}
use lib.Seq.{take_all, take-append-le, take-suc-set, length-take-le, drop-cons, drop-drop, drop-set-lt, sets}
use Rattle.laws.specs.Choice.{pick}
use Rattle.laws.proofs.Stores.{sets-front}
use Rattle.lines.specs.Format.{comma_byte}
use Rattle.lines.specs.Match.{starts, eaten, nowhere}
use Rattle.lines.proofs.Match.{starts-long}
use Rattle.cleaning.specs.Clean.{is_separator, separator_in, order_mark, first_spot, begins, out_of, step_of, end_of, clean_from, cleaned}
use Rattle.cleaning.specs.Clean.{unchanged, line_after, noted, changes_from}
use Rattle.cleaning.specs.Kept.{Kept}
use Rattle.cleaning.specs.declared.Standing.{Standing}
use Rattle.cleaning.specs.declared.Step.{Step}
use Rattle.cleaning.specs.declared.Tidied.{Tidied}

pub kept-none : (out : List ℕ) (at : ℕ) → at ≤ length out → Kept out at [] out at
kept-none out at h =
    record {
      long = refl;
      grows = omega arith;
      inside = h;
      rest = refl;
      kept = sym (ap (take (length out)) (append-nil (take at out)) ∙ take_all (length out) (take at out) (omega (arith, length-take-le at out h)));
    }

-- no room is left
pub kept_full : (out : List ℕ) (at : ℕ) (text : List ℕ) → length out ≤ at → at ≤ length out → Kept out at text out at
kept_full out at text l h =
    let e = length-take-le at out h in
    record {
      long = refl;
      grows = omega arith;
      inside = h;
      rest = refl;
      kept =
          sym (take-append-le (length out) (take at out) text (omega arith)
          ∙ take_all (length out) (take at out) (omega arith));
    }

pub kept-one : (out : List ℕ) (at b : ℕ) → at < length out → Kept out at (b ∷ []) (set out at b) (at + 1)
kept-one out at b h =
    let e : length (take at out) ≡ at = length-take-le at out (omega arith) in
    record {
      long = length-set out at b;
      grows = omega arith;
      inside = omega arith;
      rest = drop-set-lt (at + 1) out at b (omega arith);
      kept =
          ap (λ (n : ℕ). take n (set out at b)) (add-one at)
          ∙ take-suc-set out at b h
          ∙ sym (take_all (length out) (take at out ++ (b ∷ [])) (omega (arith, length-append (take at out) (b ∷ []))));
    }

take-over : (n : ℕ) (w u : List ℕ) → take n (take n w ++ u) ≡ take n (w ++ u)
take-over zero w u = refl
take-over (suc n) [] u = refl
take-over (suc n) (x ∷ w) u = ap (λ (l : List ℕ). x ∷ l) (take-over n w u)

drop_more : (j k : ℕ) (x y : List ℕ) → j ≤ k → drop j x ≡ drop j y → drop k x ≡ drop k y
drop_more j k x y h e =
    let i : k ≡ j + (k - j) = omega arith in
    ap (λ (n : ℕ). drop n x) i ∙ sym (drop-drop (k - j) j x) ∙ ap (drop (k - j)) e ∙ drop-drop (k - j) j y ∙ ap (λ (n : ℕ). drop n y) (sym i)

-- one text after another
pub kept-both : {a b c u v : List ℕ} {i j k : ℕ} → Kept a i u b j → Kept b j v c k → Kept a i (u ++ v) c k
kept-both {a} {b} {c} {u} {v} {i} {j} {k} p q =
    record {
      long = q.long ∙ p.long;
      grows = omega (arith, q.grows, p.grows);
      inside = omega (arith, q.inside, p.long);
      rest = q.rest ∙ drop_more j k b a q.grows p.rest;
      kept =
          q.kept
          ∙ ap (λ (n : ℕ). take n (take j b ++ v)) p.long
          ∙ ap (λ (l : List ℕ). take (length a) (l ++ v)) p.kept
          ∙ take-over (length a) (take i a ++ u) v
          ∙ ap (take (length a)) (append_assoc (take i a) u v);
    }

-- from the start, it is the text that is stored, as far as there is room
pub kept-stored : {before text after : List ℕ} {next : ℕ} → Kept before 0 text after next
    → (after ≡ sets before 0 (take (length before) text)) × (next ≡ length (take (length before) text))
kept-stored {before} {text} {after} {next} k =
    let n : next ≡ length (take (length before) text) =
    sym (length-take-le next after (omega (arith, k.inside, k.long))) ∙ ap length k.kept in
    let short : length (take (length before) text) ≤ length before = omega (arith, n, k.inside) in (
      sym (take-append-drop next after)
          ∙ ap₂ (λ (x y : List ℕ). x ++ y) k.kept (k.rest ∙ ap (λ (m : ℕ). drop m before) n)
          ∙ sym (sets-front before (take (length before) text) short),
      n,
    )

-- ---- the separator

module _ (s : List ℕ) (i : ℕ) where
  pub sep-end : length s ≤ i → separator_in (drop i s) ≡ comma_byte
  unfolding separator_in
  sep-end h = rw (drop_of_length-le s {i = i} h)

  pub sep-found : i < length s → is_separator (get_or s i 0) ≡ true → separator_in (drop i s) ≡ get_or s i 0
  unfolding separator_in
  sep-found h e = rw (drop-cons s i 0 h, e)

  pub sep-next : i < length s → is_separator (get_or s i 0) ≡ false → separator_in (drop i s) ≡ separator_in (drop (i + 1) s)
  unfolding separator_in
  sep-next h e = rw (drop-cons s i 0 h, e, add-one i)

-- ---- the mark of the byte order

module _ (s : List ℕ) where
  pub begin-mark : (r : ℕ) → r ≡ eaten s 0 order_mark → r ≡ 3 → 3 ≡ begins s
  unfolding eaten begins
  begin-mark r e h = by (starts order_mark s) e
    where
      by : (t : Bool) → r ≡ pick t 3 nowhere → ◌≡◌ {A = ℕ} 3 (pick t 3 0)
      by true q = refl
      by false q = absurd (omega (arith, q, h))

  pub begin-none : (r : ℕ) → r ≡ eaten s 0 order_mark → (r ≡ 3 → ⊥) → 0 ≡ begins s
  unfolding eaten begins
  begin-none r e h = by (starts order_mark s) e
    where
      by : (t : Bool) → r ≡ pick t 3 nowhere → ◌≡◌ {A = ℕ} 0 (pick t 3 0)
      by true q = absurd (h q)
      by false q = refl

  pub begins-inside : begins s ≤ length s
  unfolding begins
  begins-inside = by (starts order_mark s) refl
    where
      by : (t : Bool) → starts order_mark s ≡ t → pick t 3 0 ≤ length s
      by true e = starts-long order_mark s e
      by false e = omega arith

  pub mark-there : begins s ≡ 3 → starts order_mark s ≡ true
  unfolding begins
  mark-there e = by (starts order_mark s) e
    where
      by : (t : Bool) → ◌≡◌ {A = ℕ} (pick t 3 0) 3 → t ≡ true
      by true q = refl
      by false q = absurd (omega (arith, q))

  pub mark_not : (begins s ≡ 3 → ⊥) → starts order_mark s ≡ false
  unfolding begins
  mark_not h = by (starts order_mark s) h
    where
      by : (t : Bool) → (◌≡◌ {A = ℕ} (pick t 3 0) 3 → ⊥) → t ≡ false
      by true q = absurd (q refl)
      by false q = refl

-- ---- one byte more, and the end

module _ (sep : ℕ) (p : Standing) (s : List ℕ) (i : ℕ) where
  pub clean-next : i < length s
      → clean_from sep p (drop i s) ≡ out_of (step_of sep p (get_or s i 0)) ++ clean_from sep (step_of sep p (get_or s i 0)).spot (drop (i + 1) s)
  unfolding clean_from
  clean-next h = rw (drop-cons s i 0 h, add-one i)

  pub clean_end : length s ≤ i → clean_from sep p (drop i s) ≡ out_of (end_of p)
  unfolding clean_from
  clean_end h = rw (drop_of_length-le s {i = i} h)

  module _ (kind line : ℕ) (c : Tidied) where
    pub changes-next : i < length s
        → changes_from kind sep p line c (drop i s)
        ≡ changes_from kind sep (step_of sep p (get_or s i 0)).spot (line_after line (get_or s i 0)) (noted kind (step_of sep p (get_or s i 0)) line c)
        (drop (i + 1) s)
    unfolding changes_from
    changes-next h = rw (drop-cons s i 0 h, add-one i)

    pub changes-end : length s ≤ i → changes_from kind sep p line c (drop i s) ≡ noted kind (end_of p) line c
    unfolding changes_from
    changes-end h = rw (drop_of_length-le s {i = i} h)

-- ---- as the loops ask

module _ (s : List ℕ) where
  pub clean-begin : (sep : ℕ) (p : Standing) (i : ℕ) → sep ≡ separator_in s → p ≡ first_spot → i ≡ begins s → clean_from sep p (drop i s) ≡ cleaned s
  unfolding cleaned
  clean-begin sep p i e f g = rw (e, f, g)

  module _ (sep : ℕ) (p : Standing) (i : ℕ) (done : List ℕ) (st : Step) (so_far : done ++ clean_from sep p (drop i s) ≡ cleaned s) where
    pub clean-taken : (count : ℕ) → clean_from sep p (drop i s) ≡ out_of st ++ clean_from sep st.spot (drop (i + count) s)
        → (done ++ out_of st) ++ clean_from sep st.spot (drop (i + count) s) ≡ cleaned s
    clean-taken count e =
        append_assoc done (out_of st) (clean_from sep st.spot (drop (i + count) s)) ∙ ap (λ (x : List ℕ). done ++ x) (sym e) ∙ so_far

    pub clean-last : length s ≤ i → st ≡ end_of p → done ++ out_of st ≡ cleaned s
    clean-last h e = rw e (ap (λ (x : List ℕ). done ++ x) (sym (clean_end sep p s i h)) ∙ so_far)

module _ (kind : ℕ) (s : List ℕ) where
  pub changes-begin : (sep : ℕ) (p : Standing) (c : Tidied) (i : ℕ) → sep ≡ separator_in s → p ≡ first_spot → c ≡ unchanged → i ≡ begins s
      → changes_from kind sep p 1 c (drop i s) ≡ changes_from kind (separator_in s) first_spot 1 unchanged (drop (begins s) s)
  changes-begin sep p c i e f g h = rw (e, f, g, h)

  module _ (sep : ℕ) (p : Standing) (line : ℕ) (c : Tidied) (i : ℕ) (st : Step) where
    pub changes-more : (after : ℕ) (now : Tidied) → i < length s → st ≡ step_of sep p (get_or s i 0) → now ≡ noted kind st line c
        → after ≡ line_after line (get_or s i 0)
        → changes_from kind sep st.spot after now (drop (i + 1) s) ≡ changes_from kind sep p line c (drop i s)
    changes-more after now h e f g = rw (f, g, e) (sym (changes-next sep p s i kind line c h))

    pub changes-last : length s ≤ i → st ≡ end_of p → noted kind st line c ≡ changes_from kind sep p line c (drop i s)
    changes-last h e = rw e (sym (changes-end sep p s i kind line c h))
