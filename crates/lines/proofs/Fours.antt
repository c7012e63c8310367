-- Four commas and marks as one word of pairs, 16 bits each: with the lowest bit of each mark cleared it is the word of four times `,0` exactly where commas and
-- marks stand there, pair by pair; the four bits, moved together, are their row. Assumes nothing.
use Prim.Native.Nat.{ℕ, zero, suc, ◌+◌, ◌-◌, ◌*◌, ◌/◌, ◌%◌, ◌^◌, ◌≤◌, ◌<◌}
use mathlib.Core.Path.{◌≡◌, refl, sym, ap, ap₂, subst, ◌∙◌}
use mathlib.Core.Bool.{Bool, true, false, ◌&&◌, and-false}
use mathlib.Core.List.{List, ◌++◌}
use native.Mathlib.Omega.{arith}
use lib.Bits.{bit_and, and_block, and_mask, and_high, and_le_l}
use lib.ListN.{length, drop, get_or}
use lib.Seq.{drop-drop}
use lib.Pow.{pow_mono}
use lib.Dec.{eqb}
use borrow.Author.Tests.{eq-eqb, ne_eqb, eqb-true, eqb-false}
use Rattle.laws.specs.Choice.{pick}
use Rattle.laws.specs.Sum.{bit}
use Rattle.laws.proofs.Choice.{both}
use Rattle.lines.specs.Match.{starts}
use Rattle.lines.specs.Format.{marks}
use Rattle.lines.specs.Content.{mark_of_line, weigh, mark_ok, row_of_marks, pair_at, marks_off, four_row, four_in}
use Rattle.lines.proofs.Match.{starts-append}
use Rattle.lines.proofs.Lines.{marks-long, mark-two, weigh-lt}
use Rattle.lines.proofs.Steps.{one-step, mark-here}

-- ---- one pair

module _ (c x : ℕ) (h : c < 256) (l : x < 256) where
  pair-and : bit_and (c + 256 * x) 65279 ≡ c + 256 * (x / 2 * 2)
  pair-and =
      let e : c + 256 * x ≡ x * 256 + c = omega arith in
      let a : bit_and (x * 256 + c) 65279 ≡ bit_and x 254 * 256 + bit_and c 255 = and_block 8 x 254 c 255 h (omega arith) in
      let b : bit_and x 254 ≡ x / 2 % 128 * 2 = and_high x 7 1 in
      let d : bit_and c 255 ≡ c % 256 = and_mask c 8 in
      ap (λ (n : ℕ). bit_and n 65279) e ∙ a ∙ omega (arith, b, d)

  pair_lt : bit_and (c + 256 * x) 65279 < 65536
  pair_lt = omega (arith, pair-and)

  -- the pair is a comma and a mark
  pair_ok-law : (ok : Bool) → mark_ok c x ok ≡ (eqb (bit_and (c + 256 * x) 65279) 12332 && ok)
  unfolding mark_ok
  pair_ok-law ok = rw pair-and (go (eqb c 44) refl (eqb x 49) refl (eqb x 48) refl)
    where
      go : (t : Bool) → eqb c 44 ≡ t → (u : Bool) → eqb x 49 ≡ u → (v : Bool) → eqb x 48 ≡ v
          → (t && (eqb x (48 + bit u) && ok)) ≡ (eqb (c + 256 * (x / 2 * 2)) 12332 && ok)
      go true e true f v g =
          let i : c ≡ 44 = eqb-true _ _ e in
          let j : x ≡ 49 = eqb-true _ _ f in
          rw (i, j)
      go true e false f true g =
          let i : c ≡ 44 = eqb-true _ _ e in
          let j : x ≡ 48 = eqb-true _ _ g in
          rw (i, j)
      go true e false f false g =
          let i : x ≡ 49 → ⊥ = eqb-false _ _ f in
          let j : x ≡ 48 → ⊥ = eqb-false _ _ g in
          let n : eqb (c + 256 * (x / 2 * 2)) 12332 ≡ false = ne_eqb (c + 256 * (x / 2 * 2)) 12332 (λ q. omega (arith, q, h)) in
          rw (n, g)
      go false e u f v g =
          let n : eqb (c + 256 * (x / 2 * 2)) 12332 ≡ false =
          ne_eqb (c + 256 * (x / 2 * 2)) 12332 (λ q. let r : c ≡ 44 = omega (arith, q, h) in eqb-false c 44 e r) in
          rw n

  -- and then it is `,0`, or `,1`
  pair_is : eqb (bit_and (c + 256 * x) 65279) 12332 ≡ true → c + 256 * x ≡ 12332 + 256 * bit (eqb x 49)
  pair_is e = go (eqb-true _ _ e) (eqb x 49) refl
    where
      go : bit_and (c + 256 * x) 65279 ≡ 12332 → (u : Bool) → eqb x 49 ≡ u → c + 256 * x ≡ 12332 + 256 * bit u
      go q true f = let j : x ≡ 49 = eqb-true _ _ f in omega (arith, pair-and)
      go q false f = let j : x ≡ 49 → ⊥ = eqb-false _ _ f in omega (arith, pair-and)

-- ---- two numbers in one

-- a test of both parts
apart : (s a b : Bool) → (s ≡ true → (a ≡ true) × (b ≡ true)) → (a ≡ true → b ≡ true → s ≡ true) → s ≡ (a && b)
apart true a b f g = let p = f refl in rw (p.0, p.1)
apart false true true f g = g refl refl
apart false true false f g = refl
apart false false b f g = refl

module _ (a x b y : ℕ) where
  eqb-16 : a < 65536 → b < 65536 → eqb (a + 65536 * x) (b + 65536 * y) ≡ (eqb a b && eqb x y)
  eqb-16 h l =
      apart (eqb (a + 65536 * x) (b + 65536 * y)) (eqb a b) (eqb x y)
      (λ e. let q : a + 65536 * x ≡ b + 65536 * y = eqb-true _ _ e in (eq-eqb a b (omega arith), eq-eqb x y (omega arith)))
      (λ e f. eq-eqb _ _ (ap₂ (λ (m n : ℕ). m + 65536 * n) (eqb-true a b e) (eqb-true x y f)))

  eqb-32 : a < 4294967296 → b < 4294967296 → eqb (a + 4294967296 * x) (b + 4294967296 * y) ≡ (eqb a b && eqb x y)
  eqb-32 h l =
      apart (eqb (a + 4294967296 * x) (b + 4294967296 * y)) (eqb a b) (eqb x y)
      (λ e. let q : a + 4294967296 * x ≡ b + 4294967296 * y = eqb-true _ _ e in (eq-eqb a b (omega arith), eq-eqb x y (omega arith)))
      (λ e f. eq-eqb _ _ (ap₂ (λ (m n : ℕ). m + 4294967296 * n) (eqb-true a b e) (eqb-true x y f)))

half-and : (p q : ℕ) → p < 65536 → bit_and (p + 65536 * q) 4278189823 ≡ bit_and p 65279 + 65536 * bit_and q 65279
half-and p q h =
    let e : p + 65536 * q ≡ q * 65536 + p = omega arith in
    let a : bit_and (q * 65536 + p) 4278189823 ≡ bit_and q 65279 * 65536 + bit_and p 65279 = and_block 16 q 65279 p 65279 h (omega arith) in
    ap (λ (n : ℕ). bit_and n 4278189823) e ∙ a ∙ omega arith

whole-and : (p q : ℕ) → p < 4294967296 → bit_and (p + 4294967296 * q) 18374685380143218431 ≡ bit_and p 4278189823 + 4294967296 * bit_and q 4278189823
whole-and p q h =
    let e : p + 4294967296 * q ≡ q * 4294967296 + p = omega arith in
    let a : bit_and (q * 4294967296 + p) 18374685380143218431 ≡ bit_and q 4278189823 * 4294967296 + bit_and p 4278189823 =
    and_block 32 q 4278189823 p 4278189823 h (omega arith) in
    ap (λ (n : ℕ). bit_and n 18374685380143218431) e ∙ a ∙ omega arith

-- ---- four pairs

abbrev word : ℕ → ℕ → ℕ → ℕ → ℕ
word p q u v = (p + 65536 * q) + 4294967296 * (u + 65536 * v)

abbrev is_mark : ℕ → Bool
is_mark p = eqb (bit_and p 65279) 12332

and-small : (p : ℕ) → p < 65536 → bit_and p 65279 < 65536
and-small p h = omega (arith, and_le_l p 65279)

word_ok : (p q u v : ℕ) → p < 65536 → q < 65536 → u < 65536 → v < 65536
    → eqb (bit_and (word p q u v) 18374685380143218431) marks_off ≡ ((is_mark p && is_mark q) && (is_mark u && is_mark v))
word_ok p q u v a b c d =
    ap (λ (n : ℕ). eqb n marks_off)
    (whole-and (p + 65536 * q) (u + 65536 * v) (omega arith) ∙ ap₂ (λ (m n : ℕ). m + 4294967296 * n) (half-and p q a) (half-and u v c))
    ∙ eqb-32 (bit_and p 65279 + 65536 * bit_and q 65279) (bit_and u 65279 + 65536 * bit_and v 65279) 808202284 808202284
    (omega (arith, and-small p a, and-small q b)) (omega arith)
    ∙ ap₂ (λ (s t : Bool). s && t) (eqb-16 (bit_and p 65279) (bit_and q 65279) 12332 12332 (and-small p a) (omega arith))
    (eqb-16 (bit_and u 65279) (bit_and v 65279) 12332 12332 (and-small u c) (omega arith))

-- the bits of four marks, moved together
bits-together : (a b c d : Bool)
    → four_row ((word (12332 + 256 * bit a) (12332 + 256 * bit b) (12332 + 256 * bit c) (12332 + 256 * bit d) - marks_off) / 2 ^ 8)
    ≡ bit a + 2 * (bit b + 2 * (bit c + 2 * (bit d + 2 * 0)))
bits-together true true true true = refl
bits-together true true true false = refl
bits-together true true false true = refl
bits-together true true false false = refl
bits-together true false true true = refl
bits-together true false true false = refl
bits-together true false false true = refl
bits-together true false false false = refl
bits-together false true true true = refl
bits-together false true true false = refl
bits-together false true false true = refl
bits-together false true false false = refl
bits-together false false true true = refl
bits-together false false true false = refl
bits-together false false false true = refl
bits-together false false false false = refl

regroup : (a b c d : Bool) → (a && (b && (c && (d && true)))) ≡ ((a && b) && (c && d))
regroup true true true true = refl
regroup true true true false = refl
regroup true true false d = refl
regroup true false c d = refl
regroup false b c d = refl

-- both say the same of marks that stand there, and 16 of others
same-pick : (t : Bool) (x y : ℕ) → (t ≡ true → x ≡ y) → pick t x 16 ≡ pick t y 16
same-pick true x y f = f refl
same-pick false x y f = refl

-- two bytes
abbrev Bytes : List ℕ → ℕ → Type 0
Bytes s j = (get_or s j 0 < 256) × (get_or s (j + 1) 0 < 256)

module _ (s : List ℕ) (at : ℕ) where
  abbrev pair : ℕ → ℕ
  pair i = get_or s (at + 2 * i) 0 + 256 * get_or s (at + 2 * i + 1) 0

  abbrev said : ℕ → Bool
  said i = eqb (get_or s (at + 2 * i + 1) 0) 49

  pair_small : (i : ℕ) → Bytes s (at + 2 * i) → pair i < 65536
  pair_small i h = omega arith

  step : (i m : ℕ) → Bytes s (at + 2 * i) → at + 2 * i + 1 < length s
      → starts (marks (mark_of_line (drop at s)) i (suc m)) (drop (2 * i) (drop at s))
      ≡ (is_mark (pair i) && starts (marks (mark_of_line (drop at s)) (suc i) m) (drop (2 * suc i) (drop at s)))
  step i m l h = sym (one-step s at i m h) ∙ pair_ok-law (get_or s (at + 2 * i) 0) (get_or s (at + 2 * i + 1) 0) l.0 l.1 _

  pair-said : (i : ℕ) → Bytes s (at + 2 * i) → is_mark (pair i) ≡ true → pair i ≡ 12332 + 256 * bit (said i)
  pair-said i l e = pair_is (get_or s (at + 2 * i) 0) (get_or s (at + 2 * i + 1) 0) l.0 l.1 e

  module _ (b : ℕ) (fits : at + 2 * b + 8 ≤ length s) (h : Bytes s (at + 2 * b)) (k : Bytes s (at + 2 * suc b)) (l : Bytes s (at + 2 * suc (suc b)))
      (m : Bytes s (at + 2 * suc (suc (suc b)))) where
    four-there : starts (marks (mark_of_line (drop at s)) b 4) (drop (2 * b) (drop at s))
        ≡ ((is_mark (pair b) && is_mark (pair (suc b))) && (is_mark (pair (suc (suc b))) && is_mark (pair (suc (suc (suc b))))))
    unfolding starts marks
    four-there =
        step b 3 h (omega arith)
        ∙ ap (λ (t : Bool). is_mark (pair b) && t)
        (step (suc b) 2 k (omega arith)
        ∙ ap (λ (t : Bool). is_mark (pair (suc b)) && t)
        (step (suc (suc b)) 1 l (omega arith)
        ∙ ap (λ (t : Bool). is_mark (pair (suc (suc b))) && t) (step (suc (suc (suc b))) 0 m (omega arith))))
        ∙ regroup (is_mark (pair b)) (is_mark (pair (suc b))) (is_mark (pair (suc (suc b)))) (is_mark (pair (suc (suc (suc b)))))

    four-row : weigh (mark_of_line (drop at s)) b 4
        ≡ bit (said b) + 2 * (bit (said (suc b)) + 2 * (bit (said (suc (suc b))) + 2 * (bit (said (suc (suc (suc b)))) + 2 * 0)))
    unfolding weigh
    four-row = rw (mark-here s at b, mark-here s at (suc b), mark-here s at (suc (suc b)), mark-here s at (suc (suc (suc b))))

    fours : four_in (word (pair b) (pair (suc b)) (pair (suc (suc b))) (pair (suc (suc (suc b))))) ≡ row_of_marks (drop at s) b 4
    unfolding four_in row_of_marks
    fours =
        rw (
          word_ok (pair b) (pair (suc b)) (pair (suc (suc b))) (pair (suc (suc (suc b)))) (pair_small b h) (pair_small (suc b) k)
              (pair_small (suc (suc b)) l) (pair_small (suc (suc (suc b))) m),
          four-there,
        )
        (same-pick _ _ _
        (λ e.
        let p = both (is_mark (pair b) && is_mark (pair (suc b))) (is_mark (pair (suc (suc b))) && is_mark (pair (suc (suc (suc b))))) e in
        let q = both (is_mark (pair b)) (is_mark (pair (suc b))) p.0 in
        let r = both (is_mark (pair (suc (suc b)))) (is_mark (pair (suc (suc (suc b))))) p.1 in
        rw (pair-said b h q.0, pair-said (suc b) k q.1, pair-said (suc (suc b)) l r.0, pair-said (suc (suc (suc b))) m r.1, four-row)
        (bits-together (said b) (said (suc b)) (said (suc (suc b))) (said (suc (suc (suc b)))))))

-- as the reader asks: the pairs at p, the first the lowest
pub fours-read : (s : List ℕ) (at b p low high : ℕ) → p ≡ at + 2 * b → at + 2 * b + 8 ≤ length s
    → Bytes s p → Bytes s (p + 2) → Bytes s (p + 4) → Bytes s (p + 6)
    → low ≡ pair_at s p + 65536 * pair_at s (p + 2) → high ≡ pair_at s (p + 4) + 65536 * pair_at s (p + 6)
    → four_in (low + 4294967296 * high) ≡ row_of_marks (drop at s) b 4
unfolding pair_at
fours-read s at b p low high e fits h k l m f g =
    let e2 : p + 2 ≡ at + 2 * suc b = omega arith in
    let e4 : p + 4 ≡ at + 2 * suc (suc b) = omega arith in
    let e6 : p + 6 ≡ at + 2 * suc (suc (suc b)) = omega arith in
    ap₂ (λ (x y : ℕ). four_in (x + 4294967296 * y)) (f ∙ ap₂ (λ (x y : ℕ). x + 65536 * y) (there p b e) (there (p + 2) (suc b) e2))
    (g ∙ ap₂ (λ (x y : ℕ). x + 65536 * y) (there (p + 4) (suc (suc b)) e4) (there (p + 6) (suc (suc (suc b))) e6))
    ∙ fours s at b fits (subst (Bytes s) e h) (subst (Bytes s) e2 k) (subst (Bytes s) e4 l) (subst (Bytes s) e6 m)
  where
    there : (j i : ℕ) → j ≡ at + 2 * i → get_or s j 0 + 256 * get_or s (j + 1) 0 ≡ pair s at i
    there j i q = rw q

-- ---- marks after marks

marks-split : (f : ℕ → ℕ) (k j m : ℕ) → marks f j (k + m) ≡ marks f j k ++ marks f (j + k) m
unfolding marks
marks-split f zero j m =
    let e : zero + m ≡ m = omega arith in
    let g : j + zero ≡ j = omega arith in
    rw (e, g)
marks-split f (suc k) j m =
    let e : suc k + m ≡ suc (k + m) = omega arith in
    let g : j + suc k ≡ suc j + k = omega arith in
    rw (e, g, marks-split f k (suc j) m)

module _ (r : List ℕ) where
  -- marks that stand there, and more of them after those
  starts_more : (b k m : ℕ)
      → starts (marks (mark_of_line r) b (k + m)) (drop (2 * b) r)
      ≡ (starts (marks (mark_of_line r) b k) (drop (2 * b) r) && starts (marks (mark_of_line r) (b + k) m) (drop (2 * (b + k)) r))
  starts_more b k m =
      let e : 2 * b + 2 * k ≡ 2 * (b + k) = omega arith in
      ap (λ (w : List ℕ). starts w (drop (2 * b) r)) (marks-split (mark_of_line r) k b m)
      ∙ starts-append (marks (mark_of_line r) b k) (marks (mark_of_line r) (b + k) m) (drop (2 * b) r)
      ∙ ap (λ (l : List ℕ). starts (marks (mark_of_line r) b k) (drop (2 * b) r) && starts (marks (mark_of_line r) (b + k) m) l)
      (ap (λ (i : ℕ). drop i (drop (2 * b) r)) (marks-long (mark_of_line r) k b) ∙ drop-drop (2 * k) (2 * b) r
      ∙ ap (λ (i : ℕ). drop i r) e)

  -- where some in the midst do not stand there, not all do
  pub midst-bad : (b m n : ℕ) → b + m ≤ n → starts (marks (mark_of_line r) b m) (drop (2 * b) r) ≡ false → starts (marks (mark_of_line r) 0 n) r ≡ false
  midst-bad b m n h e =
      let i : n ≡ b + (n - b) = omega arith in
      let j : n - b ≡ m + (n - b - m) = omega arith in
      let g : 0 + b ≡ b = omega arith in
      let k : starts (marks (mark_of_line r) b (n - b)) (drop (2 * b) r) ≡ false =
      ap (λ (x : ℕ). starts (marks (mark_of_line r) b x) (drop (2 * b) r)) j ∙ starts_more b m (n - b - m)
      ∙ ap (λ (t : Bool). t && starts (marks (mark_of_line r) (b + m) (n - b - m)) (drop (2 * (b + m)) r)) e in
      ap (λ (x : ℕ). starts (marks (mark_of_line r) 0 x) r) i ∙ starts_more 0 b (n - b)
      ∙ ap (λ (x : ℕ). starts (marks (mark_of_line r) 0 b) r && starts (marks (mark_of_line r) x (n - b)) (drop (2 * x) r)) g
      ∙ ap (λ (t : Bool). starts (marks (mark_of_line r) 0 b) r && t) k ∙ and-false (starts (marks (mark_of_line r) 0 b) r)

  -- a row that was read, or 16
  pub row-there : (b m x : ℕ) → x ≡ row_of_marks r b m → (x ≡ 16 → ⊥)
      → (x ≡ weigh (mark_of_line r) b m) × (starts (marks (mark_of_line r) b m) (drop (2 * b) r) ≡ true)
  unfolding row_of_marks
  row-there b m x e h = go (starts (marks (mark_of_line r) b m) (drop (2 * b) r)) e
    where
      go : (t : Bool) → x ≡ pick t (weigh (mark_of_line r) b m) 16 → (x ≡ weigh (mark_of_line r) b m) × (t ≡ true)
      go true q = (q, refl)
      go false q = absurd (h q)

  pub row-none : (b m : ℕ) → m ≤ 4 → row_of_marks r b m ≡ 16 → starts (marks (mark_of_line r) b m) (drop (2 * b) r) ≡ false
  unfolding row_of_marks
  row-none b m l e = go (starts (marks (mark_of_line r) b m) (drop (2 * b) r)) e
    where
      go : (t : Bool) → pick t (weigh (mark_of_line r) b m) 16 ≡ 16 → t ≡ false
      go true q =
          let w : weigh (mark_of_line r) b m < 2 ^ m = weigh-lt (mark_of_line r) (mark-two r) m b in
          let p : 2 ^ m ≤ 2 ^ 4 = pow_mono {i = m} {j = 4} l in
          absurd (omega (arith, w, p, q))
      go false q = refl

  -- four more, from a on, before those from b on
  module _ (a b n : ℕ) (h : b ≡ a + 4) (l : b ≤ n) where
    pub four-weigh : weigh (mark_of_line r) a (n - a) ≡ 16 * weigh (mark_of_line r) b (n - b) + weigh (mark_of_line r) a 4
    unfolding weigh
    four-weigh =
        let e : n - a ≡ suc (suc (suc (suc (n - b)))) = omega arith in
        let g : suc (suc (suc (suc a))) ≡ b = omega arith in
        rw (e, g) (omega arith)

    pub four-starts : starts (marks (mark_of_line r) a 4) (drop (2 * a) r) ≡ true → starts (marks (mark_of_line r) b (n - b)) (drop (2 * b) r) ≡ true
        → starts (marks (mark_of_line r) a (n - a)) (drop (2 * a) r) ≡ true
    four-starts p q =
        let e : n - a ≡ 4 + (n - b) = omega arith in
        ap (λ (x : ℕ). starts (marks (mark_of_line r) a x) (drop (2 * a) r)) e ∙ starts_more a 4 (n - b)
        ∙ ap₂ (λ (t u : Bool). t && u) p (ap (λ (x : ℕ). starts (marks (mark_of_line r) x (n - b)) (drop (2 * x) r)) (sym h) ∙ q)

    pub four-fits : n ≤ 32 → weigh (mark_of_line r) b (n - b) < 268435456
    four-fits m =
        let w : weigh (mark_of_line r) b (n - b) < 2 ^ (n - b) = weigh-lt (mark_of_line r) (mark-two r) (n - b) b in
        let p : 2 ^ (n - b) ≤ 2 ^ 28 = pow_mono {i = n - b} {j = 28} (omega arith) in
        omega arith

  pub four-small : (b : ℕ) → weigh (mark_of_line r) b 4 < 16
  four-small b = weigh-lt (mark_of_line r) (mark-two r) 4 b
