-- A row that takes the marks of the row before it over. That row is not idle exactly where it sends or an earlier row that clashes with it does. Where these
-- cells all clash with the next one, that is a part of its marks, and a word has the cells of the others (`by_over`). Assumes nothing.
use mathlib.Core.Path.{◌≡◌, refl, sym, ap, ap₂, ◌∙◌}
use mathlib.Core.Bool.{Bool, true, false, ◌&&◌, ◌||◌, not}
use mathlib.Core.List.{List}
use mathlib.Core.Logic.{⊎_elim, inl, inr}
use Prim.Native.Nat.{ℕ, zero, suc, ◌+◌, ◌*◌, ◌≤◌, ◌<◌}
use native.Mathlib.Nat.{eq-or-lt_of_le}
use native.Mathlib.Omega.{arith}
use lib.Bits.{bit_or}
use lib.Dec.{eqb}
use lib.ListN.{length, get_or}
use lib.Seq.{ext_get_or}
use borrow.Author.Tests.{eq-eqb, ne_eqb}
use Rattle.laws.specs.Bits.{bit_at, bit_in, set_bit, word_of}
use Rattle.laws.specs.Choice.{pick}
use Rattle.laws.specs.Part.{part, put, list_of}
use Rattle.laws.specs.Sum.{any}
use Rattle.laws.proofs.Any.{any_here, any_some, any-eq}
use Rattle.laws.proofs.Bits.{bit-set, bit-either}
use Rattle.laws.proofs.Choice.{cases, alike, both, both_is, either, either_is}
use Rattle.laws.proofs.Part.{length_part, get_d_part, part-put}
use Rattle.laws.proofs.Stores.{length-list, list_at}
use Rattle.laws.proofs.Words.{word-bit}
use Rattle.rows.specs.Stretch.{cover_at}
use Rattle.theory.specs.Greedy.{row_at, reserved}
use Rattle.theory.proofs.Row.{forbid-at, row_at-at}
use Rattle.planrows.specs.Row.{marks_on, marks_here, EitherWay, near_in, by_word, RowsMarked}
use Rattle.planrows.proofs.Marked.{on-length}
use Rattle.planrows.proofs.Sent.{reserved-before}

-- ---- the bytes of a row that is marked

mark-byte : (c q a : Bool) (b : ℕ) (f m : List ℕ) (k : ℕ) → get_or m k 0 ≡ pick a 2 b → get_or f k 0 ≡ pick q 2 (get_or m k 0)
    → get_or (pick c f m) k 0 ≡ pick (a || c && q) 2 b
mark-byte true true true b f m k p r = r
mark-byte true true false b f m k p r = r
mark-byte true false true b f m k p r = r ∙ p
mark-byte true false false b f m k p r = r ∙ p
mark-byte false q true b f m k p r = p
mark-byte false q false b f m k p r = p

on-at : (n : ℕ) (clash : ℕ → ℕ → Bool) (t : List ℕ) (i : ℕ) (r : List ℕ) (j p : ℕ) → length r ≡ n → p < n
    → get_or (marks_on n clash t i r j) p 0 ≡ pick (any (λ m. clash m i && reserved n t m p) j) 2 (get_or r p 0)
unfolding marks_on any
on-at n clash t i r zero p long h = refl
on-at n clash t i r (suc j) p long h =
    mark-byte (clash j i) (reserved n t j p) (any (λ m. clash m i && reserved n t m p) j) (get_or r p 0) _ (marks_on n clash t i r j) p
    (on-at n clash t i r j p long h)
    (forbid-at (row_at n t j) (marks_on n clash t i r j) p (omega (arith, on-length n clash t i r j, long)) ∙ rw (row_at-at n t j p h))

-- ---- who marks

-- j is the cell before i; low are its earlier clashing cells, near those of i, and left is near without j and low
module _ (i j : ℕ) (next : i ≡ j + 1) (near low left res : ℕ → Bool) (own : near j ≡ true)
    (within : (m : ℕ) → m < j → low m ≡ true → near m ≡ true)
    (sound : (m : ℕ) → m < i → left m ≡ true → near m ≡ true)
    (rest : (m : ℕ) → m < j → near m ≡ true → low m ≡ false → left m ≡ true) where
  abbrev among : (ℕ → Bool) → ℕ → Bool
  among who m = who m && res m

  to : any (among near) i ≡ true → (any (among left) i || (res j || any (among low) j)) ≡ true
  to e =
      let s = any_some (among near) i e in
      let m = s.0 in
      let b = both (near m) (res m) s.2 in
      ⊎_elim
      (λ (q : m ≡ j). either_is (any (among left) i) _ (inr (either_is (res j) _ (inl (ap res (sym q) ∙ b.1)))))
      (λ (l : m < j).
      ⊎_elim
      (λ (h : low m ≡ true).
      either_is (any (among left) i) _ (inr (either_is (res j) _ (inr (any_here (among low) j m l (both_is (low m) (res m) h b.1))))))
      (λ (h : low m ≡ false).
      either_is _ (res j || any (among low) j) (inl (any_here (among left) i m s.1 (both_is (left m) (res m) (rest m l b.0 h) b.1))))
      (cases (low m)))
      (eq-or-lt_of_le {n = m} {m = j} (omega (arith, s.1)))

  from : (any (among left) i || (res j || any (among low) j)) ≡ true → any (among near) i ≡ true
  from e =
      ⊎_elim
      (λ (a : any (among left) i ≡ true).
      let s = any_some (among left) i a in
      let b = both (left s.0) (res s.0) s.2 in
      any_here (among near) i s.0 s.1 (both_is (near s.0) (res s.0) (sound s.0 s.1 b.0) b.1))
      (λ (f : (res j || any (among low) j) ≡ true).
      ⊎_elim
      (λ (r : res j ≡ true). any_here (among near) i j (omega arith) (both_is (near j) (res j) own r))
      (λ (a : any (among low) j ≡ true).
      let s = any_some (among low) j a in
      let b = both (low s.0) (res s.0) s.2 in
      any_here (among near) i s.0 (omega (arith, s.1)) (both_is (near s.0) (res s.0) (within s.0 s.1 b.0) b.1))
      (either (res j) (any (among low) j) f))
      (either (any (among left) i) (res j || any (among low) j) e)

  pub over_any : any (λ m. near m && res m) i ≡ (any (λ m. left m && res m) i || (res j || any (λ m. low m && res m) j))
  over_any = alike _ _ to from

-- a table in which one row is put, by that row
pub row_put : (a n : ℕ) (r t : List ℕ) {u : List ℕ} → length r ≡ n → a + n ≤ length t → u ≡ put a n r t → u ≡ put a n (part a n u) t
row_put a n r t long fits is = is ∙ ap (λ (x : List ℕ). put a n x t) (sym (ap (part a n) is ∙ part-put a n r t long fits))

-- ---- a row marked by a word

over-byte : (a b d e : Bool) (z : ℕ) → b ≡ not e → d ≡ (a || e) → pick a 2 (pick b z 2) ≡ pick d 2 z
over-byte true b d e z f g = rw g
over-byte false b d true z f g = rw (f, g)
over-byte false b d false z f g = rw (f, g)

module _ (clash : List ℕ) (n i : ℕ) (t : List ℕ) (fits : i * n + n ≤ length t) (two : EitherWay clash) where
  here-part : length (part (i * n) n t) ≡ n
  here-part = length_part (i * n) n t fits

  near-bit : (m : ℕ) → m < i → bit_at (near_in clash i) m ≡ bit_in clash m i
  near-bit m l = word-bit (bit_at (get_or clash i 0)) i m l ∙ two i m

  pub by_near : {w : ℕ} → w ≡ near_in clash i → marks_here n (by_word w) t i ≡ marks_here n (bit_in clash) t i
  by_near {w} is =
      let z : List ℕ = part (i * n) n t in
      ext_get_or 0 (marks_on n (by_word w) t i z i) (marks_on n (bit_in clash) t i z i)
      (on-length n (by_word w) t i z i ∙ sym (on-length n (bit_in clash) t i z i))
      (λ p h.
      let l : p < n = omega (arith, on-length n (by_word w) t i z i, here-part) in
      on-at n (by_word w) t i z i p here-part l
      ∙ ap (λ b. pick b 2 (get_or z p 0))
      (any-eq (λ m. bit_at w m && reserved n t m p) (λ m. bit_in clash m i && reserved n t m p) i
      (λ m k. ap (λ b. b && reserved n t m p) (ap (λ (x : ℕ). bit_at x m) is ∙ near-bit m k)))
      ∙ sym (on-at n (bit_in clash) t i z i p here-part l))

  module _ (j : ℕ) (next : i ≡ j + 1) (small : i < 32) (marked : RowsMarked n (bit_in clash) t i)
      (inside : bit_or (set_bit (near_in clash j) j) (near_in clash i) ≡ near_in clash i)
      {w : ℕ} (word : w ≡ word_of (λ b. bit_at (near_in clash i) b && not (bit_at (set_bit (near_in clash j) j) b)) 32) where
    group-bit : (m : ℕ) → bit_at (set_bit (near_in clash j) j) m ≡ (eqb m j || bit_at (near_in clash j) m)
    group-bit m = bit-set (near_in clash j) j m

    low_bit : (m : ℕ) → m < j → bit_at (near_in clash j) m ≡ bit_in clash m j
    low_bit m l = word-bit (bit_at (get_or clash j 0)) j m l ∙ two j m

    in_near : (m : ℕ) → m < i → bit_at (set_bit (near_in clash j) j) m ≡ true → bit_in clash m i ≡ true
    in_near m l h =
        sym (near-bit m l) ∙ ap (λ (x : ℕ). bit_at x m) (sym inside) ∙ bit-either (set_bit (near_in clash j) j) (near_in clash i) m
        ∙ either_is (bit_at (set_bit (near_in clash j) j) m) (bit_at (near_in clash i) m) (inl h)

    own-near : bit_in clash j i ≡ true
    own-near = in_near j (omega arith) (group-bit j ∙ either_is (eqb j j) (bit_at (near_in clash j) j) (inl (eq-eqb j j refl)))

    low_near : (m : ℕ) → m < j → bit_in clash m j ≡ true → bit_in clash m i ≡ true
    low_near m l h = in_near m (omega arith) (group-bit m ∙ either_is (eqb m j) (bit_at (near_in clash j) m) (inr (low_bit m l ∙ h)))

    word-is : (m : ℕ) → m < i → bit_at w m ≡ (bit_in clash m i && not (eqb m j || bit_at (near_in clash j) m))
    word-is m l =
        ap (λ (x : ℕ). bit_at x m) word
        ∙ word-bit (λ b. bit_at (near_in clash i) b && not (bit_at (set_bit (near_in clash j) j) b)) 32 m (omega arith)
        ∙ ap₂ (λ a b. a && not b) (near-bit m l) (group-bit m)

    left_near : (m : ℕ) → m < i → bit_at w m ≡ true → bit_in clash m i ≡ true
    left_near m l h = (both (bit_in clash m i) _ (sym (word-is m l) ∙ h)).0

    left-rest : (m : ℕ) → m < j → bit_in clash m i ≡ true → bit_in clash m j ≡ false → bit_at w m ≡ true
    left-rest m l h g =
        let a : eqb m j ≡ false = ne_eqb m j (λ e. omega arith) in
        let b : bit_at (near_in clash j) m ≡ false = low_bit m l ∙ g in
        word-is m (omega arith) ∙ rw (h, a, b) refl

    pub by_over : {u : List ℕ} → u ≡ put (i * n) n (list_of (cover_at n t j i) n) t → marks_here n (by_word w) u i ≡ marks_here n (bit_in clash) t i
    by_over {u} is =
        let f : ℕ → ℕ = cover_at n t j i in
        let z : List ℕ = part (i * n) n t in
        let y : List ℕ = part (i * n) n u in
        let covered : y ≡ list_of f n = ap (part (i * n) n) is ∙ part-put (i * n) n (list_of f n) t (length-list f n) fits in
        let long : length y ≡ n = ap length covered ∙ length-list f n in
        ext_get_or 0 (marks_on n (by_word w) u i y i) (marks_on n (bit_in clash) t i z i)
        (on-length n (by_word w) u i y i ∙ long ∙ sym (on-length n (bit_in clash) t i z i ∙ here-part))
        (λ p h.
        let l : p < n = omega (arith, on-length n (by_word w) u i y i, long) in
        let res : ℕ → Bool = λ m. reserved n t m p in
        let same : any (λ m. bit_at w m && reserved n u m p) i ≡ any (λ m. bit_at w m && res m) i
        = any-eq (λ m. bit_at w m && reserved n u m p) (λ m. bit_at w m && res m) i
        (λ m k. ap (λ b. bit_at w m && b) (reserved-before n i (list_of f n) t (length-list f n) fits is m p k l)) in
        let byte : get_or y p 0 ≡ pick (eqb (get_or t (j * n + p) 0) 0) (get_or z p 0) 2
        = ap (λ (x : List ℕ). get_or x p 0) covered ∙ list_at f n p l
        ∙ ap (λ (b : ℕ). pick (eqb (get_or t (j * n + p) 0) 0) b 2) (sym (get_d_part (i * n) n t p 0 l)) in
        on-at n (by_word w) u i y i p long l
        ∙ ap₂ (λ b (c : ℕ). pick b 2 c) same byte
        ∙ over-byte (any (λ m. bit_at w m && res m) i) _ (any (λ m. bit_in clash m i && res m) i) _ (get_or z p 0) (marked j (omega arith) p l)
        (over_any i j next (λ m. bit_in clash m i) (λ m. bit_in clash m j) (bit_at w) res own-near low_near left_near left-rest)
        ∙ sym (on-at n (bit_in clash) t i z i p here-part l))
