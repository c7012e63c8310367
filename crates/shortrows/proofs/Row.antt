-- A row of at most 64 positions, by its words. The marks are those of the earlier clashing rows (`marks-are`), and filling by the word of what is free is
-- filling what is usable and idle (`row-filled`). The free positions before the end of the filling are what the row reserves (`row_word`). Assumes nothing.
use mathlib.Core.Path.{◌≡◌, refl, sym, ap, ap₂, ◌∙◌}
use mathlib.Core.Bool.{Bool, true, false, ◌&&◌, ◌||◌, not, true≢false, and-true, and-false}
use mathlib.Core.List.{List, []}
use mathlib.Core.Logic.{⊎_elim}
use Prim.Native.Nat.{ℕ, ◌+◌, ◌-◌, ◌*◌, ◌^◌, ◌≤◌, ◌<◌}
use native.Mathlib.Nat.{zero-add}
use native.Mathlib.Omega.{arith}
use lib.Dec.{eqb, ltb}
use lib.ListN.{length, get_or, set}
use lib.Seq.{sets, ext_get_or, get_or-set_same, get_or-set_other}
use native.Mathlib.Nat.{eq-or-lt_of_le}
use borrow.Author.Tests.{lt-ltb, le-ltb, ltb-true, ltb-false}
use Rattle.laws.specs.Bits.{bit_at, bit_in, word_of}
use Rattle.laws.specs.Choice.{pick}
use Rattle.laws.specs.Part.{put, list_of}
use Rattle.laws.specs.Sum.{bit, any}
use Rattle.laws.proofs.Any.{any-eq, any-skip, any-more}
use Rattle.laws.proofs.Bits.{bit_past}
use Rattle.laws.proofs.Few.{few-eq}
use Rattle.laws.proofs.Part.{get_d-put}
use Rattle.laws.proofs.Stores.{length-list, list_at, sets-at, sets-beyond}
use Rattle.laws.proofs.Sums.{sum-eq, sum-stop}
use Rattle.laws.proofs.Words.{word-bit, word-eq, word_lt, none-word}
use Rattle.theory.specs.Net.{unblocked}
use Rattle.theory.specs.Greedy.{sends, reserved, fill, unmet}
use Rattle.theory.proofs.Row.{marked-length, marked-at, fill-length, fill-at, unmet-count, idle-byte}
use Rattle.site.specs.Reach.{net_in}
use Rattle.planrows.specs.Row.{marks_in, row_planned, row_short, EitherWay, near_in}
use Rattle.planrows.proofs.Sent.{reserved-before}
use Rattle.shortrows.specs.Short.{mark_in, any_held, WordsHeld, took_at, Vacant}

-- a word of 64 numbers, of which none from n on passes
pub word-few : (p : ℕ → Bool) (n : ℕ) → n ≤ 64 → ((k : ℕ) → n ≤ k → p k ≡ false) → word_of p 64 ≡ word_of p n
unfolding word_of
word-few p n h none = sum-stop (λ i. pick (p i) (2 ^ i) 0) n 64 h (λ k l. ap (λ t. pick t (2 ^ k) 0) (none k l))

-- the byte of a position, and whether it sends
mark-picked : (t : Bool) → ◌≡◌ {A = ℕ} (pick t 2 0) (2 * bit t)
mark-picked true = refl
mark-picked false = refl

mark-silent : (t : Bool) → sends (2 * bit t) ≡ false
mark-silent true = refl
mark-silent false = refl

took-sends : (f t : Bool) → sends (pick f 1 (2 * bit t)) ≡ f
took-sends true t = refl
took-sends false t = mark-silent t

mark-open : (t : Bool) → (t ≡ true → ⊥) → 2 * bit t ≡ 0
mark-open true h = absurd (h refl)
mark-open false h = refl

twice : (u z f : Bool) → f ≡ (u && z) → (f && z) ≡ (u && z)
twice true true f e = ap (λ b. b && true) e
twice true false f e = ap (λ b. b && false) e
twice false z f e = ap (λ b. b && z) e

never : (u t : Bool) → (u && not t) ≡ true → t ≡ true → ⊥
never true true h e = true≢false (sym h)
never true false h e = true≢false (sym e)
never false t h e = true≢false (sym h)

module _ (n : ℕ) (small : n ≤ 64) (clash : List ℕ) (i : ℕ) (t held : List ℕ) (words : WordsHeld n t i held) (way : EitherWay clash) (usable load : ℕ)
    (within : usable < 2 ^ n) {near taken free : ℕ} (is-near : near ≡ near_in clash i) (is-taken : taken ≡ word_of (any_held held near i) 64)
    (is_free : free ≡ word_of (λ b. bit_at usable b && not (bit_at taken b)) 64) where
  abbrev marks : List ℕ
  marks = marks_in n (bit_in clash) t i

  abbrev row : List ℕ
  row = fill (bit_at usable) 0 load marks

  near-bit : (m : ℕ) → m < i → bit_at near m ≡ bit_in clash m i
  near-bit m l = ap (λ (x : ℕ). bit_at x m) is-near ∙ word-bit (bit_at (get_or clash i 0)) i m l ∙ way i m

  -- what the earlier clashing rows reserve
  taken-bit : (p : ℕ) → p < n → bit_at taken p ≡ any (λ m. bit_in clash m i && reserved n t m p) i
  taken-bit p h =
      ap (λ (x : ℕ). bit_at x p) is-taken ∙ word-bit (any_held held near i) 64 p (omega arith)
      ∙ any-eq (λ m. bit_at near m && bit_in held m p) (λ m. bit_in clash m i && reserved n t m p) i
      (λ m l. ap₂ (λ a b. a && b) (near-bit m l) (ap (λ (x : ℕ). bit_at x p) (words m l) ∙ word-bit (reserved n t m) n p h))

  free-bit : (p : ℕ) → p < 64 → bit_at free p ≡ (bit_at usable p && not (bit_at taken p))
  free-bit p h = ap (λ (x : ℕ). bit_at x p) is_free ∙ word-bit (λ b. bit_at usable b && not (bit_at taken b)) 64 p h

  -- no position past the row
  free-small : free < 2 ^ n
  free-small =
      let e : free ≡ word_of (λ b. bit_at usable b && not (bit_at taken b)) n
      = is_free ∙ word-few (λ b. bit_at usable b && not (bit_at taken b)) n small (λ k l. ap (λ u. u && not (bit_at taken k)) (bit_past usable k n within l)) in
      rw e (word_lt (λ b. bit_at usable b && not (bit_at taken b)) n)

  mark : (p : ℕ) → p < n → get_or marks p 0 ≡ pick (bit_at taken p) 2 0
  mark p h = marked-at (net_in 0 n [] (bit_in clash) unblocked) t i i p h ∙ ap (λ b. pick b 2 0) (sym (taken-bit p h))

  idle : (p : ℕ) → p < n → (bit_at usable p && eqb (get_or marks p 0) 0) ≡ bit_at free p
  idle p h = idle-byte (bit_at usable p) (bit_at taken p) (get_or marks p 0) (mark p h) ∙ sym (free-bit p (omega arith))

  long : length marks ≡ n
  long = marked-length (net_in 0 n [] (bit_in clash) unblocked) t i i

  -- what the word of the earlier rows marks
  abbrev laid : List ℕ
  laid = list_of (mark_in taken) n

  marks-are : laid ≡ marks
  marks-are =
      ext_get_or 0 laid marks (length-list (mark_in taken) n ∙ sym long)
      (λ p h.
      let l : p < n = omega (arith, length-list (mark_in taken) n) in
      list_at (mark_in taken) n p l ∙ sym (mark p l ∙ mark-picked (bit_at taken p)))

  -- what is free is not forbidden
  pub laid-vacant : Vacant free 0 (list_of (mark_in taken) n)
  laid-vacant p _ h e =
      let l : p < n = omega (arith, length-list (mark_in taken) n) in
      list_at (mark_in taken) n p l
      ∙ mark-open (bit_at taken p) (never (bit_at usable p) (bit_at taken p) (sym (free-bit p (omega arith)) ∙ e))

  -- a free position is idle, and so is one that is usable and idle
  free-idle : (p : ℕ) → p < n → (bit_at free p && eqb (get_or marks p 0) 0) ≡ (bit_at usable p && eqb (get_or marks p 0) 0)
  free-idle p h = twice (bit_at usable p) (eqb (get_or marks p 0) 0) (bit_at free p) (sym (idle p h))

  row-filled : fill (bit_at free) 0 load (list_of (mark_in taken) n) ≡ fill (bit_at usable) 0 load (marks_in n (bit_in clash) t i)
  row-filled =
      ap (fill (bit_at free) 0 load) marks-are
      ∙ ext_get_or 0 (fill (bit_at free) 0 load marks) row (fill-length (bit_at free) 0 load marks ∙ sym (fill-length (bit_at usable) 0 load marks))
      (λ p h.
      let l : p < length marks = omega (arith, fill-length (bit_at free) 0 load marks) in
      let m : p < n = omega (arith, long) in
      fill-at (bit_at free) 0 load marks (bit_at free) (λ q. ap (bit_at free) (sym (zero-add q))) p l
      ∙ ap (λ (b : Bool). pick b 1 (get_or marks p 0))
      (few-eq (λ q. bit_at free q && eqb (get_or marks q 0) 0) (λ q. bit_at usable q && eqb (get_or marks q 0) 0) load p (λ q g. free-idle q (omega arith)))
      ∙ sym (fill-at (bit_at usable) 0 load marks (bit_at usable) (λ q. ap (bit_at usable) (sym (zero-add q))) p l))

  -- the fragments that find no room
  row-short : unmet (bit_at free) 0 load (list_of (mark_in taken) n) ≡ row_short n (bit_in clash) (bit_at usable) i load t
  row-short =
      ap (unmet (bit_at free) 0 load) marks-are
      ∙ unmet-count (bit_at free) 0 load marks (bit_at free) (λ q. ap (bit_at free) (sym (zero-add q)))
      ∙ ap (λ (k : ℕ). load - k) (sum-eq _ _ (length marks) (λ q l. ap bit (free-idle q (omega (arith, long)))))
      ∙ sym (unmet-count (bit_at usable) 0 load marks (bit_at usable) (λ q. ap (bit_at usable) (sym (zero-add q))))

  -- the row is filled up to `to`, and stands in the table
  module _ (fits : i * n + n ≤ length t) (to : ℕ) (ends : to ≤ n) {r u : List ℕ} (filled : r ≡ fill (bit_at free) 0 load (list_of (mark_in taken) n))
      (took : r ≡ sets (list_of (mark_in taken) n) 0 (list_of (took_at free (list_of (mark_in taken) n)) to)) (is : u ≡ put (i * n) n r t) where
    row-planned : u ≡ row_planned n (bit_in clash) (bit_at usable) i load t
    row-planned = is ∙ ap (λ (x : List ℕ). put (i * n) n x t) (filled ∙ row-filled)

    byte : (p : ℕ) → p < n → (b : Bool) → ltb p to ≡ b → sends (get_or r p 0) ≡ (bit_at free p && b)
    byte p h true e =
        ap (λ (x : List ℕ). sends (get_or x p 0)) took
        ∙ ap sends
        (sets-at (took_at free laid) to laid p (ltb-true p to e) (omega (arith, length-list (mark_in taken) n))
        ∙ ap (λ (x : ℕ). pick (bit_at free p) 1 x) (list_at (mark_in taken) n p h))
        ∙ took-sends (bit_at free p) (bit_at taken p)
        ∙ sym (and-true (bit_at free p))
    byte p h false e =
        ap (λ (x : List ℕ). sends (get_or x p 0)) took
        ∙ ap sends (sets-beyond (took_at free laid) to laid p (ltb-false p to e) ∙ list_at (mark_in taken) n p h)
        ∙ mark-silent (bit_at taken p)
        ∙ sym (and-false (bit_at free p))

    sent : (p : ℕ) → p < n → reserved n u i p ≡ (bit_at free p && ltb p to)
    sent p h =
        let r-long : length r ≡ n = ap length filled ∙ fill-length (bit_at free) 0 load laid ∙ length-list (mark_in taken) n in
        ap sends (ap (λ (x : List ℕ). get_or x (i * n + p) 0) is ∙ get_d-put (i * n) n r t r-long fits p 0 h) ∙ byte p h (ltb p to) refl

    -- the free positions before the end, and those that the row reserves
    row_word : {low word : ℕ} → low ≡ word_of (λ b. ltb b to) 64 → word ≡ word_of (λ b. bit_at free b && bit_at low b) 64 → word ≡ word_of (reserved n u i) n
    row_word {low} {word} is-low is_IsWord =
        is_IsWord
        ∙ word-few (λ b. bit_at free b && bit_at low b) n small (λ k l. ap (λ x. x && bit_at low k) (bit_past free k n free-small l))
        ∙ word-eq (λ b. bit_at free b && bit_at low b) (reserved n u i) n
        (λ p h.
        ap (λ x. bit_at free p && x) (ap (λ (x : ℕ). bit_at x p) is-low ∙ word-bit (λ b. ltb b to) 64 p (omega arith)) ∙ sym (sent p h))

    pub row-by-words : {low word : ℕ} → low ≡ word_of (λ b. ltb b to) 64 → word ≡ word_of (λ b. bit_at free b && bit_at low b) 64
        → (u ≡ row_planned n (bit_in clash) (bit_at usable) i load t)
        × (unmet (bit_at free) 0 load (list_of (mark_in taken) n) ≡ row_short n (bit_in clash) (bit_at usable) i load t)
        × (word ≡ word_of (reserved n (row_planned n (bit_in clash) (bit_at usable) i load t) i) n)
    row-by-words is-low is_IsWord = (row-planned, row-short, row_word is-low is_IsWord ∙ ap (λ (x : List ℕ). word_of (reserved n x i) n) row-planned)

-- ---- words joined, one after the other

module _ (held : List ℕ) (near : ℕ) where
  pub join-none : 0 ≡ word_of (any_held held near 0) 64
  unfolding any
  join-none = sym (none-word (any_held held near 0) 64 (λ k l. refl))

  -- the cells from k to j are not among those
  pub join-skip : {x : ℕ} (k j : ℕ) → k ≤ j → ((m : ℕ) → k ≤ m → m < j → bit_at near m ≡ false) → x ≡ word_of (any_held held near k) 64
      → x ≡ word_of (any_held held near j) 64
  join-skip k j l none is =
      is ∙ word-eq (any_held held near k) (any_held held near j) 64
      (λ p h. sym (any-skip (λ m. bit_at near m && bit_in held m p) k j l (λ m a b. ap (λ u. u && bit_in held m p) (none m a b))))

  pub join_more : {x y : ℕ} (j : ℕ) → bit_at near j ≡ true → x ≡ word_of (any_held held near j) 64 → y ≡ get_or held j 0
      → word_of (λ b. bit_at x b || bit_at y b) 64 ≡ word_of (any_held held near (j + 1)) 64
  join_more {x} {y} j here is own =
      word-eq (λ b. bit_at x b || bit_at y b) (any_held held near (j + 1)) 64
      (λ p h.
      ap₂ (λ a b. a || b)
      (ap (λ (z : ℕ). bit_at z p) is ∙ word-bit (any_held held near j) 64 p h)
      (ap (λ (z : ℕ). bit_at z p) own ∙ ap (λ u. u && bit_in held j p) (sym here))
      ∙ sym (any-more (λ m. bit_at near m && bit_in held m p) j))

-- the words of the rows: before the first, and with one row more
pub words-none : (n : ℕ) (t held : List ℕ) → WordsHeld n t 0 held
words-none n t held j l = absurd (omega arith)

module _ (n : ℕ) (clash : ℕ → ℕ → Bool) (usable : ℕ → Bool) (i load : ℕ) (t held : List ℕ) (fits : i * n + n ≤ length t) (room : i < length held)
    (words : WordsHeld n t i held) {u h : List ℕ} (is : u ≡ row_planned n clash usable i load t)
    (noted : h ≡ set held i (word_of (reserved n (row_planned n clash usable i load t) i) n)) where
  abbrev own : ℕ
  own = word_of (reserved n (row_planned n clash usable i load t) i) n

  -- an earlier row reserves what it did
  earlier : (j p : ℕ) → j < i → p < n → reserved n t j p ≡ reserved n u j p
  earlier j p l b =
      sym
      (reserved-before n i (fill usable 0 load (marks_in n clash t i)) t
      (fill-length usable 0 load (marks_in n clash t i) ∙ marked-length (net_in 0 n [] clash unblocked) t i i) fits is j p l b)

  pub words_more : WordsHeld n u (i + 1) h
  words_more j l =
      ap (λ (x : List ℕ). get_or x j 0) noted
      ∙ ⊎_elim
      (λ (same : j ≡ i). rw same (get_or-set_same held i own 0 room ∙ ap (λ (x : List ℕ). word_of (reserved n x i) n) (sym is)))
      (λ (less : j < i).
      get_or-set_other held i j own 0 (λ o. omega arith) ∙ words j less ∙ word-eq (reserved n t j) (reserved n u j) n (λ p b. earlier j p less b))
      (eq-or-lt_of_le {n = j} {m = i} (omega arith))

-- the word of the first n positions that are not in another
pub open_is : (n all blocked : ℕ) → n ≤ 64 → all ≡ word_of (λ b. ltb b n) 64
    → word_of (λ b. bit_at all b && not (bit_at blocked b)) 64 ≡ word_of (λ k. not (bit_at blocked k)) n
open_is n all blocked small is_all =
    word-few (λ b. bit_at all b && not (bit_at blocked b)) n small
    (λ k l. ap (λ u. u && not (bit_at blocked k)) (bit_past all k n all_small l))
    ∙ word-eq (λ b. bit_at all b && not (bit_at blocked b)) (λ k. not (bit_at blocked k)) n
    (λ k l.
    ap (λ a. a && not (bit_at blocked k)) (ap (λ (x : ℕ). bit_at x k) is_all ∙ word-bit (λ b. ltb b n) 64 k (omega arith) ∙ lt-ltb k n l))
  where
    all_small : all < 2 ^ n
    all_small =
        let e : all ≡ word_of (λ b. ltb b n) n = is_all ∙ word-few (λ b. ltb b n) n small (λ k l. le-ltb k n l) in
        rw e (word_lt (λ b. ltb b n) n)
