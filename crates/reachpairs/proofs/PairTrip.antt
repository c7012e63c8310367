-- The pairs of a kind 3 body and the reach rows: reading the pairs that are written gives the rows, and writing the rows that were read gives the pairs.
-- Assumes nothing.
use Prim.Native.Nat.{ℕ, zero, suc, ◌+◌, ◌-◌, ◌/◌, ◌%◌, ◌≤◌, ◌<◌}
use mathlib.Core.Path.{◌≡◌, refl, sym, ap, ◌∙◌, subst}
use mathlib.Core.Bool.{Bool, true, false}
use mathlib.Core.List.{List, [], ◌∷◌}
use native.Mathlib.Nat.{add-zero, zero-add, suc-add}
use native.Mathlib.Decide.{ℕ_discrete, dec_lt}
use native.Mathlib.Omega.{arith}
use lib.ListN.{length, get_or, get_or-replicate}
use lib.Dec.{leb}
use lib.Pow.{pow_pos}
use borrow.Author.Tests.{eq-eqb, ne_eqb, le-leb, leb-true}
use Rattle.laws.specs.Choice.{pick}
use Rattle.reachpairs.specs.Pairs.{pair_ok, place, mark, pair_of, pairs_from, all_zero, pair_bytes}
use Rattle.reachpairs.specs.Loop.{PairsRead, no_rows}
use Rattle.reachpairs.proofs.PairLaws.{High, high-none, high-mark, pair_ok-law, PairOk, read_pairs}
use Rattle.reachpairs.proofs.RowLaws.{pair_set, pair-clear}
use Rattle.reachpairs.proofs.Rows.{digit_in, Rows, rows_ext, mark-same, mark-other, mark-rows, high_zero}
use Rattle.records.specs.declared.Refusal.{Refusal}
use Rattle.std.specs.Prelude.{Result, Ok, Err}
use Rattle.records.specs.Reasons.{refusal}

abbrev pub rows_read : List ℕ → PairsRead
rows_read rows = record { reach = rows; answer = Ok tt }

-- the bytes of a place
set-bytes : (rows : List ℕ) (q : ℕ) → digit_in rows q ≡ 1 → pair_of (get_or rows (q / 32) 0) q ≡ (q / 32 + 1) ∷ (q % 32 + 1) ∷ []
unfolding digit_in
set-bytes rows q e = pair_set (get_or rows (q / 32) 0) q (eq-eqb _ 1 e)

clear-bytes : (rows : List ℕ) (q : ℕ) → (digit_in rows q ≡ 1 → ⊥) → pair_of (get_or rows (q / 32) 0) q ≡ []
unfolding digit_in
clear-bytes rows q n = pair-clear (get_or rows (q / 32) 0) q (ne_eqb _ 1 n)

-- every pair of a row's bits is in order
unfoldable pub Named : ℕ → List ℕ → Type 0
Named cells rows = (q : ℕ) → q < 1024 → digit_in rows q ≡ 1 → pair_ok cells (q / 32 + 1) (q % 32 + 1) ≡ true

-- what is read at q: the bits below q, and none above
record Part (rows part : List ℕ) (q : ℕ) : Type 0 where
  whole : Rows part
  none : High q part
  low : (p : ℕ) → p < q → digit_in part p ≡ digit_in rows p

one_more : (P : ℕ → Type 0) (q : ℕ) → ((p : ℕ) → p < q → P p) → P q → (p : ℕ) → p < q + 1 → P p
one_more P q all here p h = go (ℕ_discrete p q)
  where
    go : Dec (p ≡ q) → P p
    go (yes e) = subst P (sym e) here
    go (no n) = all p (omega arith)

three_ways : {P : Type 0} (p q : ℕ) → (p < q → P) → (p ≡ q → P) → (q < p → P) → P
three_ways {P} p q less same more = go (dec_lt p q) (dec_lt q p)
  where
    go : Dec (p < q) → Dec (q < p) → P
    go (yes l) d = less l
    go (no n) (yes m) = more m
    go (no n) (no m) = same (omega arith)

bit-two : (rows : List ℕ) (q : ℕ) → digit_in rows q < 2
unfolding digit_in
bit-two rows q = omega arith

pub no-rows : Rows all_zero
no-rows = record { size = refl; fits = λ k l. rw (get_or-replicate {A = ℕ} 32 k 0 0 l) (pow_pos 32) }

module _ (cells at : ℕ) (rows : List ℕ) (whole : Rows rows) (named : Named cells rows) where
  read-from :
      (n q : ℕ) → q + n ≡ 1024 → (part : List ℕ) → Part rows part q → (next : ℕ) → next ≤ q →
      read_pairs cells at next part (pairs_from rows q n) ≡ rows_read rows
  unfolding read_pairs pairs_from Named
  read-from zero q e part s next h =
      ap rows_read (rows_ext part rows s.whole whole (λ p l. s.low p (omega arith)))
  read-from (suc n) q e part s next h =
      go (λ part' s' next' h'. read-from n (q + 1) (omega arith) part' s' next' h') (ℕ_discrete (digit_in rows q) 1)
    where
      below : q < 1024
      below = omega arith

      go :
          ((part' : List ℕ) → Part rows part' (q + 1) → (next' : ℕ) → next' ≤ q + 1
          → read_pairs cells at next' part' (pairs_from rows (q + 1) n) ≡ rows_read rows) →
          Dec (digit_in rows q ≡ 1) → read_pairs cells at next part (pairs_from rows q (suc n)) ≡ rows_read rows
      go ih (yes b) =
          let ep : place (q / 32 + 1) (q % 32 + 1) ≡ q = omega arith in
          let s' : Part rows (mark part q) (q + 1) = record {
            whole = mark-rows part q s.whole.size below s.whole;
            none = high-mark q q part s.whole.size (omega arith) below s.none;
            low =
                one_more (λ p. digit_in (mark part q) p ≡ digit_in rows p) q
                (λ p l. mark-other part q s.whole.size below p (omega arith) ∙ s.low p l)
                (mark-same part q s.whole.size below ∙ sym b);
          } in
          rw (set-bytes rows q b)
          (simp (named q below b, ep, le-leb next q h) (ih (mark part q) s' (q + 1) (omega arith)))
      go ih (no b) =
          let s' : Part rows part (q + 1) = record {
            whole = s.whole;
            none = λ p l m. s.none p (omega arith) m;
            low =
                one_more (λ p. digit_in part p ≡ digit_in rows p) q s.low
                (high_zero q part s.none q (omega arith) below ∙ sym (omega (arith, bit-two rows q)));
          } in
          rw (clear-bytes rows q b) (ih part s' next (omega arith))

  pub pairs-read : read_pairs cells at 0 all_zero (pair_bytes rows) ≡ rows_read rows
  unfolding pair_bytes
  pairs-read = read-from 1024 0 refl all_zero (record { whole = no-rows; none = high-none; low = λ p l. absurd (omega arith) }) 0 (omega arith)

-- places with no bit have no bytes
skip :
    (rows : List ℕ) (d p n : ℕ) → ((x : ℕ) → p ≤ x → x < p + d → digit_in rows x ≡ 0) →
    pairs_from rows p (d + n) ≡ pairs_from rows (p + d) n
unfolding pairs_from
skip rows zero p n h = rw (add-zero p, zero-add n)
skip rows (suc d) p n h =
    let e : p + suc d ≡ p + 1 + d = omega arith in
    let z : digit_in rows p ≡ 0 = h p (omega arith) (omega arith) in
    rw (suc-add d n, clear-bytes rows p (λ b. omega arith), e)
    (skip rows d (p + 1) n (λ x l m. h x (omega arith) (omega arith)))

-- what reading a body from next on tells of the rows
pub record Trip (cells next : ℕ) (part rows body : List ℕ) : Type 0 where
  pub bytes : pairs_from rows next (1024 - next) ≡ body
  pub agree : (p : ℕ) → p < next → digit_in rows p ≡ digit_in part p
  pub named : (p : ℕ) → next ≤ p → p < 1024 → digit_in rows p ≡ 1 → pair_ok cells (p / 32 + 1) (p % 32 + 1) ≡ true
  pub whole : Rows rows

module _ (cells at : ℕ) (most : cells ≤ 32) (rows : List ℕ) where
  written-end :
      (next : ℕ) (part : List ℕ) → next ≤ 1024 → High next part → Rows part → rows_read part ≡ rows_read rows →
      Trip cells next part rows []
  unfolding pairs_from
  written-end next part l high whole e =
      let same : part ≡ rows = ap (λ (x : PairsRead). x.reach) e in
      let zeros : (p : ℕ) → next ≤ p → p < 1024 → digit_in rows p ≡ 0 = λ p a b. rw same at (high_zero next part high p a b) in
      let all : 1024 - next ≡ 1024 - next + 0 = omega arith in
      record {
        bytes = rw all (skip rows (1024 - next) next 0 (λ x a b. zeros x a (omega arith)));
        agree = λ p a. ap (λ (x : List ℕ). digit_in x p) (sym same);
        named = λ p a b c. let z = zeros p a b in absurd (omega arith);
        whole = rw same at whole;
      }

  written_step :
      (f t q : ℕ) (r : List ℕ) (next : ℕ) (part : List ℕ) → q ≡ place f t → pair_ok cells f t ≡ true → next ≤ q → High next part → Rows part →
      Trip cells (q + 1) (mark part q) rows r → Trip cells next part rows (f ∷ t ∷ r)
  unfolding pairs_from
  written_step f t q r next part placed ok h high whole trip =
      let g : PairOk cells f t = pair_ok-law cells f t ok in
      let below : q < 1024 = omega arith in
      let ef : q / 32 + 1 ≡ f = omega arith in
      let et : q % 32 + 1 ≡ t = omega arith in
      let bit : digit_in rows q ≡ 1 = trip.agree q (omega arith) ∙ mark-same part q whole.size below in
      let under : (p : ℕ) → p < q → digit_in rows p ≡ digit_in part p =
      λ p l. trip.agree p (omega arith) ∙ mark-other part q whole.size below p (omega arith) in
      let zeros : (p : ℕ) → next ≤ p → p < q → digit_in rows p ≡ 0 = λ p a l. under p l ∙ high_zero next part high p a (omega arith) in
      let count : 1024 - next ≡ q - next + suc (1024 - (q + 1)) = omega arith in
      let there : next + (q - next) ≡ q = omega arith in
      record {
        bytes =
            rw (count, skip rows (q - next) next (suc (1024 - (q + 1))) (λ x a b. zeros x a (omega arith)), there, set-bytes rows q bit, trip.bytes, ef, et);
        agree = λ p a. under p (omega arith);
        named =
            λ p a b c.
            three_ways p q (λ k. let z = zeros p a k in absurd (omega arith)) (λ k. rw (k, ef, et) ok)
            (λ k. trip.named p (omega arith) b c);
        whole = trip.whole;
      }

  written_from-law :
      (body : List ℕ) → length body % 2 ≡ 0 → (next : ℕ) (part : List ℕ) → next ≤ 1024 → High next part → Rows part →
      read_pairs cells at next part body ≡ rows_read rows → Trip cells next part rows body
  unfolding read_pairs
  written_from-law [] even next part l high whole e = written-end next part l high whole e
  written_from-law (f ∷ []) even next part l high whole e = absurd (omega arith)
  written_from-law (f ∷ t ∷ r) even next part l high whole e =
      go (written_from-law r (omega arith)) (pair_ok cells f t) (leb next (place f t)) refl refl e
    where
      go :
          ((next' : ℕ) (part' : List ℕ) → next' ≤ 1024 → High next' part' → Rows part' → read_pairs cells at next' part' r ≡ rows_read rows
          → Trip cells next' part' rows r) →
          (a b : Bool) → pair_ok cells f t ≡ a → leb next (place f t) ≡ b →
          pick a (pick b (read_pairs cells at (place f t + 1) (mark part (place f t)) r) (no_rows (Err (refusal 11 at)))) (no_rows (Err (refusal 3 at)))
          ≡ rows_read rows →
          Trip cells next part rows (f ∷ t ∷ r)
      go ih true true p m e' =
          let h : next ≤ place f t = leb-true next (place f t) m in
          let g : PairOk cells f t = pair_ok-law cells f t p in
          let below : place f t < 1024 = omega arith in
          written_step f t (place f t) r next part refl p h high whole
          (ih (place f t + 1) (mark part (place f t)) (omega arith) (high-mark next (place f t) part whole.size h below high)
          (mark-rows part (place f t) whole.size below whole)
          e')
      go ih true false p m e' =
          let y : ◌≡◌ {A = Result Unit Refusal} (Err (refusal 11 at)) (Ok tt) = ap (λ (x : PairsRead). x.answer) e' in
          let z : ◌≡◌ {A = ℕ} 0 1 = cc in
          absurd (omega arith)
      go ih false b p m e' =
          let y : ◌≡◌ {A = Result Unit Refusal} (Err (refusal 3 at)) (Ok tt) = ap (λ (x : PairsRead). x.answer) e' in
          let z : ◌≡◌ {A = ℕ} 0 1 = cc in
          absurd (omega arith)

  -- a body of whole pairs that is read is the bytes of its rows
  pub pairs-written :
      (body : List ℕ) → length body % 2 ≡ 0 → read_pairs cells at 0 all_zero body ≡ rows_read rows →
      (pair_bytes rows ≡ body) × Rows rows × Named cells rows
  unfolding pair_bytes Named
  pairs-written body even e =
      let trip = written_from-law body even 0 all_zero (omega arith) high-none no-rows e in
      (trip.bytes, trip.whole, λ q l b. trip.named q (omega arith) l b)
