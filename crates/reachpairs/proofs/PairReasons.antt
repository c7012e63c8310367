-- The loop's way of reading pairs is the list of reasons: the place test is "strictly rising by from, then to", and the rows are those with every pair marked.
-- Assumes nothing.
use Prim.Native.Nat.{ℕ, ◌+◌, ◌-◌, ◌*◌, ◌≤◌}
use mathlib.Core.Path.{◌≡◌, refl, ap, ◌∙◌}
use mathlib.Core.Bool.{Bool, true, false, not}
use mathlib.Core.List.{List, [], ◌∷◌}
use mathlib.Core.Logic.{◌⊎◌, inl, inr, ⊎_elim}
use native.Mathlib.Omega.{arith}
use lib.Dec.{ltb, leb}
use borrow.Author.Tests.{lt-ltb, le-ltb, lt-leb, le-leb, eq-eqb, ne_eqb, ltb-true, ltb-false}
use Rattle.laws.specs.Choice.{pick}
use Rattle.laws.proofs.Choice.{cases, order}
use Rattle.records.specs.Reasons.{first_reason}
use Rattle.std.specs.Prelude.{Err}
use Rattle.records.specs.Reasons.{refusal}
use Rattle.reachpairs.specs.Pairs.{pair_ok, place, mark, mark_all, all_zero}
use Rattle.reachpairs.specs.Reasons.{rises, pair_reasons}
use Rattle.reachpairs.specs.Loop.{no_rows, pairs_read_of, pairs_read}
use Rattle.reachpairs.proofs.PairLaws.{PairOk, pair_ok-law, read_pairs}

-- a place that is not below the one after the last pair rises from that pair
rises-place :
    (from to f t : ℕ) → to ≤ 32 → 1 ≤ f → 1 ≤ t → t ≤ 32 →
    leb (from * 32 + to - 32) (place f t) ≡ rises from to f t
rises-place from to f t a b c d =
    ⊎_elim (λ h. rw (le-leb (from * 32 + to - 32) (place f t) (omega arith), lt-ltb from f h))
    (⊎_elim (λ h. same h (cases (ltb to t)))
    (λ h. rw (lt-leb (from * 32 + to - 32) (place f t) (omega arith), le-ltb from f (omega arith), ne_eqb from f (λ e. omega arith))))
    (order from f)
  where
    same : from ≡ f → (ltb to t ≡ true) ⊎ (ltb to t ≡ false) → leb (from * 32 + to - 32) (place f t) ≡ rises from to f t
    same e (inl h) =
        let l = ltb-true to t h in
        rw (le-leb (from * 32 + to - 32) (place f t) (omega arith), le-ltb from f (omega arith), eq-eqb from f e, h)
    same e (inr h) =
        let l = ltb-false to t h in
        rw (lt-leb (from * 32 + to - 32) (place f t) (omega arith), le-ltb from f (omega arith), eq-eqb from f e, h)

pairs-from :
    (cells at : ℕ) → cells ≤ 32 → (body : List ℕ) (next from to : ℕ) (rows : List ℕ) → next ≡ from * 32 + to - 32 → to ≤ 32 →
    read_pairs cells at next rows body ≡ pairs_read_of (mark_all rows body) (first_reason (pair_reasons cells at from to body))
unfolding read_pairs pair_reasons first_reason pairs_read_of
pairs-from cells at most [] next from to rows e l = refl
pairs-from cells at most (f ∷ []) next from to rows e l = refl
pairs-from cells at most (f ∷ t ∷ r) next from to rows e l =
    go (λ u h. pairs-from cells at most r (place f t + 1) f t (mark rows (place f t)) u h) (pair_ok cells f t) refl
  where
    go :
        (place f t + 1 ≡ f * 32 + t - 32 → t ≤ 32 →
        read_pairs cells at (place f t + 1) (mark rows (place f t)) r
        ≡ pairs_read_of (mark_all (mark rows (place f t)) r) (first_reason (pair_reasons cells at f t r))) →
        (p : Bool) → pair_ok cells f t ≡ p →
        pick p (pick (leb next (place f t)) (read_pairs cells at (place f t + 1) (mark rows (place f t)) r) (no_rows (Err (refusal 11 at))))
        (no_rows (Err (refusal 3 at)))
        ≡ pairs_read_of (mark_all (mark rows (place f t)) r)
        (pick (not p) (Err (refusal 3 at)) (pick (not (rises from to f t)) (Err (refusal 11 at)) (first_reason (pair_reasons cells at f t r))))
    go ih false g = refl
    go ih true g =
        let k : PairOk cells f t = pair_ok-law cells f t g in
        let q : leb next (place f t) ≡ rises from to f t = ap (λ (n : ℕ). leb n (place f t)) e
        ∙ rises-place from to f t l k.from.0 k.to.0 (omega arith) in
        rw q (risen (rises from to f t) (ih (omega arith) (omega arith)))
      where
        risen :
            (b : Bool) →
            read_pairs cells at (place f t + 1) (mark rows (place f t)) r
            ≡ pairs_read_of (mark_all (mark rows (place f t)) r) (first_reason (pair_reasons cells at f t r)) →
            pick b (read_pairs cells at (place f t + 1) (mark rows (place f t)) r) (no_rows (Err (refusal 11 at)))
            ≡ pairs_read_of (mark_all (mark rows (place f t)) r) (pick (not b) (Err (refusal 11 at)) (first_reason (pair_reasons cells at f t r)))
        risen true h = h
        risen false h = refl

pub pairs-way : (cells at : ℕ) → cells ≤ 32 → (body : List ℕ) → read_pairs cells at 0 all_zero body ≡ pairs_read cells at body
unfolding pairs_read
pairs-way cells at most body = pairs-from cells at most body 0 0 0 all_zero refl (omega arith)
