-- The pairs of a kind 3 body: what a passed pair test tells; that no bit stands at or above the next place, which each mark keeps;
-- and a turn of the reader's loop.
-- Assumes nothing.
use Prim.Native.Nat.{ℕ, ◌+◌, ◌*◌, ◌/◌, ◌%◌, ◌^◌, ◌≤◌, ◌<◌}
use mathlib.Core.Path.{◌≡◌, refl}
use mathlib.Core.Bool.{true, false, not, ◌&&◌}
use mathlib.Core.List.{List, [], ◌∷◌}
use native.Mathlib.Nat.{lt_of_lt_of_le}
use native.Mathlib.Decide.{ℕ_discrete}
use native.Mathlib.Omega.{arith}
use lib.ListN.{length, get_or, drop, get_or-replicate, length-drop}
use lib.Seq.{get_or-set_same, get_or-set_other}
use lib.Pow.{pow_pos, pow_mono, pow-lt}
use lib.Bits.{or_lt}
use lib.Dec.{leb, eqb}
use borrow.Author.Tests.{eqb-false, ne_eqb, lt-leb, le-leb, not-true}
use Rattle.laws.specs.Bits.{set_bit}
use Rattle.laws.specs.Choice.{pick}
use Rattle.site.specs.Record.{up_to}
use Rattle.site.proofs.Faults.{UpTo, up-to, up-to-is}
use Rattle.reachpairs.specs.Pairs.{pair_ok, place, mark, all_zero}
use Rattle.reachpairs.specs.Loop.{PairsRead, no_rows}
use Rattle.std.specs.Prelude.{Ok, Err}
use Rattle.records.specs.Reasons.{refusal}
use Rattle.records.proofs.Laws.{drop-two}
use Rattle.laws.proofs.Choice.{both}

pub record PairOk (cells f t : ℕ) : Type 0 where
  pub from : UpTo cells f
  pub to : UpTo cells t
  pub apart : f ≡ t → ⊥

pub pair_ok-law : (cells f t : ℕ) → pair_ok cells f t ≡ true → PairOk cells f t
unfolding pair_ok
pair_ok-law cells f t e =
    let p = both (up_to cells f) (up_to cells t && not (eqb f t)) e in
    let q = both (up_to cells t) (not (eqb f t)) p.1 in
    record { from = up-to cells f p.0; to = up-to cells t q.0; apart = eqb-false f t (not-true (eqb f t) q.1) }

pub pair_is : (cells f t : ℕ) → PairOk cells f t → pair_ok cells f t ≡ true
unfolding pair_ok
pair_is cells f t p = simp (up-to-is cells f p.from, up-to-is cells t p.to, ne_eqb f t p.apart)

-- no bit at next or above it
abbrev pub High : ℕ → List ℕ → Type 0
High next rows = (q : ℕ) → next ≤ q → q < 1024 → get_or rows (q / 32) 0 < 2 ^ (q % 32)

pub high-none : High 0 all_zero
high-none q h l = rw (get_or-replicate {A = ℕ} 32 (q / 32) 0 0 (omega arith)) (pow_pos (q % 32))

pub set-lt : (k x t : ℕ) → x < 2 ^ k → t < k → set_bit x t < 2 ^ k
unfolding set_bit
set-lt k x t h l = or_lt k x (2 ^ t) h (pow-lt l)

pub high-mark : (next q : ℕ) (rows : List ℕ) → length rows ≡ 32 → next ≤ q → q < 1024 → High next rows → High (q + 1) (mark rows q)
high-mark next q rows len h l high p hp lp = go (ℕ_discrete (p / 32) (q / 32))
  where
    go : Dec (p / 32 ≡ q / 32) → get_or (mark rows q) (p / 32) 0 < 2 ^ (p % 32)
    go (yes e) =
        rw (e, get_or-set_same rows (q / 32) (set_bit (get_or rows (q / 32) 0) (q % 32)) 0 (omega arith))
        (set-lt (p % 32) (get_or rows (q / 32) 0) (q % 32) (lt_of_lt_of_le (high q h l) (pow_mono (omega arith))) (omega arith))
    go (no n) =
        rw (get_or-set_other rows (q / 32) (p / 32) (set_bit (get_or rows (q / 32) 0) (q % 32)) 0 n)
        (high p (omega arith) lp)

-- the loop's way: to read the pairs that are left onto the rows so far, where next is the least place that still rises
unfoldable pub read_pairs : ℕ → ℕ → ℕ → List ℕ → List ℕ → PairsRead
read_pairs cells at next rows [] = record { reach = rows; answer = Ok tt }
read_pairs cells at next rows (f ∷ []) = record { reach = rows; answer = Ok tt }
read_pairs cells at next rows (f ∷ t ∷ r) =
    pick (pair_ok cells f t)
    (pick (leb next (place f t)) (read_pairs cells at (place f t + 1) (mark rows (place f t)) r) (no_rows (Err (refusal 11 at))))
    (no_rows (Err (refusal 3 at)))

-- a turn of the pairs' loop, its refusals and its end
module _ (cells at next i : ℕ) (rows body : List ℕ) where
  pub pairs-done :
      length body ≤ 2 * i + 1 → read_pairs cells at next rows (drop (2 * i) body) ≡ record { reach = rows; answer = Ok tt }
  unfolding read_pairs
  pairs-done h = go (drop (2 * i) body) (simp length-drop (omega arith))
    where
      go : (l : List ℕ) → length l ≤ 1 → read_pairs cells at next rows l ≡ record { reach = rows; answer = Ok tt }
      go [] h = refl
      go (a ∷ []) h = refl
      go (a ∷ b ∷ r) h = absurd (omega arith)

  module _ (more : 2 * i + 1 < length body) where
    abbrev F : ℕ
    F = get_or body (2 * i) 0

    abbrev T : ℕ
    T = get_or body (2 * i + 1) 0

    pub pairs-named : pair_ok cells F T ≡ false → no_rows (Err (refusal 3 at)) ≡ read_pairs cells at next rows (drop (2 * i) body)
    unfolding read_pairs
    pairs-named h = rw (drop-two body (2 * i)) (simp h)

    module _ (ok : pair_ok cells F T ≡ true) where
      pub pairs-rise : place F T < next → no_rows (Err (refusal 11 at)) ≡ read_pairs cells at next rows (drop (2 * i) body)
      unfolding read_pairs
      pairs-rise h = rw (drop-two body (2 * i)) (simp (ok, lt-leb next (place F T) h))

      pub pairs-step :
          next ≤ place F T →
          read_pairs cells at (place F T + 1) (mark rows (place F T)) (drop (2 * (i + 1)) body)
          ≡ read_pairs cells at next rows (drop (2 * i) body)
      unfolding read_pairs
      pairs-step h =
          let e : 2 * (i + 1) ≡ 2 * i + 2 = omega arith in
          rw (drop-two body (2 * i), e) (simp (ok, le-leb next (place F T) h))
