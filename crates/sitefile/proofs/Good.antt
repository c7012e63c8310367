-- A record with no fault is a site in order, as the round trips want it, and such a site has no fault: no row is at fault exactly when each of its bits
-- names a pair of different cells of the site. Assumes nothing.
use Prim.Native.Nat.{ℕ, ◌+◌, ◌-◌, ◌*◌, ◌/◌, ◌%◌, ◌^◌, ◌≤◌, ◌<◌}
use mathlib.Core.Path.{◌≡◌, refl, ap, ◌∙◌}
use mathlib.Core.Bool.{false}
use native.Mathlib.Nat.{div-eq_of_lt}
use native.Mathlib.Decide.{dec_lt}
use native.Mathlib.Omega.{arith}
use lib.ListN.{get_or, get_or-eq_default}
use lib.Pow.{pow_pos}
use borrow.Author.Tests.{le-ltb, eqb-false, ne_eqb}
use Rattle.site.specs.Record.{row_bad, row_of, fault_of}
use Rattle.site.specs.declared.Site.{Site}
use Rattle.std.specs.Prelude.{Ok}
use Rattle.site.proofs.Accepted.{fine-sound, sound-fine, row_ok, ok-row, row-none}
use Rattle.site.specs.Held.{Held}
use Rattle.reachpairs.proofs.PairLaws.{PairOk, pair_ok-law, pair_is}
use Rattle.reachpairs.proofs.Rows.{digit_in}
use Rattle.reachpairs.proofs.PairTrip.{Named}
use Rattle.sitefile.proofs.FileTrip.{GoodSite}
use Rattle.laws.proofs.Bits.{some_left, no_bits}
use Rattle.site.proofs.Faults.{sizes, sizes-is, ruled, ruled-is}

-- a row with no fault has bits of other cells of the site only
row-names : (n x k b : ℕ) → row_bad n x k ≡ false → x / 2 ^ b % 2 ≡ 1 → (k < n) × (b < n) × (k ≡ b → ⊥)
row-names n x k b e h = go (dec_lt k n)
  where
    go : Dec (k < n) → (k < n) × (b < n) × (k ≡ b → ⊥)
    go (yes l) =
        let r = row_ok n x k l e in
        (l, some_left x n b r.0 (λ z. omega arith), λ s. eqb-false (x / 2 ^ k % 2) 1 r.1 (ap (λ (j : ℕ). x / 2 ^ j % 2) s ∙ h))
    go (no l) =
        let z : x ≡ 0 = row-none n x k (omega arith) e in
        let y : x / 2 ^ b ≡ 0 = div-eq_of_lt (rw z (pow_pos b)) in
        absurd (omega arith)

past : (n x k : ℕ) → n ≤ k → x ≡ 0 → row_bad n x k ≡ false
unfolding row_bad
past n x k l e = rw (e, le-ltb k n l)

module _ (s : Site) (held : Held s) (fine : fault_of s ≡ Ok tt) where
  no_load : (k : ℕ) → s.cells ≤ k → get_or s.loads k 0 ≡ 0
  no_load k h = go (dec_lt k 32)
    where
      go : Dec (k < 32) → get_or s.loads k 0 ≡ 0
      go (yes l) = (fine-sound s fine).loads k h l
      go (no l) = get_or-eq_default s.loads 0 {n = k} (omega (arith, held.loads))

  all_named : Named s.cells s.reach
  unfolding Named digit_in
  all_named q l h =
      let r = row-names s.cells (row_of s (q / 32)) (q / 32) (q % 32) ((fine-sound s fine).rows (q / 32) (omega arith)) h in
      pair_is s.cells (q / 32 + 1) (q % 32 + 1)
      (record { from = (omega arith, omega (arith, r.0)); to = (omega arith, omega (arith, r.1)); apart = λ e. r.2 (omega arith) })

  pub fine-good : GoodSite s
  fine-good =
      record {
        range = sizes _ _ _ (fine-sound s fine).sizes;
        rule-in = ruled s.rule (fine-sound s fine).rule-ok;
        size = held.loads;
        unused = no_load;
        rows = record { size = held.rows; fits = held.bits };
        named = all_named;
        blocked = record { long = held.blocked; fits = held.blocked_bits; none_past = (fine-sound s fine).none_past };
      }

module _ (s : Site) (good : GoodSite s) where
  named-bit : (k t : ℕ) → k < 32 → t < 32 → row_of s k / 2 ^ t % 2 ≡ 1 → PairOk s.cells (k + 1) (t + 1)
  unfolding Named digit_in
  named-bit k t l m h =
      let ek : (k * 32 + t) / 32 ≡ k = omega arith in
      let et : (k * 32 + t) % 32 ≡ t = omega arith in
      pair_ok-law s.cells (k + 1) (t + 1) (rw (ek, et) at (good.named (k * 32 + t) (omega arith) (rw (ek, et) h)))

  few_cells : s.cells ≤ 32
  few_cells = good.range.cells_most

  row-passes : (k : ℕ) → k < 32 → row_bad s.cells (row_of s k) k ≡ false
  row-passes k l = go (dec_lt k s.cells)
    where
      go : Dec (k < s.cells) → row_bad s.cells (row_of s k) k ≡ false
      go (yes m) =
          let e : s.cells + (32 - s.cells) ≡ 32 = omega (arith, few_cells) in
          let low : row_of s k < 2 ^ s.cells =
          no_bits (row_of s k) s.cells (32 - s.cells) (rw e (good.rows.fits k l))
          (λ t a b h. let p = named-bit k t l (omega (arith, few_cells)) h in omega arith) in
          ok-row s.cells (row_of s k) k m low (ne_eqb (row_of s k / 2 ^ k % 2) 1 (λ h. (named-bit k k l l h).apart refl))
      go (no m) =
          let low : row_of s k < 2 ^ 0 =
          no_bits (row_of s k) 0 32 (good.rows.fits k l) (λ t a b h. let p = named-bit k t l b h in omega arith) in
          past s.cells (row_of s k) k (omega arith) (omega arith)

  pub good-fine : fault_of s ≡ Ok tt
  good-fine =
      sound-fine s (record {
        sizes = sizes-is s.cells s.slots s.channels good.range;
        rule-ok = ruled-is s.rule good.rule-in;
        loads = λ k a b. good.unused k a;
        rows = row-passes;
        none_past = good.blocked.none_past;
      })
