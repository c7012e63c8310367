-- The writer's definitions: the file's length, and its parts stored one after the other. Assumes nothing.
use Prim.Native.Nat.{ℕ, ◌+◌, ◌*◌, ◌≤◌}
use mathlib.Core.Path.{◌≡◌, refl, sym, ap, ap₂, ◌∙◌}
use mathlib.Core.List.{List, [], ◌∷◌, ◌++◌}
use native.Mathlib.Nat.{zero-add}
use native.Mathlib.Omega.{arith}
use lib.ListN.{length, take, length-append}
use lib.Seq.{sets, length-take-le}
use Rattle.laws.proofs.Stores.{sets-append}
use Rattle.records.specs.Bytes.{two_bytes_each}
use Rattle.records.specs.Layout.{record_of}
use Rattle.records.proofs.Write.{record-put}
use Rattle.records.proofs.Bytes.{two-bytes-length}
use Rattle.site.specs.Record.{positions, fault_of}
use Rattle.site.proofs.Faults.{fine-sized, few-positions}
use Rattle.positions.specs.Blocked.{most_positions}
use Rattle.std.specs.Prelude.{Ok}
use Rattle.sitehead.specs.Head.{site_head, head_length}
use Rattle.reachpairs.specs.Pairs.{pair_bytes}
use Rattle.blockbits.specs.Blocks.{block_record}
use Rattle.sitefile.specs.Write.{site_bytes}
use Rattle.sitehead.proofs.Head.{head-long}
use Rattle.site.specs.declared.Site.{Site}

-- what the code asks of an accepted record
pub writer_sized : (s : Site) → fault_of s ≡ Ok tt → (s.cells ≤ 32) × (positions s ≤ most_positions)
writer_sized s e = let z = fine-sized s e in (z.cells_most, few-positions z)

module _ (s : Site) (cells : s.cells ≤ 32) (size : length s.loads ≡ 32) where
  loads-length : length (two_bytes_each (take s.cells s.loads)) ≡ 2 * s.cells
  loads-length = two-bytes-length (take s.cells s.loads) ∙ ap (λ (k : ℕ). 2 * k) (length-take-le s.cells s.loads (omega arith))

  -- the file's length, and its parts stored one after the other
  pub site-length :
      length (site_bytes s) ≡ head_length s.rule + 4 + 2 * s.cells + 4 + length (pair_bytes s.reach) + length (block_record s.blocked (positions s))
  unfolding site_bytes
  site-length =
      let H = site_head s.rule s.cells s.slots s.channels in
      let R = record_of 2 (two_bytes_each (take s.cells s.loads)) ++ (record_of 3 (pair_bytes s.reach) ++ block_record s.blocked (positions s)) in
      let r : length R ≡ 4 + 2 * s.cells + (4 + length (pair_bytes s.reach) + length (block_record s.blocked (positions s)))
      = simp length-append (omega (arith, loads-length)) in
      length-append H R ∙ ap₂ (λ (x y : ℕ). x + y) (head-long s.rule s.cells s.slots s.channels) r ∙ omega arith

  pub site-put :
      (out : List ℕ) →
      sets
      (sets
      (sets
      (sets
      (sets (sets out 0 (site_head s.rule s.cells s.slots s.channels)) (head_length s.rule) (two_bytes_each ((2 + 2 * s.cells) ∷ 2 ∷ [])))
      (head_length s.rule + 4)
      (two_bytes_each (take s.cells s.loads)))
      (head_length s.rule + 4 + 2 * s.cells)
      (two_bytes_each ((2 + length (pair_bytes s.reach)) ∷ 3 ∷ [])))
      (head_length s.rule + 4 + 2 * s.cells + 4)
      (pair_bytes s.reach))
      (head_length s.rule + 4 + 2 * s.cells + 4 + length (pair_bytes s.reach))
      (block_record s.blocked (positions s))
      ≡ sets out 0 (site_bytes s)
  unfolding site_bytes
  site-put out =
      let H = site_head s.rule s.cells s.slots s.channels in
      let n = head_length s.rule in
      let L = two_bytes_each (take s.cells s.loads) in
      let P = pair_bytes s.reach in
      let Z = block_record s.blocked (positions s) in
      let X = sets out 0 H in
      let Y = sets X n (record_of 2 L) in
      let at = n + 4 + 2 * s.cells in
      let e : n + length (record_of 2 L) ≡ n + 4 + 2 * s.cells = omega (arith, loads-length) in
      let f : n + 4 + 2 * s.cells + 4 + length P ≡ n + 4 + 2 * s.cells + length (record_of 3 P) = omega arith in
      ap (λ (l : List ℕ). sets l (at + 4 + length P) Z)
      (record-put (sets (sets X n (two_bytes_each ((2 + 2 * s.cells) ∷ 2 ∷ []))) (n + 4) L) at 3 (2 + length P) P refl
      ∙ ap (λ (l : List ℕ). sets l at (record_of 3 P)) (record-put X n 2 (2 + 2 * s.cells) L (omega (arith, loads-length))))
      ∙ ap (λ (k : ℕ). sets (sets Y at (record_of 3 P)) k Z) f
      ∙ sym (sets-append Y at (record_of 3 P) Z)
      ∙ ap (λ (k : ℕ). sets Y k (record_of 3 P ++ Z)) (sym e)
      ∙ sym (sets-append X n (record_of 2 L) (record_of 3 P ++ Z))
      ∙ ap (λ (k : ℕ). sets X k (record_of 2 L ++ (record_of 3 P ++ Z)))
      (sym (zero-add (length H) ∙ head-long s.rule s.cells s.slots s.channels))
      ∙ sym (sets-append out 0 H (record_of 2 L ++ (record_of 3 P ++ Z)))
