-- The answers of the reader of kind 3, by what its tests say. Assumes nothing.
use Prim.Native.Nat.{ℕ, ◌+◌, ◌-◌, ◌≤◌}
use mathlib.Core.Path.{◌≡◌, refl, sym, ap, ◌∙◌}
use mathlib.Core.List.{List}
use lib.ListN.{length, take, drop}
use Rattle.records.specs.Layout.{body_at}
use Rattle.records.specs.Opener.{open_at}
use Rattle.records.proofs.Laws.{opened, opened-done, not_opened, within, body_is}
use Rattle.records.specs.Reasons.{first_reason, record_reasons}
use Rattle.records.specs.declared.Length.TheVariants.{Pairs}
use Rattle.records.specs.declared.Refusal.{Refusal}
use Rattle.std.specs.Prelude.{Result, Ok, Err}
use Rattle.std.specs.Result.{result_and}
use Rattle.records.proofs.Reasons.{first-append}
use Rattle.reachpairs.specs.Pairs.{reach_of_body}
use Rattle.reachpairs.specs.Reasons.{pair_reasons, reach_reasons}
use Rattle.reachpairs.specs.Loop.{no_rows, pairs_read_of, pairs_read, reach_read}

module _ (s : List ℕ) where
  pub reach-parts :
      (at cells : ℕ) →
      first_reason (reach_reasons s at cells)
      ≡ result_and (first_reason (record_reasons s at 3 Pairs)) (first_reason (pair_reasons cells at 0 0 (body_at s at)))
  reach-parts at cells = first-append (record_reasons s at 3 Pairs) (pair_reasons cells at 0 0 (body_at s at))

pub pairs-answer : (rows : List ℕ) (a : Result Unit Refusal) → (pairs_read_of rows a).answer ≡ a
unfolding pairs_read_of
pairs-answer rows (Ok u) = refl
pairs-answer rows (Err r) = refl

pub pairs-rows : (rows : List ℕ) (a : Result Unit Refusal) → a ≡ Ok tt → (pairs_read_of rows a).reach ≡ rows
unfolding pairs_read_of
pairs-rows rows a e = rw e refl

-- kind 3
module _ (s : List ℕ) (at cells : ℕ) where
  abbrev R : List ℕ
  R = reach_of_body (body_at s at)

  abbrev A : Result Unit Refusal
  A = first_reason (pair_reasons cells at 0 0 (body_at s at))

  reach-is : (a b : Result Unit Refusal)
      → first_reason (record_reasons s at 3 Pairs) ≡ a → result_and a A ≡ b → pairs_read_of R b ≡ reach_read s at cells
  unfolding reach_read
  reach-is a b e f = ap (pairs_read_of R) (sym (reach-parts s at cells ∙ ap (λ (x : Result Unit Refusal). result_and x A) e ∙ f))

  pub reach-stop : (r : Refusal) → first_reason (record_reasons s at 3 Pairs) ≡ Err r → no_rows (Err r) ≡ reach_read s at cells
  unfolding pairs_read_of
  reach-stop r e = reach-is (Err r) (Err r) e refl

  pub reach-pairs : first_reason (record_reasons s at 3 Pairs) ≡ Ok tt → pairs_read cells at (body_at s at) ≡ reach_read s at cells
  unfolding pairs_read
  reach-pairs opens = reach-is (Ok tt) A opens refl

-- ---- what the code asks of the record that is due

module _ (s : List ℕ) (at : ℕ) where
  pub reach_refused : (cells : ℕ) (r : Refusal) → open_at s at 3 Pairs ≡ Err r → reach_read s at cells ≡ no_rows (Err r)
  reach_refused cells r e = sym (reach-stop s at cells r (not_opened s at 3 Pairs r e))

  module _ (start len : ℕ) (e : open_at s at 3 Pairs ≡ Ok (start, len)) where
    pub pairs_within : start + len ≤ length s
    pairs_within = within s at 3 Pairs start len (opened s at 3 Pairs start len e)

    pub reach_opened : (cells : ℕ) → reach_read s at cells ≡ pairs_read cells at (take (start + len - start) (drop start s))
    reach_opened cells =
        sym (ap (pairs_read cells at) (body_is s at 3 Pairs start len (opened s at 3 Pairs start len e))
        ∙ reach-pairs s at cells (opened-done s at 3 Pairs start len e))
