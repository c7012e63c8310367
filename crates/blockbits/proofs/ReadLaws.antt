-- The answers of the reader of kind 6, by what its tests say, and what may follow it. Assumes nothing.
use Prim.Native.Nat.{ℕ, ◌+◌, ◌-◌, ◌≤◌, ◌<◌}
use mathlib.Core.Path.{◌≡◌, refl, sym, ap, ◌∙◌}
use mathlib.Core.Bool.{Bool, true, false}
use mathlib.Core.List.{List, [], ◌∷◌}
use native.Mathlib.Omega.{arith}
use borrow.Author.Tests.{lt-ltb, le-ltb}
use lib.Dec.{ltb}
use lib.ListN.{length, drop, length-drop}
use lib.Seq.{length-take-le}
use Rattle.laws.specs.Choice.{pick}
use Rattle.positions.specs.Blocked.{empty_set}
use Rattle.records.specs.Bits.{bytes_for, left_over}
use Rattle.records.specs.Bytes.{le16}
use Rattle.records.specs.Layout.{body_at, record_end}
use Rattle.records.specs.Reasons.{Reason, reason, first_reason, record_reasons, end_reason}
use Rattle.records.specs.declared.Length.TheVariants.{Exact}
use Rattle.records.specs.declared.Refusal.{Refusal}
use Rattle.std.specs.Prelude.{Result, Ok, Err}
use Rattle.records.specs.Reasons.{refusal}
use Rattle.records.proofs.Laws.{Opening, exact, within}
use Rattle.std.specs.Result.{result_and}
use Rattle.records.proofs.Reasons.{first-append}
use Rattle.blockbits.specs.Blocks.{blocked_of_body, nothing_in}
use Rattle.blockbits.specs.Reasons.{block_reasons, last_reasons, blocked_or}
use Rattle.blockbits.specs.Loop.{no_blocks, blocks_read_of, blocks_read}
use Rattle.blockbits.specs.declared.BlocksRead.{BlocksRead}

blocks-answer : (set : List ℕ) (a : Result Unit Refusal) → (blocks_read_of set a).answer ≡ a
unfolding blocks_read_of
blocks-answer set (Ok u) = refl
blocks-answer set (Err r) = refl

blocks-set : (set : List ℕ) (a : Result Unit Refusal) → a ≡ Ok tt → (blocks_read_of set a).blocked ≡ set
unfolding blocks_read_of
blocks-set set a e = rw e refl

-- kind 6, where it is due, and what may follow it
module _ (s : List ℕ) (at n : ℕ) where
  abbrev X : List ℕ
  X = blocked_of_body (body_at s at)

  abbrev contents : List Reason
  contents = reason (left_over (body_at s at) n) 14 at ∷ reason (nothing_in X) 21 at ∷ end_reason s (record_end s at) ∷ []

  by-due : (t : Bool) → ltb at (length s) ≡ t → blocks_read_of (pick t X empty_set) (first_reason (pick t (block_reasons s at n) [])) ≡ blocks_read s at n
  unfolding blocks_read last_reasons blocked_or
  by-due t e = sym (ap (λ (u : Bool). blocks_read_of (pick u X empty_set) (first_reason (pick u (block_reasons s at n) []))) e)

  -- the file ends here
  pub last_none : length s ≤ at → no_blocks (Ok tt) ≡ blocks_read s at n
  unfolding blocks_read_of first_reason
  last_none h = by-due false (le-ltb at (length s) h)

  -- what is read by itself tells the answer, and the set where it is done
  pub blocks-told : (q : BlocksRead) → q ≡ blocks_read s at n → first_reason (last_reasons s at n) ≡ q.answer
  unfolding blocks_read
  blocks-told q e = sym (ap (λ (x : BlocksRead). x.answer) e ∙ blocks-answer (blocked_or s at) (first_reason (last_reasons s at n)))

  pub blocks-given : (q : BlocksRead) → q ≡ blocks_read s at n → q.answer ≡ Ok tt → q.blocked ≡ blocked_or s at
  unfolding blocks_read
  blocks-given q e d =
      ap (λ (x : BlocksRead). x.blocked) e ∙ blocks-set (blocked_or s at) (first_reason (last_reasons s at n)) (blocks-told q e ∙ d)

  -- its contents, by the three tests
  contents-are :
      (l z m : Bool) → left_over (body_at s at) n ≡ l → nothing_in X ≡ z → ltb (record_end s at) (length s) ≡ m →
      first_reason contents ≡ pick l (Err (refusal 14 at)) (pick z (Err (refusal 21 at)) (pick m (Err (refusal 12 (record_end s at))) (Ok tt)))
  unfolding first_reason
  contents-are l z m e f g = λ i. pick (e i) (Err (refusal 14 at)) (pick (f i) (Err (refusal 21 at)) (pick (g i) (Err (refusal 12 (record_end s at))) (Ok tt)))

  module _ (due : at < length s) where
    blocks-are : (a : Result Unit Refusal) → first_reason (block_reasons s at n) ≡ a → blocks_read_of X a ≡ blocks_read s at n
    blocks-are a e = ap (blocks_read_of X) (sym e) ∙ by-due true (lt-ltb at (length s) due)

    parts : first_reason (block_reasons s at n) ≡ result_and (first_reason (record_reasons s at 6 (Exact (2 + bytes_for n)))) (first_reason contents)
    parts = first-append (record_reasons s at 6 (Exact (2 + bytes_for n))) contents

    pub blocks-stop : (r : Refusal) → first_reason (record_reasons s at 6 (Exact (2 + bytes_for n))) ≡ Err r → no_blocks (Err r) ≡ blocks_read s at n
    unfolding blocks_read_of
    blocks-stop r e = blocks-are (Err r) (parts ∙ ap (λ (x : Result Unit Refusal). result_and x (first_reason contents)) e)

    module _ (opens : first_reason (record_reasons s at 6 (Exact (2 + bytes_for n))) ≡ Ok tt) where
      past_open : (a : Result Unit Refusal) → first_reason contents ≡ a → blocks_read_of X a ≡ blocks_read s at n
      past_open a e = blocks-are a (parts ∙ ap (λ (x : Result Unit Refusal). result_and x (first_reason contents)) opens ∙ e)

      pub blocks-left : left_over (body_at s at) n ≡ true → no_blocks (Err (refusal 14 at)) ≡ blocks_read s at n
      unfolding blocks_read_of
      blocks-left e = past_open (Err (refusal 14 at)) (contents-are true (nothing_in X) (ltb (record_end s at) (length s)) e refl refl)

      module _ (none : left_over (body_at s at) n ≡ false) where
        pub blocks-nothing : nothing_in X ≡ true → no_blocks (Err (refusal 21 at)) ≡ blocks_read s at n
        unfolding blocks_read_of
        blocks-nothing e = past_open (Err (refusal 21 at)) (contents-are false true (ltb (record_end s at) (length s)) none e refl)

        module _ (some : nothing_in X ≡ false) where
          pub blocks_more : record_end s at < length s → no_blocks (Err (refusal 12 (record_end s at))) ≡ blocks_read s at n
          unfolding blocks_read_of
          blocks_more h =
              past_open (Err (refusal 12 (record_end s at))) (contents-are false false true none some (lt-ltb (record_end s at) (length s) h))

          pub blocks-done : length s ≤ record_end s at → record { blocked = X; answer = Ok tt } ≡ blocks_read s at n
          unfolding blocks_read_of
          blocks-done h = past_open (Ok tt) (contents-are false false false none some (le-ltb (record_end s at) (length s) h))

-- an open record of kind 6 has the bytes of n positions
pub body-long :
    (s : List ℕ) (at n start len : ℕ) → Opening s at 6 (Exact (2 + bytes_for n)) start len → length (body_at s at) ≡ bytes_for n
body-long s at n start len o =
    let w = exact (2 + bytes_for n) (le16 s at) o.fits in
    length-take-le (le16 s at - 2) (drop (at + 4) s) (rw (length-drop (at + 4) s) (omega (arith, within s at 6 _ start len o, o.starts, o.size)))
    ∙ omega arith
