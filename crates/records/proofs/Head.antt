-- The head: what a good one tells, and the answer of one by what its tests say. Assumes nothing.
use Prim.Native.Nat.{ℕ, ◌-◌, ◌≤◌}
use mathlib.Core.Path.{◌≡◌, refl, sym, ap, ◌∙◌}
use mathlib.Core.Bool.{true, false, not}
use mathlib.Core.List.{List, [], ◌∷◌}
use native.Mathlib.Omega.{arith}
use lib.ListN.{length}
use borrow.Author.Tests.{not-false}
use Rattle.site.specs.Record.{size_ok}
use Rattle.site.proofs.Faults.{Sizes, sizes}
use Rattle.records.specs.Bytes.{le16}
use Rattle.records.specs.Reasons.{reason, refusal, first_reason, record_reasons}
use Rattle.records.specs.Head.{head_size, cells_of_head, slots_of_head, channels_of_head, head_answer}
use Rattle.records.specs.declared.Length.TheVariants.{Exact}
use Rattle.records.specs.declared.Refusal.{Refusal}
use Rattle.std.specs.Prelude.{Ok, Err}
use Rattle.std.specs.Result.{result_and}
use Rattle.records.specs.Opener.{open_at}
use Rattle.records.proofs.Laws.{Opening, record-open, exact, opened-done, not_opened}
use Rattle.records.proofs.Reasons.{first-append, both-done, done_none}

pub record HeadGood (s : List ℕ) : Type 0 where
  pub opening : Opening s 0 1 (Exact 8) 4 (le16 s 0 - 2)
  pub eight : le16 s 0 ≡ 8
  pub range : size_ok (cells_of_head s) (slots_of_head s) (channels_of_head s) ≡ true
  pub long : head_size ≤ length s

module _ (s : List ℕ) where
  -- the record, and then its contents
  parts :
      head_answer s
      ≡ result_and (first_reason (record_reasons s 0 1 (Exact 8)))
      (first_reason (reason (not (size_ok (cells_of_head s) (slots_of_head s) (channels_of_head s))) 1 0 ∷ []))
  unfolding head_answer
  parts = first-append (record_reasons s 0 1 (Exact 8)) (reason (not (size_ok (cells_of_head s) (slots_of_head s) (channels_of_head s))) 1 0 ∷ [])

  pub head-stop : (r : Refusal) → first_reason (record_reasons s 0 1 (Exact 8)) ≡ Err r → head_answer s ≡ Err r
  head-stop r e = parts ∙ rw e refl

  module _ (opens : first_reason (record_reasons s 0 1 (Exact 8)) ≡ Ok tt) where
    pub head-size : size_ok (cells_of_head s) (slots_of_head s) (channels_of_head s) ≡ false → head_answer s ≡ Err (refusal 1 0)
    unfolding first_reason
    head-size e =
        parts
        ∙ ap (λ a. result_and a (first_reason (reason (not (size_ok (cells_of_head s) (slots_of_head s) (channels_of_head s))) 1 0 ∷ []))) opens ∙ rw e refl

    pub head_done : size_ok (cells_of_head s) (slots_of_head s) (channels_of_head s) ≡ true → head_answer s ≡ Ok tt
    unfolding first_reason
    head_done e =
        parts
        ∙ ap (λ a. result_and a (first_reason (reason (not (size_ok (cells_of_head s) (slots_of_head s) (channels_of_head s))) 1 0 ∷ []))) opens ∙ rw e refl

  pub head_read-law : head_answer s ≡ Ok tt → HeadGood s
  head_read-law e =
      let b = both-done _ _ (sym parts ∙ e) in
      let o = record-open s 0 1 (Exact 8) b.0 in
      let w : le16 s 0 ≡ 8 = exact 8 (le16 s 0) o.fits in
      record {
        opening = o;
        eight = w;
        range = not-false _ (done_none (reason (not (size_ok (cells_of_head s) (slots_of_head s) (channels_of_head s))) 1 0 ∷ []) b.1).0;
        long = omega (arith, o.«end»);
      }

  pub head-sizes : head_answer s ≡ Ok tt → Sizes (cells_of_head s) (slots_of_head s) (channels_of_head s)
  head-sizes e = sizes _ _ _ (head_read-law e).range

-- ---- what the code asks of the record at the start of the file

module _ (s : List ℕ) where
  pub head_refused : (r : Refusal) → open_at s 0 1 (Exact 8) ≡ Err r → head_answer s ≡ Err r
  head_refused r e = head-stop s r (not_opened s 0 1 (Exact 8) r e)

  module _ (b : ℕ × ℕ) (e : open_at s 0 1 (Exact 8) ≡ Ok b) where
    opens : first_reason (record_reasons s 0 1 (Exact 8)) ≡ Ok tt
    opens = opened-done s 0 1 (Exact 8) b.0 b.1 e

    pub head_long : head_size ≤ length s
    head_long = let o = record-open s 0 1 (Exact 8) opens in omega (arith, o.«end», exact _ _ o.fits)

    pub head_sized : size_ok (le16 s 4) (le16 s 6) (le16 s 8) ≡ true → head_answer s ≡ Ok tt
    head_sized = head_done s opens

    pub head_oversized : size_ok (le16 s 4) (le16 s 6) (le16 s 8) ≡ false → head_answer s ≡ Err (refusal 1 0)
    head_oversized = head-size s opens
