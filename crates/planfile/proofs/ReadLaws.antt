-- The reader's answer, by what its tests say: the head, the plan record and what follows it, one after the other. Assumes nothing.
use Prim.Native.Nat.{ℕ, ◌+◌, ◌-◌, ◌≤◌, ◌<◌}
use mathlib.Core.Path.{◌≡◌, refl, ap, ◌∙◌}
use mathlib.Core.List.{List, [], ◌∷◌, ◌++◌}
use mathlib.Core.Bool.{true, false}
use native.Mathlib.Omega.{arith}
use lib.ListN.{length, take, drop, length-drop}
use lib.Seq.{sets, length-take-le}
use lib.Dec.{ltb}
use borrow.Author.Tests.{lt-ltb, le-ltb}
use Rattle.laws.proofs.Stores.{sets-front}
use Rattle.site.specs.Record.{entries}
use Rattle.site.proofs.Faults.{few_bytes}
use Rattle.records.specs.Bytes.{le16}
use Rattle.records.specs.Opener.{open_at}
use Rattle.records.specs.Reasons.{Reason, reason, first_reason, record_reasons, end_reason}
use Rattle.records.specs.Head.{head_size, cells_of_head, slots_of_head, channels_of_head, entries_of_head, head_reasons, head_answer}
use Rattle.records.specs.declared.Length.TheVariants.{Exact}
use Rattle.records.specs.declared.Refusal.{Refusal}
use Rattle.std.specs.Prelude.{Result, Ok, Err}
use Rattle.records.specs.Reasons.{refusal}
use Rattle.records.proofs.Laws as records
use Rattle.std.specs.Result.{result_and}
use Rattle.records.proofs.Reasons.{first-append}
use Rattle.records.proofs.Head.{head_read-law, head-sizes}
use Rattle.records.specs.Bits.{bytes_for, left_over}
use Rattle.planbits.specs.Bits.{bits_from}
use Rattle.planfile.specs.Read.{plan_at, body_in, end_in, plan_read_answer, refused_plan, plan_read_of, read_plan, plan_table_read}
use Rattle.planfile.specs.Loop.{HeadRead}
use Rattle.planbits.proofs.Bits.{length-bits}

-- the plan record's own reasons, and those past it: "plan 14. Then 12, then 4."
abbrev pub open_reasons : List ℕ → List Reason
open_reasons s = record_reasons s (plan_at s) 4 (Exact (2 + bytes_for (entries_of_head s)))

abbrev pub content_reasons : List ℕ → List ℕ → List Reason
content_reasons s t =
    reason (left_over (body_in s) (entries_of_head s)) 14 (plan_at s)
    ∷ end_reason s (end_in s)
    ∷ reason (ltb (length t) (entries_of_head s)) 4 0
    ∷ []

module _ (s t : List ℕ) where
  pub plan-parts : plan_read_answer s t ≡ result_and (head_answer s) (result_and (first_reason (open_reasons s)) (first_reason (content_reasons s t)))
  unfolding plan_read_answer head_answer
  plan-parts =
      first-append (head_reasons s) (open_reasons s ++ content_reasons s t)
      ∙ ap (result_and (first_reason (head_reasons s))) (first-append (open_reasons s) (content_reasons s t))

  -- what a refusal gives back and leaves
  pub refuse : (r : Refusal) → plan_read_answer s t ≡ Err r → (refused_plan (Err r) ≡ read_plan s t) × (t ≡ plan_table_read s t)
  unfolding read_plan plan_read_of plan_table_read
  refuse r e = (rw e refl, rw e refl)

  pub head-stop : (r : Refusal) → head_answer s ≡ Err r → plan_read_answer s t ≡ Err r
  head-stop r e =
      plan-parts ∙ ap (λ (a : Result Unit Refusal). result_and a (result_and (first_reason (open_reasons s)) (first_reason (content_reasons s t)))) e

  past_head : head_answer s ≡ Ok tt → plan_read_answer s t ≡ result_and (first_reason (open_reasons s)) (first_reason (content_reasons s t))
  past_head e =
      plan-parts ∙ ap (λ (a : Result Unit Refusal). result_and a (result_and (first_reason (open_reasons s)) (first_reason (content_reasons s t)))) e

  module _ (i a f : ℕ) (head : HeadRead s i a f) where
    pub entries-are : entries i a f ≡ entries_of_head s
    entries-are = rw (head.cells_are, head.slots_are, head.channels_are)

    pub few : entries_of_head s ≤ 65536
    few = few_bytes (head-sizes s head.read)

    pub due : head_size ≡ plan_at s
    due = omega (arith, (head_read-law s head.read).eight)

    pub body-stop : (r : Refusal) → open_at s (plan_at s) 4 (Exact (2 + bytes_for (entries_of_head s))) ≡ Err r → plan_read_answer s t ≡ Err r
    body-stop r e =
        past_head head.read ∙ ap (λ (x : Result Unit Refusal). result_and x (first_reason (content_reasons s t))) (records.not_opened s (plan_at s) 4 _ r e)

    module _ (start len : ℕ) (found : open_at s (plan_at s) 4 (Exact (2 + bytes_for (entries_of_head s))) ≡ Ok (start, len)) where
      opening : records.Opening s (plan_at s) 4 (Exact (2 + bytes_for (entries_of_head s))) start len
      opening = records.opened s (plan_at s) 4 _ start len found

      -- where the body stands
      pub within : start + len ≤ length s
      within = records.within s (plan_at s) 4 _ start len opening

      pub ends : start + len ≡ end_in s
      ends = records.ends s (plan_at s) 4 _ start len opening

      pub body_is : take (start + len - start) (drop start s) ≡ body_in s
      body_is = records.body_is s (plan_at s) 4 _ start len opening

      pub body-long : length (body_in s) ≡ bytes_for (entries_of_head s)
      body-long =
          let w = records.exact (2 + bytes_for (entries_of_head s)) (le16 s (plan_at s)) opening.fits in
          length-take-le (le16 s (plan_at s) - 2) (drop (plan_at s + 4) s) (rw (length-drop (plan_at s + 4) s)
          (omega (arith, within, opening.starts, opening.size)))
          ∙ omega arith

      tail-first : plan_read_answer s t ≡ first_reason (content_reasons s t)
      tail-first =
          past_head head.read
          ∙ ap (λ (x : Result Unit Refusal). result_and x (first_reason (content_reasons s t))) (records.opened-done s (plan_at s) 4 _ start len found)

      pub left-stop : left_over (body_in s) (entries_of_head s) ≡ true → plan_read_answer s t ≡ Err (refusal 14 (plan_at s))
      unfolding first_reason
      left-stop e = tail-first ∙ rw e refl

      module _ (none : left_over (body_in s) (entries_of_head s) ≡ false) where
        pub more-stop : end_in s < length s → plan_read_answer s t ≡ Err (refusal 12 (end_in s))
        unfolding first_reason
        more-stop h = tail-first ∙ rw (none, lt-ltb (end_in s) (length s) h) refl

        module _ (whole : length s ≤ end_in s) where
          pub short-stop : length t < entries_of_head s → plan_read_answer s t ≡ Err (refusal 4 0)
          unfolding first_reason
          short-stop h = tail-first ∙ rw (none, le-ltb (end_in s) (length s) whole, lt-ltb (length t) (entries_of_head s) h) refl

          pub read_done : entries_of_head s ≤ length t → plan_read_answer s t ≡ Ok tt
          unfolding first_reason
          read_done h = tail-first ∙ rw (none, le-ltb (end_in s) (length s) whole, le-ltb (length t) (entries_of_head s) h) refl

-- what a done read gives back and leaves
pub accept :
    (s t : List ℕ) → plan_read_answer s t ≡ Ok tt → entries_of_head s ≤ length t →
    (record { cells = cells_of_head s; slots = slots_of_head s; channels = channels_of_head s; answer = Ok tt } ≡ read_plan s t)
    × (sets t 0 (bits_from (body_in s) 0 (entries_of_head s)) ≡ plan_table_read s t)
unfolding read_plan plan_read_of plan_table_read
accept s t e h =
    let l = length-bits (body_in s) (entries_of_head s) 0 in (
      rw e refl,
      rw e (sets-front t (bits_from (body_in s) 0 (entries_of_head s)) (rw l h) ∙ ap (λ (k : ℕ). bits_from (body_in s) 0 (entries_of_head s) ++ drop k t) l),
    )
