-- The writer's answers, by what its tests say: what it gives back and what it leaves; and the file's length and its two parts, stored one after the other.
-- Assumes nothing.
use Prim.Native.Nat.{ℕ, ◌+◌, ◌≤◌, ◌<◌}
use mathlib.Core.Path.{◌≡◌, refl, sym, ap, ◌∙◌}
use mathlib.Core.List.{List, [], ◌∷◌, ◌++◌}
use mathlib.Core.Bool.{false}
use native.Mathlib.Omega.{arith}
use lib.ListN.{length, take, drop, length-append}
use lib.Seq.{sets}
use lib.Dec.{ltb}
use borrow.Author.Tests.{lt-ltb, le-ltb, lt-leb, le-leb}
use Rattle.laws.proofs.Stores.{sets-append, sets-front}
use Rattle.site.specs.Record.{entries, size, fault_of}
use Rattle.site.specs.declared.Site.{Site}
use Rattle.std.specs.Prelude.{Ok, Err}
use Rattle.records.specs.Bytes.{two_bytes_each}
use Rattle.records.specs.Layout.{record_of}
use Rattle.records.specs.Head.{head_record, head_size}
use Rattle.records.specs.Write.{laid_over}
use Rattle.records.proofs.Write.{laid-short, record-put}
use Rattle.records.specs.Bits.{bytes_for}
use Rattle.planbits.specs.Bits.{packed}
use Rattle.planfile.specs.Write.{plan_bytes, plan_file, plan_written, plan_out}
use Rattle.planfile.specs.declared.PlanWriteError.TheVariants.{TableShort, OutShort}
use Rattle.planbits.proofs.Bits.{length-packed}

pub file-length : (i a f : ℕ) (t : List ℕ) → length (plan_bytes i a f t) ≡ head_size + 4 + bytes_for (entries i a f)
unfolding plan_bytes
file-length i a f t = simp length-append (omega (arith, length-packed (take (entries i a f) t) (bytes_for (entries i a f)) 0))

module _ (s : Site) (t out : List ℕ) where
  module _ (fine : fault_of s ≡ Ok tt) where
    pub table-short : length t < size s → (Err TableShort ≡ plan_written s t out) × (out ≡ plan_out s t out)
    unfolding plan_written plan_out
    table-short h =
        let e = lt-ltb (length t) (size s) h in
        (rw (fine, e) refl, rw (fine, e) refl)

    module _ (enough : size s ≤ length t) where
      test : ltb (length t) (size s) ≡ false
      test = le-ltb (length t) (size s) enough

      pub out-short :
          (need : ℕ) → need ≡ head_size + 4 + bytes_for (size s) → length out < need →
          (Err (OutShort need) ≡ plan_written s t out) × (out ≡ plan_out s t out)
      unfolding plan_written plan_out
      out-short need q h =
          let l : length (plan_file s t) ≡ need = file-length s.cells s.slots s.channels t ∙ sym q in
          let e = lt-leb need (length out) h in
          (rw (fine, test, l, e) refl, laid-short (plan_file s t) out (rw l h) ∙ sym (rw (fine, test) refl))

      pub out-done : length (plan_file s t) ≤ length out → plan_out s t out ≡ plan_file s t ++ drop (length (plan_file s t)) out
      unfolding plan_out laid_over
      out-done h = rw (fine, test, le-leb (length (plan_file s t)) (length out) h) refl

      pub all_done :
          (need : ℕ) → need ≡ head_size + 4 + bytes_for (size s) → need ≤ length out →
          (Ok need ≡ plan_written s t out)
          × (sets (sets (sets out 0 (head_record s.cells s.slots s.channels)) head_size (two_bytes_each ((2 + bytes_for (size s)) ∷ 4 ∷ [])))
          (head_size + 4) (packed t (size s))
          ≡ plan_out s t out)
      unfolding plan_written
      all_done need q h =
          let l : length (plan_file s t) ≡ need = file-length s.cells s.slots s.channels t ∙ sym q in
          let e = le-leb need (length out) h in (
            rw (fine, test, l, e) refl,
            parts ∙ sets-front out (plan_file s t) (rw l h) ∙ sym (out-done (rw l h)),
          )
        where
          parts :
              sets (sets (sets out 0 (head_record s.cells s.slots s.channels)) head_size (two_bytes_each ((2 + bytes_for (size s)) ∷ 4 ∷ [])))
              (head_size + 4) (packed t (size s))
              ≡ sets out 0 (plan_file s t)
          parts =
              unfold plan_bytes in
              let head = head_record s.cells s.slots s.channels in
              let n : 2 + bytes_for (size s) ≡ 2 + length (packed t (size s)) = ap (λ (k : ℕ). 2 + k)
              (sym (length-packed (take (size s) t) (bytes_for (size s)) 0)) in
              record-put (sets out 0 head) head_size 4 (2 + bytes_for (size s)) (packed t (size s)) n
              ∙ sym (sets-append out 0 head (record_of 4 (packed t (size s))))
