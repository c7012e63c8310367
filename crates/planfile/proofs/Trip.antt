-- Both round trips. A table's reservations, written and read back, are the same, with I, T and F; an accepted file, read and written again, is the same bytes.
-- The bits go one by one: index k of the table is bit k % 8 of byte k / 8 and back, and left-over bits are 0 on both ways. Assumes nothing.
use Prim.Native.Nat.{ℕ, ◌+◌, ◌-◌, ◌*◌, ◌/◌, ◌%◌, ◌^◌, ◌≤◌, ◌<◌}
use mathlib.Core.Path.{◌≡◌, refl, sym, ap, ◌∙◌}
use mathlib.Core.List.{List, [], ◌∷◌, ◌++◌, map, append-nil}
use mathlib.Core.Bool.{Bool, true, false}
use mathlib.Core.Logic.{⊎_elim}
use native.Mathlib.Nat.{zero-add}
use native.Mathlib.Omega.{arith}
use lib.ListN.{length, get_or, take, drop, length-append, length-drop, length-map, drop_of_length-le, get_or-eq_default, get_or-map}
use lib.Seq.{length-take-le, take_at, ext_get_or}
use lib.Dec.{ltb, leb, eqb}
use borrow.Author.Tests.{le-ltb, ltb-true, ltb-false, leb-true, le-leb}
use Rattle.laws.specs.Choice.{pick}
use Rattle.laws.proofs.Choice.{cases}
use Rattle.laws.proofs.Any.{any_none, none_any}
use Rattle.laws.proofs.Bits.{digit-zero}
use Rattle.site.specs.Record.{entries, size, size_ok, fault_of, answer_with}
use Rattle.site.specs.declared.Site.{Site}
use Rattle.site.specs.declared.Fault.TheVariants.{Size}
use Rattle.site.specs.declared.Fault.{Fault}
use Rattle.site.proofs.Faults.{took-first}
use Rattle.records.specs.Bytes.{Bytes, le16, two_bytes_each}
use Rattle.records.specs.Layout.{record_of}
use Rattle.records.specs.Reasons.{first_reason}
use Rattle.records.specs.Head.{head_record, cells_of_head, slots_of_head, channels_of_head, entries_of_head, head_answer}
use Rattle.records.specs.declared.Length.TheVariants.{Exact}
use Rattle.records.specs.declared.Refusal.{Refusal}
use Rattle.std.specs.Prelude.{Result, Ok, Err}
use Rattle.records.proofs.Bytes.{bytes_drop, bytes_take}
use Rattle.records.proofs.Laws.{Opening, record-open, exact, exact-true}
use Rattle.std.specs.Result.{result_and}
use Rattle.records.proofs.Reasons.{both-done, done_none}
use Rattle.records.proofs.Head.{HeadGood, head_read-law, head_done}
use Rattle.records.proofs.RecordTrip.{record-body, rest_back, record-back, body-length, record-again, head-again}
use Rattle.records.specs.Bits.{bytes_for, bit_of, left_over}
use Rattle.planbits.specs.Bits.{one, bits_from, ones, packed, packed_from}
use Rattle.planfile.specs.Read.{plan_at, body_in, end_in, plan_read_answer, plan_read_of, read_plan, plan_table_read}
use Rattle.planfile.specs.Write.{plan_bytes, plan_file, plan_written, plan_out}
use Rattle.planfile.specs.declared.PlanWriteError.TheVariants.{TableShort, OutShort, Record}
use Rattle.planbits.proofs.Bits.{one_bit, ones_bit, bits-ones, bits_at, bit_in-law, length-bits, length-packed, packed-at}
use Rattle.planfile.proofs.Order.{answer-is}
use Rattle.planfile.proofs.ReadLaws.{open_reasons, content_reasons, plan-parts}
use Rattle.planfile.proofs.WriteLaws.{out-done}

-- ---- bits

one-zero : one 0 ≡ 0
unfolding one
one-zero = refl

-- bit k of the packed bytes is that of table byte k
packed-bit : (r : List ℕ) (m k : ℕ) → k < 8 * m → bit_of (packed_from r 0 m) k ≡ one (get_or r k 0)
packed-bit r m k h =
    let e : 0 + 8 * (k / 8) + k % 8 ≡ k = omega arith in
    rw (packed-at r m 0 (k / 8) (omega arith)) (ones_bit r 8 (k % 8) (0 + 8 * (k / 8)) (omega arith) ∙ ap (λ (j : ℕ). one (get_or r j 0)) e)

-- what is packed comes back, each byte as its bit
pub packed-bits : (r : List ℕ) (n : ℕ) → length r ≡ n → bits_from (packed_from r 0 (bytes_for n)) 0 n ≡ map one r
packed-bits r n l =
    ext_get_or 0 (bits_from (packed_from r 0 (bytes_for n)) 0 n) (map one r) (length-bits (packed_from r 0 (bytes_for n)) n 0 ∙ sym (length-map r one ∙ l)) at
  where
    at : (k : ℕ) → k < length (bits_from (packed_from r 0 (bytes_for n)) 0 n) → get_or (bits_from (packed_from r 0 (bytes_for n)) 0 n) k 0 ≡ get_or
        (map one r) k 0
    at k h =
        let g : k < n = rw (length-bits (packed_from r 0 (bytes_for n)) n 0) at h in
        bits_at (packed_from r 0 (bytes_for n)) n 0 k g
        ∙ ap (bit_of (packed_from r 0 (bytes_for n))) (zero-add k)
        ∙ packed-bit r (bytes_for n) k (omega arith)
        ∙ sym (rw one-zero at (get_or-map one r k 0))

-- packed bytes have no left-over bit
packed-left : (r : List ℕ) (n : ℕ) → length r ≡ n → left_over (packed_from r 0 (bytes_for n)) n ≡ false
unfolding left_over
packed-left r n l = none_any (λ b. eqb (bit_of (packed_from r 0 (bytes_for n)) (n + b)) 1) (8 * length (packed_from r 0 (bytes_for n)) - n) at
  where
    at : (b : ℕ) → b < 8 * length (packed_from r 0 (bytes_for n)) - n → eqb (bit_of (packed_from r 0 (bytes_for n)) (n + b)) 1 ≡ false
    at b h =
        let e : bit_of (packed_from r 0 (bytes_for n)) (n + b) ≡ 0 =
        packed-bit r (bytes_for n) (n + b) (omega (arith, length-packed r (bytes_for n) 0))
        ∙ ap one (get_or-eq_default r 0 (omega arith))
        ∙ one-zero in
        rw e refl

-- a bit is below 2
bit-two : (s : List ℕ) (k : ℕ) → bit_of s k < 2
bit-two s k = omega arith

-- the bits of bytes with no left-over bit, packed again
module _ (s : List ℕ) (n : ℕ) (size : length s ≡ bytes_for n) (bytes : Bytes s) (none : left_over s n ≡ false) where
  past-zero : (k : ℕ) → n ≤ k → k < 8 * length s → bit_of s k ≡ 0
  unfolding left_over
  past-zero k h l =
      let e : n + (k - n) ≡ k = omega arith in
      digit-zero (bit_of s k) (bit-two s k)
      (rw e at (any_none (λ b. eqb (bit_of s (n + b)) 1) (8 * length s - n) none (k - n) (omega arith)))

  same_bit : (j i : ℕ) → j < length s → i < 8 → one (get_or (bits_from s 0 n) (8 * j + i) 0) ≡ get_or s j 0 / 2 ^ i % 2
  same_bit j i h l = ⊎_elim inside past (cases (ltb (8 * j + i) n))
    where
      inside : ltb (8 * j + i) n ≡ true → one (get_or (bits_from s 0 n) (8 * j + i) 0) ≡ get_or s j 0 / 2 ^ i % 2
      inside e =
          let g : 8 * j + i < n = ltb-true (8 * j + i) n e in
          ap one (bits_at s n 0 (8 * j + i) g ∙ ap (bit_of s) (zero-add (8 * j + i)))
          ∙ one_bit (bit_of s (8 * j + i)) (bit-two s (8 * j + i))
          ∙ bit_in-law s j i l

      past : ltb (8 * j + i) n ≡ false → one (get_or (bits_from s 0 n) (8 * j + i) 0) ≡ get_or s j 0 / 2 ^ i % 2
      past e =
          let g : n ≤ 8 * j + i = ltb-false (8 * j + i) n e in
          ap one (get_or-eq_default (bits_from s 0 n) 0 (rw (length-bits s n 0) g))
          ∙ one-zero
          ∙ sym (past-zero (8 * j + i) g (omega arith))
          ∙ bit_in-law s j i l

  pub bits-packed : packed_from (bits_from s 0 n) 0 (bytes_for n) ≡ s
  bits-packed = ext_get_or 0 (packed_from (bits_from s 0 n) 0 (bytes_for n)) s (length-packed (bits_from s 0 n) (bytes_for n) 0 ∙ sym size) at
    where
      at : (j : ℕ) → j < length (packed_from (bits_from s 0 n) 0 (bytes_for n)) → get_or (packed_from (bits_from s 0 n) 0 (bytes_for n)) j 0 ≡ get_or s j 0
      at j h =
          let g : j < bytes_for n = rw (length-packed (bits_from s 0 n) (bytes_for n) 0) at h in
          packed-at (bits_from s 0 n) (bytes_for n) 0 j g
          ∙ ap (λ (k : ℕ). ones (bits_from s 0 n) k 8) (zero-add (8 * j))
          ∙ bits-ones (bits_from s 0 n) 8 (8 * j) (get_or s j 0) (bytes j) (λ i l. same_bit j i (omega arith) l)

-- ---- written, then read

module _ (i a f : ℕ) (t : List ℕ) where
  abbrev B : List ℕ
  B = plan_bytes i a f t

  abbrev P : List ℕ
  P = packed t (entries i a f)

  p-length : length P ≡ bytes_for (entries i a f)
  p-length = length-packed (take (entries i a f) t) (bytes_for (entries i a f)) 0

  -- where each record stands
  head-here : drop 0 B ≡ head_record i a f ++ record_of 4 P
  unfolding plan_bytes
  head-here = refl

  plan-here : drop (plan_at B) B ≡ record_of 4 P ++ []
  plan-here = rest_back B 0 1 (two_bytes_each (i ∷ a ∷ f ∷ [])) (record_of 4 P) head-here ∙ sym (append-nil (record_of 4 P))

  no_more : length B - end_in B ≡ 0
  no_more = sym (length-drop (end_in B) B) ∙ ap length (rest_back B (plan_at B) 4 P [] plan-here)

  cells-back : cells_of_head B ≡ i
  unfolding plan_bytes
  cells-back = omega arith

  slots-back : slots_of_head B ≡ a
  unfolding plan_bytes
  slots-back = omega arith

  channels-back : channels_of_head B ≡ f
  unfolding plan_bytes
  channels-back = omega arith

  entries-back : entries_of_head B ≡ entries i a f
  entries-back = λ j. entries (cells-back j) (slots-back j) (channels-back j)

  body_back : body_in B ≡ P
  body_back = record-body B (plan_at B) 4 P [] plan-here

  module _ (ok : size_ok i a f ≡ true) (enough : entries i a f ≤ length t) where
    left_back : left_over (body_in B) (entries_of_head B) ≡ false
    left_back = (λ j. left_over (body_back j) (entries-back j)) ∙ packed-left (take (entries i a f) t) (entries i a f) (length-take-le (entries i a f) t enough)

    head-good : head_answer B ≡ Ok tt
    head-good =
        head_done B (record-back B 0 1 (two_bytes_each (i ∷ a ∷ f ∷ [])) (record_of 4 P) head-here (Exact 8) (exact-true 8 (omega arith)))
        ((λ j. size_ok (cells-back j) (slots-back j) (channels-back j)) ∙ ok)

    plan-good : first_reason (open_reasons B) ≡ Ok tt
    plan-good =
        let n : 2 + length P ≡ 2 + bytes_for (entries_of_head B) = ap (λ (k : ℕ). 2 + k) p-length ∙ ap (λ (k : ℕ). 2 + bytes_for k) (sym entries-back) in
        record-back B (plan_at B) 4 P [] plan-here (Exact (2 + bytes_for (entries_of_head B)))
        (rw n (exact-true (2 + bytes_for (entries_of_head B)) (omega arith)))

    content-good : (u : List ℕ) → entries i a f ≤ length u → first_reason (content_reasons B u) ≡ Ok tt
    unfolding first_reason
    content-good u h =
        rw (left_back, le-ltb (end_in B) (length B) (omega (arith, no_more)), le-ltb (length u) (entries_of_head B) (rw entries-back h)) refl

    done-back : (u : List ℕ) → entries i a f ≤ length u → plan_read_answer B u ≡ Ok tt
    done-back u h =
        plan-parts B u
        ∙ ap (λ (x : Result Unit Refusal). result_and x (result_and (first_reason (open_reasons B)) (first_reason (content_reasons B u)))) head-good
        ∙ ap (λ (x : Result Unit Refusal). result_and x (first_reason (content_reasons B u))) plan-good
        ∙ content-good u h

    -- the file of a table gives back I, T and F, and 1 for each byte that was 1, 0 for each other
    pub written_read :
        (u : List ℕ) → entries i a f ≤ length u →
        (read_plan (plan_bytes i a f t) u ≡ record { cells = i; slots = a; channels = f; answer = Ok tt })
        × (plan_table_read (plan_bytes i a f t) u ≡ map one (take (entries i a f) t) ++ drop (entries i a f) u)
    unfolding read_plan plan_read_of plan_table_read
    written_read u h = (
      rw (done-back u h) (λ j. record { cells = cells-back j; slots = slots-back j; channels = channels-back j; answer = Ok tt }),
      rw (done-back u h)
          ((λ j. bits_from (body_back j) 0 (entries-back j) ++ drop (entries-back j) u)
          ∙ ap (λ (l : List ℕ). l ++ drop (entries i a f) u) (packed-bits (take (entries i a f) t) (entries i a f) (length-take-le (entries i a f) t enough))),
    )

-- ---- read, then written

-- what an accepted file is
pub record Accepted (s t : List ℕ) : Type 0 where
  pub head : HeadGood s
  pub plan : Opening s (plan_at s) 4 (Exact (2 + bytes_for (entries_of_head s))) (plan_at s + 4) (le16 s (plan_at s) - 2)
  pub no-left-over : left_over (body_in s) (entries_of_head s) ≡ false
  pub whole : length s ≤ end_in s
  pub room : entries_of_head s ≤ length t

pub accepted : (s t : List ℕ) → (read_plan s t).answer ≡ Ok tt → Accepted s t
accepted s t e =
    let h = both-done _ _ (sym (plan-parts s t) ∙ sym (answer-is s t) ∙ e) in
    let p = both-done _ _ h.1 in
    let n = done_none (content_reasons s t) p.1 in
    record {
      head = head_read-law s h.0;
      plan = record-open s (plan_at s) 4 (Exact (2 + bytes_for (entries_of_head s))) p.0;
      no-left-over = n.0;
      whole = ltb-false (end_in s) (length s) n.1.0;
      room = ltb-false (length t) (entries_of_head s) n.1.1.0;
    }

module _ (s t : List ℕ) (done : (read_plan s t).answer ≡ Ok tt) (bytes : Bytes s) where
  ok : Accepted s t
  ok = accepted s t done

  table_is : plan_table_read s t ≡ bits_from (body_in s) 0 (entries_of_head s) ++ drop (entries_of_head s) t
  unfolding plan_table_read
  table_is = rw (sym (answer-is s t) ∙ done) refl

  -- the read table is long enough to be written again
  pub table-long : entries_of_head s ≤ length (plan_table_read s t)
  table-long = rw (table_is, length-append) (omega (arith, length-bits (body_in s) (entries_of_head s) 0))

  body_bytes : Bytes (body_in s)
  body_bytes = bytes_take (le16 s (plan_at s) - 2) (drop (plan_at s + 4) s) (bytes_drop (plan_at s + 4) s bytes)

  body-long : length (body_in s) ≡ bytes_for (entries_of_head s)
  body-long =
      body-length s bytes (plan_at s) 4 (Exact (2 + bytes_for (entries_of_head s))) _ _ ok.plan
      ∙ omega (arith, exact (2 + bytes_for (entries_of_head s)) (le16 s (plan_at s)) ok.plan.fits)

  packed-again : packed (plan_table_read s t) (entries_of_head s) ≡ body_in s
  packed-again =
      ap (λ (l : List ℕ). packed_from (take (entries_of_head s) l) 0 (bytes_for (entries_of_head s))) table_is
      ∙ ap (λ (l : List ℕ). packed_from l 0 (bytes_for (entries_of_head s)))
      (take_at (bits_from (body_in s) 0 (entries_of_head s)) (drop (entries_of_head s) t) (entries_of_head s) (length-bits (body_in s) (entries_of_head s) 0))
      ∙ bits-packed (body_in s) (entries_of_head s) body-long body_bytes ok.no-left-over

  -- an accepted file, read and written again, is the same bytes
  pub read-written : plan_bytes (cells_of_head s) (slots_of_head s) (channels_of_head s) (plan_table_read s t) ≡ s
  unfolding plan_bytes
  read-written =
      let last : record_of 4 (packed (plan_table_read s t) (entries_of_head s)) ≡ drop (plan_at s) s =
      ap (record_of 4) packed-again
      ∙ sym (append-nil (record_of 4 (body_in s)))
      ∙ ap (λ (l : List ℕ). record_of 4 (body_in s) ++ l) (sym (drop_of_length-le s {i = end_in s} ok.whole))
      ∙ record-again s bytes (plan_at s) 4 (Exact (2 + bytes_for (entries_of_head s))) _ _ ok.plan in
      ap (λ (l : List ℕ). head_record (cells_of_head s) (slots_of_head s) (channels_of_head s) ++ l) last ∙ head-again s bytes ok.head

-- ---- the calls

-- what a done writer tells
pub record WrittenDone (s : Site) (t out : List ℕ) (m : ℕ) : Type 0 where
  pub fine : fault_of s ≡ Ok tt
  pub enough : size s ≤ length t
  pub fits : length (plan_file s t) ≤ length out
  pub count : m ≡ length (plan_file s t)

pub written-tells : (s : Site) (t out : List ℕ) (m : ℕ) → plan_written s t out ≡ Ok m → WrittenDone s t out m
unfolding plan_written
written-tells s t out m e = go _ _ _ refl refl refl e
  where
    n : ℕ
    n = size s

    go :
        (x : Result Unit Fault) (y z : Bool) → fault_of s ≡ x → ltb (length t) n ≡ y → leb (length (plan_file s t)) (length out) ≡ z →
        answer_with Record x (pick y (Err TableShort) (pick z (Ok (length (plan_file s t))) (Err (OutShort (length (plan_file s t)))))) ≡ Ok m →
        WrittenDone s t out m
    go (Ok u) false true p q r e =
        record { fine = p; enough = ltb-false (length t) n q; fits = leb-true (length (plan_file s t)) (length out) r; count = cc }
    go (Ok u) false false p q r e = let o : ◌≡◌ {A = ℕ} 0 1 = cc in absurd (omega arith)
    go (Ok u) true z p q r e = let o : ◌≡◌ {A = ℕ} 0 1 = cc in absurd (omega arith)
    go (Err f) y z p q r e = let o : ◌≡◌ {A = ℕ} 0 1 = cc in absurd (omega arith)

-- what `write_plan` wrote, `read_plan` reads: the site's I, T and F, and its table's reservations
pub calls-written-read :
    (s : Site) (t out u : List ℕ) (m : ℕ) → plan_written s t out ≡ Ok m → size s ≤ length u →
    (read_plan (take m (plan_out s t out)) u ≡ record { cells = s.cells; slots = s.slots; channels = s.channels; answer = Ok tt })
    × (plan_table_read (take m (plan_out s t out)) u
    ≡ map one (take (size s) t) ++ drop (size s) u)
unfolding fault_of
calls-written-read s t out u m e h =
    let w = written-tells s t out m e in
    let file : take m (plan_out s t out) ≡ plan_file s t =
    rw (out-done s t out w.fine w.enough w.fits) (take_at (plan_file s t) (drop (length (plan_file s t)) out) m (sym w.count)) in
    let r = written_read s.cells s.slots s.channels t (took-first _ _ Size w.fine) w.enough u h in
    (ap (λ (l : List ℕ). read_plan l u) file ∙ r.0, ap (λ (l : List ℕ). plan_table_read l u) file ∙ r.1)

-- what `read_plan` accepted, `write_plan` writes as the same bytes, given a site with the I, T and F that were read
pub calls-read-written :
    (s t : List ℕ) → (read_plan s t).answer ≡ Ok tt → Bytes s →
    (x : Site) → fault_of x ≡ Ok tt → x.cells ≡ (read_plan s t).cells → x.slots ≡ (read_plan s t).slots → x.channels ≡ (read_plan s t).channels →
    (out : List ℕ) → length s ≤ length out →
    (plan_written x (plan_table_read s t) out ≡ Ok (length s)) × (plan_out x (plan_table_read s t) out ≡ s ++ drop (length s) out)
unfolding read_plan plan_read_of plan_written
calls-read-written s t done bytes x fine i a f out h =
    let p : plan_read_answer s t ≡ Ok tt = sym (answer-is s t) ∙ done in
    let ci : x.cells ≡ cells_of_head s = rw p at i in
    let ca : x.slots ≡ slots_of_head s = rw p at a in
    let cf : x.channels ≡ channels_of_head s = rw p at f in
    let n : size x ≡ entries_of_head s = (λ j. entries (ci j) (ca j) (cf j)) in
    let file : plan_file x (plan_table_read s t) ≡ s = (λ j. plan_bytes (ci j) (ca j) (cf j) (plan_table_read s t)) ∙ read-written s t done bytes in
    let enough : size x ≤ length (plan_table_read s t) = rw n (table-long s t done bytes) in
    let room = le-ltb (length (plan_table_read s t)) (size x) enough in
    let fits = le-leb (length s) (length out) h in
    (rw (fine, room, file, fits) refl, out-done x (plan_table_read s t) out fine enough (rw file h) ∙ ap (λ (l : List ℕ). l ++ drop (length l) out) file)
