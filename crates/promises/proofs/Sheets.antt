-- Document 02, W1, the range sheets: over what the calls answer and leave, with any input and any output, in the documents' numbers.
-- The laws are those of crate `sheet`.
-- Assumes nothing.
use mathlib.Core.Path.{◌≡◌, refl, sym, ap, ◌∙◌}
use mathlib.Core.Bool.{Bool, true, false, true≢false}
use mathlib.Core.List.{List, [], ◌∷◌, ◌++◌}
use mathlib.Core.Logic.{◌↔◌, ◌⊎◌}
use Prim.Native.Nat.{ℕ, ◌+◌, ◌≤◌, ◌<◌}
use native.Mathlib.Omega.{arith}
use lib.Dec.{leb}
use lib.ListN.{length, take, drop, get_or}
use lib.Seq.{take_at}
use borrow.Author.Tests.{le-leb, lt-leb}
use Rattle.std.specs.Prelude.{Result, Ok, Err}
use Rattle.laws.specs.Sum.{bit}
use Rattle.records.specs.Given.{written_given}
use Rattle.records.specs.Write.{written, laid_over}
use Rattle.site.specs.Record.{zero_site, fault_of}
use Rattle.site.specs.Reach.{reaches}
use Rattle.site.specs.Means.{UpTo}
use Rattle.site.specs.Given.{Given, fault_given, done_given}
use Rattle.site.specs.declared.Site.{Site}
use Rattle.site.specs.declared.Fault.{Fault}
use Rattle.site.specs.declared.Fault.TheVariants.{Size, Rule, Reach, Blocked}
use Rattle.site.proofs.Given.{done-apart}
use Rattle.site.specs.Held.{Held}
use Rattle.sheet.specs.Sheet.{sheet_bytes}
use Rattle.sheet.specs.Read.{judged, read_sheet}
use Rattle.sheet.specs.Write.{sheet_written, sheet_out}
use Rattle.sheet.specs.Means.{BlockedHeld, FirstBadOfSheet, SheetOf, sheet_fault, MarksItself, BlockedPast, mark_place}
use Rattle.sheet.specs.Given.{sheet_given}
use Rattle.sheet.specs.declared.SheetRead.{SheetRead}
use Rattle.sheet.specs.declared.SheetError.TheVariants.{BadLine}
use Rattle.sheet.proofs.Given.{sheet-apart}
use Rattle.sheet.proofs.Trip.{fine-fits, written_then_read}
use Rattle.sheet.proofs.Answers.{bad-first, first-told, no-bad-line, sheet-read, refused-zeros, accepted-is, sheet-accepted}
use Rattle.sheet.proofs.Answers.{fault-is, fault-one, fault-twenty-four, fault-three, fault-twenty, marks-reach}
use Rattle.demanded.specs.Numbers.{done, done_with, refused}
use Rattle.demanded.specs.Demands.{Accepted}
use Rattle.promises.specs.Leaves.{WriterLeaves}
use Rattle.demanded.proofs.Numbers.{accepted-number}
use Rattle.promises.proofs.Demand1.{file-left, wrote-fine}

-- ---- the writer: 1, 24, 2, 3, 20, then 13; nothing written on a refusal, nothing past the sheet

pub sheet-write-leaves : (s : Site) (out : List ℕ) → WriterLeaves (sheet_bytes s) out (written_given (sheet_written s out)) (sheet_out s out)
unfolding sheet_written sheet_out written laid_over
sheet-write-leaves s out = file-left (sheet_bytes s) out (fault_of s) (leb (length (sheet_bytes s)) (length out))

module _ (s : Site) (out : List ℕ) where
  fault-first : (f : Result Unit Fault) → fault_of s ≡ f → (f ≡ Ok tt → ⊥) → written_given (sheet_written s out) ≡ done_given f
  unfolding sheet_written
  fault-first (Ok u) q n = absurd (n refl)
  fault-first (Err f) q n = rw q

  -- a record that is not accepted is refused with its fault, 1, 24, 2, 3 or 20
  pub sheet-written-fault : (Accepted s → ⊥) → written_given (sheet_written s out) ≡ done_given (fault_of s)
  sheet-written-fault n = fault-first (fault_of s) refl (λ e. n ((accepted-number s).1 e))

  -- 13, "lent output too short for the file": "bytes needed"
  pub sheet-written-short : Accepted s → length out < length (sheet_bytes s) → written_given (sheet_written s out) ≡ refused 13 (length (sheet_bytes s) ∷ [])
  unfolding sheet_written written
  sheet-written-short ok h = rw ((accepted-number s).0 ok, lt-leb (length (sheet_bytes s)) (length out) h)

  -- "A writer that is done answers the number of bytes written."
  pub sheet-written-done : Accepted s → length (sheet_bytes s) ≤ length out → written_given (sheet_written s out) ≡ done_with (length (sheet_bytes s) ∷ [])
  unfolding sheet_written written
  sheet-written-done ok h = rw ((accepted-number s).0 ok, le-leb (length (sheet_bytes s)) (length out) h)

written-fine : (s : Site) (out : List ℕ) → (written_given (sheet_written s out)).number ≡ 0 → fault_of s ≡ Ok tt
unfolding sheet_written written
written-fine s out e = wrote-fine (fault_of s) (leb (length (sheet_bytes s)) (length out)) (length (sheet_bytes s)) e

-- ---- the round trips

-- "Reading a written sheet gives the site": `read_sheet` of what `write_sheet` wrote, with the site's slots, channels, blocked positions and rule
pub sheet-written-read : (s : Site) → Held s → (out : List ℕ) (n : ℕ) → written_given (sheet_written s out) ≡ done_with (n ∷ [])
    → let back = read_sheet (take n (sheet_out s out)) s.slots s.channels s.blocked s.rule in (sheet_given back.answer ≡ done) × (back.site ≡ s)
sheet-written-read s held out n e =
    let zero : (written_given (sheet_written s out)).number ≡ 0 = ap (λ (g : Given). g.number) e in
    let w = (sheet-write-leaves s out).if_done zero in
    let m : length (sheet_bytes s) ∷ [] ≡ n ∷ [] = sym w.0 ∙ ap (λ (g : Given). g.values) e in
    let count : length (sheet_bytes s) ≡ n = cc in
    let file : take n (sheet_out s out) ≡ sheet_bytes s = rw w.1 (take_at (sheet_bytes s) (drop (length (sheet_bytes s)) out) n count) in
    let is : read_sheet (take n (sheet_out s out)) s.slots s.channels s.blocked s.rule ≡ record { site = s; answer = Ok tt } =
    ap (λ (b : List ℕ). read_sheet b s.slots s.channels s.blocked s.rule) file
    ∙ written_then_read s (fine-fits s held (written-fine s out zero)) (written-fine s out zero) in
    (ap (λ (r : SheetRead). sheet_given r.answer) is, ap (λ (r : SheetRead). r.site) is)

module _ (b : List ℕ) (slots channels : ℕ) (blocked : List ℕ) (rule : ℕ) (words : BlockedHeld blocked) where
  was-done : sheet_given (read_sheet b slots channels blocked rule).answer ≡ done → (read_sheet b slots channels blocked rule).answer ≡ Ok tt
  was-done e = sheet-apart (read_sheet b slots channels blocked rule).answer (Ok tt) e

  -- "an accepted sheet written again is the same bytes": `write_sheet` of what `read_sheet` read
  pub sheet-read-written : sheet_given (read_sheet b slots channels blocked rule).answer ≡ done → (out : List ℕ) → length b ≤ length out
      → (written_given (sheet_written (read_sheet b slots channels blocked rule).site out) ≡ done_with (length b ∷ []))
      × (sheet_out (read_sheet b slots channels blocked rule).site out ≡ b ++ drop (length b) out)
  unfolding sheet_written sheet_out written laid_over
  sheet-read-written ok out fits =
      let w = accepted-is b slots channels blocked rule words (was-done ok) in
      let room = le-leb (length b) (length out) fits in
      (rw (w.1, w.0.bytes, room), rw (w.1, w.0.bytes, room))

  -- ---- what the reader answers, over the format

  -- exactly the sheets of the format are accepted, each as the site whose sheet it is
  pub sheet-exactly : (s : Site)
      → ((sheet_given (read_sheet b slots channels blocked rule).answer ≡ done) × ((read_sheet b slots channels blocked rule).site ≡ s))
      ↔ (SheetOf b slots channels blocked rule s × Accepted s)
  sheet-exactly s = (
    λ w.
        let a = accepted-is b slots channels blocked rule words (was-done w.0) in
        rw (← w.1) (a.0, (accepted-number _).1 a.1),
    λ w.
        let is = sheet-accepted b slots channels blocked rule words s w.0 ((accepted-number s).0 w.1) in
        (ap (λ (r : SheetRead). sheet_given r.answer) is, ap (λ (r : SheetRead). r.site) is),
  )

  -- "17, sheet malformed, with its first bad line (from 1; missing and extra lines count)"
  pub seventeen : (l : ℕ) → sheet_given (read_sheet b slots channels blocked rule).answer ≡ refused 17 (l ∷ []) ↔ FirstBadOfSheet b l
  seventeen l = (
    λ e.
        let is = sheet-apart (read_sheet b slots channels blocked rule).answer (Err (BadLine l)) e in
        bad-first b slots channels blocked rule words l is,
    λ f. ap sheet_given (first-told b slots channels blocked rule words l f),
  )

  -- bytes with no bad line are the sheet of a record
  pub sheet-or-bad : ((l : ℕ) → FirstBadOfSheet b l → ⊥) → (s : Site) × SheetOf b slots channels blocked rule s
  sheet-or-bad none = no-bad-line b slots channels blocked rule words none

  judged-number : (s : Site) (f : Result Unit Fault) → fault_of s ≡ f → sheet_given (judged s).answer ≡ done_given f
  unfolding judged
  judged-number s (Ok u) q = rw q
  judged-number s (Err f) q = rw q

  module _ (s : Site) (w : SheetOf b slots channels blocked rule s) where
    -- and reading the sheet of a record, fine or not, is judging the record
    pub sheet-judges : sheet_given (read_sheet b slots channels blocked rule).answer ≡ done_given (fault_of s)
    sheet-judges = ap (λ (r : SheetRead). sheet_given r.answer) (sheet-read b slots channels blocked rule words s w) ∙ judged-number s (fault_of s) refl

    fault-told : (f : Fault) → sheet_given (read_sheet b slots channels blocked rule).answer ≡ fault_given f ↔ fault_of s ≡ Err f
    fault-told f = (λ e. done-apart (fault_of s) (Err f) (sym sheet-judges ∙ e), λ q. sheet-judges ∙ ap done_given q)

    -- "after it 1, then 3 for a mark on oneself": in one line
    pub after-seventeen : sheet_given (read_sheet b slots channels blocked rule).answer ≡ done_given (sheet_fault s)
    after-seventeen = sheet-judges ∙ ap done_given (fault-is s w.fits)

    -- 1 exactly where the slots or the channels given are out of range
    pub sheet-one : sheet_given (read_sheet b slots channels blocked rule).answer ≡ refused 1 [] ↔ ((UpTo 128 slots × UpTo 16 channels) → ⊥)
    sheet-one =
        let f = fault-told Size in
        let m = fault-one s w.fits in
        (λ e u. m.0 (f.0 e) (rw (w.slots_are, w.channels_are) u), λ n. f.1 (m.1 (λ u. n (rw (← w.slots_are, ← w.channels_are) u))))

    -- W11, and else 24 exactly where the rule given is not 1 or 2
    pub sheet-twenty-four : sheet_given (read_sheet b slots channels blocked rule).answer ≡ refused 24 []
        ↔ (UpTo 128 slots × UpTo 16 channels × ((rule ≡ 1) ⊎ (rule ≡ 2) → ⊥))
    sheet-twenty-four =
        let f = fault-told Rule in
        let m = fault-twenty-four s w.fits in
        (λ e. rw (w.slots_are, w.channels_are, w.rule_is) at (m.0 (f.0 e)), λ n. f.1 (m.1 (rw (w.slots_are, w.channels_are, w.rule_is) n)))

    -- and else 3 exactly where a cell marks itself, with the lowest one
    pub sheet-three : (k : ℕ) → sheet_given (read_sheet b slots channels blocked rule).answer ≡ refused 3 ((k + 1) ∷ []) ↔ MarksItself s k
    sheet-three k =
        let f = fault-told (Reach (k + 1)) in
        let m = fault-three s w.fits k in
        (λ e. m.0 (f.0 e), λ n. f.1 (m.1 n))

    -- W8, and else 20 exactly where a position past the site's is blocked, with the lowest one
    pub sheet-twenty : (k : ℕ) → sheet_given (read_sheet b slots channels blocked rule).answer ≡ refused 20 (k ∷ []) ↔ BlockedPast s k
    sheet-twenty k =
        let f = fault-told (Blocked k) in
        let m = fault-twenty s w.fits k in
        (λ e. m.0 (f.0 e), λ n. f.1 (m.1 n))

  -- "each gives a site of zeros"
  pub sheet-refused-zeros : (sheet_given (read_sheet b slots channels blocked rule).answer ≡ done → ⊥) → (read_sheet b slots channels blocked rule).site
      ≡ zero_site
  sheet-refused-zeros n = refused-zeros b slots channels blocked rule words (λ e. n (ap sheet_given e))

-- `1` where it reaches and `0` where not: the byte of the written sheet at the mark of b in the line of a is the digit 1 exactly where a reaches b
pub mark-means : (s : Site) (a b : ℕ) → a < s.cells → b < s.cells → get_or (sheet_bytes s) (mark_place s a b) 0 ≡ 49 ↔ reaches s.reach a b ≡ true
mark-means s a b p q = go (reaches s.reach a b) (marks-reach s a b p q)
  where
    go : (t : Bool) → get_or (sheet_bytes s) (mark_place s a b) 0 ≡ 48 + bit t → get_or (sheet_bytes s) (mark_place s a b) 0 ≡ 49 ↔ t ≡ true
    go true e = (λ _. refl, λ _. e)
    go false e = (λ h. absurd (omega arith), λ h. absurd (true≢false (sym h)))
