-- What the reader's answers mean, over the format. Any bytes have a first bad line, which is told, or are the sheet of a record, which is judged: `came`.
-- All else follows from that: 17 with the first bad line and only then, the accepted sheets, the refusals 1, 24 and 3 after 17, and where the marks stand.
-- Assumes nothing.
use Prim.Native.Nat.{ℕ, zero, suc, ◌+◌, ◌-◌, ◌*◌, ◌^◌, ◌≤◌, ◌<◌, ◌/◌, ◌%◌}
use mathlib.Core.Path.{◌≡◌, refl, sym, ap, ◌∙◌}
use mathlib.Core.Bool.{Bool, true, false, not, ◌&&◌, true≢false}
use mathlib.Core.List.{List, [], ◌∷◌, ◌++◌, append_assoc, append-nil}
use mathlib.Core.Logic.{◌↔◌, ◌⊎◌}
use native.Mathlib.Omega.{arith}
use native.Mathlib.Decide.{dec_lt}
use native.Mathlib.Nat.{add-zero, zero-add, div-eq_of_lt, mod-lt}
use lib.ListN.{length, drop, get_or}
use lib.Dec.{ltb, lit<}
use lib.Seq.{get_or-append-add}
use borrow.Author.Tests.{ltb-true, ltb-false, lt-ltb, le-ltb, not-true, not-false}
use Rattle.laws.specs.Sum.{bit}
use Rattle.laws.specs.Choice.{pick}
use Rattle.laws.specs.Search.{first}
use Rattle.laws.proofs.Choice.{refute, both}
use Rattle.laws.proofs.Search.{first-before, first_passes, first-none, first-is, first-least}
use Rattle.laws.proofs.Bits.{digit}
use Rattle.positions.specs.Blocked.{most_positions, blocked_at}
use Rattle.site.specs.Record.{load_at, row_of, positions, up_to, size_ok, rule_ok, row_bad, extra_load, bad_row, extra_blocked, fault_of, zero_site}
use Rattle.site.specs.Reach.{reaches}
use Rattle.site.specs.Means.{UpTo}
use Rattle.site.specs.declared.Site.{Site}
use Rattle.site.specs.declared.Fault.{Fault}
use Rattle.site.specs.declared.Fault.TheVariants.{Size, Rule, Reach, Blocked}
use Rattle.site.proofs.Faults.{up-to, up-to-is, few-positions, ruled, ruled-is}
use Rattle.lines.specs.Format.{crlf, header, marks, label, cell_line, bits_of, line_number}
use Rattle.lines.specs.Content.{cells_of_line, load_of_line, row_of_line, line_in, line_ok, head_ok}
use Rattle.text.specs.Decimal.{decimal}
use Rattle.lines.proofs.Lines.{ok-written, line-there, line-content, marks-at}
use Rattle.lines.proofs.Heads.{head-written, head-is, cells-few}
use Rattle.sheet.specs.Sheet.{line_of, lines_from, sheet_bytes}
use Rattle.sheet.specs.Read.{from, bad_cell, body, site_of_sheet, judged, judged_as, bad_sheet, cells_read, read_sheet}
use Rattle.sheet.specs.Means.{BlockedHeld, FitsSheet, FirstBadOfSheet, no_first_line, no_cell_line, one_too_many, SheetOf, own_mark, sheet_fault}
use Rattle.sheet.specs.Means.{MarksItself, BlockedPast, mark_place}
use Rattle.sheet.specs.declared.SheetRead.{SheetRead}
use Rattle.sheet.specs.declared.SheetError.{SheetError}
use Rattle.sheet.specs.declared.SheetError.TheVariants.{BadLine}
use Rattle.std.specs.Prelude.{Result, Ok, Err}
use Rattle.sheet.proofs.Trip.{bits-two, bad-after, extra-after, sheet-judged, made, lines-made, fits-made}

-- ---- what the record's judge answers

no-line : (s : Site) (f : Result Unit Fault) (l : ℕ) → (judged_as s f).answer ≡ Err (BadLine l) → ⊥
no-line s (Ok u) l e = let z : ◌≡◌ {A = ℕ} 0 1 = cc in omega arith
no-line s (Err f) l e = let z : ◌≡◌ {A = ℕ} 0 1 = cc in omega arith

judged-no-line : (s : Site) (l : ℕ) → (judged s).answer ≡ Err (BadLine l) → ⊥
unfolding judged
judged-no-line s l e = no-line s (fault_of s) l e

-- a record that is accepted has no fault, and is the answer
judged-at : (s : Site) (f : Result Unit Fault) → (judged_as s f).answer ≡ Ok tt → (f ≡ Ok tt) × ((judged_as s f).site ≡ s)
judged-at s (Ok u) e = (refl, refl)
judged-at s (Err f) e = let z : ◌≡◌ {A = ℕ} 0 1 = cc in absurd (omega arith)

judged_done : (s : Site) → (judged s).answer ≡ Ok tt → (fault_of s ≡ Ok tt) × ((judged s).site ≡ s)
unfolding judged
judged_done s e = judged-at s (fault_of s) e

zeros-at : (s : Site) (f : Result Unit Fault) → ((judged_as s f).answer ≡ Ok tt → ⊥) → (judged_as s f).site ≡ zero_site
zeros-at s (Ok u) n = absurd (n refl)
zeros-at s (Err f) n = refl

judged-zeros : (s : Site) → ((judged s).answer ≡ Ok tt → ⊥) → (judged s).site ≡ zero_site
unfolding judged
judged-zeros s n = zeros-at s (fault_of s) n

-- ---- any bytes: the first bad line is told, or the record is judged

data Came (b : List ℕ) (slots channels : ℕ) (blocked : List ℕ) (rule : ℕ) : Type 0 where
  told : (l : ℕ) → FirstBadOfSheet b l → read_sheet b slots channels blocked rule ≡ bad_sheet l → Came b slots channels blocked rule
  was : (s : Site) → SheetOf b slots channels blocked rule s → read_sheet b slots channels blocked rule ≡ judged s → Came b slots channels blocked rule

no_length : (l : List ℕ) → length l ≤ 0 → l ≡ []
no_length [] h = refl
no_length (x ∷ l) h = absurd (omega arith)

some-length : (l : List ℕ) → 0 < length l → (x : ℕ) × (r : List ℕ) × (l ≡ x ∷ r)
some-length [] h = absurd (omega arith)
some-length (x ∷ l) h = (x, l, refl)

-- a line of the format is well
line_ok-law : (n k load row : ℕ) (r : List ℕ) → 0 < n → load ≤ 65535 → line_ok n k (cell_line n k load (bits_of row) ++ r) ≡ true
line_ok-law n k load row r some few = ok-written n k load (bits_of row) r (omega arith) (bits-two row) some few

module _ (b : List ℕ) (slots channels : ℕ) (blocked : List ℕ) (rule : ℕ) (words : BlockedHeld blocked) where
  abbrev n : ℕ
  n = cells_of_line b

  abbrev r : List ℕ
  r = body b

  -- no first line
  without : head_ok b ≡ false → Came b slots channels blocked rule
  unfolding read_sheet
  without h = told 1 (no_first_line refl (λ m q u e. true≢false (sym (head-written m q u.0 u.1) ∙ sym (ap head_ok e) ∙ h))) (rw h)

  module _ (h : head_ok b ≡ true) where
    cells : UpTo 32 n
    cells = ((head-is b h).0, cells-few b)

    well : (k : ℕ) → k ≤ bad_cell n r → (j : ℕ) → j < k → line_ok n j (from n r j) ≡ true
    unfolding bad_cell
    well k low j m = not-false _ (first-before (λ i. not (line_ok n i (from n r i))) 0 n j (omega arith) (omega arith))

    -- the first line, the lines before the k-th and what is left
    parts : (k : ℕ) → k ≤ n → k ≤ bad_cell n r → b ≡ header n ++ (lines_from (made n r slots channels blocked rule k) 0 k ++ from n r k)
    unfolding body from
    parts k most low =
        (head-is b h).1 ∙ ap (λ (x : List ℕ). header n ++ x) (lines-made n r slots channels blocked rule k cells most (well k low) k 0 (omega arith))

    bad-cell : bad_cell n r < n → Came b slots channels blocked rule
    unfolding read_sheet cells_read bad_cell
    bad-cell low =
        let k = bad_cell n r in
        let bad : line_ok n k (from n r k) ≡ false = not-true _ (first_passes (λ i. not (line_ok n i (from n r i))) 0 n (omega arith) low) in
        told (line_number k)
        (no_cell_line (made n r slots channels blocked rule k) k (from n r k) refl
        (fits-made n r slots channels blocked rule k cells (omega arith) (well k (omega arith)) words) low
        (parts k (omega arith) (omega arith))
        (λ load row q few e. true≢false (sym (line_ok-law n k load row q (omega (arith, cells)) few) ∙ sym (ap (line_ok n k) e) ∙ bad)))
        (rw (h, lt-ltb (bad_cell n r) n low))

    module _ (all : n ≤ bad_cell n r) where
      fits : FitsSheet (made n r slots channels blocked rule n)
      fits = fits-made n r slots channels blocked rule n cells (omega arith) (well n all) words

      extra : 0 < length (from n r n) → Came b slots channels blocked rule
      unfolding read_sheet cells_read sheet_bytes
      extra some =
          let w = some-length (from n r n) some in
          let e = parts n (omega arith) all ∙ ap (λ (x : List ℕ). header n ++ (lines_from (made n r slots channels blocked rule n) 0 n ++ x)) w.2 in
          told (line_number n)
          (one_too_many (made n r slots channels blocked rule n) w.0 w.1 refl fits
          (e ∙ sym (append_assoc (header n) (lines_from (made n r slots channels blocked rule n) 0 n) (w.0 ∷ w.1))))
          (rw (h, le-ltb (bad_cell n r) n all, lt-ltb 0 (length (from n r n)) some))

      whole : length (from n r n) ≤ 0 → Came b slots channels blocked rule
      unfolding read_sheet cells_read sheet_bytes site_of_sheet
      whole none =
          let m = made n r slots channels blocked rule n in
          let e = parts n (omega arith) all ∙ ap (λ (x : List ℕ). header n ++ (lines_from m 0 n ++ x)) (no_length _ none) in
          was (made n r slots channels blocked rule n)
          (record {
            fits = fits;
            slots_are = refl;
            channels_are = refl;
            blocked_are = refl;
            rule_is = refl;
            bytes = sym (e ∙ ap (λ (x : List ℕ). header n ++ x) (append-nil (lines_from (made n r slots channels blocked rule n) 0 n)));
          })
          (rw (h, le-ltb (bad_cell n r) n all, le-ltb 0 (length (from n r n)) none))

      after-all : Dec (0 < length (from n r n)) → Came b slots channels blocked rule
      after-all (yes p) = extra p
      after-all (no p) = whole (omega arith)

    after_first : Dec (bad_cell n r < n) → Came b slots channels blocked rule
    after_first (yes p) = bad-cell p
    after_first (no p) = after-all (omega arith) (dec_lt 0 (length (from n r n)))

  came : Came b slots channels blocked rule
  came = go (head_ok b) refl
    where
      go : (t : Bool) → head_ok b ≡ t → Came b slots channels blocked rule
      go true h = after_first h (dec_lt (bad_cell n r) n)
      go false h = without h

  -- ---- 17

  -- "17, sheet malformed, with its first bad line (from 1; missing and extra lines count)": with that line, and only then
  pub bad-first : (l : ℕ) → (read_sheet b slots channels blocked rule).answer ≡ Err (BadLine l) → FirstBadOfSheet b l
  unfolding bad_sheet
  bad-first l e = go came
    where
      go : Came b slots channels blocked rule → FirstBadOfSheet b l
      go (told m f q) =
          let is : ◌≡◌ {A = Result Unit SheetError} (Err (BadLine m)) (Err (BadLine l)) = sym (ap (λ (x : SheetRead). x.answer) q) ∙ e in
          let same : m ≡ l = cc in
          rw (← same) f
      go (was s w q) = absurd (judged-no-line s l (sym (ap (λ (x : SheetRead). x.answer) q) ∙ e))

  pub first-told : (l : ℕ) → FirstBadOfSheet b l → (read_sheet b slots channels blocked rule).answer ≡ Err (BadLine l)
  unfolding read_sheet bad_sheet sheet_bytes
  first-told l (no_first_line e none) =
      let h : head_ok b ≡ false = refute _ (λ t. none (cells_of_line b) _ ((head-is b t).0, cells-few b) (head-is b t).1) in
      rw (h, e)
  first-told l (no_cell_line s k rest e fits low is none) =
      ap (λ (x : SheetRead). x.answer)
      (ap (λ (x : List ℕ). read_sheet x slots channels blocked rule) is
      ∙ bad-after s fits k rest slots channels blocked rule low
      (refute _ (λ t. let w = line-there s.cells k rest t in
      none (load_of_line k rest) (row_of_line s.cells k rest) (drop (length (line_in s.cells k rest)) rest) w.0
      (rw (line-content s.cells k rest) w.1))))
      ∙ ap (λ (k : ℕ). Err (BadLine k)) (sym e)
  first-told l (one_too_many s x rest e fits is) =
      ap (λ (y : SheetRead). y.answer)
      (ap (λ (y : List ℕ). read_sheet y slots channels blocked rule) (is ∙ append_assoc (header s.cells) (lines_from s 0 s.cells) (x ∷ rest))
      ∙ extra-after s fits (x ∷ rest) slots channels blocked rule (omega arith))
      ∙ ap (λ (k : ℕ). Err (BadLine k)) (sym e)

  -- where no line is bad, the bytes are the sheet of a record
  pub no-bad-line : ((l : ℕ) → FirstBadOfSheet b l → ⊥) → (s : Site) × SheetOf b slots channels blocked rule s
  no-bad-line none = go came
    where
      go : Came b slots channels blocked rule → (s : Site) × SheetOf b slots channels blocked rule s
      go (told l f q) = absurd (none l f)
      go (was s w q) = (s, w)

  -- and then the record is judged
  pub sheet-read : (s : Site) → SheetOf b slots channels blocked rule s → read_sheet b slots channels blocked rule ≡ judged s
  sheet-read s w = rw (← w.bytes, ← w.slots_are, ← w.channels_are, ← w.blocked_are, ← w.rule_is) (sheet-judged s w.fits)

  -- "each gives a site of zeros"
  pub refused-zeros : ((read_sheet b slots channels blocked rule).answer ≡ Ok tt → ⊥) → (read_sheet b slots channels blocked rule).site ≡ zero_site
  unfolding bad_sheet
  refused-zeros n = go came
    where
      go : Came b slots channels blocked rule → (read_sheet b slots channels blocked rule).site ≡ zero_site
      go (told l f q) = ap (λ (x : SheetRead). x.site) q
      go (was s w q) = ap (λ (x : SheetRead). x.site) q ∙ judged-zeros s (λ e. n (ap (λ (x : SheetRead). x.answer) q ∙ e))

  -- ---- the accepted sheets

  -- what is accepted is the sheet of the site that is read, and that has no fault
  pub accepted-is : (read_sheet b slots channels blocked rule).answer ≡ Ok tt
      → SheetOf b slots channels blocked rule (read_sheet b slots channels blocked rule).site ×
      (fault_of (read_sheet b slots channels blocked rule).site ≡ Ok tt)
  unfolding bad_sheet
  accepted-is e = go came
    where
      go : Came b slots channels blocked rule
          → SheetOf b slots channels blocked rule (read_sheet b slots channels blocked rule).site
          × (fault_of (read_sheet b slots channels blocked rule).site ≡ Ok tt)
      go (told l f q) =
          let is : ◌≡◌ {A = Result Unit SheetError} (Err (BadLine l)) (Ok tt) = sym (ap (λ (x : SheetRead). x.answer) q) ∙ e in
          let z : ◌≡◌ {A = ℕ} 0 1 = cc in
          absurd (omega arith)
      go (was s w q) =
          let k = judged_done s (sym (ap (λ (x : SheetRead). x.answer) q) ∙ e) in
          let is : (read_sheet b slots channels blocked rule).site ≡ s = ap (λ (x : SheetRead). x.site) q ∙ k.1 in
          rw is (w, k.0)

  -- exactly the sheets of the format are accepted, each as the site whose sheet it is
  pub sheet-accepted : (s : Site) → SheetOf b slots channels blocked rule s → fault_of s ≡ Ok tt
      → read_sheet b slots channels blocked rule ≡ record { site = s; answer = Ok tt }
  unfolding judged
  sheet-accepted s w fine = sheet-read s w ∙ rw fine

-- ---- after 17: 1, then 24, then 3

module _ (s : Site) (fits : FitsSheet s) where
  no_load : extra_load s ≡ 32
  unfolding extra_load
  no_load = first-none (λ k. ltb 0 (load_at s k)) s.cells 32 fits.cells.1 (λ k l h. rw (fits.loads_past k l h))

  -- a row is bad where the cell marks itself, and nowhere else
  own : (k : ℕ) → k < s.cells → row_bad s.cells (row_of s k) k ≡ reaches s.reach k k
  unfolding row_bad reaches
  own k h = rw (lt-ltb k s.cells h, div-eq_of_lt (fits.rows k h))

  other : (k : ℕ) → s.cells ≤ k → k < 32 → row_bad s.cells (row_of s k) k ≡ false
  unfolding row_bad
  other k h l = rw (le-ltb k s.cells h, fits.rows_past k h l)

  bad-row-is : bad_row s ≡ pick (ltb (own_mark s) s.cells) (own_mark s) 32
  unfolding bad_row extra_blocked own_mark
  bad-row-is = go (ltb (own_mark s) s.cells) refl
    where
      mine : ℕ → Bool
      mine k = reaches s.reach k k

      bad : ℕ → Bool
      bad k = row_bad s.cells (row_of s k) k

      go : (t : Bool) → ltb (first mine 0 s.cells) s.cells ≡ t → first bad 0 32 ≡ pick t (first mine 0 s.cells) 32
      go true e =
          let low : first mine 0 s.cells < s.cells = ltb-true _ _ e in
          first-is bad 0 (first mine 0 s.cells) 32 (omega arith) (omega (arith, fits.cells)) (own _ low ∙ first_passes mine 0 s.cells (omega arith) low)
          (λ j g m. own j (omega arith) ∙ first-before mine 0 s.cells j g m)
      go false e =
          let high : s.cells ≤ first mine 0 s.cells = ltb-false _ _ e in
          first-none bad 0 32 (omega arith) (λ j g m. each j (dec_lt j s.cells) high m)
        where
          each : (j : ℕ) → Dec (j < s.cells) → s.cells ≤ first mine 0 s.cells → j < 32 → bad j ≡ false
          each j (yes h) high m = own j h ∙ first-before mine 0 s.cells j (omega arith) (omega arith)
          each j (no h) high m = other j (omega arith) m

  choose : (t : Bool) (k : ℕ) (f : Result Unit Fault) → (t ≡ true → k < 32)
      → pick (ltb (pick t k 32) 32) (Err (Reach (pick t k 32 + 1))) f ≡ pick t (Err (Reach (k + 1))) f
  choose true k f h = rw (lt-ltb k 32 (h refl))
  choose false k f h = refl

  size_is : size_ok s.cells s.slots s.channels ≡ (up_to 128 s.slots && up_to 16 s.channels)
  unfolding size_ok
  size_is = rw (up-to-is 32 s.cells fits.cells)

  -- what follows 3
  abbrev after : Result Unit Fault
  after = pick (ltb (extra_blocked s) most_positions) (Err (Blocked (extra_blocked s))) (Ok tt)

  -- the choices of `sheet_fault`
  abbrev choices : (t o u v : Bool) → Result Unit Fault
  choices t o u v =
      pick t (pick o (pick u (Err (Reach (own_mark s + 1))) (pick v (Err (Blocked (extra_blocked s))) (Ok tt))) (Err Rule)) (Err Size)

  -- 1 for slots or channels out of range, then 24, then 3 with the lowest cell that marks itself, and then 20
  pub fault-is : fault_of s ≡ sheet_fault s
  unfolding fault_of sheet_fault
  fault-is =
      rw (size_is, no_load, bad-row-is)
      (ap (λ (f : Result Unit Fault). pick (up_to 128 s.slots && up_to 16 s.channels) (pick (rule_ok s.rule) f (Err Rule)) (Err Size))
      (choose (ltb (own_mark s) s.cells) (own_mark s) after (λ e. let low : own_mark s < s.cells = ltb-true _ _ e in omega (arith, fits.cells))))

  -- so 1 exactly where slots or channels are out of range
  pub fault-one : fault_of s ≡ Err Size ↔ ((UpTo 128 s.slots × UpTo 16 s.channels) → ⊥)
  unfolding sheet_fault
  fault-one = (
    λ e u. not-size (rule_ok s.rule) (ltb (own_mark s) s.cells) (ltb (extra_blocked s) most_positions)
        (rw (up-to-is 128 s.slots u.0, up-to-is 16 s.channels u.1) at (sym fault-is ∙ e)),
    λ n. fault-is ∙ rw (refute (up_to 128 s.slots && up_to 16 s.channels) (λ t. let w = both _ _ t in n (up-to 128 _ w.0, up-to 16 _ w.1))),
  )
    where
      not-size : (o t u : Bool) → choices true o t u ≡ Err Size → ⊥
      not-size false t u e = let z : ◌≡◌ {A = ℕ} 0 1 = cc in omega arith
      not-size true true u e = let z : ◌≡◌ {A = ℕ} 0 1 = cc in omega arith
      not-size true false true e = let z : ◌≡◌ {A = ℕ} 0 1 = cc in omega arith
      not-size true false false e = let z : ◌≡◌ {A = ℕ} 0 1 = cc in omega arith

  -- and then 24 exactly where the rule is neither 1 nor 2
  pub fault-twenty-four : fault_of s ≡ Err Rule ↔ (UpTo 128 s.slots × UpTo 16 s.channels × ((s.rule ≡ 1) ⊎ (s.rule ≡ 2) → ⊥))
  unfolding sheet_fault
  fault-twenty-four = (
    λ e. to-rule (up_to 128 s.slots && up_to 16 s.channels) (rule_ok s.rule) (ltb (own_mark s) s.cells) (ltb (extra_blocked s) most_positions) refl refl
        (sym fault-is ∙ e),
    λ m. fault-is ∙ rw (up-to-is 128 s.slots m.0, up-to-is 16 s.channels m.1, refute (rule_ok s.rule) (λ t. m.2 (ruled s.rule t))),
  )
    where
      to-rule : (t o u v : Bool) → (up_to 128 s.slots && up_to 16 s.channels) ≡ t → rule_ok s.rule ≡ o →
          choices t o u v ≡ Err Rule →
          UpTo 128 s.slots × UpTo 16 s.channels × ((s.rule ≡ 1) ⊎ (s.rule ≡ 2) → ⊥)
      to-rule false o u v p q e = let z : ◌≡◌ {A = ℕ} 0 1 = cc in absurd (omega arith)
      to-rule true true true v p q e = let z : ◌≡◌ {A = ℕ} 0 1 = cc in absurd (omega arith)
      to-rule true true false true p q e = let z : ◌≡◌ {A = ℕ} 0 1 = cc in absurd (omega arith)
      to-rule true true false false p q e = let z : ◌≡◌ {A = ℕ} 0 1 = cc in absurd (omega arith)
      to-rule true false u v p q e =
          let w = both _ _ p in
          (up-to 128 _ w.0, up-to 16 _ w.1, λ r. true≢false (sym (ruled-is s.rule r) ∙ q))

  -- and else 3 exactly where a cell marks itself, with the lowest one
  pub fault-three : (k : ℕ) → fault_of s ≡ Err (Reach (k + 1)) ↔ MarksItself s k
  unfolding sheet_fault own_mark
  fault-three k = (
    λ e. to-mark (up_to 128 s.slots && up_to 16 s.channels) (rule_ok s.rule) (ltb (own_mark s) s.cells) (ltb (extra_blocked s) most_positions)
        refl refl refl
        (sym fault-is ∙ e),
    λ m.
        let own_is : own_mark s ≡ k = first-is (λ j. reaches s.reach j j) 0 k s.cells (omega arith) m.cell m.itself (λ j g l. m.lower j l) in
        fault-is ∙ rw (
          up-to-is 128 s.slots m.slots,
          up-to-is 16 s.channels m.channels,
          ruled-is s.rule m.ruled,
          own_is,
          lt-ltb k s.cells m.cell,
        ),
  )
    where
      to-mark : (t o u v : Bool) → (up_to 128 s.slots && up_to 16 s.channels) ≡ t → rule_ok s.rule ≡ o → ltb (own_mark s) s.cells ≡ u →
          choices t o u v ≡ Err (Reach (k + 1)) → MarksItself s k
      to-mark false o u v p y q e = let z : ◌≡◌ {A = ℕ} 0 1 = cc in absurd (omega arith)
      to-mark true false u v p y q e = let z : ◌≡◌ {A = ℕ} 0 1 = cc in absurd (omega arith)
      to-mark true true false true p y q e = let z : ◌≡◌ {A = ℕ} 0 1 = cc in absurd (omega arith)
      to-mark true true false false p y q e = let z : ◌≡◌ {A = ℕ} 0 1 = cc in absurd (omega arith)
      to-mark true true true v p y q e =
          let w = both _ _ p in
          let next : own_mark s + 1 ≡ k + 1 = cc in
          let is : own_mark s ≡ k = omega arith in
          let low : own_mark s < s.cells = ltb-true _ _ q in
          record {
            slots = up-to 128 _ w.0;
            channels = up-to 16 _ w.1;
            ruled = ruled s.rule y;
            cell = omega arith;
            itself = rw is at (first_passes (λ j. reaches s.reach j j) 0 s.cells (omega arith) low);
            lower = λ j l. first-before (λ j. reaches s.reach j j) 0 s.cells j (omega arith) (omega arith);
          }

  -- and then 20 exactly where a position past the site's is blocked, with the lowest one
  pub fault-twenty : (k : ℕ) → fault_of s ≡ Err (Blocked k) ↔ BlockedPast s k
  unfolding sheet_fault own_mark extra_blocked
  fault-twenty k = (
    λ e. to-past (up_to 128 s.slots && up_to 16 s.channels) (rule_ok s.rule) (ltb (own_mark s) s.cells) (ltb (extra_blocked s) most_positions)
        refl refl refl refl
        (sym fault-is ∙ e),
    λ m.
        let none : own_mark s ≡ s.cells = first-none (λ j. reaches s.reach j j) 0 s.cells (omega arith) (λ j g l. m.unmarked j l) in
        let is : extra_blocked s ≡ k = first-is (blocked_at s.blocked) (positions s) k most_positions m.past m.most m.there m.lower in
        fault-is ∙ rw (
          up-to-is 128 s.slots m.slots,
          up-to-is 16 s.channels m.channels,
          ruled-is s.rule m.ruled,
          none,
          le-ltb s.cells s.cells (omega arith),
          is,
          lt-ltb k most_positions m.most,
        ),
  )
    where
      to-past : (t o u v : Bool) → (up_to 128 s.slots && up_to 16 s.channels) ≡ t → rule_ok s.rule ≡ o → ltb (own_mark s) s.cells ≡ u
          → ltb (extra_blocked s) most_positions ≡ v
          → choices t o u v ≡ Err (Blocked k) → BlockedPast s k
      to-past false o u v p y q r e = let z : ◌≡◌ {A = ℕ} 0 1 = cc in absurd (omega arith)
      to-past true false u v p y q r e = let z : ◌≡◌ {A = ℕ} 0 1 = cc in absurd (omega arith)
      to-past true true true v p y q r e = let z : ◌≡◌ {A = ℕ} 0 1 = cc in absurd (omega arith)
      to-past true true false false p y q r e = let z : ◌≡◌ {A = ℕ} 0 1 = cc in absurd (omega arith)
      to-past true true false true p y q r e =
          let w = both _ _ p in
          let t = up-to 128 _ w.0 in
          let f = up-to 16 _ w.1 in
          let is : extra_blocked s ≡ k = cc in
          let low : extra_blocked s < most_positions = ltb-true _ _ r in
          let high : s.cells ≤ own_mark s = ltb-false _ _ q in
          let few : positions s ≤ most_positions = few-positions (record {
            cells_some = fits.cells.0;
            cells_most = fits.cells.1;
            slots_some = t.0;
            slots_most = t.1;
            channels_some = f.0;
            channels_most = f.1;
          }) in
          record {
            slots = t;
            channels = f;
            ruled = ruled s.rule y;
            unmarked = λ j l. first-before (λ i. reaches s.reach i i) 0 s.cells j (omega arith) (omega arith);
            past = rw is at (first-least (blocked_at s.blocked) (positions s) most_positions);
            most = rw is at low;
            there = rw is at (first_passes (blocked_at s.blocked) (positions s) most_positions few low);
            lower = λ j g l. first-before (blocked_at s.blocked) (positions s) most_positions j g (omega arith);
          }

-- ---- the marks

module _ (s : Site) where
  lines_split : (d j e : ℕ) → lines_from s j (d + e) ≡ lines_from s j d ++ lines_from s (j + d) e
  unfolding lines_from
  lines_split zero j e = rw (zero-add e, add-zero j)
  lines_split (suc d) j e =
      let p : suc d + e ≡ suc (d + e) = omega arith in
      let q : suc j + d ≡ j + suc d = omega arith in
      rw (p, append_assoc (line_of s j) (lines_from s (suc j) d) (lines_from s (j + suc d) e), ← q)
      (ap (λ (l : List ℕ). line_of s j ++ l) (lines_split d (suc j) e))

  module _ (a b : ℕ) (line : a < s.cells) (column : b < s.cells) where
    lines_at : lines_from s 0 s.cells ≡ lines_from s 0 a ++ (line_of s a ++ lines_from s (suc a) (s.cells - suc a))
    unfolding lines_from
    lines_at =
        let e : s.cells ≡ a + suc (s.cells - suc a) = omega arith in
        ap (lines_from s 0) e ∙ lines_split a 0 (suc (s.cells - suc a)) ∙ rw (zero-add a)

    line-parts : (r : List ℕ) → line_of s a ++ r ≡ label a ++ (decimal (load_at s a) ++ (marks (bits_of (row_of s a)) 0 s.cells ++ (crlf ++ r)))
    unfolding line_of cell_line
    line-parts r = simp append_assoc

    -- `1` where it reaches and `0` where not: the byte at the mark of b in the line of a
    pub marks-reach : get_or (sheet_bytes s) (mark_place s a b) 0 ≡ 48 + bit (reaches s.reach a b)
    unfolding sheet_bytes mark_place bits_of reaches
    marks-reach =
        let r = lines_from s (suc a) (s.cells - suc a) in
        let m = marks (bits_of (row_of s a)) 0 s.cells ++ (crlf ++ r) in
        rw (lines_at, line-parts r)
        (get_or-append-add (header s.cells) (lines_from s 0 a ++ (label a ++ (decimal (load_at s a) ++ m))) _ 0
        ∙ get_or-append-add (lines_from s 0 a) (label a ++ (decimal (load_at s a) ++ m)) _ 0
        ∙ get_or-append-add (label a) (decimal (load_at s a) ++ m) _ 0
        ∙ get_or-append-add (decimal (load_at s a)) m (2 * b + 1) 0
        ∙ marks-at (bits_of (row_of s a)) s.cells 0 b (crlf ++ r) column
        ∙ rw (zero-add b) (ap (λ (v : ℕ). 48 + v) (digit (row_of s a / 2 ^ b % 2) (mod-lt _ (lit< tt)))))
