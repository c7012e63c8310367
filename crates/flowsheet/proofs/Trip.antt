-- A written line is read as what was written; so line by line, and the first line before them: the sheet of some flows brings the reader to what stands after
-- it, with these flows. Assumes nothing.
use Prim.Native.Nat.{ℕ, zero, suc, ◌+◌, ◌-◌, ◌≤◌, ◌<◌}
use mathlib.Core.Path.{◌≡◌, refl, sym, ap, ◌∙◌}
use mathlib.Core.Bool.{true, false}
use mathlib.Core.List.{List, [], ◌∷◌, ◌++◌, append_assoc, append-nil}
use native.Mathlib.Omega.{arith}
use native.Mathlib.Nat.{add-zero}
use lib.ListN.{length, length-append}
use lib.Seq.{drop-append_seam, drop-append-add}
use lib.Dec.{leb}
use borrow.Author.Tests.{leb-true, le-leb, ne_eqb}
use Rattle.laws.proofs.Choice.{both}
use Rattle.text.specs.Decimal.{decimal}
use Rattle.lines.specs.Format.{column, line_number}
use Rattle.lines.specs.Content.{scanned}
use Rattle.lines.proofs.Match.{starts-there}
use Rattle.lines.proofs.Numbers.{scanned-decimal, scanned-end}
use Rattle.flowlist.specs.List.{flow_at, with_flow, gathered}
use Rattle.flowlist.proofs.Laws.{gathered-count}
use Rattle.flowlist.specs.declared.Flow.{Flow}
use Rattle.flowlist.specs.declared.FlowList.{FlowList}
use Rattle.flowsheet.specs.Format.{flow_head, flow_line, flow_lines, flow_sheet}
use Rattle.flowsheet.specs.Read.{after, flow_in, flow_fits, flow_ok, flows_done, bad_flows, too_many, at_end, flows_from, read_flows}
use Rattle.flowsheet.specs.Means.{FlowFits}
use Rattle.flowsheet.proofs.Fields.{line-some}

-- ---- a written number, and a byte below the digits after it

module _ (v d : ℕ) (x : List ℕ) (few : v ≤ 65535) (low : d < 48) where
  number-there : scanned 0 (decimal v ++ (d ∷ x)) ≡ v
  number-there = scanned-decimal v (d ∷ x) (omega arith) ∙ scanned-end v d x low

  after-there : after (decimal v ++ (d ∷ x)) ≡ x
  unfolding after
  after-there = rw number-there (drop-append-add (decimal v) (d ∷ x) 1)

-- ---- a written line, and any bytes after it

-- each number is at most 65,535
pub fit : (f : Flow) → flow_fits f ≡ true → FlowFits f
unfolding flow_fits
fit f h =
    let a = both (leb f.cell 65535) _ h in
    let b = both (leb f.burst 65535) _ a.1 in
    let c = both (leb f.period 65535) _ b.1 in
    let d = both (leb f.repeats 65535) (leb f.value 65535) c.1 in
    record {
      cell = leb-true _ _ a.0;
      burst = leb-true _ _ b.0;
      period = leb-true _ _ c.0;
      repeats = leb-true _ _ d.0;
      value = leb-true _ _ d.1;
    }

pub fit_is : (f : Flow) → FlowFits f → flow_fits f ≡ true
unfolding flow_fits
fit_is f h =
    rw (le-leb _ _ h.cell, le-leb _ _ h.burst, le-leb _ _ h.period, le-leb _ _ h.repeats, le-leb _ _ h.value)

module _ (f : Flow) (r : List ℕ) (h : flow_fits f ≡ true) where
  abbrev x₄ : List ℕ
  x₄ = decimal f.value ++ (13 ∷ 10 ∷ r)

  abbrev x₃ : List ℕ
  x₃ = decimal f.repeats ++ (44 ∷ x₄)

  abbrev x₂ : List ℕ
  x₂ = decimal f.period ++ (44 ∷ x₃)

  abbrev x₁ : List ℕ
  x₁ = decimal f.burst ++ (44 ∷ x₂)

  whole : flow_line f ++ r ≡ decimal f.cell ++ (44 ∷ x₁)
  unfolding flow_line column
  whole = simp append_assoc

  flow-at : flow_in (decimal f.cell ++ (44 ∷ x₁)) ≡ f
  unfolding flow_in
  flow-at =
      let l = fit f h in
      rw (
        after-there f.cell 44 x₁ l.cell (omega arith),
        after-there f.burst 44 x₂ l.burst (omega arith),
        after-there f.period 44 x₃ l.period (omega arith),
        after-there f.repeats 44 x₄ l.repeats (omega arith),
        number-there f.cell 44 x₁ l.cell (omega arith),
        number-there f.burst 44 x₂ l.burst (omega arith),
        number-there f.period 44 x₃ l.period (omega arith),
        number-there f.repeats 44 x₄ l.repeats (omega arith),
        number-there f.value 13 (10 ∷ r) l.value (omega arith),
      )

  -- it is read as what was written
  pub flow-written : flow_in (flow_line f ++ r) ≡ f
  flow-written = ap flow_in whole ∙ flow-at

  pub ok-written : flow_ok (flow_line f ++ r) ≡ true
  unfolding flow_ok
  ok-written = rw (flow-written, h) (starts-there (flow_line f) r)

  not_end : at_end (flow_line f ++ r) ≡ false
  not_end = ne_eqb (length (flow_line f ++ r)) 0 (λ e. omega (arith, length-append (flow_line f) r, line-some f))

  -- and the reader goes on after it
  line-passed : (m : ℕ) (l : FlowList) → flows_from (suc m) l (flow_line f ++ r) ≡ flows_from m (with_flow l f) r
  unfolding flows_from
  line-passed m l = rw (not_end, ok-written, flow-written, drop-append_seam (flow_line f) r)

-- ---- the flows of a sheet that was written

no_lines : (m : ℕ) (l : FlowList) → flows_from m l [] ≡ flows_done l
unfolding flows_from
no_lines zero l = refl
no_lines (suc m) l = refl

stop-here : (m : ℕ) (l : FlowList) (r : List ℕ) → at_end r ≡ false → flow_ok r ≡ false → flows_from (suc m) l r ≡ bad_flows (line_number l.count)
unfolding flows_from
stop-here m l r some bad = rw (some, bad)

no_room-law : (l : FlowList) (r : List ℕ) → at_end r ≡ false → flows_from 0 l r ≡ too_many
unfolding flows_from
no_room-law l r some = rw some

module _ (fs : List Flow) where
  -- after the lines of n flows the reader has these, and goes on
  lines-read :
      (n k m : ℕ) (r : List ℕ) → n ≤ m → ((i : ℕ) → i < k + n → flow_fits (flow_at fs i) ≡ true)
      → flows_from m (gathered fs k) (flow_lines (flow_at fs) k n ++ r) ≡ flows_from (m - n) (gathered fs (k + n)) r
  unfolding flow_lines gathered
  lines-read zero k m r h fits = let e : m - zero ≡ m = omega arith in rw (add-zero k, e)
  lines-read (suc n) k zero r h fits = absurd (omega arith)
  lines-read (suc n) k (suc m) r h fits =
      let e : suc k + n ≡ k + suc n = omega arith in
      let d : suc m - suc n ≡ m - n = omega arith in
      rw (append_assoc (flow_line (flow_at fs k)) (flow_lines (flow_at fs) (suc k) n) r, d, ← e)
      (line-passed (flow_at fs k) (flow_lines (flow_at fs) (suc k) n ++ r) (fits k (omega arith)) m (gathered fs k)
      ∙ lines-read n (suc k) m r (omega arith) (λ i l. fits i (omega arith)))

  -- of at most 16 flows, each number at most 65,535
  module _ (n : ℕ) (few : n ≤ 16) (fits : (i : ℕ) → i < n → flow_fits (flow_at fs i) ≡ true) where
    sheet-read : (r : List ℕ) → read_flows (flow_sheet (flow_at fs) n ++ r) ≡ flows_from (16 - n) (gathered fs n) r
    unfolding read_flows flow_sheet gathered
    sheet-read r =
        let e : 0 + n ≡ n = omega arith in
        rw (
          append_assoc flow_head (flow_lines (flow_at fs) 0 n) r,
          starts-there flow_head (flow_lines (flow_at fs) 0 n ++ r),
          drop-append_seam flow_head (flow_lines (flow_at fs) 0 n ++ r),
        )
        (lines-read n 0 16 r few (λ i l. fits i (omega arith))
        ∙ ap (λ (i : ℕ). flows_from (16 - n) (gathered fs i) r) e)

    -- reading their sheet gives these flows
    pub read-written : read_flows (flow_sheet (flow_at fs) n) ≡ flows_done (gathered fs n)
    read-written = ap read_flows (sym (append-nil (flow_sheet (flow_at fs) n))) ∙ sheet-read [] ∙ no_lines (16 - n) (gathered fs n)

    -- 17 gives the first line that is not so, from 1: the line after those of n flows is not of the format
    pub bad-after : (r : List ℕ) → n < 16 → at_end r ≡ false → flow_ok r ≡ false → read_flows (flow_sheet (flow_at fs) n ++ r) ≡ bad_flows (line_number n)
    bad-after r less some bad = sheet-read r ∙ no_line-law (15 - n) (omega arith) (gathered-count fs n)
      where
        no_line-law : (m : ℕ) → 16 - n ≡ suc m → (gathered fs n).count ≡ n → flows_from (16 - n) (gathered fs n) r ≡ bad_flows (line_number n)
        no_line-law m e c = ap (λ (i : ℕ). flows_from i (gathered fs n) r) e ∙ stop-here m (gathered fs n) r some bad ∙ ap
            (λ (i : ℕ). bad_flows (line_number i)) c

    -- A line after the sixteenth flow's is 18, whatever stands in it.
    pub seventeenth : (r : List ℕ) → n ≡ 16 → at_end r ≡ false → read_flows (flow_sheet (flow_at fs) n ++ r) ≡ too_many
    seventeenth r all some = sheet-read r ∙ ap (λ (i : ℕ). flows_from i (gathered fs n) r) (omega arith) ∙ no_room-law (gathered fs n) r some
