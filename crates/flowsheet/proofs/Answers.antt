-- What the reader's answers mean, over the format. Any bytes after the first line are the lines of some flows and a rest: one with nothing in it,
-- or after 16 flows, or with no line of a flow (`split`). So the first bad line is told, or there are too many flows, or the flows of the sheet are given:
-- `came`. Assumes nothing.
use Prim.Native.Nat.{ℕ, zero, suc, ◌≤◌, ◌<◌}
use mathlib.Core.Path.{◌≡◌, refl, sym, ap, ◌∙◌}
use mathlib.Core.Bool.{Bool, true, false, true≢false}
use mathlib.Core.List.{List, [], ◌∷◌, ◌++◌, append_assoc, append-nil}
use native.Mathlib.Omega.{arith}
use native.Mathlib.Decide.{dec_lt}
use lib.ListN.{length, drop}
use borrow.Author.Tests.{ne_eqb}
use Rattle.laws.proofs.Choice.{both, refute}
use Rattle.lines.specs.Format.{line_number}
use Rattle.lines.specs.Match.{starts}
use Rattle.lines.proofs.Match.{starts_is, starts-there}
use Rattle.flowlist.specs.List.{flow_at, no_flows, gathered}
use Rattle.flowlist.proofs.Laws.{gathered-count}
use Rattle.flowlist.specs.declared.Flow.{Flow}
use Rattle.flowsheet.specs.Format.{flow_head, flow_line, flow_lines, flow_sheet}
use Rattle.flowsheet.specs.Read.{flow_in, flow_fits, flow_ok, flows_done, bad_flows, too_many, at_end, read_flows}
use Rattle.flowsheet.specs.Means.{FlowFits, sheet_of, FlowsOf, FirstBadOfFlows, no_first_line, no_flow_line, TooManyFlows}
use Rattle.flowsheet.specs.declared.FlowsRead.{FlowsRead}
use Rattle.std.specs.Prelude.{Result, Ok, Err}
use Rattle.flowsheet.specs.declared.FlowsError.{FlowsError}
use Rattle.flowsheet.specs.declared.FlowsError.TheVariants.{BadLine, TooMany}
use Rattle.flowsheet.proofs.Trip.{fit, fit_is, ok-written, read-written, bad-after, seventeenth}

-- ---- any bytes are the lines of some flows, and a rest

-- a list with one flow before
lines_after : (f : Flow) (fs : List Flow) (n k : ℕ) → flow_lines (flow_at (f ∷ fs)) (suc k) n ≡ flow_lines (flow_at fs) k n
unfolding flow_lines
lines_after f fs zero k = refl
lines_after f fs (suc n) k = ap (λ (l : List ℕ). flow_line (flow_at fs k) ++ l) (lines_after f fs n (suc k))

-- a good line is a line of the format
pub ok-line : (r : List ℕ) → flow_ok r ≡ true → FlowFits (flow_in r) × (r ≡ flow_line (flow_in r) ++ drop (length (flow_line (flow_in r))) r)
unfolding flow_ok
ok-line r h = let w = both (flow_fits (flow_in r)) (starts (flow_line (flow_in r)) r) h in (fit _ w.0, starts_is _ r w.1)

-- at most m flows; the rest is empty, or there are m of them, or it is no line of a flow
record Split (m : ℕ) (r : List ℕ) : Type 0 where
  pub flows : List Flow
  pub rest : List ℕ
  pub most : length flows ≤ m
  pub fits : (i : ℕ) → i < length flows → FlowFits (flow_at flows i)
  pub bytes : r ≡ flow_lines (flow_at flows) 0 (length flows) ++ rest
  pub stop : length flows < m → at_end rest ≡ false → flow_ok rest ≡ false

-- no flow at all
nothing : (m : ℕ) (r : List ℕ) → (0 < m → at_end r ≡ false → flow_ok r ≡ false) → Split m r
unfolding flow_lines
nothing m r h = record { flows = []; rest = r; most = omega arith; fits = λ i l. absurd (omega arith); bytes = refl; stop = h }

-- one flow more
one_more : (m : ℕ) (r : List ℕ) → flow_ok r ≡ true → Split m (drop (length (flow_line (flow_in r))) r) → Split (suc m) r
unfolding flow_lines
one_more m r ok s =
    let w = ok-line r ok in
    record {
      flows = flow_in r ∷ s.flows;
      rest = s.rest;
      most = omega (arith, s.most);
      fits = λ i l. each i l w.0;
      bytes =
          w.1
          ∙ ap (λ (x : List ℕ). flow_line (flow_in r) ++ x) s.bytes
          ∙ rw (lines_after (flow_in r) s.flows (length s.flows) 0) (sym (append_assoc (flow_line (flow_in r))
          (flow_lines (flow_at s.flows) 0 (length s.flows)) s.rest));
      stop = λ l. s.stop (omega arith);
    }
  where
    each : (i : ℕ) → i < suc (length s.flows) → FlowFits (flow_in r) → FlowFits (flow_at (flow_in r ∷ s.flows) i)
    each zero l f = f
    each (suc i) l f = s.fits i (omega arith)

split : (m : ℕ) (r : List ℕ) → Split m r
split zero r = nothing zero r (λ l. absurd (omega arith))
split (suc m) r = go (flow_ok r) refl (split m (drop (length (flow_line (flow_in r))) r))
  where
    go : (t : Bool) → flow_ok r ≡ t → Split m (drop (length (flow_line (flow_in r))) r) → Split (suc m) r
    go true e s = one_more m r e s
    go false e s = nothing (suc m) r (λ l h. e)

some : (x : ℕ) (r : List ℕ) → at_end (x ∷ r) ≡ false
some x r = ne_eqb (length (x ∷ r)) 0 (λ e. omega arith)

-- ---- any bytes: a bad line, too many flows, or the flows

data Came (b : List ℕ) : Type 0 where
  told : (l : ℕ) → FirstBadOfFlows b l → read_flows b ≡ bad_flows l → Came b
  over : TooManyFlows b → read_flows b ≡ too_many → Came b
  was : (fs : List Flow) → FlowsOf b fs → read_flows b ≡ flows_done (gathered fs (length fs)) → Came b

module _ (b : List ℕ) where
  -- what each of the three says of the answer
  pub first-told : (l : ℕ) → FirstBadOfFlows b l → read_flows b ≡ bad_flows l
  unfolding read_flows
  first-told l (no_first_line e none) =
      let h : starts flow_head b ≡ false = refute _ (λ t. none _ (starts_is flow_head b t)) in
      rw (h, e)
  first-told l (no_flow_line fs x rest e few fits is none) =
      ap read_flows is
      ∙ bad-after fs (length fs) (omega arith) (λ i l. fit_is _ (fits i l)) (x ∷ rest) few (some x rest)
      (refute _ (λ t. let w = ok-line (x ∷ rest) t in none (flow_in (x ∷ rest)) _ w.0 w.1))
      ∙ ap bad_flows (sym e)

  pub over-told : TooManyFlows b → read_flows b ≡ too_many
  over-told o =
      ap read_flows o.bytes
      ∙ seventeenth o.flows (length o.flows) (omega (arith, o.sixteen)) (λ i l. fit_is _ (o.fits i l)) (o.next ∷ o.rest) o.sixteen
      (some o.next o.rest)

  pub flows-given : (fs : List Flow) → FlowsOf b fs → read_flows b ≡ flows_done (gathered fs (length fs))
  flows-given fs w = ap read_flows w.bytes ∙ read-written fs (length fs) w.few (λ i l. fit_is _ (w.fits i l))

  after_first : starts flow_head b ≡ true → Came b
  unfolding flow_sheet
  after_first h =
      let s = split 16 (drop (length flow_head) b) in
      go s s.rest
      (starts_is flow_head b h
      ∙ ap (λ (x : List ℕ). flow_head ++ x) s.bytes
      ∙ sym (append_assoc flow_head (flow_lines (flow_at s.flows) 0 (length s.flows)) s.rest))
      s.stop
    where
      go : (s : Split 16 (drop (length flow_head) b)) (rest : List ℕ) → b ≡ sheet_of s.flows ++ rest →
          (length s.flows < 16 → at_end rest ≡ false → flow_ok rest ≡ false) → Came b
      go s [] e stop =
          let w : FlowsOf b s.flows = record { few = s.most; fits = s.fits; bytes = e ∙ append-nil (sheet_of s.flows) } in
          was s.flows w (flows-given s.flows w)
      go s (x ∷ rest) e stop = at (dec_lt (length s.flows) 16)
        where
          at : Dec (length s.flows < 16) → Came b
          at (yes l) =
              let f : FirstBadOfFlows b (line_number (length s.flows)) =
              no_flow_line s.flows x rest refl l s.fits e
              (λ g r h q. true≢false (sym (ok-written g r (fit_is g h)) ∙ sym (ap flow_ok q) ∙ stop l (some x rest))) in
              told _ f (first-told _ f)
          at (no l) =
              let o : TooManyFlows b = record { flows = s.flows; sixteen = omega (arith, s.most); fits = s.fits; next = x; rest = rest; bytes = e } in
              over o (over-told o)

  came : Came b
  came = go (starts flow_head b) refl
    where
      go : (t : Bool) → starts flow_head b ≡ t → Came b
      go true h = after_first h
      go false h =
          let f : FirstBadOfFlows b 1 = no_first_line refl (λ r e. true≢false (sym (starts-there flow_head r) ∙ sym (ap (starts flow_head) e) ∙ h)) in
          told 1 f (first-told 1 f)

  -- ---- so each is said exactly where it is so

  -- 17 gives the first line that is not so, from 1.
  pub bad-first : (l : ℕ) → (read_flows b).answer ≡ Err (BadLine l) → FirstBadOfFlows b l
  bad-first l e = go came
    where
      go : Came b → FirstBadOfFlows b l
      go (told m f q) =
          let is : ◌≡◌ {A = Result Unit FlowsError} (Err (BadLine m)) (Err (BadLine l)) = sym (ap (λ (x : FlowsRead). x.answer) q) ∙ e in
          let same : m ≡ l = cc in
          rw (← same) f
      go (over o q) =
          let is : ◌≡◌ {A = Result Unit FlowsError} (Err TooMany) (Err (BadLine l)) = sym (ap (λ (x : FlowsRead). x.answer) q) ∙ e in
          let z : ◌≡◌ {A = ℕ} 0 1 = cc in
          absurd (omega arith)
      go (was fs w q) =
          let is : ◌≡◌ {A = Result Unit FlowsError} (Ok tt) (Err (BadLine l)) = sym (ap (λ (x : FlowsRead). x.answer) q) ∙ e in
          let z : ◌≡◌ {A = ℕ} 0 1 = cc in
          absurd (omega arith)

  -- A line after the sixteenth flow's is 18, whatever stands in it.
  pub over-is : (read_flows b).answer ≡ Err TooMany → TooManyFlows b
  over-is e = go came
    where
      go : Came b → TooManyFlows b
      go (told m f q) =
          let is : ◌≡◌ {A = Result Unit FlowsError} (Err (BadLine m)) (Err TooMany) = sym (ap (λ (x : FlowsRead). x.answer) q) ∙ e in
          let z : ◌≡◌ {A = ℕ} 0 1 = cc in
          absurd (omega arith)
      go (over o q) = o
      go (was fs w q) =
          let is : ◌≡◌ {A = Result Unit FlowsError} (Ok tt) (Err TooMany) = sym (ap (λ (x : FlowsRead). x.answer) q) ∙ e in
          let z : ◌≡◌ {A = ℕ} 0 1 = cc in
          absurd (omega arith)

  -- an accepted sheet is the sheet of the flows that were read
  pub accepted-is : (read_flows b).answer ≡ Ok tt → (fs : List Flow) × FlowsOf b fs × ((read_flows b).flows ≡ gathered fs (length fs))
  accepted-is e = go came
    where
      go : Came b → (fs : List Flow) × FlowsOf b fs × ((read_flows b).flows ≡ gathered fs (length fs))
      go (told m f q) =
          let is : ◌≡◌ {A = Result Unit FlowsError} (Err (BadLine m)) (Ok tt) = sym (ap (λ (x : FlowsRead). x.answer) q) ∙ e in
          let z : ◌≡◌ {A = ℕ} 0 1 = cc in
          absurd (omega arith)
      go (over o q) =
          let is : ◌≡◌ {A = Result Unit FlowsError} (Err TooMany) (Ok tt) = sym (ap (λ (x : FlowsRead). x.answer) q) ∙ e in
          let z : ◌≡◌ {A = ℕ} 0 1 = cc in
          absurd (omega arith)
      go (was fs w q) = (fs, w, ap (λ (x : FlowsRead). x.flows) q)

  -- no flows stand beside a refusal
  pub none_beside : ((read_flows b).answer ≡ Ok tt → ⊥) → (read_flows b).flows ≡ no_flows
  none_beside n = go came
    where
      go : Came b → (read_flows b).flows ≡ no_flows
      go (told m f q) = ap (λ (x : FlowsRead). x.flows) q
      go (over o q) = ap (λ (x : FlowsRead). x.flows) q
      go (was fs w q) = absurd (n (ap (λ (x : FlowsRead). x.answer) q))

  -- at most 16 flows, whatever was read
  pub few-read : (read_flows b).flows.count ≤ 16
  unfolding no_flows
  few-read = go came
    where
      go : Came b → (read_flows b).flows.count ≤ 16
      go (told m f q) = rw q (omega arith)
      go (over o q) = rw q (omega arith)
      go (was fs w q) = rw q (omega (arith, gathered-count fs (length fs), w.few))
