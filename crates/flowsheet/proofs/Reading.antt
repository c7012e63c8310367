-- The reader of the lines part way: what is left, from here, gives the whole answer. One law for each way out, and one for a line passed. Assumes nothing.
use Prim.Native.Nat.{ℕ, zero, suc, ◌+◌, ◌-◌, ◌≤◌, ◌<◌}
use mathlib.Core.Path.{◌≡◌, refl, sym, ap, ◌∙◌}
use mathlib.Core.Bool.{Bool, true, false}
use mathlib.Core.List.{List}
use native.Mathlib.Omega.{arith}
use lib.ListN.{length, drop, length-drop}
use lib.Seq.{drop-drop}
use borrow.Author.Tests.{eq-eqb, ne_eqb}
use Rattle.laws.specs.Choice.{pick}
use Rattle.laws.proofs.Choice.{refute}
use Rattle.lines.specs.Format.{line_number}
use Rattle.lines.specs.Match.{nowhere, eaten}
use Rattle.lines.proofs.Steps.{eaten-there, eaten-not}
use Rattle.flowlist.specs.List.{no_flows, with_flow}
use Rattle.flowlist.specs.declared.FlowList.{FlowList}
use Rattle.std.specs.Prelude.{Option, Some, None}
use Rattle.flowsheet.specs.Format.{flow_head, flow_line}
use Rattle.flowsheet.specs.Read.{flow_in, flow_ok, flow_read, flows_done, bad_flows, too_many, at_end, flows_from, read_flows}
use Rattle.flowsheet.specs.declared.FlowRead.{FlowRead}

-- no flow is read yet
pub none_yet : (l : FlowList) → l ≡ no_flows → (s : List ℕ) (at : ℕ)
    → (l.count ≤ 16) × (flows_from (16 - l.count) l (drop at s) ≡ flows_from 16 no_flows (drop at s))
unfolding no_flows
none_yet l e s at =
    let z : l.count ≡ 0 = ap (λ (x : FlowList). x.count) e in
    (omega arith, ap (λ (x : FlowList). flows_from (16 - x.count) x (drop at s)) e)

module _ (s : List ℕ) (p : ℕ) where
  nothing_left : length s ≤ p → at_end (drop p s) ≡ true
  nothing_left h = eq-eqb (length (drop p s)) 0 (omega (arith, length-drop p s))

  some_left : p < length s → at_end (drop p s) ≡ false
  some_left h = ne_eqb (length (drop p s)) 0 (λ e. omega (arith, length-drop p s))

  -- the sheet ends here
  pub ended : length s ≤ p → (m : ℕ) (l : FlowList) → flows_done l ≡ flows_from m l (drop p s)
  unfolding flows_from
  ended h zero l = rw (nothing_left h)
  ended h (suc m) l = rw (nothing_left h)

  -- there is no room for what stands here
  pub full : p < length s → (m : ℕ) (l : FlowList) → m ≡ 0 → too_many ≡ flows_from m l (drop p s)
  unfolding flows_from
  full h m l e = rw (e, some_left h)

  module _ (some : p < length s) (n : Option FlowRead) (read : n ≡ flow_read s p) (m : ℕ) (l : FlowList) where
    told : (t : Bool) → flow_ok (drop p s) ≡ t
        → n ≡ pick t (Some (record { flow = flow_in (drop p s); next = p + length (flow_line (flow_in (drop p s))) })) None
    unfolding flow_read
    told t e = rw (read, e)

    none_some : {x : FlowRead} → None ≡ Some x → ⊥
    none_some h = cc

    some_is : {x y : FlowRead} → Some x ≡ Some y → x ≡ y
    some_is h = cc

    -- a line that is not of the format
    bad : n ≡ None → flow_ok (drop p s) ≡ false
    bad h = refute _ (λ t. none_some (sym h ∙ told true t))

    pub stopped : n ≡ None → bad_flows (line_number l.count) ≡ flows_from (suc m) l (drop p s)
    unfolding flows_from
    stopped h = rw (some_left some, bad h)

    -- one that is
    pub passed : (x : FlowRead) → n ≡ Some x → (l' : FlowList) → l' ≡ with_flow l x.flow
        → flows_from m l' (drop x.next s) ≡ flows_from (suc m) l (drop p s)
    unfolding flows_from
    passed x h l' more = ap (λ (y : FlowList). flows_from m y (drop x.next s)) more ∙ go (flow_ok (drop p s)) refl
      where
        go : (t : Bool) → flow_ok (drop p s) ≡ t → flows_from m (with_flow l x.flow) (drop x.next s) ≡ flows_from (suc m) l (drop p s)
        go true e =
            let q : x ≡ record { flow = flow_in (drop p s); next = p + length (flow_line (flow_in (drop p s))) } = some_is (sym h ∙ told true e) in
            rw (some_left some, e, q, drop-drop (length (flow_line (flow_in (drop p s)))) p s)
        go false e = absurd (none_some (sym (told false e) ∙ h))

-- ---- the first line

module _ (s : List ℕ) (short : length s < nowhere) (a : ℕ) (begun : a ≡ eaten s 0 flow_head) where
  pub no-head : a ≡ nowhere → bad_flows 1 ≡ read_flows s
  unfolding read_flows
  no-head e = rw (eaten-not s 0 flow_head short (omega arith) (sym begun ∙ e))

  pub after-head : (a ≡ nowhere → ⊥) → flows_from 16 no_flows (drop a s) ≡ read_flows s
  unfolding read_flows
  after-head h =
      let t = eaten-there s 0 flow_head (λ e. h (begun ∙ e)) in
      rw (t.0, begun ∙ t.1)
