-- `planfile::read_body` meets its contract: at each return the tests say which reason applies. Assumes nothing.
use Prim.Native.Nat.{ℕ, ◌+◌, ◌≤◌}
use mathlib.Core.Path.{◌≡◌, sym, ap, ◌∙◌}
use mathlib.Core.List.{List}
use native.Mathlib.Omega.{arith}
use lib.ListN.{length}
use lib.Seq.{sets}
use Rattle.records.specs.Opener.{open_at, open_answer}
use Rattle.records.specs.Head.{entries_of_head}
use Rattle.records.specs.declared.Length.TheVariants.{Exact}
use Rattle.std.specs.Prelude.{Ok, Err}
use Rattle.records.specs.Reasons.{refusal}
use Rattle.records.specs.declared.Refusal.{Refusal}
use Rattle.records.specs.Bits.{bytes_for, left_over}
use Rattle.planbits.specs.Bits.{bits_from}
use Rattle.planfile.specs.Read.{plan_at, body_in, end_in, refused_plan}
use Rattle.planfile.proofs.ReadLaws.{entries-are, few, due, body-stop, within, ends, body_is, body-long}
use Rattle.planfile.proofs.ReadLaws.{left-stop, more-stop, short-stop, read_done, refuse, accept}
use Rattle.planfile.proofs.read_body.Goals as goal

pub overflow_add-m : goal.overflow_add-m
overflow_add-m c =
    let size : c.entries-n.result ≡ entries_of_head c.args.bytes.now = c.entries-n.ensures
    ∙ entries-are c.args.bytes.now c.args.table.now c.args.cells c.args.slots c.args.channels c.requires in
    let size-most : c.entries-n.result ≤ 65536 = rw size (few c.args.bytes.now c.args.table.now c.args.cells c.args.slots c.args.channels c.requires) in
    omega (arith, size-most)

pub overflow_cast-m : goal.overflow_cast-m
overflow_cast-m c =
    let size : c.entries-n.result ≡ entries_of_head c.args.bytes.now = c.entries-n.ensures
    ∙ entries-are c.args.bytes.now c.args.table.now c.args.cells c.args.slots c.args.channels c.requires in
    let size-most : c.entries-n.result ≤ 65536 = rw size (few c.args.bytes.now c.args.table.now c.args.cells c.args.slots c.args.channels c.requires) in
    omega (arith, size-most)

pub returns-in_default : goal.returns-in_default
returns-in_default c =
    let size : c.entries-n.result ≡ entries_of_head c.args.bytes.now = c.entries-n.ensures
    ∙ entries-are c.args.bytes.now c.args.table.now c.args.cells c.args.slots c.args.channels c.requires in
    let plan-open : let s = c.args.bytes.now in c.open-o.result ≡ open_at s (plan_at s) 4
    (Exact (2 + bytes_for (entries_of_head s))) = let s = c.args.bytes.now in
    c.open-o.ensures ∙ (λ j. open_at s (due s c.args.table.now _ _ _ c.requires j) 4 (Exact (2 + bytes_for (size j)))) in
    let e = c.in_default.is in
    let r = refuse c.args.bytes.now c.args.table.now _ (body-stop c.args.bytes.now c.args.table.now _ _ _ c.requires _
    (sym plan-open ∙ e)) in record { value = c.refused.ensures ∙ ap refused_plan (c.opened_answer.ensures ∙ ap open_answer e) ∙ r.0; table_after = r.1 }

pub overflow_add-end : goal.overflow_add-end
overflow_add-end c =
    let size : c.entries-n.result ≡ entries_of_head c.args.bytes.now = c.entries-n.ensures
    ∙ entries-are c.args.bytes.now c.args.table.now c.args.cells c.args.slots c.args.channels c.requires in
    let plan-open : let s = c.args.bytes.now in c.open-o.result ≡ open_at s (plan_at s) 4
    (Exact (2 + bytes_for (entries_of_head s))) = let s = c.args.bytes.now in
    c.open-o.ensures ∙ (λ j. open_at s (due s c.args.table.now _ _ _ c.requires j) 4 (Exact (2 + bytes_for (size j)))) in
    let found : let s = c.args.bytes.now in open_at s (plan_at s) 4 (Exact (2 + bytes_for (entries_of_head s)))
    ≡ Ok (c.in-Ok.start, c.in-Ok.len) = sym plan-open ∙ c.in-Ok.is in
    let within-input : c.in-Ok.start + c.in-Ok.len ≤ length c.args.bytes.now = within c.args.bytes.now c.args.table.now _ _ _ c.requires _ _ found in
    omega (arith, within-input)

pub slice_bounds-left_over-end : goal.slice_bounds-left_over-end
slice_bounds-left_over-end c =
    let size : c.entries-n.result ≡ entries_of_head c.args.bytes.now = c.entries-n.ensures
    ∙ entries-are c.args.bytes.now c.args.table.now c.args.cells c.args.slots c.args.channels c.requires in
    let plan-open : let s = c.args.bytes.now in c.open-o.result ≡ open_at s (plan_at s) 4
    (Exact (2 + bytes_for (entries_of_head s))) = let s = c.args.bytes.now in
    c.open-o.ensures ∙ (λ j. open_at s (due s c.args.table.now _ _ _ c.requires j) 4 (Exact (2 + bytes_for (size j)))) in
    let found : let s = c.args.bytes.now in open_at s (plan_at s) 4 (Exact (2 + bytes_for (entries_of_head s)))
    ≡ Ok (c.in-Ok.start, c.in-Ok.len) = sym plan-open ∙ c.in-Ok.is in
    let within-input : c.in-Ok.start + c.in-Ok.len ≤ length c.args.bytes.now = within c.args.bytes.now c.args.table.now _ _ _ c.requires _ _ found in
    within-input

pub left_over-requires : goal.left_over-requires
left_over-requires c =
    let size : c.entries-n.result ≡ entries_of_head c.args.bytes.now = c.entries-n.ensures
    ∙ entries-are c.args.bytes.now c.args.table.now c.args.cells c.args.slots c.args.channels c.requires in
    let plan-open : let s = c.args.bytes.now in c.open-o.result ≡ open_at s (plan_at s) 4
    (Exact (2 + bytes_for (entries_of_head s))) = let s = c.args.bytes.now in
    c.open-o.ensures ∙ (λ j. open_at s (due s c.args.table.now _ _ _ c.requires j) 4 (Exact (2 + bytes_for (size j)))) in
    let found : let s = c.args.bytes.now in open_at s (plan_at s) 4 (Exact (2 + bytes_for (entries_of_head s)))
    ≡ Ok (c.in-Ok.start, c.in-Ok.len) = sym plan-open ∙ c.in-Ok.is in
    ap length (body_is c.args.bytes.now c.args.table.now _ _ _ c.requires _ _ found)
    ∙ body-long c.args.bytes.now c.args.table.now _ _ _ c.requires _ _ found
    ∙ ap bytes_for (sym size)

pub returns-then-left_over : goal.returns-then-left_over
returns-then-left_over c =
    let size : c.entries-n.result ≡ entries_of_head c.args.bytes.now = c.entries-n.ensures
    ∙ entries-are c.args.bytes.now c.args.table.now c.args.cells c.args.slots c.args.channels c.requires in
    let plan-open : let s = c.args.bytes.now in c.open-o.result ≡ open_at s (plan_at s) 4
    (Exact (2 + bytes_for (entries_of_head s))) = let s = c.args.bytes.now in
    c.open-o.ensures ∙ (λ j. open_at s (due s c.args.table.now _ _ _ c.requires j) 4 (Exact (2 + bytes_for (size j)))) in
    let found : let s = c.args.bytes.now in open_at s (plan_at s) 4 (Exact (2 + bytes_for (entries_of_head s)))
    ≡ Ok (c.in-Ok.start, c.in-Ok.len) = sym plan-open ∙ c.in-Ok.is in
    let left : let s = c.args.bytes.now in c.left_over.result ≡ left_over (body_in s) (entries_of_head s) = c.left_over.ensures
    ∙ ap (λ (l : List ℕ). left_over l c.entries-n.result)
    (body_is c.args.bytes.now c.args.table.now _ _ _ c.requires _ _ found)
    ∙ ap (λ (n : ℕ). left_over (body_in c.args.bytes.now) n) size in
    let s = c.args.bytes.now in
    let t = c.args.table.now in
    let r = refuse s t (refusal 14 (plan_at s)) (left-stop s t _ _ _ c.requires _ _ found
    (sym left ∙ c.if-left_over.true)) in record {
      value = c.refused-then-left_over.ensures ∙ ap (λ (x : Refusal). refused_plan (Err x)) c.refuse.ensures ∙ ap (λ (n : ℕ). refused_plan (Err (refusal 14 n)))
          (due s t _ _ _ c.requires) ∙ r.0;
      table_after = r.1;
    }

pub returns-then-end-bytes : goal.returns-then-end-bytes
returns-then-end-bytes c =
    let size : c.entries-n.result ≡ entries_of_head c.args.bytes.now = c.entries-n.ensures
    ∙ entries-are c.args.bytes.now c.args.table.now c.args.cells c.args.slots c.args.channels c.requires in
    let plan-open : let s = c.args.bytes.now in c.open-o.result ≡ open_at s (plan_at s) 4
    (Exact (2 + bytes_for (entries_of_head s))) = let s = c.args.bytes.now in
    c.open-o.ensures ∙ (λ j. open_at s (due s c.args.table.now _ _ _ c.requires j) 4 (Exact (2 + bytes_for (size j)))) in
    let found : let s = c.args.bytes.now in open_at s (plan_at s) 4 (Exact (2 + bytes_for (entries_of_head s)))
    ≡ Ok (c.in-Ok.start, c.in-Ok.len) = sym plan-open ∙ c.in-Ok.is in
    let left : let s = c.args.bytes.now in c.left_over.result ≡ left_over (body_in s) (entries_of_head s) = c.left_over.ensures
    ∙ ap (λ (l : List ℕ). left_over l c.entries-n.result)
    (body_is c.args.bytes.now c.args.table.now _ _ _ c.requires _ _ found)
    ∙ ap (λ (n : ℕ). left_over (body_in c.args.bytes.now) n) size in
    let s = c.args.bytes.now in
    let t = c.args.table.now in
    let e = ends s t _ _ _ c.requires _ _ found in
    let r = refuse s t (refusal 12 (end_in s)) (more-stop s t _ _ _ c.requires _ _ found (sym left ∙ c.if-left_over.false)
    (rw e at c.if-end-bytes.true)) in record {
      value = c.refused-then-end-bytes.ensures
          ∙ ap (λ (x : Refusal). refused_plan (Err x)) c.refuse-then-end-bytes.ensures
          ∙ ap (λ (n : ℕ). refused_plan (Err (refusal 12 n))) e ∙ r.0;
      table_after = r.1;
    }

pub returns-then-table-n : goal.returns-then-table-n
returns-then-table-n c =
    let size : c.entries-n.result ≡ entries_of_head c.args.bytes.now = c.entries-n.ensures
    ∙ entries-are c.args.bytes.now c.args.table.now c.args.cells c.args.slots c.args.channels c.requires in
    let plan-open : let s = c.args.bytes.now in c.open-o.result ≡ open_at s (plan_at s) 4
    (Exact (2 + bytes_for (entries_of_head s))) = let s = c.args.bytes.now in
    c.open-o.ensures ∙ (λ j. open_at s (due s c.args.table.now _ _ _ c.requires j) 4 (Exact (2 + bytes_for (size j)))) in
    let found : let s = c.args.bytes.now in open_at s (plan_at s) 4 (Exact (2 + bytes_for (entries_of_head s)))
    ≡ Ok (c.in-Ok.start, c.in-Ok.len) = sym plan-open ∙ c.in-Ok.is in
    let left : let s = c.args.bytes.now in c.left_over.result ≡ left_over (body_in s) (entries_of_head s) = c.left_over.ensures
    ∙ ap (λ (l : List ℕ). left_over l c.entries-n.result)
    (body_is c.args.bytes.now c.args.table.now _ _ _ c.requires _ _ found)
    ∙ ap (λ (n : ℕ). left_over (body_in c.args.bytes.now) n) size in
    let s = c.args.bytes.now in
    let t = c.args.table.now in
    let e = ends s t _ _ _ c.requires _ _ found in
    let r =
    refuse s t (refusal 4 0)
    (short-stop s t _ _ _ c.requires _ _ found (sym left ∙ c.if-left_over.false) (rw e at c.if-end-bytes.false)
    (rw size at c.if-table-n.true)) in record {
      value = c.refused-then-table-n.ensures ∙ ap (λ (x : Refusal). refused_plan (Err x)) c.refuse-then-table-n.ensures ∙ r.0;
      table_after = r.1;
    }

pub slice_bounds-unpack-end : goal.slice_bounds-unpack-end
slice_bounds-unpack-end c =
    let size : c.entries-n.result ≡ entries_of_head c.args.bytes.now = c.entries-n.ensures
    ∙ entries-are c.args.bytes.now c.args.table.now c.args.cells c.args.slots c.args.channels c.requires in
    let plan-open : let s = c.args.bytes.now in c.open-o.result ≡ open_at s (plan_at s) 4
    (Exact (2 + bytes_for (entries_of_head s))) = let s = c.args.bytes.now in
    c.open-o.ensures ∙ (λ j. open_at s (due s c.args.table.now _ _ _ c.requires j) 4 (Exact (2 + bytes_for (size j)))) in
    let found : let s = c.args.bytes.now in open_at s (plan_at s) 4 (Exact (2 + bytes_for (entries_of_head s)))
    ≡ Ok (c.in-Ok.start, c.in-Ok.len) = sym plan-open ∙ c.in-Ok.is in
    let within-input : c.in-Ok.start + c.in-Ok.len ≤ length c.args.bytes.now = within c.args.bytes.now c.args.table.now _ _ _ c.requires _ _ found in
    within-input

pub unpack-requires : goal.unpack-requires
unpack-requires c =
    let size : c.entries-n.result ≡ entries_of_head c.args.bytes.now = c.entries-n.ensures
    ∙ entries-are c.args.bytes.now c.args.table.now c.args.cells c.args.slots c.args.channels c.requires in
    let plan-open : let s = c.args.bytes.now in c.open-o.result ≡ open_at s (plan_at s) 4
    (Exact (2 + bytes_for (entries_of_head s))) = let s = c.args.bytes.now in
    c.open-o.ensures ∙ (λ j. open_at s (due s c.args.table.now _ _ _ c.requires j) 4 (Exact (2 + bytes_for (size j)))) in
    let found : let s = c.args.bytes.now in open_at s (plan_at s) 4 (Exact (2 + bytes_for (entries_of_head s)))
    ≡ Ok (c.in-Ok.start, c.in-Ok.len) = sym plan-open ∙ c.in-Ok.is in
    let n = size in
    let s = c.args.bytes.now in
    let t = c.args.table.now in (
      omega (arith, n, ap length (body_is s t _ _ _ c.requires _ _ found), body-long s t _ _ _ c.requires _ _ found),
      c.if-table-n.false,
    )

pub returns : goal.returns
returns c =
    let size : c.entries-n.result ≡ entries_of_head c.args.bytes.now = c.entries-n.ensures
    ∙ entries-are c.args.bytes.now c.args.table.now c.args.cells c.args.slots c.args.channels c.requires in
    let plan-open : let s = c.args.bytes.now in c.open-o.result ≡ open_at s (plan_at s) 4
    (Exact (2 + bytes_for (entries_of_head s))) = let s = c.args.bytes.now in
    c.open-o.ensures ∙ (λ j. open_at s (due s c.args.table.now _ _ _ c.requires j) 4 (Exact (2 + bytes_for (size j)))) in
    let found : let s = c.args.bytes.now in open_at s (plan_at s) 4 (Exact (2 + bytes_for (entries_of_head s)))
    ≡ Ok (c.in-Ok.start, c.in-Ok.len) = sym plan-open ∙ c.in-Ok.is in
    let left : let s = c.args.bytes.now in c.left_over.result ≡ left_over (body_in s) (entries_of_head s) = c.left_over.ensures
    ∙ ap (λ (l : List ℕ). left_over l c.entries-n.result)
    (body_is c.args.bytes.now c.args.table.now _ _ _ c.requires _ _ found)
    ∙ ap (λ (n : ℕ). left_over (body_in c.args.bytes.now) n) size in
    let s = c.args.bytes.now in
    let t = c.args.table.now in
    let n = size in
    let h = rw n at c.if-table-n.false in
    let r = accept s t (read_done s t _ _ _ c.requires _ _ found (sym left ∙ c.if-left_over.false)
    (rw (ends s t _ _ _ c.requires _ _ found) at c.if-end-bytes.false) h) h in record {
      value =
          (λ i. record { cells = c.requires.cells_are i; slots = c.requires.slots_are i; channels = c.requires.channels_are i; answer = Ok tt }) ∙ r.0;
      table_after = c.unpack.ensures
          ∙ ap (λ (x : List ℕ). sets t 0 (bits_from x 0 c.entries-n.result)) (body_is s t _ _ _ c.requires _ _ found)
          ∙ ap (λ (m : ℕ). sets t 0 (bits_from (body_in s) 0 m)) n
          ∙ r.1;
    }
