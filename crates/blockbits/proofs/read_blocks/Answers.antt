-- `blockbits::read_blocks` meets its contract: at each return the tests say which reason applies. Assumes nothing.
use Prim.Native.Nat.{ℕ, ◌+◌, ◌<◌}
use mathlib.Core.Path.{◌≡◌, sym, ap, ◌∙◌}
use mathlib.Core.List.{List}
use native.Mathlib.Omega.{arith}
use lib.ListN.{length}
use Rattle.records.specs.Bits.{bytes_for, left_over}
use Rattle.records.specs.Layout.{body_at}
use Rattle.records.specs.Opener.{open_answer}
use Rattle.records.specs.Reasons.{first_reason, record_reasons}
use Rattle.records.specs.declared.Length.TheVariants.{Exact}
use Rattle.std.specs.Prelude.{Ok, Err}
use Rattle.records.specs.Reasons.{refusal}
use Rattle.records.specs.declared.Refusal.{Refusal}
use Rattle.records.proofs.Laws.{Opening, opened, opened-done, not_opened, within, body_is, ends}
use Rattle.blockbits.specs.Blocks.{blocked_of_body, nothing_in}
use Rattle.blockbits.specs.Loop.{no_blocks}
use Rattle.blockbits.proofs.ReadLaws.{blocks-stop, last_none, blocks-left, blocks-nothing, blocks_more, blocks-done, body-long}
use Rattle.blockbits.proofs.read_blocks.Goals as goal

pub returns-then-s-at : goal.returns-then-s-at
returns-then-s-at c = let a = c.args in
    c.no_blocks.ensures ∙ last_none a.s.now a.at a.n c.if-s-at.true

pub returns-in_default : goal.returns-in_default
returns-in_default c =
    let due : c.args.at < length c.args.s.now = omega (arith, c.if-s-at.false) in
    let e = c.in_default.is in
    c.no_blocks-in_default.ensures
    ∙ ap no_blocks (c.opened_answer.ensures ∙ ap open_answer e)
    ∙ blocks-stop _ _ _ due _ (not_opened _ _ 6 _ _ (sym c.open-o.ensures ∙ e))

pub overflow_add-end : goal.overflow_add-end
overflow_add-end c =
    let opening : let a = c.args in Opening a.s.now a.at 6 (Exact (2 + bytes_for a.n)) c.in-Ok.start c.in-Ok.len = opened _ _ _ _ _ _
    (sym c.open-o.ensures ∙ c.in-Ok.is) in
    omega (arith, within _ _ _ _ _ _ opening)

pub slice_bounds-left_over-end : goal.slice_bounds-left_over-end
slice_bounds-left_over-end c =
    let opening : let a = c.args in Opening a.s.now a.at 6 (Exact (2 + bytes_for a.n)) c.in-Ok.start c.in-Ok.len = opened _ _ _ _ _ _
    (sym c.open-o.ensures ∙ c.in-Ok.is) in
    within _ _ _ _ _ _ opening

pub left_over-requires : goal.left_over-requires
left_over-requires c =
    let opening : let a = c.args in Opening a.s.now a.at 6 (Exact (2 + bytes_for a.n)) c.in-Ok.start c.in-Ok.len = opened _ _ _ _ _ _
    (sym c.open-o.ensures ∙ c.in-Ok.is) in
    ap length (body_is _ _ _ _ _ _ opening) ∙ body-long _ _ _ _ _ opening

pub returns-then-left_over : goal.returns-then-left_over
returns-then-left_over c =
    let due : c.args.at < length c.args.s.now = omega (arith, c.if-s-at.false) in
    let opening : let a = c.args in Opening a.s.now a.at 6 (Exact (2 + bytes_for a.n)) c.in-Ok.start c.in-Ok.len = opened _ _ _ _ _ _
    (sym c.open-o.ensures ∙ c.in-Ok.is) in
    let found : let a = c.args in first_reason (record_reasons a.s.now a.at 6 (Exact (2 + bytes_for a.n))) ≡ Ok tt = opened-done _ _ 6 _ _ _
    (sym c.open-o.ensures ∙ c.in-Ok.is) in
    let due-there : let a = c.args in a.at < length a.s.now = due in
    let left : let a = c.args in c.left_over.result ≡ left_over (body_at a.s.now a.at) a.n = c.left_over.ensures ∙ ap (λ (l : List ℕ). left_over l c.args.n)
    (body_is _ _ _ _ _ _ opening) in
    c.no_blocks-then-left_over.ensures ∙ ap (λ (r : Refusal). no_blocks (Err r)) c.refuse.ensures
    ∙ blocks-left _ _ _ due-there found (sym left ∙ c.if-left_over.true)

pub slice_bounds-set_of-end : goal.slice_bounds-set_of-end
slice_bounds-set_of-end c =
    let opening : let a = c.args in Opening a.s.now a.at 6 (Exact (2 + bytes_for a.n)) c.in-Ok.start c.in-Ok.len = opened _ _ _ _ _ _
    (sym c.open-o.ensures ∙ c.in-Ok.is) in
    within _ _ _ _ _ _ opening

pub set_of-blocked-requires : goal.set_of-blocked-requires
set_of-blocked-requires c =
    let opening : let a = c.args in Opening a.s.now a.at 6 (Exact (2 + bytes_for a.n)) c.in-Ok.start c.in-Ok.len = opened _ _ _ _ _ _
    (sym c.open-o.ensures ∙ c.in-Ok.is) in
    omega (arith, ap length (body_is _ _ _ _ _ _ opening) ∙ body-long _ _ _ _ _ opening, c.requires)

pub returns-then-none_blocked : goal.returns-then-none_blocked
returns-then-none_blocked c =
    let due : c.args.at < length c.args.s.now = omega (arith, c.if-s-at.false) in
    let opening : let a = c.args in Opening a.s.now a.at 6 (Exact (2 + bytes_for a.n)) c.in-Ok.start c.in-Ok.len = opened _ _ _ _ _ _
    (sym c.open-o.ensures ∙ c.in-Ok.is) in
    let found : let a = c.args in first_reason (record_reasons a.s.now a.at 6 (Exact (2 + bytes_for a.n))) ≡ Ok tt = opened-done _ _ 6 _ _ _
    (sym c.open-o.ensures ∙ c.in-Ok.is) in
    let due-there : let a = c.args in a.at < length a.s.now = due in
    let left : let a = c.args in c.left_over.result ≡ left_over (body_at a.s.now a.at) a.n = c.left_over.ensures ∙ ap (λ (l : List ℕ). left_over l c.args.n)
    (body_is _ _ _ _ _ _ opening) in
    let set : let a = c.args in c.set_of-blocked.result ≡ blocked_of_body (body_at a.s.now a.at) = c.set_of-blocked.ensures ∙ ap blocked_of_body
    (body_is _ _ _ _ _ _ opening) in
    let nothing : let a = c.args in c.none_blocked.result ≡ nothing_in (blocked_of_body (body_at a.s.now a.at)) = c.none_blocked.ensures ∙ ap
    (λ (l : List ℕ). nothing_in l) set in
    c.no_blocks-then-none_blocked.ensures ∙ ap (λ (r : Refusal). no_blocks (Err r)) c.refuse-then-none_blocked.ensures
    ∙ blocks-nothing _ _ _ due-there found (sym left ∙ c.if-left_over.false) (sym nothing ∙ c.if-none_blocked.true)

pub returns-then-end-s : goal.returns-then-end-s
returns-then-end-s c =
    let due : c.args.at < length c.args.s.now = omega (arith, c.if-s-at.false) in
    let opening : let a = c.args in Opening a.s.now a.at 6 (Exact (2 + bytes_for a.n)) c.in-Ok.start c.in-Ok.len = opened _ _ _ _ _ _
    (sym c.open-o.ensures ∙ c.in-Ok.is) in
    let found : let a = c.args in first_reason (record_reasons a.s.now a.at 6 (Exact (2 + bytes_for a.n))) ≡ Ok tt = opened-done _ _ 6 _ _ _
    (sym c.open-o.ensures ∙ c.in-Ok.is) in
    let due-there : let a = c.args in a.at < length a.s.now = due in
    let left : let a = c.args in c.left_over.result ≡ left_over (body_at a.s.now a.at) a.n = c.left_over.ensures ∙ ap (λ (l : List ℕ). left_over l c.args.n)
    (body_is _ _ _ _ _ _ opening) in
    let set : let a = c.args in c.set_of-blocked.result ≡ blocked_of_body (body_at a.s.now a.at) = c.set_of-blocked.ensures ∙ ap blocked_of_body
    (body_is _ _ _ _ _ _ opening) in
    let nothing : let a = c.args in c.none_blocked.result ≡ nothing_in (blocked_of_body (body_at a.s.now a.at)) = c.none_blocked.ensures ∙ ap
    (λ (l : List ℕ). nothing_in l) set in
    let e = ends _ _ _ _ _ _ opening in
    c.no_blocks-then-end-s.ensures
    ∙ ap (λ (r : Refusal). no_blocks (Err r)) c.refuse-then-end-s.ensures
    ∙ ap (λ (m : ℕ). no_blocks (Err (refusal 12 m))) e
    ∙ blocks_more _ _ _ due-there found (sym left ∙ c.if-left_over.false) (sym nothing ∙ c.if-none_blocked.false) (rw e at c.if-end-s.true)

pub returns : goal.returns
returns c =
    let due : c.args.at < length c.args.s.now = omega (arith, c.if-s-at.false) in
    let opening : let a = c.args in Opening a.s.now a.at 6 (Exact (2 + bytes_for a.n)) c.in-Ok.start c.in-Ok.len = opened _ _ _ _ _ _
    (sym c.open-o.ensures ∙ c.in-Ok.is) in
    let found : let a = c.args in first_reason (record_reasons a.s.now a.at 6 (Exact (2 + bytes_for a.n))) ≡ Ok tt = opened-done _ _ 6 _ _ _
    (sym c.open-o.ensures ∙ c.in-Ok.is) in
    let due-there : let a = c.args in a.at < length a.s.now = due in
    let left : let a = c.args in c.left_over.result ≡ left_over (body_at a.s.now a.at) a.n = c.left_over.ensures ∙ ap (λ (l : List ℕ). left_over l c.args.n)
    (body_is _ _ _ _ _ _ opening) in
    let set : let a = c.args in c.set_of-blocked.result ≡ blocked_of_body (body_at a.s.now a.at) = c.set_of-blocked.ensures ∙ ap blocked_of_body
    (body_is _ _ _ _ _ _ opening) in
    let nothing : let a = c.args in c.none_blocked.result ≡ nothing_in (blocked_of_body (body_at a.s.now a.at)) = c.none_blocked.ensures ∙ ap
    (λ (l : List ℕ). nothing_in l) set in
    (λ j. record { blocked = set j; answer = Ok tt })
    ∙ blocks-done _ _ _ due-there found (sym left ∙ c.if-left_over.false) (sym nothing ∙ c.if-none_blocked.false)
    (rw (ends _ _ _ _ _ _ opening) at c.if-end-s.false)
