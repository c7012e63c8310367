-- `sitefile::read_site` meets its contract: the head, the opener and what follows decide the answer in turn. Assumes nothing.
use Prim.Native.Nat.{◌+◌, ◌*◌, ◌≤◌}
use mathlib.Core.Path.{◌≡◌, sym, ap, ◌∙◌}
use native.Mathlib.Omega.{arith}
use lib.ListN.{length-take}
use Rattle.records.specs.Opener.{open_at, open_answer}
use Rattle.records.specs.Reasons.{first_reason}
use Rattle.records.specs.Head.{cells_of_head}
use Rattle.records.specs.declared.Length.TheVariants.{Exact}
use Rattle.std.specs.Prelude.{Ok}
use Rattle.records.proofs.Laws.{Opening, opened, opened-done, not_opened, within, exact, body_is, ends}
use Rattle.sitehead.specs.Head.{site_head_answer}
use Rattle.sitefile.specs.Reasons.{loads_at, loads_reasons}
use Rattle.sitefile.specs.Read.{loads_of_body, refused_site}
use Rattle.sitehead.proofs.Head.{site-head-read, site-head-sizes}
use Rattle.sitefile.proofs.Reasons.{refuse}
use Rattle.sitefile.proofs.ReadLaws.{loads-stop, head-stop}
use Rattle.sitefile.proofs.read_site.Goals as goal

pub returns-in_default : goal.returns-in_default
returns-in_default c = let e = c.in_default.is in
    let h = c.site_head-head.ensures in
    c.refused.ensures ∙ ap refused_site e ∙ refuse _ _ (head-stop _ _ (sym h ∙ e))

pub two_bytes-cells-requires : goal.two_bytes-cells-requires
two_bytes-cells-requires c =
    let done : site_head_answer c.args.bytes.now ≡ Ok tt = sym c.site_head-head.ensures ∙ c.in-Ok.is in
    omega (arith, (site-head-read _ done).long)

pub two_bytes-requires : goal.two_bytes-requires
two_bytes-requires c =
    let done : site_head_answer c.args.bytes.now ≡ Ok tt = sym c.site_head-head.ensures ∙ c.in-Ok.is in
    omega (arith, (site-head-read _ done).long)

pub overflow_mul-length : goal.overflow_mul-length
overflow_mul-length c =
    let done : site_head_answer c.args.bytes.now ≡ Ok tt = sym c.site_head-head.ensures ∙ c.in-Ok.is in
    let few : c.two_bytes-cells.result ≤ 32 = rw c.two_bytes-cells.ensures (site-head-sizes _ done).cells_most in
    omega (arith, few)

pub overflow_add-length : goal.overflow_add-length
overflow_add-length c =
    let done : site_head_answer c.args.bytes.now ≡ Ok tt = sym c.site_head-head.ensures ∙ c.in-Ok.is in
    let few : c.two_bytes-cells.result ≤ 32 = rw c.two_bytes-cells.ensures (site-head-sizes _ done).cells_most in
    omega (arith, few)

pub returns-in_default-o : goal.returns-in_default-o
returns-in_default-o c =
    let done : site_head_answer c.args.bytes.now ≡ Ok tt = sym c.site_head-head.ensures ∙ c.in-Ok.is in
    let loads-open : let s = c.args.bytes.now in c.open-o.result ≡ open_at s (loads_at s) 2 (Exact (2 + 2 * cells_of_head s)) = let s = c.args.bytes.now in
    c.open-o.ensures ∙ (λ j. open_at s (2 + c.two_bytes.ensures j) 2 (Exact (2 + 2 * c.two_bytes-cells.ensures j))) in
    let e = c.in_default-o.is in
    c.refused-in_default-o.ensures
    ∙ ap refused_site (c.opened_answer.ensures ∙ ap open_answer e)
    ∙ refuse _ _ (loads-stop _ done _ (not_opened _ _ 2 _ _ (sym loads-open ∙ e)))

pub overflow_add-end : goal.overflow_add-end
overflow_add-end c =
    let loads-open : let s = c.args.bytes.now in c.open-o.result ≡ open_at s (loads_at s) 2 (Exact (2 + 2 * cells_of_head s)) = let s = c.args.bytes.now in
    c.open-o.ensures ∙ (λ j. open_at s (2 + c.two_bytes.ensures j) 2 (Exact (2 + 2 * c.two_bytes-cells.ensures j))) in
    let opening : Opening (c.args.bytes.now) (loads_at (c.args.bytes.now)) 2
    (Exact (2 + 2 * cells_of_head (c.args.bytes.now))) c.in-Ok-o.start c.in-Ok-o.len = opened _ _ _ _ _ _ (sym loads-open ∙ c.in-Ok-o.is) in
    omega (arith, within _ _ _ _ _ _ opening)

pub slice_bounds-loads_of-end : goal.slice_bounds-loads_of-end
slice_bounds-loads_of-end c =
    let loads-open : let s = c.args.bytes.now in c.open-o.result ≡ open_at s (loads_at s) 2 (Exact (2 + 2 * cells_of_head s)) = let s = c.args.bytes.now in
    c.open-o.ensures ∙ (λ j. open_at s (2 + c.two_bytes.ensures j) 2 (Exact (2 + 2 * c.two_bytes-cells.ensures j))) in
    let opening : Opening (c.args.bytes.now) (loads_at (c.args.bytes.now)) 2
    (Exact (2 + 2 * cells_of_head (c.args.bytes.now))) c.in-Ok-o.start c.in-Ok-o.len = opened _ _ _ _ _ _ (sym loads-open ∙ c.in-Ok-o.is) in
    within _ _ _ _ _ _ opening

pub loads_of-loads-requires : goal.loads_of-loads-requires
loads_of-loads-requires c =
    let done : site_head_answer c.args.bytes.now ≡ Ok tt = sym c.site_head-head.ensures ∙ c.in-Ok.is in
    let few : c.two_bytes-cells.result ≤ 32 = rw c.two_bytes-cells.ensures (site-head-sizes _ done).cells_most in
    let loads-open : let s = c.args.bytes.now in c.open-o.result ≡ open_at s (loads_at s) 2 (Exact (2 + 2 * cells_of_head s)) = let s = c.args.bytes.now in
    c.open-o.ensures ∙ (λ j. open_at s (2 + c.two_bytes.ensures j) 2 (Exact (2 + 2 * c.two_bytes-cells.ensures j))) in
    let opening : Opening (c.args.bytes.now) (loads_at (c.args.bytes.now)) 2
    (Exact (2 + 2 * cells_of_head (c.args.bytes.now))) c.in-Ok-o.start c.in-Ok-o.len = opened _ _ _ _ _ _ (sym loads-open ∙ c.in-Ok-o.is) in
    let o = opening in
    simp length-take (omega (arith, o.size, exact _ _ o.fits, few, c.two_bytes-cells.ensures))

pub read_rest-requires : goal.read_rest-requires
read_rest-requires c =
    let done : site_head_answer c.args.bytes.now ≡ Ok tt = sym c.site_head-head.ensures ∙ c.in-Ok.is in
    let loads-open : let s = c.args.bytes.now in c.open-o.result ≡ open_at s (loads_at s) 2 (Exact (2 + 2 * cells_of_head s)) = let s = c.args.bytes.now in
    c.open-o.ensures ∙ (λ j. open_at s (2 + c.two_bytes.ensures j) 2 (Exact (2 + 2 * c.two_bytes-cells.ensures j))) in
    let opening : Opening (c.args.bytes.now) (loads_at (c.args.bytes.now)) 2
    (Exact (2 + 2 * cells_of_head (c.args.bytes.now))) c.in-Ok-o.start c.in-Ok-o.len = opened _ _ _ _ _ _ (sym loads-open ∙ c.in-Ok-o.is) in
    let loads-found : first_reason (loads_reasons (c.args.bytes.now) (loads_at (c.args.bytes.now)) (cells_of_head (c.args.bytes.now)))
    ≡ Ok tt = opened-done _ _ 2 _ _ _ (sym loads-open ∙ c.in-Ok-o.is) in
    record {
      head = done;
      found = loads-found;
      place = ends _ _ _ _ _ _ opening;
      cells_are = c.two_bytes-cells.ensures;
      loads_are = c.loads_of-loads.ensures ∙ ap loads_of_body (body_is _ _ _ _ _ _ opening);
    }

pub returns : goal.returns
returns c = c.read_rest.ensures
