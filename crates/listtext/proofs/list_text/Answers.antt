-- `listtext::list_text` meets its contract: the head and the rows of the planned table are the listing. Assumes nothing.
use Prim.Native.Nat.{ℕ, ◌≤◌}
use native.Mathlib.Omega.{arith}
use lib.ListN.{length, replicate, length-replicate}
use Rattle.listtext.proofs.Whole.{head-inside, head-whole, whole}
use Rattle.listtext.proofs.list_text.Goals as goal

short : 800 ≤ length (replicate {A = ℕ} 1024 0)
short = omega (arith, length-replicate {A = ℕ} 1024 0)

long : 65536 ≤ length (replicate {A = ℕ} 65536 0)
long = omega (arith, length-replicate {A = ℕ} 65536 0)

pub listed_head-rest-requires : goal.listed_head-rest-requires
listed_head-rest-requires c = (short, long)

pub slice_bounds-head-end : goal.slice_bounds-head-end
slice_bounds-head-end c = head-inside _ _ _ c.listed_head-rest.ensures.stored c.listed_head-rest.ensures.rest c.listed_head-rest.ensures.fits short

pub slice_bounds-lay_listing-end : goal.slice_bounds-lay_listing-end
slice_bounds-lay_listing-end c = head-whole _ _ _ c.listed_head-rest.ensures.stored c.listed_head-rest.ensures.rest c.listed_head-rest.ensures.fits short

pub lay_listing-requires : goal.lay_listing-requires
lay_listing-requires c = let f = c.listed_head-rest.ensures.fits in record {
  rows_bound =
      (f.few, f.narrow, omega (arith, f.within, c.listed_head-rest.auto.table, long), f.some);
  head_len_bound = omega
      (arith, head-whole _ _ _ c.listed_head-rest.ensures.stored c.listed_head-rest.ensures.rest f short, f.short);
}

pub returns : goal.returns
returns c = let known = c.shared_slice_known-1.given in
    let bytes = c.args.bytes.now in
    let is = whole bytes (replicate 1024 0) _ c.listed_head-rest.ensures.stored c.listed_head-rest.ensures.rest c.listed_head-rest.ensures.fits
    (replicate 65536 0) _ (λ k. omega (arith, known k)) short long c.listed_head-rest.ensures.table in record {
      answer = rw is at
          (c.lay_listing.ensures.answer);
      out = rw is at (c.lay_listing.ensures.out);
    }
