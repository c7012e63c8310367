-- `places::put_spread` meets its contract: nothing is put where there is no such place. Assumes nothing.
use Prim.Native.Nat.{◌<◌}
use mathlib.Core.Path.{◌≡◌, sym, ◌∙◌}
use mathlib.Core.Bool.{true}
use native.Mathlib.Omega.{arith}
use borrow.Author.Tests.{lt-ltb, le-ltb}
use Rattle.site.specs.Record.{positions}
use Rattle.phrases.proofs.Put.{put-none}
use Rattle.say_faults.specs.Said.{judgeable}
use Rattle.say_faults.proofs.Ready.{ready-fine, ready-sizes, ready-few}
use Rattle.places.specs.Places.{spread_line}
use Rattle.places.proofs.put_spread.Goals as goal

pub returns-then-not-can_judge : goal.returns-then-not-can_judge
unfolding spread_line
returns-then-not-can_judge c = rw (sym c.can_judge.ensures ∙ c.if-not-can_judge.true) (put-none _ _ _)

pub overflow_mul-site : goal.overflow_mul-site
overflow_mul-site c =
    let judged : judgeable c.args.site c.args.table.now ≡ true = sym c.can_judge.ensures ∙ c.if-not-can_judge.false in
    let a = c.args in omega (arith, ready-few a.site a.table.now judged)

pub returns-then-site-k : goal.returns-then-site-k
unfolding spread_line
returns-then-site-k c =
    let judged : judgeable c.args.site c.args.table.now ≡ true = sym c.can_judge.ensures ∙ c.if-not-can_judge.false in
    let a = c.args in
    rw (judged, le-ltb a.k (positions a.site) c.if-site-k.true) (put-none _ _ _)

pub place_at-place-requires : goal.place_at-place-requires
place_at-place-requires c =
    let judged : judgeable c.args.site c.args.table.now ≡ true = sym c.can_judge.ensures ∙ c.if-not-can_judge.false in
    let a = c.args in
    (judged, c.clash_rows-clash.ensures.clash (ready-fine a.site a.table.now judged), omega (arith, c.if-site-k.false))

pub put_spread_parts-requires : goal.put_spread_parts-requires
put_spread_parts-requires c =
    let judged : judgeable c.args.site c.args.table.now ≡ true = sym c.can_judge.ensures ∙ c.if-not-can_judge.false in
    let a = c.args in
    let ok = judged in (
      omega (arith, (ready-sizes a.site a.table.now ok).channels_some),
      omega (arith, c.if-site-k.false, ready-few a.site a.table.now ok),
      c.requires,
    )

pub returns : goal.returns
unfolding spread_line
returns c =
    let judged : judgeable c.args.site c.args.table.now ≡ true = sym c.can_judge.ensures ∙ c.if-not-can_judge.false in
    let a = c.args in
    let below : a.k < positions a.site = omega (arith, c.if-site-k.false) in
    rw (judged, lt-ltb a.k (positions a.site) below) (rw c.place_at-place.ensures at c.put_spread_parts.ensures)
