-- `stretches::lay_open` meets its contract: before each position, those passed are laid down, and the open ones of them are counted. Assumes nothing.
use Rattle.std.proofs.Common.{arith, ◌≡◌, ◌+◌, refl}
use Rattle.laws.specs.Part.{list_of}
use Rattle.laws.specs.Sum.{sum}
use Rattle.laws.proofs.Sums.{count_most}
use Rattle.site.specs.Reach.{is_open}
use Rattle.stretches.proofs.Open.{at_most_one, free_more, laid_more}
use Rattle.stretches.proofs.lay_open.Goals as goal

pub loop-span-init : goal.loop-span-init
unfolding list_of sum
loop-span-init c = (omega arith, refl, refl)

pub returns-then-run-used : goal.returns-then-run-used
returns-then-run-used c = let l = c.loop-span in
    let a = c.args in
    let some = count_most (λ d. is_open a.blocked.now (a.from + d)) l.span in record {
      fits = omega (arith, some, l.invariant.1);
      free = l.invariant.1;
      words = l.invariant.2;
    }

pub overflow_add-used : goal.overflow_add-used
overflow_add-used c = omega (arith, c.one_unless-used.ensures, at_most_one c.is_blocked-shut.result)

pub loop-span-preserved : goal.loop-span-preserved
loop-span-preserved c = let l = c.loop-span in
    let a = c.args in
    let b = c.is_blocked-shut in (
      omega (arith, c.one_unless-used.ensures, at_most_one b.result),
      free_more a.blocked.now a.from l.span b.ensures l.invariant.1 c.one_unless-used.ensures,
      laid_more a.blocked.now a.from l.span b.ensures a.word l.words a.words.now c.word_unless.ensures l.invariant.2,
    )

pub returns : goal.returns
returns c = let l = c.loop-span in
    let e : l.span ≡ c.args.most = omega arith in record {
      fits = omega (arith, l.invariant.0, c.requires);
      free = rw e at l.invariant.1;
      words = rw e at l.invariant.2;
    }
