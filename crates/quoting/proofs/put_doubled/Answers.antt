-- `quoting::put_doubled` meets its contract: before a byte, those that stand before it are put, each quote twice. Assumes nothing.
use Rattle.std.proofs.Common.{arith, ◌+◌, ◌*◌, take}
use Rattle.phrases.proofs.Put.{put_both, put-wide, put-none}
use Rattle.quoting.specs.Names.{doubled}
use Rattle.quoting.proofs.Names.{doubled-more}
use Rattle.quoting.proofs.put_doubled.Goals as goal

pub loop-byte-init : goal.loop-byte-init
unfolding doubled
loop-byte-init c = put-none _ _ _

pub loop-byte-preserved : goal.loop-byte-preserved
loop-byte-preserved c = let name = c.args.name.now in
    let i = c.loop-byte.byte-index in
    rw (doubled-more name i c.loop-byte-test.true)
    (put-wide (2 * (i + 1)) (omega arith) (put_both (doubled (take i name)) _ c.loop-byte.invariant c.put_twice-next.ensures))
