-- `putblocks::put_runs` meets its contract: what is left of the items, stored from here on, gives the whole. Assumes nothing.
use Rattle.std.proofs.Common.{ℕ, ◌+◌, ◌-◌, ◌<◌, ◌≡◌, Bool, true, not, List, ◌++◌, arith}
use Rattle.laws.specs.Bits.{bit_at}
use Rattle.laws.specs.Search.{first}
use Rattle.text.proofs.Writing.{Writing, said, room, stored, ended}
use Rattle.blocklist.specs.Format.{Side, item_text}
use Rattle.putblocks.specs.Canon.{side_for, runs_from}
use Rattle.putblocks.specs.Loop.{comma_if, more_text}
use Rattle.putblocks.proofs.Texts.{runs_none, runs-next, no-runs, start_is, end_is}
use Rattle.putblocks.proofs.put_runs.Goals as goal

-- the run from c to e is next, where i runs are put
next-run : {out₀ whole out : List ℕ} {at₀ at : ℕ} (b : Bool) (side : Side) (channels x f i c e : ℕ) → i < channels → c < channels
    → c ≡ first (bit_at x) f channels → e ≡ first (λ g. not (bit_at x g)) c channels
    → Writing out₀ at₀ whole out at (more_text b (runs_from (channels - i) side channels x f))
    → Writing out₀ at₀ whole out at ((comma_if b ++ item_text (record { slots = side; channels = side_for channels (c + 1) e })) ++
    more_text true (runs_from (channels - (i + 1)) side channels x e))
next-run b side channels x f i c e more h is_c is-e w =
    let s = start_is channels x f c is_c in
    said (runs-next b side channels x f (channels - (i + 1)) (channels - i) c (omega arith) s h e (end_is channels x f c e s is-e)) w

pub returns-then-channels-c : goal.returns-then-channels-c
returns-then-channels-c c = let a = c.args in
    let l = c.loop in
    let s = c.first_bit-c in
    let w = ended (said (runs_none l.more (side_for a.slots a.a a.b) a.channels a.x l.f (a.channels - (l.counter + 1)) (a.channels - l.counter) s.result
    (omega arith) (start_is a.channels a.x l.f s.result s.ensures) (omega arith)) l.invariant) in record { stored = w.0; next = w.1 }

pub put_item-p-requires : goal.put_item-p-requires
put_item-p-requires c = let a = c.args in
    let l = c.loop in
    room _ _ (next-run l.more (side_for a.slots a.a a.b) a.channels a.x l.f l.counter c.first_bit-c.result c.first_bit-e.result (omega arith) (omega arith)
    c.first_bit-c.ensures c.first_bit-e.ensures l.invariant) c.requires.1

pub loop-preserved : goal.loop-preserved
loop-preserved c = let a = c.args in
    let l = c.loop in
    stored _ _ (next-run l.more (side_for a.slots a.a a.b) a.channels a.x l.f l.counter c.first_bit-c.result c.first_bit-e.result (omega arith) (omega arith)
    c.first_bit-c.ensures c.first_bit-e.ensures l.invariant) c.put_item-p.ensures.stored c.put_item-p.ensures.next

pub returns : goal.returns
returns c = let a = c.args in
    let l = c.loop in
    let w = ended (said (no-runs l.more (side_for a.slots a.a a.b) a.channels a.x l.f (a.channels - l.counter) (omega arith)) l.invariant) in record {
      stored = w.0;
      next = w.1;
    }
