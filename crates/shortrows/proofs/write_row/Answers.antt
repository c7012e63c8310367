-- `shortrows::write_row` meets its contract: what is filled are the marks. Assumes nothing.
use mathlib.Core.Path.{◌≡◌, sym, ap, subst, ◌∙◌}
use mathlib.Core.List.{List}
use Prim.Native.Nat.{ℕ, ◌*◌}
use native.Mathlib.Omega.{arith}
use lib.ListN.{length}
use lib.Seq.{sets}
use Rattle.laws.specs.Bits.{bit_at}
use Rattle.laws.specs.Part.{list_of}
use Rattle.laws.proofs.Stores.{length-list}
use Rattle.theory.specs.Greedy.{fill, unmet}
use Rattle.shortrows.specs.Short.{mark_in, took_at, Vacant}
use Rattle.shortrows.proofs.write_row.Goals as goal

pub fill_short-requires : goal.fill_short-requires
fill_short-requires c =
    let laid : c.lay_row.new.row ≡ (list_of (mark_in c.args.taken) (c.args.slots * c.args.channels)) = c.lay_row.ensures ∙ ap
    (list_of (mark_in c.args.taken)) c.requires.0 in
    let long : length (list_of (mark_in c.args.taken) (c.args.slots * c.args.channels)) ≡ c.args.slots * c.args.channels = length-list (mark_in c.args.taken)
    (c.args.slots * c.args.channels) in
    (ap length laid ∙ long, c.requires.1, subst (Vacant c.args.free 0) (sym laid) c.requires.2)

pub returns : goal.returns
returns c =
    let laid : c.lay_row.new.row ≡ (list_of (mark_in c.args.taken) (c.args.slots * c.args.channels)) = c.lay_row.ensures ∙ ap
    (list_of (mark_in c.args.taken)) c.requires.0 in
    let long : length (list_of (mark_in c.args.taken) (c.args.slots * c.args.channels)) ≡ c.args.slots * c.args.channels = length-list (mark_in c.args.taken)
    (c.args.slots * c.args.channels) in
    let a = c.args in
    let to = c.fill_short.result.to in record {
      filled = c.fill_short.ensures.filled ∙ ap (fill (bit_at a.free) 0 a.load) laid;
      left = c.fill_short.ensures.left
          ∙ ap (unmet (bit_at a.free) 0 a.load) laid;
      to = c.fill_short.ensures.to ∙ ap (λ (x : List ℕ). sets x 0 (list_of (took_at a.free x) to)) laid;
      within = omega (arith, c.fill_short.ensures.within, ap length laid, long);
    }
