-- `shortrows::plan_short_row` meets its contract: the row that it writes is what marking and filling leave, and the word that it notes has what the row
-- reserves. Assumes nothing.
use mathlib.Core.Path.{◌≡◌, sym, ap, subst, ◌∙◌}
use mathlib.Core.Bool.{◌&&◌, not}
use Prim.Native.Nat.{ℕ, ◌+◌, ◌*◌, ◌^◌, ◌≤◌, ◌<◌}
use lib.ListN.{length, get_or, set}
use Rattle.laws.specs.Bits.{bit_at, word_of}
use Rattle.laws.proofs.Part.{length_part, lent, back}
use Rattle.laws.proofs.Words.{word_lt}
use Rattle.shortrows.proofs.Row.{laid-vacant, row-by-words}
use Rattle.shortrows.proofs.plan_short_row.Goals as goal

pub taken_by-taken-requires : goal.taken_by-taken-requires
taken_by-taken-requires c = let a = c.args in
    (c.requires.i_bound.0, subst (λ (x : ℕ). x < 2 ^ a.i) (sym c.near_of-near.ensures) (word_lt (bit_at (get_or a.clash.now a.i 0)) a.i))

pub write_row-filled-requires : goal.write_row-filled-requires
write_row-filled-requires c =
    let free-is : c.without-free.result ≡ word_of (λ b. bit_at c.args.usable b && not (bit_at c.taken_by-taken.result b)) 64 = c.without-free.ensures in
    let fits : c.args.i * (c.args.slots * c.args.channels) + (c.args.slots * c.args.channels) ≤ length c.args.table.now = c.requires.i_bound.2 in
    let a = c.args in (
      ap length (lent (a.i * (c.args.slots * c.args.channels)) (c.args.slots * c.args.channels) a.table.now) ∙ length_part
          (a.i * (c.args.slots * c.args.channels)) (c.args.slots * c.args.channels) a.table.now fits,
      c.requires.i_bound.1,
      laid-vacant (c.args.slots * c.args.channels) c.requires.i_bound.1 a.clash.now a.i a.table.now a.held.now c.requires.words_held.0 c.requires.words_held.1
          a.usable a.load c.requires.i_bound.4
          c.near_of-near.ensures c.taken_by-taken.ensures free-is,
    )

pub returns : goal.returns
returns c =
    let free-is : c.without-free.result ≡ word_of (λ b. bit_at c.args.usable b && not (bit_at c.taken_by-taken.result b)) 64 = c.without-free.ensures in
    let fits : c.args.i * (c.args.slots * c.args.channels) + (c.args.slots * c.args.channels) ≤ length c.args.table.now = c.requires.i_bound.2 in
    let a = c.args in
    let told = row-by-words (c.args.slots * c.args.channels) c.requires.i_bound.1 a.clash.now a.i a.table.now a.held.now c.requires.words_held.0
    c.requires.words_held.1 a.usable a.load c.requires.i_bound.4
    c.near_of-near.ensures c.taken_by-taken.ensures free-is fits c.write_row-filled.result.to c.write_row-filled.ensures.within
    c.write_row-filled.ensures.filled c.write_row-filled.ensures.to
    (back (a.i * (c.args.slots * c.args.channels)) (c.args.slots * c.args.channels) a.table.now c.write_row-filled.new.row) c.low_word.ensures c.shared.ensures
    in record { row = told.0; short = c.write_row-filled.ensures.left ∙ told.1; held = ap (set a.held.now a.i) told.2 }
