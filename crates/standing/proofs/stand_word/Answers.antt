-- `standing::stand_word` meets its contract: where each set is one word, the word of the turn is its set. Assumes nothing.
use mathlib.Core.Path.{◌≡◌, ap, ◌∙◌}
use mathlib.Core.Bool.{◌&&◌, not}
use Prim.Native.Nat.{ℕ}
use lib.ListN.{set, get_or}
use Rattle.laws.specs.Bits.{bit_at, bit_in, word_of}
use Rattle.laws.specs.Sum.{any}
use Rattle.standing.proofs.Words.{word_stands, word-short, word-changes}
use Rattle.standing.proofs.stand_word.Goals as goal

pub returns : goal.returns
returns c =
    let is_free : c.free_word-free.result ≡ word_of (λ k. bit_at (get_or c.args.vacant.now 0 0) k && not
    (any (λ a. bit_at c.args.row a && bit_in c.args.stands.now a k) c.args.i)) 64 = let a = c.args in
    c.free_word-free.ensures
    ∙ ap (λ (v : ℕ). word_of (λ k. bit_at v k && not (any (λ b. bit_at a.row b && bit_in a.stands.now b k) a.i)) 64)
    c.first_of.ensures in
    let a = c.args in record {
      stands = ap (set a.stands.now a.i) c.word_turn-turn.ensures.here
          ∙ word_stands a.stands.now a.vacant.now a.old.now a.i a.load a.row is_free a.w c.requires.0;
      short = c.word_turn-turn.ensures.short ∙ word-short a.stands.now a.vacant.now a.old.now a.i a.load a.row is_free a.w c.requires.0;
      changes = c.word_turn-turn.ensures.changes ∙ word-changes a.stands.now a.vacant.now a.old.now a.i a.load a.row is_free a.w c.requires.0;
    }
