-- Any sentence over a table whose rows have at most 200 bytes takes at most 2,000 bytes, as a refusal does; and what is put is the sentence. Assumes nothing.
use Prim.Native.Nat.{ℕ, ◌≤◌}
use Prim.Native.String.{String}
use mathlib.Core.Bool.{true, ◌&&◌}
use mathlib.Core.List.{List}
use mathlib.Core.Path.{◌≡◌}
use native.Mathlib.Omega.{arith}
use Rattle.phrases.specs.Phrases.{text_of}
use Rattle.phrases.specs.Put.{Put}
use Rattle.phrases.proofs.Table.{clean, within, phrase-room, phrase-put}
use Rattle.say_refusals.specs.Sentences.{sentence, sentence_in, sentence_room}
use Rattle.say_refusals.specs.declared.Sentence.{Sentence}
use Rattle.say_refusals.specs.declared.Sentence.TheVariants.{Plain, Refusal}

module _ (rows : List String) (fine : (clean rows && within 200 rows) ≡ true) where
  pub sentence-room : (s : Sentence) → sentence_room (text_of rows) s ≤ 2000
  sentence-room (Plain p) = omega (arith, phrase-room 200 rows fine p)
  sentence-room (Refusal number place) = omega arith

  pub sentence-put : (s : Sentence) {before after : List ℕ} {at next : ℕ}
      → Put before at (sentence_in (text_of rows) s) (sentence_room (text_of rows) s) after next → Put before at (sentence rows s) 2000 after next
  sentence-put (Plain p) q = phrase-put 200 rows fine p q
  sentence-put (Refusal number place) q = q
