-- What an answer says: a phrase of the table of the crate that says it, or a refusal.
use Rattle.std.specs.Prelude.{ℕ, ◌*◌, List, length}
use Prim.Native.String.{String}
use Rattle.phrases.specs.Phrases.{phrase, part_in, phrase_in}
use Rattle.say_refusals.specs.Said.{refused_line}
use Rattle.say_refusals.specs.declared.Sentence.{Sentence}
use Rattle.say_refusals.specs.declared.Sentence.TheVariants.{Plain, Refusal}

abbrev pub sentence : List String → Sentence → List ℕ
sentence rows (Plain p) = phrase rows p
sentence rows (Refusal number place) = refused_line number place

-- ---- as the code has it: over the table's byte string, and with the room that it takes at most

abbrev pub sentence_in : List ℕ → Sentence → List ℕ
sentence_in text (Plain p) = phrase_in text p
sentence_in text (Refusal number place) = refused_line number place

abbrev pub sentence_room : List ℕ → Sentence → ℕ
sentence_room text (Plain p) = 10 * length (part_in text p)
sentence_room text (Refusal number place) = 2000
