-- The equalities that the contracts of crate `say_picture` state: r is the answer, and x' what a lent x holds afterwards.
-- Made by tools/surface from the source.
use Rattle.std.specs.Prelude.{List, length, ℕ, ◌+◌, ◌≡◌}
use Rattle.drawing.specs.Picture.{fact_lines, facts_phrase, head_said, tail_said}
use Rattle.phrases.specs.Phrases.{phrase}
use Rattle.site.specs.declared.Site.{Site}
use Rattle.std.proofs.lemmas.List.Edits.{sets}

-- say_picture::put_picture_head
pub record SayPicturePutPictureHead (out : List ℕ) (at : ℕ) (site : Site) (r : ℕ) (out' : List ℕ) : Type 0 where
  pub answer : r ≡ at + length (head_said site 47)
  pub out_after : out' ≡ sets out at (head_said site 47)

-- say_picture::put_facts
pub record SayPicturePutFacts (out : List ℕ) (at : ℕ) (site : Site) (free : ℕ) (r : ℕ) (out' : List ℕ) : Type 0 where
  pub answer : r ≡ at + length (phrase fact_lines (facts_phrase site))
  pub out_after : out' ≡ sets out at (phrase fact_lines (facts_phrase site))

-- say_picture::put_picture_tail
pub record SayPicturePutPictureTail (out : List ℕ) (at : ℕ) (site : Site) (r : ℕ) (out' : List ℕ) : Type 0 where
  pub answer : r ≡ at + length (tail_said site 11)
  pub out_after : out' ≡ sets out at (tail_said site 11)
