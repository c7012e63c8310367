-- The equalities that the contracts of crate `say_find` state: r is the answer, and x' what a lent x holds afterwards.
-- Made by tools/surface from the source.
use Rattle.std.specs.Prelude.{List, Result, length, ℕ, ◌+◌, ◌≡◌}
use Rattle.finder.specs.Find.{find_answer, find_table}
use Rattle.finder.specs.declared.FindError.{FindError}
use Rattle.finder.specs.declared.Way.{Way}
use Rattle.finds.specs.Find.{find_said, last_line, status_of, why_tries}
use Rattle.finds.specs.Last.{last_word}
use Rattle.site.specs.declared.Site.{Site}
use Rattle.std.proofs.lemmas.List.Edits.{sets}

-- say_find::put_last
pub record SayFindPutLast (out : List ℕ) (at : ℕ) (reply : Result Way FindError) (r : ℕ) (out' : List ℕ) : Type 0 where
  pub answer : r ≡ at + length (last_word reply)
  pub out_after : out' ≡ sets out at (last_word reply)

-- say_find::put_find
pub record SayFindPutFind (out : List ℕ) (at : ℕ) (site : Site) (reply : Result Way FindError) (r : ℕ) (out' : List ℕ) : Type 0 where
  pub answer : r ≡ at + length (find_said site reply)
  pub out_after : out' ≡ sets out at (find_said site reply)

-- say_find::put_last_line
pub record SayFindPutLastLine (out : List ℕ) (at : ℕ) (reply : Result Way FindError) (r : ℕ) (out' : List ℕ) : Type 0 where
  pub answer : r ≡ at + length (last_line reply)
  pub out_after : out' ≡ sets out at (last_line reply)

-- say_find::find_why
pub record SayFindFindWhy (site : Site) (table : List ℕ) (r : Result Way FindError) (table' : List ℕ) : Type 0 where
  pub answer : r ≡ find_answer site why_tries table
  pub table_after : table' ≡ find_table site why_tries table

-- say_find::status
pub record SayFindStatus (reply : Result Way FindError) (r : ℕ) : Type 0 where
  pub answer : r ≡ status_of reply
