-- The equalities that the contracts of crate `say_cells` state: r is the answer, and x' what a lent x holds afterwards.
-- Made by tools/surface from the source.
use Rattle.std.specs.Prelude.{List, length, ℕ, ◌+◌, ◌≡◌}
use Rattle.say_cells.specs.Cells.{sender_line}
use Rattle.say_cells.specs.declared.SentAs.{SentAs}
use Rattle.site.specs.declared.Site.{Site}
use Rattle.std.proofs.lemmas.List.Edits.{sets}

-- say_cells::put_sender
pub record SayCellsPutSender (out : List ℕ) (site : Site) (table : List ℕ) (kind : SentAs) (i : ℕ) (r : ℕ) (out' : List ℕ) : Type 0 where
  pub answer : r ≡ 0 + length (sender_line site table kind i)
  pub out_after : out' ≡ sets out 0 (sender_line site table kind i)
