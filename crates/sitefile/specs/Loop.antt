-- What the reader of kinds 3 and 6 is given.
use Rattle.std.specs.Prelude.{ℕ, List, ◌≡◌, Ok}
use Rattle.records.specs.Head.{cells_of_head}
use Rattle.records.specs.Layout.{body_at}
use Rattle.records.specs.Reasons.{first_reason}
use Rattle.sitehead.specs.Head.{site_head_answer}
use Rattle.sitefile.specs.Reasons.{loads_at, reach_at, loads_reasons}
use Rattle.sitefile.specs.Read.{loads_of_body}

-- what the reader of kinds 3 and 6 is given: the records before them are in order, and these are their numbers
pub record LoadsRead (s : List ℕ) (at cells : ℕ) (loads : List ℕ) : Type 0 where
  pub head : site_head_answer s ≡ Ok tt
  pub found : first_reason (loads_reasons s (loads_at s) (cells_of_head s)) ≡ Ok tt
  pub place : at ≡ reach_at s
  pub cells_are : cells ≡ cells_of_head s
  pub loads_are : loads ≡ loads_of_body (body_at s (loads_at s))
