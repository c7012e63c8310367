-- The two parts in which the program writes a listing: the head, which is one line or four, and then a line for each planned cell.
use Rattle.std.specs.Prelude.{ℕ, ◌*◌, ◌≤◌, ◌<◌, List, length, Result, Ok, Err}
use Rattle.theory.specs.Greedy.{greedy}
use Rattle.site.specs.Record.{positions}
use Rattle.site.specs.Reach.{net_of}
use Rattle.site.specs.declared.Site.{Site}
use Rattle.planner.specs.Plan.{answer_of, plan_table}
use Rattle.records.specs.declared.Refusal.{Refusal}
use Rattle.sitefile.specs.Read.{read_site}
use Rattle.phrases.specs.Phrases.{phrase}
use Rattle.say_listing.specs.Lines.{listing_lines}
use Rattle.listing.specs.Answers.{row_count}
use Rattle.listhead.specs.Listing.{head_lines, unread_line}
use Rattle.listhead.specs.declared.Rest.{Rest}

abbrev pub head_of : Site → Result Unit Refusal → List ℕ
head_of s (Ok u) = head_lines s
head_of s (Err r) = phrase listing_lines (unread_line r)

-- the table that the cell lines are read from
abbrev pub table_left : Site → Result Unit Refusal → List ℕ → List ℕ
table_left s (Ok u) t = plan_table s t
table_left s (Err r) t = t

-- the head's length, and of the cell lines their number and the positions and channels of a row
unfoldable pub site_rest : Site → Rest
site_rest s =
    record {
      end = length (head_lines s);
      rows = row_count (answer_of (greedy (net_of s))) s.cells;
      width = positions s;
      channels = s.channels;
    }

abbrev pub rest_of : Site → Result Unit Refusal → Rest
rest_of s (Ok u) = site_rest s
rest_of s (Err r) = record { end = length (phrase listing_lines (unread_line r)); rows = 0; width = 0; channels = 0 }

-- the same of a file's bytes
abbrev pub file_head : List ℕ → List ℕ
file_head file = head_of (read_site file).site (read_site file).answer

abbrev pub file_table : List ℕ → List ℕ → List ℕ
file_table file t = table_left (read_site file).site (read_site file).answer t

abbrev pub file_rest : List ℕ → Rest
file_rest file = rest_of (read_site file).site (read_site file).answer

-- what makes the program safe: the head is short, and the rows stand within a table of 65,536 bytes
pub record RestFits (r : Rest) : Type 0 where
  pub short : r.end ≤ 800
  pub few : r.rows ≤ 32
  pub narrow : r.width ≤ 2048
  pub within : r.rows * r.width ≤ 65536
  pub some : 0 < r.rows → 0 < r.channels
