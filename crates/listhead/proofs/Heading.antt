-- What the head's code comes to: what was read decides it. Assumes nothing.
use Prim.Native.Nat.{ℕ, ◌≤◌}
use mathlib.Core.Path.{◌≡◌, sym, ap, ◌∙◌}
use mathlib.Core.List.{List}
use native.Mathlib.Omega.{arith}
use lib.ListN.{length}
use Rattle.std.specs.Prelude.{Result, Ok, Err}
use Rattle.site.specs.Record.{fault_of}
use Rattle.planner.specs.Plan.{plan_table}
use Rattle.planner.specs.declared.PlanError.{PlanError}
use Rattle.records.specs.declared.Refusal.{Refusal}
use Rattle.records.specs.Bytes.{Bytes}
use Rattle.sitefile.specs.Read.{read_site}
use Rattle.sitefile.specs.declared.SiteRead.{SiteRead}
use Rattle.sitefile.proofs.Trip.{read-fine}
use Rattle.phrases.specs.Phrases.{phrase}
use Rattle.say_listing.specs.Lines.{listing_lines}
use Rattle.listhead.specs.Listing.{head_lines, unread_line}
use Rattle.listing.specs.Answers.{row_count}
use Rattle.listhead.specs.Parts.{head_of, table_left, site_rest, rest_of, file_head, file_table, file_rest}
use Rattle.listhead.specs.declared.Rest.{Rest}

-- there are no more cell lines than cells
pub no_more : (a : Result Unit PlanError) (cells : ℕ) → row_count a cells ≤ cells
no_more (Ok u) cells = omega arith
no_more (Err e) cells = omega arith

-- an accepted file
module _ (file : List ℕ) {r : SiteRead} (e : r ≡ read_site file) (d : r.answer ≡ Ok tt) where
  answered : (read_site file).answer ≡ Ok tt
  answered = ap (λ (x : SiteRead). x.answer) (sym e) ∙ d

  pub accepted-fine : Bytes file → fault_of r.site ≡ Ok tt
  accepted-fine bytes = ap (λ (x : SiteRead). fault_of x.site) e ∙ read-fine file bytes answered

  pub accepted-head : head_lines r.site ≡ file_head file
  accepted-head = ap (λ (x : SiteRead). head_lines x.site) e ∙ ap (head_of (read_site file).site) (sym answered)

  pub accepted-table : (t : List ℕ) → plan_table r.site t ≡ file_table file t
  accepted-table t =
      ap (λ (x : SiteRead). plan_table x.site t) e ∙ ap (λ (a : Result Unit Refusal). table_left (read_site file).site a t) (sym answered)

  pub accepted-rest : site_rest r.site ≡ file_rest file
  accepted-rest = ap (λ (x : SiteRead). site_rest x.site) e ∙ ap (rest_of (read_site file).site) (sym answered)

-- an unreadable file
module _ (file : List ℕ) {r : SiteRead} {refusal : Refusal} (e : r ≡ read_site file) (d : r.answer ≡ Err refusal) where
  unread : Err refusal ≡ (read_site file).answer
  unread = sym d ∙ ap (λ (x : SiteRead). x.answer) e

  pub refused-head : phrase listing_lines (unread_line refusal) ≡ file_head file
  refused-head = ap (head_of (read_site file).site) unread

  pub refused-table : (t : List ℕ) → t ≡ file_table file t
  refused-table t = ap (λ (a : Result Unit Refusal). table_left (read_site file).site a t) unread

  pub refused-rest :
      ◌≡◌ {A = Rest} (record { end = length (phrase listing_lines (unread_line refusal)); rows = 0; width = 0; channels = 0 })
      (file_rest file)
  refused-rest = ap (rest_of (read_site file).site) unread
