-- The head and then the cell lines of the planned table are the whole listing of a file. The rows that the planner left stand at the front of the lent table.
-- Assumes nothing.
use Prim.Native.Nat.{ℕ, zero, suc, ◌+◌, ◌*◌, ◌≤◌}
use mathlib.Core.Path.{◌≡◌, refl, sym, ap, ◌∙◌}
use mathlib.Core.List.{List, ◌++◌, append-nil}
use native.Mathlib.Nat.{mul-le-mul_right, suc-mul}
use native.Mathlib.Omega.{arith}
use lib.ListN.{length, drop}
use Rattle.std.specs.Prelude.{Result, Ok, Err}
use Rattle.laws.proofs.Part.{part-append}
use Rattle.theory.specs.Greedy.{Outcome, planned, no_room, greedy}
use Rattle.theory.proofs.Exact.{planned-size}
use Rattle.site.specs.Record.{positions, size, fault_of}
use Rattle.site.specs.Reach.{net_of}
use Rattle.site.specs.declared.Site.{Site}
use Rattle.site.proofs.Faults.{fine-sized, few_bytes}
use Rattle.planner.specs.Plan.{answer_of, table_of, plan_table}
use Rattle.planner.proofs.Answer.{run-table}
use Rattle.records.specs.declared.Refusal.{Refusal}
use Rattle.records.specs.Bytes.{Bytes}
use Rattle.sitefile.specs.Read.{read_site}
use Rattle.sitefile.proofs.Trip.{read-fine}
use Rattle.phrases.specs.Phrases.{phrase}
use Rattle.say_listing.specs.Lines.{listing_lines, cell_listed}
use Rattle.listhead.specs.Listing.{head_lines, unread_line, cell_lines, cells_of, listing_of, listing}
use Rattle.listing.specs.Answers.{row_count}
use Rattle.listhead.specs.Parts.{head_of, table_left, site_rest, rest_of, file_head, file_table, file_rest}

-- rows that stand in the first part of a table
front :
    (f w : ℕ) (u v : List ℕ) (i n : ℕ) → (i + n) * w ≤ length u → cell_lines f w (u ++ v) i n ≡ cell_lines f w u i n
unfolding cell_lines
front f w u v i zero h = refl
front f w u v i (suc n) h =
    let below : suc i ≤ i + suc n = omega arith in
    let row : i * w + w ≤ length u = omega (arith, mul-le-mul_right w below, suc-mul i w) in
    let e : i + 1 + n ≡ i + suc n = omega arith in
    let rest : (i + 1 + n) * w ≤ length u = rw e h in
    λ k. cell_listed (i + 1) f (part-append (i * w) w u v row k) ++ front f w u v (i + 1) n rest k

-- the cell lines, read from the table that the planner leaves
cells-read :
    (s : Site) (t : List ℕ) → fault_of s ≡ Ok tt → 65536 ≤ length t →
    cells_of s (greedy (net_of s)) ≡ cell_lines s.channels (positions s) (plan_table s t) 0 (row_count (answer_of (greedy (net_of s))) s.cells)
cells-read s t fine long = go (greedy (net_of s)) refl
  where
    held : size s ≤ length t
    held = omega (arith, few_bytes (fine-sized s fine))

    go : (o : Outcome) → greedy (net_of s) ≡ o → cells_of s o ≡ cell_lines s.channels (positions s) (plan_table s t) 0 (row_count (answer_of o) s.cells)
    go (planned u) e =
        let table : plan_table s t ≡ u ++ drop (size s) t = run-table s t fine held ∙ ap (λ (o : Outcome). table_of (size s) o ++ drop (size s) t) e in
        let fits : (0 + s.cells) * positions s ≤ length u = omega (arith, planned-size (net_of s) u e) in
        sym (ap (λ (l : List ℕ). cell_lines s.channels (positions s) l 0 s.cells) table
        ∙ front s.channels (positions s) u (drop (size s) t) 0 s.cells fits)
    go (no_room c m) e = unfold cell_lines in refl

parts :
    (s : Site) (t : List ℕ) (a : Result Unit Refusal) → (a ≡ Ok tt → fault_of s ≡ Ok tt) → 65536 ≤ length t →
    listing_of s a ≡ head_of s a ++ cell_lines (rest_of s a).channels (rest_of s a).width (table_left s a t) 0 (rest_of s a).rows
unfolding site_rest
parts s t (Ok u) fine long = ap (λ (l : List ℕ). head_lines s ++ l) (cells-read s t (fine refl) long)
parts s t (Err r) fine long = unfold cell_lines in sym (append-nil (phrase listing_lines (unread_line r)))

-- what the program writes, all together: `listed_head` gives the first part, and `row_line` each line of the second
pub printed :
    (file t : List ℕ) → Bytes file → 65536 ≤ length t →
    listing file ≡ file_head file ++ cell_lines (file_rest file).channels (file_rest file).width (file_table file t) 0 (file_rest file).rows
unfolding listing
printed file t bytes long = parts (read_site file).site t (read_site file).answer (read-fine file bytes) long
