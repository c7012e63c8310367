-- What the checker answers. Cells are numbered from 1 in an answer, and positions are counted from 0.
-- What a valid table is stands in theory/specs/Net.antt, and what the verdict names in theory/specs/Verdict.antt.
use Rattle.std.specs.Prelude.{List, ℕ, ◌+◌, ltb, length, Result, Ok, Err}
use Rattle.laws.specs.Choice.{pick}
use Rattle.theory.specs.Net.{Reserved}
use Rattle.theory.specs.Greedy.{reserved}
use Rattle.theory.specs.Verdict.{TableVerdict, valid, barred, clash, wrong, table_verdict}
use Rattle.site.specs.Record.{positions, size, fault_of, answer_with}
use Rattle.site.specs.Reach.{net_of}
use Rattle.site.specs.declared.Site.{Site}
use Rattle.checker.specs.declared.CheckError.{CheckError}
use Rattle.checker.specs.declared.CheckError.TheVariants.{TableShort, Blocked, Clash, Count, Record}

-- W8: 22, "reservation on a blocked position (lowest position, then cell), before 6"
-- 6, "clash in a table": "lowest position; there the pair with the lowest first cell, then second"
-- 7, "wrong number of reservations": "lowest cell, its count"
unfoldable pub verdict_of : TableVerdict → Result Unit CheckError
verdict_of valid = Ok tt
verdict_of (barred k i) = Err (Blocked k (i + 1))
verdict_of (clash k a c) = Err (Clash k (a + 1) (c + 1))
verdict_of (wrong i n) = Err (Count (i + 1) n)

-- "Order: record 1, 2, 3, .. then 4, .. or 6 before 7."; W8: 22 "before 6": a check, by how much is lent, how much is due, and which cells are reserved where
abbrev pub checked_by : Site → (lent due : ℕ) → Reserved → Result Unit CheckError
checked_by s lent due res = answer_with Record (fault_of s) (pick (ltb lent due) (Err TableShort) (verdict_of (table_verdict (net_of s) res)))

-- 4, "lent table shorter than IN"
unfoldable pub check_answer : Site → List ℕ → Result Unit CheckError
check_answer s t = checked_by s (length t) (size s) (reserved (positions s) t)
