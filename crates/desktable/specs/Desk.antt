-- The desk examples P1 to P12 of document 01, and sites with a spare cell for W2, as site records, and what each is said to come to, in numbers; for W6 words,
-- for W7 mended tables, for W8 sites with blocked positions, for W9 a side drift, for W10 sites renumbered, for W11 sites under both rules. "Loads are listed
-- by cell. .. where no file gives the reach, the lower cell reaches the higher. Where only N is given, T=N and F=1." Proved in proofs/Desk.antt, in one
-- theorem.
use Rattle.std.specs.Prelude.{List, [], ◌∷◌, ◌++◌, map, ◌≡◌, ℕ, zero, suc, ◌+◌, length, replicate}
use Rattle.site.specs.Record.{site_of, positions, size}
use Rattle.site.specs.Given.{Given}
use Rattle.site.specs.declared.Site.{Site}
use Rattle.planner.specs.Plan.{plan_answer, plan_table}
use Rattle.planner.specs.Given.{plan_given}
use Rattle.judges.specs.Judges.{load_answer, chain_answer, class_answer, least_answer}
use Rattle.judges.specs.Given.{load_given, chain_given, class_given, least_given}
use Rattle.heaviest.specs.Sets.{heaviest_of}
use Rattle.heaviest.specs.Given.{heaviest_given}
use Rattle.checker.specs.Check.{check_answer}
use Rattle.checker.specs.Given.{check_given}
use Rattle.wordtable.specs.Plan.{plan_words_answer, plan_words}
use Rattle.wordtable.specs.Check.{check_words_answer}
use Rattle.wordtable.specs.Forms.{form_answer, to_words, to_bytes}
use Rattle.wordtable.specs.Given.{form_given}
use Rattle.mender.specs.Mend.{mend_answer, mend_table, mend_list}
use Rattle.mender.specs.Given.{mend_given}
use Rattle.numbering.specs.Renumber.{renumber_of}
use Rattle.numbering.specs.Carried.{carry_answer, carry_table}
use Rattle.numbering.specs.Given.{renumber_given, carry_given}
use Rattle.demanded.specs.Numbers.{done, done_with, refused}

-- a list filled up with zeros to n
unfoldable pub with_zeros : ℕ → List ℕ → List ℕ
with_zeros n [] = replicate n 0
with_zeros zero (x ∷ xs) = x ∷ xs
with_zeros (suc n) (x ∷ xs) = x ∷ with_zeros n xs

-- the rule, slots, channels, the loads, the reach rows as numbers, bit b-1 of row a-1 where a reaches b, and the words of the blocked positions
abbrev pub site_ruled : ℕ → ℕ → ℕ → List ℕ → List ℕ → List ℕ → Site
site_ruled rule slots channels loads reach blocked =
    site_of (length loads) slots channels (with_zeros 32 loads) (with_zeros 32 reach) (with_zeros 32 blocked) rule

-- the same under rule 1: W11, "Rule 1 stays for running sites"
abbrev pub site_blocked : ℕ → ℕ → List ℕ → List ℕ → List ℕ → Site
site_blocked = site_ruled 1

-- the same with nothing blocked
abbrev pub site_with : ℕ → ℕ → List ℕ → List ℕ → Site
site_with slots channels loads reach = site_blocked slots channels loads reach []

abbrev pub P1 : Site
P1 = site_with 3 2 (5 ∷ 1 ∷ 4 ∷ []) (0 ∷ 5 ∷ [])

-- W2: "Add P1 with a fourth cell, load 0, clashing with cell 1 alone: chained, as P1 is."
abbrev pub P1spare : Site
P1spare = site_with 3 2 (5 ∷ 1 ∷ 4 ∷ 0 ∷ []) (8 ∷ 5 ∷ [])

abbrev pub P2 : Site
P2 = site_with 3 2 (5 ∷ 2 ∷ 4 ∷ []) (0 ∷ 5 ∷ [])

abbrev pub P3 : Site
P3 = site_with 2 1 (1 ∷ 1 ∷ 1 ∷ []) (4 ∷ 4 ∷ [])

-- P3 with other loads: cells 1 and 2 do not clash with each other, and the spare cell 3 clashes with both
abbrev pub P3spare : Site
P3spare = site_with 2 1 (2 ∷ 1 ∷ 0 ∷ []) (4 ∷ 4 ∷ [])

-- three cells in a row, 1 and 3 clash and 2 clashes with neither: with loads 1, 1, 1 not chained; the first is a spare here
abbrev pub spare_first : Site
spare_first = site_with 2 1 (0 ∷ 1 ∷ 1 ∷ []) (4 ∷ [])

abbrev pub P4 : Site
P4 = site_with 2 1 (1 ∷ 1 ∷ 1 ∷ 1 ∷ []) (4 ∷ 8 ∷ 8 ∷ [])

-- W9: a side drift. Cells 1, 2 and 3 stand in the tunnel, and cell 4 in a drift that leaves it at cell 1: 1~2, 2~3, 1~4
abbrev pub side_drift_site : Site
side_drift_site = site_with 2 1 (1 ∷ 1 ∷ 1 ∷ 1 ∷ []) (10 ∷ 4 ∷ [])

-- W10: P4 renumbered. Its cells 1, 3, 4, 2 stand in a row, and are now 1, 2, 3, 4
abbrev pub P4inARow : Site
P4inARow = site_with 2 1 (1 ∷ 1 ∷ 1 ∷ 1 ∷ []) (2 ∷ 4 ∷ 0 ∷ 4 ∷ [])

-- W10: four cells in a ring
abbrev pub ring : Site
ring = site_with 2 1 (1 ∷ 1 ∷ 1 ∷ 1 ∷ []) (2 ∷ 4 ∷ 8 ∷ 1 ∷ [])

abbrev pub P6 : Site
P6 = site_with 2 1 (1 ∷ 1 ∷ 1 ∷ 1 ∷ 1 ∷ []) (8 ∷ 4 ∷ 16 ∷ 16 ∷ [])

abbrev pub P7 : Site
P7 = site_with 2 1 (1 ∷ 0 ∷ 1 ∷ 1 ∷ 1 ∷ []) (8 ∷ 4 ∷ 16 ∷ 16 ∷ [])

-- one cell, N = 1
abbrev pub alone : ℕ → Site
alone load = site_with 1 1 (load ∷ []) []

-- no site: one cell, and no channel
abbrev pub no_channels : Site
no_channels = site_with 1 0 (2 ∷ []) []

-- two cells that clash, N = 2, a fragment each
abbrev pub pair : Site
pair = site_with 2 1 (1 ∷ 1 ∷ []) (2 ∷ [])

-- W8: P1 with these positions blocked, the first word of the set; and the same with one fragment less in cell 1
abbrev pub P1blocked : ℕ → Site
P1blocked word = site_blocked 3 2 (5 ∷ 1 ∷ 4 ∷ []) (0 ∷ 5 ∷ []) (word ∷ [])

abbrev pub P1lighter : ℕ → Site
P1lighter word = site_blocked 3 2 (4 ∷ 1 ∷ 4 ∷ []) (0 ∷ 5 ∷ []) (word ∷ [])

-- P1 with position 65 blocked, bit 1 of the second word
abbrev pub P1far : Site
P1far = site_blocked 3 2 (5 ∷ 1 ∷ 4 ∷ []) (0 ∷ 5 ∷ []) (0 ∷ 2 ∷ [])

-- one cell without load, and its one position blocked
abbrev pub alone_blocked : Site
alone_blocked = site_blocked 1 1 (0 ∷ []) [] (1 ∷ [])

-- W11: a site under either rule. 1 reaches 2, and 2 and 5 reach 4; cell 3 is spare
abbrev pub edge_site : ℕ → Site
edge_site rule = site_ruled rule 4 2 (4 ∷ 3 ∷ 0 ∷ 3 ∷ 2 ∷ []) (2 ∷ 8 ∷ 0 ∷ 0 ∷ 8 ∷ []) []

-- P3 under rule 2: cells 1 and 2 reach cell 3, and so clash. And the same with so many slots
abbrev pub P3ruled : ℕ → Site
P3ruled slots = site_ruled 2 slots 1 (1 ∷ 1 ∷ 1 ∷ []) (4 ∷ 4 ∷ []) []

-- three cells of which each reaches the later ones, under rule 1, with 3 channels
abbrev pub all_clash : Site
all_clash = site_with 1 3 (1 ∷ 1 ∷ 1 ∷ []) (6 ∷ 4 ∷ [])

-- two cells that nobody reaches, under rule 2, N = 1; and under either rule the same with a spare third cell that both reach
abbrev pub two_apart : Site
two_apart = site_ruled 2 1 1 (1 ∷ 1 ∷ []) [] []

abbrev pub spare_reached : ℕ → Site
spare_reached rule = site_ruled rule 1 1 (1 ∷ 1 ∷ 0 ∷ []) (4 ∷ 4 ∷ []) []

-- four cells in a ring: 1 and 3 reach 2 and 4
abbrev pub ring_ruled : ℕ → Site
ring_ruled rule = site_ruled rule 2 1 (1 ∷ 1 ∷ 1 ∷ 1 ∷ []) (10 ∷ 0 ∷ 10 ∷ []) []

-- one cell and N = 1: channels, rule, a load for cell 2, the row of cell 1, and the first word of the blocked positions
abbrev pub faulty : ℕ → ℕ → ℕ → ℕ → ℕ → Site
faulty channels rule extra row word = site_of 1 1 channels (with_zeros 32 (0 ∷ extra ∷ [])) (with_zeros 32 (row ∷ [])) (with_zeros 32 (word ∷ [])) rule

-- what a call gives back, and what it leaves in the table or the words; for the mender also in the list; for `renumber` the site, new and old numbers
pub data Reply : Type 0 where
  gives : Given → Reply
  leaves : Given → List ℕ → Reply
  mends : Given → List ℕ → List ℕ → Reply
  renumbers : Given → Site → List ℕ → List ℕ → Reply

-- the planner on a table of 9s that is one byte longer than the site's: the last 9 must stay
abbrev pub nines : Site → List ℕ
nines s = replicate (size s + 1) 9

abbrev pub plan_call : Site → Reply
plan_call s = leaves (plan_given (plan_answer s (nines s))) (plan_table s (nines s))

abbrev pub load_call : Site → Reply
load_call s = gives (load_given (load_answer s))

abbrev pub chain_call : Site → Reply
chain_call s = gives (chain_given (chain_answer s))

abbrev pub class_call : Site → Reply
class_call s = gives (class_given (class_answer s))

abbrev pub least_call : Site → Reply
least_call s = gives (least_given (least_answer s))

abbrev pub heaviest_call : Site → Reply
heaviest_call s = gives (heaviest_given (heaviest_of s))

abbrev pub check_call : Site → List ℕ → Reply
check_call s table = gives (check_given (check_answer s table))

-- W6: the word planner on words of 9s, one more than the site's; and the changes of form, into 9s
abbrev pub nine_words : Site → List ℕ
nine_words s = replicate (positions s + 1) 9

abbrev pub plan_words_call : Site → Reply
plan_words_call s = leaves (plan_given (plan_words_answer s (nine_words s))) (plan_words s (nine_words s))

abbrev pub check_words_call : Site → List ℕ → Reply
check_words_call s words = gives (check_given (check_words_answer s words))

abbrev pub to_words_call : Site → List ℕ → Reply
to_words_call s table = leaves (form_given (form_answer s table (nine_words s))) (to_words s table (nine_words s))

abbrev pub to_bytes_call : Site → List ℕ → Reply
to_bytes_call s words = leaves (form_given (form_answer s (nines s) words)) (to_bytes s words (nines s))

-- W7: the mender on a table, with a list of so many 9s
abbrev pub mend_call : Site → List ℕ → ℕ → Reply
mend_call s table room =
    mends (mend_given (mend_answer s table (replicate room 9))) (mend_table s table (replicate room 9)) (mend_list s table (replicate room 9))

-- W10: the numbers as they are given, 0 past the cells; and a table carried into 9s
abbrev pub renumber_call : Site → Reply
renumber_call s = renumbers (renumber_given (renumber_of s).answer) (renumber_of s).site (renumber_of s).new (renumber_of s).old

abbrev pub carry_call : Site → List ℕ → Reply
carry_call s from = leaves (carry_given (carry_answer s from (nines s))) (carry_table s from (nines s))

-- "The planner's refusal 5 leaves the first IN bytes 0"
abbrev pub all_idle : Site → List ℕ
all_idle s = replicate (size s) 0 ++ 9 ∷ []

pub record DeskLine : Type 0 where
  pub asked : Reply
  pub said : Reply

infix 70 ◌⇒◌
abbrev pub ◌⇒◌ : Reply → Reply → DeskLine
a ⇒ b = record { asked = a; said = b }

-- P1 to P12, and W2's sites with a spare cell
abbrev pub desk_rules : List DeskLine
desk_rules =
    -- P1: rows 111110, 222221, 111102; chain yes, load holds
    plan_call P1 ⇒ leaves done (1 ∷ 1 ∷ 1 ∷ 1 ∷ 1 ∷ 0 ∷ 2 ∷ 2 ∷ 2 ∷ 2 ∷ 2 ∷ 1 ∷ 1 ∷ 1 ∷ 1 ∷ 1 ∷ 0 ∷ 2 ∷ 9 ∷ [])
    ∷ chain_call P1 ⇒ gives done
    ∷ load_call P1 ⇒ gives done
    -- W2, P1 with a fourth cell, load 0, clashing with cell 1 alone: chained, as P1 is; the spare cell's row is marked all the same. Before W2:
    -- not chained 1 3 4
    ∷ plan_call P1spare ⇒ leaves done (1 ∷ 1 ∷ 1 ∷ 1 ∷ 1 ∷ 0 ∷ 2 ∷ 2 ∷ 2 ∷ 2 ∷ 2 ∷ 1 ∷ 1 ∷ 1 ∷ 1 ∷ 1 ∷ 0 ∷ 2 ∷ 2 ∷ 2 ∷ 2 ∷ 2 ∷ 2 ∷ 0 ∷ 9 ∷ [])
    ∷ chain_call P1spare ⇒ gives done
    ∷ load_call P1spare ⇒ gives done
    -- P2: load over 2 by 1; refusal 5, cell 2, short 1
    ∷ load_call P2 ⇒ gives (done_with (2 ∷ 1 ∷ []))
    ∷ plan_call P2 ⇒ leaves (refused 5 (2 ∷ 1 ∷ [])) (all_idle P2)
    -- P3: planned 10, 10, 21; load over 3 by 1; not chained 1 2 3
    ∷ plan_call P3 ⇒ leaves done (1 ∷ 0 ∷ 1 ∷ 0 ∷ 2 ∷ 1 ∷ 9 ∷ [])
    ∷ load_call P3 ⇒ gives (done_with (3 ∷ 1 ∷ []))
    ∷ chain_call P3 ⇒ gives (done_with (1 ∷ 2 ∷ 3 ∷ []))
    -- P3 with loads 2, 1, 0: planned 11, 10, 22; chained, and the load test holds. Before W2: not chained 1 2 3, and the spare cell 3 was over by 1
    ∷ plan_call P3spare ⇒ leaves done (1 ∷ 1 ∷ 1 ∷ 0 ∷ 2 ∷ 2 ∷ 9 ∷ [])
    ∷ chain_call P3spare ⇒ gives done
    ∷ load_call P3spare ⇒ gives done
    -- P4: refusal 5, cell 4, short 1; and besides: load over 4 by 1, not chained 1 2 3
    ∷ plan_call P4 ⇒ leaves (refused 5 (4 ∷ 1 ∷ [])) (all_idle P4)
    ∷ load_call P4 ⇒ gives (done_with (4 ∷ 1 ∷ []))
    ∷ chain_call P4 ⇒ gives (done_with (1 ∷ 2 ∷ 3 ∷ []))
    -- P5: P4 with table 10, 01, 01, 10: valid
    ∷ check_call P4 (1 ∷ 0 ∷ 0 ∷ 1 ∷ 0 ∷ 1 ∷ 1 ∷ 0 ∷ []) ⇒ gives done
    -- P6: planned; cell 5 at position 0; and besides: load over 5 by 1, not chained 1 2 4
    ∷ plan_call P6 ⇒ leaves done (1 ∷ 0 ∷ 1 ∷ 0 ∷ 2 ∷ 1 ∷ 2 ∷ 1 ∷ 1 ∷ 2 ∷ 9 ∷ [])
    ∷ load_call P6 ⇒ gives (done_with (5 ∷ 1 ∷ []))
    ∷ chain_call P6 ⇒ gives (done_with (1 ∷ 2 ∷ 4 ∷ []))
    -- P7: P6 with load 0 in cell 2: refusal 5, cell 5, short 1
    ∷ plan_call P7 ⇒ leaves (refused 5 (5 ∷ 1 ∷ [])) (all_idle P7)
    -- and besides: load over 5 by 1; not chained 1 3 4, since cell 2 is spare. Before W2: 1 2 4
    ∷ load_call P7 ⇒ gives (done_with (5 ∷ 1 ∷ []))
    ∷ chain_call P7 ⇒ gives (done_with (1 ∷ 3 ∷ 4 ∷ []))
    -- P8: P1, rows 111110, 000001, 111110: refusal 7, cell 3, count 5
    ∷ check_call P1 (1 ∷ 1 ∷ 1 ∷ 1 ∷ 1 ∷ 0 ∷ 0 ∷ 0 ∷ 0 ∷ 0 ∷ 0 ∷ 1 ∷ 1 ∷ 1 ∷ 1 ∷ 1 ∷ 1 ∷ 0 ∷ []) ⇒ gives (refused 7 (3 ∷ 5 ∷ []))
    -- P9: P1, rows 111110, 000001, 001111: refusal 6, position 5, cells 2 and 3
    ∷ check_call P1 (1 ∷ 1 ∷ 1 ∷ 1 ∷ 1 ∷ 0 ∷ 0 ∷ 0 ∷ 0 ∷ 0 ∷ 0 ∷ 1 ∷ 0 ∷ 0 ∷ 1 ∷ 1 ∷ 1 ∷ 1 ∷ []) ⇒ gives (refused 6 (5 ∷ 2 ∷ 3 ∷ []))
    -- P10, P11, P12: one cell, N = 1, load 0: row 0; load 1: row 1; load 2: refusal 5, cell 1, short 1
    ∷ plan_call (alone 0) ⇒ leaves done (0 ∷ 9 ∷ [])
    ∷ plan_call (alone 1) ⇒ leaves done (1 ∷ 9 ∷ [])
    ∷ plan_call (alone 2) ⇒ leaves (refused 5 (1 ∷ 1 ∷ [])) (all_idle (alone 2))
    ∷ []

-- how many channel-slots do, and a spare cell once more
abbrev pub desk_least : List DeskLine
desk_least =
    -- how many channel-slots do: P1 has 6 and needs them all, its spare cell asks nothing; P2 needs 7;
    -- 3 are enough for P3, which is not nested, and it is planned with 2
    least_call P1 ⇒ gives (done_with (6 ∷ 0 ∷ []))
    ∷ least_call P1spare ⇒ gives (done_with (6 ∷ 0 ∷ []))
    ∷ least_call P2 ⇒ gives (done_with (7 ∷ 0 ∷ []))
    ∷ least_call P3 ⇒ gives (done_with (3 ∷ 1 ∷ []))
    -- where a site is not nested it is the greatest demand, and not all loads, which come to 5 and 4: cell 5 of P6 and of P7 asks for its own and those of
    -- cells 3 and 4
    ∷ least_call P6 ⇒ gives (done_with (3 ∷ 1 ∷ []))
    ∷ least_call P7 ⇒ gives (done_with (3 ∷ 1 ∷ []))
    -- W2, a spare as a: cells 1 and 3 clash and 2 clashes with neither, but cell 1 has load 0: chained.
    ∷ chain_call spare_first ⇒ gives done
    ∷ []

-- W9: the class of nested sites
abbrev pub desk_nested : List DeskLine
desk_nested =
    -- a side drift: cells 1 and 4 clash, and cell 3 between them does not clash with cell 1, so not chained 1 3 4. No cell has two lower clashing cells, so
    -- nested: 2 channel-slots do and fewer never do, the load test holds, and it is planned 10, 21, 12, 21
    chain_call side_drift_site ⇒ gives (done_with (1 ∷ 3 ∷ 4 ∷ []))
    ∷ class_call side_drift_site ⇒ gives done
    ∷ least_call side_drift_site ⇒ gives (done_with (2 ∷ 0 ∷ []))
    ∷ load_call side_drift_site ⇒ gives done
    ∷ plan_call side_drift_site ⇒ leaves done (1 ∷ 0 ∷ 2 ∷ 1 ∷ 1 ∷ 2 ∷ 2 ∷ 1 ∷ 9 ∷ [])
    -- P1 is chained, and so nested. "The three-cell star with its centre last stays outside": it is P3. P4: cells 2 and 3 clash with cell 4, and not with
    -- one another
    ∷ class_call P1 ⇒ gives done
    ∷ class_call P3 ⇒ gives (done_with (1 ∷ 2 ∷ 3 ∷ []))
    ∷ class_call P4 ⇒ gives (done_with (2 ∷ 3 ∷ 4 ∷ []))
    -- P3 with a spare centre is chained, and so nested
    ∷ class_call P3spare ⇒ gives done
    ∷ []

-- W6: the second table form
abbrev pub desk_words : List DeskLine
desk_words =
    -- W6, P1 as words: cells 1 and 3 at positions 0 to 3, cell 1 alone at 4, cell 2 at 5
    plan_words_call P1 ⇒ leaves done (5 ∷ 5 ∷ 5 ∷ 5 ∷ 1 ∷ 2 ∷ 9 ∷ [])
    ∷ check_words_call P1 (5 ∷ 5 ∷ 5 ∷ 5 ∷ 1 ∷ 2 ∷ []) ⇒ gives done
    -- P8 and P9 as words: the checker's refusals, 7 with cell 3 and count 5, 6 with position 5, cells 2 and 3; bits above the third cell change nothing
    ∷ check_words_call P1 (5 ∷ 5 ∷ 5 ∷ 5 ∷ 5 ∷ 2 ∷ []) ⇒ gives (refused 7 (3 ∷ 5 ∷ []))
    ∷ check_words_call P1 (1 ∷ 9 ∷ 5 ∷ 5 ∷ 5 ∷ 14 ∷ []) ⇒ gives (refused 6 (5 ∷ 2 ∷ 3 ∷ []))
    -- of P1's plan 1 alone sets a bit; and the other way every other byte is 0, with bits above the third cell silent
    ∷ to_words_call P1 (1 ∷ 1 ∷ 1 ∷ 1 ∷ 1 ∷ 0 ∷ 2 ∷ 2 ∷ 2 ∷ 2 ∷ 2 ∷ 1 ∷ 1 ∷ 1 ∷ 1 ∷ 1 ∷ 0 ∷ 2 ∷ []) ⇒ leaves done (5 ∷ 5 ∷ 5 ∷ 5 ∷ 1 ∷ 2 ∷ 9 ∷ [])
    ∷ to_bytes_call P1 (5 ∷ 5 ∷ 13 ∷ 5 ∷ 1 ∷ 2 ∷ []) ⇒ leaves done (1 ∷ 1 ∷ 1 ∷ 1 ∷ 1 ∷ 0 ∷ 0 ∷ 0 ∷ 0 ∷ 0 ∷ 0 ∷ 1 ∷ 1 ∷ 1 ∷ 1 ∷ 1 ∷ 0 ∷ 0 ∷ 9 ∷ [])
    -- P2 as words: refusal 5, cell 2, short 1, and N words of 0
    ∷ plan_words_call P2 ⇒ leaves (refused 5 (2 ∷ 1 ∷ [])) (0 ∷ 0 ∷ 0 ∷ 0 ∷ 0 ∷ 0 ∷ 9 ∷ [])
    ∷ []

-- W7: mended tables
abbrev pub desk_mended : List DeskLine
desk_mended =
    -- W7, P9's table: cell 3 gives position 5 up and takes 0; a list with room for one change only is refused with the number of both
    mend_call P1 (1 ∷ 1 ∷ 1 ∷ 1 ∷ 1 ∷ 0 ∷ 0 ∷ 0 ∷ 0 ∷ 0 ∷ 0 ∷ 1 ∷ 0 ∷ 0 ∷ 1 ∷ 1 ∷ 1 ∷ 1 ∷ []) 9
    ⇒ mends (done_with (2 ∷ [])) (1 ∷ 1 ∷ 1 ∷ 1 ∷ 1 ∷ 0 ∷ 0 ∷ 0 ∷ 0 ∷ 0 ∷ 0 ∷ 1 ∷ 1 ∷ 0 ∷ 1 ∷ 1 ∷ 1 ∷ 0 ∷ []) (3 ∷ 0 ∷ 0 ∷ 1 ∷ 3 ∷ 5 ∷ 1 ∷ 0 ∷ 9 ∷ [])
    ∷ mend_call P1 (1 ∷ 1 ∷ 1 ∷ 1 ∷ 1 ∷ 0 ∷ 0 ∷ 0 ∷ 0 ∷ 0 ∷ 0 ∷ 1 ∷ 0 ∷ 0 ∷ 1 ∷ 1 ∷ 1 ∷ 1 ∷ []) 7
    ⇒ mends (refused 13 (2 ∷ [])) (1 ∷ 1 ∷ 1 ∷ 1 ∷ 1 ∷ 0 ∷ 0 ∷ 0 ∷ 0 ∷ 0 ∷ 0 ∷ 1 ∷ 0 ∷ 0 ∷ 1 ∷ 1 ∷ 1 ∷ 1 ∷ []) (9 ∷ 9 ∷ 9 ∷ 9 ∷ 9 ∷ 9 ∷ 9 ∷ [])
    -- only an earlier cell's reservations stand in the way: cell 1 adds position 0, the lowest, where the later cell 2 stands, and cell 2 gives way
    ∷ mend_call pair (0 ∷ 0 ∷ 1 ∷ 0 ∷ []) 12 ⇒ mends (done_with (3 ∷ [])) (1 ∷ 0 ∷ 0 ∷ 1 ∷ []) (1 ∷ 0 ∷ 0 ∷ 1 ∷ 2 ∷ 0 ∷ 1 ∷ 0 ∷ 2 ∷ 1 ∷ 0 ∷ 1 ∷ [])
    -- P4's idle table: refusal 5, cell 4, short 1, and nothing is written
    ∷ mend_call P4 (0 ∷ 0 ∷ 0 ∷ 0 ∷ 0 ∷ 0 ∷ 0 ∷ 0 ∷ []) 4 ⇒ mends (refused 5 (4 ∷ 1 ∷ [])) (0 ∷ 0 ∷ 0 ∷ 0 ∷ 0 ∷ 0 ∷ 0 ∷ 0 ∷ []) (9 ∷ 9 ∷ 9 ∷ 9 ∷ [])
    ∷ []

-- W8: blocked positions
abbrev pub desk_blocked : List DeskLine
desk_blocked =
    -- W8, P1 with position 0 blocked: positions 1 to 5 are open, and cell 1 takes them all, 011111. Cell 2 clashes with it: 1 to 5 are forbidden and 0 is
    -- blocked, so refusal 5, cell 2, short 1. The load test: 5 for cell 1, 1 + 5 for cell 2, which is over the 5 open positions by 1, 4 + 1 for cell 3. Still
    -- chained, and still in need of 6 open positions
    plan_call (P1blocked 1) ⇒ leaves (refused 5 (2 ∷ 1 ∷ [])) (all_idle P1)
    ∷ load_call (P1blocked 1) ⇒ gives (done_with (2 ∷ 1 ∷ []))
    ∷ chain_call (P1blocked 1) ⇒ gives done
    ∷ least_call (P1blocked 1) ⇒ gives (done_with (6 ∷ 0 ∷ []))
    -- P1's own plan there: cells 1 and 3 stand on position 0, and cell 1 is the lower; nor can it be mended: cell 1 gives 0 up and takes 5 from cell 2
    ∷ check_call (P1blocked 1) (1 ∷ 1 ∷ 1 ∷ 1 ∷ 1 ∷ 0 ∷ 2 ∷ 2 ∷ 2 ∷ 2 ∷ 2 ∷ 1 ∷ 1 ∷ 1 ∷ 1 ∷ 1 ∷ 0 ∷ 2 ∷ []) ⇒ gives (refused 22 (0 ∷ 1 ∷ []))
    ∷ mend_call (P1blocked 1) (1 ∷ 1 ∷ 1 ∷ 1 ∷ 1 ∷ 0 ∷ 0 ∷ 0 ∷ 0 ∷ 0 ∷ 0 ∷ 1 ∷ 1 ∷ 1 ∷ 1 ∷ 1 ∷ 0 ∷ 0 ∷ []) 3
    ⇒ mends (refused 5 (2 ∷ 1 ∷ [])) (1 ∷ 1 ∷ 1 ∷ 1 ∷ 1 ∷ 0 ∷ 0 ∷ 0 ∷ 0 ∷ 0 ∷ 0 ∷ 1 ∷ 1 ∷ 1 ∷ 1 ∷ 1 ∷ 0 ∷ 0 ∷ []) (9 ∷ 9 ∷ 9 ∷ [])
    -- and with load 4 in cell 1: planned 011110, 022221, 011112; a blocked position is 0 and never 2. 4, 1 + 4 and 4 + 1 are within the 5 open positions
    ∷ plan_call (P1lighter 1) ⇒ leaves done (0 ∷ 1 ∷ 1 ∷ 1 ∷ 1 ∷ 0 ∷ 0 ∷ 2 ∷ 2 ∷ 2 ∷ 2 ∷ 1 ∷ 0 ∷ 1 ∷ 1 ∷ 1 ∷ 1 ∷ 2 ∷ 9 ∷ [])
    ∷ load_call (P1lighter 1) ⇒ gives done
    ∷ check_call (P1lighter 1) (0 ∷ 1 ∷ 1 ∷ 1 ∷ 1 ∷ 0 ∷ 0 ∷ 2 ∷ 2 ∷ 2 ∷ 2 ∷ 1 ∷ 0 ∷ 1 ∷ 1 ∷ 1 ∷ 1 ∷ 2 ∷ []) ⇒ gives done
    ∷ plan_words_call (P1lighter 1) ⇒ leaves done (0 ∷ 5 ∷ 5 ∷ 5 ∷ 5 ∷ 2 ∷ 9 ∷ [])
    -- a table for P1lighter with nothing blocked, 111100, 000001, 111100: cells 1 and 3 give position 0 up and take 4
    ∷ mend_call (P1lighter 1) (1 ∷ 1 ∷ 1 ∷ 1 ∷ 0 ∷ 0 ∷ 0 ∷ 0 ∷ 0 ∷ 0 ∷ 0 ∷ 1 ∷ 1 ∷ 1 ∷ 1 ∷ 1 ∷ 0 ∷ 0 ∷ []) 17
    ⇒ mends (done_with (4 ∷ [])) (0 ∷ 1 ∷ 1 ∷ 1 ∷ 1 ∷ 0 ∷ 0 ∷ 0 ∷ 0 ∷ 0 ∷ 0 ∷ 1 ∷ 0 ∷ 1 ∷ 1 ∷ 1 ∷ 1 ∷ 0 ∷ [])
    (1 ∷ 0 ∷ 1 ∷ 0 ∷ 1 ∷ 4 ∷ 0 ∷ 1 ∷ 3 ∷ 0 ∷ 1 ∷ 0 ∷ 3 ∷ 4 ∷ 0 ∷ 1 ∷ 9 ∷ [])
    -- positions 1 and 3 blocked, 10 as a word: cells 1 and 2 clash at 0, cell 1 stands on 3 and cell 3 on 1. 22 comes before 6, and by position before cell
    ∷ check_call (P1blocked 10) (1 ∷ 0 ∷ 0 ∷ 1 ∷ 0 ∷ 0 ∷ 1 ∷ 0 ∷ 0 ∷ 0 ∷ 0 ∷ 0 ∷ 0 ∷ 1 ∷ 0 ∷ 0 ∷ 0 ∷ 0 ∷ []) ⇒ gives (refused 22 (1 ∷ 3 ∷ []))
    ∷ check_words_call (P1blocked 10) (3 ∷ 4 ∷ 0 ∷ 1 ∷ 0 ∷ 0 ∷ []) ⇒ gives (refused 22 (1 ∷ 3 ∷ []))
    -- all six positions blocked, 63 as a word: accepted, and cell 1 finds no room for any of its 5 fragments; with load 0 nothing is asked
    ∷ plan_call (P1blocked 63) ⇒ leaves (refused 5 (1 ∷ 5 ∷ [])) (all_idle P1)
    ∷ load_call (P1blocked 63) ⇒ gives (done_with (1 ∷ 5 ∷ []))
    ∷ plan_call alone_blocked ⇒ leaves done (0 ∷ 9 ∷ [])
    -- position 6, which P1 does not have, blocked: refusal 20 with the lowest such, whatever is blocked besides, and nothing is written
    ∷ plan_call (P1blocked 193) ⇒ leaves (refused 20 (6 ∷ [])) (nines P1)
    ∷ plan_call P1far ⇒ leaves (refused 20 (65 ∷ [])) (nines P1)
    ∷ []

-- W10: sites renumbered, and tables carried back
abbrev pub desk_numbered : List DeskLine
desk_numbered =
    -- P4: 1~3, 2~4, 3~4. The last number goes to cell 2, which clashes with cell 4 alone: cell 4 clashes with 2 and 3, and these do not clash, cell 3 with 1
    -- and 4. Of 1, 3 and 4 then cell 4, which clashes with cell 3 alone; of 1 and 3 cell 3
    renumber_call P4 ⇒ renumbers done P4inARow (with_zeros 32 (1 ∷ 4 ∷ 2 ∷ 3 ∷ [])) (with_zeros 32 (1 ∷ 3 ∷ 4 ∷ 2 ∷ []))
    -- its plan 10, 21, 12, 21 in new numbers; carried, cell 2 has the fourth row, cell 3 the second and cell 4 the third, and that is valid for P4
    ∷ plan_call P4inARow ⇒ leaves done (1 ∷ 0 ∷ 2 ∷ 1 ∷ 1 ∷ 2 ∷ 2 ∷ 1 ∷ 9 ∷ [])
    ∷ carry_call P4 (1 ∷ 0 ∷ 2 ∷ 1 ∷ 1 ∷ 2 ∷ 2 ∷ 1 ∷ []) ⇒ leaves done (1 ∷ 0 ∷ 2 ∷ 1 ∷ 2 ∷ 1 ∷ 1 ∷ 2 ∷ 9 ∷ [])
    ∷ check_call P4 (1 ∷ 0 ∷ 2 ∷ 1 ∷ 2 ∷ 1 ∷ 1 ∷ 2 ∷ []) ⇒ gives done
    ∷ carry_call P4 (1 ∷ 0 ∷ 2 ∷ 1 ∷ 1 ∷ 2 ∷ 2 ∷ []) ⇒ leaves (refused 4 []) (nines P4)
    -- P7: 1~4, 2~3, 3~5, 4~5, and cell 2 is spare. The last number goes to cell 2 all the same, then 4 to cell 3, 3 to cell 5 and 2 to cell 4
    ∷ renumber_call P7
    ⇒ renumbers done (site_with 2 1 (1 ∷ 1 ∷ 1 ∷ 1 ∷ 0 ∷ []) (2 ∷ 4 ∷ 0 ∷ 4 ∷ 8 ∷ [])) (with_zeros 32 (1 ∷ 5 ∷ 4 ∷ 2 ∷ 3 ∷ []))
    (with_zeros 32 (1 ∷ 4 ∷ 5 ∷ 3 ∷ 2 ∷ []))
    -- a chained site whose numbers stay; a ring of four has none, and is as it was given
    ∷ renumber_call P1 ⇒ renumbers done P1 (with_zeros 32 (1 ∷ 2 ∷ 3 ∷ [])) (with_zeros 32 (1 ∷ 2 ∷ 3 ∷ []))
    ∷ renumber_call ring ⇒ renumbers (refused 23 []) ring (with_zeros 32 []) (with_zeros 32 [])
    ∷ carry_call ring [] ⇒ leaves (refused 23 []) (nines ring)
    ∷ renumber_call no_channels ⇒ renumbers (refused 1 []) no_channels (with_zeros 32 []) (with_zeros 32 [])
    ∷ []

-- W11: two rules for the air, a site under both
abbrev pub desk_edge : List DeskLine
desk_edge =
    -- 1~2, 2~4 and 4~5 under rule 1: cell 5 sends at 3 and 4, and cell 2 at 4 too. 8 = 2 x 4 positions, of which cells 1 and 2 need 7
    plan_call (edge_site 1)
    ⇒ leaves done
    (1 ∷ 1 ∷ 1 ∷ 1 ∷ 0 ∷ 0 ∷ 0 ∷ 0 ∷ 2 ∷ 2 ∷ 2 ∷ 2 ∷ 1 ∷ 1 ∷ 1 ∷ 0 ∷ 0 ∷ 0 ∷ 0 ∷ 0 ∷ 0 ∷ 0 ∷ 0 ∷ 0 ∷ 1 ∷ 1 ∷ 1 ∷ 0 ∷ 2 ∷ 2 ∷ 2 ∷ 0 ∷ 2 ∷ 2 ∷ 2 ∷ 1 ∷ 1 ∷ 0 ∷ 0
    ∷ 0 ∷ 9 ∷ [])
    ∷ heaviest_call (edge_site 1) ⇒ gives (done_with (7 ∷ 3 ∷ []))
    -- under rule 2 also 2~5, since both reach 4: 0 to 2 are cell 4's and 4 to 6 are cell 2's, so cell 5 sends at 3 and 7. Cells 2, 4 and 5 need all 8
    ∷ plan_call (edge_site 2)
    ⇒ leaves done
    (1 ∷ 1 ∷ 1 ∷ 1 ∷ 0 ∷ 0 ∷ 0 ∷ 0 ∷ 2 ∷ 2 ∷ 2 ∷ 2 ∷ 1 ∷ 1 ∷ 1 ∷ 0 ∷ 0 ∷ 0 ∷ 0 ∷ 0 ∷ 0 ∷ 0 ∷ 0 ∷ 0 ∷ 1 ∷ 1 ∷ 1 ∷ 0 ∷ 2 ∷ 2 ∷ 2 ∷ 0 ∷ 2 ∷ 2 ∷ 2 ∷ 1 ∷ 2 ∷ 2 ∷ 2
    ∷ 1 ∷ 9 ∷ [])
    ∷ plan_words_call (edge_site 2) ⇒ leaves done (9 ∷ 9 ∷ 9 ∷ 17 ∷ 2 ∷ 2 ∷ 2 ∷ 16 ∷ 9 ∷ [])
    ∷ chain_call (edge_site 2) ⇒ gives done
    ∷ load_call (edge_site 2) ⇒ gives done
    ∷ least_call (edge_site 2) ⇒ gives (done_with (8 ∷ 0 ∷ []))
    ∷ heaviest_call (edge_site 2) ⇒ gives (done_with (8 ∷ 26 ∷ []))
    -- the plan of rule 1 is refused there, position 4, cells 2 and 5, and is mended: cell 5 gives 4 up and takes 7
    ∷ check_words_call (edge_site 2) (9 ∷ 9 ∷ 9 ∷ 17 ∷ 18 ∷ 2 ∷ 2 ∷ 0 ∷ []) ⇒ gives (refused 6 (4 ∷ 2 ∷ 5 ∷ []))
    ∷ mend_call (edge_site 2)
    (1 ∷ 1 ∷ 1 ∷ 1 ∷ 0 ∷ 0 ∷ 0 ∷ 0 ∷ 0 ∷ 0 ∷ 0 ∷ 0 ∷ 1 ∷ 1 ∷ 1 ∷ 0 ∷ 0 ∷ 0 ∷ 0 ∷ 0 ∷ 0 ∷ 0 ∷ 0 ∷ 0 ∷ 1 ∷ 1 ∷ 1 ∷ 0 ∷ 0 ∷ 0 ∷ 0 ∷ 0 ∷ 0 ∷ 0 ∷ 0 ∷ 1 ∷ 1 ∷ 0 ∷ 0
    ∷ 0 ∷ []) 8
    ⇒ mends (done_with (2 ∷ []))
    (1 ∷ 1 ∷ 1 ∷ 1 ∷ 0 ∷ 0 ∷ 0 ∷ 0 ∷ 0 ∷ 0 ∷ 0 ∷ 0 ∷ 1 ∷ 1 ∷ 1 ∷ 0 ∷ 0 ∷ 0 ∷ 0 ∷ 0 ∷ 0 ∷ 0 ∷ 0 ∷ 0 ∷ 1 ∷ 1 ∷ 1 ∷ 0 ∷ 0 ∷ 0 ∷ 0 ∷ 0 ∷ 0 ∷ 0 ∷ 0 ∷ 1 ∷ 0 ∷ 0 ∷ 0
    ∷ 1 ∷ []) (5 ∷ 4 ∷ 1 ∷ 0 ∷ 5 ∷ 7 ∷ 0 ∷ 1 ∷ [])
    ∷ []

-- P3 under rule 2, and a ring under both
abbrev pub desk_ruled : List DeskLine
desk_ruled =
    -- P3 under rule 2: all three clash, so chained, and now full: load over 3 by 1; refusal 5, cell 3, short 1. P3's own plan 10, 10, 01 is refused there
    chain_call (P3ruled 2) ⇒ gives done
    ∷ load_call (P3ruled 2) ⇒ gives (done_with (3 ∷ 1 ∷ []))
    ∷ plan_call (P3ruled 2) ⇒ leaves (refused 5 (3 ∷ 1 ∷ [])) (all_idle P3)
    ∷ check_call (P3ruled 2) (1 ∷ 0 ∷ 1 ∷ 0 ∷ 0 ∷ 1 ∷ []) ⇒ gives (refused 6 (0 ∷ 1 ∷ 2 ∷ []))
    -- with 3 slots it is planned; so demand 3 says, beside the site under rule 1 where all three clash, whose table 100, 010, 001 is valid
    ∷ class_call (P3ruled 3) ⇒ gives done
    ∷ plan_call (P3ruled 3) ⇒ leaves done (1 ∷ 0 ∷ 0 ∷ 2 ∷ 1 ∷ 0 ∷ 2 ∷ 2 ∷ 1 ∷ 9 ∷ [])
    ∷ check_call all_clash (1 ∷ 0 ∷ 0 ∷ 0 ∷ 1 ∷ 0 ∷ 0 ∷ 0 ∷ 1 ∷ []) ⇒ gives done
    -- a spare cell that both reach makes cells 1 and 2 clash under rule 2, and changes the load test's verdict; under rule 1 it changes nothing
    ∷ load_call two_apart ⇒ gives done
    ∷ load_call (spare_reached 2) ⇒ gives (done_with (2 ∷ 1 ∷ []))
    ∷ load_call (spare_reached 1) ⇒ gives done
    -- a ring of four has no numbering; under rule 2 also 1~3, and it has
    ∷ renumber_call (ring_ruled 1) ⇒ renumbers (refused 23 []) (ring_ruled 1) (with_zeros 32 []) (with_zeros 32 [])
    ∷ renumber_call (ring_ruled 2) ⇒ renumbers done (ring_ruled 2) (with_zeros 32 (1 ∷ 2 ∷ 3 ∷ 4 ∷ [])) (with_zeros 32 (1 ∷ 2 ∷ 3 ∷ 4 ∷ []))
    ∷ []

-- W11: 24
abbrev pub desk_faults : List DeskLine
desk_faults =
    -- rule 0 and rule 3: refusal 24, and nothing is written
    plan_call (edge_site 0) ⇒ leaves (refused 24 []) (nines (edge_site 1))
    ∷ plan_call (edge_site 3) ⇒ leaves (refused 24 []) (nines (edge_site 1))
    -- all five faults, and then one less each time: 1, 24, 2, 3, 20, done
    ∷ chain_call (faulty 0 0 5 1 2) ⇒ gives (refused 1 [])
    ∷ chain_call (faulty 1 0 5 1 2) ⇒ gives (refused 24 [])
    ∷ chain_call (faulty 1 2 5 1 2) ⇒ gives (refused 2 (2 ∷ []))
    ∷ chain_call (faulty 1 2 0 1 2) ⇒ gives (refused 3 (1 ∷ []))
    ∷ chain_call (faulty 1 2 0 0 2) ⇒ gives (refused 20 (1 ∷ []))
    ∷ chain_call (faulty 1 2 0 0 0) ⇒ gives done
    ∷ []

-- the heaviest clash
abbrev pub desk_heaviest : List DeskLine
desk_heaviest =
    -- the heaviest clash. P1: cells 1 and 2, 5 + 1, and not 2 and 3, 1 + 4; the spare fourth cell changes nothing. P2: 5 + 2, more than its 6 positions
    heaviest_call P1 ⇒ gives (done_with (6 ∷ 3 ∷ []))
    ∷ heaviest_call P1spare ⇒ gives (done_with (6 ∷ 3 ∷ []))
    ∷ heaviest_call P2 ⇒ gives (done_with (7 ∷ 3 ∷ []))
    -- P3: cells 1 and 3, 5 as a word, and not 2 and 3, 6; with loads 2, 1, 0 cell 1 alone, and not with the spare cell 3, which clashes with it
    ∷ heaviest_call P3 ⇒ gives (done_with (2 ∷ 5 ∷ []))
    ∷ heaviest_call P3spare ⇒ gives (done_with (2 ∷ 1 ∷ []))
    -- P4: cells 1 and 3, of three pairs of load 2; P6: cells 2 and 3, of four; P7: cells 1 and 4, since cell 2 is spare
    ∷ heaviest_call P4 ⇒ gives (done_with (2 ∷ 5 ∷ []))
    ∷ heaviest_call P6 ⇒ gives (done_with (2 ∷ 6 ∷ []))
    ∷ heaviest_call P7 ⇒ gives (done_with (2 ∷ 9 ∷ []))
    -- nothing is loaded; one cell; a site without channels is refused
    ∷ heaviest_call (alone 0) ⇒ gives (done_with (0 ∷ 0 ∷ []))
    ∷ heaviest_call (alone 2) ⇒ gives (done_with (2 ∷ 1 ∷ []))
    ∷ heaviest_call no_channels ⇒ gives (refused 1 [])
    ∷ []

abbrev pub desk_air : List DeskLine
desk_air = desk_edge ++ (desk_ruled ++ desk_faults)

-- all of them: one table
abbrev pub desk_table : List DeskLine
desk_table = desk_rules ++ (desk_least ++ (desk_nested ++ (desk_words ++ (desk_mended ++ (desk_blocked ++ (desk_numbered ++ (desk_air ++ desk_heaviest)))))))

-- what is asked is answered as the table says, line by line
abbrev pub Answered : List DeskLine → Type 0
Answered lines = map (λ l. l.asked) lines ≡ map (λ l. l.said) lines
