-- What is said of the answers that the desk asks for: a finished table's check, a plan, a share, a file or a sheet that was read. Each answer has a sentence, a
-- row of the lines with its values or a refusal; and the text is the sentence's.
use Rattle.std.specs.Prelude.{ℕ, ◌+◌, ◌-◌, ◌/◌, ◌%◌, Bool, ◌&&◌, List, ltb, eqb, get_or, Result, Ok, Err, Some, None}
use Rattle.laws.specs.Choice.{pick}
use Rattle.site.specs.Record.{up_to}
use Rattle.site.specs.Reach.{reaches}
use Rattle.site.specs.declared.Site.{Site}
use Rattle.site.specs.declared.Fault.{Fault}
use Rattle.site.specs.declared.Fault.TheVariants.{Size, Rule, Load, Reach, Blocked}
use Rattle.checker.specs.declared.CheckError.{CheckError}
use Rattle.checker.specs.declared.CheckError.TheVariants as check
use Rattle.mender.specs.declared.MendError.{MendError}
use Rattle.mender.specs.declared.MendError.TheVariants as mend
use Rattle.planner.specs.declared.PlanError.{PlanError}
use Rattle.planner.specs.declared.PlanError.TheVariants as plan
use Rattle.shares.specs.Share.{Shares}
use Rattle.shares.specs.declared.ShareError.{ShareError}
use Rattle.shares.specs.declared.ShareError.TheVariants as share
use Rattle.records.specs.declared.Refusal as records
use Rattle.sheet.specs.declared.SheetError.{SheetError}
use Rattle.sheet.specs.declared.SheetError.TheVariants as sheet
use Rattle.phrases.specs.Phrases.{phrase}
use Rattle.phrases.specs.declared.Phrase.TheVariants.{Silent, Row}
use Rattle.say_refusals.specs.Sentences.{sentence}
use Rattle.say_refusals.specs.declared.Place.{Place}
use Rattle.say_refusals.specs.declared.Place.TheVariants.{Byte, PlanByte, Line, Cell, Position}
use Rattle.say_refusals.specs.declared.Sentence.{Sentence}
use Rattle.say_refusals.specs.declared.Sentence.TheVariants.{Plain, Refusal}
use Rattle.verdicts.specs.Lines.{verdict_lines, valid_row, clash_forth_row, clash_back_row, clash_both_row, clash_third_row, count_row, planned_row}
use Rattle.verdicts.specs.Lines.{no_room_row}
use Rattle.verdicts.specs.Lines.{kept_no_room_row}
use Rattle.verdicts.specs.Lines.{unchanged_row, mended_row, share_row, blocked_row, bad_slots_row, bad_burst_row, bad_period_row, bad_repeats_row}
use Rattle.verdicts.specs.Lines.{other_plan_row}
use Rattle.verdicts.specs.Lines.{bad_list_row, repeats_row}
use Rattle.verdicts.specs.declared.File.{File}
use Rattle.verdicts.specs.declared.File.TheVariants.{SiteFile, PlanFile}

-- a row with its values, as a sentence
abbrev pub line : (row a b c d : ℕ) → Sentence
line row a b c d = Plain (Row row a b c d)

-- ---- a record, a file, a sheet

-- what is wrong with a record: 1; 24; 2 and 3 with the cell; 20 with the position
abbrev pub fault_sentence : Fault → Sentence
fault_sentence Size = Refusal 1 None
fault_sentence Rule = Refusal 24 None
fault_sentence (Load cell) = Refusal 2 (Some (Cell cell))
fault_sentence (Reach cell) = Refusal 3 (Some (Cell cell))
fault_sentence (Blocked position) = Refusal 20 (Some (Position position))

-- a record that was asked: nothing to say; or what is wrong with it
abbrev pub record_sentence : Result Unit Fault → Sentence
record_sentence (Ok u) = Plain Silent
record_sentence (Err f) = fault_sentence f

-- a byte of the site file, or of the plan file
abbrev pub byte_of : File → ℕ → Place
byte_of SiteFile offset = Byte offset
byte_of PlanFile offset = PlanByte offset

-- a file that was read: nothing to say; or the number and the offset, with the file named
abbrev pub read_sentence : File → Result Unit records.Refusal → Sentence
read_sentence file (Ok u) = Plain Silent
read_sentence file (Err r) = Refusal r.number (Some (byte_of file r.place))

-- a sheet that was read: nothing to say; 17 and the line; or what is wrong with the site
abbrev pub sheet_sentence : Result Unit SheetError → Sentence
sheet_sentence (Ok u) = Plain Silent
sheet_sentence (Err (sheet.BadLine number)) = Refusal 17 (Some (Line number))
sheet_sentence (Err (sheet.Record f)) = fault_sentence f

-- ---- a table's check

-- the load of a cell, by its number; 0 where a record holds none
unfoldable pub load_named : Site → ℕ → ℕ
load_named s cell = pick (ltb 0 cell && ltb cell 33) (get_or s.loads (cell - 1) 0) 0

-- whether one cell reaches another, by their numbers; a record has 32 rows of 32 bits
unfoldable pub reach_named : Site → ℕ → ℕ → Bool
reach_named s from to = up_to 32 from && (up_to 32 to && reaches s.reach (from - 1) (to - 1))

-- by whether a reaches c, and c reaches a. Where neither does and they clash, both reach a third cell: `clash-said` in proofs/Clash.antt
abbrev pub way_sentence : (forth back : Bool) (a c slot channel : ℕ) → Sentence
way_sentence forth back a c slot channel =
    pick forth (pick back (line clash_both_row a c slot channel) (line clash_forth_row a c slot channel))
    (pick back (line clash_back_row a c slot channel) (line clash_third_row a c slot channel))

-- a clash at position p, by slot and channel, and who reaches whom. A site has a channel and at most 2,048 positions; otherwise there is no place to name
unfoldable pub clash_sentence : Site → (p a c : ℕ) → Sentence
clash_sentence s p a c =
    pick (ltb 0 s.channels && ltb p 65536)
    (way_sentence (reach_named s a c) (reach_named s c a) a c (p / s.channels + 1) (p % s.channels + 1))
    (Refusal 6 None)

-- a reservation on a blocked position, by slot and channel
unfoldable pub blocked_sentence : Site → (p cell : ℕ) → Sentence
blocked_sentence s p cell =
    pick (ltb 0 s.channels && ltb p 65536)
    (line blocked_row cell (p / s.channels + 1) (p % s.channels + 1) 0)
    (Refusal 22 None)

-- "valid", or the first thing wrong, in English: which cell sends where it is blocked; which two cells, slot and channel;
-- or which cell, how often it sends and how often it should
abbrev pub check_sentence : Site → Result Unit CheckError → Sentence
check_sentence s (Ok u) = line valid_row 0 0 0 0
check_sentence s (Err check.TableShort) = Refusal 4 None
check_sentence s (Err (check.Blocked p cell)) = blocked_sentence s p cell
check_sentence s (Err (check.Clash p a c)) = clash_sentence s p a c
check_sentence s (Err (check.Count cell n)) = line count_row cell n (load_named s cell) 0
check_sentence s (Err (check.Record f)) = fault_sentence f

-- ---- a plan, a share, a mended table

-- one line says what was planned
abbrev pub plan_sentence : Site → Result Unit PlanError → Sentence
plan_sentence s (Ok u) = line planned_row s.cells s.slots s.channels 0
plan_sentence s (Err plan.TableShort) = Refusal 4 None
plan_sentence s (Err (plan.NoRoom cell short)) = line no_room_row cell short 0 0
plan_sentence s (Err (plan.Record f)) = fault_sentence f

-- which of burst c, period p and repeats makes a share's 15, the first that does: `flow-wrong` says that it is the repeats where it is neither of the two
unfoldable pub bad_flow_row : (c p : ℕ) → ℕ
bad_flow_row c p = pick (up_to 65535 c) (pick (up_to 65535 p) bad_repeats_row bad_period_row) bad_burst_row

-- share, queue bound, delay bound, each with its unit, for a flow with burst c and period p
abbrev pub share_sentence : (c p : ℕ) → Result Shares ShareError → Sentence
share_sentence c p (Ok (s, q, d)) = line share_row s.0 q.0 d.0 0
share_sentence c p (Err share.OutOfRange) = line bad_slots_row 0 0 0 0
share_sentence c p (Err share.BadFlow) = line (bad_flow_row c p) 0 0 0 0
share_sentence c p (Err share.BigShare) = Refusal 16 None

-- how many changes the mender makes; none exactly where the table is valid: `valid-unchanged` and `unchanged-valid` of crate `promises`
unfoldable pub changes_sentence : ℕ → Sentence
changes_sentence number = pick (eqb number 0) (line unchanged_row 0 0 0 0) (line mended_row number 0 0 0)

-- what the mender answers. Its changes, one by one, are crate `say_changes`'
abbrev pub mend_sentence : Result ℕ MendError → Sentence
mend_sentence (Ok number) = changes_sentence number
mend_sentence (Err mend.TableShort) = Refusal 4 None
mend_sentence (Err (mend.NoRoom cell short)) = line kept_no_room_row cell short 0 0
mend_sentence (Err (mend.ListShort number)) = Refusal 13 None
mend_sentence (Err (mend.Record f)) = fault_sentence f

-- ---- in English

abbrev pub fault_said : Fault → List ℕ
fault_said f = sentence verdict_lines (fault_sentence f)

abbrev pub record_said : Result Unit Fault → List ℕ
record_said reply = sentence verdict_lines (record_sentence reply)

abbrev pub read_said : File → Result Unit records.Refusal → List ℕ
read_said file reply = sentence verdict_lines (read_sentence file reply)

abbrev pub sheet_said : Result Unit SheetError → List ℕ
sheet_said reply = sentence verdict_lines (sheet_sentence reply)

abbrev pub check_said : Site → Result Unit CheckError → List ℕ
check_said s reply = sentence verdict_lines (check_sentence s reply)

abbrev pub plan_said : Site → Result Unit PlanError → List ℕ
plan_said s reply = sentence verdict_lines (plan_sentence s reply)

abbrev pub share_said : (c p : ℕ) → Result Shares ShareError → List ℕ
share_said c p reply = sentence verdict_lines (share_sentence c p reply)

abbrev pub mend_said : Result ℕ MendError → List ℕ
mend_said reply = sentence verdict_lines (mend_sentence reply)

-- ---- the lines of which something is proved

abbrev pub valid_line : List ℕ
valid_line = phrase verdict_lines (Row valid_row 0 0 0 0)

abbrev pub clash_forth_line : (a c slot channel : ℕ) → List ℕ
clash_forth_line a c slot channel = phrase verdict_lines (Row clash_forth_row a c slot channel)

abbrev pub clash_back_line : (a c slot channel : ℕ) → List ℕ
clash_back_line a c slot channel = phrase verdict_lines (Row clash_back_row a c slot channel)

abbrev pub clash_both_line : (a c slot channel : ℕ) → List ℕ
clash_both_line a c slot channel = phrase verdict_lines (Row clash_both_row a c slot channel)

abbrev pub clash_third_line : (a c slot channel : ℕ) → List ℕ
clash_third_line a c slot channel = phrase verdict_lines (Row clash_third_row a c slot channel)

abbrev pub blocked_sends : (cell slot channel : ℕ) → List ℕ
blocked_sends cell slot channel = phrase verdict_lines (Row blocked_row cell slot channel 0)

abbrev pub count_line : (cell times load : ℕ) → List ℕ
count_line cell times load = phrase verdict_lines (Row count_row cell times load 0)

abbrev pub planned_line : (cells slots channels : ℕ) → List ℕ
planned_line cells slots channels = phrase verdict_lines (Row planned_row cells slots channels 0)

abbrev pub unchanged_line : List ℕ
unchanged_line = phrase verdict_lines (Row unchanged_row 0 0 0 0)

abbrev pub mended_line : (number : ℕ) → List ℕ
mended_line number = phrase verdict_lines (Row mended_row number 0 0 0)

abbrev pub bad_burst_line : List ℕ
bad_burst_line = phrase verdict_lines (Row bad_burst_row 0 0 0 0)

abbrev pub bad_period_line : List ℕ
bad_period_line = phrase verdict_lines (Row bad_period_row 0 0 0 0)

abbrev pub bad_repeats_line : List ℕ
bad_repeats_line = phrase verdict_lines (Row bad_repeats_row 0 0 0 0)

-- a plan that is of another size than the site
abbrev pub other_plan_line : (cells slots channels : ℕ) → List ℕ
other_plan_line cells slots channels = phrase verdict_lines (Row other_plan_row cells slots channels 0)

-- a list of blocked positions that is none: where its first item begins that is no item, counted from 1
abbrev pub bad_list_line : (character : ℕ) → List ℕ
bad_list_line character = phrase verdict_lines (Row bad_list_row character 0 0 0)

-- W12: "A caller that gives no k gets 2", and the desk says which were taken
abbrev pub repeats_line : (repeats : ℕ) → List ℕ
repeats_line repeats = phrase verdict_lines (Row repeats_row repeats 0 0 0)
