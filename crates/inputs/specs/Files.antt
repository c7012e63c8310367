-- Which of the product's files some bytes are, as far as their beginning shows it. "A site file is kinds 1, 2, 3", "A plan file is kinds 1, 4"; a sheet
-- shows itself by its first line.
use Rattle.std.specs.Prelude.{ℕ, Bool, ◌&&◌, List, ltb, eqb, length}
use Rattle.laws.specs.Choice.{pick}
use Rattle.records.specs.Bytes.{le16}
use Rattle.lines.specs.Match.{starts}
use Rattle.speech.specs.Speech.{bytes}
use Rattle.inputs.specs.declared.Input.{Input as File}
use Rattle.inputs.specs.declared.Input.TheVariants.{SiteFile, PlanFile, RangeSheet, FlowSheet, Other}

-- by the kind of the second record
unfoldable pub by_kind : ℕ → File
by_kind kind = pick (eqb kind 2) SiteFile (pick (eqb kind 4) PlanFile Other)

-- W11: a head of kind 5, of length 10: "A rule 2 site file begins with kind 5 in place of kind 1"
abbrev pub ruled_head : List ℕ → Bool
ruled_head s = eqb (le16 s 0) 10 && eqb (le16 s 2) 5

-- a head, of length 8 and kind 1, takes ten bytes; the length and the kind of the second record four more
unfoldable pub house_file : List ℕ → File
house_file s =
    pick (ltb (length s) 14) Other
    (pick (ruled_head s) SiteFile (pick (eqb (le16 s 0) 8 && eqb (le16 s 2) 1) (by_kind (le16 s 12)) Other))

unfoldable pub input_of : List ℕ → File
input_of s =
    pick (starts (bytes "cell,load") s) RangeSheet (
    pick (starts (bytes "cell,burst,period,repeats,value") s) FlowSheet (
    house_file s))
