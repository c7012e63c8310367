-- The head of a site file: kind 1, or kind 5. W11: "A rule 2 site file begins with kind 5 in place of kind 1: the same body, then a two-byte rule, length 10,
-- the rule always 2."
use Rattle.std.specs.Prelude.{ℕ, ◌+◌, Bool, not, List, [], ◌∷◌, ◌++◌, eqb, Result}
use Rattle.laws.specs.Choice.{pick}
use Rattle.site.specs.Record.{size_ok}
use Rattle.records.specs.Bytes.{le16, two_bytes_each}
use Rattle.records.specs.Layout.{record_of}
use Rattle.records.specs.Reasons.{Reason, reason, first_reason, record_reasons}
use Rattle.records.specs.Head.{cells_of_head, slots_of_head, channels_of_head, head_reasons}
use Rattle.records.specs.declared.Length.TheVariants.{Exact}
use Rattle.records.specs.declared.Refusal.{Refusal}

-- the first record says that it is of kind 5
abbrev pub is_ruled : List ℕ → Bool
is_ruled s = eqb (le16 s 2) 5

-- the number after the three of kind 1
abbrev pub rule_stated : List ℕ → ℕ
rule_stated s = le16 s 10

-- the rule that the head states; kind 1 is of rule 1, which "stays for running sites"
abbrev pub rule_of_head : List ℕ → ℕ
rule_of_head s = pick (is_ruled s) (rule_stated s) 1

-- kind 5: its length, then 1, then "24, .. not 2 in kind 5, after 1"
abbrev pub ruled_reasons : List ℕ → List Reason
ruled_reasons s =
    record_reasons s 0 5 (Exact 10)
    ++ (reason (not (size_ok (cells_of_head s) (slots_of_head s) (channels_of_head s))) 1 0
    ∷ reason (not (eqb (rule_stated s) 2)) 24 0
    ∷ [])

-- kind 1 or kind 5, each by its own length; every other kind is not the one due
unfoldable pub site_head_reasons : List ℕ → List Reason
site_head_reasons s = pick (is_ruled s) (ruled_reasons s) (head_reasons s)

unfoldable pub site_head_answer : List ℕ → Result Unit Refusal
site_head_answer s = first_reason (site_head_reasons s)

-- ---- written

-- the kind and the body for a rule: "the same body, then a two-byte rule" for rule 2 alone
abbrev pub head_kind : ℕ → ℕ
head_kind rule = pick (eqb rule 2) 5 1

abbrev pub head_body : ℕ → ℕ → ℕ → ℕ → List ℕ
head_body rule cells slots channels = two_bytes_each (cells ∷ slots ∷ channels ∷ pick (eqb rule 2) (rule ∷ []) [])

abbrev pub site_head : ℕ → ℕ → ℕ → ℕ → List ℕ
site_head rule cells slots channels = record_of (head_kind rule) (head_body rule cells slots channels)

-- how many bytes it takes
abbrev pub head_length : ℕ → ℕ
head_length rule = 10 + pick (eqb rule 2) 2 0
