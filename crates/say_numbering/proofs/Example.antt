-- What is said of a numbering, computed letter by letter: cell 3 clashes with cells 1 and 2, which do not clash. And what `why` says of the numbering of small
-- sites. Assumes nothing.
use mathlib.Core.List.{List, [], ◌∷◌, ◌++◌}
use mathlib.Core.Path.{◌≡◌, refl}
use Prim.Native.Nat.{ℕ}
use lib.ListN.{replicate}
use Rattle.std.specs.Prelude.{Ok, Err, None}
use Rattle.laws.specs.Bits.{word_of}
use Rattle.laws.specs.Search.{first_of}
use Rattle.laws.specs.Sum.{sum, any}
use Rattle.theory.specs.Verdict.{second, splits, split_of, first_split, class_verdict}
use Rattle.site.specs.Record.{site_of, up_to, size_ok, rule_ok, row_bad, extra_load, bad_row, extra_blocked, fault_of}
use Rattle.site.specs.Reach.{reaches, clash_in}
use Rattle.site.specs.declared.Site.{Site}
use Rattle.judges.specs.Judges.{class_answer}
use Rattle.renumbering.specs.Numbering.{last, missing, odd, fit, give_numbers, numbering}
use Rattle.numbering.specs.Renumber.{numbering_of, site_numbers, renumber_of}
use Rattle.text.specs.Decimal.{digits_of, decimal}
use Rattle.speech.specs.Speech.{bytes, spoken}
use Rattle.numbering.specs.declared.RenumberError.TheVariants as renumber
use Rattle.numbering.specs.declared.CarryError.TheVariants as carry
use Rattle.say_refusals.specs.Said.{refused_line}
use Rattle.say_numbering.specs.Lines.{number_lines, anew_lines}
use Rattle.say_numbering.specs.Said.{numbers_said, renumber_said, carry_said}
use Rattle.say_numbering.specs.Anew.{anew_said}

-- the new number of each old one, 0 past the cells
abbrev new : List ℕ
new = 1 ∷ 3 ∷ 2 ∷ replicate 29 0

numbers-said : renumber_said new (Ok tt) ≡ bytes "cell 1 is now cell 1\ncell 2 is now cell 3\ncell 3 is now cell 2\n"
unfolding number_lines numbers_said spoken decimal digits_of
numbers-said = refl

-- the refusals, 23 and 4, whose letters are in crate `say_refusals`; and nothing of a plan that was carried
refusals-said :
    renumber_said new (Err renumber.NoNumbering) ∷ carry_said (Err carry.NoNumbering) ∷ carry_said (Err carry.TableShort) ∷ carry_said (Ok tt) ∷ []
    ≡ refused_line 23 None ∷ refused_line 23 None ∷ refused_line 4 None ∷ [] ∷ []
refusals-said = refl

-- ---- the site in new numbers

-- P4: 1~3, 2~4, 3~4, and two positions
p4 : Site
p4 = site_of 4 2 1 (1 ∷ 1 ∷ 1 ∷ 1 ∷ replicate 28 0) (4 ∷ 8 ∷ 8 ∷ replicate 29 0) [] 1

-- cell 3 clashes with cells 1 and 2, and there is one position for all
full : Site
full = site_of 3 1 1 (1 ∷ 1 ∷ 1 ∷ replicate 29 0) (4 ∷ 4 ∷ replicate 30 0) [] 1

-- a ring of four cells with these loads
ring : List ℕ → Site
ring loads = site_of 4 2 1 (loads ++ replicate 28 0) (2 ∷ 4 ∷ 8 ∷ 1 ∷ replicate 28 0) [] 1

-- where a cell of the ring is idle the site is nested, and nothing is said; nor where a numbering is found
anew-said :
    anew_said p4 ∷ anew_said full ∷ anew_said (ring (1 ∷ 1 ∷ 1 ∷ 1 ∷ [])) ∷ anew_said (ring (1 ∷ 1 ∷ 1 ∷ 0 ∷ [])) ∷ []
    ≡ [] ∷ [] ∷ bytes "no numbering of all its cells, idle ones too, is nested\n" ∷ [] ∷ []
unfolding p4 full ring first_of sum any second splits split_of first_split class_verdict class_answer word_of up_to size_ok rule_ok row_bad extra_load bad_row
    extra_blocked
    fault_of reaches clash_in last missing odd fit give_numbers numbering numbering_of site_numbers renumber_of spoken anew_lines anew_said
anew-said = refl
