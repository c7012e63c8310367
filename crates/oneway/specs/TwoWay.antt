-- The one-way reading: "a plan that is valid if only two-way ranges clash, and not valid in truth".
use Rattle.std.specs.Prelude.{ℕ, Bool, true, false, ◌&&◌, List, Result, Ok, Err}
use Rattle.laws.specs.Bits.{bit_in, word_of}
use Rattle.laws.specs.Part.{list_of}
use Rattle.theory.specs.Net.{Reserved, Valid}
use Rattle.site.specs.Record.{site_of}
use Rattle.site.specs.Reach.{net_of}
use Rattle.site.specs.declared.Site.{Site}
use Rattle.checker.specs.Check.{check_answer}
use Rattle.checker.specs.declared.CheckError.{CheckError}
use Rattle.checker.specs.declared.CheckError.TheVariants.{TableShort, Blocked, Clash, Count, Record}

-- "only two-way ranges": of the reach rows, bit b of row a stays where row b has bit a too
unfoldable pub two_way_rows : List ℕ → List ℕ
two_way_rows rows = list_of (λ a. word_of (λ b. bit_in rows a b && bit_in rows b a) 32) 32

-- the site in which each reach is cleared that has no reach back; the rule stays
unfoldable pub two_way : Site → Site
two_way s = site_of s.cells s.slots s.channels s.loads (two_way_rows s.reach) s.blocked s.rule

-- "valid if only two-way ranges clash, and not valid in truth"
abbrev pub Unseen : Site → Reserved → Type 0
Unseen s res = Valid (net_of (two_way s)) res × (Valid (net_of s) res → ⊥)

-- ---- by the checker

abbrev pub is_clash : Result Unit CheckError → Bool
is_clash (Ok u) = false
is_clash (Err TableShort) = false
is_clash (Err (Blocked p c)) = false
is_clash (Err (Clash p a c)) = true
is_clash (Err (Count c n)) = false
is_clash (Err (Record f)) = false

abbrev pub is_valid : Result Unit CheckError → Bool
is_valid (Ok u) = true
is_valid (Err e) = false

-- "with a clash that a one-way reading would not see"
unfoldable pub unseen_in : Site → List ℕ → Bool
unseen_in s t = is_clash (check_answer s t) && is_valid (check_answer (two_way s) t)
