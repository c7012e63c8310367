-- The fault of a record, with the blocked set searched only up to its last word that is not 0. The search of `fault_of` goes through 2,048 positions, which is
-- too long to be computed for each desk example. Assumes nothing.
use Prim.Native.Nat.{ℕ, zero, suc, ◌+◌, ◌-◌, ◌*◌, ◌/◌, ◌%◌, ◌≤◌, ◌<◌, min}
use mathlib.Core.Bool.{Bool, true, false, ◌&&◌}
use mathlib.Core.List.{List, [], ◌∷◌}
use mathlib.Core.Path.{◌≡◌, refl, ◌∙◌}
use native.Mathlib.Omega.{arith}
use borrow.Author.Tests.{eqb-true, ltb-true, ltb-false}
use native.Mathlib.Decide.{dec_lt}
use lib.Dec.{eqb, ltb}
use lib.ListN.{get_or}
use Rattle.laws.specs.Choice.{pick}
use Rattle.laws.specs.Search.{first}
use Rattle.laws.proofs.Bits.{none_in}
use Rattle.laws.proofs.Search.{first-end, first-least, first_passes, first-before, first-none, first-is}
use Rattle.positions.specs.Blocked.{most_positions, blocked_at, first_past}
use Rattle.site.specs.Record.{positions, size_ok, rule_ok, extra_load, bad_row, extra_blocked, fault_of}
use Rattle.site.specs.declared.Site.{Site}
use Rattle.site.specs.declared.Fault.{Fault}
use Rattle.site.specs.declared.Fault.TheVariants.{Size, Rule, Load, Reach, Blocked}
use Rattle.std.specs.Prelude.{Result, Ok, Err}

-- how many words stand up to the last that is not 0
unfoldable pub used_words : List ℕ → ℕ
used_words [] = 0
used_words (x ∷ xs) = pick (eqb x 0 && eqb (used_words xs) 0) 0 (suc (used_words xs))

first_word : (x w : ℕ) (t u : Bool) → eqb x 0 ≡ t → pick (t && u) 0 (suc w) ≤ 0 → x ≡ 0
first_word x w true u p h = eqb-true x 0 p
first_word x w false u p h = absurd (omega arith)

later-words : (w j : ℕ) (t u : Bool) → eqb w 0 ≡ u → pick (t && u) 0 (suc w) ≤ suc j → w ≤ j
later-words w j true true q h = let z : w ≡ 0 = eqb-true w 0 q in omega arith
later-words w j true false q h = omega arith
later-words w j false u q h = omega arith

none_after-law : (set : List ℕ) (j : ℕ) → used_words set ≤ j → get_or set j 0 ≡ 0
unfolding used_words
none_after-law [] j h = refl
none_after-law (x ∷ xs) zero h = first_word x (used_words xs) (eqb x 0) (eqb (used_words xs) 0) refl h
none_after-law (x ∷ xs) (suc j) h = none_after-law xs j (later-words (used_words xs) j (eqb x 0) (eqb (used_words xs) 0) refl h)

-- where the search may end
unfoldable pub used_to : List ℕ → ℕ
used_to set = min (64 * used_words set) most_positions

none-blocked : (set : List ℕ) (k : ℕ) → used_to set ≤ k → k < most_positions → blocked_at set k ≡ false
unfolding used_to
none-blocked set k h l =
    let high : used_words set ≤ k / 64 = omega arith in
    rw (none_after-law set (k / 64) high) (none_in (k % 64))

-- the lowest position of the set at or past n
unfoldable pub past_in : List ℕ → ℕ → ℕ
past_in set n = pick (ltb (first (blocked_at set) n (used_to set)) (used_to set)) (first (blocked_at set) n (used_to set)) (n + (most_positions - n))

used-most : (set : List ℕ) → used_to set ≤ most_positions
unfolding used_to
used-most set = omega arith

module _ (set : List ℕ) (n : ℕ) where
  abbrev here : ℕ
  here = first (blocked_at set) n (used_to set)

  -- a position past the last of a site is none
  beyond : (t : Bool) → ltb here (used_to set) ≡ t → most_positions < n → first_past set n ≡ pick t here (n + (most_positions - n))
  beyond true e h = let low : here < used_to set = ltb-true _ _ e in absurd (omega (arith, first-least (blocked_at set) n (used_to set), used-most set))
  beyond false e h = first-end (blocked_at set) n most_positions (omega arith) ∙ omega arith

  none-there : used_to set ≤ here → (j : ℕ) → Dec (j < used_to set) → n ≤ j → j < most_positions → blocked_at set j ≡ false
  none-there high j (yes l) g m = first-before (blocked_at set) n (used_to set) j g (omega arith)
  none-there high j (no l) g m = none-blocked set j (omega arith) m

  within : (t : Bool) → ltb here (used_to set) ≡ t → n ≤ most_positions → first_past set n ≡ pick t here (n + (most_positions - n))
  within true e h =
      let low : here < used_to set = ltb-true _ _ e in
      let least = first-least (blocked_at set) n (used_to set) in
      first-is (blocked_at set) n here most_positions least (omega (arith, used-most set))
      (first_passes (blocked_at set) n (used_to set) (omega arith) low) (first-before (blocked_at set) n (used_to set))
  within false e h =
      let high : used_to set ≤ here = ltb-false _ _ e in
      first-none (blocked_at set) n most_positions h (λ j g m. none-there high j (dec_lt j (used_to set)) g m) ∙ omega arith

  either : Dec (most_positions < n) → first_past set n ≡ past_in set n
  unfolding past_in
  either (yes h) = beyond (ltb here (used_to set)) refl h
  either (no h) = within (ltb here (used_to set)) refl (omega arith)

  past-in : first_past set n ≡ past_in set n
  past-in = either (dec_lt most_positions n)

-- the fault, computed so
unfoldable pub fault_in : Site → Result Unit Fault
fault_in s =
    pick (size_ok s.cells s.slots s.channels)
    (pick (rule_ok s.rule)
    (pick (ltb (extra_load s) 32)
    (Err (Load (extra_load s + 1)))
    (pick (ltb (bad_row s) 32)
    (Err (Reach (bad_row s + 1)))
    (pick (ltb (past_in s.blocked (positions s)) most_positions) (Err (Blocked (past_in s.blocked (positions s)))) (Ok tt))))
    (Err Rule))
    (Err Size)

pub fault-in : (s : Site) → fault_of s ≡ fault_in s
unfolding fault_of fault_in extra_blocked
fault-in s = rw (past-in s.blocked (positions s))
