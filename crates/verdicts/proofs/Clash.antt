-- Where the checker answers a clash, its sentence is true: one of the four ways fits, since of cells that clash one at least reaches the other by the
-- record, or under rule 2 both reach a third cell; and both cells send in the slot and channel that are named. Where it answers a blocked position, the cell
-- that is named sends there.
--     clash-said        who reaches whom, by the record, is what the sentence says
--     clash-sends       both cells send there
--     blocked-said      the sentence names cell, slot and channel
--     blocked-sends     the cell sends there, and it is blocked
--     any-clash-said, any-clash-sends, any-blocked-said, any-blocked-sends     the same of every clash and every blocked position, not of the first alone
-- Assumes nothing.
use Prim.Native.Nat.{ℕ, ◌+◌, ◌-◌, ◌*◌, ◌/◌, ◌%◌, ◌≤◌, ◌<◌}
use mathlib.Core.Bool.{Bool, true, false, ◌&&◌}
use mathlib.Core.List.{List}
use mathlib.Core.Logic.{◌⊎◌, inl, inr}
use mathlib.Core.Path.{◌≡◌, refl, sym}
use native.Mathlib.Nat.{mod-lt, div-add-mod', div-lt_iff_lt-mul}
use native.Mathlib.Omega.{arith}
use borrow.Author.Tests.{eqb-true, eqb-false, lt-ltb}
use lib.Dec.{ltb}
use Rattle.std.specs.Prelude.{Result, Ok, Err}
use Rattle.laws.proofs.Choice.{both_is}
use Rattle.theory.specs.Greedy.{reserved}
use Rattle.theory.specs.Named.{Barred, Clashes}
use Rattle.site.specs.Record.{positions, fault_of, answer_with}
use Rattle.site.specs.Reach.{reaches, clash_of, net_of}
use Rattle.site.specs.Means.{Clashing}
use Rattle.site.specs.declared.Site.{Site}
use Rattle.site.specs.declared.Fault.{Fault}
use Rattle.site.proofs.Faults.{fine-sized, few-positions, up-to-is}
use Rattle.site.proofs.Means.{is-clashing}
use Rattle.checker.specs.Check.{check_answer}
use Rattle.checker.specs.declared.CheckError.{CheckError}
use Rattle.checker.specs.declared.CheckError.TheVariants as check
use Rattle.checker.proofs.Meaning.{clash-means, blocked-means}
use Rattle.say_refusals.specs.Sentences.{sentence}
use Rattle.verdicts.specs.Lines.{verdict_lines}
use Rattle.verdicts.specs.Said.{way_sentence, reach_named, clash_sentence, blocked_sentence, check_said, blocked_sends}
use Rattle.verdicts.specs.Means.{WaySaid, SlotAt, BothSend, SendsBlocked}

-- a check that says why, and not with a fault of the record, is of a record without a fault
accepted : (f : Result Unit Fault) (o : Result Unit CheckError) (why : CheckError) → ((g : Fault) → check.Record g ≡ why → ⊥)
    → answer_with check.Record f o ≡ Err why → f ≡ Ok tt
accepted (Ok u) o why other e = refl
accepted (Err g) o why other e = absurd (other g cc)

-- the sentence for the ways that the record has
way : (s : Site) (a c slot channel : ℕ) (forth back : Bool) → reaches s.reach (a - 1) (c - 1) ≡ forth → reaches s.reach (c - 1) (a - 1) ≡ back
    → Clashing s a c → WaySaid s a c slot channel (sentence verdict_lines (way_sentence forth back a c slot channel))
unfolding reaches
way s a c slot channel true true p q h = inr (inr (inl (eqb-true _ _ p, eqb-true _ _ q, refl)))
way s a c slot channel true false p q h = inl (eqb-true _ _ p, eqb-false _ _ q, refl)
way s a c slot channel false true p q h = inr (inl (eqb-false _ _ p, eqb-true _ _ q, refl))
way s a c slot channel false false p q h =
    let t = neither h.why (eqb-false _ _ p) (eqb-false _ _ q) in
    inr (inr (inr (eqb-false _ _ p, eqb-false _ _ q, t.0, t.1, refl)))
  where
    neither : {A B C : Type 0} → A ⊎ (B ⊎ C) → (A → ⊥) → (B → ⊥) → C
    neither (inl x) n m = absurd (n x)
    neither (inr (inl x)) n m = absurd (m x)
    neither (inr (inr x)) n m = x

back : (a x : ℕ) → a ≡ x + 1 → a - 1 ≡ x
back a x e = omega arith

fine-named : (s : Site) (t : List ℕ) (why : CheckError) → ((g : Fault) → check.Record g ≡ why → ⊥) → check_answer s t ≡ Err why → fault_of s ≡ Ok tt
unfolding check_answer
fine-named s t why other e = accepted (fault_of s) _ why other e

-- the slot and channel of a position
module _ (s : Site) (fine : fault_of s ≡ Ok tt) (p : ℕ) (width : p < s.slots * s.channels) where
  placed : SlotAt s p (p / s.channels + 1) (p % s.channels + 1)
  placed =
      let some = (fine-sized s fine).channels_some in
      let low : p / s.channels < s.slots = (div-lt_iff_lt-mul some).1 width in
      let near : p % s.channels < s.channels = mod-lt p some in
      let q : p / s.channels + 1 - 1 ≡ p / s.channels = omega arith in
      let r : p % s.channels + 1 - 1 ≡ p % s.channels = omega arith in record {
        slot_in = (omega arith, omega arith);
        channel_in = (omega arith, omega arith);
        place = rw (q, r) (sym (div-add-mod' p s.channels));
      }

  -- a site has a channel and fewer positions than the sentence can name
  named : (ltb 0 s.channels && ltb p 65536) ≡ true
  named = let z = fine-sized s fine in rw (lt-ltb 0 s.channels z.channels_some, lt-ltb p 65536 (omega (arith, width, few-positions z)))

-- two cells that clash at a position, by number
abbrev pub ShownClash : Site → List ℕ → (p a c : ℕ) → Type 0
ShownClash s t p a c = (x z : ℕ) × (a ≡ x + 1) × (c ≡ z + 1) × Clashes (net_of s) (reserved (positions s) t) p x z

module _ (s : Site) (t : List ℕ) (fine : fault_of s ≡ Ok tt) (p a c : ℕ) (shown : ShownClash s t p a c) where
  -- both are numbers of cells
  inside : (1 ≤ a) × (a < c) × (c ≤ s.cells)
  inside =
      let m = shown in
      let up : m.0 < m.1 = m.4.rising in
      let most : m.1 < s.cells = m.4.inside in
      (omega (arith, m.2), omega (arith, m.2, m.3), omega (arith, m.3))

  width : p < s.slots * s.channels
  width = shown.4.within

  pub any-clash-said : WaySaid s a c (p / s.channels + 1) (p % s.channels + 1) (check_said s (Err (check.Clash p a c)))
  unfolding clash_sentence reach_named
  any-clash-said =
      let z = fine-sized s fine in
      let i = inside in
      let m = shown in
      let at_a = up-to-is 32 a (i.0, omega (arith, i.1, i.2, z.cells_most)) in
      let at_c = up-to-is 32 c (omega (arith, i.0, i.1), omega (arith, i.2, z.cells_most)) in
      let far : clash_of s (a - 1) (c - 1) ≡ true = rw (back a m.0 m.2, back c m.1 m.3) m.4.far in
      let first = up-to-is s.cells a (i.0, omega (arith, i.1, i.2)) in
      let second = up-to-is s.cells c (omega (arith, i.0, i.1), i.2) in
      let one = is-clashing s a c fine (both_is _ _ first (both_is _ _ second far)) in
      rw (named s fine p width, at_a, at_c)
      (way s a c (p / s.channels + 1) (p % s.channels + 1) _ _ refl refl one)

  pub any-clash-sends : BothSend s t p a c (p / s.channels + 1) (p % s.channels + 1)
  any-clash-sends =
      let i = inside in
      let m = shown in record {
        rising = i.1;
        first_in_holds = (i.0, omega (arith, i.1, i.2));
        second_in_holds = (omega (arith, i.0, i.1), i.2);
        at = placed s fine p width;
        one = rw (back a m.0 m.2) m.4.one;
        other = rw (back c m.1 m.3) m.4.other;
      }

module _ (s : Site) (t : List ℕ) (p a c : ℕ) (e : check_answer s t ≡ Err (check.Clash p a c)) where
  fine-clash : fault_of s ≡ Ok tt
  fine-clash = fine-named s t (check.Clash p a c) (λ g h. cc) e

  first-clash : ShownClash s t p a c
  first-clash = let m = clash-means s t p a c e in (m.0, m.1, m.2, m.3, m.4.shows)

  pub clash-said : WaySaid s a c (p / s.channels + 1) (p % s.channels + 1) (check_said s (Err (check.Clash p a c)))
  clash-said = any-clash-said s t fine-clash p a c first-clash

  pub clash-sends : BothSend s t p a c (p / s.channels + 1) (p % s.channels + 1)
  clash-sends = any-clash-sends s t fine-clash p a c first-clash

-- a cell that sends at a blocked position, by number
abbrev pub ShownBarred : Site → List ℕ → (p cell : ℕ) → Type 0
ShownBarred s t p cell = (i : ℕ) × (cell ≡ i + 1) × Barred (net_of s) (reserved (positions s) t) p i

module _ (s : Site) (t : List ℕ) (sound : fault_of s ≡ Ok tt) (p cell : ℕ) (barred : ShownBarred s t p cell) where
  pub any-blocked-said : check_said s (Err (check.Blocked p cell)) ≡ blocked_sends cell (p / s.channels + 1) (p % s.channels + 1)
  unfolding blocked_sentence
  any-blocked-said = rw (named s sound p barred.2.within)

  pub any-blocked-sends : SendsBlocked s t p cell (p / s.channels + 1) (p % s.channels + 1)
  any-blocked-sends =
      let m = barred in
      let most : m.0 < s.cells = m.2.inside in record {
        cell_in = (omega (arith, m.1), omega (arith, m.1));
        at = placed s sound p m.2.within;
        sends = rw (back cell m.0 m.1) m.2.held;
        blocked = m.2.closed;
      }

module _ (s : Site) (t : List ℕ) (p cell : ℕ) (e : check_answer s t ≡ Err (check.Blocked p cell)) where
  fine-barred : fault_of s ≡ Ok tt
  fine-barred = fine-named s t (check.Blocked p cell) (λ g h. cc) e

  first-barred : ShownBarred s t p cell
  first-barred = let m = blocked-means s t p cell e in (m.0, m.1, m.2.shows)

  pub blocked-said : check_said s (Err (check.Blocked p cell)) ≡ blocked_sends cell (p / s.channels + 1) (p % s.channels + 1)
  blocked-said = any-blocked-said s t fine-barred p cell first-barred

  pub blocked-sends : SendsBlocked s t p cell (p / s.channels + 1) (p % s.channels + 1)
  blocked-sends = any-blocked-sends s t fine-barred p cell first-barred
