-- The renumbered site, where there is a numbering: clash, load and reach go with the cells, so it is accepted, it is in the class whatever the loads, and its
-- valid tables are those of the old site.
--     moved-load, moved-reach, moved-clash     what goes with the cells
--     moved-fine                               nothing is wrong with the record
--     moved-class                              it is in the class, whichever cells count, whatever the loads
--     some-old, some-new                       it has a valid table where the old site has
--     valid-old, valid-new                     a table that is valid for it, carried, is valid for the old site, and the other way
-- Assumes nothing.
use mathlib.Core.Path.{◌≡◌, refl, sym, ap, ap₂, ◌∙◌}
use mathlib.Core.Bool.{Bool, true, false, ◌&&◌, ◌||◌, not}
use mathlib.Core.List.{List}
use mathlib.Core.Logic.{⊎_elim}
use Prim.Native.Nat.{ℕ, ◌+◌, ◌-◌, ◌*◌, ◌^◌, ◌≤◌, ◌<◌}
use native.Mathlib.Omega.{arith}
use lib.Dec.{ltb, eqb}
use lib.ListN.{length, get_or}
use borrow.Author.Tests.{lt-ltb, ltb-true}
use Rattle.laws.specs.Bits.{bit_at, bit_in, word_of}
use Rattle.laws.proofs.Choice.{cases, alike}
use Rattle.laws.proofs.Stores.{list_at}
use Rattle.laws.proofs.Words.{word_lt, word-eq, word-within, none-word}
use Rattle.theory.specs.Net.{Reserved, Valid, Class}
use Rattle.theory.specs.Greedy.{sends, reserved}
use Rattle.theory.proofs.Exact.{valid-agree}
use Rattle.reachrows.specs.Rows.{row_bad, reaches, reached_by_both, clash_in}
use Rattle.reachrows.proofs.Pass.{row-none}
use Rattle.reachrows.proofs.Rules.{both_some, both-here}
use Rattle.site.specs.Record.{load_at, row_of, positions, size, fault_of}
use Rattle.site.specs.Reach.{clash_of, net_of}
use Rattle.site.proofs.Accepted.{fine-sound, sound-fine, ok-row, fine-rows, fine-reach}
use Rattle.site.proofs.Reach.{clash-sym}
use Rattle.site.specs.declared.Site.{Site}
use Rattle.std.specs.Prelude.{Ok}
use Rattle.renumbering.specs.Numbering.{numbered, index_at}
use Rattle.renumbering.specs.Renumbers.{Renumbers, renumbered, with_loads, SameNet}
use Rattle.renumbering.specs.Carry.{carried}
use Rattle.renumbering.proofs.Agree.{same-cell, alike-class, alike-valid}
use Rattle.renumbering.proofs.Carry.{carried-byte, carried-valid}
use Rattle.renumbering.proofs.Renumber.{numbered-class, valid-back, valid-forth}
use Rattle.numberrows.specs.Numbers.{moved_rows}
use Rattle.numberrows.proofs.Moved.{moved_at-law, moved-past, moved_bit, rows_at}
use Rattle.numbering.specs.Renumber.{numbering_of, moved_site}
use Rattle.numbering.proofs.Found.{few_cells, site-renumbers}

module _ (s : Site) (fine : fault_of s ≡ Ok tt) (new old : List ℕ) (found : numbering_of s ≡ numbered new old) where
  few : s.cells ≤ 32
  few = few_cells s fine

  renumbers : Renumbers s.cells (index_at new) (index_at old)
  renumbers = site-renumbers s fine new old found

  pub moved-load : (a : ℕ) → a < s.cells → load_at (moved_site s old) a ≡ load_at s (index_at old a)
  unfolding moved_site
  moved-load a l = moved_at-law old s.cells s.loads a few l

  pub moved-reach : (a b : ℕ) → a < s.cells → b < s.cells → reaches (moved_site s old).reach a b ≡ reaches s.reach (index_at old a) (index_at old b)
  unfolding moved_site reaches
  moved-reach a b la lb =
      rows_at old s.cells s.reach a b (omega (arith, few)) (omega (arith, few))
      ∙ ap₂ (λ t u. t && (u && bit_in s.reach (index_at old a) (index_at old b))) (lt-ltb a s.cells la) (lt-ltb b s.cells lb)

  -- ---- the record has no fault

  row_is : (k : ℕ) → k < 32 → row_of (moved_site s old) k ≡ word_of (moved_bit old s.cells s.reach k) 32
  unfolding moved_site moved_rows
  row_is k h = list_at (λ a. word_of (moved_bit old s.cells s.reach a) 32) 32 k h

  row_low : (k : ℕ) → k < s.cells → row_of (moved_site s old) k < 2 ^ s.cells
  row_low k l =
      let q : ℕ → Bool = λ b. bit_in s.reach (index_at old k) (index_at old b) in
      let n = s.cells in
      let e : row_of (moved_site s old) k ≡ word_of q n
      = row_is k (omega (arith, few))
      ∙ word-eq (moved_bit old n s.reach k) (λ b. ltb b n && q b) 32 (λ b h. ap (λ t. t && (ltb b n && q b)) (lt-ltb k n l))
      ∙ ap (word_of (λ b. ltb b n && q b)) (omega (arith, few))
      ∙ word-within q n (32 - n) in
      rw e (word_lt q n)

  row-self : (k : ℕ) → k < s.cells → bit_at (row_of (moved_site s old) k) k ≡ false
  unfolding reaches
  row-self k l = moved-reach k k l l ∙ (fine-rows s fine (index_at old k) (renumbers.old_in k l)).1

  row_fine : (k : ℕ) → k < 32 → row_bad s.cells (row_of (moved_site s old) k) k ≡ false
  row_fine k h =
      ⊎_elim
      (λ e.
      let l = ltb-true k s.cells e in
      ok-row s.cells (row_of (moved_site s old) k) k l (row_low k l) (row-self k l))
      (λ e.
      row-none s.cells (row_of (moved_site s old) k) k
      (row_is k h
      ∙ none-word (moved_bit old s.cells s.reach k) 32 (λ b m.
      ap (λ t. t && (ltb b s.cells && bit_in s.reach (index_at old k) (index_at old b))) e)))
      (cases (ltb k s.cells))

  pub moved-fine : fault_of (moved_site s old) ≡ Ok tt
  unfolding moved_site
  moved-fine =
      let sound = fine-sound s fine in
      sound-fine (moved_site s old) (record {
        sizes = sound.sizes;
        rule-ok = sound.rule-ok;
        loads = λ k h m. moved-past old s.cells s.loads k h m;
        rows = row_fine;
        none_past = sound.none_past;
      })

  -- ---- who clashes, under either rule: a third cell that both reach goes with the two

  abbrev Both : (a b : ℕ) → Bool
  Both a b = reached_by_both s.reach (index_at old a) (index_at old b)

  third-old : (a b : ℕ) → a < s.cells → b < s.cells → reached_by_both (moved_site s old).reach a b ≡ true → Both a b ≡ true
  unfolding moved_site
  third-old a b la lb e =
      let t = both_some (moved_site s old).reach a b e in
      let c = t.0 in
      let lc = (fine-reach (moved_site s old) moved-fine a c (omega (arith, few)) t.1.by_first).1 in
      let one : (d : ℕ) → d < s.cells → index_at old c ≡ index_at old d → c ≡ d
      = λ d l q. sym (renumbers.new_old c lc) ∙ ap (index_at new) q ∙ renumbers.new_old d l in
      both-here s.reach (index_at old a) (index_at old b) (index_at old c) (record {
        few = omega (arith, few, renumbers.old_in c lc);
        not_first = λ q. t.1.not_first (one a la q);
        not_second = λ q. t.1.not_second (one b lb q);
        by_first = sym (moved-reach a c la lc) ∙ t.1.by_first;
        by_second = sym (moved-reach b c lb lc) ∙ t.1.by_second;
      })

  third-new : (a b : ℕ) → a < s.cells → b < s.cells → Both a b ≡ true → reached_by_both (moved_site s old).reach a b ≡ true
  third-new a b la lb e =
      let t = both_some s.reach (index_at old a) (index_at old b) e in
      let d = t.0 in
      let ld = (fine-reach s fine (index_at old a) d (omega (arith, few, renumbers.old_in a la)) t.1.by_first).1 in
      let c = index_at new d in
      let lc = renumbers.new_in d ld in
      let q = renumbers.old_new d ld in
      both-here (moved_site s old).reach a b c (record {
        few = omega (arith, few, lc);
        not_first = λ p. t.1.not_first (sym q ∙ ap (index_at old) p);
        not_second = λ p. t.1.not_second (sym q ∙ ap (index_at old) p);
        by_first = moved-reach a c la lc ∙ ap (reaches s.reach (index_at old a)) q ∙ t.1.by_first;
        by_second = moved-reach b c lb lc ∙ ap (reaches s.reach (index_at old b)) q ∙ t.1.by_second;
      })

  pub moved-clash : (a b : ℕ) → a < s.cells → b < s.cells → clash_of (moved_site s old) a b ≡ clash_of s (index_at old a) (index_at old b)
  unfolding clash_in moved_site
  moved-clash a b la lb =
      ap₂ (λ t u. not t && u) (sym (same-cell s.cells (index_at new) (index_at old) renumbers a b la lb))
      (ap₂ ◌||◌ (moved-reach a b la lb) (ap₂ ◌||◌ (moved-reach b a lb la)
      (ap (λ t. eqb s.rule 2 && t) (alike _ _ (third-old a b la lb) (third-new a b la lb)))))

  -- ---- the class

  same-net : SameNet (net_of (moved_site s old)) (renumbered (index_at old) (net_of s))
  unfolding moved_site
  same-net = record { cells = refl; width = refl; load = moved-load; clash = moved-clash; usable = λ k l. refl }

  net-same : SameNet (renumbered (index_at old) (net_of s)) (net_of (moved_site s old))
  unfolding moved_site
  net-same = record {
    cells = refl;
    width = refl;
    load = λ a l. sym (moved-load a l);
    clash = λ a b la lb. sym (moved-clash a b la lb);
    usable = λ k l. refl;
  }

  pub moved-class : (l : ℕ → ℕ) (who : ℕ → Bool) → Class (with_loads l (net_of (moved_site s old))) who
  unfolding moved_site numbering_of
  moved-class l who =
      alike-class (with_loads l (net_of (moved_site s old))) (with_loads l (renumbered (index_at old) (net_of s)))
      (record { cells = refl; width = refl; load = λ a h. refl; clash = moved-clash; usable = λ k h. refl }) who
      (numbered-class (net_of s) (clash-sym s.rule s.reach) 32 few new old found l who)

  -- ---- tables

  pub some-old : (res : Reserved) → Valid (net_of (moved_site s old)) res → Valid (net_of s) (λ i k. res (index_at new i) k)
  some-old res v =
      valid-back (net_of s) (clash-sym s.rule s.reach) (index_at new) (index_at old) renumbers res
      (alike-valid (renumbered (index_at old) (net_of s)) (net_of (moved_site s old)) net-same res v)

  pub some-new : (res : Reserved) → Valid (net_of s) res → Valid (net_of (moved_site s old)) (λ a k. res (index_at old a) k)
  some-new res v =
      alike-valid (net_of (moved_site s old)) (renumbered (index_at old) (net_of s)) same-net (λ a k. res (index_at old a) k)
      (valid-forth (net_of s) (clash-sym s.rule s.reach) (index_at new) (index_at old) renumbers res v)

  module _ (from to : List ℕ) (has : size s ≤ length from) (fits : size s ≤ length to) where
    abbrev back : List ℕ
    back = carried (index_at new) (positions s) from to s.cells

    pub valid-old : Valid (net_of (moved_site s old)) (reserved (positions s) from) → Valid (net_of s) (reserved (positions s) back)
    valid-old v =
        carried-valid (net_of s) (clash-sym s.rule s.reach) (index_at new) (index_at old) renumbers from to has fits
        (alike-valid (renumbered (index_at old) (net_of s)) (net_of (moved_site s old)) net-same (reserved (positions s) from) v)

    pub valid-new : Valid (net_of s) (reserved (positions s) back) → Valid (net_of (moved_site s old)) (reserved (positions s) from)
    valid-new v =
        alike-valid (net_of (moved_site s old)) (renumbered (index_at old) (net_of s)) same-net (reserved (positions s) from)
        (valid-agree (renumbered (index_at old) (net_of s)) (λ a k. reserved (positions s) back (index_at old a) k) (reserved (positions s) from)
        (λ a k l h.
        ap (λ (x : ℕ). sends x)
        (sym
        (carried-byte (index_at new) s.cells (positions s) from to has fits renumbers.new_in (index_at old a) k (renumbers.old_in a l) h
        ∙ ap (λ (i : ℕ). get_or from (i * positions s + k) 0) (renumbers.new_old a l))))
        (valid-forth (net_of s) (clash-sym s.rule s.reach) (index_at new) (index_at old) renumbers (reserved (positions s) back) v))
