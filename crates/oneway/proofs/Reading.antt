-- The one-way reading sees fewer clashes than there are, and no others.
--     two-way-exact     of the rows a bit stays exactly where the bit back is set too
--     two-way-reach     in the two-way site a cell reaches another exactly where each of the two reaches the other in the site
--     two-way-rest      all else of the site stays, the rule too
--     two-way-clash     what clashes in the two-way site clashes in the site
--     two-way-valid     a table that is valid for the site is valid for the two-way site
--     two-way-fine      the two-way site of an accepted site is accepted
--     unseen-means      `unseen` says true exactly of a table that is valid if only two-way ranges clash, and not valid in truth
--     unseen-clash      such a table has a clash that the two-way site does not have, the first that the checker names
-- Assumes nothing.
use Prim.Native.Nat.{ℕ, ◌-◌, ◌≤◌, ◌<◌}
use mathlib.Core.Bool.{Bool, true, false, not, ◌||◌, ◌&&◌, true≢false, false≢true}
use mathlib.Core.List.{List}
use mathlib.Core.Logic.{⊎_elim, ◌↔◌}
use mathlib.Core.Path.{◌≡◌, refl, sym, ap, ◌∙◌, subst}
use native.Mathlib.Omega.{arith}
use lib.Dec.{ltb, eqb}
use lib.ListN.{length, get_or, get_or-eq_default}
use lib.Pow.{pow_pos}
use borrow.Author.Tests.{ltb-true, ltb-false, eqb-true, eq-eqb}
use Rattle.laws.specs.Bits.{bit_at, bit_in, word_of}
use Rattle.laws.proofs.Bits.{bit-above}
use Rattle.laws.proofs.Choice.{cases, both, both_is, refute}
use Rattle.laws.proofs.Stores.{length-list, list_at}
use Rattle.laws.proofs.Words.{word-bit, word-past, none-word}
use Rattle.theory.specs.Net.{Reserved, Valid}
use Rattle.theory.specs.Greedy.{reserved}
use Rattle.theory.specs.Named.{FirstClash}
use Rattle.theory.specs.Verdict.{TableVerdict, valid, barred, clash, wrong, table_verdict}
use Rattle.theory.proofs.TableLaws.{check-valid, check-names-barred, check-names-wrong}
use Rattle.reachrows.specs.Rows.{reaches, reached_by_both, clash_in}
use Rattle.reachrows.proofs.Rules.{both_some, both-here}
use Rattle.site.specs.Record.{site_of, positions, size, fault_of}
use Rattle.site.specs.Reach.{net_of, clash_of}
use Rattle.site.specs.Means.{UpTo, RowGood, FaultMeans, Reaches}
use Rattle.site.specs.declared.Site.{Site}
use Rattle.std.specs.Prelude.{Result, Ok, Err}
use Rattle.site.proofs.Means.{fault-means, fault-only}
use Rattle.checker.specs.Check.{verdict_of, check_answer}
use Rattle.checker.specs.declared.CheckError.{CheckError}
use Rattle.checker.specs.declared.CheckError.TheVariants as check
use Rattle.checker.proofs.Judged.{check-judged}
use Rattle.checker.proofs.Meaning.{valid-means, clash-means}
use Rattle.oneway.specs.TwoWay.{two_way_rows, two_way, Unseen, is_clash, is_valid, unseen_in}

module _ (rows : List ℕ) where
  -- a bit of the two-way rows is one of the rows, and so is the bit back
  in_row : (a b : ℕ) → a < 32 → (t : Bool) → ltb b 32 ≡ t → bit_in (two_way_rows rows) a b ≡ true → (bit_in rows a b && bit_in rows b a) ≡ true
  unfolding two_way_rows
  in_row a b h true e z =
      sym (word-bit (λ k. bit_in rows a k && bit_in rows k a) 32 b (ltb-true b 32 e))
      ∙ ap (λ (x : ℕ). bit_at x b) (sym (list_at (λ k. word_of (λ j. bit_in rows k j && bit_in rows j k) 32) 32 a h))
      ∙ z
  in_row a b h false e z =
      absurd (false≢true (sym (word-past (λ k. bit_in rows a k && bit_in rows k a) 32 b (ltb-false b 32 e))
      ∙ ap (λ (x : ℕ). bit_at x b) (sym (list_at (λ k. word_of (λ j. bit_in rows k j && bit_in rows j k) 32) 32 a h))
      ∙ z))

  past_row : (a b : ℕ) → 32 ≤ a → bit_in (two_way_rows rows) a b ≡ false
  unfolding two_way_rows
  past_row a b h =
      ap (λ (x : ℕ). bit_at x b)
      (get_or-eq_default (two_way_rows rows) 0 {n = a} (omega (arith, length-list (λ k. word_of (λ j. bit_in rows k j && bit_in rows j k) 32) 32)))
      ∙ bit-above 0 b (pow_pos b)

  pub two-way-bit : (a b : ℕ) → bit_in (two_way_rows rows) a b ≡ true → (bit_in rows a b ≡ true) × (bit_in rows b a ≡ true)
  two-way-bit a b z =
      ⊎_elim
      (λ h. both _ _ (in_row a b (ltb-true a 32 h) (ltb b 32) refl z))
      (λ h. absurd (false≢true (sym (past_row a b (ltb-false a 32 h)) ∙ z)))
      (cases (ltb a 32))

  -- "only two-way ranges": of the 32 rows and their 32 bits, bit b of row a stays exactly where it is set and bit a of row b is too
  pub two-way-exact : (a b : ℕ) → a < 32 → b < 32 → (bit_in (two_way_rows rows) a b ≡ true) ↔ ((bit_in rows a b ≡ true) × (bit_in rows b a ≡ true))
  unfolding two_way_rows
  two-way-exact a b h l = (
    two-way-bit a b,
    λ e.
        ap (λ (x : ℕ). bit_at x b) (list_at (λ k. word_of (λ j. bit_in rows k j && bit_in rows j k) 32) 32 a h)
        ∙ word-bit (λ k. bit_in rows a k && bit_in rows k a) 32 b l
        ∙ both_is (bit_in rows a b) (bit_in rows b a) e.0 e.1,
  )

  fewer : (a b : ℕ) → reaches (two_way_rows rows) a b ≡ true → reaches rows a b ≡ true
  unfolding reaches
  fewer a b e = (two-way-bit a b e).0

  fewer-thirds : (a b : ℕ) → reached_by_both (two_way_rows rows) a b ≡ true → reached_by_both rows a b ≡ true
  fewer-thirds a b e =
      let r = both_some (two_way_rows rows) a b e in
      let t = r.1 in
      both-here rows a b r.0
      (record {
        few = t.few;
        not_first = t.not_first;
        not_second = t.not_second;
        by_first = fewer a r.0 t.by_first;
        by_second = fewer b r.0 t.by_second;
      })

either : (x y u v : Bool) → (x ≡ true → u ≡ true) → (y ≡ true → v ≡ true) → (x || y) ≡ true → (u || v) ≡ true
either true y u v f g e = rw (f refl)
either false y true v f g e = refl
either false y false v f g e = g e

and_keeps : (t x u : Bool) → (x ≡ true → u ≡ true) → (t && x) ≡ true → (t && u) ≡ true
and_keeps true x u f e = f e
and_keeps false x u f e = e

clash-kept : (rule : ℕ) (rows : List ℕ) (a b : ℕ) → clash_in rule (two_way_rows rows) a b ≡ true → clash_in rule rows a b ≡ true
unfolding clash_in
clash-kept rule rows a b =
    and_keeps (not (eqb a b)) _ _
    (either (reaches (two_way_rows rows) a b) _ (reaches rows a b) _ (fewer rows a b)
    (either (reaches (two_way_rows rows) b a) _ (reaches rows b a) _ (fewer rows b a)
    (and_keeps (eqb rule 2) _ _ (fewer-thirds rows a b))))

module _ (s : Site) where
  -- "a one-way reading would not see" some clashes; it sees no other
  pub two-way-clash : (a b : ℕ) → clash_of (two_way s) a b ≡ true → clash_of s a b ≡ true
  unfolding two_way
  two-way-clash a b = clash-kept s.rule s.reach a b

  pub two-way-valid : (res : Reserved) → Valid (net_of s) res → Valid (net_of (two_way s)) res
  unfolding two_way
  two-way-valid res v = record {
    apart = λ a c k l h w e. v.apart a c k l h w (two-way-clash a c e);
    exact = v.exact;
    allowed = v.allowed;
  }

  reach-fewer : (a b : ℕ) → Reaches (two_way s) a b → Reaches s a b
  unfolding two_way
  reach-fewer a b e = eqb-true _ _ (two-way-bit s.reach (a - 1) (b - 1) (eq-eqb _ _ e)).0

  -- a cell reaches another in the reading exactly where each of the two reaches the other in the site
  pub two-way-reach : (a b : ℕ) → UpTo 32 a → UpTo 32 b → Reaches (two_way s) a b ↔ (Reaches s a b × Reaches s b a)
  unfolding two_way
  two-way-reach a b u v =
      let same = two-way-exact s.reach (a - 1) (b - 1) (omega (arith, u.0, u.1)) (omega (arith, v.0, v.1)) in (
        λ e. let h = same.0 (eq-eqb _ _ e) in (eqb-true _ _ h.0, eqb-true _ _ h.1),
        λ h. eqb-true _ _ (same.1 (eq-eqb _ _ h.0, eq-eqb _ _ h.1)),
      )

  -- all else is as it was: cells, slots, channels, loads, what is blocked, and the rule
  pub two-way-rest : two_way s ≡ site_of s.cells s.slots s.channels s.loads (two_way s).reach s.blocked s.rule
  unfolding two_way
  two-way-rest = refl

  row_of : ℕ → ℕ
  row_of a = word_of (λ b. bit_in s.reach a b && bit_in s.reach b a) 32

  -- a row without reach stays one
  empty-row : (a : ℕ) → a < 32 → get_or s.reach a 0 ≡ 0 → get_or (two_way s).reach a 0 ≡ 0
  unfolding two_way two_way_rows row_of
  empty-row a h e =
      list_at row_of 32 a h
      ∙ none-word (λ b. bit_in s.reach a b && bit_in s.reach b a) 32
      (λ b l. ap (λ (t : Bool). t && bit_in s.reach b a) (ap (λ (x : ℕ). bit_at x b) e ∙ bit-above 0 b (pow_pos b)))

  row-good : (k : ℕ) → UpTo 32 k → RowGood s k → RowGood (two_way s) k
  unfolding two_way
  row-good k u g = record {
    used = λ l. empty-row (k - 1) (omega (arith, u.0, u.1)) (g.used l);
    within = λ b l q. g.within b l (reach-fewer k b q);
    others = λ q. g.others (reach-fewer k k q);
  }

  pub two-way-fine : fault_of s ≡ Ok tt → fault_of (two_way s) ≡ Ok tt
  unfolding two_way
  two-way-fine e =
      let f = subst (FaultMeans s) e (fault-means s) in
      fault-only (two_way s) (Ok tt) (f.0, f.1, f.2, (λ k u. row-good k u (f.3 k u)), f.4)

was-valid : (a : Result Unit CheckError) → is_valid a ≡ true → a ≡ Ok tt
was-valid (Ok u) e = refl
was-valid (Err f) e = absurd (false≢true e)

was-clash : (a : Result Unit CheckError) → is_clash a ≡ true → (p x z : ℕ) × (a ≡ Err (check.Clash p x z))
was-clash (Ok u) e = absurd (false≢true e)
was-clash (Err check.TableShort) e = absurd (false≢true e)
was-clash (Err (check.Blocked p c)) e = absurd (false≢true e)
was-clash (Err (check.Clash p a c)) e = (p, a, c, refl)
was-clash (Err (check.Count c n)) e = absurd (false≢true e)
was-clash (Err (check.Record f)) e = absurd (false≢true e)

module _ (s : Site) (t : List ℕ) where
  abbrev res : Reserved
  res = reserved (positions s) t

  valid-read : unseen_in s t ≡ true → Valid (net_of (two_way s)) res
  unfolding unseen_in two_way
  valid-read e = ((valid-means (two_way s) t).0 (was-valid _ (both (is_clash (check_answer s t)) _ e).1)).2

  unclashed : unseen_in s t ≡ true → (p a c : ℕ) → FirstClash (net_of s) res p a c → clash_of (two_way s) a c ≡ false
  unfolding two_way
  unclashed e p a c f =
      let h = f.shows in
      refute (clash_of (two_way s) a c) (λ q. (valid-read e).apart a c p h.rising h.inside h.within q h.one h.other)

  -- `unseen` is said: the checker names a clash of the site, and the two-way site does not have it
  pub unseen-clash : unseen_in s t ≡ true → (p a c : ℕ) × FirstClash (net_of s) res p a c × (clash_of (two_way s) a c ≡ false)
  unfolding unseen_in
  unseen-clash e =
      let w = was-clash (check_answer s t) (both (is_clash (check_answer s t)) _ e).0 in
      let m = clash-means s t w.0 w.1 w.2 w.3 in
      (w.0, m.0, m.1, m.4, unclashed e w.0 m.0 m.1 m.4)

  module _ (fine : fault_of s ≡ Ok tt) (long : size s ≤ length t) where
    by-verdict : (v : TableVerdict) → table_verdict (net_of s) res ≡ v → Unseen s res → is_clash (verdict_of v) ≡ true
    unfolding verdict_of two_way
    by-verdict valid e u = absurd (u.1 (check-valid (net_of s) res e))
    by-verdict (barred k i) e u =
        let b = (check-names-barred (net_of s) res k i e).shows in
        absurd (true≢false (sym (u.0.allowed i k b.inside b.within b.held) ∙ b.closed))
    by-verdict (clash k a c) e u = refl
    by-verdict (wrong i n) e u = let w = check-names-wrong (net_of s) res i n e in absurd (w.differs (u.0.exact i w.inside))

    -- "so many with a clash that a one-way reading would not see": exactly these are counted
    pub unseen-means : (unseen_in s t ≡ true) ↔ Unseen s res
    unfolding unseen_in two_way
    unseen-means = (
      (λ e. (
        valid-read e,
        λ v.
            false≢true (sym (ap is_clash ((valid-means s t).1 (fine, long, v))) ∙ (both (is_clash (check_answer s t)) _ e).0),
      )),
      (λ u. both_is _ _
          (ap is_clash (sym (check-judged s t fine long)) ∙ by-verdict (table_verdict (net_of s) res) refl u)
          (ap is_valid ((valid-means (two_way s) t).1 (two-way-fine s fine, long, u.0)))),
    )
