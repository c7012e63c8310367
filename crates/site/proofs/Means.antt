-- The definitions say what specs/Means.antt says, and nothing else: the fault or answer that a definition gives means what is the case,
-- and the one that means what is the case is the one that it gives.
-- Each search of a definition finds the lowest, and each test of a row is the test of its bits. Assumes nothing.
use Prim.Native.Nat.{ℕ, zero, suc, ◌+◌, ◌-◌, ◌^◌, ◌≤◌, ◌<◌}
use mathlib.Core.Bool.{Bool, true, false, not, ◌||◌, ◌&&◌, true≢false}
use mathlib.Core.List.{[], ◌∷◌}
use mathlib.Core.Logic.{◌⊎◌, inl, inr, ⊎_elim}
use mathlib.Core.Path.{◌≡◌, refl, sym, ◌∙◌}
use native.Mathlib.Omega.{arith}
use native.Mathlib.Nat.{two-pow-succ, lt_of_lt_of_le}
use borrow.Author.Tests.{ltb-true, ltb-false, lt-ltb, le-ltb, eqb-true, eqb-false, eq-eqb, ne_eqb, not-true}
use lib.Dec.{ltb, eqb}
use lib.Pow.{pow_mono}
use Rattle.laws.specs.Choice.{pick}
use Rattle.laws.specs.Bits.{bit_at}
use Rattle.laws.proofs.Choice.{cases, refute, both, both_is, at_least, either, either_is}
use Rattle.laws.proofs.Search.{first-least, first_passes, first-before, first-none, first-is}
use Rattle.laws.proofs.Bits.{bit_past, no_bits, none_in}
use Rattle.positions.specs.Blocked.{blocked_at}
use Rattle.reachrows.proofs.Rules.{ThirdCell, both_some, both-here}
use Rattle.site.specs.Record.{zero_site, load_at, row_of, positions, up_to, size_ok, rule_ok, row_bad, extra_load, bad_row, extra_blocked, is_fine, fault_of}
use Rattle.site.specs.Reach.{reaches, reached_by_both, clash_in, clash_of, clash_named, clash_answer}
use Rattle.site.specs.Edit.{load_edit_fault, reach_edit_fault, answered, set_load_of, reach_edited, set_reach_of, clear_reach_of}
use Rattle.site.specs.Means.{UpTo, Sized, LoadBeyond, BlockedBeyond, RowGood, FaultMeans, Reaches, Third, Clashing, ClashMeans, EditMeans, Two}
use Rattle.site.specs.declared.Site.{Site}
use Rattle.site.specs.declared.Fault.{Fault}
use Rattle.site.specs.declared.Fault.TheVariants.{Size, Rule, Load, Reach, Blocked}
use Rattle.std.specs.Prelude.{Result, Ok, Err}
use Rattle.std.specs.Result.{result_and}
use Rattle.site.proofs.Faults.{fine-is, up-to, up-to-is, sized, sizes-is, fine-sized, few-positions, ruled, ruled-is}
use Rattle.site.proofs.Accepted.{row_ok, ok-row, row-none, fine-reach}
use Rattle.site.proofs.PassedOn.{clash-refused}

-- ---- a site of zeros

pub zeros : (zero_site.cells ≡ 0) × (zero_site.slots ≡ 0) × (zero_site.channels ≡ 0)
    × (zero_site.loads ≡ 0 ∷ 0 ∷ 0 ∷ 0 ∷ 0 ∷ 0 ∷ 0 ∷ 0 ∷ 0 ∷ 0 ∷ 0 ∷ 0 ∷ 0 ∷ 0 ∷ 0 ∷ 0 ∷ 0 ∷ 0 ∷ 0 ∷ 0 ∷ 0 ∷ 0 ∷ 0 ∷ 0 ∷ 0 ∷ 0 ∷ 0 ∷ 0 ∷ 0 ∷ 0 ∷ 0 ∷ 0 ∷ [])
    × (zero_site.reach ≡ 0 ∷ 0 ∷ 0 ∷ 0 ∷ 0 ∷ 0 ∷ 0 ∷ 0 ∷ 0 ∷ 0 ∷ 0 ∷ 0 ∷ 0 ∷ 0 ∷ 0 ∷ 0 ∷ 0 ∷ 0 ∷ 0 ∷ 0 ∷ 0 ∷ 0 ∷ 0 ∷ 0 ∷ 0 ∷ 0 ∷ 0 ∷ 0 ∷ 0 ∷ 0 ∷ 0 ∷ 0 ∷ [])
    × (zero_site.rule ≡ 0)
    × (zero_site.blocked ≡ 0 ∷ 0 ∷ 0 ∷ 0 ∷ 0 ∷ 0 ∷ 0 ∷ 0 ∷ 0 ∷ 0 ∷ 0 ∷ 0 ∷ 0 ∷ 0 ∷ 0 ∷ 0 ∷ 0 ∷ 0 ∷ 0 ∷ 0 ∷ 0 ∷ 0 ∷ 0 ∷ 0 ∷ 0 ∷ 0 ∷ 0 ∷ 0 ∷ 0 ∷ 0 ∷ 0 ∷ 0 ∷ [])
unfolding zero_site
zeros = (refl, refl, refl, refl, refl, refl, refl)

-- ---- rows

back : (k : ℕ) → k + 1 - 1 ≡ k
back k = omega arith

-- a number is below its power of two
below : (y : ℕ) → y < 2 ^ y
below zero = omega arith
below (suc y) = omega (arith, below y, two-pow-succ y)

module _ (n x k : ℕ) where
  -- a row that is no fault has no bit past the cells, and not its own
  bits-within : row_bad n x k ≡ false → (b : ℕ) → n ≤ b → bit_at x b ≡ false
  bits-within e b l =
      ⊎_elim (λ h. bit_past x b n (row_ok n x k (ltb-true k n h) e).0 l)
      (λ h. rw (row-none n x k (ltb-false k n h) e) (none_in b))
      (cases (ltb k n))

  bits-others : row_bad n x k ≡ false → bit_at x k ≡ false
  bits-others e = ⊎_elim (λ h. (row_ok n x k (ltb-true k n h) e).1) (λ h. bits-within e k (ltb-false k n h)) (cases (ltb k n))

  none-good : n ≤ k → x ≡ 0 → row_bad n x k ≡ false
  unfolding row_bad
  none-good l e = simp (le-ltb k n l, e)

  bits-good : (n ≤ k → x ≡ 0) → ((b : ℕ) → n ≤ b → bit_at x b ≡ false) → bit_at x k ≡ false → row_bad n x k ≡ false
  bits-good used within others =
      ⊎_elim
      (λ h. ok-row n x k (ltb-true k n h)
      (no_bits x n x (lt_of_lt_of_le (below x) (pow_mono (omega arith))) (λ b l m q. true≢false (sym (eq-eqb _ _ q) ∙ within b l))) others)
      (λ h. none-good (ltb-false k n h) (used (ltb-false k n h)))
      (cases (ltb k n))

module _ (s : Site) (r : ℕ) (some : 1 ≤ r) where
  row-good : row_bad s.cells (row_of s (r - 1)) (r - 1) ≡ false → RowGood s r
  row-good e = record {
    used = λ l. row-none s.cells (row_of s (r - 1)) (r - 1) (omega arith) e;
    within = λ b l q. eqb-false _ _ (bits-within s.cells (row_of s (r - 1)) (r - 1) e (b - 1) (omega arith)) q;
    others = λ q. eqb-false _ _ (bits-others s.cells (row_of s (r - 1)) (r - 1) e) q;
  }

  good-row : RowGood s r → row_bad s.cells (row_of s (r - 1)) (r - 1) ≡ false
  good-row g =
      bits-good s.cells (row_of s (r - 1)) (r - 1) (λ l. g.used (omega arith))
      (λ b l. ne_eqb _ _ (λ q. g.within (b + 1) (omega arith) (rw (back b) q)))
      (ne_eqb _ _ g.others)

-- ---- the faults of a record

module _ (s : Site) where
  abbrev load_set : ℕ → Bool
  load_set k = ltb 0 (load_at s k)

  abbrev row-bad : ℕ → Bool
  row-bad k = row_bad s.cells (row_of s k) k

  -- no load is set beyond the cells before the one that the search finds
  none_before : (k : ℕ) → k ≤ extra_load s → LoadBeyond s k → ⊥
  unfolding extra_load
  none_before k l (past, most, set) =
      let none : load_at s (k - 1) ≤ 0 = ltb-false 0 (load_at s (k - 1)) (first-before load_set s.cells 32 (k - 1) (omega arith) (omega arith)) in
      omega arith

  found-load : s.cells ≤ 32 → extra_load s < 32 → LoadBeyond s (extra_load s + 1)
  unfolding extra_load
  found-load most l =
      let low : s.cells ≤ extra_load s = first-least load_set s.cells 32 in
      (omega arith, omega arith, rw (back (extra_load s)) (ltb-true 0 (load_at s (extra_load s)) (first_passes load_set s.cells 32 most l)))

  good-before : (k : ℕ) → 1 ≤ k → k ≤ bad_row s → RowGood s k
  unfolding bad_row
  good-before k some l = row-good s k some (first-before row-bad 0 32 (k - 1) (omega arith) (omega arith))

  found-row : bad_row s < 32 → RowGood s (bad_row s + 1) → ⊥
  unfolding bad_row
  found-row l g =
      let bad : row-bad (bad_row s) ≡ true = first_passes row-bad 0 32 (omega arith) l in
      true≢false (sym bad ∙ (rw (back (bad_row s)) at (good-row s (bad_row s + 1) (omega arith) g)))

  abbrev blocked-at : ℕ → Bool
  blocked-at = blocked_at s.blocked

  -- no position is blocked past the site's before the one that the search finds
  none-blocked : (k : ℕ) → k < extra_blocked s → BlockedBeyond s k → ⊥
  unfolding extra_blocked
  none-blocked k l (past, most, set) = true≢false (sym (eq-eqb _ _ set) ∙ first-before blocked-at (positions s) 2048 k past l)

  found-blocked : positions s ≤ 2048 → extra_blocked s < 2048 → BlockedBeyond s (extra_blocked s)
  unfolding extra_blocked
  found-blocked few l = (first-least blocked-at (positions s) 2048, l, eqb-true _ _ (first_passes blocked-at (positions s) 2048 few l))

  -- what is said where the sizes and the rule are in order, and the loads
  abbrev past_loads : (v w : Bool) → Result Unit Fault
  past_loads v w = pick v (Err (Reach (bad_row s + 1))) (pick w (Err (Blocked (extra_blocked s))) (Ok tt))

  means-at : (t o u v w : Bool) → size_ok s.cells s.slots s.channels ≡ t → rule_ok s.rule ≡ o → ltb (extra_load s) 32 ≡ u → ltb (bad_row s) 32 ≡ v
      → ltb (extra_blocked s) 2048 ≡ w
      → FaultMeans s (pick t (pick o (pick u (Err (Load (extra_load s + 1))) (past_loads v w)) (Err Rule)) (Err Size))
  means-at false o u v w p y q r x = λ z. true≢false (sym (sizes-is _ _ _ z) ∙ p)
  means-at true false u v w p y q r x = (sized s p, λ z. true≢false (sym (ruled-is _ z) ∙ y))
  means-at true true true v w p y q r x =
      let z = sized s p in
      (z, ruled _ y, found-load z.cells_most (ltb-true _ _ q), λ k l. none_before k (omega arith))
  means-at true true false true w p y q r x =
      let l : 32 ≤ extra_load s = ltb-false _ _ q in
      let b : bad_row s < 32 = ltb-true _ _ r in (
        sized s p,
        ruled _ y,
        (λ k h. none_before k (omega (arith, h.1)) h),
        (omega arith, omega arith),
        found-row b,
        λ k some m. good-before k some (omega arith),
      )
  means-at true true false false true p y q r x =
      let l : 32 ≤ extra_load s = ltb-false _ _ q in
      let b : 32 ≤ bad_row s = ltb-false _ _ r in
      let z = sized s p in (
        z,
        ruled _ y,
        (λ k h. none_before k (omega (arith, h.1)) h),
        (λ k u. good-before k u.0 (omega (arith, u.1))),
        found-blocked (few-positions z) (ltb-true _ _ x),
        none-blocked,
      )
  means-at true true false false false p y q r x =
      let l : 32 ≤ extra_load s = ltb-false _ _ q in
      let b : 32 ≤ bad_row s = ltb-false _ _ r in
      let e : 2048 ≤ extra_blocked s = ltb-false _ _ x in (
        sized s p,
        ruled _ y,
        (λ k h. none_before k (omega (arith, h.1)) h),
        (λ k u. good-before k u.0 (omega (arith, u.1))),
        λ k h. none-blocked k (omega (arith, h.1)) h,
      )

  -- the fault that a record has means what is the case ..
  pub fault-means : FaultMeans s (fault_of s)
  unfolding fault_of
  fault-means =
      means-at (size_ok s.cells s.slots s.channels) (rule_ok s.rule) (ltb (extra_load s) 32) (ltb (bad_row s) 32) (ltb (extra_blocked s) 2048)
      refl refl refl refl refl

  no_load : Sized s → ((k : ℕ) → LoadBeyond s k → ⊥) → extra_load s ≡ 32
  unfolding extra_load
  no_load z none =
      first-none load_set s.cells 32 z.cells_most
      (λ j l h. le-ltb _ _ (at_least _ _ (λ q. none (j + 1) (omega arith, omega arith, rw (back j) q))))

  good-at : (j : ℕ) → RowGood s (j + 1) → row-bad j ≡ false
  good-at j g = rw (back j) at (good-row s (j + 1) (omega arith) g)

  no_row : ((k : ℕ) → UpTo 32 k → RowGood s k) → bad_row s ≡ 32
  unfolding bad_row
  no_row good = first-none row-bad 0 32 (omega arith) (λ j l h. good-at j (good (j + 1) (omega arith, omega arith)))

  -- .. and the one that means what is the case is the one that it has
  pub fault-only : (f : Result Unit Fault) → FaultMeans s f → fault_of s ≡ f
  unfolding fault_of extra_load bad_row extra_blocked
  fault-only (Err Size) n = rw (refute (size_ok s.cells s.slots s.channels) (λ e. n (sized s e)))
  fault-only (Err Rule) (z, n) = simp (sizes-is _ _ _ z, refute (rule_ok s.rule) (λ e. n (ruled _ e)))
  fault-only (Err (Load c)) (z, o, (past, most, set), low) =
      let e : extra_load s ≡ c - 1 = first-is load_set s.cells (c - 1) 32 (omega arith) (omega arith) (lt-ltb 0 (load_at s (c - 1)) (omega arith))
      (λ j l h. le-ltb _ _ (at_least _ _ (λ q. low (j + 1) (omega arith) (omega arith, omega arith, rw (back j) q)))) in
      let n : c - 1 + 1 ≡ c = omega arith in
      simp (sizes-is _ _ _ z, ruled-is _ o, e, lt-ltb (c - 1) 32 (omega arith), n)
  fault-only (Err (Reach r)) (z, o, none, (some, most), bad, low) =
      let e : bad_row s ≡ r - 1 = first-is row-bad 0 (r - 1) 32 (omega arith) (omega arith)
      (is_true _ (λ q. bad (row-good s r some q)))
      (λ j l h. good-at j (low (j + 1) (omega arith) (omega arith))) in
      let n : r - 1 + 1 ≡ r = omega arith in
      simp (sizes-is _ _ _ z, ruled-is _ o, no_load z none, e, lt-ltb (r - 1) 32 (omega arith), n)
    where
      is_true : (b : Bool) → (b ≡ false → ⊥) → b ≡ true
      is_true true h = refl
      is_true false h = absurd (h refl)
  fault-only (Err (Blocked k)) (z, o, none, good, (past, most, set), low) =
      let e : extra_blocked s ≡ k = first-is blocked-at (positions s) k 2048 past most (eq-eqb _ _ set)
      (λ j l h. refute (blocked-at j) (λ q. low j h (l, omega arith, eqb-true _ _ q))) in
      simp (sizes-is _ _ _ z, ruled-is _ o, no_load z none, no_row good, e, lt-ltb k 2048 most)
  fault-only (Ok u) (z, o, none, good, free) =
      let e : extra_blocked s ≡ 2048 = first-none blocked-at (positions s) 2048 (few-positions z)
      (λ j l h. refute (blocked-at j) (λ q. free j (l, h, eqb-true _ _ q))) in
      simp (sizes-is _ _ _ z, ruled-is _ o, no_load z none, no_row good, e)

-- ---- clash

pub no-fine : (f : Result Unit Fault) → (f ≡ Ok tt → ⊥) → is_fine f ≡ false
no-fine f n = refute (is_fine f) (λ e. n (fine-is f e))

-- a bit of a row, by numbers and by index
reach-bit : (s : Site) (a b : ℕ) → reaches s.reach (a - 1) (b - 1) ≡ true → Reaches s a b
unfolding reaches
reach-bit s a b e = eqb-true _ _ e

bit-reach : (s : Site) (a b : ℕ) → Reaches s a b → reaches s.reach (a - 1) (b - 1) ≡ true
unfolding reaches
bit-reach s a b e = eq-eqb _ _ e

-- why two cells clash, by index
abbrev Why : Site → ℕ → ℕ → Type 0
Why s i j =
    (reaches s.reach i j ≡ true) ⊎ ((reaches s.reach j i ≡ true) ⊎ ((s.rule ≡ 2) × ((c : ℕ) × ThirdCell s.reach i j c)))

why-clash : (s : Site) (i j : ℕ) → clash_of s i j ≡ true → (i ≡ j → ⊥) × Why s i j
unfolding clash_in
why-clash s i j e =
    let h = both _ _ e in (
      eqb-false i j (not-true _ h.0),
      ⊎_elim inl (λ q. inr (⊎_elim inl (λ r. let t = both _ _ r in inr (eqb-true s.rule 2 t.0, both_some s.reach i j t.1))
          (either (reaches s.reach j i) (eqb s.rule 2 && reached_by_both s.reach i j) q)))
          (either (reaches s.reach i j) (reaches s.reach j i || (eqb s.rule 2 && reached_by_both s.reach i j)) h.1),
    )

clash-why : (s : Site) (i j : ℕ) → (i ≡ j → ⊥) → Why s i j → clash_of s i j ≡ true
unfolding clash_in
clash-why s i j n h =
    simp (ne_eqb i j n)
    (either_is (reaches s.reach i j) (reaches s.reach j i || (eqb s.rule 2 && reached_by_both s.reach i j))
    (⊎_elim inl (λ q. inr (either_is (reaches s.reach j i) (eqb s.rule 2 && reached_by_both s.reach i j)
    (⊎_elim inl (λ r. inr (both_is _ _ (eq-eqb s.rule 2 r.0) (both-here s.reach i j r.1.0 r.1.1))) q))) h))

module _ (s : Site) (a b : ℕ) (fine : fault_of s ≡ Ok tt) where
  -- the third cell, by its number: whoever reaches it is a cell of the site, and so is it
  third-named : (c : ℕ) → a - 1 < 32 → ThirdCell s.reach (a - 1) (b - 1) c → 1 ≤ a → 1 ≤ b → Third s a b (c + 1)
  third-named c l t one two =
      let r = fine-reach s fine (a - 1) c l t.by_first in
      record {
        inside = (omega arith, omega (arith, r.1));
        not_first = λ q. t.not_first (omega arith);
        not_second = λ q. t.not_second (omega arith);
        by_first = reach-bit s a (c + 1) (rw (back c) t.by_first);
        by_second = reach-bit s b (c + 1) (rw (back c) t.by_second);
      }

  named-third : (c : ℕ) → s.cells ≤ 32 → 1 ≤ a → 1 ≤ b → Third s a b c → ThirdCell s.reach (a - 1) (b - 1) (c - 1)
  named-third c most one two t =
      let l = t.inside in
      record {
        few = omega (arith, l.0, l.1);
        not_first = λ q. t.not_first (omega (arith, l.0));
        not_second = λ q. t.not_second (omega (arith, l.0));
        by_first = bit-reach s a c t.by_first;
        by_second = bit-reach s b c t.by_second;
      }

  pub is-clashing : clash_named s a b ≡ true → Clashing s a b
  is-clashing e =
      let h = both _ _ e in
      let g = both _ _ h.1 in
      let i = up-to _ _ h.0 in
      let j = up-to _ _ g.0 in
      let most : s.cells ≤ 32 = (fine-sized s fine).cells_most in
      let c = why-clash s (a - 1) (b - 1) g.1 in
      let l : a - 1 < 32 = omega (arith, i.0, i.1) in
      record {
        first_in_holds = i;
        second_in_holds = j;
        two = λ q. c.0 (omega arith);
        why = ⊎_elim (λ q. inl (reach-bit s a b q)) (λ q. inr (⊎_elim (λ r. inl (reach-bit s b a r))
            (λ r. inr (r.0, (r.1.0 + 1, third-named r.1.0 l r.1.1 i.0 j.0))) q)) c.1;
      }

  clashing-is : Clashing s a b → clash_named s a b ≡ true
  clashing-is c =
      let i = c.first_in_holds in
      let j = c.second_in_holds in
      simp (up-to-is _ _ i, up-to-is _ _ j)
      (clash-why s (a - 1) (b - 1) (λ q. c.two (omega (arith, i, j)))
      (⊎_elim (λ q. inl (bit-reach s a b q)) (λ q. inr (⊎_elim (λ r. inl (bit-reach s b a r))
      (λ r. inr (r.0, (r.1.0 - 1, named-third r.1.0 (fine-sized s fine).cells_most i.0 j.0 r.1.1))) q)) c.why))

module _ (s : Site) (a b : ℕ) where
  clash-at : (f : Result Unit Fault) (t : Bool) → fault_of s ≡ f → clash_named s a b ≡ t → ClashMeans s a b (result_and f (Ok t))
  clash-at (Ok u) true p q = (p, is-clashing s a b p q)
  clash-at (Ok u) false p q = (p, λ c. true≢false (sym (clashing-is s a b p c) ∙ q))
  clash-at (Err f) t p q = p

  pub clash-means : ClashMeans s a b (clash_answer s a b)
  unfolding clash_answer
  clash-means = clash-at (fault_of s) (clash_named s a b) refl refl

  pub clash-only : (r : Result Bool Fault) → ClashMeans s a b r → clash_answer s a b ≡ r
  unfolding clash_answer
  clash-only (Ok true) (p, c) = simp (p, clashing-is s a b p c)
  clash-only (Ok false) (p, n) = simp (p, refute (clash_named s a b) (λ e. n (is-clashing s a b p e)))
  clash-only (Err f) p = (clash-refused s a b f).1 p

-- ---- edits

edit-means : (s : Site) (Named : Type 0) (own : Fault) (t : Bool) → (Named → t ≡ true) → (t ≡ true → Named)
    → EditMeans s Named own (result_and (fault_of s) (pick t (Ok tt) (Err own)))
edit-means s Named own t does named = record {
  faulty = λ n. refused-by (fault_of s) _ n;
  done = λ e h. simp (e, does h);
  refused = λ e n. simp (e, refute t (λ q. n (named q)));
}
  where
    refused-by : (f g : Result Unit Fault) → (f ≡ Ok tt → ⊥) → result_and f g ≡ f
    refused-by (Ok u) g n = absurd (n refl)
    refused-by (Err f) g n = refl

pub set-load-answer : (s : Site) (cell v : ℕ) → EditMeans s (UpTo s.cells cell) (Load cell) (set_load_of s cell v).answer
unfolding set_load_of answered load_edit_fault
set-load-answer s cell v = edit-means s (UpTo s.cells cell) (Load cell) (up_to s.cells cell) (up-to-is _ _) (up-to _ _)

reach-means : (s : Site) (from to : ℕ) → EditMeans s (Two s from to) (Reach from) (reach_edit_fault s from to)
unfolding reach_edit_fault
reach-means s from to =
    edit-means s (Two s from to) (Reach from) (up_to s.cells from && (up_to s.cells to && not (eqb from to)))
    (λ h. simp (up-to-is _ _ h.0, up-to-is _ _ h.1, ne_eqb _ _ h.2))
    (λ e. let h = both _ _ e in let g = both _ _ h.1 in (up-to _ _ h.0, up-to _ _ g.0, eqb-false _ _ (not-true _ g.1)))

pub set-reach-answer : (s : Site) (from to : ℕ) → EditMeans s (Two s from to) (Reach from) (set_reach_of s from to).answer
unfolding reach_edited answered
set-reach-answer s from to = reach-means s from to

pub clear-reach-answer : (s : Site) (from to : ℕ) → EditMeans s (Two s from to) (Reach from) (clear_reach_of s from to).answer
unfolding reach_edited answered
clear-reach-answer s from to = reach-means s from to
