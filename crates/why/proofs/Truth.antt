-- Every sentence that `put_why` says of an accepted site is true of it: each line by its row, from the laws of the judges, of the planner and of the
-- heaviest clash. Assumes nothing.
use mathlib.Core.Path.{◌≡◌, refl, sym, ◌∙◌}
use mathlib.Core.Bool.{Bool, true, false}
use mathlib.Core.List.{List, [], ◌∷◌, ◌++◌, Memᴰ}
use mathlib.Core.Logic.{⊎_elim}
use Prim.Native.Nat.{min, ℕ, zero, suc, ◌+◌, ◌≤◌, ◌<◌}
use native.Mathlib.Omega.{arith}
use native.Mathlib.Nat.{le_refl, eq-or-lt_of_le, le_of_suc-le-suc}
use lib.Dec.{ltb, eqb}
use lib.ListN.{length, get_or}
use borrow.Author.Tests.{ltb-true, ltb-false, eqb-true}
use Rattle.laws.specs.Bits.{bit_at}
use Rattle.laws.specs.Choice.{pick}
use Rattle.laws.proofs.Choice.{cases}
use Rattle.theory.specs.Full.{weight, around}
use Rattle.theory.proofs.Full.{full, over-full}
use Rattle.site.specs.Record.{load_at, positions, size, fault_of}
use Rattle.site.specs.Reach.{net_of}
use Rattle.site.specs.declared.Site.{Site}
use Rattle.site.specs.declared.Fault.{Fault}
use Rattle.std.specs.Prelude.{Result, Ok, Err}
use Rattle.planner.specs.Plan.{plan_answer}
use Rattle.planner.specs.declared.PlanError.{PlanError}
use Rattle.planner.specs.declared.PlanError.TheVariants as plan
use Rattle.planner.proofs.Answer.{run-answer}
use Rattle.planner.proofs.Meaning.{done-means}
use Rattle.judges.specs.Judges.{counted, chain_answer, class_answer, load_answer, least_answer}
use Rattle.judges.specs.declared.LoadVerdict.{LoadVerdict}
use Rattle.judges.specs.declared.LoadVerdict.TheVariants as load
use Rattle.judges.specs.declared.ChainVerdict.{ChainVerdict}
use Rattle.judges.specs.declared.ChainVerdict.TheVariants as chain
use Rattle.judges.specs.declared.ClassVerdict.{ClassVerdict}
use Rattle.judges.specs.declared.ClassVerdict.TheVariants as class
use Rattle.judges.specs.declared.LeastVerdict.{LeastVerdict}
use Rattle.judges.specs.declared.LeastVerdict.TheVariants as least
use Rattle.judges.proofs.Meaning.{chained-means, broken-means, class-means, outside-means, holds-means, over-means, least-means, enough-means}
use Rattle.judges.proofs.Meaning.{least-refused, covers-counted}
use Rattle.heaviest.proofs.Mutual.{heaviest-is}
use Rattle.heaviest.proofs.Meaning.{done-fine, done-class}
use Rattle.phrases.specs.declared.Phrase.{Phrase}
use Rattle.phrases.specs.declared.Phrase.TheVariants.{Row}
use Rattle.why.specs.Lines.{cell_row}
use Rattle.why.specs.Said.{chain_phrase, class_phrase, nested_phrase, over_phrase, load_phrase, plan_phrase, least_number, will_do, takes_phrase, set_phrase}
use Rattle.why.specs.Said.{open_of, cell_phrase, cell_phrases, size_row, size_phrase, slots_phrase, channels_phrase, some_blocked, sizes_phrases, why_phrases}
use Rattle.why.specs.Means.{Planned, NestedHolds, WillDo, AllOpen, set, Means}
use Rattle.why.proofs.Numbers.{itself, run-planned, at_least, demand-does, own-does, open-most, fewer-slots, fewer-channels, slots-do}
use Rattle.why.proofs.Numbers.{channels-do}

-- ---- of every phrase of a list

abbrev Each : (Phrase → Type 0) → List Phrase → Type 0
Each P [] = Unit {0}
Each P (p ∷ ps) = P p × Each P ps

each_both : (P : Phrase → Type 0) (ps qs : List Phrase) → Each P ps → Each P qs → Each P (ps ++ qs)
each_both P [] qs h k = k
each_both P (p ∷ ps) qs h k = (h.0, each_both P ps qs h.1 k)

each-one : (P : Phrase → Type 0) (ps : List Phrase) → Each P ps → (p : Phrase) → Memᴰ p ps → P p
each-one P [] h p m = absurd (mathlib.Core.List.Memᴰ.not-nil m)
each-one P (q ∷ ps) h p m = ⊎_elim (λ e. rw e h.0) (each-one P ps h.1 p) (mathlib.Core.List.Memᴰ.cases_cons m)

-- of the four rows of a size
size-cases : (P : Phrase → Type 0) (row most f lo hi : ℕ) → (most < lo → P (Row (row + 3) f 0 0 0)) → P (Row (row + 2) f lo 0 0)
    → (lo ≡ hi → P (Row row f lo 0 0)) → P (Row (row + 1) f lo hi 0) → P (size_row row most f lo hi)
size-cases P row most f lo hi none low exact range =
    ⊎_elim (λ e. rw e (none (ltb-true most lo e)))
    (λ e. rw e (⊎_elim (λ g. rw g low) (λ g. rw g (⊎_elim (λ k. rw k (exact (eqb-true lo hi k))) (λ k. rw k range) (cases (eqb lo hi)))) (cases (ltb most hi))))
    (cases (ltb most lo))

module _ (s : Site) (fine : fault_of s ≡ Ok tt) where
  abbrev heavy : ℕ
  heavy = weight (net_of s) (bit_at (set s))

  -- ---- the chain, the class and the load test

  chain-true : (a : Result ChainVerdict Fault) → chain_answer s ≡ a → Means s (chain_phrase a)
  chain-true (Ok chain.Chained) e = ((chained-means s).0 e).1
  chain-true (Ok (chain.Broken a b c)) e = (broken-means s a b c e).1
  chain-true (Err f) e = tt

  class-true : (k : Result ClassVerdict Fault) → class_answer s ≡ k → Means s (class_phrase k)
  class-true (Ok class.InClass) e = ((class-means s).0 e).1
  class-true (Ok (class.Outside a b i)) e = (outside-means s a b i e).1
  class-true (Err f) e = tt

  nested-true : (j : Result ChainVerdict Fault) (k : Result ClassVerdict Fault) → class_answer s ≡ k → Means s (nested_phrase j k)
  nested-true (Ok chain.Chained) k e = tt
  nested-true (Ok (chain.Broken a b c)) k e = class-true k e
  nested-true (Err f) k e = tt

  -- where three cells are named the site is not nested
  off-class : (a b i : ℕ) → class_answer s ≡ Ok (class.Outside a b i) → NestedHolds s → ⊥
  off-class a b i e c = let q = (class-means s).1 (fine, c) in let z : ◌≡◌ {A = ℕ} 0 1 = cc in omega arith

  over-true : (k : Result ClassVerdict Fault) → class_answer s ≡ k → (cell m : ℕ) → load_answer s ≡ Ok (load.Over cell m) → Means s (over_phrase k cell m)
  over-true (Ok class.InClass) e cell m h =
      let c = ((class-means s).0 e).1 in
      let o = (over-means s cell m h).1 in
      let f = o.2 in
      let w = over-full (net_of s) o.0 (counted s) (covers-counted s) c f.inside f.counts f.exceeds in
      (c, o, full (net_of s) (around (net_of s) o.0) w.0 w.1)
  over-true (Ok (class.Outside a b i)) e cell m h = (off-class a b i e, (over-means s cell m h).1)
  over-true (Err f) e cell m h = tt

  load-true : (k : Result ClassVerdict Fault) → class_answer s ≡ k → (a : Result LoadVerdict Fault) → load_answer s ≡ a → Means s (load_phrase k a)
  load-true k e (Ok load.Holds) h = ((holds-means s).0 h).1
  load-true k e (Ok (load.Over cell m)) h = over-true k e cell m h
  load-true k e (Err f) h = tt

  -- ---- the two numbers

  -- the number that `least` answers will do
  pub least-does : (a : Result LeastVerdict Fault) → least_answer s ≡ a → WillDo s (least_number a)
  least-does (Ok (least.Least n)) e = rw ((least-means s n).0 e).2 at (demand-does s)
  least-does (Ok (least.Enough n)) e = rw ((enough-means s n).0 e).2 at (demand-does s)
  least-does (Err f) e = let r = (least-refused s f).0 e in absurd cc

  module _ (t : List ℕ) (long : size s ≤ length t) where
    -- ---- the plan

    -- the planner answers the same in every table that is long enough
    same_answer : (a : Result Unit PlanError) → plan_answer s t ≡ a → (table : List ℕ) → size s ≤ length table → plan_answer s table ≡ a
    same_answer a e table h = run-answer s table fine h ∙ sym (run-answer s t fine long) ∙ e

    no_true : (cell short : ℕ) → plan_answer s t ≡ Err (plan.NoRoom cell short) → (b : Bool) → ltb (open_of s) heavy ≡ b
        → Means s (Row (pick b 6 7) cell short 0 0)
    no_true cell short e true h = (same_answer (Err (plan.NoRoom cell short)) e, at_least s s (itself s) fine (ltb-true (open_of s) heavy h))
    no_true cell short e false h = (same_answer (Err (plan.NoRoom cell short)) e, off, ltb-false (open_of s) heavy h)
      where
        off : NestedHolds s → ⊥
        off c =
            let d = done-class s heavy (set s) (done-fine s fine) ((class-means s).1 (fine, c)) in
            let p = (least-does (Ok (least.Least heavy)) d s (itself s) fine (ltb-false (open_of s) heavy h) t long).0 in
            let z : ◌≡◌ {A = ℕ} 0 1 = cc in
            omega arith

    plan-true : (a : Result Unit PlanError) → plan_answer s t ≡ a → Means s (plan_phrase heavy (open_of s) a)
    plan-true (Ok u) e = run-planned s fine ((done-means s t).0 e).2
    plan-true (Err plan.TableShort) e = tt
    plan-true (Err (plan.NoRoom cell short)) e = no_true cell short e (ltb (open_of s) heavy) refl
    plan-true (Err (plan.Record f)) e = tt

    -- the smaller of two numbers that will do, and it is no more than the first
    smaller-does : (n m : ℕ) → WillDo s n → WillDo s m → WillDo s (min n m) × (min n m ≤ n)
    smaller-does n m h k =
        let does : WillDo s (min n m) = ⊎_elim (λ e. let q : min n m ≡ n = omega (arith, ltb-true n m e) in rw q h)
        (λ e. let q : min n m ≡ m = omega (arith, ltb-false n m e) in rw q k) (cases (ltb n m)) in
        (does, omega arith)

    upper : (a : Result Unit PlanError) → plan_answer s t ≡ a → (m : ℕ) → WillDo s m
        → WillDo s (will_do a (open_of s) m) × (Planned s → will_do a (open_of s) m ≤ open_of s)
    upper (Ok u) e m h = let r = smaller-does (open_of s) m (own-does s ((done-means s t).0 e).2) h in (r.0, λ p. r.1)
    upper (Err plan.TableShort) e m h = (h, λ p. let q = (p t long).0 in let z : ◌≡◌ {A = ℕ} 0 1 = cc in absurd (omega arith))
    upper (Err (plan.NoRoom c l)) e m h = (h, λ p. let q = (p t long).0 in let z : ◌≡◌ {A = ℕ} 0 1 = cc in absurd (omega arith))
    upper (Err (plan.Record f)) e m h = (h, λ p. let q = (p t long).0 in let z : ◌≡◌ {A = ℕ} 0 1 = cc in absurd (omega arith))

  -- ---- the lines of the numbers

  -- where nothing is blocked all are open
  pub all_so : some_blocked s ≡ false → AllOpen s
  all_so e = let h : positions s ≤ open_of s = ltb-false _ _ e in omega (arith, open-most s)

  exact-true : (b : Bool) → ltb (open_of s) (positions s) ≡ b → WillDo s heavy → Means s (Row (pick b 9 8) heavy (open_of s) 0 0)
  exact-true true e h = (at_least s, h, (refl, ltb-true (open_of s) (positions s) e))
  exact-true false e h = (at_least s, h, (all_so e, all_so e))

  range-true : (b : Bool) → ltb (open_of s) (positions s) ≡ b → (u : ℕ) → WillDo s u → Means s (Row (pick b 11 10) heavy u (open_of s) 0)
  range-true true e u h = (at_least s, h, (refl, ltb-true (open_of s) (positions s) e))
  range-true false e u h = (at_least s, h, (all_so e, all_so e))

  takes-true : (u : ℕ) → WillDo s u → Means s (takes_phrase heavy u (open_of s) (positions s))
  unfolding takes_phrase
  takes-true u h =
      let b = ltb (open_of s) (positions s) in
      ⊎_elim (λ e. rw e (exact-true b refl (rw (← (eqb-true heavy u e)) at h))) (λ e. rw e (range-true b refl u h)) (cases (eqb heavy u))

  set-true : Means s (set_phrase heavy)
  unfolding set_phrase
  set-true = ⊎_elim (λ e. rw e (heaviest-is (net_of s), refl)) (λ e. rw e tt) (cases (ltb 0 heavy))

  cell-true : (i : ℕ) → i < s.cells → Means s (cell_phrase (set s) (load_at s i) i)
  unfolding cell_phrase
  cell-true i l = ⊎_elim (λ e. rw e (i, refl, l, e, refl)) (λ e. rw e tt) (cases (bit_at (set s) i))

  cells-true : (n : ℕ) → n ≤ s.cells → Each (Means s) (cell_phrases s.loads (set s) n)
  unfolding cell_phrases
  cells-true zero h = tt
  cells-true (suc n) h = each_both (Means s) (cell_phrases s.loads (set s) n) _ (cells-true n (omega arith)) (cell-true n (omega arith), tt)

  module _ (u : ℕ) (does : WillDo s u) (own : Planned s → u ≤ open_of s) where
    slots-true : AllOpen s → Means s (slots_phrase s heavy u)
    unfolding size_phrase
    slots-true free =
        let few = fewer-slots s heavy (at_least s) in
        let does-do = slots-do s u fine own does in
        size-cases (Means s) 14 128 s.channels _ _
        (λ h. ((refl, free), λ o alike ok e l. few o alike ok e (omega arith)))
        ((refl, free), few)
        (λ e. ((refl, free), few, rw (← e) at does-do))
        ((refl, free), few, does-do)

    channels-true : AllOpen s → Means s (channels_phrase s heavy u)
    unfolding size_phrase
    channels-true free =
        let few = fewer-channels s heavy (at_least s) in
        let does-do = channels-do s u fine own does in
        size-cases (Means s) 18 16 s.slots _ _
        (λ h. ((refl, free), λ o alike ok e l. few o alike ok e (omega arith)))
        ((refl, free), few)
        (λ e. ((refl, free), few, rw (← e) at does-do))
        ((refl, free), few, does-do)

    -- sizes are said where nothing is blocked
    sizes-true : (b : Bool) → some_blocked s ≡ b → Each (Means s) (pick b [] (sizes_phrases s heavy u))
    sizes-true true e = tt
    sizes-true false e = (slots-true (all_so e), (channels-true (all_so e), tt))

-- a theorem for each sentence of `put_why`, over the text as the program prints it from the answers of the calls: every phrase that is said of an
-- accepted site means what is so
pub why-true : (s : Site) → fault_of s ≡ Ok tt → (t : List ℕ) → size s ≤ length t → (p : Phrase) → Memᴰ p (why_phrases s t) → Means s p
unfolding why_phrases
why-true s fine t long p m =
    let a = plan_answer s t in
    let up = upper s fine t long a refl (least_number (least_answer s)) (least-does s fine (least_answer s) refl) in
    each-one (Means s) _ (
      chain-true s fine (chain_answer s) refl,
      (
        nested-true s fine (chain_answer s) (class_answer s) refl,
        (
          load-true s fine (class_answer s) refl (load_answer s) refl,
          (
            plan-true s fine t long a refl,
            (
              takes-true s fine _ up.0,
              (
                set-true s fine,
                each_both (Means s) (cell_phrases s.loads (set s) s.cells) _ (cells-true s fine s.cells (le_refl s.cells))
                    (sizes-true s fine _ up.0 up.1 (some_blocked s) refl),
              ),
            ),
          ),
        ),
      ),
    )
    p (rw (done-fine s fine) at m)

-- ---- and the cells of the set are all named

in_cells : (loads : List ℕ) (x i n : ℕ) → i < n → Memᴰ (cell_phrase x (get_or loads i 0) i) (cell_phrases loads x n)
unfolding cell_phrases
in_cells loads x i zero l = absurd (omega arith)
in_cells loads x i (suc n) l =
    ⊎_elim
    (λ e. rw e (mathlib.Core.List.Memᴰ.append_right (cell_phrases loads x n) (mathlib.Core.List.Memᴰ.head refl)))
    (λ h. mathlib.Core.List.Memᴰ.append_left _ (in_cells loads x i n h))
    (eq-or-lt_of_le (le_of_suc-le-suc l))

-- past the three phrases before them
past_three : {p q r t : Phrase} {ps : List Phrase} → Memᴰ p ps → Memᴰ p (q ∷ r ∷ t ∷ ps)
past_three m = mathlib.Core.List.Memᴰ.tail (mathlib.Core.List.Memᴰ.tail (mathlib.Core.List.Memᴰ.tail m))

pub set-said : (s : Site) → fault_of s ≡ Ok tt → (t : List ℕ) (i : ℕ) → i < s.cells → bit_at (set s) i ≡ true
    → Memᴰ (Row cell_row (i + 1) (load_at s i) 0 0) (why_phrases s t)
unfolding why_phrases cell_phrase
set-said s fine t i l e =
    let here : Memᴰ (Row cell_row (i + 1) (load_at s i) 0 0) (cell_phrases s.loads (set s) s.cells) =
    rw e at (in_cells s.loads (set s) i s.cells l) in
    rw (done-fine s fine) (past_three (past_three (mathlib.Core.List.Memᴰ.append_left _ here)))
