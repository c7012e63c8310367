-- The last word that is said of a site is true of it, and is said exactly where it is so.
--     last-true          each word means what specs/Means.antt has of it, over valid tables
--     word-exactly       `planned` exactly where the planner plans; `full (cells)` exactly where cells that clash with one another are over, and it names the
--                        heaviest such set
--     status-exactly     0 only where a valid table exists, 1 only where none does, 3 only where it is not decided; and the other way round
--     needs-true         the numbers beside a set are its load and the open positions, and the load is above
--     unknown-true       which of the two grounds of a `not known` is said
-- What is found for the site's problem is walked once more, for what the ways before did not say; the rest is `found-means` of crate `finding`. Assumes
-- nothing.
use mathlib.Core.Path.{◌≡◌, refl, sym, ap, ◌∙◌, subst}
use mathlib.Core.Bool.{Bool, true, false, true≢false}
use mathlib.Core.List.{List}
use mathlib.Core.Logic.{◌⊎◌, inl, inr, ⊎_elim, ◌↔◌}
use Prim.Native.Nat.{ℕ, ◌≤◌, ◌<◌}
use native.Mathlib.Omega.{arith}
use lib.Dec.{ltb}
use lib.ListN.{length, replicate, length-replicate}
use borrow.Author.Tests.{ltb-true, lt-ltb, le-ltb}
use Rattle.std.specs.Prelude.{Result, Ok, Err}
use Rattle.laws.specs.Bits.{bit_at}
use Rattle.laws.specs.Choice.{pick}
use Rattle.laws.specs.Sum.{sum}
use Rattle.laws.proofs.Choice.{cases, either, either_is}
use Rattle.theory.specs.Net.{room}
use Rattle.theory.specs.Full.{weight}
use Rattle.theory.proofs.Full.{full}
use Rattle.theory.specs.Greedy.{Outcome, planned, no_room, greedy, reserved}
use Rattle.renumbering.specs.Numbering.{Numbering, numbered, stuck, numbering, index_at}
use Rattle.renumbering.specs.Renumbers.{renumbered}
use Rattle.renumbering.proofs.Renumber.{numbers-renumber, numbered-always, stuck-none}
use Rattle.tries.specs.Search.{plan_found, none_exists, tries_of, ended, limit_met, searched}
use Rattle.admitting.proofs.Sets.{total-few}
use Rattle.site.specs.Record.{positions, size, fault_of, load_at, answer_with}
use Rattle.site.specs.Reach.{net_of}
use Rattle.site.specs.declared.Site.{Site}
use Rattle.site.specs.declared.Fault.{Fault}
use Rattle.site.proofs.Faults.{fine-sized}
use Rattle.site.proofs.Reach.{clash-sym}
use Rattle.loads.specs.Loads.{loads_in}
use Rattle.planner.proofs.Meaning.{done-means}
use Rattle.heaviest.specs.Sets.{heaviest_set}
use Rattle.search.specs.Search.{too_large, most_fragments, most_open}
use Rattle.finding.specs.Found.{Found, greedily, over_by, renumbered_plan, full_renumbered, by_search, unsearched, found_anew}
use Rattle.finding.specs.Found.{found_numbered, heaviest_over, found_else, found_by, found_of}
use Rattle.finding.specs.Means.{NoneOver, NoNumbering, FoundMeans}
use Rattle.finding.proofs.Over.{over-means, none_over, over-heaviest}
use Rattle.finding.proofs.Right.{found-means, no-plan}
use Rattle.finding.proofs.Never.{never-full}
use Rattle.finder.specs.Find.{finding_answer, find_answer}
use Rattle.finder.specs.declared.Way.{Way}
use Rattle.finder.specs.declared.Way.TheVariants.{Greedy}
use Rattle.finder.specs.declared.FindError.{FindError}
use Rattle.finder.specs.declared.FindError.TheVariants.{Full, NotKnown, TableShort, Record}
use Rattle.finder.proofs.Right.{greedy-kept, full-right, over_exactly}
use Rattle.say_search.specs.Means.{SomeValid, NoneValid, TakesMore}
use Rattle.finds.specs.Find.{status_of}
use Rattle.finds.specs.Means.{PlannerPlans, OverCells, OverSize, Undecided, LastMeans}

-- ---- what the ways before did not say

abbrev After : Site → Found → Type 0
After s (greedily t) = Unit {0}
After s (over_by x) = Unit {0}
After s (renumbered_plan new t) = (NoNumbering (net_of s) → ⊥) × (PlannerPlans s → ⊥)
After s full_renumbered = Unit {0}
After s (by_search x) = NoNumbering (net_of s) × NoneOver (net_of s) × (PlannerPlans s → ⊥)
After s unsearched = Unit {0}

-- the search takes a problem of this size, or not
too-large-means : (s : Site) → too_large (net_of s) ≡ true → OverSize s
too-large-means s e =
    ⊎_elim (λ q. inl (ltb-true most_fragments (sum (net_of s).load s.cells) q)) (λ q. inr (ltb-true most_open (room (net_of s)) q))
    (either (ltb most_fragments (sum (net_of s).load s.cells)) (ltb most_open (room (net_of s))) e)

over-size-is : (s : Site) → OverSize s → too_large (net_of s) ≡ true
over-size-is s h =
    either_is (ltb most_fragments (sum (net_of s).load s.cells)) (ltb most_open (room (net_of s)))
    (⊎_elim (λ q. inl (lt-ltb most_fragments (sum (net_of s).load s.cells) q)) (λ q. inr (lt-ltb most_open (room (net_of s)) q)) h)

module _ (s : Site) (fine : fault_of s ≡ Ok tt) (limit : ℕ) where
  few : s.cells ≤ 32
  few = (fine-sized s fine).cells_most

  on : (p : List ℕ) → greedy (net_of s) ≡ planned p → PlannerPlans s
  on p e t long = (done-means s t).1 (fine, long, (p, e))

  off : (c m : ℕ) → greedy (net_of s) ≡ no_room c m → PlannerPlans s → ⊥
  off c m e p =
      let t : List ℕ = replicate (size s) 0 in
      no-plan (net_of s) c m e ((done-means s t).0 (p t (omega (arith, length-replicate {A = ℕ} (size s) 0)))).2

  module _ (none : PlannerPlans s → ⊥) where
    anew-after : (new old : List ℕ) → numbering 32 (net_of s).clash s.cells ≡ numbered new old → (o : Outcome) → After s (found_anew new o)
    anew-after new old e (planned t) = (
      λ unfit.
          unfit (index_at new) (index_at old) (numbers-renumber (net_of s) (clash-sym s.rule s.reach) 32 few new old e)
          (numbered-always (net_of s) (clash-sym s.rule s.reach) 32 few new old e),
      none,
    )
    anew-after new old e (no_room c m) = tt

    sought-after : NoNumbering (net_of s) → NoneOver (net_of s) → (b : Bool) → After s (pick b unsearched (by_search (searched (net_of s) limit)))
    sought-after unfit under true = tt
    sought-after unfit under false = (unfit, under, none)

    numbered-after : NoneOver (net_of s) → (x : Numbering) → numbering 32 (net_of s).clash s.cells ≡ x → After s (found_numbered (net_of s) limit x)
    numbered-after under (numbered new old) e = anew-after new old e (greedy (renumbered (index_at old) (net_of s)))
    numbered-after under stuck e = sought-after (stuck-none (net_of s) (clash-sym s.rule s.reach) 32 few e) under (too_large (net_of s))

    else-after : After s (found_else (net_of s) limit)
    unfolding found_else
    else-after =
        ⊎_elim
        (λ e. rw e tt)
        (λ e. rw e (numbered-after (none_over (net_of s) e) (numbering 32 (net_of s).clash s.cells) refl))
        (cases (heaviest_over (net_of s)))

  by_after : (o : Outcome) → greedy (net_of s) ≡ o → After s (found_by (net_of s) limit o)
  by_after (planned t) e = tt
  by_after (no_room c m) e = else-after (off c m e)

  after : After s (found_of (net_of s) limit)
  unfolding found_of
  after = by_after (greedy (net_of s)) refl

  -- ---- what is said is true

  found-true : (x : Found) → found_of (net_of s) limit ≡ x → FoundMeans (net_of s) limit x → After s x → LastMeans s limit (finding_answer limit x)
  found-true (greedily t) e m a = ((reserved (positions s) t, m.1), on t m.0)
  found-true (over_by x) e m a = (m.2, (over-means (net_of s) x).0 m.1)
  found-true (renumbered_plan new t) e m a = ((_, m), a.0, a.1)
  found-true full_renumbered e m a = never-full (net_of s) (clash-sym s.rule s.reach) few limit e
  found-true (by_search (ended (plan_found qs n))) e m a = ((_, m.1), ap tries_of m.0, a.2, a.0)
  found-true (by_search (ended (none_exists n))) e m a = (m.1, ap tries_of m.0, a.1, a.0)
  found-true (by_search limit_met) e m a = (m.0, m.1, inl (refl, m.2))
  found-true unsearched e m a = (m.0, m.1, inr (refl, too-large-means s m.2))

  verdict-true : LastMeans s limit (finding_answer limit (found_of (net_of s) limit))
  verdict-true = found-true (found_of (net_of s) limit) refl (found-means (net_of s) (clash-sym s.rule s.reach) few limit) after

module _ (s : Site) (limit : ℕ) (t : List ℕ) where
  last-by : (r : Result Unit Fault) (short : Bool) → fault_of s ≡ r
      → LastMeans s limit (answer_with Record r (pick short (Err TableShort) (finding_answer limit (found_of (net_of s) limit))))
  last-by (Ok u) true e = tt
  last-by (Ok u) false e = verdict-true s e limit
  last-by (Err f) short e = tt

  pub last-true : LastMeans s limit (find_answer s limit t)
  unfolding find_answer
  last-true = last-by (fault_of s) (ltb (length t) (size s)) refl

  -- ---- and is said exactly where it is so, of an accepted site and a table that is long enough

  module _ (fine : fault_of s ≡ Ok tt) (long : size s ≤ length t) where
    found-says : find_answer s limit t ≡ finding_answer limit (found_of (net_of s) limit)
    unfolding find_answer
    found-says = rw (fine, le-ltb (length t) (size s) long)

    -- a set that is over: greedy finds no room, and the heaviest set is named
    over_by-law : (o : Outcome) → greedy (net_of s) ≡ o → (PlannerPlans s → ⊥) → heaviest_over (net_of s) ≡ true
        → finding_answer limit (found_by (net_of s) limit o) ≡ Err (Full (heaviest_set (net_of s)))
    unfolding found_else
    over_by-law (planned p) e none h = absurd (none (on s fine limit p e))
    over_by-law (no_room c m) e none h = rw h refl

    over-said : (x : ℕ) → OverCells s x → find_answer s limit t ≡ Err (Full (heaviest_set (net_of s)))
    unfolding found_of
    over-said x h =
        found-says ∙ over_by-law (greedy (net_of s)) refl never (over-heaviest (net_of s) (bit_at x) h.1 h.2)
      where
        never : PlannerPlans s → ⊥
        never p =
            let m : LastMeans s limit (Ok Greedy) = subst (LastMeans s limit) (greedy-kept s limit t (p t long)).0 last-true in
            full (net_of s) (bit_at x) h.1 h.2 m.0.0 m.0.1

    pub record Exactly : Type 0 where
      pub by-planner : find_answer s limit t ≡ Ok Greedy ↔ PlannerPlans s
      pub by-set : (x : ℕ) → find_answer s limit t ≡ Err (Full x) ↔ ((x ≡ heaviest_set (net_of s)) × OverCells s x)

    named : (x y : ℕ) → ◌≡◌ {A = Result Way FindError} (Err (Full x)) (Err (Full y)) → x ≡ y
    named x y e = cc

    pub word-exactly : Exactly
    word-exactly = record {
      by-planner = (
        λ e. let m : LastMeans s limit (Ok Greedy) = subst (LastMeans s limit) e last-true in m.1,
        λ p. (greedy-kept s limit t (p t long)).0,
      );
      by-set = λ x. (
        λ e.
            let m : LastMeans s limit (Err (Full x)) = subst (LastMeans s limit) e last-true in
            (named x (heaviest_set (net_of s)) (sym e ∙ over-said x m.1), m.1),
        λ h. over-said x h.1 ∙ ap (λ (y : ℕ). Err (Full y)) (sym h.0),
      );
    }

-- ---- the status

pub record Statuses (s : Site) (limit status : ℕ) : Type 0 where
  pub zero : status ≡ 0 → SomeValid s
  pub one : status ≡ 1 → NoneValid s
  pub three : status ≡ 3 → (n : ℕ) × Undecided s limit n
  pub some : SomeValid s → (status ≡ 0) ⊎ (status ≡ 3)
  pub none : NoneValid s → (status ≡ 1) ⊎ (status ≡ 3)

module _ (s : Site) (limit : ℕ) where
  has-plan : SomeValid s → Statuses s limit 0
  has-plan v = record {
    zero = λ e. v;
    one = λ e. absurd (omega (arith, e));
    three = λ e. absurd (omega (arith, e));
    some = λ w. inl refl;
    none = λ n. absurd (n v.0 v.1);
  }

  has-none : NoneValid s → Statuses s limit 1
  has-none n = record {
    zero = λ e. absurd (omega (arith, e));
    one = λ e. n;
    three = λ e. absurd (omega (arith, e));
    some = λ v. absurd (n v.0 v.1);
    none = λ m. inl refl;
  }

  not-decided : (n : ℕ) → Undecided s limit n → Statuses s limit 3
  not-decided n u = record {
    zero = λ e. absurd (omega (arith, e));
    one = λ e. absurd (omega (arith, e));
    three = λ e. (n, u);
    some = λ v. inr refl;
    none = λ m. inr refl;
  }

  status-of : (x : Found) → LastMeans s limit (finding_answer limit x) → Statuses s limit (status_of (finding_answer limit x))
  status-of (greedily t) m = has-plan m.0
  status-of (over_by x) m = has-none m.0
  status-of (renumbered_plan new t) m = has-plan m.0
  status-of full_renumbered m = absurd m
  status-of (by_search (ended (plan_found qs n))) m = has-plan m.0
  status-of (by_search (ended (none_exists n))) m = has-none m.0
  status-of (by_search limit_met) m = not-decided limit m
  status-of unsearched m = not-decided 0 m

  pub status-exactly : (t : List ℕ) → fault_of s ≡ Ok tt → size s ≤ length t → Statuses s limit (status_of (find_answer s limit t))
  status-exactly t fine long =
      subst (λ (a : Result Way FindError). Statuses s limit (status_of a)) (sym (found-says s limit t fine long))
      (status-of (found_of (net_of s) limit) (verdict-true s fine limit))

-- ---- beside the last word

-- only an accepted record is called full
full-fine : (s : Site) (limit : ℕ) (t : List ℕ) (x : ℕ) → find_answer s limit t ≡ Err (Full x) → fault_of s ≡ Ok tt
full-fine s limit t x e = ((over_exactly s x _).0 (full-right s limit t x e).1).0

-- what a set needs is its load, and the site has less
pub needs-true : (s : Site) (limit : ℕ) (t : List ℕ) (x : ℕ) → find_answer s limit t ≡ Err (Full x)
    → (loads_in s.loads x ≡ weight (net_of s) (bit_at x)) × (room (net_of s) < loads_in s.loads x)
needs-true s limit t x e =
    let m : LastMeans s limit (Err (Full x)) = subst (LastMeans s limit) e (last-true s limit t) in
    let f : fault_of s ≡ Ok tt = full-fine s limit t x e in
    let w : loads_in s.loads x ≡ weight (net_of s) (bit_at x) = total-few (load_at s) s.cells 32 x (fine-sized s f).cells_most m.1.0 in
    (w, omega (arith, w, m.1.2))

-- of a `not known` the ground that is said is the ground
pub unknown-true : (s : Site) (limit : ℕ) (t : List ℕ) (n : ℕ) → find_answer s limit t ≡ Err (NotKnown n)
    → (too_large (net_of s) ≡ true → OverSize s) × (too_large (net_of s) ≡ false → (n ≡ limit) × TakesMore s limit)
unknown-true s limit t n e = (
  too-large-means s,
  λ small.
      let m : LastMeans s limit (Err (NotKnown n)) = subst (LastMeans s limit) e (last-true s limit t) in
      ⊎_elim (λ h. h) (λ h. absurd (true≢false (sym (over-size-is s h.1) ∙ small))) m.2,
)
