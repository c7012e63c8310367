-- When the search's call refuses: with the record's own fault where it has one, then 4 where the table is short, then 25 where there are too many positions or
-- fragments; exactly then. Assumes nothing.
use mathlib.Core.Path.{◌≡◌, refl, ap}
use mathlib.Core.Bool.{Bool, true, false}
use mathlib.Core.List.{List}
use mathlib.Core.Logic.{◌⊎◌, inl, inr, ⊎_elim, ◌↔◌}
use Prim.Native.Nat.{ℕ, ◌≤◌, ◌<◌}
use native.Mathlib.Omega.{arith}
use lib.Dec.{ltb}
use lib.ListN.{length}
use borrow.Author.Tests.{ltb-true, ltb-false, lt-ltb, le-ltb}
use Rattle.laws.specs.Choice.{pick}
use Rattle.laws.specs.Sum.{sum}
use Rattle.laws.proofs.Choice.{either, either_is}
use Rattle.theory.specs.Net.{room}
use Rattle.tries.specs.Search.{plan_found, none_exists, Limited, ended, limit_met, searched}
use Rattle.std.specs.Prelude.{Result, Ok, Err}
use Rattle.site.specs.Record.{size, fault_of, is_fine, answer_with}
use Rattle.site.specs.Reach.{net_of}
use Rattle.site.proofs.Faults.{fine-is}
use Rattle.site.proofs.PassedOn.{passed_on}
use Rattle.site.specs.declared.Site.{Site}
use Rattle.site.specs.declared.Fault.{Fault}
use Rattle.search.specs.Search.{most_fragments, most_open, too_large, replied, search_answer}
use Rattle.search.specs.declared.SearchError.{SearchError}
use Rattle.search.specs.declared.SearchError.TheVariants.{Full, Limit, TooMany, TableShort, Record}

-- an answer's place in the order of refusals
abbrev place : Result ℕ SearchError → ℕ
place (Err (Record f)) = 1
place (Err TableShort) = 2
place (Err TooMany) = 3
place (Ok n) = 4
place (Err (Full n)) = 4
place (Err (Limit n)) = 4

place-replied : (limit : ℕ) (x : Limited) → place (replied limit x) ≡ 4
place-replied limit (ended (plan_found qs n)) = refl
place-replied limit (ended (none_exists n)) = refl
place-replied limit limit_met = refl

no-refusal : (limit : ℕ) (short many : Bool) (x : Limited) (f : Fault)
    → pick short (Err TableShort) (pick many (Err TooMany) (replied limit x)) ≡ Err (Record f) → ⊥
no-refusal limit true many x f e = let z : ◌≡◌ {A = ℕ} 2 1 = ap place e in omega arith
no-refusal limit false true x f e = let z : ◌≡◌ {A = ℕ} 3 1 = ap place e in omega arith
no-refusal limit false false x f e = let z : place (replied limit x) ≡ 1 = ap place e in omega (arith, place-replied limit x)

was-short : (limit : ℕ) (r : Result Unit Fault) (short many : Bool) (x : Limited)
    → answer_with Record r (pick short (Err TableShort) (pick many (Err TooMany) (replied limit x))) ≡ Err TableShort → (is_fine r ≡ true) × (short ≡ true)
was-short limit (Ok u) true many x e = (refl, refl)
was-short limit (Ok u) false true x e = absurd (let z : ◌≡◌ {A = ℕ} 3 2 = ap place e in omega arith)
was-short limit (Ok u) false false x e = absurd (let z : place (replied limit x) ≡ 2 = ap place e in omega (arith, place-replied limit x))
was-short limit (Err f) short many x e = absurd (let z : ◌≡◌ {A = ℕ} 1 2 = ap place e in omega arith)

was-many : (limit : ℕ) (r : Result Unit Fault) (short many : Bool) (x : Limited)
    → answer_with Record r (pick short (Err TableShort) (pick many (Err TooMany) (replied limit x))) ≡ Err TooMany
    → (is_fine r ≡ true) × (short ≡ false) × (many ≡ true)
was-many limit (Ok u) true many x e = absurd (let z : ◌≡◌ {A = ℕ} 2 3 = ap place e in omega arith)
was-many limit (Ok u) false true x e = (refl, refl, refl)
was-many limit (Ok u) false false x e = absurd (let z : place (replied limit x) ≡ 3 = ap place e in omega (arith, place-replied limit x))
was-many limit (Err f) short many x e = absurd (let z : ◌≡◌ {A = ℕ} 1 3 = ap place e in omega arith)

module _ (s : Site) (limit : ℕ) (t : List ℕ) where
  pub search-refused : (f : Fault) → search_answer s limit t ≡ Err (Record f) ↔ (fault_of s ≡ Err f)
  unfolding search_answer
  search-refused = passed_on Record (λ f g e. cc) (fault_of s) _
      (no-refusal limit (ltb (length t) (size s)) (too_large (net_of s)) (searched (net_of s) limit))

  pub four-means : (search_answer s limit t ≡ Err TableShort) ↔ ((is_fine (fault_of s) ≡ true) × (length t < size s))
  unfolding search_answer
  four-means = (
    λ e.
        let w = was-short limit (fault_of s) (ltb (length t) (size s)) (too_large (net_of s)) (searched (net_of s) limit) e in
        (w.0, ltb-true (length t) (size s) w.1),
    λ h. rw (fine-is (fault_of s) h.0, lt-ltb (length t) (size s) h.1),
  )

  -- "25, too many positions or fragments, after 4"
  pub too-many-means : (search_answer s limit t ≡ Err TooMany)
      ↔ ((is_fine (fault_of s) ≡ true) × (size s ≤ length t) × ((24 < sum (net_of s).load s.cells) ⊎ (64 < room (net_of s))))
  unfolding search_answer
  too-many-means = (
    λ e.
        let w = was-many limit (fault_of s) (ltb (length t) (size s)) (too_large (net_of s)) (searched (net_of s) limit) e in (
          w.0,
          ltb-false (length t) (size s) w.1,
          ⊎_elim (λ q. inl (ltb-true most_fragments (sum (net_of s).load s.cells) q)) (λ q. inr (ltb-true most_open (room (net_of s)) q))
              (either (ltb most_fragments (sum (net_of s).load s.cells)) (ltb most_open (room (net_of s))) w.2),
        ),
    λ h.
        rw (
          fine-is (fault_of s) h.0,
          le-ltb (length t) (size s) h.1,
          either_is (ltb most_fragments (sum (net_of s).load s.cells)) (ltb most_open (room (net_of s)))
              (⊎_elim (λ q. inl (lt-ltb most_fragments (sum (net_of s).load s.cells) q)) (λ q. inr (lt-ltb most_open (room (net_of s)) q)) h.2),
        ),
  )
