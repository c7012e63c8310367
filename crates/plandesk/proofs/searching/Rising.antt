-- Rising limits. An answer that is not "limit met" is that of every larger limit, and so is the table (`settled`). After "limit met" the table serves as the
-- one before did (`resumed`). Assumes nothing.
use mathlib.Core.Path.{◌≡◌, refl, sym, ap, ◌∙◌}
use mathlib.Core.Bool.{true, false, true≢false}
use mathlib.Core.List.{List, ◌++◌}
use mathlib.Core.Logic.{inl, inr}
use Prim.Native.Nat.{ℕ, ◌+◌, ◌≤◌}
use native.Mathlib.Omega.{arith}
use lib.ListN.{length, drop, replicate, length-append, length-replicate}
use borrow.Author.Tests.{le-ltb}
use Rattle.std.specs.Prelude.{Result, Ok, Err}
use Rattle.tries.specs.Search.{searched}
use Rattle.site.specs.Record.{positions, size}
use Rattle.site.specs.Reach.{net_of}
use Rattle.site.specs.declared.Site.{Site}
use Rattle.search.specs.Search.{laid_on, search_answer, search_table}
use Rattle.search.specs.declared.SearchError.{SearchError}
use Rattle.search.specs.declared.SearchError.TheVariants.{Full, Limit, TooMany, TableShort, Record}
use Rattle.search.proofs.Right.{with_tries, Sought, sought-says, sought, idle-part, past-kept, not_written, larger}
use Rattle.search.proofs.Meaning.{four-means, too-many-means, search-refused}
use Rattle.plandesk.specs.Met.{is_limit}

module _ (s : Site) (limit more : ℕ) (t : List ℕ) where
  -- a refusal does not go by the limit
  refusal : (a : Result ℕ SearchError) → with_tries a ≡ false → search_answer s limit t ≡ a → search_answer s more t ≡ a
  refusal (Ok n) h e = absurd (true≢false h)
  refusal (Err (Full n)) h e = absurd (true≢false h)
  refusal (Err (Limit n)) h e = absurd (true≢false h)
  refusal (Err TooMany) h e = (too-many-means s more t).1 ((too-many-means s limit t).0 e)
  refusal (Err TableShort) h e = (four-means s more t).1 ((four-means s limit t).0 e)
  refusal (Err (Record f)) h e = (search-refused s more t f).1 ((search-refused s limit t f).0 e)

  refused : (a : Result ℕ SearchError) → with_tries a ≡ false → search_answer s limit t ≡ a
      → (search_answer s more t ≡ search_answer s limit t) × (search_table s more t ≡ search_table s limit t)
  refused a h e =
      let f = refusal a h e in
      (f ∙ sym e, not_written s t more (ap with_tries f ∙ h) ∙ sym (not_written s t limit (ap with_tries e ∙ h)))

  by_answer : (a : Result ℕ SearchError) → is_limit a ≡ false → search_answer s limit t ≡ a → limit ≤ more
      → (search_answer s more t ≡ search_answer s limit t) × (search_table s more t ≡ search_table s limit t)
  by_answer (Ok n) h e l = larger s t limit n more l (inl e)
  by_answer (Err (Full n)) h e l = larger s t limit n more l (inr e)
  by_answer (Err (Limit n)) h e l = absurd (true≢false h)
  by_answer (Err TooMany) h e l = refused (Err TooMany) refl e
  by_answer (Err TableShort) h e l = refused (Err TableShort) refl e
  by_answer (Err (Record f)) h e l = refused (Err (Record f)) refl e

  pub settled : is_limit (search_answer s limit t) ≡ false → limit ≤ more
      → (search_answer s more t ≡ search_answer s limit t) × (search_table s more t ≡ search_table s limit t)
  settled h l = by_answer (search_answer s limit t) h refl l

  met-is : (a : Result ℕ SearchError) → is_limit a ≡ true → (n : ℕ) × (a ≡ Err (Limit n))
  met-is (Ok n) h = absurd (true≢false (sym h))
  met-is (Err (Full n)) h = absurd (true≢false (sym h))
  met-is (Err (Limit n)) h = (n, refl)
  met-is (Err TooMany) h = absurd (true≢false (sym h))
  met-is (Err TableShort) h = absurd (true≢false (sym h))
  met-is (Err (Record f)) h = absurd (true≢false (sym h))

  leaves : (v : List ℕ) → Sought s v
      → search_table s more v ≡ laid_on (positions s) (searched (net_of s) more) (replicate (size s) 0) ++ drop (size s) v
  unfolding search_table
  leaves v g = rw (g.fine, g.long, g.few)

  pub resumed : is_limit (search_answer s limit t) ≡ true
      → (search_answer s more (search_table s limit t) ≡ search_answer s more t) × (search_table s more (search_table s limit t) ≡ search_table s more t)
  resumed h =
      let m = met-is (search_answer s limit t) h in
      let g = (sought s t limit (Err (Limit m.0)) m.1 refl).0 in
      let u = search_table s limit t in
      let is : u ≡ replicate (size s) 0 ++ drop (size s) t = idle-part s t limit m.0 (inr m.1) in
      let long : length u ≡ size s + length (drop (size s) t)
      = ap length is ∙ length-append (replicate (size s) 0) (drop (size s) t) ∙ ap (λ k. k + length (drop (size s) t)) (length-replicate {A = ℕ} (size s) 0) in
      let again : Sought s u = record { fine = g.fine; long = le-ltb (length u) (size s) (omega (arith, long)); few = g.few } in (
        sought-says s u more again ∙ sym (sought-says s t more g),
        leaves u again
            ∙ ap (λ d. laid_on (positions s) (searched (net_of s) more) (replicate (size s) 0) ++ d) (past-kept s t limit) ∙ sym (leaves t g),
      )
