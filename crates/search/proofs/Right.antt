-- What an answer of the search's call means, for any site, any limit and any table. An answer with tries comes from the search itself (`sought`), so what is
-- proved of the defined search holds of the call.
--     plan_right, plan-bytes          a plan: the table is valid, and its site part is 1s and 0s
--     full-right                      "none exists": no table is valid
--     limit-right, limit_met_holds          "limit met": exactly when the search needs more tries than the limit
--     counted, larger                 the count is the defined search's; a larger limit alters neither answer nor table
--     idle-part, not_written, past-kept    what is in the table else
--     greedy-found                    where the greedy planner plans, the same reservations
-- Assumes nothing.
use mathlib.Core.Path.{◌≡◌, refl, sym, ap, ◌∙◌, subst}
use mathlib.Core.Bool.{Bool, true, false, true≢false, false≢true}
use mathlib.Core.List.{List, ◌++◌}
use mathlib.Core.Logic.{◌⊎◌, ⊎_elim, ◌↔◌}
use Prim.Native.Nat.{ℕ, ◌+◌, ◌*◌, ◌≤◌, ◌<◌}
use native.Mathlib.Omega.{arith}
use lib.Dec.{eqb, ltb}
use lib.ListN.{length, get_or, drop, replicate, length-replicate, get_or-append}
use lib.Seq.{drop-append_seam}
use borrow.Author.Tests.{le-ltb}
use Rattle.laws.specs.Choice.{pick}
use Rattle.laws.proofs.Choice.{cases}
use Rattle.laws.proofs.Grid.{inside}
use Rattle.theory.specs.Net.{Reserved, Valid}
use Rattle.theory.specs.Greedy.{reserved, planned, greedy}
use Rattle.theory.proofs.Exact.{valid-agree}
use Rattle.tries.specs.Search.{Spot, reserved_by, End, plan_found, none_exists, tries_of, search_of, Limited, ended, limit_met, searched}
use Rattle.tries.specs.Looks.{looks_of}
use Rattle.tries.proofs.Sound.{plan-valid, plan-inside}
use Rattle.tries.proofs.Whole.{none_right}
use Rattle.tries.proofs.Limit.{ended_is, limit-larger, limit-exact}
use Rattle.tries.proofs.Greedy.{greedy-search}
use Rattle.std.specs.Prelude.{Result, Ok, Err}
use Rattle.site.specs.Record.{positions, size, fault_of, is_fine, answer_with}
use Rattle.site.specs.Reach.{net_of}
use Rattle.site.specs.declared.Site.{Site}
use Rattle.site.specs.declared.Fault.{Fault}
use Rattle.site.proofs.Faults.{fine-is}
use Rattle.search.specs.Search.{too_large, replied, lay_out, laid_on, search_answer, search_table}
use Rattle.search.specs.declared.SearchError.{SearchError}
use Rattle.search.specs.declared.SearchError.TheVariants.{Full, Limit, TooMany, TableShort, Record}
use Rattle.search.proofs.Table.{lay-length, lay-mark, lay-bytes}

-- an answer with tries
abbrev pub with_tries : Result ℕ SearchError → Bool
with_tries (Ok n) = true
with_tries (Err (Full n)) = true
with_tries (Err (Limit n)) = true
with_tries (Err TooMany) = false
with_tries (Err TableShort) = false
with_tries (Err (Record f)) = false

went : (r : Result Unit Fault) (short many : Bool) (x a : Result ℕ SearchError)
    → answer_with Record r (pick short (Err TableShort) (pick many (Err TooMany) x)) ≡ a → with_tries a ≡ true
    → (is_fine r ≡ true) × (short ≡ false) × (many ≡ false) × (x ≡ a)
went (Ok u) false false x a h v = (refl, refl, refl, h)
went (Ok u) false true x a h v = absurd (false≢true (ap with_tries h ∙ v))
went (Ok u) true many x a h v = absurd (false≢true (ap with_tries h ∙ v))
went (Err f) short many x a h v = absurd (false≢true (ap with_tries h ∙ v))

-- the other way
wrote : (r : Result Unit Fault) (short many : Bool) (x : Result ℕ SearchError) (t u : List ℕ)
    → with_tries (answer_with Record r (pick short (Err TableShort) (pick many (Err TooMany) x))) ≡ false → with_tries x ≡ true
    → pick (is_fine r) (pick short t (pick many t u)) t ≡ t
wrote (Ok u) false false x t w h v = absurd (true≢false (sym v ∙ h))
wrote (Ok u) false true x t w h v = refl
wrote (Ok u) true many x t w h v = refl
wrote (Err f) short many x t w h v = refl

all-tries : (limit : ℕ) (x : Limited) → with_tries (replied limit x) ≡ true
all-tries limit (ended (plan_found qs n)) = refl
all-tries limit (ended (none_exists n)) = refl
all-tries limit limit_met = refl

-- which end an answer tells
was-plan : (limit n : ℕ) (x : Limited) → replied limit x ≡ Ok n → (qs : List Spot) × (x ≡ ended (plan_found qs n))
was-plan limit n (ended (plan_found qs m)) h = (qs, let e : m ≡ n = cc in ap (λ k. ended (plan_found qs k)) e)
was-plan limit n (ended (none_exists m)) h = absurd (let z : ◌≡◌ {A = ℕ} 0 1 = cc in omega arith)
was-plan limit n limit_met h = absurd (let z : ◌≡◌ {A = ℕ} 0 1 = cc in omega arith)

was-full : (limit n : ℕ) (x : Limited) → replied limit x ≡ Err (Full n) → x ≡ ended (none_exists n)
was-full limit n (ended (plan_found qs m)) h = absurd (let z : ◌≡◌ {A = ℕ} 0 1 = cc in omega arith)
was-full limit n (ended (none_exists m)) h = let e : m ≡ n = cc in ap (λ k. ended (none_exists k)) e
was-full limit n limit_met h = absurd (let z : ◌≡◌ {A = ℕ} 0 1 = cc in omega arith)

was-limit : (limit n : ℕ) (x : Limited) → replied limit x ≡ Err (Limit n) → (x ≡ limit_met) × (limit ≡ n)
was-limit limit n (ended (plan_found qs m)) h = absurd (let z : ◌≡◌ {A = ℕ} 0 1 = cc in omega arith)
was-limit limit n (ended (none_exists m)) h = absurd (let z : ◌≡◌ {A = ℕ} 0 1 = cc in omega arith)
was-limit limit n limit_met h = (refl, cc)

-- the limit is told only where it is met
same-reply : (a b : ℕ) (r : End) → replied a (ended r) ≡ replied b (ended r)
same-reply a b (plan_found qs n) = refl
same-reply a b (none_exists n) = refl

is-end : {qs rs : List Spot} {m n : ℕ} → plan_found qs m ≡ plan_found rs n → qs ≡ rs
is-end e = cc

module _ (s : Site) (t : List ℕ) where
  abbrev idle : List ℕ
  idle = replicate (size s) 0

  -- the search is made: the record is fine, the table long enough, and there are not too many positions or fragments
  pub record Sought : Type 0 where
    pub fine : is_fine (fault_of s) ≡ true
    pub long : ltb (length t) (size s) ≡ false
    pub few : too_large (net_of s) ≡ false

  pub sought-says : (limit : ℕ) → Sought → search_answer s limit t ≡ replied limit (searched (net_of s) limit)
  unfolding search_answer
  sought-says limit g = rw (fine-is (fault_of s) g.fine, g.long, g.few)

  sought-leaves : (limit : ℕ) → Sought → search_table s limit t ≡ laid_on (positions s) (searched (net_of s) limit) (replicate (size s) 0) ++ drop (size s) t
  unfolding search_table
  sought-leaves limit g = rw (g.fine, g.long, g.few)

  module _ (limit : ℕ) where
    -- an answer with tries comes from the search
    pub sought : (a : Result ℕ SearchError) → search_answer s limit t ≡ a → with_tries a ≡ true → Sought × (replied limit (searched (net_of s) limit) ≡ a)
    unfolding search_answer
    sought a h v =
        let x = went (fault_of s) (ltb (length t) (size s)) (too_large (net_of s)) (replied limit (searched (net_of s) limit)) a h v in
        (record { fine = x.0; long = x.1; few = x.2 }, x.3)

    -- and no other answer writes
    pub not_written : with_tries (search_answer s limit t) ≡ false → search_table s limit t ≡ t
    unfolding search_answer search_table
    not_written h =
        wrote (fault_of s) (ltb (length t) (size s)) (too_large (net_of s)) (replied limit (searched (net_of s) limit)) t _ h
        (all-tries limit (searched (net_of s) limit))

    module _ (n : ℕ) where
      -- ---- a plan

      module _ (h : search_answer s limit t ≡ Ok n) where
        of-plan : (qs : List Spot) × (searched (net_of s) limit ≡ ended (plan_found qs n))
        of-plan = was-plan limit n (searched (net_of s) limit) (sought (Ok n) h refl).1

        plan-end : search_of (net_of s) ≡ plan_found of-plan.0 n
        plan-end = (ended_is (net_of s) limit (plan_found of-plan.0 n) of-plan.1).0

        plan-table : search_table s limit t ≡ lay_out (positions s) of-plan.0 idle ++ drop (size s) t
        plan-table = sought-leaves limit (sought (Ok n) h refl).0 ∙ ap (λ x. laid_on (positions s) x idle ++ drop (size s) t) of-plan.1

        laid-long : length (lay_out (positions s) of-plan.0 idle) ≡ size s
        laid-long = lay-length (positions s) of-plan.0 idle ∙ length-replicate {A = ℕ} (size s) 0

        plan-at : (k : ℕ) → k < size s → get_or (search_table s limit t) k 0 ≡ get_or (lay_out (positions s) of-plan.0 idle) k 0
        plan-at k l =
            ap (λ u. get_or u k 0) plan-table ∙ get_or-append (lay_out (positions s) of-plan.0 idle) (drop (size s) t) 0 k (omega (arith, laid-long))

        -- the table reserves just what the search placed
        plan-reserves : (i k : ℕ) → i < s.cells → k < positions s → reserved (positions s) (search_table s limit t) i k ≡ reserved_by of-plan.0 i k
        plan-reserves i k l m =
            ap (λ b. eqb b 1) (plan-at (i * positions s + k) (inside s.cells (positions s) i k l m))
            ∙ lay-mark s.cells (positions s) of-plan.0 (plan-inside (net_of s) of-plan.0 n plan-end) i k l m

        pub plan_right : Valid (net_of s) (reserved (positions s) (search_table s limit t))
        plan_right =
            valid-agree (net_of s) (reserved_by of-plan.0) (reserved (positions s) (search_table s limit t)) plan-reserves
            (plan-valid (net_of s) of-plan.0 n plan-end)

        -- "a plan is 1s and 0s there"
        pub plan-bytes : (k : ℕ) → k < size s → get_or (search_table s limit t) k 0 ≤ 1
        plan-bytes k l = subst (λ b. b ≤ 1) (sym (plan-at k l)) (lay-bytes (positions s) of-plan.0 (size s) k)

      -- ---- none exists

      pub full-right : search_answer s limit t ≡ Err (Full n) → (res : Reserved) → Valid (net_of s) res → ⊥
      full-right h =
          none_right (net_of s) n
          (ended_is (net_of s) limit (none_exists n) (was-full limit n (searched (net_of s) limit) (sought (Err (Full n)) h refl).1)).0

      -- ---- the count, and the limit

      -- "The count equals that of the search as defined."
      pub counted : (search_answer s limit t ≡ Ok n) ⊎ (search_answer s limit t ≡ Err (Full n)) → (tries_of (search_of (net_of s)) ≡ n) × (n ≤ limit)
      counted =
          ⊎_elim
          (λ h. let x = ended_is (net_of s) limit (plan_found (of-plan h).0 n) (of-plan h).1 in (ap tries_of x.0, x.1))
          (λ h.
          let x = ended_is (net_of s) limit (none_exists n) (was-full limit n (searched (net_of s) limit) (sought (Err (Full n)) h refl).1) in
          (ap tries_of x.0, x.1))

      pub limit-right : search_answer s limit t ≡ Err (Limit n) → (n ≡ limit) × (limit < tries_of (search_of (net_of s)))
      limit-right h =
          let x = was-limit limit n (searched (net_of s) limit) (sought (Err (Limit n)) h refl).1 in
          (sym x.1, (limit-exact (net_of s) limit).0 x.0)

      -- "a larger limit never alters either of them or its count": nor the table
      pub larger : (more : ℕ) → limit ≤ more → (search_answer s limit t ≡ Ok n) ⊎ (search_answer s limit t ≡ Err (Full n))
          → (search_answer s more t ≡ search_answer s limit t) × (search_table s more t ≡ search_table s limit t)
      larger more l =
          ⊎_elim
          (λ h. again (sought (Ok n) h refl).0 (plan_found (of-plan h).0 n) (of-plan h).1)
          (λ h. again (sought (Err (Full n)) h refl).0 (none_exists n) (was-full limit n (searched (net_of s) limit) (sought (Err (Full n)) h refl).1))
        where
          again : Sought → (r : End) → searched (net_of s) limit ≡ ended r
              → (search_answer s more t ≡ search_answer s limit t) × (search_table s more t ≡ search_table s limit t)
          again g r e =
              let same : searched (net_of s) more ≡ ended r = limit-larger (net_of s) limit more r l e in (
                sought-says more g ∙ ap (replied more) same ∙ same-reply more limit r ∙ sym (ap (replied limit) e) ∙ sym (sought-says limit g),
                sought-leaves more g ∙ ap (λ x. laid_on (positions s) x idle ++ drop (size s) t) (same ∙ sym e) ∙ sym (sought-leaves limit g),
              )

      -- ---- the table

      -- "on the other two failures the table's site part is idle"
      pub idle-part : (search_answer s limit t ≡ Err (Full n)) ⊎ (search_answer s limit t ≡ Err (Limit n))
          → search_table s limit t ≡ replicate (size s) 0 ++ drop (size s) t
      idle-part =
          ⊎_elim
          (λ h. let g = sought (Err (Full n)) h refl in
          sought-leaves limit g.0 ∙ ap (λ x. laid_on (positions s) x idle ++ drop (size s) t) (was-full limit n (searched (net_of s) limit) g.1))
          (λ h. let g = sought (Err (Limit n)) h refl in
          sought-leaves limit g.0 ∙ ap (λ x. laid_on (positions s) x idle ++ drop (size s) t) (was-limit limit n (searched (net_of s) limit) g.1).0)

    -- ""Limit met" is given exactly when the search needs more tries than the limit."
    pub limit_met_holds : Sought → (search_answer s limit t ≡ Err (Limit limit)) ↔ (limit < tries_of (search_of (net_of s)))
    limit_met_holds g = (λ h. (limit-right limit h).1, λ h. sought-says limit g ∙ ap (replied limit) ((limit-exact (net_of s) limit).1 h))

    -- "Table bytes past IN .. are never written"
    laid-size : (x : Limited) → length (laid_on (positions s) x idle) ≡ size s
    laid-size (ended (plan_found qs n)) = lay-length (positions s) qs idle ∙ length-replicate {A = ℕ} (size s) 0
    laid-size (ended (none_exists n)) = length-replicate {A = ℕ} (size s) 0
    laid-size limit_met = length-replicate {A = ℕ} (size s) 0

    pub past-kept : drop (size s) (search_table s limit t) ≡ drop (size s) t
    past-kept =
        ⊎_elim
        (λ h.
        let g = (sought (search_answer s limit t) refl h).0 in
        let x = laid_on (positions s) (searched (net_of s) limit) idle in
        ap (drop (size s)) (sought-leaves limit g)
        ∙ ap (λ k. drop k (x ++ drop (size s) t)) (sym (laid-size (searched (net_of s) limit)))
        ∙ drop-append_seam x (drop (size s) t))
        (λ h. ap (drop (size s)) (not_written h))
        (cases (with_tries (search_answer s limit t)))

    -- where the greedy planner plans, and the limit allows it: the same reservations, and the tries are the open positions that greedy looks at
    pub greedy-found : (u : List ℕ) → greedy (net_of s) ≡ planned u → Sought → looks_of (net_of s) (reserved (positions s) u) ≤ limit
        → (search_answer s limit t ≡ Ok (looks_of (net_of s) (reserved (positions s) u)))
        × ((i k : ℕ) → i < s.cells → k < positions s → reserved (positions s) (search_table s limit t) i k ≡ reserved (positions s) u i k)
    greedy-found u e g l =
        let x = greedy-search (net_of s) u e in
        let m = looks_of (net_of s) (reserved (positions s) u) in
        let found : searched (net_of s) limit ≡ ended (plan_found x.0 m) = rw (x.1, le-ltb limit m l) in
        let said : search_answer s limit t ≡ Ok m = sought-says limit g ∙ ap (replied limit) found in
        let same : (of-plan m said).0 ≡ x.0 = is-end (sym (plan-end m said) ∙ x.1) in
        (said, λ i k a b. plan-reserves m said i k a b ∙ ap (λ qs. reserved_by qs i k) same ∙ x.2 i k a b)
