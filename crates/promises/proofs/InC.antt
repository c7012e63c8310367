-- In C a value that the document does not name is 0. So a good verdict is 0, 0, 0, and this is told apart from every other answer: cells are numbered from 1.
-- The least number of channel-slots and the heaviest clash always have their two values, so they are read back whatever they are, 0 and 0 too.
-- Assumes nothing.
use mathlib.Core.Path.{◌≡◌, refl, ap}
use mathlib.Core.Logic.{◌↔◌}
use mathlib.Core.List.{List, [], ◌∷◌}
use Prim.Native.Nat.{ℕ}
use native.Mathlib.Omega.{arith}
use lib.ListN.{get_or}
use Rattle.std.specs.Prelude.{Result, Ok, Err}
use Rattle.site.specs.declared.Site.{Site}
use Rattle.site.specs.declared.Fault.TheVariants.{Size, Rule, Load, Reach, Blocked}
use Rattle.judges.specs.Judges.{load_answer, chain_answer, class_answer, least_answer}
use Rattle.judges.specs.Given.{load_given, chain_given, class_given, least_given}
use Rattle.judges.specs.declared.LoadVerdict.{LoadVerdict}
use Rattle.site.specs.declared.Fault.{Fault}
use Rattle.judges.specs.declared.LoadVerdict.TheVariants as load
use Rattle.judges.specs.declared.ChainVerdict.{ChainVerdict}
use Rattle.judges.specs.declared.ChainVerdict.TheVariants as chain
use Rattle.judges.specs.declared.ClassVerdict.{ClassVerdict}
use Rattle.judges.specs.declared.ClassVerdict.TheVariants as class
use Rattle.judges.specs.declared.LeastVerdict.{LeastVerdict}
use Rattle.judges.specs.declared.LeastVerdict.TheVariants as least
use Rattle.heaviest.specs.Sets.{heaviest_of}
use Rattle.heaviest.specs.Given.{heaviest_given}
use Rattle.judges.proofs.Meaning.{over-means, broken-means, outside-means}
use Rattle.numbering.specs.Renumber.{renumber_of}
use Rattle.numbering.specs.Carried.{carry_answer}
use Rattle.numbering.specs.Given.{renumber_given, carry_given}
use Rattle.numbering.specs.declared.RenumberError.{RenumberError}
use Rattle.numbering.specs.declared.RenumberError.TheVariants as renumber
use Rattle.numbering.specs.declared.CarryError.{CarryError}
use Rattle.numbering.specs.declared.CarryError.TheVariants as carry
use Rattle.search.specs.Search.{search_answer}
use Rattle.search.specs.Given.{search_given}
use Rattle.search.specs.declared.SearchError.{SearchError}
use Rattle.search.specs.declared.SearchError.TheVariants as search
use Rattle.finder.specs.Find.{find_answer, over_full_answer}
use Rattle.finder.specs.Given.{find_given, over_full_given}
use Rattle.finder.specs.declared.Way.{Way}
use Rattle.finder.specs.declared.FindError.{FindError}
use Rattle.finder.specs.declared.FindError.TheVariants as find
use Rattle.finder.specs.declared.OverFull.{OverFull}
use Rattle.finder.specs.declared.OverFull.TheVariants as over
use Rattle.finder.specs.declared.Way.TheVariants as ways
use Rattle.tidying.specs.Tidy.{tidy_answer}
use Rattle.tidying.specs.Given.{tidy_given}
use Rattle.tidying.specs.declared.TidyError.{TidyError}
use Rattle.tidying.specs.declared.TidyError.TheVariants as tidy
use Rattle.told.specs.Told.{numbered, told}
use Rattle.told.specs.declared.Answer.{Answer}
use Rattle.demanded.specs.Numbers.{done, done_with, refused}
use Rattle.promises.proofs.Demand1.{fault-other}

number_in : Answer → ℕ
number_in a = a.number

value_in : Answer → ℕ
value_in a = get_or a.value 0 0

flag_in : Answer → ℕ
flag_in a = get_or a.value 1 0

last_in : Answer → ℕ
last_in a = get_or a.value 2 0

least-told : (a : Result LeastVerdict Fault) (n k : ℕ) → told (least_given a) ≡ numbered 0 n k 0 → least_given a ≡ done_with (n ∷ k ∷ [])
unfolding told number_in value_in flag_in
least-told (Ok (least.Least m)) n k e = let z : m ≡ n = ap value_in e in let y : 0 ≡ k = ap flag_in e in cc
least-told (Ok (least.Enough m)) n k e = let z : m ≡ n = ap value_in e in let y : 1 ≡ k = ap flag_in e in cc
least-told (Err f) n k e = absurd ((fault-other f).0 (ap number_in e))

heaviest-told : (a : Result (ℕ × ℕ) Fault) (load cells : ℕ) → told (heaviest_given a) ≡ numbered 0 load cells 0
    → heaviest_given a ≡ done_with (load ∷ cells ∷ [])
unfolding told number_in value_in flag_in
heaviest-told (Ok (m, x)) load cells e = let z : m ≡ load = ap value_in e in let y : x ≡ cells = ap flag_in e in cc
heaviest-told (Err f) load cells e = absurd ((fault-other f).0 (ap number_in e))

module _ (s : Site) where
  load-in-c : (a : Result LoadVerdict Fault) → load_answer s ≡ a → told (load_given a) ≡ numbered 0 0 0 0 → load_given a ≡ done
  unfolding told number_in value_in
  load-in-c (Ok load.Holds) q e = refl
  load-in-c (Ok (load.Over cell m)) q e = let z : cell ≡ 0 = ap value_in e in let o = (over-means s cell m q).1.1 in absurd (omega arith)
  load-in-c (Err f) q e = absurd ((fault-other f).0 (ap number_in e))

  -- `dugg_load_test` gives 0 and 0, 0, 0 exactly where the load test holds
  pub holds-in-c : told (load_given (load_answer s)) ≡ numbered 0 0 0 0 ↔ load_given (load_answer s) ≡ done
  unfolding told
  holds-in-c = (load-in-c (load_answer s) refl, ap told)

  chain-in-c : (a : Result ChainVerdict Fault) → chain_answer s ≡ a → told (chain_given a) ≡ numbered 0 0 0 0 → chain_given a ≡ done
  unfolding told number_in value_in
  chain-in-c (Ok chain.Chained) q e = refl
  chain-in-c (Ok (chain.Broken a b c)) q e = let z : a ≡ 0 = ap value_in e in let o = (broken-means s a b c q).1.3 in absurd (omega arith)
  chain-in-c (Err f) q e = absurd ((fault-other f).0 (ap number_in e))

  -- `dugg_chain` gives 0 and 0, 0, 0 exactly where the site is chained
  pub chained-in-c : told (chain_given (chain_answer s)) ≡ numbered 0 0 0 0 ↔ chain_given (chain_answer s) ≡ done
  unfolding told
  chained-in-c = (chain-in-c (chain_answer s) refl, ap told)

  class-in-c : (a : Result ClassVerdict Fault) → class_answer s ≡ a → told (class_given a) ≡ numbered 0 0 0 0 → class_given a ≡ done
  unfolding told number_in value_in
  class-in-c (Ok class.InClass) q e = refl
  class-in-c (Ok (class.Outside a b i)) q e = let z : a ≡ 0 = ap value_in e in let o = (outside-means s a b i q).1.3 in absurd (omega arith)
  class-in-c (Err f) q e = absurd ((fault-other f).0 (ap number_in e))

  -- `dugg_class` gives 0 and 0, 0, 0 exactly where the site is nested
  pub nested-in-c : told (class_given (class_answer s)) ≡ numbered 0 0 0 0 ↔ class_given (class_answer s) ≡ done
  unfolding told
  nested-in-c = (class-in-c (class_answer s) refl, ap told)

  -- `dugg_least` gives 0 and n, k, 0 exactly where the answer is n and k: how many channel-slots do, and 0 (fewer never do) or 1 (fewer may)
  pub least-in-c : (n k : ℕ) → told (least_given (least_answer s)) ≡ numbered 0 n k 0 ↔ least_given (least_answer s) ≡ done_with (n ∷ k ∷ [])
  unfolding told
  least-in-c n k = (least-told (least_answer s) n k, ap told)

  -- `dugg_heaviest` gives 0 and load, cells, 0 exactly where the answer is this load and this word
  pub heaviest-in-c : (load cells : ℕ)
      → told (heaviest_given (heaviest_of s)) ≡ numbered 0 load cells 0 ↔ heaviest_given (heaviest_of s) ≡ done_with (load ∷ cells ∷ [])
  unfolding told
  heaviest-in-c load cells = (heaviest-told (heaviest_of s) load cells, ap told)

-- ---- W10: the numbers 0, 23 and 4 carry no values

renumber-zero : (a : Result Unit RenumberError) → (told (renumber_given a)).number ≡ 0 → renumber_given a ≡ done
unfolding told
renumber-zero (Ok u) e = refl
renumber-zero (Err renumber.NoNumbering) e = absurd (omega arith)
renumber-zero (Err (renumber.Record f)) e = absurd ((fault-other f).0 e)

renumber-none : (a : Result Unit RenumberError) → (told (renumber_given a)).number ≡ 23 → renumber_given a ≡ refused 23 []
unfolding told
renumber-none (Ok u) e = absurd (omega arith)
renumber-none (Err renumber.NoNumbering) e = refl
renumber-none (Err (renumber.Record Size)) e = absurd (omega arith)
renumber-none (Err (renumber.Record Rule)) e = absurd (omega arith)
renumber-none (Err (renumber.Record (Load i))) e = absurd (omega arith)
renumber-none (Err (renumber.Record (Reach i))) e = absurd (omega arith)
renumber-none (Err (renumber.Record (Blocked i))) e = absurd (omega arith)

carry-zero : (a : Result Unit CarryError) → (told (carry_given a)).number ≡ 0 → carry_given a ≡ done
unfolding told
carry-zero (Ok u) e = refl
carry-zero (Err carry.NoNumbering) e = absurd (omega arith)
carry-zero (Err carry.TableShort) e = absurd (omega arith)
carry-zero (Err (carry.Record f)) e = absurd ((fault-other f).0 e)

module _ (s : Site) where
  -- `dugg_renumber` gives 0 exactly where a numbering is found, and 23 exactly where there is none
  pub renumber-in-c : ((told (renumber_given (renumber_of s).answer)).number ≡ 0 ↔ renumber_given (renumber_of s).answer ≡ done)
      × ((told (renumber_given (renumber_of s).answer)).number ≡ 23 ↔ renumber_given (renumber_of s).answer ≡ refused 23 [])
  unfolding told
  renumber-in-c = (
    (renumber-zero (renumber_of s).answer, ap (λ g. g.number)),
    (renumber-none (renumber_of s).answer, ap (λ g. g.number)),
  )

  -- `dugg_carry` gives 0 exactly where the rows are carried
  pub carry-in-c : (from to : List ℕ) → (told (carry_given (carry_answer s from to))).number ≡ 0 ↔ carry_given (carry_answer s from to) ≡ done
  unfolding told
  carry-in-c from to = (carry-zero (carry_answer s from to), ap (λ g. g.number))

-- ---- W13: 0 carries the verdict and the tries

search-told : (a : Result ℕ SearchError) (v n : ℕ) → told (search_given a) ≡ numbered 0 v n 0 → search_given a ≡ done_with (v ∷ n ∷ [])
unfolding told number_in value_in flag_in
search-told (Ok m) v n e = let z : 0 ≡ v = ap value_in e in let y : m ≡ n = ap flag_in e in cc
search-told (Err (search.Full m)) v n e = let z : 1 ≡ v = ap value_in e in let y : m ≡ n = ap flag_in e in cc
search-told (Err (search.Limit m)) v n e = let z : 2 ≡ v = ap value_in e in let y : m ≡ n = ap flag_in e in cc
search-told (Err search.TooMany) v n e = let z : ◌≡◌ {A = ℕ} 25 0 = ap number_in e in absurd (omega arith)
search-told (Err search.TableShort) v n e = let z : ◌≡◌ {A = ℕ} 4 0 = ap number_in e in absurd (omega arith)
search-told (Err (search.Record f)) v n e = absurd ((fault-other f).0 (ap number_in e))

-- `dugg_search` gives 0, the verdict and the tries exactly where the search answers with them
pub search-in-c : (s : Site) (limit : ℕ) (t : List ℕ) (v n : ℕ)
    → told (search_given (search_answer s limit t)) ≡ numbered 0 v n 0 ↔ search_given (search_answer s limit t) ≡ done_with (v ∷ n ∷ [])
unfolding told
search-in-c s limit t v n = (search-told (search_answer s limit t) v n, ap told)

-- ---- `find`: 0 carries the verdict, the way, and the tries or the set; `over_full`: 0 carries 1 or 0, and the load

find-told : (a : Result Way FindError) (v way x : ℕ) → told (find_given a) ≡ numbered 0 v way x → find_given a ≡ done_with (v ∷ way ∷ x ∷ [])
unfolding told number_in value_in flag_in last_in
find-told (Ok ways.Greedy) v way x e = let z : 0 ≡ v = ap value_in e in let y : 0 ≡ way = ap flag_in e in let u : 0 ≡ x = ap last_in e in cc
find-told (Ok ways.Renumbered) v way x e = let z : 0 ≡ v = ap value_in e in let y : 2 ≡ way = ap flag_in e in let u : 0 ≡ x = ap last_in e in cc
find-told (Ok (ways.Searched m)) v way x e = let z : 0 ≡ v = ap value_in e in let y : 3 ≡ way = ap flag_in e in let u : m ≡ x = ap last_in e in cc
find-told (Err (find.Full m)) v way x e = let z : 1 ≡ v = ap value_in e in let y : 1 ≡ way = ap flag_in e in let u : m ≡ x = ap last_in e in cc
find-told (Err find.FullInClass) v way x e = let z : 1 ≡ v = ap value_in e in let y : 2 ≡ way = ap flag_in e in let u : 0 ≡ x = ap last_in e in cc
find-told (Err (find.FullSearched m)) v way x e = let z : 1 ≡ v = ap value_in e in let y : 3 ≡ way = ap flag_in e in let u : m ≡ x = ap last_in e in cc
find-told (Err (find.NotKnown m)) v way x e = let z : 2 ≡ v = ap value_in e in let y : 3 ≡ way = ap flag_in e in let u : m ≡ x = ap last_in e in cc
find-told (Err find.TableShort) v way x e = let z : ◌≡◌ {A = ℕ} 4 0 = ap number_in e in absurd (omega arith)
find-told (Err (find.Record f)) v way x e = absurd ((fault-other f).0 (ap number_in e))

-- `dugg_find` gives 0 and these values exactly where `find` answers with them
pub find-in-c : (s : Site) (limit : ℕ) (t : List ℕ) (v way x : ℕ)
    → told (find_given (find_answer s limit t)) ≡ numbered 0 v way x ↔ find_given (find_answer s limit t) ≡ done_with (v ∷ way ∷ x ∷ [])
unfolding told
find-in-c s limit t v way x = (find-told (find_answer s limit t) v way x, ap told)

over-told : (a : Result OverFull Fault) (is load : ℕ) → told (over_full_given a) ≡ numbered 0 is load 0
    → over_full_given a ≡ done_with (is ∷ load ∷ [])
unfolding told number_in value_in flag_in
over-told (Ok (over.Over m)) is load e = let z : 1 ≡ is = ap value_in e in let y : m ≡ load = ap flag_in e in cc
over-told (Ok (over.Within m)) is load e = let z : 0 ≡ is = ap value_in e in let y : m ≡ load = ap flag_in e in cc
over-told (Err f) is load e = absurd ((fault-other f).0 (ap number_in e))

pub over-full-in-c : (s : Site) (cells is load : ℕ)
    → told (over_full_given (over_full_answer s cells)) ≡ numbered 0 is load 0 ↔ over_full_given (over_full_answer s cells) ≡ done_with (is ∷ load ∷ [])
unfolding told
over-full-in-c s cells is load = (over-told (over_full_answer s cells) is load, ap told)

-- ---- `tidy`: 0 and 13 carry a number of bytes, 17 a line

tidy-zero : (a : Result ℕ TidyError) (n : ℕ) → told (tidy_given a) ≡ numbered 0 n 0 0 → tidy_given a ≡ done_with (n ∷ [])
unfolding told number_in value_in
tidy-zero (Ok m) n e = let y : m ≡ n = ap value_in e in cc
tidy-zero (Err (tidy.OutShort m)) n e = let z : ◌≡◌ {A = ℕ} 13 0 = ap number_in e in absurd (omega arith)
tidy-zero (Err (tidy.BadLine l)) n e = let z : ◌≡◌ {A = ℕ} 17 0 = ap number_in e in absurd (omega arith)

tidy-thirteen : (a : Result ℕ TidyError) (n : ℕ) → told (tidy_given a) ≡ numbered 13 n 0 0 → tidy_given a ≡ refused 13 (n ∷ [])
unfolding told number_in value_in
tidy-thirteen (Ok m) n e = let z : ◌≡◌ {A = ℕ} 0 13 = ap number_in e in absurd (omega arith)
tidy-thirteen (Err (tidy.OutShort m)) n e = let y : m ≡ n = ap value_in e in cc
tidy-thirteen (Err (tidy.BadLine l)) n e = let z : ◌≡◌ {A = ℕ} 17 13 = ap number_in e in absurd (omega arith)

tidy-seventeen : (a : Result ℕ TidyError) (l : ℕ) → told (tidy_given a) ≡ numbered 17 l 0 0 → tidy_given a ≡ refused 17 (l ∷ [])
unfolding told number_in value_in
tidy-seventeen (Ok m) l e = let z : ◌≡◌ {A = ℕ} 0 17 = ap number_in e in absurd (omega arith)
tidy-seventeen (Err (tidy.OutShort m)) l e = let z : ◌≡◌ {A = ℕ} 13 17 = ap number_in e in absurd (omega arith)
tidy-seventeen (Err (tidy.BadLine m)) l e = let y : m ≡ l = ap value_in e in cc

-- `dugg_tidy` gives 0 and the bytes, 13 and the bytes needed, 17 and the line exactly where `tidy` answers with them
pub tidy-in-c : (s out : List ℕ) (x : ℕ)
    → (told (tidy_given (tidy_answer s out)) ≡ numbered 0 x 0 0 ↔ tidy_given (tidy_answer s out) ≡ done_with (x ∷ []))
    × (told (tidy_given (tidy_answer s out)) ≡ numbered 13 x 0 0 ↔ tidy_given (tidy_answer s out) ≡ refused 13 (x ∷ []))
    × (told (tidy_given (tidy_answer s out)) ≡ numbered 17 x 0 0 ↔ tidy_given (tidy_answer s out) ≡ refused 17 (x ∷ []))
unfolding told
tidy-in-c s out x = (
  (tidy-zero (tidy_answer s out) x, ap told),
  (tidy-thirteen (tidy_answer s out) x, ap told),
  (tidy-seventeen (tidy_answer s out) x, ap told),
)
