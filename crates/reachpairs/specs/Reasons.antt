-- The reasons to refuse a kind 3 record, one after the other in document 01's order: those of a record, and then "each pair 3 then 11".
use Rattle.std.specs.Prelude.{ℕ, List, [], ◌∷◌, ◌++◌, Bool, not, ◌||◌, ◌&&◌, ltb, eqb}
use Rattle.records.specs.Layout.{body_at}
use Rattle.records.specs.Reasons.{Reason, reason, record_reasons}
use Rattle.records.specs.declared.Length.TheVariants.{Pairs}
use Rattle.reachpairs.specs.Pairs.{pair_ok}

-- "strictly rising by from, then to"
abbrev pub rises : ℕ → ℕ → ℕ → ℕ → Bool
rises from to from' to' = ltb from from' || (eqb from from' && ltb to to')

-- "each pair 3 then 11", after the pair before it; before the first stands 0, 0, from which every pair of cells rises
unfoldable pub pair_reasons : ℕ → ℕ → ℕ → ℕ → List ℕ → List Reason
pair_reasons cells at from to [] = []
pair_reasons cells at from to (f ∷ []) = []
pair_reasons cells at from to (f ∷ t ∷ r) =
    reason (not (pair_ok cells f t)) 3 at
    ∷ reason (not (rises from to f t)) 11 at
    ∷ pair_reasons cells at f t r

-- kind 3, pairs from, to, "a byte each", length "2 + even number"
abbrev pub reach_reasons : List ℕ → ℕ → ℕ → List Reason
reach_reasons s at cells = record_reasons s at 3 Pairs ++ pair_reasons cells at 0 0 (body_at s at)
