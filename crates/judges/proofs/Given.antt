-- The numbers and values tell the cases of a verdict apart: from them each answer is read back.
-- Assumes nothing.
use Prim.Native.Nat.{ℕ}
use mathlib.Core.Path.{◌≡◌, refl, sym, ap, ◌∙◌}
use Rattle.std.specs.Prelude.{Result, Ok, Err}
use mathlib.Core.List.{List, [], ◌∷◌, map}
use lib.Dec.{eqb}
use lib.ListN.{length, get_or}
use Rattle.laws.specs.Choice.{pick}
use Rattle.site.specs.Given.{Given}
use Rattle.site.specs.declared.Fault.{Fault}
use Rattle.site.specs.declared.Fault.TheVariants.{Size, Rule, Load, Reach, Blocked}
use Rattle.site.proofs.Given.{fault_from}
use Rattle.judges.specs.Given.{load_given, chain_given, class_given, least_given}
use Rattle.judges.specs.declared.LoadVerdict.{LoadVerdict}
use Rattle.judges.specs.declared.LoadVerdict.TheVariants as load
use Rattle.judges.specs.declared.ChainVerdict.{ChainVerdict}
use Rattle.judges.specs.declared.ChainVerdict.TheVariants as chain
use Rattle.judges.specs.declared.ClassVerdict.{ClassVerdict}
use Rattle.judges.specs.declared.ClassVerdict.TheVariants as class
use Rattle.judges.specs.declared.LeastVerdict.{LeastVerdict}
use Rattle.judges.specs.declared.LeastVerdict.TheVariants as least

-- ---- the load test

abbrev load_from : Given → Result LoadVerdict Fault
load_from g =
    pick (eqb g.number 0) (pick (eqb (length g.values) 0) (Ok load.Holds) (Ok (load.Over (get_or g.values 0 0) (get_or g.values 1 0))))
    (Err (fault_from g))

load-back : (a : Result LoadVerdict Fault) → load_from (load_given a) ≡ a
load-back (Ok load.Holds) = refl
load-back (Ok (load.Over cell excess)) = refl
load-back (Err Size) = refl
load-back (Err Rule) = refl
load-back (Err (Load k)) = refl
load-back (Err (Reach k)) = refl
load-back (Err (Blocked k)) = refl

pub load_apart : (a b : Result LoadVerdict Fault) → load_given a ≡ load_given b → a ≡ b
load_apart a b e = sym (load-back a) ∙ ap load_from e ∙ load-back b

-- the numbers and the values, in their order, of an answer of each kind
abbrev loads : (cell excess row position : ℕ) → List (Result LoadVerdict Fault)
loads cell excess row position =
    Ok load.Holds ∷ Ok (load.Over cell excess) ∷ Err Size ∷ Err Rule ∷ Err (Load cell) ∷ Err (Reach row)
    ∷ Err (Blocked position) ∷ []

pub load-numbers : (cell excess row position : ℕ)
    → (map (λ (a : Result LoadVerdict Fault). (load_given a).number) (loads cell excess row position) ≡ 0 ∷ 0 ∷ 1 ∷ 24 ∷ 2 ∷ 3 ∷ 20 ∷ [])
    × (map (λ (a : Result LoadVerdict Fault). (load_given a).values) (loads cell excess row position)
    ≡ [] ∷ (cell ∷ excess ∷ []) ∷ [] ∷ [] ∷ (cell ∷ []) ∷ (row ∷ []) ∷ (position ∷ []) ∷ [])
load-numbers cell excess row position = (refl, refl)

-- ---- the judge

abbrev chain_from : Given → Result ChainVerdict Fault
chain_from g =
    pick (eqb g.number 0) (pick (eqb (length g.values) 0) (Ok chain.Chained)
    (Ok (chain.Broken (get_or g.values 0 0) (get_or g.values 1 0) (get_or g.values 2 0)))) (Err (fault_from g))

chain_back : (a : Result ChainVerdict Fault) → chain_from (chain_given a) ≡ a
chain_back (Ok chain.Chained) = refl
chain_back (Ok (chain.Broken a b c)) = refl
chain_back (Err Size) = refl
chain_back (Err Rule) = refl
chain_back (Err (Load k)) = refl
chain_back (Err (Reach k)) = refl
chain_back (Err (Blocked k)) = refl

pub chain-apart : (a b : Result ChainVerdict Fault) → chain_given a ≡ chain_given b → a ≡ b
chain-apart a b e = sym (chain_back a) ∙ ap chain_from e ∙ chain_back b

-- the numbers and the values, in their order, of an answer of each kind
abbrev chains : (a b c cell row position : ℕ) → List (Result ChainVerdict Fault)
chains a b c cell row position =
    Ok chain.Chained ∷ Ok (chain.Broken a b c) ∷ Err Size ∷ Err Rule ∷ Err (Load cell) ∷ Err (Reach row)
    ∷ Err (Blocked position) ∷ []

pub chain-numbers : (a b c cell row position : ℕ)
    → (map (λ (a : Result ChainVerdict Fault). (chain_given a).number) (chains a b c cell row position) ≡ 0 ∷ 0 ∷ 1 ∷ 24 ∷ 2 ∷ 3 ∷ 20 ∷ [])
    × (map (λ (a : Result ChainVerdict Fault). (chain_given a).values) (chains a b c cell row position)
    ≡ [] ∷ (a ∷ b ∷ c ∷ []) ∷ [] ∷ [] ∷ (cell ∷ []) ∷ (row ∷ []) ∷ (position ∷ []) ∷ [])
chain-numbers a b c cell row position = (refl, refl)

-- ---- the judge of the class

abbrev class_from : Given → Result ClassVerdict Fault
class_from g =
    pick (eqb g.number 0) (pick (eqb (length g.values) 0) (Ok class.InClass)
    (Ok (class.Outside (get_or g.values 0 0) (get_or g.values 1 0) (get_or g.values 2 0)))) (Err (fault_from g))

class_back : (a : Result ClassVerdict Fault) → class_from (class_given a) ≡ a
class_back (Ok class.InClass) = refl
class_back (Ok (class.Outside a b i)) = refl
class_back (Err Size) = refl
class_back (Err Rule) = refl
class_back (Err (Load k)) = refl
class_back (Err (Reach k)) = refl
class_back (Err (Blocked k)) = refl

pub class-apart : (a b : Result ClassVerdict Fault) → class_given a ≡ class_given b → a ≡ b
class-apart a b e = sym (class_back a) ∙ ap class_from e ∙ class_back b

-- the numbers and the values, in their order, of an answer of each kind
abbrev classes : (a b i cell row position : ℕ) → List (Result ClassVerdict Fault)
classes a b i cell row position =
    Ok class.InClass ∷ Ok (class.Outside a b i) ∷ Err Size ∷ Err (Load cell) ∷ Err (Reach row)
    ∷ Err (Blocked position) ∷ []

pub class-numbers : (a b i cell row position : ℕ)
    → (map (λ (a : Result ClassVerdict Fault). (class_given a).number) (classes a b i cell row position) ≡ 0 ∷ 0 ∷ 1 ∷ 2 ∷ 3 ∷ 20 ∷ [])
    × (map (λ (a : Result ClassVerdict Fault). (class_given a).values) (classes a b i cell row position)
    ≡ [] ∷ (a ∷ b ∷ i ∷ []) ∷ [] ∷ (cell ∷ []) ∷ (row ∷ []) ∷ (position ∷ []) ∷ [])
class-numbers a b i cell row position = (refl, refl)

-- ---- the least number of channel-slots

abbrev least_from : Given → Result LeastVerdict Fault
least_from g =
    pick (eqb g.number 0) (pick (eqb (get_or g.values 1 0) 0) (Ok (least.Least (get_or g.values 0 0))) (Ok (least.Enough (get_or g.values 0 0))))
    (Err (fault_from g))

least-back : (a : Result LeastVerdict Fault) → least_from (least_given a) ≡ a
least-back (Ok (least.Least n)) = refl
least-back (Ok (least.Enough n)) = refl
least-back (Err Size) = refl
least-back (Err Rule) = refl
least-back (Err (Load k)) = refl
least-back (Err (Reach k)) = refl
least-back (Err (Blocked k)) = refl

pub least-apart : (a b : Result LeastVerdict Fault) → least_given a ≡ least_given b → a ≡ b
least-apart a b e = sym (least-back a) ∙ ap least_from e ∙ least-back b

-- the numbers and the values, in their order, of an answer of each kind
abbrev leasts : (n cell row position : ℕ) → List (Result LeastVerdict Fault)
leasts n cell row position =
    Ok (least.Least n) ∷ Ok (least.Enough n) ∷ Err Size ∷ Err Rule ∷ Err (Load cell) ∷ Err (Reach row)
    ∷ Err (Blocked position) ∷ []

pub least-numbers : (n cell row position : ℕ)
    → (map (λ (a : Result LeastVerdict Fault). (least_given a).number) (leasts n cell row position) ≡ 0 ∷ 0 ∷ 1 ∷ 24 ∷ 2 ∷ 3 ∷ 20 ∷ [])
    × (map (λ (a : Result LeastVerdict Fault). (least_given a).values) (leasts n cell row position)
    ≡ (n ∷ 0 ∷ []) ∷ (n ∷ 1 ∷ []) ∷ [] ∷ [] ∷ (cell ∷ []) ∷ (row ∷ []) ∷ (position ∷ []) ∷ [])
least-numbers n cell row position = (refl, refl)
