-- What each end of the search says of the answer: the end is put into the answer that the stack stands for. Assumes nothing.
use mathlib.Core.Path.{◌≡◌, sym, ap, ◌∙◌}
use mathlib.Core.List.{List}
use Prim.Native.Nat.{ℕ, ◌<◌}
use Rattle.tries.specs.Search.{Spot, plan_found, none_exists, Limited, ended, limit_met}
use Rattle.search.specs.Hunt.{limited_by, height_of}
use Rattle.search.specs.declared.HuntEnd.{HuntEnd}
use Rattle.search.specs.declared.HuntEnd.TheVariants.{Plan, Full, Limit}

module _ (qs : List Spot) (e : HuntEnd) (x : Limited) (h : limited_by qs e ≡ x) where
  pub is-plan : (m : ℕ) → e ≡ Plan m → ended (plan_found qs m) ≡ x
  is-plan m g = ap (limited_by qs) (sym g) ∙ h

  pub is-full : (m : ℕ) → e ≡ Full m → ended (none_exists m) ≡ x
  is-full m g = ap (limited_by qs) (sym g) ∙ h

  pub is-limit : e ≡ Limit → limit_met ≡ x
  is-limit g = ap (limited_by qs) (sym g) ∙ h

pub stands : (n k m : ℕ) (e : HuntEnd) → e ≡ Plan m → k < n → k < height_of n e
stands n k m e g l = rw g l
