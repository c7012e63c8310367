-- The equalities that the contracts of crate `shares` state: r is the answer, and x' what a lent x holds afterwards.
-- Made by tools/surface from the source.
use Rattle.std.specs.Prelude.{Result, ◌≡◌}
use Rattle.shares.specs.Share.{default_repeats, share_of}
use Rattle.shares.specs.declared.Fragments.{Fragments}
use Rattle.shares.specs.declared.Repeats.{Repeats}
use Rattle.shares.specs.declared.ShareError.{ShareError}
use Rattle.shares.specs.declared.Slots.{Slots}

-- shares::share_of
pub record ShareOf (slots : Slots) (burst : Fragments) (period : Slots) (repeats : Repeats)
    (r : Result (Fragments × Fragments × Slots) ShareError) : Type 0 where
  pub answer : r ≡ share_of slots.0 burst.0 period.0 repeats.0

-- shares::default_repeats
pub record DefaultRepeats (r : Repeats) : Type 0 where
  pub answer : r ≡ record { 0 = default_repeats }

-- shares::share
pub record Share (slots : Slots) (burst : Fragments) (period : Slots) (r : Result (Fragments × Fragments × Slots) ShareError) : Type 0 where
  pub answer : r ≡ share_of slots.0 burst.0 period.0 default_repeats
