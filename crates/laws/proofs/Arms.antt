-- The one step of an arm of a match: where x is matched, and x is y, what f gives for y is what it gives for x. Assumes nothing.
use mathlib.Core.Path.{◌≡◌}

pub arm : {A B : Type 0} (f : A → B) {x y : A} {r : B} → x ≡ y → r ≡ f y → r ≡ f x
arm f e p = rw e p
