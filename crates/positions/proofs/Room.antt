-- What the set says of a planning problem whose usable positions are the open ones; and what the search from a position on says. Assumes nothing.
use mathlib.Core.Path.{◌≡◌, ap, ◌∙◌}
use mathlib.Core.Bool.{true, false, not}
use mathlib.Core.List.{List}
use Prim.Native.Nat.{ℕ, ◌≤◌, ◌<◌}
use Rattle.laws.specs.Sum.{bit}
use Rattle.laws.proofs.Any.{any_none}
use Rattle.laws.proofs.Search.{first-none, first_passes, first-before}
use Rattle.laws.proofs.Sums.{sum-eq, count-all}
use Rattle.theory.specs.Net.{Net, room}
use Rattle.positions.specs.Blocked.{most_positions, blocked_at, open_in, first_past, any_in}

-- "N in the load test becomes the count of open positions"
pub room_open : (s : Net) (set : List ℕ) → ((k : ℕ) → k < s.width → s.usable k ≡ not (blocked_at set k)) → room s ≡ open_in set s.width
room_open s set h = sum-eq (λ k. bit (s.usable k)) (λ k. bit (not (blocked_at set k))) s.width (λ k l. ap bit (h k l))

-- where none is in the set, all are open
pub all-open : (set : List ℕ) (n : ℕ) → any_in set n ≡ false → open_in set n ≡ n
all-open set n h =
    sum-eq (λ k. bit (not (blocked_at set k))) (λ k. bit true) n (λ k l. ap (λ t. bit (not t)) (any_none (blocked_at set) n h k l)) ∙ count-all n

-- where the set is empty, the search finds none
pub none_past : (set : List ℕ) (n : ℕ) → n ≤ most_positions → any_in set most_positions ≡ false → first_past set n ≡ most_positions
none_past set n h none = first-none (blocked_at set) n most_positions h (λ j l m. any_none (blocked_at set) most_positions none j m)

-- "the lowest": the search from n on gives a position of the set, or 2,048
pub past-blocked : (set : List ℕ) (n : ℕ) → n ≤ most_positions → first_past set n < most_positions → blocked_at set (first_past set n) ≡ true
past-blocked set n = first_passes (blocked_at set) n most_positions

-- and none stands between
pub past-lowest : (set : List ℕ) (n k : ℕ) → n ≤ k → k < first_past set n → blocked_at set k ≡ false
past-lowest set n k = first-before (blocked_at set) n most_positions k
