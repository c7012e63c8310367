-- The share of a flow: T slots in a superframe, burst c in fragments, period p in slots.
use Rattle.std.specs.Prelude.{ℕ, ◌+◌, ◌*◌, ◌/◌, ◌%◌, ◌&&◌, leb, eqb, Result, Ok, Err}
use Rattle.laws.specs.Choice.{pick}
use Rattle.site.specs.Record.{up_to}
use Rattle.shares.specs.declared.Fragments.{Fragments}
use Rattle.shares.specs.declared.Slots.{Slots}
use Rattle.shares.specs.declared.ShareError.{ShareError}
use Rattle.shares.specs.declared.ShareError.TheVariants.{OutOfRange, BadFlow, BigShare}

-- a / b "rounded up": the quotient, and one more where something is left over
unfoldable pub rounded_up : ℕ → ℕ → ℕ
rounded_up a b = a / b + pick (eqb (a % b) 0) 0 1

-- the old share: "Share = cT/p rounded up (000, inequality 5)."
abbrev pub share_once : ℕ → ℕ → ℕ → ℕ
share_once t c p = rounded_up (c * t) p

-- W4: "each be sent k times, k from 1 to 4"
abbrev pub most_repeats : ℕ
most_repeats = 4

-- W12: "A caller that gives no k gets 2."
abbrev pub default_repeats : ℕ
default_repeats = 2

-- W4: "The share becomes k times the old one"
abbrev pub share_needed : ℕ → ℕ → ℕ → ℕ → ℕ
share_needed t c p k = k * share_once t c p

-- "Queue bound = c + share fragments."; W4: "the queue bound stays c plus the old share"
abbrev pub queue_bound : ℕ → ℕ → ℕ → ℕ
queue_bound t c p = c + share_once t c p

-- "Delay bound = T + (cT/share rounded up) slots"; W4: "the delay bound keeps the old share in its divisor"
abbrev pub delay_bound : ℕ → ℕ → ℕ → ℕ
delay_bound t c p = t + rounded_up (c * t) (share_once t c p)

-- "share, queue bound, delay bound"
abbrev pub Shares : Type 0
Shares = Fragments × Fragments × Slots

abbrev pub shares_by : ℕ → ℕ → ℕ → Shares
shares_by s q d = (record { 0 = s }, record { 0 = q }, record { 0 = d })

-- T 1 to 128; "Burst c in fragments, period p in slots, each 1 to 65,535"; "share above 65,535". "Share: 1 (T out of range), 15, 16."
-- 15 is "burst or period is 0"; it is given for one above 65,535 too, for which the document has no other number.
-- W4: "15 also when k is outside 1 to 4; 16 is tested on the new share."
unfoldable pub share_of : ℕ → ℕ → ℕ → ℕ → Result Shares ShareError
share_of t c p k =
    pick (up_to 128 t)
    (pick (up_to 65535 c && (up_to 65535 p && up_to most_repeats k))
    (pick (leb (share_needed t c p k) 65535) (Ok (shares_by (share_needed t c p k) (queue_bound t c p) (delay_bound t c p))) (Err BigShare))
    (Err BadFlow))
    (Err OutOfRange)
