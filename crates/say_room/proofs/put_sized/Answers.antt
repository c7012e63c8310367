-- `say_room::put_sized` meets its contract: the numbers of the callees are the definition's; a case for each way out. Assumes nothing.
use mathlib.Core.Bool.{Bool}
use mathlib.Core.List.{List}
use mathlib.Core.Path.{◌≡◌, refl, ap, ap₂, ◌∙◌}
use Prim.Native.Nat.{ℕ, ◌≤◌, ◌<◌}
use native.Mathlib.Omega.{arith}
use borrow.Author.Tests.{lt-ltb, le-ltb}
use Rattle.laws.specs.Choice.{pick}
use Rattle.site.specs.Record.{positions}
use Rattle.site.proofs.Faults.{fine-sized, few-positions}
use Rattle.judges.specs.Judges.{least_answer}
use Rattle.phrases.specs.Put.{Put}
use Rattle.why.specs.Said.{open_of, least_number, fewest}
use Rattle.say_room.specs.Said.{own_does, open_enough, slots_enough, open_said_of}
use Rattle.say_room.proofs.put_sized.Goals as goal

-- the same choice between the same numbers
chosen : {a b : Bool} {x y u v : ℕ} → a ≡ b → x ≡ y → u ≡ v → pick a x u ≡ pick b y v
chosen p q r = rw (p, q, r)

-- the same text
put_as : {before after text other : List ℕ} {at next room : ℕ} → text ≡ other → Put before at text room after next → Put before at other room after next
put_as e p = rw (← e) p

pub overflow_mul-all : goal.overflow_mul-all
overflow_mul-all c = omega (arith, few-positions (fine-sized _ c.requires.site_value))

pub open_count-n-requires : goal.open_count-n-requires
open_count-n-requires c = few-positions (fine-sized _ c.requires.site_value)

pub returns-then-n-all : goal.returns-then-n-all
returns-then-n-all c =
    let n-is : c.open_count-n.result ≡ open_of c.args.site = c.open_count-n.ensures in
    let m-is : c.least_number-m.result ≡ (least_number (least_answer c.args.site)) = c.least_number-m.ensures ∙ ap least_number c.least-least.ensures in
    let own_is : c.own_does-own.result ≡ own_does c.args.reply (open_of c.args.site) (least_number (least_answer c.args.site)) = c.own_does-own.ensures ∙ ap₂
    (own_does c.args.reply) n-is m-is in
    let args = c.args in
    let site = args.site in
    let h : open_of site < positions site = omega (arith, n-is, c.if-n-all.true) in
    let is : c.either.result ≡ open_enough args.reply (open_of site) (least_number (least_answer c.args.site)) = c.either.ensures ∙ chosen own_is n-is m-is in
    rw (lt-ltb (open_of site) (positions site) h) (put_as (ap₂ (open_said_of args.l) is n-is) c.put_open.ensures)

pub fewest-needs-requires : goal.fewest-needs-requires
fewest-needs-requires c = omega (arith, (fine-sized _ c.requires.site_value).channels_some)

pub fewest-requires : goal.fewest-requires
fewest-requires c = omega (arith, (fine-sized _ c.requires.site_value).channels_some)

pub returns : goal.returns
returns c =
    let n-is : c.open_count-n.result ≡ open_of c.args.site = c.open_count-n.ensures in
    let m-is : c.least_number-m.result ≡ (least_number (least_answer c.args.site)) = c.least_number-m.ensures ∙ ap least_number c.least-least.ensures in
    let own_is : c.own_does-own.result ≡ own_does c.args.reply (open_of c.args.site) (least_number (least_answer c.args.site)) = c.own_does-own.ensures ∙ ap₂
    (own_does c.args.reply) n-is m-is in
    let args = c.args in
    let site = args.site in
    let h : positions site ≤ open_of site = omega (arith, n-is, c.if-n-all.false) in
    let many : c.fewest.result ≡ fewest (least_number (least_answer c.args.site)) site.channels = c.fewest.ensures ∙ ap
    (λ (n : ℕ). fewest n site.channels) m-is in
    let is : c.either-enough.result ≡ slots_enough args.reply (open_of site) (least_number (least_answer c.args.site)) site.slots site.channels =
    c.either-enough.ensures ∙ chosen own_is refl many in
    rw (le-ltb (open_of site) (positions site) h) (rw (is, c.fewest-needs.ensures) at c.put_slots.ensures)
