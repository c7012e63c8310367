-- `say_why::put_all` meets its contract: the verdicts, the number with the heaviest clash, and what comes last. Assumes nothing.
use Prim.Native.Nat.{◌≤◌}
use mathlib.Core.Path.{◌≡◌, refl, ◌∙◌, ap, ap₂}
use native.Mathlib.Nat.{mul-le-mul}
use native.Mathlib.Omega.{arith}
use Rattle.site.proofs.Faults.{fine-sized, few-positions}
use Rattle.judges.specs.Judges.{chain_answer, class_answer, load_answer, least_answer}
use Rattle.phrases.proofs.Put.{put_both, put-wide, put-long}
use Rattle.why.specs.Said.{open_of, least_number, will_do, some_blocked, verdict_phrases, clash_phrases, sizes_phrases, list_line}
use Rattle.say_why.proofs.Texts.{said-parts}
use Rattle.say_why.proofs.put_all.Goals as goal

pub overflow_mul-all : goal.overflow_mul-all
overflow_mul-all c = let site = c.args.site in
    let slots : site.slots ≤ 65535 = omega arith in
    let channels : site.channels ≤ 65535 = omega arith in
    omega (arith, mul-le-mul slots channels)

pub open_count-n-requires : goal.open_count-n-requires
open_count-n-requires c = few-positions (fine-sized _ c.requires.site_value)

pub put_clash-third-requires : goal.put_clash-third-requires
put_clash-third-requires c = let e = c.put_verdicts-second.ensures in record {
  at_in_bounds = omega
      (arith, put-long e, e.follows, e.short, c.requires.in_bounds);
  site_value = (c.requires.site_value, c.open_count-n.ensures, refl);
}

pub put_last-requires : goal.put_last-requires
put_last-requires c = let e = c.put_verdicts-second.ensures in
    let f = c.put_clash-third.ensures in record {
      at_in_bounds = omega
          (arith, put-long e, e.follows, e.short, put-long f, f.follows, f.short, c.requires.in_bounds);
      site_value =
          (c.requires.site_value, c.open_count-n.ensures, refl);
    }

pub returns : goal.returns
returns c = let args = c.args in
    let site = args.site in
    let n = c.open_count-n.ensures in
    let u = will_do args.reply (open_of site) (least_number (least_answer site)) in
    let least = c.least_number.ensures ∙ ap least_number c.least-least.ensures in
    let is : c.will_do-u.result ≡ u = c.will_do-u.ensures ∙ ap₂ (will_do args.reply) n least in
    let numbers = put_both _ _ (rw is at c.put_clash-third.ensures) (rw is at c.put_last.ensures) in
    rw (said-parts (verdict_phrases (chain_answer site) (class_answer site) (load_answer site) args.reply args.l (open_of site))
    (clash_phrases site args.l u args.set) (sizes_phrases site args.l u) (list_line site) (some_blocked site))
    (put-wide 60000 (omega arith) (put_both _ _ (rw n at c.put_verdicts-second.ensures) numbers))
