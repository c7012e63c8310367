-- `say_why::put_list` meets its contract: the word, the list, for which there is room, and the end of the line. Assumes nothing.
use Prim.Native.Nat.{ℕ, ◌≤◌}
use mathlib.Core.List.{List}
use native.Mathlib.Omega.{arith}
use lib.ListN.{length}
use Rattle.site.proofs.Faults.{fine-sized}
use Rattle.speech.specs.Speech.{bytes}
use Rattle.phrases.specs.Put.{Put}
use Rattle.phrases.proofs.Put.{put_both, put_of, put-wide, put-long}
use Rattle.putblocks.proofs.Back.{text-room}
use Rattle.why.specs.Said.{blocked_list}
use Rattle.say_why.proofs.put_list.Goals as goal

abbrev word : List ℕ
word = bytes "blocked: "

abbrev end : List ℕ
end = bytes "\n"

pub put_blocked-end-requires : goal.put_blocked-end-requires
put_blocked-end-requires c =
    let list-room : length (blocked_list c.args.site) ≤ 28672 = let z = fine-sized c.args.site c.requires.site_value in text-room c.args.site.blocked _ _
    z.slots_most z.channels_most in
    let begun : Put c.args.out.now c.args.at word 9 c.put_text-list.new.out c.put_text-list.result = put_of {text = word} 9 c.put_text-list.ensures.stored
    c.put_text-list.ensures.next (omega (arith, c.put_text-list.ensures.next)) in
    let z = fine-sized _ c.requires.site_value in
    let p = begun in
    (z.slots_most, z.channels_most, omega (arith, list-room, put-long p, p.follows, c.requires.at_in_bounds))

pub put_text-requires : goal.put_text-requires
put_text-requires c =
    let list-room : length (blocked_list c.args.site) ≤ 28672 = let z = fine-sized c.args.site c.requires.site_value in text-room c.args.site.blocked _ _
    z.slots_most z.channels_most in
    let begun : Put c.args.out.now c.args.at word 9 c.put_text-list.new.out c.put_text-list.result = put_of {text = word} 9 c.put_text-list.ensures.stored
    c.put_text-list.ensures.next (omega (arith, c.put_text-list.ensures.next)) in
    let listed : Put c.put_text-list.new.out c.put_text-list.result
    (blocked_list c.args.site) 28672 c.put_blocked-end.new.out c.put_blocked-end.result = put_of 28672 c.put_blocked-end.ensures.stored
    c.put_blocked-end.ensures.next (omega (arith, c.put_blocked-end.ensures.next, list-room)) in
    let p = begun in
    let q = listed in
    omega (arith, put-long p, p.follows, put-long q, q.follows, q.short, c.requires.at_in_bounds)

pub returns : goal.returns
returns c =
    let list-room : length (blocked_list c.args.site) ≤ 28672 = let z = fine-sized c.args.site c.requires.site_value in text-room c.args.site.blocked _ _
    z.slots_most z.channels_most in
    let begun : Put c.args.out.now c.args.at word 9 c.put_text-list.new.out c.put_text-list.result = put_of {text = word} 9 c.put_text-list.ensures.stored
    c.put_text-list.ensures.next (omega (arith, c.put_text-list.ensures.next)) in
    let listed : Put c.put_text-list.new.out c.put_text-list.result
    (blocked_list c.args.site) 28672 c.put_blocked-end.new.out c.put_blocked-end.result = put_of 28672 c.put_blocked-end.ensures.stored
    c.put_blocked-end.ensures.next (omega (arith, c.put_blocked-end.ensures.next, list-room)) in
    let list = blocked_list c.args.site in
    put-wide 30000 (omega arith) (put_both word _ begun (put_both list end listed
    (put_of {text = end} 1 c.put_text.ensures.stored c.put_text.ensures.next (omega (arith, c.put_text.ensures.next)))))
