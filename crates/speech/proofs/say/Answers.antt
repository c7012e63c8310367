-- `speech::say` meets its contract. The invariant: what is left of the text, spoken and stored from here on, gives the whole.
-- It has room, since a sentence is at most ten times as long as its text. Assumes nothing.
use Prim.Native.Nat.{◌+◌, ◌*◌, ◌≤◌, ◌<◌}
use mathlib.Core.Bool.{true}
use lib.Dec.{eqb}
use mathlib.Core.Path.{◌≡◌, refl, sym, ◌∙◌}
use mathlib.Core.List.{[], ◌∷◌, ◌++◌}
use native.Mathlib.Omega.{arith}
use lib.ListN.{length, drop, get_or}
use Rattle.text.proofs.Writing.{Writing, said, room, stored, ended}
use Rattle.speech.specs.Speech.{mark_said, spoken}
use Rattle.speech.proofs.Steps.{mark-next, byte_next, mark-means, all_said-law}
use Rattle.speech.proofs.Long.{marks-brief, spoken-long}
use Rattle.speech.proofs.say.Goals as goal

pub put_mark-next-requires : goal.put_mark-next-requires
put_mark-next-requires c =
    let long : length (spoken (mark_said c.args.a c.args.b c.args.c c.args.d) c.args.text.now) ≤ 10 * length c.args.text.now = spoken-long
    (mark_said c.args.a c.args.b c.args.c c.args.d) (marks-brief c.args.a c.args.b c.args.c c.args.d (omega arith) (omega arith) (omega arith)
    (omega arith))
    c.args.text.now in
    let fits : c.args.at + length (spoken (mark_said c.args.a c.args.b c.args.c c.args.d) c.args.text.now) ≤ length c.args.out.now = omega
    (arith, long, c.requires) in
    let marked : let l = c.loop-i in let text = c.args.text.now in (l.i + 1 < length text) × (eqb (get_or text l.i 0) 64 ≡ true) = let l = c.loop-i in
    mark-means (mark_said c.args.a c.args.b c.args.c c.args.d) c.args.text.now l.i (sym c.is_mark.ensures ∙ c.if-is_mark.true) in
    let at_mark : let l = c.loop-i in Writing c.args.out.now c.args.at (spoken (mark_said c.args.a c.args.b c.args.c c.args.d) c.args.text.now) l.out l.next
    ((mark_said c.args.a c.args.b c.args.c c.args.d) (get_or c.args.text.now (l.i + 1) 0) ++ spoken (mark_said c.args.a c.args.b c.args.c c.args.d)
    (drop (l.i + 2) c.args.text.now)) = let l = c.loop-i in
    said (mark-next (mark_said c.args.a c.args.b c.args.c c.args.d) c.args.text.now l.i marked.0 marked.1) l.invariant.1 in
    let l = c.loop-i in
    let text = c.args.text.now in
    room ((mark_said c.args.a c.args.b c.args.c c.args.d) (get_or text (l.i + 1) 0))
    (spoken (mark_said c.args.a c.args.b c.args.c c.args.d) (drop (l.i + 2) text)) at_mark fits

pub loop-i-preserved-then-is_mark : goal.loop-i-preserved-then-is_mark
loop-i-preserved-then-is_mark c =
    let marked : let l = c.loop-i in let text = c.args.text.now in (l.i + 1 < length text) × (eqb (get_or text l.i 0) 64 ≡ true) = let l = c.loop-i in
    mark-means (mark_said c.args.a c.args.b c.args.c c.args.d) c.args.text.now l.i (sym c.is_mark.ensures ∙ c.if-is_mark.true) in
    let at_mark : let l = c.loop-i in Writing c.args.out.now c.args.at (spoken (mark_said c.args.a c.args.b c.args.c c.args.d) c.args.text.now) l.out l.next
    ((mark_said c.args.a c.args.b c.args.c c.args.d) (get_or c.args.text.now (l.i + 1) 0) ++ spoken (mark_said c.args.a c.args.b c.args.c c.args.d)
    (drop (l.i + 2) c.args.text.now)) = let l = c.loop-i in
    said (mark-next (mark_said c.args.a c.args.b c.args.c c.args.d) c.args.text.now l.i marked.0 marked.1) l.invariant.1 in
    let l = c.loop-i in
    let text = c.args.text.now in (
      omega (arith, marked.0),
      stored ((mark_said c.args.a c.args.b c.args.c c.args.d) (get_or text (l.i + 1) 0))
          (spoken (mark_said c.args.a c.args.b c.args.c c.args.d) (drop (l.i + 2) text)) at_mark c.put_mark-next.ensures.stored c.put_mark-next.ensures.next,
    )

pub bounds-out-next : goal.bounds-out-next
bounds-out-next c =
    let long : length (spoken (mark_said c.args.a c.args.b c.args.c c.args.d) c.args.text.now) ≤ 10 * length c.args.text.now = spoken-long
    (mark_said c.args.a c.args.b c.args.c c.args.d) (marks-brief c.args.a c.args.b c.args.c c.args.d (omega arith) (omega arith) (omega arith)
    (omega arith))
    c.args.text.now in
    let fits : c.args.at + length (spoken (mark_said c.args.a c.args.b c.args.c c.args.d) c.args.text.now) ≤ length c.args.out.now = omega
    (arith, long, c.requires) in
    let at_byte : let l = c.loop-i in Writing c.args.out.now c.args.at (spoken (mark_said c.args.a c.args.b c.args.c c.args.d) c.args.text.now) l.out l.next
    ((get_or c.args.text.now l.i 0 ∷ []) ++ spoken (mark_said c.args.a c.args.b c.args.c c.args.d) (drop (l.i + 1) c.args.text.now)) = let l = c.loop-i in
    said (byte_next (mark_said c.args.a c.args.b c.args.c c.args.d) c.args.text.now l.i (omega arith)
    (sym c.is_mark.ensures ∙ c.if-is_mark.false)) l.invariant.1 in
    let space : c.loop-i.next + 1 ≤ length c.loop-i.out = room (_ ∷ []) _ at_byte fits in
    omega (arith, space)

pub overflow_add-next : goal.overflow_add-next
overflow_add-next c =
    let long : length (spoken (mark_said c.args.a c.args.b c.args.c c.args.d) c.args.text.now) ≤ 10 * length c.args.text.now = spoken-long
    (mark_said c.args.a c.args.b c.args.c c.args.d) (marks-brief c.args.a c.args.b c.args.c c.args.d (omega arith) (omega arith) (omega arith)
    (omega arith))
    c.args.text.now in
    let fits : c.args.at + length (spoken (mark_said c.args.a c.args.b c.args.c c.args.d) c.args.text.now) ≤ length c.args.out.now = omega
    (arith, long, c.requires) in
    let at_byte : let l = c.loop-i in Writing c.args.out.now c.args.at (spoken (mark_said c.args.a c.args.b c.args.c c.args.d) c.args.text.now) l.out l.next
    ((get_or c.args.text.now l.i 0 ∷ []) ++ spoken (mark_said c.args.a c.args.b c.args.c c.args.d) (drop (l.i + 1) c.args.text.now)) = let l = c.loop-i in
    said (byte_next (mark_said c.args.a c.args.b c.args.c c.args.d) c.args.text.now l.i (omega arith)
    (sym c.is_mark.ensures ∙ c.if-is_mark.false)) l.invariant.1 in
    let space : c.loop-i.next + 1 ≤ length c.loop-i.out = room (_ ∷ []) _ at_byte fits in
    omega (arith, space, long, at_byte.long)

pub loop-i-preserved : goal.loop-i-preserved
loop-i-preserved c =
    let at_byte : let l = c.loop-i in Writing c.args.out.now c.args.at (spoken (mark_said c.args.a c.args.b c.args.c c.args.d) c.args.text.now) l.out l.next
    ((get_or c.args.text.now l.i 0 ∷ []) ++ spoken (mark_said c.args.a c.args.b c.args.c c.args.d) (drop (l.i + 1) c.args.text.now)) = let l = c.loop-i in
    said (byte_next (mark_said c.args.a c.args.b c.args.c c.args.d) c.args.text.now l.i (omega arith)
    (sym c.is_mark.ensures ∙ c.if-is_mark.false)) l.invariant.1 in
    (omega arith, stored (_ ∷ []) _ at_byte refl refl)

pub returns : goal.returns
returns c =
    let long : length (spoken (mark_said c.args.a c.args.b c.args.c c.args.d) c.args.text.now) ≤ 10 * length c.args.text.now = spoken-long
    (mark_said c.args.a c.args.b c.args.c c.args.d) (marks-brief c.args.a c.args.b c.args.c c.args.d (omega arith) (omega arith) (omega arith)
    (omega arith))
    c.args.text.now in
    let l = c.loop-i in
    let w = ended (said (all_said-law (mark_said c.args.a c.args.b c.args.c c.args.d) c.args.text.now l.i
    (omega arith)) l.invariant.1) in record { stored = w.0; next = w.1; short = omega (arith, long, w.1) }
