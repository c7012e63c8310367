-- `putlines::put_header` meets its contract: the parts of the first line, stored one after the other. Assumes nothing.
use native.Mathlib.Omega.{arith}
use Prim.Native.Nat.{◌+◌, ◌≤◌}
use mathlib.Core.Path.{refl, ◌∙◌}
use mathlib.Core.List.{[], ◌++◌}
use native.Mathlib.Nat.{zero-add}
use lib.ListN.{length, set, length-set}
use Rattle.text.proofs.Writing.{Writing, begun, said, room, stored, ended}
use Rattle.lines.specs.Format.{crlf, cell_load, columns, header}
use Rattle.putlines.proofs.Steps.{two, header-parts}
use Rattle.putlines.proofs.put_header.Goals as goal

pub put_text-a-requires : goal.put_text-a-requires
put_text-a-requires c =
    let fits : 0 + length (header c.args.n) ≤ length c.args.out.now = omega (arith, c.requires.1) in
    let start : let a = c.args in Writing a.out.now 0 (header a.n) a.out.now 0 (cell_load ++ (columns 0 a.n ++ crlf)) = said (header-parts c.args.n)
    (begun _ _ _) in
    room cell_load (columns 0 c.args.n ++ crlf) start fits

pub put_columns-b-requires : goal.put_columns-b-requires
put_columns-b-requires c =
    let fits : 0 + length (header c.args.n) ≤ length c.args.out.now = omega (arith, c.requires.1) in
    let start : let a = c.args in Writing a.out.now 0 (header a.n) a.out.now 0 (cell_load ++ (columns 0 a.n ++ crlf)) = said (header-parts c.args.n)
    (begun _ _ _) in
    let text : let a = c.args in Writing a.out.now 0 (header a.n) c.put_text-a.new.out c.put_text-a.result (columns 0 a.n ++ crlf) = stored cell_load
    (columns 0 c.args.n ++ crlf) start c.put_text-a.ensures.stored c.put_text-a.ensures.next in (c.requires.0, room (columns 0 c.args.n) crlf text fits)

pub bounds-out-b : goal.bounds-out-b
bounds-out-b c =
    let fits : 0 + length (header c.args.n) ≤ length c.args.out.now = omega (arith, c.requires.1) in
    let start : let a = c.args in Writing a.out.now 0 (header a.n) a.out.now 0 (cell_load ++ (columns 0 a.n ++ crlf)) = said (header-parts c.args.n)
    (begun _ _ _) in
    let text : let a = c.args in Writing a.out.now 0 (header a.n) c.put_text-a.new.out c.put_text-a.result (columns 0 a.n ++ crlf) = stored cell_load
    (columns 0 c.args.n ++ crlf) start c.put_text-a.ensures.stored c.put_text-a.ensures.next in
    let headed : let a = c.args in Writing a.out.now 0 (header a.n) c.put_columns-b.new.out c.put_columns-b.result crlf = stored
    (columns 0 c.args.n) crlf text c.put_columns-b.ensures.stored c.put_columns-b.ensures.next in
    let end-room : c.put_columns-b.result + 2 ≤ length c.put_columns-b.new.out = room crlf [] headed fits in
    omega (arith, end-room)

pub overflow_add-out : goal.overflow_add-out
overflow_add-out c =
    let fits : 0 + length (header c.args.n) ≤ length c.args.out.now = omega (arith, c.requires.1) in
    let start : let a = c.args in Writing a.out.now 0 (header a.n) a.out.now 0 (cell_load ++ (columns 0 a.n ++ crlf)) = said (header-parts c.args.n)
    (begun _ _ _) in
    let text : let a = c.args in Writing a.out.now 0 (header a.n) c.put_text-a.new.out c.put_text-a.result (columns 0 a.n ++ crlf) = stored cell_load
    (columns 0 c.args.n ++ crlf) start c.put_text-a.ensures.stored c.put_text-a.ensures.next in
    let headed : let a = c.args in Writing a.out.now 0 (header a.n) c.put_columns-b.new.out c.put_columns-b.result crlf = stored
    (columns 0 c.args.n) crlf text c.put_columns-b.ensures.stored c.put_columns-b.ensures.next in
    let end-room : c.put_columns-b.result + 2 ≤ length c.put_columns-b.new.out = room crlf [] headed fits in
    omega (arith, end-room, headed.long)

pub bounds-out-b-2 : goal.bounds-out-b-2
bounds-out-b-2 c =
    let fits : 0 + length (header c.args.n) ≤ length c.args.out.now = omega (arith, c.requires.1) in
    let start : let a = c.args in Writing a.out.now 0 (header a.n) a.out.now 0 (cell_load ++ (columns 0 a.n ++ crlf)) = said (header-parts c.args.n)
    (begun _ _ _) in
    let text : let a = c.args in Writing a.out.now 0 (header a.n) c.put_text-a.new.out c.put_text-a.result (columns 0 a.n ++ crlf) = stored cell_load
    (columns 0 c.args.n ++ crlf) start c.put_text-a.ensures.stored c.put_text-a.ensures.next in
    let headed : let a = c.args in Writing a.out.now 0 (header a.n) c.put_columns-b.new.out c.put_columns-b.result crlf = stored
    (columns 0 c.args.n) crlf text c.put_columns-b.ensures.stored c.put_columns-b.ensures.next in
    let end-room : c.put_columns-b.result + 2 ≤ length c.put_columns-b.new.out = room crlf [] headed fits in
    rw length-set (omega (arith, end-room))

pub overflow_add-result : goal.overflow_add-result
overflow_add-result c =
    let fits : 0 + length (header c.args.n) ≤ length c.args.out.now = omega (arith, c.requires.1) in
    let start : let a = c.args in Writing a.out.now 0 (header a.n) a.out.now 0 (cell_load ++ (columns 0 a.n ++ crlf)) = said (header-parts c.args.n)
    (begun _ _ _) in
    let text : let a = c.args in Writing a.out.now 0 (header a.n) c.put_text-a.new.out c.put_text-a.result (columns 0 a.n ++ crlf) = stored cell_load
    (columns 0 c.args.n ++ crlf) start c.put_text-a.ensures.stored c.put_text-a.ensures.next in
    let headed : let a = c.args in Writing a.out.now 0 (header a.n) c.put_columns-b.new.out c.put_columns-b.result crlf = stored
    (columns 0 c.args.n) crlf text c.put_columns-b.ensures.stored c.put_columns-b.ensures.next in
    let end-room : c.put_columns-b.result + 2 ≤ length c.put_columns-b.new.out = room crlf [] headed fits in
    omega (arith, end-room, headed.long)

pub returns : goal.returns
returns c =
    let start : let a = c.args in Writing a.out.now 0 (header a.n) a.out.now 0 (cell_load ++ (columns 0 a.n ++ crlf)) = said (header-parts c.args.n)
    (begun _ _ _) in
    let text : let a = c.args in Writing a.out.now 0 (header a.n) c.put_text-a.new.out c.put_text-a.result (columns 0 a.n ++ crlf) = stored cell_load
    (columns 0 c.args.n ++ crlf) start c.put_text-a.ensures.stored c.put_text-a.ensures.next in
    let headed : let a = c.args in Writing a.out.now 0 (header a.n) c.put_columns-b.new.out c.put_columns-b.result crlf = stored
    (columns 0 c.args.n) crlf text c.put_columns-b.ensures.stored c.put_columns-b.ensures.next in
    let closed : let a = c.args in Writing a.out.now 0 (header a.n)
    (set (set c.put_columns-b.new.out c.put_columns-b.result 13) (c.put_columns-b.result + 1) 10) (c.put_columns-b.result + 2) [] = stored crlf [] headed
    (two c.put_columns-b.new.out c.put_columns-b.result 13 10) refl in
    let w = ended closed in record { stored = w.0; next = w.1 ∙ zero-add _ }
