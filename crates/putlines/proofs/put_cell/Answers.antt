-- `putlines::put_cell` meets its contract: the parts of a line, stored one after the other. Assumes nothing.
use native.Mathlib.Omega.{arith}
use Prim.Native.Nat.{◌+◌, ◌≤◌}
use mathlib.Core.Path.{refl}
use mathlib.Core.List.{[], ◌∷◌, ◌++◌}
use lib.ListN.{length, set, length-set}
use Rattle.text.proofs.Writing.{Writing, begun, said, room, stored, ended}
use Rattle.text.specs.Decimal.{decimal}
use Rattle.lines.specs.Format.{crlf, bits_of, marks, cell_line}
use Rattle.putlines.proofs.Steps.{two, line-parts}
use Rattle.putlines.proofs.put_cell.Goals as goal

pub put_few-a-requires : goal.put_few-a-requires
put_few-a-requires c =
    let start : let a = c.args in Writing a.out.now a.at (cell_line a.n a.k a.load (bits_of a.row)) a.out.now a.at
    (decimal (a.k + 1) ++ ((44 ∷ []) ++ (decimal a.load ++ (marks (bits_of a.row) 0 a.n ++ crlf)))) = let a = c.args in said
    (line-parts a.n a.k a.load (bits_of a.row)) (begun _ _ _) in
    let a = c.args in
    (omega arith, room (decimal (a.k + 1)) ((44 ∷ []) ++ (decimal a.load ++ (marks (bits_of a.row) 0 a.n ++ crlf))) start c.requires.2)

pub bounds-out-a : goal.bounds-out-a
bounds-out-a c =
    let start : let a = c.args in Writing a.out.now a.at (cell_line a.n a.k a.load (bits_of a.row)) a.out.now a.at
    (decimal (a.k + 1) ++ ((44 ∷ []) ++ (decimal a.load ++ (marks (bits_of a.row) 0 a.n ++ crlf)))) = let a = c.args in said
    (line-parts a.n a.k a.load (bits_of a.row)) (begun _ _ _) in
    let number : let a = c.args in Writing a.out.now a.at (cell_line a.n a.k a.load (bits_of a.row)) c.put_few-a.new.out c.put_few-a.result
    ((44 ∷ []) ++ (decimal a.load ++ (marks (bits_of a.row) 0 a.n ++ crlf))) = let a = c.args in stored (decimal (a.k + 1))
    ((44 ∷ []) ++ (decimal a.load ++ (marks (bits_of a.row) 0 a.n ++ crlf))) start c.put_few-a.ensures.stored
    c.put_few-a.ensures.next in
    let comma-room : c.put_few-a.result + 1 ≤ length c.put_few-a.new.out = let a = c.args in room (44 ∷ [])
    (decimal a.load ++ (marks (bits_of a.row) 0 a.n ++ crlf)) number
    c.requires.2 in
    omega (arith, comma-room)

pub overflow_add-a : goal.overflow_add-a
overflow_add-a c =
    let start : let a = c.args in Writing a.out.now a.at (cell_line a.n a.k a.load (bits_of a.row)) a.out.now a.at
    (decimal (a.k + 1) ++ ((44 ∷ []) ++ (decimal a.load ++ (marks (bits_of a.row) 0 a.n ++ crlf)))) = let a = c.args in said
    (line-parts a.n a.k a.load (bits_of a.row)) (begun _ _ _) in
    let number : let a = c.args in Writing a.out.now a.at (cell_line a.n a.k a.load (bits_of a.row)) c.put_few-a.new.out c.put_few-a.result
    ((44 ∷ []) ++ (decimal a.load ++ (marks (bits_of a.row) 0 a.n ++ crlf))) = let a = c.args in stored (decimal (a.k + 1))
    ((44 ∷ []) ++ (decimal a.load ++ (marks (bits_of a.row) 0 a.n ++ crlf))) start c.put_few-a.ensures.stored
    c.put_few-a.ensures.next in
    let comma-room : c.put_few-a.result + 1 ≤ length c.put_few-a.new.out = let a = c.args in room (44 ∷ [])
    (decimal a.load ++ (marks (bits_of a.row) 0 a.n ++ crlf)) number
    c.requires.2 in
    omega (arith, comma-room)

pub put_number-b-requires : goal.put_number-b-requires
put_number-b-requires c =
    let start : let a = c.args in Writing a.out.now a.at (cell_line a.n a.k a.load (bits_of a.row)) a.out.now a.at
    (decimal (a.k + 1) ++ ((44 ∷ []) ++ (decimal a.load ++ (marks (bits_of a.row) 0 a.n ++ crlf)))) = let a = c.args in said
    (line-parts a.n a.k a.load (bits_of a.row)) (begun _ _ _) in
    let number : let a = c.args in Writing a.out.now a.at (cell_line a.n a.k a.load (bits_of a.row)) c.put_few-a.new.out c.put_few-a.result
    ((44 ∷ []) ++ (decimal a.load ++ (marks (bits_of a.row) 0 a.n ++ crlf))) = let a = c.args in stored (decimal (a.k + 1))
    ((44 ∷ []) ++ (decimal a.load ++ (marks (bits_of a.row) 0 a.n ++ crlf))) start c.put_few-a.ensures.stored
    c.put_few-a.ensures.next in
    let comma : let a = c.args in Writing a.out.now a.at (cell_line a.n a.k a.load (bits_of a.row)) (set c.put_few-a.new.out c.put_few-a.result 44)
    (c.put_few-a.result + 1) (decimal a.load ++ (marks (bits_of a.row) 0 a.n ++ crlf)) = let a = c.args in stored (44 ∷ [])
    (decimal a.load ++ (marks (bits_of a.row) 0 a.n ++ crlf)) number refl refl in
    let a = c.args in
    room (decimal a.load) (marks (bits_of a.row) 0 a.n ++ crlf) comma c.requires.2

pub put_marks-c-requires : goal.put_marks-c-requires
put_marks-c-requires c =
    let start : let a = c.args in Writing a.out.now a.at (cell_line a.n a.k a.load (bits_of a.row)) a.out.now a.at
    (decimal (a.k + 1) ++ ((44 ∷ []) ++ (decimal a.load ++ (marks (bits_of a.row) 0 a.n ++ crlf)))) = let a = c.args in said
    (line-parts a.n a.k a.load (bits_of a.row)) (begun _ _ _) in
    let number : let a = c.args in Writing a.out.now a.at (cell_line a.n a.k a.load (bits_of a.row)) c.put_few-a.new.out c.put_few-a.result
    ((44 ∷ []) ++ (decimal a.load ++ (marks (bits_of a.row) 0 a.n ++ crlf))) = let a = c.args in stored (decimal (a.k + 1))
    ((44 ∷ []) ++ (decimal a.load ++ (marks (bits_of a.row) 0 a.n ++ crlf))) start c.put_few-a.ensures.stored
    c.put_few-a.ensures.next in
    let comma : let a = c.args in Writing a.out.now a.at (cell_line a.n a.k a.load (bits_of a.row)) (set c.put_few-a.new.out c.put_few-a.result 44)
    (c.put_few-a.result + 1) (decimal a.load ++ (marks (bits_of a.row) 0 a.n ++ crlf)) = let a = c.args in stored (44 ∷ [])
    (decimal a.load ++ (marks (bits_of a.row) 0 a.n ++ crlf)) number refl refl in
    let loaded : let a = c.args in Writing a.out.now a.at (cell_line a.n a.k a.load (bits_of a.row)) c.put_number-b.new.out c.put_number-b.result
    (marks (bits_of a.row) 0 a.n ++ crlf) = let a = c.args in
    stored (decimal a.load) (marks (bits_of a.row) 0 a.n ++ crlf) comma c.put_number-b.ensures.stored
    c.put_number-b.ensures.next in
    let a = c.args in
    (c.requires.0, room (marks (bits_of a.row) 0 a.n) crlf loaded c.requires.2)

pub bounds-out-c : goal.bounds-out-c
bounds-out-c c =
    let start : let a = c.args in Writing a.out.now a.at (cell_line a.n a.k a.load (bits_of a.row)) a.out.now a.at
    (decimal (a.k + 1) ++ ((44 ∷ []) ++ (decimal a.load ++ (marks (bits_of a.row) 0 a.n ++ crlf)))) = let a = c.args in said
    (line-parts a.n a.k a.load (bits_of a.row)) (begun _ _ _) in
    let number : let a = c.args in Writing a.out.now a.at (cell_line a.n a.k a.load (bits_of a.row)) c.put_few-a.new.out c.put_few-a.result
    ((44 ∷ []) ++ (decimal a.load ++ (marks (bits_of a.row) 0 a.n ++ crlf))) = let a = c.args in stored (decimal (a.k + 1))
    ((44 ∷ []) ++ (decimal a.load ++ (marks (bits_of a.row) 0 a.n ++ crlf))) start c.put_few-a.ensures.stored
    c.put_few-a.ensures.next in
    let comma : let a = c.args in Writing a.out.now a.at (cell_line a.n a.k a.load (bits_of a.row)) (set c.put_few-a.new.out c.put_few-a.result 44)
    (c.put_few-a.result + 1) (decimal a.load ++ (marks (bits_of a.row) 0 a.n ++ crlf)) = let a = c.args in stored (44 ∷ [])
    (decimal a.load ++ (marks (bits_of a.row) 0 a.n ++ crlf)) number refl refl in
    let loaded : let a = c.args in Writing a.out.now a.at (cell_line a.n a.k a.load (bits_of a.row)) c.put_number-b.new.out c.put_number-b.result
    (marks (bits_of a.row) 0 a.n ++ crlf) = let a = c.args in
    stored (decimal a.load) (marks (bits_of a.row) 0 a.n ++ crlf) comma c.put_number-b.ensures.stored
    c.put_number-b.ensures.next in
    let marked : let a = c.args in Writing a.out.now a.at (cell_line a.n a.k a.load
    (bits_of a.row)) c.put_marks-c.new.out c.put_marks-c.result crlf = let a = c.args in
    stored (marks (bits_of a.row) 0 a.n) crlf loaded c.put_marks-c.ensures.stored c.put_marks-c.ensures.next in
    let end-room : c.put_marks-c.result + 2 ≤ length c.put_marks-c.new.out = room crlf [] marked c.requires.2 in
    omega (arith, end-room)

pub overflow_add-out : goal.overflow_add-out
overflow_add-out c =
    let start : let a = c.args in Writing a.out.now a.at (cell_line a.n a.k a.load (bits_of a.row)) a.out.now a.at
    (decimal (a.k + 1) ++ ((44 ∷ []) ++ (decimal a.load ++ (marks (bits_of a.row) 0 a.n ++ crlf)))) = let a = c.args in said
    (line-parts a.n a.k a.load (bits_of a.row)) (begun _ _ _) in
    let number : let a = c.args in Writing a.out.now a.at (cell_line a.n a.k a.load (bits_of a.row)) c.put_few-a.new.out c.put_few-a.result
    ((44 ∷ []) ++ (decimal a.load ++ (marks (bits_of a.row) 0 a.n ++ crlf))) = let a = c.args in stored (decimal (a.k + 1))
    ((44 ∷ []) ++ (decimal a.load ++ (marks (bits_of a.row) 0 a.n ++ crlf))) start c.put_few-a.ensures.stored
    c.put_few-a.ensures.next in
    let comma : let a = c.args in Writing a.out.now a.at (cell_line a.n a.k a.load (bits_of a.row)) (set c.put_few-a.new.out c.put_few-a.result 44)
    (c.put_few-a.result + 1) (decimal a.load ++ (marks (bits_of a.row) 0 a.n ++ crlf)) = let a = c.args in stored (44 ∷ [])
    (decimal a.load ++ (marks (bits_of a.row) 0 a.n ++ crlf)) number refl refl in
    let loaded : let a = c.args in Writing a.out.now a.at (cell_line a.n a.k a.load (bits_of a.row)) c.put_number-b.new.out c.put_number-b.result
    (marks (bits_of a.row) 0 a.n ++ crlf) = let a = c.args in
    stored (decimal a.load) (marks (bits_of a.row) 0 a.n ++ crlf) comma c.put_number-b.ensures.stored
    c.put_number-b.ensures.next in
    let marked : let a = c.args in Writing a.out.now a.at (cell_line a.n a.k a.load
    (bits_of a.row)) c.put_marks-c.new.out c.put_marks-c.result crlf = let a = c.args in
    stored (marks (bits_of a.row) 0 a.n) crlf loaded c.put_marks-c.ensures.stored c.put_marks-c.ensures.next in
    let end-room : c.put_marks-c.result + 2 ≤ length c.put_marks-c.new.out = room crlf [] marked c.requires.2 in
    omega (arith, end-room, marked.long)

pub bounds-out-c-2 : goal.bounds-out-c-2
bounds-out-c-2 c =
    let start : let a = c.args in Writing a.out.now a.at (cell_line a.n a.k a.load (bits_of a.row)) a.out.now a.at
    (decimal (a.k + 1) ++ ((44 ∷ []) ++ (decimal a.load ++ (marks (bits_of a.row) 0 a.n ++ crlf)))) = let a = c.args in said
    (line-parts a.n a.k a.load (bits_of a.row)) (begun _ _ _) in
    let number : let a = c.args in Writing a.out.now a.at (cell_line a.n a.k a.load (bits_of a.row)) c.put_few-a.new.out c.put_few-a.result
    ((44 ∷ []) ++ (decimal a.load ++ (marks (bits_of a.row) 0 a.n ++ crlf))) = let a = c.args in stored (decimal (a.k + 1))
    ((44 ∷ []) ++ (decimal a.load ++ (marks (bits_of a.row) 0 a.n ++ crlf))) start c.put_few-a.ensures.stored
    c.put_few-a.ensures.next in
    let comma : let a = c.args in Writing a.out.now a.at (cell_line a.n a.k a.load (bits_of a.row)) (set c.put_few-a.new.out c.put_few-a.result 44)
    (c.put_few-a.result + 1) (decimal a.load ++ (marks (bits_of a.row) 0 a.n ++ crlf)) = let a = c.args in stored (44 ∷ [])
    (decimal a.load ++ (marks (bits_of a.row) 0 a.n ++ crlf)) number refl refl in
    let loaded : let a = c.args in Writing a.out.now a.at (cell_line a.n a.k a.load (bits_of a.row)) c.put_number-b.new.out c.put_number-b.result
    (marks (bits_of a.row) 0 a.n ++ crlf) = let a = c.args in
    stored (decimal a.load) (marks (bits_of a.row) 0 a.n ++ crlf) comma c.put_number-b.ensures.stored
    c.put_number-b.ensures.next in
    let marked : let a = c.args in Writing a.out.now a.at (cell_line a.n a.k a.load
    (bits_of a.row)) c.put_marks-c.new.out c.put_marks-c.result crlf = let a = c.args in
    stored (marks (bits_of a.row) 0 a.n) crlf loaded c.put_marks-c.ensures.stored c.put_marks-c.ensures.next in
    let end-room : c.put_marks-c.result + 2 ≤ length c.put_marks-c.new.out = room crlf [] marked c.requires.2 in
    rw length-set (omega (arith, end-room))

pub overflow_add-result : goal.overflow_add-result
overflow_add-result c =
    let start : let a = c.args in Writing a.out.now a.at (cell_line a.n a.k a.load (bits_of a.row)) a.out.now a.at
    (decimal (a.k + 1) ++ ((44 ∷ []) ++ (decimal a.load ++ (marks (bits_of a.row) 0 a.n ++ crlf)))) = let a = c.args in said
    (line-parts a.n a.k a.load (bits_of a.row)) (begun _ _ _) in
    let number : let a = c.args in Writing a.out.now a.at (cell_line a.n a.k a.load (bits_of a.row)) c.put_few-a.new.out c.put_few-a.result
    ((44 ∷ []) ++ (decimal a.load ++ (marks (bits_of a.row) 0 a.n ++ crlf))) = let a = c.args in stored (decimal (a.k + 1))
    ((44 ∷ []) ++ (decimal a.load ++ (marks (bits_of a.row) 0 a.n ++ crlf))) start c.put_few-a.ensures.stored
    c.put_few-a.ensures.next in
    let comma : let a = c.args in Writing a.out.now a.at (cell_line a.n a.k a.load (bits_of a.row)) (set c.put_few-a.new.out c.put_few-a.result 44)
    (c.put_few-a.result + 1) (decimal a.load ++ (marks (bits_of a.row) 0 a.n ++ crlf)) = let a = c.args in stored (44 ∷ [])
    (decimal a.load ++ (marks (bits_of a.row) 0 a.n ++ crlf)) number refl refl in
    let loaded : let a = c.args in Writing a.out.now a.at (cell_line a.n a.k a.load (bits_of a.row)) c.put_number-b.new.out c.put_number-b.result
    (marks (bits_of a.row) 0 a.n ++ crlf) = let a = c.args in
    stored (decimal a.load) (marks (bits_of a.row) 0 a.n ++ crlf) comma c.put_number-b.ensures.stored
    c.put_number-b.ensures.next in
    let marked : let a = c.args in Writing a.out.now a.at (cell_line a.n a.k a.load
    (bits_of a.row)) c.put_marks-c.new.out c.put_marks-c.result crlf = let a = c.args in
    stored (marks (bits_of a.row) 0 a.n) crlf loaded c.put_marks-c.ensures.stored c.put_marks-c.ensures.next in
    let end-room : c.put_marks-c.result + 2 ≤ length c.put_marks-c.new.out = room crlf [] marked c.requires.2 in
    omega (arith, end-room, marked.long)

pub returns : goal.returns
returns c =
    let start : let a = c.args in Writing a.out.now a.at (cell_line a.n a.k a.load (bits_of a.row)) a.out.now a.at
    (decimal (a.k + 1) ++ ((44 ∷ []) ++ (decimal a.load ++ (marks (bits_of a.row) 0 a.n ++ crlf)))) = let a = c.args in said
    (line-parts a.n a.k a.load (bits_of a.row)) (begun _ _ _) in
    let number : let a = c.args in Writing a.out.now a.at (cell_line a.n a.k a.load (bits_of a.row)) c.put_few-a.new.out c.put_few-a.result
    ((44 ∷ []) ++ (decimal a.load ++ (marks (bits_of a.row) 0 a.n ++ crlf))) = let a = c.args in stored (decimal (a.k + 1))
    ((44 ∷ []) ++ (decimal a.load ++ (marks (bits_of a.row) 0 a.n ++ crlf))) start c.put_few-a.ensures.stored
    c.put_few-a.ensures.next in
    let comma : let a = c.args in Writing a.out.now a.at (cell_line a.n a.k a.load (bits_of a.row)) (set c.put_few-a.new.out c.put_few-a.result 44)
    (c.put_few-a.result + 1) (decimal a.load ++ (marks (bits_of a.row) 0 a.n ++ crlf)) = let a = c.args in stored (44 ∷ [])
    (decimal a.load ++ (marks (bits_of a.row) 0 a.n ++ crlf)) number refl refl in
    let loaded : let a = c.args in Writing a.out.now a.at (cell_line a.n a.k a.load (bits_of a.row)) c.put_number-b.new.out c.put_number-b.result
    (marks (bits_of a.row) 0 a.n ++ crlf) = let a = c.args in
    stored (decimal a.load) (marks (bits_of a.row) 0 a.n ++ crlf) comma c.put_number-b.ensures.stored
    c.put_number-b.ensures.next in
    let marked : let a = c.args in Writing a.out.now a.at (cell_line a.n a.k a.load
    (bits_of a.row)) c.put_marks-c.new.out c.put_marks-c.result crlf = let a = c.args in
    stored (marks (bits_of a.row) 0 a.n) crlf loaded c.put_marks-c.ensures.stored c.put_marks-c.ensures.next in
    let closed : let a = c.args in Writing a.out.now a.at (cell_line a.n a.k a.load (bits_of a.row))
    (set (set c.put_marks-c.new.out c.put_marks-c.result 13) (c.put_marks-c.result + 1) 10) (c.put_marks-c.result + 2) [] = stored crlf [] marked
    (two c.put_marks-c.new.out c.put_marks-c.result 13 10) refl in
    let w = ended closed in record { stored = w.0; next = w.1 }
