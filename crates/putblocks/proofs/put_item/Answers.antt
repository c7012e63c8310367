-- `putblocks::put_item` meets its contract: part by part. Assumes nothing.
use mathlib.Core.List.{List, [], ◌∷◌, ◌++◌}
use Prim.Native.Nat.{ℕ}
use Rattle.text.proofs.Writing.{Writing, begun, said, stored, ended}
use Rattle.blocklist.specs.Format.{side_text, item_text, dot_byte}
use Rattle.putblocks.specs.Loop.{comma_if, item_for}
use Rattle.putblocks.proofs.Texts.{item-parts}
use Rattle.putblocks.proofs.put_item.Goals as goal

pub returns : goal.returns
returns c = let a = c.args in
    let item = item_for a.slots a.a a.b a.channels a.c a.d in
    let slots = side_text item.slots in
    let channels = side_text item.channels in
    let end : List ℕ = channels ++ [] in
    let dot : List ℕ = (dot_byte ∷ []) ++ end in
    let Part : List ℕ → ℕ → List ℕ → Type 0 = λ out at rest. Writing a.out.now a.at (comma_if a.begun ++ item_text item) out at rest in
    let start : Part a.out.now a.at (comma_if a.begun ++ (slots ++ dot)) = said (item-parts a.begun item) (begun _ _ _) in
    let comma : Part c.put_comma-p.new.out c.put_comma-p.result (slots ++ dot) =
    stored (comma_if a.begun) (slots ++ dot) start c.put_comma-p.ensures.stored c.put_comma-p.ensures.next in
    let slotted : Part c.put_side-q.new.out c.put_side-q.result dot =
    stored slots dot comma c.put_side-q.ensures.stored c.put_side-q.ensures.next in
    let dotted : Part c.put_byte-r.new.out c.put_byte-r.result end =
    stored (dot_byte ∷ []) end slotted c.put_byte-r.ensures.stored c.put_byte-r.ensures.follows in
    let whole : Part c.put_side.new.out c.put_side.result [] = stored channels [] dotted c.put_side.ensures.stored c.put_side.ensures.next in
    let e = ended whole in record { stored = e.0; next = e.1 }
