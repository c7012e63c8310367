-- `putblocks::put_side` meets its contract: a star, one number, or two with a dash between. Assumes nothing.
use mathlib.Core.Path.{◌≡◌, sym, ◌∙◌}
use mathlib.Core.List.{List, [], ◌∷◌, ◌++◌}
use Prim.Native.Nat.{ℕ}
use Rattle.text.specs.Decimal.{decimal}
use Rattle.text.proofs.Writing.{Writing, begun, said, stored, ended}
use Rattle.blocklist.specs.Format.{side_text, dash_byte}
use Rattle.putblocks.specs.Canon.{side_for}
use Rattle.putblocks.proofs.Texts.{text-two}
use Rattle.putblocks.proofs.put_side.Goals as goal

pub returns : goal.returns
returns c =
    let two : (side_text (side_for c.args.most c.args.from c.args.to)) ≡ decimal c.args.from ++
    ((dash_byte ∷ []) ++ (decimal c.args.to ++ [])) = let a = c.args in text-two a.most a.from a.to
    (sym c.is_whole.ensures ∙ c.if-is_whole.false) c.if-from-to.false in
    let Part : List ℕ → ℕ → List ℕ → Type 0 = λ out at rest. Writing c.args.out.now c.args.at (side_text (side_for c.args.most c.args.from c.args.to))
    out at rest in
    let start : Part c.args.out.now c.args.at (decimal c.args.from ++ ((dash_byte ∷ []) ++ (decimal c.args.to ++ []))) = said two (begun _ _ _) in
    let lower : Part c.put_number-a.new.out c.put_number-a.result ((dash_byte ∷ []) ++ (decimal c.args.to ++ [])) = stored (decimal c.args.from)
    ((dash_byte ∷ []) ++ (decimal c.args.to ++ [])) start c.put_number-a.ensures.stored c.put_number-a.ensures.next in
    let dashed : Part c.put_byte-b.new.out c.put_byte-b.result (decimal c.args.to ++ []) = stored (dash_byte ∷ [])
    (decimal c.args.to ++ []) lower c.put_byte-b.ensures.stored c.put_byte-b.ensures.follows in
    let upper : Part c.put_number-2.new.out c.put_number-2.result [] = stored
    (decimal c.args.to) [] dashed c.put_number-2.ensures.stored c.put_number-2.ensures.next in
    let e = ended upper in record { stored = e.0; next = e.1 }
