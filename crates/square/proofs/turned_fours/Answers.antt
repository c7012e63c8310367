-- `square::turned_fours` meets its contract: each word holds the bits of known places, and after four trades they are the turned ones. Assumes nothing.
use mathlib.Core.Path.{refl, ◌∙◌}
use mathlib.Core.List.{[], ◌∷◌}
use lib.Dec.{lit<}
use Rattle.laws.specs.Part.{list_of}
use Rattle.laws.specs.Sum.{any}
use Rattle.square.specs.Turned.{turned_fours}
use Rattle.square.proofs.Fours.{starts, traded-held, inner-held, ends}
use Rattle.square.proofs.turned_fours.Goals as goal

pub returns : goal.returns
unfolding turned_fours list_of any
returns c = let rows = c.args.rows.now in
    let a = c.four_rows-a.ensures ∙ starts rows 0 in
    let b = c.four_rows-b.ensures ∙ starts rows 4 in
    let x = c.four_rows-c.ensures ∙ starts rows 8 in
    let d = c.four_rows-d.ensures ∙ starts rows 12 in
    let e = traded-held rows 8 _ _ _ _ _ _ _ refl a x c.traded-e.ensures in
    let f = traded-held rows 8 _ _ _ _ _ _ _ refl b d c.traded-f.ensures in
    let g = traded-held rows 8 _ _ _ _ _ _ _ refl x a c.traded-g.ensures in
    let h = traded-held rows 8 _ _ _ _ _ _ _ refl d b c.traded-h.ensures in
    let i = inner-held rows _ _ _ (traded-held rows 4 _ _ _ _ _ _ _ refl e f c.traded.ensures) c.inner-i.ensures
    ∙ ends rows _ 0 (lit< tt) refl in
    let j = inner-held rows _ _ _ (traded-held rows 4 _ _ _ _ _ _ _ refl f e c.traded-2.ensures) c.inner-j.ensures
    ∙ ends rows _ 1 (lit< tt) refl in
    let k = inner-held rows _ _ _ (traded-held rows 4 _ _ _ _ _ _ _ refl g h c.traded-3.ensures) c.inner-k.ensures
    ∙ ends rows _ 2 (lit< tt) refl in
    let l = inner-held rows _ _ _ (traded-held rows 4 _ _ _ _ _ _ _ refl h g c.traded-4.ensures) c.inner-l.ensures
    ∙ ends rows _ 3 (lit< tt) refl in
    λ n. i n ∷ j n ∷ k n ∷ l n ∷ []
