-- One text and then another over its last byte: what stands there is the first without that byte, and then the second. Assumes nothing.
use Prim.Native.Nat.{ℕ, suc, ◌+◌, ◌≤◌, ◌<◌}
use mathlib.Core.Path.{◌≡◌, refl, sym, ap, ◌∙◌}
use mathlib.Core.Bool.{Bool, true, false}
use mathlib.Core.List.{List, [], ◌∷◌, ◌++◌}
use native.Mathlib.Nat.{add-zero}
use native.Mathlib.Numerals.{add-one}
use native.Mathlib.Omega.{arith}
use lib.Dec.{lit≤}
use lib.ListN.{length, length-append, set, get_or}
use lib.Seq.{sets, set-set}
use borrow.Author.Tests.{lt-ltb, le-ltb}
use Rattle.std.specs.Prelude.{Result}
use Rattle.laws.proofs.Stores.{sets-append}
use Rattle.speech.specs.Speech.{spoken}
use Rattle.phrases.specs.Put.{Put}
use Rattle.phrases.specs.Phrases.{phrase}
use Rattle.mender.specs.declared.MendError.{MendError}
use Rattle.say_audit.specs.Lines.{audit_lines}
use Rattle.say_audit.specs.Said.{shown_byte, shown_to, bare_from, bare, last_byte, mend_phrase, remark_phrase, after_said}

last_from : ℕ → List ℕ → ℕ
last_from b [] = b
last_from b (c ∷ text) = last_from c text

whole : (b : ℕ) (text : List ℕ) → bare_from b text ++ (last_from b text ∷ []) ≡ b ∷ text
unfolding last_from
whole b [] = refl
whole b (c ∷ text) = ap (λ (r : List ℕ). b ∷ r) (whole c text)

bare-length : (b : ℕ) (text : List ℕ) → length (bare_from b text) ≡ length text
bare-length b [] = refl
bare-length b (c ∷ text) = ap suc (bare-length c text)

-- a byte that is stored over
over-byte : (l : List ℕ) (i b c : ℕ) (text : List ℕ) → sets (set l i b) i (c ∷ text) ≡ sets l i (c ∷ text)
over-byte l i b c text = ap (λ (r : List ℕ). sets r (suc i) text) (set-set l i b c)

stored-over : (l : List ℕ) (at b : ℕ) (text : List ℕ) (c : ℕ) (more : List ℕ)
    → sets (sets l at (b ∷ text)) (at + length text) (c ∷ more) ≡ sets l at (bare_from b text ++ (c ∷ more))
stored-over l at b text c more =
    let n : at + length (bare_from b text) ≡ at + length text = ap (λ k. at + k) (bare-length b text) in
    let one : sets l at (b ∷ text) ≡ set (sets l at (bare_from b text)) (at + length text) (last_from b text) =
    ap (sets l at) (sym (whole b text))
    ∙ sets-append l at (bare_from b text) (last_from b text ∷ [])
    ∙ ap (λ (i : ℕ). set (sets l at (bare_from b text)) i (last_from b text)) n in
    ap (λ (r : List ℕ). sets r (at + length text) (c ∷ more)) one
    ∙ over-byte (sets l at (bare_from b text)) (at + length text) (last_from b text) c more
    ∙ ap (λ (i : ℕ). sets (sets l at (bare_from b text)) i (c ∷ more)) (sym n)
    ∙ sym (sets-append l at (bare_from b text) (c ∷ more))

module _ {before middle after : List ℕ} {at end next : ℕ} {room space : ℕ} where
  -- the second text is not empty, so that nothing of the first one's last byte is left
  pub put-over : (text more : List ℕ) → Put before at text room middle end → Put middle (last_byte at end) more space after next → 0 < length more
      → Put before at (bare text ++ more) (room + space) after next
  unfolding last_byte
  put-over text [] p q some = absurd (omega arith)
  put-over [] (c ∷ more) p q some =
      let e : end ≡ at = p.follows ∙ add-zero at in
      let place : last_byte at end ≡ at = ap (last_byte at) e ∙ (rw (le-ltb at at (omega arith))) in
      record {
        stored = q.stored ∙ rw (p.stored, place);
        follows = q.follows ∙ rw place;
        short = omega (arith, q.short);
      }
  put-over (b ∷ text) (c ∷ more) p q some =
      let e : end ≡ at + suc (length text) = p.follows in
      let place : last_byte at end ≡ at + length text = rw (lt-ltb at end (omega arith)) (omega arith) in
      record {
        stored = q.stored ∙ rw (p.stored, place) (stored-over before at b text c more);
        follows = omega (arith, q.follows, place, length-append (bare_from b text) (c ∷ more), bare-length b text);
        short = omega (arith, p.short, q.short, length-append (bare_from b text) (c ∷ more), bare-length b text);
      }

-- what follows the first thing wrong is never empty: it has the line's end
remark-some : (unseen : Bool) → 1 ≤ length (phrase audit_lines (remark_phrase unseen))
unfolding audit_lines spoken
remark-some true = lit≤ tt
remark-some false = lit≤ tt

pub after-some : (mended : Result ℕ MendError) (unseen : Bool) → 0 < length (after_said mended unseen)
after-some mended unseen =
    omega (arith, length-append (phrase audit_lines (mend_phrase mended)) (phrase audit_lines (remark_phrase unseen)), remark-some unseen)

-- one byte more of a name
pub shown-more : (name : List ℕ) (i : ℕ) → shown_to name (i + 1) ≡ shown_to name i ++ (shown_byte (get_or name i 0) ∷ [])
unfolding shown_to
shown-more name i = ap (shown_to name) (add-one i)
