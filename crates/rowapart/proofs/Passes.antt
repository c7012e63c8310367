-- A row while an earlier row forbids positions of it, from `start` to `end`: that row sends nothing before, so that nothing is to be marked there, and nothing
-- after. Assumes nothing.
use mathlib.Core.Path.{◌≡◌, refl, sym, ap, ◌∙◌}
use mathlib.Core.Bool.{Bool, true, false}
use mathlib.Core.List.{List, []}
use mathlib.Core.Logic.{⊎_elim}
use Prim.Native.Nat.{ℕ, ◌+◌, ◌*◌, ◌≤◌, ◌<◌}
use native.Mathlib.Numerals.{add-one}
use native.Mathlib.Omega.{arith}
use borrow.Author.Tests.{ltb-true, ltb-false}
use lib.Dec.{ltb}
use lib.ListN.{length, get_or, take, set, get_or-eq_default}
use lib.Seq.{ext_get_or, get_or-take, length-take-le}
use Rattle.laws.specs.Choice.{pick}
use Rattle.laws.specs.Part.{part}
use Rattle.laws.proofs.Choice.{cases, refute}
use Rattle.laws.proofs.Part.{length_part, get_d_part}
use Rattle.theory.specs.Greedy.{sends, forbid}
use Rattle.theory.proofs.Row.{forbid-length, forbid-at}
use Rattle.rows.specs.Stretch.{SendsIn}
use Rattle.rows.proofs.Forbid.{forbid-more}

-- two earlier rows that send alike forbid alike
forbid-alike : (d e b : List ℕ) → ((k : ℕ) → k < length b → sends (get_or d k 0) ≡ sends (get_or e k 0)) → forbid d b ≡ forbid e b
forbid-alike d e b same =
    ext_get_or 0 (forbid d b) (forbid e b) (forbid-length d b ∙ sym (forbid-length e b)) (λ k h.
    let l : k < length b = omega (arith, forbid-length d b) in
    forbid-at d b k l ∙ ap (λ (c : Bool). pick c 2 (get_or b k 0)) (same k l) ∙ sym (forbid-at e b k l))

-- row j of t sends from a to b alone, and r has as many positions
module _ (n j : ℕ) (t r : List ℕ) (long : length r ≡ n) (fits : j * n + n ≤ length t) where
  abbrev theirs : List ℕ
  theirs = part (j * n) n t

  theirs-long : length theirs ≡ n
  theirs-long = length_part (j * n) n t fits

  past : (a k : ℕ) → a ≤ n → a ≤ k → get_or (take a theirs) k 0 ≡ 0
  past a k h l = get_or-eq_default (take a theirs) 0 (omega (arith, length-take-le a theirs (omega (arith, theirs-long))))

  module _ (a b : ℕ) (in' : SendsIn n t j a b) where
    silent-before : (k : ℕ) → k < n → k < a → sends (get_or theirs k 0) ≡ false
    silent-before k h l =
        ap sends (get_d_part (j * n) n t k 0 h) ∙ refute (sends (get_or t (j * n + k) 0)) (λ e. let g : a ≤ k = (in'.2 k h e).0 in omega arith)

    silent-after : (k : ℕ) → k < n → b ≤ k → sends (get_or theirs k 0) ≡ false
    silent-after k h l =
        ap sends (get_d_part (j * n) n t k 0 h) ∙ refute (sends (get_or t (j * n + k) 0)) (λ e. let g : k < b = (in'.2 k h e).1 in omega arith)

    pub forbid-start : r ≡ forbid (take a (part (j * n) n t)) r
    unfolding forbid
    forbid-start = forbid-alike [] (take a theirs) r (λ k h.
        let l : k < n = omega (arith, long) in
        ⊎_elim
        (λ (c : ltb k a ≡ true). sym (ap sends (get_or-take a theirs k 0 (ltb-true k a c)) ∙ silent-before k l (ltb-true k a c)))
        (λ (c : ltb k a ≡ false). sym (ap sends (past a k (omega (arith, in'.0, in'.1)) (ltb-false k a c))))
        (cases (ltb k a)))

    pub forbid-end : forbid (take b (part (j * n) n t)) r ≡ forbid (part (j * n) n t) r
    forbid-end = forbid-alike (take b theirs) theirs r (λ k h.
        let l : k < n = omega (arith, long) in
        ⊎_elim
        (λ (c : ltb k b ≡ true). ap sends (get_or-take b theirs k 0 (ltb-true k b c)))
        (λ (c : ltb k b ≡ false). ap sends (past b k in'.1 (ltb-false k b c)) ∙ sym (silent-after k l (ltb-false k b c)))
        (cases (ltb k b)))

  -- one position more
  pub forbid-turn : {s : List ℕ} (p v : ℕ) → p < n → s ≡ forbid (take p (part (j * n) n t)) r → v ≡ pick (sends (get_or t (j * n + p) 0)) 2 (get_or s p 0)
      → set s p v ≡ forbid (take (p + 1) (part (j * n) n t)) r
  forbid-turn {s} p v h is e =
      let l : p < length theirs = omega (arith, theirs-long) in
      let same : v ≡ pick (sends (get_or theirs p 0)) 2 (get_or (forbid (take p theirs) r) p 0)
      = e ∙ (λ x. pick (sends (sym (get_d_part (j * n) n t p 0 h) x)) 2 (get_or (is x) p 0)) in
      rw (same, is, add-one, forbid-more theirs r p l) refl
