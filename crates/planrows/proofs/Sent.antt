-- The stretch in which a row sends. A row that is put leaves what the earlier rows send (`sending-put`), and a planned row sends in no position that filling
-- left as it was, since marks and bars do not send (`planned-sends`). So the rows send in the stretches that are noted of them (`sending-more`).
-- Assumes nothing.
use mathlib.Core.Path.{◌≡◌, refl, sym, ap, ap₂, ◌∙◌}
use mathlib.Core.Bool.{Bool, true, false, ◌&&◌, ◌||◌, not}
use mathlib.Core.List.{List, []}
use Prim.Native.Nat.{ℕ, suc, ◌+◌, ◌*◌, ◌%◌, ◌≤◌, ◌<◌}
use mathlib.Core.Logic.{⊎_elim}
use native.Mathlib.Nat.{eq-or-lt_of_le}
use native.Mathlib.Omega.{arith}
use borrow.Author.Tests.{eqb-true}
use lib.Dec.{eqb}
use lib.ListN.{length, get_or, set}
use lib.Seq.{get_or-set_same, get_or-set_other}
use Rattle.laws.specs.Bits.{bit_in}
use Rattle.laws.specs.Choice.{pick}
use Rattle.laws.specs.Part.{put}
use Rattle.laws.specs.Sum.{any}
use Rattle.laws.proofs.Any.{any-eq}
use Rattle.laws.proofs.Choice.{at_least}
use Rattle.laws.proofs.Grid.{row_before}
use Rattle.laws.proofs.Part.{get_d_part, get_d-put, part-put-before}
use Rattle.rows.specs.Bars.{lifted}
use Rattle.rows.proofs.Bars.{lifted-length, lifted-at}
use Rattle.rows.specs.Stretch.{SameBut, SendsIn}
use Rattle.theory.specs.Net.{unblocked}
use Rattle.theory.specs.Greedy.{sends, reserved, fill}
use Rattle.theory.proofs.Row.{marked-length, marked-at, fill-length}
use Rattle.site.specs.Reach.{net_in}
use Rattle.planrows.specs.Row.{marks_in, row_planned, Sending, RowsMarked, RowsBefore}

-- the same of other names
pub sends-in-is : (n j : ℕ) {t u : List ℕ} {a b c d : ℕ} → u ≡ t → c ≡ a → d ≡ b → SendsIn n t j a b → SendsIn n u j c d
sends-in-is n j e f g h = rw (e, f, g) h

pub same-but-is : {a b : ℕ} {x y v w : List ℕ} → x ≡ v → y ≡ w → SameBut a b x y → SameBut a b v w
same-but-is e f h = rw (← e, ← f) h

-- an earlier row, where a later one is put
module _ (n i : ℕ) (r t : List ℕ) (long : length r ≡ n) (fits : i * n + n ≤ length t) where
  before : (j p : ℕ) → j < i → p < n → get_or (put (i * n) n r t) (j * n + p) 0 ≡ get_or t (j * n + p) 0
  before j p l h =
      sym (get_d_part (j * n) n (put (i * n) n r t) p 0 h)
      ∙ ap (λ (x : List ℕ). get_or x p 0) (part-put-before (i * n) n r t long fits (j * n) n (row_before n l))
      ∙ get_d_part (j * n) n t p 0 h

  pub reserved-before : {u : List ℕ} → u ≡ put (i * n) n r t → (j p : ℕ) → j < i → p < n → reserved n u j p ≡ reserved n t j p
  reserved-before is j p l h = ap (λ (x : List ℕ). sends (get_or x (j * n + p) 0)) is ∙ ap sends (before j p l h)

  -- a row before stays marked
  pub marked-put : (clash : ℕ → ℕ → Bool) {u : List ℕ} → u ≡ put (i * n) n r t → RowsMarked n clash t i → RowsMarked n clash u i
  marked-put clash {u} is h j l p b =
      ap (λ (x : List ℕ). eqb (get_or x (j * n + p) 0) 0) is ∙ ap (λ (x : ℕ). eqb x 0) (before j p l b) ∙ h j l p b
      ∙ sym
      (ap₂ (λ a c. not (a || c)) (reserved-before is j p l b)
      (any-eq (λ m. clash m j && reserved n u m p) (λ m. clash m j && reserved n t m p) j
      (λ m k. ap (λ c. clash m j && c) (reserved-before is m p (omega arith) b))))

  pub sending-put : (starts ends : List ℕ) → Sending n t i starts ends → Sending n (put (i * n) n r t) i starts ends
  sending-put starts ends h j l =
      let s = h j l in
      (s.0, s.1, λ p b e. s.2 p b (ap sends (sym (before j p l b)) ∙ e))

-- all of it of a later table, in which row i alone is another
pub before-put : (n i : ℕ) (r t clash starts ends : List ℕ) → length r ≡ n → i * n + n ≤ length t → RowsBefore n t i clash starts ends
    → {u : List ℕ} → u ≡ put (i * n) n r t → RowsBefore n u i clash starts ends
before-put n i r t clash starts ends long fits h is = (
  rw is (sending-put n i r t long fits starts ends h.0),
  (marked-put n i r t long fits (bit_in clash) is h.1.0, h.1.1),
)

-- bars lifted of both
pub same-but-lifted : {a b : ℕ} (x y : List ℕ) → SameBut a b x y → SameBut a b (lifted x) (lifted y)
same-but-lifted x y h = (
  h.0,
  omega (arith, h.1, lifted-length x),
  λ p l. lifted-at y p ∙ ap (λ (b : ℕ). b % 4) (h.2 p l) ∙ sym (lifted-at x p),
  λ p l b. lifted-at y p ∙ ap (λ (b : ℕ). b % 4) (h.3 p l (omega (arith, lifted-length x))) ∙ sym (lifted-at x p),
)

-- a mark does not send
silent : (c : Bool) (b : ℕ) → b ≡ pick c 2 0 → sends b ≡ true → ⊥
silent true b e h = omega (arith, eqb-true b 1 h)
silent false b e h = omega (arith, eqb-true b 1 h)

module _ (n : ℕ) (clash : ℕ → ℕ → Bool) (i : ℕ) (t : List ℕ) (fits : i * n + n ≤ length t) (u : ℕ → Bool) (load a b : ℕ) where
  abbrev m : List ℕ
  m = marks_in n clash t i

  marks-long : length m ≡ n
  marks-long = marked-length (net_in 0 n [] clash unblocked) t i i

  quiet : (p : ℕ) → p < n → {v : ℕ} → v ≡ get_or m p 0 → sends v ≡ true → ⊥
  quiet p h {v} e s =
      silent (any (λ c. clash c i && reserved n t c p) i) v (e ∙ marked-at (net_in 0 n [] clash unblocked) t i i p h) s

  pub planned-sends : {t₂ : List ℕ} → t₂ ≡ row_planned n clash u i load t → SameBut a b (marks_in n clash t i) (fill u 0 load (marks_in n clash t i))
      → SendsIn n t₂ i a b
  planned-sends {t₂} is h = (
    h.0,
    omega (arith, h.1, marks-long),
    λ p l e.
        let byte : get_or t₂ (i * n + p) 0 ≡ get_or (fill u 0 load m) p 0
        = ap (λ (x : List ℕ). get_or x (i * n + p) 0) is ∙ get_d-put (i * n) n (fill u 0 load m) t (fill-length u 0 load m ∙ marks-long) fits p 0 l in (
          at_least a p (λ o. quiet p l (byte ∙ h.2 p o) e),
          at_least (suc p) b (λ o. quiet p l (byte ∙ h.3 p (omega arith) (omega (arith, marks-long))) e),
        ),
  )

-- the first row and the next: what a planned row leaves, with its own stretch noted
pub sending-none : (n : ℕ) (t starts ends : List ℕ) → Sending n t 0 starts ends
sending-none n t starts ends j l = absurd (omega arith)

module _ (n : ℕ) (clash : ℕ → ℕ → Bool) (i : ℕ) (t : List ℕ) (fits : i * n + n ≤ length t) (u : ℕ → Bool) (load : ℕ) {t₂ : List ℕ}
    (is : t₂ ≡ row_planned n clash u i load t) where
  planned-long : length (fill u 0 load (marks_in n clash t i)) ≡ n
  planned-long = fill-length u 0 load (marks_in n clash t i) ∙ marked-length (net_in 0 n [] clash unblocked) t i i

  pub sending-more : (starts ends : List ℕ) → i < length starts → i < length ends → Sending n t i starts ends → (a b : ℕ) → SendsIn n t₂ i a b
      → Sending n t₂ (i + 1) (set starts i a) (set ends i b)
  sending-more starts ends ls le h a b s j l =
      ⊎_elim
      (λ (e : j ≡ i). rw e (sends-in-is n i {t = t₂} {u = t₂} refl (get_or-set_same starts i a 0 ls) (get_or-set_same ends i b 0 le) s))
      (λ (m : j < i).
      sends-in-is n j {t = put (i * n) n (fill u 0 load (marks_in n clash t i)) t} is
      (get_or-set_other starts i j a 0 (λ e. omega arith))
      (get_or-set_other ends i j b 0 (λ e. omega arith))
      (sending-put n i (fill u 0 load (marks_in n clash t i)) t planned-long fits starts ends h j m))
      (eq-or-lt_of_le {n = j} {m = i} (omega arith))
