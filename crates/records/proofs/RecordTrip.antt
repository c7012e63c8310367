-- Records in a file: a record that is written there is read back, with what follows it; and a record that is open there, written again, is the same bytes.
-- Assumes nothing.
use Prim.Native.Nat.{ℕ, ◌+◌, ◌-◌, ◌≤◌}
use mathlib.Core.Path.{◌≡◌, refl, sym, ap, ◌∙◌}
use mathlib.Core.Bool.{true}
use mathlib.Core.List.{List, [], ◌∷◌, ◌++◌}
use native.Mathlib.Omega.{arith}
use lib.ListN.{length, take, drop, length-append, length-drop, take-append-drop}
use lib.Seq.{drop-drop, take_at, drop_at, length-take-le}
use Rattle.records.specs.Bytes.{Bytes, le16, two_bytes_each}
use Rattle.records.specs.Layout.{record_of, body_at, record_end}
use Rattle.records.specs.Reasons.{length_ok, first_reason, record_reasons}
use Rattle.records.specs.Head.{head_record, cells_of_head, slots_of_head, channels_of_head, after_head}
use Rattle.records.specs.declared.Length.{Length}
use Rattle.records.specs.declared.Length.TheVariants.{Exact}
use Rattle.std.specs.Prelude.{Ok}
use Rattle.records.proofs.Laws.{Opening, open-record, length-least}
use Rattle.records.proofs.Head.{HeadGood}
use Rattle.records.proofs.Bytes.{numbers_at, numbers-at, le16-drop, le16-drop-two}

-- a record that stands at an offset
module _ (s : List ℕ) (at kind : ℕ) (body rest : List ℕ) (here : drop at s ≡ record_of kind body ++ rest) where
  pub length_back : le16 s at ≡ 2 + length body
  length_back =
      let e : le16 (record_of kind body ++ rest) 0 ≡ 2 + length body = omega arith in
      sym (le16-drop s at) ∙ ap (λ (l : List ℕ). le16 l 0) here ∙ e

  pub kind-back : le16 s (at + 2) ≡ kind
  kind-back =
      let e : le16 (record_of kind body ++ rest) 2 ≡ kind = omega arith in
      sym (le16-drop-two s at) ∙ ap (λ (l : List ℕ). le16 l 2) here ∙ e

  past-start : drop (at + 4) s ≡ body ++ rest
  past-start = sym (drop-drop 4 at s) ∙ ap (drop 4) here

  pub record-body : body_at s at ≡ body
  record-body =
      let e : le16 s at - 2 ≡ length body = omega (arith, length_back) in
      ap (λ (k : ℕ). take k (drop (at + 4) s)) e ∙ ap (take (length body)) past-start ∙ take_at body rest (length body) refl

  pub rest_back : drop (record_end s at) s ≡ rest
  rest_back =
      let e : record_end s at ≡ at + 4 + length body = omega (arith, length_back) in
      ap (λ (k : ℕ). drop k s) e ∙ sym (drop-drop (length body) (at + 4) s) ∙ ap (drop (length body)) past-start ∙ drop_at body rest (length body) refl

  long : length s - at ≡ 4 + length body + length rest
  long =
      let e : length (record_of kind body ++ rest) ≡ 4 + length body + length rest = simp length-append (omega arith) in
      sym (length-drop at s) ∙ ap length here ∙ e

  pub record-back : (rule : Length) → length_ok rule (2 + length body) ≡ true → first_reason (record_reasons s at kind rule) ≡ Ok tt
  record-back rule fits =
      open-record s at kind rule (omega (arith, long)) kind-back (ap (length_ok rule) length_back ∙ fits) (omega (arith, long, length_back))

-- a record that is open at an offset
module _ (s : List ℕ) (bytes : Bytes s) (at kind : ℕ) (rule : Length) (start len : ℕ) (o : Opening s at kind rule start len) where
  join : (n k : ℕ) → take n (drop k s) ++ drop (k + n) s ≡ drop k s
  join n k = rw (← drop-drop n k s) (take-append-drop n (drop k s))

  least : 2 ≤ le16 s at
  least = length-least rule (le16 s at) o.fits

  pub body-length : length (body_at s at) ≡ le16 s at - 2
  body-length = length-take-le (le16 s at - 2) (drop (at + 4) s) (simp length-drop (omega (arith, least, o.«end»)))

  pub record-again : record_of kind (body_at s at) ++ drop (record_end s at) s ≡ drop at s
  unfolding numbers_at
  record-again =
      let n : 2 + length (body_at s at) ≡ le16 s at = omega (arith, body-length, least) in
      let w : (2 + length (body_at s at)) ∷ kind ∷ [] ≡ numbers_at s at 2 = cc (n, o.same) in
      let e : record_end s at ≡ at + 4 + (le16 s at - 2) = omega (arith, least) in
      ap (λ (k : ℕ). record_of kind (body_at s at) ++ drop k s) e
      ∙ ap (λ (l : List ℕ). two_bytes_each l ++ (body_at s at ++ drop (at + 4 + (le16 s at - 2)) s)) w
      ∙ ap (λ (l : List ℕ). two_bytes_each (numbers_at s at 2) ++ l) (join (le16 s at - 2) (at + 4))
      ∙ ap (λ (l : List ℕ). l ++ drop (at + 4) s) (numbers-at s bytes 2 at (omega (arith, o.four)))
      ∙ join 4 at

-- a good head, written again
pub head-again : (s : List ℕ) → Bytes s → HeadGood s → head_record (cells_of_head s) (slots_of_head s) (channels_of_head s) ++ drop (after_head s) s ≡ s
unfolding numbers_at
head-again s bytes h =
    let six : le16 s 0 - 2 ≡ 6 = omega (arith, h.eight) in
    let body : two_bytes_each (cells_of_head s ∷ slots_of_head s ∷ channels_of_head s ∷ []) ≡ body_at s 0 =
    numbers-at s bytes 3 4 (omega (arith, h.long)) ∙ ap (λ (k : ℕ). take k (drop 4 s)) (sym six) in
    ap (λ (l : List ℕ). record_of 1 l ++ drop (after_head s) s) body ∙ record-again s bytes 0 1 (Exact 8) _ _ h.opening
