-- What the checker's answers mean, by the laws of the table verdict.
--     check-refused     refused: the record's own fault, where it has one
--     valid-means       valid, exactly where nothing is wrong with the record, the table is long enough and the table is valid for the site
--     blocked-means     a reservation on a blocked position: the first one, by position, then cell
--     clash-means       a clash: no reservation on a blocked position, and the first clash, by position, then first cell, then second
--     count-means       a count: no reservation on a blocked position, no clash anywhere, and the lowest cell that is not reserved as often as its
--                       load says, with its count
-- Assumes nothing.
use mathlib.Core.Path.{◌≡◌, refl, sym, ap, ◌∙◌}
use mathlib.Core.Bool.{Bool, true, false, false≢true}
use mathlib.Core.List.{List}
use mathlib.Core.Logic.{◌↔◌}
use Prim.Native.Nat.{ℕ, ◌+◌, ◌≤◌}
use lib.Dec.{ltb}
use lib.ListN.{length}
use borrow.Author.Tests.{ltb-false}
use Rattle.laws.specs.Choice.{pick}
use Rattle.theory.specs.Net as net
use Rattle.theory.specs.Greedy.{reserved}
use Rattle.theory.specs.Verdict.{TableVerdict, valid, barred, clash, wrong, table_verdict}
use Rattle.theory.specs.Named.{FirstBarred, FirstClash, FirstWrong}
use Rattle.theory.proofs.TableLaws.{check-valid, valid-check, check-names-barred, check-names-clash, check-names-wrong}
use Rattle.std.specs.Prelude.{Result, Ok, Err}
use Rattle.site.specs.Record.{positions, size, fault_of, answer_with}
use Rattle.site.specs.Reach.{net_of}
use Rattle.site.proofs.PassedOn.{passed_on}
use Rattle.site.specs.declared.Site.{Site}
use Rattle.site.specs.declared.Fault.{Fault}
use Rattle.checker.specs.Check.{verdict_of, check_answer}
use Rattle.checker.specs.declared.CheckError.{CheckError}
use Rattle.checker.specs.declared.CheckError.TheVariants.{TableShort, Blocked, Clash, Count, Record}
use Rattle.checker.proofs.Judged.{check-judged}

-- a call that went on to the table, and what it found there
record Judged (s : Site) (t : List ℕ) (a : Result Unit CheckError) : Type 0 where
  fine : fault_of s ≡ Ok tt
  long : size s ≤ length t
  answer : verdict_of (table_verdict (net_of s) (reserved (positions s) t)) ≡ a

-- such an answer is the verdict's
judges : Result Unit CheckError → Bool
judges (Ok u) = true
judges (Err TableShort) = false
judges (Err (Blocked p c)) = true
judges (Err (Clash p a c)) = true
judges (Err (Count i n)) = true
judges (Err (Record f)) = false

judged-of : (f : Result Unit Fault) (short : Bool) (o a : Result Unit CheckError) → judges a ≡ true → answer_with Record f (pick short (Err TableShort) o) ≡ a
    → (f ≡ Ok tt) × (short ≡ false) × (o ≡ a)
unfolding judges
judged-of (Ok u) true o a h e = absurd (false≢true (ap judges e ∙ h))
judged-of (Ok u) false o a h e = (refl, refl, e)
judged-of (Err f) short o a h e = absurd (false≢true (ap judges e ∙ h))

judged : (s : Site) (t : List ℕ) (a : Result Unit CheckError) → judges a ≡ true → check_answer s t ≡ a → Judged s t a
unfolding check_answer
judged s t a h e =
    let z = judged-of (fault_of s) (ltb (length t) (size s)) (verdict_of (table_verdict (net_of s) (reserved (positions s) t))) a h e in
    record { fine = z.0; long = ltb-false (length t) (size s) z.1; answer = z.2 }

-- "1, 2, 3, .. then 4": a refusal carries the record's own fault, and a record at fault is refused
no-refusal : (short : Bool) (v : TableVerdict) (f : Fault) → pick short (Err TableShort) (verdict_of v) ≡ Err (Record f) → ⊥
unfolding verdict_of
no-refusal true v f e = cc
no-refusal false valid f e = cc
no-refusal false (barred k i) f e = cc
no-refusal false (clash k a c) f e = cc
no-refusal false (wrong i n) f e = cc

pub check-refused : (s : Site) (t : List ℕ) (f : Fault) → check_answer s t ≡ Err (Record f) ↔ (fault_of s ≡ Err f)
unfolding check_answer
check-refused s t =
    passed_on Record (λ f g e. cc) (fault_of s) _ (no-refusal (ltb (length t) (size s)) (table_verdict (net_of s) (reserved (positions s) t)))

was-valid : (v : TableVerdict) → verdict_of v ≡ Ok tt → v ≡ valid
unfolding verdict_of
was-valid valid e = refl
was-valid (barred k i) e = cc
was-valid (clash k a c) e = cc
was-valid (wrong i n) e = cc

pub valid-means : (s : Site) (t : List ℕ)
    → (check_answer s t ≡ Ok tt) ↔ ((fault_of s ≡ Ok tt) × (size s ≤ length t) × net.Valid (net_of s) (reserved (positions s) t))
unfolding judges verdict_of
valid-means s t = (
  (λ e.
      let r = judged s t (Ok tt) refl e in
      (r.fine, r.long, check-valid (net_of s) (reserved (positions s) t) (was-valid _ r.answer))),
  (λ h. sym (check-judged s t h.0 h.1) ∙ ap verdict_of (valid-check (net_of s) (reserved (positions s) t) h.2)),
)

was-barred : (v : TableVerdict) (p c : ℕ) → verdict_of v ≡ Err (Blocked p c) → (i : ℕ) × (c ≡ i + 1) × (v ≡ barred p i)
unfolding verdict_of
was-barred valid p c e = cc
was-barred (barred k i) p c e =
    let p₀ : k ≡ p = cc in
    let p₁ : i + 1 ≡ c = cc in
    (i, sym p₁, ap (λ q. barred q i) p₀)
was-barred (clash k x z) p c e = cc
was-barred (wrong i n) p c e = cc

-- W8: "22, reservation on a blocked position (lowest position, then cell)"
pub blocked-means : (s : Site) (t : List ℕ) (p c : ℕ) → check_answer s t ≡ Err (Blocked p c)
    → (i : ℕ) × (c ≡ i + 1) × FirstBarred (net_of s) (reserved (positions s) t) p i
unfolding judges
blocked-means s t p c e =
    let r = judged s t (Err (Blocked p c)) refl e in
    let w = was-barred (table_verdict (net_of s) (reserved (positions s) t)) p c r.answer in
    (w.0, w.1, check-names-barred (net_of s) (reserved (positions s) t) p w.0 w.2)

was-clash : (v : TableVerdict) (p a c : ℕ) → verdict_of v ≡ Err (Clash p a c) → (x z : ℕ) × (a ≡ x + 1) × (c ≡ z + 1) × (v ≡ clash p x z)
unfolding verdict_of
was-clash valid p a c e = cc
was-clash (barred k i) p a c e = cc
was-clash (clash k x z) p a c e =
    let p₀ : k ≡ p = cc in
    let p₁ : x + 1 ≡ a = cc in
    let p₂ : z + 1 ≡ c = cc in
    (x, z, sym p₁, sym p₂, ap (λ q. clash q x z) p₀)
was-clash (wrong i n) p a c e = cc

pub clash-means : (s : Site) (t : List ℕ) (p a c : ℕ) → check_answer s t ≡ Err (Clash p a c)
    → (x z : ℕ) × (a ≡ x + 1) × (c ≡ z + 1) × FirstClash (net_of s) (reserved (positions s) t) p x z
unfolding judges
clash-means s t p a c e =
    let r = judged s t (Err (Clash p a c)) refl e in
    let w = was-clash (table_verdict (net_of s) (reserved (positions s) t)) p a c r.answer in
    (w.0, w.1, w.2, w.3, check-names-clash (net_of s) (reserved (positions s) t) p w.0 w.1 w.4)

was-wrong : (v : TableVerdict) (c n : ℕ) → verdict_of v ≡ Err (Count c n) → (i : ℕ) × (c ≡ i + 1) × (v ≡ wrong i n)
unfolding verdict_of
was-wrong valid c n e = cc
was-wrong (barred k i) c n e = cc
was-wrong (clash k x z) c n e = cc
was-wrong (wrong i m) c n e =
    let p₀ : i + 1 ≡ c = cc in
    let p₁ : m ≡ n = cc in
    (i, sym p₀, ap (wrong i) p₁)

pub count-means : (s : Site) (t : List ℕ) (c n : ℕ) → check_answer s t ≡ Err (Count c n)
    → (i : ℕ) × (c ≡ i + 1) × FirstWrong (net_of s) (reserved (positions s) t) i n
unfolding judges
count-means s t c n e =
    let r = judged s t (Err (Count c n)) refl e in
    let w = was-wrong (table_verdict (net_of s) (reserved (positions s) t)) c n r.answer in
    (w.0, w.1, check-names-wrong (net_of s) (reserved (positions s) t) w.0 n w.2)
