-- What an audit says of a site is true.
--     form-exactly       each of the four forms is said exactly of the sites that are so
--     chained-exactly    chained is said exactly of an accepted site that is chained
--     nested-true        nested is said of a site that is nested
--     renumbered-true    renumbered: not nested, and a numbering of all its cells was found
--     needs-true         with fewer channel-slots than it needs no plan exists, on any site with the same cells, loads and reach
-- Assumes nothing.
use Prim.Native.Nat.{ℕ}
use mathlib.Core.Logic.{◌↔◌}
use mathlib.Core.Path.{◌≡◌, refl, sym, ap, ◌∙◌, subst}
use native.Mathlib.Omega.{arith}
use Rattle.std.specs.Prelude.{Result, Ok, Err}
use Rattle.theory.specs.Net.{Chained, Class}
use Rattle.theory.proofs.Exact.{chained-class}
use Rattle.site.specs.Record.{fault_of}
use Rattle.site.specs.Reach.{net_of}
use Rattle.site.specs.declared.Site.{Site}
use Rattle.site.specs.declared.Fault.{Fault}
use Rattle.judges.specs.Judges.{counted, chain_answer, class_answer}
use Rattle.judges.specs.declared.ChainVerdict.{ChainVerdict}
use Rattle.judges.specs.declared.ChainVerdict.TheVariants as chain
use Rattle.judges.specs.declared.ClassVerdict.{ClassVerdict}
use Rattle.judges.specs.declared.ClassVerdict.TheVariants as class
use Rattle.judges.proofs.Meaning.{chained-means, broken-means, chain-refused, class-means, outside-means, class-refused}
use Rattle.heaviest.proofs.Meaning.{done-fine}
use Rattle.renumbering.specs.Numbering.{Numbering, numbered, stuck}
use Rattle.numbering.specs.Renumber.{numbering_of, renumber_of}
use Rattle.numbering.proofs.Ways.{renumber-none, renumber-done}
use Rattle.numbering.specs.declared.RenumberError.{RenumberError}
use Rattle.numbering.specs.declared.RenumberError.TheVariants as renumber
use Rattle.numbering.proofs.Meaning.{NoRenumbering, none_exactly}
use Rattle.why.specs.Means.{AtLeast}
use Rattle.why.proofs.Numbers.{at_least}
use Rattle.auditing.specs.Form.{by_numbering, by_class, by_chain, form_of}
use Rattle.auditing.specs.Takes.{load_of_clash, heaviest_load}
use Rattle.auditing.specs.declared.Form.{Form}
use Rattle.auditing.specs.declared.Form.TheVariants as form

-- ---- the number

-- "how many channel-slots it takes": with fewer no plan exists
pub needs-true : (s : Site) → fault_of s ≡ Ok tt → AtLeast s (heaviest_load s)
needs-true s fine = subst (AtLeast s) (sym (ap load_of_clash (done-fine s fine))) (at_least s)

-- ---- the form

apart : (s : Site) (a b i : ℕ) → class_answer s ≡ Ok (class.Outside a b i) → class_answer s ≡ Ok class.InClass → ⊥
apart s a b i e q = cc

-- chained; nested and not chained; not nested, and some numbering of all its cells makes it so; not nested, and none does. A record at fault is neither
abbrev pub FormIs : Site → Form → Type 0
FormIs s form.Chained = (fault_of s ≡ Ok tt) × Chained (net_of s) (counted s)
FormIs s form.Nested = (fault_of s ≡ Ok tt) × (Chained (net_of s) (counted s) → ⊥) × Class (net_of s) (counted s)
FormIs s form.Renumbered = (fault_of s ≡ Ok tt) × (Class (net_of s) (counted s) → ⊥) × (NoRenumbering s → ⊥)
FormIs s form.Neither = fault_of s ≡ Ok tt → (Class (net_of s) (counted s) → ⊥) × NoRenumbering s

-- a record at fault
at-fault : (s : Site) (f : Fault) → fault_of s ≡ Err f → fault_of s ≡ Ok tt → ⊥
at-fault s f h fine = cc

found-or-none : (s : Site) (x : Numbering) → numbering_of s ≡ x → (f : Fault) → fault_of s ≡ Ok tt → (renumber_of s).answer ≡ Err (renumber.Record f) → ⊥
found-or-none s (numbered new old) h f fine e = let done = ap (λ y. y.answer) (renumber-done s new old fine h) in cc
found-or-none s stuck h f fine e = let none = ap (λ y. y.answer) (renumber-none s fine h) in cc

never-refused : (s : Site) (f : Fault) → fault_of s ≡ Ok tt → (renumber_of s).answer ≡ Err (renumber.Record f) → ⊥
never-refused s = found-or-none s (numbering_of s) refl

is-numbered : (s : Site) (a : Result Unit RenumberError) → (renumber_of s).answer ≡ a → fault_of s ≡ Ok tt → (Class (net_of s) (counted s) → ⊥)
    → FormIs s (by_numbering a)
is-numbered s (Ok u) e fine out =
    (fine, out, λ none. let q = sym e ∙ (none_exactly s fine).1 none in let z : ◌≡◌ {A = ℕ} 0 1 = cc in omega arith)
is-numbered s (Err renumber.NoNumbering) e fine out = λ f. (out, (none_exactly s fine).0 e)
is-numbered s (Err (renumber.Record f)) e fine out = absurd (never-refused s f fine e)

is-classed : (s : Site) (a : Result ClassVerdict Fault) → class_answer s ≡ a → (Chained (net_of s) (counted s) → ⊥) → FormIs s
    (by_class (by_numbering (renumber_of s).answer) a)
is-classed s (Ok class.InClass) e un = let c = (class-means s).0 e in (c.0, un, c.1)
is-classed s (Ok (class.Outside a b i)) e un =
    let fine = (outside-means s a b i e).0 in
    is-numbered s (renumber_of s).answer refl fine (λ c. apart s a b i e ((class-means s).1 (fine, c)))
is-classed s (Err f) e un = λ fine. absurd (at-fault s f ((class-refused s f).0 e) fine)

is-chained : (s : Site) (a : Result ChainVerdict Fault) → chain_answer s ≡ a
    → FormIs s (by_chain (by_class (by_numbering (renumber_of s).answer) (class_answer s)) a)
is-chained s (Ok chain.Chained) e = (chained-means s).0 e
is-chained s (Ok (chain.Broken a b c)) e =
    let fine = (broken-means s a b c e).0 in
    is-classed s (class_answer s) refl (λ h. let q = sym e ∙ (chained-means s).1 (fine, h) in let z : ◌≡◌ {A = ℕ} 0 1 = cc in omega arith)
is-chained s (Err f) e = λ fine. absurd (at-fault s f ((chain-refused s f).0 e) fine)

form-is : (s : Site) → FormIs s (form_of s)
unfolding form_of
form-is s = is-chained s (chain_answer s) refl

-- no site is of two forms
one_form : (s : Site) (f g : Form) → FormIs s f → FormIs s g → f ≡ g
one_form s form.Chained form.Chained p q = refl
one_form s form.Chained form.Nested p q = absurd (q.1 p.1)
one_form s form.Chained form.Renumbered p q = absurd (q.1 (chained-class (net_of s) (counted s) p.1))
one_form s form.Chained form.Neither p q = absurd ((q p.0).0 (chained-class (net_of s) (counted s) p.1))
one_form s form.Nested form.Chained p q = absurd (p.1 q.1)
one_form s form.Nested form.Nested p q = refl
one_form s form.Nested form.Renumbered p q = absurd (q.1 p.2)
one_form s form.Nested form.Neither p q = absurd ((q p.0).0 p.2)
one_form s form.Renumbered form.Chained p q = absurd (p.1 (chained-class (net_of s) (counted s) q.1))
one_form s form.Renumbered form.Nested p q = absurd (p.1 q.2)
one_form s form.Renumbered form.Renumbered p q = refl
one_form s form.Renumbered form.Neither p q = absurd (p.2 (q p.0).1)
one_form s form.Neither form.Chained p q = absurd ((p q.0).0 (chained-class (net_of s) (counted s) q.1))
one_form s form.Neither form.Nested p q = absurd ((p q.0).0 q.2)
one_form s form.Neither form.Renumbered p q = absurd (q.2 (p q.0).1)
one_form s form.Neither form.Neither p q = refl

-- each form is said exactly of the sites that are so
pub form-exactly : (s : Site) (f : Form) → form_of s ≡ f ↔ FormIs s f
form-exactly s f = (λ e. subst (FormIs s) e (form-is s), λ h. one_form s (form_of s) f (form-is s) h)

-- `chained`
pub chained-exactly : (s : Site) → form_of s ≡ form.Chained ↔ ((fault_of s ≡ Ok tt) × Chained (net_of s) (counted s))
chained-exactly s = form-exactly s form.Chained

-- `nested`
pub nested-true : (s : Site) → form_of s ≡ form.Nested → Class (net_of s) (counted s)
nested-true s e = ((form-exactly s form.Nested).0 e).2

was-done : (s : Site) (a : Result Unit RenumberError) → (renumber_of s).answer ≡ a → fault_of s ≡ Ok tt → (NoRenumbering s → ⊥) → (renumber_of s).answer ≡ Ok tt
was-done s (Ok u) e fine some = e
was-done s (Err renumber.NoNumbering) e fine some = absurd (some ((none_exactly s fine).0 e))
was-done s (Err (renumber.Record f)) e fine some = absurd (never-refused s f fine e)

-- `renumbered`: a numbering was found; what it is worth is `renumber-site` of crate `numbering`
pub renumbered-true : (s : Site) → form_of s ≡ form.Renumbered → (class_answer s ≡ Ok class.InClass → ⊥) × ((renumber_of s).answer ≡ Ok tt)
renumbered-true s e =
    let h = (form-exactly s form.Renumbered).0 e in
    (λ q. h.1 ((class-means s).0 q).1, was-done s (renumber_of s).answer refl h.0 h.2)
