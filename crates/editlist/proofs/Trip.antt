-- Every edit of the format reads back as what was typed. A number is read up to the mark after it, which is no digit, and the word ends with the last.
-- Assumes nothing.
use Prim.Native.Nat.{ℕ, ◌+◌, ◌*◌, ◌-◌, ◌≤◌}
use mathlib.Core.Bool.{Bool, true, false, ◌&&◌}
use mathlib.Core.List.{List, [], ◌∷◌, ◌++◌, append-nil}
use Rattle.std.specs.Prelude.{Ok}
use mathlib.Core.Path.{◌≡◌, refl, sym, ◌∙◌}
use native.Mathlib.Omega.{arith}
use borrow.Author.Tests.{le-leb, leb-true, eq-eqb}
use lib.Dec.{ltb, leb}
use lib.ListN.{length, drop, length-append}
use Rattle.laws.specs.Choice.{pick}
use Rattle.laws.proofs.Choice.{both}
use Rattle.text.specs.Decimal.{decimal}
use Rattle.lines.specs.Match.{starts, eaten}
use Rattle.lines.specs.Content.{more, scanned, number_read}
use Rattle.lines.proofs.Numbers.{scanned-end}
use Rattle.blocklist.proofs.Sides.{after_text, eaten-yes, number_at}
use Rattle.editlist.specs.Format.{equals_mark, dash_mark, largest, edit_name, edit_value, edit_fits}
use Rattle.editlist.specs.Read.{is_text, kind_of, one_read, two_read, load_edit}
use Rattle.editlist.specs.Read.{read_edit}
use Rattle.editlist.specs.declared.Edit.{Edit}
use Rattle.editlist.specs.declared.Edit.TheVariants.{SetLoad, SetReach, ClearReach, SetRule, SetSlots, SetChannels, Unblock}
use Rattle.editlist.specs.declared.EditRead.TheVariants.{Done}

-- a number alone
one-back : (v : ℕ) → v ≤ largest → one_read (decimal v) ≡ Ok v
unfolding one_read scanned
one-back v l =
    let h : number_read (decimal v) 0 largest ≡ record { value = v; next = 0 + length (decimal v) } =
    number_at (decimal v) 0 largest v [] (sym (append-nil (decimal v))) refl l (omega arith) in
    rw (h, le-leb v largest l, eq-eqb (0 + length (decimal v)) (length (decimal v)) (omega arith))

-- two numbers with a mark between that is no digit
two_back : (a b mark : ℕ) → ((r : List ℕ) → scanned a (mark ∷ r) ≡ a) → a ≤ largest → b ≤ largest
    → two_read (decimal a ++ mark ∷ decimal b) mark ≡ Ok (a, b)
unfolding two_read scanned
two_back a b mark stop l m =
    let s : List ℕ = decimal a ++ mark ∷ decimal b in
    let n : ℕ = 0 + length (decimal a) in
    let h : number_read s 0 largest ≡ record { value = a; next = n } = number_at s 0 largest a (mark ∷ decimal b) refl (stop (decimal b)) l (omega arith) in
    let e : drop n s ≡ mark ∷ decimal b = after_text s 0 (decimal a) (mark ∷ decimal b) refl in
    let f : eaten s n (mark ∷ []) ≡ n + 1 = eaten-yes s n (mark ∷ []) (decimal b) e in
    let d : drop (n + 1) s ≡ decimal b ++ [] = after_text s n (mark ∷ []) (decimal b) e ∙ sym (append-nil (decimal b)) in
    let g : number_read s (n + 1) largest ≡ record { value = b; next = n + 1 + length (decimal b) } =
    number_at s (n + 1) largest b [] d refl m (omega arith) in
    let z : n + 1 + length (decimal b) ≡ length s = omega (arith, length-append (decimal a) (mark ∷ decimal b)) in
    rw (h, f, g, eq-eqb (n + 1 + length (decimal b)) (length s) z)

equals-end : (v : ℕ) (r : List ℕ) → scanned v (equals_mark ∷ r) ≡ v
unfolding scanned more
equals-end v r = go (ltb v 10000)
  where
    go : (t : Bool) → pick (t && (leb 48 equals_mark && leb equals_mark 57)) (scanned (10 * v + (equals_mark - 48)) r) v ≡ v
    go true = refl
    go false = refl

dash-end : (v : ℕ) (r : List ℕ) → scanned v (dash_mark ∷ r) ≡ v
dash-end v r = scanned-end v dash_mark r (omega arith)

two-fit : (a b : ℕ) → (leb a largest && leb b largest) ≡ true → (a ≤ largest) × (b ≤ largest)
two-fit a b e =
    let h = both (leb a largest) (leb b largest) e in
    (leb-true a largest h.0, leb-true b largest h.1)

-- what is typed is what is read
pub edit-back : (e : Edit) → edit_fits e ≡ true → read_edit (edit_name e) (edit_value e) ≡ Ok (Done e)
unfolding read_edit kind_of is_text eaten starts load_edit
edit-back (SetLoad cell load) h =
    let f = two-fit cell load h in
    rw (two_back cell load equals_mark (equals-end cell) f.0 f.1, le-leb load largest f.1) refl
edit-back (SetReach from to) h = let f = two-fit from to h in rw (two_back from to dash_mark (dash-end from) f.0 f.1) refl
edit-back (ClearReach from to) h = let f = two-fit from to h in rw (two_back from to dash_mark (dash-end from) f.0 f.1) refl
edit-back (SetRule rule) h = rw (one-back rule (leb-true rule largest h)) refl
edit-back (SetSlots slots) h = rw (one-back slots (leb-true slots largest h)) refl
edit-back (SetChannels channels) h = rw (one-back channels (leb-true channels largest h)) refl
edit-back Unblock h = refl
