-- What is accepted is an edit of the format: the two words are those that the edit gives. Assumes nothing.
use mathlib.Core.Path.{◌≡◌, refl, sym, ap, subst, ◌∙◌}
use mathlib.Core.Bool.{Bool, true, false, ◌&&◌}
use mathlib.Core.List.{List, [], ◌∷◌, ◌++◌, append-nil}
use Prim.Native.Nat.{ℕ, ◌+◌, ◌<◌}
use native.Mathlib.Omega.{arith}
use lib.Dec.{leb, eqb}
use lib.ListN.{length, drop, drop_of_length-le}
use lib.Seq.{drop-drop}
use borrow.Author.Tests.{le-leb, eqb-true}
use Rattle.laws.specs.Choice.{pick}
use Rattle.laws.proofs.Choice.{both_is}
use Rattle.text.specs.Decimal.{decimal}
use Rattle.lines.specs.Match.{nowhere, eaten}
use Rattle.lines.specs.Content.{number_read}
use Rattle.lines.specs.declared.Number.{Number}
use Rattle.lines.proofs.Match.{starts_is, lost}
use Rattle.lines.proofs.Steps.{eaten-there}
use Rattle.lines.proofs.Decimals.{number-accepted}
use Rattle.editlist.specs.Format.{load_word, reach_word, clear_word, blocked_word, rule_word, slots_word, channels_word, none_word, equals_mark, dash_mark}
use Rattle.editlist.specs.Format.{largest}
use Rattle.editlist.specs.Format.{edit_name, edit_value, edit_fits}
use Rattle.editlist.specs.Read.{is_text, kind_of, one_read, two_read, read_as, edit_done, load_edit}
use Rattle.editlist.specs.Read.{load_read, list_read}
use Rattle.editlist.specs.Read.{value_by_kind, read_edit}
use Rattle.std.specs.Prelude.{Option, Some, None, Result, Ok, Err}
use Rattle.editlist.specs.declared.Kind.{Kind}
use Rattle.editlist.specs.declared.Kind.TheVariants.{OfLoad, OfReach, OfClear, OfBlocked, OfRule, OfSlots, OfChannels}
use Rattle.editlist.specs.declared.Edit.{Edit}
use Rattle.editlist.specs.declared.Edit.TheVariants.{SetReach, ClearReach, SetRule, SetSlots, SetChannels, Unblock}
use Rattle.editlist.specs.declared.EditRead.{EditRead}
use Rattle.editlist.specs.declared.EditRead.TheVariants.{Done, Listed}
use Rattle.editlist.specs.declared.EditError.{EditError}
use Rattle.editlist.specs.declared.EditError.TheVariants.{Bad}

-- ---- a word that ends with what was read

-- a text that the word starts with, and that is as long
whole : (s w : List ℕ) → s ≡ w ++ drop (length w) s → length s ≡ length w → s ≡ w
whole s w e n = e ∙ ap (λ (r : List ℕ). w ++ r) (drop_of_length-le s {i = length w} (omega (arith, n))) ∙ append-nil w

module _ (s : List ℕ) (short : length s < nowhere) where
  text-is : (w : List ℕ) → is_text s w ≡ true → s ≡ w
  unfolding is_text
  text-is w h =
      let z : eaten s 0 w ≡ length s = eqb-true _ _ h in
      let t = eaten-there s 0 w (λ q. omega (arith, z, q)) in
      whole s w (starts_is w s t.0) (omega (arith, z, t.1))

  -- a number alone
  abbrev OneIs : Result ℕ EditError → Type 0
  OneIs (Ok v) = (leb v largest ≡ true) × (s ≡ decimal v)
  OneIs (Err e) = Unit {0}

  one-accepted : OneIs (one_read s)
  unfolding one_read
  one-accepted = go (leb a.value largest) (eqb a.next (length s)) refl refl
    where
      a : Number
      a = number_read s 0 largest

      go : (t u : Bool) → leb a.value largest ≡ t → eqb a.next (length s) ≡ u → OneIs (pick t (pick u (Ok a.value) (Err Bad)) (Err Bad))
      go true true e h =
          let z : a.next ≡ length s = eqb-true _ _ h in
          let n = number-accepted s 0 largest (λ q. omega (arith, z, q)) in
          (e, whole s (decimal a.value) n.2 (omega (arith, z, n.1)))
      go true false e h = tt
      go false u e h = tt

  -- two numbers with a mark between
  abbrev TwoAre : ℕ → Result (ℕ × ℕ) EditError → Type 0
  TwoAre mark (Ok t) = (leb t.0 largest ≡ true) × (leb t.1 largest ≡ true) × (s ≡ decimal t.0 ++ mark ∷ decimal t.1)
  TwoAre mark (Err e) = Unit {0}

  two-numbers : (mark : ℕ) → let a = number_read s 0 largest in let b = number_read s (eaten s a.next (mark ∷ [])) largest in
      b.next ≡ length s → TwoAre mark (Ok (a.value, b.value))
  two-numbers mark z =
      let a = number_read s 0 largest in
      let m = eaten s a.next (mark ∷ []) in
      let b = number_read s m largest in
      let g = number-accepted s m largest (λ q. omega (arith, z, q)) in
      let there : m ≡ nowhere → ⊥ = λ q. omega (arith, z, g.1, q) in
      let t = eaten-there s a.next (mark ∷ []) there in
      let f = number-accepted s 0 largest (λ q. there (ap (λ (p : ℕ). eaten s p (mark ∷ [])) q ∙ lost s (mark ∷ []) (omega arith))) in
      let u = decimal a.value in
      let v = decimal b.value in
      let at : a.next ≡ length u = omega (arith, f.1) in
      let end : drop m s ≡ v =
      g.2 ∙ ap (λ (r : List ℕ). v ++ r) (drop-drop (length v) m s ∙ drop_of_length-le s {i = m + length v} (omega (arith, z, g.1))) ∙ append-nil v in
      let rest : drop a.next s ≡ mark ∷ v =
      starts_is (mark ∷ []) (drop a.next s) t.0
      ∙ ap (λ (r : List ℕ). mark ∷ r) (drop-drop 1 a.next s ∙ ap (λ (p : ℕ). drop p s) (sym t.1) ∙ end) in (
        le-leb _ _ f.0,
        le-leb _ _ g.0,
        f.2 ∙ ap (λ (r : List ℕ). u ++ r) (ap (λ (p : ℕ). drop p s) (sym at) ∙ rest),
      )

  two-accepted : (mark : ℕ) → TwoAre mark (two_read s mark)
  unfolding two_read
  two-accepted mark = go (eqb b.next (length s)) refl
    where
      a : Number
      a = number_read s 0 largest

      b : Number
      b = number_read s (eaten s a.next (mark ∷ [])) largest

      go : (t : Bool) → eqb b.next (length s) ≡ t → TwoAre mark (pick t (Ok (a.value, b.value)) (Err Bad))
      go true h = two-numbers mark (eqb-true _ _ h)
      go false h = tt

-- ---- the first word

abbrev NameIs : List ℕ → Option Kind → Type 0
NameIs s None = Unit {0}
NameIs s (Some OfLoad) = s ≡ load_word
NameIs s (Some OfReach) = s ≡ reach_word
NameIs s (Some OfClear) = s ≡ clear_word
NameIs s (Some OfBlocked) = s ≡ blocked_word
NameIs s (Some OfRule) = s ≡ rule_word
NameIs s (Some OfSlots) = s ≡ slots_word
NameIs s (Some OfChannels) = s ≡ channels_word

either : (s : List ℕ) (t : Bool) (k j : Option Kind) → (t ≡ true → NameIs s k) → NameIs s j → NameIs s (pick t k j)
either s true k j f g = f refl
either s false k j f g = g

name-is : (s : List ℕ) → length s < nowhere → NameIs s (kind_of s)
unfolding kind_of
name-is s short =
    either s (is_text s load_word) (Some OfLoad) _ (text-is s short load_word)
    (either s (is_text s reach_word) (Some OfReach) _ (text-is s short reach_word)
    (either s (is_text s clear_word) (Some OfClear) _ (text-is s short clear_word)
    (either s (is_text s blocked_word) (Some OfBlocked) _ (text-is s short blocked_word)
    (either s (is_text s rule_word) (Some OfRule) _ (text-is s short rule_word)
    (either s (is_text s slots_word) (Some OfSlots) _ (text-is s short slots_word)
    (either s (is_text s channels_word) (Some OfChannels) None (text-is s short channels_word) tt))))))

-- ---- both words

-- what an edit that is read says of the words
abbrev Given : List ℕ → List ℕ → Result EditRead EditError → Type 0
Given name value (Ok (Done e)) = (edit_fits e ≡ true) × (name ≡ edit_name e) × (value ≡ edit_value e)
Given name value (Ok Listed) = Unit {0}
Given name value (Err e) = Unit {0}

module _ (name value : List ℕ) (short : length value < nowhere) where
  given-load : name ≡ load_word → Given name value (load_read value)
  unfolding load_edit
  given-load n = go (two_read value equals_mark) (two-accepted value short equals_mark)
    where
      go : (r : Result (ℕ × ℕ) EditError) → TwoAre value short equals_mark r
          → Given name value (read_as (λ t. read_as edit_done (load_edit t.0 t.1)) r)
      go (Ok t) a = rw a.1 (both_is _ _ a.0 a.1, n, a.2)
      go (Err e) a = tt

  given-two : (e : ℕ → ℕ → Edit) (word : List ℕ) → ((u v : ℕ) → edit_fits (e u v) ≡ (leb u largest && leb v largest)) → ((u v : ℕ) → edit_name (e u v) ≡ word)
      → ((u v : ℕ) → edit_value (e u v) ≡ decimal u ++ dash_mark ∷ decimal v) → name ≡ word
      → Given name value (read_as (λ t. edit_done (e t.0 t.1)) (two_read value dash_mark))
  given-two e word fits named valued n = go (two_read value dash_mark) (two-accepted value short dash_mark)
    where
      go : (r : Result (ℕ × ℕ) EditError) → TwoAre value short dash_mark r → Given name value (read_as (λ t. edit_done (e t.0 t.1)) r)
      go (Ok t) a = (fits _ _ ∙ both_is _ _ a.0 a.1, n ∙ sym (named _ _), a.2 ∙ sym (valued _ _))
      go (Err f) a = tt

  given-list : name ≡ blocked_word → Given name value (list_read value)
  given-list n = go (is_text value none_word) refl
    where
      go : (t : Bool) → is_text value none_word ≡ t → Given name value (pick t (edit_done Unblock) (Ok Listed))
      go true e = (refl, n, text-is value short none_word e)
      go false e = tt

  given-one : (e : ℕ → Edit) (word : List ℕ) → ((v : ℕ) → edit_fits (e v) ≡ leb v largest) → ((v : ℕ) → edit_name (e v) ≡ word)
      → ((v : ℕ) → edit_value (e v) ≡ decimal v) → name ≡ word → Given name value (read_as (λ v. edit_done (e v)) (one_read value))
  given-one e word fits named valued n = go (one_read value) (one-accepted value short)
    where
      go : (r : Result ℕ EditError) → OneIs value short r → Given name value (read_as (λ v. edit_done (e v)) r)
      go (Ok v) a = (fits _ ∙ a.0, n ∙ sym (named _), a.1 ∙ sym (valued _))
      go (Err f) a = tt

  given : (k : Option Kind) → NameIs name k → Given name value (value_by_kind k value)
  given None n = tt
  given (Some OfLoad) n = given-load n
  given (Some OfReach) n = given-two SetReach reach_word (λ u v. refl) (λ u v. refl) (λ u v. refl) n
  given (Some OfClear) n = given-two ClearReach clear_word (λ u v. refl) (λ u v. refl) (λ u v. refl) n
  given (Some OfBlocked) n = given-list n
  given (Some OfRule) n = given-one SetRule rule_word (λ v. refl) (λ v. refl) (λ v. refl) n
  given (Some OfSlots) n = given-one SetSlots slots_word (λ v. refl) (λ v. refl) (λ v. refl) n
  given (Some OfChannels) n = given-one SetChannels channels_word (λ v. refl) (λ v. refl) (λ v. refl) n

-- what is read as an edit is the two words of that edit, and its numbers are 0 to 65,535
pub edit-accepted : (name value : List ℕ) (e : Edit) → length name < nowhere → length value < nowhere → read_edit name value ≡ Ok (Done e)
    → (edit_fits e ≡ true) × (name ≡ edit_name e) × (value ≡ edit_value e)
unfolding read_edit
edit-accepted name value e short few h = subst (Given name value) h (given name value few (kind_of name) (name-is name short))
