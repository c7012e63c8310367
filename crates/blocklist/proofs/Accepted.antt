-- What is accepted is a list of the format: the bytes are those that some items that fit the site give. And what is refused is refused at the first item that
-- is none. Assumes nothing.
use mathlib.Core.Path.{◌≡◌, refl, sym, ap, subst, ◌∙◌}
use mathlib.Core.Bool.{Bool, true, false, ◌&&◌, true≢false}
use mathlib.Core.List.{List, [], ◌∷◌, ◌++◌, append_assoc, append-nil}
use mathlib.Core.Logic.{◌⊎◌, ⊎_elim}
use Prim.Native.Nat.{ℕ, zero, suc, ◌+◌, ◌≤◌, ◌<◌}
use native.Mathlib.Omega.{arith}
use lib.Dec.{leb, eqb}
use lib.ListN.{length, drop, length-append, length-drop, drop_of_length-le}
use lib.Seq.{drop-drop}
use borrow.Author.Tests.{le-leb, leb-true, eqb-true, eqb-false}
use Rattle.laws.specs.Choice.{pick}
use Rattle.laws.proofs.Choice.{both, both_is}
use Rattle.text.specs.Decimal.{decimal}
use Rattle.lines.specs.Match.{nowhere, eaten}
use Rattle.lines.specs.Content.{number_read}
use Rattle.lines.proofs.Match.{starts_is, lost}
use Rattle.lines.proofs.Steps.{eaten-there}
use Rattle.lines.proofs.Decimals.{number-accepted}
use Rattle.blocklist.specs.Format.{Side, all, one, range, Item, side_text, item_text, list_text, side_fits, item_fits, list_fits}
use Rattle.blocklist.specs.Format.{star_byte, between_byte, dash_byte, dot_byte}
use Rattle.blocklist.specs.Read.{span_of, numbers_read, span_read, block_read, with_block, fine_list, bad_list, list_from, sizes_fit, read_list, bad_at}
use Rattle.blocklist.specs.declared.Block.{Block}
use Rattle.blocklist.specs.declared.BadList.{BadList}
use Rattle.std.specs.Prelude.{Result, Ok, Err}
use Rattle.blocklist.specs.declared.ListRead.{ListRead}
use Rattle.blocklist.proofs.Steps.{sizes-are, read-fit}
use Rattle.blocklist.proofs.Sides.{closed-end, closed-byte, first-digit, after_text, inside, eaten-yes}
use Rattle.blocklist.proofs.Trip.{item-long, block-read}
use Rattle.positions.specs.Blocked.{empty_set}

-- ---- texts that stand at a place

abbrev Stands : List ℕ → ℕ → List ℕ → Type 0
Stands s at w = drop at s ≡ w ++ drop (at + length w) s

stands : (s : List ℕ) (at : ℕ) (w : List ℕ) → drop at s ≡ w ++ drop (length w) (drop at s) → Stands s at w
stands s at w e = e ∙ ap (λ (r : List ℕ). w ++ r) (drop-drop (length w) at s)

stands-append : (s : List ℕ) (at : ℕ) (w v : List ℕ) → Stands s at w → Stands s (at + length w) v → Stands s at (w ++ v)
stands-append s at w v e f =
    let n : at + length w + length v ≡ at + length (w ++ v) = omega (arith, length-append w v) in
    e ∙ ap (λ (r : List ℕ). w ++ r) f ∙ sym (append_assoc w v (drop (at + length w + length v) s)) ∙ ap (λ (m : ℕ). (w ++ v) ++ drop m s) n

stands_at : (s : List ℕ) (d e : ℕ) (w : List ℕ) → d ≡ e → Stands s d w → Stands s e w
stands_at s d e w q h = subst (λ (x : ℕ). Stands s x w) q h

eat-stands : (s : List ℕ) (at : ℕ) (w : List ℕ) → (eaten s at w ≡ nowhere → ⊥) → Stands s at w × (eaten s at w ≡ at + length w)
eat-stands s at w n = let t = eaten-there s at w n in (stands s at w (starts_is w (drop at s) t.0), t.1)

-- whether the list is read
abbrev pub finely : Result Unit BadList → Bool
finely (Ok u) = true
finely (Err b) = false

-- ---- a side

side-some : (x : Side) → 0 < length (side_text x)
side-some all = omega arith
side-some (one n) = let f = first-digit n n (omega arith) in omega (arith, ap length f.2)
side-some (range a b) = omega (arith, length-append (decimal a) (dash_byte ∷ decimal b))

module _ (s : List ℕ) (short : length s < nowhere) where
  abbrev SideAt : ℕ → ℕ → ℕ → Type 0
  SideAt at most next = (x : Side) × (side_fits most x ≡ true) × Stands s at (side_text x) × (next ≡ at + length (side_text x))

  span_fits : (a b next : ℕ) → ((span_of a b next).next ≡ nowhere → ⊥) → (1 ≤ a) × (a ≤ b) × (next ≡ nowhere → ⊥) × ((span_of a b next).next ≡ next)
  unfolding span_of
  span_fits a b next n = go (leb 1 a && leb a b) refl n
    where
      go : (t : Bool) → (leb 1 a && leb a b) ≡ t → (pick t next nowhere ≡ nowhere → ⊥) → (1 ≤ a) × (a ≤ b) × (next ≡ nowhere → ⊥) × (pick t next nowhere ≡ next)
      go true e m = let f = both (leb 1 a) (leb a b) e in (leb-true 1 a f.0, leb-true a b f.1, m, refl)
      go false e m = absurd (m refl)

  one-accepted : (at most : ℕ) → let a = number_read s at most in ((span_of a.value a.value a.next).next ≡ nowhere → ⊥)
      → SideAt at most (span_of a.value a.value a.next).next
  one-accepted at most n =
      let a = number_read s at most in
      let f = span_fits a.value a.value a.next n in
      let g = number-accepted s at most f.2 in (
        one a.value,
        both_is (leb 1 a.value) (leb a.value most) (le-leb 1 a.value f.0) (le-leb a.value most g.0),
        stands s at (decimal a.value) g.2,
        f.3 ∙ g.1,
      )

  two-accepted : (at most : ℕ) → let a = number_read s at most in let dash = eaten s a.next (dash_byte ∷ []) in let b = number_read s dash most in
      (dash ≡ nowhere → ⊥) → ((span_of a.value b.value b.next).next ≡ nowhere → ⊥) → SideAt at most (span_of a.value b.value b.next).next
  two-accepted at most d n =
      let a = number_read s at most in
      let dash = eaten s a.next (dash_byte ∷ []) in
      let b = number_read s dash most in
      let f = span_fits a.value b.value b.next n in
      let g = number-accepted s at most (λ q. d (ap (λ (p : ℕ). eaten s p (dash_byte ∷ [])) q ∙ lost s (dash_byte ∷ []) (omega arith))) in
      let h = eat-stands s a.next (dash_byte ∷ []) d in
      let k = number-accepted s dash most f.2 in
      let w = stands s at (decimal a.value) g.2 in
      let w₁ : Stands s (at + length (decimal a.value)) (dash_byte ∷ []) = stands_at s a.next _ (dash_byte ∷ []) g.1 h.0 in
      let p : dash ≡ at + length (decimal a.value) + 1 = h.1 ∙ ap (λ (m : ℕ). m + 1) g.1 in
      let w₂ : Stands s (at + length (decimal a.value) + 1) (decimal b.value) =
      stands_at s dash _ (decimal b.value) p (stands s dash (decimal b.value) k.2) in
      let q : at + length (decimal a.value) + 1 + length (decimal b.value) ≡ at + length (decimal a.value ++ (dash_byte ∷ decimal b.value)) =
      omega (arith, length-append (decimal a.value) (dash_byte ∷ decimal b.value)) in (
        range a.value b.value,
        both_is (leb 1 a.value) _ (le-leb 1 a.value f.0)
            (both_is (leb a.value b.value) (leb b.value most) (le-leb a.value b.value f.1) (le-leb b.value most k.0)),
        stands-append s at (decimal a.value) (dash_byte ∷ decimal b.value) w
            (stands-append s (at + length (decimal a.value)) (dash_byte ∷ []) (decimal b.value) w₁ w₂),
        f.3 ∙ k.1 ∙ ap (λ (m : ℕ). m + length (decimal b.value)) p ∙ q,
      )

  span-accepted : (at most : ℕ) → ((span_read s at most).next ≡ nowhere → ⊥) → SideAt at most (span_read s at most).next
  unfolding span_read
  span-accepted at most n = go (eqb (eaten s at (star_byte ∷ [])) nowhere) n
    where
      numbers : (t : Bool) → eqb (eaten s (number_read s at most).next (dash_byte ∷ [])) nowhere ≡ t → let a = number_read s at most in
          let b = number_read s (eaten s a.next (dash_byte ∷ [])) most in
          let r = pick t (span_of a.value a.value a.next) (span_of a.value b.value b.next) in (r.next ≡ nowhere → ⊥) → SideAt at most r.next
      numbers true e m = one-accepted at most m
      numbers false e m = two-accepted at most (eqb-false _ _ e) m

      go : (t : Bool) → let r = pick t (numbers_read s most (number_read s at most)) (record { from = 1; to = most; next = eaten s at (star_byte ∷ []) }) in
          (r.next ≡ nowhere → ⊥) → SideAt at most r.next
      go true m = numbers (eqb (eaten s (number_read s at most).next (dash_byte ∷ [])) nowhere) refl m
      go false m = let h = eat-stands s at (star_byte ∷ []) m in (all, refl, h.0, h.1)

  -- ---- an item

  lost-span : (most : ℕ) → (span_read s nowhere most).next ≡ nowhere
  lost-span most = go (eqb (span_read s nowhere most).next nowhere) refl
    where
      some : (x : Side) → side_text x ++ drop (nowhere + length (side_text x)) s ≡ [] → ⊥
      some x q = omega (arith, ap length q, length-append (side_text x) (drop (nowhere + length (side_text x)) s), side-some x)

      go : (t : Bool) → eqb (span_read s nowhere most).next nowhere ≡ t → (span_read s nowhere most).next ≡ nowhere
      go true e = eqb-true _ _ e
      go false e =
          let f = span-accepted nowhere most (eqb-false _ _ e) in
          absurd (some f.0 (sym f.2 ∙ drop_of_length-le s {i = nowhere} (omega arith)))

  block-accepted : (at slots channels : ℕ) → let b = block_read s at slots channels in (b.channels.next ≡ nowhere → ⊥)
      → (i : Item) × (item_fits slots channels i ≡ true) × Stands s at (item_text i) × (b.channels.next ≡ at + length (item_text i))
  unfolding block_read
  block-accepted at slots channels n =
      let a = span_read s at slots in
      let dot = eaten s a.next (dot_byte ∷ []) in
      let there : dot ≡ nowhere → ⊥ = λ q. n (ap (λ (p : ℕ). (span_read s p channels).next) q ∙ lost-span channels) in
      let f = span-accepted at slots (λ q. there (ap (λ (p : ℕ). eaten s p (dot_byte ∷ [])) q ∙ lost s (dot_byte ∷ []) (omega arith))) in
      let h = eat-stands s a.next (dot_byte ∷ []) there in
      let g = span-accepted dot channels n in
      let x = side_text f.0 in
      let y = side_text g.0 in
      let w₁ : Stands s (at + length x) (dot_byte ∷ []) = stands_at s a.next _ (dot_byte ∷ []) f.3 h.0 in
      let p : dot ≡ at + length x + 1 = h.1 ∙ ap (λ (m : ℕ). m + 1) f.3 in
      let w₂ : Stands s (at + length x + 1) y = stands_at s dot _ y p g.2 in
      let q : at + length x + 1 + length y ≡ at + length (x ++ (dot_byte ∷ y)) = omega (arith, length-append x (dot_byte ∷ y)) in (
        record { slots = f.0; channels = g.0 },
        both_is (side_fits slots f.0) (side_fits channels g.0) f.1 g.1,
        stands-append s at x (dot_byte ∷ y) f.2 (stands-append s (at + length x) (dot_byte ∷ []) y w₁ w₂),
        g.3 ∙ ap (λ (m : ℕ). m + length y) p ∙ q,
      )

  -- ---- the items

  items-accepted : (slots channels n : ℕ) (set : List ℕ) (at : ℕ) → finely (list_from n s slots channels set at).answer ≡ true
      → (i : Item) × (l : List Item) × (list_fits slots channels (i ∷ l) ≡ true) × (drop at s ≡ list_text (i ∷ l))
  unfolding list_from list_fits list_text
  items-accepted slots channels zero set at h = absurd (true≢false (sym h))
  items-accepted slots channels (suc n) set at h =
      let b = block_read s at slots channels in
      ended (eqb b.channels.next (length s)) refl
      (items-accepted slots channels n (with_block channels b set) (eaten s b.channels.next (between_byte ∷ []))) h
    where
      b : Block
      b = block_read s at slots channels

      next : ℕ
      next = b.channels.next

      comma : ℕ
      comma = eaten s next (between_byte ∷ [])

      with : List ℕ
      with = with_block channels b set

      rest : ListRead
      rest = list_from n s slots channels with comma

      Others : Type 0
      Others = finely rest.answer ≡ true → (i : Item) × (l : List Item) × (list_fits slots channels (i ∷ l) ≡ true) × (drop comma s ≡ list_text (i ∷ l))

      more : (t : Bool) → eqb comma nowhere ≡ t → Others → finely (pick t (bad_list at) rest).answer ≡ true
          → (i : Item) × (l : List Item) × (list_fits slots channels (i ∷ l) ≡ true) × (drop at s ≡ list_text (i ∷ l))
      more true e o g = absurd (true≢false (sym g))
      more false e o g =
          let there : comma ≡ nowhere → ⊥ = eqb-false _ _ e in
          let f = block-accepted at slots channels (λ q. there (ap (λ (p : ℕ). eaten s p (between_byte ∷ [])) q ∙ lost s (between_byte ∷ []) (omega arith))) in
          let c = eat-stands s next (between_byte ∷ []) there in
          let r = o g in (
            f.0,
            r.0 ∷ r.1,
            both_is (item_fits slots channels f.0) (list_fits slots channels (r.0 ∷ r.1)) f.1 r.2,
            f.2 ∙ ap (λ (m : ℕ). item_text f.0 ++ drop m s) (sym f.3)
                ∙ ap (λ (w : List ℕ). item_text f.0 ++ w) (c.0 ∙ ap (λ (m : ℕ). between_byte ∷ drop m s) (sym c.1)
                ∙ ap (λ (w : List ℕ). between_byte ∷ w) r.3),
          )

      ended : (t : Bool) → eqb next (length s) ≡ t → Others → finely (pick t (fine_list with) (pick (eqb comma nowhere) (bad_list at) rest)).answer ≡ true
          → (i : Item) × (l : List Item) × (list_fits slots channels (i ∷ l) ≡ true) × (drop at s ≡ list_text (i ∷ l))
      ended true e o g =
          let z : next ≡ length s = eqb-true _ _ e in
          let f = block-accepted at slots channels (λ q. omega (arith, z, q)) in (
            f.0,
            [],
            both_is (item_fits slots channels f.0) true f.1 refl,
            f.2 ∙ ap (λ (m : ℕ). item_text f.0 ++ drop m s) (sym f.3 ∙ z)
                ∙ ap (λ (w : List ℕ). item_text f.0 ++ w) (drop_of_length-le s {i = length s} (omega arith)) ∙ append-nil (item_text f.0),
          )
      ended false e o g = more (eqb comma nowhere) refl o g

-- what is read as fine is the list of some items that fit the site
pub list-accepted : (s : List ℕ) (slots channels : ℕ) → length s < nowhere → (read_list s slots channels).answer ≡ Ok tt
    → (i : Item) × (l : List Item) × (list_fits slots channels (i ∷ l) ≡ true) × (s ≡ list_text (i ∷ l))
unfolding read_list
list-accepted s slots channels short h = go (sizes_fit slots channels) (ap finely h)
  where
    go : (t : Bool) → finely (pick t (list_from (length s) s slots channels empty_set 0) (bad_list 0)).answer ≡ true
        → (i : Item) × (l : List Item) × (list_fits slots channels (i ∷ l) ≡ true) × (s ≡ list_text (i ∷ l))
    go true g = items-accepted s short slots channels (length s) empty_set 0 g
    go false g = absurd (true≢false (sym g))

-- ---- the place of a bad list

-- items, each with a comma after it
abbrev pub begun : List Item → List ℕ
begun [] = []
begun (i ∷ l) = item_text i ++ between_byte ∷ begun l

-- an item that fits the site is here, and after it the list ends or a comma comes
abbrev pub ItemHere : ℕ → ℕ → List ℕ → Type 0
ItemHere slots channels r = (i : Item) × (item_fits slots channels i ≡ true) × ((r ≡ item_text i) ⊎ ((q : List ℕ) × (r ≡ item_text i ++ between_byte ∷ q)))

abbrev place_of : Result Unit BadList → ℕ
place_of (Ok u) = 0
place_of (Err b) = b.0

none-at-end : (slots channels : ℕ) (r : List ℕ) → length r ≡ 0 → ItemHere slots channels r → ⊥
none-at-end slots channels r e (i, f, h) = ⊎_elim (λ q. omega (arith, item-long i, e, ap length q))
    (λ q. omega (arith, item-long i, e, ap length q.1, length-append (item_text i) (between_byte ∷ q.0))) h

module _ (s : List ℕ) (short : length s < nowhere) (slots channels : ℕ) (few : slots ≤ 128) (narrow : channels ≤ 16) where
  -- what comes of an item that is here
  item-next : (at : ℕ) → let next = (block_read s at slots channels).channels.next in ItemHere slots channels (drop at s)
      → (next ≡ length s → ⊥) → eaten s next (between_byte ∷ []) ≡ nowhere → ⊥
  item-next at (i, f, h) on lost = ⊎_elim end comma h
    where
      next : ℕ
      next = (block_read s at slots channels).channels.next

      end : drop at s ≡ item_text i → ⊥
      end e =
          let w : drop at s ≡ item_text i ++ [] = e ∙ sym (append-nil (item_text i)) in
          let b = block-read s short slots channels few narrow at i [] f closed-end w in
          let n : next ≡ at + length (item_text i) = ap (λ (x : Block). x.channels.next) b in
          let k : at + length (item_text i) ≡ length s = omega (arith, inside s at (item_text i) [] (item-long i) w, sym (length-drop at s) ∙ ap length e) in
          on (n ∙ k)

      comma : (q : List ℕ) × (drop at s ≡ item_text i ++ between_byte ∷ q) → ⊥
      comma (q, e) =
          let b = block-read s short slots channels few narrow at i (between_byte ∷ q) f (closed-byte between_byte q (omega arith) (λ z. omega (arith, z))) e in
          let n : next ≡ at + length (item_text i) = ap (λ (x : Block). x.channels.next) b in
          let p = at + length (item_text i) in
          let w : drop p s ≡ (between_byte ∷ []) ++ q = after_text s at (item_text i) _ e in
          let c : eaten s p (between_byte ∷ []) ≡ p + 1 = eaten-yes s p (between_byte ∷ []) q w in
          let k : p + 1 ≤ length s = inside s p (between_byte ∷ []) q (omega arith) w in
          let z : p + 1 ≡ nowhere = sym c ∙ ap (λ (m : ℕ). eaten s m (between_byte ∷ [])) (sym n) ∙ lost in
          omega (arith, z, k)

  abbrev BadAt : ℕ → ℕ → Type 0
  BadAt at place = (l : List Item) × (list_fits slots channels l ≡ true) × (drop at s ≡ begun l ++ drop place s) × (place ≡ at + length (begun l))
      × (ItemHere slots channels (drop place s) → ⊥)

  items-bad : (n : ℕ) (set : List ℕ) (at place : ℕ) → length s ≤ at + n → (list_from n s slots channels set at).answer ≡ bad_at place → BadAt at place
  unfolding list_from list_fits
  items-bad zero set at place m h =
      let p : at ≡ place = ap place_of h in
      ([], refl, ap (λ (k : ℕ). drop k s) p, omega (arith, p), none-at-end slots channels (drop place s) (omega (arith, p, length-drop place s)))
  items-bad (suc n) set at place m h =
      let b = block_read s at slots channels in
      ended (eqb b.channels.next (length s)) refl
      (items-bad n (with_block channels b set) (eaten s b.channels.next (between_byte ∷ [])) place) h
    where
      b : Block
      b = block_read s at slots channels

      next : ℕ
      next = b.channels.next

      comma : ℕ
      comma = eaten s next (between_byte ∷ [])

      with : List ℕ
      with = with_block channels b set

      rest : ListRead
      rest = list_from n s slots channels with comma

      Others : Type 0
      Others = length s ≤ comma + n → rest.answer ≡ bad_at place → BadAt comma place

      on : (t : Bool) → eqb comma nowhere ≡ t → (next ≡ length s → ⊥) → Others → (pick t (bad_list at) rest).answer ≡ bad_at place → BadAt at place
      on true e far o g =
          let p : at ≡ place = ap place_of g in (
            [],
            refl,
            ap (λ (k : ℕ). drop k s) p,
            omega (arith, p),
            λ here. item-next at (subst (λ (k : ℕ). ItemHere slots channels (drop k s)) (sym p) here) far (eqb-true _ _ e),
          )
      on false e far o g =
          let there : comma ≡ nowhere → ⊥ = eqb-false _ _ e in
          let f = block-accepted s short at slots channels
          (λ q. there (ap (λ (p : ℕ). eaten s p (between_byte ∷ [])) q ∙ lost s (between_byte ∷ []) (omega arith))) in
          let c = eat-stands s next (between_byte ∷ []) there in
          let r = o (omega (arith, m, c.1, f.3)) g in
          let w = item_text f.0 in (
            f.0 ∷ r.0,
            both_is (item_fits slots channels f.0) (list_fits slots channels r.0) f.1 r.1,
            f.2 ∙ ap (λ (m : ℕ). w ++ drop m s) (sym f.3)
                ∙ ap (λ (v : List ℕ). w ++ v) (c.0 ∙ ap (λ (m : ℕ). between_byte ∷ drop m s) (sym c.1) ∙ ap (λ (v : List ℕ). between_byte ∷ v) r.2)
                ∙ sym (append_assoc w (between_byte ∷ begun r.0) (drop place s)),
            omega (arith, r.3, c.1, f.3, length-append w (between_byte ∷ begun r.0)),
            r.4,
          )

      ended : (t : Bool) → eqb next (length s) ≡ t → Others → (pick t (fine_list with) (pick (eqb comma nowhere) (bad_list at) rest)).answer ≡ bad_at place
          → BadAt at place
      ended true e o g = let z : ◌≡◌ {A = ℕ} 0 1 = cc in absurd (omega arith)
      ended false e o g = on (eqb comma nowhere) refl (eqb-false _ _ e) o g

-- a list that is bad at a place has items that fit the site up to there, each with a comma after it, and there none
pub bad-place : (s : List ℕ) (slots channels at : ℕ) → length s < nowhere → sizes_fit slots channels ≡ true → (read_list s slots channels).answer ≡ bad_at at
    → (l : List Item) × (list_fits slots channels l ≡ true) × (s ≡ begun l ++ drop at s) × (at ≡ length (begun l)) × (ItemHere slots channels (drop at s) → ⊥)
bad-place s slots channels at short fit h =
    let z = sizes-are slots channels fit in
    let r = items-bad s short slots channels z.1 z.3 (length s) empty_set 0 at (omega arith)
    (ap (λ (x : ListRead). x.answer) (read-fit s slots channels fit) ∙ h) in
    (r.0, r.1, r.2, omega (arith, r.3), r.4)
