-- The steps of the loops and of the line reader. Assumes nothing.
use Prim.Native.Nat.{ℕ, suc, ◌+◌, ◌-◌, ◌*◌, ◌^◌, ◌≤◌, ◌<◌}
use mathlib.Core.Path.{◌≡◌, refl, sym, ap, ap₂, ◌∙◌}
use mathlib.Core.Bool.{Bool, true, false, ◌&&◌}
use mathlib.Core.List.{List, [], ◌∷◌, ◌++◌, append_assoc}
use native.Mathlib.Omega.{arith}
use native.Mathlib.Nat.{add-zero}
use lib.ListN.{length, drop, get_or, length-append, length-drop}
use lib.Seq.{drop-drop, drop-cons, get_or-drop}
use lib.Dec.{leb, eqb}
use lib.Pow.{pow_mono}
use borrow.Author.Tests.{le-leb, lt-leb, leb-true, leb-false}
use Rattle.std.specs.Prelude.{Option, Some, None}
use Rattle.laws.specs.Choice.{pick}
use Rattle.laws.specs.Sum.{bit}
use Rattle.laws.proofs.Choice.{both, refute}
use Rattle.text.specs.Decimal.{decimal}
use Rattle.text.proofs.Left.{next-left, none_left}
use Rattle.lines.specs.Match.{starts, nowhere, eaten}
use Rattle.lines.specs.Format.{comma_byte, cell_number, cr_byte, lf_byte, crlf, marks, label, cell_line}
use Rattle.lines.specs.declared.Marks.{Marks}
use Rattle.lines.specs.declared.Number.{Number}
use Rattle.lines.specs.declared.Line.{Line}
use Rattle.lines.specs.Content.{scanned, number_read, load_of_line, marks_of_line, mark_of_line, weigh, mark_ok}
use Rattle.lines.specs.Content.{row_of_marks, marks_read, row_of_line, line_in, line_ok, line_read}
use Rattle.lines.proofs.Match.{starts-long, eaten-append, lost}
use Rattle.lines.proofs.Lines.{marks-long, mark-two, weigh-lt}

-- ---- a text

pub text-next : (s text : List ℕ) (p i : ℕ) → length s ≤ nowhere → i < length text
    → eaten s (eaten s p (get_or text i 0 ∷ [])) (drop (i + 1) text) ≡ eaten s p (drop i text)
text-next s text p i h l = eaten-append s p (get_or text i 0 ∷ []) (drop (i + 1) text) h ∙ ap (eaten s p) (sym (next-left text i l))

pub text-end : (s text : List ℕ) (p i : ℕ) → length text ≤ i → p ≡ eaten s p (drop i text)
unfolding eaten starts
text-end s text p i h = rw (none_left text i h) (sym (add-zero p))

-- ---- the marks

pub row_step : (f : ℕ → ℕ) (b n : ℕ) → 0 < b → b ≤ n → 2 * weigh f b (n - b) + f (b - 1) ≡ weigh f (b - 1) (n - (b - 1))
unfolding weigh
row_step f b n h l =
    let e : n - (b - 1) ≡ suc (n - b) = omega arith in
    let g : suc (b - 1) ≡ b = omega arith in
    rw (e, g) (omega arith)

module _ (s : List ℕ) (at : ℕ) where
  two-more : (i : ℕ) → at + 2 * i + 1 < length s → drop (2 * i) (drop at s) ≡ get_or s (at + 2 * i) 0 ∷ get_or s (at + 2 * i + 1) 0 ∷ drop (2 * suc i)
      (drop at s)
  two-more i h =
      let e : at + 2 * suc i ≡ suc (suc (at + 2 * i)) = omega arith in
      drop-drop (2 * i) at s
      ∙ drop-cons s (at + 2 * i) 0 (omega arith)
      ∙ ap (λ (l : List ℕ). get_or s (at + 2 * i) 0 ∷ l)
      (drop-cons s (suc (at + 2 * i)) 0 (omega arith) ∙ ap₂ (λ (a : ℕ) (l : List ℕ). a ∷ l) (ap (λ (j : ℕ). get_or s j 0) (omega arith))
      (sym (drop-drop (2 * suc i) at s ∙ ap (λ (j : ℕ). drop j s) e)))

  pub mark-here : (i : ℕ) → mark_of_line (drop at s) i ≡ bit (eqb (get_or s (at + 2 * i + 1) 0) 49)
  unfolding mark_of_line
  mark-here i = ap (λ (x : ℕ). bit (eqb x 49)) (get_or-drop at s (2 * i + 1) 0 ∙ ap (λ (j : ℕ). get_or s j 0) (omega arith))

  pub one-step : (i m : ℕ) → at + 2 * i + 1 < length s →
      mark_ok (get_or s (at + 2 * i) 0) (get_or s (at + 2 * i + 1) 0) (starts (marks (mark_of_line (drop at s)) (suc i) m) (drop (2 * suc i) (drop at s)))
      ≡ starts (marks (mark_of_line (drop at s)) i (suc m)) (drop (2 * i) (drop at s))
  unfolding mark_ok starts marks
  one-step i m h = rw (two-more i h, mark-here i)

  pub ok_step : (b n : ℕ) → 0 < b → b ≤ n → at + 2 * (b - 1) + 1 < length s →
      mark_ok (get_or s (at + 2 * (b - 1)) 0) (get_or s (at + 2 * (b - 1) + 1) 0)
      (starts (marks (mark_of_line (drop at s)) b (n - b)) (drop (2 * b) (drop at s)))
      ≡ starts (marks (mark_of_line (drop at s)) (b - 1) (n - (b - 1))) (drop (2 * (b - 1)) (drop at s))
  ok_step b n h l m =
      let e : n - (b - 1) ≡ suc (n - b) = omega arith in
      let g : suc (b - 1) ≡ b = omega arith in
      rw e (rw g at (one-step (b - 1) (n - b) m))

  pub row_here : (b n x : ℕ) → x ≡ bit (eqb (get_or s (at + 2 * (b - 1) + 1) 0) 49) → 0 < b → b ≤ n
      → 2 * weigh (mark_of_line (drop at s)) b (n - b) + x ≡ weigh (mark_of_line (drop at s)) (b - 1) (n - (b - 1))
  row_here b n x e h l = rw (e ∙ sym (mark-here (b - 1))) (row_step (mark_of_line (drop at s)) b n h l)

  -- where the loop begins: no mark is looked at yet
  pub begin-row : (n : ℕ) → 0 ≡ weigh (mark_of_line (drop at s)) n (n - n)
  unfolding weigh
  begin-row n = let e : n - n ≡ 0 = omega arith in rw e

  pub begin-ok : (n : ℕ) → true ≡ starts (marks (mark_of_line (drop at s)) n (n - n)) (drop (2 * n) (drop at s))
  unfolding marks starts
  begin-ok n = let e : n - n ≡ 0 = omega arith in rw e

  pub row_fits : (b n : ℕ) → 0 < b → b ≤ n → n ≤ 32 → weigh (mark_of_line (drop at s)) b (n - b) < 2147483648
  row_fits b n h l m =
      let w : weigh (mark_of_line (drop at s)) b (n - b) < 2 ^ (n - b) = weigh-lt (mark_of_line (drop at s)) (mark-two (drop at s)) (n - b) b in
      let p : 2 ^ (n - b) ≤ 2 ^ 31 = pow_mono {i = n - b} {j = 31} (omega arith) in
      omega arith

  -- the end of the loop over the last few
  pub few-good : (b n row : ℕ) (ok : Bool) → row ≡ weigh (mark_of_line (drop at s)) b (n - b)
      → ok ≡ starts (marks (mark_of_line (drop at s)) b (n - b)) (drop (2 * b) (drop at s)) → ok ≡ true → row ≡ row_of_marks (drop at s) b (n - b)
  unfolding row_of_marks
  few-good b n row ok p q t = rw (sym q ∙ t) p

  pub few-bad : (b n : ℕ) (ok : Bool) → ok ≡ starts (marks (mark_of_line (drop at s)) b (n - b)) (drop (2 * b) (drop at s)) → ok ≡ false
      → 16 ≡ row_of_marks (drop at s) b (n - b)
  unfolding row_of_marks
  few-bad b n ok q t = rw (sym q ∙ t)

  -- the end of the loop
  pub marks-bad : (n : ℕ) → starts (marks (mark_of_line (drop at s)) 0 n) (drop at s) ≡ false → record { row = 0; next = nowhere } ≡ marks_read s at n
  unfolding marks_read
  marks-bad n e = rw e

  pub marks-good : (n : ℕ) → starts (marks (mark_of_line (drop at s)) 0 n) (drop at s) ≡ true
      → record { row = weigh (mark_of_line (drop at s)) 0 n; next = at + 2 * n } ≡ marks_read s at n
  unfolding marks_read
  marks-good n e = rw e

  module _ (n b row : ℕ) (ok : Bool) (z : b ≡ 0) (q : ok ≡ starts (marks (mark_of_line (drop at s)) b (n - b)) (drop (2 * b) (drop at s))) where
    at-end : ok ≡ starts (marks (mark_of_line (drop at s)) 0 n) (drop at s)
    at-end =
        let e : n - 0 ≡ n = omega arith in
        q ∙ ap (λ (i : ℕ). starts (marks (mark_of_line (drop at s)) i (n - i)) (drop (2 * i) (drop at s))) z
        ∙ ap (λ (i : ℕ). starts (marks (mark_of_line (drop at s)) 0 i) (drop at s)) e

    pub end-good : row ≡ weigh (mark_of_line (drop at s)) b (n - b) → ok ≡ true → record { row = row; next = at + 2 * n } ≡ marks_read s at n
    end-good p t =
        let d : n - 0 ≡ n = omega arith in
        let e : row ≡ weigh (mark_of_line (drop at s)) 0 n = p ∙ ap (λ (i : ℕ). weigh (mark_of_line (drop at s)) i (n - i)) z
        ∙ ap (weigh (mark_of_line (drop at s)) 0) d in
        rw e (marks-good n (sym at-end ∙ t))

  pub marks-short : (n : ℕ) → 0 < n → length s < at + 2 * n → record { row = 0; next = nowhere } ≡ marks_read s at n
  marks-short n h l = marks-bad n (refute _ (λ e. omega (arith, starts-long _ _ e, marks-long (mark_of_line (drop at s)) n 0, length-drop at s)))

  -- what the reader of the marks says
  pub marks-next : (n : ℕ) → (marks_read s at n).next ≡ eaten s at (marks (mark_of_line (drop at s)) 0 n)
  unfolding marks_read eaten
  marks-next n = go (starts (marks (mark_of_line (drop at s)) 0 n) (drop at s))
    where
      go : (t : Bool) →
          (pick {A = Marks} t (record { row = weigh (mark_of_line (drop at s)) 0 n; next = at + 2 * n }) (record { row = 0; next = nowhere })).next
          ≡ pick t (at + length (marks (mark_of_line (drop at s)) 0 n)) nowhere
      go true = rw (marks-long (mark_of_line (drop at s)) n 0)
      go false = refl

-- ---- the line

pub eaten-lost : (s : List ℕ) (at : ℕ) (w v : List ℕ) → length s ≤ nowhere → eaten s at w ≡ nowhere → eaten s at (w ++ v) ≡ nowhere
eaten-lost s at w v h e = sym (eaten-append s at w v h) ∙ ap (λ (k : ℕ). eaten s k v) e ∙ lost s v h

-- a text that is eaten stands there
pub eaten-there : (s : List ℕ) (at : ℕ) (w : List ℕ) → (eaten s at w ≡ nowhere → ⊥) → (starts w (drop at s) ≡ true) × (eaten s at w ≡ at + length w)
unfolding eaten
eaten-there s at w h = go (starts w (drop at s)) h
  where
    go : (t : Bool) → (pick t (at + length w) nowhere ≡ nowhere → ⊥) → (t ≡ true) × (pick t (at + length w) nowhere ≡ at + length w)
    go true n = (refl, refl)
    go false n = absurd (n refl)

pub eaten-not : (s : List ℕ) (at : ℕ) (w : List ℕ) → length s < nowhere → 0 < length w → eaten s at w ≡ nowhere → starts w (drop at s) ≡ false
unfolding eaten
eaten-not s at w h l e = go (starts w (drop at s)) refl e
  where
    go : (t : Bool) → starts w (drop at s) ≡ t → pick t (at + length w) nowhere ≡ nowhere → t ≡ false
    go true p q = absurd (omega (arith, starts-long w (drop at s) p, length-drop at s))
    go false p q = refl

module _ (s : List ℕ) (at n k : ℕ) (short : length s < nowhere) where
  line-some : 0 < length (line_in n k (drop at s))
  unfolding line_in cell_line label
  line-some = simp length-append (omega arith)

  pub line-over : 65535 < load_of_line k (drop at s) → None ≡ line_read s at n k
  unfolding line_read line_ok
  line-over h = rw (lt-leb _ _ h)

  pub line-lost : eaten s at (line_in n k (drop at s)) ≡ nowhere → None ≡ line_read s at n k
  unfolding line_read line_ok
  line-lost e = rw (eaten-not s at _ short line-some e) (go (leb (load_of_line k (drop at s)) 65535))
    where
      go : (t : Bool) → ◌≡◌ {A = Option Line} None (pick (t && false) (Some (record {
        load = load_of_line k (drop at s);
        row = row_of_line n k (drop at s);
        next = at + length (line_in n k (drop at s));
      })) None)
      go true = refl
      go false = refl

  pub line_read-law :
      load_of_line k (drop at s) ≤ 65535 → (eaten s at (line_in n k (drop at s)) ≡ nowhere → ⊥) →
      Some (record { load = load_of_line k (drop at s); row = row_of_line n k (drop at s); next = eaten s at (line_in n k (drop at s)) }) ≡ line_read s at n k
  unfolding line_read line_ok
  line_read-law h e =
      let t = eaten-there s at (line_in n k (drop at s)) e in
      rw (le-leb _ _ h, t.0, t.1)

-- the reader's way through a line: where the label ends, where the load ends, and the end
module _ (s : List ℕ) (at n k : ℕ) (short : length s < nowhere) where
  pub label-eaten : (d a : ℕ) → d ≡ eaten s at (decimal (cell_number k)) → a ≡ eaten s d (comma_byte ∷ []) → a ≡ eaten s at (label k)
  unfolding label
  label-eaten d a p q = q ∙ ap (λ (i : ℕ). eaten s i (comma_byte ∷ [])) p ∙ eaten-append s at (decimal (cell_number k)) (comma_byte ∷ []) (omega arith)

  module _ (a : ℕ) (label_at : a ≡ eaten s at (label k)) where
    pub no_label : a ≡ nowhere → None ≡ line_read s at n k
    unfolding line_in cell_line
    no_label e = line-lost s at n k short (eaten-lost s at (label k) _ (omega arith) (sym label_at ∙ e))

    module _ (on : a ≡ nowhere → ⊥) where
      label-end : a ≡ at + length (label k)
      label-end = label_at ∙ (eaten-there s at (label k) (λ e. on (label_at ∙ e))).1

      load_at-law : scanned 0 (drop a s) ≡ load_of_line k (drop at s)
      unfolding load_of_line
      load_at-law = ap (λ (i : ℕ). scanned 0 (drop i s)) label-end ∙ ap (scanned 0) (sym (drop-drop (length (label k)) at s))

      module _ (v : Number) (read : v ≡ number_read s a 65535) where
        pub value-is : v.value ≡ load_of_line k (drop at s)
        unfolding number_read
        value-is = ap (λ (x : Number). x.value) read ∙ load_at-law

        next-is : v.next ≡ pick (leb (load_of_line k (drop at s)) 65535) (eaten s at (label k ++ decimal (load_of_line k (drop at s)))) nowhere
        unfolding number_read
        next-is =
            ap (λ (x : Number). x.next) read
            ∙ ap (λ (i : ℕ). pick (leb i 65535) (eaten s a (decimal i)) nowhere) load_at-law
            ∙ ap (λ (i : ℕ). pick (leb (load_of_line k (drop at s)) 65535) i nowhere)
            (ap (λ (i : ℕ). eaten s i (decimal (load_of_line k (drop at s)))) label_at ∙ eaten-append s at (label k) _ (omega arith))

        line-is : line_in n k (drop at s) ≡ (label k ++ decimal (load_of_line k (drop at s))) ++
            (marks (mark_of_line (marks_of_line k (drop at s))) 0 n ++ crlf)
        unfolding line_in cell_line
        line-is = simp append_assoc

        pub no_load : v.next ≡ nowhere → None ≡ line_read s at n k
        no_load e = go (leb (load_of_line k (drop at s)) 65535) refl (sym next-is ∙ e)
          where
            go : (t : Bool) → leb (load_of_line k (drop at s)) 65535 ≡ t → pick t (eaten s at (label k ++ decimal (load_of_line k (drop at s)))) nowhere
                ≡ nowhere
                → None ≡ line_read s at n k
            go true p q = line-lost s at n k short (ap (eaten s at) line-is ∙ eaten-lost s at _ _ (omega arith) q)
            go false p q = line-over s at n k short (leb-false _ _ p)

        module _ (still : v.next ≡ nowhere → ⊥) where
          load-way : (t : Bool) → leb (load_of_line k (drop at s)) 65535 ≡ t → (load_of_line k (drop at s) ≤ 65535)
              × (v.next ≡ eaten s at (label k ++ decimal (load_of_line k (drop at s))))
          load-way true p = (leb-true _ _ p, next-is ∙ ap (λ (t : Bool). pick t (eaten s at (label k ++ decimal (load_of_line k (drop at s)))) nowhere) p)
          load-way false p = absurd (still (next-is ∙ ap (λ (t : Bool). pick t (eaten s at (label k ++ decimal (load_of_line k (drop at s)))) nowhere) p))

          pub load_fits : load_of_line k (drop at s) ≤ 65535
          load_fits = (load-way _ refl).0

          marks-from : drop v.next s ≡ marks_of_line k (drop at s)
          unfolding marks_of_line
          marks-from =
              let w = (load-way _ refl).1 in
              let t = (eaten-there s at (label k ++ decimal (load_of_line k (drop at s))) (λ e. still (w ∙ e))).1 in
              ap (λ (i : ℕ). drop i s) (w ∙ t ∙ ap (λ (i : ℕ). at + i) (length-append (label k) _)) ∙ sym (drop-drop _ at s)

          module _ (m : Marks) (looked : m ≡ marks_read s v.next n) (cr end : ℕ) (p : cr ≡ eaten s m.next (cr_byte ∷ []))
              (q : end ≡ eaten s cr (lf_byte ∷ [])) where
            marks-end : m.next ≡ eaten s v.next (marks (mark_of_line (marks_of_line k (drop at s))) 0 n)
            marks-end = ap (λ (x : Marks). x.next) looked ∙ marks-next s v.next n
                ∙ ap (λ (r : List ℕ). eaten s v.next (marks (mark_of_line r) 0 n)) marks-from

            pub end_is : end ≡ eaten s at (line_in n k (drop at s))
            end_is =
                q ∙ ap (λ (i : ℕ). eaten s i (lf_byte ∷ [])) p ∙ eaten-append s m.next (cr_byte ∷ []) (lf_byte ∷ []) (omega arith)
                ∙ ap (λ (i : ℕ). eaten s i crlf) marks-end ∙ eaten-append s v.next _ crlf (omega arith)
                ∙ ap (λ (i : ℕ). eaten s i (marks (mark_of_line (marks_of_line k (drop at s))) 0 n ++ crlf)) (load-way _ refl).1
                ∙ eaten-append s at _ _ (omega arith) ∙ ap (eaten s at) (sym line-is)

            pub no_end-law : end ≡ nowhere → None ≡ line_read s at n k
            no_end-law e = line-lost s at n k short (sym end_is ∙ e)

            module _ (there : end ≡ nowhere → ⊥) where
              marks-there : m.next ≡ nowhere → ⊥
              marks-there e =
                  there (q ∙ ap (λ (i : ℕ). eaten s i (lf_byte ∷ [])) (p ∙ ap (λ (i : ℕ). eaten s i (cr_byte ∷ [])) e ∙ lost s (cr_byte ∷ []) (omega arith))
                  ∙ lost s (lf_byte ∷ []) (omega arith))

              row-way : (t : Bool) → starts (marks (mark_of_line (drop v.next s)) 0 n) (drop v.next s) ≡ t
                  → m.row ≡ weigh (mark_of_line (drop v.next s)) 0 n
              row-way true e = ap (λ (x : Marks). x.row) (looked ∙ sym (marks-good s v.next n e))
              row-way false e = absurd (marks-there (ap (λ (x : Marks). x.next) (looked ∙ sym (marks-bad s v.next n e))))

              row_is : m.row ≡ row_of_line n k (drop at s)
              unfolding row_of_line
              row_is = row-way _ refl ∙ ap (λ (r : List ℕ). weigh (mark_of_line r) 0 n) marks-from

              pub whole-line : Some (record { load = v.value; row = m.row; next = end }) ≡ line_read s at n k
              whole-line = rw (value-is, row_is, end_is) (line_read-law s at n k short load_fits (λ e. there (end_is ∙ e)))

-- ---- what the answer says

module _ (s : List ℕ) (at n k : ℕ) where
  said : (t : Bool) → line_ok n k (drop at s) ≡ t → line_read s at n k ≡ pick t
      (Some (record { load = load_of_line k (drop at s); row = row_of_line n k (drop at s); next = at + length (line_in n k (drop at s)) })) None
  unfolding line_read
  said t e = rw e

  none_some : {l : Line} → None ≡ Some l → ⊥
  none_some h = cc

  some_is : {l m : Line} → Some l ≡ Some m → l ≡ m
  some_is h = cc

  pub answer-bad : None ≡ line_read s at n k → line_ok n k (drop at s) ≡ false
  answer-bad h = refute _ (λ t. none_some (h ∙ said true t))

  pub answer-good : (l : Line) → Some l ≡ line_read s at n k →
      (line_ok n k (drop at s) ≡ true) × (l ≡ record {
        load = load_of_line k (drop at s);
        row = row_of_line n k (drop at s);
        next = at + length (line_in n k (drop at s));
      })
  answer-good l e = go (line_ok n k (drop at s)) refl
    where
      go : (t : Bool) → line_ok n k (drop at s) ≡ t → (line_ok n k (drop at s) ≡ true)
          × (l ≡ record { load = load_of_line k (drop at s); row = row_of_line n k (drop at s); next = at + length (line_in n k (drop at s)) })
      go true p = (p, some_is (e ∙ said true p))
      go false p = absurd (none_some (sym (e ∙ said false p)))
