-- A list gathered in an array, element by element, and the two lists that a search gathers.
-- Assumes nothing.
use mathlib.Core.Path.{◌≡◌, sym, ap, ◌∙◌}
use mathlib.Core.Bool.{Bool, true, false}
use mathlib.Core.List.{List, [], ◌∷◌, ◌++◌, append-nil, append_assoc}
use Prim.Native.Nat.{ℕ, suc, ◌+◌, ◌-◌, ◌≤◌, ◌<◌}
use native.Mathlib.Omega.{arith}
use native.Mathlib.Numerals.{add-one}
use borrow.Rule.Slice.PartMut.{put_mid}
use lib.ListN.{length, set, take, drop, replicate, length-set, length-append, length-drop, length-replicate}
use lib.Seq.{take-suc-set, append_snoc, length-take-le}
use Rattle.std.proofs.lemmas.Slice.{take-put_mid}
use Rattle.tries.specs.Search.{opens_from, fragments_from}
use Rattle.search.specs.Loop.{Listed}

-- the first `count` elements of the array, and then `rest`, are xs
pub record Filling (m : ℕ) (xs : List ℕ) (count : ℕ) (array rest : List ℕ) : Type 0 where
  pub size : length array ≡ m
  pub most : count ≤ m
  pub same : take count array ++ rest ≡ xs

module _ (m : ℕ) (xs array : List ℕ) where
  pub fill-same : (count : ℕ) (rest more : List ℕ) → Filling m xs count array rest → rest ≡ more → Filling m xs count array more
  fill-same count rest more f e = record { size = f.size; most = f.most; same = ap (λ z. take count array ++ z) (sym e) ∙ f.same }

  pub fill-push : (count v : ℕ) (rest : List ℕ) → Filling m xs count array (v ∷ rest) → count < m → Filling m xs (count + 1) (set array count v) rest
  fill-push count v rest f l =
      let w : count < length array = omega (arith, f.size) in
      record {
        size = simp length-set f.size;
        most = omega arith;
        same = rw (add-one, take-suc-set array count v w, append_snoc (take count array) v rest) f.same;
      }

  -- a run of k equal elements, stored at once
  pub fill-run : (count k v j : ℕ) (ys rest : List ℕ) → Filling m xs count array (replicate k v ++ rest) → count + k ≤ m → j ≡ k
      → ys ≡ replicate (length (take j (drop count array))) v → Filling m xs (count + k) (put_mid count j array ys) rest
  fill-run count k v j ys rest f l d e =
      let fits : j ≤ length (drop count array) = omega (arith, length-drop count array, f.size) in
      let long : length (take j (drop count array)) ≡ k = length-take-le j (drop count array) fits ∙ d in
      let are : ys ≡ replicate k v = e ∙ ap (λ n. replicate n v) long in
      let many : length ys ≡ k = ap length are ∙ length-replicate k v in
      let before : count ≤ length array = omega (arith, f.size) in
      record {
        size = omega (
          arith,
          f.size,
          many,
          length-append (take count array) (ys ++ drop j (drop count array)),
          length-append ys (drop j (drop count array)),
          length-take-le count array before,
          length-drop j (drop count array),
          length-drop count array,
        );
        most = l;
        same = ap (λ z. z ++ rest) (take-put_mid count j array ys (count + k) (omega arith) before)
            ∙ append_assoc (take count array) ys rest ∙ ap (λ z. take count array ++ (z ++ rest)) are ∙ f.same;
      }

  pub fill_end-law : (count : ℕ) → Filling m xs count array [] → Listed m xs count array
  fill_end-law count f =
      record { size = f.size; all = λ _. sym (append-nil (take count array)) ∙ f.same; over = λ l. absurd (omega (arith, f.most)) }

  -- a run that does not fit
  pub fill-past : (count k v : ℕ) (rest : List ℕ) → Filling m xs count array (replicate k v ++ rest) → m < count + k → Listed m xs (m + 1) array
  fill-past count k v rest f l =
      let w : count ≤ length array = omega (arith, f.size, f.most) in
      record {
        size = f.size;
        all = λ h. absurd (omega arith);
        over = λ _. omega (arith, simp (length-append, length-replicate, length-take-le count array w) at (ap length f.same));
      }

-- ---- the fragments

module _ (load : ℕ → ℕ) (i n : ℕ) where
  pub fragments-next : i < n → fragments_from load i (n - i) ≡ replicate (load i) i ++ fragments_from load (i + 1) (n - (i + 1))
  unfolding fragments_from
  fragments-next l = let e : n - i ≡ suc (n - (i + 1)) = omega arith in rw (e, add-one)

  pub fragments-end : n ≤ i → fragments_from load i (n - i) ≡ []
  unfolding fragments_from
  fragments-end l = let e : n - i ≡ 0 = omega arith in rw e

-- ---- the positions

module _ (u : ℕ → Bool) (k n : ℕ) where
  pub opens-push : k < n → u k ≡ true → opens_from u k (n - k) ≡ k ∷ opens_from u (k + 1) (n - (k + 1))
  unfolding opens_from
  opens-push l h = let e : n - k ≡ suc (n - (k + 1)) = omega arith in rw (e, h, add-one)

  pub opens-skip : k < n → u k ≡ false → opens_from u k (n - k) ≡ opens_from u (k + 1) (n - (k + 1))
  unfolding opens_from
  opens-skip l h = let e : n - k ≡ suc (n - (k + 1)) = omega arith in rw (e, h, add-one)

  pub opens-end : n ≤ k → opens_from u k (n - k) ≡ []
  unfolding opens_from
  opens-end l = let e : n - k ≡ 0 = omega arith in rw e
