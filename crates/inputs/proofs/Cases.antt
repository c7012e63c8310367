-- The cases of the definitions, one law for each way out of the code. Assumes nothing.
use Prim.Native.Nat.{ℕ, ◌≤◌, ◌<◌}
use mathlib.Core.Path.{◌≡◌, sym, ◌∙◌}
use mathlib.Core.Bool.{true, false}
use mathlib.Core.List.{List}
use lib.ListN.{length}
use borrow.Author.Tests.{lt-ltb, le-ltb, eq-eqb, ne_eqb}
use Rattle.records.specs.Bytes.{le16}
use Rattle.lines.specs.Match.{starts}
use Rattle.speech.specs.Speech.{bytes}
use Rattle.inputs.specs.Files.{by_kind, ruled_head, house_file, input_of}
use Rattle.inputs.specs.Said.{input_number, plain_said, other_said, file_said}
use Rattle.inputs.specs.declared.Input.{Input as File}
use Rattle.inputs.specs.declared.Input.TheVariants.{SiteFile, RangeSheet, FlowSheet, Other}

module _ (s : List ℕ) where
  pub house-short : length s < 14 → Other ≡ house_file s
  unfolding house_file
  house-short h = rw (lt-ltb (length s) 14 h)

  pub house-ruled : 14 ≤ length s → ruled_head s ≡ true → SiteFile ≡ house_file s
  unfolding house_file
  house-ruled h r = rw (le-ltb (length s) 14 h, r)

  pub house-length : (a : ℕ) → 14 ≤ length s → ruled_head s ≡ false → a ≡ le16 s 0 → (a ≡ 8 → ⊥) → Other ≡ house_file s
  unfolding house_file
  house-length a h r e n = rw (le-ltb (length s) 14 h, r, ne_eqb (le16 s 0) 8 (λ q. n (e ∙ q)))

  pub house-kind : (a b : ℕ) → 14 ≤ length s → ruled_head s ≡ false → a ≡ le16 s 0 → a ≡ 8 → b ≡ le16 s 2 → (b ≡ 1 → ⊥) → Other ≡ house_file s
  unfolding house_file
  house-kind a b h r e i f n = rw (le-ltb (length s) 14 h, r, eq-eqb (le16 s 0) 8 (sym e ∙ i), ne_eqb (le16 s 2) 1 (λ q. n (f ∙ q)))

  pub house-is : (a b : ℕ) → 14 ≤ length s → ruled_head s ≡ false → a ≡ le16 s 0 → a ≡ 8 → b ≡ le16 s 2 → b ≡ 1 → by_kind (le16 s 12) ≡ house_file s
  unfolding house_file
  house-is a b h r e i f j = rw (le-ltb (length s) 14 h, r, eq-eqb (le16 s 0) 8 (sym e ∙ i), eq-eqb (le16 s 2) 1 (sym f ∙ j))

  pub input-range : starts (bytes "cell,load") s ≡ true → RangeSheet ≡ input_of s
  unfolding input_of
  input-range h = rw h

  pub input-flows : starts (bytes "cell,load") s ≡ false → starts (bytes "cell,burst,period,repeats,value") s ≡ true → FlowSheet ≡ input_of s
  unfolding input_of
  input-flows h i = rw (h, i)

  pub input-house : starts (bytes "cell,load") s ≡ false → starts (bytes "cell,burst,period,repeats,value") s ≡ false → house_file s ≡ input_of s
  unfolding input_of
  input-house h i = rw (h, i)

module _ (found asked : File) (a b : ℕ) (ea : a ≡ input_number found) (eb : b ≡ input_number asked) where
  pub said-nothing : a ≡ 0 → plain_said ≡ file_said found asked
  unfolding file_said
  said-nothing h = rw (eq-eqb (input_number found) 0 (sym ea ∙ h))

  pub said_same : (a ≡ 0 → ⊥) → a ≡ b → plain_said ≡ file_said found asked
  unfolding file_said
  said_same n h = rw (ne_eqb (input_number found) 0 (λ q. n (ea ∙ q)), eq-eqb (input_number found) (input_number asked) (sym ea ∙ h ∙ eb))

  pub said-other : (a ≡ 0 → ⊥) → (a ≡ b → ⊥) → other_said found asked ≡ file_said found asked
  unfolding file_said
  said-other n m = rw (ne_eqb (input_number found) 0 (λ q. n (ea ∙ q)), ne_eqb (input_number found) (input_number asked) (λ q. m (ea ∙ q ∙ sym eb)))
