-- Texts escaped, computed byte by byte: names with markup in them, letters of one to four bytes, and bytes that are no letter. Assumes nothing.
use mathlib.Core.Path.{◌≡◌, refl}
use mathlib.Core.Bool.{true, false}
use mathlib.Core.List.{[], ◌∷◌}
use Rattle.speech.specs.Speech.{bytes}
use Rattle.lines.specs.Match.{starts}
use Rattle.escaping.specs.Letters.{is_one, is_second, is_third, is_two, is_three, is_four, letter_size, letters}
use Rattle.escaping.specs.Escaped.{reference, referred, escaped, only_text, meant, reference_rest, heard}

markup-escaped :
    escaped (bytes "<b>R&D's \"x\"</b>") ≡ bytes "&lt;b&gt;R&amp;D&#39;s &quot;x&quot;&lt;/b&gt;"
unfolding is_one letter_size letters reference referred
markup-escaped = refl

-- a newline and a tab stay; a bell (7), a carriage return and a delete (127) do not
controls-escaped : escaped (97 ∷ 10 ∷ 9 ∷ 7 ∷ 13 ∷ 127 ∷ 0 ∷ 126 ∷ []) ≡ 97 ∷ 10 ∷ 9 ∷ 63 ∷ 63 ∷ 63 ∷ 63 ∷ 126 ∷ []
unfolding is_one is_second is_third is_two is_three is_four letter_size letters reference referred
controls-escaped = refl

-- å (C3 A5), € (E2 82 AC), U+1F687 (F0 9F 9A 87)
letters-kept :
    escaped (195 ∷ 165 ∷ 226 ∷ 130 ∷ 172 ∷ 240 ∷ 159 ∷ 154 ∷ 135 ∷ []) ≡ 195 ∷ 165 ∷ 226 ∷ 130 ∷ 172 ∷ 240 ∷ 159 ∷ 154 ∷ 135 ∷ []
unfolding is_one is_second is_third is_two is_three is_four letter_size letters reference referred
letters-kept = refl

-- cut short, a tail alone, overlong (C0 BC, E0 80 BC, F0 80 80 BC), a surrogate (ED A0 80), past the last (F4 90 80 80, F5), U+FFFF (EF BF BF), U+0085 (C2 85)
no-letters :
    escaped (195 ∷ []) ∷ escaped (226 ∷ 130 ∷ 60 ∷ []) ∷ escaped (165 ∷ 97 ∷ []) ∷ escaped (192 ∷ 188 ∷ []) ∷ escaped (224 ∷ 128 ∷ 188 ∷ [])
    ∷ escaped (240 ∷ 128 ∷ 128 ∷ 188 ∷ []) ∷ escaped (237 ∷ 160 ∷ 128 ∷ []) ∷ escaped (244 ∷ 144 ∷ 128 ∷ 128 ∷ []) ∷ escaped (245 ∷ [])
    ∷ escaped (239 ∷ 191 ∷ 191 ∷ []) ∷ escaped (194 ∷ 133 ∷ []) ∷ []
    ≡ bytes "?" ∷ bytes "??&lt;" ∷ bytes "?a" ∷ bytes "??" ∷ bytes "???"
    ∷ bytes "????" ∷ bytes "???" ∷ bytes "????" ∷ bytes "?"
    ∷ bytes "???" ∷ bytes "??" ∷ []
unfolding is_one is_second is_third is_two is_three is_four letter_size letters reference referred
no-letters = refl

-- the last letters before those: U+00A0, U+07FF, U+0800, U+D7FF, U+E000, U+FFFD, U+10000, U+10FFFF
edges-kept :
    letter_size 194 160 0 0 ∷ letter_size 223 191 0 0 ∷ letter_size 224 160 128 0 ∷ letter_size 237 159 191 0 ∷ letter_size 238 128 128 0
    ∷ letter_size 239 191 189 0 ∷ letter_size 240 144 128 128 ∷ letter_size 244 143 191 191 ∷ []
    ≡ 2 ∷ 2 ∷ 3 ∷ 3 ∷ 3 ∷ 3 ∷ 4 ∷ 4 ∷ []
unfolding is_one is_second is_third is_two is_three is_four letter_size
edges-kept = refl

-- what is markup, and what is read back
told-apart : only_text (bytes "a<b") ∷ only_text (bytes "a & b") ∷ only_text (bytes "a &amp; b") ∷ [] ≡ false ∷ false ∷ true ∷ []
unfolding only_text starts
told-apart = refl

read_back-law : heard 0 (bytes "&lt;b&gt; &amp;lt; &quot;&#39; & &x;") ≡ bytes "<b> &lt; \"' & &x;"
unfolding heard meant reference_rest starts reference
read_back-law = refl
