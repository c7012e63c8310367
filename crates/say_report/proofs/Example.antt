-- Parts of the page, computed letter by letter: a text with markup in it, and the size of a site. Assumes nothing.
use mathlib.Core.Path.{◌≡◌, refl}
use mathlib.Core.List.{[]}
use Rattle.text.specs.Decimal.{digits_of, decimal}
use Rattle.speech.specs.Speech.{bytes, spoken}
use Rattle.phrases.specs.Phrases.{phrase}
use Rattle.site.specs.Record.{site_of}
use Rattle.escaping.specs.Letters.{is_one, letter_size, letters}
use Rattle.escaping.specs.Escaped.{reference, referred}
use Rattle.say_report.specs.Lines.{report_lines, why_row, page_end_row}
use Rattle.say_report.specs.Page.{report_line, report_size, report_part}

part-computed :
    report_part why_row (bytes "a < b\n") ≡ bytes "<section>\n<h2>What can be said of the site</h2>\n<pre>a &lt; b\n</pre>\n</section>\n"
unfolding report_lines spoken decimal digits_of is_one letter_size letters reference referred
part-computed = refl

size-computed : phrase report_lines (report_size (site_of 5 8 1 [] [] [] 2)) ≡ bytes "</h1>\n<p>5 cells, 8 slots, 1 channel, rule 2</p>\n"
unfolding report_lines spoken decimal digits_of
size-computed = refl

end-computed : report_line page_end_row ≡ bytes "</body>\n</html>\n"
unfolding report_lines spoken decimal digits_of
end-computed = refl
