-- `text::put_number` meets its contract. The measure is the number itself. A number below a hundred is one digit or two;
-- any other is the digits of its hundredth part and two more. Assumes nothing.
use Rattle.text.proofs.+put_number.Given as goal

abbrev pub decreases-put_number : goal.decreases-put_number
decreases-put_number l = l.x
