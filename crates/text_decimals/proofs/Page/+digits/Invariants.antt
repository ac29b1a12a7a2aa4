-- `Page::digits` ends: it calls itself with a tenth of the number.
use Rattle.text_decimals.proofs.Page.+digits.Given as goal

abbrev pub decreases-digits : goal.decreases-digits
decreases-digits l = l.n
