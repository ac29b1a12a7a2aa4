-- Lines that are forms, and lines that are none: "A number is an optional minus and 1 to 7 decimal digits, no leading zero, no -0."
use Rattle.std.specs.Prelude.{pos, negsuc, Some, None, ◌≡◌, refl}
use Rattle.text_decimals.specs.Bytes.{bytes}
use Rattle.text_numerals.specs.Numerals.{natural_at, number_at}
use Rattle.text_formats.specs.Format.{scan}
use Rattle.paper_entries.specs.declared.Entry.TheVariants.{Addition}
use Rattle.text_forms.specs.declared.Form.TheVariants.{Entry, Pair, Plan}
use Rattle.text_forms.specs.Paper.Forms.{first_of, form_of}

pub four_numbers : form_of (bytes "(add (len 30) (win 0 100) (mark 1))") ≡ Some (Entry (Addition (pos 30) (pos 0) (pos 100) (pos 1)))
unfolding first_of scan number_at natural_at
four_numbers = refl

pub optional_minus : form_of (bytes "(two 2 -1)") ≡ Some (Pair (pos 2) (negsuc 0))
unfolding first_of scan number_at natural_at
optional_minus = refl

pub seven_digits : form_of (bytes "(plan 9999999)") ≡ Some (Plan (pos 9999999))
unfolding first_of scan number_at natural_at
seven_digits = refl

pub eight_digits : form_of (bytes "(plan 10000000)") ≡ None
unfolding first_of scan number_at natural_at
eight_digits = refl

pub leading_zero : form_of (bytes "(two 02 -1)") ≡ None
unfolding first_of scan number_at natural_at
leading_zero = refl

pub minus_zero : form_of (bytes "(two 2 -0)") ≡ None
unfolding first_of scan number_at natural_at
minus_zero = refl

pub double_space : form_of (bytes "(two 2  -1)") ≡ None
unfolding first_of scan number_at natural_at
double_space = refl

pub empty_line : form_of (bytes "") ≡ None
unfolding first_of scan
empty_line = refl
