-- `print` meets its contract: no byte, or a first and the rest.
use Rattle.text_formats.specs.Printed.{none_printed, natural_printed, number_printed, byte_printed}
use Rattle.text_formats.proofs.+print.Goals as goal

pub returns-in_default : goal.returns-in_default
returns-in_default t c = search none_printed

pub returns-in-64 : goal.returns-in-64
returns-in-64 t c = search natural_printed

pub returns-in-35 : goal.returns-in-35
returns-in-35 t c = search number_printed

pub returns-in_default-first : goal.returns-in_default-first
returns-in_default-first t c = search byte_printed
