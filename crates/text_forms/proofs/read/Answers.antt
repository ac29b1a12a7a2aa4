-- `read` meets its contract: the formats that the line is not written by, and the one that it is.
use Rattle.std.specs.Prelude.{refl}
use Rattle.std.proofs.Common.{◌∙◌}
use Rattle.text_forms.specs.FormRead.{entry_shapes, found_first, none_first, none_left, passed, taken}
use Rattle.text_forms.proofs.read.Goals as goal

pub returns-in-Some : goal.returns-in-Some
returns-in-Some c = found_first _ _ entry_shapes c.in-Some.ensures

pub returns-in-Some-scan : goal.returns-in-Some-scan
returns-in-Some-scan c = none_first _ _ entry_shapes c.in_default.ensures (taken _ _ _ 1 refl refl c.in-Some-scan.ensures)

pub returns-in-Some-scan-2 : goal.returns-in-Some-scan-2
returns-in-Some-scan-2 c =
    none_first _ _ entry_shapes c.in_default.ensures (passed _ _ _ 1 c.in_default-scan.ensures (taken _ _ _ 2 refl refl c.in-Some-scan-2.ensures))

pub returns-in-Some-scan-3 : goal.returns-in-Some-scan-3
returns-in-Some-scan-3 c =
    none_first _ _ entry_shapes c.in_default.ensures
    (passed _ _ _ 1 c.in_default-scan.ensures (passed _ _ _ 2 c.in_default-scan-2.ensures (taken _ _ _ 1 refl refl c.in-Some-scan-3.ensures)))

pub returns-in_err-scan : goal.returns-in_err-scan
returns-in_err-scan c =
    c.from_residual.ensures
    ∙ none_first _ _ entry_shapes c.in_default.ensures
    (passed _ _ _ 1 c.in_default-scan.ensures
    (passed _ _ _ 2 c.in_default-scan-2.ensures (passed _ _ _ 1 c.in_default-scan-3.ensures (passed _ _ _ 0 c.in_err-scan.ensures (none_left _)))))

pub returns : goal.returns
returns c =
    none_first _ _ entry_shapes c.in_default.ensures
    (passed _ _ _ 1 c.in_default-scan.ensures
    (passed _ _ _ 2 c.in_default-scan-2.ensures (passed _ _ _ 1 c.in_default-scan-3.ensures (taken _ _ _ 0 refl refl c.in_ok-scan.ensures))))
