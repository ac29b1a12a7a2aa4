-- `entry` meets its contract: the formats that the line is not written by, and the one that it is.
use Rattle.std.specs.Prelude.{refl}
use Rattle.std.proofs.Common.{◌∙◌, ap}
use Rattle.std.specs.Option.{option_map}
use Rattle.text_forms.specs.declared.Form.TheVariants.{Entry}
use Rattle.text_forms.specs.FormRead.{none_left, passed, taken}
use Rattle.text_forms.proofs.entry.Goals as goal

pub returns-in-Some : goal.returns-in-Some
returns-in-Some c = taken _ _ _ 4 refl refl c.in-Some.ensures

pub returns-in-Some-scan : goal.returns-in-Some-scan
returns-in-Some-scan c = passed _ _ _ 4 c.in_default.ensures (taken _ _ _ 2 refl refl c.in-Some-scan.ensures)

pub returns-in-Some-scan-2 : goal.returns-in-Some-scan-2
returns-in-Some-scan-2 c = passed _ _ _ 4 c.in_default.ensures (passed _ _ _ 2 c.in_default-scan.ensures (taken _ _ _ 2 refl refl c.in-Some-scan-2.ensures))

pub returns-in_err-job : goal.returns-in_err-job
returns-in_err-job c =
    ap (option_map Entry) c.from_residual.ensures
    ∙ passed _ _ _ 4 c.in_default.ensures
    (passed _ _ _ 2 c.in_default-scan.ensures (passed _ _ _ 2 c.in_default-scan-2.ensures (passed _ _ _ 3 c.in_err-job.ensures (none_left _))))

pub returns : goal.returns
returns c =
    passed _ _ _ 4 c.in_default.ensures
    (passed _ _ _ 2 c.in_default-scan.ensures (passed _ _ _ 2 c.in_default-scan-2.ensures (taken _ _ _ 3 refl refl c.in_ok-job.ensures)))
