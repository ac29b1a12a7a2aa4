-- The paper's whole case, and lines that are no form, from bytes to bytes: each is computed through the definitions.
use Rattle.std.specs.Prelude.{◌≡◌, refl}
use Prim.Native.String.{String}
use Rattle.text_decimals.specs.Bytes.{bytes}
use Rattle.ground_sets.specs.Bit.{bit, with, without, union, difference, singleton}
use Rattle.ground_arithmetic.specs.Linear.{eq_z}
use Rattle.ground_arithmetic.specs.Sum.{sum, count}
use Rattle.paper_board.specs.Paper.Tests.{implies, between, live, valid}
use Rattle.paper_board.specs.BoardTests.WithinLimits.{all, is_zero, fits, is_zero_row, full, shape, holds_job, holds_nothing, joinable, agrees, within_limits}
use Rattle.paper_rules.specs.Update.Updates.{exclude, tighten, update, ◌and_then◌}
use Rattle.paper_closure.specs.Find.{guard, ◌or_else◌, first, any, beyond, too_late, joined, pushers, pushed, push, next, find}
use Rattle.paper_closure.specs.Closure.{close, closure}
use Rattle.paper_closure.specs.Passes.{nothing_left, passes}
use Rattle.paper_entries.specs.Paper.Checks.{first_refusal}
use Rattle.paper_entries.specs.Paper.Enter.{update_all, raw, closure_with, enter}
use Rattle.paper_entries.specs.Paper.Looking.{row, pair}
use Rattle.paper_plans.specs.Paper.Lists.{range, keep, every, among}
use Rattle.paper_plans.specs.Paper.Tries
use Rattle.paper_plans.specs.Paper.Tries.{add, start_after, from, search}
use Rattle.paper_plans.specs.Paper.Planner.{placed_word, start_list, plan}
use Rattle.text_decimals.specs.Decimal.{natural}
use Rattle.text_numerals.specs.Numerals.{natural_at, number_at}
use Rattle.text_formats.specs.Format.{scan, filled}
use Rattle.text_forms.specs.Paper.Forms.{first_of}
use Rattle.text_replies.specs.Paper.ReplyTexts.{placements_text}
use Rattle.text_forms.specs.Paper.Lines.{lines_of}
use Rattle.text_answers.specs.Paper.Text.{carried_out, serve, serve_text, output}

abbrev TextGives : String → String → Type 0
TextGives input answers = output (serve_text (bytes input)).replies ≡ bytes answers

-- "Whole case"
abbrev pub WholeCase : Type 0
WholeCase =
    TextGives
    "(add (len 30) (win 0 100) (mark 1))\n(add (len 40) (win 0 100) (mark 0))\n(add (len 20) (win 10 60) (mark 1))\n(arc 0 2)\n(row 1)\n(two 2 1)\n(plan 100)\n(cut 1 (win 0 85))\n(row 1)\n(mark 1 1)\n(tally)\n"
    "(ok 0)\n(ok 1)\n(ok 2)\n(ok)\n(row 1 0 50 100 (before 5) (after 0))\n(two 1 -10)\n(plan 2 (found (0 0) (2 30)))\n(ok)\n(row 1 2 0 0 (before 0) (after 0))\n(no 8)\n(tally 1)\n"

-- "An empty line, or a last line without its line feed, gets 10."
abbrev pub FormlessLines : Type 0
FormlessLines = TextGives "\n(row -1)\n(tally)" "(no 10)\n(no 2)\n(no 10)\n"

-- a text without lines gives none
abbrev pub NoLines : Type 0
NoLines = TextGives "" ""

pub text_examples_hold : WholeCase × FormlessLines × NoLines
unfolding eq_z bit with without union difference singleton sum all implies between is_zero fits is_zero_row full shape holds_job holds_nothing joinable agrees within_limits live valid exclude tighten update ◌and_then◌ guard ◌or_else◌ first any beyond too_late joined pushers pushed push next find close closure nothing_left passes first_refusal update_all raw closure_with enter row pair count range keep every among add Tries.◌or_else◌ start_after from search placed_word start_list plan natural natural_at number_at scan filled first_of placements_text lines_of carried_out serve serve_text output
text_examples_hold = (refl, refl, refl)
