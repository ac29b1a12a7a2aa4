-- Transitivity is sound: an arc to what comes after a valid job that comes after is what R1 infers.
use Rattle.std.specs.Prelude.{◌≡◌, true, List, ℕ, ◌<◌, get_or, set}
use Rattle.std.proofs.Common.{sym, ◌∙◌}
use Rattle.ground_sets.specs.Bit.{bit, difference, with, without}
use Rattle.ground_sets.specs.BitLaws.{bit_difference, bit_without, without_lt}
use Rattle.paper_board.specs.declared.Board.{Board}
use Rattle.paper_board.specs.Paper.View.{Valid, Arc, view}
use Rattle.paper_board.specs.Paper.Facts.{is_arc}
use Rattle.paper_board.specs.Paper.Limits.{job_limit, Within}
use Rattle.paper_board.specs.BoardTests.Decides.{Decides, retested, ◌and◌, negated, holds, eq}
use Rattle.paper_board.specs.BoardTests.Ranges.{after_fits}
use Rattle.paper_rules.specs.Inference.Infers.{Infers, r1}
use Rattle.paper_rules.specs.Update.Derives.{Derived}
use Rattle.engine_arcs.specs.Arcs.{with_arcs, Sound, arc_stays, sound_link, sound_then}

-- the jobs after `through` to which there is no arc from `from` yet
abbrev pub missing : List ℕ → ℕ → ℕ → ℕ
missing after from through = difference job_limit (without job_limit (get_or after through 0) from) (get_or after from 0)

module _ (b : Board) (within : Within b) (from through : ℕ) (place : from < job_limit) where
  abbrev row : ℕ → ℕ
  row k = get_or b.after k 0

  missing_is : (to : ℕ)
      → Decides (bit (missing b.after from through) to) ((Arc (view b) through to × (from ≡ to → ⊥)) × (Arc (view b) from to → ⊥))
  missing_is to =
      retested
      (bit_difference job_limit (without job_limit (row through) from) (row from) to (without_lt job_limit (row through) from (after_fits b within through)) (after_fits b within from))
      (retested (bit_without job_limit (row through) from to (after_fits b within through) place) (holds (bit (row through) to) and negated (eq from to))
      and negated (holds (bit (row from) to)))

-- valid jobs; a valid job k; a valid job k that comes after job i
abbrev pub AllValid : ℕ → Board → Type 0
AllValid w b = (x : ℕ) → bit w x ≡ true → Valid (view b) x

abbrev pub Through : ℕ → Board → Type 0
Through k b = Valid (view b) k

abbrev pub Forth : ℕ → ℕ → Board → Type 0
Forth i k b = Valid (view b) k × Arc (view b) i k

module _ (before after before' after' : List ℕ) where
  -- R1, where arcs alone have been set since
  infers : (b : Board) → Within (with_arcs b before after) → (from through : ℕ) → from < job_limit → Forth from through (with_arcs b before after)
      → Derived (with_arcs b before after) (with_arcs b before' after') → (to : ℕ) → bit (missing after from through) to ≡ true
      → Infers (view (with_arcs b before' after')) (is_arc from to)
  infers b within from through place (valid, forth) derived to member =
      let ((on, ne), _) = (missing_is (with_arcs b before after) within from through place to).yes member in
      let stays = arc_stays b before after before' after' derived within in
      let first = (within.limits.arcs from through forth).0 in
      let last = (within.limits.arcs through to on).1 in
      r1 from through to first valid last ne (stays from through forth) (stays through to on)

  -- one arc more
  pub joined : (from through : ℕ) → from < job_limit → Sound (Forth from through) before after before' after' → (to : ℕ)
      → bit (missing after from through) to ≡ true → (before'' after'' : List ℕ) → before'' ≡ set before' to (with (get_or before' to 0) from)
      → after'' ≡ set after' from (with (get_or after' from 0) to) → Sound (Forth from through) before after before'' after''
  joined from through place run to member before'' after'' e d =
      sound_link (Forth from through) before after before' after' run from to before'' after'' e d
      λ b h p derived. infers b h from through place p derived to member

  -- one job more, of those before
  pub row_joined : (through : ℕ) → Sound (Through through) before after before' after' → (from : ℕ) → bit (get_or before through 0) from ≡ true
      → (before'' after'' : List ℕ) → Sound (Forth from through) before' after' before'' after'' → Sound (Through through) before after before'' after''
  row_joined through run from member before'' after'' rest =
      sound_then (Through through) before after before' after' run (Forth from through) before'' after'' rest
      λ b h valid derived. (valid, arc_stays b before after before' after' derived h from through (sym (h.twice from through) ∙ member))

  -- one valid job more
  pub through_joined : (valids : ℕ) → Sound (AllValid valids) before after before' after' → (through : ℕ) → bit valids through ≡ true
      → (before'' after'' : List ℕ) → Sound (Through through) before' after' before'' after'' → Sound (AllValid valids) before after before'' after''
  through_joined valids run through member before'' after'' rest =
      sound_then (AllValid valids) before after before' after' run (Through through) before'' after'' rest λ b h valid derived. valid through member
