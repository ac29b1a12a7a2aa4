-- Arcs set one after the other: what is inferred of each in its turn makes the whole a run of inferences.
use Rattle.std.specs.Prelude.{◌≡◌, List, ℕ, get_or, set}
use Rattle.std.proofs.Common.{ap, ◌∙◌}
use Rattle.std.proofs.Math.Option.{some}
use Rattle.ground_sets.specs.Bit.{with}
use Rattle.paper_board.specs.declared.Board.{Board}
use Rattle.paper_board.specs.Paper.View.{View, Live, Arc, view}
use Rattle.paper_board.specs.Paper.Facts.{is_arc}
use Rattle.paper_board.specs.Paper.Limits.{Within}
use Rattle.paper_rules.specs.Order.OrderLaws.{arc_up}
use Rattle.paper_rules.specs.Inference.Infers.{Infers, r1, r3}
use Rattle.paper_board.specs.BoardTests.Live.{live_show}
use Rattle.paper_board.specs.Paper.Parts.{filled}
use Rattle.paper_rules.specs.Update.Updates.{link, update}
use Rattle.paper_rules.specs.Update.Derives.{Derived, derived_self, derives_then, derives_further}

-- the board b with other arcs
abbrev pub with_arcs : Board → List ℕ → List ℕ → Board
with_arcs b before after = filled b b.lengths b.earliest b.latest b.marks after before

-- the two boards differ in arcs alone
abbrev pub ArcsAlone : Board → Board → Type 0
ArcsAlone b c = c ≡ with_arcs b c.before c.after

pub arcs_alone_then : (b c d : Board) → ArcsAlone b c → ArcsAlone c d → ArcsAlone b d
arcs_alone_then b c d first second = second ∙ ap (λ x. with_arcs x d.before d.after) first

-- On any board with the arcs `before` and `after` of which P holds, inferences lead to the arcs `before'` and `after'`.
abbrev pub Sound : (Board → Type 0) → List ℕ → List ℕ → List ℕ → List ℕ → Type 0
Sound P before after before' after' =
    (b : Board) → Within (with_arcs b before after) → P (with_arcs b before after) → Derived (with_arcs b before after) (with_arcs b before' after')

infers_live : (v : View) (i k : ℕ) → Infers v (is_arc i k) → Live v i × Live v k
infers_live v _ _ (r1 a b c la vb lc ne ab bc) = (la, lc)
infers_live v _ _ (r3 a b la lb ne h) = (lb, la)

-- an inferred arc set
derived_link : (b c : Board) → Derived b c → (i k : ℕ) → Infers (view c) (is_arc i k) → Derived b (link c i k)
unfolding update
derived_link b c derived i k infers =
    let (li, lk) = infers_live (view c) i k infers in
    rw (live_show (view c) i li, live_show (view c) k lk) at (derives_further b c derived (is_arc i k) infers)

-- an arc stays where arcs alone are set
pub arc_stays : (b : Board) (before after before' after' : List ℕ)
    → Derived (with_arcs b before after) (with_arcs b before' after') → Within (with_arcs b before after)
    → (i k : ℕ) → Arc (view (with_arcs b before after)) i k → Arc (view (with_arcs b before' after')) i k
arc_stays b before after before' after' derived within i k arc =
    let ends = within.limits.arcs i k arc in
    arc_up (view (with_arcs b before after)) (view (with_arcs b before' after')) derived.more.above i k arc ends.0 ends.1

module _ (P : Board → Type 0) (before after : List ℕ) where
  pub sound_none : Sound P before after before after
  sound_none b h p = derived_self (with_arcs b before after) h

  module _ (before' after' : List ℕ) (run : Sound P before after before' after') where
    -- one more arc
    pub sound_link : (from to : ℕ) (later-before later-after : List ℕ) → later-before ≡ set before' to (with (get_or before' to 0) from)
        → later-after ≡ set after' from (with (get_or after' from 0) to)
        → ((b : Board) → Within (with_arcs b before after) → P (with_arcs b before after)
        → Derived (with_arcs b before after) (with_arcs b before' after') → Infers (view (with_arcs b before' after')) (is_arc from to))
        → Sound P before after later-before later-after
    sound_link from to later-before later-after e d infers b h p =
        rw (e, d) (derived_link _ (with_arcs b before' after') (run b h p) from to (infers b h p (run b h p)))

    -- and another run
    pub sound_then : (Q : Board → Type 0) (before'' after'' : List ℕ) → Sound Q before' after' before'' after''
        → ((b : Board) → Within (with_arcs b before after) → P (with_arcs b before after)
        → Derived (with_arcs b before after) (with_arcs b before' after') → Q (with_arcs b before' after'))
        → Sound P before after before'' after''
    sound_then Q before'' after'' rest meets b h p =
        let derived = run b h p in
        derives_then _ (with_arcs b before' after') derived (some _) (rest b derived.more.within (meets b h p derived))
