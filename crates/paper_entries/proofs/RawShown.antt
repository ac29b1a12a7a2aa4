-- The raw entry: the least board above b that shows the entry, nothing inferred yet.
use Rattle.std.specs.Prelude.{refl, List, [], ◌∷◌}
use Rattle.std.proofs.Math.Path.{subst⁻¹}
use Rattle.std.proofs.Common.{⊎_elim}
use mathlib.Core.List.Memᴰ
use Rattle.paper_board.specs.declared.Board.{Board}
use Rattle.paper_board.specs.Paper.View.{View, view}
use Rattle.paper_board.specs.Paper.Facts.{Fact, Holds, AboutJobs}
use Rattle.paper_rules.specs.Paper.Entries.{shown}
use Rattle.paper_board.specs.Paper.Limits.{Within}
use Rattle.paper_rules.specs.Order.OrderLaws.{holds_up}
use Rattle.paper_rules.specs.Update.Extension.{above_self, Extends}
use Rattle.paper_rules.specs.Update.ExtendsThen.{extends_then}
use Rattle.paper_rules.specs.Update.Updates.{update}
use Rattle.paper_rules.specs.Update.Updated.{updated}
use Rattle.paper_rules.specs.Update.Appended.{appended}
use Rattle.paper_entries.specs.Paper.Entry.{Entry, addition, other, added_row, stated, with_entry}
use Rattle.paper_entries.specs.ShowsEntry.{HoldAll, ShowsEntry}
use Rattle.paper_entries.proofs.Allowed.{AllAboutJobs, Allowed}
use Rattle.paper_entries.specs.Paper.Enter.{update_all, raw}

-- the first of some facts, and the others
cons : (f : Fact) (fs : List Fact) (v : View) → Holds v f → HoldAll fs v → HoldAll (f ∷ fs) v
cons f fs v h hs g m = ⊎_elim (λ e. subst⁻¹ (Holds v) e h) (hs g) (Memᴰ.cases_cons m)

uncons : (f : Fact) (fs : List Fact) (v : View) → HoldAll (f ∷ fs) v → Holds v f × HoldAll fs v
uncons f fs v hs = (hs f (Memᴰ.head refl), λ g m. hs g (Memᴰ.tail m))

-- all the facts are shown, or no view above b that obeys the rules shows them
pub updated_all : (b : Board) → Within b → (fs : List Fact) → AllAboutJobs b.jobs fs → Extends b.jobs (HoldAll fs) b (update_all b fs)
unfolding update_all
updated_all b h [] known =
    record { more = above_self b h; meets = λ f m. absurd (Memᴰ.not-nil m); least = λ w up ob hs. up }
updated_all b h (f ∷ fs) known =
    extends_then b.jobs (λ w. Holds w f) (HoldAll fs) (HoldAll (f ∷ fs)) b
    (λ v w up. holds_up v w up f)
    (λ w. cons f fs w)
    (λ w up ob. uncons f fs w)
    (update b f)
    (λ c. update_all c fs)
    (updated b h f (known f (Memᴰ.head refl)))
    λ c x. updated_all c x.more.within fs λ g m. subst⁻¹ (λ n. AboutJobs n g) x.more.jobs (known g (Memᴰ.tail m))

pub raw_shown : (b : Board) → Within b → (e : Entry) → Allowed b.jobs e
    → Extends (with_entry (shown (view b)) e).jobs (ShowsEntry b.jobs e) b (raw b e)
unfolding raw
raw_shown b h (addition l e d m) (room, fits, mk) = appended b (added_row l e d m) h room fits mk
raw_shown b h (other s) ok = updated_all b h (stated s) ok
