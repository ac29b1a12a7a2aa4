-- Entries of a list depend on its additions in order and on the set of the others; one more at its end is one more entry.
use Rattle.std.specs.Prelude.{◌≡◌, refl, ◌⊎◌, cond, ℕ, suc, ◌<◌, eqb, ℤ, length, get_or}
use Rattle.std.proofs.Common.{sym, ◌∙◌, ap, subst, inl, inr, ⊎_elim, arith, length-append, eq-eqb, ne_eqb}
use mathlib.Core.List.Memᴰ
use mathlib.Core.List.{List, [], ◌∷◌, ◌++◌, Memᴰ}
use Rattle.std.proofs.Math.Decide.{ℕ_discrete}
use Rattle.std.proofs.Math.ListN.{get_or-append}
use Rattle.std.proofs.Math.Seq.{get_or-append_seam}
use Rattle.ground_arithmetic.specs.Bools.{clash}
use Rattle.paper_board.specs.Paper.View.{Row, View}
use Rattle.paper_board.specs.Paper.Facts.{Fact}
use Rattle.paper_rules.specs.Paper.Entries.{Entries, Shown, AtLeast}
use Rattle.paper_board.specs.Paper.Limits.{zero_row}
use Rattle.paper_entries.specs.Paper.Entry.{Statement, Entry, addition, other, added_row, stated, additions, Stated, entries, SameEntries, with_entry}

-- entries that agree in jobs, rows and facts ask the same of a view
pub record EntriesAgree (es es' : Entries) : Type 0 where
  pub jobs : es.jobs ≡ es'.jobs
  pub rows : (k : ℕ) → k < es.jobs → es.row k ≡ es'.row k
  pub to : (f : Fact) → es.facts f → es'.facts f
  pub from : (f : Fact) → es'.facts f → es.facts f

pub agree_sym : (es es' : Entries) → EntriesAgree es es' → EntriesAgree es' es
agree_sym es es' a =
    record { jobs = sym a.jobs; rows = λ k l. sym (a.rows k (omega (arith, a.jobs))); to = a.from; from = a.to }

pub agreed : (es es' : Entries) (w : View) → EntriesAgree es es' → AtLeast es w → AtLeast es' w
agreed es es' w a h =
    record {
      jobs = omega (arith, a.jobs, h.jobs);
      rows = λ k l.
          let l' : k < es.jobs = omega (arith, a.jobs) in
          subst (λ r. Shown r (w.row k)) (a.rows k l') (h.rows k l');
      facts = λ f i. h.facts f (a.from f i);
    }

-- the rows that one more entry adds
added_last : (l : List Entry) (x y d m : ℤ) → additions (l ++ addition x y d m ∷ []) ≡ additions l ++ added_row x y d m ∷ []
unfolding additions
added_last [] x y d m = refl
added_last (addition a b c e ∷ l) x y d m = ap (λ rs. added_row a b c e ∷ rs) (added_last l x y d m)
added_last (other s ∷ l) x y d m = added_last l x y d m

added_none : (l : List Entry) (s : Statement) → additions (l ++ other s ∷ []) ≡ additions l
unfolding additions
added_none [] s = refl
added_none (addition a b c e ∷ l) s = ap (λ rs. added_row a b c e ∷ rs) (added_none l s)
added_none (other r ∷ l) s = added_none l s

-- what one of the entries states, before one more and after
stated_still : (l : List Entry) (e : Entry) (f : Fact) → Stated l f → Stated (l ++ e ∷ []) f
stated_still l e f s =
    record { statement = s.statement; made = Memᴰ.append_left (e ∷ []) s.made; states = s.states }

stated_cases : (l : List Entry) (e : Entry) (f : Fact) → Stated (l ++ e ∷ []) f
    → Stated l f ⊎ ((s : Statement) × (other s ≡ e) × Memᴰ f (stated s))
stated_cases l e f s =
    ⊎_elim
    (λ m. inl (record { statement = s.statement; made = m; states = s.states }))
    (λ m. inr (s.statement, Memᴰ.eq_of_singleton m, s.states))
    (Memᴰ.append_cases l s.made)

-- the last of the rows, and those before it
row_snoc : (rs : List Row) (r : Row) (k : ℕ) → k < suc (length rs) → get_or (rs ++ r ∷ []) k (zero_row 0) ≡ cond (eqb k (length rs)) r (get_or rs k (zero_row 0))
row_snoc rs r k b = go (ℕ_discrete k (length rs))
  where
    go : Dec (k ≡ length rs) → get_or (rs ++ r ∷ []) k (zero_row 0) ≡ cond (eqb k (length rs)) r (get_or rs k (zero_row 0))
    go (yes e) = rw (eq-eqb k (length rs) e) (rw e (get_or-append_seam rs r [] (zero_row 0)))
    go (no n) = rw (ne_eqb k (length rs) n) (get_or-append rs (r ∷ []) (zero_row 0) k (omega (arith, n)))

pub agree_snoc : (l : List Entry) (e : Entry) → EntriesAgree (entries (l ++ e ∷ [])) (with_entry (entries l) e)
agree_snoc l (addition x y d m) =
    let is = added_last l x y d m in
    let count : length (additions l ++ added_row x y d m ∷ []) ≡ suc (length (additions l)) = omega (arith, length-append (additions l) (added_row x y d m ∷ [])) in
    record {
      jobs = ap length is ∙ count;
      rows = λ k b.
          ap (λ rs. get_or rs k (zero_row 0)) is ∙ row_snoc (additions l) (added_row x y d m) k (omega (arith, ap length is, count));
      to = λ f s. ⊎_elim (λ h. h) (λ (t, q, _). clash (cc)) (stated_cases l (addition x y d m) f s);
      from = λ f s. stated_still l (addition x y d m) f s;
    }
agree_snoc l (other s) =
    let is = added_none l s in
    record {
      jobs = ap length is;
      rows = λ k b. ap (λ rs. get_or rs k (zero_row 0)) is;
      to = λ f t. ⊎_elim inl (λ (r, q, i). inr (let same : r ≡ s = cc in subst (λ x. Memᴰ f (stated x)) same i)) (stated_cases l (other s) f t);
      from = λ f. ⊎_elim (stated_still l (other s) f)
          λ i. record { statement = s; made = Memᴰ.append_right l (Memᴰ.head refl); states = i };
    }

-- the same jobs in the same order and the same set of other entries ask the same of a board
pub same_agree : (l l' : List Entry) → SameEntries l l' → EntriesAgree (entries l) (entries l')
same_agree l l' s =
    record {
      jobs = ap length s.jobs;
      rows = λ k i. ap (λ rs. get_or rs k (zero_row 0)) s.jobs;
      to = λ f x. record { statement = x.statement; made = (s.others x.statement).0 x.made; states = x.states };
      from = λ f x. record { statement = x.statement; made = (s.others x.statement).1 x.made; states = x.states };
    }
