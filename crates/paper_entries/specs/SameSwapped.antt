-- Lists of entries that are the same jobs in the same order and the same set of other entries: an arc, mark or cut may change places
-- with its neighbour, and one that was made before may be left out.
use Rattle.std.specs.Prelude.{◌≡◌, refl, ◌↔◌}
use Rattle.std.proofs.Common.{ap, ⊎_elim}
use Rattle.std.proofs.Math.Path.{subst⁻¹}
use mathlib.Core.List.Memᴰ
use mathlib.Core.List.{List, [], ◌∷◌, ◌++◌, Memᴰ}
use Rattle.paper_entries.specs.Paper.Entry.{Statement, Entry, addition, other, added_row, additions, SameEntries}

-- ---- the jobs added

-- the jobs of a list with another in front of its end depend on those of its end alone
additions_end : (l m n : List Entry) → additions m ≡ additions n → additions (l ++ m) ≡ additions (l ++ n)
unfolding additions
additions_end [] m n e = e
additions_end (addition x y d k ∷ l) m n e = ap (λ rs. added_row x y d k ∷ rs) (additions_end l m n e)
additions_end (other s ∷ l) m n e = additions_end l m n e

additions_swapped : (x : Entry) (s : Statement) (m : List Entry) → additions (x ∷ other s ∷ m) ≡ additions (other s ∷ x ∷ m)
unfolding additions
additions_swapped (addition l e d k) s m = refl
additions_swapped (other t) s m = refl

additions_without : (s : Statement) (m : List Entry) → additions (other s ∷ m) ≡ additions m
unfolding additions
additions_without s m = refl

-- ---- the entries made

-- lists with one beginning have the same entries where each end has its own among those of the other list
made_end : (l m n : List Entry) (e : Entry) → (Memᴰ e m → Memᴰ e (l ++ n)) → Memᴰ e (l ++ m) → Memᴰ e (l ++ n)
made_end l m n e h made = ⊎_elim (λ a. Memᴰ.append_left n a) h (Memᴰ.append_cases l made)

made_ends : (l m n : List Entry) (e : Entry) → (Memᴰ e m → Memᴰ e (l ++ n)) → (Memᴰ e n → Memᴰ e (l ++ m))
    → Memᴰ e (l ++ m) ↔ Memᴰ e (l ++ n)
made_ends l m n e h k = (made_end l m n e h, made_end l n m e k)

made_swapped : (x y : Entry) (m : List Entry) (e : Entry) → Memᴰ e (x ∷ y ∷ m) → Memᴰ e (y ∷ x ∷ m)
made_swapped x y m e (Memᴰ.head q) = Memᴰ.tail (Memᴰ.head q)
made_swapped x y m e (Memᴰ.tail (Memᴰ.head q)) = Memᴰ.head q
made_swapped x y m e (Memᴰ.tail (Memᴰ.tail d)) = Memᴰ.tail (Memᴰ.tail d)

-- ---- the same entries

pub same_swapped : (l m : List Entry) (x : Entry) (s : Statement) → SameEntries (l ++ x ∷ other s ∷ m) (l ++ other s ∷ x ∷ m)
same_swapped l m x s =
    record {
      jobs = additions_end l _ _ (additions_swapped x s m);
      others = λ t.
          made_ends l _ _ (other t)
          (λ d. Memᴰ.append_right l (made_swapped x (other s) m (other t) d))
          (λ d. Memᴰ.append_right l (made_swapped (other s) x m (other t) d));
    }

pub same_repeated : (l m : List Entry) (s : Statement) → Memᴰ (other s) l → SameEntries (l ++ other s ∷ m) (l ++ m)
same_repeated l m s made =
    record {
      jobs = additions_end l _ _ (additions_without s m);
      others = λ t.
          made_ends l _ _ (other t)
          (λ d. ⊎_elim (λ q. Memᴰ.append_left m (subst⁻¹ (λ e. Memᴰ e l) q made)) (Memᴰ.append_right l) (Memᴰ.cases_cons d))
          (λ d. Memᴰ.append_right l (Memᴰ.tail d));
    }
