-- The loop that asks a test of each idle object.
use Rattle.std.proofs.Common.{◌≡◌, ℕ, ◌+◌, List, [], ◌∷◌, ◌++◌, length, refl, sym, ap, ◌∙◌, subst, append_assoc, append-nil, arith, Bool, true, false}
use Rattle.std.specs.List.{FoldsTo}
use Rattle.band_objects.specs.Status.{Status}
use Rattle.band_objects.specs.Store.{Sorting, Sorts, SortsAll}
use Rattle.band_objects.specs.Kept.{AsksFirst}
use Rattle.band_objects.specs.declared.object.ObjectState.{ObjectState}

module _ {F T : Type 0} (called : F → T → Status → Bool → F → T → Type 0) (first : F) (all : List (ObjectState T)) where
  -- so many are still to be asked about, which stand in front of those that are kept so far
  pub record Asking (test : F) (idle : List (ObjectState T)) (removed : List T) (left : ℕ) : Type 0 where
    pub rest : List (ObjectState T)
    pub kept : List (ObjectState T)
    pub in_order : idle ≡ rest ++ kept
    pub left_over : length rest ≡ left
    pub sorts : (after : Sorting F T) → FoldsTo (Sorts called) (record { test = test; kept = kept; removed = removed }) rest after → SortsAll called first all after

  pub Asking-start : (removed : List T) (left : ℕ) → removed ≡ [] → length all ≡ left → Asking first all removed left
  Asking-start removed left none so_many = record {
    rest = all;
    kept = [];
    in_order = sym (append-nil all);
    left_over = so_many;
    sorts = λ after sorted. subst (λ (gone : List T). FoldsTo (Sorts called) (record { test = first; kept = []; removed = gone }) all after) none sorted;
  }

  pub Asking-end : (test : F) (idle : List (ObjectState T)) (removed : List T) (left : ℕ) → Asking test idle removed left → left ≡ 0 → SortsAll called first all (record { test = test; kept = idle; removed = removed })
  Asking-end test idle removed left asking nobody = at asking.rest asking.in_order (asking.left_over ∙ nobody) asking.sorts
    where
      at : (rest : List (ObjectState T)) → idle ≡ rest ++ asking.kept → length rest ≡ 0
          → ((after : Sorting F T) → FoldsTo (Sorts called) (record { test = test; kept = asking.kept; removed = removed }) rest after → SortsAll called first all after)
          → SortsAll called first all (record { test = test; kept = idle; removed = removed })
      at [] same none sorts = sorts (record { test = test; kept = idle; removed = removed }) (ap (λ (kept : List (ObjectState T)). let s : Sorting F T = record { test = test; kept = kept; removed = removed } in s) (sym same))
      at (object ∷ rest) same none sorts = absurd (omega arith)

  pub Asking-next : (test : F) (idle : List (ObjectState T)) (removed : List T) (more left : ℕ) (after : Sorting F T)
      → Asking test idle removed more → more ≡ left + 1 → AsksFirst called idle test removed after → Asking after.test after.kept after.removed left
  Asking-next test idle removed more left after asking one_more asks = at asking.rest asking.in_order asking.left_over asking.sorts
    where
      at : (rest : List (ObjectState T)) → idle ≡ rest ++ asking.kept → length rest ≡ more
          → ((last : Sorting F T) → FoldsTo (Sorts called) (record { test = test; kept = asking.kept; removed = removed }) rest last → SortsAll called first all last)
          → Asking after.test after.kept after.removed left
      at [] same none sorts = absurd (omega arith)
      at (object ∷ rest) same so_many sorts =
          let here : object ≡ asks.object = cc (same, asks.first) in
          let others : asks.others ≡ rest ++ asking.kept = cc (same, asks.first) in
          moved rest sorts (omega arith) (subst (λ (one : ObjectState T). Sorts called (record { test = test; kept = asks.others; removed = removed }) one after) (sym here) asks.sorted) others
        where
          moved : (rest : List (ObjectState T))
              → ((last : Sorting F T) → FoldsTo (Sorts called) (record { test = test; kept = asking.kept; removed = removed }) (object ∷ rest) last → SortsAll called first all last)
              → length rest ≡ left
              → Sorts called (record { test = test; kept = asks.others; removed = removed }) object after
              → asks.others ≡ rest ++ asking.kept
              → Asking after.test after.kept after.removed left
          moved rest sorts so_many (true, mine, called, kept, gone) others =
              record {
                rest = rest;
                kept = asking.kept ++ record object { o = mine } ∷ [];
                in_order = kept ∙ ap (λ (l : List (ObjectState T)). l ++ record object { o = mine } ∷ []) others ∙ append_assoc rest asking.kept (record object { o = mine } ∷ []);
                left_over = so_many;
                sorts = λ last folds. sorts last (record { test = after.test; kept = asking.kept ++ record object { o = mine } ∷ []; removed = after.removed }, (true, mine, called, refl, gone), folds);
              }
          moved rest sorts so_many (false, mine, called, kept, gone) others =
              record {
                rest = rest;
                kept = asking.kept;
                in_order = kept ∙ others;
                left_over = so_many;
                sorts = λ last folds. sorts last (record { test = after.test; kept = asking.kept; removed = after.removed }, (false, mine, called, refl, gone), folds);
              }
