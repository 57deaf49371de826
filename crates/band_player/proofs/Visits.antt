-- What each call pays for its visits, of one object and of all.
use Rattle.std.proofs.Common.{◌≡◌, ℕ, ◌*◌, ◌<◌, List, length, Result, Ok, Err, OnOk, OnErr, refl, ap, subst, arith}
use Rattle.std.specs.List.{slice_set}
use Rattle.std.specs.Prelude.{slice_index_or as get_or}
use Rattle.std.proofs.lemmas.List.Sums.{sum_by-set}
use Rattle.band_line.specs.Visits.{Visits}
use Rattle.band_sem.specs.Semaphore.{SemaphoreState, IsLike, new_debts, released, reduced}
use Rattle.band_sem.specs.Visits.{FewVisits, Pays, burden}
use Rattle.band_sem.proofs.Visits.{pays-released, pays-reduced}
use Rattle.band_player.specs.Objects.{ObjectState, shares_of}
use Rattle.band_player.specs.Visits.{load}

-- nothing was visited, and the lines stay
pub pays_nothing : {held before : ℕ} → Pays held held before before
pays_nothing = record { no_fewer = omega arith; no_more = omega arith }

-- few visits, and the line stays
pays_still : (old new : SemaphoreState) {before after : ℕ} → new ≡ old → FewVisits old new before after → Pays (burden old) (burden new) before after
pays_still old new {before} {after} is few =
    let same = subst (λ (s : SemaphoreState). FewVisits old s before after) is few in
    let stays = ap burden is in
    record { no_fewer = few.no_fewer; no_more = omega (arith, stays, same.no_more) }

-- one object of all
pub pays_at : (objects : List ObjectState) (place : ℕ) (old new : ObjectState) {before after : ℕ} → place < length objects → old ≡ get_or objects place old
    → Pays (burden (shares_of old)) (burden (shares_of new)) before after → Pays (load objects) (load (slice_set objects place new)) before after
pays_at objects place old new within read pays =
    let same = sum_by-set (λ (o : ObjectState). burden (shares_of o)) objects place new old within in
    let was = ap (λ (o : ObjectState). burden (shares_of o)) read in
    record { no_fewer = pays.no_fewer; no_more = omega (arith, same, was, pays.no_more) }

pub releases_pay : {X E : Type 0} (n : ℕ) (result : Result X E) (old new : SemaphoreState) {before after : ℕ} → OnOk result (IsLike (released n old) new) → OnErr result (new ≡ old)
    → FewVisits old new before after → Pays (burden old) (burden new) before after
releases_pay n (Ok done) old new ok err few = pays-released n old new ok few
releases_pay n (Err error) old new ok err few = pays_still old new err few

pub reduces_pay : {X E : Type 0} (n : ℕ) (result : Result X E) (old new : SemaphoreState) {before after : ℕ} → OnOk result (new ≡ reduced n old) → OnErr result (new ≡ old)
    → Visits 0 (2 * new_debts n old.line) before after → Pays (burden old) (burden new) before after
reduces_pay n (Ok done) old new ok err visits = pays-reduced n old new ok visits
reduces_pay n (Err error) old new ok err visits =
    let paid = pays-reduced n old (reduced n old) refl visits in
    let stays = ap burden err in
    record { no_fewer = paid.no_fewer; no_more = omega (arith, stays, paid.no_more) }
