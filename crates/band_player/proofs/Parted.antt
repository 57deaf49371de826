-- A name whose token was taken out for a call and put back, and another name that came meanwhile.
use Rattle.std.proofs.Common.{◌≡◌, ℕ, false, cond, List, Option, sym, ap, ◌∙◌}
use Rattle.std.specs.Str.{bytes_eq}
use Rattle.std.proofs.lemmas.Bool.{cond-true, cond-false}
use Rattle.band_balance.proofs.Held.{by_bool}
use Rattle.band_balance.proofs.Rules.{bytes_told}
use Rattle.band_player.specs.Names.{Updated}
use Rattle.band_player.specs.Thing.{Thing}
use Rattle.band_player.proofs.Acting.{updated_same}

module _ (t0 t1 t2 t3 : List ℕ → Option Thing) (name made : List ℕ) (room v w : Option Thing) (apart : bytes_eq name made ≡ false)
    (out : Updated t0 t1 name room) (added : Updated t1 t2 made w) (back : Updated t2 t3 name v) where
  -- the name changed first
  abbrev pub between : List ℕ → Option Thing
  between n = cond (bytes_eq name n) v (t0 n)

  pub changed_first : Updated t0 between name v
  changed_first = record { here = λ n same. cond-true (bytes_eq name n) v (t0 n) same; others = λ n other. cond-false (bytes_eq name n) v (t0 n) other }

  pub then_added : Updated between t3 made w
  then_added = record {
    here = λ n same. back.others n (ap (bytes_eq name) (sym (bytes_told.equal made n same)) ∙ apart) ∙ added.here n same;
    others = λ n other. by_bool (bytes_eq name n)
        (λ same. back.here n same ∙ sym (cond-true (bytes_eq name n) v (t0 n) same))
        (λ apart_n. back.others n apart_n ∙ added.others n other ∙ out.others n apart_n ∙ sym (cond-false (bytes_eq name n) v (t0 n) apart_n));
  }

-- a name that was taken out and put back as it was
pub as_before : (t0 t1 t2 t3 : List ℕ → Option Thing) (name : List ℕ) (room v : Option Thing) → Updated t0 t1 name room → ((n : List ℕ) → t2 n ≡ t1 n) → Updated t2 t3 name v → t0 name ≡ v
    → (n : List ℕ) → t3 n ≡ t0 n
as_before t0 t1 t2 t3 name room v out same back is =
    updated_same t0 t3 name v (record { here = back.here; others = λ n other. back.others n other ∙ same n ∙ out.others n other }) is
