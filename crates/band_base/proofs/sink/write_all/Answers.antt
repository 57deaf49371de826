use Rattle.std.proofs.Common.{◌≡◌, ℕ, false, [], ◌∷◌, ◌-◌, ◌<◌, ◌≤◌, List, take, drop, length, length-drop, arith}
use Rattle.std.proofs.lemmas.List.{take_rest}
use Rattle.std.specs.Bool.{◌==◌}
use Rattle.band_base.proofs.Devices.{nothing_yet, part_appended}
use Rattle.band_base.proofs.sink.write_all.Goals as goal

some_left : (rest : List ℕ) → false ≡ (length rest == 0) → 0 < length rest
some_left [] e = cc
some_left (byte ∷ rest) e = omega arith

smaller : (rest : List ℕ) (n : ℕ) → 0 < length rest → (0 < length rest → 0 < n) → n ≤ length rest → length (take (length rest - n) (drop n rest)) < length rest
smaller rest n some moves within = rw (take_rest rest n, length-drop n rest) (let moved : 0 < n = moves some in omega arith)

pub loop-rest-init : goal.loop-rest-init
loop-rest-init g c = record { appended = nothing_yet _ _; never_fall = omega arith }

pub loop-rest-preserved : goal.loop-rest-preserved
loop-rest-preserved g c = record {
  appended = part_appended _ _ _ _ _ _ c.loop-rest.invariant.appended c.in_ok-count.ensures.adds;
  never_fall = omega (arith, c.write.ensures.never_fall, c.loop-rest.invariant.never_fall);
}

pub loop-rest-smaller : goal.loop-rest-smaller
loop-rest-smaller g c = smaller c.loop-rest.rest.now c.in_ok-count.count (some_left _ c.loop-rest-test.ensures) c.in_ok-count.ensures.some c.in_ok-count.ensures.count
