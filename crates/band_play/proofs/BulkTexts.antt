-- How the script of a bulk grows by the lines of a request.
use Rattle.std.proofs.Common.{◌≡◌, ℕ, zero, suc, ◌+◌, ◌-◌, ◌*◌, ◌%◌, ◌≤◌, List, [], ◌∷◌, ◌++◌, refl, sym, ap, ◌∙◌, append_assoc, arith}
use Rattle.std.specs.Prelude.{codes, decimal, filter, map}
use Rattle.std.specs.Fmt.{digits}
use Rattle.std.specs.List.{range_with_len}
use Rattle.std.proofs.lemmas.Grind.{flat_map-append}
use Rattle.std.proofs.lemmas.List.{map-append}
use Rattle.std.proofs.lemmas.List.Elements.{filter-append}
use Rattle.band_script.specs.declared.call.Call.{Call}
use Rattle.band_script.specs.declared.call.Call.TheVariants.{Sem, Release}
use Rattle.band_play.specs.Bulk.{script_of, ended_line, ask_for, drop_of, poll_of, gives_up, stays, asks, drops, polls, numbers_to, bulk_script}

range_more : (a n : ℕ) → range_with_len a (suc n) ≡ range_with_len a n ++ (a + n) ∷ []
range_more a zero = ap (λ i. i ∷ []) (omega arith)
range_more a (suc n) =
    let last : (a + 1) + n ≡ a + suc n = omega arith in
    ap (λ more. a ∷ more) (range_more (a + 1) n ∙ ap (λ i. range_with_len (a + 1) n ++ i ∷ []) last)

numbers_more : (i : ℕ) → 1 ≤ i → numbers_to (i + 1 - 1) ≡ numbers_to (i - 1) ++ i ∷ []
numbers_more i some =
    let next : i + 1 - 1 ≡ suc (i - 1) = omega arith in
    let last : 1 + (i - 1) ≡ i = omega arith in
    ap numbers_to next ∙ range_more 1 (i - 1) ∙ ap (λ k. numbers_to (i - 1) ++ k ∷ []) last

-- the calls of more numbers come after
abbrev pub Follows : (List ℕ → List Call) → Type 0
Follows calls = (first second : List ℕ) → calls (first ++ second) ≡ calls first ++ calls second

pub asks_follow : Follows asks
asks_follow first second = map-append ask_for first second

pub drops_follow : Follows drops
drops_follow first second = ap (λ kept. map drop_of kept) (filter-append gives_up first second) ∙ map-append drop_of (filter gives_up first) (filter gives_up second)

pub polls_follow : Follows polls
polls_follow first second = ap (λ kept. map poll_of kept) (filter-append stays first second) ∙ map-append poll_of (filter stays first) (filter stays second)

-- the lines of one request more
pub grows : (calls : List ℕ → List Call) → Follows calls → (before now new : List ℕ) (i : ℕ) → 1 ≤ i → now ≡ before ++ script_of (calls (numbers_to (i - 1)))
    → new ≡ now ++ script_of (calls (i ∷ [])) → new ≡ before ++ script_of (calls (numbers_to (i + 1 - 1)))
grows calls follow before now new i some is more =
    more ∙ ap (λ text. text ++ script_of (calls (i ∷ []))) is
    ∙ append_assoc before (script_of (calls (numbers_to (i - 1)))) (script_of (calls (i ∷ [])))
    ∙ ap (λ text. before ++ text) (sym (ap (λ numbers. script_of (calls numbers)) (numbers_more i some)
    ∙ ap script_of (follow (numbers_to (i - 1)) (i ∷ []))
    ∙ flat_map-append ended_line (calls (numbers_to (i - 1))) (calls (i ∷ []))))

-- those of all of them
pub ends : (calls : List ℕ → List Call) (before now : List ℕ) (i n : ℕ) → i - 1 ≡ n → now ≡ before ++ script_of (calls (numbers_to (i - 1))) → now ≡ before ++ script_of (calls (numbers_to n))
ends calls before now i n last is = is ∙ ap (λ k. before ++ script_of (calls (numbers_to k))) last

-- a line of `sem`, and what `0` is written as
pub zero_is : decimal 0 ≡ 48 ∷ []
unfolding digits
zero_is = refl

-- how many one asks for, from what is left of its number by 3
pub told_size : (i rest : ℕ) → i % 3 ≡ rest → codes " s " ++ decimal (1 + rest) ++ codes " " ≡ codes " s " ++ decimal (1 + i % 3) ++ codes " "
told_size i rest is = ap (λ k. codes " s " ++ decimal (1 + k) ++ codes " ") (sym is)

pub whole : (n : ℕ) (begin asked dropped released all : List ℕ) → begin ≡ codes "sem s 0" ++ 10 ∷ [] → asked ≡ begin ++ script_of (asks (numbers_to n))
    → dropped ≡ asked ++ script_of (drops (numbers_to n)) → released ≡ dropped ++ script_of (Release (codes "s") (2 * n) ∷ []) → all ≡ released ++ script_of (polls (numbers_to n))
    → all ≡ bulk_script n
unfolding digits
whole n begin asked dropped released all begin_is asked_is dropped_is released_is all_is =
    let first = Sem (codes "s") 0 ∷ asks (numbers_to n) in
    let R = ended_line (Release (codes "s") (2 * n)) in
    let D = script_of (drops (numbers_to n)) in
    let P = script_of (polls (numbers_to n)) in
    all_is ∙ ap (λ text. text ++ P) (released_is ∙ ap (λ text. text ++ (R ++ [])) (dropped_is ∙ ap (λ text. text ++ D)
    (asked_is ∙ ap (λ text. text ++ script_of (asks (numbers_to n))) begin_is)))
    ∙ append_assoc (script_of first ++ D) (R ++ []) P ∙ ap (λ text. (script_of first ++ D) ++ text) (append_assoc R [] P)
    ∙ sym (flat_map-append ended_line (first ++ drops (numbers_to n)) (Release (codes "s") (2 * n) ∷ polls (numbers_to n))
    ∙ ap (λ text. text ++ (R ++ P)) (flat_map-append ended_line first (drops (numbers_to n))))
