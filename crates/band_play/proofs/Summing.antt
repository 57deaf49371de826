-- What playing a bulk script in memory comes to, and the writing of its summary.
use Rattle.std.proofs.Common.{◌≡◌, ℕ, suc, ◌+◌, ◌≤◌, List, [], ◌∷◌, ◌++◌, length, take, drop, Option, Some, None, Result, Ok, Err, IfOk, OnOk, IfErr, refl, sym, ap, ◌∙◌, subst, arith, append-nil, take-append-drop}
use Rattle.band_base.specs.Device.{Rose}
use Rattle.band_script.specs.declared.call.Call.{Call}
use Rattle.band_script.specs.Grammar.{call_of}
use Rattle.band_rules.specs.Joined.{joiners_of}
use Rattle.band_rules.specs.Script.{Verdict, Good, Malformed, TooLong, verdict, lines_of, calls_of, calls_from, calls_within, transcript}
use Rattle.band_play.specs.declared.fault.PlayFault.{PlayFault}
use Rattle.band_play.specs.declared.fault.PlayFault.TheVariants as faults
use Rattle.band_play.specs.Bulk.{bulk_calls, bulk_script, most_requests}
use Rattle.band_play.specs.Play.{End, Answers, program_limit}
use Rattle.band_play.specs.Visits.{VisitsFew, AddsFew}
use Rattle.band_play.proofs.BulkLines.{script_lines, calls_of_bulk, verdict_of_bulk}
use Rattle.band_play.proofs.LineCuts.{count_lines-append}

-- a source and a sink in memory, which never fail
abbrev pub memory_end : List ℕ → List ℕ → End
memory_end before after = record { before = Some before; after = Some after; faults = 0; faults_now = 0 }

never_rose : Rose 0 0 → ⊥
never_rose rose = absurd (omega arith)

abbrev good_lines : Verdict → ℕ
good_lines (Good lines) = lines
good_lines verdict = 0

-- a line stands for one call at most
calls_at_most : (lines : List (List ℕ)) → length (calls_of lines) ≤ length lines
calls_at_most [] = omega arith
calls_at_most (line ∷ lines) = go (call_of line) (calls_at_most lines)
  where
    go : (call : Option Call) → length (calls_of lines) ≤ length lines → length (calls_from call (calls_of lines)) ≤ suc (length lines)
    go None fewer = omega arith
    go (Some call) fewer = omega (arith, fewer)

module _ (n : ℕ) (low : n ≤ most_requests) (script : List ℕ) (made : script ≡ bulk_script n) where
  same_verdict : (outcome : Verdict) → verdict program_limit script ≡ outcome → outcome ≡ Good (length (bulk_calls n))
  same_verdict outcome is = sym is ∙ ap (λ bytes. verdict program_limit bytes) made ∙ verdict_of_bulk n low

  -- of the script as it was made
  pub has_lines : (answer : Result ℕ PlayFault) (left old new : List ℕ) → Answers answer program_limit (memory_end script left) (memory_end old new)
      → IfOk answer (λ lines. lines ≡ length (bulk_calls n))
  has_lines (Ok lines) left old new says = ap good_lines (same_verdict (Good lines) says.0.0)
  has_lines (Err fault) left old new says = tt

  pub has_transcript : (answer : Result ℕ PlayFault) (left old new : List ℕ) → Answers answer program_limit (memory_end script left) (memory_end old new)
      → OnOk answer (new ≡ old ++ transcript (bulk_calls n))
  has_transcript (Ok lines) left old new says = says.0.1 ∙ ap (λ calls. old ++ transcript calls) (ap (λ bytes. calls_within program_limit bytes) made ∙ calls_of_bulk n low)
  has_transcript (Err fault) left old new says = tt

  pub lacks_memory : (answer : Result ℕ PlayFault) (left old new : List ℕ) → Answers answer program_limit (memory_end script left) (memory_end old new)
      → IfErr answer (λ fault. fault ≡ faults.NoMemory)
  lacks_memory (Ok lines) left old new says = tt
  lacks_memory (Err (faults.Malformed line)) left old new says = let e = same_verdict (Malformed line) says.0 in cc
  lacks_memory (Err faults.TooLong) left old new says = let e = same_verdict TooLong says.0.0 in cc
  lacks_memory (Err faults.Read) left old new says = absurd (never_rose says.0)
  lacks_memory (Err faults.Write) left old new says = absurd (never_rose says)
  lacks_memory (Err faults.NoMemory) left old new says = refl

  pub visits_few : (answer : Result ℕ PlayFault) (left : List ℕ) (before after : ℕ) → VisitsFew program_limit (Some script) (Some left) answer before after
      → AddsFew (length (bulk_calls n)) before after
  visits_few answer left before after few =
      let given = few.taken.0 in
      let cut = take program_limit given in
      let calls = calls_at_most (lines_of cut) in
      let all = ap (λ bytes. length (lines_of bytes)) made ∙ script_lines n low in
      let parts = ap (λ bytes. length (lines_of bytes)) few.taken.1 ∙ count_lines-append given left in
      let front = ap (λ bytes. length (lines_of bytes)) (sym (take-append-drop program_limit given)) ∙ count_lines-append cut (drop program_limit given) in
      (few.no_fewer, omega (arith, few.taken.2, calls, all, parts, front))

  pub visits_joiners : (answer : Result ℕ PlayFault) (left old new : List ℕ) (before after : ℕ) → Answers answer program_limit (memory_end script left) (memory_end old new)
      → VisitsFew program_limit (Some script) (Some left) answer before after → OnOk answer (before + joiners_of (bulk_calls n) ≤ after)
  visits_joiners (Ok lines) left old new before after says few =
      let whole : few.joined.0 ≡ script = sym (few.joined.1 ∙ ap (λ l. few.joined.0 ++ l) says.1 ∙ append-nil few.joined.0) in
      subst (λ calls. before + joiners_of calls ≤ after) (ap (λ bytes. calls_within program_limit bytes) (whole ∙ made) ∙ calls_of_bulk n low) few.joined.2
  visits_joiners (Err fault) left old new before after says few = tt
