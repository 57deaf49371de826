-- How the lines of a script are told.
use Rattle.std.specs.Prelude.{◌≡◌, ℕ, Bool, false, ◌==◌, List, ◌++◌}
use Rattle.std.specs.List.{All}
use Rattle.band_script.specs.declared.call.Call.{Call}
use Rattle.band_player.specs.declared.player.Player.{Player}
use Rattle.band_rules.specs.State.{State}
use Rattle.band_rules.specs.Step.{step}
use Rattle.band_rules.specs.Text.{effect_text}
use Rattle.band_player.specs.Player.{StandsFor}

abbrev pub is_newline : ℕ → Bool
is_newline byte = byte == 10

-- no newline stands in it
abbrev pub HasNoNewline : List ℕ → Type 0
HasNoNewline bytes = All (λ byte. is_newline byte ≡ false) bytes

-- the text that a call's outcome has in the transcript
abbrev pub text_after : Call → State → List ℕ
text_after call state = effect_text (step call state).reply (step call state).woken

-- the call's text was added, and the player came to the call's state
abbrev pub Tells : Call → Player → Player → List ℕ → List ℕ → Type 0
Tells call old new before after =
    (state : State) → StandsFor old state →
    (after ≡ before ++ text_after call state) × StandsFor new (step call state).state
