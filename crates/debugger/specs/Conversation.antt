-- A whole session.
use Rattle.std.specs.Prelude.{◌≡◌, ◌⊎◌, ℕ, Bool, true, false, List, [], ◌∷◌, ◌++◌, codes}
use Rattle.std.specs.Str.{bytes_eq}
use Rattle.image.specs.Labels.{Names}
use Rattle.debugger.specs.declared.fault.DebugFault.{DebugFault}
use Rattle.debugger.specs.Answers.{AnswersLine, RefusesLine}
use Rattle.debugger.specs.Faults.{fault_name}
use Rattle.debugger.specs.SessionState.{SessionState}
use Rattle.debugger.specs.Words.{words_of}

abbrev pub refusal_text : DebugFault → List ℕ
refusal_text fault = codes "refused: " ++ (fault_name fault ++ codes "\n")

abbrev pub is_quit_in : List (List ℕ) → Bool
is_quit_in (word ∷ []) = bytes_eq word (codes "quit")
is_quit_in _ = false

-- its one word is `quit`
abbrev pub is_quit : List ℕ → Bool
is_quit line = is_quit_in (words_of line)

abbrev pub Unless : Bool → List ℕ → (goes_on : Type 0) → Type 0
Unless true text goes_on = text ≡ []
Unless false text goes_on = goes_on

-- a command changes the session and adds its answer; a refused one adds a line that names why
abbrev pub AnswersOrRefuses : Names → SessionState → (line text : List ℕ) → SessionState → Type 0
AnswersOrRefuses names s line text after =
    AnswersLine names s line text after
    ⊎ ((fault : DebugFault) × RefusesLine names s line fault × (text ≡ refusal_text fault) × (after ≡ s))

-- what a session answers to some lines, in their order, up to one that quits, by the labels of the source
abbrev pub Converses : Names → SessionState → (lines : List (List ℕ)) → (text : List ℕ) → Type 0
Converses names s [] text = text ≡ []
Converses names s (line ∷ rest) text = Unless (is_quit line) text (
    (own : List ℕ) × (after : SessionState) × AnswersOrRefuses names s line own after × (more : List ℕ)
    × Converses names after rest more × (text ≡ own ++ more))
