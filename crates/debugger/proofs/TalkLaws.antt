-- A session, line after line.
use Rattle.std.proofs.Common.{◌≡◌, ◌∙◌, ℕ, Bool, true, false, List, [], ◌∷◌, ◌++◌, refl, sym, ap}
use Rattle.std.proofs.Common.{append_assoc, subst}
use Rattle.std.proofs.lemmas.List.{append-nil}
use Rattle.asm_text.specs.Appended.{Appends}
use Rattle.image.specs.Labels.{Names}
use Rattle.debugger.specs.SessionState.{SessionState}
use Rattle.debugger.specs.Conversation.{Converses, AnswersOrRefuses, Unless, is_quit}

-- by the labels of the source
module _ (names : Names) where
  abbrev pub TalkSoFar : SessionState → List (List ℕ) → SessionState → List (List ℕ) → (text : List ℕ) → Type 0
  TalkSoFar start lines now left text =
      (more : List ℕ) → Converses names now left more → Converses names start lines (text ++ more)

  answered_end : (start : SessionState) (lines : List (List ℕ)) (now : SessionState) (left : List (List ℕ))
      (text : List ℕ) → TalkSoFar start lines now left text → Converses names now left [] → Converses names start lines text
  answered_end start lines now left text so_far rest =
      subst (Converses names start lines) (append-nil text) (so_far [] rest)

  -- no line is left
  pub talk_ends : (start : SessionState) (lines : List (List ℕ)) (now : SessionState) (left : List (List ℕ))
      (text : List ℕ) → TalkSoFar start lines now left text → left ≡ [] → Converses names start lines text
  talk_ends start lines now left text so_far none =
      answered_end start lines now left text so_far
      (subst (λ (ls : List (List ℕ)). Converses names now ls []) (sym none) refl)

  -- a line quits
  pub talk_quits : (start : SessionState) (lines : List (List ℕ)) (now : SessionState) (left : List (List ℕ))
      (text line : List ℕ) (rest : List (List ℕ))
      → TalkSoFar start lines now left text → left ≡ line ∷ rest → is_quit line ≡ true
      → Converses names start lines text
  talk_quits start lines now left text line rest so_far at_hand quits =
      let P : Bool → Type 0 =
      λ b. Unless b [] ((own : List ℕ) × (after : SessionState) × AnswersOrRefuses names now line own after
      × (more : List ℕ) × Converses names after rest more × ([] ≡ own ++ more)) in
      answered_end start lines now left text so_far
      (subst (λ (ls : List (List ℕ)). Converses names now ls []) (sym at_hand) (subst P (sym quits) refl))

  -- a line is answered
  pub talk_goes : (start : SessionState) (lines : List (List ℕ)) (now next : SessionState)
      (left : List (List ℕ)) (old new line : List ℕ) (rest : List (List ℕ))
      → TalkSoFar start lines now left old → left ≡ line ∷ rest → is_quit line ≡ false
      → Appends (λ text. AnswersOrRefuses names now line text next) old new → TalkSoFar start lines next rest new
  talk_goes start lines now next left old new line rest so_far at_hand stays adds more stepped =
      let whole = adds.0 ++ more in
      let P : Bool → Type 0 =
      λ b. Unless b whole ((own : List ℕ) × (after : SessionState) × AnswersOrRefuses names now line own after
      × (later : List ℕ) × Converses names after rest later × (whole ≡ own ++ later)) in
      let here : Converses names now left whole =
      subst (λ (ls : List (List ℕ)). Converses names now ls whole) (sym at_hand)
      (subst P (sym stays) (adds.0, next, adds.1, more, stepped, refl)) in
      subst (Converses names start lines) (sym (append_assoc old adds.0 more)
      ∙ ap (λ (t : List ℕ). t ++ more) (sym adds.2)) (so_far whole here)
