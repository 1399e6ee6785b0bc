-- A list of numbers that is spelled word by word.
use Rattle.std.proofs.Common.{◌≡◌, ◌≢◌, ◌∙◌, ℕ, ◌<◌, ◌≤◌, ◌^◌, List, [], ◌∷◌, ◌++◌, length, map, All, suc, ◌+◌, refl, sym, ap, subst, arith, append_assoc, append-nil, length-append, Option, Some, None, IfSome, IsNone, MatchOption, ◌↔◌, true≢false}
use Rattle.std.specs.List.{AllByRecursion, join_with_byte}
use Rattle.std.proofs.lemmas.List.Elements.{All-push, recursion_from_All}
use Rattle.std.proofs.lemmas.List.{map_push}
use Rattle.std.specs.Str.Iter.{LacksByte}
use Rattle.asm_text.specs.Hex.{hex}
use Rattle.certificate.specs.Words.{AreCalls, list_words}
use Rattle.certificate.proofs.JoinLaws.{join_cut, join_end, join_whole, marked}

-- the numbers that are still to be read, and their words
pub record Ahead (mark : ℕ) (spell : ℕ → List ℕ) (all read : List ℕ) (words : List ℕ) : Type 0 where
  pub first : ℕ
  pub left : List ℕ
  pub all_are : all ≡ read ++ first ∷ left
  pub words_are : words ≡ join_with_byte mark (spell first ∷ map spell left)

module _ (mark : ℕ) (spell : ℕ → List ℕ) where
  pub joined_end : (ns : List ℕ) (n : ℕ) → join_with_byte mark (map spell (ns ++ n ∷ [])) ≡ marked mark (map spell ns) ++ spell n
  joined_end ns n = ap (join_with_byte mark) (map_push spell ns n) ∙ join_end mark (map spell ns) (spell n)

  pub marked_end : (ns : List ℕ) (n : ℕ) (rest : List ℕ) → marked mark (map spell ns) ++ (spell n ++ mark ∷ rest) ≡ marked mark (map spell (ns ++ n ∷ [])) ++ rest
  marked_end [] n rest = sym (ap (λ (x : List ℕ). x ++ rest) (append-nil (spell n ++ mark ∷ [])) ∙ append_assoc (spell n) (mark ∷ []) rest)
  marked_end (m ∷ ns) n rest =
      append_assoc (spell m ++ mark ∷ []) (marked mark (map spell ns)) (spell n ++ mark ∷ rest)
      ∙ ap (λ (x : List ℕ). (spell m ++ mark ∷ []) ++ x) (marked_end ns n rest)
      ∙ sym (append_assoc (spell m ++ mark ∷ []) (marked mark (map spell (ns ++ n ∷ []))) rest)

  -- the next word spells the next number
  pub next_word : (all read words word after : List ℕ) → (ahead : Ahead mark spell all read words) → LacksByte mark (spell ahead.first) → LacksByte mark word
      → words ≡ word ++ mark ∷ after → (word ≡ spell ahead.first) × Ahead mark spell all (read ++ ahead.first ∷ []) after
  next_word all read words word after ahead lacks free e =
      let cut = join_cut mark (spell ahead.first) (map spell ahead.left) word after lacks free (sym ahead.words_are ∙ e) in
      (cut.first_is, by ahead.left ahead.all_are cut.next cut.rest cut.words_are cut.after_is)
    where
      by : (left : List ℕ) → all ≡ read ++ ahead.first ∷ left → (next : List ℕ) (rest : List (List ℕ)) → map spell left ≡ next ∷ rest → after ≡ join_with_byte mark (next ∷ rest) → Ahead mark spell all (read ++ ahead.first ∷ []) after
      by [] is next rest e f = absurd (cc e)
      by (x ∷ left) is next rest e f =
          record { first = x; left = left; all_are = is ∙ sym (append_assoc read (ahead.first ∷ []) (x ∷ left)); words_are = f ∙ ap (join_with_byte mark) (sym e) }

  -- the last word spells the last number
  pub last_word : (all read words : List ℕ) → (ahead : Ahead mark spell all read words) → LacksByte mark words → (words ≡ spell ahead.first) × (all ≡ read ++ ahead.first ∷ [])
  last_word all read words ahead lacks =
      let none = join_whole mark (spell ahead.first) (map spell ahead.left) (subst (LacksByte mark) ahead.words_are lacks) in
      by ahead.left ahead.all_are ahead.words_are none
    where
      by : (left : List ℕ) → all ≡ read ++ ahead.first ∷ left → words ≡ join_with_byte mark (spell ahead.first ∷ map spell left) → map spell left ≡ [] → (words ≡ spell ahead.first) × (all ≡ read ++ ahead.first ∷ [])
      by [] is e f = (e, is)
      by (x ∷ left) is e f = absurd (cc f)

-- ## Calls

pub calls_end : (calls : List ℕ) (a : ℕ) → list_words (calls ++ a ∷ []) ≡ marked 47 (map hex calls) ++ hex a
calls_end [] a = joined_end 47 hex [] a
calls_end (b ∷ calls) a = joined_end 47 hex (b ∷ calls) a

-- a number in the list is in range, and there is room for it
pub next_fits : (all read words : List ℕ) (ahead : Ahead 47 hex all read words) → AreCalls all → (ahead.first < 2 ^ 26) × (length read < 8)
next_fits all read words ahead fits =
    let long : length all ≡ length read + suc (length ahead.left) = ap length ahead.all_are ∙ length-append read (ahead.first ∷ ahead.left) in
    (inside read (subst (AllByRecursion (λ c. c < 2 ^ 26)) ahead.all_are (recursion_from_All _ all fits.1)), omega (arith, long, fits.0))
  where
    inside : (before : List ℕ) → AllByRecursion (λ c. c < 2 ^ 26) (before ++ ahead.first ∷ ahead.left) → ahead.first < 2 ^ 26
    inside [] small = small.0
    inside (b ∷ before) small = inside before small.1

abbrev Spells : List ℕ → List ℕ → Type 0
Spells word calls = AreCalls calls × (word ≡ list_words calls)

-- the last word's number is added where there is room
pub calls_result : (r : Option (List ℕ)) (word read rest : List ℕ) (a : ℕ) → IfSome r (λ calls. calls ≡ read ++ a ∷ []) → (IsNone r ↔ (length read ≡ 8)) → length read ≤ 8
    → All (λ c. c < 2 ^ 26) read → a < 2 ^ 26 → word ≡ marked 47 (map hex read) ++ rest → rest ≡ hex a → ((calls : List ℕ) → AreCalls calls → word ≡ list_words calls → Ahead 47 hex calls read rest)
    → MatchOption r ((calls : List ℕ) → AreCalls calls → word ≡ list_words calls → ⊥) (Spells word)
calls_result None word read rest a longer full few small fits whole is ahead = λ calls are e.
    let fit = next_fits calls read rest (ahead calls are e) are in
    let eight : length read ≡ 8 = full.0 refl in
    absurd (omega (arith, eight, fit.1))
calls_result (Some calls) word read rest a longer full few small fits whole is ahead =
    let room : length read ≢ 8 = λ e. true≢false (full.1 e) in
    let long : length (read ++ a ∷ []) ≡ length read + 1 = length-append read (a ∷ []) in
    let are : AreCalls (read ++ a ∷ []) = (omega (arith, long, room, few), All-push (λ c. c < 2 ^ 26) read a small fits) in
    subst (Spells word) (sym longer) (are, whole ∙ ap (λ (x : List ℕ). marked 47 (map hex read) ++ x) is ∙ sym (calls_end read a))
