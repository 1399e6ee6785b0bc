-- What the lines that are read say of the text.
use Rattle.std.proofs.Common.{◌≡◌, ◌≢◌, ◌∙◌, ℕ, ◌+◌, List, [], ◌∷◌, ◌++◌, Option, Some, None, length, sym, ap, subst, append_assoc, length-append}
use Rattle.std.proofs.lemmas.List.{flat_map_more}
use Rattle.std.specs.Str.Iter.{LacksByte}
use Rattle.asm_text.proofs.WordLaws.{all_join}
use Rattle.certificate.specs.declared.draft.Stage.{Stage}
use Rattle.certificate.specs.declared.draft.Stage.TheVariants as s
use Rattle.certificate.specs.declared.line.WalkLine.{WalkLine}
use Rattle.certificate.specs.declared.line.Line.{Line}
use Rattle.certificate.specs.declared.line.Line.TheVariants as l
use Rattle.certificate.specs.Faults.{Follow, StopsAt}
use Rattle.certificate.specs.Follows.{Reached, follows, in_walk, next_stage, start}
use Rattle.certificate.specs.Walk.{Nest, nest_after}
use Rattle.certificate.specs.Words.{LineFits, ended, line_words, text_of}
use Rattle.certificate.proofs.FollowLaws.{follow-end}
use Rattle.certificate.proofs.ParseLaws.{not_done}
use Rattle.certificate.proofs.TextLaws.{one_line}

-- a line that is cut off
pub cut_off : (text : List ℕ) (lines : List Line) (rest words after : List ℕ) → text ≡ text_of lines ++ rest → rest ≡ words ++ 10 ∷ after → text ≡ text_of lines ++ (ended words ++ after)
cut_off text lines rest words after e cut = e ∙ ap (λ (t : List ℕ). text_of lines ++ t) (cut ∙ sym (append_assoc words (10 ∷ []) after))

-- what is read, and what is left
pub record Front (text : List ℕ) (lines : List Line) (to : Reached) (rest : List ℕ) : Type 0 where
  pub follow : Follow lines to
  pub text_is : text ≡ text_of lines ++ rest
  pub count : ℕ
  pub count_is : count ≡ length lines

pub front_grows : (text : List ℕ) (lines longer : List Line) (to next : Reached) (rest words after : List ℕ) (x : Line) → text ≡ text_of lines ++ rest → Follow lines to
    → rest ≡ words ++ 10 ∷ after → words ≡ line_words x → LineFits x → follows to x ≡ Some next → longer ≡ lines ++ x ∷ [] → Front text longer next after
front_grows text lines longer to next rest words after x e follow cut is fits goes more =
    let text_is : text ≡ text_of (lines ++ x ∷ []) ++ after =
    cut_off text lines rest words after e cut ∙ ap (λ (t : List ℕ). text_of lines ++ (ended t ++ after)) is
    ∙ sym (append_assoc (text_of lines) (ended (line_words x)) after) ∙ ap (λ (t : List ℕ). t ++ after) (flat_map_more (λ y. ended (line_words y)) [] lines x) in
    let grown : Front text (lines ++ x ∷ []) next after = record {
      follow = record { fit = all_join LineFits lines (x ∷ []) follow.fit (fits, tt); reached = follow-end follows start to next lines x follow.reached goes };
      text_is = text_is;
      count = length lines + 1;
      count_is = sym (length-append lines (x ∷ []));
    } in
    subst (λ (ls : List Line). Front text ls next after) (sym more) grown

-- a line that may not follow has no other reading
pub no_other : (to : Reached) (words : List ℕ) (x : Line) → LineFits x → words ≡ line_words x → follows to x ≡ None → (y : Line) → LineFits y → words ≡ line_words y → follows to y ≡ None
no_other to words x fits is none y other same = ap (follows to) (one_line y x other fits (sym same ∙ is)) ∙ none

-- the line that is cut off next does not follow
pub stops_at : (text : List ℕ) (n : ℕ) (lines : List Line) (to : Reached) (rest words after : List ℕ) → Follow lines to
    → to.stage ≢ s.Done → text ≡ text_of lines ++ rest → rest ≡ words ++ 10 ∷ after → LacksByte 10 words
    → n ≡ length lines + 1 → ((l : Line) → LineFits l → words ≡ line_words l → follows to l ≡ None) → StopsAt text n
stops_at text n lines to rest words after follow going e cut within counted misfit = record {
  lines = lines;
  to = to;
  follow = follow;
  going = going;
  words = words;
  rest = after;
  text_is = cut_off text lines rest words after e cut;
  within = within;
  counted = counted;
  misfit = misfit;
}

-- after a line of the walk more lines follow
pub walk_goes_on : (stage : Stage) (n : Nest) (w : WalkLine) (next : Reached) → next_stage stage n (l.Walk w) ≡ Some next → next.stage ≢ s.Done
walk_goes_on s.Title n w next e = absurd (cc e)
walk_goes_on s.Numbers n w next e = absurd (cc e)
walk_goes_on s.Bound n w next e = absurd (cc e)
walk_goes_on s.Walk n w next e = by (nest_after n w) e
  where
    by : (o : Option Nest) → in_walk o ≡ Some next → next.stage ≢ s.Done
    by None f = absurd (cc f)
    by (Some m) f = λ done. cc (not_done next f done)
walk_goes_on (s.Places last) n w next e = absurd (cc e)
walk_goes_on (s.Instances last) n w next e = absurd (cc e)
walk_goes_on s.Done n w next e = absurd (cc e)
