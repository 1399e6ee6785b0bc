-- Statements and lines are read as they are spelled.
use Rattle.std.proofs.Common.{◌≡◌, ℕ, Bool, true, false, cond, not, ◌==◌, List, [], ◌∷◌, ◌++◌, Option, Some, None, Result, Ok, Err, refl, sym, ap, subst, ◌∙◌, inl, inr, take, drop, length, arith, eqb-true}
use Rattle.std.specs.Prelude.{option_and_then}
use Rattle.std.specs.List.{list_all}
use Rattle.std.proofs.Math.Seq.{drop-append_seam, take-append_seam}
use Rattle.std.proofs.lemmas.Bool.{and_parts, cases_Bool}
use Rattle.std.proofs.lemmas.List.{take-append-drop}
use Rattle.std.proofs.lemmas.Option.{none-some}
use Rattle.arm2_decode.specs.declared.names.Cond.{Cond}
use Rattle.arm2_decode.specs.declared.names.Register.{Register}
use Rattle.asm_text.specs.Pieces.{Piece, Run, Comma, Sign, Gap, pieces}
use Rattle.asm_text.specs.Registers.{first_register_comma}
use Rattle.asm_text.specs.Words.{IsSpelling, spelled_word_of}
use Rattle.asm_text.specs.Said.{Target, Number, Label, Said, Codes, Refers, Orgs, Lists}
use Rattle.asm_text.specs.Operands.{address_of, block_of, data_of, is_byte, is_user, product_of}
use Rattle.asm_text.specs.Statements.{Parsed, action_of, after_label, after_word, body, body_len, body_says, code_said, is_comment_text, is_in_body, is_label, is_text, is_text_line, line_of, only_number, only_target, operands_of, or_bad, parsed, plain_said, refers, single_said, single_with, statement_of, values_in, with_label, with_word, word_ends}
use Rattle.asm_text.specs.SpelledOperands.{IsRegister}
use Rattle.asm_text.specs.Spelling.{IsComment, Spells, SpellsAction, SpellsOperands, SpellsParts, SpellsSaid, SpellsTarget, SpellsUse}
use Rattle.asm_text.specs.declared.token.Mark.TheVariants.{OpenBracket}
use Rattle.asm_text.specs.declared.names.Head.{Head}
use Rattle.asm_text.specs.declared.names.Head.TheVariants as head
use Rattle.asm_text.specs.declared.names.Suffix.{Suffix}
use Rattle.asm_text.specs.declared.word.Word.{Word}
use Rattle.asm_text.specs.declared.word.Word.TheVariants.{Plain, Branch, Org, Dcd}
use Rattle.asm_text.specs.declared.syntax.WordAction.{WordAction}
use Rattle.asm_text.specs.declared.syntax.WordAction.TheVariants as action
use Rattle.asm_text.specs.declared.syntax.Use.{Use}
use Rattle.asm_text.specs.declared.syntax.Use.TheVariants as use_of
use Rattle.asm_text.specs.declared.statement.Expects.TheVariants as expects
use Rattle.asm_text.specs.declared.statement.TextFault.{TextFault}
use Rattle.asm_text.specs.declared.statement.TextFault.TheVariants.{NotText, UnknownWord}
use Rattle.asm_text.proofs.PieceLaws.{first_passes, pieces_again, pieces_spaced, pieces_written, prefix_all, prefix_stop}
use Rattle.asm_text.proofs.WordLaws.{chosen, map_is, same_Ok, spelled_again, spelled_is}
use Rattle.asm_text.proofs.SpelledNames.{and_then_is, front_register_comma, number_whole, register_comma_front, whole_number}
use Rattle.asm_text.proofs.SpelledShifts.{data_again, data_is, product_again, product_is}
use Rattle.asm_text.proofs.SpelledAddresses.{address_again, address_is}
use Rattle.asm_text.proofs.WordEnds.{parts_end}
use Rattle.asm_text.proofs.SpelledLists.{block_again, block_is, dcd_again, dcd_is, target_again, target_is}

-- ## Actions

action_is : (h : Head) (s : Suffix) (ps : List Piece) (a : WordAction) → action_of h s ps ≡ Some a → SpellsAction a h s ps
action_is (head.Data op) s ps a e =
    let k = map_is action.Data (data_of op s ps) a e in
    subst (λ x. SpellsAction x (head.Data op) s ps) k.2 (data_is op s ps k.0 k.1)
action_is (head.Multiply b) s ps a e =
    let k = map_is action.Multiply (product_of b s ps) a e in
    subst (λ x. SpellsAction x (head.Multiply b) s ps) k.2 (product_is b s ps k.0 k.1)
action_is (head.Block load) s ps a e =
    let k = map_is action.Block (block_of load s ps) a e in
    subst (λ x. SpellsAction x (head.Block load) s ps) k.2 (block_is load s ps k.0 k.1)
action_is head.Swi s ps a e =
    let k = map_is action.Swi (only_number ps) a e in
    subst (λ x. SpellsAction x head.Swi s ps) k.2 (number_whole ps k.0 k.1)
action_is _ s ps a e = absurd (none-some a e)

code_is : (h : Head) (c : Cond) (s : Suffix) (ps : List Piece) (x : Said) → code_said h c s ps ≡ Some x → SpellsOperands x (Plain h c s) ps
code_is h c s ps x e =
    let k = map_is (λ a. Codes (record { cond = c; action = a })) (action_of h s ps) x e in
    subst (λ y. SpellsOperands y (Plain h c s) ps) k.2 (refl, action_is h s ps k.0 k.1)

-- ## Targets and transfers

refers_is : (c : Cond) (how : Use) (ps : List Piece) (x : Said) → refers c how ps ≡ Some x → (t : Target) × SpellsTarget t ps × (Refers (record { cond = c; how = how }) t ≡ x)
refers_is c how ps x e =
    let k = map_is (Refers (record { cond = c; how = how })) (only_target ps) x e in
    (k.0, target_is ps k.0 k.1, k.2)

refers_again : (c : Cond) (how : Use) (t : Target) (ps : List Piece) → SpellsTarget t ps → refers c how ps ≡ Some (Refers (record { cond = c; how = how }) t)
refers_again c how t ps h = rw (target_again t ps h) refl

at_target : (c : Cond) (load : Bool) (s : Suffix) (d : Register) (t : List ℕ) (ps : List Piece) (x : Said) → IsRegister t d
    → cond (is_user s) None (refers c (use_of.Transfer load (is_byte s) d) ps) ≡ Some x → SpellsOperands x (Plain (head.Single load) c s) (Run t ∷ Comma ∷ ps)
at_target c load s d t ps x r e =
    elim (chosen (is_user s) None (refers c (use_of.Transfer load (is_byte s) d) ps) (Some x) e) [
      | inl h ↦ absurd (none-some x h.1)
      | inr h ↦
          let k = refers_is c (use_of.Transfer load (is_byte s) d) ps x h.1 in
          subst (λ y. SpellsOperands y (Plain (head.Single load) c s) (Run t ∷ Comma ∷ ps)) k.2
          (refl, (refl, refl, h.0, record { d = t; rest = ps; spelled = refl; d-is = r; target = k.1 }))
    ]

single_is : (c : Cond) (load : Bool) (s : Suffix) (d : Register) (t : List ℕ) (ps : List Piece) (x : Said) → IsRegister t d → single_with c load s d ps ≡ Some x
    → SpellsOperands x (Plain (head.Single load) c s) (Run t ∷ Comma ∷ ps)
single_is c load s d t (Sign OpenBracket ∷ ps) x r e =
    let k = map_is (λ a. Codes (record { cond = c; action = action.Single (record { load = load; byte = is_byte s; rd = d; address = a }) })) (address_of (is_user s) ps) x e in
    subst (λ y. SpellsOperands y (Plain (head.Single load) c s) (Run t ∷ Comma ∷ Sign OpenBracket ∷ ps)) k.2
    (refl, record { rd = d; at = k.0; means = refl; d = t; rest = ps; spelled = refl; d-is = r; address = address_is (is_user s) ps k.0 k.1 })
single_is c load s d t ps x r e = at_target c load s d t ps x r e

single_said_is : (load : Bool) (c : Cond) (s : Suffix) (ps : List Piece) (x : Said) → single_said c load s ps ≡ Some x → SpellsOperands x (Plain (head.Single load) c s) ps
single_said_is load c s ps x e =
    let f = and_then_is (λ f. single_with c load s f.0 f.1) (first_register_comma ps) x e in
    let t = register_comma_front ps f.0 f.1 in
    subst (SpellsOperands x (Plain (head.Single load) c s)) (sym t.1) (single_is c load s f.0.0 t.0 f.0.1 x t.2 f.2)

adr_is : (c : Cond) (s : Suffix) (ps : List Piece) (x : Said) → option_and_then (λ f. refers c (use_of.Adr f.0) f.1) (first_register_comma ps) ≡ Some x → SpellsOperands x (Plain head.Adr c s) ps
adr_is c s ps x e =
    let f = and_then_is (λ f. refers c (use_of.Adr f.0) f.1) (first_register_comma ps) x e in
    let t = register_comma_front ps f.0 f.1 in
    let k = refers_is c (use_of.Adr f.0.0) f.0.1 x f.2 in
    subst (λ y. SpellsOperands y (Plain head.Adr c s) ps) k.2 (refl, record { d = t.0; rest = f.0.1; spelled = t.1; d-is = t.2; target = k.1 })

-- a target does not begin with a bracket
single_target : (c : Cond) (load : Bool) (s : Suffix) (d : Register) (t : Target) (ps : List Piece) → SpellsTarget t ps → is_user s ≡ false
    → single_with c load s d ps ≡ refers c (use_of.Transfer load (is_byte s) d) ps
single_target c load s d (Number n) ps h user = elim h [ inl k ↦ rw (k.1, user) refl | inr k ↦ rw (k.1, user) refl ]
single_target c load s d (Label name) ps h user = rw (h.0, user) refl

-- ## Operands

operands_is : (w : Word) (ps : List Piece) (x : Said) → operands_of w ps ≡ Some x → SpellsOperands x w ps
operands_is (Plain (head.Single load) c s) ps x e = single_said_is load c s ps x e
operands_is (Plain head.Adr c s) ps x e = adr_is c s ps x e
operands_is (Plain h c s) ps x e = code_is h c s ps x e
operands_is (Branch link c) ps x e =
    let k = refers_is c (use_of.Branch link) ps x e in
    subst (λ y. SpellsOperands y (Branch link c) ps) k.2 (refl, k.1)
operands_is Org ps x e =
    let k = map_is Orgs (only_number ps) x e in
    subst (λ y. SpellsOperands y Org ps) k.2 (number_whole ps k.0 k.1)
operands_is Dcd ps x e =
    let k = map_is Lists (values_in expects.Start ps) x e in
    subst (λ y. SpellsOperands y Dcd ps) k.2 (dcd_is ps k.0 k.1)

action_again : (a : WordAction) (h : Head) (c : Cond) (s : Suffix) (ps : List Piece) → SpellsAction a h s ps → plain_said h c s ps ≡ Some (Codes (record { cond = c; action = a }))
action_again (action.Data x) (head.Data op) c s ps h = rw (data_again op s x ps h) refl
action_again (action.Multiply x) (head.Multiply b) c s ps h = rw (product_again b s x ps h) refl
action_again (action.Single x) (head.Single load) c s ps h =
    rw (h.spelled, h.means, front_register_comma h.d h.rd (Sign OpenBracket ∷ h.rest) h.d-is, address_again (is_user s) h.at h.rest h.address) refl
action_again (action.Block x) (head.Block load) c s ps h = rw (block_again load s x ps h) refl
action_again (action.Swi n) head.Swi c s ps h = rw (whole_number n ps h) refl
action_again _ _ c s ps h = absurd h

use_again : (how : Use) (h : Head) (c : Cond) (s : Suffix) (t : Target) (ps : List Piece) → SpellsUse how h s t ps → plain_said h c s ps ≡ Some (Refers (record { cond = c; how = how }) t)
use_again (use_of.Adr d) head.Adr c s t ps h =
    rw (h.spelled, front_register_comma h.d d h.rest h.d-is) (refers_again c (use_of.Adr d) t h.rest h.target)
use_again (use_of.Transfer load byte d) (head.Single l) c s t ps h =
    let k = h.3 in
    rw (h.0, h.1, k.spelled, front_register_comma k.d d k.rest k.d-is) (single_target c l s d t k.rest k.target h.2 ∙ refers_again c (use_of.Transfer l (is_byte s) d) t k.rest k.target)
use_again _ _ c s t ps h = absurd h

operands_again : (x : Said) (w : Word) (ps : List Piece) → SpellsOperands x w ps → operands_of w ps ≡ Some x
operands_again (Codes x) (Plain h c s) ps k = rw (← k.0) (action_again x.action h x.cond s ps k.1)
operands_again (Refers r t) (Plain h c s) ps k = rw (← k.0) (use_again r.how h r.cond s t ps k.1)
operands_again (Refers r t) (Branch link c) ps k = rw k.0 (refers_again c (use_of.Branch link) t ps k.1)
operands_again (Orgs n) Org ps k = rw (whole_number n ps k) refl
operands_again (Lists vs) Dcd ps k = rw (dcd_again vs ps k) refl
operands_again _ _ ps k = absurd k

-- ## Statements

or_bad_is : (o : Option Said) (x : Said) → or_bad o ≡ Ok x → o ≡ Some x
or_bad_is None x e = absurd cc
or_bad_is (Some y) x e = cc

after_word_is : (w : List ℕ) (v : Word) (ps : List Piece) (x : Said) → IsSpelling w v → after_word v ps ≡ Ok x → SpellsSaid x (Run w ∷ ps)
after_word_is w v (Gap ∷ ps) x is e =
    record { name = w; word = v; rest = ps; spelled = refl; word-is = is; operands = operands_is v ps x (or_bad_is (operands_of v ps) x e) }
after_word_is w v (Sign m ∷ ps) x is e = absurd cc
after_word_is w v _ x is e = absurd cc

with_word_is : (o : Option Word) (w : List ℕ) (ps : List Piece) (x : Said) → spelled_word_of w ≡ o → with_word o ps ≡ Ok x → SpellsSaid x (Run w ∷ ps)
with_word_is None w ps x is e = absurd cc
with_word_is (Some v) w ps x is e = after_word_is w v ps x (spelled_is w v is) e

statement_is : (ps : List Piece) (x : Said) → statement_of ps ≡ Ok x → SpellsSaid x ps
statement_is (Run w ∷ ps) x e = with_word_is (spelled_word_of w) w ps x refl e
statement_is _ x e = absurd cc

statement_again : (x : Said) (ps : List Piece) → SpellsSaid x ps → statement_of ps ≡ Ok x
statement_again x ps h = rw (h.spelled, spelled_again h.name h.word h.word-is, operands_again x h.word h.rest h.operands) refl

-- ## The parts of a line

abbrev PartsOf : List Piece → Parsed → Type 0
PartsOf ps p = SpellsParts p.label p.said ps

with_label_is : (l : Option (List ℕ)) (r : Result Said TextFault) (p : Parsed) → with_label l r ≡ Ok p → (x : Said) × (r ≡ Ok x) × (record { label = l; said = Some x } ≡ p)
with_label_is l (Ok x) p e = (x, refl, same_Ok (record { label = l; said = Some x }) p e)
with_label_is l (Err fault) p e = absurd cc

label_is : (l : List ℕ) (ps : List Piece) (p : Parsed) → is_label l ≡ true → after_label l ps ≡ Ok p → PartsOf (Run l ∷ ps) p
label_is l [] p is e = subst (PartsOf (Run l ∷ [])) (same_Ok (record { label = Some l; said = None }) p e) (refl, is)
label_is l (Gap ∷ ps) p is e =
    let k = with_label_is (Some l) (statement_of ps) p e in
    subst (PartsOf (Run l ∷ Gap ∷ ps)) k.2 (ps, refl, is, statement_is ps k.0 k.1)
label_is l _ p is e = absurd cc

parts_is : (ps : List Piece) (p : Parsed) → parsed ps ≡ Ok p → PartsOf ps p
parts_is [] p e = subst (PartsOf []) (same_Ok (record { label = None; said = None }) p e) refl
parts_is (Gap ∷ ps) p e =
    let k = with_label_is None (statement_of ps) p e in
    subst (PartsOf (Gap ∷ ps)) k.2 (ps, refl, statement_is ps k.0 k.1)
parts_is (Run l ∷ ps) p e =
    elim (chosen (is_label l) (after_label l ps) (Err UnknownWord) (Ok p) e) [
      | inl h ↦ label_is l ps p h.0 h.1
      | inr h ↦ let k = h.1 in absurd cc
    ]
parts_is _ p e = absurd cc

parts_again : (label : Option (List ℕ)) (x : Option Said) (ps : List Piece) → SpellsParts label x ps → parsed ps ≡ Ok (record { label = label; said = x })
parts_again None None ps h = rw h refl
parts_again None (Some x) ps h = rw (h.1, statement_again x h.0 h.2) refl
parts_again (Some l) None ps h = rw (h.0, h.1) refl
parts_again (Some l) (Some x) ps h = rw (h.1, h.2, statement_again x h.0 h.3) refl

-- ## Lines

semicolon : (b : ℕ) → is_in_body b ≡ false → b ≡ 59
semicolon b h = elim (cases_Bool (b == 59)) [ inl e ↦ eqb-true b 59 e | inr e ↦ let k : not false ≡ false = rw e at h in absurd cc ]

comment_is : (text : List ℕ) → first_passes is_in_body text ≡ false → list_all is_comment_text text ≡ true → IsComment text
comment_is [] h all = inl refl
comment_is (b ∷ bs) h all = inr (bs, ap (λ (c : ℕ). c ∷ bs) (semicolon b h), (and_parts (is_comment_text b) (list_all is_comment_text bs) all).1)

comment_text : (text : List ℕ) → IsComment text → list_all is_comment_text text ≡ true
comment_text text h = elim h [ inl e ↦ rw e refl | inr k ↦ rw (k.1, k.2) refl ]

front_len : (bs cs : List ℕ) → list_all is_in_body bs ≡ true → IsComment cs → body_len (bs ++ cs) ≡ length bs
front_len [] cs all h = elim h [ inl e ↦ rw e refl | inr k ↦ rw k.1 refl ]
front_len (b ∷ bs) cs all h =
    let k = and_parts (is_in_body b) (list_all is_in_body bs) all in
    rw k.0 (omega (arith, front_len bs cs k.1 h))

-- a line with a meaning has a word that ends, or none
pub word_ended : (text : List ℕ) (p : Parsed) → parsed (pieces text) ≡ Ok p → word_ends text ≡ true
word_ended text p e = parts_end p.label p.said (pieces text) text (pieces_written text) (parts_is (pieces text) p e)

pub body_is : (text : List ℕ) (p : Parsed) → body_says text ≡ Ok p → parsed (pieces text) ≡ Ok p
body_is text p e =
    elim (chosen (word_ends text) (parsed (pieces text)) (Err UnknownWord) (Ok p) e) [ inl h ↦ h.1 | inr h ↦ let k = h.1 in absurd cc ]

-- of what has a meaning the test of the word says nothing more
pub body_said : (text : List ℕ) (p : Parsed) → parsed (pieces text) ≡ Ok p → body_says text ≡ Ok p
body_said text p e = rw (word_ended text p e) e

pub line_is : (line : List ℕ) (p : Parsed) → line_of line ≡ Ok p → Spells p line
line_is line p e =
    elim (chosen (is_text_line line) (body_says (body line)) (Err NotText) (Ok p) e) [
      | inl h ↦
          let n = body_len line in
          let k = and_parts (list_all is_text (body line)) (list_all is_comment_text (drop n line)) h.0 in
          record {
            body = body line;
            comment = drop n line;
            parts = sym (take-append-drop n line);
            text = k.0;
            no_semicolon = prefix_all is_in_body line;
            comment-is = comment_is (drop n line) (prefix_stop is_in_body line) k.1;
            pieces = pieces (body line);
            written = pieces_written (body line);
            spaced = pieces_spaced (body line);
            spelled = parts_is (pieces (body line)) p (body_is (body line) p h.1);
          }
      | inr h ↦ let k = h.1 in absurd cc
    ]

pub line_again : (line : List ℕ) (p : Parsed) → Spells p line → line_of line ≡ Ok p
line_again line p h =
    let len : body_len line ≡ length h.body = ap body_len h.parts ∙ front_len h.body h.comment h.no_semicolon h.comment-is in
    let front : body line ≡ h.body = ap (λ n. take n line) len ∙ ap (take (length h.body)) h.parts ∙ take-append_seam h.body h.comment in
    let after : drop (body_len line) line ≡ h.comment = ap (λ n. drop n line) len ∙ ap (drop (length h.body)) h.parts ∙ drop-append_seam h.body h.comment in
    let said : parsed (pieces h.body) ≡ Ok p = ap parsed (pieces_again h.pieces h.body h.written h.spaced) ∙ parts_again p.label p.said h.pieces h.spelled in
    rw (front, after, h.text, comment_text h.comment h.comment-is) (body_said h.body p said)
