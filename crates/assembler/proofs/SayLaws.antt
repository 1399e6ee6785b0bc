-- A stated spelling says an instruction; of those with a target, a branch.
use Rattle.std.proofs.Common.{◌≡◌, ℕ, zero, suc, ◌/◌, ◌%◌, ◌<◌, Bool, true, false, cond, not, ◌==◌, ◌&&◌, List, [], ◌∷◌, ◌++◌, length, codes, Option, Some, None, Result, Ok, Err, refl, sym, ap, subst, ◌∙◌, append_assoc, length-append, inl, inr, arith}
use Rattle.std.specs.Prelude.{decimal, option_map, option_and_then}
use Rattle.std.specs.Char.{is_ascii_lowercase}
use Rattle.std.specs.Fmt.{digits, digits_onto, digit_glyph}
use Rattle.std.specs.List.{list_all}
use Rattle.std.proofs.lemmas.Bool.{and_parts}
use Rattle.std.proofs.lemmas.Bool.Decides.{nat_tests}
use Rattle.std.proofs.lemmas.List.{append-nil}
use Rattle.std.specs.Result.{result_ok}
use Rattle.arm2_decode.specs.declared.instr.Operation.{Operation}
use Rattle.arm2_decode.specs.declared.instr.Operation.TheVariants as operation
use Rattle.arm2_decode.specs.declared.names.Cond.{Cond}
use Rattle.arm2_decode.specs.declared.names.Cond.TheVariants.{Eq, Al}
use Rattle.arm2_decode.specs.declared.names.Opcode.{Opcode}
use Rattle.arm2_decode.specs.declared.names.Opcode.TheVariants.{And, Tst, Teq, Cmp, Cmn, Mov, Mvn}
use Rattle.arm2_decode.specs.declared.names.Register.{Register}
use Rattle.arm2_decode.specs.Names.{register_number}
use Rattle.asm_text.specs.declared.names.Head.{Head}
use Rattle.asm_text.specs.declared.names.Head.TheVariants as head
use Rattle.asm_text.specs.declared.names.Suffix.{Suffix}
use Rattle.asm_text.specs.declared.names.Suffix.TheVariants as suffix
use Rattle.asm_text.specs.declared.syntax.WordAction.{WordAction}
use Rattle.asm_text.specs.declared.syntax.WordAction.TheVariants as action
use Rattle.asm_text.specs.declared.syntax.Address.{Address}
use Rattle.asm_text.specs.declared.syntax.Use.{Use}
use Rattle.asm_text.specs.declared.syntax.Use.TheVariants as use_of
use Rattle.asm_text.specs.declared.statement.TextFault.{TextFault}
use Rattle.asm_text.specs.declared.token.Mark.TheVariants.{OpenBracket}
use Rattle.asm_text.specs.declared.word.Word.{Word}
use Rattle.asm_text.specs.declared.word.Word.TheVariants as word
use Rattle.arm2_decode.specs.Names.{is_compare}
use Rattle.asm_text.specs.Names.{head_name, may_have, opcode_name, suffix_name}
use Rattle.asm_text.specs.Numbers.{with_rest}
use Rattle.asm_text.specs.Operands.{address_of, is_byte, is_user}
use Rattle.asm_text.specs.Pieces.{Piece, Run, Comma, Sign, Gap, gap_before, is_name, pieces, without_gap}
use Rattle.asm_text.specs.Registers.{register_of}
use Rattle.asm_text.specs.Said.{Target, Number, Label, Said, Codes, Refers, Orgs, Lists}
use Rattle.asm_text.specs.Shown.{is_upper}
use Rattle.arm2_decode.specs.declared.instr.Instr.{Instr}
use Rattle.asm_text.specs.declared.printed_lines.Shown.TheVariants as shown
use Rattle.asm_text.specs.Shown.{is_shown_text}
use Rattle.asm_text.specs.Statements.{Parsed, action_of, after_word, line_of, only_target, operands_of, or_bad, parsed, single_said, single_with, with_label, with_word}
use Rattle.assembler.specs.declared.fault.LineFault.{LineFault}
use Rattle.assembler.specs.Codes.{encoded, refer}
use Rattle.assembler.specs.Shown.{AssemblesTo, Says}
use Rattle.asm_text.specs.Words.{IsCond, branch_name, word_of}
use Rattle.asm_text.proofs.PieceLaws.{comma_step, first_no_run, pieces-run, sign_step}
use Rattle.asm_text.proofs.ShownLaws.{blank_line, upper_spelled, blank_pieces}
use Rattle.asm_text.proofs.WordLaws.{word_again}
use Rattle.assembler.proofs.PutLaws.{all_append}
use Rattle.arm2_decode.specs.Transfers.{asks_for_user}
use Rattle.assembler.specs.ShownLines.{AssemblesBack, shown_line as spelling, target_word, block_name, block_suffix, comma_register, compare_front, compare_text, cond_text, data_front, factors_text, flags_text, load_name, move_front, operation_text, register_text, three_front, transfer_front, transfer_suffix, word_text}

-- ## What is said

abbrev pub is_branch : Use → Bool
is_branch (use_of.Branch link) = true
is_branch _ = false

abbrev pub plainly : Said → Bool
plainly (Codes c) = true
plainly (Refers r t) = is_branch r.how
plainly _ = false

abbrev plain_option : Option Said → Bool
plain_option None = true
plain_option (Some s) = plainly s

abbrev pub plain_result : Result Said TextFault → Bool
plain_result (Ok s) = plainly s
plain_result (Err w) = true

abbrev plain_of : Result Parsed TextFault → Bool
plain_of (Ok p) = plain_option p.said
plain_of (Err w) = true

-- what pieces say after a blank
abbrev parsed_after_blank : List Piece → Result Parsed TextFault
parsed_after_blank ps = parsed (gap_before ps)

-- what the text says after a blank
abbrev Plain : List ℕ → Type 0
Plain text = plain_of (parsed_after_blank (pieces text)) ≡ true

label_plain : (r : Result Said TextFault) → plain_result r ≡ true → plain_of (with_label None r) ≡ true
label_plain (Ok s) h = h
label_plain (Err w) h = refl

bad_plain : (o : Option Said) → plain_option o ≡ true → plain_result (or_bad o) ≡ true
bad_plain None h = refl
bad_plain (Some s) h = h

after_word_plain : (w : Word) (ps : List Piece) → ((qs : List Piece) → plain_option (operands_of w qs) ≡ true) → plain_result (after_word w ps) ≡ true
after_word_plain w (Gap ∷ ps) h = bad_plain (operands_of w ps) (h ps)
after_word_plain w ps h = refl

code_plain : (c : Cond) (o : Option WordAction) → plain_option (option_map (λ a. Codes (record { cond = c; action = a })) o) ≡ true
code_plain c None = refl
code_plain c (Some a) = refl

branch_plain : (c : Cond) (link : Bool) (o : Option Target) → plain_option (option_map (Refers (record { cond = c; how = use_of.Branch link })) o) ≡ true
branch_plain c link None = refl
branch_plain c link (Some t) = refl

-- the words whose operands have no target
abbrev is_coded : Head → Bool
is_coded (head.Single load) = false
is_coded head.Adr = false
is_coded h = true

coded_plain : (h : Head) (c : Cond) (s : Suffix) (ps : List Piece) → is_coded h ≡ true → plain_option (operands_of (word.Plain h c s) ps) ≡ true
coded_plain (head.Data op) c s ps k = code_plain c (action_of (head.Data op) s ps)
coded_plain (head.Multiply a) c s ps k = code_plain c (action_of (head.Multiply a) s ps)
coded_plain (head.Single load) c s ps k = absurd cc
coded_plain (head.Block load) c s ps k = code_plain c (action_of (head.Block load) s ps)
coded_plain head.Swi c s ps k = code_plain c (action_of head.Swi s ps)
coded_plain head.Adr c s ps k = absurd cc

at_plain : (c : Cond) (load : Bool) (s : Suffix) (d : Register) (o : Option Address)
    → plain_option (option_map (λ a. Codes (record { cond = c; action = action.Single (record { load = load; byte = is_byte s; rd = d; address = a }) })) o) ≡ true
at_plain c load s d None = refl
at_plain c load s d (Some a) = refl

single_by : (c : Cond) (load : Bool) (s : Suffix) (qs : List Piece) (o : Option Register)
    → plain_option (option_and_then (λ f. single_with c load s f.0 f.1) (with_rest (Sign OpenBracket ∷ qs) o)) ≡ true
single_by c load s qs None = refl
single_by c load s qs (Some d) = at_plain c load s d (address_of (is_user s) qs)

-- ## Words

abbrev is_letter : ℕ → Bool
is_letter b = is_name b && not (is_ascii_lowercase b)

abbrev Lettered : List ℕ → Type 0
Lettered text = list_all is_letter text ≡ true

letters_named : (text : List ℕ) → Lettered text → list_all is_name text ≡ true
letters_named [] h = refl
letters_named (b ∷ bs) h =
    let k = and_parts (is_letter b) (list_all is_letter bs) h in
    let here = and_parts (is_name b) (not (is_ascii_lowercase b)) k.0 in
    rw (here.0, letters_named bs k.1) refl

letters_upper : (text : List ℕ) → Lettered text → is_upper text ≡ true
letters_upper [] h = refl
letters_upper (b ∷ bs) h =
    let k = and_parts (is_letter b) (list_all is_letter bs) h in
    let here = and_parts (is_name b) (not (is_ascii_lowercase b)) k.0 in
    rw (here.1, letters_upper bs k.1) refl

cond_lettered : (c : Cond) → Lettered (cond_text c)
cond_lettered Eq = refl
cond_lettered _ = refl

cond_is : (c : Cond) → IsCond (cond_text c) c
cond_is Al = inr (refl, refl)
cond_is _ = inl refl

head_lettered : (h : Head) → (Lettered (head_name h)) × (0 < length (head_name h))
head_lettered (head.Data And) = (refl, omega arith)
head_lettered (head.Multiply true) = (refl, omega arith)
head_lettered (head.Single true) = (refl, omega arith)
head_lettered (head.Block true) = (refl, omega arith)
head_lettered _ = (refl, omega arith)

suffix_lettered : (s : Suffix) → Lettered (suffix_name s)
suffix_lettered suffix.Bare = refl
suffix_lettered _ = refl

-- the statement of a word and what follows its blank
word_said : (w rest : List ℕ) (is : Word) → Lettered w → 0 < length w → word_of w ≡ Some is → parsed_after_blank (pieces (w ++ 32 ∷ rest)) ≡ with_label None (after_word is (gap_before (pieces rest)))
word_said w rest is letters some spelled =
    ap parsed_after_blank (pieces-run w (32 ∷ rest) (letters_named w letters) some (first_no_run (32 ∷ rest) refl) ∙ ap (λ (ps : List Piece). Run w ∷ ps) (blank_pieces rest))
    ∙ ap (λ (o : Option Word). with_label None (with_word o (gap_before (pieces rest)))) (upper_spelled w (letters_upper w letters) ∙ spelled)

-- a word's text with what follows it
word_split : (a b d rest : List ℕ) → (a ++ (b ++ (d ++ codes " "))) ++ rest ≡ (a ++ (b ++ d)) ++ 32 ∷ rest
word_split a b d rest =
    append_assoc a (b ++ (d ++ codes " ")) rest
    ∙ ap (λ (l : List ℕ). a ++ l) (append_assoc b (d ++ codes " ") rest ∙ ap (λ (l : List ℕ). b ++ l) (append_assoc d (codes " ") rest))
    ∙ sym (append_assoc a (b ++ d) (32 ∷ rest) ∙ ap (λ (l : List ℕ). a ++ l) (append_assoc b d (32 ∷ rest)))

plain_said_by : (h : Head) (c : Cond) (s : Suffix) (rest : List ℕ) → may_have h s ≡ true
    → parsed_after_blank (pieces (word_text (head_name h) c (suffix_name s) ++ rest)) ≡ with_label None (after_word (word.Plain h c s) (gap_before (pieces rest)))
plain_said_by h c s rest may =
    let text = head_name h ++ (cond_text c ++ suffix_name s) in
    let letters = all_append is_letter (head_name h) (cond_text c ++ suffix_name s) (head_lettered h).0 (all_append is_letter (cond_text c) (suffix_name s) (cond_lettered c) (suffix_lettered s)) in
    ap (λ (l : List ℕ). parsed_after_blank (pieces l)) (word_split (head_name h) (cond_text c) (suffix_name s) rest)
    ∙ word_said text rest (word.Plain h c s) letters (omega (arith, (head_lettered h).1, length-append (head_name h) (cond_text c ++ suffix_name s))) (word_again text (word.Plain h c s) (cond_text c, cond_is c, may, refl))

coded_line : (h : Head) (c : Cond) (s : Suffix) (rest : List ℕ) → may_have h s ≡ true → is_coded h ≡ true → Plain (word_text (head_name h) c (suffix_name s) ++ rest)
coded_line h c s rest may k = ap plain_of (plain_said_by h c s rest may) ∙ label_plain (after_word (word.Plain h c s) (gap_before (pieces rest))) (after_word_plain (word.Plain h c s) (gap_before (pieces rest)) (λ ps. coded_plain h c s ps k))

flagged_line : (h : Head) (c : Cond) (s : Bool) (rest : List ℕ) → may_have h suffix.S ≡ true → may_have h suffix.Bare ≡ true → is_coded h ≡ true → Plain (word_text (head_name h) c (flags_text s) ++ rest)
flagged_line h c true rest may bare k = coded_line h c suffix.S rest may k
flagged_line h c false rest may bare k = coded_line h c suffix.Bare rest bare k

compared_line : (op : Opcode) (c : Cond) (b : Bool) (rest : List ℕ) → is_compare op ≡ true → Plain (word_text (opcode_name op) c (cond b (codes "P") []) ++ rest)
compared_line op c true rest k = coded_line (head.Data op) c suffix.P rest k refl
compared_line op c false rest k = coded_line (head.Data op) c suffix.Bare rest refl refl

joined : (a b rest : List ℕ) → Plain (a ++ (b ++ rest)) → Plain ((a ++ b) ++ rest)
joined a b rest h = subst Plain (sym (append_assoc a b rest)) h

-- ## Data processing

compare_line : (op : Opcode) (c : Cond) (rn rd : Register) (rest : List ℕ) → is_compare op ≡ true → Plain (compare_front c op rn rd ++ rest)
compare_line op c rn rd rest k = joined (word_text (opcode_name op) c (compare_text rd)) (register_text rn ++ codes ",") rest (compared_line op c (register_number rd == 15) ((register_text rn ++ codes ",") ++ rest) k)

move_line : (op : Opcode) (c : Cond) (s : Bool) (rd : Register) (rest : List ℕ) → Plain (move_front c op s rd ++ rest)
move_line op c s rd rest = joined (word_text (opcode_name op) c (flags_text s)) (register_text rd ++ codes ",") rest (flagged_line (head.Data op) c s ((register_text rd ++ codes ",") ++ rest) refl refl refl)

three_line : (op : Opcode) (c : Cond) (s : Bool) (rn rd : Register) (rest : List ℕ) → Plain (three_front c op s rn rd ++ rest)
three_line op c s rn rd rest =
    joined (word_text (opcode_name op) c (flags_text s)) (register_text rd ++ (comma_register rn ++ codes ",")) rest
    (flagged_line (head.Data op) c s ((register_text rd ++ (comma_register rn ++ codes ",")) ++ rest) refl refl refl)

data_line : (op : Opcode) (c : Cond) (s : Bool) (rn rd : Register) (rest : List ℕ) → Plain (data_front c op s rn rd ++ rest)
data_line Tst c s rn rd rest = compare_line Tst c rn rd rest refl
data_line Teq c s rn rd rest = compare_line Teq c rn rd rest refl
data_line Cmp c s rn rd rest = compare_line Cmp c rn rd rest refl
data_line Cmn c s rn rd rest = compare_line Cmn c rn rd rest refl
data_line Mov c s rn rd rest = move_line Mov c s rd rest
data_line Mvn c s rn rd rest = move_line Mvn c s rd rest
data_line op c s rn rd rest = three_line op c s rn rd rest

-- ## Transfers

digits_named : (k n : ℕ) (acc : List ℕ) → list_all is_name acc ≡ true → list_all is_name (digits_onto k 10 false n acc) ≡ true
digits_named zero n acc h = h
digits_named (suc k) n acc h =
    let glyph : is_name (digit_glyph false (n % 10)) ≡ true = grind (arith, nat_tests) in
    let more : list_all is_name (digit_glyph false (n % 10) ∷ acc) ≡ true = rw (glyph, h) refl in
    named_by (n / 10 == 0) (digit_glyph false (n % 10) ∷ acc) (digits_onto k 10 false (n / 10) (digit_glyph false (n % 10) ∷ acc)) more
    (digits_named k (n / 10) (digit_glyph false (n % 10) ∷ acc) more)
  where
    named_by : (b : Bool) (xs ys : List ℕ) → list_all is_name xs ≡ true → list_all is_name ys ≡ true → list_all is_name (cond b xs ys) ≡ true
    named_by true xs ys p q = p
    named_by false xs ys p q = q

register_named : (r : Register) → list_all is_name (register_text r) ≡ true
unfolding digits
register_named r = all_append is_name (codes "R") (decimal (register_number r)) refl (digits_named 64 (register_number r) [] refl)

bracketed : (d : Register) (more : List ℕ) → pieces (register_text d ++ (codes ",[" ++ more)) ≡ Run (register_text d) ∷ Comma ∷ Sign OpenBracket ∷ pieces more
bracketed d more =
    pieces-run (register_text d) (codes ",[" ++ more) (register_named d) (omega (arith, length-append (codes "R") (decimal (register_number d)))) (first_no_run (codes ",[" ++ more) refl)
    ∙ ap (λ (ps : List Piece). Run (register_text d) ∷ ps) (comma_step (91 ∷ more) ∙ ap (λ (ps : List Piece). Comma ∷ without_gap ps) (sign_step 91 more refl refl refl))

single_line : (load : Bool) (c : Cond) (s : Suffix) (d : Register) (more : List ℕ) → may_have (head.Single load) s ≡ true
    → Plain (word_text (head_name (head.Single load)) c (suffix_name s) ++ (register_text d ++ (codes ",[" ++ more)))
single_line load c s d more may =
    let said = plain_said_by (head.Single load) c s (register_text d ++ (codes ",[" ++ more)) may in
    ap plain_of (said ∙ ap (λ (ps : List Piece). with_label None (after_word (word.Plain (head.Single load) c s) (gap_before ps))) (bracketed d more))
    ∙ label_plain _ (bad_plain (single_said c load s (Run (register_text d) ∷ Comma ∷ Sign OpenBracket ∷ pieces more)) (single_by c load s (pieces more) (register_of (register_text d))))

loaded_line : (load byte user : Bool) (c : Cond) (d : Register) (more : List ℕ) → Plain (word_text (load_name load) c (transfer_suffix byte user) ++ (register_text d ++ (codes ",[" ++ more)))
loaded_line true false false c d more = single_line true c suffix.Bare d more refl
loaded_line true true false c d more = single_line true c suffix.B d more refl
loaded_line true false true c d more = single_line true c suffix.T d more refl
loaded_line true true true c d more = single_line true c suffix.Bt d more refl
loaded_line false false false c d more = single_line false c suffix.Bare d more refl
loaded_line false true false c d more = single_line false c suffix.B d more refl
loaded_line false false true c d more = single_line false c suffix.T d more refl
loaded_line false true true c d more = single_line false c suffix.Bt d more refl

transfer_line : (c : Cond) (load byte user : Bool) (rd rn : Register) (rest : List ℕ) → Plain (transfer_front c load byte user rd rn ++ rest)
transfer_line c load byte user rd rn rest =
    let whole = word_text (load_name load) c (transfer_suffix byte user) in
    let operands = append_assoc (register_text rd) (codes ",[" ++ register_text rn) rest ∙ ap (λ (l : List ℕ). register_text rd ++ l) (append_assoc (codes ",[") (register_text rn) rest) in
    joined whole (register_text rd ++ (codes ",[" ++ register_text rn)) rest
    (subst (λ (l : List ℕ). Plain (whole ++ l)) (sym operands) (loaded_line load byte user c rd (register_text rn ++ rest)))

-- ## The others

block_line : (load before up : Bool) (c : Cond) (rest : List ℕ) → Plain (word_text (block_name load) c (block_suffix before up) ++ rest)
block_line true false true c rest = coded_line (head.Block true) c suffix.Ia rest refl refl
block_line true true true c rest = coded_line (head.Block true) c suffix.Ib rest refl refl
block_line true false false c rest = coded_line (head.Block true) c suffix.Da rest refl refl
block_line true true false c rest = coded_line (head.Block true) c suffix.Db rest refl refl
block_line false false true c rest = coded_line (head.Block false) c suffix.Ia rest refl refl
block_line false true true c rest = coded_line (head.Block false) c suffix.Ib rest refl refl
block_line false false false c rest = coded_line (head.Block false) c suffix.Da rest refl refl
block_line false true false c rest = coded_line (head.Block false) c suffix.Db rest refl refl

branch_lettered : (link : Bool) → (Lettered (branch_name link)) × (0 < length (branch_name link))
branch_lettered true = (refl, omega arith)
branch_lettered false = (refl, omega arith)

branch_line : (link : Bool) (c : Cond) (rest : List ℕ) → Plain (word_text (branch_name link) c [] ++ rest)
branch_line link c rest =
    let text = branch_name link ++ (cond_text c ++ []) in
    let letters = all_append is_letter (branch_name link) (cond_text c ++ []) (branch_lettered link).0 (all_append is_letter (cond_text c) [] (cond_lettered c) refl) in
    let is = word_again text (word.Branch link c) (cond_text c, cond_is c, ap (λ (l : List ℕ). branch_name link ++ l) (append-nil (cond_text c))) in
    ap plain_of (ap (λ (l : List ℕ). parsed_after_blank (pieces l)) (word_split (branch_name link) (cond_text c) [] rest)
    ∙ word_said text rest (word.Branch link c) letters (omega (arith, (branch_lettered link).1, length-append (branch_name link) (cond_text c ++ []))) is)
    ∙ label_plain (after_word (word.Branch link c) (gap_before (pieces rest))) (after_word_plain (word.Branch link c) (gap_before (pieces rest)) (λ ps. branch_plain c link (only_target ps)))

multiplied : (b : Bool) (xs ys : List ℕ) → Plain xs → Plain ys → Plain (cond b xs ys)
multiplied true xs ys h k = h
multiplied false xs ys h k = k

operation_line : (c : Cond) (o : Operation) (at : ℕ) → Plain (operation_text c o at)
unfolding pieces
operation_line c (operation.Multiply x) at =
    multiplied x.accumulate _ _
    (flagged_line (head.Multiply true) c x.sets_flags (factors_text x ++ comma_register x.rn) refl refl refl)
    (flagged_line (head.Multiply false) c x.sets_flags (factors_text x) refl refl refl)
operation_line c (operation.DataRegister x) at = data_line x.opcode c x.sets_flags x.rn x.rd _
operation_line c (operation.DataRegisterShift x) at = data_line x.opcode c x.sets_flags x.rn x.rd _
operation_line c (operation.DataImmediate x) at = data_line x.opcode c x.sets_flags x.rn x.rd _
operation_line c (operation.SingleImmediate x) at = transfer_line c x.load x.byte (asks_for_user x.before x.write_back) x.rd x.rn _
operation_line c (operation.SingleRegister x) at = transfer_line c x.load x.byte (asks_for_user x.before x.write_back) x.rd x.rn _
operation_line c (operation.Block x) at = block_line x.load x.before x.up c _
operation_line c (operation.Branch x) at = branch_line x.link c _
operation_line c (operation.Swi x) at = coded_line head.Swi c suffix.Bare (decimal x.comment) refl refl
operation_line c _ at = refl

-- ## What assembles to the word is an instruction or a branch

branch_back : (u : Use) (r : Result ℕ LineFault) (w : ℕ) → is_branch u ≡ true → r ≡ Ok w → target_word u r ≡ Some w
branch_back (use_of.Branch link) r w h e = ap (target_word (use_of.Branch link)) e
branch_back (use_of.Adr d) r w h e = absurd cc
branch_back (use_of.Transfer load byte d) r w h e = absurd cc

says_back : (text : List ℕ) (at w : ℕ) (s : Said) → plainly s ≡ true → line_of (32 ∷ text) ≡ Ok (record { label = None; said = Some s }) → Says s at w → AssemblesBack text at w
says_back text at w (Codes c) h line says = (shown.Code c, line, ap result_ok says)
says_back text at w (Refers r (Number n)) h line says = (shown.Refer r n, line, branch_back r.how (encoded (refer r at n) at) w h says)
says_back text at w (Refers r (Label d)) h line says = absurd says
says_back text at w (Orgs n) h line says = absurd says
says_back text at w (Lists vs) h line says = absurd cc

pub spelling_back : (i : Instr) (at w : ℕ) → is_shown_text (spelling i at) ≡ true → AssemblesTo (spelling i at) at w → AssemblesBack (spelling i at) at w
spelling_back i at w may (s, line, says) =
    let plain : plainly s ≡ true = ap plain_of (sym (blank_line (spelling i at) (record { label = None; said = Some s }) may line)) ∙ operation_line i.cond i.operation at in
    says_back (spelling i at) at w s plain line says
